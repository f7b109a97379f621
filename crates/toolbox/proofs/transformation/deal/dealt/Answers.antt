use Rattle.std.proofs.Common.{List, ℕ, Bor, ap, ◌∙◌}
use Rattle.toolbox.specs.Lines.{bytes_of, written}
use Rattle.toolbox.specs.Transformation.Deal.{hand}
use Rattle.toolbox.proofs.DealLemmas.{dealt_is}
use Rattle.toolbox.proofs.transformation.deal.dealt.Goals as goal

pub returns : goal.returns
returns c =
    dealt_is c.args.input.now c.args.outs c.in_ok-texts.texts.items _ c.requires c.in_ok-texts.ensures.long
    (λ j low. c.in_ok-texts.ensures.dealt j low ∙ ap (λ (ls : List (Bor (List ℕ))). written (hand c.args.outs j 0 (bytes_of ls))) c.deref.ensures.value ∙ ap (λ (ls : List (List ℕ)). written (hand c.args.outs j 0 ls)) c.in_ok-lines.ensures)
    c.in_ok-outputs.ensures
