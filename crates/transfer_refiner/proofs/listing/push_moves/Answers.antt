use Rattle.std.proofs.Common.{◌∙◌, ap, ◌++◌, List, ℕ}
use Rattle.transfer_refiner.specs.code.View.{draft_of}
use Rattle.transfer_refiner.proofs.MovingLemmas.{moves_are}
use Rattle.transfer_refiner.proofs.listing.push_moves.Goals as goal

pub returns : goal.returns
returns c = c.in_ok-push_moved.ensures ∙ ap (λ (es : List (ℕ × ℕ)). c.args.moved.now.items ++ es) (moves_are (draft_of c.args.view.now) c.args.file _ c.before-sites.result.now c.requires.draft c.requires.in_range c.home-home.ensures c.before-sites.ensures.rises (λ s. c.before-sites.ensures.same s ∙ c.requires.tables.stood s c.args.file))
