use Rattle.std.proofs.Common.{◌≡◌, ℕ, ◌-◌, List, ◌++◌, length, take, ap, subst, ◌∙◌}
use Rattle.std.specs.Prelude.{OnOk, codes}
use Rattle.pegasus_cli.specs.code.EnsembleLine.{member_front}
use Rattle.pegasus_cli.proofs.EnsembleLineLemmas.{open_line}
use Rattle.pegasus_cli.proofs.ensemble_line.push_front.Goals as goal

pub returns : goal.returns
returns c =
    let front = member_front c.args.name.now in
    let is : c.deref.result.now ≡ front ++ codes "\n" = c.deref.ensures.value ∙ c.in_ok-push_name.ensures ∙ ap (λ (xs : List ℕ). xs ++ (front ++ codes "\n")) c.new-line.ensures.items in
    let same : take (length c.deref.result.now - 1) c.deref.result.now ≡ front = ap (λ (line : List ℕ). take (length line - 1) line) is ∙ open_line front in
    subst (λ (z : List ℕ). OnOk c.push_open.result (c.push_open.new.text.items ≡ c.args.text.now.items ++ z)) same c.push_open.ensures
