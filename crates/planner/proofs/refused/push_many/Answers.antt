use Rattle.std.proofs.Common.{◌≡◌, List, ℕ, ◌++◌, subst}
use Rattle.std.specs.Prelude.{OnOk, codes}
use Rattle.planner.specs.code.Refused.{and_number, and_word}
use Rattle.planner.proofs.RefusedLemmas.{three_words}
use Rattle.planner.proofs.refused.push_many.Goals as goal

pub returns : goal.returns
returns c =
    let same = three_words (codes "refused many") (and_word c.args.what.now) (and_number c.args.count) (and_number c.args.limit) (codes "\n") in
    subst (λ (line : List ℕ). OnOk c.push_line.result (c.push_line.new.text.items ≡ c.args.text.now.items ++ line)) same c.push_line.ensures
