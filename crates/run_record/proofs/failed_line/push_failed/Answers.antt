use Rattle.std.proofs.Common.{◌≡◌, List, ℕ, ◌++◌, subst}
use Rattle.std.specs.Prelude.{OnOk, codes}
use Rattle.values.specs.Printed.{printed_name}
use Rattle.run_record.proofs.FailedLineLemmas.{two_words}
use Rattle.run_record.proofs.failed_line.push_failed.Goals as goal

pub returns-in-PairAbsent : goal.returns-in-PairAbsent
returns-in-PairAbsent c =
    let written = rw (c.as_bytes-in-PairAbsent.ensures, c.as_bytes-in-PairAbsent-2.ensures) at c.push_line-in-PairAbsent.ensures in
    let same = two_words (codes "failed pair") (codes " ") (printed_name c.in-PairAbsent.site) (printed_name c.in-PairAbsent.lfn) (codes "\n") in
    rw c.in-PairAbsent.is (subst (λ (line : List ℕ). OnOk c.push_line-in-PairAbsent.result (c.push_line-in-PairAbsent.new.text.items ≡ c.args.text.now.items ++ line)) same written)
