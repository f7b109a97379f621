use Rattle.std.proofs.Common.{◌≡◌, List, ℕ, ◌++◌, subst}
use Rattle.std.specs.Prelude.{OnOk, codes}
use Rattle.run_record.specs.code.FailedLine.{spaced_name, spaced_number}
use Rattle.run_record.proofs.FailedLineLemmas.{four_words}
use Rattle.run_record.proofs.failed_line.push_oversize.Goals as goal

pub returns : goal.returns
returns c =
    let written = rw (c.as_bytes.ensures, c.as_bytes-2.ensures) at c.push_line.ensures in
    let same = four_words (codes "failed oversize") (spaced_name c.args.id.now) (spaced_name c.args.lfn.now) (spaced_number c.args.declared) (spaced_number c.args.length) (codes "\n") in
    subst (λ (line : List ℕ). OnOk c.push_line.result (c.push_line.new.text.items ≡ c.args.text.now.items ++ line)) same written
