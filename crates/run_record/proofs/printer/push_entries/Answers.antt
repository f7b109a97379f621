use Rattle.std.proofs.Common.{◌++◌, ◌+◌, ℕ, List, map, drop, sym, ap, ◌∙◌, append_assoc}
use Rattle.std.specs.List.{concat}
use Rattle.run_record.specs.code.Events.{event}
use Rattle.run_record.specs.RecordText.{entry_line}
use Rattle.run_record.proofs.RecordTextLemmas.{lines_from}
use Rattle.run_record.proofs.printer.push_entries.Goals as goal

pub loop-k-preserved : goal.loop-k-preserved
loop-k-preserved c =
    let rest = concat (map entry_line (drop (c.loop-k.k + 1) c.args.history.now.events)) in
    ap (λ (l : List ℕ). l ++ rest) (rw c.in_ok-push_entry.was at c.push_entry.ensures)
    ∙ append_assoc c.loop-k.text.items (entry_line (event c.entry.result)) rest
    ∙ ap (λ (l : List ℕ). c.loop-k.text.items ++ l) (sym (lines_from c.args.history.now.events c.loop-k.k (event c.entry.result) c.entry.ensures))
    ∙ c.loop-k.invariant
