use Rattle.std.proofs.Common.{◌||◌, ◌+◌, Bool, drop, sym, ap, ◌∙◌}
use Rattle.std.specs.List.{list_any}
use Rattle.run_record.specs.code.Events.{event}
use Rattle.run_record.specs.Events.{is_second}
use Rattle.run_record.proofs.RecordTextLemmas.{any_from}
use Rattle.run_record.proofs.printer.is_version_two.Goals as goal

pub returns-then-is_second : goal.returns-then-is_second
returns-then-is_second c =
    sym (any_from c.args.history.now.events c.loop-k.k (event c.entry.result) c.entry.ensures
    ∙ ap (λ (b : Bool). b || list_any is_second (drop (c.loop-k.k + 1) c.args.history.now.events)) (sym c.is_second.ensures ∙ c.if-is_second.true))
    ∙ c.loop-k.invariant

pub loop-k-preserved : goal.loop-k-preserved
loop-k-preserved c =
    sym (any_from c.args.history.now.events c.loop-k.k (event c.entry.result) c.entry.ensures
    ∙ ap (λ (b : Bool). b || list_any is_second (drop (c.loop-k.k + 1) c.args.history.now.events)) (sym c.is_second.ensures ∙ c.if-is_second.false))
    ∙ c.loop-k.invariant
