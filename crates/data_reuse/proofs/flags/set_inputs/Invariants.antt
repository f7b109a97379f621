use Rattle.std.proofs.Common.{◌≡◌, ◌||◌, ℕ, length, drop, nat_eq}
use Rattle.std.specs.List.{list_any}
use Rattle.values.specs.declared.numbers.FileId.{FileId}
use Rattle.data_reuse.specs.code.Flags.{is_set, reads}
use Rattle.data_reuse.proofs.flags.set_inputs.Given as goal

abbrev pub invariant-loop-file : goal.invariant-loop-file
invariant-loop-file l = (length l.flags.items ≡ length l.fn.flags.items) × ((f : ℕ) → (list_any (λ (g : FileId). nat_eq g.0 f) (drop l.file-index l.file-items) || is_set l.flags.items f) ≡ (reads f l.fn.job || is_set l.fn.flags.items f))
