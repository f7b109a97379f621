use Rattle.std.proofs.Common.{◌≡◌, ℕ, ◌<◌, true, [], get_or}
use Rattle.rehearsal.specs.Registered.{is_free}
use Rattle.rehearsal.proofs.registered.are_free.Given as goal

abbrev pub invariant-loop-number : goal.invariant-loop-number
invariant-loop-number l =
    (f : ℕ) → f < l.number → is_free l.workflow l.replicas f (get_or l.workflow.files f []) ≡ true
