-- Beside `specs/Faults.antt`: what the code's own contracts say.
use Rattle.std.specs.Prelude.{◌≡◌, ℕ, ◌≤◌, ◌<◌, true, false, List, Option, Some, None, is_some}
use Rattle.values.specs.Apply.{Apply}
use Rattle.plan_core.specs.declared.plan.Plan.{Plan}
use Rattle.plan_core.specs.Carried.{Bytes, carried}
use Rattle.plan_core.specs.code.Kinds.{carries}
use Rattle.plan_core.specs.Words.{declared, is_transfer, kind}
use Rattle.plan_core.specs.code.Declined.{declined}
use Rattle.storage_simulation.specs.Goods.{or_zero}
use Rattle.run_record.specs.Events.{Event}
use Rattle.run_record.specs.declared.run_fault.RunFault.{RunFault}
use Rattle.run_record.specs.declared.run_fault.RunFault.TheVariants.{ToolFailed, HostFailed, Memory}
use Rattle.site_yard.specs.code.Changes.{moved}
use Rattle.site_yard.specs.code.Failures.{host_faults, tool_faults}
use Rattle.site_yard.specs.code.Truthful.{HasChecksum, is_over}

-- What tasks carry over the bytes at pfns: no job of a Run declines; what a Transfer moves is there; no file that is
-- carried is longer than declared; and what comes from a pfn has the checksum that is registered.
pub record AllCarried (apply : Apply) (told : Bytes → Option Bytes) (p : Plan) : Type 0 where
  pub none_declines : (t : ℕ) → declined apply p (carried apply told p) t ≡ None
  pub moved_there : (t : ℕ) → is_transfer p t ≡ true
      → is_some (moved (carried apply told p t) (kind p t)) ≡ true
  pub within : (t f : ℕ) → carries p t f ≡ true
      → is_over (or_zero (declared p f)) (carried apply told p t f) ≡ false
  pub sums : (t : ℕ) → HasChecksum p (carried apply told p t) (kind p t)

-- a failure of the tool of a worker below n was counted
abbrev pub HasToolFault : ℕ → List Event → Type 0
HasToolFault n r = (w : ℕ) × (w < n) × (1 ≤ tool_faults w r)

-- The fault is a failure of the host at a task, which was counted, or of a tool, of which this holds, or want of memory.
abbrev pub IsCountedFault : Type 0 → List Event → RunFault → Type 0
IsCountedFault Tool r (HostFailed (Some t)) = 1 ≤ host_faults r
IsCountedFault Tool r (ToolFailed id) = Tool
IsCountedFault Tool r Memory = Unit {0}
IsCountedFault Tool r _ = ⊥
