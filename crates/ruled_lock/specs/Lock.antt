-- What contracts say of a lock.
use Rattle.std.specs.Prelude.{◌≡◌, ℕ}
use Rattle.ruled_lock.specs.declared.pass.Pass.{Pass}
use Rattle.ruled_lock.specs.declared.lock.RuledLock.{RuledLock}

module _ {C G I : Type 0} where
  -- how many passes there may be
  abbrev pub workers_of : RuledLock C G I → ℕ
  workers_of lock = lock.workers

  -- the pass is of this lock
  abbrev pub IsOf : {g : _} → RuledLock C G I → Pass C G I g → Type 0
  IsOf lock p = p.seat.table_id ≡ lock.table.shared.table_id
