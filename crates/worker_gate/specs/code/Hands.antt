-- Workers' passes, each with what the worker works with.
use Rattle.std.specs.Prelude.{◌≡◌, ℕ, zero, suc, ◌<◌, List, [], length, map, get_or, Option}
use mathlib.Core.List.{IsPrefix}
use Rattle.ruled_lock.specs.declared.pass.Pass.{Pass}
use Rattle.ruled_lock.specs.declared.lock.RuledLock.{RuledLock}
use Rattle.ruled_lock.specs.Lock.{IsOf}
use Rattle.ruled_lock.specs.Pass.{IsIdle, IsNewPass, IsWhole, charter_of, count_of, joined_of, lists_of, mine_of, seen_of, worker_of}
use Rattle.worker_gate.specs.declared.hands.Hand.{Hand}

-- of n passes the first holds the count
abbrev pub count_at : ℕ → ℕ → ℕ
count_at n zero = n
count_at n (suc k) = 0

module _ {C G I : Type 0} {g : _} where
  -- a new pass of the lock
  pub record IsDealt (lock : RuledLock C G I) (charter : Option G) (seen : List I) (k count : ℕ)
      (p : Pass C G I g) : Type 0 where
    pub of : IsOf lock p
    pub new : IsNewPass k charter seen count p

  -- a pass of the lock between two turns, into which none was joined
  pub record IsReady (lock : RuledLock C G I) (count : ℕ) (p : Pass C G I g) : Type 0 where
    pub of : IsOf lock p
    pub idle : IsIdle p
    pub count_is : count_of p ≡ count
    pub joined : joined_of p ≡ []

module _ {C M G I : Type 0} {g : _} where
  abbrev pub member_of : Hand C M G I g → M
  member_of h = h.member

  -- a worker's number with its own items
  abbrev pub own_list : Hand C M G I g → ℕ × List I
  own_list h = (worker_of h.pass, mine_of h.pass)

  -- new passes with the numbers from 0, of which the first holds the count; those after the first
  abbrev pub AreDealt : RuledLock C G I → Option G → List I → ℕ → List (Hand C M G I g) → Type 0
  AreDealt lock charter seen n hs = (k : ℕ) (d : Hand C M G I g) → k < length hs
      → IsDealt lock charter seen k (count_at n k) (get_or hs k d).pass

  abbrev pub AreOthers : RuledLock C G I → Option G → List I → List (Hand C M G I g) → Type 0
  AreOthers lock charter seen hs = (k : ℕ) (d : Hand C M G I g) → k < length hs
      → IsDealt lock charter seen (suc k) 0 (get_or hs k d).pass

  abbrev pub AreReady : RuledLock C G I → List (Hand C M G I g) → Type 0
  AreReady lock hs = (k : ℕ) (d : Hand C M G I g) → k < length hs
      → IsReady lock (count_at (length hs) k) (get_or hs k d).pass

  abbrev pub AreReadyToJoin : RuledLock C G I → List (Hand C M G I g) → Type 0
  AreReadyToJoin lock hs = (k : ℕ) (d : Hand C M G I g) → k < length hs → IsReady lock 0 (get_or hs k d).pass

  -- what each hand's pass has seen is a beginning of what this one has
  abbrev pub AreSeenBy : List (Hand C M G I g) → Pass C G I g → Type 0
  AreSeenBy hs p = (k : ℕ) (d : Hand C M G I g) → k < length hs
      → IsPrefix (seen_of (get_or hs k d).pass) (seen_of p)

  -- the pass into which those of all hands were joined; it was the first one's
  pub record IsGathered (hs : List (Hand C M G I g)) (p : Pass C G I g) : Type 0 where
    pub lists : lists_of p ≡ map own_list hs
    pub whole : IsWhole p
    pub charter : (d : Hand C M G I g) → charter_of p ≡ charter_of (get_or hs 0 d).pass
    pub seen : AreSeenBy hs p
