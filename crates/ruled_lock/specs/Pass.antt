-- What contracts say of a pass.
use Rattle.std.specs.Prelude.{◌≡◌, ℕ, ◌+◌, List, [], ◌∷◌, length, Option, true, false}
use Rattle.ruled_lock.specs.declared.pass.Pass.{Pass}
use Rattle.ruled_lock.specs.View.{taken_at}

module _ {C G I : Type 0} {g : _} where
  -- its number
  abbrev pub worker_of : Pass C G I g → ℕ
  worker_of p = p.seat.me.0.worker

  -- the charter of the lock's value
  abbrev pub charter_of : Pass C G I g → Option G
  charter_of p = p.seat.me.0.charter

  -- a beginning of the journal, as the pass last saw it when it gave the value back
  abbrev pub seen_of : Pass C G I g → List I
  seen_of p = p.seat.me.0.seen

  -- the items that were added by its own number, in order
  abbrev pub mine_of : Pass C G I g → List I
  mine_of p = p.seat.me.0.mine

  -- how many passes were made, or 0 where another pass holds the count
  abbrev pub count_of : Pass C G I g → ℕ
  count_of p = p.seat.me.0.count

  -- the number and the items of each pass that was joined into it
  abbrev pub joined_of : Pass C G I g → List (ℕ × List I)
  joined_of p = p.seat.me.0.joined

  -- these, after its own
  abbrev pub lists_of : Pass C G I g → List (ℕ × List I)
  lists_of p = (worker_of p, mine_of p) ∷ joined_of p

  abbrev pub IsIdle : Pass C G I g → Type 0
  IsIdle p = p.holds ≡ false

  abbrev pub HoldsTurn : Pass C G I g → Type 0
  HoldsTurn p = p.holds ≡ true

  -- the journal of the value that it took, while it holds the turn
  abbrev pub taken_of : Pass C G I g → List I
  taken_of p = taken_at p.seat.me.0.stage

  -- it holds the count, and all other passes were joined into it
  abbrev pub IsWhole : Pass C G I g → Type 0
  IsWhole p = count_of p ≡ length (joined_of p) + 1

  -- q is p later on: it has the number, the charter, the count and the joined passes that it had
  pub record IsSamePass (p q : Pass C G I g) : Type 0 where
    pub worker : worker_of q ≡ worker_of p
    pub charter : charter_of q ≡ charter_of p
    pub count : count_of q ≡ count_of p
    pub joined : joined_of q ≡ joined_of p

  -- a pass that has added nothing and joined none
  pub record IsNewPass (worker : ℕ) (charter : Option G) (seen : List I) (count : ℕ)
      (p : Pass C G I g) : Type 0 where
    pub number : worker_of p ≡ worker
    pub charter_is : charter_of p ≡ charter
    pub seen_is : seen_of p ≡ seen
    pub mine : mine_of p ≡ []
    pub count_is : count_of p ≡ count
    pub joined : joined_of p ≡ []
    pub idle : IsIdle p
