-- Checking rows one after the other.
use Rattle.std.proofs.Common.{◌≡◌, ℕ, List, [], ◌∷◌, refl}
use Rattle.std.specs.Prelude.{Option, Result, Ok, Err}
use Rattle.serde_json.specs.Data.{Data}
use Rattle.peg_json.specs.Tree.{◌>>=◌, each}
use Rattle.peg_json.specs.Table.{Row, row_member}
use Rattle.peg_json.specs.code.Table.{rows_checked}
use Rattle.peg_json.specs.declared.fault.TreeFault.{TreeFault}

-- that a reading comes to its end
abbrev done : {A : Type 0} → Result A TreeFault → Result (Unit {0}) TreeFault
done t = t >>= λ x. Ok tt

one_more : (o : Result (Option Data) TreeFault) (t : Result (List (Option Data)) TreeFault) (u : Result (Unit {0}) TreeFault) → done t ≡ u → done (o >>= λ y. t >>= λ ys. Ok (y ∷ ys)) ≡ (done o >>= λ v. u)
one_more (Ok y) (Ok ys) u h = h
one_more (Ok y) (Err e) u h = h
one_more (Err e) t u h = refl

pub rows_are_checked : (path : List ℕ) (d : Data) (rows : List Row) → done (each (row_member path d) rows) ≡ rows_checked path d rows
rows_are_checked path d [] = refl
rows_are_checked path d (r ∷ rows) = one_more (row_member path d r) (each (row_member path d) rows) (rows_checked path d rows) (rows_are_checked path d rows)
