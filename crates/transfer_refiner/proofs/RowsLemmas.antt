-- Rows of a graph rise.
use Rattle.std.proofs.Common.{◌≡◌, ℕ, suc, ◌<◌, Bool, List, [], ◌∷◌, sym, arith, subst}
use Rattle.std.proofs.lemmas.List.Elements.{All-head}
use Rattle.digraph.specs.Adjacency.{neighbours, IsRising, AreNeighbours}
use Rattle.plan_core.specs.code.Numbers.{RisesFrom}

after_first : (n : ℕ) (ns : List ℕ) → IsRising (n ∷ ns) → RisesFrom (suc n) ns
after_first n [] h = tt
after_first n (m ∷ ms) h = ((let l : n < m = All-head (λ (k : ℕ). n < k) m ms h.0 in omega arith), after_first m ms h.1)

rises : (ns : List ℕ) → IsRising ns → RisesFrom 0 ns
rises [] h = tt
rises (n ∷ ns) h = (omega arith, after_first n ns h)

pub row_rises : (e : ℕ → ℕ → Bool) (n : ℕ) (ls : List (List ℕ)) (k : ℕ) (xs : List ℕ) → AreNeighbours e n ls → xs ≡ neighbours ls k → RisesFrom 0 xs
row_rises e n ls k xs are is = subst (RisesFrom 0) (sym is) (rises (neighbours ls k) (are.rising k))
