-- The graph that leads from each parent to its child.
use Rattle.std.proofs.Common.{◌≡◌, ℕ, zero, suc, ◌<◌, ◌≤◌, ◌⊎◌, inl, inr, true, List, [], ◌∷◌, length, refl, sym, ap, ◌∙◌, arith, get_or}
use Rattle.std.specs.Prelude.{Vec}
use Rattle.std.specs.List.{All}
use Rattle.std.specs.declared.alloc.Global.{Global}
use Rattle.std.proofs.lemmas.Bool.{cases_lt}
use Rattle.std.proofs.lemmas.Option.{slice_get_past}
use Rattle.std.proofs.lemmas.List.Elements.{All-from_get_or}
use Rattle.digraph.specs.Adjacency.{IsRising, neighbours}
use Rattle.digraph.specs.code.Adjacency.{lists_of}
use Rattle.plan_core.specs.declared.plan.Plan.{Plan}
use Rattle.plan_core.specs.code.Numbers.{RisesFrom}
use Rattle.plan_core.specs.Numbers.{has}
use Rattle.plan_core.specs.Words.{count_tasks, parents, parents_in}
use Rattle.storage_simulation.proofs.FollowingLemmas.{at_place, place_of}

all_low : (n : ℕ) (xs : List ℕ) → ((x : ℕ) → has xs x ≡ true → x < n) → All (λ m. m < n) xs
all_low n xs h = All-from_get_or (λ m. m < n) xs 0 (λ i l. h (get_or xs i 0) (at_place xs i l))

none_past : (vs : List (Vec ℕ Global)) (k : ℕ) → length vs ≤ k → neighbours (lists_of vs) k ≡ []
none_past [] k l = refl
none_past (v ∷ vs) zero l = absurd (omega arith)
none_past (v ∷ vs) (suc k) l = none_past vs k (omega arith)

no_parents : (p : Plan) (t : ℕ) → count_tasks p ≤ t → parents p t ≡ []
unfolding parents
no_parents p t h = ap parents_in (slice_get_past p.tasks t h)

pub all_lists : (p : Plan) (vs : List (Vec ℕ Global)) → length vs ≡ count_tasks p → ((t : ℕ) → t < count_tasks p → neighbours (lists_of vs) t ≡ parents p t) → (t : ℕ) → neighbours (lists_of vs) t ≡ parents p t
all_lists p vs long are t = by (cases_lt t (count_tasks p))
  where
    by : (t < count_tasks p) ⊎ (count_tasks p ≤ t) → neighbours (lists_of vs) t ≡ parents p t
    by (inl l) = are t l
    by (inr l) = none_past vs t (omega (arith, long, l)) ∙ sym (no_parents p t l)

pub lists_low : (p : Plan) (vs : List (Vec ℕ Global)) → length vs ≡ count_tasks p → ((t : ℕ) → neighbours (lists_of vs) t ≡ parents p t) → ((t u : ℕ) → has (parents p t) u ≡ true → u < count_tasks p) → (k : ℕ) → All (λ m. m < length vs) (neighbours (lists_of vs) k)
lists_low p vs long are low k = all_low (length vs) (neighbours (lists_of vs) k) (λ x h. let l = low k x (ap (λ (xs : List ℕ). has xs x) (sym (are k)) ∙ h) in omega (arith, long, l))

-- each number from a bound on
rises : (b : ℕ) (xs : List ℕ) → All (λ m. b ≤ m) xs → IsRising xs → RisesFrom b xs
rises b [] low rising = tt
rises b (x ∷ xs) low rising = (low 0 0 (omega arith), rises (suc x) xs (λ k d h. let l : x < get_or xs k d = rising.0 k d h in omega (arith, l)) rising.1)

pub rises_all : (xs : List ℕ) → IsRising xs → RisesFrom 0 xs
rises_all xs rising = rises 0 xs (λ k d h. omega arith) rising

pub low_has : (n : ℕ) (xs : List ℕ) → All (λ m. m < n) xs → (x : ℕ) → has xs x ≡ true → x < n
low_has n xs all x h = let at = place_of xs x h in let l = all at.0 0 at.1 in let is = at.2 in omega (arith, l, is)
