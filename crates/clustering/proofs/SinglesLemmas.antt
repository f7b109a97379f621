-- The kept jobs in their order: none comes twice, and they are no more than all jobs.
use Rattle.std.proofs.Common.{◌≡◌, ℕ, ◌≤◌, ◌||◌, Bool, true, false, eqb, List, [], ◌∷◌, length, refl, sym, ap, subst, ◌∙◌, arith}
use Rattle.std.specs.List.{AllByRecursion, IsDistinct, list_any}
use Rattle.std.proofs.lemmas.List.{length-map}
use Rattle.std.proofs.lemmas.Map.Steps.{length-le_from_distinct_below}
use Rattle.values.specs.declared.numbers.JobId.{JobId}
use Rattle.dependency_graph.specs.Edges.{is_among}
use Rattle.dependency_graph.specs.Ranking.{HasNoRepeats, IsRanked}
use Rattle.dependency_graph.proofs.TestLemmas.{or_left, by_bool}
use Rattle.dependency_graph.specs.Graph.{numbers as job_numbers}

-- equality of numbers, either way round
turned : (a b : ℕ) → eqb a b ≡ eqb b a
turned a b = grind arith

pub any_turned : (q : ℕ) (xs : List ℕ) → list_any (eqb q) xs ≡ is_among q xs
any_turned q [] = refl
any_turned q (x ∷ xs) = ap (λ (b : Bool). b || list_any (eqb q) xs) (turned q x) ∙ ap (λ (b : Bool). eqb x q || b) (any_turned q xs)

no_other : (x : ℕ) (xs : List ℕ) → is_among x xs ≡ false → AllByRecursion (λ (y : ℕ). eqb x y ≡ false) xs
no_other x [] h = tt
no_other x (y ∷ ys) h = by_bool (eqb y x)
    (λ e. absurd (let k = or_left (eqb y x) (is_among x ys) e in let g : false ≡ true = sym h ∙ k in cc))
    (λ e. (turned x y ∙ e, no_other x ys (ap (λ (b : Bool). b || is_among x ys) (sym e) ∙ h)))

pub distinct : (xs : List ℕ) → HasNoRepeats xs → IsDistinct eqb xs
unfolding IsDistinct
distinct [] h = tt
distinct (x ∷ xs) h = (no_other x xs h.0, distinct xs h.1)

-- they are no more than there are jobs
pub ranked_few : (kept : List Bool) (levels : List ℕ) (js : List JobId) → IsRanked kept levels (job_numbers js) → length js ≤ length kept
ranked_few kept levels js ranked = subst (λ (n : ℕ). n ≤ length kept) (length-map js (λ (j : JobId). j.0)) few
  where
    few : length (job_numbers js) ≤ length kept
    few = length-le_from_distinct_below (job_numbers js) (length kept) (distinct (job_numbers js) ranked.once) (λ q h. ranked.below q (sym (any_turned q (job_numbers js)) ∙ h))
