-- What a task more changes at its place, and that it changes nothing elsewhere.
use Rattle.std.proofs.Common.{◌≡◌, ℕ, ◌+◌, ◌<◌, ◌≤◌, Bool, true, false, cond, nat_eq, eqb-true, List, [], ◌∷◌, ◌++◌, length, length-append, take, get_or, refl, sym, ap, subst, ◌∙◌, arith}
use Rattle.std.specs.Prelude.{Option, Some, None}
use Rattle.std.proofs.lemmas.List.{take_all}
use Rattle.std.proofs.Math.Seq.{get_or-append_seam, take-append_seam}
use Rattle.plan_core.specs.declared.plan.Plan.{Plan}
use Rattle.plan_core.specs.Numbers.{has}
use Rattle.plan_core.specs.Words.{cleans, count_tasks}
use Rattle.storage_simulation.specs.code.Front.{IsOrderable}
use Rattle.storage_simulation.specs.code.Change.{cleaned_part, held_part, size_part}
use Rattle.storage_simulation.specs.code.Following.{Follows}
use Rattle.storage_simulation.specs.Goods.{goods, lies_at, makes, place_bound, places}
use Rattle.storage_simulation.specs.code.Goods.{place}
use Rattle.storage_simulation.specs.code.Law.{KeepsGoods}
use Rattle.storage_simulation.specs.Ordering.{Progress, size}
use Rattle.storage_simulation.specs.code.Ordering.{IsOpen, IsFitting, AreSteps}
use Rattle.storage_simulation.specs.Standings.{waits}
use Rattle.storage_simulation.specs.Usage.{usage_of_good as part, sum_of, usage, weight, IsWithin}
use Rattle.storage_simulation.proofs.ChangeLemmas.{cleaning, making, other_part}
use Rattle.storage_simulation.proofs.DeterminedLemmas.{step_opens}
use Rattle.storage_simulation.proofs.FollowingLemmas.{by_bool, false_of, once_of, place_of, ready_of}
use Rattle.storage_simulation.proofs.StepsLemmas.{each_more, not_placed, still_waits}
use Rattle.storage_simulation.proofs.SumsLemmas.{total_same}

-- the front and a ready task follow
follows_opens : (p : Plan) (st : Progress) (ts : List ℕ) → ((k : ℕ) → k < length ts → IsOpen p st (take k ts) (get_or ts k 0)) → Follows p st.phase ts
follows_opens p st ts opens = record {
  tasks = λ t m. let at = place_of ts t m in subst (λ (x : ℕ). x < count_tasks p) at.2 (opens at.0 at.1).in_range;
  waiting = λ t m. let at = place_of ts t m in subst (λ (x : ℕ). waits (st.phase x) ≡ true) at.2 (still_waits st (take at.0 ts) (get_or ts at.0 0) (opens at.0 at.1).waits);
  once = once_of ts (λ k l. not_placed st (take k ts) (get_or ts k 0) (opens k l).waits);
  ready = λ k l. ready_of p st.phase (take k ts) (get_or ts k 0) (opens k l).ready;
}

follows_next : (p : Plan) (st : Progress) (front : List ℕ) (t : ℕ) → AreSteps p st front → IsOpen p st front t → Follows p st.phase (front ++ t ∷ [])
follows_next p st front t steps opens = follows_opens p st (front ++ t ∷ []) (each_more (IsOpen p st) front t (λ k l. step_opens p st (take k front) (get_or front k 0) (steps k l)) opens)

last_is : (front : List ℕ) (t : ℕ) → get_or (front ++ t ∷ []) (length front) 0 ≡ t
last_is front t = get_or-append_seam front t [] 0

front_is : (front : List ℕ) (t : ℕ) → take (length front) (front ++ t ∷ []) ≡ front
front_is front t = take-append_seam front (t ∷ [])

all_is : (front : List ℕ) (t : ℕ) → take (length front + 1) (front ++ t ∷ []) ≡ front ++ t ∷ []
all_is front t = let long = length-append front (t ∷ []) in take_all (length front + 1) (front ++ t ∷ []) (omega (arith, long))

shorter : (front : List ℕ) (t : ℕ) → length front < length (front ++ t ∷ [])
shorter front t = let long = length-append front (t ∷ []) in omega (arith, long)

abbrev pub MakingNext : Plan → Progress → List ℕ → ℕ → ℕ → Type 0
MakingNext p st front t s =
    (usage p (size st) (front ++ t ∷ []) s + sum_of (held_part p (size st) s) (makes p t) ≡ usage p (size st) front s + sum_of (size_part p s) (makes p t))
    × (sum_of (held_part p (size st) s) (makes p t) ≤ usage p (size st) front s)
    × (sum_of (size_part p s) (makes p t) ≤ usage p (size st) (front ++ t ∷ []) s)

pub making_next : (p : Plan) (st : Progress) (front : List ℕ) (t s : ℕ) → KeepsGoods p → AreSteps p st front → IsOpen p st front t → s < places p → ((g : ℕ) → cleans p t g ≡ false) → MakingNext p st front t s
making_next p st front t s keeps steps opens l off =
    let is = making p st.phase (size st) (front ++ t ∷ []) (length front) s keeps (follows_next p st front t steps opens) (shorter front t) l (λ g. ap (λ (x : ℕ). cleans p x g) (last_is front t) ∙ off g) in
    let same = ap (λ (xs : List ℕ). usage p (size st) xs s) (front_is front t) in
    let more = ap (λ (xs : List ℕ). usage p (size st) xs s) (all_is front t) in
    let held = ap (λ (x : ℕ). sum_of (held_part p (size st) s) (makes p x)) (last_is front t) in
    let sizes = ap (λ (x : ℕ). sum_of (size_part p s) (makes p x)) (last_is front t) in
    (omega (arith, is.0, same, more, held, sizes), omega (arith, is.1, same, held), omega (arith, is.2, more, sizes))

pub cleaning_next : (p : Plan) (st : Progress) (front : List ℕ) (t s g : ℕ) → KeepsGoods p → AreSteps p st front → IsOpen p st front t → s < places p → ((h : ℕ) → cleans p t h ≡ nat_eq g h)
    → usage p (size st) (front ++ t ∷ []) s + cleaned_part p st.phase (size st) t s g ≡ usage p (size st) front s
cleaning_next p st front t s g keeps steps opens l mine =
    let is = cleaning p st.phase (size st) (front ++ t ∷ []) (length front) s g keeps (follows_next p st front t steps opens) (shorter front t) l (λ h. ap (λ (x : ℕ). cleans p x h) (last_is front t) ∙ mine h) in
    let same = ap (λ (xs : List ℕ). usage p (size st) xs s) (front_is front t) in
    let more = ap (λ (xs : List ℕ). usage p (size st) xs s) (all_is front t) in
    let part = ap (λ (x : ℕ). cleaned_part p st.phase (size st) x s g) (last_is front t) in
    omega (arith, is, same, more, part)

-- elsewhere usage stays
pub usage_elsewhere : (p : Plan) (size : ℕ → ℕ) (front : List ℕ) (t s : ℕ) → IsOrderable p → s < places p → (place p t ≡ Some s → ⊥) → usage p size (front ++ t ∷ []) s ≡ usage p size front s
usage_elsewhere p size front t s able l off = total_same (part p size (front ++ t ∷ []) s) (part p size front s) (goods p) (λ g m. by_bool (lies_at p g s)
    (λ at. sym (other_part p size front t s g (false_of (cleans p t g) (λ h. off (able.cleans_there t g s l h at))) (false_of (has (makes p t) g) (λ h. off (able.makes_there t g s l h at)))))
    (λ no. ap (λ (b : Bool). cond b (weight p size (front ++ t ∷ []) g) 0) no ∙ sym (ap (λ (b : Bool). cond b (weight p size front g) 0) no)))

pub some_one : (a b : ℕ) → Some a ≡ Some b → a ≡ b
some_one a b e = cc

pub fitting_at : (p : Plan) (st : Progress) (front : List ℕ) (t : ℕ) → IsOrderable p → IsWithin p (size st) front → ((s : ℕ) → place p t ≡ Some s → usage p (size st) (front ++ t ∷ []) s ≤ place_bound p s) → IsFitting p st front t
fitting_at p st front t able within here s l = by_place (place p t) refl
  where
    by_place : (o : Option ℕ) → place p t ≡ o → usage p (size st) (front ++ t ∷ []) s ≤ place_bound p s
    by_place None e = let same = usage_elsewhere p (size st) front t s able l (λ x. absurd (let k = sym e ∙ x in cc)) in omega (arith, same, within s l)
    by_place (Some r) e = by_bool (nat_eq r s)
        (λ q. here s (e ∙ ap (λ (x : ℕ). Some x) (eqb-true r s q)))
        (λ q. let same = usage_elsewhere p (size st) front t s able l (λ x. absurd (let k : r ≡ s = some_one r s (sym e ∙ x) in let no : nat_eq r s ≡ true = grind (arith, k) in cc)) in omega (arith, same, within s l))

pub fits_here : (p : Plan) (st : Progress) (front : List ℕ) (t s n : ℕ) → IsOrderable p → IsWithin p (size st) front → place p t ≡ Some s → usage p (size st) (front ++ t ∷ []) s ≤ place_bound p s → IsFitting p st front t
fits_here p st front t s n able within at less = fitting_at p st front t able within (λ r e.
    subst (λ (x : ℕ). usage p (size st) (front ++ t ∷ []) x ≤ place_bound p x) (some_one s r (sym at ∙ e)) less)

pub fits_nowhere : (p : Plan) (st : Progress) (front : List ℕ) (t : ℕ) → IsOrderable p → IsWithin p (size st) front → place p t ≡ None → IsFitting p st front t
fits_nowhere p st front t able within at = fitting_at p st front t able within (λ r e. absurd (let k = sym at ∙ e in cc))
