-- What is placed step by step comes once, after its parents, and keeps each bound.
use Rattle.std.proofs.Common.{◌≡◌, ℕ, zero, suc, ◌+◌, ◌<◌, ◌≤◌, ◌||◌, ◌&&◌, ◌⊎◌, inl, inr, Bool, true, false, cond, nat_eq, nat_lt, eqb-true, List, [], ◌∷◌, ◌++◌, length, length-append, take, get_or, refl, sym, ap, subst, ◌∙◌, arith}
use Rattle.std.specs.Prelude.{not, Option, Some, None}
use Rattle.std.specs.List.{list_any}
use Rattle.std.proofs.lemmas.Bool.{ltb-true, lt-ltb}
use Rattle.std.proofs.lemmas.List.{take-append-le, get_or_append_left}
use Rattle.std.proofs.lemmas.List.Folds.{list_any-append}
use Rattle.std.proofs.Math.Seq.{get_or-append_seam, take-append_seam}
use Rattle.plan_core.specs.declared.plan.Plan.{Plan}
use Rattle.plan_core.specs.declared.plan.TaskKind.{TaskKind}
use Rattle.plan_core.specs.declared.plan.TaskKind.TheVariants.{Transfer, Run, Clean}
use Rattle.plan_core.specs.Numbers.{has}
use Rattle.plan_core.specs.code.Proper.{is_parent}
use Rattle.plan_core.specs.Words.{cleans, count_tasks, is_clean, is_clean_kind, kind, kind_cleans, parents}
use Rattle.storage_simulation.specs.Goods.{good_size, goods, lies_at, makes}
use Rattle.storage_simulation.specs.Standings.{waits}
use Rattle.storage_simulation.specs.Usage.{cleaned, made, usage_of_good, usage, weight, IsWithin}
use Rattle.values.specs.Numbers.{total}
use Rattle.storage_simulation.specs.Following.{AreOnce}
use Rattle.storage_simulation.specs.Fitting.{Fits}
use Rattle.storage_simulation.specs.code.Law.{KeepsGoods}
use Rattle.storage_simulation.specs.Ordering.{Progress, size, is_done}
use Rattle.storage_simulation.specs.code.Ordering.{IsOpen, IsFitting, IsStep, AreSteps, IsOrder}
use Rattle.storage_simulation.proofs.FollowingLemmas.{both, by_bool, front_more, have_all, is_itself, once_of, or_case, or_false_right, or_left, or_right, place_of, ready_of, un_not}

-- booleans
or_none : (b : Bool) → (b || false) ≡ b
or_none true = refl
or_none false = refl

pub or_false_left : (a b : Bool) → (a || b) ≡ false → a ≡ false
or_false_left true b h = absurd cc
or_false_left false b h = refl

not_false : (a : Bool) → not a ≡ false → a ≡ true
not_false true h = refl
not_false false h = absurd cc

pub any_more : {X : Type 0} (test : X → Bool) (xs : List X) (x : X) → list_any test (xs ++ x ∷ []) ≡ (list_any test xs || test x)
any_more test xs x = list_any-append test xs (x ∷ []) ∙ ap (λ (b : Bool). list_any test xs || b) (or_none (test x))

pub any_has : {P : Type 0} (f : ℕ → Bool) (xs : List ℕ) → list_any f xs ≡ true → ((x : ℕ) → has xs x ≡ true → f x ≡ true → P) → P
any_has f [] h g = absurd cc
any_has f (x ∷ xs) h g = or_case (f x) (list_any f xs) h
    (λ here. g x (or_left (nat_eq x x) (has xs x) (is_itself x)) here)
    (λ there. any_has f xs there (λ y m k. g y (or_right (nat_eq x y) (has xs y) m) k))

-- what a task that isn't done is
pub still_waits : (st : Progress) (front : List ℕ) (t : ℕ) → is_done st front t ≡ false → waits (st.phase t) ≡ true
still_waits st front t h = not_false (waits (st.phase t)) (or_false_left (not (waits (st.phase t))) (has front t) h)

pub not_placed : (st : Progress) (front : List ℕ) (t : ℕ) → is_done st front t ≡ false → has front t ≡ false
not_placed st front t h = or_false_right (not (waits (st.phase t))) (has front t) h

-- one step more
pub steps_none : (p : Plan) (st : Progress) → AreSteps p st []
steps_none p st k l = absurd (omega arith)

pub each_more : (P : List ℕ → ℕ → Type 0) (front : List ℕ) (t : ℕ) → ((k : ℕ) → k < length front → P (take k front) (get_or front k 0)) → P front t → (k : ℕ) → k < length (front ++ t ∷ []) → P (take k (front ++ t ∷ [])) (get_or (front ++ t ∷ []) k 0)
each_more P front t a s k l = by_place (nat_eq k (length front)) refl
  where
    by_place : (b : Bool) → nat_eq k (length front) ≡ b → P (take k (front ++ t ∷ [])) (get_or (front ++ t ∷ []) k 0)
    by_place true e =
        let at : k ≡ length front = eqb-true k (length front) e in
        subst (λ (n : ℕ). P (take n (front ++ t ∷ [])) (get_or (front ++ t ∷ []) n 0)) (sym at)
        (subst (λ (f : List ℕ). P f (get_or (front ++ t ∷ []) (length front) 0)) (sym (take-append_seam front (t ∷ [])))
        (subst (λ (x : ℕ). P front x) (sym (get_or-append_seam front t [] 0)) s))
    by_place false e =
        let less : k < length front = grind (arith, length-append front (t ∷ []), l, e) in
        subst (λ (f : List ℕ). P f (get_or (front ++ t ∷ []) k 0)) (sym (take-append-le k front (t ∷ []) (omega (arith, less))))
        (subst (λ (x : ℕ). P (take k front) x) (sym (get_or_append_left front (t ∷ []) 0 k less)) (a k less))

pub steps_more : (p : Plan) (st : Progress) (front : List ℕ) (t : ℕ) → AreSteps p st front → IsStep p st front t → AreSteps p st (front ++ t ∷ [])
steps_more p st front t a s = each_more (IsStep p st) front t a s

-- a Clean leaves no more than there was
clean_weight : (c b w h : Bool) (d x : ℕ) → h ≡ false → cond (c || b) 0 (cond (w || h) d x) ≤ cond c 0 (cond w d x)
clean_weight true b w h d x e = omega arith
clean_weight false true w h d x e = omega arith
clean_weight false false true h d x e = omega arith
clean_weight false false false true d x e = absurd cc
clean_weight false false false false d x e = omega arith

weight_more : (p : Plan) (size : ℕ → ℕ) (front : List ℕ) (t g : ℕ) → weight p size (front ++ t ∷ []) g ≡ cond (cleaned p front g || cleans p t g) 0 (cond (made p front g || has (makes p t) g) (good_size p g) (size g))
weight_more p size front t g =
    ap (λ (b : Bool). cond b 0 (cond (made p (front ++ t ∷ []) g) (good_size p g) (size g))) (any_more (λ u. cleans p u g) front t)
    ∙ ap (λ (b : Bool). cond (cleaned p front g || cleans p t g) 0 (cond b (good_size p g) (size g))) (any_more (λ u. has (makes p u) g) front t)

at_most_there : (b : Bool) (x y z : ℕ) → x ≤ y → cond b x z ≤ cond b y z
at_most_there true x y z h = h
at_most_there false x y z h = omega arith

total_at_most : (v w : ℕ → ℕ) (n : ℕ) → ((q : ℕ) → v q ≤ w q) → total n v ≤ total n w
unfolding total
total_at_most v w zero h = omega arith
total_at_most v w (suc n) h = omega (arith, total_at_most v w n h, h n)

-- the pair of a Clean
pub pair_of : (p : Plan) (t : ℕ) → is_clean p t ≡ true → (q : ℕ) × (cleans p t q ≡ true)
pair_of p t h = by_kind (kind p t) h
  where
    by_kind : (o : Option TaskKind) → is_clean_kind o ≡ true → (q : ℕ) × (kind_cleans o q ≡ true)
    by_kind None k = absurd cc
    by_kind (Some (Transfer f from to)) k = absurd cc
    by_kind (Some (Run s js)) k = absurd cc
    by_kind (Some (Clean q)) k = (q.0, is_itself q.0)

pub clean_falls : (p : Plan) (size : ℕ → ℕ) (front : List ℕ) (t s : ℕ) → KeepsGoods p → is_clean p t ≡ true → usage p size (front ++ t ∷ []) s ≤ usage p size front s
clean_falls p size front t s keeps clean =
    total_at_most (usage_of_good p size (front ++ t ∷ []) s) (usage_of_good p size front s) (goods p) (λ g. at_most_there (lies_at p g s) (weight p size (front ++ t ∷ []) g) (weight p size front g) 0
    (let same = weight_more p size front t g in
    let q = pair_of p t clean in
    let less = clean_weight (cleaned p front g) (cleans p t g) (made p front g) (has (makes p t) g) (good_size p g) (size g) (keeps.cleans_make t q.0 g q.1) in
    omega (arith, same, less)))

-- a ready task that is a Clean or fits
pub record IsAdmitted (p : Plan) (st : Progress) (front : List ℕ) (t : ℕ) : Type 0 where
  pub opens : IsOpen p st front t
  pub kind : (is_clean p t ≡ true) ⊎ IsFitting p st front t

pub step_admitted : (p : Plan) (st : Progress) (front : List ℕ) (t : ℕ) → IsStep p st front t → IsAdmitted p st front t
step_admitted p st front t (inl c) = record { opens = c.opens; kind = inl c.clean }
step_admitted p st front t (inr c) = record { opens = c.opens; kind = inr c.fits }

abbrev pub AreAdmitted : Plan → Progress → List ℕ → Type 0
AreAdmitted p st ts = (k : ℕ) → k < length ts → IsAdmitted p st (take k ts) (get_or ts k 0)

pub admitted_within : (p : Plan) (st : Progress) (front : List ℕ) (t : ℕ) → KeepsGoods p → IsWithin p (size st) front → (is_clean p t ≡ true) ⊎ IsFitting p st front t → IsWithin p (size st) (front ++ t ∷ [])
admitted_within p st front t keeps within (inl c) s l = let falls = clean_falls p (size st) front t s keeps c in omega (arith, falls, within s l)
admitted_within p st front t keeps within (inr c) s l = c s l

within_steps : (p : Plan) (st : Progress) (ts : List ℕ) → KeepsGoods p → IsWithin p (size st) [] → AreAdmitted p st ts → (k : ℕ) → k ≤ length ts → IsWithin p (size st) (take k ts)
within_steps p st ts keeps within steps zero l = within
within_steps p st ts keeps within steps (suc k) l =
    let less = within_steps p st ts keeps within steps k (omega arith) in
    let next : suc k ≡ k + 1 = omega arith in
    subst (λ (f : List ℕ). IsWithin p (size st) f) (sym (ap (λ (n : ℕ). take n ts) next ∙ front_more ts k (omega arith)))
    (admitted_within p st (take k ts) (get_or ts k 0) keeps less (steps k (omega arith)).kind)

once_admitted : (p : Plan) (st : Progress) (ts : List ℕ) → AreAdmitted p st ts → AreOnce ts
once_admitted p st ts steps = once_of ts (λ k l. not_placed st (take k ts) (get_or ts k 0) (steps k l).opens.waits)

pub once_steps : (p : Plan) (st : Progress) (ts : List ℕ) → IsOrder p st ts → AreOnce ts
once_steps p st ts o = once_admitted p st ts (λ k l. step_admitted p st (take k ts) (get_or ts k 0) (o.steps k l))

pub fits_admitted : (p : Plan) (st : Progress) (ts : List ℕ) → KeepsGoods p → IsWithin p (size st) [] → AreAdmitted p st ts → Fits p st.phase st.held ts
fits_admitted p st ts keeps within steps = record {
  tasks = λ t m. let at = place_of ts t m in subst (λ (x : ℕ). x < count_tasks p) at.2 (steps at.0 at.1).opens.in_range;
  waiting = λ t m. let at = place_of ts t m in subst (λ (x : ℕ). waits (st.phase x) ≡ true) at.2 (still_waits st (take at.0 ts) (get_or ts at.0 0) (steps at.0 at.1).opens.waits);
  once = once_admitted p st ts steps;
  ready = λ k l. ready_of p st.phase (take k ts) (get_or ts k 0) (steps k l).opens.ready;
  within = within_steps p st ts keeps within steps;
}

pub fits_steps : (p : Plan) (st : Progress) (ts : List ℕ) → KeepsGoods p → IsWithin p (size st) [] → IsOrder p st ts → Fits p st.phase st.held ts
fits_steps p st ts keeps within o = fits_admitted p st ts keeps within (λ k l. step_admitted p st (take k ts) (get_or ts k 0) (o.steps k l))

-- the steps never stop early
abbrev pub FirstOf : Plan → Type 0
FirstOf p = (test : ℕ → Bool) (t : ℕ) → test t ≡ true → (u : ℕ) × (test u ≡ true) × ((v : ℕ) → is_parent p v u ≡ true → test v ≡ false)

abbrev pub ParentsBelow : Plan → Type 0
ParentsBelow p = (t u : ℕ) → is_parent p u t ≡ true → u < count_tasks p

is_left : Plan → Progress → List ℕ → ℕ → Bool
is_left p st front u = nat_lt u (count_tasks p) && not (is_done st front u)

left_parts : (p : Plan) (st : Progress) (front : List ℕ) (u : ℕ) → is_left p st front u ≡ true → (u < count_tasks p) × (is_done st front u ≡ false)
unfolding is_left
left_parts p st front u h = let parts = both (nat_lt u (count_tasks p)) (not (is_done st front u)) h in (ltb-true u (count_tasks p) parts.0, un_not (is_done st front u) parts.1)

left_of : (p : Plan) (st : Progress) (front : List ℕ) (u : ℕ) → u < count_tasks p → is_done st front u ≡ false → is_left p st front u ≡ true
unfolding is_left
left_of p st front u l h = ap (λ (b : Bool). b && not (is_done st front u)) (lt-ltb u (count_tasks p) l) ∙ ap not h

pub goes_on : (p : Plan) (st : Progress) (ts : List ℕ) → FirstOf p → ParentsBelow p → ((u : ℕ) → IsOpen p st ts u → ⊥) → (t : ℕ) → t < count_tasks p → is_done st ts t ≡ true
goes_on p st ts first_of below none t l = by_bool (is_done st ts t) (λ d. d)
    (λ w. absurd (let first = first_of (is_left p st ts) t (left_of p st ts t l w) in
    let parts = left_parts p st ts first.0 first.1 in
    none first.0 (record {
      in_range = parts.0;
      waits = parts.1;
      ready = have_all (is_done st ts) (parents p first.0) (λ v m. by_bool (is_done st ts v) (λ d. d) (λ u. absurd (let yes = left_of p st ts v (below first.0 v m) u in let no = first.2 v m in cc)));
    })))
