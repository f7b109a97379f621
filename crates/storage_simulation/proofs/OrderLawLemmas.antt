-- Order as a function gives the order, and none where Order is Exceeds.
use Rattle.std.proofs.Common.{◌≡◌, ℕ, zero, suc, ◌+◌, ◌<◌, ◌≤◌, ◌&&◌, ◌||◌, ◌⊎◌, inl, inr, Bool, true, false, cond, nat_lt, leb, List, [], ◌∷◌, ◌++◌, length, take, get_or, refl, sym, ap, subst, ◌∙◌, arith}
use Rattle.std.specs.Prelude.{not, Option, Some, None}
use Rattle.std.proofs.lemmas.Bool.{cases_lt, leb-true}
use Rattle.std.proofs.lemmas.List.{take_all}
use Rattle.plan_core.specs.declared.plan.Plan.{Plan}
use Rattle.plan_core.specs.Numbers.{has, least, or_else}
use Rattle.plan_core.specs.Words.{count_tasks, is_clean}
use Rattle.storage_simulation.specs.declared.fitting.Exceeds.{Exceeds}
use Rattle.storage_simulation.specs.Goods.{place_bound, places}
use Rattle.storage_simulation.specs.Usage.{usage, IsWithin}
use Rattle.storage_simulation.specs.Following.{is_ready}
use Rattle.storage_simulation.specs.Ordering.{Progress, size, comes, goes, is_done}
use Rattle.storage_simulation.specs.code.Ordering.{IsOpen, IsFitting, IsBefore, IsStep, IsOrder, IsExceeds}
use Rattle.storage_simulation.specs.OrderLaw.{all_below, first_of, best_below, is_open, fits_after, step, all_placed, and_then, go_on, order_by, less_by_score}
use Rattle.storage_simulation.proofs.CountingLemmas.{left, left_most, left_less}
use Rattle.storage_simulation.proofs.DeterminedLemmas.{step_opens}
use Rattle.storage_simulation.specs.Fitting.{Fits}
use Rattle.storage_simulation.specs.code.Law.{KeepsGoods}
use Rattle.storage_simulation.specs.Standings.{waits}
use Rattle.storage_simulation.proofs.StepsLemmas.{AreAdmitted, IsAdmitted, each_more, fits_admitted}
use Rattle.storage_simulation.proofs.FollowingLemmas.{both, false_of, front_more, have_both}

last_or : (n k : ℕ) (P : ℕ → Type 0) → k < suc n → (k < n → P k) → P n → P k
last_or n k P l before at = go (cases_lt k n)
  where
    go : ((k < n) ⊎ (n ≤ k)) → P k
    go (inl m) = before m
    go (inr m) = subst P (let e : n ≡ k = omega arith in e) at

below_of : (n : ℕ) (f : ℕ → Bool) → all_below n f ≡ true → (k : ℕ) → k < n → f k ≡ true
below_of zero f h k l = absurd (omega arith)
below_of (suc n) f h k l = last_or n k (λ i. f i ≡ true) l (below_of n f ((both (all_below n f) (f n) h).0) k) ((both (all_below n f) (f n) h).1)

all_of_below : (n : ℕ) (f : ℕ → Bool) → ((k : ℕ) → k < n → f k ≡ true) → all_below n f ≡ true
all_of_below zero f h = refl
all_of_below (suc n) f h = have_both (all_below n f) (f n) (all_of_below n f (λ k l. h k (omega arith))) (h n (omega arith))

least_none : (n : ℕ) (f : ℕ → Bool) → ((u : ℕ) → u < n → f u ≡ false) → least n f ≡ None
unfolding least
least_none zero f h = refl
least_none (suc n) f h = ap (λ (o : Option ℕ). or_else o (cond (f n) (Some n) None)) (least_none n f (λ u l. h u (omega arith))) ∙ ap (λ (b : Bool). cond b (Some n) None) (h n (omega arith))

least_is : (n : ℕ) (f : ℕ → Bool) (t : ℕ) → t < n → f t ≡ true → ((u : ℕ) → u < t → f u ≡ false) → least n f ≡ Some t
unfolding least
least_is zero f t l e h = absurd (omega arith)
least_is (suc n) f t l e h = by_place (cases_lt t n) (λ m. least_is n f t m e h)
  where
    by_place : ((t < n) ⊎ (n ≤ t)) → (t < n → least n f ≡ Some t) → or_else (least n f) (cond (f n) (Some n) None) ≡ Some t
    by_place (inl m) before = ap (λ (o : Option ℕ). or_else o (cond (f n) (Some n) None)) (before m)
    by_place (inr m) before =
        let at : t ≡ n = omega arith in
        ap (λ (o : Option ℕ). or_else o (cond (f n) (Some n) None)) (least_none n f (λ u k. h u (omega arith))) ∙ ap (λ (b : Bool). cond b (Some n) None) (ap f (sym at) ∙ e) ∙ ap (λ (i : ℕ). Some i) (sym at)

best_none : (n : ℕ) (f : ℕ → Bool) (less : ℕ → ℕ → Bool) → ((u : ℕ) → u < n → f u ≡ false) → best_below n f less ≡ None
best_none zero f less h = refl
best_none (suc n) f less h = ap (λ (b : Bool). first_of (best_below n f less) b n less) (h n (omega arith)) ∙ best_none n f less (λ u l. h u (omega arith))

-- the last one is less than those before it that pass
over_all : (n : ℕ) (f : ℕ → Bool) (less : ℕ → ℕ → Bool) (t : ℕ) → ((u : ℕ) → u < n → f u ≡ true → less t u ≡ true) → first_of (best_below n f less) true t less ≡ Some t
over_all zero f less t h = refl
over_all (suc n) f less t h = by_test (f n) refl (best_below n f less) refl (over_all n f less t (λ u l. h u (omega arith)))
  where
    by_less : (b : ℕ) (c : Bool) → less n b ≡ c → f n ≡ true → cond (less t b) (Some t) (Some b) ≡ Some t → first_of (cond c (Some n) (Some b)) true t less ≡ Some t
    by_less b true e g k = ap (λ (d : Bool). cond d (Some t) (Some n)) (h n (omega arith) g)
    by_less b false e g k = k

    by_test : (b : Bool) → f n ≡ b → (o : Option ℕ) → best_below n f less ≡ o → first_of o true t less ≡ Some t → first_of (first_of o b n less) true t less ≡ Some t
    by_test false e o g k = k
    by_test true e None g k = ap (λ (d : Bool). cond d (Some t) (Some n)) (h n (omega arith) e)
    by_test true e (Some b) g k = by_less b (less n b) refl e k

best_is : (n : ℕ) (f : ℕ → Bool) (less : ℕ → ℕ → Bool) (t : ℕ) → t < n → f t ≡ true → ((u : ℕ) → u < n → f u ≡ true → less u t ≡ false) → ((u : ℕ) → u < t → f u ≡ true → less t u ≡ true) → best_below n f less ≡ Some t
best_is zero f less t l e after before = absurd (omega arith)
best_is (suc n) f less t l e after before = by_place (cases_lt t n) (λ m. best_is n f less t m e (λ u k. after u (omega arith)) before)
  where
    stays : (b : Bool) → f n ≡ b → first_of (Some t) b n less ≡ Some t
    stays false g = refl
    stays true g = ap (λ (d : Bool). cond d (Some n) (Some t)) (after n (omega arith) g)

    by_place : ((t < n) ⊎ (n ≤ t)) → (t < n → best_below n f less ≡ Some t) → first_of (best_below n f less) (f n) n less ≡ Some t
    by_place (inl m) rest = ap (λ (o : Option ℕ). first_of o (f n) n less) (rest m) ∙ stays (f n) refl
    by_place (inr m) rest =
        let at : n ≡ t = omega arith in
        ap (λ (b : Bool). first_of (best_below n f less) b n less) (ap f at ∙ e) ∙ over_all n f less n (λ u k g. ap (λ (i : ℕ). less i u) at ∙ before u (omega arith) g) ∙ ap (λ (i : ℕ). Some i) at

-- the tests say what the rule says
pub comes_open : (p : Plan) (st : Progress) (front : List ℕ) (t : ℕ) → IsOpen p st front t → is_open p st front t ≡ true
comes_open p st front t o = ap (λ (d : Bool). not d && is_ready p st.phase front t) o.waits ∙ o.ready

pub opens_come : (p : Plan) (st : Progress) (front : List ℕ) (t : ℕ) → t < count_tasks p → is_open p st front t ≡ true → IsOpen p st front t
opens_come p st front t l e = by_done (is_done st front t) refl e
  where
    by_done : (d : Bool) → is_done st front t ≡ d → (not d && is_ready p st.phase front t) ≡ true → IsOpen p st front t
    by_done true w e = absurd cc
    by_done false w e = record { in_range = l; waits = w; ready = e }

pub fits_is : (p : Plan) (st : Progress) (front : List ℕ) (t : ℕ) → IsFitting p st front t → fits_after p st front t ≡ true
fits_is p st front t fit = all_of_below (places p) (λ s. leb (usage p (size st) (front ++ t ∷ []) s) (place_bound p s)) (λ s l. leb_of (usage p (size st) (front ++ t ∷ []) s) (place_bound p s) (fit s l))
  where
    leb_of : (a b : ℕ) → a ≤ b → leb a b ≡ true
    leb_of a b l = grind (arith, l)

pub is_fits : (p : Plan) (st : Progress) (front : List ℕ) (t : ℕ) → fits_after p st front t ≡ true → IsFitting p st front t
is_fits p st front t e s l = leb-true (usage p (size st) (front ++ t ∷ []) s) (place_bound p s) (below_of (places p) (λ r. leb (usage p (size st) (front ++ t ∷ []) r) (place_bound p r)) e s l)

both_no : (b : Bool) → b ≡ true → b ≡ false → ⊥
both_no true e f = absurd cc
both_no false e f = absurd cc

no_clean_first : (p : Plan) (st : Progress) (front : List ℕ) → ((u : ℕ) → IsOpen p st front u → is_clean p u ≡ false) → least (count_tasks p) (λ t. is_open p st front t && is_clean p t) ≡ None
no_clean_first p st front none = least_none (count_tasks p) (λ t. is_open p st front t && is_clean p t) (λ u l. false_of (is_open p st front u && is_clean p u) (λ e.
    both_no (is_clean p u) ((both (is_open p st front u) (is_clean p u) e).1) (none u (opens_come p st front u l ((both (is_open p st front u) (is_clean p u) e).0)))))

step_is : (p : Plan) (st : Progress) (front : List ℕ) (t : ℕ) → IsStep p st front t → step p st (less_by_score p st) front ≡ Some t
step_is p st front t (inl c) =
    ap (λ (o : Option ℕ). or_else o (best_below (count_tasks p) (λ u. is_open p st front u && fits_after p st front u) (less_by_score p st front)))
    (least_is (count_tasks p) (λ u. is_open p st front u && is_clean p u) t c.opens.in_range (have_both (is_open p st front t) (is_clean p t) (comes_open p st front t c.opens) c.clean)
    (λ u l. false_of (is_open p st front u && is_clean p u) (λ e.
    both_no (is_clean p u) ((both (is_open p st front u) (is_clean p u) e).1) (c.lowest u l (opens_come p st front u (let r = c.opens.in_range in omega (arith, l, r)) ((both (is_open p st front u) (is_clean p u) e).0))))))
step_is p st front t (inr c) =
    ap (λ (o : Option ℕ). or_else o (best_below (count_tasks p) (λ u. is_open p st front u && fits_after p st front u) (less_by_score p st front))) (no_clean_first p st front c.no_clean)
    ∙ best_is (count_tasks p) (λ u. is_open p st front u && fits_after p st front u) (less_by_score p st front) t c.opens.in_range
    (have_both (is_open p st front t) (fits_after p st front t) (comes_open p st front t c.opens) (fits_is p st front t c.fits))
    (λ u l e. not_less (comes p st t) (goes p st front t) (comes p st u) (goes p st front u) u (before u l e))
    (λ u l e. is_less (comes p st t) (goes p st front t) (comes p st u) (goes p st front u) u l (before u (let r = c.opens.in_range in omega (arith, l, r)) e))
  where
    before : (u : ℕ) → u < count_tasks p → (is_open p st front u && fits_after p st front u) ≡ true → IsBefore p st front t u
    before u l e = c.least u (opens_come p st front u l ((both (is_open p st front u) (fits_after p st front u) e).0)) (is_fits p st front u ((both (is_open p st front u) (fits_after p st front u) e).1))

    not_less : (ct gt cu gu u : ℕ) → ((ct + gu < cu + gt) ⊎ ((ct + gu ≡ cu + gt) × (t ≤ u))) → nat_lt (cu + gt) (ct + gu) ≡ false
    not_less ct gt cu gu u (inl l) = grind (arith, l)
    not_less ct gt cu gu u (inr e) = let same = e.0 in grind (arith, same)

    is_less : (ct gt cu gu u : ℕ) → u < t → ((ct + gu < cu + gt) ⊎ ((ct + gu ≡ cu + gt) × (t ≤ u))) → nat_lt (ct + gu) (cu + gt) ≡ true
    is_less ct gt cu gu u l (inl m) = grind (arith, m)
    is_less ct gt cu gu u l (inr e) = absurd (let k = e.1 in omega (arith, l, k))

not_all : (p : Plan) (st : Progress) (front : List ℕ) (t : ℕ) → IsOpen p st front t → all_placed p st front ≡ false
not_all p st front t o = false_of (all_placed p st front) (λ e. both_no (is_done st front t) (below_of (count_tasks p) (is_done st front) e t o.in_range) o.waits)

next_front : (ts : List ℕ) (k : ℕ) → k < length ts → take k ts ++ get_or ts k 0 ∷ [] ≡ take (k + 1) ts
next_front ts k l = sym (front_more ts k l)

order_stops : (p : Plan) (st : Progress) (ts : List ℕ) → IsOrder p st ts → (m : ℕ) (front : List ℕ) → front ≡ ts → go_on p st (less_by_score p st) m front ≡ Some ts
order_stops p st ts o zero front e = ap (λ (f : List ℕ). cond (all_placed p st f) (Some f) None) e ∙ ap (λ (b : Bool). cond b (Some ts) None) (all_of_below (count_tasks p) (is_done st ts) o.all)
order_stops p st ts o (suc m) front e = ap (λ (b : Bool). cond b (Some front) (and_then (step p st (less_by_score p st) front) (λ t. go_on p st (less_by_score p st) m (front ++ t ∷ [])))) (ap (all_placed p st) e ∙ all_of_below (count_tasks p) (is_done st ts) o.all) ∙ ap (λ (f : List ℕ). Some f) e

go_is : (p : Plan) (st : Progress) (ts : List ℕ) → IsOrder p st ts → (n k : ℕ) → k ≤ length ts → left p st (take k ts) ≤ n → go_on p st (less_by_score p st) n (take k ts) ≡ Some ts
go_is p st ts o zero k l most = by_place (cases_lt k (length ts))
  where
    by_place : ((k < length ts) ⊎ (length ts ≤ k)) → go_on p st (less_by_score p st) zero (take k ts) ≡ Some ts
    by_place (inr m) = order_stops p st ts o zero (take k ts) (take_all k ts m)
    by_place (inl m) = absurd (let fewer = left_less p st (take k ts) (get_or ts k 0) (step_opens p st (take k ts) (get_or ts k 0) (o.steps k m)) in omega (arith, fewer, most))
go_is p st ts o (suc n) k l most = by_place (cases_lt k (length ts)) (go_is p st ts o n (k + 1))
  where
    by_place : ((k < length ts) ⊎ (length ts ≤ k)) → (k + 1 ≤ length ts → left p st (take (k + 1) ts) ≤ n → go_on p st (less_by_score p st) n (take (k + 1) ts) ≡ Some ts) → go_on p st (less_by_score p st) (suc n) (take k ts) ≡ Some ts
    by_place (inr m) more = order_stops p st ts o (suc n) (take k ts) (take_all k ts m)
    by_place (inl m) more =
        let opens = step_opens p st (take k ts) (get_or ts k 0) (o.steps k m) in
        let fewer = left_less p st (take k ts) (get_or ts k 0) opens in
        let same = ap (left p st) (next_front ts k m) in
        ap (λ (b : Bool). cond b (Some (take k ts)) (and_then (step p st (less_by_score p st) (take k ts)) (λ t. go_on p st (less_by_score p st) n (take k ts ++ t ∷ [])))) (not_all p st (take k ts) (get_or ts k 0) opens)
        ∙ ap (λ (s : Option ℕ). and_then s (λ t. go_on p st (less_by_score p st) n (take k ts ++ t ∷ []))) (step_is p st (take k ts) (get_or ts k 0) (o.steps k m))
        ∙ ap (go_on p st (less_by_score p st) n) (next_front ts k m) ∙ more (omega arith) (omega (arith, fewer, same, most))

pub order_is : (p : Plan) (st : Progress) (ts : List ℕ) → IsOrder p st ts → order_by p st (less_by_score p st) ≡ Some ts
order_is p st ts o = ap (go_on p st (less_by_score p st) (count_tasks p)) (let e : [] ≡ take 0 ts = refl in e) ∙ go_is p st ts o (count_tasks p) 0 (omega arith) (left_most p st (take 0 ts))

none_stops : (p : Plan) (st : Progress) (e : Exceeds) → (x : IsExceeds p st e) → (m : ℕ) (f : List ℕ) → f ≡ x.front → go_on p st (less_by_score p st) m f ≡ None
none_stops p st e x m f g = by_count m
  where
    waits_on : all_placed p st f ≡ false
    waits_on = ap (all_placed p st) g ∙ not_all p st x.front e.task.0 x.stuck.opens

    no_step : step p st (less_by_score p st) f ≡ None
    no_step = ap (step p st (less_by_score p st)) g
        ∙ ap (λ (o : Option ℕ). or_else o (best_below (count_tasks p) (λ u. is_open p st x.front u && fits_after p st x.front u) (less_by_score p st x.front))) (no_clean_first p st x.front x.stuck.no_clean)
        ∙ best_none (count_tasks p) (λ u. is_open p st x.front u && fits_after p st x.front u) (less_by_score p st x.front) (λ u m. false_of (is_open p st x.front u && fits_after p st x.front u) (λ h.
        x.stuck.none_fits u (opens_come p st x.front u m (both (is_open p st x.front u) (fits_after p st x.front u) h).0) (is_fits p st x.front u (both (is_open p st x.front u) (fits_after p st x.front u) h).1)))

    by_count : (m : ℕ) → go_on p st (less_by_score p st) m f ≡ None
    by_count zero = ap (λ (b : Bool). cond b (Some f) None) waits_on
    by_count (suc m) = ap (λ (b : Bool). cond b (Some f) (and_then (step p st (less_by_score p st) f) (λ t. go_on p st (less_by_score p st) m (f ++ t ∷ [])))) waits_on
        ∙ ap (λ (s : Option ℕ). and_then s (λ t. go_on p st (less_by_score p st) m (f ++ t ∷ []))) no_step

go_none : (p : Plan) (st : Progress) (e : Exceeds) → (x : IsExceeds p st e) → (n k : ℕ) → k ≤ length x.front → go_on p st (less_by_score p st) n (take k x.front) ≡ None
go_none p st e x zero k l = by_place (cases_lt k (length x.front))
  where
    by_place : ((k < length x.front) ⊎ (length x.front ≤ k)) → go_on p st (less_by_score p st) zero (take k x.front) ≡ None
    by_place (inr m) = none_stops p st e x zero (take k x.front) (take_all k x.front m)
    by_place (inl m) = ap (λ (b : Bool). cond b (Some (take k x.front)) None) (not_all p st (take k x.front) (get_or x.front k 0) (step_opens p st (take k x.front) (get_or x.front k 0) (x.steps k m)))
go_none p st e x (suc n) k l = by_place (cases_lt k (length x.front)) (go_none p st e x n (k + 1))
  where
    by_place : ((k < length x.front) ⊎ (length x.front ≤ k)) → (k + 1 ≤ length x.front → go_on p st (less_by_score p st) n (take (k + 1) x.front) ≡ None) → go_on p st (less_by_score p st) (suc n) (take k x.front) ≡ None
    by_place (inr m) more = none_stops p st e x (suc n) (take k x.front) (take_all k x.front m)
    by_place (inl m) more =
        let opens = step_opens p st (take k x.front) (get_or x.front k 0) (x.steps k m) in
        ap (λ (b : Bool). cond b (Some (take k x.front)) (and_then (step p st (less_by_score p st) (take k x.front)) (λ t. go_on p st (less_by_score p st) n (take k x.front ++ t ∷ [])))) (not_all p st (take k x.front) (get_or x.front k 0) opens)
        ∙ ap (λ (s : Option ℕ). and_then s (λ t. go_on p st (less_by_score p st) n (take k x.front ++ t ∷ []))) (step_is p st (take k x.front) (get_or x.front k 0) (x.steps k m))
        ∙ ap (go_on p st (less_by_score p st) n) (next_front x.front k m) ∙ more (omega arith)

pub exceeds_is : (p : Plan) (st : Progress) (e : Exceeds) → IsExceeds p st e → order_by p st (less_by_score p st) ≡ None
exceeds_is p st e x = go_none p st e x (count_tasks p) 0 (omega arith)

-- whatever the scores
least_of : (n : ℕ) (f : ℕ → Bool) (t : ℕ) → least n f ≡ Some t → (t < n) × (f t ≡ true)
unfolding least
least_of zero f t h = absurd cc
least_of (suc n) f t h = by_first (least n f) (f n) refl h (least_of n f)
  where
    by_first : (o : Option ℕ) (b : Bool) → f n ≡ b → or_else o (cond b (Some n) None) ≡ Some t → ((u : ℕ) → o ≡ Some u → (u < n) × (f u ≡ true)) → (t < suc n) × (f t ≡ true)
    by_first (Some u) b e k less = let m = less u refl in let at : u ≡ t = cc in (let l = m.0 in omega (arith, l, at), ap f (sym at) ∙ m.1)
    by_first None true e k less = let at : n ≡ t = cc in (omega (arith, at), ap f (sym at) ∙ e)
    by_first None false e k less = absurd cc

best_of : (n : ℕ) (f : ℕ → Bool) (less : ℕ → ℕ → Bool) (t : ℕ) → best_below n f less ≡ Some t → (t < n) × (f t ≡ true)
best_of zero f less t h = absurd cc
best_of (suc n) f less t h = by_first (best_below n f less) (f n) refl h (best_of n f less)
  where
    mine : (u : ℕ) → u ≡ t → (u < suc n) → f u ≡ true → (t < suc n) × (f t ≡ true)
    mine u at l m = (omega (arith, l, at), ap f (sym at) ∙ m)

    by_less : (c : Bool) (b : ℕ) → f n ≡ true → cond c (Some n) (Some b) ≡ Some t → (b < n) × (f b ≡ true) → (t < suc n) × (f t ≡ true)
    by_less true b e k m = mine n (cc) (omega arith) e
    by_less false b e k m = mine b (cc) (let l = m.0 in omega (arith, l)) m.1

    by_first : (o : Option ℕ) (b : Bool) → f n ≡ b → first_of o b n less ≡ Some t → ((u : ℕ) → o ≡ Some u → (u < n) × (f u ≡ true)) → (t < suc n) × (f t ≡ true)
    by_first o false e k rest = let m = rest t k in mine t refl (let l = m.0 in omega (arith, l)) m.1
    by_first None true e k rest = mine n (cc) (omega arith) e
    by_first (Some b) true e k rest = by_less (less n b) b e k (rest b refl)

step_admits : (p : Plan) (st : Progress) (less : List ℕ → ℕ → ℕ → Bool) (front : List ℕ) (t : ℕ) → step p st less front ≡ Some t → IsAdmitted p st front t
step_admits p st less front t h =
    by_clean (least (count_tasks p) (λ u. is_open p st front u && is_clean p u)) h
    (λ u. least_of (count_tasks p) (λ v. is_open p st front v && is_clean p v) u)
    (λ e. best_of (count_tasks p) (λ v. is_open p st front v && fits_after p st front v) (less front) t e)
  where
    by_clean : (o : Option ℕ) → or_else o (best_below (count_tasks p) (λ u. is_open p st front u && fits_after p st front u) (less front)) ≡ Some t
        → ((u : ℕ) → o ≡ Some u → (u < count_tasks p) × ((is_open p st front u && is_clean p u) ≡ true))
        → (best_below (count_tasks p) (λ u. is_open p st front u && fits_after p st front u) (less front) ≡ Some t → (t < count_tasks p) × ((is_open p st front t && fits_after p st front t) ≡ true))
        → IsAdmitted p st front t
    by_clean (Some u) k clean run =
        let at : u ≡ t = cc in
        let m = clean t (ap (λ (n : ℕ). Some n) at) in
        let parts = both (is_open p st front t) (is_clean p t) m.1 in
        record { opens = opens_come p st front t m.0 parts.0; kind = inl parts.1 }
    by_clean None k clean run =
        let m = run k in
        let parts = both (is_open p st front t) (fits_after p st front t) m.1 in
        record { opens = opens_come p st front t m.0 parts.0; kind = inr (is_fits p st front t parts.1) }

abbrev Made : Plan → Progress → List ℕ → Type 0
Made p st ts = AreAdmitted p st ts × (all_placed p st ts ≡ true)

go_on_makes : (p : Plan) (st : Progress) (less : List ℕ → ℕ → ℕ → Bool) (n : ℕ) (front ts : List ℕ) → AreAdmitted p st front → go_on p st less n front ≡ Some ts → Made p st ts
go_on_makes p st less zero front ts so h = by_end (all_placed p st front) refl h
  where
    by_end : (b : Bool) → all_placed p st front ≡ b → cond b (Some front) None ≡ Some ts → Made p st ts
    by_end true e k = subst (Made p st) (let same : front ≡ ts = cc in same) (so, e)
    by_end false e k = absurd cc
go_on_makes p st less (suc n) front ts so h = by_end (all_placed p st front) refl h (λ t f k. go_on_makes p st less n (front ++ t ∷ []) ts f k)
  where
    by_step : (o : Option ℕ) → step p st less front ≡ o → and_then o (λ t. go_on p st less n (front ++ t ∷ [])) ≡ Some ts → ((t : ℕ) → AreAdmitted p st (front ++ t ∷ []) → go_on p st less n (front ++ t ∷ []) ≡ Some ts → Made p st ts) → Made p st ts
    by_step None e k more = absurd cc
    by_step (Some t) e k more = more t (each_more (IsAdmitted p st) front t so (step_admits p st less front t e)) k

    by_end : (b : Bool) → all_placed p st front ≡ b → cond b (Some front) (and_then (step p st less front) (λ t. go_on p st less n (front ++ t ∷ []))) ≡ Some ts
        → ((t : ℕ) → AreAdmitted p st (front ++ t ∷ []) → go_on p st less n (front ++ t ∷ []) ≡ Some ts → Made p st ts) → Made p st ts
    by_end true e k more = subst (Made p st) (let same : front ≡ ts = cc in same) (so, e)
    by_end false e k more = by_step (step p st less front) refl k more

none_admitted : (p : Plan) (st : Progress) → AreAdmitted p st []
none_admitted p st k l = absurd (omega arith)

pub made_fits : (p : Plan) (st : Progress) (less : List ℕ → ℕ → ℕ → Bool) (ts : List ℕ) → KeepsGoods p → IsWithin p (size st) [] → order_by p st less ≡ Some ts → Fits p st.phase st.held ts
made_fits p st less ts keeps within h = fits_admitted p st ts keeps within (go_on_makes p st less (count_tasks p) [] ts (none_admitted p st) h).0

pub made_all : (p : Plan) (st : Progress) (less : List ℕ → ℕ → ℕ → Bool) (ts : List ℕ) → order_by p st less ≡ Some ts → (t : ℕ) → t < count_tasks p → waits (st.phase t) ≡ true → has ts t ≡ true
made_all p st less ts h t l w = waiting (waits (st.phase t)) (has ts t) w (below_of (count_tasks p) (is_done st ts) (go_on_makes p st less (count_tasks p) [] ts (none_admitted p st) h).1 t l)
  where
    waiting : (a b : Bool) → a ≡ true → (not a || b) ≡ true → b ≡ true
    waiting true b f k = k
    waiting false b f k = absurd cc
