-- The step that the best of all homes is, and what a placed task leaves as it was.
use Rattle.std.proofs.Common.{◌≡◌, ◌≢◌, ℕ, ◌+◌, ◌-◌, ◌*◌, ◌^◌, ◌<◌, ◌≤◌, ◌||◌, ◌&&◌, ◌⊎◌, inl, inr, min, Bool, true, false, cond, nat_eq, nat_le, nat_lt, eqb-true, List, [], ◌∷◌, ◌++◌, get_or, refl, sym, ap, subst, ◌∙◌, arith}
use Rattle.std.specs.Prelude.{not, Option, Some, None}
use Rattle.std.proofs.lemmas.Bool.{cases_order}
use Rattle.tournament_tree.specs.declared.tree.Key.{Key}
use Rattle.tournament_tree.specs.Tree.{IsLeast, entry, is_less}
use Rattle.plan_core.specs.declared.plan.Plan.{Plan}
use Rattle.plan_core.specs.code.Numbers.{RisesFrom}
use Rattle.plan_core.specs.Numbers.{has}
use Rattle.plan_core.specs.Words.{count_tasks, is_clean, parents}
use Rattle.storage_simulation.specs.declared.front.Front.{Front}
use Rattle.storage_simulation.specs.declared.index.Index.{Index}
use Rattle.storage_simulation.specs.declared.standing.Standing.{Standing}
use Rattle.storage_simulation.specs.Following.{is_ready}
use Rattle.storage_simulation.specs.code.Front.{IsOrderable, IsSet, front_of, missing}
use Rattle.storage_simulation.specs.code.Goods.{place}
use Rattle.storage_simulation.specs.Goods.{place_bound, places}
use Rattle.storage_simulation.specs.code.Index.{AreGoes, IsApart, IsAway, IsBestAt, home, homes, key, last_of, need_at, open_key, or_number, ready_key}
use Rattle.storage_simulation.specs.OrderLaw.{fits_after, is_open}
use Rattle.storage_simulation.specs.Ordering.{Progress, comes, frees, goes, is_done, size}
use Rattle.storage_simulation.specs.code.Ordering.{progress, IsBefore, IsFitting, IsOpen, IsStep}
use Rattle.storage_simulation.specs.Usage.{sum_of, usage}
use Rattle.storage_simulation.proofs.CountingLemmas.{done_next}
use Rattle.storage_simulation.proofs.FollowingLemmas.{by_bool, false_of, or_left, or_right}
use Rattle.storage_simulation.proofs.KeyingLemmas.{need_fits, true_false}
use Rattle.storage_simulation.proofs.OrderLawLemmas.{comes_open, fits_is, is_fits, opens_come}
use Rattle.storage_simulation.proofs.RisingLemmas.{rises_once}
use Rattle.storage_simulation.proofs.RoomLemmas.{fits_nowhere, usage_elsewhere}
use Rattle.storage_simulation.proofs.ScoringLemmas.{missing_less, missing_same, ready_missing}
use Rattle.storage_simulation.proofs.UpkeepLemmas.{goes_next, goes_small, last_is}

-- keys in order
over : (a b c : Key) → is_less b a ≡ false → is_less c b ≡ false → is_less c a ≡ false
over a b c h k = test a.score a.number b.score b.number c.score c.number h k
  where
    test : (s t u v x y : ℕ) → (nat_lt u s || (nat_eq u s && nat_lt v t)) ≡ false → (nat_lt x u || (nat_eq x u && nat_lt y v)) ≡ false → (nat_lt x s || (nat_eq x s && nat_lt y t)) ≡ false
    test s t u v x y h k = grind arith

-- a key that may be placed
open_parts : (p : Plan) (st : Progress) (front : List ℕ) (t : ℕ) (k : Key) → t < count_tasks p → open_key p st front t ≡ Some k → IsOpen p st front t × ((is_clean p t || fits_after p st front t) ≡ true) × (key p st front t ≡ k)
open_parts p st front t k l e = by_test (is_open p st front t) refl (is_clean p t || fits_after p st front t) refl e
  where
    by_test : (x : Bool) → is_open p st front t ≡ x → (y : Bool) → (is_clean p t || fits_after p st front t) ≡ y → cond (x && y) (Some (key p st front t)) None ≡ Some k → IsOpen p st front t × ((is_clean p t || fits_after p st front t) ≡ true) × (key p st front t ≡ k)
    by_test false o y f e = absurd cc
    by_test true o false f e = absurd cc
    by_test true o true f e = (opens_come p st front t l o, f, cc)

open_of : (p : Plan) (st : Progress) (front : List ℕ) (t : ℕ) → IsOpen p st front t → (is_clean p t || fits_after p st front t) ≡ true → open_key p st front t ≡ Some (key p st front t)
open_of p st front t o f = ap (λ (b : Bool). cond (b && (is_clean p t || fits_after p st front t)) (Some (key p st front t)) None) (comes_open p st front t o) ∙ ap (λ (b : Bool). cond b (Some (key p st front t)) None) f

home_below : (p : Plan) (t : ℕ) → IsOrderable p → home p t < homes p
home_below p t able = by_clean (is_clean p t)
  where
    by_place : (o : Option ℕ) → place p t ≡ o → or_number (places p) o < homes p
    by_place None e = omega arith
    by_place (Some s) e = let l = able.place_below t s e in omega (arith, l)

    by_clean : (b : Bool) → cond b (places p + 1) (or_number (places p) (place p t)) < homes p
    by_clean true = omega arith
    by_clean false = by_place (place p t) refl

-- the least of the bests of all homes
abbrev pub AreBests : Plan → Progress → List ℕ → Index → Type 0
AreBests p st front ix = (h : ℕ) → h < homes p → IsBestAt p st front h (entry ix.best.rows.items 0 h)

pub none_open : (p : Plan) (st : Progress) (front : List ℕ) (ix : Index) → IsOrderable p → AreBests p st front ix → IsLeast (entry ix.best.rows.items 0) 0 (homes p) None → (u : ℕ) → u < count_tasks p → open_key p st front u ≡ None
none_open p st front ix able bests none u l = by_best (entry ix.best.rows.items 0 (home p u)) (none (home p u) (omega arith) (home_below p u able)) (bests (home p u) (home_below p u able))
  where
    by_best : (o : Option Key) → o ≡ None → IsBestAt p st front (home p u) o → open_key p st front u ≡ None
    by_best None e b = b u l refl
    by_best (Some k) e b = absurd cc

pub best_open : (p : Plan) (st : Progress) (front : List ℕ) (ix : Index) (k : Key) → IsOrderable p → AreBests p st front ix → IsLeast (entry ix.best.rows.items 0) 0 (homes p) (Some k)
    → ((t : ℕ) × (t < count_tasks p) × (open_key p st front t ≡ Some k)) × ((u : ℕ) (l : Key) → u < count_tasks p → open_key p st front u ≡ Some l → is_less l k ≡ false)
best_open p st front ix k able bests least = (mine (entry ix.best.rows.items 0 least.0.0) least.0.3 (bests least.0.0 least.0.2), λ u l m e. others u l m e (entry ix.best.rows.items 0 (home p u)) refl (bests (home p u) (home_below p u able)))
  where
    mine : (o : Option Key) → o ≡ Some k → IsBestAt p st front least.0.0 o → (t : ℕ) × (t < count_tasks p) × (open_key p st front t ≡ Some k)
    mine None e b = absurd cc
    mine (Some m) e b = (b.0.0, b.0.1, b.0.3 ∙ e)

    others : (u : ℕ) (l : Key) → u < count_tasks p → open_key p st front u ≡ Some l → (o : Option Key) → entry ix.best.rows.items 0 (home p u) ≡ o → IsBestAt p st front (home p u) o → is_less l k ≡ false
    others u l m e None f b = absurd (let no = b u m refl in let yes = sym no ∙ e in cc)
    others u l m e (Some x) f b = over k x l (least.1 (home p u) x (omega arith) (home_below p u able) f) (b.1 u l m refl e)

-- the step
clean_first : (a b : ℕ) → a < b → (nat_lt 0 0 || (nat_eq 0 0 && nat_lt a b)) ≡ true
clean_first a b l = grind (arith, l)

before_of : (ct gt cu gu t u : ℕ) → gt ≤ 120000 * 2 ^ 40 → gu ≤ 120000 * 2 ^ 40 → (nat_lt (2 ^ 62 + cu - gu) (2 ^ 62 + ct - gt) || (nat_eq (2 ^ 62 + cu - gu) (2 ^ 62 + ct - gt) && nat_lt u t)) ≡ false → (ct + gu < cu + gt) ⊎ ((ct + gu ≡ cu + gt) × (t ≤ u))
before_of ct gt cu gu t u a b h = by_parts (parts (2 ^ 62 + ct - gt) (2 ^ 62 + cu - gu) h)
  where
    parts : (x y : ℕ) → (nat_lt y x || (nat_eq y x && nat_lt u t)) ≡ false → (x < y) ⊎ ((x ≡ y) × (t ≤ u))
    parts x y h = by_order (cases_order x y)
      where
        by_order : ((x ≡ y) ⊎ ((x < y) ⊎ (y < x))) → (x < y) ⊎ ((x ≡ y) × (t ≤ u))
        by_order (inl e) = inr (e, let g : t ≤ u = grind (arith, h, e) in g)
        by_order (inr (inl l)) = inl l
        by_order (inr (inr l)) = absurd (let g : ⊥ = grind (arith, h, l) in g)

    by_parts : ((2 ^ 62 + ct - gt < 2 ^ 62 + cu - gu) ⊎ ((2 ^ 62 + ct - gt ≡ 2 ^ 62 + cu - gu) × (t ≤ u))) → (ct + gu < cu + gt) ⊎ ((ct + gu ≡ cu + gt) × (t ≤ u))
    by_parts (inl l) = inl (omega (arith, l, a, b))
    by_parts (inr e) = inr (let same : ct + gu ≡ cu + gt = omega (arith, e.0, a, b) in same, e.1)

pub best_step : (p : Plan) (st : Standing) (b : Front) (ix : Index) (k : Key) → IsSet p st b → AreBests p (progress st) (front_of b) ix → IsLeast (entry ix.best.rows.items 0) 0 (homes p) (Some k) → IsStep p (progress st) (front_of b) k.number
best_step p st b ix k is bests least =
    let found = best_open p (progress st) (front_of b) ix k is.orderable bests least in
    let t = found.0.0 in
    let parts = open_parts p (progress st) (front_of b) t k found.0.1 found.0.2 in
    let number : t ≡ k.number = ap (λ (x : Key). x.number) parts.2 in
    subst (IsStep p (progress st) (front_of b)) number (step t parts.0 parts.1 (λ u l m e. ap (is_less l) parts.2 ∙ found.1 u l m e))
  where
    small : (t : ℕ) → goes p (progress st) (front_of b) t ≤ 120000 * 2 ^ 40
    small t = goes_small p (progress st) (front_of b) t is.limits is.standing.small

    score_clean : (t : ℕ) → is_clean p t ≡ true → (key p (progress st) (front_of b) t).score ≡ 0
    score_clean t c = ap (λ (x : Bool). cond x 0 (2 ^ 62 + comes p (progress st) t - goes p (progress st) (front_of b) t)) c

    score_other : (t : ℕ) → is_clean p t ≡ false → (key p (progress st) (front_of b) t).score ≡ 2 ^ 62 + comes p (progress st) t - goes p (progress st) (front_of b) t
    score_other t c = ap (λ (x : Bool). cond x 0 (2 ^ 62 + comes p (progress st) t - goes p (progress st) (front_of b) t)) c

    clean_open : (u : ℕ) → IsOpen p (progress st) (front_of b) u → is_clean p u ≡ true → open_key p (progress st) (front_of b) u ≡ Some (key p (progress st) (front_of b) u)
    clean_open u o c = open_of p (progress st) (front_of b) u o (or_left (is_clean p u) (fits_after p (progress st) (front_of b) u) c)

    fit_open : (u : ℕ) → IsOpen p (progress st) (front_of b) u → IsFitting p (progress st) (front_of b) u → open_key p (progress st) (front_of b) u ≡ Some (key p (progress st) (front_of b) u)
    fit_open u o f = open_of p (progress st) (front_of b) u o (or_right (is_clean p u) (fits_after p (progress st) (front_of b) u) (fits_is p (progress st) (front_of b) u f))

    less_is : (s u v : ℕ) (x : Key) → x.score ≡ s → x.number ≡ u → is_less x (key p (progress st) (front_of b) v) ≡ (nat_lt s (key p (progress st) (front_of b) v).score || (nat_eq s (key p (progress st) (front_of b) v).score && nat_lt u v))
    less_is s u v x e f = ap (λ (n : ℕ). nat_lt n (key p (progress st) (front_of b) v).score || (nat_eq n (key p (progress st) (front_of b) v).score && nat_lt x.number v)) e ∙ ap (λ (n : ℕ). nat_lt s (key p (progress st) (front_of b) v).score || (nat_eq s (key p (progress st) (front_of b) v).score && nat_lt n v)) f

    step : (t : ℕ) → IsOpen p (progress st) (front_of b) t → (is_clean p t || fits_after p (progress st) (front_of b) t) ≡ true → ((u : ℕ) (l : Key) → u < count_tasks p → open_key p (progress st) (front_of b) u ≡ Some l → is_less l (key p (progress st) (front_of b) t) ≡ false) → IsStep p (progress st) (front_of b) t
    step t opens test none_less = by_clean (is_clean p t) refl
      where
        lowest : is_clean p t ≡ true → (u : ℕ) → u < t → IsOpen p (progress st) (front_of b) u → is_clean p u ≡ false
        lowest c u l o = false_of (is_clean p u) (λ d.
            let off = none_less u (key p (progress st) (front_of b) u) o.in_range (clean_open u o d) in
            let zero_u = score_clean u d in let zero_t = score_clean t c in
            let g : is_less (key p (progress st) (front_of b) u) (key p (progress st) (front_of b) t) ≡ true = less_is 0 u t (key p (progress st) (front_of b) u) zero_u refl ∙ ap (λ (n : ℕ). nat_lt 0 n || (nat_eq 0 n && nat_lt u t)) zero_t ∙ clean_first u t l in
            true_false (is_less (key p (progress st) (front_of b) u) (key p (progress st) (front_of b) t)) g off)

        no_clean : is_clean p t ≡ false → (u : ℕ) → IsOpen p (progress st) (front_of b) u → is_clean p u ≡ false
        no_clean c u o = false_of (is_clean p u) (λ d.
            let off = none_less u (key p (progress st) (front_of b) u) o.in_range (clean_open u o d) in
            let zero_u = score_clean u d in let score_t = score_other t c in let s = small t in
            let positive : 0 < (key p (progress st) (front_of b) t).score = omega (arith, score_t, s) in
            let g : is_less (key p (progress st) (front_of b) u) (key p (progress st) (front_of b) t) ≡ true = less_is 0 u t (key p (progress st) (front_of b) u) zero_u refl ∙ or_left (nat_lt 0 (key p (progress st) (front_of b) t).score) (nat_eq 0 (key p (progress st) (front_of b) t).score && nat_lt u t) (let q : nat_lt 0 (key p (progress st) (front_of b) t).score ≡ true = grind (arith, positive) in q) in
            true_false (is_less (key p (progress st) (front_of b) u) (key p (progress st) (front_of b) t)) g off)

        before : is_clean p t ≡ false → (u : ℕ) → IsOpen p (progress st) (front_of b) u → IsFitting p (progress st) (front_of b) u → IsBefore p (progress st) (front_of b) t u
        before c u o f =
            let off = none_less u (key p (progress st) (front_of b) u) o.in_range (fit_open u o f) in
            let score_u = score_other u (no_clean c u o) in
            before_of (comes p (progress st) t) (goes p (progress st) (front_of b) t) (comes p (progress st) u) (goes p (progress st) (front_of b) u) t u (small t) (small u)
            (ap (λ (n : ℕ). nat_lt (2 ^ 62 + comes p (progress st) u - goes p (progress st) (front_of b) u) n || (nat_eq (2 ^ 62 + comes p (progress st) u - goes p (progress st) (front_of b) u) n && nat_lt u t)) (sym (score_other t c)) ∙ sym (less_is (2 ^ 62 + comes p (progress st) u - goes p (progress st) (front_of b) u) u t (key p (progress st) (front_of b) u) score_u refl) ∙ off)

        by_clean : (c : Bool) → is_clean p t ≡ c → IsStep p (progress st) (front_of b) t
        by_clean true e = inl (record { opens = opens; clean = e; lowest = lowest e })
        by_clean false e = inr (record { no_clean = no_clean e; opens = opens; fits = is_fits p (progress st) (front_of b) t (sym (ap (λ (x : Bool). x || fits_after p (progress st) (front_of b) t) e) ∙ test); least = before e })

pub no_clean_open : (p : Plan) (st : Progress) (front : List ℕ) → ((u : ℕ) → u < count_tasks p → open_key p st front u ≡ None) → (u : ℕ) → IsOpen p st front u → is_clean p u ≡ false
no_clean_open p st front none u o = false_of (is_clean p u) (λ c. let no = none u o.in_range in let yes = open_of p st front u o (or_left (is_clean p u) (fits_after p st front u) c) in absurd (let x = sym no ∙ yes in cc))

pub no_fit_open : (p : Plan) (st : Progress) (front : List ℕ) → ((u : ℕ) → u < count_tasks p → open_key p st front u ≡ None) → (u : ℕ) → IsOpen p st front u → IsFitting p st front u → ⊥
no_fit_open p st front none u o f = let no = none u o.in_range in let yes = open_of p st front u o (or_right (is_clean p u) (fits_after p st front u) (fits_is p st front u f)) in absurd (let x = sym no ∙ yes in cc)

-- what a placed task leaves as it was
nothing_over : (f : ℕ → ℕ) (xs : List ℕ) → ((c : ℕ) → has xs c ≡ true → f c ≡ 0) → sum_of f xs ≡ 0
nothing_over f [] h = refl
nothing_over f (x ∷ xs) h =
    let here : f x ≡ 0 = h x (or_left (nat_eq x x) (has xs x) (let e : nat_eq x x ≡ true = grind arith in e)) in
    let rest = nothing_over f xs (λ c m. h c (or_right (nat_eq x c) (has xs c) m)) in
    omega (arith, here, rest)

pub record AreChildren (p : Plan) (t : ℕ) (xs : List ℕ) : Type 0 where
  pub same : (c : ℕ) → has xs c ≡ has (parents p c) t
  pub rises : RisesFrom 0 xs
  pub below : (c : ℕ) → has xs c ≡ true → c < count_tasks p

plain : (a b : Bool) → b ≡ false → (a || b) ≡ a
plain true b e = refl
plain false true e = absurd cc
plain false false e = refl

done_kept : (st : Progress) (front : List ℕ) (t u : ℕ) → u ≢ t → is_done st (front ++ t ∷ []) u ≡ is_done st front u
done_kept st front t u ne = done_next st front t u ∙ plain (is_done st front u) (nat_eq t u) (false_of (nat_eq t u) (λ e. ne (sym (eqb-true t u e))))

not_zero : (n : ℕ) → n ≢ 0 → nat_eq n 0 ≡ false
not_zero n ne = false_of (nat_eq n 0) (λ e. ne (eqb-true n 0 e))

ready_kept : (p : Plan) (st : Progress) (front : List ℕ) (t u : ℕ) (xs : List ℕ) → IsOrderable p → is_done st front t ≡ false → AreChildren p t xs → ((c : ℕ) → has xs c ≡ true → IsApart p st (front ++ t ∷ []) c u) → is_ready p st.phase (front ++ t ∷ []) u ≡ is_ready p st.phase front u
ready_kept p st front t u xs able waits are apart = by_child (has (parents p u) t) refl
  where
    by_child : (b : Bool) → has (parents p u) t ≡ b → is_ready p st.phase (front ++ t ∷ []) u ≡ is_ready p st.phase front u
    by_child true e =
        let some = (apart u (are.same u ∙ e)).0 refl in
        let less = missing_less p st front t u able waits e in
        ready_missing p st (front ++ t ∷ []) u ∙ not_zero (missing p st (front ++ t ∷ []) u) some ∙ sym (ready_missing p st front u ∙ (let g : nat_eq (missing p st front u) 0 ≡ false = grind (arith, less) in g))
    by_child false e = ready_missing p st (front ++ t ∷ []) u ∙ ap (λ (n : ℕ). nat_eq n 0) (missing_same p st front t u e) ∙ sym (ready_missing p st front u)

goes_same : (p : Plan) (st : Progress) (front : List ℕ) (t u : ℕ) (xs : List ℕ) → IsOrderable p → is_done st front t ≡ false → AreChildren p t xs → is_done st (front ++ t ∷ []) u ≡ false → ((c : ℕ) → has xs c ≡ true → IsApart p st (front ++ t ∷ []) c u) → goes p st (front ++ t ∷ []) u ≡ goes p st front u
goes_same p st front t u xs able waits are still apart =
    let next = goes_next p st front t u xs able waits still are.same (rises_once 0 xs are.rises) are.below in
    let none = nothing_over (last_of p st (front ++ t ∷ []) u) xs (λ c m. (apart c m).1 still) in
    omega (arith, next, none)

open_kept : (p : Plan) (st : Progress) (front : List ℕ) (t u : ℕ) (xs : List ℕ) → IsOrderable p → is_done st front t ≡ false → AreChildren p t xs → u ≢ t → ((c : ℕ) → has xs c ≡ true → IsApart p st (front ++ t ∷ []) c u) → is_open p st (front ++ t ∷ []) u ≡ is_open p st front u
open_kept p st front t u xs able waits are ne apart =
    ap (λ (d : Bool). not d && is_ready p st.phase (front ++ t ∷ []) u) (done_kept st front t u ne) ∙ ap (λ (r : Bool). not (is_done st front u) && r) (ready_kept p st front t u xs able waits are apart)

open_waits : (p : Plan) (st : Progress) (front : List ℕ) (u : ℕ) → is_open p st front u ≡ true → is_done st front u ≡ false
open_waits p st front u h = by (is_done st front u) h
  where
    by : (d : Bool) → (not d && is_ready p st.phase front u) ≡ true → d ≡ false
    by true e = absurd cc
    by false e = refl

key_same : (p : Plan) (st : Progress) (front : List ℕ) (t u : ℕ) (xs : List ℕ) → IsOrderable p → is_done st front t ≡ false → AreChildren p t xs → u ≢ t → ((c : ℕ) → has xs c ≡ true → IsApart p st (front ++ t ∷ []) c u) → is_open p st front u ≡ true → key p st (front ++ t ∷ []) u ≡ key p st front u
key_same p st front t u xs able waits are ne apart o =
    let still : is_done st (front ++ t ∷ []) u ≡ false = done_kept st front t u ne ∙ open_waits p st front u o in
    ap (λ (g : ℕ). keyed_at g) (goes_same p st front t u xs able waits are still apart)
  where
    keyed_at : ℕ → Key
    keyed_at g = record { score = cond (is_clean p u) 0 (2 ^ 62 + comes p st u - g); number = u }

pub key_kept : (p : Plan) (st : Progress) (front : List ℕ) (t u : ℕ) (xs : List ℕ) → IsOrderable p → is_done st front t ≡ false → AreChildren p t xs → u ≢ t → ((c : ℕ) → has xs c ≡ true → IsApart p st (front ++ t ∷ []) c u) → ready_key p st (front ++ t ∷ []) u ≡ ready_key p st front u
key_kept p st front t u xs able waits are ne apart =
    ap (λ (b : Bool). cond b (Some (key p st (front ++ t ∷ []) u)) None) (open_kept p st front t u xs able waits are ne apart) ∙ by_open (is_open p st front u) refl
  where
    by_open : (o : Bool) → is_open p st front u ≡ o → cond o (Some (key p st (front ++ t ∷ []) u)) None ≡ cond o (Some (key p st front u)) None
    by_open true e = ap (λ (k : Key). Some k) (key_same p st front t u xs able waits are ne apart e)
    by_open false e = refl

-- tasks of a home that has nothing to do with the children are apart from them
away_apart : (p : Plan) (st : Progress) (front : List ℕ) (c u : ℕ) → IsOrderable p → IsAway p st front c (home p u) → IsApart p st front c u
away_apart p st front c u able away = (
  λ same. away.0 (ap (home p) (sym same)),
  λ w. by_test (has (parents p c) u) refl (nat_eq (missing p st front c) 1) refl w,
)
  where
    by_test : (h : Bool) → has (parents p c) u ≡ h → (m : Bool) → nat_eq (missing p st front c) 1 ≡ m → is_done st front u ≡ false → cond (h && m) (frees p st c) 0 ≡ 0
    by_test false e m f w = refl
    by_test true e false f w = refl
    by_test true e true f w = absurd (away.1 u (eqb-true (missing p st front c) 1 f) (last_is p st front c u able (eqb-true (missing p st front c) 1 f) e w) refl)

fits_kept : (p : Plan) (st : Standing) (b new : Front) (t u : ℕ) → IsSet p st b → IsSet p st new → front_of new ≡ front_of b ++ t ∷ [] → IsOpen p (progress st) (front_of b) u → IsOpen p (progress st) (front_of new) u → is_clean p u ≡ false → ((s : ℕ) → place p u ≡ Some s → place p t ≡ Some s → ⊥)
    → fits_after p (progress st) (front_of new) u ≡ fits_after p (progress st) (front_of b) u
fits_kept p st b new t u is now next before after clean off = by_place (place p u) refl
  where
    by_place : (o : Option ℕ) → place p u ≡ o → fits_after p (progress st) (front_of new) u ≡ fits_after p (progress st) (front_of b) u
    by_place None e = fits_is p (progress st) (front_of new) u (fits_nowhere p (progress st) (front_of new) u is.orderable now.front.within e) ∙ sym (fits_is p (progress st) (front_of b) u (fits_nowhere p (progress st) (front_of b) u is.orderable is.front.within e))
    by_place (Some s) e =
        let below = is.orderable.place_below u s e in
        let same : get_or new.used.items s 0 ≡ get_or b.used.items s 0 = now.front.used_is s below ∙ ap (λ (f : List ℕ). usage p (size (progress st)) f s) next ∙ usage_elsewhere p (size (progress st)) (front_of b) t s is.orderable below (off s e) ∙ sym (is.front.used_is s below) in
        sym (need_fits p st new u s (2 ^ 62 + min (place_bound p s - get_or new.used.items s 0) (2 ^ 62)) now after clean e refl)
        ∙ ap (λ (n : ℕ). nat_le (need_at p (progress st) u (Some s)) (2 ^ 62 + min (place_bound p s - n) (2 ^ 62))) same
        ∙ need_fits p st b u s (2 ^ 62 + min (place_bound p s - get_or b.used.items s 0) (2 ^ 62)) is before clean e refl

open_key_kept : (p : Plan) (st : Standing) (b new : Front) (t u : ℕ) (xs : List ℕ) → IsSet p st b → IsSet p st new → front_of new ≡ front_of b ++ t ∷ [] → is_done (progress st) (front_of b) t ≡ false → AreChildren p t xs → u < count_tasks p
    → home p u ≢ home p t → (place p t ≡ Some (home p u) → ⊥) → ((c : ℕ) → has xs c ≡ true → IsAway p (progress st) (front_of new) c (home p u)) → open_key p (progress st) (front_of new) u ≡ open_key p (progress st) (front_of b) u
open_key_kept p st b new t u xs is now next waits are l ne off away =
    ap (λ (x : Bool). cond (x && (is_clean p u || fits_after p (progress st) (front_of new) u)) (Some (key p (progress st) (front_of new) u)) None) opens ∙ by_open (is_open p (progress st) (front_of b) u) refl
  where
    other : u ≢ t
    other = λ same. ne (ap (home p) same)

    apart : (c : ℕ) → has xs c ≡ true → IsApart p (progress st) (front_of b ++ t ∷ []) c u
    apart c m = subst (λ (f : List ℕ). IsApart p (progress st) f c u) next (away_apart p (progress st) (front_of new) c u is.orderable (away c m))

    opens : is_open p (progress st) (front_of new) u ≡ is_open p (progress st) (front_of b) u
    opens = ap (λ (f : List ℕ). is_open p (progress st) f u) next ∙ open_kept p (progress st) (front_of b) t u xs is.orderable waits are other apart

    keys : is_open p (progress st) (front_of b) u ≡ true → key p (progress st) (front_of new) u ≡ key p (progress st) (front_of b) u
    keys o = ap (λ (f : List ℕ). key p (progress st) f u) next ∙ key_same p (progress st) (front_of b) t u xs is.orderable waits are other apart o

    there : is_clean p u ≡ false → (s : ℕ) → place p u ≡ Some s → place p t ≡ Some s → ⊥
    there c s e f = off (f ∙ ap (λ (n : ℕ). Some n) (sym (ap (λ (x : Bool). cond x (places p + 1) (or_number (places p) (place p u))) c ∙ ap (or_number (places p)) e)))

    tests : is_open p (progress st) (front_of b) u ≡ true → (is_clean p u || fits_after p (progress st) (front_of new) u) ≡ (is_clean p u || fits_after p (progress st) (front_of b) u)
    tests o = by_bool (is_clean p u)
        (λ c. or_left (is_clean p u) (fits_after p (progress st) (front_of new) u) c ∙ sym (or_left (is_clean p u) (fits_after p (progress st) (front_of b) u) c))
        (λ c. ap (λ (x : Bool). is_clean p u || x) (fits_kept p st b new t u is now next (opens_come p (progress st) (front_of b) u l o) (opens_come p (progress st) (front_of new) u l (opens ∙ o)) c (there c)))

    by_open : (o : Bool) → is_open p (progress st) (front_of b) u ≡ o → cond (o && (is_clean p u || fits_after p (progress st) (front_of new) u)) (Some (key p (progress st) (front_of new) u)) None ≡ cond (o && (is_clean p u || fits_after p (progress st) (front_of b) u)) (Some (key p (progress st) (front_of b) u)) None
    by_open false e = refl
    by_open true e = ap (λ (x : Bool). cond x (Some (key p (progress st) (front_of new) u)) None) (tests e) ∙ ap (λ (k : Key). cond (is_clean p u || fits_after p (progress st) (front_of b) u) (Some k) None) (keys e)

same_best : (p : Plan) (st : Progress) (old new : List ℕ) (h : ℕ) (o : Option Key) → ((u : ℕ) → u < count_tasks p → home p u ≡ h → open_key p st new u ≡ open_key p st old u) → IsBestAt p st old h o → IsBestAt p st new h o
same_best p st old new h None same best = λ t l at. same t l at ∙ best t l at
same_best p st old new h (Some k) same best = ((best.0.0, best.0.1, best.0.2, same best.0.0 best.0.1 best.0.2 ∙ best.0.3), λ t m l at e. best.1 t m l at (sym (same t l at) ∙ e))

pub best_kept : (p : Plan) (st : Standing) (b new : Front) (t h : ℕ) (xs : List ℕ) (o : Option Key) → IsSet p st b → IsSet p st new → front_of new ≡ front_of b ++ t ∷ [] → is_done (progress st) (front_of b) t ≡ false → AreChildren p t xs
    → h ≢ home p t → (place p t ≡ Some h → ⊥) → ((c : ℕ) → has xs c ≡ true → IsAway p (progress st) (front_of new) c h) → IsBestAt p (progress st) (front_of b) h o → IsBestAt p (progress st) (front_of new) h o
best_kept p st b new t h xs o is now next waits are ne off away best = same_best p (progress st) (front_of b) (front_of new) h o (λ u l at. open_key_kept p st b new t u xs is now next waits are l
    (λ e. ne (sym at ∙ e)) (λ e. off (e ∙ ap (λ (n : ℕ). Some n) at)) (λ c m. subst (IsAway p (progress st) (front_of new) c) (sym at) (away c m))) best

pub goes_go_on : (p : Plan) (st : Progress) (front gs : List ℕ) (t v : ℕ) (xs : List ℕ) → IsOrderable p → is_done st front t ≡ false → AreChildren p t xs → AreGoes p st front gs → is_done st (front ++ t ∷ []) v ≡ false → goes p st (front ++ t ∷ []) v ≡ get_or gs v 0 + sum_of (last_of p st (front ++ t ∷ []) v) xs
goes_go_on p st front gs t v xs able waits are is still =
    let next = goes_next p st front t v xs able waits still are.same (rises_once 0 xs are.rises) are.below in
    let was = is.each v (first (is_done st front v) (nat_eq t v) (sym (done_next st front t v) ∙ still)) in
    omega (arith, next, was)
  where
    first : (a b : Bool) → (a || b) ≡ false → a ≡ false
    first true b h = absurd cc
    first false b h = refl
