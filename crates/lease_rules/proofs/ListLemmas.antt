-- Lists of numbers, each once; tests of one more element.
use Rattle.std.proofs.Common.{◌≡◌, ℕ, zero, suc, ◌||◌, ◌&&◌, Bool, true, false, cond, eqb, eqb-true, List, [], ◌∷◌, ◌≤◌, ◌<◌, length, get_or, subst, take, refl, sym, ap, ◌∙◌, arith}
use Rattle.std.specs.Prelude.{not, filter}
use Rattle.std.proofs.lemmas.Bool.{eqb-false}
use Rattle.std.specs.List.{list_any, list_all}
use Rattle.lease_rules.specs.State.{without}
use Rattle.plan_core.specs.Numbers.{has}
use Rattle.storage_simulation.specs.Following.{AreOnce, once}

cond_cons : (b c : Bool) (x : ℕ) (ys zs : List ℕ) (t : ℕ) → zs ≡ without t ys → eqb t x ≡ c → cond (b && not c) (x ∷ zs) zs ≡ without t (cond b (x ∷ ys) ys)
cond_cons false c x ys zs t e h = e
cond_cons true true x ys zs t e h = e ∙ sym (ap (λ (d : Bool). cond (not d) (x ∷ without t ys) (without t ys)) h)
cond_cons true false x ys zs t e h = ap (λ (l : List ℕ). x ∷ l) e ∙ sym (ap (λ (d : Bool). cond (not d) (x ∷ without t ys) (without t ys)) h)

-- a filter that passes over t besides
pub filter_without : (f g : ℕ → Bool) (t : ℕ) → ((u : ℕ) → g u ≡ (f u && not (eqb t u))) → (xs : List ℕ) → filter g xs ≡ without t (filter f xs)
filter_without f g t h [] = refl
filter_without f g t h (x ∷ xs) = ap (λ (b : Bool). cond b (x ∷ filter g xs) (filter g xs)) (h x) ∙ cond_cons (f x) (eqb t x) x (filter f xs) (filter g xs) t (filter_without f g t h xs) refl

eqb_flip : (a b : ℕ) → eqb a b ≡ eqb b a
eqb_flip a b = grind arith

-- nothing is passed over where t is absent
pub without_absent : (t : ℕ) (xs : List ℕ) → has xs t ≡ false → without t xs ≡ xs
without_absent t [] h = refl
without_absent t (x ∷ xs) h = by_head (eqb x t) refl (without_absent t xs) h
  where
    by_head : (b : Bool) → eqb x t ≡ b → (has xs t ≡ false → without t xs ≡ xs) → (b || has xs t) ≡ false → without t (x ∷ xs) ≡ x ∷ xs
    by_head true e less k = absurd cc
    by_head false e less k = ap (λ (d : Bool). cond (not d) (x ∷ without t xs) (without t xs)) (eqb_flip t x ∙ e) ∙ ap (λ (l : List ℕ). x ∷ l) (less k)

without_self : (t : ℕ) (ts : List ℕ) → without t (t ∷ ts) ≡ without t ts
without_self t ts = ap (λ (d : Bool). cond (not d) (t ∷ without t ts) (without t ts)) (let e : eqb t t ≡ true = grind arith in e)

pub once_parts : (t : ℕ) (ts : List ℕ) → AreOnce (t ∷ ts) → (has ts t ≡ false) × AreOnce ts
once_parts t ts h = parts (has ts t) (once ts) h
  where
    parts : (a b : Bool) → (not a && b) ≡ true → (a ≡ false) × (b ≡ true)
    parts true b k = absurd cc
    parts false b k = (refl, k)

pub once_more : (t : ℕ) (ts : List ℕ) → has ts t ≡ false → AreOnce ts → AreOnce (t ∷ ts)
once_more t ts h k = both (has ts t) (once ts) h k
  where
    both : (a b : Bool) → a ≡ false → b ≡ true → (not a && b) ≡ true
    both true b m n = absurd cc
    both false b m n = n

pub without_head : (t : ℕ) (ts : List ℕ) → AreOnce (t ∷ ts) → without t (t ∷ ts) ≡ ts
without_head t ts h = without_self t ts ∙ without_absent t ts (once_parts t ts h).0

passes_or : (f : ℕ → Bool) (x y : ℕ) (b rest : Bool) → eqb y x ≡ b → f y ≡ true → (rest ≡ true → f x ≡ true) → (b || rest) ≡ true → f x ≡ true
passes_or f x y true rest e h less k = ap f (sym (eqb-true y x e)) ∙ h
passes_or f x y false rest e h less k = less k

pub has_filter : (f : ℕ → Bool) (x : ℕ) (xs : List ℕ) → has (filter f xs) x ≡ true → f x ≡ true
has_filter f x [] h = absurd cc
has_filter f x (y ∷ ys) h = by_test (f y) refl (has_filter f x ys) h
  where
    by_test : (b : Bool) → f y ≡ b → (has (filter f ys) x ≡ true → f x ≡ true) → has (cond b (y ∷ filter f ys) (filter f ys)) x ≡ true → f x ≡ true
    by_test false e less k = less k
    by_test true e less k = passes_or f x y (eqb y x) (has (filter f ys) x) refl e less k

or_both : (a b : Bool) → (a || b) ≡ false → (a ≡ false) × (b ≡ false)
or_both true b h = absurd cc
or_both false b h = (refl, h)

pub absent_filter : (f : ℕ → Bool) (x : ℕ) (xs : List ℕ) → has xs x ≡ false → has (filter f xs) x ≡ false
absent_filter f x [] h = refl
absent_filter f x (y ∷ ys) h = let parts = or_both (eqb y x) (has ys x) h in by_test (f y) parts.0 (absent_filter f x ys parts.1)
  where
    by_test : (b : Bool) → eqb y x ≡ false → has (filter f ys) x ≡ false → has (cond b (y ∷ filter f ys) (filter f ys)) x ≡ false
    by_test true e less = ap (λ (d : Bool). d || has (filter f ys) x) e ∙ less
    by_test false e less = less

pub once_filter : (f : ℕ → Bool) (xs : List ℕ) → AreOnce xs → AreOnce (filter f xs)
once_filter f [] h = refl
once_filter f (x ∷ xs) h = by_test (f x) (once_filter f xs (once_parts x xs h).1)
  where
    by_test : (b : Bool) → AreOnce (filter f xs) → AreOnce (cond b (x ∷ filter f xs) (filter f xs))
    by_test true less = once_more x (filter f xs) (absent_filter f x xs (once_parts x xs h).0) less
    by_test false less = less

or_mono : (c a b : Bool) → (a ≡ true → b ≡ true) → (c || a) ≡ true → (c || b) ≡ true
or_mono true a b f h = refl
or_mono false a b f h = f h

-- what is among the first k is among all
pub has_take : (xs : List ℕ) (k x : ℕ) → has (take k xs) x ≡ true → has xs x ≡ true
has_take [] zero x h = absurd cc
has_take [] (suc k) x h = absurd cc
has_take (y ∷ ys) zero x h = absurd cc
has_take (y ∷ ys) (suc k) x h = or_mono (eqb y x) (has (take k ys) x) (has ys x) (has_take ys k x) h

pub or_left : (a b : Bool) → a ≡ true → (a || b) ≡ true
or_left true b h = refl
or_left false b h = absurd cc

pub or_right : (a b : Bool) → b ≡ true → (a || b) ≡ true
or_right true b h = refl
or_right false b h = h

pub or_case : {P : Type 0} (a b : Bool) → (a || b) ≡ true → (a ≡ true → P) → (b ≡ true → P) → P
or_case true b h f g = f refl
or_case false b h f g = g h

pub by_bool : {P : Type 0} (a : Bool) → (a ≡ true → P) → (a ≡ false → P) → P
by_bool true f g = f refl
by_bool false f g = g refl

pub has_without : (t u : ℕ) (xs : List ℕ) → has xs u ≡ true → eqb t u ≡ false → has (without t xs) u ≡ true
has_without t u [] h e = absurd cc
has_without t u (x ∷ xs) h e = by_head (eqb t x) refl (has_without t u xs)
  where
    off : (c : Bool) → eqb x u ≡ c → eqb t x ≡ true → c ≡ false
    off true m n = absurd (let same : x ≡ u = eqb-true x u m in let also : eqb t u ≡ true = sym (ap (eqb t) same) ∙ n in cc)
    off false m n = refl

    by_head : (b : Bool) → eqb t x ≡ b → (has xs u ≡ true → eqb t u ≡ false → has (without t xs) u ≡ true) → has (cond (not b) (x ∷ without t xs) (without t xs)) u ≡ true
    by_head true n less = or_case (eqb x u) (has xs u) h (λ m. absurd (let no_match = off (eqb x u) refl n in cc)) (λ m. less m e)
    by_head false n less = or_case (eqb x u) (has xs u) h (λ m. or_left (eqb x u) (has (without t xs) u) m) (λ m. or_right (eqb x u) (has (without t xs) u) (less m e))

-- what is in the rest without t
pub without_has : (t u : ℕ) (xs : List ℕ) → has (without t xs) u ≡ true → (has xs u ≡ true) × (eqb t u ≡ false)
without_has t u xs h = (in_filter (λ v. not (eqb t v)) u xs h, not_true (eqb t u) (has_filter (λ v. not (eqb t v)) u xs h))
  where
    not_true : (b : Bool) → not b ≡ true → b ≡ false
    not_true true k = absurd cc
    not_true false k = refl

    in_filter : (f : ℕ → Bool) (x : ℕ) (ys : List ℕ) → has (filter f ys) x ≡ true → has ys x ≡ true
    in_filter f x [] k = absurd cc
    in_filter f x (y ∷ ys) k = by_test (f y) (in_filter f x ys) k
      where
        by_test : (b : Bool) → (has (filter f ys) x ≡ true → has ys x ≡ true) → has (cond b (y ∷ filter f ys) (filter f ys)) x ≡ true → (eqb y x || has ys x) ≡ true
        by_test true less m = or_case (eqb y x) (has (filter f ys) x) m (λ e. or_left (eqb y x) (has ys x) e) (λ e. or_right (eqb y x) (has ys x) (less e))
        by_test false less m = or_right (eqb y x) (has ys x) (less m)

pub has_head : (t : ℕ) (ts : List ℕ) → has (t ∷ ts) t ≡ true
has_head t ts = or_left (eqb t t) (has ts t) (let e : eqb t t ≡ true = grind arith in e)

pub once_without : (t : ℕ) (xs : List ℕ) → AreOnce xs → AreOnce (without t xs)
once_without t xs h = once_filter (λ u. not (eqb t u)) xs h

pub without_gone : (t : ℕ) (xs : List ℕ) → has (without t xs) t ≡ false
without_gone t xs = false_of (has (without t xs) t) (λ h. let e = (without_has t t xs h).1 in absurd (let k : eqb t t ≡ true = grind arith in cc))
  where
    false_of : (b : Bool) → (b ≡ true → ⊥) → b ≡ false
    false_of true f = absurd (f refl)
    false_of false f = refl

-- fronts of a list, and of the list without t
without_skip : (t x : ℕ) (xs : List ℕ) → eqb t x ≡ true → without t (x ∷ xs) ≡ without t xs
without_skip t x xs e = ap (λ (d : Bool). cond (not d) (x ∷ without t xs) (without t xs)) e

without_keep : (t x : ℕ) (xs : List ℕ) → eqb t x ≡ false → without t (x ∷ xs) ≡ x ∷ without t xs
without_keep t x xs e = ap (λ (d : Bool). cond (not d) (x ∷ without t xs) (without t xs)) e

nothing : List ℕ
nothing = []

take_none : (k : ℕ) → take k nothing ≡ []
unfolding nothing
take_none zero = refl
take_none (suc k) = refl

pub front_of_without : (t : ℕ) (xs : List ℕ) (k : ℕ) → k ≤ length (without t xs) → (j : ℕ) × (j ≤ length xs) × (take k (without t xs) ≡ without t (take j xs))
unfolding nothing
front_of_without t [] k l = (0, omega arith, take_none k)
front_of_without t (x ∷ xs) k l = by_test (eqb t x) refl (front_of_without t xs)
  where
    by_place : (n : ℕ) → eqb t x ≡ false → n ≤ length (x ∷ without t xs) → ((i : ℕ) → i ≤ length (without t xs) → (j : ℕ) × (j ≤ length xs) × (take i (without t xs) ≡ without t (take j xs)))
        → (j : ℕ) × (j ≤ length (x ∷ xs)) × (take n (x ∷ without t xs) ≡ without t (take j (x ∷ xs)))
    by_place zero e m less = (0, omega arith, refl)
    by_place (suc n) e m less = let h = less n (omega arith) in (suc h.0, (let a = h.1 in omega arith), ap (λ (l : List ℕ). x ∷ l) h.2 ∙ sym (without_keep t x (take h.0 xs) e))

    by_test : (b : Bool) → eqb t x ≡ b → ((i : ℕ) → i ≤ length (without t xs) → (j : ℕ) × (j ≤ length xs) × (take i (without t xs) ≡ without t (take j xs)))
        → (j : ℕ) × (j ≤ length (x ∷ xs)) × (take k (without t (x ∷ xs)) ≡ without t (take j (x ∷ xs)))
    by_test true e less =
        let h = less k (subst (λ (ys : List ℕ). k ≤ length ys) (without_skip t x xs e) l) in
        (suc h.0, (let a = h.1 in omega arith), ap (take k) (without_skip t x xs e) ∙ h.2 ∙ sym (without_skip t x (take h.0 xs) e))
    by_test false e less =
        let h = by_place k e (subst (λ (ys : List ℕ). k ≤ length ys) (without_keep t x xs e) l) less in
        (h.0, h.1, ap (take k) (without_keep t x xs e) ∙ h.2)

pub place_of_without : (t : ℕ) (xs : List ℕ) (k : ℕ) → k < length (without t xs) → (j : ℕ) × (j < length xs) × (take k (without t xs) ≡ without t (take j xs)) × (get_or (without t xs) k 0 ≡ get_or xs j 0)
place_of_without t [] k l = absurd (omega arith)
place_of_without t (x ∷ xs) k l = by_test (eqb t x) refl (place_of_without t xs)
  where
    by_place : (n : ℕ) → eqb t x ≡ false → n < length (x ∷ without t xs) → ((i : ℕ) → i < length (without t xs) → (j : ℕ) × (j < length xs) × (take i (without t xs) ≡ without t (take j xs)) × (get_or (without t xs) i 0 ≡ get_or xs j 0))
        → (j : ℕ) × (j < length (x ∷ xs)) × (take n (x ∷ without t xs) ≡ without t (take j (x ∷ xs))) × (get_or (x ∷ without t xs) n 0 ≡ get_or (x ∷ xs) j 0)
    by_place zero e m less = (0, omega arith, refl, refl)
    by_place (suc n) e m less = let h = less n (omega arith) in (suc h.0, (let a = h.1 in omega arith), ap (λ (l : List ℕ). x ∷ l) h.2 ∙ sym (without_keep t x (take h.0 xs) e), h.3)

    by_test : (b : Bool) → eqb t x ≡ b → ((i : ℕ) → i < length (without t xs) → (j : ℕ) × (j < length xs) × (take i (without t xs) ≡ without t (take j xs)) × (get_or (without t xs) i 0 ≡ get_or xs j 0))
        → (j : ℕ) × (j < length (x ∷ xs)) × (take k (without t (x ∷ xs)) ≡ without t (take j (x ∷ xs))) × (get_or (without t (x ∷ xs)) k 0 ≡ get_or (x ∷ xs) j 0)
    by_test true e less =
        let h = less k (subst (λ (ys : List ℕ). k < length ys) (without_skip t x xs e) l) in
        (suc h.0, (let a = h.1 in omega arith), ap (take k) (without_skip t x xs e) ∙ h.2 ∙ sym (without_skip t x (take h.0 xs) e), ap (λ (ys : List ℕ). get_or ys k 0) (without_skip t x xs e) ∙ h.3)
    by_test false e less =
        let h = by_place k e (subst (λ (ys : List ℕ). k < length ys) (without_keep t x xs e) l) less in
        (h.0, h.1, ap (take k) (without_keep t x xs e) ∙ h.2, ap (λ (ys : List ℕ). get_or ys k 0) (without_keep t x xs e) ∙ h.3)

pub front_to_without : (t : ℕ) (xs : List ℕ) (j : ℕ) → j ≤ length xs → (k : ℕ) × (k ≤ length (without t xs)) × (without t (take j xs) ≡ take k (without t xs))
front_to_without t [] zero l = (0, omega arith, refl)
front_to_without t [] (suc j) l = (0, omega arith, refl)
front_to_without t (x ∷ xs) zero l = (0, omega arith, refl)
front_to_without t (x ∷ xs) (suc j) l = by_test (eqb t x) refl (front_to_without t xs j (omega arith))
  where
    by_test : (b : Bool) → eqb t x ≡ b → ((k : ℕ) × (k ≤ length (without t xs)) × (without t (take j xs) ≡ take k (without t xs)))
        → (k : ℕ) × (k ≤ length (without t (x ∷ xs))) × (without t (x ∷ take j xs) ≡ take k (without t (x ∷ xs)))
    by_test true e h = (h.0, subst (λ (ys : List ℕ). h.0 ≤ length ys) (sym (without_skip t x xs e)) h.1, without_skip t x (take j xs) e ∙ h.2 ∙ ap (take h.0) (sym (without_skip t x xs e)))
    by_test false e h = (suc h.0, (let a = h.1 in let b = ap length (without_keep t x xs e) in omega (arith, b, a)), without_keep t x (take j xs) e ∙ ap (λ (l : List ℕ). x ∷ l) h.2 ∙ ap (take (suc h.0)) (sym (without_keep t x xs e)))

-- a test of t and of a list is a test of t and of the list without t
pub any_without : (f : ℕ → Bool) (t : ℕ) (xs : List ℕ) → (f t || list_any f xs) ≡ (f t || list_any f (without t xs))
any_without f t [] = refl
any_without f t (x ∷ xs) = by_test (eqb t x) refl (any_without f t xs)
  where
    twice : (a b c d : Bool) → b ≡ a → (a || c) ≡ (a || d) → (a || (b || c)) ≡ (a || d)
    twice true b c d e h = refl
    twice false true c d e h = absurd cc
    twice false false c d e h = h

    between : (a b c d : Bool) → (a || c) ≡ (a || d) → (a || (b || c)) ≡ (a || (b || d))
    between true b c d h = refl
    between false true c d h = refl
    between false false c d h = h

    by_test : (b : Bool) → eqb t x ≡ b → (f t || list_any f xs) ≡ (f t || list_any f (without t xs)) → (f t || (f x || list_any f xs)) ≡ (f t || list_any f (without t (x ∷ xs)))
    by_test true e h = twice (f t) (f x) (list_any f xs) (list_any f (without t xs)) (ap f (sym (eqb-true t x e))) h ∙ ap (λ (l : List ℕ). f t || list_any f l) (sym (without_skip t x xs e))
    by_test false e h = between (f t) (f x) (list_any f xs) (list_any f (without t xs)) h ∙ ap (λ (l : List ℕ). f t || list_any f l) (sym (without_keep t x xs e))

-- all of a list
pub all_have : (test : ℕ → Bool) (xs : List ℕ) → list_all test xs ≡ true → (u : ℕ) → has xs u ≡ true → test u ≡ true
all_have test [] h u k = absurd cc
all_have test (x ∷ xs) h u k = let parts = both (test x) (list_all test xs) h in or_case (eqb x u) (has xs u) k (λ e. subst (λ (y : ℕ). test y ≡ true) (eqb-true x u e) parts.0) (all_have test xs parts.1 u)
  where
    both : (a b : Bool) → (a && b) ≡ true → (a ≡ true) × (b ≡ true)
    both true b m = (refl, m)
    both false b m = absurd cc

pub have_all : (test : ℕ → Bool) (xs : List ℕ) → ((u : ℕ) → has xs u ≡ true → test u ≡ true) → list_all test xs ≡ true
have_all test [] h = refl
have_all test (x ∷ xs) h = both (test x) (list_all test xs) (h x (has_head x xs)) (have_all test xs (λ u k. h u (or_right (eqb x u) (has xs u) k)))
  where
    both : (a b : Bool) → a ≡ true → b ≡ true → (a && b) ≡ true
    both true b m n = n
    both false b m n = absurd cc

pub both : (a b : Bool) → (a && b) ≡ true → (a ≡ true) × (b ≡ true)
both true b m = (refl, m)
both false b m = absurd cc

pub un_not : (a : Bool) → not a ≡ true → a ≡ false
un_not true h = absurd cc
un_not false h = refl

-- numbers below n, each once, are at most n
without_shorter : (t : ℕ) (xs : List ℕ) → AreOnce xs → length xs ≤ suc (length (without t xs))
without_shorter t [] o = omega arith
without_shorter t (x ∷ xs) o = by_test (eqb t x) refl (without_shorter t xs (once_parts x xs o).1)
  where
    by_test : (b : Bool) → eqb t x ≡ b → length xs ≤ suc (length (without t xs)) → length (x ∷ xs) ≤ suc (length (cond (not b) (x ∷ without t xs) (without t xs)))
    by_test true e less =
        let parts = once_parts x xs o in
        let gone : has xs t ≡ false = ap (has xs) (eqb-true t x e) ∙ parts.0 in
        let same = ap length (without_absent t xs gone) in omega (arith, same)
    by_test false e less = omega (arith, less)

pub few_once : (n : ℕ) (xs : List ℕ) → AreOnce xs → ((u : ℕ) → has xs u ≡ true → u < n) → length xs ≤ n
few_once zero [] o h = omega arith
few_once zero (x ∷ xs) o h = absurd (let l = h x (has_head x xs) in omega (arith, l))
few_once (suc n) xs o h =
    let less = few_once n (without n xs) (once_without n xs o) (λ u m. let k = without_has n u xs m in let ne = eqb-false n u k.1 in let l = h u k.0 in omega (arith, ne, l)) in
    omega (arith, less, without_shorter n xs o)
