-- The numbers of pairs.
use Rattle.std.proofs.Common.{◌≡◌, ℕ, zero, suc, ◌+◌, ◌-◌, ◌<◌, ◌≤◌, length, nat_eq, Bool, true, false, cond, ◌||◌, ◌&&◌, List, [], ◌∷◌, ◌++◌, drop, get_or, refl, sym, ap, ◌∙◌, arith}
use Rattle.std.specs.Prelude.{Option, Some, None, is_some, position, slice_get, option_to_list}
use Rattle.std.specs.List.{position_from, list_any, flat_map}
use Rattle.std.specs.Map.{lookup}
use Rattle.std.specs.Option.{option_or}
use Rattle.std.proofs.lemmas.Iterator.Adapters.{position_from-zero}
use Rattle.std.proofs.lemmas.List.{append_assoc, at_drop_more}
use Rattle.std.proofs.lemmas.Option.{slice_get_within}
use Rattle.plan_core.specs.declared.plan.Pair.{Pair}
use Rattle.plan_core.specs.Kinds.{on_pair}
use Rattle.plan_core.specs.Numbers.{has, below}
use Rattle.plan_core.specs.code.Numbers.{RisesFrom}
use Rattle.plan_core.specs.code.Words.{pair_at}
use Rattle.plan_core.specs.declared.files.SiteFiles.{SiteFiles}
use Rattle.plan_core.specs.code.Files.{AreFilesOf}
use Rattle.transfer_refiner.specs.code.Places.{is_place, is_pair_of, place_of, places_at, AreOnce}
use Rattle.plan_core.proofs.TestLemmas.{same_number, both, by_bool}
use Rattle.plan_core.proofs.RisingLemmas.{rising_is_below}
use Rattle.transfer_refiner.proofs.JobsLemmas.{any_same}
use Rattle.transfer_refiner.proofs.EdgesLemmas.{any_flat, any_and}

abbrev pub Known : Type 0
Known = List ((ℕ × ℕ) × ℕ)

abbrev pub pair_eq : ℕ × ℕ → ℕ × ℕ → Bool
pair_eq x y = nat_eq x.0 y.0 && nat_eq x.1 y.1

-- a pair's number among the known ones, else among the rest, which begins at number i
abbrev pub place_in : Known → ℕ → List Pair → ℕ → ℕ → Option ℕ
place_in known i rest s f = option_or (lookup (is_place s f) known) (position_from (is_pair_of s f) i rest)

lookup_more : (p : ℕ × ℕ → Bool) (known : Known) (k : ℕ × ℕ) (i : ℕ) → lookup p (known ++ (k, i) ∷ []) ≡ option_or (lookup p known) (cond (p k) (Some i) None)
lookup_more p [] k i = refl
lookup_more p (e ∷ known) k i = by (p e.0) (lookup_more p known k i)
  where
    by : (b : Bool) → lookup p (known ++ (k, i) ∷ []) ≡ option_or (lookup p known) (cond (p k) (Some i) None)
        → cond b (Some e.1) (lookup p (known ++ (k, i) ∷ [])) ≡ option_or (cond b (Some e.1) (lookup p known)) (cond (p k) (Some i) None)
    by true rest = refl
    by false rest = rest

pub at_first : (es : List Pair) (s f : ℕ) → place_in [] 0 es s f ≡ position (is_pair_of s f) es
at_first es s f = sym (position_from-zero (is_pair_of s f) es)

pub none_of : {X : Type 0} (o : Option X) → is_some o ≡ false → o ≡ None
none_of None h = refl
none_of (Some x) h = absurd cc

pub step_known : (known : Known) (i : ℕ) (e : Pair) (rest : List Pair) (s f : ℕ) → is_some (lookup (pair_eq (e.site.0, e.file.0)) known) ≡ true → place_in known (i + 1) rest s f ≡ place_in known i (e ∷ rest) s f
step_known known i e rest s f h = by (is_pair_of s f e) refl
  where
    held : (o : Option ℕ) (a b : Option ℕ) → is_some o ≡ true → option_or o a ≡ option_or o b
    held None a b k = absurd cc
    held (Some n) a b k = refl

    by : (b : Bool) → is_pair_of s f e ≡ b → place_in known (i + 1) rest s f ≡ option_or (lookup (is_place s f) known) (cond b (Some i) (position_from (is_pair_of s f) (i + 1) rest))
    by true same =
        let parts = both (nat_eq s e.site.0) (nat_eq f e.file.0) same in
        held (lookup (is_place s f) known) _ _
        (ap (λ (n : ℕ). is_some (lookup (is_place n f) known)) (same_number s e.site.0 parts.0) ∙ ap (λ (n : ℕ). is_some (lookup (is_place e.site.0 n) known)) (same_number f e.file.0 parts.1) ∙ h)
    by false same = refl

pub step_new : (known : Known) (i : ℕ) (e : Pair) (rest : List Pair) (s f : ℕ) → place_in (known ++ ((e.site.0, e.file.0), i) ∷ []) (i + 1) rest s f ≡ place_in known i (e ∷ rest) s f
step_new known i e rest s f =
    ap (λ (o : Option ℕ). option_or o (position_from (is_pair_of s f) (i + 1) rest)) (lookup_more (is_place s f) known (e.site.0, e.file.0) i)
    ∙ by (lookup (is_place s f) known) (is_pair_of s f e)
  where
    by : (o : Option ℕ) (b : Bool) → option_or (option_or o (cond b (Some i) None)) (position_from (is_pair_of s f) (i + 1) rest) ≡ option_or o (cond b (Some i) (position_from (is_pair_of s f) (i + 1) rest))
    by None true = refl
    by None false = refl
    by (Some n) b = refl

-- ---- the number of a pair that stands once

found_from : (test : Pair → Bool) (i q : ℕ) (xs : List Pair) → position_from test i xs ≡ Some q → (x : Pair) × (i ≤ q) × (slice_get xs (q - i) ≡ Some x) × (test x ≡ true)
found_from test i q [] h = absurd cc
found_from test i q (y ∷ xs) h = by (test y) refl h (λ k. found_from test (i + 1) q xs k)
  where
    by : (b : Bool) → test y ≡ b → cond b (Some i) (position_from test (i + 1) xs) ≡ Some q → (position_from test (i + 1) xs ≡ Some q → (x : Pair) × (i + 1 ≤ q) × (slice_get xs (q - (i + 1)) ≡ Some x) × (test x ≡ true)) → (x : Pair) × (i ≤ q) × (slice_get (y ∷ xs) (q - i) ≡ Some x) × (test x ≡ true)
    by true e k rest = let same : i ≡ q = cc in let z : q - i ≡ 0 = omega arith in (y, omega arith, ap (slice_get (y ∷ xs)) z, e)
    by false e k rest =
        let r = rest k in
        let l : i + 1 ≤ q = r.1 in
        let z : q - i ≡ suc (q - (i + 1)) = omega arith in
        (r.0, omega arith, ap (slice_get (y ∷ xs)) z ∙ r.2, r.3)

none_from : (test : Pair → Bool) (i : ℕ) (xs : List Pair) → position_from test i xs ≡ None → (k : ℕ) (x : Pair) → slice_get xs k ≡ Some x → test x ≡ false
none_from test i [] h k x e = absurd cc
none_from test i (y ∷ xs) h k x e = by (test y) refl h (λ g. none_from test (i + 1) xs g)
  where
    at : (k : ℕ) → test y ≡ false → ((k : ℕ) (x : Pair) → slice_get xs k ≡ Some x → test x ≡ false) → slice_get (y ∷ xs) k ≡ Some x → test x ≡ false
    at zero e rest g = let same : y ≡ x = cc in ap test (sym same) ∙ e
    at (suc k) e rest g = rest k x g

    by : (b : Bool) → test y ≡ b → cond b (Some i) (position_from test (i + 1) xs) ≡ None → (position_from test (i + 1) xs ≡ None → (k : ℕ) (x : Pair) → slice_get xs k ≡ Some x → test x ≡ false) → test x ≡ false
    by true g r rest = absurd cc
    by false g r rest = at k g (rest r) e

eq_turned : (a b : ℕ) → nat_eq a b ≡ nat_eq b a
eq_turned a b = grind arith

pair_turned : (s f : ℕ) (x : Pair) → is_pair_of s f x ≡ pair_at (Some x) s f
pair_turned s f x = ap (λ (b : Bool). b && nat_eq f x.file.0) (eq_turned s x.site.0) ∙ ap (λ (b : Bool). nat_eq x.site.0 s && b) (eq_turned f x.file.0)

place_is : (pairs : List Pair) → AreOnce pairs → (s f q : ℕ) → has (place_of pairs s f) q ≡ pair_at (slice_get pairs q) s f
place_is pairs once s f q = by (position (is_pair_of s f) pairs) refl
  where
    from : position (is_pair_of s f) pairs ≡ position_from (is_pair_of s f) 0 pairs
    from = position_from-zero (is_pair_of s f) pairs

    or_no : (b : Bool) → (b || false) ≡ b
    or_no true = refl
    or_no false = refl

    at_none : (o : Option Pair) → slice_get pairs q ≡ o → position_from (is_pair_of s f) 0 pairs ≡ None → false ≡ pair_at o s f
    at_none None e n = refl
    at_none (Some x) e n = sym (none_from (is_pair_of s f) 0 pairs n q x e) ∙ pair_turned s f x

    by : (o : Option ℕ) → position (is_pair_of s f) pairs ≡ o → has (option_to_list o) q ≡ pair_at (slice_get pairs q) s f
    by None e = at_none (slice_get pairs q) refl (sym from ∙ e)
    by (Some p) e =
        let found = found_from (is_pair_of s f) 0 p pairs (sym from ∙ e) in
        let z : p - 0 ≡ p = omega arith in
        let at : slice_get pairs p ≡ Some found.0 = ap (slice_get pairs) (sym z) ∙ found.2 in
        let is : pair_at (slice_get pairs p) s f ≡ true = ap (λ (o : Option Pair). pair_at o s f) at ∙ sym (pair_turned s f found.0) ∙ found.3 in
        or_no (nat_eq p q) ∙ by_bool (nat_eq p q)
        (λ k. k ∙ sym (ap (λ (n : ℕ). pair_at (slice_get pairs n) s f) (sym (same_number p q k)) ∙ is))
        (λ k. by_bool (pair_at (slice_get pairs q) s f) (λ h. absurd (let x : true ≡ false = sym (same p q (once p q s f is h)) ∙ k in cc)) (λ h. k ∙ sym h))
      where
        same : (a b : ℕ) → a ≡ b → nat_eq a b ≡ true
        same a b g = grind arith

any_none : (fs : List ℕ) → list_any (λ (f : ℕ). false) fs ≡ false
any_none [] = refl
any_none (f ∷ fs) = any_none fs

pub listed_are : (pairs : List Pair) (test : ℕ → ℕ → Bool) (found : SiteFiles) (list sorted : List ℕ) → AreOnce pairs → AreFilesOf test found → list ≡ places_at pairs found.site.0 found.files.items → RisesFrom 0 sorted → ((x : ℕ) → has sorted x ≡ has list x)
    → sorted ≡ below (length pairs) (λ q. on_pair test (slice_get pairs q))
listed_are pairs test found list sorted once are is rises same = rising_is_below (length pairs) (λ q. on_pair test (slice_get pairs q)) sorted rises
    (λ q h. let k : on_pair test (slice_get pairs q) ≡ true = sym (each q) ∙ h in (within q (slice_get pairs q) refl k, k))
    (λ q l h. each q ∙ h)
  where
    within : (q : ℕ) (o : Option Pair) → slice_get pairs q ≡ o → on_pair test o ≡ true → q < length pairs
    within q None e k = absurd cc
    within q (Some x) e k = slice_get_within pairs q x e

    on : (o : Option Pair) → list_any (λ (f : ℕ). pair_at o found.site.0 f) found.files.items ≡ on_pair test o
    on None = any_none found.files.items
    on (Some x) =
        any_and (nat_eq x.site.0 found.site.0) (λ (f : ℕ). nat_eq x.file.0 f) found.files.items
        ∙ ap (λ (b : Bool). b && list_any (λ (f : ℕ). nat_eq x.file.0 f) found.files.items) (eq_turned x.site.0 found.site.0)
        ∙ ap (λ (b : Bool). nat_eq found.site.0 x.site.0 && b) (any_same (λ (f : ℕ). nat_eq x.file.0 f) (λ (f : ℕ). nat_eq f x.file.0) found.files.items (λ f. eq_turned x.file.0 f))
        ∙ sym (are.same x.site.0 x.file.0)

    each : (q : ℕ) → has sorted q ≡ on_pair test (slice_get pairs q)
    each q =
        same q ∙ ap (λ (xs : List ℕ). has xs q) is
        ∙ any_flat (λ y. nat_eq y q) (place_of pairs found.site.0) found.files.items
        ∙ any_same (λ (f : ℕ). has (place_of pairs found.site.0 f) q) (λ (f : ℕ). pair_at (slice_get pairs q) found.site.0 f) found.files.items (λ f. place_is pairs once found.site.0 f q)
        ∙ on (slice_get pairs q)

-- one element more
pub flat_more : {A B : Type 0} (g : A → List B) (xs : List A) (i : ℕ) (d : A) (old new total : List B) → i < length xs → new ≡ old ++ g (get_or xs i d) → old ++ flat_map g (drop i xs) ≡ total → new ++ flat_map g (drop (i + 1) xs) ≡ total
flat_more g xs i d old new total low now so_far =
    ap (λ ys. ys ++ flat_map g (drop (i + 1) xs)) now ∙ append_assoc old (g (get_or xs i d)) (flat_map g (drop (i + 1) xs))
    ∙ ap (λ ys. old ++ ys) (sym (at_drop_more (flat_map g) xs i d low)) ∙ so_far
