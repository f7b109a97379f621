-- Files at a site, and the numbers of their pairs.
use Rattle.std.proofs.Common.{◌≡◌, ℕ, zero, suc, ◌<◌, ◌≤◌, Bool, true, false, ◌&&◌, ◌||◌, List, [], ◌∷◌, length, refl, sym, ap, ◌∙◌, nat_eq, arith, ◌⊎◌, inl, inr}
use Rattle.std.specs.Prelude.{Option, Some, None, slice_get}
use Rattle.std.specs.List.{list_any}
use Rattle.std.proofs.lemmas.Bool.{cases_lt}
use Rattle.std.proofs.lemmas.Option.{slice_get_within}
use Rattle.plan_core.specs.declared.plan.Pair.{Pair}
use Rattle.plan_core.specs.Numbers.{has, below}
use Rattle.plan_core.specs.code.Numbers.{RisesFrom}
use Rattle.plan_core.specs.code.Words.{pair_at}
use Rattle.plan_core.specs.Kinds.{on_pair}
use Rattle.plan_core.specs.code.Proper.{is_before, rise_after, are_rising}
use Rattle.plan_core.specs.code.Files.{are_pairs}
use Rattle.plan_core.proofs.TestLemmas.{same_number, is_itself, or_left, or_right, both, and_both}
use Rattle.plan_core.proofs.RisingLemmas.{rising_is_below}
use Rattle.plan_core.proofs.PairLemmas.{any_place, place_any}

before_before : (q r s : Pair) → is_before q r ≡ true → is_before r s ≡ true → is_before q s ≡ true
before_before q r s h k = grind arith

later_rise : (last : Pair) (qs : List Pair) (i : ℕ) (x : Pair) → rise_after last qs ≡ true → slice_get qs i ≡ Some x → is_before last x ≡ true
later_rise last [] i x h e = absurd cc
later_rise last (q ∷ qs) zero x h e = let s : q ≡ x = cc in ap (is_before last) (sym s) ∙ (both (is_before last q) (rise_after q qs) h).0
later_rise last (q ∷ qs) (suc i) x h e = let parts = both (is_before last q) (rise_after q qs) h in before_before last q x parts.0 (later_rise q qs i x parts.1 e)

rest_rises : (q : Pair) (qs : List Pair) → rise_after q qs ≡ true → are_rising qs ≡ true
rest_rises q [] h = refl
rest_rises q (r ∷ rs) h = (both (is_before q r) (rise_after r rs) h).1

-- an earlier pair comes before a later one
pub pairs_in_order : (qs : List Pair) (i j : ℕ) (x y : Pair) → are_rising qs ≡ true → i < j → slice_get qs i ≡ Some x → slice_get qs j ≡ Some y → is_before x y ≡ true
pairs_in_order [] i j x y h l e k = absurd cc
pairs_in_order (q ∷ qs) zero zero x y h l e k = absurd (omega arith)
pairs_in_order (q ∷ qs) zero (suc j) x y h l e k = let s : q ≡ x = cc in ap (λ (z : Pair). is_before z y) (sym s) ∙ later_rise q qs j y h k
pairs_in_order (q ∷ qs) (suc i) zero x y h l e k = absurd (omega arith)
pairs_in_order (q ∷ qs) (suc i) (suc j) x y h l e k = pairs_in_order qs i j x y (rest_rises q qs h) (omega arith) e k

-- a pair at a site with a file
pub known : (o : Option Pair) (s f : ℕ) → pair_at o s f ≡ true → (x : Pair) × (o ≡ Some x) × (x.site.0 ≡ s) × (x.file.0 ≡ f)
known None s f h = absurd cc
known (Some x) s f h = let parts = both (nat_eq x.site.0 s) (nat_eq x.file.0 f) h in (x, refl, same_number x.site.0 s parts.0, same_number x.file.0 f parts.1)

files_before : (x y : Pair) (s : ℕ) → is_before x y ≡ true → x.site.0 ≡ s → y.site.0 ≡ s → x.file.0 < y.file.0
files_before x y s h a b = grind arith

-- of two pairs at one site the one with the lower file has the lower number
pub numbers_follow : (qs : List Pair) (s f g q r : ℕ) → are_rising qs ≡ true → pair_at (slice_get qs q) s f ≡ true → pair_at (slice_get qs r) s g ≡ true → f < g → q < r
numbers_follow qs s f g q r rise h k l = by (cases_lt q r) (cases_lt r q)
  where
    x : (y : Pair) × (slice_get qs q ≡ Some y) × (y.site.0 ≡ s) × (y.file.0 ≡ f)
    x = known (slice_get qs q) s f h

    z : (y : Pair) × (slice_get qs r ≡ Some y) × (y.site.0 ≡ s) × (y.file.0 ≡ g)
    z = known (slice_get qs r) s g k

    off : r < q → ⊥
    off m = let low : z.0.file.0 < x.0.file.0 = files_before z.0 x.0 s (pairs_in_order qs r q z.0 x.0 rise m z.1 x.1) z.2 x.2 in let a : x.0.file.0 ≡ f = x.3 in let b : z.0.file.0 ≡ g = z.3 in omega (arith, low, a, b, l)

    same : q ≡ r → ⊥
    same e = let o : Some x.0 ≡ Some z.0 = sym x.1 ∙ ap (slice_get qs) e ∙ z.1 in let p : x.0 ≡ z.0 = cc in let a : f ≡ g = sym x.3 ∙ ap (λ (y : Pair). y.file.0) p ∙ z.3 in omega (arith, a, l)

    by : (q < r) ⊎ (r ≤ q) → (r < q) ⊎ (q ≤ r) → q < r
    by (inl m) other = m
    by (inr m) (inl n) = absurd (off n)
    by (inr m) (inr n) = absurd (same (omega arith))

-- one pair of a site and a file
pub number_once : (qs : List Pair) (s f q r : ℕ) → are_rising qs ≡ true → pair_at (slice_get qs q) s f ≡ true → pair_at (slice_get qs r) s f ≡ true → q ≡ r
number_once qs s f q r rise h k = by (cases_lt q r) (cases_lt r q)
  where
    off : (a b : ℕ) → a < b → pair_at (slice_get qs a) s f ≡ true → pair_at (slice_get qs b) s f ≡ true → ⊥
    off a b m i j = let x = known (slice_get qs a) s f i in let z = known (slice_get qs b) s f j in
        let low : x.0.file.0 < z.0.file.0 = files_before x.0 z.0 s (pairs_in_order qs a b x.0 z.0 rise m x.1 z.1) x.2 z.2 in let c : x.0.file.0 ≡ f = x.3 in let d : z.0.file.0 ≡ f = z.3 in omega (arith, low, c, d)

    by : (q < r) ⊎ (r ≤ q) → (r < q) ⊎ (q ≤ r) → q ≡ r
    by (inl m) other = absurd (off q r m h k)
    by (inr m) (inl n) = absurd (off r q n k h)
    by (inr m) (inr n) = omega arith

-- the files of listed pairs, and the pairs of listed files
file_at : (pairs : List Pair) (s : ℕ) (qs fs : List ℕ) → are_pairs pairs s qs fs ≡ true → (q : ℕ) → has qs q ≡ true → (f : ℕ) × (has fs f ≡ true) × (pair_at (slice_get pairs q) s f ≡ true)
file_at pairs s [] fs h q k = absurd cc
file_at pairs s (r ∷ qs) [] h q k = absurd cc
file_at pairs s (r ∷ qs) (g ∷ fs) h q k = by (nat_eq r q) refl k (λ l. file_at pairs s qs fs parts.1 q l)
  where
    parts : (pair_at (slice_get pairs r) s g ≡ true) × (are_pairs pairs s qs fs ≡ true)
    parts = both (pair_at (slice_get pairs r) s g) (are_pairs pairs s qs fs) h

    by : (b : Bool) → nat_eq r q ≡ b → (b || has qs q) ≡ true → (has qs q ≡ true → (f : ℕ) × (has fs f ≡ true) × (pair_at (slice_get pairs q) s f ≡ true)) → (f : ℕ) × (has (g ∷ fs) f ≡ true) × (pair_at (slice_get pairs q) s f ≡ true)
    by true e l rest = (g, or_left (nat_eq g g) (has fs g) (is_itself g), ap (λ (n : ℕ). pair_at (slice_get pairs n) s g) (sym (same_number r q e)) ∙ parts.0)
    by false e l rest = let found = rest l in (found.0, or_right (nat_eq g found.0) (has fs found.0) found.1, found.2)

pair_for : (pairs : List Pair) (s : ℕ) (qs fs : List ℕ) → are_pairs pairs s qs fs ≡ true → (f : ℕ) → has fs f ≡ true → (q : ℕ) × (has qs q ≡ true) × (pair_at (slice_get pairs q) s f ≡ true)
pair_for pairs s [] [] h f k = absurd cc
pair_for pairs s [] (g ∷ fs) h f k = absurd cc
pair_for pairs s (r ∷ qs) [] h f k = absurd cc
pair_for pairs s (r ∷ qs) (g ∷ fs) h f k = by (nat_eq g f) refl k (λ l. pair_for pairs s qs fs parts.1 f l)
  where
    parts : (pair_at (slice_get pairs r) s g ≡ true) × (are_pairs pairs s qs fs ≡ true)
    parts = both (pair_at (slice_get pairs r) s g) (are_pairs pairs s qs fs) h

    by : (b : Bool) → nat_eq g f ≡ b → (b || has fs f) ≡ true → (has fs f ≡ true → (q : ℕ) × (has qs q ≡ true) × (pair_at (slice_get pairs q) s f ≡ true)) → (q : ℕ) × (has (r ∷ qs) q ≡ true) × (pair_at (slice_get pairs q) s f ≡ true)
    by true e l rest = (r, or_left (nat_eq r r) (has qs r) (is_itself r), ap (pair_at (slice_get pairs r) s) (sym (same_number g f e)) ∙ parts.0)
    by false e l rest = let found = rest l in (found.0, or_right (nat_eq r found.0) (has qs found.0) found.1, found.2)

numbers_rise : (pairs : List Pair) (s q f : ℕ) (qs fs : List ℕ) → are_rising pairs ≡ true → pair_at (slice_get pairs q) s f ≡ true → RisesFrom (suc f) fs → are_pairs pairs s qs fs ≡ true → RisesFrom (suc q) qs
numbers_rise pairs s q f [] fs rise at up h = tt
numbers_rise pairs s q f (r ∷ qs) [] rise at up h = absurd cc
numbers_rise pairs s q f (r ∷ qs) (g ∷ fs) rise at up h =
    let parts = both (pair_at (slice_get pairs r) s g) (are_pairs pairs s qs fs) h in
    (numbers_follow pairs s f g q r rise at parts.0 up.0, numbers_rise pairs s r g qs fs rise parts.0 up.1 parts.1)

pub listed_numbers_rise : (pairs : List Pair) (s : ℕ) (qs fs : List ℕ) → are_rising pairs ≡ true → RisesFrom 0 fs → are_pairs pairs s qs fs ≡ true → RisesFrom 0 qs
listed_numbers_rise pairs s [] fs rise up h = tt
listed_numbers_rise pairs s (r ∷ qs) [] rise up h = absurd cc
listed_numbers_rise pairs s (r ∷ qs) (g ∷ fs) rise up h =
    let parts = both (pair_at (slice_get pairs r) s g) (are_pairs pairs s qs fs) h in
    (omega arith, numbers_rise pairs s r g qs fs rise parts.0 up.1 parts.1)

-- what a test of site and file tells, where some files at one site pass
pub record Passes (test : ℕ → ℕ → Bool) (s : ℕ) (fs : List ℕ) : Type 0 where
  pub rises : RisesFrom 0 fs
  pub same : (a f : ℕ) → test a f ≡ (nat_eq s a && has fs f)

passes_at : (test : ℕ → ℕ → Bool) (s : ℕ) (fs : List ℕ) → Passes test s fs → (o : Option Pair) (f : ℕ) → pair_at o s f ≡ true → has fs f ≡ true → on_pair test o ≡ true
passes_at test s fs is o f at h = let x = known o s f at in
    ap (on_pair test) x.1 ∙ is.same x.0.site.0 x.0.file.0
    ∙ and_both (nat_eq s x.0.site.0) (has fs x.0.file.0) (ap (nat_eq s) x.2 ∙ is_itself s) (ap (has fs) x.3 ∙ h)

at_passing : (test : ℕ → ℕ → Bool) (s : ℕ) (fs : List ℕ) → Passes test s fs → (o : Option Pair) → on_pair test o ≡ true → (f : ℕ) × (pair_at o s f ≡ true) × (has fs f ≡ true)
at_passing test s fs is None h = absurd cc
at_passing test s fs is (Some x) h =
    let parts = both (nat_eq s x.site.0) (has fs x.file.0) (sym (is.same x.site.0 x.file.0) ∙ h) in
    let here : s ≡ x.site.0 = same_number s x.site.0 parts.0 in
    (x.file.0, and_both (nat_eq x.site.0 s) (nat_eq x.file.0 x.file.0) (ap (nat_eq x.site.0) here ∙ is_itself x.site.0) (is_itself x.file.0), parts.1)

-- pairs that are the files one by one are all that pass
pub listing_is : (pairs : List Pair) (test : ℕ → ℕ → Bool) (s : ℕ) (qs fs : List ℕ) → are_rising pairs ≡ true → Passes test s fs → are_pairs pairs s qs fs ≡ true → qs ≡ below (length pairs) (λ q. on_pair test (slice_get pairs q))
listing_is pairs test s qs fs rise is h = rising_is_below (length pairs) (λ q. on_pair test (slice_get pairs q)) qs (listed_numbers_rise pairs s qs fs rise is.rises h) only all
  where
    only : (q : ℕ) → has qs q ≡ true → (q < length pairs) × (on_pair test (slice_get pairs q) ≡ true)
    only q k = let found = file_at pairs s qs fs h q k in let x = known (slice_get pairs q) s found.0 found.2 in (slice_get_within pairs q x.0 x.1, passes_at test s fs is (slice_get pairs q) found.0 found.2 found.1)

    all : (q : ℕ) → q < length pairs → on_pair test (slice_get pairs q) ≡ true → has qs q ≡ true
    all q l k =
        let found = at_passing test s fs is (slice_get pairs q) k in
        let other = pair_for pairs s qs fs h found.0 found.2 in
        ap (has qs) (number_once pairs s found.0 q other.0 rise found.1 other.2) ∙ other.1

-- each file that passes has a pair
pub listing_stands : (pairs : List Pair) (test : ℕ → ℕ → Bool) (s : ℕ) (qs fs : List ℕ) → Passes test s fs → are_pairs pairs s qs fs ≡ true → (a f : ℕ) → test a f ≡ true → list_any (λ (q : Pair). pair_at (Some q) a f) pairs ≡ true
listing_stands pairs test s qs fs is h a f k =
    let parts = both (nat_eq s a) (has fs f) (sym (is.same a f) ∙ k) in
    let here : s ≡ a = same_number s a parts.0 in
    let found = pair_for pairs s qs fs h f parts.1 in
    let x = known (slice_get pairs found.0) s f found.2 in
    place_any (λ (q : Pair). pair_at (Some q) a f) pairs found.0 x.0 x.1 (ap (λ (o : Option Pair). pair_at o a f) (sym x.1) ∙ ap (λ (n : ℕ). pair_at (slice_get pairs found.0) n f) (sym here) ∙ found.2)

-- the numbers of the pairs of some files that stand
numbers_for : (pairs : List Pair) (s : ℕ) (fs : List ℕ) → ((f : ℕ) → has fs f ≡ true → list_any (λ (q : Pair). pair_at (Some q) s f) pairs ≡ true) → (qs : List ℕ) × (are_pairs pairs s qs fs ≡ true)
numbers_for pairs s [] stand = ([], refl)
numbers_for pairs s (f ∷ fs) stand =
    let found = any_place (λ (q : Pair). pair_at (Some q) s f) pairs (stand f (or_left (nat_eq f f) (has fs f) (is_itself f))) in
    let rest = numbers_for pairs s fs (λ g k. stand g (or_right (nat_eq f g) (has fs g) k)) in
    (found.0 ∷ rest.0, and_both (pair_at (slice_get pairs found.0) s f) (are_pairs pairs s rest.0 fs) (ap (λ (o : Option Pair). pair_at o s f) found.2 ∙ found.3) rest.1)

-- all that pass are the files one by one, where these stand
pub listing_has : (pairs : List Pair) (test : ℕ → ℕ → Bool) (s : ℕ) (qs fs : List ℕ) → are_rising pairs ≡ true → Passes test s fs → ((a f : ℕ) → test a f ≡ true → list_any (λ (q : Pair). pair_at (Some q) a f) pairs ≡ true)
    → qs ≡ below (length pairs) (λ q. on_pair test (slice_get pairs q)) → are_pairs pairs s qs fs ≡ true
listing_has pairs test s qs fs rise is stand e =
    let made = numbers_for pairs s fs (λ f k. stand s f (is.same s f ∙ and_both (nat_eq s s) (has fs f) (is_itself s) k)) in
    ap (λ (xs : List ℕ). are_pairs pairs s xs fs) (e ∙ sym (listing_is pairs test s made.0 fs rise is made.1)) ∙ made.1
