-- Lists of the numbers below a bound that pass a test.
use Rattle.std.proofs.Common.{◌≡◌, ℕ, zero, suc, ◌<◌, ◌≤◌, ◌≢◌, ◌||◌, ◌⊎◌, inl, inr, Bool, true, false, cond, List, [], ◌∷◌, ◌++◌, refl, sym, ap, ◌∙◌, nat_eq, arith}
use Rattle.std.specs.Prelude.{Option, Some, None}
use Rattle.std.proofs.Math.Bool.{or-true}
use Rattle.std.proofs.lemmas.Bool.{cases_lt, eqb-true, eq-eqb}
use Rattle.plan_core.specs.Numbers.{below, has, least, or_else}

pub has_append : (xs ys : List ℕ) (x : ℕ) → has (xs ++ ys) x ≡ (has xs x || has ys x)
has_append [] ys x = refl
has_append (y ∷ xs) ys x = by (nat_eq y x) (has_append xs ys x)
  where
    by : (b : Bool) → has (xs ++ ys) x ≡ (has xs x || has ys x) → (b || has (xs ++ ys) x) ≡ ((b || has xs x) || has ys x)
    by true e = refl
    by false e = e

either : (a b : Bool) → (a || b) ≡ true → (a ≡ true) ⊎ (b ≡ true)
either true b h = inl refl
either false b h = inr h

has_last : (b : Bool) (n x : ℕ) → has (cond b (n ∷ []) []) x ≡ true → (n ≡ x) × (b ≡ true)
has_last true n x h = by (nat_eq n x) refl h
  where
    by : (c : Bool) → nat_eq n x ≡ c → (c || false) ≡ true → (n ≡ x) × (true ≡ true)
    by true e k = (eqb-true n x e, refl)
    by false e k = absurd cc
has_last false n x h = absurd cc

pub below_has : (n : ℕ) (test : ℕ → Bool) (x : ℕ) → has (below n test) x ≡ true → (x < n) × (test x ≡ true)
unfolding below
below_has zero test x h = absurd cc
below_has (suc n) test x h = by (either (has (below n test) x) (has (cond (test n) (n ∷ []) []) x) (sym (has_append (below n test) (cond (test n) (n ∷ []) []) x) ∙ h)) (λ k. below_has n test x k)
  where
    by : (has (below n test) x ≡ true) ⊎ (has (cond (test n) (n ∷ []) []) x ≡ true) → (has (below n test) x ≡ true → (x < n) × (test x ≡ true)) → (x < suc n) × (test x ≡ true)
    by (inl k) less = let found = less k in ((let l : x < n = found.0 in omega arith), found.1)
    by (inr k) less = let found = has_last (test n) n x k in ((let e : n ≡ x = found.0 in omega arith), ap test (sym found.0) ∙ found.1)

last_has : (b : Bool) (n x : ℕ) → n ≡ x → b ≡ true → has (cond b (n ∷ []) []) x ≡ true
last_has true n x e h = ap (λ (c : Bool). c || false) (eq-eqb n x e)
last_has false n x e h = absurd cc

pub has_below : (n : ℕ) (test : ℕ → Bool) (x : ℕ) → x < n → test x ≡ true → has (below n test) x ≡ true
unfolding below
has_below zero test x l h = absurd (omega arith)
has_below (suc n) test x l h = has_append (below n test) (cond (test n) (n ∷ []) []) x ∙ by (nat_eq n x) refl (λ k. has_below n test x k h)
  where
    by : (b : Bool) → nat_eq n x ≡ b → (x < n → has (below n test) x ≡ true) → (has (below n test) x || has (cond (test n) (n ∷ []) []) x) ≡ true
    by true e less = let same = eqb-true n x e in ap (λ (c : Bool). has (below n test) x || c) (last_has (test n) n x same (ap test same ∙ h)) ∙ or-true (has (below n test) x)
    by false e less = ap (λ (c : Bool). c || has (cond (test n) (n ∷ []) []) x) (less (let d : n ≢ x = λ s. (let y : true ≡ false = sym (eq-eqb n x s) ∙ e in absurd cc) in omega arith))

pub same_below : (n : ℕ) (test other : ℕ → Bool) → ((x : ℕ) → x < n → test x ≡ other x) → below n test ≡ below n other
unfolding below
same_below zero test other same = refl
same_below (suc n) test other same = ap (λ (b : Bool). below n test ++ cond b (n ∷ []) []) (same n (omega arith)) ∙ ap (λ (xs : List ℕ). xs ++ cond (other n) (n ∷ []) []) (same_below n test other (λ x l. same x (omega arith)))

-- the least below a bound, of alike tests
pub same_least : (n : ℕ) (test other : ℕ → Bool) → ((x : ℕ) → x < n → test x ≡ other x) → least n test ≡ least n other
unfolding least
same_least zero test other same = refl
same_least (suc n) test other same = ap (λ (b : Bool). or_else (least n test) (cond b (Some n) None)) (same n (omega arith)) ∙ ap (λ (o : Option ℕ). or_else o (cond (other n) (Some n) None)) (same_least n test other (λ x l. same x (omega arith)))

or_nothing : (o : Option ℕ) → or_else o None ≡ o
or_nothing None = refl
or_nothing (Some x) = refl

-- where nothing passes from a bound on
pub least_beyond : (m n : ℕ) (test : ℕ → Bool) → m ≤ n → ((x : ℕ) → m ≤ x → test x ≡ false) → least n test ≡ least m test
unfolding least
least_beyond m zero test l none = let z : 0 ≡ m = omega arith in ap (λ (k : ℕ). least k test) z
least_beyond m (suc n) test l none = by (cases_lt n m) (λ k. least_beyond m n test k none)
  where
    by : (n < m) ⊎ (m ≤ n) → (m ≤ n → least n test ≡ least m test) → or_else (least n test) (cond (test n) (Some n) None) ≡ least m test
    by (inl k) rest = let z : suc n ≡ m = omega arith in ap (λ (k : ℕ). least k test) z
    by (inr k) rest = ap (λ (b : Bool). or_else (least n test) (cond b (Some n) None)) (none n k) ∙ or_nothing (least n test) ∙ rest k
