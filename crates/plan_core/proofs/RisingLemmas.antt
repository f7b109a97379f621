-- A rising list of exactly the numbers that pass is that of the numbers below a bound that pass: for bodies that sort.
use Rattle.std.proofs.Common.{◌≡◌, ℕ, zero, suc, ◌<◌, ◌≤◌, Bool, true, false, cond, ◌||◌, List, [], ◌∷◌, ◌++◌, refl, sym, ap, ◌∙◌, nat_eq, arith, subst, ◌⊎◌, inl, inr}
use Rattle.std.proofs.lemmas.Bool.{cases_lt}
use Rattle.std.proofs.lemmas.List.{append-nil}
use Rattle.plan_core.specs.Numbers.{has, below}
use Rattle.plan_core.specs.code.Numbers.{RisesFrom}
use Rattle.plan_core.proofs.TestLemmas.{same_number, is_itself, not_itself, by_bool, or_left, or_right}
use Rattle.plan_core.proofs.NumbersLemmas.{below_has, has_below}

none_low : (b z : ℕ) (xs : List ℕ) → RisesFrom b xs → z < b → has xs z ≡ false
none_low b z [] h l = refl
none_low b z (x ∷ xs) h l = let low : b ≤ x = h.0 in ap (λ (t : Bool). t || has xs z) (not_itself x z (λ e. omega arith)) ∙ none_low (suc x) z xs h.1 (omega arith)

later_low : (b c : ℕ) (xs : List ℕ) → c ≤ b → RisesFrom b xs → RisesFrom c xs
later_low b c [] l h = tt
later_low b c (x ∷ xs) l h = ((let m : b ≤ x = h.0 in omega arith), h.1)

same_first : (b x y : ℕ) (xs ys : List ℕ) → RisesFrom b (x ∷ xs) → RisesFrom b (y ∷ ys) → ((z : ℕ) → has (x ∷ xs) z ≡ has (y ∷ ys) z) → x < y → ⊥
same_first b x y xs ys h k same l =
    let here : has (x ∷ xs) x ≡ true = or_left (nat_eq x x) (has xs x) (is_itself x) in
    let gone : has (y ∷ ys) x ≡ false = none_low y x (y ∷ ys) (omega arith, k.1) l in
    (let z : true ≡ false = sym here ∙ same x ∙ gone in cc)

pub same_rising : (b : ℕ) (xs ys : List ℕ) → RisesFrom b xs → RisesFrom b ys → ((z : ℕ) → has xs z ≡ has ys z) → xs ≡ ys
same_rising b [] [] h k same = refl
same_rising b [] (y ∷ ys) h k same = absurd (let z : false ≡ true = same y ∙ or_left (nat_eq y y) (has ys y) (is_itself y) in cc)
same_rising b (x ∷ xs) [] h k same = absurd (let z : true ≡ false = sym (or_left (nat_eq x x) (has xs x) (is_itself x)) ∙ same x in cc)
same_rising b (x ∷ xs) (y ∷ ys) h k same = by (cases_lt x y) (cases_lt y x) (λ e. same_rising (suc x) xs ys h.1 (later_low (suc y) (suc x) ys (omega arith) k.1) (tails e))
  where
    tails : x ≡ y → (z : ℕ) → has xs z ≡ has ys z
    tails e z = by_bool (nat_eq x z) (λ t. none_low (suc x) z xs h.1 (let s : x ≡ z = same_number x z t in omega arith) ∙ sym (none_low (suc y) z ys k.1 (let s : x ≡ z = same_number x z t in omega arith)))
        (λ t. sym (ap (λ (c : Bool). c || has xs z) t) ∙ same z ∙ ap (λ (c : Bool). c || has ys z) (ap (λ (n : ℕ). nat_eq n z) (sym e) ∙ t))

    on : x ≡ y → (xs ≡ ys) → x ∷ xs ≡ y ∷ ys
    on e f = ap (λ (n : ℕ). n ∷ xs) e ∙ ap (λ (l : List ℕ). y ∷ l) f

    by : (x < y) ⊎ (y ≤ x) → (y < x) ⊎ (x ≤ y) → (x ≡ y → xs ≡ ys) → x ∷ xs ≡ y ∷ ys
    by (inl l) other rest = absurd (same_first b x y xs ys h k same l)
    by (inr l) (inl m) rest = absurd (same_first b y x ys xs k h (λ z. sym (same z)) m)
    by (inr l) (inr m) rest = let e : x ≡ y = omega arith in on e (rest e)

push : (b n : ℕ) (xs : List ℕ) → RisesFrom b xs → b ≤ n → ((x : ℕ) → has xs x ≡ true → x < n) → RisesFrom b (xs ++ n ∷ [])
push b n [] h l low = (l, tt)
push b n (x ∷ xs) h l low = (h.0, push (suc x) n xs h.1 (let m : x < n = low x (or_left (nat_eq x x) (has xs x) (is_itself x)) in omega arith) (λ z e. low z (or_right (nat_eq x z) (has xs z) e)))

pub below_rises : (n : ℕ) (test : ℕ → Bool) → RisesFrom 0 (below n test)
unfolding below
below_rises zero test = tt
below_rises (suc n) test = by (test n) (below_rises n test)
  where
    by : (b : Bool) → RisesFrom 0 (below n test) → RisesFrom 0 (below n test ++ cond b (n ∷ []) [])
    by true h = push 0 n (below n test) h (omega arith) (λ x e. (below_has n test x e).0)
    by false h = subst (RisesFrom 0) (sym (append-nil (below n test))) h

pub rising_is_below : (n : ℕ) (test : ℕ → Bool) (xs : List ℕ) → RisesFrom 0 xs → ((x : ℕ) → has xs x ≡ true → (x < n) × (test x ≡ true)) → ((x : ℕ) → x < n → test x ≡ true → has xs x ≡ true) → xs ≡ below n test
rising_is_below n test xs rises only all = same_rising 0 xs (below n test) rises (below_rises n test) members
  where
    members : (z : ℕ) → has xs z ≡ has (below n test) z
    members z = by (has xs z) refl (has (below n test) z) refl
      where
        by : (a : Bool) → has xs z ≡ a → (b : Bool) → has (below n test) z ≡ b → has xs z ≡ has (below n test) z
        by true e true f = e ∙ sym f
        by false e false f = e ∙ sym f
        by true e false f = absurd (let p = only z e in let x : true ≡ false = sym (has_below n test z p.0 p.1) ∙ f in cc)
        by false e true f = absurd (let p = below_has n test z f in let x : false ≡ true = sym e ∙ all z p.0 p.1 in cc)
