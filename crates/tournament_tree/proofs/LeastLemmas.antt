-- The lesser of two is associative, so a front is as well asked by halves.
use Rattle.std.proofs.Common.{◌≡◌, ℕ, zero, suc, ◌+◌, ◌*◌, ◌%◌, ◌-◌, ◌<◌, ◌≤◌, ◌||◌, ◌&&◌, ◌⊎◌, inl, inr, Bool, true, false, cond, nat_eq, eqb-true, nat_lt, ltb-true, ltb-false, refl, sym, ap, subst, ◌∙◌, arith}
use Rattle.std.proofs.lemmas.Bool.{cases_lt}
use Rattle.std.specs.Prelude.{Option, Some, None}
use Rattle.tournament_tree.specs.declared.tree.Key.{Key}
use Rattle.tournament_tree.specs.Tree.{is_less, better, least, least_from, with_first, IsLeast}

pub none_right : (x : Option Key) → better x None ≡ x
none_right None = refl
none_right (Some a) = refl

-- the laws of is_less
irreflexive : (a : Key) → is_less a a ≡ false
irreflexive a = test a.score a.number
  where
    test : (s t : ℕ) → (nat_lt s s || (nat_eq s s && nat_lt t t)) ≡ false
    test s t = grind arith

transitive : (a b c : Key) → is_less b a ≡ false → is_less c b ≡ false → is_less c a ≡ false
transitive a b c h k = test a.score a.number b.score b.number c.score c.number h k
  where
    test : (s t u v x y : ℕ) → (nat_lt u s || (nat_eq u s && nat_lt v t)) ≡ false → (nat_lt x u || (nat_eq x u && nat_lt y v)) ≡ false → (nat_lt x s || (nat_eq x s && nat_lt y t)) ≡ false
    test s t u v x y h k = grind arith

less_trans : (a b c : Key) → is_less b a ≡ true → is_less c b ≡ true → is_less c a ≡ true
less_trans a b c h k = test a.score a.number b.score b.number c.score c.number h k
  where
    test : (s t u v x y : ℕ) → (nat_lt u s || (nat_eq u s && nat_lt v t)) ≡ true → (nat_lt x u || (nat_eq x u && nat_lt y v)) ≡ true → (nat_lt x s || (nat_eq x s && nat_lt y t)) ≡ true
    test s t u v x y h k = grind arith

some_assoc : (a b c : Key) (x y z : Bool) → is_less b a ≡ x → is_less c b ≡ y → is_less c a ≡ z → better (Some a) (cond y (Some c) (Some b)) ≡ better (cond x (Some b) (Some a)) (Some c)
some_assoc a b c true true z e f g = ap (λ (t : Bool). cond t (Some c) (Some a)) (less_trans a b c e f) ∙ sym (ap (λ (t : Bool). cond t (Some c) (Some b)) f)
some_assoc a b c true false z e f g = ap (λ (t : Bool). cond t (Some b) (Some a)) e ∙ sym (ap (λ (t : Bool). cond t (Some c) (Some b)) f)
some_assoc a b c false true z e f g = refl
some_assoc a b c false false z e f g = ap (λ (t : Bool). cond t (Some b) (Some a)) e ∙ sym (ap (λ (t : Bool). cond t (Some c) (Some a)) (transitive a b c e f))

pub better_assoc : (x y z : Option Key) → better x (better y z) ≡ better (better x y) z
better_assoc None y z = refl
better_assoc (Some a) None z = refl
better_assoc (Some a) (Some b) None = sym (none_right (better (Some a) (Some b)))
better_assoc (Some a) (Some b) (Some c) = some_assoc a b c (is_less b a) (is_less c b) (is_less c a) refl refl refl

-- a front of pairs
pub least_halves : (f g : ℕ → Option Key) → ((i : ℕ) → g i ≡ better (f (2 * i)) (f (2 * i + 1))) → (j : ℕ) → least f (2 * j) ≡ least g j
unfolding least
least_halves f g pair zero = refl
least_halves f g pair (suc j) =
    ap (least f) (let e : 2 * suc j ≡ suc (suc (2 * j)) = omega arith in e)
    ∙ sym (better_assoc (least f (2 * j)) (f (2 * j)) (f (suc (2 * j))))
    ∙ ap (λ (x : Option Key). better x (better (f (2 * j)) (f (suc (2 * j))))) (least_halves f g pair j)
    ∙ ap (λ (n : ℕ). better (least g j) (better (f (2 * j)) (f n))) (let e : suc (2 * j) ≡ 2 * j + 1 = omega arith in e)
    ∙ ap (better (least g j)) (sym (pair j))

-- a range of pairs
pub part_halves : (f g : ℕ → Option Key) → ((i : ℕ) → g i ≡ better (f (2 * i)) (f (2 * i + 1))) → (a b : ℕ) → least_from f (2 * a) (2 * b) ≡ least_from g a b
part_halves f g pair a b =
    ap (least (λ i. f (2 * a + i))) (let e : 2 * b - 2 * a ≡ 2 * (b - a) = omega arith in e)
    ∙ least_halves (λ i. f (2 * a + i)) (λ i. g (a + i)) (λ i. pair (a + i)
    ∙ ap (λ (n : ℕ). better (f n) (f (2 * (a + i) + 1))) (let e : 2 * (a + i) ≡ 2 * a + 2 * i = omega arith in e)
    ∙ ap (λ (n : ℕ). better (f (2 * a + 2 * i)) (f n)) (let e : 2 * (a + i) + 1 ≡ 2 * a + (2 * i + 1) = omega arith in e)) (b - a)

same_least : (f g : ℕ → Option Key) (n : ℕ) → ((i : ℕ) → f i ≡ g i) → least f n ≡ least g n
unfolding least
same_least f g zero h = refl
same_least f g (suc n) h = ap (λ (x : Option Key). better x (f n)) (same_least f g n h) ∙ ap (better (least g n)) (h n)

-- the first one apart
first_apart : (f : ℕ → Option Key) (n : ℕ) → least f (suc n) ≡ better (f 0) (least (λ i. f (suc i)) n)
unfolding least
first_apart f zero = sym (none_right (f 0))
first_apart f (suc n) = ap (λ (x : Option Key). better x (f (suc n))) (first_apart f n) ∙ sym (better_assoc (f 0) (least (λ i. f (suc i)) n) (f (suc n)))

part_first : (f : ℕ → Option Key) (a b : ℕ) → a < b → least_from f a b ≡ better (f a) (least_from f (a + 1) b)
part_first f a b l =
    ap (least (λ i. f (a + i))) (let e : b - a ≡ suc (b - (a + 1)) = omega (arith, l) in e)
    ∙ first_apart (λ i. f (a + i)) (b - (a + 1))
    ∙ ap (λ (n : ℕ). better (f n) (least (λ i. f (a + suc i)) (b - (a + 1)))) (let e : a + 0 ≡ a = omega arith in e)
    ∙ ap (better (f a)) (same_least (λ i. f (a + suc i)) (λ i. f (a + 1 + i)) (b - (a + 1)) (λ i. ap f (let e : a + suc i ≡ a + 1 + i = omega arith in e)))

part_last : (f : ℕ → Option Key) (a b : ℕ) → a < b → least_from f a b ≡ better (least_from f a (b - 1)) (f (b - 1))
unfolding least
part_last f a b l =
    ap (least (λ i. f (a + i))) (let e : b - a ≡ suc (b - 1 - a) = omega (arith, l) in e)
    ∙ ap (λ (n : ℕ). better (least (λ i. f (a + i)) (b - 1 - a)) (f n)) (let e : a + (b - 1 - a) ≡ b - 1 = omega (arith, l) in e)

pub part_none : (f : ℕ → Option Key) (a b : ℕ) → b ≤ a → least_from f a b ≡ None
unfolding least
part_none f a b l = ap (least (λ i. f (a + i))) (let e : b - a ≡ 0 = omega (arith, l) in e)

-- one row up: the first one of an odd range, the last one, and what is between them by halves
pub first_step : (f : ℕ → Option Key) (low high : ℕ) (first rest : Option Key) → better first (better (least_from f low high) rest) ≡ better (with_first f low high first) (better (least_from f (low + low % 2) high) rest)
first_step f low high first rest = by_odd (nat_eq (low % 2) 1) refl
  where
    odd : low % 2 ≡ 1 → (b : Bool) → nat_lt low high ≡ b → better first (better (least_from f low high) rest) ≡ better (cond b (better first (f low)) first) (better (least_from f (low + low % 2) high) rest)
    odd e true l =
        ap (λ (x : Option Key). better first (better x rest)) (part_first f low high (ltb-true low high l))
        ∙ ap (better first) (sym (better_assoc (f low) (least_from f (low + 1) high) rest)) ∙ better_assoc first (f low) (better (least_from f (low + 1) high) rest)
        ∙ ap (λ (n : ℕ). better (better first (f low)) (better (least_from f (low + n) high) rest)) (sym e)
    odd e false l =
        let past : high ≤ low = ltb-false low high l in
        ap (λ (x : Option Key). better first (better x rest)) (part_none f low high past ∙ sym (part_none f (low + low % 2) high (omega (arith, past))))

    by_odd : (b : Bool) → nat_eq (low % 2) 1 ≡ b → better first (better (least_from f low high) rest) ≡ better (with_first f low high first) (better (least_from f (low + low % 2) high) rest)
    by_odd true e = odd (eqb-true (low % 2) 1 e) (nat_lt low high) refl ∙ ap (λ (b : Bool). better (cond b (better first (f low)) first) (better (least_from f (low + low % 2) high) rest)) (both (nat_lt low high) (nat_eq (low % 2) 1) e)
      where
        both : (a b : Bool) → b ≡ true → a ≡ (a && b)
        both true b h = sym h
        both false b h = refl
    by_odd false e =
        let even : low % 2 ≡ 0 = grind (arith, e) in
        ap (λ (n : ℕ). better first (better (least_from f n high) rest)) (let s : low ≡ low + low % 2 = omega (arith, even) in s)
        ∙ ap (λ (b : Bool). better (cond b (better first (f low)) first) (better (least_from f (low + low % 2) high) rest)) (none (nat_lt low high) (nat_eq (low % 2) 1) e)
      where
        none : (a b : Bool) → b ≡ false → false ≡ (a && b)
        none true b h = sym h
        none false b h = refl

pub last_step : (f : ℕ → Option Key) (low high : ℕ) (last : Option Key) → better (least_from f low high) last ≡ better (least_from f low (high - high % 2)) (cond (nat_lt low high && nat_eq (high % 2) 1) (better (f (high - 1)) last) last)
last_step f low high last = by_odd (nat_eq (high % 2) 1) refl
  where
    odd : high % 2 ≡ 1 → (b : Bool) → nat_lt low high ≡ b → better (least_from f low high) last ≡ better (least_from f low (high - high % 2)) (cond b (better (f (high - 1)) last) last)
    odd e true l =
        ap (λ (x : Option Key). better x last) (part_last f low high (ltb-true low high l)) ∙ sym (better_assoc (least_from f low (high - 1)) (f (high - 1)) last)
        ∙ ap (λ (n : ℕ). better (least_from f low (high - n)) (better (f (high - 1)) last)) (sym e)
    odd e false l =
        let past : high ≤ low = ltb-false low high l in
        ap (λ (x : Option Key). better x last) (part_none f low high past ∙ sym (part_none f low (high - high % 2) (omega (arith, past))))

    by_odd : (b : Bool) → nat_eq (high % 2) 1 ≡ b → better (least_from f low high) last ≡ better (least_from f low (high - high % 2)) (cond (nat_lt low high && nat_eq (high % 2) 1) (better (f (high - 1)) last) last)
    by_odd true e = odd (eqb-true (high % 2) 1 e) (nat_lt low high) refl ∙ ap (λ (b : Bool). better (least_from f low (high - high % 2)) (cond b (better (f (high - 1)) last) last)) (both (nat_lt low high) (nat_eq (high % 2) 1) e)
      where
        both : (a b : Bool) → b ≡ true → a ≡ (a && b)
        both true b h = sym h
        both false b h = refl
    by_odd false e =
        let even : high % 2 ≡ 0 = grind (arith, e) in
        ap (λ (n : ℕ). better (least_from f low n) last) (let s : high ≡ high - high % 2 = omega (arith, even) in s)
        ∙ ap (λ (b : Bool). better (least_from f low (high - high % 2)) (cond b (better (f (high - 1)) last) last)) (none (nat_lt low high) (nat_eq (high % 2) 1) e)
      where
        none : (a b : Bool) → b ≡ false → false ≡ (a && b)
        none true b h = sym h
        none false b h = refl

-- what `least` means
abbrev IsLeastOf : (ℕ → Option Key) → ℕ → Option Key → Type 0
IsLeastOf f n None = (i : ℕ) → i < n → f i ≡ None
IsLeastOf f n (Some k) = ((i : ℕ) × (i < n) × (f i ≡ Some k)) × ((i : ℕ) (l : Key) → i < n → f i ≡ Some l → is_less l k ≡ false)

least_means : (f : ℕ → Option Key) (n : ℕ) → IsLeastOf f n (least f n)
unfolding least
least_means f zero = λ i l. absurd (omega arith)
least_means f (suc n) = by_two (least f n) (f n) refl (least_means f n)
  where
    some_one : (k l : Key) → Some k ≡ Some l → k ≡ l
    some_one k l e = cc

    end_or : (i : ℕ) → i < suc n → (P : ℕ → Type 0) → (i < n → P i) → P n → P i
    end_or i l P a b = go (cases_lt i n)
      where
        go : ((i < n) ⊎ (n ≤ i)) → P i
        go (inl m) = a m
        go (inr m) = subst P (let e : n ≡ i = omega arith in e) b

    by_less : (k l : Key) → f n ≡ Some l → (b : Bool) → is_less l k ≡ b → IsLeastOf f n (Some k) → IsLeastOf f (suc n) (cond b (Some l) (Some k))
    by_less k l here true e rest = (
      (n, omega arith, here),
      λ i m v at. end_or i v (λ j. f j ≡ Some m → is_less m l ≡ false)
          (λ u at. transitive_up m k l e (rest.1 i m u at))
          (λ at. ap (λ (x : Key). is_less x l) (some_one m l (sym at ∙ here)) ∙ irreflexive l) at,
    )
      where
        transitive_up : (m k l : Key) → is_less l k ≡ true → is_less m k ≡ false → is_less m l ≡ false
        transitive_up m k l h g = test m.score m.number k.score k.number l.score l.number h g
          where
            test : (s t u v x y : ℕ) → (nat_lt x u || (nat_eq x u && nat_lt y v)) ≡ true → (nat_lt s u || (nat_eq s u && nat_lt t v)) ≡ false → (nat_lt s x || (nat_eq s x && nat_lt t y)) ≡ false
            test s t u v x y h k = grind arith
    by_less k l here false e rest = ((rest.0.0, omega (arith, rest.0.1), rest.0.2), λ i m v at. end_or i v (λ j. f j ≡ Some m → is_less m k ≡ false) (λ u at. rest.1 i m u at) (λ at. ap (λ (x : Key). is_less x k) (some_one m l (sym at ∙ here)) ∙ e) at)

    by_two : (x y : Option Key) → f n ≡ y → IsLeastOf f n x → IsLeastOf f (suc n) (better x y)
    by_two None None here rest = λ i l. end_or i l (λ j. f j ≡ None) (λ m. rest i m) here
    by_two None (Some l) here rest = (
      (n, omega arith, here),
      λ i m v at. end_or i v (λ j. f j ≡ Some m → is_less m l ≡ false)
          (λ u at. absurd (let none = sym (rest i u) ∙ at in cc)) (λ at. ap (λ (x : Key). is_less x l) (some_one m l (sym at ∙ here)) ∙ irreflexive l) at,
    )
    by_two (Some k) None here rest = ((rest.0.0, omega (arith, rest.0.1), rest.0.2), λ i m v at. end_or i v (λ j. f j ≡ Some m → is_less m k ≡ false) (λ u at. rest.1 i m u at) (λ at. absurd (let none = sym here ∙ at in cc)) at)
    by_two (Some k) (Some l) here rest = by_less k l here (is_less l k) refl rest

pub between_means : (f : ℕ → Option Key) (a b : ℕ) → IsLeast f a b (least_from f a b)
between_means f a b = shifted (least_from f a b) (least_means (λ i. f (a + i)) (b - a))
  where
    back : (i : ℕ) → a ≤ i → f (a + (i - a)) ≡ f i
    back i l = ap f (let e : a + (i - a) ≡ i = omega (arith, l) in e)

    shifted : (x : Option Key) → IsLeastOf (λ i. f (a + i)) (b - a) x → IsLeast f a b x
    shifted None h = λ i l m. sym (back i l) ∙ h (i - a) (omega (arith, l, m))
    shifted (Some k) h = (
      (a + h.0.0, omega arith, (let n = h.0.1 in omega (arith, n)), h.0.2),
      λ i m l n at. h.1 (i - a) m (omega (arith, l, n)) (back i l ∙ at),
    )
