-- Tests over lists of numbers.
use Rattle.std.proofs.Common.{◌≡◌, ℕ, zero, suc, ◌+◌, ◌<◌, ◌||◌, Bool, true, false, eqb, eqb-true, List, [], ◌∷◌, ◌++◌, length, take, get_or, refl, ap, ◌∙◌, arith}
use Rattle.std.specs.List.{list_any}
use Rattle.std.proofs.lemmas.List.{take_more}
use Rattle.std.proofs.lemmas.List.Folds.{list_any-append}
use Rattle.dependency_graph.specs.Edges.{is_among}
use Rattle.dependency_graph.specs.Ranking.{HasNoRepeats}

-- the number stands in the list
abbrev pub has : List ℕ → ℕ → Bool
has xs a = is_among a xs

or_false : (b : Bool) → (b || false) ≡ b
or_false true = refl
or_false false = refl

pub any_more : {X : Type 0} (test : X → Bool) (xs : List X) (x : X) → list_any test (xs ++ x ∷ []) ≡ (list_any test xs || test x)
any_more test xs x = list_any-append test xs (x ∷ []) ∙ ap (λ (b : Bool). list_any test xs || b) (or_false (test x))

pub or_left : (a b : Bool) → a ≡ true → (a || b) ≡ true
or_left true b h = refl
or_left false b h = absurd cc

pub or_right : (a b : Bool) → b ≡ true → (a || b) ≡ true
or_right true b h = refl
or_right false b h = h

pub or_case : {P : Type 0} (a b : Bool) → (a || b) ≡ true → (a ≡ true → P) → (b ≡ true → P) → P
or_case true b h f g = f refl
or_case false b h f g = g h

pub by_bool : {P : Type 0} (a : Bool) → (a ≡ true → P) → (a ≡ false → P) → P
by_bool true f g = f refl
by_bool false f g = g refl

pub itself : (x : ℕ) → eqb x x ≡ true
itself x = grind arith

pub has_more : (xs : List ℕ) (i c : ℕ) → i < length xs → has (take (i + 1) xs) c ≡ (has (take i xs) c || eqb (get_or xs i 0) c)
has_more xs i c l = ap (λ (ys : List ℕ). has ys c) (take_more xs i 0 l) ∙ any_more (λ y. eqb y c) (take i xs) (get_or xs i 0)

pub has_at : (ys : List ℕ) (j : ℕ) → j < length ys → has ys (get_or ys j 0) ≡ true
has_at [] j l = absurd (omega arith)
has_at (y ∷ ys) zero l = or_left (eqb y y) (has ys y) (itself y)
has_at (y ∷ ys) (suc j) l = or_right (eqb y (get_or ys j 0)) (has ys (get_or ys j 0)) (has_at ys j (omega arith))

pub fresh_at : (xs : List ℕ) (i : ℕ) → HasNoRepeats xs → i < length xs → has (take i xs) (get_or xs i 0) ≡ false
fresh_at [] i once l = absurd (omega arith)
fresh_at (x ∷ xs) zero once l = refl
fresh_at (x ∷ xs) (suc i) once l = or_neither (eqb x (get_or xs i 0)) (has (take i xs) (get_or xs i 0)) (not_later i (omega arith)) (fresh_at xs i once.1 (omega arith))
  where
    or_neither : (a b : Bool) → a ≡ false → b ≡ false → (a || b) ≡ false
    or_neither true b h k = absurd cc
    or_neither false b h k = k

    not_later : (j : ℕ) → j < length xs → eqb x (get_or xs j 0) ≡ false
    not_later j l = by_bool (eqb x (get_or xs j 0))
        (λ e. absurd (let same : x ≡ get_or xs j 0 = eqb-true x (get_or xs j 0) e in let twice : has xs x ≡ true = ap (has xs) same ∙ has_at xs j l in let no = once.0 in cc))
        (λ e. e)
