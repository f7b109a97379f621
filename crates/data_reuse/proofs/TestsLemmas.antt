-- Tests over lists.
use Rattle.std.proofs.Common.{◌≡◌, ℕ, zero, suc, ◌+◌, ◌<◌, ◌≤◌, ◌||◌, ◌&&◌, Bool, true, false, List, [], ◌∷◌, length, map, drop, get_or, refl, sym, ap, ◌∙◌, nat_eq, arith}
use Rattle.std.specs.List.{list_any, AllByRecursion}
use Rattle.std.proofs.lemmas.Bool.{eqb-true, eq-eqb}
use Rattle.std.proofs.lemmas.List.{at_drop_more, drop_all}
use Rattle.digraph.specs.Adjacency.{has_node}

pub or_false : (b : Bool) → (b || false) ≡ b
or_false true = refl
or_false false = refl

pub or_left : (a b : Bool) → a ≡ true → (a || b) ≡ true
or_left true b h = refl
or_left false b h = absurd cc

pub or_right : (a b : Bool) → b ≡ true → (a || b) ≡ true
or_right true b h = refl
or_right false b h = h

pub or_case : {P : Type 0} (a b : Bool) → (a || b) ≡ true → (a ≡ true → P) → (b ≡ true → P) → P
or_case true b h f g = f refl
or_case false b h f g = g h

pub and_both : (a b : Bool) → a ≡ true → b ≡ true → (a && b) ≡ true
and_both true b h k = k
and_both false b h k = absurd cc

pub and_left : (a b : Bool) → (a && b) ≡ true → a ≡ true
and_left true b h = refl
and_left false b h = absurd cc

pub and_right : (a b : Bool) → (a && b) ≡ true → b ≡ true
and_right true b h = h
and_right false b h = absurd cc

pub by_bool : {P : Type 0} (a : Bool) → (a ≡ true → P) → (a ≡ false → P) → P
by_bool true f g = f refl
by_bool false f g = g refl

-- a test that a number of the list passes
pub any_at : (f : ℕ → Bool) (xs : List ℕ) (x : ℕ) → has_node x xs ≡ true → f x ≡ true → list_any f xs ≡ true
any_at f [] x h k = absurd cc
any_at f (y ∷ ys) x h k = or_case (nat_eq y x) (has_node x ys) h
    (λ e. or_left (f y) (list_any f ys) (ap f (eqb-true y x e) ∙ k))
    (λ m. or_right (f y) (list_any f ys) (any_at f ys x m k))

pub any_has : {P : Type 0} (f : ℕ → Bool) (xs : List ℕ) → list_any f xs ≡ true → ((x : ℕ) → has_node x xs ≡ true → f x ≡ true → P) → P
any_has f [] h g = absurd cc
any_has f (x ∷ xs) h g = or_case (f x) (list_any f xs) h
    (λ here. g x (or_left (nat_eq x x) (has_node x xs) (eq-eqb x x refl)) here)
    (λ there. any_has f xs there (λ y m k. g y (or_right (nat_eq x y) (has_node y xs) m) k))

pub any_alike : (f g : ℕ → Bool) (xs : List ℕ) → ((x : ℕ) → has_node x xs ≡ true → f x ≡ g x) → list_any f xs ≡ list_any g xs
any_alike f g [] h = refl
any_alike f g (x ∷ xs) h = ap (λ (b : Bool). b || list_any f xs) (h x (or_left (nat_eq x x) (has_node x xs) (eq-eqb x x refl))) ∙ ap (λ (b : Bool). g x || b) (any_alike f g xs (λ y m. h y (or_right (nat_eq x y) (has_node y xs) m)))

-- what the rest of a list adds, one element further, and at its end
pub rest_more : {X A : Type 0} (t : A → X → Bool) (new old known : A → Bool) (items : List X) (i : ℕ) (d : X) → i < length items → ((f : A) → new f ≡ (t f (get_or items i d) || old f))
    → ((f : A) → (list_any (t f) (drop i items) || old f) ≡ known f) → (f : A) → (list_any (t f) (drop (i + 1) items) || new f) ≡ known f
rest_more t new old known items i d low step so_far f =
    ap (λ (b : Bool). list_any (t f) (drop (i + 1) items) || b) (step f)
    ∙ turn (list_any (t f) (drop (i + 1) items)) (t f (get_or items i d)) (old f)
    ∙ ap (λ (b : Bool). b || old f) (sym (at_drop_more (list_any (t f)) items i d low))
    ∙ so_far f
  where
    turn : (a b c : Bool) → (a || (b || c)) ≡ ((b || a) || c)
    turn true true c = refl
    turn true false c = refl
    turn false true c = refl
    turn false false c = refl

pub rest_none : {X A : Type 0} (t : A → X → Bool) (old known : A → Bool) (items : List X) (i : ℕ) → length items ≤ i → ((f : A) → (list_any (t f) (drop i items) || old f) ≡ known f) → (f : A) → old f ≡ known f
rest_none {X} t old known items i past so_far f = sym (ap (λ (xs : List X). list_any (t f) xs || old f) (drop_all i items past)) ∙ so_far f

-- an element of a list of which each is in range
pub all_at : {X : Type 0} (P : X → Type 0) (xs : List X) (i : ℕ) (d : X) → AllByRecursion P xs → i < length xs → P (get_or xs i d)
all_at P [] i d all low = absurd (omega arith)
all_at P (x ∷ xs) zero d all low = all.0
all_at P (x ∷ xs) (suc i) d all low = all_at P xs i d all.1 (omega (arith, low))

pub number_in : {X : Type 0} (h : X → ℕ) (n : ℕ) (xs : List X) (i : ℕ) (d : X) → AllByRecursion (λ f. f < n) (map h xs) → i < length xs → h (get_or xs i d) < n
number_in h n [] i d all low = absurd (omega arith)
number_in h n (x ∷ xs) zero d all low = all.0
number_in h n (x ∷ xs) (suc i) d all low = number_in h n xs i d all.1 (omega (arith, low))
