-- Lists of two parts.
use Rattle.std.proofs.Common.{◌≡◌, ℕ, ◌+◌, ◌-◌, ◌≤◌, max, List, [], ◌∷◌, ◌++◌, length, take, Option, Some, None, refl, sym, ap, ◌∙◌, arith}
use Rattle.std.proofs.Math.Seq.{take-append-add}
use Rattle.peak_tree.specs.Numbers.{greater, greatest}

pub greater-assoc : (x y z : Option ℕ) → greater (greater x y) z ≡ greater x (greater y z)
greater-assoc None y z = refl
greater-assoc (Some x) None z = refl
greater-assoc (Some x) (Some y) None = refl
greater-assoc (Some x) (Some y) (Some z) = ap Some (let e : max (max x y) z ≡ max x (max y z) = omega arith in e)

pub greatest-append : (xs ys : List (Option ℕ)) → greatest (xs ++ ys) ≡ greater (greatest xs) (greatest ys)
greatest-append [] ys = refl
greatest-append (x ∷ xs) ys = ap (greater x) (greatest-append xs ys) ∙ sym (greater-assoc x (greatest xs) (greatest ys))

pub greater-none : (x : Option ℕ) → greater x None ≡ x
greater-none None = refl
greater-none (Some x) = refl

pub take-append-gt : (xs ys : List (Option ℕ)) (m n : ℕ) → length xs ≡ m → m ≤ n → take (n + 1) (xs ++ ys) ≡ xs ++ take (n - m + 1) ys
take-append-gt xs ys m n e l = ap (λ (k : ℕ). take k (xs ++ ys)) (let f : n + 1 ≡ length xs + (n - m + 1) = omega (arith, e, l) in f) ∙ take-append-add xs ys (n - m + 1)
