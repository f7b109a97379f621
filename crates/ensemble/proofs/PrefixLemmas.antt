-- Names under members' names are the same where both parts are.
use Rattle.std.proofs.Common.{◌≡◌, ℕ, Bool, true, false, ◌&&◌, List, [], ◌∷◌, refl, sym, ap, ◌∙◌, nat_eq, arith}
use Rattle.std.specs.Cmp.Lexicographic.{bytes_decides}
use Rattle.std.specs.Str.{bytes_eq}
use Rattle.std.proofs.lemmas.Bool.{or_parts}
use Rattle.ensemble.specs.MemberEntry.{has_slash}
use Rattle.ensemble.specs.Prefix.{prefixed}

other_way : (a b : ℕ) → nat_eq a b ≡ false → nat_eq b a ≡ false
other_way a b h = grind arith

and_joined : (a b c : Bool) → ((a && b) && c) ≡ (a && (b && c))
and_joined true b c = refl
and_joined false b c = refl

pub same_prefixed : (m n x y : List ℕ) → has_slash m ≡ false → has_slash n ≡ false → bytes_eq (prefixed m x) (prefixed n y) ≡ (bytes_eq m n && bytes_eq x y)
same_prefixed [] [] x y p q = refl
same_prefixed [] (d ∷ n) x y p q = ap (λ (t : Bool). t && bytes_eq x (prefixed n y)) (other_way d 47 (or_parts (nat_eq d 47) (has_slash n) q).0)
same_prefixed (c ∷ m) [] x y p q = ap (λ (t : Bool). t && bytes_eq (prefixed m x) y) (or_parts (nat_eq c 47) (has_slash m) p).0
same_prefixed (c ∷ m) (d ∷ n) x y p q =
    ap (λ (t : Bool). nat_eq c d && t) (same_prefixed m n x y (or_parts (nat_eq c 47) (has_slash m) p).1 (or_parts (nat_eq d 47) (has_slash n) q).1)
    ∙ sym (and_joined (nat_eq c d) (bytes_eq m n) (bytes_eq x y))

pub own_name : (m : List ℕ) → bytes_eq m m ≡ true
own_name m = (bytes_decides m m).1 refl

-- names of one member are the same where the names themselves are
pub own_prefixed : (m x y : List ℕ) → has_slash m ≡ false → bytes_eq (prefixed m x) (prefixed m y) ≡ bytes_eq x y
own_prefixed m x y p = same_prefixed m m x y p p ∙ ap (λ (t : Bool). t && bytes_eq x y) (own_name m)

-- names of two members are never the same
pub other_prefixed : (m n x y : List ℕ) → has_slash m ≡ false → has_slash n ≡ false → bytes_eq m n ≡ false → bytes_eq (prefixed m x) (prefixed n y) ≡ false
other_prefixed m n x y p q h = same_prefixed m n x y p q ∙ ap (λ (t : Bool). t && bytes_eq x y) h

pub not_same : (a b : List ℕ) → bytes_eq a b ≡ false → bytes_eq b a ≡ false
not_same a b h = by (bytes_eq b a) refl
  where
    by : (t : Bool) → bytes_eq b a ≡ t → t ≡ false
    by true e = absurd (let same : bytes_eq a b ≡ true = (bytes_decides a b).1 (sym ((bytes_decides b a).0 e)) in cc)
    by false e = refl
