-- The counts of a crew, and of the members that are taken out of it.
use Rattle.std.proofs.Common.{◌≡◌, ℕ, zero, suc, ◌<◌, ◌≤◌, ◌++◌, List, [], ◌∷◌, length, map, take, drop, refl, ap, ◌∙◌, arith}
use Rattle.std.proofs.lemmas.Slice.{drop-append-drop}
use Rattle.plan_run.specs.Moments.{MemberMoment}
use Rattle.plan_run.specs.code.Moments.{first_shown}

pub map_both : {A B : Type 0} (f : A → B) (xs ys : List A) → map f (xs ++ ys) ≡ map f xs ++ map f ys
map_both f [] ys = refl
map_both f (x ∷ xs) ys = ap (λ zs. f x ∷ zs) (map_both f xs ys)

-- the first member is one that was taken out
pub first_of_both : (xs ys : List MemberMoment) (n : ℕ) → length xs ≡ n → 0 < n → first_shown (xs ++ ys) ≡ first_shown xs
first_of_both [] ys n many l = absurd (omega (arith, many, l))
first_of_both (x ∷ xs) ys n many l = refl

pub length_taken : {A : Type 0} (n : ℕ) (xs : List A) → n ≤ length xs → length (take n xs) ≡ n
length_taken zero [] l = refl
length_taken zero (x ∷ xs) l = refl
length_taken (suc n) [] l = absurd (omega (arith, l))
length_taken (suc n) (x ∷ xs) l = ap suc (length_taken n xs (omega (arith, l)))

pub taken_many : {A : Type 0} (crew members : List A) (n : ℕ) → members ≡ take n crew → length crew ≡ 16 → n ≤ 16 → length members ≡ n
taken_many crew members n is long few = ap length is ∙ length_taken n crew (omega (arith, long, few))

-- those that weren't taken out are as they were, once those that were are put back
pub others_stay : {A : Type 0} (n : ℕ) (crew new back members : List A) → new ≡ back ++ drop n crew → length back ≡ length members → length members ≡ n → drop n new ≡ drop n crew
others_stay n crew new back members is backs many = ap (drop n) is ∙ drop-append-drop n crew back n (omega arith) (backs ∙ many)
