-- The numbers of distinct names.
use Rattle.std.proofs.Common.{◌≡◌, ℕ, ◌+◌, ◌<◌, Bool, true, false, not, cond, ◌||◌, List, [], ◌∷◌, ◌++◌, length, refl, sym, ap, subst, ◌∙◌, nat_eq, append_assoc, arith}
use Rattle.std.proofs.lemmas.List.Folds.{list_any-append}
use Rattle.std.specs.List.{list_any, list_all}
use Rattle.std.specs.Str.{bytes_eq}
use Rattle.std.specs.Cmp.Lexicographic.{bytes_decides}
use Rattle.workflow_core.specs.Names.{number}
use Rattle.workflow_core.specs.code.Names.{with_name, with_names}
use Rattle.values.specs.Distinct.{distinct}
use Rattle.workflow_core.specs.code.WellFormed.{are_new, are_distinct}
use Rattle.workflow_core.proofs.NamesLemmas.{distinct_names}
use Rattle.std.proofs.lemmas.Bool.{and_from, and_parts}
use Rattle.std.proofs.Math.Bool.{or-true}

pub own_name : (n : List ℕ) → bytes_eq n n ≡ true
own_name n = (bytes_decides n n).1 refl

pub number_known : (names : List (List ℕ)) (m : List ℕ) → list_any (bytes_eq m) names ≡ true → number names m < length names
number_known [] m h = absurd cc
number_known (n ∷ names) m h = by (bytes_eq m n) h (λ rest. number_known names m rest)
  where
    by : (b : Bool) → (b || list_any (bytes_eq m) names) ≡ true → (list_any (bytes_eq m) names ≡ true → number names m < length names) → cond (not b) (1 + number names m) 0 < length (n ∷ names)
    by true k rest = omega arith
    by false k rest = let less = rest k in omega arith

pub with_name_has : (names : List (List ℕ)) (n : List ℕ) → list_any (bytes_eq n) (with_name names n) ≡ true
with_name_has names n = by (list_any (bytes_eq n) names) refl
  where
    by : (b : Bool) → list_any (bytes_eq n) names ≡ b → list_any (bytes_eq n) (cond b names (names ++ n ∷ [])) ≡ true
    by true e = e
    by false e = list_any-append (bytes_eq n) names (n ∷ []) ∙ ap (λ (b : Bool). list_any (bytes_eq n) names || (b || false)) (own_name n) ∙ or-true (list_any (bytes_eq n) names)

pub with_name_keeps : (names : List (List ℕ)) (n m : List ℕ) → list_any (bytes_eq m) names ≡ true → list_any (bytes_eq m) (with_name names n) ≡ true
with_name_keeps names n m h = by (list_any (bytes_eq n) names)
  where
    by : (b : Bool) → list_any (bytes_eq m) (cond b names (names ++ n ∷ [])) ≡ true
    by true = h
    by false = list_any-append (bytes_eq m) names (n ∷ []) ∙ ap (λ (b : Bool). b || (bytes_eq m n || false)) h

pub with_names_keep : (names ns : List (List ℕ)) (m : List ℕ) → list_any (bytes_eq m) names ≡ true → list_any (bytes_eq m) (with_names names ns) ≡ true
with_names_keep names [] m h = h
with_names_keep names (n ∷ ns) m h = with_names_keep (with_name names n) ns m (with_name_keeps names n m h)

pub all_known : (names ns : List (List ℕ)) → list_all (λ m. list_any (bytes_eq m) (with_names names ns)) ns ≡ true
all_known names [] = refl
all_known names (n ∷ ns) = and_from _ _ (with_names_keep (with_name names n) ns n (with_name_has names n)) (all_known (with_name names n) ns)

-- a number belongs to one name
pub same_number : (names : List (List ℕ)) (a b : List ℕ) → list_any (bytes_eq a) names ≡ true → number names a ≡ number names b → bytes_eq a b ≡ true
same_number [] a b known h = absurd cc
same_number (n ∷ names) a b known h = by (bytes_eq a n) (bytes_eq b n) refl refl known h (λ k same. same_number names a b k same)
  where
    by : (p q : Bool) → bytes_eq a n ≡ p → bytes_eq b n ≡ q → (p || list_any (bytes_eq a) names) ≡ true → cond (not p) (1 + number names a) 0 ≡ cond (not q) (1 + number names b) 0 → (list_any (bytes_eq a) names ≡ true → number names a ≡ number names b → bytes_eq a b ≡ true) → bytes_eq a b ≡ true
    by true true e f k same rest = (bytes_decides a b).1 ((bytes_decides a n).0 e ∙ sym ((bytes_decides b n).0 f))
    by true false e f k same rest = absurd (omega (arith, same))
    by false true e f k same rest = absurd (omega (arith, same))
    by false false e f k same rest = rest k (omega (arith, same))

pub other_number : (names : List (List ℕ)) (a b : List ℕ) → list_any (bytes_eq a) names ≡ true → bytes_eq a b ≡ false → nat_eq (number names a) (number names b) ≡ false
other_number names a b known other = by (nat_eq (number names a) (number names b)) refl
  where
    by : (p : Bool) → nat_eq (number names a) (number names b) ≡ p → p ≡ false
    by true e = absurd (let is : bytes_eq a b ≡ true = same_number names a b known (grind (arith, e)) in cc)
    by false e = refl

-- what is one more of those before
new_more : (known xs : List (List ℕ)) (n : List ℕ) → are_new bytes_eq known xs ≡ true → list_any (bytes_eq n) (known ++ xs) ≡ false → are_new bytes_eq known (xs ++ n ∷ []) ≡ true
new_more known [] n h free = and_from _ _ (ap not (ap (λ (ks : List (List ℕ)). list_any (bytes_eq n) ks) (sym (append_nil known)) ∙ free)) refl
  where
    append_nil : (ks : List (List ℕ)) → ks ++ [] ≡ ks
    append_nil [] = refl
    append_nil (k ∷ ks) = ap (λ (ls : List (List ℕ)). k ∷ ls) (append_nil ks)
new_more known (x ∷ xs) n h free =
    and_from _ _ (and_parts (not (list_any (bytes_eq x) known)) _ h).0
    (new_more (known ++ x ∷ []) xs n (and_parts (not (list_any (bytes_eq x) known)) _ h).1 (ap (λ (ks : List (List ℕ)). list_any (bytes_eq n) ks) (append_assoc known (x ∷ []) xs) ∙ free))

with_name_new : (names : List (List ℕ)) (n : List ℕ) → are_distinct bytes_eq names ≡ true → are_distinct bytes_eq (with_name names n) ≡ true
with_name_new names n h = by (list_any (bytes_eq n) names) refl
  where
    by : (b : Bool) → list_any (bytes_eq n) names ≡ b → are_distinct bytes_eq (cond b names (names ++ n ∷ [])) ≡ true
    by true e = h
    by false e = new_more [] names n h e

with_names_new : (names ns : List (List ℕ)) → are_distinct bytes_eq names ≡ true → are_distinct bytes_eq (with_names names ns) ≡ true
with_names_new names [] h = h
with_names_new names (n ∷ ns) h = with_names_new (with_name names n) ns (with_name_new names n h)

-- distinct names come once each
pub distinct_once : (ns : List (List ℕ)) → are_distinct bytes_eq (distinct ns) ≡ true
distinct_once ns = subst (λ (names : List (List ℕ)). are_distinct bytes_eq names ≡ true) (distinct_names ns) (with_names_new [] ns refl)

-- each of the names is one of the distinct ones
pub distinct_known : (ns : List (List ℕ)) → list_all (λ m. list_any (bytes_eq m) (distinct ns)) ns ≡ true
distinct_known ns = subst (λ (names : List (List ℕ)). list_all (λ m. list_any (bytes_eq m) names) ns ≡ true) (distinct_names ns) (all_known [] ns)
