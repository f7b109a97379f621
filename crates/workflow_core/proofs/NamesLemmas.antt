-- Numbering names one after the other.
use Rattle.std.proofs.Common.{◌≡◌, ℕ, ◌+◌, ◌≤◌, Bool, true, false, not, cond, ◌&&◌, ◌||◌, List, [], ◌∷◌, ◌++◌, length, filter, refl, sym, ap, ◌∙◌, append_assoc, unwrap_or, arith}
use Rattle.std.proofs.lemmas.Grind.{common_steps}
use Rattle.std.proofs.lemmas.List.Folds.{list_any-append}
use Rattle.std.proofs.lemmas.List.{append-nil}
use Rattle.std.specs.List.{list_any, position, prefix_len}
use Rattle.std.specs.Str.{bytes_eq}
use Rattle.std.specs.Cmp.Lexicographic.{bytes_decides}
use Rattle.workflow_core.specs.Names.{number}
use Rattle.workflow_core.specs.code.Names.{with_name, with_names}
use Rattle.values.specs.Distinct.{distinct}

-- those that are not yet among the names
abbrev fresh : List (List ℕ) → List ℕ → Bool
fresh names m = not (list_any (bytes_eq m) names)

filter_same : {X : Type 0} (p q : X → Bool) → ((x : X) → p x ≡ q x) → (xs : List X) → filter p xs ≡ filter q xs
filter_same p q same [] = refl
filter_same {X} p q same (x ∷ xs) =
    ap (λ (b : Bool). cond b (x ∷ filter p xs) (filter p xs)) (same x)
    ∙ ap (λ (ys : List X). cond (q x) (x ∷ ys) ys) (filter_same p q same xs)

filter_both : {X : Type 0} (p q : X → Bool) (xs : List X) → filter p (filter q xs) ≡ filter (λ x. p x && q x) xs
filter_both p q [] = refl
filter_both {X} p q (x ∷ xs) = by (q x) (p x) refl (filter_both p q xs)
  where
    by : (b c : Bool) → p x ≡ c → filter p (filter q xs) ≡ filter (λ x. p x && q x) xs → filter p (cond b (x ∷ filter q xs) (filter q xs)) ≡ cond (p x && b) (x ∷ filter (λ x. p x && q x) xs) (filter (λ x. p x && q x) xs)
    by true true e rest = ap (λ (c : Bool). cond c (x ∷ filter p (filter q xs)) (filter p (filter q xs))) e ∙ ap (λ (ys : List X). x ∷ ys) rest ∙ sym (ap (λ (c : Bool). cond (c && true) (x ∷ filter (λ x. p x && q x) xs) (filter (λ x. p x && q x) xs)) e)
    by true false e rest = ap (λ (c : Bool). cond c (x ∷ filter p (filter q xs)) (filter p (filter q xs))) e ∙ rest ∙ sym (ap (λ (c : Bool). cond (c && true) (x ∷ filter (λ x. p x && q x) xs) (filter (λ x. p x && q x) xs)) e)
    by false true e rest = rest ∙ sym (ap (λ (c : Bool). cond (c && false) (x ∷ filter (λ x. p x && q x) xs) (filter (λ x. p x && q x) xs)) e)
    by false false e rest = rest ∙ sym (ap (λ (c : Bool). cond (c && false) (x ∷ filter (λ x. p x && q x) xs) (filter (λ x. p x && q x) xs)) e)

same_name : (m n : List ℕ) → bytes_eq m n ≡ true → m ≡ n
same_name m n = (bytes_decides m n).0

-- a fresh name is none that is there
fresh_known : (names : List (List ℕ)) (n m : List ℕ) → list_any (bytes_eq n) names ≡ true → (fresh names m && not (bytes_eq m n)) ≡ fresh names m
fresh_known names n m known = by (bytes_eq m n) refl
  where
    by : (b : Bool) → bytes_eq m n ≡ b → (fresh names m && not b) ≡ fresh names m
    by true e =
        let is : fresh names m ≡ false = ap not (ap (λ (k : List ℕ). list_any (bytes_eq k) names) (same_name m n e) ∙ known) in
        ap (λ (c : Bool). c && false) is ∙ sym is
    by false e = and_true (fresh names m)
      where
        and_true : (c : Bool) → (c && true) ≡ c
        and_true true = refl
        and_true false = refl

fresh_more : (names : List (List ℕ)) (n m : List ℕ) → (fresh names m && not (bytes_eq m n)) ≡ fresh (names ++ n ∷ []) m
fresh_more names n m = by (list_any (bytes_eq m) names) (bytes_eq m n) ∙ sym (ap not (list_any-append (bytes_eq m) names (n ∷ [])))
  where
    by : (a b : Bool) → (not a && not b) ≡ not (a || (b || false))
    by true true = refl
    by true false = refl
    by false true = refl
    by false false = refl

-- the names, and then those that are new
with_names_is : (names ns : List (List ℕ)) → with_names names ns ≡ names ++ filter (fresh names) (distinct ns)
with_names_is names [] = sym (append-nil names)
with_names_is names (n ∷ ns) = by (list_any (bytes_eq n) names) refl (with_names_is (with_name names n) ns)
  where
    by : (b : Bool) → list_any (bytes_eq n) names ≡ b
        → with_names (with_name names n) ns ≡ with_name names n ++ filter (fresh (with_name names n)) (distinct ns)
        → with_names (with_name names n) ns ≡ names ++ cond (fresh names n) (n ∷ filter (fresh names) (filter (λ m. not (bytes_eq m n)) (distinct ns))) (filter (fresh names) (filter (λ m. not (bytes_eq m n)) (distinct ns)))
    by true e so_far =
        let stays : with_name names n ≡ names = ap (λ (c : Bool). cond c names (names ++ n ∷ [])) e in
        so_far
        ∙ ap (λ (ks : List (List ℕ)). ks ++ filter (fresh ks) (distinct ns)) stays
        ∙ ap (λ (ms : List (List ℕ)). names ++ ms) (sym (filter_both (fresh names) (λ m. not (bytes_eq m n)) (distinct ns) ∙ filter_same _ _ (λ m. fresh_known names n m e) (distinct ns)))
        ∙ sym (ap (λ (c : Bool). names ++ cond (not c) (n ∷ filter (fresh names) (filter (λ m. not (bytes_eq m n)) (distinct ns))) (filter (fresh names) (filter (λ m. not (bytes_eq m n)) (distinct ns)))) e)
    by false e so_far =
        let grows : with_name names n ≡ names ++ n ∷ [] = ap (λ (c : Bool). cond c names (names ++ n ∷ [])) e in
        so_far
        ∙ ap (λ (ks : List (List ℕ)). ks ++ filter (fresh ks) (distinct ns)) grows
        ∙ append_assoc names (n ∷ []) (filter (fresh (names ++ n ∷ [])) (distinct ns))
        ∙ ap (λ (ms : List (List ℕ)). names ++ n ∷ ms) (sym (filter_both (fresh names) (λ m. not (bytes_eq m n)) (distinct ns) ∙ filter_same _ _ (λ m. fresh_more names n m) (distinct ns)))
        ∙ sym (ap (λ (c : Bool). names ++ cond (not c) (n ∷ filter (fresh names) (filter (λ m. not (bytes_eq m n)) (distinct ns))) (filter (fresh names) (filter (λ m. not (bytes_eq m n)) (distinct ns)))) e)

all_pass : {X : Type 0} (xs : List X) → filter (λ x. true) xs ≡ xs
all_pass [] = refl
all_pass {X} (x ∷ xs) = ap (λ (ys : List X). x ∷ ys) (all_pass xs)

-- names that are added one after the other to none are the distinct ones
pub distinct_names : (ns : List (List ℕ)) → with_names [] ns ≡ distinct ns
distinct_names ns = with_names_is [] ns ∙ all_pass (distinct ns)

prefix_long : {X : Type 0} (p : X → Bool) (xs : List X) → prefix_len p xs ≤ length xs
prefix_long p [] = omega arith
prefix_long p (x ∷ xs) = by (p x) (prefix_long p xs)
  where
    by : (b : Bool) → prefix_len p xs ≤ length xs → cond b (1 + prefix_len p xs) 0 ≤ length (x ∷ xs)
    by true h = omega arith
    by false h = omega arith

pub number_within : (names : List (List ℕ)) (n : List ℕ) → number names n ≤ length names
number_within names n = prefix_long (λ x. not (bytes_eq n x)) names

pub number_found : (names : List (List ℕ)) (n : List ℕ) → unwrap_or (position (bytes_eq n) names) (length names) ≡ number names n
number_found names n = grind (arith, common_steps, number_within names n)
