-- Lists in which nothing comes twice, mapped and put together.
use Rattle.std.proofs.Common.{◌≡◌, ℕ, Bool, true, false, not, ◌&&◌, ◌||◌, List, [], ◌∷◌, ◌++◌, map, refl, sym, ap, ◌∙◌, append_assoc}
use Rattle.std.specs.List.{AllByRecursion, list_any}
use Rattle.std.specs.Str.{bytes_eq}
use Rattle.std.proofs.lemmas.Bool.{and_from, and_parts, or_parts}
use Rattle.std.proofs.lemmas.List.{append-nil, map-append}
use Rattle.std.proofs.lemmas.List.Folds.{list_any-append}
use Rattle.workflow_core.specs.code.WellFormed.{are_distinct, are_new}
use Rattle.ensemble.specs.MemberEntry.{has_slash}
use Rattle.ensemble.specs.Prefix.{prefixed}
use Rattle.ensemble.proofs.PrefixLemmas.{other_prefixed, own_prefixed}

pub not_true : (b : Bool) → not b ≡ true → b ≡ false
not_true true h = absurd cc
not_true false h = refl

-- ---- what holds of each

pub all_joined : {X : Type 0} (P : X → Type 0) (xs ys : List X) → AllByRecursion P xs → AllByRecursion P ys → AllByRecursion P (xs ++ ys)
all_joined P [] ys h k = k
all_joined P (x ∷ xs) ys h k = (h.0, all_joined P xs ys h.1 k)

pub all_mapped : {X Y : Type 0} (P : Y → Type 0) (f : X → Y) (xs : List X) → AllByRecursion (λ x. P (f x)) xs → AllByRecursion P (map f xs)
all_mapped P f [] h = tt
all_mapped P f (x ∷ xs) h = (h.0, all_mapped P f xs h.1)

pub all_unmapped : {X Y : Type 0} (P : Y → Type 0) (f : X → Y) (xs : List X) → AllByRecursion P (map f xs) → AllByRecursion (λ x. P (f x)) xs
all_unmapped P f [] h = tt
all_unmapped P f (x ∷ xs) h = (h.0, all_unmapped P f xs h.1)

pub all_hold : {X : Type 0} (P : X → Type 0) (xs : List X) → ((x : X) → P x) → AllByRecursion P xs
all_hold P [] h = tt
all_hold P (x ∷ xs) h = (h x, all_hold P xs h)

pub all_weaker : {X : Type 0} (P Q : X → Type 0) (xs : List X) → ((x : X) → P x → Q x) → AllByRecursion P xs → AllByRecursion Q xs
all_weaker P Q [] h all = tt
all_weaker P Q (x ∷ xs) h all = (h x all.0, all_weaker P Q xs h all.1)

-- ---- tests

pub any_mapped : {A B : Type 0} (p : B → Bool) (q : A → Bool) (f : A → B) → ((a : A) → p (f a) ≡ q a) → (xs : List A) → list_any p (map f xs) ≡ list_any q xs
any_mapped p q f same [] = refl
any_mapped p q f same (x ∷ xs) =
    ap (λ (t : Bool). t || list_any p (map f xs)) (same x)
    ∙ ap (λ (t : Bool). q x || t) (any_mapped p q f same xs)

pub any_none : {A : Type 0} (xs : List A) → list_any (λ (a : A). false) xs ≡ false
any_none [] = refl
any_none (x ∷ xs) = any_none xs

-- ---- distinctness

new_mapped : {A B : Type 0} (one : A → A → Bool) (two : B → B → Bool) (f : A → B) → ((a b : A) → two (f a) (f b) ≡ one a b) → (known xs : List A) → are_new two (map f known) (map f xs) ≡ are_new one known xs
new_mapped one two f same known [] = refl
new_mapped {A} {B} one two f same known (x ∷ xs) =
    ap (λ (t : Bool). not t && are_new two (map f known ++ f x ∷ []) (map f xs)) (any_mapped (two (f x)) (one x) f (same x) known)
    ∙ ap (λ (ks : List B). not (list_any (one x) known) && are_new two ks (map f xs)) (sym (map-append f known (x ∷ [])))
    ∙ ap (λ (t : Bool). not (list_any (one x) known) && t) (new_mapped one two f same (known ++ x ∷ []) xs)

-- what is mapped by a function that keeps apart what is apart
pub distinct_mapped : {A B : Type 0} (one : A → A → Bool) (two : B → B → Bool) (f : A → B) → ((a b : A) → two (f a) (f b) ≡ one a b) → (xs : List A) → are_distinct two (map f xs) ≡ are_distinct one xs
distinct_mapped one two f same xs = new_mapped one two f same [] xs

joined_new : {A : Type 0} (eq : A → A → Bool) (known xs ys : List A) → are_new eq known xs ≡ true → are_new eq (known ++ xs) ys ≡ true → are_new eq known (xs ++ ys) ≡ true
joined_new {A} eq known [] ys h k = ap (λ (ks : List A). are_new eq ks ys) (sym (append-nil known)) ∙ k
joined_new {A} eq known (x ∷ xs) ys h k =
    let parts = and_parts (not (list_any (eq x) known)) (are_new eq (known ++ x ∷ []) xs) h in
    and_from _ _ parts.0 (joined_new eq (known ++ x ∷ []) xs ys parts.1 (ap (λ (ks : List A). are_new eq ks ys) (append_assoc known (x ∷ []) xs) ∙ k))

apart_new : {A : Type 0} (eq : A → A → Bool) (known more ys : List A) → AllByRecursion (λ (y : A). list_any (eq y) known ≡ false) ys → are_new eq more ys ≡ true → are_new eq (known ++ more) ys ≡ true
apart_new eq known more [] apart h = refl
apart_new {A} eq known more (y ∷ ys) apart h =
    let parts = and_parts (not (list_any (eq y) more)) (are_new eq (more ++ y ∷ []) ys) h in
    and_from _ _ (ap not (list_any-append (eq y) known more ∙ ap (λ (t : Bool). t || list_any (eq y) more) apart.0) ∙ parts.0)
    (ap (λ (ks : List A). are_new eq ks ys) (append_assoc known more (y ∷ [])) ∙ apart_new eq known (more ++ y ∷ []) ys apart.1 parts.1)

-- two lists that have nothing in common
pub distinct_joined : {A : Type 0} (eq : A → A → Bool) (xs ys : List A) → are_distinct eq xs ≡ true → are_distinct eq ys ≡ true → AllByRecursion (λ (y : A). list_any (eq y) xs ≡ false) ys → are_distinct eq (xs ++ ys) ≡ true
distinct_joined {A} eq xs ys h k apart = joined_new eq [] xs ys h (ap (λ (ks : List A). are_new eq ks ys) (sym (append-nil xs)) ∙ apart_new eq xs [] ys apart k)

-- what comes later differs from what is known
later_differ : {A : Type 0} (eq : A → A → Bool) (a : A) (known xs : List A) → are_new eq (a ∷ known) xs ≡ true → AllByRecursion (λ (x : A). eq x a ≡ false) xs
later_differ eq a known [] h = tt
later_differ eq a known (x ∷ xs) h =
    let parts = and_parts (not (eq x a || list_any (eq x) known)) (are_new eq (a ∷ (known ++ x ∷ [])) xs) h in
    ((or_parts (eq x a) (list_any (eq x) known) (not_true _ parts.0)).0, later_differ eq a (known ++ x ∷ []) xs parts.1)

fewer : {A : Type 0} (eq : A → A → Bool) (a : A) (known xs : List A) → are_new eq (a ∷ known) xs ≡ true → are_new eq known xs ≡ true
fewer eq a known [] h = refl
fewer eq a known (x ∷ xs) h =
    let parts = and_parts (not (eq x a || list_any (eq x) known)) (are_new eq (a ∷ (known ++ x ∷ [])) xs) h in
    and_from _ _ (ap not (or_parts (eq x a) (list_any (eq x) known) (not_true _ parts.0)).1) (fewer eq a (known ++ x ∷ []) xs parts.1)

-- the first of a distinct list, and the rest
pub first_apart : {A : Type 0} (eq : A → A → Bool) (a : A) (xs : List A) → are_distinct eq (a ∷ xs) ≡ true → AllByRecursion (λ (x : A). eq x a ≡ false) xs
first_apart eq a xs h = later_differ eq a [] xs h

pub rest_distinct : {A : Type 0} (eq : A → A → Bool) (a : A) (xs : List A) → are_distinct eq (a ∷ xs) ≡ true → are_distinct eq xs ≡ true
rest_distinct eq a xs h = fewer eq a [] xs h

-- ---- names under members' names

-- a member's name, and names of its own
abbrev pub Group : Type 0
Group = List ℕ × List (List ℕ)

abbrev pub gathered : List Group → List (List ℕ)
gathered [] = []
gathered (g ∷ gs) = map (prefixed g.0) g.1 ++ gathered gs

abbrev pub IsPlainGroup : Group → Type 0
IsPlainGroup g = has_slash g.0 ≡ false

abbrev pub IsDistinctGroup : Group → Type 0
IsDistinctGroup g = are_distinct bytes_eq g.1 ≡ true

group_apart : (m n y : List ℕ) (xs : List (List ℕ)) → has_slash m ≡ false → has_slash n ≡ false → bytes_eq n m ≡ false → list_any (bytes_eq (prefixed n y)) (map (prefixed m) xs) ≡ false
group_apart m n y xs p q h = any_mapped (bytes_eq (prefixed n y)) (λ x. false) (prefixed m) (λ x. other_prefixed n m y x q p h) xs ∙ any_none xs

groups_apart : (m : List ℕ) (xs : List (List ℕ)) → has_slash m ≡ false → (gs : List Group) → AllByRecursion IsPlainGroup gs → AllByRecursion (λ (g : Group). bytes_eq g.0 m ≡ false) gs
    → AllByRecursion (λ (y : List ℕ). list_any (bytes_eq y) (map (prefixed m) xs) ≡ false) (gathered gs)
groups_apart m xs p [] plain differ = tt
groups_apart m xs p (g ∷ gs) plain differ =
    all_joined _ (map (prefixed g.0) g.1) (gathered gs)
    (all_mapped _ (prefixed g.0) g.1 (all_hold _ g.1 (λ y. group_apart m g.0 y xs p plain.0 differ.0)))
    (groups_apart m xs p gs plain.1 differ.1)

-- distinct names under distinct members' names are distinct
pub gathered_distinct : (gs : List Group) → AllByRecursion IsPlainGroup gs → are_distinct bytes_eq (map (λ (g : Group). g.0) gs) ≡ true → AllByRecursion IsDistinctGroup gs → are_distinct bytes_eq (gathered gs) ≡ true
gathered_distinct [] plain once each = refl
gathered_distinct (g ∷ gs) plain once each =
    distinct_joined bytes_eq (map (prefixed g.0) g.1) (gathered gs)
    (distinct_mapped bytes_eq bytes_eq (prefixed g.0) (λ a b. own_prefixed g.0 a b plain.0) g.1 ∙ each.0)
    (gathered_distinct gs plain.1 (rest_distinct bytes_eq g.0 (map (λ (h : Group). h.0) gs) once) each.1)
    (groups_apart g.0 g.1 plain.0 gs plain.1 (all_unmapped (λ n. bytes_eq n g.0 ≡ false) (λ (h : Group). h.0) gs (first_apart bytes_eq g.0 (map (λ (h : Group). h.0) gs) once)))
