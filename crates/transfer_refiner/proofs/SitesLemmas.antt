-- What a request's check of its execution sites tells.
use Rattle.std.proofs.Common.{◌≡◌, ◌<◌, ◌≤◌, ℕ, Bool, true, false, cond, ◌||◌, nat_lt, List, [], ◌∷◌, ◌++◌, map, length, refl, sym, ap, ◌∙◌, arith}
use Rattle.std.specs.Prelude.{Option, Some, None, Result, Ok, Err}
use Rattle.std.specs.List.{AllByRecursion, IsDistinct, list_any}
use Rattle.std.specs.Cmp.Lexicographic.{bytes_decides}
use Rattle.std.specs.Str.{bytes_eq}
use Rattle.std.proofs.lemmas.List.Folds.{list_any-append}
use Rattle.peg_json.specs.Tree.{◌>>=◌}
use Rattle.peg_json.specs.Elements.{first_repeat, refused}
use Rattle.peg_json.specs.declared.read_fault.Counted.TheVariants.{Sites}
use Rattle.peg_json.specs.declared.read_fault.ReadFault.{ReadFault}
use Rattle.peg_json.specs.declared.read_fault.ReadFault.TheVariants.{DuplicateSite, TooMany}
use Rattle.plan_request.specs.declared.request.Execution.{Execution}
use Rattle.plan_request.specs.Request.{execute_checked}
use Rattle.plan_core.proofs.TestLemmas.{or_left, or_right}

any_more : {X : Type 0} (test : X → Bool) (xs : List X) (x : X) → list_any test (xs ++ x ∷ []) ≡ (list_any test xs || test x)
any_more test xs x = list_any-append test xs (x ∷ []) ∙ ap (λ (b : Bool). list_any test xs || b) (or_false (test x))
  where
    or_false : (b : Bool) → (b || false) ≡ b
    or_false true = refl
    or_false false = refl

or_none : (a b : Bool) → (a || b) ≡ false → (a ≡ false) × (b ≡ false)
or_none true b h = absurd cc
or_none false b h = (refl, h)

all_other : (n : List ℕ) (ns : List (List ℕ)) → list_any (bytes_eq n) ns ≡ false → AllByRecursion (λ (m : List ℕ). bytes_eq n m ≡ false) ns
all_other n [] h = tt
all_other n (m ∷ ns) h = let none = or_none (bytes_eq n m) (list_any (bytes_eq n) ns) h in (none.0, all_other n ns none.1)

abbrev names_of : List Execution → List (List ℕ)
names_of es = map (λ (e : Execution). e.site) es

-- a name that is known doesn't come again
known_before : (known ns : List (List ℕ)) (m : List ℕ) → list_any (bytes_eq m) known ≡ true → first_repeat bytes_eq known ns ≡ None → list_any (bytes_eq m) ns ≡ false
known_before known [] m there none = refl
known_before known (n ∷ ns) m there none = by_repeat (list_any (bytes_eq n) known) refl none (known_before (known ++ n ∷ []) ns m (any_more (bytes_eq m) known n ∙ or_left (list_any (bytes_eq m) known) (bytes_eq m n) there))
  where
    by_name : (b : Bool) → bytes_eq m n ≡ b → list_any (bytes_eq n) known ≡ false → list_any (bytes_eq m) ns ≡ false → (b || list_any (bytes_eq m) ns) ≡ false
    by_name true e new later = absurd (let same = ap (λ (k : List ℕ). list_any (bytes_eq k) known) ((bytes_decides m n).0 e) in let k = sym there ∙ same ∙ new in cc)
    by_name false e new later = later

    by_repeat : (b : Bool) → list_any (bytes_eq n) known ≡ b → cond b (Some n) (first_repeat bytes_eq (known ++ n ∷ []) ns) ≡ None → (first_repeat bytes_eq (known ++ n ∷ []) ns ≡ None → list_any (bytes_eq m) ns ≡ false) → (bytes_eq m n || list_any (bytes_eq m) ns) ≡ false
    by_repeat true e k later = absurd cc
    by_repeat false e k later = by_name (bytes_eq m n) refl e (later k)

distinct_after : (known ns : List (List ℕ)) → first_repeat bytes_eq known ns ≡ None → IsDistinct bytes_eq ns
unfolding IsDistinct
distinct_after known [] none = tt
distinct_after known (n ∷ ns) none = by_repeat (list_any (bytes_eq n) known) none (distinct_after (known ++ n ∷ []) ns)
  where
    itself : bytes_eq n n ≡ true
    itself = (bytes_decides n n).1 refl

    by_repeat : (b : Bool) → cond b (Some n) (first_repeat bytes_eq (known ++ n ∷ []) ns) ≡ None → (first_repeat bytes_eq (known ++ n ∷ []) ns ≡ None → IsDistinct bytes_eq ns) → IsDistinct bytes_eq (n ∷ ns)
    by_repeat true k later = absurd cc
    by_repeat false k later = (all_other n ns (known_before (known ++ n ∷ []) ns n (any_more (bytes_eq n) known n ∙ or_right (list_any (bytes_eq n) known) (bytes_eq n n) itself) k), later k)

abbrev passes : Result (Unit {0}) ReadFault
passes = Ok tt

-- what a request's check of its execution sites tells
record AreChecked (es : List Execution) : Type 0 where
  few : length es < 65
  unrepeated : first_repeat bytes_eq [] (names_of es) ≡ None

checked_are : (es : List Execution) → execute_checked es ≡ Ok tt → AreChecked es
unfolding execute_checked
checked_are es h = by_count (nat_lt 64 (length (names_of es))) refl h
  where
    long : (xs : List Execution) → length (names_of xs) ≡ length xs
    long [] = refl
    long (x ∷ xs) = let less = long xs in omega (arith, less)

    by_repeat : (o : Option (List ℕ)) → refused DuplicateSite o ≡ passes → o ≡ None
    by_repeat None k = refl
    by_repeat (Some n) k = absurd cc

    by_count : (b : Bool) → nat_lt 64 (length (names_of es)) ≡ b → (cond b (Err (TooMany Sites (length (names_of es)) 64)) passes >>= λ _. refused DuplicateSite (first_repeat bytes_eq [] (names_of es))) ≡ passes → AreChecked es
    by_count true e k = absurd cc
    by_count false e k = record { few = (let l = long es in grind (arith, e, l)); unrepeated = by_repeat (first_repeat bytes_eq [] (names_of es)) k }

pub few_sites : (es : List Execution) → execute_checked es ≡ Ok tt → length es ≤ 64
few_sites es h = let few = (checked_are es h).few in omega (arith, few)

pub site_names : (es : List Execution) → execute_checked es ≡ Ok tt → IsDistinct bytes_eq (map (λ (e : Execution). e.site) es)
site_names es h = distinct_after [] (names_of es) (checked_are es h).unrepeated
