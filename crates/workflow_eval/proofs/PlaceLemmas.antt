-- What stands in a table after outputs are placed.
use Rattle.std.proofs.Common.{◌≡◌, ℕ, ◌<◌, ◌||◌, Bool, true, false, cond, List, [], ◌∷◌, length, map, refl, ap, ◌∙◌, All, arith}
use Rattle.std.specs.Prelude.{◌==◌, Option, Some, IsSome, slice_set}
use Rattle.std.specs.List.{list_any, AllByRecursion}
use Rattle.std.proofs.lemmas.Grind.{common_steps}
use Rattle.std.proofs.lemmas.List.Elements.{All-nil, All-cons}
use Rattle.workflow_core.specs.declared.workflow.Output.{Output}
use Rattle.values.specs.Apply.{part}
use Rattle.workflow_eval.specs.FileTable.{at, placed}

pub length_placed : (os : List ℕ) (vs : List (List ℕ)) (table : List (Option (List ℕ))) → length (placed os vs table) ≡ length table
length_placed [] vs table = refl
length_placed (o ∷ os) [] table = refl
length_placed (o ∷ os) (v ∷ vs) table = grind (arith, common_steps, length_placed os vs table)

set_read : (table : List (Option (List ℕ))) (o f : ℕ) (x : Option (List ℕ)) → o < length table → at (slice_set table o x) f ≡ cond (o == f) x (at table f)
set_read table o f x h = grind (arith, common_steps)

-- what is read after the outputs are placed
pub at_placed : (os : List ℕ) (vs : List (List ℕ)) (table : List (Option (List ℕ))) (f : ℕ) → AllByRecursion (λ p. p < length table) os → length os ≡ length vs → at (placed os vs table) f ≡ cond (list_any (λ o. o == f) os) (part f os vs) (at table f)
at_placed [] vs table f below same = refl
at_placed (o ∷ os) [] table f below same = absurd (omega arith)
at_placed (o ∷ os) (v ∷ vs) table f below same =
    set_read (placed os vs table) o f (Some v) (omega (arith, length_placed os vs table, below.0))
    ∙ ap (λ (x : Option (List ℕ)). cond (o == f) (Some v) x) (at_placed os vs table f below.1 (omega arith))
    ∙ regroup (o == f) (list_any (λ p. p == f) os) (Some v) (part f os vs) (at table f)
  where
    regroup : (a b : Bool) (x y z : Option (List ℕ)) → cond a x (cond b y z) ≡ cond (a || b) (cond a x y) z
    regroup true b x y z = refl
    regroup false b x y z = refl

-- each output of a job has its part
pub part_there : (os : List ℕ) (vs : List (List ℕ)) (f : ℕ) → length os ≡ length vs → list_any (λ o. o == f) os ≡ true → IsSome (part f os vs)
part_there [] vs f same is = absurd cc
part_there (o ∷ os) [] f same is = absurd (omega arith)
part_there (o ∷ os) (v ∷ vs) f same is = by_test (o == f) (Some v) (part f os vs) refl (λ (e : list_any (λ p. p == f) os ≡ true). part_there os vs f (omega arith) e) is
  where
    by_test : (b : Bool) (x y : Option (List ℕ)) → IsSome x → (list_any (λ p. p == f) os ≡ true → IsSome y) → (b || list_any (λ p. p == f) os) ≡ true → IsSome (cond b x y)
    by_test true x y p q r = p
    by_test false x y p q r = q r

-- each output's file has a place
pub all_below : (n : ℕ) (os : List Output) → AllByRecursion (λ p. p < n) (map (λ (o : Output). o.file.0) os) → All (λ (o : Output). o.file.0 < n) os
all_below n [] below = All-nil (λ (o : Output). o.file.0 < n)
all_below n (o ∷ os) below = All-cons (λ (o : Output). o.file.0 < n) o os below.0 (all_below n os below.1)
