-- Numbers seen in their wrappers.
use Rattle.std.proofs.Common.{◌≡◌, ℕ, zero, suc, ◌<◌, Bool, true, false, cond, ◌&&◌, List, [], ◌∷◌, length, map, get_or, refl, ap, nat_eq, arith}
use Rattle.std.specs.Prelude.{filter, not, option_map, slice_get}
use Rattle.std.specs.List.{list_all}
use Rattle.values.specs.declared.numbers.PairId.{PairId}
use Rattle.values.specs.declared.numbers.TaskId.{TaskId}
use Rattle.plan_core.specs.Words.{pair_numbers, task_numbers}
use Rattle.lease_rules.specs.State.{without}

all_map : {A B : Type 0} (test : B → Bool) (g : A → B) (xs : List A) → list_all test (map g xs) ≡ list_all (λ x. test (g x)) xs
all_map test g [] = refl
all_map test g (x ∷ xs) = ap (λ (b : Bool). test (g x) && b) (all_map test g xs)

pub all_tasks : (test : ℕ → Bool) (xs : List TaskId) → list_all test (task_numbers xs) ≡ list_all (λ (x : TaskId). test x.0) xs
all_tasks test xs = all_map test (λ (x : TaskId). x.0) xs

map_get : {A B : Type 0} (g : A → B) (xs : List A) (k : ℕ) → slice_get (map g xs) k ≡ option_map g (slice_get xs k)
map_get g [] k = refl
map_get g (x ∷ xs) zero = refl
map_get g (x ∷ xs) (suc k) = map_get g xs k

pub get_task : (xs : List TaskId) (k : ℕ) → slice_get (task_numbers xs) k ≡ option_map (λ (x : TaskId). x.0) (slice_get xs k)
get_task xs k = map_get (λ (x : TaskId). x.0) xs k

map_length : {A B : Type 0} (g : A → B) (xs : List A) → length (map g xs) ≡ length xs
map_length g [] = refl
map_length g (x ∷ xs) = ap suc (map_length g xs)

pub count_pairs_in : (xs : List PairId) → length (pair_numbers xs) ≡ length xs
count_pairs_in xs = map_length (λ (x : PairId). x.0) xs

pub count_tasks_in : (xs : List TaskId) → length (task_numbers xs) ≡ length xs
count_tasks_in xs = map_length (λ (x : TaskId). x.0) xs

map_at : {A B : Type 0} (g : A → B) (xs : List A) (k : ℕ) (d : A) (e : B) → k < length xs → get_or (map g xs) k e ≡ g (get_or xs k d)
map_at g [] k d e l = absurd (omega arith)
map_at g (x ∷ xs) zero d e l = refl
map_at g (x ∷ xs) (suc k) d e l = map_at g xs k d e (omega arith)

pub pair_at : (xs : List PairId) (k : ℕ) (d : PairId) → k < length xs → get_or (pair_numbers xs) k 0 ≡ (get_or xs k d).0
pair_at xs k d l = map_at (λ (x : PairId). x.0) xs k d 0 l

pub task_at : (xs : List TaskId) (k : ℕ) (d : TaskId) → k < length xs → get_or (task_numbers xs) k 0 ≡ (get_or xs k d).0
task_at xs k d l = map_at (λ (x : TaskId). x.0) xs k d 0 l

pub other_numbers : (t : ℕ) (xs : List TaskId) → task_numbers (filter (λ (x : TaskId). not (nat_eq t x.0)) xs) ≡ without t (task_numbers xs)
other_numbers t [] = refl
other_numbers t (x ∷ xs) = by_test (not (nat_eq t x.0)) (other_numbers t xs)
  where
    by_test : (b : Bool) → task_numbers (filter (λ (y : TaskId). not (nat_eq t y.0)) xs) ≡ without t (task_numbers xs)
        → task_numbers (cond b (x ∷ filter (λ (y : TaskId). not (nat_eq t y.0)) xs) (filter (λ (y : TaskId). not (nat_eq t y.0)) xs)) ≡ cond b (x.0 ∷ without t (task_numbers xs)) (without t (task_numbers xs))
    by_test true h = ap (λ (ys : List ℕ). x.0 ∷ ys) h
    by_test false h = h
