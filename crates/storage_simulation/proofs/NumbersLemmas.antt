-- Numbers seen in their wrappers.
use Rattle.std.proofs.Common.{◌≡◌, ℕ, zero, suc, ◌<◌, Bool, ◌||◌, ◌&&◌, List, [], ◌∷◌, length, map, take, get_or, refl, ap, nat_eq, arith}
use Rattle.std.specs.List.{list_any, list_all}
use Rattle.values.specs.declared.numbers.PairId.{PairId}
use Rattle.values.specs.declared.numbers.TaskId.{TaskId}
use Rattle.plan_core.specs.Numbers.{has}
use Rattle.plan_core.specs.Words.{pair_numbers, task_numbers}

any_map : {A B : Type 0} (test : B → Bool) (g : A → B) (xs : List A) → list_any test (map g xs) ≡ list_any (λ x. test (g x)) xs
any_map test g [] = refl
any_map test g (x ∷ xs) = ap (λ (b : Bool). test (g x) || b) (any_map test g xs)

pub any_task : (test : ℕ → Bool) (xs : List TaskId) → list_any test (task_numbers xs) ≡ list_any (λ (x : TaskId). test x.0) xs
any_task test xs = any_map test (λ (x : TaskId). x.0) xs

pub has_task : (xs : List TaskId) (t : ℕ) → has (task_numbers xs) t ≡ list_any (λ (x : TaskId). nat_eq x.0 t) xs
has_task xs t = any_map (λ y. nat_eq y t) (λ (x : TaskId). x.0) xs

pub has_pair : (xs : List PairId) (q : ℕ) → has (pair_numbers xs) q ≡ list_any (λ (x : PairId). nat_eq x.0 q) xs
has_pair xs q = any_map (λ y. nat_eq y q) (λ (x : PairId). x.0) xs

all_map : {A B : Type 0} (test : B → Bool) (g : A → B) (xs : List A) → list_all test (map g xs) ≡ list_all (λ x. test (g x)) xs
all_map test g [] = refl
all_map test g (x ∷ xs) = ap (λ (b : Bool). test (g x) && b) (all_map test g xs)

pub all_tasks : (test : ℕ → Bool) (xs : List TaskId) → list_all test (task_numbers xs) ≡ list_all (λ (x : TaskId). test x.0) xs
all_tasks test xs = all_map test (λ (x : TaskId). x.0) xs

map_length : {A B : Type 0} (g : A → B) (xs : List A) → length (map g xs) ≡ length xs
map_length g [] = refl
map_length g (x ∷ xs) = ap suc (map_length g xs)

pub count_tasks_in : (xs : List TaskId) → length (task_numbers xs) ≡ length xs
count_tasks_in xs = map_length (λ (x : TaskId). x.0) xs

map_at : {A B : Type 0} (g : A → B) (xs : List A) (k : ℕ) (d : A) (e : B) → k < length xs → get_or (map g xs) k e ≡ g (get_or xs k d)
map_at g [] k d e l = absurd (omega arith)
map_at g (x ∷ xs) zero d e l = refl
map_at g (x ∷ xs) (suc k) d e l = map_at g xs k d e (omega arith)

pub task_at : (xs : List TaskId) (k : ℕ) (d : TaskId) → k < length xs → get_or (task_numbers xs) k 0 ≡ (get_or xs k d).0
task_at xs k d l = map_at (λ (x : TaskId). x.0) xs k d 0 l

map_take : {A B : Type 0} (g : A → B) (k : ℕ) (xs : List A) → map g (take k xs) ≡ take k (map g xs)
map_take g zero xs = refl
map_take g (suc k) [] = refl
map_take g (suc k) (x ∷ xs) = ap (λ (ys : List _). g x ∷ ys) (map_take g k xs)

pub take_numbers : (k : ℕ) (xs : List TaskId) → task_numbers (take k xs) ≡ take k (task_numbers xs)
take_numbers k xs = map_take (λ (x : TaskId). x.0) k xs
