-- A task at a position of a stack, and of what is behind it.
use Rattle.std.proofs.Common.{◌≡◌, ℕ, zero, suc, ◌+◌, ◌-◌, ◌<◌, ◌≤◌, List, [], ◌∷◌, ◌++◌, length, get_or, Some, refl, sym, ap, ◌∙◌, arith}
use Rattle.std.specs.Prelude.{slice_get}
use Rattle.values.specs.declared.numbers.TaskId.{TaskId}
use Rattle.place_peaks.proofs.Offered.{count_tasks_in}
use Rattle.plan_core.specs.Words.{task_numbers}
use Rattle.place_peaks.specs.Stack.{stacked}

-- the stack, then more tasks
stacked_more : (xs more ys : List ℕ) → stacked xs more ++ ys ≡ stacked xs (more ++ ys)
stacked_more [] more ys = refl
stacked_more (x ∷ xs) more ys = stacked_more xs (x ∷ more) ys

stacked_past : (xs more : List ℕ) (n : ℕ) → slice_get (stacked xs more) (length xs + n) ≡ slice_get more n
stacked_past [] more n = ap (slice_get more) (let same : 0 + n ≡ n = omega arith in same)
stacked_past (x ∷ xs) more n =
    ap (slice_get (stacked xs (x ∷ more))) (let next : suc (length xs) + n ≡ length xs + suc n = omega arith in next)
    ∙ stacked_past xs (x ∷ more) (suc n)

get_at : (xs : List ℕ) (j : ℕ) → j < length xs → Some (get_or xs j 0) ≡ slice_get xs j
get_at [] j l = absurd (omega (arith, l))
get_at (x ∷ xs) zero l = refl
get_at (x ∷ xs) (suc j) l = get_at xs j (omega (arith, l))

stacked_at : (xs more : List ℕ) (j k : ℕ) → suc (k + j) ≡ length xs → slice_get (stacked xs more) k ≡ slice_get xs j
stacked_at [] more j k e = absurd (omega (arith, e))
stacked_at (x ∷ xs) more zero k e =
    ap (slice_get (stacked xs (x ∷ more))) (let end : k ≡ length xs + 0 = omega (arith, e) in end)
    ∙ stacked_past xs (x ∷ more) 0
stacked_at (x ∷ xs) more (suc j) k e = stacked_at xs (x ∷ more) j k (omega (arith, e))

pub in_stack : (again : List TaskId) (ys : List ℕ) (waiting k t : ℕ) → waiting ≡ length again → k < waiting
    → t ≡ get_or (task_numbers again) (waiting - 1 - k) 0 → Some t ≡ slice_get (stacked (task_numbers again) [] ++ ys) k
in_stack again ys waiting k t long l is =
    let count = count_tasks_in again in
    let xs : List ℕ = task_numbers again in
    let j : ℕ = waiting - 1 - k in
    let within : waiting - 1 - k < length (task_numbers again) = omega (arith, count, long, l) in
    let sum : suc (k + (waiting - 1 - k)) ≡ length (task_numbers again) = omega (arith, count, long, l) in
    ap Some is ∙ get_at xs j within ∙ sym (stacked_at xs ([] ++ ys) j k sum)
    ∙ ap (λ (zs : List ℕ). slice_get zs k) (sym (stacked_more xs [] ys))

pub behind_stack : (again : List TaskId) (ys : List ℕ) (waiting k : ℕ) → waiting ≡ length again → waiting ≤ k
    → slice_get ys (k - waiting) ≡ slice_get (stacked (task_numbers again) [] ++ ys) k
behind_stack again ys waiting k long l =
    let count = count_tasks_in again in
    let xs : List ℕ = task_numbers again in
    let same : k ≡ length (task_numbers again) + (k - waiting) = omega (arith, count, long, l) in
    sym (
    ap (λ (zs : List ℕ). slice_get zs k) (stacked_more xs [] ys)
    ∙ ap (slice_get (stacked xs ys)) same
    ∙ stacked_past xs ys (k - waiting)
    )
