-- One task more, or less, on the stack.
use Rattle.std.proofs.Common.{◌≡◌, ◌<◌, ℕ, List, [], ◌∷◌, ◌++◌, length, Option, Some, None, refl, sym, ap, ◌∙◌, arith}
use Rattle.std.specs.Prelude.{IsSome, option_to_list}
use Rattle.values.specs.declared.numbers.TaskId.{TaskId}
use Rattle.plan_core.specs.Words.{task_numbers}
use Rattle.place_peaks.specs.Stack.{IsFirstOf, stacked}

stacked_last : (xs more : List ℕ) (t : ℕ) → stacked (xs ++ t ∷ []) more ≡ t ∷ stacked xs more
stacked_last [] more t = refl
stacked_last (x ∷ xs) more t = stacked_last xs (x ∷ more) t

pub numbers_last : (xs : List TaskId) (t : TaskId) → task_numbers (xs ++ t ∷ []) ≡ task_numbers xs ++ t.0 ∷ []
numbers_last [] t = refl
numbers_last (x ∷ xs) t = ap (λ (ys : List ℕ). x.0 ∷ ys) (numbers_last xs t)

pub pushed : (old new : List TaskId) (t : TaskId) → new ≡ old ++ t ∷ [] → stacked (task_numbers new) [] ≡ t.0 ∷ stacked (task_numbers old) []
pushed old new t e = ap (λ (xs : List TaskId). stacked (task_numbers xs) []) e ∙ ap (λ (xs : List ℕ). stacked xs []) (numbers_last old t) ∙ stacked_last (task_numbers old) [] t.0

-- the lists of a stack and of what it is without its first task
first_same : (t u : ℕ) (ts us : List ℕ) → t ∷ ts ≡ u ∷ us → t ≡ u
first_same t u ts us e = cc

none_first : (xs : List TaskId) (t : ℕ) → xs ≡ [] → IsFirstOf (stacked (task_numbers xs) []) t → ⊥
none_first xs t e first = absurd (let no : [] ≡ t ∷ first.0 = sym (ap (λ (ys : List TaskId). stacked (task_numbers ys) []) e) ∙ first.1 in cc)

pub popped : (old new : List TaskId) (t : ℕ) (o : Option TaskId) → old ≡ new ++ option_to_list o → (0 < length old → IsSome o) → IsFirstOf (stacked (task_numbers old) []) t → stacked (task_numbers old) [] ≡ t ∷ stacked (task_numbers new) []
popped old new t None e some first = absurd (by old (λ l. not_some None refl (some l)) first)
  where
    not_some : (o : Option TaskId) → o ≡ None → IsSome o → ⊥
    not_some None same h = absurd cc
    not_some (Some x) same h = absurd cc

    by : (xs : List TaskId) → (0 < length xs → ⊥) → IsFirstOf (stacked (task_numbers xs) []) t → ⊥
    by [] h f = none_first [] t refl f
    by (x ∷ xs) h f = h (omega arith)
popped old new t (Some x) e some first =
    let is = pushed new old x e in
    let same : x.0 ≡ t = first_same x.0 t (stacked (task_numbers new) []) first.0 (sym is ∙ first.1) in
    is ∙ ap (λ (n : ℕ). n ∷ stacked (task_numbers new) []) same
