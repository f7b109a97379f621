-- The Clean of each good, task by task.
use Rattle.std.proofs.Common.{◌≡◌, ℕ, ◌+◌, ◌≤◌, ◌<◌, ◌⊎◌, inl, inr, Bool, true, false, cond, nat_eq, List, length, get_or, Option, Some, None, refl, sym, ap, subst, ◌∙◌, arith}
use Rattle.std.specs.Prelude.{replicate, set}
use Rattle.std.proofs.lemmas.Bool.{cases_lt}
use Rattle.std.proofs.lemmas.List.{get_or-replicate, get_or_past, length-replicate}
use Rattle.std.proofs.lemmas.Option.{slice_get_past}
use Rattle.plan_core.specs.declared.plan.Plan.{Plan}
use Rattle.plan_core.specs.declared.plan.Task.{Task}
use Rattle.plan_core.specs.Words.{cleans, count_tasks, kind, kind_cleans, kind_in}
use Rattle.place_peaks.specs.Links.{AreCleanersBefore, IsCleaner, IsCleanerBefore}
use Rattle.place_peaks.proofs.SetLemmas.{get_set}

none_there : (n g : ℕ) (none : Option ℕ) → get_or (replicate n none) g none ≡ none
none_there n g none = by (cases_lt g n)
  where
    by : (g < n) ⊎ (n ≤ g) → get_or (replicate n none) g none ≡ none
    by (inl l) = get_or-replicate n g none none l
    by (inr l) = get_or_past (replicate n none) g none (let e = length-replicate n none in omega (arith, e, l))

pub cleaners_first : (p : Plan) (k n : ℕ) → k ≡ 0 → AreCleanersBefore p k (replicate n None)
cleaners_first p k n e g = subst (IsCleanerBefore p k g) (sym (none_there n g None)) (λ c l. absurd (omega (arith, e, l)))

one_more : (p : Plan) (k g : ℕ) (o : Option ℕ) → IsCleanerBefore p k g o → cleans p k g ≡ false → IsCleanerBefore p (k + 1) g o
one_more p k g None so_far off = λ c l. by c l (cases_lt c k)
  where
    by : (c : ℕ) → c < k + 1 → (c < k) ⊎ (k ≤ c) → cleans p c g ≡ false
    by c l (inl m) = so_far c m
    by c l (inr m) = ap (λ (n : ℕ). cleans p n g) (let e : c ≡ k = omega (arith, l, m) in e) ∙ off
one_more p k g (Some d) so_far off = so_far

pub none_cleaned : (p : Plan) (k : ℕ) (items : List (Option ℕ)) → AreCleanersBefore p k items → ((g : ℕ) → cleans p k g ≡ false) → AreCleanersBefore p (k + 1) items
none_cleaned p k items so_far off g = one_more p k g (get_or items g None) (so_far g) (off g)

pub one_cleaned : (p : Plan) (k good : ℕ) (items : List (Option ℕ)) → AreCleanersBefore p k items → ((g : ℕ) → cleans p k g ≡ nat_eq good g) → good < length items → AreCleanersBefore p (k + 1) (set items good (Some k))
one_cleaned p k good items so_far its l g = subst (IsCleanerBefore p (k + 1) g) (sym (get_set items good g (Some k) None l)) (by (nat_eq good g) refl)
  where
    by : (b : Bool) → nat_eq good g ≡ b → IsCleanerBefore p (k + 1) g (cond b (Some k) (get_or items g None))
    by true e = its g ∙ e
    by false e = one_more p k g (get_or items g None) (so_far g) (its g ∙ e)

no_task : (p : Plan) (c g : ℕ) → count_tasks p ≤ c → cleans p c g ≡ false
unfolding kind
no_task p c g l = ap (λ (o : Option Task). kind_cleans (kind_in o) g) (slice_get_past p.tasks c l)

pub cleaners_all : (p : Plan) (k : ℕ) (items : List (Option ℕ)) → k ≡ count_tasks p → AreCleanersBefore p k items → (g : ℕ) → IsCleaner p g (get_or items g None)
cleaners_all p k items e so_far g = by (get_or items g None) (so_far g)
  where
    by : (o : Option ℕ) → IsCleanerBefore p k g o → IsCleaner p g o
    by None h = λ c. by_place c (cases_lt c k)
      where
        by_place : (c : ℕ) → (c < k) ⊎ (k ≤ c) → cleans p c g ≡ false
        by_place c (inl l) = h c l
        by_place c (inr l) = no_task p c g (omega (arith, e, l))
    by (Some d) h = h
