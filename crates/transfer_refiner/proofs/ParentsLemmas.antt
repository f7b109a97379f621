-- One task more with its parents.
use Rattle.std.proofs.Common.{◌≡◌, ◌≢◌, ℕ, zero, suc, ◌+◌, ◌<◌, ◌||◌, Bool, true, false, List, [], ◌∷◌, ◌++◌, length, refl, sym, ap, ◌∙◌, nat_eq, arith, subst, length-append}
use Rattle.std.specs.Prelude.{Option, Some, None, slice_get}
use Rattle.plan_core.specs.declared.plan.Task.{Task}
use Rattle.std.specs.List.{list_any}
use Rattle.plan_core.specs.declared.plan.TaskKind.{TaskKind}
use Rattle.plan_core.specs.declared.plan.TaskKind.TheVariants.{Transfer, Run, Clean}
use Rattle.plan_core.specs.Numbers.{below, has}
use Rattle.plan_core.specs.code.Numbers.{RisesFrom}
use Rattle.plan_core.specs.Words.{is_clean_kind, kind_in, reads_in, writes_in, parents_in, task_numbers}
use Rattle.plan_core.specs.Kinds.{sweeps, task_waits}
use Rattle.plan_core.proofs.TestLemmas.{same_number, other_number, by_bool}
use Rattle.plan_core.proofs.NumbersLemmas.{same_below}
use Rattle.plan_core.proofs.RisingLemmas.{rising_is_below}
use Rattle.transfer_refiner.proofs.JobsLemmas.{any_same}
use Rattle.transfer_refiner.proofs.SliceLemmas.{place_of_any}
use Rattle.transfer_refiner.proofs.WritersLemmas.{task_below}
use Rattle.transfer_refiner.specs.code.Steps.{IsSame, AreParented}

front : {A : Type 0} (xs : List A) (x : A) (u : ℕ) → u < length xs → slice_get (xs ++ x ∷ []) u ≡ slice_get xs u
front [] x u l = absurd (omega arith)
front (y ∷ xs) x zero l = refl
front (y ∷ xs) x (suc u) l = front xs x u (omega arith)

last : {A : Type 0} (xs : List A) (x : A) (u : ℕ) → u ≡ length xs → slice_get (xs ++ x ∷ []) u ≡ Some x
last [] x zero e = refl
last [] x (suc u) e = absurd (omega arith)
last (y ∷ xs) x zero e = absurd (omega arith)
last (y ∷ xs) x (suc u) e = last xs x u (omega arith)

by_place : {B : Type 0} (word : Option Task → B) (goal : ℕ → B) (new : List Task) (x : Task) (n : ℕ) → length new ≡ n → ((u : ℕ) → u < n → word (slice_get new u) ≡ goal u) → word (Some x) ≡ goal n → (u : ℕ) → u < n + 1 → word (slice_get (new ++ x ∷ []) u) ≡ goal u
by_place word goal new x n long was now u l = by (nat_eq u n) refl
  where
    by : (b : Bool) → nat_eq u n ≡ b → word (slice_get (new ++ x ∷ []) u) ≡ goal u
    by true h = let same : u ≡ n = same_number u n h in ap word (last new x u (omega arith)) ∙ now ∙ ap goal (sym same)
    by false h = let off : u ≢ n = other_number u n h in ap word (front new x u (omega arith)) ∙ was u (omega arith)

pub parented_more : (e : ℕ → ℕ → Bool) (old new after : List Task) (t : ℕ) (x : Task) → AreParented e old new t → IsSame (slice_get old t) x → task_numbers x.parents ≡ below (length old) (λ u. task_waits (slice_get old t) (slice_get old u) || e t u) → after ≡ new ++ x ∷ [] → AreParented e old after (t + 1)
parented_more e old new after t x are same parents is = subst_back (record {
  long = long;
  kind = by_place kind_in (λ u. kind_in (slice_get old u)) new x t are.long are.kind same.kind;
  reads = by_place reads_in (λ u. reads_in (slice_get old u)) new x t are.long are.reads same.reads;
  writes = by_place writes_in (λ u. writes_in (slice_get old u)) new x t are.long are.writes same.writes;
  parents = by_place parents_in (λ u. below (length old) (λ v. task_waits (slice_get old u) (slice_get old v) || e u v)) new x t are.long are.parents parents;
})
  where
    long : length (new ++ x ∷ []) ≡ t + 1
    long = let one : length new ≡ t = are.long in omega (arith, length-append new (x ∷ []))

    subst_back : AreParented e old (new ++ x ∷ []) (t + 1) → AreParented e old after (t + 1)
    subst_back h = subst (λ ts. AreParented e old ts (t + 1)) (sym is) h

pub parented_none : (e : ℕ → ℕ → Bool) (old : List Task) → AreParented e old [] 0
parented_none e old = record {
  long = refl;
  kind = λ u l. absurd (omega arith);
  reads = λ u l. absurd (omega arith);
  writes = λ u l. absurd (omega arith);
  parents = λ u l. absurd (omega arith);
}

-- ---- the parents of one task

no_sweep : (o : Option TaskKind) (qs : List ℕ) → is_clean_kind o ≡ false → sweeps o qs ≡ false
no_sweep None qs h = refl
no_sweep (Some (Transfer f from to)) qs h = refl
no_sweep (Some (Run s js)) qs h = refl
no_sweep (Some (Clean q)) qs h = absurd cc

or_none : (a b c : Bool) → b ≡ false → c ≡ false → (a || (b || c)) ≡ a
or_none true b c h k = refl
or_none false true c h k = absurd cc
or_none false false true h k = absurd cc
or_none false false false h k = refl

pub awaited_are : (ts : List Task) (e1 e2 : ℕ → ℕ → Bool) (t : ℕ) (reads ns : List ℕ) → reads ≡ reads_in (slice_get ts t) → ((u : ℕ) → is_clean_kind (kind_in (slice_get ts u)) ≡ false)
    → ((u q : ℕ) → e1 u q ≡ has (writes_in (slice_get ts u)) q) → ((u v : ℕ) → e2 u v ≡ true → u < length ts)
    → ((n : ℕ) → ((u : ℕ) → (list_any (λ (q : ℕ). e1 u q) reads || e2 u t) ≡ true → u < n) → ns ≡ below n (λ u. list_any (λ (q : ℕ). e1 u q) reads || e2 u t))
    → ns ≡ below (length ts) (λ u. task_waits (slice_get ts t) (slice_get ts u) || e2 u t)
awaited_are ts e1 e2 t reads ns is cleans writes low given =
    given (length ts) small ∙ same_below (length ts) (λ u. list_any (λ (q : ℕ). e1 u q) reads || e2 u t) (λ u. task_waits (slice_get ts t) (slice_get ts u) || e2 u t) (λ u l. ap (λ (b : Bool). b || e2 u t) (waits u))
  where
    small : (u : ℕ) → (list_any (λ (q : ℕ). e1 u q) reads || e2 u t) ≡ true → u < length ts
    small u h = by_bool (list_any (λ (q : ℕ). e1 u q) reads)
        (λ k. let found = place_of_any (λ (q : ℕ). e1 u q) reads k in task_below ts u found.1 (sym (writes u found.1) ∙ found.3))
        (λ k. low u t (sym (ap (λ (b : Bool). b || e2 u t) k) ∙ h))

    waits : (u : ℕ) → list_any (λ (q : ℕ). e1 u q) reads ≡ task_waits (slice_get ts t) (slice_get ts u)
    waits u =
        any_same (λ (q : ℕ). e1 u q) (λ (q : ℕ). has (writes_in (slice_get ts u)) q) reads (λ q. writes u q)
        ∙ ap (λ (qs : List ℕ). list_any (λ (q : ℕ). has (writes_in (slice_get ts u)) q) qs) is
        ∙ sym (or_none (list_any (λ (q : ℕ). has (writes_in (slice_get ts u)) q) (reads_in (slice_get ts t))) (sweeps (kind_in (slice_get ts t)) (writes_in (slice_get ts u))) (sweeps (kind_in (slice_get ts t)) (reads_in (slice_get ts u)))
        (no_sweep (kind_in (slice_get ts t)) (writes_in (slice_get ts u)) (cleans t)) (no_sweep (kind_in (slice_get ts t)) (reads_in (slice_get ts u)) (cleans t)))

pub numbers_are : (list sorted : List ℕ) (test : ℕ → Bool) → ((u : ℕ) → has list u ≡ test u) → RisesFrom 0 sorted → ((x : ℕ) → has sorted x ≡ has list x) → (n : ℕ) → ((u : ℕ) → test u ≡ true → u < n) → sorted ≡ below n test
numbers_are list sorted test are rises same n low = rising_is_below n test sorted rises (λ u h. let k : test u ≡ true = sym (are u) ∙ sym (same u) ∙ h in (low u k, k)) (λ u l h. same u ∙ are u ∙ h)
