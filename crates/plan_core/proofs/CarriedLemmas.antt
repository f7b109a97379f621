-- On a proper plan what is carried settles.
use Rattle.std.proofs.Common.{◌≡◌, ℕ, zero, suc, ◌<◌, ◌≤◌, Bool, true, false, cond, ◌||◌, refl, sym, ap, ◌∙◌, ◌⊎◌, inl, inr}
use Rattle.std.specs.Prelude.{Option, Some, None, option_and_then}
use Rattle.std.specs.List.{list_any}
use Rattle.values.specs.Apply.{Apply}
use Rattle.plan_core.specs.declared.plan.Plan.{Plan}
use Rattle.plan_core.specs.declared.plan.TaskKind.{TaskKind}
use Rattle.std.proofs.lemmas.Option.{slice_get_past}
use Rattle.plan_core.specs.Numbers.{has}
use Rattle.plan_core.specs.Words.{kind_in, reads, writes, parents, kind, count_tasks}
use Rattle.plan_core.specs.Kinds.{kind_writes, sweeps, reads_file, writes_file, waits_for}
use Rattle.plan_core.specs.code.Proper.{IsProper, is_parent}
use Rattle.plan_core.specs.Carried.{Bytes, read, carried_by, writer, stored, carried_within, carried}
use Rattle.plan_core.specs.code.Carried.{IsCarrying}
use Rattle.plan_core.proofs.TestLemmas.{or_left}
use Rattle.plan_core.proofs.NumbersLemmas.{any_has, below_has, least_passes, some_least}
use Rattle.std.proofs.lemmas.Bool.{cases_lt}
use Rattle.plan_core.proofs.PairLemmas.{listed_read, listed_written, read_stands, has_file_writer}
use Rattle.plan_core.specs.code.Grounded.{Grounded, ground}
use Rattle.plan_core.proofs.GroundedLemmas.{all_grounded}
use Rattle.plan_core.proofs.SettlingLemmas.{IsWorkedOut, settled}

-- what is carried by a task is worked out of what it reads
same_at : (u v : ℕ → ℕ → Option Bytes) → ((s f : ℕ) → u s f ≡ v s f) → u ≡ v
same_at u v h = λ i s f. h s f i

pub no_kind : (p : Plan) (t : ℕ) → count_tasks p ≤ t → kind p t ≡ None
unfolding kind
no_kind p t h = ap kind_in (slice_get_past p.tasks t h)

-- who writes a file is a task
pub written_below : (p : Plan) (t s f : ℕ) → writes_file p t s f ≡ true → t < count_tasks p
written_below p t s f h = by (cases_lt t (count_tasks p))
  where
    by : (t < count_tasks p) ⊎ (count_tasks p ≤ t) → t < count_tasks p
    by (inl l) = l
    by (inr l) = absurd (let e : false ≡ true = sym (ap (λ (o : Option TaskKind). kind_writes p.jobs o s f) (no_kind p t l)) ∙ h in cc)

-- who writes what a task reads is its parent
read_from_parent : (p : Plan) → IsProper p → (t s f u : ℕ) → reads_file p t s f ≡ true → writer p s f ≡ Some u → is_parent p u t ≡ true
unfolding writer waits_for reads writes kind
read_from_parent p proper t s f u reads_it is_writer =
    let pair = read_stands p proper t s f reads_it in
    let writes_it = (least_passes (count_tasks p) (λ x. writes_file p x s f) u is_writer).1 in
    let waits : list_any (λ q. has (writes p u) q) (reads p t) ≡ true = any_has (has (writes p u)) pair.0 (reads p t) (listed_read p proper t pair.0 s f pair.1 reads_it) (listed_written p proper u pair.0 s f pair.1 writes_it) in
    (proper.flow.parents t).needed u (or_left (list_any (λ q. has (writes p u) q) (reads p t)) (sweeps (kind p t) (writes p u) || sweeps (kind p t) (reads p u)) waits)

-- what a proper plan's tasks read has a writer
is_written : (p : Plan) → IsProper p → (t s f : ℕ) → reads_file p t s f ≡ true → (u : ℕ) × (writer p s f ≡ Some u) × (writes_file p u s f ≡ true)
unfolding writer
is_written p proper t s f reads_it =
    let pair = read_stands p proper t s f reads_it in
    let has_one = has_file_writer p proper pair.0 s f pair.1 in
    let found = some_least (count_tasks p) (λ x. writes_file p x s f) has_one.0 (written_below p has_one.0 s f has_one.1) has_one.1 in
    (found.0, found.1, (least_passes (count_tasks p) (λ x. writes_file p x s f) found.0 found.1).1)

pub parent_writes : (p : Plan) → IsProper p → (t s f : ℕ) → reads_file p t s f ≡ true → (u : ℕ) × (writer p s f ≡ Some u) × (writes_file p u s f ≡ true) × (is_parent p u t ≡ true)
parent_writes p proper t s f reads_it =
    let found = is_written p proper t s f reads_it in
    (found.0, found.1, found.2, read_from_parent p proper t s f found.0 reads_it found.1)

read_same : (p : Plan) → IsProper p → (c d : ℕ → ℕ → Option Bytes) (t : ℕ) → ((u : ℕ) → is_parent p u t ≡ true → (g : ℕ) → c u g ≡ d u g) → (s f : ℕ) → read p c t s f ≡ read p d t s f
read_same p proper c d t same s f = by (reads_file p t s f) refl
  where
    from : reads_file p t s f ≡ true → (o : Option ℕ) → writer p s f ≡ o → option_and_then (λ u. c u f) o ≡ option_and_then (λ u. d u f) o
    from h None e = refl
    from h (Some u) e = same u (read_from_parent p proper t s f u h e) f

    by : (b : Bool) → reads_file p t s f ≡ b → cond b (stored p c s f) None ≡ cond b (stored p d s f) None
    by true h = from h (writer p s f) refl
    by false h = refl

pub low_parent : (p : Plan) → IsProper p → (s t : ℕ) → is_parent p s t ≡ true → s < count_tasks p
low_parent p proper s t h = (below_has (count_tasks p) (has (parents p t)) s (ap (λ xs. has xs s) (sym (proper.flow.parents t).listed) ∙ h)).0

worked_out : (apply : Apply) (told : Bytes → Option Bytes) (p : Plan) → IsProper p → IsWorkedOut (count_tasks p) (is_parent p) (λ c t f. carried_by apply told p.jobs (read p c t) (kind p t) f) (carried_within apply told p)
unfolding carried_within
worked_out apply told p proper = record {
  low = low_parent p proper;
  never = proper.flow.acyclic;
  next = λ k t f. refl;
  local = λ u v t same f. ap (λ (at : ℕ → ℕ → Option Bytes). carried_by apply told p.jobs at (kind p t) f) (same_at (read p u t) (read p v t) (read_same p proper u v t same));
}

past : (apply : Apply) (told : Bytes → Option Bytes) (p : Plan) (k t f : ℕ) → kind p t ≡ None → carried_within apply told p k t f ≡ None
unfolding carried_within
past apply told p zero t f e = refl
past apply told p (suc k) t f e = ap (λ (o : Option TaskKind). carried_by apply told p.jobs (read p (carried_within apply told p k) t) o f) e

pub carries_along : (apply : Apply) (told : Bytes → Option Bytes) (p : Plan) → IsProper p → IsCarrying apply told p (carried apply told p)
carries_along apply told p proper t f = by (cases_lt t (count_tasks p))
  where
    by : (t < count_tasks p) ⊎ (count_tasks p ≤ t) → carried apply told p t f ≡ carried_by apply told p.jobs (read p (carried apply told p) t) (kind p t) f
    by (inl l) = settled (count_tasks p) (is_parent p) (λ c t f. carried_by apply told p.jobs (read p c t) (kind p t) f) (carried_within apply told p) (worked_out apply told p proper) t f l
    by (inr l) = past apply told p (count_tasks p) t f (no_kind p t l) ∙ sym (ap (λ (o : Option TaskKind). carried_by apply told p.jobs (read p (carried apply told p) t) o f) (no_kind p t l))

-- nothing else is carried along
pub determined : (apply : Apply) (told : Bytes → Option Bytes) (p : Plan) (c : ℕ → ℕ → Option Bytes) → IsProper p → IsCarrying apply told p c → (t : ℕ) → Grounded (is_parent p) t → (f : ℕ) → c t f ≡ carried apply told p t f
determined apply told p c proper is t (ground u back) f =
    is u f
    ∙ ap (λ (at : ℕ → ℕ → Option Bytes). carried_by apply told p.jobs at (kind p u) f) (same_at (read p c u) (read p (carried apply told p) u) (read_same p proper c (carried apply told p) u (λ s into g. determined apply told p c proper is s (back s into) g)))
    ∙ sym (carries_along apply told p proper u f)

pub alone : (apply : Apply) (told : Bytes → Option Bytes) (p : Plan) (c : ℕ → ℕ → Option Bytes) → IsProper p → IsCarrying apply told p c → (t f : ℕ) → c t f ≡ carried apply told p t f
alone apply told p c proper is t f = determined apply told p c proper is t (all_grounded (is_parent p) (count_tasks p) (low_parent p proper) proper.flow.acyclic t) f
