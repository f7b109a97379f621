-- The tasks that are open for a worker after a Legal record, read off the worker's own entries.
use Rattle.std.proofs.Common.{◌≡◌, ℕ, ◌||◌, ◌&&◌, Bool, true, false, cond, eqb, eqb-true, inl, inr, List, [], ◌∷◌, refl, sym, ap, subst, ◌∙◌, arith}
use Rattle.std.specs.Prelude.{Decides, not}
use Rattle.lease_rules.proofs.RoomLemmas.{consistent_more}
use Rattle.lease_rules.proofs.ReadingLemmas.{grants_waits}
use Rattle.lease_rules.proofs.SoundLemmas.{choice_in, is_waiting, sound_opened}
use Rattle.lease_rules.specs.Choice.{IsChoice}
use Rattle.lease_rules.specs.code.Law.{FitsFromStart, HasStorageLaws, IsConsistent}
use Rattle.lease_rules.specs.Legal.{Allowed, IsOpen, LegalFrom, MayFail}
use Rattle.lease_rules.specs.code.Owning.{entries_by, is_open, is_open_after, open_after}
use Rattle.lease_rules.specs.Owning.{worker}
use Rattle.lease_rules.specs.State.{State, after, now_from, opened}
use Rattle.lease_rules.specs.code.State.{runs}
use Rattle.plan_core.specs.declared.plan.Plan.{Plan}
use Rattle.run_record.specs.Events.{Again, Arrive, Clean, End, Event, Fail, Grant, Regrant}
use Rattle.storage_simulation.specs.declared.standing.Phase.{Phase}
use Rattle.storage_simulation.specs.declared.standing.Phase.TheVariants.{Ended, Runs, Waits}

self : (n : ℕ) → eqb n n ≡ true
self n = grind arith

and_false : (b : Bool) → (b && false) ≡ false
and_false true = refl
and_false false = refl

cond_same : {X : Type 0} (c : Bool) (x : X) → x ≡ cond c x x
cond_same true x = refl
cond_same false x = refl

is_run_phase : (x : Phase) → runs x ≡ true → x ≡ Runs
is_run_phase Runs h = refl
is_run_phase Waits h = absurd cc
is_run_phase Ended h = absurd cc

parts : {P : Type 0} (a b c : Bool) → (a && (b && c)) ≡ true → (a ≡ true → b ≡ true → c ≡ true → P) → P
parts true true true h k = k refl refl refl
parts true true false h k = absurd cc
parts true false c h k = absurd cc
parts false b c h k = absurd cc

not_true : (b : Bool) → not b ≡ true → b ≡ false
not_true true h = absurd cc
not_true false h = refl

pub open_tells : (s : State) (w t : ℕ) → Decides (is_open s w t) (IsOpen s w t)
open_tells s w t = (
  λ h. parts (runs (s.phase t)) (eqb (s.holder t) w) (not (s.failed t)) h (λ a b c. record { runs = is_run_phase (s.phase t) a; holds = eqb-true (s.holder t) w b; no_fail = not_true (s.failed t) c }),
  λ o. all (ap runs o.runs) (ap (λ (n : ℕ). eqb n w) o.holds ∙ self w) (ap not o.no_fail),
)
  where
    all : runs (s.phase t) ≡ true → eqb (s.holder t) w ≡ true → not (s.failed t) ≡ true → is_open s w t ≡ true
    all a b c = ap (λ (x : Bool). x && (eqb (s.holder t) w && not (s.failed t))) a ∙ ap (λ (x : Bool). x && not (s.failed t)) b ∙ c

-- b: the entry is of this task; c: it is of this worker
grant_step : (b c : Bool) (x : Phase) (h w v : ℕ) (f : Bool) → eqb v w ≡ c → (b ≡ true → x ≡ Waits) → (b ≡ true → f ≡ false)
    → (runs (cond b Runs x) && (eqb (cond b v h) w && not f)) ≡ cond c (b || (runs x && (eqb h w && not f))) (runs x && (eqb h w && not f))
grant_step false c x h w v f e i j = cond_same c (runs x && (eqb h w && not f))
grant_step true true x h w v f e i j = ap (λ (a : Bool). a && not f) e ∙ ap not (j refl)
grant_step true false x h w v f e i j = ap (λ (a : Bool). a && not f) e ∙ sym (ap (λ (y : Phase). runs y && (eqb h w && not f)) (i refl))

close_step : (b c : Bool) (x y : Phase) (r : Bool) → runs y ≡ false → (b ≡ true → (runs x && r) ≡ true → c ≡ true)
    → (runs (cond b y x) && r) ≡ cond c (not b && (runs x && r)) (runs x && r)
close_step false c x y r e i = cond_same c (runs x && r)
close_step true true x y r e i = ap (λ (a : Bool). a && r) e
close_step true false x y r e i = ap (λ (a : Bool). a && r) e ∙ by_open (runs x && r) (i refl)
  where
    by_open : (o : Bool) → (o ≡ true → false ≡ true) → false ≡ o
    by_open true k = k refl
    by_open false k = refl

fail_step : (b c : Bool) (x h f : Bool) → (b ≡ true → (x && (h && not f)) ≡ true → c ≡ true)
    → (x && (h && not (cond b true f))) ≡ cond c (not b && (x && (h && not f))) (x && (h && not f))
fail_step false c x h f i = cond_same c (x && (h && not f))
fail_step true true x h f i = ap (λ (a : Bool). x && a) (and_false h) ∙ and_false x
fail_step true false x h f i = ap (λ (a : Bool). x && a) (and_false h) ∙ and_false x ∙ by_open (x && (h && not f)) (i refl)
  where
    by_open : (o : Bool) → (o ≡ true → false ≡ true) → false ≡ o
    by_open true k = k refl
    by_open false k = refl

-- who may end a task, or fail at it, is the one that it is open for
opened_by : (s : State) (v u w t : ℕ) → IsOpen s v u → eqb u t ≡ true → is_open s w t ≡ true → eqb v w ≡ true
opened_by s v u w t o same h = parts (runs (s.phase t)) (eqb (s.holder t) w) (not (s.failed t)) h (λ a b c. subst (λ (n : ℕ). eqb n w ≡ true) (ap s.holder (sym (eqb-true u t same)) ∙ o.holds) b)

waits_unopened : {P : Type 0} (s : State) (u w t : ℕ) → s.phase u ≡ Waits → eqb u t ≡ true → is_open s w t ≡ true → P
waits_unopened s u w t waits same h = parts (runs (s.phase t)) (eqb (s.holder t) w) (not (s.failed t)) h (λ a b c. absurd (let k : runs (s.phase t) ≡ false = ap (λ (n : ℕ). runs (s.phase n)) (sym (eqb-true u t same)) ∙ ap runs waits in cc))

pub chosen_waits : (p : Plan) (s : State) (u : ℕ) → IsConsistent p s → IsChoice p s u → s.phase u ≡ Waits
chosen_waits p s u k choice = is_waiting (s.phase u) (k.sound.safe.waiting u (choice_in p s u choice))

caught_by : (p : Plan) (s : State) (v u w t : ℕ) → IsConsistent p s → MayFail p s v u → eqb u t ≡ true → is_open s w t ≡ true → eqb v w ≡ true
caught_by p s v u w t k (inl o) same h = opened_by s v u w t o same h
caught_by p s v u w t k (inr c) same h = waits_unopened s u w t (chosen_waits p s u k c.1) same h

no_fails : (p : Plan) (s : State) (t : ℕ) → IsConsistent p s → s.failing ≡ false → s.failed t ≡ false
no_fails p s t k none = by_failed (s.failed t) refl
  where
    by_failed : (b : Bool) → s.failed t ≡ b → s.failed t ≡ false
    by_failed true e = absurd (let m = k.failed_fails t e in cc)
    by_failed false e = e

own_step : (p : Plan) (s : State) (e : Event) (w t : ℕ) → IsConsistent p s → Allowed p s e → is_open (after p s e) w t ≡ cond (eqb (worker e) w) (open_after t (is_open s w t) e) (is_open s w t)
own_step p s (Grant v u) w t k a = grant_step (eqb u t) (eqb v w) (s.phase t) (s.holder t) w v (s.failed t) refl (grants_waits p s (Grant v u) t k.sound a) (λ h. no_fails p s t k a.2.no_fail)
own_step p s (Regrant v u) w t k a = grant_step (eqb u t) (eqb v w) (s.phase t) (s.holder t) w v (s.failed t) refl (grants_waits p s (Regrant v u) t k.sound a) (λ h. no_fails p s t k a.1.no_fail)
own_step p s (Arrive v u n) w t k a = close_step (eqb u t) (eqb v w) (s.phase t) Ended (eqb (s.holder t) w && not (s.failed t)) refl (opened_by s v u w t a.2)
own_step p s (End v u ns) w t k a = close_step (eqb u t) (eqb v w) (s.phase t) Ended (eqb (s.holder t) w && not (s.failed t)) refl (opened_by s v u w t a.2)
own_step p s (Clean v u) w t k a = close_step (eqb u t) (eqb v w) (s.phase t) Ended (eqb (s.holder t) w && not (s.failed t)) refl (waits_unopened s u w t (chosen_waits p s u k a.2))
own_step p s (Again v u c ns) w t k a = close_step (eqb u t) (eqb v w) (s.phase t) Waits (eqb (s.holder t) w && not (s.failed t)) refl (caught_by p s v u w t k a.1)
own_step p s (Fail v u c ns) w t k a = fail_step (eqb u t) (eqb v w) (runs (s.phase t)) (eqb (s.holder t) w) (s.failed t) (caught_by p s v u w t k a.1)

pub own_tell : (p : Plan) (s : State) (r : List Event) (w t : ℕ) → HasStorageLaws p → IsConsistent p s → LegalFrom p s r → is_open (now_from p s r) w t ≡ is_open_after t (is_open s w t) (entries_by w r)
own_tell p s [] w t laws k legal = refl
own_tell p s (e ∷ r) w t laws k legal =
    own_tell p (after p s e) r w t laws (consistent_more p s e laws k legal.0) legal.1
    ∙ ap (λ (b : Bool). is_open_after t b (entries_by w r)) (own_step p s e w t k legal.0)
    ∙ by_worker (eqb (worker e) w)
  where
    by_worker : (c : Bool) → is_open_after t (cond c (open_after t (is_open s w t) e) (is_open s w t)) (entries_by w r) ≡ is_open_after t (is_open s w t) (cond c (e ∷ entries_by w r) (entries_by w r))
    by_worker true = refl
    by_worker false = refl

pub consistent_opened : (p : Plan) (order : List ℕ) → FitsFromStart p order → IsConsistent p (opened order)
consistent_opened p order fits = record { sound = sound_opened p order fits; failed_fails = λ t h. absurd cc; few_agains = λ t. omega arith }
