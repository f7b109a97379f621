-- What a worker among many has added, from task to task.
use Rattle.std.proofs.Common.{◌≡◌, ℕ, ◌+◌, ◌≤◌, true, false, inl, inr, List, [], ◌∷◌, ◌++◌, refl, sym, ap, subst, ◌∙◌, arith, append_assoc}
use Rattle.std.specs.Prelude.{◌⊎◌, Option, Some, None, IfOk, IfSome, Result, Ok, Err}
use Rattle.values.specs.Apply.{Apply}
use Rattle.values.specs.declared.memory.Memory.{Memory}
use Rattle.outside.specs.code.Parts.{DraftState, ReadState}
use Rattle.plan_core.specs.declared.plan.Plan.{Plan}
use Rattle.plan_core.specs.code.Proper.{IsProper}
use Rattle.plan_core.specs.Words.{kind}
use Rattle.run_record.specs.declared.entry.Cause.{Cause}
use Rattle.run_record.specs.declared.entry.Cause.TheVariants as why
use Rattle.run_record.specs.Events.{Event, Grant, Regrant}
use Rattle.lease_rules.specs.code.Owning.{is_open_after}
use Rattle.ruled_lock.specs.Pass.{IsSamePass}
use Rattle.ruled_lock.specs.declared.lock.RuledLock.{RuledLock}
use Rattle.ruled_lock.specs.declared.pass.Pass.{Pass}
use Rattle.site_yard.specs.code.Failures.{RoseBy, tool_faults, tool_faults_of}
use Rattle.site_yard.specs.code.Law.{HasPlanLaws}
use Rattle.site_yard.specs.declared.chronicle.Charter.{Charter}
use Rattle.task_work.specs.Filling.{AreParts}
use Rattle.task_work.specs.Making.{AreBegun, AreEmpty}
use Rattle.task_work.specs.declared.filling.Filled.{Filled}
use Rattle.worker_gate.specs.code.Inputs.{IsFilledOf}
use Rattle.worker_gate.specs.code.Tending.{CanFinish, Fills, Finishes, failures_in}
use Rattle.worker_gate.specs.code.Turning.{IsHeldFor, IsOverFor, IsPlanOf, KeepsTurn, NoneOpenBy, plan_of, told_of}
use Rattle.worker_gate.specs.code.Working.{DoesOwn, FillsWith, Works, WorksOwn}
use Rattle.worker_gate.proofs.RunLemmas.{faults_append, no_faults, nothing_more}
use Rattle.worker_gate.proofs.FillingLemmas.{fills_finish, fills_of, fills_rose}
use Rattle.worker_gate.proofs.LoanLemmas.{held_begun, held_empty, memory_finishes, parts_are}
use Rattle.worker_gate.proofs.MadeLemmas.{CarryLaw}
use Rattle.worker_gate.proofs.TurningLemmas.{IsGrant, finished_none, granted_is_open_by, granted_only_by, none_only_by}
use Rattle.worker_gate.proofs.WorkLemmas.{one_fault, rose_both, rose_zero, wide}

-- the copy of the plan is that of the charter
plan_there : (apply : Apply) (g : Option Charter) (p : Plan) (t : ℕ) (rs : List ReadState) (ds : List DraftState) → IsPlanOf g (Ok p) → (held : IsHeldFor apply g t rs ds) → p ≡ plan_of held.charter
plan_there apply g p t rs ds of held = subst (λ (k : Option Charter). IfSome k (λ d. p ≡ plan_of d)) held.is of

-- what filling asks of it, and of the parts
pub plan_proper : (apply : Apply) (g : Option Charter) (plan : Result Plan Memory) (t : ℕ) (rs : List ReadState) (ds : List DraftState) → IsPlanOf g plan → IsHeldFor apply g t rs ds → IfOk plan IsProper
plan_proper apply g (Ok p) t rs ds of held = subst IsProper (sym (plan_there apply g p t rs ds of held)) held.proper
plan_proper apply g (Err refused) t rs ds of held = tt

abbrev pub PlanLaw : Type 0
PlanLaw = (p : Plan) → IsProper p → HasPlanLaws p

pub plan_parts : (laws : PlanLaw) (apply : Apply) (g : Option Charter) (plan : Result Plan Memory) (t : ℕ) (rs : List ReadState) (ds : List DraftState) → IsPlanOf g plan → IsHeldFor apply g t rs ds → IfOk plan (λ p. AreParts p t (kind p t) rs ds)
plan_parts laws apply g (Ok p) t rs ds of held =
    let c = held.charter in
    subst (λ (q : Plan). AreParts q t (kind q t) rs ds) (sym (plan_there apply g p t rs ds of held))
    (parts_are apply (plan_of c) held.proper (laws (plan_of c) held.proper) c.opened c.marked (told_of c) t rs ds held.has_loan held.held)
plan_parts laws apply g (Err refused) t rs ds of held = tt

pub begun_for : (apply : Apply) (g : Option Charter) (t : ℕ) (rs : List ReadState) (ds : List DraftState) → IsHeldFor apply g t rs ds → AreBegun rs
begun_for apply g t rs ds held = held_begun apply (plan_of held.charter) held.charter.opened held.charter.marked (told_of held.charter) t rs ds held.held

pub empty_for : (apply : Apply) (g : Option Charter) (t : ℕ) (rs : List ReadState) (ds : List DraftState) → IsHeldFor apply g t rs ds → AreEmpty ds
empty_for apply g t rs ds held = held_empty apply (plan_of held.charter) held.charter.opened held.charter.marked (told_of held.charter) t rs ds held.held

-- what was filled can be settled or abandoned, and is of some such bytes
filled_there : (laws : PlanLaw) (apply : Apply) → CarryLaw apply → (g : Option Charter) (plan : Result Plan Memory) (t : ℕ) (rs0 rs1 : List ReadState) (ds0 ds1 : List DraftState) (x y : ℕ) (filled : Result Filled Cause) → IsPlanOf g plan → (held : IsHeldFor apply g t rs0 ds0) → FillsWith apply plan t rs0 rs1 ds0 ds1 x y filled
    → CanFinish apply (plan_of held.charter) held.charter.opened held.charter.marked (told_of held.charter) t rs1 ds1 filled × IsFilledOf apply (plan_of held.charter) t filled
filled_there laws apply law g (Ok p) t rs0 rs1 ds0 ds1 x y filled of held fills =
    let c = held.charter in
    let q : Plan = plan_of c in
    let here : Fills apply q t rs0 rs1 ds0 ds1 x y filled = subst (λ (k : Plan). Fills apply k t rs0 rs1 ds0 ds1 x y filled) (plan_there apply g p t rs0 ds0 of held) fills in (
      fills_finish apply q held.proper (laws q held.proper) law c.opened c.marked t rs0 rs1 ds0 ds1 (told_of c) x y filled held.held here,
      fills_of apply q held.proper (laws q held.proper) law c.opened c.marked t rs0 rs1 ds0 ds1 (told_of c) x y filled held.held here,
    )
filled_there laws apply law g (Err refused) t rs0 rs1 ds0 ds1 x y filled of held fills =
    let c = held.charter in
    let q : Plan = plan_of c in
    subst (λ f. CanFinish apply q c.opened c.marked (told_of c) t rs1 ds1 f × IsFilledOf apply q t f) (sym fills.3) (
      subst (λ rs. CanFinish apply q c.opened c.marked (told_of c) t rs ds1 (Err why.Memory)) (sym fills.0)
          (subst (λ ds. CanFinish apply q c.opened c.marked (told_of c) t rs0 ds (Err why.Memory)) (sym fills.1)
          (memory_finishes apply q held.proper (laws q held.proper) c.opened c.marked t (told_of c) rs0 ds0 held.held)),
      tt,
    )

pub finish_of : (laws : PlanLaw) (apply : Apply) → CarryLaw apply → (g h : Option Charter) (plan : Result Plan Memory) (t : ℕ) (rs0 rs1 : List ReadState) (ds0 ds1 : List DraftState) (x y : ℕ) (filled : Result Filled Cause) → h ≡ g → IsPlanOf g plan → IsHeldFor apply g t rs0 ds0 → FillsWith apply plan t rs0 rs1 ds0 ds1 x y filled
    → IfSome h (λ c. CanFinish apply (plan_of c) c.opened c.marked (told_of c) t rs1 ds1 filled)
finish_of laws apply law g h plan t rs0 rs1 ds0 ds1 x y filled same of held fills =
    subst (λ (k : Option Charter). IfSome k (λ c. CanFinish apply (plan_of c) c.opened c.marked (told_of c) t rs1 ds1 filled)) (sym (same ∙ held.is)) (filled_there laws apply law g plan t rs0 rs1 ds0 ds1 x y filled of held fills).0

pub inputs_of : (laws : PlanLaw) (apply : Apply) → CarryLaw apply → (g h : Option Charter) (plan : Result Plan Memory) (t : ℕ) (rs0 rs1 : List ReadState) (ds0 ds1 : List DraftState) (x y : ℕ) (filled : Result Filled Cause) → h ≡ g → IsPlanOf g plan → IsHeldFor apply g t rs0 ds0 → FillsWith apply plan t rs0 rs1 ds0 ds1 x y filled
    → IfSome h (λ c. IsFilledOf apply (plan_of c) t filled)
inputs_of laws apply law g h plan t rs0 rs1 ds0 ds1 x y filled same of held fills =
    subst (λ (k : Option Charter). IfSome k (λ c. IsFilledOf apply (plan_of c) t filled)) (sym (same ∙ held.is)) (filled_there laws apply law g plan t rs0 rs1 ds0 ds1 x y filled of held fills).1

-- how the tool's count shows what was filled
pub filled_rose : (apply : Apply) (plan : Result Plan Memory) (t : ℕ) (rs0 rs1 : List ReadState) (ds0 ds1 : List DraftState) (x y : ℕ) (filled : Result Filled Cause) → FillsWith apply plan t rs0 rs1 ds0 ds1 x y filled → RoseBy (failures_in filled) x y
filled_rose apply (Ok p) t rs0 rs1 ds0 ds1 x y filled h = fills_rose apply p t rs0 rs1 ds0 ds1 x y filled h
filled_rose apply (Err refused) t rs0 rs1 ds0 ds1 x y filled h = let same : y ≡ x = h.2 in wide (failures_in filled) x y (ap failures_in h.3) (omega (arith, same))

pub filled_later : (apply : Apply) (plan : Result Plan Memory) (t : ℕ) (rs0 rs1 : List ReadState) (ds0 ds1 : List DraftState) (x y : ℕ) (filled : Result Filled Cause) → FillsWith apply plan t rs0 rs1 ds0 ds1 x y filled → x ≤ y
filled_later apply (Ok p) t rs0 rs1 ds0 ds1 x y filled h = h.tool
filled_later apply (Err refused) t rs0 rs1 ds0 ds1 x y filled h = let same : y ≡ x = h.2 in omega (arith, same)

pub does_none : (w t : ℕ) (mine after : List Event) (x : ℕ) → Finishes w t 0 mine after → DoesOwn w t mine after x x
does_none w t mine after x f = record { entry = f.entry; is = f.is; last = f.last; counted = rose_zero (tool_faults_of w f.entry) x f.failures }

does_made : (w t n : ℕ) (mine mid after : List Event) (x y : ℕ) → mid ≡ mine → Finishes w t n mid after → RoseBy n x y → DoesOwn w t mine after x y
does_made w t n mine mid after x y same f rose = record {
  entry = f.entry;
  is = f.is ∙ ap (λ (l : List Event). l ++ f.entry ∷ []) same;
  last = f.last;
  counted = subst (λ (k : ℕ). RoseBy k x y) (sym f.failures) rose;
}

pub does_made_by : (w v t n : ℕ) (mine mid after : List Event) (x y : ℕ) → v ≡ w → mid ≡ mine → Finishes v t n mid after → RoseBy n x y → DoesOwn w t mine after x y
does_made_by w v t n mine mid after x y number same f rose = does_made w t n mine mid after x y same (subst (λ (k : ℕ). Finishes k t n mid after) number f) rose

-- a pass later on, and later still
pub same_as : {C G I : Type 0} {k : _} (a b c : Pass C G I k) → IsSamePass a b → IsSamePass b c → IsSamePass a c
same_as a b c x y = record { worker = y.worker ∙ x.worker; charter = y.charter ∙ x.charter; count = y.count ∙ x.count; joined = y.joined ∙ x.joined }

pub keeps_on : {C G I : Type 0} {k : _} (lock : RuledLock C G I) (a b c : Pass C G I k) → KeepsTurn lock a b → KeepsTurn lock b c → KeepsTurn lock a c
keeps_on lock a b c x y = record { of = y.of; idle = y.idle; same = same_as a b c x.same y.same }

-- what was worked from there on, where no entry of its own came before
pub works_from : (v w : ℕ) (g h : Option Charter) (mine mid after seen : List Event) (x y : ℕ) → v ≡ w → h ≡ g → mid ≡ mine → IfSome h (λ c. Works c v mid after seen x y) → IfSome g (λ c. Works c w mine after seen x y)
works_from v w g h mine mid after seen x y number charter same s =
    subst (λ (k : Option Charter). IfSome k (λ c. Works c w mine after seen x y)) charter
    (subst (λ (m : List Event). IfSome h (λ c. Works c w m after seen x y)) same
    (subst (λ (n : ℕ). IfSome h (λ c. Works c n mid after seen x y)) number s))

-- from lease to lease
pub own_first : (w : ℕ) (mine after : List Event) (x : ℕ) → after ≡ mine → NoneOpenBy mine → WorksOwn w mine after x x
own_first w mine after x same none = record {
  added = [];
  is = same ∙ nothing_more mine;
  none_open = λ t. ap (is_open_after t false) same ∙ none t;
  counted = rose_zero (tool_faults w []) x (no_faults w);
}

one_more : (w : ℕ) (m0 m m1 : List Event) (x y z : ℕ) (e : Event) (own : WorksOwn w m0 m x y) → m1 ≡ m ++ e ∷ [] → y ≤ z → RoseBy (tool_faults_of w e) y z → NoneOpenBy m1 → WorksOwn w m0 m1 x z
one_more w m0 m m1 x y z e own is le rose none = record {
  added = own.added ++ e ∷ [];
  is = is ∙ ap (λ (l : List Event). l ++ e ∷ []) own.is ∙ append_assoc m0 own.added (e ∷ []);
  none_open = none;
  counted = subst (λ (k : ℕ). RoseBy k x z) (sym (faults_append w own.added (e ∷ []) ∙ ap (λ (k : ℕ). tool_faults w own.added + k) (one_fault w e))) (rose_both (tool_faults w own.added) (tool_faults_of w e) x y z le own.counted rose);
}

pub own_finishes : (w t : ℕ) (m0 m m1 : List Event) (x y : ℕ) → WorksOwn w m0 m x y → Finishes w t 0 m m1 → WorksOwn w m0 m1 x y
own_finishes w t m0 m m1 x y own f =
    one_more w m0 m m1 x y y f.entry own f.is (omega arith) (rose_zero (tool_faults_of w f.entry) y f.failures) (finished_none w t m m1 f.entry (none_only_by m t own.none_open) f.last f.is)

pub own_same : (w : ℕ) (m0 m m1 : List Event) (x y : ℕ) → WorksOwn w m0 m x y → m1 ≡ m → WorksOwn w m0 m1 x y
own_same w m0 m m1 x y own same = subst (λ (l : List Event). WorksOwn w m0 l x y) (sym same) own

-- a task that is granted is open, and then done with
pub granted_opens : (w t : ℕ) (m m1 : List Event) → (m1 ≡ m ++ Grant w t ∷ []) ⊎ (m1 ≡ m ++ Regrant w t ∷ []) → is_open_after t false m1 ≡ true
granted_opens w t m m1 (inl is) = granted_is_open_by w t m m1 (Grant w t) (refl, refl) is
granted_opens w t m m1 (inr is) = granted_is_open_by w t m m1 (Regrant w t) (refl, refl) is

grant_does : (w t : ℕ) (m0 m m1 m2 : List Event) (x y z : ℕ) (e : Event) → WorksOwn w m0 m x y → IsGrant w t e → m1 ≡ m ++ e ∷ [] → tool_faults_of w e ≡ 0 → y ≤ z → DoesOwn w t m1 m2 y z → WorksOwn w m0 m2 x z
grant_does w t m0 m m1 m2 x y z e own grant is zero_ le does = record {
  added = own.added ++ e ∷ does.entry ∷ [];
  is = does.is ∙ ap (λ (l : List Event). l ++ does.entry ∷ []) is ∙ append_assoc m (e ∷ []) (does.entry ∷ []) ∙ ap (λ (l : List Event). l ++ e ∷ does.entry ∷ []) own.is ∙ append_assoc m0 own.added (e ∷ does.entry ∷ []);
  none_open = finished_none w t m1 m2 does.entry (granted_only_by w t m m1 e own.none_open grant is) does.last does.is;
  counted = subst (λ (k : ℕ). RoseBy k x z) (sym (faults_append w own.added (e ∷ does.entry ∷ []))) (rose_both (tool_faults w own.added) (tool_faults w (e ∷ does.entry ∷ [])) x y z le own.counted (two w e does.entry zero_ y z does.counted));
}
  where
    two : (v : ℕ) (a b : Event) → tool_faults_of v a ≡ 0 → (j k : ℕ) → RoseBy (tool_faults_of v b) j k → RoseBy (tool_faults v (a ∷ b ∷ [])) j k
    two v a b none j k rose = let x = faults_append v (a ∷ []) (b ∷ []) in let y = one_fault v a in let z = one_fault v b in λ h. let q = rose h in omega (arith, x, y, z, none, q)

pub own_does : (w t : ℕ) (m0 m m1 m2 : List Event) (x y z : ℕ) → WorksOwn w m0 m x y → (m1 ≡ m ++ Grant w t ∷ []) ⊎ (m1 ≡ m ++ Regrant w t ∷ []) → y ≤ z → DoesOwn w t m1 m2 y z → WorksOwn w m0 m2 x z
own_does w t m0 m m1 m2 x y z own (inl is) le does = grant_does w t m0 m m1 m2 x y z (Grant w t) own (refl, refl) is refl le does
own_does w t m0 m m1 m2 x y z own (inr is) le does = grant_does w t m0 m m1 m2 x y z (Regrant w t) own (refl, refl) is refl le does

pub own_over : (w : ℕ) (g : Option Charter) (m0 m m1 seen : List Event) (x y : ℕ) → WorksOwn w m0 m x y → (m1 ≡ m) × IfSome g (λ c. IsOverFor c w seen) → IfSome g (λ c. Works c w m0 m1 seen x y)
own_over w None m0 m m1 seen x y own h = tt
own_over w (Some c) m0 m m1 seen x y own h = record { added = own.added; is = h.0 ∙ own.is; over = h.1.over; none_open = h.1.none_open; none_open_by = λ t. ap (is_open_after t false) h.0 ∙ own.none_open t; counted = own.counted }

-- the same, where the pass that leased has the number v, and the one that did the task u
pub own_does_by : (w v u t : ℕ) (m0 m m1 m2 : List Event) (x y z : ℕ) → v ≡ w → u ≡ w → WorksOwn w m0 m x y → (m1 ≡ m ++ Grant v t ∷ []) ⊎ (m1 ≡ m ++ Regrant v t ∷ []) → y ≤ z → DoesOwn u t m1 m2 y z → WorksOwn w m0 m2 x z
own_does_by w v u t m0 m m1 m2 x y z leased_ did own granted le does =
    own_does w t m0 m m1 m2 x y z own (subst (λ (n : ℕ). (m1 ≡ m ++ Grant n t ∷ []) ⊎ (m1 ≡ m ++ Regrant n t ∷ [])) leased_ granted) le (subst (λ (n : ℕ). DoesOwn n t m1 m2 y z) did does)

pub own_finishes_by : (w v t : ℕ) (m0 m m1 : List Event) (x y : ℕ) → v ≡ w → WorksOwn w m0 m x y → Finishes v t 0 m m1 → WorksOwn w m0 m1 x y
own_finishes_by w v t m0 m m1 x y number own f = own_finishes w t m0 m m1 x y own (subst (λ (n : ℕ). Finishes n t 0 m m1) number f)

pub own_over_by : (w v : ℕ) (g h : Option Charter) (m0 m m1 seen : List Event) (x y : ℕ) → v ≡ w → h ≡ g → WorksOwn w m0 m x y → (m1 ≡ m) × IfSome h (λ c. IsOverFor c v seen) → IfSome g (λ c. Works c w m0 m1 seen x y)
own_over_by w v g h m0 m m1 seen x y number same own over =
    own_over w g m0 m m1 seen x y own (over.0, subst (λ (k : Option Charter). IfSome k (λ c. IsOverFor c w seen)) same (subst (λ (n : ℕ). IfSome h (λ c. IsOverFor c n seen)) number over.1))

pub still_tool : (x : ℕ) → x ≤ x
still_tool x = omega arith

pub rising : (x y z : ℕ) → x ≤ y → y ≤ z → x ≤ z
rising x y z a b = omega (arith, a, b)
