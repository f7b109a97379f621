-- The answers of `rehearse`.
use Rattle.std.proofs.Common.{◌≡◌, ℕ, ◌<◌, ◌++◌, zero, suc, Bool, true, List, [], ◌∷◌, length, refl, sym, ap, subst, ◌∙◌, inl, inr, arith}
use Rattle.std.proofs.Math.Logic.{∥∥₁_elim, ∥∥₁_map}
use Rattle.std.specs.FinMap as files
use Rattle.std.specs.Prelude.{Option, Some, None, Ok, Err, option_map, slice_get, unwrap_or}
use Rattle.outside.specs.code.Counts.{Rose}
use Rattle.outside.specs.code.MemoryHost.{host_counts, host_store, with_replica}
use Rattle.std.specs.Cmp.Lexicographic.{slice_cmp}
use Rattle.std.specs.Ordering.{nat_cmp}
use Rattle.values.specs.FileMap.{Files}
use Rattle.values.specs.code.SiteMap.{Sites, or_empty, pair_at}
use Rattle.outside.specs.declared.operation.Operation.{Operation}
use Rattle.outside.specs.code.Store.{blank}
use Rattle.values.specs.Apply.{Apply}
use Rattle.outside.specs.declared.counts.Counts.{Counts}
use Rattle.outside.specs.declared.memory_host.MemoryHost.{MemoryHost}
use Rattle.values.specs.declared.numbers.TaskId.{TaskId}
use Rattle.outside.specs.declared.store.Store.{Store}
use Rattle.plan_core.specs.declared.plan.Plan.{Plan}
use Rattle.plan_core.specs.declared.plan.PlanSite.{PlanSite}
use Rattle.plan_core.specs.Words.{bound, task_numbers}
use Rattle.storage_simulation.specs.Goods.{places}
use Rattle.planner.specs.code.Deliveries.{DeliversRequests}
use Rattle.planner.specs.code.Meaning.{MeansWorkflow}
use Rattle.planner.specs.declared.plan_fault.PlanFault.{PlanFault}
use Rattle.planner.specs.declared.plan_fault.PlanFault.TheVariants as plan_faults
use Rattle.planner.specs.declared.surveyed.Surveyed.{Surveyed}
use Rattle.run_record.specs.Events.{Event}
use Rattle.run_record.specs.code.Events.{Log}
use Rattle.run_record.specs.declared.run_fault.RunFault.{RunFault}
use Rattle.run_record.specs.declared.run_fault.RunFault.TheVariants as run_faults
use Rattle.site_yard.specs.code.Faults.{AllCarried}
use Rattle.site_yard.specs.code.Law.{AgreesSince}
use Rattle.plan_core.specs.Names.{site_name}
use Rattle.site_yard.specs.code.Opening.{AreUnused}
use Rattle.site_yard.specs.code.Places.{is_delivered}
use Rattle.site_yard.specs.Trace.{trace_of}
use Rattle.workload_maker.specs.Jobs.{each}
use Rattle.workload_maker.specs.Replicas.{image_of}
use Rattle.rehearsal.specs.Preparing.{IsPrepared, IsSurveyedWorkload, stored, workload_store}
use Rattle.rehearsal.specs.declared.rehearsal.Rehearsal.{Rehearsal}
use Rattle.rehearsal.specs.declared.figures.Figures.{Figures}
use Rattle.plan_run.specs.Finishing.{replicas_of}
use Rattle.plan_run.specs.Moments.{MemberMoment, Tools, Work, WorkMoment}
use Rattle.plan_run.specs.code.Moments.{count_of, first_tool, working}
use Rattle.site_yard.specs.declared.delivered.Delivered.{Delivered}
use Rattle.plan_run.specs.code.Running.{End, HasRun, HasRunAlone, Report, reporting}
use Rattle.pegasus_commands.specs.declared.fault.CallFault.{CallFault}
use Rattle.pegasus_commands.specs.declared.fault.CallFault.TheVariants.{Failed, Memory, Refused}
use Rattle.pegasus_commands.specs.code.Commands.Rehearse.{AreFigures, CanRehearse, Closes, ClosesOrMemory, FailsBy, HasFailed, HasRehearsed, IsInside, IsOfTools, IsStoreAfter, IsUnmade, Makes, Rehearses, Says, TellsEnd, mosaic_name, prepared, rehearse, rehearse_by}
use Rattle.pegasus_commands.specs.code.CommandSpec.{Does, Finishes, doing}
use Rattle.pegasus_commands.specs.code.Fault.{Answer, IsDoneOrMemory, done, end_answer, not_for, plan_answer, run_answer}
use Rattle.pegasus_commands.specs.code.KeptTools.{unknown_tool}
use Rattle.pegasus_commands.specs.Moments.{DocsMoment}
use Rattle.pegasus_commands.specs.code.Moments.{with_first}
use Rattle.pegasus_commands.specs.PlanRun.{AreHonestIn, lfn, value_in}
use Rattle.pegasus_commands.specs.code.PlanRun.{CanRun, DeliversRequested, HasRunPlan, IsReady, RefusedAs}
use Rattle.pegasus_commands.proofs.FaultLemmas.{done_prop}
use Rattle.pegasus_commands.proofs.PlanLemmas.{site_is_place}
use Rattle.pegasus_commands.proofs.PlanRunLemmas.{HasDeliveryLaws, RunsFinish, ended_reports, plan_run_finishes, refused_short, run_is}

-- ---- the figures

-- the first site of a plan is a place, and has its bound
pub some_site : (p : Plan) (site : PlanSite) → slice_get p.sites 0 ≡ Some site → 0 < places p
some_site p site at = site_is_place p 0 (some_in p.sites site at)
  where
    some_in : (sites : List PlanSite) (x : PlanSite) → slice_get sites 0 ≡ Some x → 0 < length sites
    some_in [] x at = absurd cc
    some_in (y ∷ ys) x at = omega arith

pub bound_is : (p : Plan) (site : PlanSite) → slice_get p.sites 0 ≡ Some site → site.bound ≡ bound p 0
unfolding bound
bound_is p site at = sym (ap (λ (o : Option PlanSite). unwrap_or (option_map (λ (x : PlanSite). x.bound) o) 0) at)

-- ---- the store of a workload

same_but_replicas : (rs : List (List ℕ × List ℕ)) (s : Store) → ((stored rs s).scratch ≡ s.scratch) × ((stored rs s).delivered ≡ s.delivered) × ((stored rs s).trace ≡ s.trace)
same_but_replicas [] s = (refl, refl, refl)
same_but_replicas (x ∷ xs) s = same_but_replicas xs (with_replica x.0 x.1 s)

workload_is_new : (n : ℕ) → ((workload_store n).scratch ≡ blank.scratch) × ((workload_store n).delivered ≡ blank.delivered) × ((workload_store n).trace ≡ [])
workload_is_new n = same_but_replicas (each n image_of) blank

-- ---- a run inside

-- a moment of the work inside, over a store in memory
abbrev pub inside_at : MemoryHost → ℕ → ℕ → List (ℕ × Event) → WorkMoment
inside_at host tool runs entered = record { told = Some (host_store host); counts = host_counts host; tool = tool; runs = runs; entered = entered }

abbrev pub inside_of : Work → MemoryHost → MemoryHost → Work
inside_of w old new = working w.apply w.known (inside_at old w.before.tool w.before.runs w.before.entered) (inside_at new w.after.tool w.after.runs w.after.entered)

is_inside : (n : ℕ) (w : Work) (s : Surveyed) (old new : MemoryHost) → IsPrepared n (prepared s old) → IsInside n w (inside_of w old new)
is_inside n w s old new prep = record { apply = refl; known = refl; told = ap Some prep.store; counts = prep.counts; tool_before = refl; tool_after = refl; runs_before = refl; runs_after = refl; entered_before = refl; entered_after = refl }

-- the run of a plan, inside
abbrev inside_run : (w : Work) (t : Tools) (workers : ℕ) (s : Surveyed) (old new : MemoryHost) (p : Plan) (order : List TaskId) (x : Report) (e : End) → IsReady w.known s p order → HasDeliveryLaws p (task_numbers order) → DeliversRequests s.request s.survey p → MeansWorkflow s.request s.survey p
    → HasRun (inside_of w old new) t workers p (task_numbers order) x e → HasRunPlan (inside_of w old new) t workers s x.text (end_answer e)
inside_run w t workers s old new p order x e ready laws requests means h = run_is (inside_of w old new) t workers s p order x e ready laws requests means h

-- ---- what is done

some_is : {A : Type 0} (a b : A) → ◌≡◌ {A = Option A} (Some a) (Some b) → a ≡ b
some_is a b h = cc

store_after : (n : ℕ) (w : Work) (s : Surveyed) (old new : MemoryHost) (p : Plan) (r : List Event) (x : Rehearsal) (content : List ℕ) → IsPrepared n (prepared s old) → r ≡ x.record.events → x.host ≡ new
    → AgreesSince w.apply p [] r (host_store old) (host_store new) → DeliversRequested (inside_of w old new) s p r (host_store old) (host_store new) → files.get (host_store new).delivered mosaic_name ≡ Some content → IsStoreAfter n p x content
store_after n w s old new p r x content prep is host agrees delivers mosaic = record {
  replicas = ap (λ (h : MemoryHost). (host_store h).replicas) host ∙ agrees.replicas ∙ ap (λ (m : Store). m.replicas) prep.store;
  changes = ap (λ (h : MemoryHost). (host_store h).trace) host ∙ agrees.trace ∙ ap (λ (os : List Operation). os ++ trace_of p r) (ap (λ (m : Store). m.trace) prep.store ∙ (workload_is_new n).2) ∙ ap (trace_of p) is;
  mosaic = ap (λ (h : MemoryHost). files.get (host_store h).delivered mosaic_name) host ∙ mosaic;
  others = λ name else. ap (λ (h : MemoryHost). files.get (host_store h).delivered name) host ∙ delivers.others name (others_than name else) ∙ ap (λ (d : Files). files.get d name) (ap (λ (m : Store). m.delivered) prep.store ∙ (workload_is_new n).1) ∙ files.get-empty (slice_cmp nat_cmp) name;
}
  where
    others_than : (name : List ℕ) → (name ≡ mosaic_name → ⊥) → (f : ℕ) → is_delivered p r f ≡ true → lfn s.survey f ≡ name → ⊥
    others_than name else f h e = else (sym e ∙ ap (lfn s.survey) (prep.mosaic.only f (delivers.requested f h).0) ∙ prep.mosaic.named)

-- told by a store that was made for the workload
at_start : (n : ℕ) (s : Surveyed) (old : MemoryHost) → IsPrepared n (prepared s old) → (P : Store → Type 0) → P (workload_store n) → P (host_store old)
at_start n s old prep P h = subst P (sym prep.store) h

rehearsed : (n : ℕ) (w : Work) (t : Tools) (workers : ℕ) (s : Surveyed) (old new : MemoryHost) (log : Option Log) (written : List ℕ) (f : Figures) (text : List ℕ) (x : Rehearsal)
    → IsPrepared n (prepared s old) → (h : HasRunPlan (inside_of w old new) t workers s written done) → h.report.history ≡ option_map (λ (l : Log). l.events) log → AreFigures s h.plan (task_numbers h.order) f → Closes n f log new text x → HasRehearsed n workers w t s text x
rehearsed n w t workers s old new log written f text x prep h log_is figures closes =
    let inner = inside_of w old new in
    let kept = (ended_reports inner h.plan h.ran.r h.report h.end h.answers h.ran.reports).history in
    let is = some_is h.ran.r x.record.events (sym kept ∙ log_is ∙ closes.record_is) in
    let asked = h.complete prep.mosaic.mosaic prep.mosaic.requested in
    let honest = at_start n s old prep (λ (m : Store). AreHonestIn inner s m) (prep.honest w.apply) in
    let there = h.delivers.valued honest prep.mosaic.mosaic asked in
    record {
      run = record { inner = inner; inside = is_inside n w s old new prep; text = written; ran = h };
      record_is = sym is;
      tells = ap (λ (z : MemoryHost). Some (host_store z)) (sym closes.host_is);
      mosaic = prep.mosaic;
      content = closes.content;
      valued = ap (λ (m : Store). value_in inner s m prep.mosaic.mosaic) (sym prep.store) ∙ sym there ∙ ap (files.get (host_store new).delivered) prep.mosaic.named ∙ closes.mosaic;
      store = store_after n w s old new h.plan h.ran.r x closes.content prep is closes.host_is h.ran.run.shown h.delivers closes.mosaic;
      figures = f;
      figures_are = figures;
      text_is = closes.text_is;
    }

-- ---- what a tool ended

of_tools_fails : (fault : RunFault) → IsOfTools fault → run_answer fault ≡ Failed fault
of_tools_fails (run_faults.Declined id) h = refl
of_tools_fails (run_faults.Oversize id lfn declared length) h = refl
of_tools_fails (run_faults.ToolFailed id) h = refl
of_tools_fails fault h = absurd h

failed : (n : ℕ) (w : Work) (t : Tools) (workers : ℕ) (s : Surveyed) (old new : MemoryHost) (written text : List ℕ) (a : Answer) (fault : RunFault)
    → IsPrepared n (prepared s old) → HasRunPlan (inside_of w old new) t workers s written (end_answer (Err fault)) → FailsBy new fault text a → HasFailed n workers w t s fault
failed n w t workers s old new written text a fault prep h fails = record {
  of_tools = fails.of_tools;
  run = record { inner = inside_of w old new; inside = is_inside n w s old new prep; text = written; ran = subst (λ (c : CallFault). HasRunPlan (inside_of w old new) t workers s written (not_for c)) (of_tools_fails fault fails.of_tools) h };
  none_failed = fails.none_failed;
}

-- ---- what is told

says_memory : (n workers : ℕ) (w : Work) (t : Tools) (s : Surveyed) (text : List ℕ) (a : Answer) → a ≡ not_for Memory → Says n workers w t s text a
says_memory n workers w t s text a is = subst (Says n workers w t s text) (sym is) tt

says_closed : (n workers : ℕ) (w : Work) (t : Tools) (s : Surveyed) (old new : MemoryHost) (p : Plan) (order : List TaskId) (log : Option Log) (written : List ℕ) (ds : List Delivered) (f : Figures) (text : List ℕ) (a : Answer)
    → IsPrepared n (prepared s old) → IsReady w.known s p order → HasDeliveryLaws p (task_numbers order) → DeliversRequests s.request s.survey p → MeansWorkflow s.request s.survey p
    → ∥ HasRun (inside_of w old new) t workers p (task_numbers order) (reporting log written ds) (Ok tt) ∥₁ → AreFigures s p (task_numbers order) f → ClosesOrMemory n f log new text a → Says n workers w t s text a
says_closed n workers w t s old new p order log written ds f text (Ok (Some x)) prep ready laws requests means run figures closes =
    ∥∥₁_map run (λ (h : HasRun (inside_of w old new) t workers p (task_numbers order) (reporting log written ds) (Ok tt)).
    rehearsed n w t workers s old new log written f text x prep (run_is (inside_of w old new) t workers s p order (reporting log written ds) (Ok tt) ready laws requests means h) refl figures closes)
says_closed n workers w t s old new p order log written ds f text (Ok None) prep ready laws requests means run figures closes = absurd closes
says_closed n workers w t s old new p order log written ds f text (Err Memory) prep ready laws requests means run figures closes = tt
says_closed n workers w t s old new p order log written ds f text (Err fault) prep ready laws requests means run figures closes = absurd closes

says_failed : (n workers : ℕ) (w : Work) (t : Tools) (s : Surveyed) (old new : MemoryHost) (p : Plan) (order : List TaskId) (log : Option Log) (written : List ℕ) (ds : List Delivered) (text : List ℕ) (a : Answer) (fault : RunFault)
    → IsPrepared n (prepared s old) → IsReady w.known s p order → HasDeliveryLaws p (task_numbers order) → DeliversRequests s.request s.survey p → MeansWorkflow s.request s.survey p
    → ∥ HasRun (inside_of w old new) t workers p (task_numbers order) (reporting log written ds) (Err fault) ∥₁ → FailsBy new fault text a → Says n workers w t s text a
says_failed n workers w t s old new p order log written ds text a fault prep ready laws requests means run fails =
    subst (Says n workers w t s text) (sym fails.answers) (
      fails.no_text,
      ∥∥₁_map run (λ (h : HasRun (inside_of w old new) t workers p (task_numbers order) (reporting log written ds) (Err fault)).
          failed n w t workers s old new written text a fault prep (run_is (inside_of w old new) t workers s p order (reporting log written ds) (Err fault) ready laws requests means h) fails),
    )

-- what is told of the run of a workload, by how it ended
pub says_ended : (n workers : ℕ) (w : Work) (t : Tools) (s : Surveyed) (old new : MemoryHost) (p : Plan) (order : List TaskId) (log : Option Log) (written : List ℕ) (ds : List Delivered) (f : Figures) (text : List ℕ) (a : Answer) (e : End)
    → IsPrepared n (prepared s old) → IsReady w.known s p order → HasDeliveryLaws p (task_numbers order) → DeliversRequests s.request s.survey p → MeansWorkflow s.request s.survey p
    → ∥ HasRun (inside_of w old new) t workers p (task_numbers order) (reporting log written ds) e ∥₁ → AreFigures s p (task_numbers order) f → TellsEnd n f e log new text a → Says n workers w t s text a
says_ended n workers w t s old new p order log written ds f text a (Ok ended) prep ready laws requests means run figures tells = says_closed n workers w t s old new p order log written ds f text a prep ready laws requests means run figures tells
says_ended n workers w t s old new p order log written ds f text a (Err fault) prep ready laws requests means run figures (inl memory) = says_memory n workers w t s text a memory
says_ended n workers w t s old new p order log written ds f text a (Err fault) prep ready laws requests means run figures (inr fails) = says_failed n workers w t s old new p order log written ds text a fault prep ready laws requests means run fails

pub alone_ran : (w : Work) (p : Plan) (order : List ℕ) (x : Report) (e : End) → ∥ HasRunAlone w p order x e ∥₁ → ∥ HasRun w (first_tool w) 1 p order x e ∥₁
alone_ran w p order x e run = ∥∥₁_map run (λ (h : HasRunAlone w p order x e). h.ran)

-- a run inside, told of the call: with one worker, and with several
pub alone_is : (n : ℕ) (m : WorkMoment) (apply : Apply) (known : List ℕ → Bool) (before after : MemberMoment) (s : Surveyed) (old new : MemoryHost) (p : Plan) (order : List TaskId) (log : Option Log) (written : List ℕ) (ds : List Delivered) (f : Figures) (text : List ℕ) (a : Answer) (e : End)
    → IsPrepared n (prepared s old) → IsReady known s p order → HasDeliveryLaws p (task_numbers order) → DeliversRequests s.request s.survey p → MeansWorkflow s.request s.survey p
    → ∥ HasRunAlone (working apply known (inside_at old before.faults before.runs before.told) (inside_at new after.faults after.runs after.told)) p (task_numbers order) (reporting log written ds) e ∥₁ → AreFigures s p (task_numbers order) f → TellsEnd n f e log new text a
    → let w = working apply known (with_first m before) (with_first m after) in Rehearses n 1 w (first_tool w) s text a
alone_is n m apply known before after s old new p order log written ds f text a e prep ready laws requests means run figures tells =
    let w = working apply known (with_first m before) (with_first m after) in
    record { told = refl; counts = refl; says = says_ended n 1 w (first_tool w) s old new p order log written ds f text a e prep ready laws requests means (alone_ran (inside_of w old new) p (task_numbers order) (reporting log written ds) e run) figures tells }

pub many_is : (n workers : ℕ) (m : WorkMoment) (t : Tools) (apply : Apply) (known : List ℕ → Bool) (before after : MemberMoment) (s : Surveyed) (old new : MemoryHost) (p : Plan) (order : List TaskId) (log : Option Log) (written : List ℕ) (ds : List Delivered) (f : Figures) (text : List ℕ) (a : Answer) (e : End)
    → IsPrepared n (prepared s old) → IsReady known s p order → HasDeliveryLaws p (task_numbers order) → DeliversRequests s.request s.survey p → MeansWorkflow s.request s.survey p
    → ∥ HasRun (working apply known (inside_at old before.faults before.runs before.told) (inside_at new after.faults after.runs after.told)) t workers p (task_numbers order) (reporting log written ds) e ∥₁ → AreFigures s p (task_numbers order) f → TellsEnd n f e log new text a
    → Rehearses n workers (working apply known (with_first m before) (with_first m after)) t s text a
many_is n workers m t apply known before after s old new p order log written ds f text a e prep ready laws requests means run figures tells =
    let w = working apply known (with_first m before) (with_first m after) in
    record { told = refl; counts = refl; says = says_ended n workers w t s old new p order log written ds f text a e prep ready laws requests means run figures tells }

-- no fault of planning is a failure of a run
not_of_planning : (failure : RunFault) (fault : PlanFault) → Failed failure ≡ plan_answer fault → ⊥
not_of_planning failure plan_faults.Memory e = (let clash : ◌≡◌ {A = CallFault} (Failed failure) Memory = e in absurd cc)
not_of_planning failure (plan_faults.Exceeds site task needed bound) e = absurd cc
not_of_planning failure fault e = absurd cc

not_refused : (known : List ℕ → Bool) (s : Surveyed) (failure : RunFault) → RefusedAs known s (Failed failure) → ⊥
not_refused known s failure (inl h) = not_of_planning failure h.fault h.answers
not_refused known s failure (inr h) = (let clash : ◌≡◌ {A = CallFault} (Failed failure) (Refused h.fault) = h.answers in absurd cc)

-- nothing was run
says_refused : (n workers : ℕ) (w : Work) (t : Tools) (s : Surveyed) (fault : CallFault) → RefusedAs w.known s fault → w.after ≡ w.before → t.after ≡ t.before → Says n workers w t s [] (not_for fault)
says_refused n workers w t s Memory refused same unused = tt
says_refused n workers w t s (Failed failure) refused same unused = absurd (not_refused w.known s failure refused)
says_refused n workers w t s fault refused same unused = record { fault = fault; refused = refused; answers = refl; untouched = same; unused = unused; no_text = refl }

pub says_unrun : (n workers : ℕ) (w : Work) (t : Tools) (s : Surveyed) (text : List ℕ) (a : Answer) (fault : CallFault) → RefusedAs w.known s fault → a ≡ not_for fault → text ≡ [] → w.after ≡ w.before → t.after ≡ t.before → Says n workers w t s text a
says_unrun n workers w t s text a fault refused is none same unused = subst (Says n workers w t s text) (sym is) (subst (λ (z : List ℕ). Says n workers w t s z (not_for fault)) (sym none) (says_refused n workers w t s fault refused same unused))

-- The workload was made, and it was rehearsed.
pub rehearse_works : (n : ℕ) (d : DocsMoment) (w : Work) (t : Tools) (s : Surveyed) (text : List ℕ) (a : Answer) → IsSurveyedWorkload n s → Rehearses n 1 w (first_tool w) s text a → Does (rehearse n) (doing d d w t) text a
rehearse_works n d w t s text a made works = inr (record { inputs = s; comes = record { not_asked = refl; made = made }; works = works })

pub rehearse_by_works : (n workers : ℕ) (d : DocsMoment) (w : Work) (t : Tools) (s : Surveyed) (text : List ℕ) (a : Answer) → IsSurveyedWorkload n s → Rehearses n workers w t s text a → Does (rehearse_by n workers) (doing d d w t) text a
rehearse_by_works n workers d w t s text a made works = inr (record { inputs = s; comes = record { not_asked = refl; made = made }; works = works })

-- ---- what keeps it from Done

-- no site has a file at the start
none_at : (site name : List ℕ) → pair_at files.empty site name ≡ None
none_at site name = ap (λ (o : Option Files). files.get (or_empty o) name) (files.get-empty (slice_cmp nat_cmp) site) ∙ files.get-empty (slice_cmp nat_cmp) name

unused_inside : (n : ℕ) (p : Plan) → AreUnused p (Some (workload_store n))
unused_inside n p = λ x l used name. ap (λ (m : Sites). pair_at m (site_name p x) name) (workload_is_new n).0 ∙ none_at (site_name p x) name

can_run : (n : ℕ) (w inner : Work) (s : Surveyed) → IsInside n w inner → CanRehearse n w → IsSurveyedWorkload n s → CanRun inner s
can_run n w inner s inside can made = record {
  no_fault = can.no_fault s made;
  plan = λ p planned. record {
    tools = subst (λ (known : List ℕ → Bool). unknown_tool known p.jobs ≡ None) (sym inside.known) (can.plan s p made planned).tools;
    ends = record {
      store = workload_store n;
      told = inside.told;
      unused = subst (AreUnused p) (sym inside.told) (unused_inside n p);
      carried = subst (λ (apply : Apply). AllCarried apply (replicas_of (workload_store n)) p) (sym inside.apply) (can.plan s p made planned).carried;
    };
  };
}

not_risen : (n : ℕ) (w inner : Work) → IsInside n w inner → inner.after.counts.faults ≡ 0 → Rose inner.before.counts.faults inner.after.counts.faults → ⊥
not_risen n w inner inside none rose = let start : inner.before.counts.faults ≡ 0 = ap (λ (c : Counts). c.faults) inside.counts in absurd (by inner.before.counts.faults inner.after.counts.faults start none rose)
  where
    by : (a b : ℕ) → a ≡ 0 → b ≡ 0 → Rose a b → ⊥
    by zero zero i j rose = absurd (omega (arith, rose))
    by zero (suc b) i j rose = absurd (omega (arith, j))
    by (suc a) b i j rose = absurd (omega (arith, i))

failed_short : (law : RunsFinish) (n workers : ℕ) (w : Work) (t : Tools) (s : Surveyed) (fault : RunFault) → HasFailed n workers w t s fault → CanRehearse n w → IsSurveyedWorkload n s → ((k : ℕ) → k < workers → Rose (count_of t.before k) (count_of t.after k) → ⊥) → IsDoneOrMemory (not_for (Failed fault))
failed_short law n workers w t s fault h can made still =
    plan_run_finishes law h.run.inner t workers s h.run.text (not_for (Failed fault)) h.run.ran (can_run n w h.run.inner s h.run.inside can made)
    (record { host = not_risen n w h.run.inner h.run.inside h.none_failed; tools = still })

says_done : (law : RunsFinish) (n workers : ℕ) (w : Work) (t : Tools) (s : Surveyed) (text : List ℕ) (a : Answer) → Says n workers w t s text a → CanRehearse n w → IsSurveyedWorkload n s → ((k : ℕ) → k < workers → Rose (count_of t.before k) (count_of t.after k) → ⊥) → IsDoneOrMemory a
says_done law n workers w t s text (Ok given) h can made still = tt
says_done law n workers w t s text (Err Memory) h can made still = tt
says_done law n workers w t s text (Err (Failed fault)) h can made still = ∥∥₁_elim h.1 (done_prop (not_for (Failed fault))) (λ (k : HasFailed n workers w t s fault). failed_short law n workers w t s fault k can made still)
says_done law n workers w t s text (Err fault) h can made still = subst IsDoneOrMemory (sym h.answers) (refused_short w.known s h.fault h.refused (can.no_fault s made) (λ p planned. (can.plan s p made planned).tools))

unmade_short : (n : ℕ) (w : Work) (fault : CallFault) → IsUnmade n fault → CanRehearse n w → IsDoneOrMemory (not_for fault)
unmade_short n w fault h can = subst (λ (f : CallFault). IsDoneOrMemory (not_for f)) (sym (h.answers ∙ ap plan_answer (can.made h.fault h.refuses))) tt

first_still : (w : Work) → (Rose w.before.tool w.after.tool → ⊥) → (k : ℕ) → k < 1 → Rose (count_of (first_tool w).before k) (count_of (first_tool w).after k) → ⊥
first_still w still zero l rose = still rose
first_still w still (suc k) l rose = absurd (omega (arith, l))

pub rehearse_finishes : RunsFinish → (n : ℕ) → Finishes (rehearse n)
rehearse_finishes law n d text a (inl h) can still = let made : IsUnmade n h.fault = h.comes.made in subst IsDoneOrMemory (sym h.answers) (unmade_short n d.work h.fault made can)
rehearse_finishes law n d text a (inr h) can still =
    let made : IsSurveyedWorkload n h.inputs = h.comes.made in
    says_done law n 1 d.work (first_tool d.work) h.inputs text a h.works.says can made (first_still d.work still.work.tool)

pub rehearse_by_finishes : RunsFinish → (n workers : ℕ) → Finishes (rehearse_by n workers)
rehearse_by_finishes law n workers d text a (inl h) can still = let made : IsUnmade n h.fault = h.comes.made in subst IsDoneOrMemory (sym h.answers) (unmade_short n d.work h.fault made can)
rehearse_by_finishes law n workers d text a (inr h) can still =
    let made : IsSurveyedWorkload n h.inputs = h.comes.made in
    says_done law n workers d.work d.tools h.inputs text a h.works.says can made (λ k l. still.work.tools k)

-- memory ran out before anything was made
pub unmade : (n : ℕ) (m : DocsMoment) → Makes n m m (Err Memory)
unmade n m = record { not_asked = refl; made = record { fault = plan_faults.Memory; refuses = tt; answers = refl } }
