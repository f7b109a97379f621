-- What ends a command at its documents, and what keeps it from Done.
use Rattle.std.proofs.Common.{◌≡◌, ℕ, List, [], length, refl, sym, ap, subst, ◌∙◌, inl, inr, arith}
use Rattle.std.specs.Prelude.{◌⊎◌, Some, Result, Ok, Err}
use Rattle.outside.specs.code.Counts.{Rose}
use Rattle.values.specs.FileMap.{Files}
use Rattle.values.specs.declared.documents.Documents.{Documents}
use Rattle.workflow_core.specs.View.{workflow_view}
use Rattle.workflow_core.specs.declared.workflow.Workflow.{Workflow}
use Rattle.dependency_graph.specs.code.Built.{AreTwoProducers}
use Rattle.dependency_graph.specs.Graph.{IsSound}
use Rattle.plan_request.specs.declared.request.PlanRequest.{PlanRequest}
use Rattle.planner.specs.code.Course.{GraphRefuses, Refuses, SurveyEntry, surveyed}
use Rattle.planner.specs.declared.plan_fault.PlanFault.{PlanFault}
use Rattle.planner.specs.declared.plan_fault.PlanFault.TheVariants as plan
use Rattle.plan_run.specs.Moments.{Tools, Work}
use Rattle.pegasus_commands.specs.declared.fault.CallFault.{CallFault}
use Rattle.pegasus_commands.specs.declared.fault.CallFault.TheVariants as faults
use Rattle.pegasus_commands.specs.code.CommandSpec.{Does, Doing, Finishes, NoneRoseAtWork, NoneRoseIn}
use Rattle.pegasus_commands.specs.code.Course.{ButMemory, Course, Gives, HasFailed, IsStep, read_from}
use Rattle.pegasus_commands.specs.code.Fault.{Answer, IsDoneOrMemory, not_for, plan_answer}
use Rattle.pegasus_commands.specs.Moments.{DocsMoment}
use Rattle.pegasus_commands.specs.code.InputSpec.{GoesOn, InputSpec, MayGoOn, Stops, over}
use Rattle.pegasus_commands.proofs.CourseLemmas.{result_again, told_gives}

-- told documents give what they read, where no fault was counted
pub told_step : {A : Type 0} (c : Course A) (before after : DocsMoment) (files : Files) (a : A) (r : Result A CallFault) → before.told ≡ Some files → read_from files c ≡ Ok a → (Rose before.counts.faults after.counts.faults → ⊥)
    → IsStep c before after r → ButMemory r (r ≡ Ok a)
told_step {A} c before after files a r told reads still step =
    result_again r _ _ (λ (m : (r ≡ read_from files c) ⊎ HasFailed before.counts after.counts r). came_so m) (told_so r (subst (λ t. ButMemory r (Gives t c before.counts after.counts r)) told step.gives))
  where
    came_so : (r ≡ read_from files c) ⊎ HasFailed before.counts after.counts r → r ≡ Ok a
    came_so (inl m) = m ∙ reads
    came_so (inr failed) = absurd (still failed.0)

    told_so : (r : Result A CallFault) → ButMemory r (Gives (Some files) c before.counts after.counts r) → ButMemory r ((r ≡ read_from files c) ⊎ HasFailed before.counts after.counts r)
    told_so (Err faults.Memory) h = tt
    told_so r h = told_gives files c before.counts after.counts r h

-- a file of a sound workflow has no two producers
not_contested : (w : Workflow) (lfn one two : List ℕ) → IsSound w → AreTwoProducers w lfn one two → ⊥
not_contested w lfn one two sound h =
    let few = sound.one_producer h.file h.contested.in_range in
    let many = ap length h.contested.is in
    omega (arith, few, many)

not_refused : (fault : PlanFault) (w : Workflow) → IsSound w → GraphRefuses fault w → ⊥
not_refused (plan.TwoProducers lfn one two) w sound h = not_contested w lfn one two sound h
not_refused (plan.Cycle ids) w sound h = sound.no_return h.cycle.start h.cycle.returns
not_refused fault w sound h = h

same_entry : (given : Result SurveyEntry PlanFault) (a b : SurveyEntry) → given ≡ Ok a → given ≡ Ok b → a ≡ b
same_entry given a b i j = cc

no_fault : (given : Result SurveyEntry PlanFault) (a : SurveyEntry) (fault : PlanFault) → given ≡ Ok a → given ≡ Err fault → ⊥
no_fault given a fault i j = absurd cc

-- what planning may refuse where the documents have no fault and their workflow is sound
pub refused_short : (r : PlanRequest) (d : Documents) (said : SurveyEntry) (fault : PlanFault) → surveyed r d ≡ Ok said → ((w : Workflow) → workflow_view w ≡ said.workflow → IsSound w) → Refuses r d fault → fault ≡ plan.Memory
refused_short r d said plan.Memory says sound h = refl
refused_short r d said fault says sound (inl h) = absurd (no_fault (surveyed r d) said fault says h)
refused_short r d said fault says sound (inr h) = absurd (not_refused fault h.workflow (sound h.workflow (h.is ∙ ap (λ (e : SurveyEntry). e.workflow) (same_entry (surveyed r d) h.said said h.says says))) h.holds)

no_answer : {A : Type 0} (e : CallFault) (a : A) → ◌≡◌ {A = Result A CallFault} (Err e) (Ok a) → ⊥
no_answer e a is = absurd cc

pub came_as : {A : Type 0} (a b : A) → ◌≡◌ {A = Result A CallFault} (Ok a) (Ok b) → a ≡ b
came_as a b is = cc

pub nothing_came : {A : Type 0} (e : CallFault) (a : A) → ButMemory {A = A} (Err e) (◌≡◌ {A = Result A CallFault} (Err e) (Ok a)) → e ≡ faults.Memory
nothing_came faults.Memory a h = refl
nothing_came {A} e a h = absurd (no_answer {A = A} e a h)

-- documents that go on stop a command for want of memory alone
stops_short : (k : InputSpec) (CanWork : Work → k.Inputs → Type 0) (d : Doing) (e : CallFault) → MayGoOn k CanWork d.before.told d.work → NoneRoseIn d → Stops k d.before d.after e → e ≡ faults.Memory
stops_short k CanWork d e may still (inl step) = nothing_came {A = k.Given} e may.given (told_step k.course d.before d.after may.files may.given (Err e) may.told_is may.reads still.docs step)
stops_short k CanWork d e may still (inr h) =
    let same = came_as {A = k.Given} h.given may.given (told_step k.course d.before d.after may.files may.given (Ok h.given) may.told_is may.reads still.docs h.came) in
    let refuses = subst (λ (x : k.Given). Refuses (k.requested x).request (k.requested x).documents h.fault) same h.refuses in
    h.answers ∙ ap plan_answer (refused_short (k.requested may.given).request (k.requested may.given).documents may.said h.fault may.says may.sound refuses)

pub of_memory : (e : CallFault) → e ≡ faults.Memory → IsDoneOrMemory (not_for e)
of_memory e h = subst (λ (z : CallFault). IsDoneOrMemory (not_for z)) (sym h) tt

-- The documents ended the command.
pub is_stopped : (k : InputSpec) (Works : Work → Tools → k.Inputs → List ℕ → Answer → Type 0) (CanWork : Work → k.Inputs → Type 0) (d : Doing) (text : List ℕ) (answer : Answer) (e : CallFault)
    → Stops k d.before d.after e → answer ≡ not_for e → d.work.after ≡ d.work.before → d.tools.after ≡ d.tools.before → text ≡ [] → Does (over k Works CanWork) d text answer
is_stopped k Works CanWork d text answer e stops is untouched unused none = inl (record { fault = e; comes = stops; answers = is; untouched = untouched; unused = unused; no_text = none })

-- They let it go on, and it did its work.
pub has_worked : (k : InputSpec) (Works : Work → Tools → k.Inputs → List ℕ → Answer → Type 0) (CanWork : Work → k.Inputs → Type 0) (d : Doing) (text : List ℕ) (answer : Answer) (i : k.Inputs)
    → GoesOn k d.before d.after i → Works d.work d.tools i text answer → Does (over k Works CanWork) d text answer
has_worked k Works CanWork d text answer i goes_on works = inr (record { inputs = i; comes = goes_on; works = works })

-- What finishes over all that documents make finishes.
pub finishes_over : (k : InputSpec) (Works : Work → Tools → k.Inputs → List ℕ → Answer → Type 0) (CanWork : Work → k.Inputs → Type 0)
    → ((w : Work) (t : Tools) (i : k.Inputs) (text : List ℕ) (a : Answer) → Works w t i text a → CanWork w i → NoneRoseAtWork w t → IsDoneOrMemory a) → Finishes (over k Works CanWork)
finishes_over k Works CanWork each d text a (inl h) may still = subst IsDoneOrMemory (sym h.answers) (of_memory h.fault (stops_short k CanWork d h.fault may still h.comes))
finishes_over k Works CanWork each d text a (inr h) may still =
    let on : GoesOn k d.before d.after h.inputs = h.comes in
    let came = came_as {A = k.Given} on.given may.given (told_step k.course d.before d.after may.files may.given (Ok on.given) may.told_is may.reads still.docs on.came) in
    each d.work d.tools h.inputs text a h.works (may.can_work h.inputs (subst (λ (x : k.Given). k.Makes x h.inputs) came on.makes)) still.work
