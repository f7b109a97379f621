-- The answers of `ensemble`.
use Rattle.std.proofs.Common.{◌≡◌, ℕ, zero, suc, ◌+◌, ◌<◌, List, [], ◌∷◌, length, map, refl, sym, ap, subst, ◌∙◌, inl, inr, arith}
use Rattle.std.specs.Prelude.{Some, Ok, Err, is_some, slice_get}
use Rattle.std.specs.List.{AllByRecursion}
use Rattle.std.specs.FinMap as files
use Rattle.std.proofs.lemmas.List.{length-append, length-map}
use Rattle.std.proofs.Math.Logic.{∥∥₁_map}
use Rattle.outside.specs.code.Counts.{Rose}
use Rattle.values.specs.FileMap.{Files}
use Rattle.outside.specs.declared.store.Store.{Store}
use Rattle.workflow_core.specs.Requested.{is_requested}
use Rattle.plan_request.specs.declared.request.PlanRequest.{PlanRequest}
use Rattle.planner.specs.code.Course.{Refuses}
use Rattle.planner.specs.Deliveries.{IsRequested}
use Rattle.planner.specs.declared.plan_fault.PlanFault.{PlanFault}
use Rattle.planner.specs.declared.surveyed.Surveyed.{Surveyed}
use Rattle.ensemble.specs.Applying.{of_ensemble, own_request}
use Rattle.ensemble.specs.Joining.{IsJoint, are_few}
use Rattle.ensemble.specs.Law.{MeansMembers, first_file}
use Rattle.ensemble.specs.Member.{count_files, files_of}
use Rattle.ensemble.specs.Prefix.{prefixed}
use Rattle.ensemble.specs.Workflows.{joint_files}
use Rattle.ensemble.specs.declared.document.Ensemble.{Ensemble}
use Rattle.ensemble.specs.declared.document.MemberEntry.{MemberEntry}
use Rattle.ensemble.specs.declared.join_fault.JoinFault.{JoinFault}
use Rattle.ensemble.specs.declared.member.Member.{Member}
use Rattle.plan_run.specs.Finishing.{replicas_of}
use Rattle.plan_run.specs.Moments.{Tools, Work}
use Rattle.plan_run.specs.code.Moments.{first_tool}
use Rattle.pegasus_commands.specs.declared.course.Requested.{Requested}
use Rattle.pegasus_commands.specs.declared.fault.CallFault.{CallFault}
use Rattle.pegasus_commands.specs.declared.fault.CallFault.TheVariants as faults
use Rattle.pegasus_commands.specs.code.Commands.Alone.{HasRunFirst, RunsAlone}
use Rattle.pegasus_commands.specs.code.Commands.EnsembleRun.{AreDelivered, DeliversMembers, IsAsked, RunsJoint, ensemble, ensemble_by, joint_name, over_ensemble}
use Rattle.pegasus_commands.specs.code.Commands.Run.{RunsMany}
use Rattle.pegasus_commands.specs.code.CommandSpec.{Does, Doing, Finishes, NoneRoseAtWork, NoneRoseIn}
use Rattle.pegasus_commands.specs.code.Course.{IsStep, documents}
use Rattle.pegasus_commands.specs.code.Ensembles.{AreRead, AreTold, GoesOn, HasMembers, IsJoinedOf, IsRead, IsSurveyedMember, IsTold, Joined, MayJoin, MayRead, Stops, StopsAt, StopsMember, ensemble_document, joined}
use Rattle.pegasus_commands.specs.code.Fault.{Answer, IsDoneOrMemory, done, member_answer, not_for, plan_answer}
use Rattle.pegasus_commands.specs.Moments.{DocsMoment}
use Rattle.pegasus_commands.specs.PlanRun.{AreSet, ShownBy, lfn, value_in}
use Rattle.pegasus_commands.specs.code.PlanRun.{CanRun, DeliversRequested, HasRunPlan, IsUnrun}
use Rattle.pegasus_commands.proofs.AloneLemmas.{runs_done as alone_done}
use Rattle.pegasus_commands.proofs.DeliveryLemmas.{set_valued, told_so}
use Rattle.pegasus_commands.proofs.EnsemblesLemmas.{IsPassage, passed, read_is_passage, read_passage, stops_passage}
use Rattle.pegasus_commands.proofs.FaultLemmas.{no_fault_is_done}
use Rattle.pegasus_commands.proofs.PlanRunLemmas.{RunsFinish}
use Rattle.pegasus_commands.proofs.RunLemmas.{runs_done as many_done}
use Rattle.pegasus_commands.proofs.InputSpecLemmas.{came_as, nothing_came, of_memory, refused_short, told_step}

-- ---- what is delivered

first_below : (ms : List Member) (i : ℕ) (m : Member) (f : ℕ) → slice_get ms i ≡ Some m → f < files_of m → first_file ms i + f < count_files ms
first_below [] i m f e h = absurd cc
first_below (x ∷ ms) zero m f e h = let same : x ≡ m = cc in let long : files_of x ≡ files_of m = ap files_of same in omega (arith, h, long)
first_below (x ∷ ms) (suc i) m f e h = let rest = first_below ms i m f e h in omega (arith, rest)

count_files_in : (ms : List Member) → length (joint_files ms) ≡ count_files ms
count_files_in [] = refl
count_files_in (m ∷ ms) =
    let own = length-map m.survey.workflow.files (prefixed m.name) in
    let rest = count_files_in ms in
    let all = length-append (map (prefixed m.name) m.survey.workflow.files) (joint_files ms) in
    omega (arith, own, rest, all)

-- what a member asks for is requested of the joint
asked_jointly : (ms : List Member) (r : PlanRequest) (s : Surveyed) (i : ℕ) (m : Member) (f : ℕ) → IsJoint ms r s → MeansMembers ms s → IsAsked ms i m f → IsRequested s.survey (first_file ms i + f)
asked_jointly ms r s i m f joint means asked =
    let all : length s.survey.workflow.files ≡ count_files ms = ap length joint.survey.workflow.files ∙ count_files_in ms in
    let low = first_below ms i m f asked.has.member asked.has.in_range in
    record { in_range = omega (arith, all, low); requested = means.requested i m f asked.has ∙ asked.requested }

-- what is requested of the joint is what a member asks for
asked_of_member : (ms : List Member) (s : Surveyed) (g : ℕ) → MeansMembers ms s → IsRequested s.survey g → (i : ℕ) × (m : Member) × (f : ℕ) × IsAsked ms i m f × (joint_name m f ≡ lfn s.survey g)
asked_of_member ms s g means h =
    let own = means.owned g h.in_range in (
      own.place,
      own.owner,
      own.file,
      record { has = own.has; requested = sym (means.requested own.place own.owner own.file own.has) ∙ ap (is_requested s.survey.workflow) (sym own.number) ∙ h.requested },
      sym (means.named own.place own.owner own.file own.has) ∙ ap (lfn s.survey) (sym own.number),
    )

members_have : (w : Work) (ms : List Member) (r : PlanRequest) (s : Surveyed) (old new : Store) → IsJoint ms r s → MeansMembers ms s → AreSet s (λ f content. content ≡ value_in w s old f) old.delivered new.delivered → AreDelivered w ms old new
members_have w ms r s old new joint means set = record {
  there = λ i m f asked. ap (λ (n : List ℕ). is_some (files.get new.delivered n)) (sym (means.named i m f asked.has)) ∙ (set.each (first_file ms i + f) (asked_jointly ms r s i m f joint means asked)).0;
  valued = λ i m f asked. ap (files.get new.delivered) (sym (means.named i m f asked.has)) ∙ (set.each (first_file ms i + f) (asked_jointly ms r s i m f joint means asked)).1 ∙ means.values w.apply (replicas_of old) i m f asked.has;
  others = λ name none. set.others name (λ g h e. let asked = asked_of_member ms s g means h in none asked.0 asked.1 asked.2 asked.3 (asked.4 ∙ e));
}

run_delivers : (w : Work) (t : Tools) (n : ℕ) (ms : List Member) (r : PlanRequest) (s : Surveyed) (text : List ℕ) → IsJoint ms r s → MeansMembers ms s → HasRunPlan w t n s text done → ShownBy w (DeliversMembers w ms)
run_delivers w t n ms r s text joint means h =
    told_so w h.plan h.ran.r (DeliversRequested w s h.plan h.ran.r) (DeliversMembers w ms) h.ran.run.shown h.delivers
    (λ m new agrees d honest. members_have w ms r s m new joint means (set_valued w s h.plan h.ran.r m new h.complete d (means.honest w.apply (replicas_of m) honest)))

not_refused : (w : Work) (t : Tools) (s : Surveyed) (text : List ℕ) → IsUnrun w t s text done → ⊥
not_refused w t s text h = no_fault_is_done h.fault h.answers

alone_delivers : (w : Work) (t : Tools) (ms : List Member) (r : PlanRequest) (s : Surveyed) (text : List ℕ) (a : Answer) → IsJoint ms r s → MeansMembers ms s → RunsAlone w t s text a → a ≡ done → ∥ ShownBy w (DeliversMembers w ms) ∥₁
alone_delivers w t ms r s text a joint means runs is = by (subst (RunsAlone w t s text) is runs)
  where
    by : RunsAlone w t s text done → ∥ ShownBy w (DeliversMembers w ms) ∥₁
    by (inl h) = absurd (not_refused w (first_tool w) s text h)
    by (inr h) = ∥∥₁_map h (λ (k : HasRunFirst w s text done). run_delivers w (first_tool w) 1 ms r s text joint means k.planned)

many_deliver : (w : Work) (t : Tools) (n : ℕ) (ms : List Member) (r : PlanRequest) (s : Surveyed) (text : List ℕ) (a : Answer) → IsJoint ms r s → MeansMembers ms s → RunsMany n w t s text a → a ≡ done → ∥ ShownBy w (DeliversMembers w ms) ∥₁
many_deliver w t n ms r s text a joint means runs is = by (subst (RunsMany n w t s text) is runs)
  where
    by : RunsMany n w t s text done → ∥ ShownBy w (DeliversMembers w ms) ∥₁
    by (inl h) = absurd (not_refused w t s text h)
    by (inr h) = ∥∥₁_map h (λ (k : HasRunPlan w t n s text done). run_delivers w t n ms r s text joint means k)

-- ---- what the commands do

-- The documents ended the command.
pub ensemble_stops : (name : List ℕ) (Runs : Work → Tools → Surveyed → List ℕ → Answer → Type 0) (d : Doing) (text : List ℕ) (answer : Answer) (e : CallFault)
    → Stops name d.before d.after e → answer ≡ not_for e → d.work.after ≡ d.work.before → d.tools.after ≡ d.tools.before → text ≡ [] → Does (over_ensemble name Runs) d text answer
ensemble_stops name Runs d text answer e stops is untouched unused none = inl (record { fault = e; comes = stops; answers = is; untouched = untouched; unused = unused; no_text = none })

-- They let it go on, and the joint's plan was run.
pub ensemble_works : (name : List ℕ) (d : Doing) (text : List ℕ) (answer : Answer) (s : Surveyed) → IsJoinedOf name d.before d.after s → RunsAlone d.work d.tools s text answer → Does (ensemble name) d text answer
ensemble_works name d text answer s is runs = inr (record {
  inputs = joined is.members s;
  comes = is.goes_on;
  works = record { runs = runs; delivers = alone_delivers d.work d.tools is.members (own_request is.goes_on.ensemble) s text answer is.goes_on.joint is.goes_on.means runs };
})

pub ensemble_by_works : (name : List ℕ) (workers : ℕ) (d : Doing) (text : List ℕ) (answer : Answer) (s : Surveyed) → IsJoinedOf name d.before d.after s → RunsMany workers d.work d.tools s text answer → Does (ensemble_by name workers) d text answer
ensemble_by_works name workers d text answer s is runs = inr (record {
  inputs = joined is.members s;
  comes = is.goes_on;
  works = record { runs = runs; delivers = many_deliver d.work d.tools workers is.members (own_request is.goes_on.ensemble) s text answer is.goes_on.joint is.goes_on.means runs };
})

-- ---- what keeps them from Done

abbrev NoneRose : DocsMoment → DocsMoment → Type 0
NoneRose before after = Rose before.counts.faults after.counts.faults → ⊥

first_none : (a b c : DocsMoment) → IsPassage b c → NoneRose a c → NoneRose a b
first_none a b c p none rose = none (let later = p.later.faults in omega (arith, later, rose))

then_none : (a b c : DocsMoment) → IsPassage a b → NoneRose a c → NoneRose b c
then_none a b c p none rose = none (let later = p.later.faults in omega (arith, later, rose))

-- a member's documents that go on stop the call for want of memory alone
answer_short : (name : List ℕ) (fault answer : CallFault) → answer ≡ member_answer name fault → fault ≡ faults.Memory → answer ≡ faults.Memory
answer_short name fault answer is none = is ∙ ap (member_answer name) none

member_stops_short : (e : Ensemble) (x : MemberEntry) (before after : DocsMoment) (files : Files) (answer : CallFault) → before.told ≡ Some files → NoneRose before after → MayRead e files x → StopsMember e x before after answer → answer ≡ faults.Memory
member_stops_short e x before after files answer told none may (inl lacks) =
    answer_short x.name lacks.fault answer lacks.answers (nothing_came {A = Requested} lacks.fault may.requested (told_step (documents x.request) before after files may.requested (Err lacks.fault) told may.reads none lacks.came))
member_stops_short e x before after files answer told none may (inr h) =
    let same = came_as {A = Requested} h.requested may.requested (told_step (documents x.request) before after files may.requested (Ok h.requested) told may.reads none h.came) in
    let refuses = subst (λ (r : Requested). Refuses (of_ensemble e r.request) r.documents h.unsurveyed.fault) same h.unsurveyed.refuses in
    let fault = refused_short (of_ensemble e may.requested.request) may.requested.documents may.said h.unsurveyed.fault may.says may.sound refuses in
    h.unsurveyed.answers ∙ ap (λ (f : PlanFault). member_answer x.name (plan_answer f)) fault

stops_at_short : (e : Ensemble) (xs : List MemberEntry) (before after : DocsMoment) (files : Files) (answer : CallFault) → before.told ≡ Some files → NoneRose before after → AllByRecursion (MayRead e files) xs → StopsAt e xs before after answer → answer ≡ faults.Memory
stops_at_short e [] before after files answer told none may h = absurd h
stops_at_short e (x ∷ xs) before after files answer told none may (inl h) = member_stops_short e x before after files answer told none may.0 h
stops_at_short e (x ∷ xs) before after files answer told none may (inr h) =
    let first = read_is_passage e x before h.0 h.1 h.2 in
    stops_at_short e xs h.0 after files answer (first.told ∙ told) (then_none before h.0 after first none) may.1 h.3

-- members that were read are those of the told documents
member_told : (e : Ensemble) (x : MemberEntry) (before after : DocsMoment) (files : Files) (m : Member) → before.told ≡ Some files → NoneRose before after → MayRead e files x → IsRead e x before after m → IsTold e files x m
member_told e x before after files m told none may h =
    let same = came_as {A = Requested} h.requested may.requested (told_step (documents x.request) before after files may.requested (Ok h.requested) told may.reads none h.came) in
    record { requested = may.requested; reads = may.reads; is = subst (λ (r : Requested). IsSurveyedMember e x.name r m) same h.is }

members_told : (e : Ensemble) (xs : List MemberEntry) (before after : DocsMoment) (files : Files) (ms : List Member) → before.told ≡ Some files → NoneRose before after → AllByRecursion (MayRead e files) xs → AreRead e xs before after ms → AreTold e files xs ms
members_told e [] before after files [] told none may h = tt
members_told e [] before after files (m ∷ ms) told none may h = absurd h
members_told e (x ∷ xs) before after files [] told none may h = absurd h
members_told e (x ∷ xs) before after files (m ∷ ms) told none may h =
    let first = read_is_passage e x before h.0 m h.1 in
    let rest = read_passage e xs h.0 after ms h.2 in
    (member_told e x before h.0 files m told (first_none before h.0 after rest none) may.0 h.1, members_told e xs h.0 after files ms (first.told ∙ told) (then_none before h.0 after first none) may.1 h.2)

-- the ensemble that came is the told one
same_ensemble : (name : List ℕ) (CanWork : Work → Surveyed → Type 0) (w : Work) (before mid after : DocsMoment) (e : Ensemble) → (may : MayJoin name CanWork before.told w) → NoneRose before after → IsPassage mid after → IsStep (ensemble_document name) before mid (Ok e) → e ≡ may.ensemble
same_ensemble name CanWork w before mid after e may none rest came =
    came_as {A = Ensemble} e may.ensemble (told_step (ensemble_document name) before mid may.files may.ensemble (Ok e) may.told_is may.reads (first_none before mid after rest none) came)

-- and so are its members
joined_told : (name : List ℕ) (CanWork : Work → Surveyed → Type 0) (w : Work) (before after : DocsMoment) (e : Ensemble) (ms : List Member) → (may : MayJoin name CanWork before.told w) → NoneRose before after → HasMembers name before after e ms → (e ≡ may.ensemble) × AreTold may.ensemble may.files may.ensemble.members ms
joined_told name CanWork w before after e ms may none h =
    let rest = read_passage e e.members h.mid after ms h.read in
    let first = passed (ensemble_document name) before h.mid (Ok e) h.came in
    let same = same_ensemble name CanWork w before h.mid after e may none rest h.came in
    let read = subst (λ (z : Ensemble). AreRead z z.members h.mid after ms) same h.read in
    (same, members_told may.ensemble may.ensemble.members h.mid after may.files ms (first.told ∙ may.told_is) (then_none before h.mid after first none) may.each read)

few_enough : (ms : List Member) (fault : JoinFault) → are_few ms ≡ Ok tt → are_few ms ≡ Err fault → ⊥
few_enough ms fault few many = absurd cc

stops_short : (name : List ℕ) (CanWork : Work → Surveyed → Type 0) (d : Doing) (answer : CallFault) → MayJoin name CanWork d.before.told d.work → NoneRoseIn d → Stops name d.before d.after answer → answer ≡ faults.Memory
stops_short name CanWork d answer may none (inl step) =
    nothing_came {A = Ensemble} answer may.ensemble (told_step (ensemble_document name) d.before d.after may.files may.ensemble (Err answer) may.told_is may.reads none.docs step)
stops_short name CanWork d answer may none (inr (inl h)) =
    let first = passed (ensemble_document name) d.before h.mid (Ok h.ensemble) h.came in
    let rest = stops_passage h.ensemble h.ensemble.members h.mid d.after answer h.stops in
    let same = same_ensemble name CanWork d.work d.before h.mid d.after h.ensemble may none.docs rest h.came in
    let stops = subst (λ (z : Ensemble). StopsAt z z.members h.mid d.after answer) same h.stops in
    stops_at_short may.ensemble may.ensemble.members h.mid d.after may.files answer (first.told ∙ may.told_is) (then_none d.before h.mid d.after first none.docs) may.each stops
stops_short name CanWork d answer may none (inr (inr h)) =
    let told = joined_told name CanWork d.work d.before d.after h.ensemble h.members may none.docs h.has in
    absurd (few_enough h.members h.too_many.fault (may.few h.members told.1) h.too_many.refuses)

-- What finishes over each joint finishes.
joint_finishes : (name : List ℕ) (Runs : Work → Tools → Surveyed → List ℕ → Answer → Type 0)
    → ((w : Work) (t : Tools) (s : Surveyed) (text : List ℕ) (a : Answer) → Runs w t s text a → CanRun w s → NoneRoseAtWork w t → IsDoneOrMemory a) → Finishes (over_ensemble name Runs)
joint_finishes name Runs each d text a (inl h) may none = subst IsDoneOrMemory (sym h.answers) (of_memory h.fault (stops_short name CanRun d h.fault may none h.comes))
joint_finishes name Runs each d text a (inr h) may none =
    let j : Joined = h.inputs in
    let on : GoesOn name d.before d.after j = h.comes in
    let works : RunsJoint Runs d.work d.tools j text a = h.works in
    let told = joined_told name CanRun d.work d.before d.after on.ensemble j.members may none.docs on.has in
    let joint = subst (λ (z : Ensemble). IsJoint j.members (own_request z) j.surveyed) told.0 on.joint in
    each d.work d.tools j.surveyed text a works.runs (may.can_work j told.1 joint) none.work

pub ensemble_finishes : RunsFinish → (name : List ℕ) → Finishes (ensemble name)
ensemble_finishes law name = joint_finishes name RunsAlone (alone_done law)

pub ensemble_by_finishes : RunsFinish → (name : List ℕ) (workers : ℕ) → Finishes (ensemble_by name workers)
ensemble_by_finishes law name workers = joint_finishes name (RunsMany workers) (many_done law workers)
