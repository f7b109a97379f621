-- The documents of an ensemble: how the steps of its members follow each other.
use Rattle.std.proofs.Common.{◌≡◌, ℕ, ◌++◌, false, List, [], ◌∷◌, map, refl, sym, ap, subst, ◌∙◌, inl, inr, arith, append_assoc}
use Rattle.std.specs.Prelude.{Result, Ok, Err}
use Rattle.std.specs.List.{AllByRecursion}
use Rattle.std.specs.Str.{bytes_eq}
use Rattle.std.proofs.lemmas.List.{append-nil}
use Rattle.std.proofs.lemmas.List.Elements.{All-from_recursion}
use Rattle.outside.specs.code.Counts.{IsLater}
use Rattle.outside.specs.declared.counts.Counts.{Counts}
use Rattle.peg_json.specs.declared.fault.TreeFault.TheVariants as trees
use Rattle.peg_json.specs.declared.read_fault.ReadFault.TheVariants as reads
use Rattle.workflow_core.specs.code.WellFormed.{are_distinct}
use Rattle.plan_request.specs.declared.request.PlanRequest.{PlanRequest}
use Rattle.planner.specs.code.Course.{Refuses}
use Rattle.planner.specs.declared.plan_fault.PlanFault.{PlanFault}
use Rattle.ensemble.specs.Applying.{of_ensemble}
use Rattle.ensemble.specs.Joining.{Joins as HasJoint}
use Rattle.ensemble.specs.Limits.{IsFit}
use Rattle.ensemble.specs.Member.{AreMembers, IsMember}
use Rattle.ensemble.specs.MemberEntry.{has_slash}
use Rattle.ensemble.specs.Reader.{FailsEnsemble, names_of, read_of}
use Rattle.ensemble.specs.declared.document.Ensemble.{Ensemble}
use Rattle.ensemble.specs.declared.document.MemberEntry.{MemberEntry}
use Rattle.ensemble.specs.declared.fault.EnsembleFault.{EnsembleFault}
use Rattle.ensemble.specs.declared.fault.EnsembleFault.TheVariants as ensembles
use Rattle.ensemble.specs.declared.join_fault.JoinFault.{JoinFault}
use Rattle.ensemble.specs.declared.join_fault.JoinFault.TheVariants as joins
use Rattle.ensemble.specs.declared.member.Member.{Member}
use Rattle.pegasus_commands.specs.declared.course.Requested.{Requested}
use Rattle.pegasus_commands.specs.declared.fault.CallFault.{CallFault}
use Rattle.pegasus_commands.specs.declared.fault.CallFault.TheVariants as faults
use Rattle.pegasus_commands.specs.code.Course.{ButMemory, Course, IsStep, documents}
use Rattle.pegasus_commands.specs.code.Ensembles.{AreRead, HasMembers, HasNoJoint, IsRead, ReadsMember, Stops, StopsAt, StopsMember, SurveysMember, ensemble_document, ensemble_in_bytes}
use Rattle.pegasus_commands.specs.code.Fault.{ensemble_answer, join_answer, member_answer, plan_answer}
use Rattle.pegasus_commands.specs.Moments.{DocsMoment}

-- ---- the ensemble's own document

pub ensemble_fails : (bytes : List ℕ) (fault : EnsembleFault) → FailsEnsemble fault (read_of bytes) → ButMemory {A = Ensemble} (Err (ensemble_answer fault)) (◌≡◌ {A = Result Ensemble CallFault} (Err (ensemble_answer fault)) (ensemble_in_bytes bytes))
ensemble_fails bytes (ensembles.Read (reads.Tree trees.Memory)) h = tt
ensemble_fails bytes fault h = rw h refl

-- ---- moments

-- documents may have been asked for in between
pub record IsPassage (before after : DocsMoment) : Type 0 where
  pub told : after.told ≡ before.told
  pub later : IsLater before.counts after.counts

pub still : (m : DocsMoment) → IsPassage m m
still m = record { told = refl; later = record { done = omega arith; faults = omega arith; misses = omega arith } }

pub passed : {A : Type 0} (c : Course A) (before after : DocsMoment) (r : Result A CallFault) → IsStep c before after r → IsPassage before after
passed c before after r step = record { told = step.told; later = step.later }

later_so : (a b c : Counts) → IsLater a b → IsLater b c → IsLater a c
later_so a b c x y = record {
  done = omega (arith, x.done, y.done);
  faults = omega (arith, x.faults, y.faults);
  misses = omega (arith, x.misses, y.misses);
}

pub then_passed : (a b c : DocsMoment) → IsPassage a b → IsPassage b c → IsPassage a c
then_passed a b c x y = record { told = y.told ∙ x.told; later = later_so a.counts b.counts c.counts x.later y.later }

-- memory ran out
pub short : {A : Type 0} (c : Course A) (before after : DocsMoment) → IsPassage before after → IsStep c before after (Err faults.Memory)
short c before after p = record { told = p.told; later = p.later; gives = tt }

-- ---- a member

pub member_short : (e : Ensemble) (x : MemberEntry) (before after : DocsMoment) → IsPassage before after → StopsMember e x before after faults.Memory
member_short e x before after p = inl (record { fault = faults.Memory; came = short (documents x.request) before after p; answers = refl })

pub member_unsurveyed : (e : Ensemble) (name : List ℕ) (r : Requested) (fault : PlanFault) (q : PlanRequest) (answer : CallFault) → q ≡ of_ensemble e r.request → Refuses q r.documents fault → answer ≡ member_answer name (plan_answer fault) → SurveysMember e name r (Err answer)
member_unsurveyed e name r fault q faults.Memory same h is = tt
member_unsurveyed e name r fault q answer same h is = record { fault = fault; refuses = subst (λ (z : PlanRequest). Refuses z r.documents fault) same h; answers = is }

pub member_reads : (e : Ensemble) (x : MemberEntry) (before after : DocsMoment) (r : Requested) (result : Result Member CallFault) → IsStep (documents x.request) before after (Ok r) → SurveysMember e x.name r result → ReadsMember e x before after result
member_reads e x before after r (Ok m) came h = record { requested = r; came = came; is = h }
member_reads e x before after r (Err faults.Memory) came h = member_short e x before after (passed (documents x.request) before after (Ok r) came)
member_reads e x before after r (Err answer) came h = inr (record { requested = r; came = came; unsurveyed = h })

pub read_is_passage : (e : Ensemble) (x : MemberEntry) (before after : DocsMoment) (m : Member) → IsRead e x before after m → IsPassage before after
read_is_passage e x before after m h = passed (documents x.request) before after (Ok h.requested) h.came

-- ---- the members so far

-- Of the members xs these are read, the rest isn't: what comes of the rest comes of all.
pub record AreSoFar (e : Ensemble) (xs : List MemberEntry) (start now : DocsMoment) (rest : List MemberEntry) (ms : List Member) : Type 0 where
  pub goes : (after : DocsMoment) (more : List Member) → AreRead e rest now after more → AreRead e xs start after (ms ++ more)
  pub stops : (after : DocsMoment) (answer : CallFault) → StopsAt e rest now after answer → StopsAt e xs start after answer
  pub members : AllByRecursion (λ (m : Member). has_slash m.name ≡ false → IsMember m) ms

pub none_so_far : (e : Ensemble) (xs : List MemberEntry) (start : DocsMoment) → AreSoFar e xs start start xs []
none_so_far e xs start = record { goes = λ after more h. h; stops = λ after answer h. h; members = tt }

all_pushed : (P : Member → Type 0) (ms : List Member) (m : Member) → AllByRecursion P ms → P m → AllByRecursion P (ms ++ m ∷ [])
all_pushed P [] m all h = (h, tt)
all_pushed P (x ∷ xs) m all h = (all.0, all_pushed P xs m all.1 h)

pub one_more : (e : Ensemble) (xs rest more : List MemberEntry) (x : MemberEntry) (start now next : DocsMoment) (ms : List Member) (m : Member) → AreSoFar e xs start now rest ms → rest ≡ x ∷ more → IsRead e x now next m → (has_slash m.name ≡ false → IsMember m) → AreSoFar e xs start next more (ms ++ m ∷ [])
one_more e xs rest more x start now next ms m so_far is read member = record {
  goes = λ after ys h. subst (AreRead e xs start after) (sym (append_assoc ms (m ∷ []) ys)) (so_far.goes after (m ∷ ys) (subst (λ (zs : List MemberEntry). AreRead e zs now after (m ∷ ys)) (sym is) (next, read, h)));
  stops = λ after answer h. so_far.stops after answer (subst (λ (zs : List MemberEntry). StopsAt e zs now after answer) (sym is) (inr (next, m, read, h)));
  members = all_pushed (λ (y : Member). has_slash y.name ≡ false → IsMember y) ms m so_far.members member;
}

pub one_stops : (e : Ensemble) (xs rest more : List MemberEntry) (x : MemberEntry) (start now after : DocsMoment) (ms : List Member) (answer : CallFault) → AreSoFar e xs start now rest ms → rest ≡ x ∷ more → StopsMember e x now after answer → StopsAt e xs start after answer
one_stops e xs rest more x start now after ms answer so_far is h = so_far.stops after answer (subst (λ (zs : List MemberEntry). StopsAt e zs now after answer) (sym is) (inl h))

pub all_read : (e : Ensemble) (xs rest : List MemberEntry) (start now : DocsMoment) (ms : List Member) → AreSoFar e xs start now rest ms → rest ≡ [] → AreRead e xs start now ms
all_read e xs rest start now ms so_far is = subst (AreRead e xs start now) (append-nil ms) (so_far.goes now [] (subst (λ (zs : List MemberEntry). AreRead e zs now now []) (sym is) refl))

-- ---- all members

pub read_passage : (e : Ensemble) (xs : List MemberEntry) (before after : DocsMoment) (ms : List Member) → AreRead e xs before after ms → IsPassage before after
read_passage e [] before after [] h = subst (IsPassage before) (sym h) (still before)
read_passage e [] before after (m ∷ ms) h = absurd h
read_passage e (x ∷ xs) before after [] h = absurd h
read_passage e (x ∷ xs) before after (m ∷ ms) h =
    then_passed before h.0 after (read_is_passage e x before h.0 m h.1) (read_passage e xs h.0 after ms h.2)

read_names : (e : Ensemble) (xs : List MemberEntry) (before after : DocsMoment) (ms : List Member) → AreRead e xs before after ms → map (λ (m : Member). m.name) ms ≡ names_of xs
read_names e [] before after [] h = refl
read_names e [] before after (m ∷ ms) h = absurd h
read_names e (x ∷ xs) before after [] h = absurd h
read_names e (x ∷ xs) before after (m ∷ ms) h =
    ap (λ (n : List ℕ). n ∷ map (λ (y : Member). y.name) ms) h.1.is.named
    ∙ ap (λ (ns : List (List ℕ)). x.name ∷ ns) (read_names e xs h.0 after ms h.2)

each_member : (e : Ensemble) (xs : List MemberEntry) (before after : DocsMoment) (ms : List Member) → AreRead e xs before after ms → AllByRecursion (λ (x : MemberEntry). has_slash x.name ≡ false) xs → AllByRecursion (λ (m : Member). has_slash m.name ≡ false → IsMember m) ms → AllByRecursion IsMember ms
each_member e [] before after [] h plain each = tt
each_member e [] before after (m ∷ ms) h plain each = absurd h
each_member e (x ∷ xs) before after [] h plain each = absurd h
each_member e (x ∷ xs) before after (m ∷ ms) h plain each =
    (each.0 (ap has_slash h.1.is.named ∙ plain.0), each_member e xs h.0 after ms h.2 plain.1 each.1)

pub are_members : (e : Ensemble) (before after : DocsMoment) (ms : List Member) → IsFit e → AreRead e e.members before after ms → AllByRecursion (λ (m : Member). has_slash m.name ≡ false → IsMember m) ms → AreMembers ms
are_members e before after ms fit read each = record {
  distinct = ap (are_distinct bytes_eq) (read_names e e.members before after ms read) ∙ fit.distinct;
  each = All-from_recursion IsMember ms (each_member e e.members before after ms read fit.plain_names each);
}

pub stops_passage : (e : Ensemble) (xs : List MemberEntry) (before after : DocsMoment) (answer : CallFault) → StopsAt e xs before after answer → IsPassage before after
stops_passage e [] before after answer h = absurd h
stops_passage e (x ∷ xs) before after answer (inl (inl h)) = passed (documents x.request) before after (Err h.fault) h.came
stops_passage e (x ∷ xs) before after answer (inl (inr h)) = passed (documents x.request) before after (Ok h.requested) h.came
stops_passage e (x ∷ xs) before after answer (inr h) =
    then_passed before h.0 after (read_is_passage e x before h.0 h.1 h.2) (stops_passage e xs h.0 after answer h.3)

-- ---- the joint

pub has_passage : (name : List ℕ) (before after : DocsMoment) (e : Ensemble) (ms : List Member) → HasMembers name before after e ms → IsPassage before after
has_passage name before after e ms h =
    then_passed before h.mid after (passed (ensemble_document name) before h.mid (Ok e) h.came) (read_passage e e.members h.mid after ms h.read)

pub no_joint : (ms : List Member) (r : PlanRequest) (fault : JoinFault) → HasJoint ms r (Err fault) → HasNoJoint ms (join_answer fault)
no_joint ms r joins.Memory j = tt
no_joint ms r (joins.TooMany counted count limit) j = record { fault = joins.TooMany counted count limit; refuses = j; answers = refl }

pub unjoined : (name : List ℕ) (before after : DocsMoment) (e : Ensemble) (ms : List Member) (answer : CallFault) → HasMembers name before after e ms → HasNoJoint ms answer → Stops name before after answer
unjoined name before after e ms faults.Memory h j = inl (short (ensemble_document name) before after (has_passage name before after e ms h))
unjoined name before after e ms answer h j = inr (inr (record { ensemble = e; members = ms; has = h; too_many = j }))
