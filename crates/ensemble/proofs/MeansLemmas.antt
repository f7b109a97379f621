-- What the joint of some members means: names, sizes, values, requests, and honest replicas.
use Rattle.std.proofs.Common.{◌≡◌, ℕ, zero, suc, ◌+◌, ◌-◌, ◌<◌, ◌≤◌, List, [], ◌∷◌, length, get_or, refl, sym, ap, subst, ◌∙◌, ◌⊎◌, inl, inr, arith}
use Rattle.std.specs.Prelude.{IfSome, Option, Some, None, find, option_map, slice_get, unwrap_or}
use Rattle.std.specs.List.{AllByRecursion, list_any}
use Rattle.std.proofs.lemmas.Bool.{cases_lt}
use Rattle.std.proofs.lemmas.Option.{slice_get-get_or}
use Rattle.std.proofs.lemmas.List.{get_or-map}
use Rattle.workflow_core.specs.declared.workflow.Job.{Job}
use Rattle.workflow_core.specs.declared.workflow.Workflow.{Workflow}
use Rattle.workflow_core.specs.code.Law.{NumbersNames}
use Rattle.workflow_core.specs.Requested.{requests}
use Rattle.workflow_core.specs.code.WellFormed.{IsWellFormed}
use Rattle.replica_catalog.specs.declared.catalog.Replica.{Replica}
use Rattle.replica_catalog.specs.Lookup.{is_of, pfns_in}
use Rattle.replica_catalog.specs.Catalog.{replica_view}
use Rattle.plan_request.specs.declared.request.PlanRequest.{PlanRequest}
use Rattle.plan_request.specs.JobTools.{tool_of}
use Rattle.dependency_graph.specs.Edges.{producer}
use Rattle.dependency_graph.specs.Graph.{IsSound}
use Rattle.dependency_graph.specs.Value.{Basis, base_at, by_producer, made_for, tool_for, value}
use Rattle.dependency_graph.specs.code.Value.{IsValuation}
use Rattle.values.specs.Apply.{Apply}
use Rattle.transfer_refiner.specs.Draft.{entry_in as entry_named}
use Rattle.planner.specs.Meaning.{AreHonest, IsHonest, Told, base, basis_of, replica_in_survey, first_told, value_of}
use Rattle.planner.specs.declared.surveyed.Surveyed.{Surveyed}
use Rattle.ensemble.specs.declared.member.Member.{Member}
use Rattle.ensemble.specs.Entries.{replica_of}
use Rattle.ensemble.specs.Jobs.{job_of}
use Rattle.ensemble.specs.Joining.{IsJoint}
use Rattle.ensemble.specs.Law.{IsOwned, MeansMembers, first_file}
use Rattle.ensemble.specs.Member.{AreMembers, IsMember, count_files, files_of}
use Rattle.ensemble.specs.Prefix.{prefixed}
use Rattle.ensemble.proofs.LookupLemmas.{name_of}
use Rattle.ensemble.proofs.MadeLemmas.{made_after}
use Rattle.ensemble.proofs.MembersLemmas.{count_files_in, each_member, joint_joined}
use Rattle.ensemble.proofs.ProducerLemmas.{said, tool_said}
use Rattle.ensemble.proofs.LawLemmas.{all_at, file_in, first_below, producer_in, replica_in, requested_in, tool_in}
use Rattle.ensemble.proofs.SizesLemmas.{sized_in}

-- ---- values

same_pfns : (m : List ℕ) (o : Option Replica) → pfns_in (option_map (replica_of m) o) ≡ pfns_in o
same_pfns m None = refl
same_pfns m (Some e) = refl

abbrev Determined : Type 0
Determined = (b : Basis) (w : Workflow) (v : ℕ → Option (List ℕ)) → IsWellFormed w → IsSound w → IsValuation b w v → (f : ℕ) → f < length w.files → v f ≡ value b w f

abbrev Fitting : Type 0
Fitting = (b : Basis) (w : Workflow) → IsSound w → IsValuation b w (value b w)

abbrev lfn_at : Workflow → ℕ → List ℕ
lfn_at w f = get_or w.files f []

-- a member of a joint, at its place
record Place (ms : List Member) (r : PlanRequest) (s : Surveyed) (i : ℕ) (m : Member) : Type 0 where
  are : AreMembers ms
  joint : IsJoint ms r s
  at : slice_get ms i ≡ Some m

all_of : (ms : List Member) (r : PlanRequest) (s : Surveyed) (i : ℕ) (m : Member) → Place ms r s i m → AllByRecursion IsMember ms
all_of ms r s i m p = each_member ms p.are

in_range : (ms : List Member) (r : PlanRequest) (s : Surveyed) (i : ℕ) (m : Member) → Place ms r s i m → (f : ℕ) → f < files_of m → first_file ms i + f < length s.survey.workflow.files
in_range ms r s i m p f h =
    let below = first_below ms i m f p.at h in
    let all = ap length p.joint.survey.workflow.files ∙ count_files_in ms in
    omega (arith, below, all)

named : (ms : List Member) (r : PlanRequest) (s : Surveyed) (i : ℕ) (m : Member) → Place ms r s i m → (f : ℕ) → f < files_of m → lfn_at s.survey.workflow (first_file ms i + f) ≡ prefixed m.name (lfn_at m.survey.workflow f)
named ms r s i m p f h = ap (λ (fs : List (List ℕ)). get_or fs (first_file ms i + f) []) p.joint.survey.workflow.files ∙ file_in ms i (first_file ms i + f) m f p.at h refl

makes : (ms : List Member) (r : PlanRequest) (s : Surveyed) (i : ℕ) (m : Member) → Place ms r s i m → (f : ℕ) → f < files_of m → producer s.survey.workflow.jobs (first_file ms i + f) ≡ option_map (job_of m.name (first_file ms i)) (producer m.survey.workflow.jobs f)
makes ms r s i m p f h =
    ap (λ (js : List Job). producer js (first_file ms i + f)) p.joint.survey.workflow.jobs
    ∙ producer_in 0 ms (all_of ms r s i m p) i (first_file ms i) m f p.at h (omega arith)

based : (apply : Apply) (told : Told) (ms : List Member) (r : PlanRequest) (s : Surveyed) (i : ℕ) (m : Member) → Place ms r s i m → (f : ℕ) → f < files_of m
    → base_at (basis_of apply told s.request s.survey) (first_file ms i + f) ≡ base_at (basis_of apply told m.request m.survey) f
based apply told ms r s i m p f h =
    get_or-map (base told s.survey.replicas.entries) s.survey.workflow.files (first_file ms i + f) [] None (in_range ms r s i m p f h)
    ∙ ap (base told s.survey.replicas.entries) (named ms r s i m p f h)
    ∙ ap (λ (es : List Replica). base told es (prefixed m.name (lfn_at m.survey.workflow f))) p.joint.survey.replicas.entries
    ∙ ap (λ (o : Option Replica). first_told told (pfns_in o)) (replica_in ms (all_of ms r s i m p) p.are.distinct i m (lfn_at m.survey.workflow f) p.at)
    ∙ ap (first_told told) (same_pfns m.name (find (is_of (lfn_at m.survey.workflow f)) m.survey.replicas.entries))
    ∙ sym (get_or-map (base told m.survey.replicas.entries) m.survey.workflow.files f [] None h)

tooled : (apply : Apply) (told : Told) (ms : List Member) (r : PlanRequest) (s : Surveyed) (i : ℕ) (m : Member) → Place ms r s i m → (f : ℕ) → f < files_of m → (j : Job) → producer m.survey.workflow.jobs f ≡ Some j
    → tool_for s.survey.workflow.jobs (basis_of apply told s.request s.survey).tools (first_file ms i + f) ≡ tool_for m.survey.workflow.jobs (basis_of apply told m.request m.survey).tools f
tooled apply told ms r s i m p f h j made =
    tool_said (λ (x : Job). tool_of s.request.tools x.transformation.name) s.survey.workflow.jobs (first_file ms i + f)
    ∙ ap (said (λ (x : Job). tool_of s.request.tools x.transformation.name)) (makes ms r s i m p f h ∙ ap (option_map (job_of m.name (first_file ms i))) made)
    ∙ ap (λ (q : PlanRequest). tool_of q.tools (prefixed m.name (name_of j))) p.joint.request
    ∙ ap (λ (o : Option (List ℕ)). unwrap_or o (prefixed m.name (name_of j))) (tool_in ms (all_of ms r s i m p) p.are.distinct i m f j p.at made)
    ∙ sym (tool_said (λ (x : Job). tool_of m.request.tools x.transformation.name) m.survey.workflow.jobs f ∙ ap (said (λ (x : Job). tool_of m.request.tools x.transformation.name)) made)

valued : Fitting → (apply : Apply) (told : Told) (ms : List Member) (r : PlanRequest) (s : Surveyed) (i : ℕ) (m : Member) → Place ms r s i m
    → IsValuation (basis_of apply told m.request m.survey) m.survey.workflow (λ f. value_of apply told s.request s.survey (first_file ms i + f))
valued fitting apply told ms r s i m p f h =
    fitting one s.survey.workflow s.graph.sound (n + f) (in_range ms r s i m p f h)
    ∙ ap (λ (o : Option Job). by_producer o (base_at one (n + f)) (made_for one s.survey.workflow.jobs (value one s.survey.workflow) (n + f))) (makes ms r s i m p f h)
    ∙ by (producer m.survey.workflow.jobs f) refl
  where
    n : ℕ
    n = first_file ms i

    one : Basis
    one = basis_of apply told s.request s.survey

    two : Basis
    two = basis_of apply told m.request m.survey

    by : (o : Option Job) → producer m.survey.workflow.jobs f ≡ o
        → by_producer (option_map (job_of m.name n) o) (base_at one (n + f)) (made_for one s.survey.workflow.jobs (value one s.survey.workflow) (n + f)) ≡ by_producer o (base_at two f) (made_for two m.survey.workflow.jobs (λ g. value one s.survey.workflow (n + g)) f)
    by None e = based apply told ms r s i m p f h
    by (Some j) e = made_after m.name n f one two s.survey.workflow.jobs m.survey.workflow.jobs (value one s.survey.workflow) j refl (tooled apply told ms r s i m p f h j e)

-- ---- honesty

-- the member that has a file of the joint
located : (ms : List Member) (g : ℕ) → g < count_files ms → (i : ℕ) × (m : Member) × (f : ℕ) × (slice_get ms i ≡ Some m) × (f < files_of m) × (g ≡ first_file ms i + f)
located [] g h = absurd (omega arith)
located (x ∷ ms) g h = by (cases_lt g (files_of x)) (λ l. located ms (g - files_of x) l)
  where
    by : (g < files_of x) ⊎ (files_of x ≤ g) → (g - files_of x < count_files ms → (i : ℕ) × (m : Member) × (f : ℕ) × (slice_get ms i ≡ Some m) × (f < files_of m) × (g - files_of x ≡ first_file ms i + f))
        → (i : ℕ) × (m : Member) × (f : ℕ) × (slice_get (x ∷ ms) i ≡ Some m) × (f < files_of m) × (g ≡ first_file (x ∷ ms) i + f)
    by (inl l) rest = (0, x, g, refl, l, omega arith)
    by (inr l) rest =
        let found = rest (omega (arith, h, l)) in
        let there : g - files_of x ≡ first_file ms found.0 + found.2 = found.5 in
        (suc found.0, found.1, found.2, found.3, found.4, omega (arith, there, l))

honest_under : (told : Told) (n : List ℕ) (one two : Option (List ℕ)) (o : Option Replica) → one ≡ two → IfSome o (IsHonest told two) → IfSome (option_map (replica_of n) o) (IsHonest told one)
honest_under told n one two None same h = tt
honest_under told n one two (Some e) same h =
    subst (λ (v : Option (List ℕ)). IsHonest told v (replica_of n e)) (sym same) (λ x xs is. let held = h x xs is in record { defined = held.defined; held = held.held; checksum = held.checksum })

named_entry : (w : Workflow) (es : List Replica) (f : ℕ) → f < length w.files → entry_named es (slice_get w.files f) ≡ find (is_of (lfn_at w f)) es
named_entry w es f h = ap (entry_named es) (slice_get-get_or w.files f [] h)

no_entry : (w : Workflow) (es : List Replica) (f : ℕ) → length w.files ≤ f → entry_named es (slice_get w.files f) ≡ None
no_entry w es f h = ap (entry_named es) (past w.files f h)
  where
    past : (xs : List (List ℕ)) (i : ℕ) → length xs ≤ i → slice_get xs i ≡ None
    past [] i l = refl
    past (x ∷ xs) zero l = absurd (omega arith)
    past (x ∷ xs) (suc i) l = past xs i (omega arith)

entry_in : (ms : List Member) (r : PlanRequest) (s : Surveyed) (i : ℕ) (m : Member) → Place ms r s i m → (f : ℕ) → f < files_of m → replica_in_survey s.survey (first_file ms i + f) ≡ option_map (replica_of m.name) (replica_in_survey m.survey f)
entry_in ms r s i m p f h =
    named_entry s.survey.workflow s.survey.replicas.entries (first_file ms i + f) (in_range ms r s i m p f h)
    ∙ ap (λ (n : List ℕ). find (is_of n) s.survey.replicas.entries) (named ms r s i m p f h)
    ∙ ap (find (is_of (prefixed m.name (lfn_at m.survey.workflow f)))) p.joint.survey.replicas.entries
    ∙ replica_in ms (all_of ms r s i m p) p.are.distinct i m (lfn_at m.survey.workflow f) p.at
    ∙ ap (option_map (replica_of m.name)) (sym (named_entry m.survey.workflow m.survey.replicas.entries f h))

pub means : NumbersNames → Fitting → Determined → (ms : List Member) (r : PlanRequest) (s : Surveyed) → AreMembers ms → IsJoint ms r s → MeansMembers ms s
means numbers fitting determined ms r s are joint = record {
  owned = λ g h. owned g h;
  joined = joint_joined numbers ms (replica_view s.survey.replicas) are joint.survey.replicas.entries;
  named = λ i m f has. named ms r s i m (place i m has.member) f has.in_range;
  values = λ apply told i m f has. worth apply told i m f has.member has.in_range;
  sized = λ i m f has.
      sized_in ms (each_member ms are) are.distinct s.request s.survey.workflow.files s.survey.workflow.sizes (ap (λ (q : PlanRequest). q.sizes) joint.request) (ap (λ (q : PlanRequest). q.default_size) joint.request) joint.survey.workflow.sizes i m f has.member has.in_range (named ms r s i m (place i m has.member) f has.in_range);
  requested = λ i m f has.
      ap (λ (js : List Job). list_any (requests (first_file ms i + f)) js) joint.survey.workflow.jobs
      ∙ requested_in 0 ms (each_member ms are) i (first_file ms i) m f has.member has.in_range (omega arith);
  honest = λ apply told each g. honest apply told each g (cases_lt g (count_files ms));
}
  where
    place : (i : ℕ) (m : Member) → slice_get ms i ≡ Some m → Place ms r s i m
    place i m e = record { are = are; joint = joint; at = e }

    owned : (g : ℕ) → g < length s.survey.workflow.files → IsOwned ms g
    owned g h =
        let all : length s.survey.workflow.files ≡ count_files ms = ap length joint.survey.workflow.files ∙ count_files_in ms in
        let at = located ms g (omega (arith, h, all)) in
        record { place = at.0; owner = at.1; file = at.2; has = record { member = at.3; in_range = at.4 }; number = at.5 }

    worth : (apply : Apply) (told : Told) (i : ℕ) (m : Member) (f : ℕ) → slice_get ms i ≡ Some m → f < files_of m → value_of apply told s.request s.survey (first_file ms i + f) ≡ value_of apply told m.request m.survey f
    worth apply told i m f at h =
        let is : IsMember m = all_at IsMember ms i m (each_member ms are) at in
        determined (basis_of apply told m.request m.survey) m.survey.workflow (λ g. value_of apply told s.request s.survey (first_file ms i + g)) is.well_formed is.graph.sound (valued fitting apply told ms r s i m (place i m at)) f h

    honest : (apply : Apply) (told : Told) → ((i : ℕ) (m : Member) → slice_get ms i ≡ Some m → AreHonest apply told m.request m.survey) → (g : ℕ) → (g < count_files ms) ⊎ (count_files ms ≤ g) → IfSome (replica_in_survey s.survey g) (IsHonest told (value_of apply told s.request s.survey g))
    honest apply told each g (inl l) =
        let at = located ms g l in
        let here : first_file ms at.0 + at.2 ≡ g = sym at.5 in
        subst (λ (n : ℕ). IfSome (replica_in_survey s.survey n) (IsHonest told (value_of apply told s.request s.survey n))) here (
        subst (λ (o : Option Replica). IfSome o (IsHonest told (value_of apply told s.request s.survey (first_file ms at.0 + at.2)))) (sym (entry_in ms r s at.0 at.1 (place at.0 at.1 at.3) at.2 at.4))
        (honest_under told at.1.name _ (value_of apply told at.1.request at.1.survey at.2) (replica_in_survey at.1.survey at.2) (worth apply told at.0 at.1 at.2 at.3 at.4) (each at.0 at.1 at.3 at.2))
        )
    honest apply told each g (inr l) =
        let all : length s.survey.workflow.files ≡ count_files ms = ap length joint.survey.workflow.files ∙ count_files_in ms in
        subst (λ (o : Option Replica). IfSome o (IsHonest told (value_of apply told s.request s.survey g))) (sym (no_entry s.survey.workflow s.survey.replicas.entries g (omega (arith, l, all)))) tt
