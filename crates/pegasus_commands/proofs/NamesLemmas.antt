-- The files of a surveyed workflow have names.
use Rattle.std.proofs.Common.{◌≡◌, ℕ, ◌+◌, ◌^◌, ◌<◌, Bool, true, false, cond, not, List, [], ◌∷◌, ◌++◌, filter, length, codes, nat_lt, Option, Some, None, Result, Ok, Err, unwrap_or, All, flat_map, slice_index_or, refl, sym, ap, subst, ◌∙◌}
use Rattle.std.specs.List.{AllByRecursion}
use Rattle.std.specs.Str.{bytes_eq}
use Rattle.std.proofs.lemmas.Bool.{ltb-true}
use Rattle.std.proofs.lemmas.List.Elements.{All-from_recursion}
use Rattle.values.specs.declared.documents.Documents.{Documents}
use Rattle.serde_json.specs.Data.{Data, Items}
use Rattle.serde_json.specs.Find as find
use Rattle.peg_json.specs.Elements.{few}
use Rattle.peg_json.specs.Elements.{first_repeat, first_unknown, refused}
use Rattle.peg_json.specs.Typed.{list_or_none}
use Rattle.peg_json.specs.Path.{index_path, key_path}
use Rattle.peg_json.specs.Tree.{then_read}
use Rattle.peg_json.specs.Table.{checks, member_of}
use Rattle.peg_json.specs.Profiles.{profiles_or_none}
use Rattle.peg_json.specs.Versions.{version_at}
use Rattle.peg_json.specs.declared.read_fault.Counted.TheVariants.{Jobs, Files}
use Rattle.peg_json.specs.declared.read_fault.ReadFault.TheVariants.{DuplicateJob, UnknownJob}
use Rattle.peg_json.specs.Tree.{◌>>=◌, each_from, elements, list_among, list_in, tree_of}
use Rattle.peg_json.specs.Typed.{any_of, flag_of, if_found, name_of, nonempty_text, number_of, optional, required, text_of, where_found}
use Rattle.peg_json.specs.declared.fault.TreeFault.{TreeFault}
use Rattle.peg_json.specs.declared.fault.TreeFault.TheVariants as faults
use Rattle.peg_json.specs.declared.read_fault.ReadFault.{ReadFault}
use Rattle.values.specs.Distinct.{distinct}
use Rattle.workflow_core.specs.View.{WorkflowEntry}
use Rattle.workflow_reader.specs.Workflow.{DocumentEntry}
use Rattle.workflow_reader.specs.Linking.{files_of, lfns_in, lfns_of_uses}
use Rattle.workflow_reader.specs.Workflow.{job_of, job_rows}
use Rattle.workflow_reader.specs.Linking.{all_used_once, ids_in, ids_of, linked}
use Rattle.workflow_reader.specs.Linking.{workflow_from_tree, workflow_from_text}
use Rattle.workflow_reader.specs.Workflow.{workflow_document_of, workflow_document_rows}
use Rattle.workflow_reader.specs.Workflow.{direction_at, use_of, use_rows}
use Rattle.workflow_reader.specs.Workflow.{argument_of}
use Rattle.workflow_reader.specs.Workflow.{constant_at}
use Rattle.workflow_reader.specs.Workflow.{dependency_of}
use Rattle.workflow_reader.specs.declared.document.JobEntry.{JobEntry}
use Rattle.workflow_reader.specs.declared.document.Use.{Use}
use Rattle.plan_request.specs.declared.request.PlanRequest.{PlanRequest}
use Rattle.planner.specs.code.Course.{IsSurvey, SurveyEntry, all_listed as all_sites_listed, replicas_in, said_by, sites_in, surveyed, transformations_in, workflow_in}
use Rattle.planner.specs.code.PlanFault.{answered}
use Rattle.planner.specs.code.Deliveries as planned
use Rattle.planner.specs.code.Deliveries.{DeliversRequests}
use Rattle.planner.specs.Deliveries.{IsRequested}
use Rattle.planner.specs.declared.document.Document.TheVariants.{Workflow}
use Rattle.planner.specs.declared.inputs.Survey.{Survey}
use Rattle.plan_core.specs.declared.plan.Plan.{Plan}
use Rattle.plan_core.specs.Words.{delivers}
use Rattle.run_record.specs.Events.{Event}
use Rattle.plan_core.specs.Names.{file_name, lfn_in}
use Rattle.site_yard.specs.code.Places.{is_delivered}
use Rattle.site_yard.specs.declared.delivered.Delivered.{Delivered}

-- ---- what holds of all that a reading may give

abbrev pub IfRead : {E A : Type 0} → (A → Type 0) → Result A E → Type 0
IfRead P (Ok x) = P x
IfRead P (Err e) = Unit {0}

if_then : {E A B : Type 0} (P : B → Type 0) (r : Result A E) (f : A → Result B E) → ((x : A) → r ≡ Ok x → IfRead P (f x)) → IfRead P (r >>= f)
if_then P (Ok x) f h = h x refl
if_then P (Err e) f h = tt

if_given : {E A : Type 0} (P : A → Type 0) (r : Result A E) (x : A) → r ≡ Ok x → IfRead P r → P x
if_given P r x is h = subst (IfRead P) is h

-- ---- lists

each_reads : {B : Type 0} (P : B → Type 0) (f : List ℕ → Data → Result B TreeFault) → ((path : List ℕ) (d : Data) → IfRead P (f path d)) → (path : List ℕ) (i : ℕ) (ds : List Data) → IfRead (AllByRecursion P) (each_from f path i ds)
each_reads P f one path i [] = tt
each_reads P f one path i (d ∷ ds) =
    if_then (AllByRecursion P) (f (index_path path i) d) (λ y. each_from f path (i + 1) ds >>= λ ys. Ok (y ∷ ys))
    (λ y is. if_then (AllByRecursion P) (each_from f path (i + 1) ds) (λ ys. Ok (y ∷ ys))
    (λ ys are. (if_given P (f (index_path path i) d) y is (one (index_path path i) d), if_given (AllByRecursion P) (each_from f path (i + 1) ds) ys are (each_reads P f one path (i + 1) ds))))

list_reads : {B : Type 0} (P : B → Type 0) (f : List ℕ → Data → Result B TreeFault) → ((path : List ℕ) (d : Data) → IfRead P (f path d)) → (path : List ℕ) (d : Data) → IfRead (AllByRecursion P) (list_in f path d)
list_reads P f one path d = by (find.as_array d)
  where
    by : (o : Option Items) → IfRead (AllByRecursion P) (list_among f path o)
    by None = tt
    by (Some ds) = each_reads P f one path 0 (elements ds)

required_reads : {B : Type 0} (P : B → Type 0) (f : List ℕ → Data → Result B TreeFault) → ((path : List ℕ) (d : Data) → IfRead P (f path d)) → (path : List ℕ) (d : Data) (key : List ℕ) → IfRead P (required f path d key)
required_reads P f one path d key = by (member_of d key)
  where
    by : (o : Option Data) → IfRead P (where_found (faults.MissingKey (key_path path key)) (f (key_path path key)) o)
    by None = tt
    by (Some e) = one (key_path path key) e

listed_reads : {B : Type 0} (P : B → Type 0) (f : List ℕ → Data → Result B TreeFault) → ((path : List ℕ) (d : Data) → IfRead P (f path d)) → (path : List ℕ) (d : Data) (key : List ℕ) → IfRead (AllByRecursion P) (list_or_none f path d key)
listed_reads P f one path d key = by (member_of d key)
  where
    from : (r : Result (List _) TreeFault) → IfRead (AllByRecursion P) r → IfRead (AllByRecursion P) ((r >>= λ y. Ok (Some y)) >>= λ found. Ok (unwrap_or found []))
    from (Ok ys) h = h
    from (Err e) h = tt

    by : (o : Option Data) → IfRead (AllByRecursion P) (if_found (list_in f (key_path path key)) o >>= λ found. Ok (unwrap_or found []))
    by None = tt
    by (Some e) = from (list_in f (key_path path key) e) (list_reads P f one (key_path path key) e)

-- ---- names

abbrev pub IsNamed : List ℕ → Type 0
IsNamed name = 0 < length name

name_reads : (path : List ℕ) (d : Data) → IfRead IsNamed (name_of path d)
name_reads path d = if_then IsNamed (text_of path d) (nonempty_text path) (λ s _. by s (nat_lt 0 (length s)) refl)
  where
    by : (s : List ℕ) (b : Bool) → nat_lt 0 (length s) ≡ b → IfRead IsNamed (cond b (Ok s) (Err (faults.WrongKind path)))
    by s true is = ltb-true 0 (length s) is
    by s false is = tt

abbrev HasName : Use → Type 0
HasName u = IsNamed u.lfn

abbrev HasNames : JobEntry → Type 0
HasNames j = AllByRecursion HasName j.uses

use_reads : (path : List ℕ) (d : Data) → IfRead HasName (use_of path d)
unfolding use_of
use_reads path d =
    if_then HasName (checks path d use_rows) _ (λ u _.
    if_then HasName (required name_of path d (codes "lfn")) _ (λ lfn is.
    let named : IsNamed lfn = if_given IsNamed (required name_of path d (codes "lfn")) lfn is (required_reads IsNamed name_of name_reads path d (codes "lfn")) in
    if_then HasName (direction_at path d (codes "type")) _ (λ direction _.
    if_then HasName (optional flag_of path d (codes "stageOut")) _ (λ stage_out _.
    if_then HasName (optional flag_of path d (codes "registerReplica")) _ (λ register _.
    if_then HasName (optional (number_of (2 ^ 40)) path d (codes "size")) _ (λ size _. named))))))

job_reads : (path : List ℕ) (d : Data) → IfRead HasNames (job_of path d)
unfolding job_of
job_reads path d =
    if_then HasNames (checks path d job_rows) _ (λ u _.
    if_then HasNames (constant_at (codes "job") path d (codes "type")) _ (λ t _.
    if_then HasNames (required name_of path d (codes "id")) _ (λ id _.
    if_then HasNames (required name_of path d (codes "name")) _ (λ name _.
    if_then HasNames (optional text_of path d (codes "namespace")) _ (λ namespace _.
    if_then HasNames (optional text_of path d (codes "version")) _ (λ version _.
    if_then HasNames (list_or_none argument_of path d (codes "arguments")) _ (λ arguments _.
    if_then HasNames (list_or_none use_of path d (codes "uses")) _ (λ uses are.
    let named : AllByRecursion HasName uses = if_given (AllByRecursion HasName) (list_or_none use_of path d (codes "uses")) uses are (listed_reads HasName use_of use_reads path d (codes "uses")) in
    if_then HasNames (profiles_or_none path d (codes "profiles")) _ (λ profiles _. named)))))))))

abbrev AllHaveNames : DocumentEntry → Type 0
AllHaveNames e = AllByRecursion HasNames e.jobs

document_reads : (path : List ℕ) (d : Data) → IfRead AllHaveNames (workflow_document_of path d)
unfolding workflow_document_of
document_reads path d =
    if_then AllHaveNames (checks path d workflow_document_rows) _ (λ u _.
    if_then AllHaveNames (version_at path d (codes "pegasus")) _ (λ v _.
    if_then AllHaveNames (required text_of path d (codes "name")) _ (λ name _.
    if_then AllHaveNames (required (list_in job_of) path d (codes "jobs")) _ (λ jobs are.
    let named : AllByRecursion HasNames jobs = if_given (AllByRecursion HasNames) (required (list_in job_of) path d (codes "jobs")) jobs are (required_reads (AllByRecursion HasNames) (list_in job_of) (list_reads HasNames job_of job_reads) path d (codes "jobs")) in
    if_then AllHaveNames (list_or_none dependency_of path d (codes "jobDependencies")) _ (λ dependencies _.
    if_then AllHaveNames (optional any_of path d (codes "siteCatalog")) _ (λ sites _.
    if_then AllHaveNames (optional any_of path d (codes "replicaCatalog")) _ (λ replicas _.
    if_then AllHaveNames (optional any_of path d (codes "transformationCatalog")) _ (λ transformations _. named))))))))

-- ---- the files of all jobs

all_join : (ns ms : List (List ℕ)) → AllByRecursion IsNamed ns → AllByRecursion IsNamed ms → AllByRecursion IsNamed (ns ++ ms)
all_join [] ms one two = two
all_join (n ∷ ns) ms one two = (one.0, all_join ns ms one.1 two)

all_used : (us : List Use) → AllByRecursion HasName us → AllByRecursion IsNamed (lfns_of_uses us)
all_used [] all = tt
all_used (u ∷ us) all = (all.0, all_used us all.1)

all_listed : (js : List JobEntry) → AllByRecursion HasNames js → AllByRecursion IsNamed (flat_map lfns_in js)
all_listed [] all = tt
all_listed (j ∷ js) all = all_join (lfns_in j) (flat_map lfns_in js) (all_used j.uses all.0) (all_listed js all.1)

all_kept : (p : List ℕ → Bool) (ns : List (List ℕ)) → AllByRecursion IsNamed ns → AllByRecursion IsNamed (filter p ns)
all_kept p [] all = tt
all_kept p (n ∷ ns) all = by (p n) (all_kept p ns all.1)
  where
    by : (b : Bool) → AllByRecursion IsNamed (filter p ns) → AllByRecursion IsNamed (cond b (n ∷ filter p ns) (filter p ns))
    by true later = (all.0, later)
    by false later = later

all_distinct : (ns : List (List ℕ)) → AllByRecursion IsNamed ns → AllByRecursion IsNamed (distinct ns)
all_distinct [] all = tt
all_distinct (n ∷ ns) all = (all.0, all_kept (λ m. not (bytes_eq m n)) (distinct ns) (all_distinct ns all.1))

-- ---- the whole document, and a survey

abbrev FilesNamed : WorkflowEntry → Type 0
FilesNamed w = AllByRecursion IsNamed w.files

linked_reads : (e : DocumentEntry) → AllHaveNames e → IfRead FilesNamed (linked e)
unfolding linked
linked_reads e all =
    let named : AllByRecursion IsNamed (files_of e.jobs) = all_distinct (flat_map lfns_in e.jobs) (all_listed e.jobs all) in
    if_then FilesNamed (few Jobs 10000 (length e.jobs)) _ (λ few_jobs _.
    if_then FilesNamed (few Files 50000 (length (files_of e.jobs))) _ (λ few_files _.
    if_then FilesNamed (refused DuplicateJob (first_repeat bytes_eq [] (ids_of e.jobs))) _ (λ distinct_ids _.
    if_then FilesNamed (all_used_once e.jobs) _ (λ distinct_uses _.
    if_then FilesNamed (refused UnknownJob (first_unknown (ids_of e.jobs) (ids_in e.dependencies))) _ (λ known_ids _. named)))))

then_reads : {A B : Type 0} (P : B → Type 0) (r : Result A TreeFault) (f : A → Result B ReadFault) → ((x : A) → r ≡ Ok x → IfRead P (f x)) → IfRead P (then_read r f)
then_reads P (Ok x) f h = h x refl
then_reads P (Err e) f h = tt

workflow_reads : (bytes : List ℕ) → IfRead FilesNamed (workflow_from_text bytes)
unfolding workflow_from_text workflow_from_tree
workflow_reads bytes =
    then_reads FilesNamed (tree_of bytes) (workflow_from_tree []) (λ d _.
    then_reads FilesNamed (workflow_document_of [] d) linked (λ e is. linked_reads e (if_given AllHaveNames (workflow_document_of [] d) e is (document_reads [] d))))

answered_reads : (r : Result WorkflowEntry ReadFault) → IfRead FilesNamed r → IfRead FilesNamed (answered Workflow r)
answered_reads (Ok w) h = h
answered_reads (Err e) h = tt

abbrev SaidNamed : SurveyEntry → Type 0
SaidNamed s = FilesNamed s.workflow

survey_reads : (r : PlanRequest) (d : Documents) → IfRead SaidNamed (surveyed r d)
unfolding surveyed
survey_reads r d =
    if_then SaidNamed (workflow_in d.workflow) _ (λ w is.
    let named : FilesNamed w = if_given FilesNamed (workflow_in d.workflow) w is (answered_reads (workflow_from_text d.workflow) (workflow_reads d.workflow)) in
    if_then SaidNamed (sites_in d w) _ (λ sites _.
    if_then SaidNamed (replicas_in d w) _ (λ replicas _.
    if_then SaidNamed (transformations_in d w) _ (λ transformations _.
    if_then SaidNamed (all_sites_listed sites r.execute) _ (λ listed _. named)))))

-- no file of a surveyed workflow has an empty name
pub surveyed_names : (r : PlanRequest) (d : Documents) (s : Survey) → IsSurvey r d s → All (λ (name : List ℕ). 0 < length name) s.workflow.files
surveyed_names r d s is = All-from_recursion IsNamed s.workflow.files (if_given SaidNamed (surveyed r d) (said_by s.workflow s.sites s.replicas s.transformations) is.says (survey_reads r d))

-- ---- the deliveries of a record

names_at : (p : Plan) (s : Survey) (f : ℕ) → planned.IsNamed s p f → file_name p f ≡ slice_index_or s.workflow.files f []
unfolding file_name
names_at p s f named = ap lfn_in named.is ∙ named.named

-- No file that a record delivers has an empty name.
pub deliveries_named : (q : PlanRequest) (s : Survey) (p : Plan) (r : List Event) (ds : List Delivered) → All (λ (name : List ℕ). 0 < length name) s.workflow.files → DeliversRequests q s p
    → ((f : ℕ) → is_delivered p r f ≡ true → (t : ℕ) × (delivers p t f ≡ true)) → All (λ (d : Delivered). is_delivered p r d.file.0 ≡ true) ds → All (λ (d : Delivered). 0 < length (file_name p d.file.0)) ds
deliveries_named q s p r ds names requests only all = λ k d low. by (slice_index_or ds k d).file.0 (all k d low)
  where
    by : (f : ℕ) → is_delivered p r f ≡ true → 0 < length (file_name p f)
    by f is =
        let asked : IsRequested s f = requests.requested f (only f is) in
        subst (λ (name : List ℕ). 0 < length name) (sym (names_at p s f (requests.named f asked.in_range))) (names f [] asked.in_range)
