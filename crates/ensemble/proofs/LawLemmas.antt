-- What the joint says under a member's name is what the member says.
use Rattle.std.proofs.Common.{◌≡◌, ℕ, zero, suc, ◌+◌, ◌<◌, Bool, true, false, ◌||◌, List, [], ◌∷◌, ◌++◌, length, map, get_or, refl, sym, ap, subst, ◌∙◌, inl, inr, arith}
use Rattle.std.specs.Prelude.{Option, Some, None, find, option_map, slice_get}
use Rattle.std.specs.List.{AllByRecursion, list_any}
use Rattle.std.specs.Map.{lookup}
use Rattle.std.specs.Option.{option_or}
use Rattle.std.specs.Str.{bytes_eq}
use Rattle.std.proofs.Math.Bool.{or-false}
use Rattle.std.proofs.Math.ListN.{get_or-append}
use Rattle.std.proofs.lemmas.List.{get_or-append-add, get_or-map, length-map, map-append}
use Rattle.std.proofs.lemmas.List.Folds.{find-append, list_any-append}
use Rattle.workflow_core.specs.declared.workflow.Job.{Job}
use Rattle.workflow_core.specs.Requested.{requests}
use Rattle.workflow_core.specs.code.WellFormed.{are_distinct}
use Rattle.replica_catalog.specs.declared.catalog.Replica.{Replica}
use Rattle.replica_catalog.specs.Lookup.{is_of}
use Rattle.plan_request.specs.declared.request.ToolOf.{ToolOf}
use Rattle.plan_request.specs.JobTools.{named_tool, tool_of}
use Rattle.dependency_graph.specs.Edges.{producer}
use Rattle.ensemble.specs.declared.member.Member.{Member}
use Rattle.ensemble.specs.Catalogues.{joint_replicas}
use Rattle.ensemble.specs.Entries.{replica_of}
use Rattle.ensemble.specs.Jobs.{job_of}
use Rattle.ensemble.specs.Law.{first_file}
use Rattle.ensemble.specs.Member.{IsMember, count_files, files_of}
use Rattle.ensemble.specs.Prefix.{prefixed}
use Rattle.ensemble.specs.Requests.{joint_tools, tools_of}
use Rattle.ensemble.specs.Workflows.{joint_files, joint_jobs}
use Rattle.ensemble.proofs.DistinctLemmas.{all_unmapped, first_apart, rest_distinct}
use Rattle.ensemble.proofs.LookupLemmas.{found_tool, lookup_joined, name_of, or_nothing, other_replica, other_tool, own_replica, own_tool}
use Rattle.ensemble.proofs.PrefixLemmas.{not_same}
use Rattle.ensemble.proofs.ProducerLemmas.{none_makes, none_requests, producer_after, producer_joined, requested_after}
use Rattle.ensemble.proofs.WithinLemmas.{own_within, rest_within}

pub all_at : (P : Member → Type 0) (ms : List Member) (i : ℕ) (m : Member) → AllByRecursion P ms → slice_get ms i ≡ Some m → P m
all_at P [] i m all e = absurd cc
all_at P (x ∷ ms) zero m all e = let same : x ≡ m = cc in subst P same all.0
all_at P (x ∷ ms) (suc i) m all e = all_at P ms i m all.1 e

pub first_below : (ms : List Member) (i : ℕ) (m : Member) (f : ℕ) → slice_get ms i ≡ Some m → f < files_of m → first_file ms i + f < count_files ms
first_below [] i m f e h = absurd cc
first_below (x ∷ ms) zero m f e h = let same : x ≡ m = cc in let long : files_of x ≡ files_of m = ap files_of same in omega (arith, h, long)
first_below (x ∷ ms) (suc i) m f e h = let rest = first_below ms i m f e h in omega (arith, rest)

-- ---- who makes a file

first_makes : (k : ℕ) (x : Member) (ms : List Member) → AllByRecursion IsMember (x ∷ ms) → (f : ℕ) → f < files_of x → producer (joint_jobs k (x ∷ ms)) (k + f) ≡ option_map (job_of x.name k) (producer x.survey.workflow.jobs f)
first_makes k x ms all f h =
    producer_joined (map (job_of x.name k) x.survey.workflow.jobs) (joint_jobs (k + files_of x) ms) (k + f)
    ∙ ap (λ (o : Option Job). option_or o (producer (joint_jobs (k + files_of x) ms) (k + f))) (producer_after x.name k f x.survey.workflow.jobs)
    ∙ ap (λ (o : Option Job). option_or (option_map (job_of x.name k) (producer x.survey.workflow.jobs f)) o) (none_makes (k + files_of x) (k + files_of x + count_files ms) (k + f) (joint_jobs (k + files_of x) ms) (rest_within (k + files_of x) (k + files_of x) (k + files_of x + count_files ms) ms all.1 (omega arith) (omega arith)) (inl (omega (arith, h))))
    ∙ or_nothing (option_map (job_of x.name k) (producer x.survey.workflow.jobs f))

pub producer_in : (k : ℕ) (ms : List Member) → AllByRecursion IsMember ms → (i n : ℕ) (m : Member) (f : ℕ) → slice_get ms i ≡ Some m → f < files_of m → n ≡ k + first_file ms i
    → producer (joint_jobs k ms) (n + f) ≡ option_map (job_of m.name n) (producer m.survey.workflow.jobs f)
producer_in k [] all i n m f e h at = absurd cc
producer_in k (x ∷ ms) all zero n m f e h at =
    let same : x ≡ m = cc in
    let here : n ≡ k = omega (arith, at) in
    let long : files_of x ≡ files_of m = ap files_of same in
    ap (λ (t : ℕ). producer (joint_jobs k (x ∷ ms)) (t + f)) here
    ∙ first_makes k x ms all f (omega (arith, h, long))
    ∙ ap (λ (y : Member). option_map (job_of y.name k) (producer y.survey.workflow.jobs f)) same
    ∙ ap (λ (t : ℕ). option_map (job_of m.name t) (producer m.survey.workflow.jobs f)) (sym here)
producer_in k (x ∷ ms) all (suc i) n m f e h at =
    producer_joined (map (job_of x.name k) x.survey.workflow.jobs) (joint_jobs (k + files_of x) ms) (n + f)
    ∙ ap (λ (o : Option Job). option_or o (producer (joint_jobs (k + files_of x) ms) (n + f))) (none_makes k (k + files_of x) (n + f) (map (job_of x.name k) x.survey.workflow.jobs) (own_within k k (k + files_of x) x all.0 (omega arith) (omega arith)) (inr (omega (arith, at))))
    ∙ producer_in (k + files_of x) ms all.1 i n m f e h (omega (arith, at))

-- ---- which files are requested

first_requests : (k : ℕ) (x : Member) (ms : List Member) → AllByRecursion IsMember (x ∷ ms) → (f : ℕ) → f < files_of x → list_any (requests (k + f)) (joint_jobs k (x ∷ ms)) ≡ list_any (requests f) x.survey.workflow.jobs
first_requests k x ms all f h =
    list_any-append (requests (k + f)) (map (job_of x.name k) x.survey.workflow.jobs) (joint_jobs (k + files_of x) ms)
    ∙ ap (λ (b : Bool). b || list_any (requests (k + f)) (joint_jobs (k + files_of x) ms)) (requested_after x.name k f x.survey.workflow.jobs)
    ∙ ap (λ (b : Bool). list_any (requests f) x.survey.workflow.jobs || b) (none_requests (k + files_of x) (k + files_of x + count_files ms) (k + f) (joint_jobs (k + files_of x) ms) (rest_within (k + files_of x) (k + files_of x) (k + files_of x + count_files ms) ms all.1 (omega arith) (omega arith)) (inl (omega (arith, h))))
    ∙ or-false (list_any (requests f) x.survey.workflow.jobs)

pub requested_in : (k : ℕ) (ms : List Member) → AllByRecursion IsMember ms → (i n : ℕ) (m : Member) (f : ℕ) → slice_get ms i ≡ Some m → f < files_of m → n ≡ k + first_file ms i
    → list_any (requests (n + f)) (joint_jobs k ms) ≡ list_any (requests f) m.survey.workflow.jobs
requested_in k [] all i n m f e h at = absurd cc
requested_in k (x ∷ ms) all zero n m f e h at =
    let same : x ≡ m = cc in
    let here : n ≡ k = omega (arith, at) in
    let long : files_of x ≡ files_of m = ap files_of same in
    ap (λ (t : ℕ). list_any (requests (t + f)) (joint_jobs k (x ∷ ms))) here
    ∙ first_requests k x ms all f (omega (arith, h, long))
    ∙ ap (λ (y : Member). list_any (requests f) y.survey.workflow.jobs) same
requested_in k (x ∷ ms) all (suc i) n m f e h at =
    list_any-append (requests (n + f)) (map (job_of x.name k) x.survey.workflow.jobs) (joint_jobs (k + files_of x) ms)
    ∙ ap (λ (b : Bool). b || list_any (requests (n + f)) (joint_jobs (k + files_of x) ms)) (none_requests k (k + files_of x) (n + f) (map (job_of x.name k) x.survey.workflow.jobs) (own_within k k (k + files_of x) x all.0 (omega arith) (omega arith)) (inr (omega (arith, at))))
    ∙ requested_in (k + files_of x) ms all.1 i n m f e h (omega (arith, at))

-- ---- names

pub file_in : (ms : List Member) (i n : ℕ) (m : Member) (f : ℕ) → slice_get ms i ≡ Some m → f < files_of m → n ≡ first_file ms i + f → get_or (joint_files ms) n [] ≡ prefixed m.name (get_or m.survey.workflow.files f [])
file_in [] i n m f e h at = absurd cc
file_in (x ∷ ms) zero n m f e h at =
    let same : x ≡ m = cc in
    let here : n ≡ f = omega (arith, at) in
    let long : files_of x ≡ files_of m = ap files_of same in
    let own = length-map x.survey.workflow.files (prefixed x.name) in
    ap (λ (t : ℕ). get_or (joint_files (x ∷ ms)) t []) here
    ∙ get_or-append (map (prefixed x.name) x.survey.workflow.files) (joint_files ms) [] f (omega (arith, h, long, own))
    ∙ get_or-map (prefixed x.name) x.survey.workflow.files f [] [] (omega (arith, h, long))
    ∙ ap (λ (y : Member). prefixed y.name (get_or y.survey.workflow.files f [])) same
file_in (x ∷ ms) (suc i) n m f e h at =
    let own = length-map x.survey.workflow.files (prefixed x.name) in
    let there : n ≡ length (map (prefixed x.name) x.survey.workflow.files) + (first_file ms i + f) = omega (arith, at, own) in
    ap (λ (t : ℕ). get_or (joint_files (x ∷ ms)) t []) there
    ∙ get_or-append-add (map (prefixed x.name) x.survey.workflow.files) (joint_files ms) (first_file ms i + f) []
    ∙ file_in ms i (first_file ms i + f) m f e h refl

-- ---- replicas and tools

-- the first member's name differs from each later one's
abbrev pub AreLater : Member → List Member → Type 0
AreLater x ms = AllByRecursion (λ (m : Member). bytes_eq m.name x.name ≡ false) ms

abbrev pub names_in : List Member → List (List ℕ)
names_in ms = map (λ (m : Member). m.name) ms

pub later : (x : Member) (ms : List Member) → are_distinct bytes_eq (names_in (x ∷ ms)) ≡ true → AreLater x ms
later x ms once = all_unmapped (λ n. bytes_eq n x.name ≡ false) (λ (m : Member). m.name) ms (first_apart bytes_eq x.name (names_in ms) once)

no_replica : (x : Member) (lfn : List ℕ) → IsMember x → (ms : List Member) → AllByRecursion IsMember ms → AreLater x ms → find (is_of (prefixed x.name lfn)) (joint_replicas ms) ≡ None
no_replica x lfn is [] all differ = refl
no_replica x lfn is (m ∷ ms) all differ =
    find-append (is_of (prefixed x.name lfn)) (map (replica_of m.name) m.survey.replicas.entries) (joint_replicas ms)
    ∙ ap (λ (o : Option Replica). option_or o (find (is_of (prefixed x.name lfn)) (joint_replicas ms))) (other_replica x.name m.name lfn is.plain_name all.0.plain_name (not_same m.name x.name differ.0) m.survey.replicas.entries)
    ∙ no_replica x lfn is ms all.1 differ.1

pub replica_in : (ms : List Member) → AllByRecursion IsMember ms → are_distinct bytes_eq (names_in ms) ≡ true → (i : ℕ) (m : Member) (lfn : List ℕ) → slice_get ms i ≡ Some m
    → find (is_of (prefixed m.name lfn)) (joint_replicas ms) ≡ option_map (replica_of m.name) (find (is_of lfn) m.survey.replicas.entries)
replica_in [] all once i m lfn e = absurd cc
replica_in (x ∷ ms) all once zero m lfn e =
    let same : x ≡ m = cc in
    subst (λ (y : Member). find (is_of (prefixed y.name lfn)) (joint_replicas (x ∷ ms)) ≡ option_map (replica_of y.name) (find (is_of lfn) y.survey.replicas.entries)) same (
    find-append (is_of (prefixed x.name lfn)) (map (replica_of x.name) x.survey.replicas.entries) (joint_replicas ms)
    ∙ ap (λ (o : Option Replica). option_or o (find (is_of (prefixed x.name lfn)) (joint_replicas ms))) (own_replica x.name lfn all.0.plain_name x.survey.replicas.entries)
    ∙ ap (λ (o : Option Replica). option_or (option_map (replica_of x.name) (find (is_of lfn) x.survey.replicas.entries)) o) (no_replica x lfn all.0 ms all.1 (later x ms once))
    ∙ or_nothing (option_map (replica_of x.name) (find (is_of lfn) x.survey.replicas.entries))
    )
replica_in (x ∷ ms) all once (suc i) m lfn e =
    let is : IsMember m = all_at IsMember ms i m all.1 e in
    let differ : bytes_eq m.name x.name ≡ false = all_at (λ (y : Member). bytes_eq y.name x.name ≡ false) ms i m (later x ms once) e in
    find-append (is_of (prefixed m.name lfn)) (map (replica_of x.name) x.survey.replicas.entries) (joint_replicas ms)
    ∙ ap (λ (o : Option Replica). option_or o (find (is_of (prefixed m.name lfn)) (joint_replicas ms))) (other_replica m.name x.name lfn is.plain_name all.0.plain_name differ x.survey.replicas.entries)
    ∙ replica_in ms all.1 (rest_distinct bytes_eq x.name (names_in ms) once) i m lfn e

tools_joined : (t : List ℕ) (xs ys : List ToolOf) → found_tool (xs ++ ys) t ≡ option_or (found_tool xs t) (found_tool ys t)
tools_joined t xs ys = ap (lookup (bytes_eq t)) (map-append named_tool xs ys) ∙ lookup_joined (bytes_eq t) (map named_tool xs) (map named_tool ys)

pub tool_in : (ms : List Member) → AllByRecursion IsMember ms → are_distinct bytes_eq (names_in ms) ≡ true → (i : ℕ) (m : Member) (f : ℕ) (j : Job) → slice_get ms i ≡ Some m → producer m.survey.workflow.jobs f ≡ Some j
    → found_tool (joint_tools ms) (prefixed m.name (name_of j)) ≡ Some (tool_of m.request.tools (name_of j))
tool_in [] all once i m f j e made = absurd cc
tool_in (x ∷ ms) all once zero m f j e made =
    let same : x ≡ m = cc in
    let own : producer x.survey.workflow.jobs f ≡ Some j = ap (λ (y : Member). producer y.survey.workflow.jobs f) same ∙ made in
    subst (λ (y : Member). found_tool (joint_tools (x ∷ ms)) (prefixed y.name (name_of j)) ≡ Some (tool_of y.request.tools (name_of j))) same (
    tools_joined (prefixed x.name (name_of j)) (tools_of x) (joint_tools ms)
    ∙ ap (λ (o : Option (List ℕ)). option_or o (found_tool (joint_tools ms) (prefixed x.name (name_of j)))) (own_tool x.name x.request.tools all.0.plain_name x.survey.workflow.jobs f j own)
    )
tool_in (x ∷ ms) all once (suc i) m f j e made =
    let is : IsMember m = all_at IsMember ms i m all.1 e in
    let differ : bytes_eq m.name x.name ≡ false = all_at (λ (y : Member). bytes_eq y.name x.name ≡ false) ms i m (later x ms once) e in
    tools_joined (prefixed m.name (name_of j)) (tools_of x) (joint_tools ms)
    ∙ ap (λ (o : Option (List ℕ)). option_or o (found_tool (joint_tools ms) (prefixed m.name (name_of j)))) (other_tool m.name x.name (name_of j) x.request.tools is.plain_name all.0.plain_name differ x.survey.workflow.jobs)
    ∙ tool_in ms all.1 (rest_distinct bytes_eq x.name (names_in ms) once) i m f j e made
