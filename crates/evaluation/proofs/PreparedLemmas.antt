-- What sources, tools and bases come to.
use Rattle.std.proofs.Common.{◌≡◌, ℕ, zero, suc, ◌+◌, ◌<◌, Bool, true, false, cond, List, [], ◌∷◌, length, refl, sym, ap, subst, ◌∙◌, arith}
use Rattle.std.specs.Prelude.{Option, Some, None, is_some, Result, Ok, Err, slice_index_or}
use Rattle.std.specs.Str.{bytes_eq}
use Rattle.sha2.specs.Sha256.{sha256}
use Rattle.peg_json.specs.Tree.{◌>>=◌}
use Rattle.outside.specs.declared.counts.Counts.{Counts}
use Rattle.outside.specs.declared.host.HostFault.{HostFault}
use Rattle.outside.specs.declared.host.HostFault.TheVariants as host_faults
use Rattle.outside.specs.declared.store.Store.{Store}
use Rattle.workflow_core.specs.declared.workflow.Job.{Job}
use Rattle.workflow_core.specs.declared.workflow.Workflow.{Workflow}
use Rattle.replica_catalog.specs.declared.catalog.Replica.{Replica}
use Rattle.dependency_graph.specs.Edges.{producer}
use Rattle.dependency_graph.specs.code.Value.{AllBased}
use Rattle.dependency_graph.specs.Value.{basis}
use Rattle.values.specs.Apply.{Apply}
use Rattle.plan_request.specs.JobTools.{tool_of}
use Rattle.plan_request.specs.declared.request.ToolOf.{ToolOf}
use Rattle.evaluation.specs.Bases.{Bases, Continues, ReadsBases, after_base, base_answer, checked}
use Rattle.evaluation.specs.Evaluating.{prepared}
use Rattle.evaluation.specs.JobTools.{known_tool, tools_of}
use Rattle.evaluation.specs.Sources.{registered, source_if_base, source_of, sources_from, sources_of}
use Rattle.evaluation.specs.declared.evaluating.Prepared.{Prepared}
use Rattle.evaluation.specs.declared.fault.EvaluationFault.{EvaluationFault}
use Rattle.evaluation.specs.declared.fault.EvaluationFault.TheVariants.{NoReplica, ToolUnknown, Failed}
use Rattle.run_record.specs.declared.run_fault.RunFault.TheVariants.{ReplicaAbsent, ReplicaTooLong, ChecksumDiffers, HostFailed, Memory}
use Rattle.evaluation.specs.declared.sources.Source.{Source}
use Rattle.evaluation.specs.Moments.{Subject}
use Rattle.evaluation.proofs.RestLemmas.{both_came}

-- ---- the answers that refuse

abbrev pub IsRefused : EvaluationFault → Type 0
IsRefused (NoReplica lfn) = Unit {0}
IsRefused (ToolUnknown id tool) = Unit {0}
IsRefused _ = ⊥

as_refused : {A : Type 0} (o answer : EvaluationFault) → IsRefused o → ◌≡◌ {A = Result A EvaluationFault} (Err o) (Err answer) → IsRefused answer
as_refused o answer h e = let same : o ≡ answer = cc in subst IsRefused same h

source_refuses : (w : Workflow) (es : List Replica) (f : ℕ) (lfn : List ℕ) (answer : EvaluationFault) → source_if_base w es f lfn ≡ Err answer → IsRefused answer
source_refuses w es f lfn answer e = by (is_some (producer w.jobs f)) (source_of es lfn) e
  where
    by : (b : Bool) (o : Option Source) → cond b (Ok None) (registered lfn o) ≡ Err answer → IsRefused answer
    by true o e = absurd cc
    by false None e = as_refused _ answer tt e
    by false (Some x) e = absurd cc

-- one step of two
step_refuses : {A B : Type 0} (m : Result A EvaluationFault) (f : A → Result B EvaluationFault) (answer : EvaluationFault) → ((o : EvaluationFault) → m ≡ Err o → IsRefused o) → ((a : A) → f a ≡ Err answer → IsRefused answer) → (m >>= f) ≡ Err answer → IsRefused answer
step_refuses (Ok a) f answer first next e = next a e
step_refuses (Err o) f answer first next e = as_refused o answer (first o refl) e

sources_refuse : (w : Workflow) (es : List Replica) (f : ℕ) (lfns : List (List ℕ)) (answer : EvaluationFault) → sources_from w es f lfns ≡ Err answer → IsRefused answer
sources_refuse w es f [] answer e = absurd cc
sources_refuse w es f (lfn ∷ lfns) answer e =
    step_refuses (source_if_base w es f lfn) _ answer (λ o h. source_refuses w es f lfn o h)
    (λ a h. step_refuses (sources_from w es (suc f) lfns) _ answer (λ o k. sources_refuse w es (suc f) lfns o k) (λ rest k. absurd cc) h) e

tool_refuses : (known : List ℕ → Bool) (j : Job) (tool : List ℕ) (answer : EvaluationFault) → known_tool known j tool ≡ Err answer → IsRefused answer
tool_refuses known j tool answer e = by (known tool) e
  where
    by : (b : Bool) → cond b (Ok tool) (Err (ToolUnknown j.id tool)) ≡ Err answer → IsRefused answer
    by true e = absurd cc
    by false e = as_refused _ answer tt e

tools_refuse : (known : List ℕ → Bool) (stated : List ToolOf) (js : List Job) (answer : EvaluationFault) → tools_of known stated js ≡ Err answer → IsRefused answer
tools_refuse known stated [] answer e = absurd cc
tools_refuse known stated (j ∷ js) answer e =
    step_refuses (known_tool known j (tool_of stated j.transformation.name)) _ answer (λ o h. tool_refuses known j (tool_of stated j.transformation.name) o h)
    (λ a h. step_refuses (tools_of known stated js) _ answer (λ o k. tools_refuse known stated js o k) (λ rest k. absurd cc) h) e

pub only_refuses : (known : List ℕ → Bool) (s : Subject) (answer : EvaluationFault) → prepared known s ≡ Err answer → IsRefused answer
unfolding sources_of
only_refuses known s answer e =
    step_refuses (sources_from s.workflow s.replicas 0 s.workflow.files) _ answer (λ o h. sources_refuse s.workflow s.replicas 0 s.workflow.files o h)
    (λ a h. step_refuses (tools_of known s.tools s.workflow.jobs) _ answer (λ o k. tools_refuse known s.tools s.workflow.jobs o k) (λ rest k. absurd cc) h) e

-- ---- how many there are, and which

many_tools : (known : List ℕ → Bool) (stated : List ToolOf) (js : List Job) (tools : List (List ℕ)) → tools_of known stated js ≡ Ok tools → length tools ≡ length js
many_tools known stated [] tools e = let same : [] ≡ tools = cc in ap length (sym same)
many_tools known stated (j ∷ js) tools e =
    let first = both_came (known_tool known j (tool_of stated j.transformation.name)) _ tools e in
    let later = both_came (tools_of known stated js) _ tools first.2 in
    let same : first.0 ∷ later.0 ≡ tools = let k = later.2 in cc in
    ap length (sym same) ∙ ap suc (many_tools known stated js later.0 later.1)

-- a file that no job makes has its source
there_if_base : (w : Workflow) (es : List Replica) (f : ℕ) (lfn : List ℕ) (x : Option Source) → source_if_base w es f lfn ≡ Ok x → is_some (producer w.jobs f) ≡ false → is_some x ≡ true
there_if_base w es f lfn x e none = by (is_some (producer w.jobs f)) (source_of es lfn) e none
  where
    by : (b : Bool) (o : Option Source) → cond b (Ok None) (registered lfn o) ≡ Ok x → b ≡ false → is_some x ≡ true
    by true o e k = absurd cc
    by false None e k = absurd cc
    by false (Some y) e k = let same : Some y ≡ x = cc in ap is_some (sym same)

pub record AreSources (w : Workflow) (es : List Replica) (f : ℕ) (lfns : List (List ℕ)) (sources : List (Option Source)) : Type 0 where
  pub many : length sources ≡ length lfns
  pub there : (k : ℕ) → k < length lfns → is_some (producer w.jobs (f + k)) ≡ false → is_some (slice_index_or sources k None) ≡ true

are_sources : (w : Workflow) (es : List Replica) (f : ℕ) (lfns : List (List ℕ)) (sources : List (Option Source)) → sources_from w es f lfns ≡ Ok sources → AreSources w es f lfns sources
are_sources w es f [] sources e = let same : [] ≡ sources = cc in record { many = ap length (sym same); there = λ k h. absurd (omega arith) }
are_sources w es f (lfn ∷ lfns) sources e =
    let first = both_came (source_if_base w es f lfn) _ sources e in
    let later = both_came (sources_from w es (suc f) lfns) _ sources first.2 in
    let rest = are_sources w es (suc f) lfns later.0 later.1 in
    let same : first.0 ∷ later.0 ≡ sources = let k = later.2 in cc in
    subst (AreSources w es f (lfn ∷ lfns)) same (record { many = ap suc rest.many; there = at first.0 later.0 first.1 rest.there })
  where
    at : (x : Option Source) (xs : List (Option Source)) → source_if_base w es f lfn ≡ Ok x → ((k : ℕ) → k < length lfns → is_some (producer w.jobs (suc f + k)) ≡ false → is_some (slice_index_or xs k None) ≡ true)
        → (k : ℕ) → k < length (lfn ∷ lfns) → is_some (producer w.jobs (f + k)) ≡ false → is_some (slice_index_or (x ∷ xs) k None) ≡ true
    at x xs is later zero h none = let here : f + 0 ≡ f = omega arith in there_if_base w es f lfn x is (ap (λ (n : ℕ). is_some (producer w.jobs n)) (sym here) ∙ none)
    at x xs is later (suc k) h none = let next : suc f + k ≡ f + suc k = omega arith in later k (omega arith) (ap (λ (n : ℕ). is_some (producer w.jobs n)) next ∙ none)

-- ---- bases

pub record AreBases (sources : List (Option Source)) (bases : Bases) : Type 0 where
  pub many : length bases ≡ length sources
  pub there : (k : ℕ) → is_some (slice_index_or bases k None) ≡ is_some (slice_index_or sources k None)

-- one base more
cons_bases : (source : Option Source) (base : Option (List ℕ)) (sources : List (Option Source)) (bases all : Bases) → is_some base ≡ is_some source → AreBases sources bases → base ∷ bases ≡ all → AreBases (source ∷ sources) all
cons_bases source base sources bases all alike rest same = subst (AreBases (source ∷ sources)) same (record { many = ap suc rest.many; there = at })
  where
    at : (k : ℕ) → is_some (slice_index_or (base ∷ bases) k None) ≡ is_some (slice_index_or (source ∷ sources) k None)
    at zero = alike
    at (suc k) = rest.there k

-- the bases that came after one
rest_came : (source : Option Source) (base : Option (List ℕ)) (sources : List (Option Source)) (all : Bases) (rest : Result Bases EvaluationFault) → is_some base ≡ is_some source
    → ((bases : Bases) → rest ≡ Ok bases → AreBases sources bases) → ◌≡◌ {A = Result Bases EvaluationFault} (Ok all) (after_base base rest) → AreBases (source ∷ sources) all
rest_came source base sources all (Ok bases) alike later e = cons_bases source base sources bases all alike (later bases refl) (let same : base ∷ bases ≡ all = cc in same)
rest_came source base sources all (Err answer) alike later e = absurd cc

pub are_bases : (told : Option Store) (sources : List (Option Source)) (before after : Counts) (r : Result Bases EvaluationFault) → ReadsBases told sources before after r → (bases : Bases) → r ≡ Ok bases → AreBases sources bases
are_bases told [] before after r reads bases is =
    let same : [] ≡ bases = (let e : ◌≡◌ {A = Result Bases EvaluationFault} (Ok []) (Ok bases) = sym reads.1 ∙ is in cc) in
    subst (AreBases []) same (record { many = refl; there = λ k. refl })
are_bases told (None ∷ ss) before after r reads bases is = rest_came None None ss bases reads.0 refl (λ bs e. are_bases told ss before after reads.0 reads.1 bs e) (sym is ∙ reads.2)
are_bases told (Some s ∷ ss) before after r reads bases is = by (base_answer s reads.0) reads.3 (λ x later bs e. are_bases told ss reads.1 after x later bs e)
  where
    by : (a : Result (List ℕ) EvaluationFault) → Continues (λ c x. ReadsBases told ss c after x) a reads.1 after r
        → ((x : Result Bases EvaluationFault) → ReadsBases told ss reads.1 after x → (bs : Bases) → x ≡ Ok bs → AreBases ss bs) → AreBases (Some s ∷ ss) bases
    by (Ok bytes) goes more = rest_came (Some s) (Some bytes) ss bases goes.0 refl (λ bs e. more goes.0 goes.1 bs e) (sym is ∙ goes.2)
    by (Err answer) goes more = absurd (let e : ◌≡◌ {A = Result Bases EvaluationFault} (Err answer) (Ok bases) = sym goes.1 ∙ is in cc)

-- ---- what an evaluation starts from

pub record IsReady (known : List ℕ → Bool) (s : Subject) (from : Prepared) : Type 0 where
  pub tools : length from.tools ≡ length s.workflow.jobs
  pub sources : AreSources s.workflow s.replicas 0 s.workflow.files from.sources

pub is_ready : (known : List ℕ → Bool) (s : Subject) (from : Prepared) → prepared known s ≡ Ok from → IsReady known s from
unfolding sources_of
is_ready known s from e =
    let first = both_came (sources_from s.workflow s.replicas 0 s.workflow.files) _ from e in
    let later = both_came (tools_of known s.tools s.workflow.jobs) _ from first.2 in
    let same : ◌≡◌ {A = Prepared} (record { sources = first.0; tools = later.0 }) from = (let k = later.2 in cc) in
    subst (IsReady known s) same (record { tools = many_tools known s.tools s.workflow.jobs later.0 later.1; sources = are_sources s.workflow s.replicas 0 s.workflow.files first.0 first.1 })

pub all_based : (known : List ℕ → Bool) (s : Subject) (from : Prepared) (apply : Apply) (tools : List (List ℕ)) (bases : Bases) → IsReady known s from → AreBases from.sources bases → AllBased (basis apply tools bases) s.workflow
all_based known s from apply tools bases ready are = λ f h none.
    let here : f ≡ 0 + f = omega arith in
    are.there f ∙ ready.sources.there f h (ap (λ (n : ℕ). is_some (producer s.workflow.jobs n)) (sym here) ∙ none)

-- ---- the faults of bases

abbrev pub IsBaseFault : EvaluationFault → Type 0
IsBaseFault (Failed Memory) = Unit {0}
IsBaseFault (Failed (ReplicaAbsent lfn pfn)) = Unit {0}
IsBaseFault (Failed (ReplicaTooLong lfn limit n)) = Unit {0}
IsBaseFault (Failed (ChecksumDiffers lfn wanted got)) = Unit {0}
IsBaseFault (Failed (HostFailed task)) = Unit {0}
IsBaseFault _ = ⊥

as_base_fault : {A : Type 0} (o answer : EvaluationFault) → IsBaseFault o → ◌≡◌ {A = Result A EvaluationFault} (Err o) (Err answer) → IsBaseFault answer
as_base_fault o answer h e = let same : o ≡ answer = cc in subst IsBaseFault same h

checked_fails : (s : Source) (bytes : List ℕ) (c : Option (List ℕ)) (answer : EvaluationFault) → checked s bytes c ≡ Err answer → IsBaseFault answer
checked_fails s bytes None answer e = absurd cc
checked_fails s bytes (Some wanted) answer e = by (bytes_eq (sha256 bytes) wanted) e
  where
    by : (b : Bool) → cond b (Ok bytes) (Err (Failed (ChecksumDiffers s.lfn wanted (sha256 bytes)))) ≡ Err answer → IsBaseFault answer
    by true e = absurd cc
    by false e = as_base_fault _ answer tt e

base_fails : (s : Source) (read : Result (List ℕ) HostFault) (answer : EvaluationFault) → base_answer s read ≡ Err answer → IsBaseFault answer
base_fails s (Ok bytes) answer e = checked_fails s bytes s.checksum answer e
base_fails s (Err host_faults.Absent) answer e = as_base_fault _ answer tt e
base_fails s (Err host_faults.Failed) answer e = as_base_fault _ answer tt e
base_fails s (Err (host_faults.Over limit n)) answer e = as_base_fault _ answer tt e
base_fails s (Err host_faults.Memory) answer e = as_base_fault _ answer tt e

rest_fails : (base : Option (List ℕ)) (answer : EvaluationFault) (rest : Result Bases EvaluationFault) → ((o : EvaluationFault) → rest ≡ Err o → IsBaseFault o) → ◌≡◌ {A = Result Bases EvaluationFault} (Err answer) (after_base base rest) → IsBaseFault answer
rest_fails base answer (Ok bases) later e = absurd cc
rest_fails base answer (Err o) later e = as_base_fault o answer (later o refl) (sym e)

bases_fail : (told : Option Store) (sources : List (Option Source)) (before after : Counts) (r : Result Bases EvaluationFault) → ReadsBases told sources before after r → (answer : EvaluationFault) → r ≡ Err answer → IsBaseFault answer
bases_fail told [] before after r reads answer is = absurd (let e : ◌≡◌ {A = Result Bases EvaluationFault} (Ok []) (Err answer) = sym reads.1 ∙ is in cc)
bases_fail told (None ∷ ss) before after r reads answer is = rest_fails None answer reads.0 (λ o e. bases_fail told ss before after reads.0 reads.1 o e) (sym is ∙ reads.2)
bases_fail told (Some s ∷ ss) before after r reads answer is = by (base_answer s reads.0) refl reads.3 (λ x later o k. bases_fail told ss reads.1 after x later o k)
  where
    by : (a : Result (List ℕ) EvaluationFault) → base_answer s reads.0 ≡ a → Continues (λ c x. ReadsBases told ss c after x) a reads.1 after r
        → ((x : Result Bases EvaluationFault) → ReadsBases told ss reads.1 after x → (o : EvaluationFault) → x ≡ Err o → IsBaseFault o) → IsBaseFault answer
    by (Ok bytes) e goes more = rest_fails (Some bytes) answer goes.0 (λ o k. more goes.0 goes.1 o k) (sym is ∙ goes.2)
    by (Err o) e goes more = as_base_fault o answer (base_fails s reads.0 o e) (sym goes.1 ∙ is)

pub only_bases_fail : (told : Option Store) (sources : List (Option Source)) (before after : Counts) (answer : EvaluationFault) → ReadsBases told sources before after (Err answer) → IsBaseFault answer
only_bases_fail told sources before after answer reads = bases_fail told sources before after (Err answer) reads answer refl
