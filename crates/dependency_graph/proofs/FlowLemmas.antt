-- Values flow along a graph's order.
use Rattle.std.proofs.Common.{◌≡◌, ℕ, zero, suc, ◌<◌, ◌≤◌, Bool, true, false, ◌||◌, List, [], ◌∷◌, length, take, get_or, refl, sym, ap, ◌∙◌, nat_eq, arith, ◌+◌, ◌-◌, cond, map}
use Rattle.std.specs.Prelude.{Option, Some, None, is_some, not, option_and_then, slice_index_or}
use Rattle.std.proofs.lemmas.List.{get_or-map, get_or_default}
use Rattle.std.proofs.lemmas.List.Elements.{All-get_or}
use Rattle.values.specs.declared.numbers.JobId.{JobId}
use Rattle.workflow_core.specs.declared.workflow.Workflow.{Workflow}
use Rattle.workflow_core.specs.declared.workflow.Job.{Job}
use Rattle.workflow_core.specs.WellFormed.{inputs_of, outputs_of}
use Rattle.workflow_core.specs.code.WellFormed.{IsJobOver, IsWellFormed}
use Rattle.std.proofs.Math.Bool.{or-true}
use Rattle.std.proofs.lemmas.Bool.{eqb-true}
use Rattle.dependency_graph.proofs.EdgesLemmas.{first_producer, makes}
use Rattle.dependency_graph.proofs.GraphLemmas.{comes_first}
use Rattle.dependency_graph.proofs.ValueLemmas.{Makes, among_below, any_in, edge_in, job_over, maker, unmade, value_law}
use Rattle.dependency_graph.specs.Edges.{edge, has_output, is_among, is_paired, makers, makers_from, producer, read_by, written_by}
use Rattle.dependency_graph.specs.code.Flow.{FlowsAlong, is_base, is_there, is_written}
use Rattle.dependency_graph.specs.Graph.{IsGraphOf, IsSound, Links, numbers}
use Rattle.dependency_graph.specs.Value.{Basis, base_at, run_of, tool_for, value}
use Rattle.dependency_graph.specs.code.Value.{made_by, tool_at}
use Rattle.values.specs.Apply.{all_of, part}
use Rattle.digraph.specs.Adjacency.{has_node, times}

-- who makes an input comes before
pub makers_first : (w : Workflow) (g : Links) → IsGraphOf w g → (i : ℕ) (a : JobId) → i < length g.ordered → slice_index_or g.ordered i a ≡ a → (f p : ℕ) → is_among f (read_by w a.0) ≡ true → is_among p (makers w f) ≡ true → has_node p (numbers (take i g.ordered)) ≡ true
unfolding edge
makers_first w g graph i a h at f p reads makes_it =
    comes_first w g graph i a h at p (ap (λ (t : Bool). t || is_paired w p a.0) (any_in (λ x. is_among x (written_by w p)) f (read_by w a.0) reads (sym (makes w f p) ∙ makes_it)))

-- one of some jobs that makes a file
written_has : (w : Workflow) (js : List JobId) (p f : ℕ) → has_node p (numbers js) ≡ true → is_among f (written_by w p) ≡ true → is_written w js f ≡ true
written_has w [] p f h e = absurd cc
written_has w (j ∷ js) p f h e = by (nat_eq j.0 p) refl h (λ k. written_has w js p f k e)
  where
    by : (t : Bool) → nat_eq j.0 p ≡ t → (t || has_node p (numbers js)) ≡ true → (has_node p (numbers js) ≡ true → is_written w js f ≡ true) → (is_among f (written_by w j.0) || is_written w js f) ≡ true
    by true s k rest = ap (λ (b : Bool). b || is_written w js f) (ap (λ (n : ℕ). is_among f (written_by w n)) (eqb-true j.0 p s) ∙ e)
    by false s k rest = ap (λ (b : Bool). is_among f (written_by w j.0) || b) (rest k) ∙ or-true (is_among f (written_by w j.0))

-- what stands once is there
there_once : (p : ℕ) (ns : List ℕ) → times p ns ≡ 1 → has_node p ns ≡ true
there_once p [] once = absurd (omega (arith, once))
there_once p (n ∷ ns) once = by (nat_eq n p) refl once (λ e. there_once p ns e)
  where
    by : (t : Bool) → nat_eq n p ≡ t → cond {A = ℕ} t 1 0 + times p ns ≡ 1 → (times p ns ≡ 1 → has_node p ns ≡ true) → (t || has_node p ns) ≡ true
    by true e k rest = refl
    by false e k rest = rest (omega (arith, k))

-- the job at a place, and what it reads or makes
job_at : (js : List Job) (a : ℕ) → a < length js → (j : Job) × (get_or js a j ≡ j)
job_at [] a h = absurd (omega arith)
job_at (x ∷ js) zero h = (x, refl)
job_at (x ∷ js) (suc a) h = job_at js a (omega arith)

reads_of : (w : Workflow) (a : ℕ) (j : Job) → a < length w.jobs → get_or w.jobs a j ≡ j → read_by w a ≡ inputs_of j
reads_of w a j h is = get_or-map inputs_of w.jobs a j [] h ∙ ap inputs_of is

writes_of : (w : Workflow) (a : ℕ) (j : Job) → a < length w.jobs → get_or w.jobs a j ≡ j → written_by w a ≡ outputs_of j
writes_of w a j h is = get_or-map outputs_of w.jobs a j [] h ∙ ap outputs_of is

makes_it_by : (w : Workflow) (b f : ℕ) (q : Job) → Makes w b q f → is_among f (written_by w b) ≡ true
makes_it_by w b f q made = ap (is_among f) (writes_of w b q made.below made.is) ∙ made.makes

-- a file is there where its maker, if it has one, is among these jobs
there : (w : Workflow) (js : List JobId) (f : ℕ) → ((b : ℕ) (q : Job) → Makes w b q f → has_node b (numbers js) ≡ true) → is_there w js f ≡ true
there w js f among = by (producer w.jobs f) refl
  where
    by : (o : Option Job) → producer w.jobs f ≡ o → is_there w js f ≡ true
    by None e = ap (λ (o : Option Job). not (is_some o) || is_written w js f) e
    by (Some q) e =
        let found = maker w f q e in
        ap (λ (t : Bool). is_base w f || t) (written_has w js found.0 f (among found.0 q found.1) (makes_it_by w found.0 f q found.1)) ∙ or-true (is_base w f)

inputs_before : (w : Workflow) (g : Links) → IsWellFormed w → IsGraphOf w g → (i : ℕ) (a : JobId) → i < length g.ordered → slice_index_or g.ordered i a ≡ a → (f : ℕ) → is_among f (read_by w a.0) ≡ true → is_there w (take i g.ordered) f ≡ true
inputs_before w g formed graph i a h at f reads =
    let below_at : (get_or g.ordered i a).0 < length w.jobs = All-get_or (λ (j : JobId). j.0 < length w.jobs) g.ordered i a h graph.in_range in
    let same : (get_or g.ordered i a).0 ≡ a.0 = ap (λ (j : JobId). j.0) at in
    let below : a.0 < length w.jobs = omega (arith, below_at, same) in
    let job = job_at w.jobs a.0 below in
    let reads_it : is_among f (inputs_of job.0) ≡ true = ap (is_among f) (sym (reads_of w a.0 job.0 below job.1)) ∙ reads in
    there w (take i g.ordered) f (λ b q made. comes_first w g graph i a h at b (edge_in w a.0 b f job.0 q below job.1 reads_it made))

each_there : (w : Workflow) (g : Links) → IsGraphOf w g → (f : ℕ) → is_there w g.ordered f ≡ true
each_there w g graph f = there w g.ordered f (λ b q made. there_once b (numbers g.ordered) (graph.order.each_once b made.below))

-- the base of a file that no job makes
base_value : (b : Basis) (w : Workflow) (f : ℕ) → is_base w f ≡ true → value b w f ≡ base_at b f
base_value b w f is = unmade b w.jobs (length w.jobs) f (none (producer w.jobs f) is)
  where
    none : (o : Option Job) → not (is_some o) ≡ true → o ≡ None
    none None e = refl
    none (Some q) e = absurd cc

-- the tool of the first of the jobs that make a file
first_tool : (f i a : ℕ) (later : List ℕ) (js : List Job) (tools : List (List ℕ)) → makers_from f i js ≡ a ∷ later → (i ≤ a) × (tool_for js tools f ≡ slice_index_or tools (a - i) [])
first_tool f i a later [] tools e = absurd cc
first_tool f i a later (x ∷ js) [] e = (first_from f i a later (x ∷ js) e, refl)
  where
    first_from : (f i a : ℕ) (later : List ℕ) (js : List Job) → makers_from f i js ≡ a ∷ later → i ≤ a
    first_from f i a later [] e = absurd cc
    first_from f i a later (x ∷ js) e = by (has_output f x) e (λ h. first_from f (suc i) a later js h)
      where
        by : (t : Bool) → cond t (i ∷ makers_from f (suc i) js) (makers_from f (suc i) js) ≡ a ∷ later → (makers_from f (suc i) js ≡ a ∷ later → suc i ≤ a) → i ≤ a
        by true h rest = let same : i ≡ a = cc in omega arith
        by false h rest = let more : suc i ≤ a = rest h in omega (arith, more)
first_tool f i a later (x ∷ js) (t ∷ tools) e = by (has_output f x) refl e (λ h. first_tool f (suc i) a later js tools h)
  where
    by : (s : Bool) → has_output f x ≡ s → cond s (i ∷ makers_from f (suc i) js) (makers_from f (suc i) js) ≡ a ∷ later → (makers_from f (suc i) js ≡ a ∷ later → (suc i ≤ a) × (tool_for js tools f ≡ slice_index_or tools (a - suc i) []))
        → (i ≤ a) × (cond s t (tool_for js tools f) ≡ slice_index_or (t ∷ tools) (a - i) [])
    by true is h rest =
        let same : i ≡ a = cc in
        let none : a - i ≡ 0 = omega arith in
        (omega arith, ap (λ (n : ℕ). slice_index_or (t ∷ tools) n []) (sym none))
    by false is h rest =
        let found = rest h in
        let shift : a - i ≡ suc (a - suc i) = omega (arith, found.0) in
        (omega (arith, found.0), found.1 ∙ ap (λ (n : ℕ). slice_index_or (t ∷ tools) n []) (sym shift))

-- a list of at most one number is one number that it holds
only_one : (ns : List ℕ) (a : ℕ) → length ns ≤ 1 → is_among a ns ≡ true → ns ≡ a ∷ []
only_one [] a h e = absurd cc
only_one (n ∷ []) a h e = by (nat_eq n a) refl e
  where
    by : (t : Bool) → nat_eq n a ≡ t → (t || false) ≡ true → n ∷ [] ≡ a ∷ []
    by true s k = ap (λ (m : ℕ). m ∷ []) (eqb-true n a s)
    by false s k = absurd cc
only_one (n ∷ m ∷ ns) a h e = absurd (omega arith)

-- a job that makes a file is its only maker
only_maker : (w : Workflow) → IsWellFormed w → IsSound w → (a f : ℕ) (j : Job) → a < length w.jobs → get_or w.jobs a j ≡ j → has_output f j ≡ true → makers w f ≡ a ∷ []
only_maker w formed sound a f j h is makes_it =
    let over : IsJobOver (length w.files) j = job_over (length w.files) w.jobs a j formed.jobs h is in
    let few : length (makers w f) ≤ 1 = sound.one_producer f (among_below (length w.files) f (outputs_of j) over.outputs makes_it) in
    only_one (makers w f) a few (makes w f a ∙ ap (is_among f) (writes_of w a j h is) ∙ makes_it)

-- its producer
is_producer : (w : Workflow) (a f : ℕ) (j : Job) → makers w f ≡ a ∷ [] → a < length w.jobs → get_or w.jobs a j ≡ j → producer w.jobs f ≡ Some j
is_producer w a f j only h is =
    let found = first_producer w f a [] only in
    found.1 ∙ ap Some (sym found.2 ∙ get_or_default w.jobs a found.0 j h ∙ is)

-- and its producer's tool
is_tool : (b : Basis) (w : Workflow) (a f : ℕ) → makers w f ≡ a ∷ [] → tool_for w.jobs b.tools f ≡ tool_at b a
unfolding makers
is_tool b w a f only =
    let same : a - 0 ≡ a = omega arith in
    (first_tool f 0 a [] w.jobs b.tools only).1 ∙ ap (λ (n : ℕ). slice_index_or b.tools n []) same

output_value : (b : Basis) (w : Workflow) → IsWellFormed w → IsSound w → (a f : ℕ) (j : Job) → a < length w.jobs → get_or w.jobs a j ≡ j → has_output f j ≡ true → value b w f ≡ option_and_then (part f (outputs_of j)) (made_by b w (tool_at b a) j)
output_value b w formed sound a f j h is makes_it =
    let only = only_maker w formed sound a f j h is makes_it in
    value_law b w f j sound (is_producer w a f j only h is)
    ∙ ap (λ (t : List ℕ). option_and_then (part f (outputs_of j)) (run_of b.apply t j (all_of (map (value b w) (inputs_of j))))) (is_tool b w a f only)

pub flows : (w : Workflow) (g : Links) → IsWellFormed w → IsGraphOf w g → FlowsAlong w g.ordered
flows w g formed graph = record {
  inputs = inputs_before w g formed graph;
  files = λ f h. each_there w g graph f;
  bases = λ b f is. base_value b w f is;
  outputs = λ b a f j h is makes_it. output_value b w formed graph.sound a f j h is makes_it;
}
