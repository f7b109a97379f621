-- The makers of a file, and the lists that hold the edges.
use Rattle.std.proofs.Common.{◌≡◌, ℕ, zero, suc, ◌+◌, ◌<◌, ◌≤◌, Bool, true, false, cond, ◌||◌, ◌&&◌, List, [], ◌∷◌, ◌++◌, length, map, get_or, refl, sym, ap, subst, ◌∙◌, nat_eq, arith, ◌-◌}
use Rattle.std.specs.Prelude.{Option, Some, None, MatchOption, option_to_list, slice_index_or}
use Rattle.std.specs.List.{All, AllByRecursion, list_any}
use Rattle.std.proofs.lemmas.List.Elements.{All-nil, All-cons, All-append}
use Rattle.values.specs.declared.numbers.JobId.{JobId}
use Rattle.workflow_core.specs.declared.workflow.Workflow.{Workflow}
use Rattle.workflow_core.specs.declared.workflow.Job.{Job}
use Rattle.workflow_core.specs.WellFormed.{inputs_of, outputs_of, parent_of, child_of}
use Rattle.workflow_core.specs.code.WellFormed.{IsJobOver, IsWellFormed}
use Rattle.std.proofs.Math.Bool.{or-false}
use Rattle.std.proofs.lemmas.Bool.{eq-eqb, ne_eqb}
use Rattle.dependency_graph.proofs.MakersLemmas.{makers_below}
use Rattle.dependency_graph.specs.code.Built.{AreProducers}
use Rattle.dependency_graph.specs.Edges.{edge, has_output, is_among, is_paired, makers, makers_from, producer, read_by, written_by}
use Rattle.dependency_graph.specs.Graph.{producer_of_file, numbers}
use Rattle.dependency_graph.specs.code.Sources.{found}
use Rattle.digraph.specs.Adjacency.{has_node, neighbours}

-- the numbers of the jobs that make a file
later_makers : (f i a : ℕ) (js : List Job) → a < i → is_among a (makers_from f i js) ≡ false
later_makers f i a [] h = refl
later_makers f i a (j ∷ js) h = by (has_output f j) (later_makers f (suc i) a js (omega arith))
  where
    by : (t : Bool) → is_among a (makers_from f (suc i) js) ≡ false → is_among a (cond t (i ∷ makers_from f (suc i) js) (makers_from f (suc i) js)) ≡ false
    by true e = ap (λ (b : Bool). b || is_among a (makers_from f (suc i) js)) (ne_eqb i a (λ s. omega arith)) ∙ e
    by false e = e

among_makers : (f i k : ℕ) (js : List Job) → is_among (i + k) (makers_from f i js) ≡ is_among f (slice_index_or (map outputs_of js) k [])
among_makers f i k [] = refl
among_makers f i zero (j ∷ js) = by (has_output f j) refl
  where
    same : i + 0 ≡ i
    same = omega arith

    rest : is_among (i + 0) (makers_from f (suc i) js) ≡ false
    rest = later_makers f (suc i) (i + 0) js (omega arith)

    by : (t : Bool) → has_output f j ≡ t → is_among (i + 0) (cond (has_output f j) (i ∷ makers_from f (suc i) js) (makers_from f (suc i) js)) ≡ has_output f j
    by true e = ap (λ (b : Bool). is_among (i + 0) (cond b (i ∷ makers_from f (suc i) js) (makers_from f (suc i) js))) e ∙ ap (λ (b : Bool). b || is_among (i + 0) (makers_from f (suc i) js)) (ap (nat_eq i) same ∙ eq-eqb i i refl) ∙ sym e
    by false e = ap (λ (b : Bool). is_among (i + 0) (cond b (i ∷ makers_from f (suc i) js) (makers_from f (suc i) js))) e ∙ rest ∙ sym e
among_makers f i (suc k) (j ∷ js) =
    by (has_output f j) ∙ ap (λ (n : ℕ). is_among n (makers_from f (suc i) js)) shift ∙ among_makers f (suc i) k js
  where
    shift : i + suc k ≡ suc i + k
    shift = omega arith

    by : (t : Bool) → is_among (i + suc k) (cond t (i ∷ makers_from f (suc i) js) (makers_from f (suc i) js)) ≡ is_among (i + suc k) (makers_from f (suc i) js)
    by true = ap (λ (b : Bool). b || is_among (i + suc k) (makers_from f (suc i) js)) (ne_eqb i (i + suc k) (λ s. omega arith))
    by false = refl

pub makes : (w : Workflow) (f a : ℕ) → is_among a (makers w f) ≡ is_among f (written_by w a)
unfolding makers
makes w f a = let z : a ≡ 0 + a = omega arith in ap (λ (n : ℕ). is_among n (makers_from f 0 w.jobs)) z ∙ among_makers f 0 a w.jobs

-- a job, if there is one, is this one
abbrev is_job : ℕ → Option JobId → Bool
is_job a None = false
is_job a (Some j) = nat_eq j.0 a

is_maker : (a : ℕ) (o : Option JobId) (ns : List ℕ) → MatchOption o (ns ≡ []) (λ (j : JobId). ns ≡ j.0 ∷ []) → is_job a o ≡ is_among a ns
is_maker a None ns e = sym (ap (is_among a) e)
is_maker a (Some j) ns e = sym (ap (is_among a) e ∙ or-false (nat_eq j.0 a))

has_option : (a : ℕ) (o : Option JobId) (ns : List ℕ) → has_node a (numbers (option_to_list o) ++ ns) ≡ (is_job a o || has_node a ns)
has_option a None ns = refl
has_option a (Some j) ns = refl

has_found : (w : Workflow) (ps : List (Option JobId)) → AreProducers w ps → (a : ℕ) (fs : List ℕ) → AllByRecursion (λ f. f < length w.files) fs → has_node a (found ps fs) ≡ list_any (λ f. is_among f (written_by w a)) fs
has_found w ps are a [] low = refl
has_found w ps are a (f ∷ fs) low =
    has_option a (producer_of_file ps f) (found ps fs)
    ∙ ap (λ (b : Bool). b || has_node a (found ps fs)) (is_maker a (producer_of_file ps f) (makers w f) (are.each f low.0) ∙ makes w f a)
    ∙ ap (λ (b : Bool). is_among f (written_by w a) || b) (has_found w ps are a fs low.1)

maker_in : (n : ℕ) (o : Option JobId) (ns : List ℕ) → AllByRecursion (λ a. a < n) ns → MatchOption o (ns ≡ []) (λ (j : JobId). ns ≡ j.0 ∷ []) → All (λ a. a < n) (numbers (option_to_list o))
maker_in n None ns low e = All-nil (λ a. a < n)
maker_in n (Some j) ns low e =
    let here : AllByRecursion (λ a. a < n) (j.0 ∷ []) = subst (λ (x : List ℕ). AllByRecursion (λ a. a < n) x) e low in
    All-cons (λ a. a < n) j.0 [] here.0 (All-nil (λ a. a < n))

found_in : (w : Workflow) (ps : List (Option JobId)) → AreProducers w ps → (fs : List ℕ) → AllByRecursion (λ f. f < length w.files) fs → All (λ a. a < length w.jobs) (found ps fs)
unfolding makers
found_in w ps are [] low = All-nil (λ a. a < length w.jobs)
found_in w ps are (f ∷ fs) low =
    All-append (λ a. a < length w.jobs) (numbers (option_to_list (producer_of_file ps f))) (found ps fs)
    (maker_in (length w.jobs) (producer_of_file ps f) (makers_from f 0 w.jobs) (makers_below f 0 (length w.jobs) w.jobs (omega arith)) (are.each f low.0))
    (found_in w ps are fs low.1)

read_in : (n b : ℕ) (js : List Job) → AllByRecursion (IsJobOver n) js → AllByRecursion (λ f. f < n) (slice_index_or (map inputs_of js) b [])
read_in n b [] all = tt
read_in n zero (j ∷ js) all = all.0.inputs
read_in n (suc b) (j ∷ js) all = read_in n b js all.1

list_found : (ps : List (Option JobId)) (b : ℕ) (js : List Job) → neighbours (map (λ (j : Job). found ps (inputs_of j)) js) b ≡ found ps (slice_index_or (map inputs_of js) b [])
list_found ps b [] = refl
list_found ps zero (j ∷ js) = refl
list_found ps (suc b) (j ∷ js) = list_found ps b js

-- the sources of a job, without the pairs
pub sources_in : (w : Workflow) (ps : List (Option JobId)) (ls : List (List ℕ)) → IsWellFormed w → AreProducers w ps → ls ≡ map (λ (j : Job). found ps (inputs_of j)) w.jobs → (k : ℕ) → All (λ a. a < length w.jobs) (neighbours ls k)
sources_in w ps ls form are is k =
    subst (λ (x : List ℕ). All (λ a. a < length w.jobs) x) (sym (ap (λ (x : List (List ℕ)). neighbours x k) is ∙ list_found ps k w.jobs)) (found_in w ps are (read_by w k) (read_in (length w.files) k w.jobs form.jobs))

abbrev pub pair_numbers : JobId × JobId → ℕ × ℕ
pair_numbers p = (parent_of p, child_of p)

pub pairs_in : (n m : ℕ) (ps : List (JobId × JobId)) → m ≡ n → AllByRecursion (λ (p : JobId × JobId). (parent_of p < n) × (child_of p < n)) ps → All (λ (q : ℕ × ℕ). (q.0 < m) × (q.1 < m)) (map pair_numbers ps)
pairs_in n m [] same low = All-nil (λ (q : ℕ × ℕ). (q.0 < m) × (q.1 < m))
pairs_in n m (p ∷ ps) same low =
    All-cons (λ (q : ℕ × ℕ). (q.0 < m) × (q.1 < m)) (pair_numbers p) (map pair_numbers ps) (let one : parent_of p < n = low.0.0 in let two : child_of p < n = low.0.1 in (omega (arith, one, same), omega (arith, two, same))) (pairs_in n m ps same low.1)

any_pair : (a b : ℕ) (ps : List (JobId × JobId)) → list_any (λ (q : ℕ × ℕ). nat_eq q.0 a && nat_eq q.1 b) (map pair_numbers ps) ≡ list_any (λ (p : JobId × JobId). nat_eq (parent_of p) a && nat_eq (child_of p) b) ps
any_pair a b [] = refl
any_pair a b (p ∷ ps) = ap (λ (t : Bool). (nat_eq (parent_of p) a && nat_eq (child_of p) b) || t) (any_pair a b ps)

pub sources_are : (w : Workflow) (ps : List (Option JobId)) (ls new : List (List ℕ)) → IsWellFormed w → AreProducers w ps → ls ≡ map (λ (j : Job). found ps (inputs_of j)) w.jobs
    → ((a b : ℕ) → has_node a (neighbours new b) ≡ (has_node a (neighbours ls b) || list_any (λ (q : ℕ × ℕ). nat_eq q.0 a && nat_eq q.1 b) (map pair_numbers w.pairs))) → (a b : ℕ) → has_node a (neighbours new b) ≡ edge w a b
unfolding edge
sources_are w ps ls new form are is added a b =
    added a b ∙ ap (λ (x : Bool). has_node a (neighbours ls b) || x) (any_pair a b w.pairs)
    ∙ ap (λ (x : Bool). x || is_paired w a b) (ap (λ (x : List (List ℕ)). has_node a (neighbours x b)) is ∙ ap (has_node a) (list_found ps b w.jobs) ∙ has_found w ps are a (read_by w b) (read_in (length w.files) b w.jobs form.jobs))

-- the first of the jobs that make a file is its producer
none_makes : (f i : ℕ) (js : List Job) → makers_from f i js ≡ [] → producer js f ≡ None
none_makes f i [] e = refl
none_makes f i (x ∷ js) e = by (has_output f x) e (λ h. none_makes f (suc i) js h)
  where
    by : (t : Bool) → cond t (i ∷ makers_from f (suc i) js) (makers_from f (suc i) js) ≡ [] → (makers_from f (suc i) js ≡ [] → producer js f ≡ None) → cond t (Some x) (producer js f) ≡ None
    by true h rest = absurd cc
    by false h rest = rest h

first_makes : (f i a : ℕ) (later : List ℕ) (js : List Job) → makers_from f i js ≡ a ∷ later → (j : Job) × (producer js f ≡ Some j) × (i ≤ a) × (get_or js (a - i) j ≡ j)
first_makes f i a later [] e = absurd cc
first_makes f i a later (x ∷ js) e = by (has_output f x) e (λ h. first_makes f (suc i) a later js h)
  where
    by : (t : Bool) → cond t (i ∷ makers_from f (suc i) js) (makers_from f (suc i) js) ≡ a ∷ later → (makers_from f (suc i) js ≡ a ∷ later → (j : Job) × (producer js f ≡ Some j) × (suc i ≤ a) × (get_or js (a - suc i) j ≡ j))
        → (j : Job) × (cond t (Some x) (producer js f) ≡ Some j) × (i ≤ a) × (get_or (x ∷ js) (a - i) j ≡ j)
    by true h rest =
        let same : i ≡ a = cc in
        let none : a - i ≡ 0 = omega arith in
        (x, refl, omega arith, ap (λ (n : ℕ). get_or (x ∷ js) n x) none)
    by false h rest =
        let found = rest h in
        let shift : a - i ≡ suc (a - suc i) = omega (arith, found.2) in
        (found.0, found.1, omega (arith, found.2), ap (λ (n : ℕ). get_or (x ∷ js) n found.0) shift ∙ found.3)

pub no_producer : (w : Workflow) (f : ℕ) → makers w f ≡ [] → producer w.jobs f ≡ None
unfolding makers
no_producer w f e = none_makes f 0 w.jobs e

pub first_producer : (w : Workflow) (f a : ℕ) (later : List ℕ) → makers w f ≡ a ∷ later → (j : Job) × (producer w.jobs f ≡ Some j) × (slice_index_or w.jobs a j ≡ j)
unfolding makers
first_producer w f a later e =
    let found = first_makes f 0 a later w.jobs e in
    let same : a - 0 ≡ a = omega arith in
    (found.0, found.1, ap (λ (n : ℕ). get_or w.jobs n found.0) (sym same) ∙ found.3)
