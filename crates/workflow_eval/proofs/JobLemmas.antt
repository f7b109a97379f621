-- The evaluation, one job more.
use Rattle.std.proofs.Common.{◌≡◌, ℕ, zero, suc, ◌+◌, ◌<◌, ◌||◌, Bool, true, false, cond, List, [], ◌∷◌, ◌++◌, length, take, map, refl, sym, ap, subst, ◌∙◌, nat_eq, arith}
use Rattle.std.specs.Prelude.{Option, Some, None, IsSome, is_some, not, option_map, option_and_then, slice_index_or}
use Rattle.std.specs.List.{All, AllByRecursion}
use Rattle.std.proofs.lemmas.Bool.{eqb-true}
use Rattle.std.proofs.Math.Bool.{or_assoc}
use Rattle.std.proofs.lemmas.List.{take_more, length-map, get_or-map, get_or_default}
use Rattle.std.proofs.lemmas.List.Elements.{All-get_or}
use Rattle.std.proofs.lemmas.List.Recursion.{or_push}
use Rattle.values.specs.declared.numbers.JobId.{JobId}
use Rattle.workflow_core.specs.declared.workflow.Workflow.{Workflow}
use Rattle.workflow_core.specs.declared.workflow.Job.{Job}
use Rattle.workflow_core.specs.WellFormed.{inputs_of, outputs_of}
use Rattle.workflow_core.specs.code.WellFormed.{IsJobOver, IsWellFormed}
use Rattle.dependency_graph.specs.Edges.{is_among, has_output, producer, read_by, written_by}
use Rattle.dependency_graph.specs.code.Value.{AllBased, tool_at, made_by}
use Rattle.dependency_graph.specs.Value.{Basis, run_of, value}
use Rattle.values.specs.Apply.{part, all_of}
use Rattle.dependency_graph.specs.code.Flow.{FlowsAlong, is_base, is_there, is_written}
use Rattle.workflow_eval.specs.FileTable.{at, looked_up, placed}
use Rattle.workflow_eval.proofs.PlaceLemmas.{at_placed, part_there}

-- an element and its place
pub record IsAt {A : Type 0} (xs : List A) (i : ℕ) (x : A) : Type 0 where
  pub below : i < length xs
  pub is : slice_index_or xs i x ≡ x

-- the job at a place of an order, and its number
pub record IsJobAt (w : Workflow) (order : List JobId) (i : ℕ) (a : JobId) (j : Job) : Type 0 where
  pub place : IsAt order i a
  pub number : IsAt w.jobs a.0 j

-- what a loop over the order takes
pub job_at : (w : Workflow) (order items : List JobId) (jobs : List Job) (i : ℕ) (d : JobId) (j e : Job) → items ≡ order → jobs ≡ w.jobs → All (λ (a : JobId). a.0 < length w.jobs) order
    → i < length items → j ≡ slice_index_or jobs (slice_index_or items i d).0 e → IsJobAt w order i (slice_index_or items i d) j
job_at w order items jobs i d j e same same_jobs in_range h is = record {
  place = record {
    below = subst (λ (x : List JobId). i < length x) same h;
    is = sym (ap (λ (x : List JobId). slice_index_or x i a) same) ∙ get_or_default items i a d h;
  };
  number = record {
    below = below;
    is = get_or_default w.jobs a.0 j e below ∙ sym (ap (λ (x : List Job). slice_index_or x a.0 e) same_jobs) ∙ sym is;
  };
}
  where
    a : JobId
    a = slice_index_or items i d

    below : (slice_index_or items i d).0 < length w.jobs
    below = All-get_or (λ (b : JobId). b.0 < length w.jobs) items i d h (subst (λ (x : List JobId). All (λ (b : JobId). b.0 < length w.jobs) x) (sym same) in_range)

-- what stands at a file's place is its value
pub record Stands (on : Basis) (w : Workflow) (table : List (Option (List ℕ))) (f : ℕ) : Type 0 where
  pub there : IsSome (at table f)
  pub value_is : at table f ≡ value on w f

-- after the first i jobs of an order
abbrev pub Evaluated : Basis → Workflow → List JobId → ℕ → List (Option (List ℕ)) → Type 0
Evaluated on w order i table = (f : ℕ) → f < length w.files → is_there w (take i order) f ≡ true → Stands on w table f

-- before the first job
pub bases_stand : (on : Basis) (w : Workflow) (order : List JobId) → FlowsAlong w order → AllBased on w → (table : List (Option (List ℕ))) → table ≡ on.bases → Evaluated on w order 0 table
bases_stand on w order flow based table same f h is = record {
  there = ap is_some (ap (λ (t : List (Option (List ℕ))). at t f) same) ∙ based f h (no_maker (is_some (producer w.jobs f)) is);
  value_is = ap (λ (t : List (Option (List ℕ))). at t f) same ∙ sym (flow.bases on f (no_job (is_base w f) is));
}
  where
    no_maker : (t : Bool) → (not t || false) ≡ true → t ≡ false
    no_maker true e = absurd cc
    no_maker false e = refl

    no_job : (t : Bool) → (t || false) ≡ true → t ≡ true
    no_job true e = refl
    no_job false e = absurd cc

-- what the job with this number reads and makes
reads_of : (w : Workflow) (a : ℕ) (j : Job) → IsAt w.jobs a j → read_by w a ≡ inputs_of j
reads_of w a j here = get_or-map inputs_of w.jobs a j [] here.below ∙ ap inputs_of here.is

writes_of : (w : Workflow) (a : ℕ) (j : Job) → IsAt w.jobs a j → written_by w a ≡ outputs_of j
writes_of w a j here = get_or-map outputs_of w.jobs a j [] here.below ∙ ap outputs_of here.is

-- the first of some files, and another one
first_among : (f : ℕ) (fs : List ℕ) → is_among f (f ∷ fs) ≡ true
first_among f fs = ap (λ (t : Bool). t || is_among f fs) (let same : nat_eq f f ≡ true = grind arith in same)

later_among : (f g : ℕ) (fs : List ℕ) → is_among g fs ≡ true → is_among g (f ∷ fs) ≡ true
later_among f g fs e = ap (λ (t : Bool). nat_eq f g || t) e ∙ or_true (nat_eq f g)
  where
    or_true : (t : Bool) → (t || true) ≡ true
    or_true true = refl
    or_true false = refl

-- looking up files whose values stand
inputs_stand : (on : Basis) (w : Workflow) (table : List (Option (List ℕ))) (fs : List ℕ) → ((f : ℕ) → is_among f fs ≡ true → Stands on w table f) → looked_up table fs ≡ all_of (map (value on w) fs)
inputs_stand on w table [] stands = refl
inputs_stand on w table (f ∷ fs) stands =
    ap (λ (x : Option (List ℕ)). option_and_then (λ v. option_map (λ vs. v ∷ vs) (looked_up table fs)) x) (stands f (first_among f fs)).value_is
    ∙ ap (λ (y : Option (List (List ℕ))). option_and_then (λ v. option_map (λ vs. v ∷ vs) y) (value on w f)) (inputs_stand on w table fs (λ g e. stands g (later_among f g fs e)))

some_both : (x : Option (List ℕ)) (y : Option (List (List ℕ))) → IsSome x → IsSome y → IsSome (option_and_then (λ v. option_map (λ vs. v ∷ vs) y) x)
some_both None y p q = absurd cc
some_both (Some v) None p q = absurd cc
some_both (Some v) (Some vs) p q = refl

found_each : (on : Basis) (w : Workflow) (table : List (Option (List ℕ))) (fs : List ℕ) → ((f : ℕ) → is_among f fs ≡ true → Stands on w table f) → IsSome (looked_up table fs)
found_each on w table [] stands = refl
found_each on w table (f ∷ fs) stands = some_both (at table f) (looked_up table fs) (stands f (first_among f fs)).there (found_each on w table fs (λ g e. stands g (later_among f g fs e)))

-- one of some files below a bound
among_below : (n f : ℕ) (fs : List ℕ) → AllByRecursion (λ g. g < n) fs → is_among f fs ≡ true → f < n
among_below n f [] all e = absurd cc
among_below n f (g ∷ fs) all e = by (nat_eq g f) refl e (λ k. among_below n f fs all.1 k)
  where
    by : (t : Bool) → nat_eq g f ≡ t → (t || is_among f fs) ≡ true → (is_among f fs ≡ true → f < n) → f < n
    by true same k rest = let equal : g ≡ f = eqb-true g f same in let below : g < n = all.0 in omega (arith, equal, below)
    by false same k rest = rest k

-- the job at a place of a list of such jobs
job_over : (n : ℕ) (js : List Job) (a : ℕ) (j : Job) → AllByRecursion (IsJobOver n) js → a < length js → slice_index_or js a j ≡ j → IsJobOver n j
job_over n [] a j all h is = absurd (omega arith)
job_over n (x ∷ js) zero j all h is = subst (IsJobOver n) is all.0
job_over n (x ∷ js) (suc a) j all h is = job_over n js a j all.1 (omega arith) is

input_below : (w : Workflow) (a : ℕ) (j : Job) → IsWellFormed w → IsAt w.jobs a j → (f : ℕ) → is_among f (inputs_of j) ≡ true → f < length w.files
input_below w a j formed here f e = among_below (length w.files) f (inputs_of j) (job_over (length w.files) w.jobs a j formed.jobs here.below here.is).inputs e

-- the inputs of a job are there before it
input_stands : (on : Basis) (w : Workflow) (order : List JobId) (i : ℕ) (a : JobId) (j : Job) → IsWellFormed w → FlowsAlong w order → IsJobAt w order i a j → (table : List (Option (List ℕ))) → Evaluated on w order i table → (f : ℕ) → is_among f (inputs_of j) ≡ true → Stands on w table f
input_stands on w order i a j formed flow here table stands f e = stands f (input_below w a.0 j formed here.number f e) (flow.inputs i a here.place.below here.place.is f (ap (is_among f) (reads_of w a.0 j here.number) ∙ e))

-- each input of a job stands in the table
pub inputs_there : (on : Basis) (w : Workflow) (order : List JobId) (i : ℕ) (a : JobId) (j : Job) → IsWellFormed w → FlowsAlong w order → IsJobAt w order i a j → (table : List (Option (List ℕ))) → Evaluated on w order i table → IsSome (looked_up table (inputs_of j))
inputs_there on w order i a j formed flow here table stands = found_each on w table (inputs_of j) (input_stands on w order i a j formed flow here table stands)

-- what the job makes of what stands in the table, it makes in its workflow
pub made_of : (on : Basis) (w : Workflow) (order : List JobId) (i : ℕ) (a : JobId) (j : Job) → IsWellFormed w → FlowsAlong w order → IsJobAt w order i a j → (table : List (Option (List ℕ))) → Evaluated on w order i table
    → (vs : List (List ℕ)) → looked_up table (inputs_of j) ≡ Some vs → made_by on w (tool_at on a.0) j ≡ run_of on.apply (tool_at on a.0) j (Some vs)
made_of on w order i a j formed flow here table stands vs looked = ap (run_of on.apply (tool_at on a.0) j) (sym (inputs_stand on w table (inputs_of j) (input_stands on w order i a j formed flow here table stands)) ∙ looked)

-- the files that one job more makes
written_more : (w : Workflow) (order : List JobId) (i f : ℕ) (a : JobId) (j : Job) → IsJobAt w order i a j → is_written w (take (i + 1) order) f ≡ (is_written w (take i order) f || has_output f j)
written_more w order i f a j here =
    ap (λ (x : List JobId). is_written w x f) (take_more order i a here.place.below ∙ ap (λ (b : JobId). take i order ++ b ∷ []) here.place.is)
    ∙ or_push (λ x. is_written w x f) (λ (b : JobId). is_among f (written_by w b.0)) refl (λ x xs. refl) (take i order) a
    ∙ ap (λ (fs : List ℕ). is_written w (take i order) f || is_among f fs) (writes_of w a.0 j here.number)

written_before : (s t : Bool) → t ≡ false → (s || t) ≡ true → s ≡ true
written_before true t e h = refl
written_before false true e h = absurd cc
written_before false false e h = absurd cc

-- the files of a job's outputs have places in the table
pub places_there : (w : Workflow) (a : ℕ) (j : Job) → IsWellFormed w → IsAt w.jobs a j → (table : List (Option (List ℕ))) → length table ≡ length w.files → AllByRecursion (λ p. p < length table) (outputs_of j)
places_there w a j formed here table long = subst (λ (n : ℕ). AllByRecursion (λ p. p < n) (outputs_of j)) (sym long) (job_over (length w.files) w.jobs a j formed.jobs here.below here.is).outputs

-- one job more
pub evaluated_more : (on : Basis) (w : Workflow) (order : List JobId) (i : ℕ) (a : JobId) (j : Job) → IsWellFormed w → FlowsAlong w order → IsJobAt w order i a j → (table : List (Option (List ℕ))) → length table ≡ length w.files → Evaluated on w order i table
    → (vs parts : List (List ℕ)) → looked_up table (inputs_of j) ≡ Some vs → run_of on.apply (tool_at on a.0) j (Some vs) ≡ Some parts → length j.outputs ≡ length parts → Evaluated on w order (i + 1) (placed (outputs_of j) parts table)
evaluated_more on w order i a j formed flow here table long stands vs parts looked ran same f low h =
    by_output (has_output f j) refl
  where
    as_many : length (outputs_of j) ≡ length parts
    as_many = length-map j.outputs _ ∙ same

    reads : at (placed (outputs_of j) parts table) f ≡ cond (has_output f j) (part f (outputs_of j) parts) (at table f)
    reads = at_placed (outputs_of j) parts table f (places_there w a.0 j formed here.number table long) as_many

    by_output : (b : Bool) → has_output f j ≡ b → Stands on w (placed (outputs_of j) parts table) f
    by_output true e =
        let now : at (placed (outputs_of j) parts table) f ≡ part f (outputs_of j) parts = reads ∙ ap (λ (b : Bool). cond b (part f (outputs_of j) parts) (at table f)) e in
        let makes : made_by on w (tool_at on a.0) j ≡ Some parts = made_of on w order i a j formed flow here table stands vs looked ∙ ran in
        record {
          there = subst (λ (x : Option (List ℕ)). IsSome x) (sym now) (part_there (outputs_of j) parts f as_many e);
          value_is = now ∙ sym (flow.outputs on a.0 f j here.number.below here.number.is e ∙ ap (option_and_then (part f (outputs_of j))) makes);
        }
    by_output false e =
        let now : at (placed (outputs_of j) parts table) f ≡ at table f = reads ∙ ap (λ (b : Bool). cond b (part f (outputs_of j) parts) (at table f)) e in
        let more : ((is_base w f || is_written w (take i order) f) || has_output f j) ≡ true = or_assoc (is_base w f) (is_written w (take i order) f) (has_output f j) ∙ ap (λ (t : Bool). is_base w f || t) (sym (written_more w order i f a j here)) ∙ h in
        let before = stands f low (written_before (is_there w (take i order) f) (has_output f j) e more) in
        record {
          there = subst (λ (x : Option (List ℕ)). IsSome x) (sym now) before.there;
          value_is = now ∙ before.value_is;
        }
