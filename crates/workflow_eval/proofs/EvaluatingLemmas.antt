-- How an evaluation ends: at a job that gives nothing, or after the last one.
use Rattle.std.proofs.Common.{◌≡◌, ℕ, zero, suc, ◌+◌, ◌<◌, ◌≤◌, Bool, true, false, cond, List, [], ◌∷◌, ◌++◌, length, take, drop, map, refl, sym, ap, subst, ◌∙◌, drop-cons, arith}
use Rattle.std.specs.Prelude.{Option, Some, None, IsSome, is_some, option_map, Err, slice_index_or}
use Rattle.std.proofs.lemmas.List.{length-map, get_or-map, take_more, take-append-drop}
use Rattle.outside.specs.code.Counts.{Rose}
use Rattle.values.specs.declared.numbers.JobId.{JobId}
use Rattle.workflow_core.specs.declared.workflow.Workflow.{Workflow}
use Rattle.workflow_core.specs.declared.workflow.Job.{Job}
use Rattle.dependency_graph.specs.Value.{Basis, value}
use Rattle.dependency_graph.specs.code.Value.{made_by, tool_at}
use Rattle.values.specs.Apply.{all_of}
use Rattle.dependency_graph.specs.code.Flow.{FlowsAlong, is_there}
use Rattle.workflow_eval.specs.declared.fault.EvalFault.{EvalFault}
use Rattle.workflow_eval.specs.declared.fault.EvalFault.TheVariants.{Declined, ToolFailed, Memory}
use Rattle.workflow_eval.specs.FileTable.{at, IsFaultOf}
use Rattle.workflow_eval.specs.Evaluating.{AreValues, made_by_number, first_undefined, IsReached, Evaluates}
use Rattle.workflow_eval.proofs.JobLemmas.{IsAt, IsJobAt, Evaluated}

-- each of the first i jobs makes something
abbrev pub NoneBefore : Basis → Workflow → List JobId → ℕ → Type 0
NoneBefore on w order i = first_undefined on w (take i order) ≡ None

pub none_at_first : (on : Basis) (w : Workflow) (order : List JobId) → NoneBefore on w order 0
unfolding first_undefined
none_at_first on w order = refl

-- after jobs that make something
undefined_after : (on : Basis) (w : Workflow) (xs ys : List JobId) → first_undefined on w xs ≡ None → first_undefined on w (xs ++ ys) ≡ first_undefined on w ys
unfolding first_undefined
undefined_after on w [] ys none = refl
undefined_after on w (a ∷ xs) ys none = by_first (is_some (made_by_number on w a.0)) (undefined_after on w xs ys) none
  where
    by_first : (b : Bool) → (first_undefined on w xs ≡ None → first_undefined on w (xs ++ ys) ≡ first_undefined on w ys) → cond b (first_undefined on w xs) (Some a.0) ≡ None → cond b (first_undefined on w (xs ++ ys)) (Some a.0) ≡ first_undefined on w ys
    by_first true so e = so e
    by_first false so e = absurd cc

-- from a job on
from_here : (on : Basis) (w : Workflow) (a : JobId) (j : Job) (later : List JobId) → IsAt w.jobs a.0 j → first_undefined on w (a ∷ later) ≡ cond (is_some (made_by on w (tool_at on a.0) j)) (first_undefined on w later) (Some a.0)
unfolding first_undefined
from_here on w a j later here = ap (λ (m : Option (List (List ℕ))). cond (is_some m) (first_undefined on w later) (Some a.0)) (get_or-map (made_by on w (tool_at on a.0)) w.jobs a.0 j None here.below ∙ ap (made_by on w (tool_at on a.0)) here.is)

nothing_undefined : (on : Basis) (w : Workflow) → first_undefined on w [] ≡ None
unfolding first_undefined
nothing_undefined on w = refl

-- a job that makes something
pub none_before_more : (on : Basis) (w : Workflow) (order : List JobId) (i : ℕ) (a : JobId) (j : Job) (parts : List (List ℕ)) → IsJobAt w order i a j → made_by on w (tool_at on a.0) j ≡ Some parts → NoneBefore on w order i → NoneBefore on w order (i + 1)
none_before_more on w order i a j parts here made none =
    ap (first_undefined on w) (take_more order i a here.place.below ∙ ap (λ (b : JobId). take i order ++ b ∷ []) here.place.is)
    ∙ undefined_after on w (take i order) (a ∷ []) none
    ∙ from_here on w a j [] here.number
    ∙ ap (λ (m : Option (List (List ℕ))). cond (is_some m) (first_undefined on w []) (Some a.0)) made
    ∙ nothing_undefined on w

-- a job that makes nothing
first_is : (on : Basis) (w : Workflow) (order : List JobId) (i : ℕ) (a : JobId) (j : Job) → IsJobAt w order i a j → made_by on w (tool_at on a.0) j ≡ None → NoneBefore on w order i → first_undefined on w order ≡ Some a.0
first_is on w order i a j here made none =
    ap (first_undefined on w) (sym (take-append-drop i order))
    ∙ undefined_after on w (take i order) (drop i order) none
    ∙ ap (first_undefined on w) (drop-cons order i a here.place.below ∙ ap (λ (b : JobId). b ∷ drop (suc i) order) here.place.is)
    ∙ from_here on w a j (drop (suc i) order) here.number
    ∙ ap (λ (m : Option (List (List ℕ))). cond (is_some m) (first_undefined on w (drop (suc i) order)) (Some a.0)) made

-- a job that gives nothing ends the evaluation
pub ends_with : (on : Basis) (w : Workflow) (order : List JobId) (i old before new : ℕ) (a : JobId) (j : Job) → IsJobAt w order i a j → NoneBefore on w order i → old ≤ before → (made : Option (List (List ℕ))) → made_by on w (tool_at on a.0) j ≡ made
    → (e : EvalFault) → IsFaultOf made a.0 (Rose before new) e → Evaluates on w order (Rose old new) (Err e)
ends_with on w order i old before new a j here none le made made_is (Declined k) fault = (first_is on w order i a j here (made_is ∙ fault.0) none ∙ ap Some (sym fault.1), omega (arith, here.number.below, fault.1))
ends_with on w order i old before new a j here none le made made_is (ToolFailed k) fault = (omega (arith, fault.0, le), omega (arith, here.number.below, fault.1))
ends_with on w order i old before new a j here none le made made_is Memory fault = tt

-- a job at which the tool failed
pub is_reached : (on : Basis) (w : Workflow) (order : List JobId) (i : ℕ) (a : JobId) (j : Job) → IsJobAt w order i a j → NoneBefore on w order i → (made : Option (List (List ℕ))) (rose : Type 0)
    → (e : EvalFault) → IsFaultOf made a.0 rose e → (k : JobId) → e ≡ ToolFailed k → IsReached on w order k
is_reached on w order i a j here none made rose (Declined m) fault k is = absurd cc
is_reached on w order i a j here none made rose (ToolFailed m) fault k is = record {
  place = i;
  below = here.place.below;
  is = subst (λ (x : JobId). slice_index_or order i x ≡ x) same here.place.is;
  before = none;
}
  where
    same : a ≡ k
    same = let failed : m ≡ k = cc in sym (ap (λ (n : ℕ). record { 0 = n }) fault.1) ∙ failed
is_reached on w order i a j here none made rose Memory fault k is = absurd cc

take_all : (xs : List JobId) → take (length xs) xs ≡ xs
take_all [] = refl
take_all (x ∷ xs) = ap (λ (ys : List JobId). x ∷ ys) (take_all xs)

-- after the last job
none_undefined : (on : Basis) (w : Workflow) (order : List JobId) → NoneBefore on w order (length order) → first_undefined on w order ≡ None
none_undefined on w order none = ap (first_undefined on w) (sym (take_all order)) ∙ none

-- a table with something at each place has all of them
each_all : (table : List (Option (List ℕ))) → ((f : ℕ) → f < length table → IsSome (at table f)) → IsSome (all_of table)
each_all [] there = refl
each_all (None ∷ xs) there = absurd (let h : IsSome (at (None ∷ xs) 0) = there 0 (omega arith) in cc)
each_all (Some v ∷ xs) there = some_more (all_of xs) (each_all xs (λ f h. there (suc f) (omega arith)))
  where
    some_more : (x : Option (List (List ℕ))) → IsSome x → IsSome (option_map (λ vs. v ∷ vs) x)
    some_more None h = absurd cc
    some_more (Some vs) h = refl

-- all of a table, read one by one
each_some : (table : List (Option (List ℕ))) (vs : List (List ℕ)) → all_of table ≡ Some vs → table ≡ map Some vs
each_some [] vs e = let same : [] ≡ vs = cc in ap (λ (x : List (List ℕ)). map Some x) same
each_some (None ∷ xs) vs e = absurd cc
each_some (Some v ∷ xs) vs e = by_rest (all_of xs) (λ ws h. each_some xs ws h) refl e
  where
    by_rest : (r : Option (List (List ℕ))) → ((ws : List (List ℕ)) → all_of xs ≡ Some ws → xs ≡ map Some ws) → all_of xs ≡ r → option_map (λ ws. v ∷ ws) r ≡ Some vs → Some v ∷ xs ≡ map Some vs
    by_rest None rest h e = absurd cc
    by_rest (Some ws) rest h e =
        let same : v ∷ ws ≡ vs = cc in
        ap (λ (x : List (Option (List ℕ))). Some v ∷ x) (rest ws h) ∙ ap (λ (x : List (List ℕ)). map Some x) same

at_some : (vs : List (List ℕ)) (f : ℕ) → f < length vs → at (map Some vs) f ≡ Some (slice_index_or vs f [])
at_some [] f h = absurd (omega arith)
at_some (v ∷ vs) zero h = refl
at_some (v ∷ vs) (suc f) h = at_some vs f (omega arith)

stands_at_end : (on : Basis) (w : Workflow) (order : List JobId) → FlowsAlong w order → (table : List (Option (List ℕ))) → Evaluated on w order (length order) table → (f : ℕ) → f < length w.files → IsSome (at table f) × (at table f ≡ value on w f)
stands_at_end on w order flow table stands f h =
    let here = stands f h (ap (λ (x : List JobId). is_there w x f) (take_all order) ∙ flow.files f h) in
    (here.there, here.value_is)

-- each file has a value at the end
pub all_there : (on : Basis) (w : Workflow) (order : List JobId) (i : ℕ) → FlowsAlong w order → i ≡ length order → (table : List (Option (List ℕ))) → length table ≡ length w.files → Evaluated on w order i table → IsSome (all_of table)
all_there on w order i flow last table long stands =
    let at_end : Evaluated on w order (length order) table = subst (λ (n : ℕ). Evaluated on w order n table) last stands in
    each_all table (λ f h. (stands_at_end on w order flow table at_end f (omega arith)).0)

-- the values at the end
pub ends_well : (on : Basis) (w : Workflow) (order : List JobId) (i : ℕ) → FlowsAlong w order → i ≡ length order → (table : List (Option (List ℕ))) → length table ≡ length w.files → Evaluated on w order i table → NoneBefore on w order i
    → (values : List (List ℕ)) → all_of table ≡ Some values → AreValues on w values × (first_undefined on w order ≡ None)
ends_well on w order i flow last table long stands none values all =
    let at_end : Evaluated on w order (length order) table = subst (λ (n : ℕ). Evaluated on w order n table) last stands in
    let none_at_end : NoneBefore on w order (length order) = subst (λ (n : ℕ). NoneBefore on w order n) last none in
    let each = each_some table values all in
    let many : length values ≡ length w.files = sym (ap length each ∙ length-map values Some) ∙ long in (
      record {
        many = many;
        each = λ f h. sym (stands_at_end on w order flow table at_end f h).1 ∙ ap (λ (x : List (Option (List ℕ))). at x f) each ∙ at_some values f (omega arith);
      },
      none_undefined on w order none_at_end,
    )
