-- The requested files of a workflow with their values.
use Rattle.std.proofs.Common.{◌≡◌, ℕ, suc, ◌+◌, ◌<◌, ◌≤◌, ◌||◌, ◌&&◌, Bool, true, false, cond, List, [], ◌∷◌, length, drop, get_or, replicate, refl, sym, ap, subst, ◌∙◌, add-one, drop-cons, arith}
use Rattle.std.specs.Prelude.{◌==◌, Some, slice_set}
use Rattle.std.specs.List.{list_any}
use Rattle.std.proofs.lemmas.Grind.{common_steps}
use Rattle.std.proofs.lemmas.Bool.Decides.{nat_tests}
use Rattle.outside.specs.code.Counts.{IsLater, Rose}
use Rattle.outside.specs.declared.counts.Counts.{Counts}
use Rattle.workflow_core.specs.declared.workflow.Workflow.{Workflow}
use Rattle.workflow_core.specs.declared.workflow.Job.{Job}
use Rattle.workflow_core.specs.declared.workflow.Output.{Output}
use Rattle.workflow_core.specs.Requested.{requests, is_requested}
use Rattle.workflow_core.specs.code.Requested.{requested, requested_from}
use Rattle.dependency_graph.specs.Value.{Basis, value}
use Rattle.workflow_eval.specs.Evaluating.{AreValues}
use Rattle.evaluation.specs.ValueLines.{AreValued, chosen, marked, marked_by, picked}

set_mark : (marks : List Bool) (k f : ℕ) → f < length marks → get_or (slice_set marks k true) f false ≡ ((k == f) || get_or marks f false)
set_mark marks k f h = grind (arith, common_steps, nat_tests)

length_one : (b : Bool) (marks : List Bool) (k : ℕ) → length (cond b (slice_set marks k true) marks) ≡ length marks
length_one true marks k = grind (arith, common_steps)
length_one false marks k = refl

at_one : (b : Bool) (marks : List Bool) (k f : ℕ) → f < length marks → get_or (cond b (slice_set marks k true) marks) f false ≡ ((b && (k == f)) || get_or marks f false)
at_one true marks k f h = set_mark marks k f h
at_one false marks k f h = refl

regroup : (a b c : Bool) → (a || (b || c)) ≡ ((b || a) || c)
regroup true true c = refl
regroup true false c = refl
regroup false true c = refl
regroup false false c = refl

length_marked : (os : List Output) (marks : List Bool) → length (marked os marks) ≡ length marks
length_marked [] marks = refl
length_marked (o ∷ os) marks = length_marked os (cond o.stage_out (slice_set marks o.file.0 true) marks) ∙ length_one o.stage_out marks o.file.0

at_marked : (os : List Output) (marks : List Bool) (f : ℕ) → f < length marks → get_or (marked os marks) f false ≡ (list_any (λ (o : Output). o.stage_out && (o.file.0 == f)) os || get_or marks f false)
at_marked [] marks f h = refl
at_marked (o ∷ os) marks f h =
    at_marked os (cond o.stage_out (slice_set marks o.file.0 true) marks) f (omega (arith, length_one o.stage_out marks o.file.0))
    ∙ ap (λ (b : Bool). list_any (λ (o : Output). o.stage_out && (o.file.0 == f)) os || b) (at_one o.stage_out marks o.file.0 f h)
    ∙ regroup (list_any (λ (o : Output). o.stage_out && (o.file.0 == f)) os) (o.stage_out && (o.file.0 == f)) (get_or marks f false)

length_marked_by : (js : List Job) (marks : List Bool) → length (marked_by js marks) ≡ length marks
length_marked_by [] marks = refl
length_marked_by (j ∷ js) marks = length_marked_by js (marked j.outputs marks) ∙ length_marked j.outputs marks

at_marked_by : (js : List Job) (marks : List Bool) (f : ℕ) → f < length marks → get_or (marked_by js marks) f false ≡ (list_any (requests f) js || get_or marks f false)
at_marked_by [] marks f h = refl
at_marked_by (j ∷ js) marks f h =
    at_marked_by js (marked j.outputs marks) f (omega (arith, length_marked j.outputs marks))
    ∙ ap (λ (b : Bool). list_any (requests f) js || b) (at_marked j.outputs marks f h)
    ∙ regroup (list_any (requests f) js) (requests f j) (get_or marks f false)

or_false : (a b : Bool) → b ≡ false → (a || b) ≡ a
or_false true b e = refl
or_false false b e = e

unmarked : (n f : ℕ) → f < n → get_or (replicate n false) f false ≡ false
unmarked n f h = grind (arith, common_steps)

pub length_all : (w : Workflow) → length (marked_by w.jobs (replicate (length w.files) false)) ≡ length w.files
length_all w = length_marked_by w.jobs (replicate (length w.files) false) ∙ grind (arith, common_steps)

mark_is : (w : Workflow) (f : ℕ) → f < length w.files → get_or (marked_by w.jobs (replicate (length w.files) false)) f false ≡ is_requested w f
mark_is w f h =
    let long : length (replicate (length w.files) false) ≡ length w.files = grind (arith, common_steps) in
    at_marked_by w.jobs (replicate (length w.files) false) f (omega (arith, long)) ∙ or_false (list_any (requests f) w.jobs) _ (unmarked (length w.files) f h)

at_mark : (on : Basis) (w : Workflow) (f : ℕ) (name v : List ℕ) (names values : List (List ℕ)) (marks : List Bool) (b : Bool) → name ≡ get_or w.files f [] → value on w f ≡ Some v
    → AreValued on w (requested_from w (suc f) names) (picked marks names values)
    → AreValued on w (cond b (f ∷ requested_from w (suc f) names) (requested_from w (suc f) names)) (picked (b ∷ marks) (name ∷ names) (v ∷ values))
at_mark on w f name v names values marks true named defined rest = (named, defined, rest)
at_mark on w f name v names values marks false named defined rest = rest

here : (f : ℕ) → f + 0 ≡ f
here f = omega arith

next : (f k : ℕ) → f + suc k ≡ suc f + k
next f k = omega arith

-- what is picked from file f on are the deliveries of the requested files from f on
picked_from : (on : Basis) (w : Workflow) (f : ℕ) (names : List (List ℕ)) (marks : List Bool) (values : List (List ℕ)) → length marks ≡ length names → length values ≡ length names
    → ((k : ℕ) → k < length names → get_or marks k false ≡ is_requested w (f + k)) → ((k : ℕ) → k < length names → get_or names k [] ≡ get_or w.files (f + k) [])
    → ((k : ℕ) → k < length names → value on w (f + k) ≡ Some (get_or values k [])) → AreValued on w (requested_from w f names) (picked marks names values)
picked_from on w f [] [] values p q are named defined = tt
picked_from on w f [] (m ∷ marks) values p q are named defined = absurd (omega arith)
picked_from on w f (name ∷ names) [] values p q are named defined = absurd (omega arith)
picked_from on w f (name ∷ names) (m ∷ marks) [] p q are named defined = absurd (omega arith)
picked_from on w f (name ∷ names) (m ∷ marks) (v ∷ values) p q are named defined =
    let rest = picked_from on w (suc f) names marks values (omega arith) (omega arith)
    (λ k h. are (suc k) (omega arith) ∙ ap (is_requested w) (next f k))
    (λ k h. named (suc k) (omega arith) ∙ ap (λ (i : ℕ). get_or w.files i []) (next f k))
    (λ k h. ap (value on w) (sym (next f k)) ∙ defined (suc k) (omega arith)) in
    let mark_is : m ≡ is_requested w f = are 0 (omega arith) ∙ ap (is_requested w) (here f) in
    subst (λ (x : Bool). AreValued on w (cond (is_requested w f) (f ∷ requested_from w (suc f) names) (requested_from w (suc f) names)) (picked (x ∷ marks) (name ∷ names) (v ∷ values)))
    (sym mark_is)
    (at_mark on w f name v names values marks (is_requested w f) (named 0 (omega arith) ∙ ap (λ (i : ℕ). get_or w.files i []) (here f)) (ap (value on w) (sym (here f)) ∙ defined 0 (omega arith)) rest)

-- the chosen files are the requested ones, with their values
pub chosen_are : (on : Basis) (w : Workflow) (values : List (List ℕ)) → AreValues on w values
    → AreValued on w (requested w) (chosen w values)
chosen_are on w values are =
    picked_from on w 0 w.files (marked_by w.jobs (replicate (length w.files) false)) values (length_all w) are.many
    (λ k h. mark_is w k h ∙ ap (is_requested w) (zero_more k))
    (λ k h. ap (λ (i : ℕ). get_or w.files i []) (zero_more k))
    (λ k h. ap (value on w) (sym (zero_more k)) ∙ are.each k h)
  where
    zero_more : (k : ℕ) → k ≡ 0 + k
    zero_more k = omega arith

-- what is picked from a place on
pub picked_here : (marks : List Bool) (names values : List (List ℕ)) (i : ℕ) (n v : List ℕ) → i < length marks → length marks ≡ length names → length marks ≡ length values
    → get_or marks i false ≡ true → n ≡ get_or names i n → v ≡ get_or values i v
    → picked (drop i marks) (drop i names) (drop i values) ≡ record { name = n; bytes = v } ∷ picked (drop (i + 1) marks) (drop (i + 1) names) (drop (i + 1) values)
picked_here marks names values i n v h p q marked n_is v_is =
    ap (λ (x : List Bool). picked x (drop i names) (drop i values)) (drop-cons marks i false h ∙ ap (λ (b : Bool). b ∷ drop (suc i) marks) marked)
    ∙ ap (λ (x : List (List ℕ)). picked (true ∷ drop (suc i) marks) x (drop i values)) (drop-cons names i n (omega arith) ∙ ap (λ (x : List ℕ). x ∷ drop (suc i) names) (sym n_is))
    ∙ ap (λ (x : List (List ℕ)). picked (true ∷ drop (suc i) marks) (n ∷ drop (suc i) names) x) (drop-cons values i v (omega arith) ∙ ap (λ (x : List ℕ). x ∷ drop (suc i) values) (sym v_is))
    ∙ ap (λ (k : ℕ). record { name = n; bytes = v } ∷ picked (drop k marks) (drop k names) (drop k values)) (sym (add-one i))

pub picked_not_here : (marks : List Bool) (names values : List (List ℕ)) (i : ℕ) → i < length marks → length marks ≡ length names → length marks ≡ length values → get_or marks i false ≡ false
    → picked (drop i marks) (drop i names) (drop i values) ≡ picked (drop (i + 1) marks) (drop (i + 1) names) (drop (i + 1) values)
picked_not_here marks names values i h p q unmarked =
    ap (λ (x : List Bool). picked x (drop i names) (drop i values)) (drop-cons marks i false h ∙ ap (λ (b : Bool). b ∷ drop (suc i) marks) unmarked)
    ∙ ap (λ (x : List (List ℕ)). picked (false ∷ drop (suc i) marks) x (drop i values)) (drop-cons names i [] (omega arith))
    ∙ ap (λ (x : List (List ℕ)). picked (false ∷ drop (suc i) marks) (get_or names i [] ∷ drop (suc i) names) x) (drop-cons values i [] (omega arith))
    ∙ ap (λ (k : ℕ). picked (drop k marks) (drop k names) (drop k values)) (sym (add-one i))

-- what rose since a later moment rose since an earlier one
pub rose_since : (from here to : Counts) → from.faults ≤ here.faults → Rose here.faults to.faults → Rose from.faults to.faults
rose_since from here to more rose = grind arith

pub later_still : (a b c : Counts) → IsLater a b → IsLater b c → IsLater a c
later_still a b c x y = record {
  done = omega (arith, x.done, y.done);
  faults = omega (arith, x.faults, y.faults);
  misses = omega (arith, x.misses, y.misses);
}
