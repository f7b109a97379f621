-- The sizes of a document that was read are small, and so are those of its workflow.
use Rattle.std.proofs.Common.{◌≡◌, ℕ, ◌≤◌, Bool, true, false, cond, List, [], ◌∷◌, ◌++◌, map, refl, subst, nat_lt, arith}
use Rattle.std.specs.Prelude.{◌^◌, Option, Some, None, Ok, Err, codes, option_and_then}
use Rattle.std.specs.Option.{option_or}
use Rattle.std.specs.List.{AllByRecursion}
use Rattle.std.specs.Str.{bytes_eq}
use Rattle.serde_json.specs.Data.{Data}
use Rattle.serde_json.specs.Find as find
use Rattle.peg_json.specs.Tree.{some_or, list_in}
use Rattle.peg_json.specs.Table.{checks}
use Rattle.peg_json.specs.declared.fault.TreeFault.TheVariants as faults
use Rattle.peg_json.specs.Typed.{required, optional, any_of, text_of, name_of, number_of, number_within, flag_of}
use Rattle.peg_json.specs.Versions.{version_at}
use Rattle.workflow_core.specs.code.WellFormed.{IsSmallSize}
use Rattle.workflow_reader.specs.declared.document.JobEntry.{JobEntry}
use Rattle.workflow_reader.specs.declared.document.Use.{Use}
use Rattle.workflow_reader.specs.Workflow.{argument_of}
use Rattle.workflow_reader.specs.Workflow.{constant_at}
use Rattle.workflow_reader.specs.Workflow.{DocumentEntry}
use Rattle.workflow_reader.specs.Workflow.{dependency_of}
use Rattle.peg_json.specs.Profiles.{profiles_or_none}
use Rattle.workflow_reader.specs.Workflow.{job_rows, job_of}
use Rattle.peg_json.specs.Typed.{list_or_none}
use Rattle.workflow_reader.specs.Workflow.{workflow_document_rows, workflow_document_of}
use Rattle.workflow_reader.specs.code.Small.{IsSmallUse, AreSmall}
use Rattle.workflow_reader.specs.Workflow.{use_rows, direction_at, use_of}
use Rattle.workflow_reader.specs.Linking.{uses_of, first_size, files_of, sizes_of}
use Rattle.workflow_reader.proofs.StepLemmas.{passed, unwrapped, IfThere, required_has, optional_has, list_has, list_or_none_has}

number_small : (limit : ℕ) (path : List ℕ) (n m : ℕ) → number_within limit path n ≡ Ok m → m ≤ limit
number_small limit path n m h = by (nat_lt limit n) refl h
  where
    by : (b : Bool) → nat_lt limit n ≡ b → cond b (Err (faults.OutOfRange path n)) (Ok n) ≡ Ok m → m ≤ limit
    by true e k = absurd cc
    by false e k = let same : n ≡ m = unwrapped n m k in grind (arith, e, same)

number_of_small : (limit : ℕ) (path : List ℕ) (d : Data) (m : ℕ) → number_of limit path d ≡ Ok m → m ≤ limit
number_of_small limit path d m h = let step = passed (some_or (faults.WrongKind path) (option_and_then find.as_u64 (find.as_number d))) (number_within limit path) m h in number_small limit path step.value m step.rest

size_small : (o : Option ℕ) → IfThere (λ n. n ≤ 2 ^ 40) o → IsSmallSize o
size_small None there = tt
size_small (Some n) there = there

use_small : (path : List ℕ) (d : Data) (u : Use) → use_of path d ≡ Ok u → IsSmallUse u
unfolding use_of
use_small path d u h =
    let one = passed (checks path d use_rows) _ u h in
    let two = passed (required name_of path d (codes "lfn")) _ u one.rest in
    let three = passed (direction_at path d (codes "type")) _ u two.rest in
    let four = passed (optional flag_of path d (codes "stageOut")) _ u three.rest in
    let five = passed (optional flag_of path d (codes "registerReplica")) _ u four.rest in
    let six = passed (optional (number_of (2 ^ 40)) path d (codes "size")) _ u five.rest in
    subst IsSmallUse (unwrapped _ u six.rest) (size_small six.value (optional_has (number_of (2 ^ 40)) (λ n. n ≤ 2 ^ 40) (number_of_small (2 ^ 40)) path d (codes "size") six.value six.is))

job_small : (path : List ℕ) (d : Data) (j : JobEntry) → job_of path d ≡ Ok j → AllByRecursion IsSmallUse j.uses
unfolding job_of
job_small path d j h =
    let one = passed (checks path d job_rows) _ j h in
    let two = passed (constant_at (codes "job") path d (codes "type")) _ j one.rest in
    let three = passed (required name_of path d (codes "id")) _ j two.rest in
    let four = passed (required name_of path d (codes "name")) _ j three.rest in
    let five = passed (optional text_of path d (codes "namespace")) _ j four.rest in
    let six = passed (optional text_of path d (codes "version")) _ j five.rest in
    let seven = passed (list_or_none argument_of path d (codes "arguments")) _ j six.rest in
    let eight = passed (list_or_none use_of path d (codes "uses")) _ j seven.rest in
    let nine = passed (profiles_or_none path d (codes "profiles")) _ j eight.rest in
    subst (λ (k : JobEntry). AllByRecursion IsSmallUse k.uses) (unwrapped _ j nine.rest) (list_or_none_has use_of IsSmallUse use_small path d (codes "uses") eight.value eight.is)

pub document_small : (path : List ℕ) (d : Data) (e : DocumentEntry) → workflow_document_of path d ≡ Ok e → AreSmall e.jobs
unfolding workflow_document_of
document_small path d e h =
    let one = passed (checks path d workflow_document_rows) _ e h in
    let two = passed (version_at path d (codes "pegasus")) _ e one.rest in
    let three = passed (required text_of path d (codes "name")) _ e two.rest in
    let four = passed (required (list_in job_of) path d (codes "jobs")) _ e three.rest in
    let five = passed (list_or_none dependency_of path d (codes "jobDependencies")) _ e four.rest in
    let six = passed (optional any_of path d (codes "siteCatalog")) _ e five.rest in
    let seven = passed (optional any_of path d (codes "replicaCatalog")) _ e six.rest in
    let eight = passed (optional any_of path d (codes "transformationCatalog")) _ e seven.rest in
    subst (λ (f : DocumentEntry). AreSmall f.jobs) (unwrapped _ e eight.rest) (required_has (list_in job_of) AreSmall (list_has job_of (λ (j : JobEntry). AllByRecursion IsSmallUse j.uses) job_small) path d (codes "jobs") four.value four.is)

-- ---- the sizes of files

pub all_joined : {A : Type 0} (P : A → Type 0) (xs ys : List A) → AllByRecursion P xs → AllByRecursion P ys → AllByRecursion P (xs ++ ys)
all_joined P [] ys h k = k
all_joined P (x ∷ xs) ys h k = (h.0, all_joined P xs ys h.1 k)

uses_small : (js : List JobEntry) → AreSmall js → AllByRecursion IsSmallUse (uses_of js)
uses_small [] small = tt
uses_small (j ∷ js) small = all_joined IsSmallUse j.uses (uses_of js) small.0 (uses_small js small.1)

or_small : (a b : Option ℕ) → IsSmallSize a → IsSmallSize b → IsSmallSize (option_or a b)
or_small None b h k = k
or_small (Some n) b h k = h

first_small : (us : List Use) (f : List ℕ) → AllByRecursion IsSmallUse us → IsSmallSize (first_size us f)
first_small [] f small = tt
first_small (u ∷ us) f small = or_small (cond (bytes_eq u.lfn f) u.size None) (first_size us f) (by (bytes_eq u.lfn f)) (first_small us f small.1)
  where
    by : (b : Bool) → IsSmallSize (cond b u.size None)
    by true = small.0
    by false = tt

each_first : (us : List Use) (fs : List (List ℕ)) → AllByRecursion IsSmallUse us → AllByRecursion IsSmallSize (map (first_size us) fs)
each_first us [] small = tt
each_first us (f ∷ fs) small = (first_small us f small, each_first us fs small)

pub sizes_small : (js : List JobEntry) → AreSmall js → AllByRecursion IsSmallSize (sizes_of js)
sizes_small js small = each_first (uses_of js) (files_of js) (uses_small js small)
