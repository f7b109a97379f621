-- A request that was read is within the limits.
use Rattle.std.proofs.Common.{◌≡◌, ℕ, ◌≤◌, Bool, true, false, cond, List, [], ◌∷◌, map, refl, subst, nat_eq, nat_lt, ◌≢◌, arith}
use Rattle.std.specs.Prelude.{◌^◌, Option, Some, None, Ok, Err, codes, option_and_then, unwrap_or}
use Rattle.std.specs.List.{AllByRecursion}
use Rattle.serde_json.specs.Data.{Data}
use Rattle.serde_json.specs.Find as find
use Rattle.values.specs.declared.policy.Policy.{Policy}
use Rattle.peg_json.specs.Entries.{entries_in}
use Rattle.peg_json.specs.Tree.{some_or, list_in}
use Rattle.peg_json.specs.Table.{checks}
use Rattle.peg_json.specs.declared.fault.TreeFault.TheVariants as faults
use Rattle.peg_json.specs.Typed.{required, optional, name_of, number_of, number_within, flag_of}
use Rattle.plan_request.specs.declared.request.Execution.{Execution}
use Rattle.plan_request.specs.declared.request.PlanRequest.{PlanRequest}
use Rattle.plan_request.specs.declared.request.SizeOf.{SizeOf}
use Rattle.plan_request.specs.Request.{execution_rows, execution_of}
use Rattle.plan_request.specs.Request.{only_known}
use Rattle.plan_request.specs.code.Limits.{IsRuntimeInRange, IsSmallDefault, IsWithinLimits}
use Rattle.plan_request.specs.Request.{cluster_at, cleanup_at}
use Rattle.plan_request.specs.code.RunPolicy.{IsPolicyInRange, IsSmallBound}
use Rattle.plan_request.specs.Request.{policy_of}
use Rattle.plan_request.specs.Request.{request_rows, request_of}
use Rattle.plan_request.specs.Request.{selector_at, rate_given, rate_at, runtimes_or_none}
use Rattle.plan_request.specs.Request.{positive}
use Rattle.plan_request.specs.Request.{runtime_rows, runtime_of}
use Rattle.plan_request.specs.declared.request.Runtime.{Runtime}
use Rattle.peg_json.specs.Path.{key_path}
use Rattle.std.proofs.lemmas.Bool.{eqb-false}
use Rattle.plan_request.specs.Request.{size_of, size_entry, size_entries_of, sizes_or_none}
use Rattle.plan_request.specs.Request.{tools_or_none}
use Rattle.plan_request.proofs.StepLemmas.{passed, unwrapped, Always, IfThere, required_has, optional_has, list_has, entries_have}

number_small : (limit : ℕ) (path : List ℕ) (n m : ℕ) → number_within limit path n ≡ Ok m → m ≤ limit
number_small limit path n m h = by (nat_lt limit n) refl h
  where
    by : (b : Bool) → nat_lt limit n ≡ b → cond b (Err (faults.OutOfRange path n)) (Ok n) ≡ Ok m → m ≤ limit
    by true e k = absurd cc
    by false e k = let same : n ≡ m = unwrapped n m k in grind (arith, e, same)

number_of_small : (limit : ℕ) → Always (number_of limit) (λ m. m ≤ limit)
number_of_small limit path d m h = let step = passed (some_or (faults.WrongKind path) (option_and_then find.as_u64 (find.as_number d))) (number_within limit path) m h in number_small limit path step.value m step.rest

pub execution_small : Always execution_of (λ (e : Execution). e.bound ≤ 2 ^ 60)
unfolding execution_of
execution_small path d e h =
    let one = passed (checks path d execution_rows) _ e h in
    let two = passed (only_known path d execution_rows) _ e one.rest in
    let three = passed (required name_of path d (codes "site")) _ e two.rest in
    let four = passed (required (number_of (2 ^ 60)) path d (codes "bound")) _ e three.rest in
    subst (λ (x : Execution). x.bound ≤ 2 ^ 60) (unwrapped (record { site = three.value; bound = four.value }) e four.rest) (required_has (number_of (2 ^ 60)) (λ m. m ≤ 2 ^ 60) (number_of_small (2 ^ 60)) path d (codes "bound") four.value four.is)

abbrev IsSmall : SizeOf → Type 0
IsSmall s = s.size ≤ 2 ^ 40

entries_small : (es : List (List ℕ × ℕ)) → AllByRecursion (λ (e : List ℕ × ℕ). e.1 ≤ 2 ^ 40) es → AllByRecursion IsSmall (map size_entry es)
entries_small [] small = tt
entries_small (e ∷ es) small = (small.0, entries_small es small.1)

sizes_small : Always size_entries_of (AllByRecursion IsSmall)
unfolding size_entries_of
sizes_small path d ss h =
    let step = passed (entries_in size_of path d) (λ entries. Ok (map size_entry entries)) ss h in
    subst (λ (xs : List SizeOf). AllByRecursion IsSmall xs) (unwrapped (map size_entry step.value) ss step.rest) (entries_small step.value (entries_have size_of (λ m. m ≤ 2 ^ 40) (number_of_small (2 ^ 40)) path d step.value step.is))

sizes_or_none_small : (path : List ℕ) (d : Data) (key : List ℕ) (ss : List SizeOf) → sizes_or_none path d key ≡ Ok ss → AllByRecursion IsSmall ss
sizes_or_none_small path d key ss h =
    let step = passed (optional size_entries_of path d key) (λ found. Ok (unwrap_or found [])) ss h in
    subst (λ (xs : List SizeOf). AllByRecursion IsSmall xs) (unwrapped (unwrap_or step.value []) ss step.rest) (by step.value (optional_has size_entries_of (AllByRecursion IsSmall) sizes_small path d key step.value step.is))
  where
    by : (o : Option (List SizeOf)) → IfThere (AllByRecursion IsSmall) o → AllByRecursion IsSmall (unwrap_or o [])
    by None there = tt
    by (Some xs) there = there

default_small : (o : Option ℕ) → IfThere (λ n. n ≤ 2 ^ 40) o → IsSmallDefault o
default_small None there = tt
default_small (Some n) there = there

positive_is : (path : List ℕ) (n m : ℕ) → positive path n ≡ Ok m → (1 ≤ m) × (m ≡ n)
positive_is path n m h = by (nat_eq n 0) refl h
  where
    by : (b : Bool) → nat_eq n 0 ≡ b → cond b (Err (faults.OutOfRange path n)) (Ok n) ≡ Ok m → (1 ≤ m) × (m ≡ n)
    by true e k = absurd cc
    by false e k = let same : n ≡ m = unwrapped n m k in let some : n ≢ 0 = eqb-false n 0 e in (omega arith, omega arith)

rate_in_range : (path : List ℕ) (d : Data) (key : List ℕ) (n : ℕ) → rate_at path d key ≡ Ok n → (1 ≤ n) × (n ≤ 2 ^ 40)
rate_in_range path d key n h =
    let step = passed (optional (number_of (2 ^ 40)) path d key) (rate_given (key_path path key)) n h in
    by step.value (optional_has (number_of (2 ^ 40)) (λ m. m ≤ 2 ^ 40) (number_of_small (2 ^ 40)) path d key step.value step.is) step.rest
  where
    by : (o : Option ℕ) → IfThere (λ m. m ≤ 2 ^ 40) o → rate_given (key_path path key) o ≡ Ok n → (1 ≤ n) × (n ≤ 2 ^ 40)
    by None there k = let one : 1 ≡ n = unwrapped 1 n k in (omega arith, omega arith)
    by (Some m) there k = let is = positive_is (key_path path key) m n k in (is.0, omega (arith, is.1, there))

runtime_in_range : Always runtime_of IsRuntimeInRange
unfolding runtime_of
runtime_in_range path d e h =
    let one = passed (checks path d runtime_rows) _ e h in
    let two = passed (only_known path d runtime_rows) _ e one.rest in
    let three = passed (required name_of path d (codes "transformation")) _ e two.rest in
    let four = passed (required name_of path d (codes "site")) _ e three.rest in
    let five = passed (required (number_of (2 ^ 32)) path d (codes "seconds")) _ e four.rest in
    let six = passed (positive (key_path path (codes "seconds")) five.value) _ e five.rest in
    let small = required_has (number_of (2 ^ 32)) (λ m. m ≤ 2 ^ 32) (number_of_small (2 ^ 32)) path d (codes "seconds") five.value five.is in
    let is = positive_is (key_path path (codes "seconds")) five.value six.value six.is in
    subst IsRuntimeInRange (unwrapped (record { transformation = three.value; site = four.value; seconds = six.value }) e six.rest) (is.0, omega (arith, is.1, small))

runtimes_in_range : (path : List ℕ) (d : Data) (key : List ℕ) (ts : List Runtime) → runtimes_or_none path d key ≡ Ok ts → AllByRecursion IsRuntimeInRange ts
runtimes_in_range path d key ts h =
    let step = passed (optional (list_in runtime_of) path d key) (λ found. Ok (unwrap_or found [])) ts h in
    subst (λ (xs : List Runtime). AllByRecursion IsRuntimeInRange xs) (unwrapped (unwrap_or step.value []) ts step.rest) (by step.value (optional_has (list_in runtime_of) (AllByRecursion IsRuntimeInRange) (list_has runtime_of IsRuntimeInRange runtime_in_range) path d key step.value step.is))
  where
    by : (o : Option (List Runtime)) → IfThere (AllByRecursion IsRuntimeInRange) o → AllByRecursion IsRuntimeInRange (unwrap_or o [])
    by None there = tt
    by (Some xs) there = there

few_retries : (o : Option ℕ) → IfThere (λ n. n ≤ 10) o → unwrap_or o 0 ≤ 10
few_retries None there = omega arith
few_retries (Some n) there = there

small_bound : (o : Option ℕ) → IfThere (λ n. n ≤ 2 ^ 60) o → IsSmallBound o
small_bound None there = tt
small_bound (Some n) there = there

pub policy_in_range : (path : List ℕ) (d : Data) (p : Policy) → policy_of path d ≡ Ok p → IsPolicyInRange p
unfolding policy_of
policy_in_range path d p h =
    let one = passed (optional (number_of 10) path d (codes "retries")) _ p h in
    let two = passed (optional flag_of path d (codes "fresh")) _ p one.rest in
    let three = passed (optional (number_of (2 ^ 60)) path d (codes "output_bound")) _ p two.rest in
    subst IsPolicyInRange (unwrapped _ p three.rest) (record {
      retries = few_retries one.value (optional_has (number_of 10) (λ n. n ≤ 10) (number_of_small 10) path d (codes "retries") one.value one.is);
      output = small_bound three.value (optional_has (number_of (2 ^ 60)) (λ n. n ≤ 2 ^ 60) (number_of_small (2 ^ 60)) path d (codes "output_bound") three.value three.is);
    })

pub request_small : (path : List ℕ) (d : Data) (r : PlanRequest) → request_of path d ≡ Ok r → IsWithinLimits r
unfolding request_of
request_small path d r h =
    let a = passed (checks path d request_rows) _ r h in
    let b = passed (only_known path d request_rows) _ r a.rest in
    let c = passed (required name_of path d (codes "workflow")) _ r b.rest in
    let e = passed (optional name_of path d (codes "sites")) _ r c.rest in
    let f = passed (optional name_of path d (codes "replicas")) _ r e.rest in
    let g = passed (optional name_of path d (codes "transformations")) _ r f.rest in
    let execute = passed (required (list_in execution_of) path d (codes "execute")) _ r g.rest in
    let sizes = passed (sizes_or_none path d (codes "sizes")) _ r execute.rest in
    let default = passed (optional (number_of (2 ^ 40)) path d (codes "default_size")) _ r sizes.rest in
    let i = passed (cluster_at path d (codes "cluster")) _ r default.rest in
    let j = passed (cleanup_at path d (codes "cleanup")) _ r i.rest in
    let k = passed (optional flag_of path d (codes "force")) _ r j.rest in
    let l = passed (tools_or_none path d (codes "tools")) _ r k.rest in
    let policy = passed (policy_of path d) _ r l.rest in
    let m = passed (selector_at path d (codes "selector")) _ r policy.rest in
    let rate = passed (rate_at path d (codes "rate")) _ r m.rest in
    let runtimes = passed (runtimes_or_none path d (codes "runtimes")) _ r rate.rest in
    subst (λ (q : PlanRequest). IsWithinLimits q) (unwrapped _ r runtimes.rest) (record {
      bounds = required_has (list_in execution_of) (AllByRecursion (λ (x : Execution). x.bound ≤ 2 ^ 60)) (list_has execution_of (λ (x : Execution). x.bound ≤ 2 ^ 60) execution_small) path d (codes "execute") execute.value execute.is;
      sizes = sizes_or_none_small path d (codes "sizes") sizes.value sizes.is;
      default_size = default_small default.value (optional_has (number_of (2 ^ 40)) (λ n. n ≤ 2 ^ 40) (number_of_small (2 ^ 40)) path d (codes "default_size") default.value default.is);
      policy = policy_in_range path d policy.value policy.is;
      rate = rate_in_range path d (codes "rate") rate.value rate.is;
      runtimes = runtimes_in_range path d (codes "runtimes") runtimes.value runtimes.is;
    })
