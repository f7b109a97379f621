-- An ensemble that was read is fit.
use Rattle.std.proofs.Common.{◌≡◌, ℕ, ◌≤◌, Bool, true, false, not, cond, ◌&&◌, List, [], ◌∷◌, ◌++◌, refl, sym, ap, ◌∙◌, subst}
use Rattle.std.specs.Prelude.{◌^◌, Option, Some, None, Result, Ok, Err, codes}
use Rattle.std.specs.List.{AllByRecursion, list_any}
use Rattle.std.specs.Str.{bytes_eq}
use Rattle.std.proofs.lemmas.Bool.{and_from}
use Rattle.serde_json.specs.Data.{Data}
use Rattle.peg_json.specs.Elements.{first_repeat}
use Rattle.peg_json.specs.Path.{key_path}
use Rattle.peg_json.specs.Tree.{then_read}
use Rattle.peg_json.specs.Table.{checks}
use Rattle.peg_json.specs.Tree.{list_in, tree_of}
use Rattle.peg_json.specs.Typed.{flag_of, name_of, optional, required}
use Rattle.peg_json.specs.declared.fault.TreeFault.{TreeFault}
use Rattle.peg_json.specs.declared.fault.TreeFault.TheVariants as faults
use Rattle.peg_json.specs.declared.read_fault.ReadFault.{ReadFault}
use Rattle.workflow_core.specs.code.WellFormed.{are_new}
use Rattle.plan_request.specs.declared.request.Execution.{Execution}
use Rattle.plan_request.specs.Request.{execution_of}
use Rattle.plan_request.specs.Request.{only_known}
use Rattle.plan_request.specs.Request.{cleanup_at, cluster_at}
use Rattle.plan_request.specs.code.RunPolicy.{IsPolicyInRange}
use Rattle.plan_request.specs.Request.{policy_of}
use Rattle.plan_request.specs.Request.{execute_checked}
use Rattle.plan_request.proofs.LimitsLemmas.{execution_small, policy_in_range}
use Rattle.plan_request.proofs.StepLemmas.{Always, list_has, passed, required_has, unwrapped}
use Rattle.ensemble.specs.declared.document.Ensemble.{Ensemble}
use Rattle.ensemble.specs.declared.document.MemberEntry.{MemberEntry}
use Rattle.ensemble.specs.Limits.{IsFit}
use Rattle.ensemble.specs.MemberEntry.{has_slash, member_of, member_rows, plain_name_at, without_slash}
use Rattle.ensemble.specs.Reader.{named_once, names_of, sited_of, sites_distinct, twice_refused}
use Rattle.ensemble.specs.Root.{ensemble_of, ensemble_rows}

-- ---- names

no_repeat : (known xs : List (List ℕ)) → first_repeat bytes_eq known xs ≡ None → are_new bytes_eq known xs ≡ true
no_repeat known [] h = refl
no_repeat known (x ∷ xs) h = by (list_any (bytes_eq x) known) refl h (λ k. no_repeat (known ++ x ∷ []) xs k)
  where
    by : (b : Bool) → list_any (bytes_eq x) known ≡ b → cond b (Some x) (first_repeat bytes_eq (known ++ x ∷ []) xs) ≡ None
        → (first_repeat bytes_eq (known ++ x ∷ []) xs ≡ None → are_new bytes_eq (known ++ x ∷ []) xs ≡ true) → (not (list_any (bytes_eq x) known) && are_new bytes_eq (known ++ x ∷ []) xs) ≡ true
    by true e k rest = absurd cc
    by false e k rest = and_from _ _ (ap not e) (rest k)

none_twice : (o : Option (List ℕ)) → twice_refused o ≡ Ok tt → o ≡ None
none_twice None h = refl
none_twice (Some n) h = absurd cc

-- ---- a member

plain_name : (path : List ℕ) (d : Data) (key name : List ℕ) → plain_name_at path d key ≡ Ok name → has_slash name ≡ false
plain_name path d key name h =
    let step = passed (required name_of path d key) (without_slash (key_path path key)) name h in
    by step.value (has_slash step.value) refl step.rest
  where
    by : (n : List ℕ) (b : Bool) → has_slash n ≡ b → cond b (Err (faults.WrongKind (key_path path key))) (Ok n) ≡ Ok name → has_slash name ≡ false
    by n true e k = absurd cc
    by n false e k = let same : n ≡ name = unwrapped n name k in sym (ap has_slash same) ∙ e

abbrev IsPlain : MemberEntry → Type 0
IsPlain m = has_slash m.name ≡ false

member_plain : Always member_of IsPlain
unfolding member_of
member_plain path d m h =
    let one = passed (checks path d member_rows) _ m h in
    let two = passed (only_known path d member_rows) _ m one.rest in
    let three = passed (plain_name_at path d (codes "name")) _ m two.rest in
    let four = passed (required name_of path d (codes "request")) _ m three.rest in
    subst IsPlain (unwrapped (record { name = three.value; request = four.value }) m four.rest) (plain_name path d (codes "name") three.value three.is)

-- ---- the whole

ensemble_plain : (d : Data) (e : Ensemble) → ensemble_of [] d ≡ Ok e → AllByRecursion IsPlain e.members × AllByRecursion (λ (x : Execution). x.bound ≤ 2 ^ 60) e.execute × IsPolicyInRange e.policy
unfolding ensemble_of
ensemble_plain d e h =
    let a = passed (checks [] d ensemble_rows) _ e h in
    let b = passed (only_known [] d ensemble_rows) _ e a.rest in
    let members = passed (required (list_in member_of) [] d (codes "members")) _ e b.rest in
    let execute = passed (required (list_in execution_of) [] d (codes "execute")) _ e members.rest in
    let f = passed (cluster_at [] d (codes "cluster")) _ e execute.rest in
    let g = passed (cleanup_at [] d (codes "cleanup")) _ e f.rest in
    let i = passed (optional flag_of [] d (codes "force")) _ e g.rest in
    let policy = passed (policy_of [] d) _ e i.rest in
    subst (λ (q : Ensemble). AllByRecursion IsPlain q.members × AllByRecursion (λ (x : Execution). x.bound ≤ 2 ^ 60) q.execute × IsPolicyInRange q.policy) (unwrapped _ e policy.rest) (
      required_has (list_in member_of) (AllByRecursion IsPlain) (list_has member_of IsPlain member_plain) [] d (codes "members") members.value members.is,
      required_has (list_in execution_of) (AllByRecursion (λ (x : Execution). x.bound ≤ 2 ^ 60)) (list_has execution_of (λ (x : Execution). x.bound ≤ 2 ^ 60) execution_small) [] d (codes "execute") execute.value execute.is,
      policy_in_range [] d policy.value policy.is,
    )

then_ok : {A B : Type 0} (m : Result A TreeFault) (k : A → Result B ReadFault) (y : B) → then_read m k ≡ Ok y → (x : A) × (m ≡ Ok x) × (k x ≡ Ok y)
then_ok (Ok x) k y e = (x, refl, e)
then_ok (Err f) k y e = absurd cc

-- what the tree and the execution sites give
record IsSited (e : Ensemble) : Type 0 where
  plain_names : AllByRecursion IsPlain e.members
  bounds : AllByRecursion (λ (x : Execution). x.bound ≤ 2 ^ 60) e.execute
  policy : IsPolicyInRange e.policy
  sites : execute_checked e.execute ≡ Ok tt

unit_only : (u : Unit {0}) → tt ≡ u
unit_only tt = refl

sited : (bytes : List ℕ) (e : Ensemble) → sited_of bytes ≡ Ok e → IsSited e
unfolding sited_of
sited bytes e h =
    let one = then_ok (tree_of bytes) _ e h in
    let two = then_ok (ensemble_of [] one.0) sites_distinct e one.2 in
    let three = passed (execute_checked two.0.execute) (λ _. Ok two.0) e two.2 in
    let same : two.0 ≡ e = let k : Ok two.0 ≡ Ok e = three.rest in cc in
    let all = ensemble_plain one.0 two.0 two.1 in
    subst IsSited same (record { plain_names = all.0; bounds = all.1; policy = all.2; sites = three.is ∙ ap Ok (sym (unit_only three.value)) })

-- an ensemble whose sites and members were checked
pub fit : (bytes : List ℕ) (e : Ensemble) (ms : List MemberEntry) → sited_of bytes ≡ Ok e → ms ≡ e.members → named_once ms ≡ Ok tt → IsFit e
fit bytes e ms read same once =
    let said = sited bytes e read in
    record {
      distinct = no_repeat [] (names_of e.members) (none_twice _ (ap named_once (sym same) ∙ once));
      plain_names = said.plain_names;
      sites = said.sites;
      bounds = said.bounds;
      policy = said.policy;
    }
