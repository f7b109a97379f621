-- What is found under a member's name: in the member's own entries, and never in another's.
use Rattle.std.proofs.Common.{◌≡◌, ℕ, Bool, true, false, cond, List, [], ◌∷◌, ◌++◌, map, refl, sym, ap, ◌∙◌}
use Rattle.std.specs.Prelude.{Option, Some, None, find, option_map}
use Rattle.std.specs.Cmp.Lexicographic.{bytes_decides}
use Rattle.std.specs.Map.{lookup}
use Rattle.std.specs.Option.{option_or}
use Rattle.std.specs.Str.{bytes_eq}
use Rattle.workflow_core.specs.declared.workflow.Job.{Job}
use Rattle.replica_catalog.specs.declared.catalog.Replica.{Replica}
use Rattle.replica_catalog.specs.Lookup.{is_of}
use Rattle.plan_request.specs.declared.request.ToolOf.{ToolOf}
use Rattle.plan_request.specs.JobTools.{named_tool, tool_of}
use Rattle.dependency_graph.specs.Edges.{has_output, producer}
use Rattle.ensemble.specs.Entries.{replica_of}
use Rattle.ensemble.specs.MemberEntry.{has_slash}
use Rattle.ensemble.specs.Prefix.{prefixed}
use Rattle.ensemble.specs.Stated.{stated_tools}
use Rattle.ensemble.proofs.PrefixLemmas.{other_prefixed, own_name, own_prefixed}

pub or_nothing : {V : Type 0} (o : Option V) → option_or o None ≡ o
or_nothing None = refl
or_nothing (Some v) = refl

-- ---- replicas

pub own_replica : (m lfn : List ℕ) → has_slash m ≡ false → (es : List Replica) → find (is_of (prefixed m lfn)) (map (replica_of m) es) ≡ option_map (replica_of m) (find (is_of lfn) es)
own_replica m lfn p [] = refl
own_replica m lfn p (e ∷ es) =
    ap (λ (t : Bool). cond t (Some (replica_of m e)) (find (is_of (prefixed m lfn)) (map (replica_of m) es))) (own_prefixed m lfn e.lfn p)
    ∙ by (is_of lfn e) (own_replica m lfn p es)
  where
    by : (t : Bool) → find (is_of (prefixed m lfn)) (map (replica_of m) es) ≡ option_map (replica_of m) (find (is_of lfn) es)
        → cond t (Some (replica_of m e)) (find (is_of (prefixed m lfn)) (map (replica_of m) es)) ≡ option_map (replica_of m) (cond t (Some e) (find (is_of lfn) es))
    by true h = refl
    by false h = h

pub other_replica : (m n lfn : List ℕ) → has_slash m ≡ false → has_slash n ≡ false → bytes_eq m n ≡ false → (es : List Replica) → find (is_of (prefixed m lfn)) (map (replica_of n) es) ≡ None
other_replica m n lfn p q h [] = refl
other_replica m n lfn p q h (e ∷ es) =
    ap (λ (t : Bool). cond t (Some (replica_of n e)) (find (is_of (prefixed m lfn)) (map (replica_of n) es))) (other_prefixed m n lfn e.lfn p q h)
    ∙ other_replica m n lfn p q h es

-- ---- tools

pub lookup_joined : {V : Type 0} (test : List ℕ → Bool) (xs ys : List (List ℕ × V)) → lookup test (xs ++ ys) ≡ option_or (lookup test xs) (lookup test ys)
lookup_joined test [] ys = refl
lookup_joined {V} test (x ∷ xs) ys = by (test x.0) (lookup_joined test xs ys)
  where
    by : (t : Bool) → lookup test (xs ++ ys) ≡ option_or (lookup test xs) (lookup test ys) → cond t (Some x.1) (lookup test (xs ++ ys)) ≡ option_or (cond t (Some x.1) (lookup test xs)) (lookup test ys)
    by true h = refl
    by false h = h

abbrev pub found_tool : List ToolOf → List ℕ → Option (List ℕ)
found_tool tools t = lookup (bytes_eq t) (map named_tool tools)

pub other_tool : (m n t : List ℕ) (tools : List ToolOf) → has_slash m ≡ false → has_slash n ≡ false → bytes_eq m n ≡ false → (js : List Job) → found_tool (stated_tools n tools js) (prefixed m t) ≡ None
other_tool m n t tools p q h [] = refl
other_tool m n t tools p q h (j ∷ js) =
    ap (λ (b : Bool). cond b (Some (tool_of tools j.transformation.name)) (found_tool (stated_tools n tools js) (prefixed m t))) (other_prefixed m n t j.transformation.name p q h)
    ∙ other_tool m n t tools p q h js

-- the name of a job's transformation
abbrev pub name_of : Job → List ℕ
name_of j = j.transformation.name

-- the tool that is stated for the producer of a file
pub own_tool : (m : List ℕ) (tools : List ToolOf) → has_slash m ≡ false → (js : List Job) (f : ℕ) (j : Job) → producer js f ≡ Some j → found_tool (stated_tools m tools js) (prefixed m (name_of j)) ≡ Some (tool_of tools (name_of j))
own_tool m tools p [] f j e = absurd cc
own_tool m tools p (x ∷ js) f j e =
    ap (λ (b : Bool). cond b (Some (tool_of tools (name_of x))) rest) (own_prefixed m (name_of j) (name_of x) p)
    ∙ by (bytes_eq (name_of j) (name_of x)) refl (has_output f x) e (λ h. own_tool m tools p js f j h)
  where
    rest : Option (List ℕ)
    rest = found_tool (stated_tools m tools js) (prefixed m (name_of j))

    by : (b : Bool) → bytes_eq (name_of j) (name_of x) ≡ b → (t : Bool) → cond t (Some x) (producer js f) ≡ Some j → (producer js f ≡ Some j → rest ≡ Some (tool_of tools (name_of j))) → cond b (Some (tool_of tools (name_of x))) rest ≡ Some (tool_of tools (name_of j))
    by true h t k on = ap (λ (n : List ℕ). Some (tool_of tools n)) (sym ((bytes_decides (name_of j) (name_of x)).0 h))
    by false h true k on = absurd (let same : x ≡ j = cc in let is : bytes_eq (name_of j) (name_of x) ≡ true = ap (λ (y : Job). bytes_eq (name_of j) (name_of y)) same ∙ own_name (name_of j) in cc)
    by false h false k on = on k
