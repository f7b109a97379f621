use Rattle.std.proofs.Common.{◌≡◌, ◌<◌, ℕ, List, length, max, ap, sym, ◌∙◌, subst}
use Rattle.std.specs.Prelude.{Vec}
use Rattle.std.specs.declared.alloc.Global.{Global}
use Rattle.digraph.specs.code.Adjacency.{lists_of}
use Rattle.digraph.specs.Adjacency.{neighbours}
use Rattle.plan_core.specs.declared.plan.Pair.{Pair}
use Rattle.plan_core.specs.declared.plan.Task.{Task}
use Rattle.plan_core.specs.Numbers.{has}
use Rattle.plan_core.specs.Words.{count_pairs, count_tasks}
use Rattle.cleanup_refiner.specs.Cleans.{touched}
use Rattle.cleanup_refiner.proofs.TouchingLemmas.{all_lists, lists_low, max_left, max_right}
use Rattle.cleanup_refiner.proofs.touching.touching.Goals as goal

pub new-requires-clause-in_range : goal.new-requires-clause-in_range
new-requires-clause-in_range c =
    let p = c.args.plan.now in
    let vs = c.deref.result.now in
    let n = max (count_tasks p) (count_pairs p) in
    let many : c.max-nodes.result ≡ n = c.max-nodes.ensures ∙ ap (λ (ts : List Task). max (length ts) (length c.as_slice.result.now)) c.as_slice-tasks.ensures ∙ ap (λ (qs : List Pair). max (count_tasks p) (length qs)) c.as_slice.ensures in
    let long : length vs ≡ n = ap length c.deref.ensures.value ∙ c.in_ok-lists.ensures.long ∙ many in
    let are : (t : ℕ) → t < n → neighbours (lists_of vs) t ≡ touched p t = λ t l. ap (λ (ws : List (Vec ℕ Global)). neighbours (lists_of ws) t) c.deref.ensures.value ∙ c.in_ok-lists.ensures.lists t (subst (λ m. t < m) (sym many) l) in
    lists_low p vs n long (max_right (count_tasks p) (count_pairs p)) (all_lists p vs n long (max_left (count_tasks p) (count_pairs p)) are) (c.files_are_listed_by_pair.ensures.in_range p c.requires)

pub returns-clause-edges : goal.returns-clause-edges
returns-clause-edges c =
    let p = c.args.plan.now in
    let vs = c.deref.result.now in
    let n = max (count_tasks p) (count_pairs p) in
    let many : c.max-nodes.result ≡ n = c.max-nodes.ensures ∙ ap (λ (ts : List Task). max (length ts) (length c.as_slice.result.now)) c.as_slice-tasks.ensures ∙ ap (λ (qs : List Pair). max (count_tasks p) (length qs)) c.as_slice.ensures in
    let long : length vs ≡ n = ap length c.deref.ensures.value ∙ c.in_ok-lists.ensures.long ∙ many in
    let are : (t : ℕ) → t < n → neighbours (lists_of vs) t ≡ touched p t = λ t l. ap (λ (ws : List (Vec ℕ Global)). neighbours (lists_of ws) t) c.deref.ensures.value ∙ c.in_ok-lists.ensures.lists t (subst (λ m. t < m) (sym many) l) in
    λ q t. c.in_ok-graph.ensures.edges q t ∙ ap (λ (xs : List ℕ). has xs q) (all_lists p vs n long (max_left (count_tasks p) (count_pairs p)) are t)
