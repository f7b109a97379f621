use Rattle.std.proofs.Common.{◌≡◌, ◌<◌, ℕ, List, length, ap, ◌∙◌}
use Rattle.std.specs.Prelude.{Vec}
use Rattle.std.specs.declared.alloc.Global.{Global}
use Rattle.digraph.specs.code.Adjacency.{lists_of}
use Rattle.digraph.specs.Adjacency.{neighbours}
use Rattle.plan_core.specs.Numbers.{has}
use Rattle.plan_core.specs.Words.{count_tasks, parents}
use Rattle.storage_simulation.proofs.GraphLemmas.{all_lists, lists_low}
use Rattle.storage_simulation.proofs.front.parent_graph.Goals as goal

pub new-requires-clause-in_range : goal.new-requires-clause-in_range
new-requires-clause-in_range c =
    let p = c.args.plan.now in
    let vs = c.deref.result.now in
    let long : length vs ≡ count_tasks p = ap length c.deref.ensures.value ∙ c.in_ok-lists.ensures.long in
    let are : (t : ℕ) → t < count_tasks p → neighbours (lists_of vs) t ≡ parents p t = λ t l. ap (λ (ws : List (Vec ℕ Global)). neighbours (lists_of ws) t) c.deref.ensures.value ∙ c.in_ok-lists.ensures.each t l in
    lists_low p vs long (all_lists p vs long are) (λ t u. c.parents_come_before.ensures.in_range p c.requires.proper t u)

pub returns-clause-edges : goal.returns-clause-edges
returns-clause-edges c =
    let p = c.args.plan.now in
    let vs = c.deref.result.now in
    let long : length vs ≡ count_tasks p = ap length c.deref.ensures.value ∙ c.in_ok-lists.ensures.long in
    let are : (t : ℕ) → t < count_tasks p → neighbours (lists_of vs) t ≡ parents p t = λ t l. ap (λ (ws : List (Vec ℕ Global)). neighbours (lists_of ws) t) c.deref.ensures.value ∙ c.in_ok-lists.ensures.each t l in
    λ u t. c.in_ok-graph.ensures.edges u t ∙ ap (λ (xs : List ℕ). has xs u) (all_lists p vs long are t)
