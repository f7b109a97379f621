use Rattle.std.proofs.Common.{◌≡◌, ◌<◌, ℕ, List, length, ap, ◌∙◌}
use Rattle.std.specs.Prelude.{Vec, slice_get}
use Rattle.std.specs.declared.alloc.Global.{Global}
use Rattle.digraph.specs.code.Adjacency.{lists_of}
use Rattle.digraph.specs.Adjacency.{neighbours}
use Rattle.plan_core.specs.code.Listing.{nodes, awaited}
use Rattle.plan_core.proofs.FlowLemmas.{awaited_edges, awaited_low}
use Rattle.plan_core.proofs.flow.awaited.Goals as goal

pub new-requires-clause-in_range : goal.new-requires-clause-in_range
new-requires-clause-in_range c =
    let p = c.args.plan.now in
    let ws = lists_of c.successors.result.now in
    let rs = lists_of c.successors-2.result.now in
    let vs = c.deref.result.now in
    let long : length vs ≡ nodes p = ap length c.deref.ensures.value ∙ c.in_ok-lists.ensures.long in
    let is : (t : ℕ) → t < nodes p → neighbours (lists_of vs) t ≡ awaited ws rs (slice_get p.tasks t) = λ t l. ap (λ (xs : List (Vec ℕ Global)). neighbours (lists_of xs) t) c.deref.ensures.value ∙ c.in_ok-lists.ensures.lists t l in
    awaited_low p ws rs vs long is (λ q u. c.successors.ensures.same q u ∙ c.requires.written q u) (λ q u. c.successors-2.ensures.same q u ∙ c.requires.read q u)

pub returns-clause-edges : goal.returns-clause-edges
returns-clause-edges c =
    let p = c.args.plan.now in
    let ws = lists_of c.successors.result.now in
    let rs = lists_of c.successors-2.result.now in
    let vs = c.deref.result.now in
    let long : length vs ≡ nodes p = ap length c.deref.ensures.value ∙ c.in_ok-lists.ensures.long in
    let is : (t : ℕ) → t < nodes p → neighbours (lists_of vs) t ≡ awaited ws rs (slice_get p.tasks t) = λ t l. ap (λ (xs : List (Vec ℕ Global)). neighbours (lists_of xs) t) c.deref.ensures.value ∙ c.in_ok-lists.ensures.lists t l in
    λ u t. c.in_ok-made.ensures.edges u t ∙ awaited_edges p ws rs vs long is (λ q v. c.successors.ensures.same q v ∙ c.requires.written q v) (λ q v. c.successors-2.ensures.same q v ∙ c.requires.read q v) t u
