use Rattle.std.proofs.Common.{◌≡◌, ◌<◌, ℕ, List, length, ap, sym, ◌∙◌, subst}
use Rattle.std.specs.Prelude.{Vec}
use Rattle.std.specs.declared.alloc.Global.{Global}
use Rattle.digraph.specs.code.Adjacency.{lists_of}
use Rattle.digraph.specs.Adjacency.{neighbours}
use Rattle.plan_core.specs.code.Listing.{listed, nodes}
use Rattle.plan_core.specs.Numbers.{has}
use Rattle.plan_core.proofs.ListingLemmas.{listed_lists, lists_low}
use Rattle.plan_core.proofs.listing.graph.Goals as goal

pub new-requires-clause-in_range : goal.new-requires-clause-in_range
new-requires-clause-in_range c =
    let vs = c.deref.result.now in
    let long : length vs ≡ nodes c.args.plan.now = ap length c.deref.ensures.value ∙ c.in_ok-all.ensures.long ∙ c.nodes.ensures in
    let low : (t : ℕ) → t < nodes c.args.plan.now → neighbours (lists_of vs) t ≡ listed c.args.plan.now c.args.listing t = λ t l. ap (λ (ws : List (Vec ℕ Global)). neighbours (lists_of ws) t) c.deref.ensures.value ∙ c.in_ok-all.ensures.lists t (subst (λ n. t < n) (sym c.nodes.ensures) l) in
    lists_low vs (nodes c.args.plan.now) (listed c.args.plan.now c.args.listing) long (listed_lists c.args.plan.now c.args.listing vs long low) c.requires.in_range

pub returns-clause-edges : goal.returns-clause-edges
returns-clause-edges c =
    let vs = c.deref.result.now in
    let long : length vs ≡ nodes c.args.plan.now = ap length c.deref.ensures.value ∙ c.in_ok-all.ensures.long ∙ c.nodes.ensures in
    let low : (t : ℕ) → t < nodes c.args.plan.now → neighbours (lists_of vs) t ≡ listed c.args.plan.now c.args.listing t = λ t l. ap (λ (ws : List (Vec ℕ Global)). neighbours (lists_of ws) t) c.deref.ensures.value ∙ c.in_ok-all.ensures.lists t (subst (λ n. t < n) (sym c.nodes.ensures) l) in
    λ x t. c.in_ok-made.ensures.edges x t ∙ ap (λ (xs : List ℕ). has xs x) (listed_lists c.args.plan.now c.args.listing vs long low t)
