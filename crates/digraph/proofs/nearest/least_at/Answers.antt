use Rattle.std.proofs.Common.{ℕ, ◌≡◌, ◌∙◌, get_or, sym, inl, inr}
use Rattle.std.specs.Prelude.{Some}
use Rattle.digraph.proofs.NearestLemmas.{first_least, distance_equal}
use Rattle.digraph.proofs.SearchLemmas.{stands_at}
use Rattle.digraph.specs.code.Distances.{distance_at}
use Rattle.digraph.proofs.nearest.least_at.Goals as goal

pub returns-then-eq : goal.returns-then-eq
returns-then-eq c =
    let node : ℕ = get_or c.args.nodes.now c.loop-node.node-index 0 in
    let at : distance_at c.args.table.now node ≡ Some c.args.distance = sym c.distance_at.ensures ∙ distance_equal c.distance_at.result c.args.distance (sym c.eq.ensures ∙ c.if-eq.true) in (
      stands_at c.args.nodes.now c.loop-node.node-index 0 c.loop-node-test.true,
      at,
      λ b h e. elim (first_least c.args.nodes.now c.loop-node.node-index b 0 c.requires c.loop-node-test.true h) [ inl f ↦ absurd (c.loop-node.invariant b f e) | inr f ↦ f ],
    )
