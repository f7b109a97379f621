use Rattle.std.proofs.Common.{◌≡◌, ◌∙◌, ℕ, true, false, not, List, sym, ap, subst}
use Rattle.std.specs.Prelude.{Option, Some, None, is_some}
use Rattle.std.proofs.lemmas.List.{get_or_default}
use Rattle.digraph.proofs.AdjacencyLemmas.{neighbours_at}
use Rattle.digraph.proofs.NearestLemmas.{no_value}
use Rattle.digraph.proofs.RanksLemmas.{leaves}
use Rattle.digraph.specs.Adjacency.{IsRising, neighbours}
use Rattle.digraph.specs.code.Adjacency.{leads, lists_of}
use Rattle.digraph.specs.code.Distances.{distance_at}
use Rattle.digraph.specs.code.Nearest.{IsLeastAt}
use Rattle.digraph.proofs.cycle.stays_away.Goals as goal

pub least_at-requires : goal.least_at-requires
least_at-requires c =
    let here : neighbours (lists_of c.args.successors.now) c.args.node ≡ c.deref.result.now = neighbours_at c.args.successors.now c.args.node c.index-successors-node.result c.requires.node c.index-successors-node.is ∙ sym c.deref.ensures.value in
    subst IsRising here (c.requires.rising c.args.node)

pub returns-in-Some : goal.returns-in-Some
returns-in-Some c = λ none back.
    let here : c.deref.result.now ≡ neighbours (lists_of c.args.successors.now) c.args.node = c.deref.ensures.value ∙ sym (neighbours_at c.args.successors.now c.args.node c.index-successors-node.result c.requires.node c.index-successors-node.is) in
    let nothing : c.least_at.result ≡ None = no_value c.least_at.result (c.is_none.ensures ∙ ap not none) in
    let away : IsLeastAt c.args.ranks.now (neighbours (lists_of c.args.successors.now) c.args.node) c.in-Some.rank None = subst (λ (x : List ℕ). IsLeastAt c.args.ranks.now x c.in-Some.rank None) here (subst (λ (o : Option ℕ). IsLeastAt c.args.ranks.now c.deref.result.now c.in-Some.rank o) nothing c.least_at.ensures) in
    leaves (leads (lists_of c.args.successors.now)) c.args.ranks.now c.args.node c.in-Some.rank c.requires.ranks (sym c.in-Some.ensures) away back
