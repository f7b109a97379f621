use Rattle.std.proofs.Common.{ℕ, ◌∙◌, ◌<◌, length, take, get_or, List, sym, subst}
use Rattle.std.proofs.lemmas.List.{take_more}
use Rattle.digraph.proofs.AdjacencyLemmas.{Paired, paired_more}
use Rattle.digraph.specs.code.Adjacency.{lists_of}
use Rattle.digraph.proofs.adjacency.add_pairs.Goals as goal

pub loop-pair-preserved : goal.loop-pair-preserved
loop-pair-preserved c =
    let nothing : ℕ × ℕ = (0, 0) in
    let pair : ℕ × ℕ = get_or c.args.pairs.now c.loop-pair.pair-index (0, 0) in
    let low : pair.0 < length c.args.lists.now.items = (c.requires.in_range c.loop-pair.pair-index (0, 0) c.loop-pair-test.true).0 in (
      c.in_ok-add.ensures.long ∙ c.loop-pair.invariant.0,
      subst (λ (ps : List (ℕ × ℕ)). Paired (lists_of c.args.lists.now.items) (lists_of c.add.new.lists.items) (length c.args.lists.now.items) ps) (sym (take_more c.args.pairs.now c.loop-pair.pair-index (0, 0) c.loop-pair-test.true))
          (paired_more (lists_of c.args.lists.now.items) (lists_of c.loop-pair.lists.items) (lists_of c.add.new.lists.items) (length c.args.lists.now.items) (take c.loop-pair.pair-index c.args.pairs.now) pair low c.loop-pair.invariant.1 c.in_ok-add.ensures.added),
    )
