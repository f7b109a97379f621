use Rattle.std.proofs.Common.{◌≡◌, ◌≤◌, ◌∙◌, ℕ, List, length, take, ap, arith, nat_eq}
use Rattle.std.specs.Prelude.{Vec}
use Rattle.std.specs.List.{list_all}
use Rattle.std.specs.declared.alloc.Global.{Global}
use Rattle.digraph.specs.code.Adjacency.{lists_of}
use Rattle.digraph.specs.code.Digraph.{count, edge}
use Rattle.plan_core.specs.code.Listing.{nodes}
use Rattle.plan_core.specs.Words.{count_pairs}
use Rattle.plan_core.specs.declared.plan.Pair.{Pair}
use Rattle.plan_core.proofs.FlowLemmas.{writers_decided}
use Rattle.plan_core.proofs.ListingLemmas.{pairs_are_nodes}
use Rattle.plan_core.proofs.flow.has_one_writer.Goals as goal

pub returns : goal.returns
returns c =
    let p = c.args.plan.now in
    let vs = c.successors.result.now in
    let long : length (lists_of vs) ≡ nodes p = c.successors.ensures.long ∙ c.requires.count in
    let enough : count_pairs p ≤ nodes p = pairs_are_nodes p in
    writers_decided p (edge c.args.written.now) (count c.args.written.now) vs c.have_one.result c.successors.ensures (omega (arith, long, enough)) c.requires.in_range c.requires.edges
    (c.have_one.ensures ∙ ap (λ (qs : List Pair). list_all (λ (v : Vec ℕ Global). nat_eq (length v.items) 1) (take (length qs) vs)) c.as_slice.ensures)
