use Rattle.std.proofs.Common.{ℕ, List, Option, subst, sym, ap, arith}
use Rattle.std.specs.Prelude.{Vec, Some, None, length}
use Rattle.std.specs.declared.alloc.Global.{Global}
use Rattle.tournament_tree.specs.Tree.{IsLeast, IsTree, entry, row}
use Rattle.tournament_tree.specs.declared.tree.Key.{Key}
use Rattle.group_index.specs.Index.{end_of}
use Rattle.group_index.proofs.IndexLemmas.{end_within, least_none, least_some, rows_read}
use Rattle.group_index.proofs.index.GroupIndex.least_before.Goals as goal

pub least_between-requires-clause-tree : goal.least_between-requires-clause-tree
least_between-requires-clause-tree c = subst IsTree (rows_read c.args.self.now.trees.items c.args.group c.index.result.now c.requires.group c.index.ensures) (c.requires.index.trees c.args.group c.requires.group)

pub least_between-requires-clause-to : goal.least_between-requires-clause-to
least_between-requires-clause-to c =
    let within = end_within c.args.self.now c.args.group c.args.end c.requires.index c.requires.group c.requires.end in
    let is = ap (λ (rs : List (Vec (Option Key) Global)). length (row rs 0)) (rows_read c.args.self.now.trees.items c.args.group c.index.result.now c.requires.group c.index.ensures) in
    let end = c.end_of-to.ensures in
    omega (arith, within, is, end)

pub returns-in-None : goal.returns-in-None
returns-in-None c = least_none c.args.self.now c.args.group c.args.end c.requires.index c.requires.end
    (subst (λ (rs : List (Vec (Option Key) Global)). IsLeast (entry rs 0) 0 (end_of c.args.self.now c.args.group c.args.end) None) (sym (rows_read c.args.self.now.trees.items c.args.group c.index.result.now c.requires.group c.index.ensures))
    (subst (λ (n : ℕ). IsLeast (entry c.index.result.now.rows.items 0) 0 n None) c.end_of-to.ensures c.in-None.ensures))

pub returns-in-Some : goal.returns-in-Some
returns-in-Some c = least_some c.args.self.now c.args.group c.args.end c.in-Some.key c.requires.index c.requires.end
    (subst (λ (rs : List (Vec (Option Key) Global)). IsLeast (entry rs 0) 0 (end_of c.args.self.now c.args.group c.args.end) (Some c.in-Some.key)) (sym (rows_read c.args.self.now.trees.items c.args.group c.index.result.now c.requires.group c.index.ensures))
    (subst (λ (n : ℕ). IsLeast (entry c.index.result.now.rows.items 0) 0 n (Some c.in-Some.key)) c.end_of-to.ensures c.in-Some.ensures))
