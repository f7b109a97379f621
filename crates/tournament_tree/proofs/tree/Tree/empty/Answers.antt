use Rattle.std.proofs.Common.{List, sym, subst}
use Rattle.std.specs.Prelude.{Option, Vec}
use Rattle.std.specs.declared.alloc.Global.{Global}
use Rattle.tournament_tree.specs.declared.tree.Key.{Key}
use Rattle.tournament_tree.specs.Tree.{IsEmpty}
use Rattle.tournament_tree.proofs.TreeLemmas.{empty_start}
use Rattle.tournament_tree.proofs.tree.Tree.empty.Goals as goal

pub loop-height-init : goal.loop-height-init
loop-height-init c = subst (λ (rs : List (Vec (Option Key) Global)). IsEmpty rs c.args.count 0 c.args.count) (sym c.new-rows.ensures.items) (empty_start c.args.count c.requires.count)
