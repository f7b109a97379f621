use Rattle.std.proofs.Common.{◌≡◌, ℕ, List, [], ◌∷◌, length, length-append, get_or, sym, ap, subst, ◌∙◌, arith}
use Rattle.std.specs.Prelude.{Vec, Option}
use Rattle.std.specs.declared.alloc.Global.{Global}
use Rattle.tournament_tree.specs.Tree.{IsTree, row}
use Rattle.tournament_tree.specs.declared.tree.Key.{Key}
use Rattle.tournament_tree.specs.declared.tree.Tree.{Tree}
use Rattle.group_index.specs.Index.{AreBare, AreTrees, width_at}
use Rattle.group_index.proofs.SeatingLemmas.{pushed, pushed_bare}
use Rattle.group_index.proofs.seating.trees_of.Goals as goal

pub loop-k-preserved : goal.loop-k-preserved
loop-k-preserved c =
    let ts : List Tree = c.loop-k.trees.items in
    let t : Tree = c.in_ok-empty.field-0 in
    let inv = c.loop-k.invariant in
    let items = c.in_ok-push.ensures.items in
    let long = ap length items ∙ length-append ts (t ∷ []) in
    record {
      long = let had = inv.long in omega (arith, long, had);
      trees = subst AreTrees (sym items) (λ g l. pushed (λ g rs. IsTree rs) ts t g (omega (arith, l, length-append ts (t ∷ []))) (λ less. inv.trees g less) c.in_ok-empty.ensures.tree);
      wide = λ g l. ap (λ xs. width_at xs g) items ∙ pushed (λ (g : ℕ) (rs : List (Vec (Option Key) Global)). length (row rs 0) ≡ get_or c.args.used.now g 0) ts t g (let had = inv.long in omega (arith, l, had)) (λ less. inv.wide g (let had = inv.long in omega (arith, less, had)))
          (c.in_ok-empty.ensures.wide ∙ ap (λ (n : ℕ). get_or c.args.used.now n 0) (sym inv.long));
      bare = subst AreBare (sym items) (pushed_bare ts t inv.bare c.in_ok-empty.ensures.none);
    }
