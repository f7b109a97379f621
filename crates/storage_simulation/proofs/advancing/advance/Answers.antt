use Rattle.std.proofs.Common.{◌≡◌, ◌<◌, ◌+◌, ℕ, List, true, false, get_or, sym, subst, ◌∙◌}
use Rattle.tournament_tree.specs.Tree.{entry}
use Rattle.plan_core.specs.Numbers.{has}
use Rattle.storage_simulation.specs.code.Front.{front_of}
use Rattle.storage_simulation.specs.code.Index.{IsApart, IsBestAt, last_of, ready_key, told}
use Rattle.storage_simulation.specs.Ordering.{goes, is_done}
use Rattle.storage_simulation.specs.code.Ordering.{progress}
use Rattle.storage_simulation.specs.Usage.{sum_of}
use Rattle.storage_simulation.proofs.AdvancingLemmas.{AreChildren, best_kept, goes_go_on, key_kept}
use Rattle.storage_simulation.proofs.DeterminedLemmas.{step_opens}
use Rattle.storage_simulation.proofs.advancing.advance.Goals as goal

pub keep_goes-requires-clause-next : goal.keep_goes-requires-clause-next
keep_goes-requires-clause-next c =
    let p = c.args.plan.now in
    let st = progress c.args.standing.now in
    let front = front_of c.args.front.now in
    let t = c.args.task.0 in
    let xs = c.children_of-children.result.now in
    let set = c.place.ensures.set in
    let are : AreChildren p t xs = record {
      same = λ n. c.children_of-children.ensures.same n ∙ set.made_for.edges t n;
      rises = c.children_of-children.ensures.rises;
      below = λ n h. subst (λ (m : ℕ). n < m) set.made_for.nodes (c.children_of-children.ensures.in_range n h);
    } in
    let opens = step_opens p st front t c.requires.step in
    λ v. subst (λ (f : List ℕ). is_done st f v ≡ false → goes p st f v ≡ get_or c.args.index.now.goes.items v 0 + sum_of (last_of p st f v) xs) (sym c.place.ensures.placed)
    (goes_go_on p st front c.args.index.now.goes.items t v xs set.orderable opens.waits are c.requires.index.goes)

pub rekey-requires-clause-kept : goal.rekey-requires-clause-kept
rekey-requires-clause-kept c =
    let p = c.args.plan.now in
    let st = progress c.args.standing.now in
    let front = front_of c.args.front.now in
    let t = c.args.task.0 in
    let xs = c.children_of-children.result.now in
    let set = c.place.ensures.set in
    let are : AreChildren p t xs = record {
      same = λ n. c.children_of-children.ensures.same n ∙ set.made_for.edges t n;
      rises = c.children_of-children.ensures.rises;
      below = λ n h. subst (λ (m : ℕ). n < m) set.made_for.nodes (c.children_of-children.ensures.in_range n h);
    } in
    let opens = step_opens p st front t c.requires.step in
    λ u l ne. subst (λ (f : List ℕ). ((n : ℕ) → has xs n ≡ true → IsApart p st f n u) → told c.args.index.now u ≡ ready_key p st f u) (sym c.place.ensures.placed)
    (λ apart. c.requires.index.keys u l ∙ sym (key_kept p st front t u xs set.orderable opens.waits are ne apart))

pub rebest-requires-clause-kept : goal.rebest-requires-clause-kept
rebest-requires-clause-kept c =
    let p = c.args.plan.now in
    let st = progress c.args.standing.now in
    let front = front_of c.args.front.now in
    let t = c.args.task.0 in
    let xs = c.children_of-children.result.now in
    let set = c.place.ensures.set in
    let are : AreChildren p t xs = record {
      same = λ n. c.children_of-children.ensures.same n ∙ set.made_for.edges t n;
      rises = c.children_of-children.ensures.rises;
      below = λ n h. subst (λ (m : ℕ). n < m) set.made_for.nodes (c.children_of-children.ensures.in_range n h);
    } in
    let opens = step_opens p st front t c.requires.step in
    λ h l ne off away. best_kept p c.args.standing.now c.args.front.now c.place.new.front t h xs _ c.requires.set set c.place.ensures.placed opens.waits are ne off away
    (subst (λ tree. IsBestAt p st front h (entry tree.rows.items 0 h)) (sym c.rekey.ensures.keyed.best) (c.requires.index.bests h l))
