use Rattle.std.proofs.Common.{◌==◌, ℕ, List, cond, get_or, refl, ap, ◌∙◌}
use Rattle.std.specs.Prelude.{Option}
use Rattle.tournament_tree.specs.declared.tree.Key.{Key}
use Rattle.tournament_tree.specs.Tree.{entry}
use Rattle.storage_simulation.specs.code.Index.{told}
use Rattle.storage_simulation.specs.code.Ordering.{progress}
use Rattle.storage_simulation.proofs.KeyingLemmas.{laid_keyed, told_set}
use Rattle.storage_simulation.proofs.keying.set_key.Goals as goal

pub returns-clause-laid : goal.returns-clause-laid
returns-clause-laid c = laid_keyed c.args.plan.now (progress c.args.standing.now) c.args.index.now _ c.requires.laid (record { spots = refl; slots = refl; best = refl; comes = refl; goes = refl }) c.set.ensures.tree c.set.ensures.wide

pub returns-clause-told : goal.returns-clause-told
returns-clause-told c = λ u l.
    let slot = c.slot_at-slot.ensures ∙ ap (λ (xs : List ℕ). get_or xs c.args.task 0) c.deref.ensures.value in
    told_set c.args.plan.now (progress c.args.standing.now) c.args.index.now c.set.new.self.rows.items c.args.task u c.key_now-key.result c.requires.laid c.requires.in_range l
    (λ i. c.set.ensures.each i ∙ ap (λ (n : ℕ). cond (i == n) c.key_now-key.result (entry c.args.index.now.keys.rows.items 0 i)) slot)
    ∙ ap (λ (k : Option Key). cond (u == c.args.task) k (told c.args.index.now u)) c.key_now-key.ensures
