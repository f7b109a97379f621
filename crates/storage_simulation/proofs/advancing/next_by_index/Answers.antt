use Rattle.std.proofs.Common.{ℕ, ◌+◌, subst}
use Rattle.std.specs.Prelude.{None, Some}
use Rattle.tournament_tree.specs.Tree.{IsLeast, entry}
use Rattle.storage_simulation.specs.code.Front.{front_of}
use Rattle.storage_simulation.specs.code.Ordering.{progress}
use Rattle.storage_simulation.proofs.AdvancingLemmas.{best_step, no_clean_open, no_fit_open, none_open}
use Rattle.storage_simulation.proofs.advancing.next_by_index.Goals as goal

pub returns-in-Some : goal.returns-in-Some
returns-in-Some c = best_step c.args.plan.now c.args.standing.now c.args.front.now c.args.index.now c.in-Some.key c.requires.set c.requires.index.bests (subst (λ (n : ℕ). IsLeast (entry c.args.index.now.best.rows.items 0) 0 (n + 2) (Some c.in-Some.key)) c.places.ensures.value c.in-Some.ensures)

pub refusal-requires-clause-no_clean : goal.refusal-requires-clause-no_clean
refusal-requires-clause-no_clean c = no_clean_open c.args.plan.now (progress c.args.standing.now) (front_of c.args.front.now) (none_open c.args.plan.now (progress c.args.standing.now) (front_of c.args.front.now) c.args.index.now c.requires.set.orderable c.requires.index.bests (subst (λ (n : ℕ). IsLeast (entry c.args.index.now.best.rows.items 0) 0 (n + 2) None) c.places.ensures.value c.in-None.ensures))

pub refusal-requires-clause-none_fits : goal.refusal-requires-clause-none_fits
refusal-requires-clause-none_fits c = no_fit_open c.args.plan.now (progress c.args.standing.now) (front_of c.args.front.now) (none_open c.args.plan.now (progress c.args.standing.now) (front_of c.args.front.now) c.args.index.now c.requires.set.orderable c.requires.index.bests (subst (λ (n : ℕ). IsLeast (entry c.args.index.now.best.rows.items 0) 0 (n + 2) None) c.places.ensures.value c.in-None.ensures))
