use Rattle.site_selector.specs.Selecting.{selection}
use Rattle.site_selector.proofs.SelectingLemmas.{ArePlaced}
use Rattle.site_selector.proofs.selecting.select.Given as goal

abbrev pub invariant-loop-turn : goal.invariant-loop-turn
invariant-loop-turn l = ArePlaced (selection l.workflow l.kept l.levels l.request l.transformations) l.number-items l.sites.items l.turn
