use Rattle.place_peaks.proofs.RefreshLemmas.{refreshed}
use Rattle.place_peaks.proofs.peaks.Peaks.refresh.Goals as goal

pub returns-then-stands_at-clause-indexed : goal.returns-then-stands_at-clause-indexed
returns-then-stands_at-clause-indexed c = λ off indexed. refreshed c.args.plan.now c.args.self.now c.set.new.self c.args.task c.position-k.result c.ready_score-score.result off c.requires.groups
    (c.stands_at.ensures.yes c.if-stands_at.true).0 (c.stands_at.ensures.yes c.if-stands_at.true).1 c.ready_score-score.ensures c.set.ensures.numbers indexed
