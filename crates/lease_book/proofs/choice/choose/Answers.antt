use Rattle.lease_book.specs.RunState.{state_of}
use Rattle.place_peaks.specs.Peaks.{stack_of}
use Rattle.lease_book.proofs.choice.choose.Goals as goal

pub choose-requires-clause-seated : goal.choose-requires-clause-seated
choose-requires-clause-seated c = c.peaks_are_seated.ensures.seated c.args.plan.now (state_of c.args.state.now) c.args.state.now.peaks (stack_of c.args.state.now.peaks) c.requires.peaks.tied.behind

pub choose-requires-clause-indexed : goal.choose-requires-clause-indexed
choose-requires-clause-indexed c = c.peaks_are_seated.ensures.indexed c.args.plan.now (state_of c.args.state.now) c.args.state.now.peaks c.requires.peaks.tied

pub returns : goal.returns
returns c = c.choose.ensures (state_of c.args.state.now) c.requires.peaks.tied.behind c.requires.unfailed
