use Rattle.place_peaks.proofs.ChoosingLemmas.{seated}
use Rattle.place_peaks.proofs.law.peaks_are_seated.Goals as goal

pub returns-clause-seated : goal.returns-clause-seated
returns-clause-seated c = seated

pub returns-clause-passed : goal.returns-clause-passed
returns-clause-passed c = λ p s b tied. tied.whole.1

pub returns-clause-indexed : goal.returns-clause-indexed
returns-clause-indexed c = λ p s b tied. tied.indexed
