use Rattle.place_peaks.proofs.EntryLemmas.{fail_tied}
use Rattle.place_peaks.proofs.WaitingLemmas.{failed_by}
use Rattle.place_peaks.proofs.law.fails_keep_peaks.Goals as goal

pub returns-clause-behind : goal.returns-clause-behind
returns-clause-behind c = failed_by

pub returns-clause-tied : goal.returns-clause-tied
returns-clause-tied c = fail_tied
