use Rattle.place_peaks.proofs.EntryLemmas.{first_test}
use Rattle.place_peaks.proofs.peaks.Peaks.first_again.Goals as goal

pub returns : goal.returns
returns c = first_test c.args.self.now c.as_slice.result.now c.last_of.result c.as_slice.ensures.value c.last_of.ensures
