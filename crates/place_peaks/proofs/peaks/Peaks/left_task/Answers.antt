use Rattle.std.proofs.Common.{ℕ, List, ap}
use Rattle.std.specs.Prelude.{slice_get}
use Rattle.place_peaks.specs.Peaks.{left_of, line_of}
use Rattle.place_peaks.proofs.RefreshLemmas.{passed_front}
use Rattle.place_peaks.proofs.peaks.Peaks.left_task.Goals as goal

pub loop-position-init : goal.loop-position-init
loop-position-init c = record { behind = ap (λ (xs : List ℕ). slice_get xs c.args.k) (passed_front (left_of c.args.self.now) (line_of c.args.self.now) c.args.self.now.first c.requires) }
