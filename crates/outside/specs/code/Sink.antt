-- Bytes written.
use Rattle.std.specs.Prelude.{◌≡◌, ℕ, ◌≤◌, ◌<◌, List, length, take, Option, Result, Ok, Err}
use Rattle.std.specs.Io.KnownBytes.{Appends, Keeps}
use Rattle.outside.specs.code.Counts.{Rose}
use Rattle.outside.specs.declared.sink.SinkFault.{SinkFault}
use Rattle.outside.specs.declared.sink.SinkFault.TheVariants.{Failed}

-- What a write does: a prefix of the piece is appended and the count stays, or the sink failed and nothing is. `before` and
-- `after` are its count.
abbrev pub Wrote : Option (List ℕ) → Option (List ℕ) → ℕ → ℕ → List ℕ → Result ℕ SinkFault → Type 0
Wrote old new before after piece (Ok n) = (n ≤ length piece) × (0 < length piece → 0 < n) × (after ≡ before)
    × Appends old new (take n piece)
Wrote old new before after piece (Err Failed) = Rose before after × Keeps old new

-- what writing a whole text does: all of it is appended and no write failed, or one did and a prefix of the text is
abbrev pub WroteAll : Option (List ℕ) → Option (List ℕ) → ℕ → ℕ → List ℕ → Result (Unit {0}) SinkFault
    → Type 0
WroteAll old new before after text (Ok u) = (after ≡ before) × Appends old new text
WroteAll old new before after text (Err Failed) = Rose before after × (n : ℕ) × (n ≤ length text)
    × Appends old new (take n text)
