-- Where a text is the text of no record.
use Rattle.std.specs.Prelude.{◌≡◌, ℕ, ◌-◌, ◌<◌, List, Result, Ok, Err, take, ⊤}
use Rattle.run_record.specs.declared.fault.RecordFault.{RecordFault}
use Rattle.run_record.specs.declared.fault.RecordFault.TheVariants.{Malformed, Memory}
use Rattle.run_record.specs.Events.{Event}
use Rattle.run_record.specs.code.Events.{Log}
use Rattle.run_record.specs.code.RecordText.{AreEntries}
use Rattle.run_record.specs.RecordText.{record_text}
use Rattle.run_record.specs.code.Lines.{lines}

-- some record's text has the same first k lines; where a text has fewer, it is that record's text
abbrev pub SharesLines : List ℕ → ℕ → Type 0
SharesLines text k = (es : List Event) × AreEntries es
    × (take k (lines text) ≡ take k (lines (record_text es)))

-- k is the number, from 1, of the first line that stands in no record's text after the lines before it;
-- the line after the last one is the first that is missing
pub record IsMalformedAt (text : List ℕ) (k : ℕ) : Type 0 where
  pub counted : 0 < k
  pub before : SharesLines text (k - 1)
  pub here : SharesLines text k → ⊥

-- want of memory may come at any text
abbrev pub IsFaultOf : List ℕ → RecordFault → Type 0
IsFaultOf text (Malformed k) = IsMalformedAt text k
IsFaultOf text Memory = ⊤

-- a record is read back from its text, but for want of memory
abbrev pub IsReadBack : List Event → Result Log RecordFault → Type 0
IsReadBack es (Ok history) = history.events ≡ es
IsReadBack es (Err fault) = fault ≡ Memory
