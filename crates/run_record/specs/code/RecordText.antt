-- Beside `specs/RecordText.antt`: what the code's own contracts say.
use Rattle.std.specs.Prelude.{◌≡◌, ◌^◌, ◌<◌, true, List, [], ◌∷◌, length, ⊤}
use Rattle.hex.specs.Hex.{IsBytes}
use Rattle.run_record.specs.Events.{Event}
use Rattle.run_record.specs.code.Events.{is_proper}
use Rattle.run_record.specs.RecordText.{Word, entry_words, Plain, Number, Size, Digest}

-- numbers are below 2^32, sizes below 2^64, and a digest has 32 bytes
abbrev pub FitsWord : Word → Type 0
FitsWord (Plain text) = ⊤
FitsWord (Number n) = n < 2 ^ 32
FitsWord (Size n) = n < 2 ^ 64
FitsWord (Digest bytes) = (length bytes ≡ 32) × IsBytes bytes

abbrev pub AllFit : List Word → Type 0
AllFit [] = ⊤
AllFit (w ∷ ws) = FitsWord w × AllFit ws

-- the events that entries are
pub record IsEntry (e : Event) : Type 0 where
  pub fits : AllFit (entry_words e)
  pub proper : is_proper e ≡ true

abbrev pub AreEntries : List Event → Type 0
AreEntries [] = ⊤
AreEntries (e ∷ es) = IsEntry e × AreEntries es
