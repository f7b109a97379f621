-- The text of a record: a line of its version, a line for each entry, and the line `closed`.
use Rattle.std.specs.Prelude.{ℕ, ◌++◌, Bool, if◌then◌else◌, List, [], ◌∷◌, map, codes}
use Rattle.std.specs.List.{list_any, concat}
use Rattle.std.specs.Fmt.{decimal}
use Rattle.hex.specs.Hex.{encode_lower}
use Rattle.run_record.specs.declared.entry.Cause.{Cause}
use Rattle.run_record.specs.declared.entry.Cause.TheVariants as cause
use Rattle.run_record.specs.Events.{Event, Grant, Arrive, End, Clean, Fail, Again, Regrant, is_second}

-- a word of a line: as it is, a number or a size in decimal digits without a leading zero, or the 64
-- lower-case hexadecimal digits of a digest
pub data Word : Type 0 where
  Plain : (text : List ℕ) → Word
  Number : (number : ℕ) → Word
  Size : (size : ℕ) → Word
  Digest : (bytes : List ℕ) → Word

abbrev pub word_text : Word → List ℕ
word_text (Plain text) = text
word_text (Number n) = decimal n
word_text (Size n) = decimal n
word_text (Digest bytes) = encode_lower bytes

abbrev pub cause_words : Cause → List Word
cause_words cause.Absent = Plain (codes "absent") ∷ []
cause_words (cause.TooLong n) = Plain (codes "toolong") ∷ Size n ∷ []
cause_words (cause.Checksum bytes) = Plain (codes "checksum") ∷ Digest bytes ∷ []
cause_words (cause.Oversize j f n) = Plain (codes "oversize") ∷ Number j.0 ∷ Number f.0 ∷ Size n ∷ []
cause_words (cause.Declined j) = Plain (codes "declined") ∷ Number j.0 ∷ []
cause_words (cause.ToolFailed j) = Plain (codes "toolfailed") ∷ Number j.0 ∷ []
cause_words cause.HostFailed = Plain (codes "hostfailed") ∷ []
cause_words cause.Memory = Plain (codes "memory") ∷ []

-- the rows of the format: the words of each kind of entry
abbrev pub entry_words : Event → List Word
entry_words (Grant w t) = Plain (codes "grant") ∷ Number w ∷ Number t ∷ []
entry_words (Arrive w t n) = Plain (codes "arrive") ∷ Number w ∷ Number t ∷ Size n ∷ []
entry_words (End w t ns) = Plain (codes "end") ∷ Number w ∷ Number t ∷ map Size ns
entry_words (Clean w t) = Plain (codes "clean") ∷ Number w ∷ Number t ∷ []
entry_words (Fail w t c ns) = Plain (codes "fail") ∷ Number w ∷ Number t ∷ cause_words c ++ map Size ns
entry_words (Again w t c ns) = Plain (codes "again") ∷ Number w ∷ Number t ∷ cause_words c ++ map Size ns
entry_words (Regrant w t) = Plain (codes "regrant") ∷ Number w ∷ Number t ∷ []

-- words, a space before each
abbrev pub spaced : List Word → List ℕ
spaced [] = []
spaced (w ∷ ws) = codes " " ++ word_text w ++ spaced ws

-- words, a space between
abbrev pub joined_words : List Word → List ℕ
joined_words [] = []
joined_words (w ∷ ws) = word_text w ++ spaced ws

unfoldable pub entry_line : Event → List ℕ
entry_line e = joined_words (entry_words e) ++ codes "\n"

-- version 2 exactly where an entry of retries or fresh orders stands
abbrev pub version_line : Bool → List ℕ
version_line second = if second then codes "record 2\n" else codes "record 1\n"

abbrev pub closed_line : List ℕ
closed_line = codes "closed\n"

unfoldable pub record_lines : List Event → List (List ℕ)
record_lines es = version_line (list_any is_second es) ∷ map entry_line es ++ closed_line ∷ []

abbrev pub record_text : List Event → List ℕ
record_text es = concat (record_lines es)
