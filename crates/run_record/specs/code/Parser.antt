-- How far a text is read as a record's.
use Rattle.std.specs.Prelude.{◌≡◌, ℕ, ◌++◌, ◌||◌, Bool, true, not, List, [], ◌∷◌, Option, Some, None, map}
use Rattle.std.specs.List.{concat, list_all}
use Rattle.run_record.specs.Events.{Event, is_second}
use Rattle.run_record.specs.code.Events.{is_proper}
use Rattle.run_record.specs.code.RecordText.{IsEntry, AreEntries}
use Rattle.run_record.specs.RecordText.{entry_line, record_text, version_line}
use Rattle.run_record.specs.code.Fault.{IsMalformedAt}

-- an entry that a record of the version may have
abbrev pub fits_version : Bool → Event → Bool
fits_version second e = second || not (is_second e)

-- a text begins with the version's line and the lines of these entries, and goes on with the rest
pub record IsRead (text : List ℕ) (second : Bool) (es : List Event) (rest : List ℕ) : Type 0 where
  pub text_is : text ≡ version_line second ++ (concat (map entry_line es) ++ rest)
  pub entries : AreEntries es
  pub versions : list_all (fits_version second) es ≡ true

-- an entry may be added to a record of the version, and this is its line
abbrev pub IsLineOf : Bool → Event → List ℕ → Type 0
IsLineOf second e line = (is_proper e ≡ true) × (fits_version second e ≡ true) × (entry_line e ≡ line)

-- a line is not that of an entry which a record of the version may have
abbrev pub IsNoEntry : Bool → List ℕ → Type 0
IsNoEntry second line = (e : Event) → IsEntry e → IsLineOf second e line → ⊥

-- one entry more of the version stands at the end, the one of this line
abbrev pub AddsEntry : Bool → List ℕ → List Event → List Event → Type 0
AddsEntry second line before after = (e : Event) × IsLineOf second e line × (after ≡ before ++ e ∷ [])

-- how a text that was read ends: it is the text of these entries, or a line of it is malformed
abbrev pub IsEndOf : List ℕ → List Event → Option ℕ → Type 0
IsEndOf text es None = record_text es ≡ text
IsEndOf text es (Some k) = IsMalformedAt text k
