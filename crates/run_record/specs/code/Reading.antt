-- How a line is read: leniently, as an entry whose line it may be. It is one only if that entry has this line.
use Rattle.std.specs.Prelude.{ℕ, ◌^◌, ◌&&◌, ◌||◌, Bool, if◌then◌else◌, List, [], ◌∷◌, drop, length, nat_lt, codes, Option, Some, None, option_map, option_and_then}
use Rattle.std.specs.List.{list_all}
use Rattle.std.specs.Result.{result_ok}
use Rattle.std.specs.Char.{digit_value}
use Rattle.std.specs.Str.{bytes_eq}
use Rattle.std.specs.Str.Parse.{digits_value, without_leading_plus}
use Rattle.hex.specs.Hex.{decode_sized}
use Rattle.values.specs.declared.numbers.JobId.{JobId}
use Rattle.run_record.specs.declared.entry.Cause.{Cause}
use Rattle.run_record.specs.declared.entry.Cause.TheVariants.{Absent, TooLong, Checksum, Oversize, Declined, ToolFailed, HostFailed, Memory}
use Rattle.run_record.specs.code.Words.{word_at}
use Rattle.run_record.specs.Events.{Event, Grant, Arrive, End, Clean, Fail, Again, Regrant}

abbrev pub is_numeral : List ℕ → Bool
is_numeral ds = nat_lt 0 (length ds) && list_all (λ (b : ℕ). nat_lt (digit_value b) 10) ds

abbrev pub numeral_value : ℕ → List ℕ → Option ℕ
numeral_value k ds = if is_numeral ds && nat_lt (digits_value 10 ds) (2 ^ k) then Some (digits_value 10 ds)
    else None

-- the number of at most k bits that a word writes
unfoldable pub number_of : ℕ → List ℕ → Option ℕ
number_of k word = numeral_value k (without_leading_plus word)

abbrev pub number_at : List (List ℕ) → ℕ → Option ℕ
number_at words k = number_of 32 (word_at words k)

abbrev pub size_at : List (List ℕ) → ℕ → Option ℕ
size_at words k = number_of 64 (word_at words k)

unfoldable pub digest_at : List (List ℕ) → ℕ → Option (List ℕ)
digest_at words k = result_ok (decode_sized (word_at words k) 32)

abbrev pub with_size : Option ℕ → List ℕ → List ℕ
with_size (Some n) ns = n ∷ ns
with_size None ns = ns

-- the words that are sizes
abbrev pub sizes_of : List (List ℕ) → List ℕ
sizes_of [] = []
sizes_of (word ∷ words) = with_size (number_of 64 word) (sizes_of words)

-- the place of the first size after a cause: the list of sizes is empty after most
abbrev pub published_place : List ℕ → ℕ → ℕ
published_place cause count = if bytes_eq cause (codes "hostfailed") || bytes_eq cause (codes "memory")
    then 4 else count

-- the place of the first word of an entry's list of sizes
abbrev pub sizes_place : List (List ℕ) → ℕ
sizes_place words = if bytes_eq (word_at words 0) (codes "end") then 3
    else published_place (word_at words 3) (length words)

-- the words of an entry's list of sizes, and those that follow a cause
abbrev pub listed_words : List (List ℕ) → List (List ℕ)
listed_words words = drop (sizes_place words) words

abbrev pub published_words : List (List ℕ) → List (List ℕ)
published_words words = drop (published_place (word_at words 3) (length words)) words

abbrev pub job : ℕ → JobId
job n = record { 0 = n }

abbrev pub oversize : List (List ℕ) → Option Cause
oversize words = option_and_then (λ (j : ℕ). option_and_then
    (λ (f : ℕ). option_map (λ (n : ℕ). Oversize (job j) (record { 0 = f }) n) (size_at words 6))
    (number_at words 5)) (number_at words 4)

abbrev pub cause_named : List ℕ → List (List ℕ) → Option Cause
cause_named name words =
    if bytes_eq name (codes "absent") then Some Absent
    else if bytes_eq name (codes "toolong") then option_map TooLong (size_at words 4)
    else if bytes_eq name (codes "checksum") then option_map Checksum (digest_at words 4)
    else if bytes_eq name (codes "oversize") then oversize words
    else if bytes_eq name (codes "declined") then option_map (λ (n : ℕ). Declined (job n)) (number_at words 4)
    else if bytes_eq name (codes "toolfailed")
    then option_map (λ (n : ℕ). ToolFailed (job n)) (number_at words 4)
    else if bytes_eq name (codes "hostfailed") then Some HostFailed
    else if bytes_eq name (codes "memory") then Some Memory
    else None

unfoldable pub cause_of : List (List ℕ) → Option Cause
cause_of words = cause_named (word_at words 3) words

abbrev pub event_named : List ℕ → ℕ → ℕ → List ℕ → List (List ℕ) → Option Event
event_named kind w t sizes words =
    if bytes_eq kind (codes "grant") then Some (Grant w t)
    else if bytes_eq kind (codes "arrive") then option_map (λ (n : ℕ). Arrive w t n) (size_at words 3)
    else if bytes_eq kind (codes "end") then Some (End w t sizes)
    else if bytes_eq kind (codes "clean") then Some (Clean w t)
    else if bytes_eq kind (codes "fail") then option_map (λ (c : Cause). Fail w t c sizes) (cause_of words)
    else if bytes_eq kind (codes "again") then option_map (λ (c : Cause). Again w t c sizes) (cause_of words)
    else if bytes_eq kind (codes "regrant") then Some (Regrant w t)
    else None

unfoldable pub event_with : List ℕ → List (List ℕ) → Option Event
event_with sizes words = option_and_then (λ (w : ℕ). option_and_then
    (λ (t : ℕ). event_named (word_at words 0) w t sizes words) (number_at words 2)) (number_at words 1)

-- the event that a line's words may be
abbrev pub event_in : List (List ℕ) → Option Event
event_in words = event_with (sizes_of (listed_words words)) words
