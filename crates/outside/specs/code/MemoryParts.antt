-- Parts of a store in memory.
use Rattle.std.specs.Prelude.{ℕ, ◌==◌, cond, List, [], ◌∷◌, length, Some}
use Rattle.outside.specs.declared.failing.Failing.{Failing}
use Rattle.outside.specs.declared.memory_parts.MemoryReading.{MemoryReading}
use Rattle.outside.specs.declared.memory_parts.MemoryDraft.{MemoryDraft}
use Rattle.outside.specs.code.Parts.{DraftState, ReadState}

-- of the pairs (k, j), the calls j of the part that the call k made
abbrev pub listed_for : List (ℕ × ℕ) → ℕ → List ℕ
listed_for [] k = []
listed_for (x ∷ xs) k = cond (x.0 == k) (x.1 ∷ listed_for xs k) (listed_for xs k)

abbrev pub reading_state : MemoryReading → ReadState
reading_state r = record { told = Some r.bytes; given = r.at; size = length r.bytes; faults = r.faults }

abbrev pub reading_failing : MemoryReading → Failing
reading_failing r = r.failing

abbrev pub draft_state : MemoryDraft → DraftState
draft_state d = record {
  told = Some (record { place = d.place; bytes = d.bytes.items });
  size = length d.bytes.items;
  limit = d.limit;
  faults = d.faults;
}

abbrev pub draft_failing : MemoryDraft → Failing
draft_failing d = d.failing
