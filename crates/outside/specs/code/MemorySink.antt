-- A sink in memory.
use Rattle.std.specs.Prelude.{ℕ, ◌-◌, ◌||◌, ◌&&◌, min, Bool, nat_lt, nat_le, length, List, Result, Ok, Err}
use Rattle.outside.specs.code.Counts.{next_count}
use Rattle.outside.specs.code.Failing.{fails_next}
use Rattle.outside.specs.declared.failing.Failing.{Failing}
use Rattle.outside.specs.declared.memory_sink.MemorySink.{MemorySink}
use Rattle.outside.specs.declared.sink.SinkFault.{SinkFault}

-- the bytes written
abbrev pub sink_bytes : MemorySink → List ℕ
sink_bytes s = s.bytes.items

abbrev pub sink_failing : MemorySink → Failing
sink_failing s = s.failing

abbrev pub sink_faults : MemorySink → ℕ
sink_faults s = s.faults

-- how many bytes it takes in all, and how many in one write
abbrev pub sink_room : MemorySink → ℕ
sink_room s = s.room

abbrev pub sink_most : MemorySink → ℕ
sink_most s = s.most

-- the write of a piece is to fail: its number is listed, or there is a byte to write and no room
abbrev pub refuses_next : MemorySink → List ℕ → Bool
refuses_next s piece = fails_next s.failing || (nat_lt 0 (length piece)
    && nat_le s.room (length s.bytes.items))

-- how many bytes of a piece a write takes that does not fail
abbrev pub takes_next : MemorySink → List ℕ → ℕ
takes_next s piece = min (min (length piece) s.most) (s.room - length s.bytes.items)

-- the count after a write that gave this answer
abbrev pub counted : Result ℕ SinkFault → ℕ → ℕ
counted (Ok n) faults = faults
counted (Err e) faults = next_count faults
