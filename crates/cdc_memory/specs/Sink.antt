-- A sink in memory.
use Rattle.std.specs.Prelude.{ℕ, ◌-◌, Bool, List, length, nat_lt}
use Rattle.cdc_memory.specs.Calls.{Calls}
use Rattle.cdc_memory.specs.declared.sink.MemSink.{MemSink}

-- what was written
abbrev pub written_of : MemSink → List ℕ
written_of sink = sink.bytes.items

-- how many bytes it takes in all
abbrev pub sink_room : MemSink → ℕ
sink_room sink = sink.room

-- its calls so far
abbrev pub sink_calls_of : MemSink → Calls
sink_calls_of sink = sink.calls

-- whether these bytes go past its room
abbrev pub is_past_room : MemSink → List ℕ → Bool
is_past_room sink bytes = nat_lt (sink.room - length sink.bytes.items) (length bytes)
