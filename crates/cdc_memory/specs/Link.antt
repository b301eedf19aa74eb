-- Links in memory.
use Rattle.std.specs.Prelude.{ℕ}
use Rattle.cdc_outside.specs.Door.{IsFresh}
use Rattle.cdc_memory.specs.Calls.{Calls}
use Rattle.cdc_memory.specs.Wire.{wire_input, wire_left, wire_written}
use Rattle.cdc_memory.specs.declared.link.MemLink.{MemLink}
use Rattle.cdc_memory.specs.declared.link.PureLink.{PureLink}
use Rattle.cdc_memory.specs.declared.wire.Wire.{Wire}

-- its bytes
abbrev pub wire_of : MemLink → Wire
wire_of link = link.wire

-- its calls so far
abbrev pub link_calls_of : MemLink → Calls
link_calls_of link = link.calls

-- the bytes of a link without listed calls
abbrev pub pure_wire_of : PureLink → Wire
pure_wire_of link = link.wire

-- how often it has failed
abbrev pub pure_faults_of : PureLink → ℕ
pure_faults_of link = link.faults

-- nothing was read or written yet
abbrev pub IsNewLink : MemLink → Type 0
IsNewLink link = IsFresh (wire_input link.wire) (wire_left link.wire) (wire_written link.wire) link.calls.faults

-- a link without failing calls that nothing was read from or written to
abbrev pub IsNewPureLink : PureLink → Type 0
IsNewPureLink link = IsFresh (wire_input link.wire) (wire_left link.wire) (wire_written link.wire) link.faults
