-- What a door in memory keeps of a link that was handed back, and of those that wait.
use Rattle.std.specs.Prelude.{ℕ, List, map}
use Rattle.cdc_outside.specs.Link.{Served}
use Rattle.cdc_memory.specs.Wire.{wire_input, wire_written}
use Rattle.cdc_memory.specs.declared.link.MemLink.{MemLink}
use Rattle.cdc_memory.specs.declared.link.PureLink.{PureLink}
use Rattle.cdc_memory.specs.declared.returned.Returned.{Returned}

-- what came in, what went out, the count of faults and the number of the end
abbrev pub served_entry : Returned MemLink → Served
served_entry returned = record {
  input = wire_input returned.link.wire;
  written = wire_written returned.link.wire;
  faults = returned.link.calls.faults;
  ending = returned.ending;
}

-- what is kept of a link without failing calls that is handed back
abbrev pub pure_served_entry : Returned PureLink → Served
pure_served_entry returned = record {
  input = wire_input returned.link.wire;
  written = wire_written returned.link.wire;
  faults = returned.link.faults;
  ending = returned.ending;
}

-- the inputs of links, in order
abbrev pub inputs_of : List MemLink → List (List ℕ)
inputs_of links = map (λ link. wire_input link.wire) links

-- the inputs of links without failing calls
abbrev pub pure_inputs_of : List PureLink → List (List ℕ)
pure_inputs_of links = map (λ link. wire_input link.wire) links
