use Rattle.std.proofs.Common.{◌≡◌, take}
use Rattle.cdc_memory.specs.Returned.{inputs_of}
use Rattle.cdc_memory.proofs.door.shared_inputs.Given as goal

abbrev pub invariant-loop-link : goal.invariant-loop-link
invariant-loop-link l = l.inputs.items ≡ inputs_of (take l.link-index l.links)
