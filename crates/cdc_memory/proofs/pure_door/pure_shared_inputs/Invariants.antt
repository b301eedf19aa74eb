use Rattle.std.proofs.Common.{◌≡◌, take}
use Rattle.cdc_memory.specs.Returned.{pure_inputs_of}
use Rattle.cdc_memory.proofs.pure_door.pure_shared_inputs.Given as goal

abbrev pub invariant-loop-link : goal.invariant-loop-link
invariant-loop-link l = l.inputs.items ≡ pure_inputs_of (take l.link-index l.links)
