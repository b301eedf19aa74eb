use Rattle.std.proofs.Common.{◌≡◌, take}
use Rattle.cdc_outside.specs.Disk.{Image, shortest}
use Rattle.cdc_memory.specs.Replay.{at_rest, after_steps}
use Rattle.cdc_memory.proofs.disk_record.DiskRecord.shortest.Given as goal

-- so far is the answer for the first steps
abbrev pub invariant-loop-step : goal.invariant-loop-step
invariant-loop-step l = (image : Image) → l.least ≡ shortest l.synced ((after_steps (at_rest image) (take l.step-index l.self.steps.items)).pending l.file)
