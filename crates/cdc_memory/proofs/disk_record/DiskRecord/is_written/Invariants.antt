use Rattle.std.proofs.Common.{◌≡◌, take}
use Rattle.cdc_outside.specs.Disk.{Image, is_written}
use Rattle.cdc_memory.specs.Replay.{at_rest, after_steps}
use Rattle.cdc_memory.proofs.disk_record.DiskRecord.is_written.Given as goal

-- so far is the answer for the first steps
abbrev pub invariant-loop-step : goal.invariant-loop-step
invariant-loop-step l = (image : Image) → l.written ≡ is_written l.place ((after_steps (at_rest image) (take l.step-index l.self.steps.items)).pending l.file)
