use Rattle.std.proofs.Common.{◌++◌, length}
use Rattle.cdc_event.specs.Number.{low_first}
use Rattle.cdc_records.specs.Checkpoint.{held_bytes, FitsHeld}
use Rattle.cdc_task.proofs.Written.{IsWritten}
use Rattle.cdc_task.proofs.writing.push_held_list.Given as goal

abbrev pub invariant-loop-pair : goal.invariant-loop-pair
invariant-loop-pair l = IsWritten held_bytes FitsHeld (l.fn.into ++ low_first 8 (length l.held)) l.held l.pair-index l.into
