use Rattle.std.proofs.Common.{◌++◌, length}
use Rattle.cdc_event.specs.Number.{low_first}
use Rattle.cdc_records.specs.Checkpoint.{cut_bytes, FitsCut}
use Rattle.cdc_task.proofs.Written.{IsWritten}
use Rattle.cdc_task.proofs.writing.push_cut_list.Given as goal

abbrev pub invariant-loop-cut : goal.invariant-loop-cut
invariant-loop-cut l = IsWritten cut_bytes FitsCut (l.fn.into ++ low_first 2 (length l.cuts)) l.cuts l.cut-index l.into
