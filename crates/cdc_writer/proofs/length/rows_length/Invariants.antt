use Rattle.std.proofs.Common.{length}
use Rattle.cdc_writer.specs.Events.{renamed_rows}
use Rattle.cdc_writer.proofs.Counted.{Counted}
use Rattle.cdc_writer.proofs.length.rows_length.Given as goal

abbrev pub invariant-rows : goal.invariant-rows
invariant-rows l = Counted l.total (renamed_rows l.names l.rows) (renamed_rows l.names l.left)

abbrev pub decreases-rows : goal.decreases-rows
decreases-rows l = length l.left
