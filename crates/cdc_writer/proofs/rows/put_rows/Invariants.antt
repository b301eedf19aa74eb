use Rattle.std.proofs.Common.{length}
use Rattle.cdc_writer.specs.Events.{renamed_rows}
use Rattle.cdc_writer.proofs.Laid.{Left}
use Rattle.cdc_writer.proofs.rows.put_rows.Given as goal

abbrev pub invariant-rows : goal.invariant-rows
invariant-rows l = Left l.fn.into l.into l.at l.next l.seconds (renamed_rows l.names l.rows) (renamed_rows l.names l.left)

abbrev pub decreases-rows : goal.decreases-rows
decreases-rows l = length l.left
