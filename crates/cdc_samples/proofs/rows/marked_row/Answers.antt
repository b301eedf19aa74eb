use Rattle.cdc_samples.proofs.Kept.{marked_kept}
use Rattle.cdc_samples.proofs.rows.marked_row.Goals as goal

pub returns : goal.returns
returns c = rw c.in_ok-text.ensures (marked_kept c.args.text.now c.requires)
