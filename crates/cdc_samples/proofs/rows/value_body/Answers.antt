use Rattle.cdc_samples.proofs.Kept.{value_kept}
use Rattle.cdc_samples.proofs.rows.value_body.Goals as goal

pub returns : goal.returns
returns c = rw c.in_ok-bytes.ensures (value_kept c.args.bytes.now c.requires)
