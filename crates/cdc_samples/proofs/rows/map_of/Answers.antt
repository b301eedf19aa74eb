use Rattle.cdc_samples.proofs.Kept.{map_kept}
use Rattle.cdc_samples.proofs.rows.map_of.Goals as goal

pub returns-clause-row : goal.returns-clause-row
returns-clause-row c =
    rw (c.in_ok-blob_of.ensures, c.in_ok-blob_of-2.ensures, c.in_ok-blob_of-3.ensures)
    (map_kept c.args.db.now c.args.name.now c.args.rest.now c.requires.db c.requires.name c.requires.rest)
