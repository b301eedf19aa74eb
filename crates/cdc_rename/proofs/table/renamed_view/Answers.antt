use Rattle.cdc_rename.proofs.Maps.{keeps_map}
use Rattle.cdc_rename.proofs.table.renamed_view.Goals as goal

pub returns-in_ok-copy_of-in-Some-clause-kept : goal.returns-in_ok-copy_of-in-Some-clause-kept
returns-in_ok-copy_of-in-Some-clause-kept c =
    rw (c.in-TableMap.is, c.in_ok-blob_of-in-Some.ensures, c.in_ok-blob_of-in-Some-2.ensures, c.in_ok-copy_of-in-Some.ensures)
    (keeps_map _ _ _ _ _ _ _ c.in-Some.ensures.names.to_db.short c.in-Some.ensures.names.to_table.short)
