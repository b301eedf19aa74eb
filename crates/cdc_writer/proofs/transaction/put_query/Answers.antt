use Rattle.cdc_writer.proofs.Queries.{query_printable}
use Rattle.cdc_writer.proofs.transaction.put_query.Goals as goal

pub put_event-requires : goal.put_event-requires
put_event-requires c =
    rw (c.empty.ensures, c.in_ok-copy_of.ensures, c.in_ok-copy_of-2.ensures)
    (query_printable c.args.at c.args.database.now c.args.text.now c.requires.short c.requires.room)
