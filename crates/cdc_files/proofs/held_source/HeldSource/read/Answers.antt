use Rattle.cdc_files.proofs.KeptBytes.{known_kept}
use Rattle.cdc_files.proofs.held_source.HeldSource.read.Goals as goal

pub returns-in-Ok-clause-whole : goal.returns-in-Ok-clause-whole
returns-in-Ok-clause-whole g c =
    known_kept g.F.Read.remaining c.args.reader c.take.result.inner c.take.result.limit 1048577 c.new-bytes.result.items c.read_to_end.new.buf.items c.kept.result.bytes.items _
    c.take.ensures.inner c.take.ensures.limit c.new-bytes.ensures.items c.in-Ok.ensures.bytes c.kept.ensures.bytes
