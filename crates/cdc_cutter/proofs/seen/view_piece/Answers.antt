use Rattle.std.proofs.Common.{rules}
use Rattle.cdc_event.proofs.FilePieces.{misplaced}
use Rattle.cdc_cutter.proofs.Seeing.{viewed}
use Rattle.cdc_cutter.proofs.seen.view_piece.Goals as goal

pub returns-then-header-ne-FORMAT : goal.returns-then-header-ne-FORMAT
returns-then-header-ne-FORMAT c = misplaced c.args.first c.args.checksum c.args.bytes.now c.args.header.now c.requires.begins c.requires.length c.requires.whole (search rules)

pub returns : goal.returns
returns c = viewed c.args.first c.args.checksum c.args.bytes.now c.args.header.now c.read_view.result c.requires.each c.requires.begins c.requires.length c.requires.whole (search rules) (search rules)
