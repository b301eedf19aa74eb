use Rattle.std.proofs.Common.{◌≡◌, length, arith}
use Rattle.cdc_packet.proofs.Requests.{HeadCame, head_came, not_whole}
use Rattle.cdc_packet.proofs.reading.read_packet.Goals as goal

pub returns-in-Err-clause-told : goal.returns-in-Err-clause-told
returns-in-Err-clause-told g c told =
    let bytes = g.L.Link.left c.args.link.now in
    let four : length c.fill.new.piece ≡ 4 = grind arith in
    let came : HeadCame bytes c.fill.new.piece (g.L.Link.left c.fill.new.link) =
    head_came bytes c.fill.new.piece (g.L.Link.left c.fill.new.link) c.in-Ok.read four (c.in-Ok.ensures.ok told) (omega (arith, c.if-read-lt-HEAD_LENGTH.false)) in
    not_whole (Unit {0}) bytes _ _ _ _ _ c.size_in-size.result c.in-Err.end came c.size_in-size.ensures c.if-size-gt-REQUEST_MAX.false (c.in-Err.ensures.told told)
