use Rattle.std.proofs.Common.{◌++◌, take, ap, sym, ◌∙◌}
use Rattle.std.proofs.lemmas.List.{take-append-drop}
use Rattle.cdc_packet.proofs.reading.read_piece.Goals as goal

pub returns-then-is_err-clause-told : goal.returns-then-is_err-clause-told
returns-then-is_err-clause-told g c told =
    let bytes = g.L.Link.left c.args.link.now in
    let came = c.in-Ok.ensures.ok told in
    (take c.in-Ok.read bytes, sym (take-append-drop c.in-Ok.read bytes) ∙ ap (λ l. take c.in-Ok.read bytes ++ l) (sym came.rest))
