use Rattle.std.proofs.Common.{◌≡◌, ◌-◌, ◌++◌, ◌≤◌, take, drop, length, refl, ap, sym, ◌∙◌, arith}
use Rattle.std.proofs.lemmas.List.{take-append-drop, length-take, length-drop}
use Rattle.cdc_packet.specs.Request.{EndsWith}
use Rattle.cdc_packet.proofs.Filling.{filled_more, back_written}
use Rattle.cdc_packet.proofs.Sending.{on_err}
use Rattle.cdc_packet.proofs.reading.fill.Goals as goal

pub returns-in_err-read-clause-err : goal.returns-in_err-read-clause-err
returns-in_err-read-clause-err g c told =
    let bytes = g.L.Link.left c.args.link.now in
    let before = c.loop-filled.invariant.so_far told in
    on_err _ (EndsWith bytes (g.L.Link.left c.read.new.self)) (
      take c.loop-filled.filled bytes,
      sym (take-append-drop c.loop-filled.filled bytes)
          ∙ ap (λ l. take c.loop-filled.filled bytes ++ l) (sym (c.in_err-read.ensures.err told ∙ before.left)),
    )

pub loop-filled-preserved : goal.loop-filled-preserved
loop-filled-preserved g c =
    let before = c.loop-filled.invariant in
    let piece = c.loop-filled.piece in
    let filled = c.loop-filled.filled in
    let read = c.in_ok-read.read in
    let came = c.in_ok-read.ensures in
    let slice : length c.read.new.into ≡ length piece - filled = grind (arith, length-take (length piece - filled) (drop filled piece), length-drop filled piece) in
    let room : read ≤ length c.read.new.into = grind (arith, came.within) in
    let few : read ≤ length piece - filled = omega (arith, room, slice) in
    let now = back_written piece c.read.new.into filled (length piece - filled) read before.within refl slice few in
    record {
      within = omega (arith, now.0, few, before.within);
      size = now.0 ∙ before.size;
      so_far = λ told. filled_more filled read before.within (before.so_far told) room (came.ok told) now.1;
      later = grind (arith, came.faults.later, before.later);
      input = came.input ∙ before.input;
      written = came.written ∙ before.written;
    }
