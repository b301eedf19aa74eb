use Rattle.std.proofs.Common.{◌+◌, ◌++◌, ap, ◌∙◌, arith, append_assoc, length-append}
use Rattle.cdc_packet.proofs.Filling.{taken_more, taken_failed}
use Rattle.cdc_packet.proofs.reading.read_payload.Goals as goal

pub loop-taken-preserved : goal.loop-taken-preserved
loop-taken-preserved g c =
    let before = c.loop-taken.invariant in
    let came = c.in-Ok.ensures in
    let more = came.grown in
    let front = before.grown in
    record {
      within = grind (arith, came.within, before.within);
      room = grind (arith, before.room);
      so_far = λ told. taken_more c.loop-taken.taken c.in-Ok.read (before.so_far told) (came.told told);
      grown = (
        front.0 ++ more.0,
        more.1 ∙ ap (λ l. l ++ more.0) front.1 ∙ append_assoc c.args.into.now front.0 more.0,
        length-append front.0 more.0 ∙ (λ i. front.2 i + more.2 i),
      );
      later = omega (arith, came.later, before.later);
      input = came.input ∙ before.input;
      written = came.written ∙ before.written;
    }

pub returns-in-Err-clause-told : goal.returns-in-Err-clause-told
returns-in-Err-clause-told g c told =
    let before = c.loop-taken.invariant in
    taken_failed (Unit {0}) _ _ _ _ _ _ c.args.size c.loop-taken.taken c.in-Err.end before.within (before.so_far told) (c.in-Err.ensures.told told) c.in-Err.ensures.same
