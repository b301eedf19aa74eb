use Rattle.std.proofs.Common.{ℕ, List, [], ◌∷◌, length, get_or, if◌then◌else◌, ◌||◌, nat_le, refl, ◌∙◌, ap, arith, length-append}
use Rattle.cdc_outside.specs.Disk.{Change, is_written}
use Rattle.cdc_memory.specs.Replay.{at_rest, after_steps}
use Rattle.cdc_memory.proofs.Picks.{marked_next}
use Rattle.cdc_memory.proofs.crash.mark.Goals as goal

pub loop-byte-preserved : goal.loop-byte-preserved
loop-byte-preserved c =
    let index : ℕ = c.loop-byte.byte-index in
    let seen : List ℕ = c.args.seen.now in
    record {
      count = omega (arith, c.loop-byte.invariant.count);
      size = omega (arith, ap length c.push.ensures.bytes, length-append c.loop-byte.left.bytes.items (c.marked_byte.result ∷ []), c.loop-byte.invariant.size);
      room = c.push.ensures.room ∙ c.loop-byte.invariant.room;
      bytes = λ image.
          let changes : List Change = (after_steps (at_rest image) c.args.history.now.steps.items).pending c.args.file in
          c.push.ensures.bytes
          ∙ marked_next c.args.value c.args.synced index changes seen c.loop-byte.left.bytes.items (get_or seen index 0) c.marked_byte.result c.loop-byte-test.true refl (c.loop-byte.invariant.bytes image)
          (c.marked_byte.ensures image ∙ ap (λ n. if is_written n changes || nat_le c.args.synced n then c.args.value else get_or seen index 0) c.loop-byte.invariant.count);
    }
