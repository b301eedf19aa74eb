use Rattle.std.proofs.Common.{◌≡◌, ℕ, ◌+◌, ◌-◌, ◌%◌, ◌≤◌, ◌<◌, List, ◌++◌, length, ap, sym, ◌∙◌, arith, length-drop}
use Rattle.std.proofs.lemmas.List.{take_all}
use Rattle.cdc_packet.proofs.Sending.{parts_of, on_err, sending_failed, sending_done, sending_more, number_more}
use Rattle.cdc_packet.specs.Packet.{full_packet, sequence_behind}
use Rattle.cdc_packet.proofs.writing.write_packet.Goals as goal

pub returns-in_err-write_one-clause-err : goal.returns-in_err-write_one-clause-err
returns-in_err-write_one-clause-err g c told =
    let front = c.split_at.ensures in
    let back = c.split_at-in-loop-number.ensures in
    let parts = parts_of full_packet c.min-from_front.result c.min-from_back.result c.loop-number.front.now c.loop-number.back.now _ _ _ _
    c.min-from_front.ensures c.min-from_back.ensures front.front back.front front.back back.back in
    on_err _ _ (sending_failed _ _ (c.loop-number.invariant.so_far told) parts.part parts.size_is (c.in_err-write_one.ensures.err told))

pub returns-then-from_front-from_back-lt-PACKET_MAX-clause-ok :
    goal.returns-then-from_front-from_back-lt-PACKET_MAX-clause-ok
returns-then-from_front-from_back-lt-PACKET_MAX-clause-ok g c told =
    let front = c.split_at.ensures in
    let back = c.split_at-in-loop-number.ensures in
    let payload : List ℕ = c.loop-number.front.now ++ c.loop-number.back.now in
    let parts = parts_of full_packet c.min-from_front.result c.min-from_back.result c.loop-number.front.now c.loop-number.back.now _ _ _ _
    c.min-from_front.ensures c.min-from_back.ensures front.front back.front front.back back.back in
    let sum = parts.sum_is in
    let size = parts.size_is in
    let test = c.if-from_front-from_back-lt-PACKET_MAX.true in
    let short : length payload < full_packet = omega (arith, sum, test) in
    sending_done _ _ (c.loop-number.invariant.so_far told) short (parts.part ∙ take_all full_packet payload (omega (arith, short))) (omega (arith, size, short)) (c.in_ok-write_one.ensures.ok told)

pub loop-number-preserved : goal.loop-number-preserved
loop-number-preserved g c =
    let before = c.loop-number.invariant in
    let done = c.in_ok-write_one.ensures in
    let front = c.split_at.ensures in
    let back = c.split_at-in-loop-number.ensures in
    let payload : List ℕ = c.loop-number.front.now ++ c.loop-number.back.now in
    let parts = parts_of full_packet c.min-from_front.result c.min-from_back.result c.loop-number.front.now c.loop-number.back.now _ _ _ _
    c.min-from_front.ensures c.min-from_back.ensures front.front back.front front.back back.back in
    let sum = parts.sum_is in
    let size = parts.size_is in
    let test = c.if-from_front-from_back-lt-PACKET_MAX.false in
    let long : full_packet ≤ length payload = omega (arith, sum, test) in
    let less : length (c.split_at.result.1.now ++ c.split_at-in-loop-number.result.1.now) ≡ length payload - full_packet = ap (λ l. length l) parts.left ∙ length-drop full_packet payload in
    record {
      so_far = λ told. sending_more _ _ _ (before.so_far told) long parts.part (omega (arith, size, long)) parts.left (done.ok told);
      next = before.next ∙ number_more c.loop-number.number (length payload) long ∙ ap (λ n. sequence_behind ((c.loop-number.number + 1) % 256) n) (sym less);
      later = grind (arith, done.faults.later, before.later);
      input = done.input ∙ before.input;
      left = done.left ∙ before.left;
    }
