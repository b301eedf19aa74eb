use Rattle.std.proofs.Common.{◌≡◌, ℕ, ◌+◌, ◌-◌, ◌%◌, ◌<◌, ◌++◌, List, length, take, drop, refl, ap, sym, ◌∙◌, subst, arith, length-append, length-drop}
use Rattle.std.proofs.lemmas.List.{length-take-le}
use Rattle.cdc_cell.proofs.Alone.{alone_yet, alone_both}
use Rattle.cdc_packet.specs.Packet.{full_packet, packet_bytes, sequence_behind}
use Rattle.cdc_packet.proofs.Sending.{number_more, number_last}
use Rattle.cdc_session.proofs.Copies.{Splitting, splitting_init, splitting_more, splitting_done, splitting_breaks, later_is}
use Rattle.cdc_session.proofs.Sent.{one_packed, one_broken}
use Rattle.cdc_session.proofs.copying.pack_large.Goals as goal

pub loop-stop-init : goal.loop-stop-init
loop-stop-init g c =
    let size : ℕ = c.args.size in
    let none : size ≡ size - 0 = omega arith in
    record {
      within = omega arith;
      short = c.requires.short;
      number = ap (λ n. sequence_behind c.args.out.now.sequence (length c.args.first.now + n)) none;
      alone = λ told.
          alone_yet g.D.Disk.seen g.D.Disk.synced g.D.Disk.pending g.D.Disk.may_leave g.D.Disk.moment g.D.Disk.left_since (λ disk image left. g.met.D.Disk.only_now disk image told left) c.args.disk.now;
      reads = λ told image same reads. reads;
      so_far = λ told tells image same reads.
          splitting_init (g.L.Link.written c.args.link.now) c.args.out.now.held c.args.out.now.sequence c.args.first.now (image c.args.source.file) c.args.at size (size - 0) (c.args.at + 0)
          (sym none) (omega arith);
      disk_later = omega arith;
      link_later = omega arith;
      input = refl;
      left = refl;
    }

pub returns-in-Err-clause-told : goal.returns-in-Err-clause-told
returns-in-Err-clause-told g c told tells image same reads =
    let inv = c.loop-stop.invariant in
    let file : List ℕ = image c.args.source.file in
    let at : ℕ = c.args.at in
    let done : ℕ = c.loop-stop.done in
    let here = inv.reads told image same reads in
    let within = here.within in
    let less = length-drop (at + done) file in
    let limit = c.requires.there in
    one_broken c.args.out.now.sequence (c.args.first.now ++ take c.args.size (drop at file)) (packet_bytes c.args.out.now.sequence (c.args.first.now ++ take c.args.size (drop at file)))
    (splitting_breaks (g.L.Link.written c.pack_part.new.link) c.loop-stop.lead.now (drop (at + done) file) c.min-count.result (c.args.size - done)
    (inv.so_far told tells image same reads)
    (c.in-Err.ensures.told told tells image ((inv.alone told).same ∙ same) here)
    inv.short (omega (arith, c.min-count.ensures)) (omega (arith, less, within, limit, inv.within)))
    refl

pub returns-then-lead-count-clause-told : goal.returns-then-lead-count-clause-told
returns-then-lead-count-clause-told g c told tells image same reads =
    let inv = c.loop-stop.invariant in
    let file : List ℕ = image c.args.source.file in
    let at : ℕ = c.args.at in
    let done : ℕ = c.loop-stop.done in
    let count : ℕ = c.min-count.result in
    let here = inv.reads told image same reads in
    let within = here.within in
    let less = length-drop (at + done) file in
    let less_all = length-drop at file in
    let limit = c.requires.there in
    let least = c.min-count.ensures in
    let short : length c.loop-stop.lead.now + count < full_packet = omega (arith, c.if-lead-count.true) in
    let all_is : count ≡ c.args.size - done = omega (arith, least, short) in
    let payload : List ℕ = c.args.first.now ++ take c.args.size (drop at file) in
    let sum = length-append c.args.first.now (take c.args.size (drop at file)) in
    let sized = length-take-le c.args.size (drop at file) (omega (arith, less_all, within, limit)) in
    let long : length c.args.first.now + c.args.size ≡ length payload = omega (arith, sum, sized) in
    let left : length c.loop-stop.lead.now + (c.args.size - done) < full_packet = omega (arith, short, all_is) in
    one_packed payload (packet_bytes c.args.out.now.sequence payload)
    (splitting_done (g.L.Link.written c.pack_part.new.link) c.pack_part.new.out.held c.loop-stop.lead.now (drop (at + done) file) count (c.args.size - done)
    (inv.so_far told tells image same reads)
    (c.in_default.ensures.told told tells image ((inv.alone told).same ∙ same) here)
    short all_is (omega (arith, less, within, limit, inv.within)))
    refl
    (c.in_default.ensures.number ∙ sym (number_last c.loop-stop.out.sequence (length c.loop-stop.lead.now + (c.args.size - done)) left) ∙ sym inv.number
    ∙ ap (λ n. sequence_behind c.args.out.now.sequence n) long)

pub loop-stop-preserved : goal.loop-stop-preserved
loop-stop-preserved g c =
    let inv = c.loop-stop.invariant in
    let at : ℕ = c.args.at in
    let done : ℕ = c.loop-stop.done in
    let count : ℕ = c.min-count.result in
    let size : ℕ = c.args.size in
    let lead : List ℕ = c.loop-stop.lead.now in
    let least = c.min-count.ensures in
    let full : length lead + count ≡ full_packet = omega (arith, least, c.if-lead-count.false, inv.short) in
    let number_is = c.in_default.ensures.number in
    record {
      within = omega (arith, least, inv.within);
      short = omega arith;
      number = inv.number ∙ number_more c.loop-stop.out.sequence (length lead + (size - done)) (omega (arith, full, least, inv.within))
          ∙ ap (λ n. sequence_behind ((c.loop-stop.out.sequence + 1) % 256) n) (left_size (length lead) size done count full)
          ∙ ap (λ n. sequence_behind n (0 + (size - (done + count)))) (sym number_is);
      alone = λ told.
          alone_both g.D.Disk.seen g.D.Disk.synced g.D.Disk.pending g.D.Disk.may_leave g.D.Disk.moment g.D.Disk.left_since c.args.disk.now c.loop-stop.disk c.pack_part.new.disk
          (inv.alone told) (c.in_default.ensures.alone told);
      reads = λ told image same reads. c.in_default.ensures.reads told image ((inv.alone told).same ∙ same) (inv.reads told image same reads);
      so_far = λ told tells image same reads.
          let file : List ℕ = image c.args.source.file in
          let here = inv.reads told image same reads in
          let within = here.within in
          let less = length-drop (at + done) file in
          let limit = c.requires.there in
          let later : List ℕ = take (size - (done + count)) (drop (at + (done + count)) file) in
          subst (λ (n : ℕ). Splitting (g.L.Link.written c.args.link.now) c.args.out.now.held c.args.out.now.sequence (c.args.first.now ++ take size (drop at file))
          (g.L.Link.written c.pack_part.new.link) c.pack_part.new.out.held n later) (sym number_is)
          (splitting_more (g.L.Link.written c.pack_part.new.link) c.pack_part.new.out.held lead (drop (at + done) file) later count (size - done)
          (inv.so_far told tells image same reads)
          (c.in_default.ensures.told told tells image ((inv.alone told).same ∙ same) here)
          full (omega (arith, least)) (omega (arith, less, within, limit, inv.within)) (later_is file at done count size));
      disk_later = omega (arith, inv.disk_later, c.in_default.ensures.disk_later);
      link_later = omega (arith, inv.link_later, c.in_default.ensures.link_later);
      input = c.in_default.ensures.input ∙ inv.input;
      left = c.in_default.ensures.left ∙ inv.left;
    }
  where
    left_size : (lead size done count : ℕ) → lead + count ≡ full_packet → lead + (size - done) - full_packet ≡ 0 + (size - (done + count))
    left_size lead size done count h = omega (arith, h)
