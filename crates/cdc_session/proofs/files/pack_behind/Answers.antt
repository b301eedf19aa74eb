use Rattle.std.proofs.Common.{ℕ, ◌+◌, refl, ◌∙◌, arith}
use Rattle.std.specs.Prelude.{true, false}
use Rattle.cdc_cell.proofs.Alone.{alone_yet, alone_both}
use Rattle.cdc_session.specs.Dump.{as_payloads, file_part, whole_payloads}
use Rattle.cdc_session.specs.Shelf.{file_at, files_on}
use Rattle.cdc_session.proofs.Chains.{payloads_next, whole_next}
use Rattle.cdc_session.proofs.Sent.{streaming_starts, streaming_more, streaming_breaks, breaks_part}
use Rattle.cdc_session.proofs.files.pack_behind.Goals as goal

pub loop-next-init : goal.loop-next-init
loop-next-init g c = record {
  kept = c.requires.kept;
  upto = c.requires.published;
  alone = λ told.
      alone_yet g.D.Disk.seen g.D.Disk.synced g.D.Disk.pending g.D.Disk.may_leave g.D.Disk.moment g.D.Disk.left_since (λ disk image left. g.met.D.Disk.only_now disk image told left) c.args.disk.now;
  whole = λ told image same. refl;
  so_far = λ told tells image same.
      streaming_starts (g.L.Link.written c.args.link.now) c.args.out.now.held c.args.out.now.sequence (whole_payloads (files_on c.args.front.now image (c.args.number + 1)));
  disk_later = omega arith;
  link_later = omega arith;
  input = refl;
  left = refl;
}

pub returns-in-Err-clause-told : goal.returns-in-Err-clause-told
returns-in-Err-clause-told g c told tells image same =
    let inv = c.loop-next.invariant in
    let next : ℕ = c.in-Some.next in
    let more = c.in-Some.ensures in
    streaming_breaks (inv.so_far told tells image same)
    (breaks_part c.loop-next.out.sequence (whole_payloads (files_on c.args.front.now image (c.loop-next.file + 1))) (as_payloads (file_part 4 (file_at c.args.front.now image next)))
    (whole_payloads (files_on c.args.front.now image (next + 1))) (payloads_next c.args.front.now image c.loop-next.file next more.0 more.1)
    (c.in-Err.ensures.told told tells image ((inv.alone told).same ∙ same)))

pub returns-in-Err-clause-torn : goal.returns-in-Err-clause-torn
returns-in-Err-clause-torn g c told image same e =
    let inv = c.loop-next.invariant in
    let more = c.in-Some.ensures in
    inv.whole told image same
    ∙ whole_next c.args.front.now image c.loop-next.file c.in-Some.next false more.0 more.1 (c.in-Err.ensures.torn told image ((inv.alone told).same ∙ same) e)

pub loop-next-preserved : goal.loop-next-preserved
loop-next-preserved g c =
    let inv = c.loop-next.invariant in
    let next : ℕ = c.in-Some.next in
    let more = c.in-Some.ensures in
    record {
      kept = omega (arith, inv.kept, more.1);
      upto = omega (arith, more.0, more.1);
      alone = λ told.
          alone_both g.D.Disk.seen g.D.Disk.synced g.D.Disk.pending g.D.Disk.may_leave g.D.Disk.moment g.D.Disk.left_since c.args.disk.now c.loop-next.disk c.pack_whole.new.disk
          (inv.alone told) (c.in_default-pack_whole.ensures.alone told);
      whole = λ told image same.
          inv.whole told image same
          ∙ whole_next c.args.front.now image c.loop-next.file next true more.0 more.1 (c.in_default-pack_whole.ensures.ok told image ((inv.alone told).same ∙ same));
      so_far = λ told tells image same.
          streaming_more (g.L.Link.written c.pack_whole.new.link) c.pack_whole.new.out.held c.pack_whole.new.out.sequence (whole_payloads (files_on c.args.front.now image (next + 1)))
          (inv.so_far told tells image same) (payloads_next c.args.front.now image c.loop-next.file next more.0 more.1)
          (c.in_default-pack_whole.ensures.told told tells image ((inv.alone told).same ∙ same));
      disk_later = omega (arith, inv.disk_later, c.in_default-pack_whole.ensures.disk_later);
      link_later = omega (arith, inv.link_later, c.in_default-pack_whole.ensures.link_later);
      input = c.in_default-pack_whole.ensures.input ∙ inv.input;
      left = c.in_default-pack_whole.ensures.left ∙ inv.left;
    }
