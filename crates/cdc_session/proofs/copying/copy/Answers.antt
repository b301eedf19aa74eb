use Rattle.std.proofs.Common.{◌∙◌, arith}
use Rattle.cdc_cell.proofs.Alone.{alone_both}
use Rattle.cdc_session.proofs.Copies.{piece_more, piece_broke}
use Rattle.cdc_session.proofs.copying.copy.Goals as goal

pub returns-in-Err-clause-told : goal.returns-in-Err-clause-told
returns-in-Err-clause-told g c told tells image same reads =
    let inv = c.loop-done.invariant in
    piece_broke (image c.args.source.file) c.args.at c.loop-done.done c.args.count inv.within (inv.so_far told tells image same reads)
    (c.in-Err.ensures.told told tells image ((inv.alone told).same ∙ same) (inv.reads told image same reads))

pub loop-done-preserved : goal.loop-done-preserved
loop-done-preserved g c =
    let inv = c.loop-done.invariant in
    record {
      within = omega (arith, c.in-Ok.ensures.within.0, c.loop-done-test.true);
      alone = λ told.
          alone_both g.D.Disk.seen g.D.Disk.synced g.D.Disk.pending g.D.Disk.may_leave g.D.Disk.moment g.D.Disk.left_since c.args.disk.now c.loop-done.disk c.copy_piece.new.disk
          (inv.alone told) (c.in-Ok.ensures.alone told);
      reads = λ told image same reads. c.in-Ok.ensures.reads told image ((inv.alone told).same ∙ same) (inv.reads told image same reads);
      so_far = λ told tells image same reads.
          piece_more (image c.args.source.file) c.args.at c.loop-done.done c.in-Ok.size (inv.so_far told tells image same reads)
          (c.in-Ok.ensures.told told tells image ((inv.alone told).same ∙ same) (inv.reads told image same reads));
      disk_later = omega (arith, inv.disk_later, c.in-Ok.ensures.disk_later);
      link_later = omega (arith, inv.link_later, c.in-Ok.ensures.link_later);
      input = c.in-Ok.ensures.input ∙ inv.input;
      left = c.in-Ok.ensures.left ∙ inv.left;
    }
