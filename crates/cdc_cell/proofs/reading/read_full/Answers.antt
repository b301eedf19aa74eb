use Rattle.std.proofs.Common.{◌≡◌, ℕ, ◌+◌, ◌-◌, List, length, take, drop, ◌∙◌, ap, arith}
use Rattle.cdc_outside.specs.Disk.{Image}
use Rattle.cdc_cell.proofs.Alone.{alone_both}
use Rattle.cdc_cell.proofs.Filling.{read_on}
use borrow.Rule.Slice.PartMut.{same_len_mid, post_of}
use Rattle.cdc_cell.proofs.reading.read_full.Goals as goal

pub loop-filled-preserved : goal.loop-filled-preserved
loop-filled-preserved g c =
    let filled : ℕ = c.loop-filled.filled in
    let read : ℕ = c.in_ok-read.read in
    let into : List ℕ = c.loop-filled.into in
    let piece : List ℕ = c.read_piece.new.into in
    record {
      size = same_len_mid filled (length into - filled) into piece c.read_piece.auto.into ∙ c.loop-filled.invariant.size;
      within = omega (arith, c.in_ok-read.ensures.within, c.loop-filled.invariant.size, c.loop-filled.invariant.within);
      bytes = λ told.
          let same = ap (λ (f : Image). f c.args.file) (c.loop-filled.invariant.alone told).same in
          read_on filled read c.args.at into piece (post_of filled (length into - filled) into) (g.D.Disk.seen c.args.disk.now c.args.file) (omega arith) (omega (arith, c.in_ok-read.ensures.within, c.read_piece.auto.into)) (c.loop-filled.invariant.bytes told)
          (c.in_ok-read.ensures.bytes told ∙ ap (λ (l : List ℕ). take read (drop (c.args.at + filled) l)) same);
      there = λ told.
          let same : g.D.Disk.seen c.loop-filled.disk c.args.file ≡ g.D.Disk.seen c.args.disk.now c.args.file = ap (λ (f : Image). f c.args.file) (c.loop-filled.invariant.alone told).same in
          omega (arith, c.in_ok-read.ensures.there told, ap length same, c.loop-filled.invariant.there told);
      alone = λ told.
          alone_both g.D.Disk.seen g.D.Disk.synced g.D.Disk.pending g.D.Disk.may_leave g.D.Disk.moment g.D.Disk.left_since c.args.disk.now c.loop-filled.disk c.read_piece.new.disk (c.loop-filled.invariant.alone told) (c.in_ok-read.ensures.alone told);
      later = omega (arith, c.loop-filled.invariant.later, c.in_ok-read.ensures.faults.later);
    }
