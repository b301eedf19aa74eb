use Rattle.std.proofs.Common.{◌≡◌, ℕ, ◌++◌, length, refl, ap, ◌∙◌, arith}
use Rattle.cdc_outside.specs.Disk.{Image}
use Rattle.cdc_cell.proofs.Alone.{alone_yet, alone_both}
use Rattle.cdc_records.specs.Published.{published_file}
use Rattle.cdc_list.specs.Lines.{file_line}
use Rattle.cdc_list.proofs.Texts.{files_left, files_more, files_all}
use Rattle.cdc_list.proofs.out_lines.push_file_lines.Goals as goal

pub loop-number-init : goal.loop-number-init
loop-number-init g c = record {
  so_far = λ told image same. refl;
  alone = λ told.
      alone_yet g.D.Disk.seen g.D.Disk.synced g.D.Disk.pending g.D.Disk.may_leave g.D.Disk.moment g.D.Disk.left_since (λ disk image left. g.met.D.Disk.only_now disk image told left) c.args.disk.now;
  later = omega arith;
}

pub loop-number-preserved : goal.loop-number-preserved
loop-number-preserved g c =
    let inv = c.loop-number.invariant in
    let front = c.args.front.now in
    let number : ℕ = c.loop-number.number in
    record {
      so_far = λ told image same.
          let line : c.push_file_line.new.text ≡ c.loop-number.text ++ file_line c.args.out number (length (published_file front image number)) =
          c.in_default.ensures.told told ∙ ap (λ (i : Image). c.loop-number.text ++ file_line c.args.out number (length (published_file front i number))) ((inv.alone told).same ∙ same) in
          files_more (c.args.text.now ++ files_left c.args.out front image front.first) c.loop-number.text c.push_file_line.new.text c.args.out front image number
          c.loop-number-test.true line (inv.so_far told image same);
      alone = λ told.
          alone_both g.D.Disk.seen g.D.Disk.synced g.D.Disk.pending g.D.Disk.may_leave g.D.Disk.moment g.D.Disk.left_since c.args.disk.now c.loop-number.disk c.push_file_line.new.disk
          (inv.alone told) (c.push_file_line.ensures.alone told);
      later = omega (arith, inv.later, c.push_file_line.ensures.later);
    }

pub returns-in-Err-clause-alone : goal.returns-in-Err-clause-alone
returns-in-Err-clause-alone g c told =
    alone_both g.D.Disk.seen g.D.Disk.synced g.D.Disk.pending g.D.Disk.may_leave g.D.Disk.moment g.D.Disk.left_since c.args.disk.now c.loop-number.disk c.push_file_line.new.disk
    (c.loop-number.invariant.alone told) (c.push_file_line.ensures.alone told)

pub returns-clause-told : goal.returns-clause-told
returns-clause-told g c told image same =
    let front = c.args.front.now in
    files_all (c.args.text.now ++ files_left c.args.out front image front.first) c.loop-number.text c.args.out front image c.loop-number.number
    (omega (arith, c.loop-number-test.false)) (c.loop-number.invariant.so_far told image same)
