use Rattle.std.proofs.Common.{sym}
use Rattle.cdc_cell.specs.Reading.{IsLeftAlone}
use Rattle.cdc_cell.proofs.Alone.{alone_yet}
use Rattle.cdc_list.proofs.Zips.{zip_set, later_set}
use Rattle.cdc_list.proofs.Ends.{content_at, rose_at, front_is_near}
use Rattle.cdc_list.proofs.listing.push_out.Goals as goal

pub push_out_lines-requires : goal.push_out_lines-requires
push_out_lines-requires g c = record { near = front_is_near c.args.front.now c.requires.shaped }

pub returns-clause-told : goal.returns-clause-told
returns-clause-told g c told =
    c.push_out_lines.ensures.told told _ (sym (content_at g.D.Disk.seen c.args.outs.now.items c.args.index c.index_mut.result.now c.requires.within c.index_mut.ensures.value))

pub returns-clause-failed : goal.returns-clause-failed
returns-clause-failed g c is =
    rose_at g.D.Disk.faults c.args.outs.now.items c.args.index c.index_mut.result.now c.push_out_lines.new.disk c.requires.within c.index_mut.ensures.value (c.push_out_lines.ensures.failed is)

pub returns-clause-alone : goal.returns-clause-alone
returns-clause-alone g c told =
    zip_set (IsLeftAlone g.D.Disk.seen g.D.Disk.synced g.D.Disk.pending g.D.Disk.may_leave g.D.Disk.moment g.D.Disk.left_since)
    (alone_yet g.D.Disk.seen g.D.Disk.synced g.D.Disk.pending g.D.Disk.may_leave g.D.Disk.moment g.D.Disk.left_since (λ disk image left. g.met.D.Disk.only_now disk image told left))
    c.args.outs.now.items c.args.index c.index_mut.result.now c.push_out_lines.new.disk c.index_mut.ensures.value (c.push_out_lines.ensures.alone told)

pub returns-clause-later : goal.returns-clause-later
returns-clause-later g c =
    later_set g.D.Disk.faults c.args.outs.now.items c.args.index c.index_mut.result.now c.push_out_lines.new.disk c.index_mut.ensures.value c.push_out_lines.ensures.later
