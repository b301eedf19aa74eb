use Rattle.std.proofs.Common.{sym, subst}
use Rattle.std.specs.Prelude.{IfOk, IfErr}
use Rattle.cdc_cell.specs.Reading.{IsLeftAlone}
use Rattle.cdc_cell.proofs.Alone.{alone_yet}
use Rattle.cdc_outside.specs.Disk.{Image}
use Rattle.cdc_dumper.specs.Opening.{IsFound, IsOpenFault}
use Rattle.cdc_list.proofs.Zips.{zip_set, later_set}
use Rattle.cdc_list.proofs.Ends.{content_at, rose_at}
use Rattle.cdc_list.proofs.listing.look_at.Goals as goal

pub returns-clause-found : goal.returns-clause-found
returns-clause-found g c told =
    subst (λ (image : Image). IfOk c.look.result (λ front. IsFound image front))
    (sym (content_at g.D.Disk.seen c.args.outs.now.items c.args.index c.index_mut.result.now c.requires c.index_mut.ensures.value)) (c.look.ensures.found told)

pub returns-clause-refused : goal.returns-clause-refused
returns-clause-refused g c told =
    subst (λ (image : Image). IfErr c.look.result (λ fault. IsOpenFault image fault))
    (sym (content_at g.D.Disk.seen c.args.outs.now.items c.args.index c.index_mut.result.now c.requires c.index_mut.ensures.value)) (c.look.ensures.refused told)

pub returns-clause-failed : goal.returns-clause-failed
returns-clause-failed g c is =
    rose_at g.D.Disk.faults c.args.outs.now.items c.args.index c.index_mut.result.now c.look.new.disk c.requires c.index_mut.ensures.value (c.look.ensures.failed is)

pub returns-clause-alone : goal.returns-clause-alone
returns-clause-alone g c told =
    zip_set (IsLeftAlone g.D.Disk.seen g.D.Disk.synced g.D.Disk.pending g.D.Disk.may_leave g.D.Disk.moment g.D.Disk.left_since)
    (alone_yet g.D.Disk.seen g.D.Disk.synced g.D.Disk.pending g.D.Disk.may_leave g.D.Disk.moment g.D.Disk.left_since (λ disk image left. g.met.D.Disk.only_now disk image told left))
    c.args.outs.now.items c.args.index c.index_mut.result.now c.look.new.disk c.index_mut.ensures.value (c.look.ensures.alone told)

pub returns-clause-later : goal.returns-clause-later
returns-clause-later g c =
    later_set g.D.Disk.faults c.args.outs.now.items c.args.index c.index_mut.result.now c.look.new.disk c.index_mut.ensures.value c.look.ensures.later
