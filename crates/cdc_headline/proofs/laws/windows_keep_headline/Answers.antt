use Rattle.cdc_dump_stage.specs.Disks.{disk_words}
use Rattle.cdc_node_stage.specs.Job.{source_words}
use Rattle.cdc_headline.proofs.Running.{windows_keep_headline}
use Rattle.cdc_headline.proofs.laws.windows_keep_headline.Goals as goal

pub returns : goal.returns
returns g c =
    windows_keep_headline (source_words g.S.Source.tells g.S.Source.held g.S.Source.sizes g.S.Source.lowest g.S.Source.faults)
    (disk_words g.D.Disk.tells g.D.Disk.seen g.D.Disk.synced g.D.Disk.pending g.D.Disk.may_leave g.D.Disk.moment g.D.Disk.left_since g.D.Disk.faults)
    g.met.D.Disk.seen_may_stay g.met.D.Disk.counts_now c.opened_pass_goes_on.ensures c.jobs_read_logs.ensures c.all_windows_give_all.ensures c.too_large_is_oversized.ensures
    c.ends_are_faults.ensures c.last_windows_point_is_the_last.ensures c.latest_is_last.ensures
