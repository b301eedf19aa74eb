use Rattle.cdc_dump_stage.specs.Disks.{disk_words}
use Rattle.cdc_node_stage.specs.Job.{source_words}
use Rattle.cdc_headline.proofs.Rising.{windows_name_by_counts}
use Rattle.cdc_headline.proofs.laws.windows_name_by_counts.Goals as goal

pub returns : goal.returns
returns g c =
    windows_name_by_counts (source_words g.S.Source.tells g.S.Source.held g.S.Source.sizes g.S.Source.lowest g.S.Source.faults)
    (disk_words g.D.Disk.tells g.D.Disk.seen g.D.Disk.synced g.D.Disk.pending g.D.Disk.may_leave g.D.Disk.moment g.D.Disk.left_since g.D.Disk.faults)
