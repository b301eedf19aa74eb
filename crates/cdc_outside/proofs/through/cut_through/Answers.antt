use Rattle.cdc_outside.proofs.Blocks.{Told, Cutting, was_cut, cut_through}
use Rattle.cdc_outside.proofs.through.cut_through.Goals as goal

pub returns-in_err-cut-clause-any_moment : goal.returns-in_err-cut-clause-any_moment
returns-in_err-cut-clause-any_moment g c told durable =
    let t : Told g.row.D.Denot = record {
      seen = g.D.Disk.seen;
      synced = g.D.Disk.synced;
      pending = g.D.Disk.pending;
      may_leave = g.D.Disk.may_leave;
      moment = g.D.Disk.moment;
      left_since = g.D.Disk.left_since;
      image_is = λ disk image. g.met.D.Disk.image_is disk image told;
      only_now = λ disk image. g.met.D.Disk.only_now disk image told;
    } in
    let old = c.args.disk.now in
    let run : Cutting t old c.args.file c.args.to (c.requires told) durable c.cut.new.self =
    was_cut t old c.args.file c.args.to (c.requires told) durable c.cut.new.self (c.cut.ensures.synced told) (c.cut.ensures.pending told) (c.cut.ensures.time told) in
    run.run

pub returns-clause-any_moment : goal.returns-clause-any_moment
returns-clause-any_moment g c told durable =
    let t : Told g.row.D.Denot = record {
      seen = g.D.Disk.seen;
      synced = g.D.Disk.synced;
      pending = g.D.Disk.pending;
      may_leave = g.D.Disk.may_leave;
      moment = g.D.Disk.moment;
      left_since = g.D.Disk.left_since;
      image_is = λ disk image. g.met.D.Disk.image_is disk image told;
      only_now = λ disk image. g.met.D.Disk.only_now disk image told;
    } in
    let old = c.args.disk.now in
    let run : Cutting t old c.args.file c.args.to (c.requires told) durable c.cut.new.self =
    was_cut t old c.args.file c.args.to (c.requires told) durable c.cut.new.self (c.cut.ensures.synced told) (c.cut.ensures.pending told) (c.cut.ensures.time told) in
    cut_through t old c.args.file c.args.to (c.requires told) durable c.cut.new.self c.sync.new.self run (c.sync.ensures.time told) (c.sync.ensures.crash told)
