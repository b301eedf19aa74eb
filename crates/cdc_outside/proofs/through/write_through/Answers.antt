use Rattle.std.proofs.Common.{ℕ, length, arith}
use Rattle.cdc_outside.proofs.Blocks.{Told, Writing, begun_writing, wrote_more, wrote_through}
use Rattle.cdc_outside.proofs.through.write_through.Goals as goal

pub returns-in_err-write_at-clause-any_moment : goal.returns-in_err-write_at-clause-any_moment
returns-in_err-write_at-clause-any_moment g c told durable =
    let t : Told g.row.D.Denot = record {
      seen = g.D.Disk.seen;
      synced = g.D.Disk.synced;
      pending = g.D.Disk.pending;
      may_leave = g.D.Disk.may_leave;
      moment = g.D.Disk.moment;
      left_since = g.D.Disk.left_since;
      image_is = λ disk image. g.met.D.Disk.image_is disk image told;
      only_now = λ disk image. g.met.D.Disk.only_now disk image told;
    } in
    let old = c.args.disk.now in
    let count : ℕ = length c.args.from.now in
    let mid = c.write_at.new.self in
    let run : Writing t old c.args.file c.args.at count (c.requires told) mid =
    wrote_more t old c.args.file c.args.at count (c.requires told) old mid c.args.at count (omega arith) (omega arith) (begun_writing t old c.args.file c.args.at count (c.requires told) durable)
    (c.write_at.ensures.synced told) (c.write_at.ensures.pending told) (c.write_at.ensures.time told) in
    run.run

pub returns-clause-any_moment : goal.returns-clause-any_moment
returns-clause-any_moment g c told durable =
    let t : Told g.row.D.Denot = record {
      seen = g.D.Disk.seen;
      synced = g.D.Disk.synced;
      pending = g.D.Disk.pending;
      may_leave = g.D.Disk.may_leave;
      moment = g.D.Disk.moment;
      left_since = g.D.Disk.left_since;
      image_is = λ disk image. g.met.D.Disk.image_is disk image told;
      only_now = λ disk image. g.met.D.Disk.only_now disk image told;
    } in
    let old = c.args.disk.now in
    let count : ℕ = length c.args.from.now in
    let mid = c.write_at.new.self in
    let run : Writing t old c.args.file c.args.at count (c.requires told) mid =
    wrote_more t old c.args.file c.args.at count (c.requires told) old mid c.args.at count (omega arith) (omega arith) (begun_writing t old c.args.file c.args.at count (c.requires told) durable)
    (c.write_at.ensures.synced told) (c.write_at.ensures.pending told) (c.write_at.ensures.time told) in
    wrote_through t old c.args.file c.args.at count (c.requires told) mid c.sync.new.self run (c.sync.ensures.time told) (c.sync.ensures.crash told)
