use Rattle.std.proofs.Common.{◌+◌, ℕ, length, ◌∙◌, arith}
use Rattle.cdc_outside.proofs.Blocks.{Told, Writing, begun_writing, wrote_more, wrote_through}
use Rattle.cdc_outside.proofs.Pieces.{written_twice, on_ok}
use Rattle.cdc_outside.proofs.through.write_pair_through.Goals as goal

pub returns-in_err-write_at-clause-any_moment : goal.returns-in_err-write_at-clause-any_moment
returns-in_err-write_at-clause-any_moment g c told durable =
    let t : Told g.row.D.Denot = record {
      seen = g.D.Disk.seen;
      synced = g.D.Disk.synced;
      pending = g.D.Disk.pending;
      may_leave = g.D.Disk.may_leave;
      moment = g.D.Disk.moment;
      left_since = g.D.Disk.left_since;
      image_is = λ disk image. g.met.D.Disk.image_is disk image told;
      only_now = λ disk image. g.met.D.Disk.only_now disk image told;
    } in
    let old = c.args.disk.now in
    let count : ℕ = length c.args.first.now + length c.args.second.now in
    let mid = c.write_at.new.self in
    let run : Writing t old c.args.file c.args.at count (c.requires.place told) mid =
    wrote_more t old c.args.file c.args.at count (c.requires.place told) old mid c.args.at (length c.args.first.now) (omega arith) (omega arith) (begun_writing t old c.args.file c.args.at count (c.requires.place told) durable)
    (c.write_at.ensures.synced told) (c.write_at.ensures.pending told) (c.write_at.ensures.time told) in
    run.run

pub returns-in_err-write_at-2-clause-any_moment : goal.returns-in_err-write_at-2-clause-any_moment
returns-in_err-write_at-2-clause-any_moment g c told durable =
    let t : Told g.row.D.Denot = record {
      seen = g.D.Disk.seen;
      synced = g.D.Disk.synced;
      pending = g.D.Disk.pending;
      may_leave = g.D.Disk.may_leave;
      moment = g.D.Disk.moment;
      left_since = g.D.Disk.left_since;
      image_is = λ disk image. g.met.D.Disk.image_is disk image told;
      only_now = λ disk image. g.met.D.Disk.only_now disk image told;
    } in
    let old = c.args.disk.now in
    let count : ℕ = length c.args.first.now + length c.args.second.now in
    let mid = c.write_at.new.self in
    let run : Writing t old c.args.file c.args.at count (c.requires.place told) mid =
    wrote_more t old c.args.file c.args.at count (c.requires.place told) old mid c.args.at (length c.args.first.now) (omega arith) (omega arith) (begun_writing t old c.args.file c.args.at count (c.requires.place told) durable)
    (c.write_at.ensures.synced told) (c.write_at.ensures.pending told) (c.write_at.ensures.time told) in
    let end = c.write_at-2.new.self in
    let both : Writing t old c.args.file c.args.at count (c.requires.place told) end =
    wrote_more t old c.args.file c.args.at count (c.requires.place told) mid end (c.args.at + length c.args.first.now) (length c.args.second.now) (omega arith) (omega arith) run
    (c.write_at-2.ensures.synced told) (c.write_at-2.ensures.pending told) (c.write_at-2.ensures.time told) in
    both.run

pub returns-clause-any_moment : goal.returns-clause-any_moment
returns-clause-any_moment g c told durable =
    let t : Told g.row.D.Denot = record {
      seen = g.D.Disk.seen;
      synced = g.D.Disk.synced;
      pending = g.D.Disk.pending;
      may_leave = g.D.Disk.may_leave;
      moment = g.D.Disk.moment;
      left_since = g.D.Disk.left_since;
      image_is = λ disk image. g.met.D.Disk.image_is disk image told;
      only_now = λ disk image. g.met.D.Disk.only_now disk image told;
    } in
    let old = c.args.disk.now in
    let count : ℕ = length c.args.first.now + length c.args.second.now in
    let mid = c.write_at.new.self in
    let run : Writing t old c.args.file c.args.at count (c.requires.place told) mid =
    wrote_more t old c.args.file c.args.at count (c.requires.place told) old mid c.args.at (length c.args.first.now) (omega arith) (omega arith) (begun_writing t old c.args.file c.args.at count (c.requires.place told) durable)
    (c.write_at.ensures.synced told) (c.write_at.ensures.pending told) (c.write_at.ensures.time told) in
    let end = c.write_at-2.new.self in
    let both : Writing t old c.args.file c.args.at count (c.requires.place told) end =
    wrote_more t old c.args.file c.args.at count (c.requires.place told) mid end (c.args.at + length c.args.first.now) (length c.args.second.now) (omega arith) (omega arith) run
    (c.write_at-2.ensures.synced told) (c.write_at-2.ensures.pending told) (c.write_at-2.ensures.time told) in
    wrote_through t old c.args.file c.args.at count (c.requires.place told) end c.sync.new.self both (c.sync.ensures.time told) (c.sync.ensures.crash told)

pub returns-clause-seen : goal.returns-clause-seen
returns-clause-seen g c told =
    on_ok c.sync.result
    (c.sync.ensures.seen told
    ∙ written_twice c.args.file c.args.at c.args.first.now c.args.second.now (g.D.Disk.seen c.args.disk.now) (g.D.Disk.seen c.write_at.new.self) (g.D.Disk.seen c.write_at-2.new.self)
    (c.requires.place told) (c.in_ok-write_at.ensures.written told) (c.in_ok-write_at-2.ensures.written told))
