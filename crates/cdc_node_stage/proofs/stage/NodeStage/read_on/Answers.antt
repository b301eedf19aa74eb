use Rattle.std.proofs.Common.{◌≡◌, ◌+◌, ◌-◌, ◌≤◌, min, arith}
use Rattle.cdc_reader.proofs.Asked.{below_earlier, from_further}
use Rattle.cdc_node_stage.specs.Sending.{node_state}
use Rattle.cdc_node_stage.proofs.Steps.{prepares_end, prepares_bytes, prepares_over}
use Rattle.cdc_node_stage.proofs.stage.NodeStage.read_on.Goals as goal

pub returns-then-most-eq0-clause-prepares : goal.returns-then-most-eq0-clause-prepares
returns-then-most-eq0-clause-prepares g c =
    prepares_end g.S.Source.tells (g.S.Source.held c.args.source.now) (node_state c.args.self.now) c.requires.going c.requires.free c.requires.goes_on c.requires.stands

pub returns-in-Some-clause-prepares : goal.returns-in-Some-clause-prepares
returns-in-Some-clause-prepares g c =
    let within : c.in-Some.count ≤ c.min-most.result = c.in-Some.ensures.within in
    let most : c.min-most.result ≡ min c.args.self.now.room 65536 = c.min-most.ensures in
    prepares_bytes g.S.Source.tells (g.S.Source.held c.args.source.now) (node_state c.args.self.now) c.requires.going c.requires.free c.requires.goes_on c.requires.stands
    c.read_bytes.new.reader c.in-Some.count (c.args.self.now.room - c.in-Some.count) c.in-Some.ensures.steps
    (from_further c.args.self.now.from.place c.args.self.now.reader.log.place c.read_bytes.new.reader.log.place c.requires.stands.onward c.read_bytes.ensures.onward)
    c.read_bytes.ensures.sorter c.in-Some.ensures.bytes (let e : c.in-Some.count + (c.args.self.now.room - c.in-Some.count) ≡ c.args.self.now.room = omega (arith, within, most) in e)

pub returns-in-None-clause-prepares : goal.returns-in-None-clause-prepares
returns-in-None-clause-prepares g c =
    prepares_over g.S.Source.tells (g.S.Source.held c.args.source.now) (node_state c.args.self.now) c.requires.going c.requires.free c.requires.goes_on c.requires.stands
    c.read_bytes.new.reader c.in-None.ensures.steps
    (from_further c.args.self.now.from.place c.args.self.now.reader.log.place c.read_bytes.new.reader.log.place c.requires.stands.onward c.read_bytes.ensures.onward)
    c.read_bytes.ensures.sorter c.in-None.ensures.bytes

pub returns-in-Some-clause-asks : goal.returns-in-Some-clause-asks
returns-in-Some-clause-asks g c = record {
  held = c.read_bytes.ensures.held;
  sizes = c.read_bytes.ensures.sizes;
  later = c.read_bytes.ensures.later;
  below = below_earlier c.args.self.now.from.place c.args.self.now.reader.log.place _ _ c.requires.stands.onward c.read_bytes.ensures.below;
  fails = c.read_bytes.ensures.failed;
}

pub returns-in-None-clause-asks : goal.returns-in-None-clause-asks
returns-in-None-clause-asks g c = record {
  held = c.read_bytes.ensures.held;
  sizes = c.read_bytes.ensures.sizes;
  later = c.read_bytes.ensures.later;
  below = below_earlier c.args.self.now.from.place c.args.self.now.reader.log.place _ _ c.requires.stands.onward c.read_bytes.ensures.below;
  fails = c.read_bytes.ensures.failed;
}
