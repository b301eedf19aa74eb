use Rattle.std.proofs.Common.{◌≡◌, ◌≤◌, ◌<◌, ◌+◌, ◌-◌, ◌^◌, ◌++◌, ◌∙◌, ℕ, List, length, take, drop, min, arith}
use Rattle.std.proofs.lemmas.List.{length-take, take-append-le}
use Rattle.cdc_reader.proofs.Reading.{read_on}
use Rattle.cdc_reader.proofs.log.LogReader.read_piece.Goals as goal

pub invariant_of-self-2 : goal.invariant_of-self-2
invariant_of-self-2 g c =
    let piece : List ℕ = c.read_at.new.into ++ drop c.min-asked.result c.args.piece.now in
    let size : length (take c.in_ok-read.read piece) ≡ min c.in_ok-read.read (length piece) = length-take c.in_ok-read.read piece in
    let all : length (take c.min-asked.result c.args.piece.now) ≡ min c.min-asked.result (length c.args.piece.now) =
    length-take c.min-asked.result c.args.piece.now in
    let end : c.feed.new.self.cutter.at + length c.feed.new.self.cutter.rest
    ≤ c.args.self.now.follower.cutter.at + length c.args.self.now.follower.cutter.rest + length (take c.in_ok-read.read piece) = c.feed.ensures.end in
    let within : c.in_ok-read.read ≤ length (take c.min-asked.result c.args.piece.now) = c.in_ok-read.ensures.within in
    let left : c.min.result ≡ min (c.args.self.now.size - c.args.self.now.place.at) 65536 = c.min.ensures in
    let asked : c.min-asked.result ≡ min c.min.result (length c.args.piece.now) = c.min-asked.ensures in
    let fed : c.args.self.now.follower.cutter.at + length c.args.self.now.follower.cutter.rest ≤ c.args.self.now.place.at = c.args.self.now.fed in
    let sized : c.args.self.now.size ≤ 2 ^ 54 = c.args.self.now.sized in
    let below : c.args.self.now.place.at < c.args.self.now.size = c.requires.left in
    record {
      in_file = c.feed.ensures.file ∙ c.args.self.now.in_file;
      fed = omega arith;
      counted = omega arith;
      sized = sized;
    }

pub returns-clause-reads : goal.returns-clause-reads
returns-clause-reads g c = λ told point taken read.
    let kept : length c.read_at.new.into ≡ length (take c.min-asked.result c.args.piece.now) = c.read_at.auto.into in
    let told_within : c.in_ok-read.read ≤ length (take c.min-asked.result c.args.piece.now) = c.in_ok-read.ensures.within in
    let within : c.in_ok-read.read ≤ length c.read_at.new.into = omega arith in
    read_on point (g.S.Source.held c.args.source.now) c.args.self.now.follower c.feed.new.self c.args.self.now.place taken c.in_ok-read.read _
    c.in_ok-feed.ensures.fed
    (take-append-le c.in_ok-read.read c.read_at.new.into (drop c.min-asked.result c.args.piece.now) within ∙ (c.in_ok-read.ensures.read told).bytes) read
