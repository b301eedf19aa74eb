use Rattle.cdc_reader.proofs.Following.{follows_next, next_start, next_goes}
use Rattle.cdc_reader.proofs.follower.Follower.next_file.Goals as goal

pub returns : goal.returns
returns c = record {
  cutter = next_start c.args.self.now.cutter.state c.args.self.now.cutter c.next_file.new.self c.requires.going c.next_file.ensures.file;
  going = next_goes c.args.self.now.cutter.state c.args.self.now.cutter c.next_file.new.self c.requires.going c.next_file.ensures.file;
  follows =
      follows_next c.reading_begins.ensures c.args.self.now record { cutter = c.next_file.new.self; grouper = c.file_end.new.self } c.next_file.ensures.file
      c.next_file.ensures.holds c.file_end.ensures.grouper c.requires.going;
}
