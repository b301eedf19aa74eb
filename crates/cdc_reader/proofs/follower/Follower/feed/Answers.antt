use Rattle.std.proofs.lemmas.Result.{on_ok_weaker}
use Rattle.cdc_reader.proofs.Following.{fed_on}
use Rattle.cdc_reader.proofs.follower.Follower.feed.Goals as goal

pub returns-clause-fed : goal.returns-clause-fed
returns-clause-fed c =
    on_ok_weaker c.feed.result (fed_on c.args.self.now c.feed.new.self c.args.piece.now c.feed.ensures.file) c.feed.ensures.fed
