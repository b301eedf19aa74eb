use Rattle.std.proofs.lemmas.Result.{IfOk-weaker}
use Rattle.cdc_reader.proofs.Filled.{finds_in_log}
use Rattle.cdc_reader.proofs.log.LogReader.next.Goals as goal

pub returns-clause-finds : goal.returns-clause-finds
returns-clause-finds c =
    IfOk-weaker c.next.result _ _ (λ found finds. finds_in_log c.args.self.now.follower _ c.args.self.now.place found finds) c.next.ensures.found
