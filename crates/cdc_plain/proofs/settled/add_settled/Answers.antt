use Rattle.std.proofs.lemmas.Result.{on_ok_weaker}
use Rattle.cdc_plain.proofs.KeptKeys.{put_kept}
use Rattle.cdc_plain.proofs.settled.add_settled.Goals as goal

pub returns-clause-kept : goal.returns-clause-kept
returns-clause-kept c =
    λ all. on_ok_weaker c.put.result (λ is. rw is (put_kept c.branch.inside.key c.args.keys.now c.branch.invariant.key all)) c.put.ensures
