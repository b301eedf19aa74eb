use Rattle.std.proofs.Common.{List, map, ap, ◌∙◌}
use Rattle.cdc_model.specs.Records.{CommittedBranch}
use Rattle.cdc_waiting.specs.declared.ranked_branch.RankedBranch.{RankedBranch}
use Rattle.cdc_waiting.specs.Waiting.{wait_with}
use Rattle.cdc_waiting.proofs.Behind.{branches_inserted}
use Rattle.cdc_waiting.proofs.waiting.Waiting.add.Goals as goal

pub returns-clause-ok : goal.returns-clause-ok
returns-clause-ok c =
    let ranked : RankedBranch = record { branch = c.args.branch } in
    ap (map (λ (r : RankedBranch). r.branch)) c.in_ok-insert.ensures.keys
    ∙ branches_inserted c.self.inside.branches.keys ranked
    ∙ ap (λ (list : List CommittedBranch). wait_with list c.args.branch) c.self.view_is
