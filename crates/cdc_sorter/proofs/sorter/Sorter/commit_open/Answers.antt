use Rattle.std.proofs.Common.{◌≡◌, ap, ◌∙◌}
use Rattle.cdc_open.specs.Standing.{standing_of}
use Rattle.cdc_sorter.specs.Seen.{sorter_seen}
use Rattle.cdc_sorter.specs.Sorting.{Sorting}
use Rattle.cdc_sorter.proofs.Backs.{before_is, commit_undone, on_err}
use Rattle.cdc_sorter.proofs.sorter.Sorter.commit_open.Goals as goal

pub returns-in_err-wait_or_back-clause-err : goal.returns-in_err-wait_or_back-clause-err
returns-in_err-wait_or_back-clause-err c =
    let old : Sorting = sorter_seen (before_is c.self-inside.view_is) in
    let counts = c.counts-counts in
    on_err (c.wait_or_back.new.self ≡ c.args.self.now) c.from_residual-in_err-wait_or_back.result
    (commit_undone old old.here.entry c.args.key (standing_of c.args.xid.now c.in-Some.standing.now) c.wait_or_back.new.self c.commit.new.self counts.result.0 counts.result.1
    c.in_err-wait_or_back.ensures.err counts.ensures.ended counts.ensures.recent c.in_ok-commit.ensures.ok
    ∙ ap sorter_seen c.self-inside.view_is ∙ c.self.view_is)
