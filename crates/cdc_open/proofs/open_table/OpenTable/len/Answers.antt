use Rattle.std.proofs.Common.{length, List, ap, sym, ◌∙◌}
use Rattle.cdc_open.specs.Standing.{StandingBranch}
use Rattle.cdc_open.proofs.Tables.{count_standing}
use Rattle.cdc_open.proofs.open_table.OpenTable.len.Goals as goal

pub returns : goal.returns
returns c = c.len.ensures.len ∙ sym (count_standing c.self.inside.branches.entries) ∙ ap (λ (list : List StandingBranch). length list) c.self.view_is
