use Rattle.std.proofs.Common.{List, map, ap, ◌∙◌}
use Rattle.cdc_model.specs.Records.{OpenBranch}
use Rattle.cdc_model.specs.Watermark.{least}
use Rattle.cdc_open.specs.Standing.{StandingBranch, branches_of}
use Rattle.cdc_open.specs.Table.{floors_of}
use Rattle.cdc_open.proofs.Tables.{floors_are}
use Rattle.cdc_open.proofs.open_table.OpenTable.least.Goals as goal

pub returns : goal.returns
returns c =
    let entries = c.self.inside.branches.entries in
    c.least.ensures (floors_of entries) c.self.invariant
    ∙ ap (least c.args.mark) (floors_are entries)
    ∙ ap (λ (list : List StandingBranch). least c.args.mark (map (λ (b : OpenBranch). b.floor) (branches_of list))) c.self.view_is
