use Rattle.std.proofs.Common.{ℕ, List, ◌++◌, ap, ◌∙◌, append_assoc}
use Rattle.cdc_top.specs.FaultText.{shown_xid}
use Rattle.cdc_top.proofs.fault_line.put_branch.Goals as goal

pub returns-clause-items : goal.returns-clause-items
returns-clause-items c =
    c.put_xid.ensures.items ∙ (ap (λ (bytes : List ℕ). bytes ++ shown_xid c.args.xid.now) c.put.ensures.items
    ∙ append_assoc c.args.line.now.items c.args.name.now (shown_xid c.args.xid.now))
