use Rattle.std.proofs.Common.{List, ap, ◌∙◌}
use Rattle.std.specs.Option.{option_map}
use Rattle.cdc_open.specs.declared.xid_key.XidKey.{XidKey}
use Rattle.cdc_open.specs.Standing.{StandingBranch, standing_of, find_standing}
use Rattle.cdc_open.proofs.Tables.{found_is, found_some, found_none, open_some, open_none}
use Rattle.cdc_open.proofs.open_table.OpenTable.find.Goals as goal

pub returns-clause-some : goal.returns-clause-some
returns-clause-some c =
    let key : XidKey = record { xid = c.args.xid.now } in
    found_some c.args.xid.now c.get.result (find_standing c.args.xid.now c.args.self.now)
    (ap (option_map (standing_of c.args.xid.now)) c.get.ensures.value ∙ found_is key c.self.inside.branches.entries
    ∙ ap (λ (list : List StandingBranch). find_standing c.args.xid.now list) c.self.view_is)

pub returns-clause-none : goal.returns-clause-none
returns-clause-none c =
    let key : XidKey = record { xid = c.args.xid.now } in
    found_none c.args.xid.now c.get.result (find_standing c.args.xid.now c.args.self.now)
    (ap (option_map (standing_of c.args.xid.now)) c.get.ensures.value ∙ found_is key c.self.inside.branches.entries
    ∙ ap (λ (list : List StandingBranch). find_standing c.args.xid.now list) c.self.view_is)

pub returns-clause-open : goal.returns-clause-open
returns-clause-open c =
    let key : XidKey = record { xid = c.args.xid.now } in
    open_some c.args.xid.now c.get.result c.args.self.now
    (ap (option_map (standing_of c.args.xid.now)) c.get.ensures.value ∙ found_is key c.self.inside.branches.entries
    ∙ ap (λ (list : List StandingBranch). find_standing c.args.xid.now list) c.self.view_is)

pub returns-clause-closed : goal.returns-clause-closed
returns-clause-closed c =
    let key : XidKey = record { xid = c.args.xid.now } in
    open_none c.args.xid.now c.get.result c.args.self.now
    (ap (option_map (standing_of c.args.xid.now)) c.get.ensures.value ∙ found_is key c.self.inside.branches.entries
    ∙ ap (λ (list : List StandingBranch). find_standing c.args.xid.now list) c.self.view_is)
