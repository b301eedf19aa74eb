use Rattle.std.proofs.Common.{◌∷◌, List, ap, sym, ◌∙◌}
use Rattle.std.specs.BTreeMap.{is_at}
use Rattle.cdc_open.specs.declared.xid_key.XidKey.{XidKey}
use Rattle.cdc_open.specs.Standing.{Prepared}
use Rattle.cdc_open.specs.Floors.{times_in}
use Rattle.cdc_open.specs.Table.{standing_list, floors_of}
use Rattle.cdc_open.proofs.Tables.{key_order_of, ended_list, ended_floors}
use Rattle.cdc_open.proofs.open_table.take_out.Goals as goal

pub returns-in-Some-clause-rest : goal.returns-in-Some-clause-rest
returns-in-Some-clause-rest c =
    let key : XidKey = record { xid = c.args.xid.now } in
    ap standing_list c.remove.ensures.entries ∙ ended_list key c.args.branches.now.entries c.len-count.ensures.ordered

pub returns-in-None-clause-rest : goal.returns-in-None-clause-rest
returns-in-None-clause-rest c =
    let key : XidKey = record { xid = c.args.xid.now } in
    ap standing_list c.remove.ensures.entries ∙ ended_list key c.args.branches.now.entries c.len-count.ensures.ordered

pub returns-in-Some-clause-some : goal.returns-in-Some-clause-some
returns-in-Some-clause-some c =
    let key : XidKey = record { xid = c.args.xid.now } in
    λ number.
    ended_floors number (is_at (key_order_of key)) c.in-Some.standing c.args.branches.now.entries (sym c.remove.ensures.value ∙ c.in-Some.is)
    ∙ ap (λ (list : List (XidKey × Prepared)). times_in number (c.in-Some.standing.floor ∷ floors_of list)) (sym c.remove.ensures.entries)
    ∙ ap (λ (p : Prepared). times_in number (p.floor ∷ floors_of c.remove.new.self.entries)) (sym c.standing.view_is)
