use Rattle.std.proofs.Common.{◌≡◌, ℕ, ◌+◌, ◌<◌, ◌^◌, List, ◌∷◌, length, None, ap, sym, subst, ◌∙◌, arith}
use Rattle.cdc_open.specs.declared.xid_key.XidKey.{XidKey}
use Rattle.cdc_open.specs.Standing.{Prepared, standing_of, find_standing, enter_standing}
use Rattle.cdc_open.specs.Floors.{TellsTimes}
use Rattle.cdc_open.specs.Table.{standing_list, floors_of}
use Rattle.cdc_open.proofs.Counts.{tells_same}
use Rattle.cdc_open.proofs.Tables.{none_standing, opened_list, opened_floors, count_floors}
use Rattle.cdc_open.proofs.open_table.OpenTable.open.Goals as goal

pub invariant_of-self-in-Ok : goal.invariant_of-self-in-Ok
invariant_of-self-in-Ok c =
    let key : XidKey = record { xid = c.args.xid.now } in
    let entries = c.self.inside.branches.entries in
    let absent : find_standing c.args.xid.now (standing_list entries) ≡ None =
    ap (find_standing c.args.xid.now) c.self.view_is ∙ none_standing c.args.xid.now c.args.self.now c.requires in
    let room : length (floors_of entries) + 1 < 2 ^ 64 = omega (arith, count_floors entries, c.len-count.ensures.len, c.len-count.ensures.small) in
    let told : TellsTimes c.add.new.self (c.standing.inside.floor ∷ floors_of entries) = c.in_ok-add.ensures.ok (floors_of entries) room c.self.invariant in
    let floor_is : c.standing.inside.floor ≡ c.args.standing.floor = ap (λ (p : Prepared). p.floor) c.standing.view_is in
    subst (λ (list : List (XidKey × Prepared)). TellsTimes c.add.new.self (floors_of list)) (sym c.in-Ok.ensures.entries)
    (tells_same c.add.new.self (c.args.standing.floor ∷ floors_of entries) _ (λ number. opened_floors number key c.args.standing entries absent)
    (subst (λ (n : ℕ). TellsTimes c.add.new.self (n ∷ floors_of entries)) floor_is told))

pub returns-in-Ok-clause-ok : goal.returns-in-Ok-clause-ok
returns-in-Ok-clause-ok c =
    let key : XidKey = record { xid = c.args.xid.now } in
    let entries = c.self.inside.branches.entries in
    let absent : find_standing c.args.xid.now (standing_list entries) ≡ None =
    ap (find_standing c.args.xid.now) c.self.view_is ∙ none_standing c.args.xid.now c.args.self.now c.requires in
    ap standing_list c.in-Ok.ensures.entries
    ∙ opened_list key c.args.standing entries absent
    ∙ ap (enter_standing (standing_of c.args.xid.now c.args.standing)) c.self.view_is

pub invariant_of-self-in-Err : goal.invariant_of-self-in-Err
invariant_of-self-in-Err c =
    let entries = c.self.inside.branches.entries in
    let room : length (floors_of entries) + 1 < 2 ^ 64 = omega (arith, count_floors entries, c.len-count.ensures.len, c.len-count.ensures.small) in
    subst (λ (list : List (XidKey × Prepared)). TellsTimes c.take.new.self (floors_of list)) (sym c.in-Err.ensures.err)
    (c.take.ensures (floors_of entries) (c.in_ok-add.ensures.ok (floors_of entries) room c.self.invariant))
