use Rattle.std.proofs.Common.{ℕ, List, ap, sym, subst, ◌∙◌}
use Rattle.std.specs.BTreeMap.{insert_entry}
use Rattle.cdc_base.specs.declared.xid.Xid.{Xid}
use Rattle.cdc_base.specs.Xid.{xid_order}
use Rattle.cdc_model.specs.NodeCuts.{AreFloors}
use Rattle.cdc_open.specs.declared.xid_key.XidKey.{XidKey}
use Rattle.cdc_sorter.specs.Cut.{pairs_of}
use Rattle.cdc_sorter.proofs.HeldMaps.{pairs_put, floors_put}
use Rattle.cdc_sorter.proofs.held_map.HeldMap.put.Goals as goal

pub invariant_of-self-2 : goal.invariant_of-self-2
invariant_of-self-2 c =
    let key : XidKey = record { xid = c.args.xid.now } in
    let entries = c.self.inside.pairs.entries in
    subst (λ (list : List (XidKey × ℕ)). AreFloors (pairs_of list)) (sym c.in_ok-insert.ensures.entries)
    (subst AreFloors (sym (pairs_put entries key c.args.floor)) (floors_put (pairs_of entries) c.args.xid.now c.args.floor c.requires c.self.invariant))

pub returns-clause-ok : goal.returns-clause-ok
returns-clause-ok c =
    let key : XidKey = record { xid = c.args.xid.now } in
    ap pairs_of c.in_ok-insert.ensures.entries
    ∙ pairs_put c.self.inside.pairs.entries key c.args.floor
    ∙ ap (λ (list : List (Xid × ℕ)). insert_entry xid_order list c.args.xid.now c.args.floor) c.self.view_is
