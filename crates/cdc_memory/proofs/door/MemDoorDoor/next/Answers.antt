use Rattle.std.proofs.Common.{◌∙◌, ap, sym, subst, arith}
use Rattle.std.specs.Prelude.{All}
use Rattle.cdc_memory.specs.Link.{IsNewLink}
use Rattle.cdc_memory.specs.Wire.{wire_input}
use Rattle.cdc_memory.specs.Returned.{inputs_of}
use Rattle.cdc_memory.proofs.Handing.{Given, given_next, all_rest}
use Rattle.cdc_memory.proofs.door.MemDoorDoor.next.Goals as goal

pub invariant_of-self-in-Some : goal.invariant_of-self-in-Some
invariant_of-self-in-Some c =
    let before = c.args.self.now in
    let items = c.in-Some.ensures.items in
    let order : Given (wire_input c.in-Some.link.wire) (inputs_of c.pop_front.new.self.items) before.inputs.items before.given = given_next _ _ _ _ (sym (ap inputs_of items) ∙ before.in_order) in
    record {
      fresh = all_rest IsNewLink c.in-Some.link c.pop_front.new.self.items (subst (All IsNewLink) items before.fresh);
      in_order = order.rest;
      given_within = omega (arith, order.below);
      returned_within = omega (arith, before.returned_within);
      reserved = before.reserved;
      at_end = λ h. absurd (let e = before.at_end h in cc);
    }

pub returns-in-Some-clause-some : goal.returns-in-Some-clause-some
returns-in-Some-clause-some c =
    let before = c.args.self.now in
    let items = c.in-Some.ensures.items in
    let order : Given (wire_input c.in-Some.link.wire) (inputs_of c.pop_front.new.self.items) before.inputs.items before.given = given_next _ _ _ _ (sym (ap inputs_of items) ∙ before.in_order) in
    (subst (All IsNewLink) items before.fresh 0 c.in-Some.link (omega arith), items, order.taken)
