use Rattle.std.proofs.Common.{◌≡◌, inl, inr, ◌≤◌, ◌+◌, ℕ, List, length, take, drop, Some, sym, ◌∙◌, ap, arith, length-take}
use Rattle.std.proofs.lemmas.Bool.{cases_lt}
use Rattle.std.proofs.lemmas.Grind.{same_number_lists}
use Rattle.std.proofs.lemmas.Result.{on_ok_weaker}
use Rattle.cdc_outside.proofs.Pieces.{on_ok}
use Rattle.cdc_outside.specs.Disk.{Image}
use Rattle.cdc_cell.specs.Slot.{slot_length}
use Rattle.cdc_cell.specs.Record.{kept_record}
use Rattle.cdc_cell.specs.Cell.{length_in, payload_in}
use Rattle.cdc_cell.specs.declared.cell.Kept.{Kept}
use Rattle.cdc_cell.proofs.Known.{known_slot, payload_range, range_there}
use Rattle.cdc_cell.proofs.cell.Cell.load.Goals as goal

pub returns-in-Some-clause-loaded : goal.returns-in-Some-clause-loaded
returns-in-Some-clause-loaded g c = λ told knows.
    let seen : Image = g.D.Disk.seen c.args.disk.now in
    let kept : Kept = c.in-Some.kept in
    let known = known_slot c.args.self.now seen kept knows c.in-Some.is in
    let count : ℕ = length c.args.into.now in
    let bytes : List ℕ = seen kept.slot in
    let sized : Some kept.length ≡ Some c.requires.0 = sym (ap length_in c.in-Some.is) ∙ c.requires.1 in
    let size : kept.length ≡ c.requires.0 = cc in
    let fits : c.args.at + count ≤ length (take (slot_length bytes) (drop 17 bytes)) = omega (arith, c.requires.2, size, known.1) in
    elim (cases_lt 0 count) [
      | inl some ↦
          on_ok_weaker c.load_payload.result
          (λ is. is ∙ payload_range (slot_length bytes) c.args.at count bytes fits ∙ ap (λ (l : List ℕ). take count (drop c.args.at l)) (sym known.0))
          (c.load_payload.ensures.loaded told (range_there (slot_length bytes) c.args.at count bytes some fits))
      | inr none ↦
          on_ok c.load_payload.result
          (same_number_lists c.load_payload.new.into (take count (drop c.args.at (payload_in (kept_record seen)))) (omega (arith, c.load_payload.auto.into, length-take count (drop c.args.at (payload_in (kept_record seen)))))
          (λ k lt. absurd (omega (arith, c.load_payload.auto.into))))
    ]
