use Rattle.std.proofs.Common.{◌≡◌, ℕ, ◌≤◌, nat_lt, ◌-◌, List, length, slice_index, get_or, Option, Some, sym, ◌∙◌, ap, arith}
use Rattle.std.proofs.lemmas.List.{get_or-take}
use Rattle.cdc_cell.specs.declared.slot.SlotHead.{SlotHead}
use Rattle.cdc_cell.proofs.Heads.{number_in, is_open_here, head_open}
use Rattle.cdc_cell.proofs.slot.head_in.Goals as goal

pub returns : goal.returns
returns c = λ file told is.
    let gate : slice_index file 0 ≡ 1 = sym (get_or-take 17 file 0 0 (omega arith)) ∙ ap (λ (l : List ℕ). get_or l 0 0) is ∙ omega (arith, c.if-bytes-ne-OPEN.false) in
    let long : 17 ≤ length file = omega (arith, c.requires, told) in
    let head : ℕ → Option SlotHead = λ n. Some record { number = c.read_number.result; length = c.read_number-length.result; overruns = nat_lt (n - 17) c.read_number-length.result } in
    ap head (sym told)
    ∙ head_open file c.read_number.result c.read_number-length.result (is_open_here file long gate)
    (number_in 1 file c.args.bytes.now c.read_number.result (omega arith) is c.read_number.ensures) (number_in 9 file c.args.bytes.now c.read_number-length.result (omega arith) is c.read_number-length.ensures)
