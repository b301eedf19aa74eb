use Rattle.std.proofs.Common.{◌≡◌, ℕ, ◌+◌, ◌-◌, ◌≤◌, List, take, drop, refl, ◌∙◌, ap, arith, length-take, length-drop}
use Rattle.cdc_event.specs.Number.{number_of}
use Rattle.cdc_index.proofs.Windows.{shown_length}
use Rattle.cdc_index.proofs.window.length_at.Goals as goal

pub returns-clause-told : goal.returns-clause-told
returns-clause-told g c told shown within =
    let content : List ℕ = g.D.Disk.seen c.args.disk.now c.args.file in
    let window : List ℕ = c.show.new.window in
    let place : ℕ = c.args.place in
    let left : ℕ = c.args.left in
    let from : ℕ = c.in_ok-now.now.from in
    let size : ℕ = c.in_ok-now.now.size in
    let at : ℕ = place - from in
    let room : 19 ≤ left = omega (arith, c.if-left.false) in
    let here : at + 19 ≤ size = omega (arith, c.if-at-now.false) in
    let four : at + 13 - (at + 9) ≡ 4 = omega arith in
    let front = length-take left (drop place content) in
    let behind = length-drop place content in (
      omega (arith, front, behind, within, room),
      c.number_4.ensures ∙ ap (λ (n : ℕ). number_of (take n (drop (at + 9) window))) four
          ∙ ap number_of (shown_length content window from size place left at (c.in_ok-now.ensures.told told shown) c.in_ok-now.ensures.before refl here room),
    )
