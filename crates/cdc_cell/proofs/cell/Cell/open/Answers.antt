use Rattle.std.proofs.Common.{◌≡◌, inr, sym, ◌∙◌, ap}
use Rattle.cdc_outside.specs.Disk.{Image}
use Rattle.cdc_outside.specs.declared.disk_file.DiskFile.TheVariants.{SlotA, SlotB}
use Rattle.cdc_cell.specs.Slot.{head_of}
use Rattle.cdc_cell.specs.Cell.{decided_by}
use Rattle.cdc_cell.proofs.Flags.{by_heads, no_fault}
use Rattle.cdc_cell.proofs.cell.Cell.open.Goals as goal

pub returns-clause-failed : goal.returns-clause-failed
returns-clause-failed g c = λ e. absurd (no_fault c.in_ok-first.first c.in_ok-second.second (sym c.decide.ensures.decided ∙ e))

pub returns-clause-decided : goal.returns-clause-decided
returns-clause-decided g c = λ told.
    let seen : Image = g.D.Disk.seen c.args.disk.now in
    let first = c.in_ok-first.ensures.head told in
    let same : g.D.Disk.seen c.read_head.new.disk ≡ seen = (c.in_ok-first.ensures.alone told).same in
    let second : c.in_ok-second.second ≡ head_of (seen SlotB) = c.in_ok-second.ensures.head told ∙ ap (λ (f : Image). head_of (f SlotB)) same in
    inr (c.decide.ensures.decided ∙ ap (λ h. decided_by h c.in_ok-second.second) first ∙ ap (decided_by (head_of (seen SlotA))) second ∙ by_heads seen)
