use Rattle.std.proofs.Common.{subst, refl}
use Rattle.cdc_outside.specs.Disk.{Image, LeavesOnly}
use Rattle.cdc_outside.specs.declared.disk_file.DiskFile.{DiskFile}
use Rattle.cdc_cell.specs.Record.{IsOldOrNew, IsReady, HasNewRecord}
use Rattle.cdc_cell.proofs.Ready.{ready}
use Rattle.cdc_cell.proofs.Known.{knows_new}
use Rattle.cdc_cell.proofs.cell.Cell.store.Goals as goal

pub returns-in_err-write_record-clause-any_moment : goal.returns-in_err-write_record-clause-any_moment
returns-in_err-write_record-clause-any_moment g c = λ told durable knows.
    let s0 : Image = g.D.Disk.seen c.args.disk.now in
    let slot : DiskFile = c.target-slot.result in
    let is_ready : IsReady slot c.args.number s0 = ready c.args.self.now c.args.number s0 slot knows c.requires.above c.target-slot.ensures.target c.target-slot.ensures.slot in
    subst (λ (t : DiskFile). LeavesOnly g.D.Disk.moment g.D.Disk.left_since c.args.disk.now c.write_record.new.disk (IsOldOrNew t c.args.number c.args.payload.now s0)) c.target-slot.ensures.target
    (c.write_record.ensures.any_moment told durable is_ready)

pub returns-clause-any_moment : goal.returns-clause-any_moment
returns-clause-any_moment g c = λ told durable knows.
    let s0 : Image = g.D.Disk.seen c.args.disk.now in
    let slot : DiskFile = c.target-slot.result in
    let is_ready : IsReady slot c.args.number s0 = ready c.args.self.now c.args.number s0 slot knows c.requires.above c.target-slot.ensures.target c.target-slot.ensures.slot in
    subst (λ (t : DiskFile). LeavesOnly g.D.Disk.moment g.D.Disk.left_since c.args.disk.now c.write_record.new.disk (IsOldOrNew t c.args.number c.args.payload.now s0)) c.target-slot.ensures.target
    (c.write_record.ensures.any_moment told durable is_ready)

pub returns-clause-new : goal.returns-clause-new
returns-clause-new g c = λ told knows.
    let s0 : Image = g.D.Disk.seen c.args.disk.now in
    let slot : DiskFile = c.target-slot.result in
    let is_ready : IsReady slot c.args.number s0 = ready c.args.self.now c.args.number s0 slot knows c.requires.above c.target-slot.ensures.target c.target-slot.ensures.slot in
    subst (λ (t : DiskFile). HasNewRecord t c.args.number c.args.payload.now s0 (g.D.Disk.seen c.write_record.new.disk)) c.target-slot.ensures.target (c.in_ok-write_record.ensures.new told is_ready)

pub returns-clause-knows : goal.returns-clause-knows
returns-clause-knows g c = λ told knows.
    let s0 : Image = g.D.Disk.seen c.args.disk.now in
    let slot : DiskFile = c.target-slot.result in
    let is_ready : IsReady slot c.args.number s0 = ready c.args.self.now c.args.number s0 slot knows c.requires.above c.target-slot.ensures.target c.target-slot.ensures.slot in
    knows_new _ slot c.args.number c.args.payload.now s0 (g.D.Disk.seen c.write_record.new.disk) (c.in_ok-write_record.ensures.new told is_ready) refl
