use Rattle.std.proofs.Common.{◌+◌, ℕ, List, length, inl}
use Rattle.cdc_outside.specs.Disk.{Image, OneWrite, LeavesOnly}
use Rattle.cdc_outside.proofs.Moments.{joined, weaker}
use Rattle.std.proofs.lemmas.Result.{on_ok_weaker}
use Rattle.cdc_cell.specs.Record.{IsClosing, IsShut, IsOldOrNew}
use Rattle.cdc_cell.proofs.Steps.{IsFilled, closing_old, filling_old, is_filled, opening, opened_new}
use Rattle.cdc_cell.proofs.stages.write_record.Goals as goal

pub returns-in_err-close-clause-any_moment : goal.returns-in_err-close-clause-any_moment
returns-in_err-close-clause-any_moment g c = λ told durable ready.
    let s0 : Image = g.D.Disk.seen c.args.disk.now in
    let s1 : Image = g.D.Disk.seen c.close.new.disk in
    let slot = c.args.slot in
    let number : ℕ = c.args.number in
    let payload : List ℕ = c.args.payload.now in
    let R : Image → Type 0 = IsOldOrNew slot number payload s0 in
    let first : LeavesOnly g.D.Disk.moment g.D.Disk.left_since c.args.disk.now c.close.new.disk R =
    weaker g.D.Disk.moment g.D.Disk.left_since c.args.disk.now c.close.new.disk (IsClosing slot s0) R (c.close.ensures.any_moment told durable) (λ image closing. inl (closing_old slot number s0 image c.requires ready closing)) in
    first

pub returns-in_err-fill-clause-any_moment : goal.returns-in_err-fill-clause-any_moment
returns-in_err-fill-clause-any_moment g c = λ told durable ready.
    let s0 : Image = g.D.Disk.seen c.args.disk.now in
    let s1 : Image = g.D.Disk.seen c.close.new.disk in
    let slot = c.args.slot in
    let number : ℕ = c.args.number in
    let payload : List ℕ = c.args.payload.now in
    let R : Image → Type 0 = IsOldOrNew slot number payload s0 in
    let first : LeavesOnly g.D.Disk.moment g.D.Disk.left_since c.args.disk.now c.close.new.disk R =
    weaker g.D.Disk.moment g.D.Disk.left_since c.args.disk.now c.close.new.disk (IsClosing slot s0) R (c.close.ensures.any_moment told durable) (λ image closing. inl (closing_old slot number s0 image c.requires ready closing)) in
    let shut : IsShut slot s0 s1 = c.in_ok-close.ensures.shut told in
    let P2 : Image → Type 0 = OneWrite slot 1 (16 + length payload) s1 in
    let second : LeavesOnly g.D.Disk.moment g.D.Disk.left_since c.args.disk.now c.fill.new.disk R =
    joined g.D.Disk.moment g.D.Disk.left_since c.args.disk.now c.close.new.disk c.fill.new.disk R P2 R first (c.fill.ensures.any_moment told (c.in_ok-close.ensures.durable told durable))
    (λ image is. is) (λ image one. inl (filling_old slot number (16 + length payload) s0 s1 image c.requires ready shut one)) in
    second

pub returns-clause-any_moment : goal.returns-clause-any_moment
returns-clause-any_moment g c = λ told durable ready.
    let s0 : Image = g.D.Disk.seen c.args.disk.now in
    let s1 : Image = g.D.Disk.seen c.close.new.disk in
    let slot = c.args.slot in
    let number : ℕ = c.args.number in
    let payload : List ℕ = c.args.payload.now in
    let R : Image → Type 0 = IsOldOrNew slot number payload s0 in
    let first : LeavesOnly g.D.Disk.moment g.D.Disk.left_since c.args.disk.now c.close.new.disk R =
    weaker g.D.Disk.moment g.D.Disk.left_since c.args.disk.now c.close.new.disk (IsClosing slot s0) R (c.close.ensures.any_moment told durable) (λ image closing. inl (closing_old slot number s0 image c.requires ready closing)) in
    let shut : IsShut slot s0 s1 = c.in_ok-close.ensures.shut told in
    let P2 : Image → Type 0 = OneWrite slot 1 (16 + length payload) s1 in
    let second : LeavesOnly g.D.Disk.moment g.D.Disk.left_since c.args.disk.now c.fill.new.disk R =
    joined g.D.Disk.moment g.D.Disk.left_since c.args.disk.now c.close.new.disk c.fill.new.disk R P2 R first (c.fill.ensures.any_moment told (c.in_ok-close.ensures.durable told durable))
    (λ image is. is) (λ image one. inl (filling_old slot number (16 + length payload) s0 s1 image c.requires ready shut one)) in
    let s2 : Image = g.D.Disk.seen c.fill.new.disk in
    let full : IsFilled slot number payload s0 s2 = is_filled slot number payload s0 s1 s2 c.requires shut (c.in_ok-fill.ensures.seen told) in
    let P3 : Image → Type 0 = OneWrite slot 0 1 s2 in
    joined g.D.Disk.moment g.D.Disk.left_since c.args.disk.now c.fill.new.disk c.open_gate.new.disk R P3 R second (c.open_gate.ensures.any_moment told (c.in_ok-fill.ensures.durable told))
    (λ image is. is) (λ image one. opening slot number payload s0 s2 image c.ranges.number.fits c.in_ok-fill.ensures.fits c.requires ready full one)

pub returns-clause-new : goal.returns-clause-new
returns-clause-new g c = λ told ready.
    let s0 : Image = g.D.Disk.seen c.args.disk.now in
    let s1 : Image = g.D.Disk.seen c.close.new.disk in
    let slot = c.args.slot in
    let number : ℕ = c.args.number in
    let payload : List ℕ = c.args.payload.now in
    let shut : IsShut slot s0 s1 = c.in_ok-close.ensures.shut told in
    let s2 : Image = g.D.Disk.seen c.fill.new.disk in
    let full : IsFilled slot number payload s0 s2 = is_filled slot number payload s0 s1 s2 c.requires shut (c.in_ok-fill.ensures.seen told) in
    on_ok_weaker c.open_gate.result (λ is. opened_new slot number payload s0 s2 (g.D.Disk.seen c.open_gate.new.disk) c.ranges.number.fits c.in_ok-fill.ensures.fits c.requires ready full is) (c.open_gate.ensures.seen told)
