use Rattle.std.proofs.Common.{◌+◌, refl, ◌∙◌, ap, arith}
use Rattle.cdc_outside.specs.declared.disk_file.DiskFile.TheVariants.{Log}
use Rattle.cdc_outside.specs.Disk.{Image, KeepsBelow, IsPlaceBehind}
use Rattle.cdc_outside.proofs.Moments.{weaker}
use Rattle.cdc_model.specs.Records.{OutputUnit}
use Rattle.cdc_dumper.specs.State.{DumperState, IsShaped, Stands, keep_of, keep_alone}
use Rattle.cdc_dumper.specs.Shape.{dumper_seen}
use Rattle.cdc_dumper.specs.Moves.{StillHas, SameNext, front_with}
use Rattle.cdc_dumper.proofs.Images.{still_kept, next_kept}
use Rattle.cdc_dumper.proofs.Appending.{Goes, goes_where, ends_there, goes_behind, goes_alone, still_alone, IsWritten, is_written, is_appended, stands_with, append_shape, shape_of}
use Rattle.cdc_dumper.proofs.dumper.Dumper.append.Goals as goal

pub write_unit-requires : goal.write_unit-requires
write_unit-requires g c = λ told.
    let s : DumperState = c.args.self.now in
    let unit : OutputUnit = c.args.unit.now in
    let goes : Goes s.appended unit c.starts_at-at.result = goes_where s.appended unit c.starts_at-at.result c.starts_at-at.ensures c.requires.before in
    omega (arith, ends_there s (g.D.Disk.seen c.args.disk.now) (g.D.Disk.synced c.args.disk.now) (g.D.Disk.pending c.args.disk.now) unit c.starts_at-at.result (c.requires.stands told) goes)

pub returns-in_err-write_unit-clause-any_moment : goal.returns-in_err-write_unit-clause-any_moment
returns-in_err-write_unit-clause-any_moment g c = λ told.
    let s : DumperState = c.args.self.now in
    let unit : OutputUnit = c.args.unit.now in
    let s0 : Image = g.D.Disk.seen c.args.disk.now in
    let shape : IsShaped s = shape_of s (dumper_seen c.self.inside) c.self.view_is c.self.invariant in
    let stands : Stands s s0 (g.D.Disk.synced c.args.disk.now) (g.D.Disk.pending c.args.disk.now) = c.requires.stands told in
    let goes : Goes s.appended unit c.starts_at-at.result = goes_where s.appended unit c.starts_at-at.result c.starts_at-at.ensures c.requires.before in
    let place : IsPlaceBehind (keep_of s.published (Log unit.after.file)) c.starts_at-at.result = goes_behind s.published s.appended unit c.starts_at-at.result shape.ahead goes c.requires.near in
    weaker g.D.Disk.moment g.D.Disk.left_since c.args.disk.now c.write_unit.new.disk (KeepsBelow (keep_of s.published) s0) (StillHas s.published s0) (c.write_unit.ensures.any_moment told (keep_of s.published) place stands.waiting)
    (λ image keeps. still_kept s.published s0 image stands.has keeps)

pub invariant_of-self-2 : goal.invariant_of-self-2
invariant_of-self-2 g c =
    append_shape c.args.self.now (dumper_seen c.self.inside) _ c.args.unit.now c.starts_at-at.result c.self.view_is c.self.invariant refl refl c.front_after-self-inside.ensures.front
    c.requires.works c.requires.number c.requires.most c.requires.before c.requires.near c.starts_at-at.ensures c.front_after-self-inside.ensures.key

pub returns-clause-stands : goal.returns-clause-stands
returns-clause-stands g c = λ told.
    let s : DumperState = c.args.self.now in
    let unit : OutputUnit = c.args.unit.now in
    let s0 : Image = g.D.Disk.seen c.args.disk.now in
    let s1 : Image = g.D.Disk.seen c.write_unit.new.disk in
    let shape : IsShaped s = shape_of s (dumper_seen c.self.inside) c.self.view_is c.self.invariant in
    let stands : Stands s s0 (g.D.Disk.synced c.args.disk.now) (g.D.Disk.pending c.args.disk.now) = c.requires.stands told in
    let goes : Goes s.appended unit c.starts_at-at.result = goes_where s.appended unit c.starts_at-at.result c.starts_at-at.ensures c.requires.before in
    let place : IsPlaceBehind (keep_of s.published (Log unit.after.file)) c.starts_at-at.result = goes_behind s.published s.appended unit c.starts_at-at.result shape.ahead goes c.requires.near in
    let ends = ends_there s s0 (g.D.Disk.synced c.args.disk.now) (g.D.Disk.pending c.args.disk.now) unit c.starts_at-at.result stands goes in
    let written : IsWritten unit.after.file c.starts_at-at.result unit.bytes s0 s1 = is_written unit.after.file c.starts_at-at.result unit.bytes s0 s1 ends (c.in_ok-write_unit.ensures.seen told) in
    stands_with s _ s0 (g.D.Disk.synced c.args.disk.now) s1 (g.D.Disk.synced c.write_unit.new.disk) (g.D.Disk.pending c.args.disk.now) (g.D.Disk.pending c.write_unit.new.disk) unit c.starts_at-at.result
    (ap (λ (d : DumperState). d.cell) c.self.view_is) (ap (λ (d : DumperState). d.published) c.self.view_is) (c.front_after-self-inside.ensures.front ∙ ap (λ (d : DumperState). front_with d.appended unit) c.self.view_is)
    shape.ahead.count c.requires.number stands c.starts_at-at.ensures goes written (c.write_unit.ensures.waits told (keep_of s.published) place stands.waiting)
    (λ is. c.write_unit.ensures.waits told (keep_alone s.published) (goes_alone s.published s.appended unit c.starts_at-at.result shape.ahead goes is) (stands.alone (still_alone s.published s.appended unit c.starts_at-at.result shape.ahead goes is)))

pub returns-clause-any_moment : goal.returns-clause-any_moment
returns-clause-any_moment g c = λ told.
    let s : DumperState = c.args.self.now in
    let unit : OutputUnit = c.args.unit.now in
    let s0 : Image = g.D.Disk.seen c.args.disk.now in
    let shape : IsShaped s = shape_of s (dumper_seen c.self.inside) c.self.view_is c.self.invariant in
    let stands : Stands s s0 (g.D.Disk.synced c.args.disk.now) (g.D.Disk.pending c.args.disk.now) = c.requires.stands told in
    let goes : Goes s.appended unit c.starts_at-at.result = goes_where s.appended unit c.starts_at-at.result c.starts_at-at.ensures c.requires.before in
    let place : IsPlaceBehind (keep_of s.published (Log unit.after.file)) c.starts_at-at.result = goes_behind s.published s.appended unit c.starts_at-at.result shape.ahead goes c.requires.near in
    weaker g.D.Disk.moment g.D.Disk.left_since c.args.disk.now c.write_unit.new.disk (KeepsBelow (keep_of s.published) s0) (StillHas s.published s0) (c.write_unit.ensures.any_moment told (keep_of s.published) place stands.waiting)
    (λ image keeps. still_kept s.published s0 image stands.has keeps)

pub returns-clause-new : goal.returns-clause-new
returns-clause-new g c = λ told.
    let s : DumperState = c.args.self.now in
    let unit : OutputUnit = c.args.unit.now in
    let s0 : Image = g.D.Disk.seen c.args.disk.now in
    let s1 : Image = g.D.Disk.seen c.write_unit.new.disk in
    let shape : IsShaped s = shape_of s (dumper_seen c.self.inside) c.self.view_is c.self.invariant in
    let stands : Stands s s0 (g.D.Disk.synced c.args.disk.now) (g.D.Disk.pending c.args.disk.now) = c.requires.stands told in
    let goes : Goes s.appended unit c.starts_at-at.result = goes_where s.appended unit c.starts_at-at.result c.starts_at-at.ensures c.requires.before in
    let ends = ends_there s s0 (g.D.Disk.synced c.args.disk.now) (g.D.Disk.pending c.args.disk.now) unit c.starts_at-at.result stands goes in
    let written : IsWritten unit.after.file c.starts_at-at.result unit.bytes s0 s1 = is_written unit.after.file c.starts_at-at.result unit.bytes s0 s1 ends (c.in_ok-write_unit.ensures.seen told) in
    is_appended s.appended unit c.starts_at-at.result s0 s1 shape.appended c.starts_at-at.ensures goes stands.whole (stands.above (s.appended.file + 1) (omega arith)) written

pub returns-in_err-write_unit-clause-next_file : goal.returns-in_err-write_unit-clause-next_file
returns-in_err-write_unit-clause-next_file g c = λ told is.
    let s : DumperState = c.args.self.now in
    let unit : OutputUnit = c.args.unit.now in
    let s0 : Image = g.D.Disk.seen c.args.disk.now in
    let shape : IsShaped s = shape_of s (dumper_seen c.self.inside) c.self.view_is c.self.invariant in
    let stands : Stands s s0 (g.D.Disk.synced c.args.disk.now) (g.D.Disk.pending c.args.disk.now) = c.requires.stands told in
    let goes : Goes s.appended unit c.starts_at-at.result = goes_where s.appended unit c.starts_at-at.result c.starts_at-at.ensures c.requires.before in
    let place : IsPlaceBehind (keep_alone s.published (Log unit.after.file)) c.starts_at-at.result = goes_alone s.published s.appended unit c.starts_at-at.result shape.ahead goes is in
    weaker g.D.Disk.moment g.D.Disk.left_since c.args.disk.now c.write_unit.new.disk (KeepsBelow (keep_alone s.published) s0) (SameNext s.published s0)
    (c.write_unit.ensures.any_moment told (keep_alone s.published) place (stands.alone (still_alone s.published s.appended unit c.starts_at-at.result shape.ahead goes is)))
    (λ image keeps. next_kept s.published s0 image keeps)

pub returns-clause-next_file : goal.returns-clause-next_file
returns-clause-next_file g c = λ told is.
    let s : DumperState = c.args.self.now in
    let unit : OutputUnit = c.args.unit.now in
    let s0 : Image = g.D.Disk.seen c.args.disk.now in
    let shape : IsShaped s = shape_of s (dumper_seen c.self.inside) c.self.view_is c.self.invariant in
    let stands : Stands s s0 (g.D.Disk.synced c.args.disk.now) (g.D.Disk.pending c.args.disk.now) = c.requires.stands told in
    let goes : Goes s.appended unit c.starts_at-at.result = goes_where s.appended unit c.starts_at-at.result c.starts_at-at.ensures c.requires.before in
    let place : IsPlaceBehind (keep_alone s.published (Log unit.after.file)) c.starts_at-at.result = goes_alone s.published s.appended unit c.starts_at-at.result shape.ahead goes is in
    weaker g.D.Disk.moment g.D.Disk.left_since c.args.disk.now c.write_unit.new.disk (KeepsBelow (keep_alone s.published) s0) (SameNext s.published s0)
    (c.write_unit.ensures.any_moment told (keep_alone s.published) place (stands.alone (still_alone s.published s.appended unit c.starts_at-at.result shape.ahead goes is)))
    (λ image keeps. next_kept s.published s0 image keeps)
