use Rattle.std.proofs.Common.{◌∙◌, sym}
use Rattle.std.specs.Prelude.{IsTrue}
use Rattle.cdc_outside.specs.Disk.{Image}
use Rattle.cdc_session.specs.Shelf.{IsRefusedShelf, HasTornFile}
use Rattle.cdc_server.specs.Doors.{IsDoorServed}
use Rattle.cdc_server.proofs.OneDoor.{disk_of, kept_of, torn_of, door_of, salt_of, done_of}
use Rattle.cdc_server.proofs.Told.{disk_told, kept_told, torn_told, door_told, salt_told, done_told}
use Rattle.cdc_server.proofs.server.serve_all.Goals as goal

pub returns-clause-done : goal.returns-clause-done
returns-clause-done g c e = done_told (IsDoorServed g.D.Disk.tells g.D.Disk.seen g.D.Disk.synced g.D.Disk.pending g.D.Disk.may_leave g.D.Disk.moment g.D.Disk.left_since g.D.Disk.faults g.G.Door.tells g.G.Door.shut g.G.Door.handed g.G.Door.served g.G.Door.faults g.Z.Salt.tells g.Z.Salt.drawn g.Z.Salt.faults c.args.users.now)
    (λ (door : _). IsTrue (g.G.Door.shut door)) (λ n post s end. done_of s end) c.serve_from.ensures.served (sym c.serve_end_of.ensures ∙ e)

pub returns-clause-disk_failed : goal.returns-clause-disk_failed
returns-clause-disk_failed g c out e = disk_told (IsDoorServed g.D.Disk.tells g.D.Disk.seen g.D.Disk.synced g.D.Disk.pending g.D.Disk.may_leave g.D.Disk.moment g.D.Disk.left_since g.D.Disk.faults g.G.Door.tells g.G.Door.shut g.G.Door.handed g.G.Door.served g.G.Door.faults g.Z.Salt.tells g.Z.Salt.drawn g.Z.Salt.faults c.args.users.now) g.D.Disk.faults (λ n post s end. disk_of s end) c.serve_from.ensures.served out (sym c.serve_end_of.ensures ∙ e)

pub returns-clause-kept : goal.returns-clause-kept
returns-clause-kept g c out fault e =
    kept_told (IsDoorServed g.D.Disk.tells g.D.Disk.seen g.D.Disk.synced g.D.Disk.pending g.D.Disk.may_leave g.D.Disk.moment g.D.Disk.left_since g.D.Disk.faults g.G.Door.tells g.G.Door.shut g.G.Door.handed g.G.Door.served g.G.Door.faults g.Z.Salt.tells g.Z.Salt.drawn g.Z.Salt.faults c.args.users.now) g.D.Disk.seen (λ (image : Image). IsTrue g.D.Disk.tells → IsRefusedShelf image fault) fault (λ n post s end told. kept_of s fault end told) c.serve_from.ensures.served out
    (sym c.serve_end_of.ensures ∙ e)

pub returns-clause-torn : goal.returns-clause-torn
returns-clause-torn g c out e =
    torn_told (IsDoorServed g.D.Disk.tells g.D.Disk.seen g.D.Disk.synced g.D.Disk.pending g.D.Disk.may_leave g.D.Disk.moment g.D.Disk.left_since g.D.Disk.faults g.G.Door.tells g.G.Door.shut g.G.Door.handed g.G.Door.served g.G.Door.faults g.Z.Salt.tells g.Z.Salt.drawn g.Z.Salt.faults c.args.users.now) g.D.Disk.seen (λ (image : Image). IsTrue g.D.Disk.tells → HasTornFile image) (λ n post s end told. torn_of s end told) c.serve_from.ensures.served out
    (sym c.serve_end_of.ensures ∙ e)

pub returns-clause-door_failed : goal.returns-clause-door_failed
returns-clause-door_failed g c out e = door_told (IsDoorServed g.D.Disk.tells g.D.Disk.seen g.D.Disk.synced g.D.Disk.pending g.D.Disk.may_leave g.D.Disk.moment g.D.Disk.left_since g.D.Disk.faults g.G.Door.tells g.G.Door.shut g.G.Door.handed g.G.Door.served g.G.Door.faults g.Z.Salt.tells g.Z.Salt.drawn g.Z.Salt.faults c.args.users.now) g.G.Door.faults (λ n post s end. door_of s end) c.serve_from.ensures.served out (sym c.serve_end_of.ensures ∙ e)

pub returns-clause-salt_failed : goal.returns-clause-salt_failed
returns-clause-salt_failed g c out e = salt_told (IsDoorServed g.D.Disk.tells g.D.Disk.seen g.D.Disk.synced g.D.Disk.pending g.D.Disk.may_leave g.D.Disk.moment g.D.Disk.left_since g.D.Disk.faults g.G.Door.tells g.G.Door.shut g.G.Door.handed g.G.Door.served g.G.Door.faults g.Z.Salt.tells g.Z.Salt.drawn g.Z.Salt.faults c.args.users.now) g.Z.Salt.faults (λ n post s end. salt_of s end) c.serve_from.ensures.served out (sym c.serve_end_of.ensures ∙ e)
