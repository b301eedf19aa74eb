use Rattle.std.proofs.Common.{◌≤◌, IsTrue, List}
use Rattle.std.specs.List.{Contains, flat_map}
use Rattle.cdc_cell.specs.Reading.{IsLeftAlone}
use Rattle.cdc_outside.specs.Count.{Rose}
use Rattle.cdc_dumper.specs.declared.fault.OpenFault.{OpenFault}
use Rattle.cdc_session.specs.Shelf.{Shelf, IsShelf, IsRefusedShelf, HasTornFile}
use Rattle.cdc_server.specs.declared.door_end.DoorEnd.TheVariants as door_end
use Rattle.cdc_server.specs.Ends.{IsCaused, IsFirstCause}
use Rattle.cdc_server.specs.Links.{Drew, Visit, ServesLinks}
use Rattle.cdc_server.proofs.doors.serve_door.Given as goal

-- the links so far were handed back
abbrev pub invariant-loop-link : goal.invariant-loop-link
invariant-loop-link g l = record {
  told : (visits : List Visit) × (IsTrue g.Z.Salt.tells → Drew g.Z.Salt.drawn l.fn.salt (flat_map (λ (visit : Visit). visit.draws) visits) l.salt)
      × (IsTrue g.D.Disk.tells → IsTrue g.G.Door.tells → (found : Shelf) → IsShelf (g.D.Disk.seen l.fn.shelf) found
      → ServesLinks l.users l.number found visits (g.G.Door.handed l.fn.door) (g.G.Door.served l.fn.door) (g.G.Door.handed l.door) (g.G.Door.served l.door))
      × ((visit : Visit) → Contains visits visit
      → IsCaused visit.ending (Rose (g.D.Disk.faults l.fn.shelf) (g.D.Disk.faults l.shelf)) (λ (fault : OpenFault). IsTrue g.D.Disk.tells → IsRefusedShelf (g.D.Disk.seen l.fn.shelf) fault)
      (IsTrue g.D.Disk.tells → HasTornFile (g.D.Disk.seen l.fn.shelf)) (Rose (g.Z.Salt.faults l.fn.salt) (g.Z.Salt.faults l.salt)))
      × IsFirstCause visits door_end.Done l.end;
  alone : IsTrue g.D.Disk.tells → IsLeftAlone g.D.Disk.seen g.D.Disk.synced g.D.Disk.pending g.D.Disk.may_leave g.D.Disk.moment g.D.Disk.left_since l.fn.shelf l.shelf;
  disk_later : g.D.Disk.faults l.fn.shelf ≤ g.D.Disk.faults l.shelf;
  salt_later : g.Z.Salt.faults l.fn.salt ≤ g.Z.Salt.faults l.salt;
  door_later : g.G.Door.faults l.fn.door ≤ g.G.Door.faults l.door;
}
