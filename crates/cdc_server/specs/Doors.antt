-- How one door is served: its links in order, and what that comes to.
use Rattle.std.specs.Prelude.{ℕ, List, Bool, IsTrue}
use Rattle.std.specs.List.{Contains, flat_map}
use Rattle.cdc_base.specs.declared.user.User.{User}
use Rattle.cdc_outside.specs.Count.{Rose}
use Rattle.cdc_cell.specs.Reading.{IsLeftAlone}
use Rattle.cdc_outside.specs.declared.disk_file.DiskFile.{DiskFile}
use Rattle.cdc_outside.specs.Disk.{Image, Change}
use Rattle.cdc_outside.specs.Link.{Served}
use Rattle.cdc_dumper.specs.declared.fault.OpenFault.{OpenFault}
use Rattle.cdc_session.specs.Shelf.{Shelf, IsShelf, IsRefusedShelf, HasTornFile}
use Rattle.cdc_server.specs.declared.door_end.DoorEnd.{DoorEnd}
use Rattle.cdc_server.specs.Ends.{IsFirstCause, IsCaused, ClosesDoor}
use Rattle.cdc_server.specs.Links.{DrawList, Drew, Visit, ServesLinks}

-- a door was served from its shelf, under its salt. Each link that it gave out was served by the users, the door's
-- number and what the shelf has, under draws of its own, and was handed back so. The door is shut, or has failed. The
-- shelf was only read. The end is the first cause that a link or the closing brought, and no cause comes by itself.
pub record IsDoorServed
    {D G Z : Type 0}
    (disk_tells : Bool)
    (seen synced : D → Image)
    (pending : D → DiskFile → List Change)
    (may_leave : D → Image → Type 0)
    (moment : D → ℕ)
    (left_since : D → ℕ → Image → Type 0)
    (disk_faults : D → ℕ)
    (door_tells : Bool)
    (shut : G → Bool)
    (handed : G → List (List ℕ))
    (served : G → List Served)
    (door_faults : G → ℕ)
    (salt_tells : Bool)
    (drawn : Z → DrawList → Type 0)
    (salt_faults : Z → ℕ)
    (users : List User)
    (number : ℕ)
    (shelf shelf_now : D)
    (door door_now : G)
    (salt salt_now : Z)
    (ending : DoorEnd)
    : Type 0 where
  pub visits : List Visit
  pub closing : DoorEnd
  pub drew : IsTrue salt_tells → Drew drawn salt (flat_map (λ (visit : Visit). visit.draws) visits) salt_now
  pub links : IsTrue disk_tells → IsTrue door_tells → (found : Shelf) → IsShelf (seen shelf) found
      → ServesLinks users number found visits (handed door) (served door) (handed door_now) (served door_now)
  pub caused : (visit : Visit) → Contains visits visit
      → IsCaused visit.ending (Rose (disk_faults shelf) (disk_faults shelf_now)) (λ (fault : OpenFault). IsTrue disk_tells → IsRefusedShelf (seen shelf) fault)
      (IsTrue disk_tells → HasTornFile (seen shelf)) (Rose (salt_faults salt) (salt_faults salt_now))
  pub closes : ClosesDoor closing (IsTrue (shut door_now)) (Rose (door_faults door) (door_faults door_now))
  pub alone : IsTrue disk_tells → IsLeftAlone seen synced pending may_leave moment left_since shelf shelf_now
  pub first : IsFirstCause visits closing ending
