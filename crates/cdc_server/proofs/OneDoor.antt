-- What the end of one door says.
use Rattle.std.proofs.Common.{◌≡◌, ℕ, ◌≤◌, List, sym, ◌∙◌, subst, inl, inr, arith}
use Rattle.std.specs.Prelude.{Bool, IsTrue}
use Rattle.cdc_base.specs.declared.user.User.{User}
use Rattle.cdc_outside.specs.Count.{Rose}
use Rattle.cdc_outside.specs.declared.disk_file.DiskFile.{DiskFile}
use Rattle.cdc_outside.specs.Disk.{Image, Change}
use Rattle.cdc_outside.specs.Link.{Served}
use Rattle.cdc_dumper.specs.declared.fault.OpenFault.{OpenFault}
use Rattle.cdc_session.specs.Shelf.{IsRefusedShelf, HasTornFile}
use Rattle.cdc_server.specs.declared.door_end.DoorEnd.{DoorEnd}
use Rattle.cdc_server.specs.declared.door_end.DoorEnd.TheVariants.{Done, Disk, Kept, Torn, Door, Salt}
use Rattle.cdc_server.specs.Doors.{IsDoorServed}
use Rattle.cdc_server.specs.Ends.{cause_rank, ClosesDoor}
use Rattle.cdc_server.specs.Links.{DrawList}
use Rattle.cdc_server.proofs.Causes.{disk_behind, kept_behind, torn_behind, salt_behind, no_door_cause}

-- a closing is none of an output or a salt
not_closing : (closing cause : DoorEnd) (shut failed : Type 0) → ClosesDoor closing shut failed → (Done ≡ cause → ⊥) → (Door ≡ cause → ⊥) → closing ≡ cause → ⊥
not_closing closing cause shut failed closes done door e = elim closes [ inl a ↦ done (sym a.0 ∙ e) | inr b ↦ door (sym b.0 ∙ e) ]

module _
    {D G Z : Type 0}
    {disk_tells : Bool}
    {seen synced : D → Image}
    {pending : D → DiskFile → List Change}
    {may_leave : D → Image → Type 0}
    {moment : D → ℕ}
    {left_since : D → ℕ → Image → Type 0}
    {disk_faults : D → ℕ}
    {door_tells : Bool}
    {shut : G → Bool}
    {handed : G → List (List ℕ)}
    {served : G → List Served}
    {door_faults : G → ℕ}
    {salt_tells : Bool}
    {drawn : Z → DrawList → Type 0}
    {salt_faults : Z → ℕ}
    {users : List User}
    {number : ℕ}
    {shelf shelf_now : D}
    {door door_now : G}
    {salt salt_now : Z}
    {ending : DoorEnd}
  where
    pub disk_of : IsDoorServed disk_tells seen synced pending may_leave moment left_since disk_faults door_tells shut handed served door_faults salt_tells drawn salt_faults users number shelf shelf_now door door_now salt salt_now ending → ending ≡ Disk → Rose (disk_faults shelf) (disk_faults shelf_now)
    disk_of s e = disk_behind s.visits s.closing ending s.caused (not_closing s.closing Disk _ _ s.closes (λ c. (let h = c in cc)) (λ c. (let h = c in cc))) s.first e

    pub kept_of : IsDoorServed disk_tells seen synced pending may_leave moment left_since disk_faults door_tells shut handed served door_faults salt_tells drawn salt_faults users number shelf shelf_now door door_now salt salt_now ending → (fault : OpenFault) → ending ≡ Kept fault → IsTrue disk_tells → IsRefusedShelf (seen shelf) fault
    kept_of s fault e told = kept_behind s.visits s.closing ending s.caused fault (not_closing s.closing (Kept fault) _ _ s.closes (λ c. (let h = c in cc)) (λ c. (let h = c in cc))) s.first e told

    pub torn_of : IsDoorServed disk_tells seen synced pending may_leave moment left_since disk_faults door_tells shut handed served door_faults salt_tells drawn salt_faults users number shelf shelf_now door door_now salt salt_now ending → ending ≡ Torn → IsTrue disk_tells → HasTornFile (seen shelf)
    torn_of s e told = torn_behind s.visits s.closing ending s.caused (not_closing s.closing Torn _ _ s.closes (λ c. (let h = c in cc)) (λ c. (let h = c in cc))) s.first e told

    pub salt_of : IsDoorServed disk_tells seen synced pending may_leave moment left_since disk_faults door_tells shut handed served door_faults salt_tells drawn salt_faults users number shelf shelf_now door door_now salt salt_now ending → ending ≡ Salt → Rose (salt_faults salt) (salt_faults salt_now)
    salt_of s e = salt_behind s.visits s.closing ending s.caused (not_closing s.closing Salt _ _ s.closes (λ c. (let h = c in cc)) (λ c. (let h = c in cc))) s.first e

    pub door_of : IsDoorServed disk_tells seen synced pending may_leave moment left_since disk_faults door_tells shut handed served door_faults salt_tells drawn salt_faults users number shelf shelf_now door door_now salt salt_now ending → ending ≡ Door → Rose (door_faults door) (door_faults door_now)
    door_of s e = elim s.first.among [
      | inl some ↦ absurd (no_door_cause some.0.ending (some.2 ∙ e))
      | inr same ↦ elim s.closes [ inl a ↦ absurd (let h : Done ≡ Door = sym a.0 ∙ same ∙ e in cc) | inr b ↦ b.1 ]
    ]

    pub done_of : IsDoorServed disk_tells seen synced pending may_leave moment left_since disk_faults door_tells shut handed served door_faults salt_tells drawn salt_faults users number shelf shelf_now door door_now salt salt_now ending → ending ≡ Done → IsTrue (shut door_now)
    done_of s e = elim s.closes [
      | inl a ↦ a.1
      | inr b ↦ absurd (let low = s.first.least Door (inr b.0) in let six : 6 ≤ 4 = subst (λ (c : DoorEnd). cause_rank c ≤ 4) e low in omega (arith, six))
    ]
