-- A listing as it is seen from outside: how it ends, and why.
use Rattle.std.specs.Prelude.{◌≡◌, ℕ, ◌-◌, ◌<◌, ◌≤◌, ◌⊎◌, ◌++◌, Bool, IsTrue, List, [], length, map, slice_index, slice_index_or}
use Rattle.std.specs.List.{AllByRecursion, AllZip}
use Rattle.cdc_outside.specs.Count.{Rose}
use Rattle.cdc_outside.specs.Disk.{Image}
use Rattle.cdc_outside.specs.Sink.{WritesTo}
use Rattle.cdc_records.specs.declared.front.Front.{Front}
use Rattle.cdc_dumper.specs.declared.fault.OpenFault.{OpenFault}
use Rattle.cdc_dumper.specs.declared.fault.OpenFault.TheVariants.{DiskFault}
use Rattle.cdc_dumper.specs.Opening.{IsFound, IsOpenFault}
use Rattle.cdc_list.specs.declared.list_end.ListEnd.{ListEnd}
use Rattle.cdc_list.specs.declared.list_end.ListEnd.TheVariants.{Done, Unopened, Disk, Memory, Sink}
use Rattle.cdc_list.specs.Lines.{listed_outs, listing_text, fronts_text}

-- a listing as it is seen from outside: what the disks show, and their counts of faults before and now; what the sink has before and now,
-- and its counts
pub record ListRun : Type 0 where
  pub images : List Image
  pub failed_before : List ℕ
  pub failed_now : List ℕ
  pub out_before : List ℕ
  pub out_now : List ℕ
  pub faults_before : ℕ
  pub faults_now : ℕ

-- a listing by its devices: what disks show and how often they failed, what sinks have and how often they failed, of the disks and the
-- sink before and now
abbrev pub list_seen : {D K : Type 0} → (D → Image) → (D → ℕ) → (K → List ℕ) → (K → ℕ) → List D → List D → K → K → ListRun
list_seen shows failed written faults outs outs_now out out_now = record {
  images = map shows outs;
  failed_before = map failed outs;
  failed_now = map failed outs_now;
  out_before = written out;
  out_now = written out_now;
  faults_before = faults out;
  faults_now = faults out_now;
}

-- no count of a disk fell
abbrev pub AllLater : {D : Type 0} → (D → ℕ) → List D → List D → Type 0
AllLater {D} faults before now = AllZip (λ (old new : D). faults old ≤ faults new) before now

-- the content of an out, counted from 1
abbrev pub image_of : List Image → ℕ → Image
image_of images out = slice_index_or images (out - 1) (λ file. [])

-- an out that has a Front, whose file has all bytes that it says
abbrev pub IsOpenable : Image → Type 0
IsOpenable image = (front : Front) × IsFound image front

-- outs that all are so
abbrev pub AreOpenable : List Image → Type 0
AreOpenable images = AllByRecursion IsOpenable images

-- the count of an out, counted from 1, rose
pub record OutRose (before now : List ℕ) (out : ℕ) : Type 0 where
  pub first : 1 ≤ out
  pub last : out ≤ length before
  pub rose : Rose (slice_index before (out - 1)) (slice_index now (out - 1))

-- the least out that can't be opened, and why: the disk's count rose, or its content is refused; each lesser one can
pub record IsUnopened (told : Bool) (images : List Image) (before now : List ℕ) (out : ℕ) (fault : OpenFault) : Type 0 where
  pub first : 1 ≤ out
  pub last : out ≤ length images
  pub failed : fault ≡ DiskFault → OutRose before now out
  pub refused : IsTrue told → IsOpenFault (image_of images out) fault
  pub lesser : IsTrue told → (other : ℕ) → 1 ≤ other → other < out → IsOpenable (image_of images other)

-- the text of contents: each has a Front, and the lines are those of the Fronts and of the published files' lengths
pub record IsListing (images : List Image) (text : List ℕ) : Type 0 where
  pub fronts : List Front
  pub found : AllZip IsFound images fronts
  pub is : text ≡ listing_text (listed_outs fronts images)

-- the text of contents' own lines: each has a Front, and the lines are those of the Fronts
pub record IsFrontsText (images : List Image) (text : List ℕ) : Type 0 where
  pub fronts : List Front
  pub found : AllZip IsFound images fronts
  pub is : text ≡ fronts_text fronts

-- how a listing ended before anything was written, and why
abbrev pub IsStopped : Bool → List Image → List ℕ → List ℕ → ListEnd → Type 0
IsStopped told images before now Done = ⊥
IsStopped told images before now (Unopened out fault) = IsUnopened told images before now out fault
IsStopped told images before now (Disk out) = OutRose before now out × (IsTrue told → AreOpenable images)
IsStopped told images before now Memory = Unit {0}
IsStopped told images before now Sink = ⊥

-- it ended so, and nothing was written
abbrev pub IsStoppedSilent : Bool → Bool → ListRun → ListEnd → Type 0
IsStoppedSilent told shown run end = IsStopped told run.images run.failed_before run.failed_now end × (IsTrue shown → run.out_now ≡ run.out_before)

-- how the writing of such a text ended, and why, where the disks tell what they have and the sink what it was given
abbrev pub IsTextEnd : (List Image → List ℕ → Type 0) → Bool → Bool → ListRun → ListEnd → Type 0
IsTextEnd IsText told shown run Done = IsTrue told → (text : List ℕ) × IsText run.images text × (IsTrue shown → run.out_now ≡ run.out_before ++ text)
IsTextEnd IsText told shown run (Unopened out fault) = IsStoppedSilent told shown run (Unopened out fault)
IsTextEnd IsText told shown run (Disk out) = IsStoppedSilent told shown run (Disk out)
IsTextEnd IsText told shown run Memory = IsStoppedSilent told shown run Memory
IsTextEnd IsText told shown run Sink =
    Rose run.faults_before run.faults_now
    × (IsTrue told → (text : List ℕ) × IsText run.images text × (IsTrue shown → WritesTo run.out_before text run.out_now))

-- how a listing ended
abbrev pub IsListEnd : Bool → Bool → ListRun → ListEnd → Type 0
IsListEnd told shown run end = IsTextEnd IsListing told shown run end

-- how the writing of the outs' own lines ended
abbrev pub IsFrontsEnd : Bool → Bool → ListRun → ListEnd → Type 0
IsFrontsEnd told shown run end = IsTextEnd IsFrontsText told shown run end

-- ---- laws

-- no device failed
pub record NoneFailedListing (run : ListRun) : Type 0 where
  pub outs : (out : ℕ) → OutRose run.failed_before run.failed_now out → ⊥
  pub sink : Rose run.faults_before run.faults_now → ⊥

-- law: where the disks tell, each out can be opened, and no device failed, all is listed, or memory was wanting
abbrev pub ListIsComplete : Type 0
ListIsComplete = (told shown : Bool) (run : ListRun) (end : ListEnd) → IsListEnd told shown run end → IsTrue told → AreOpenable run.images
    → NoneFailedListing run → (end ≡ Done) ⊎ (end ≡ Memory)

-- law: contents have at most one text
abbrev pub ListingIsOne : Type 0
ListingIsOne = (images : List Image) (text other : List ℕ) → IsListing images text → IsListing images other → text ≡ other
