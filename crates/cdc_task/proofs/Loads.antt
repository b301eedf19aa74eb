-- What a cell and its record's bytes say of the kept checkpoint.
use Rattle.std.proofs.Common.{◌≡◌, ◌-◌, ◌^◌, min, ℕ, List, Option, Some, None, Result, Ok, Err, inl, inr, ap, sym, subst, refl, ◌∙◌, arith}
use Rattle.std.specs.Prelude.{option_map, ◌⊎◌, false}
use Rattle.cdc_outside.specs.declared.disk_file.DiskFile.{DiskFile}
use Rattle.cdc_outside.specs.Disk.{Image}
use Rattle.cdc_cell.specs.declared.cell.Cell.{Cell}
use Rattle.cdc_cell.specs.declared.cell.Kept.{Kept}
use Rattle.cdc_cell.specs.declared.fault.CellFault.{CellFault}
use Rattle.cdc_cell.specs.declared.fault.CellFault.TheVariants as faults
use Rattle.cdc_cell.specs.Record.{CellRecord, bad_slot, kept_record}
use Rattle.cdc_cell.specs.Cell.{known_of, length_in, number_in, slot_in, payload_in, opened_from, decided, Knows}
use Rattle.cdc_records.specs.declared.checkpoint.Checkpoint.{Checkpoint}
use Rattle.cdc_records.specs.Checkpoint.{point_bytes, point_number, FitsPoint, IsPoint, IsKeptPoint, HasPoint}
use Rattle.cdc_task.specs.declared.fault.TaskFault.{TaskFault}
use Rattle.cdc_task.specs.declared.fault.TaskFault.TheVariants.{DiskFault, BadCell, NodeCount, Rotation, Memory}
use Rattle.cdc_task.specs.Reading.{ReadsPoint, IsPointOf}
use Rattle.cdc_task.specs.Task.{IsBadTask, bad, no_point, IsLoaded, IsKeptOr, IsFitting}

-- ---- what was read isn't a checkpoint's

-- by the number
pub other_number : (bytes : List ℕ) (number counted : ℕ) (found : Checkpoint) → ReadsPoint bytes found → counted ≡ min (point_number found) (2 ^ 64 - 1) → (counted ≡ number → ⊥)
    → (p : Checkpoint) → IsPointOf number bytes p → ⊥
other_number bytes number counted found reads is differs p of =
    let same : point_number found ≡ point_number p = ap point_number (reads p of.fits of.payload) in
    differs (omega (arith, is, same, of.number, of.is.number))

-- by the conditions
pub other_conditions : (bytes : List ℕ) (number : ℕ) (found : Checkpoint) → ReadsPoint bytes found → (IsPoint found → ⊥) → (p : Checkpoint) → IsPointOf number bytes p → ⊥
other_conditions bytes number found reads fails p of = fails (subst IsPoint (sym (reads p of.fits of.payload)) of.is)

-- by the bytes that it has
pub other_bytes : (bytes written : List ℕ) (number : ℕ) (found : Checkpoint) → ReadsPoint bytes found → written ≡ point_bytes found → (written ≡ bytes → ⊥)
    → (p : Checkpoint) → IsPointOf number bytes p → ⊥
other_bytes bytes written number found reads is differs p of =
    differs (is ∙ (ap point_bytes (reads p of.fits of.payload) ∙ sym of.payload))

-- a checkpoint whose record it is
pub own_point : (bytes written : List ℕ) (number counted : ℕ) (found : Checkpoint) → FitsPoint found → IsPoint found → counted ≡ min (point_number found) (2 ^ 64 - 1) → counted ≡ number
    → written ≡ point_bytes found → written ≡ bytes → IsPointOf number bytes found
own_point bytes written number counted found fits is counts same spelled whole =
    record { fits = fits; is = is; number = omega (arith, counts, same, is.number); payload = sym whole ∙ spelled }

-- ---- what a cell knows

no_slot : (k : Option Kept) (r : Option CellRecord) → k ≡ option_map known_of r → slot_in k ≡ None → r ≡ None
no_slot k None knows none = refl
no_slot k (Some r) knows none =
    let there : slot_in (option_map known_of (Some r)) ≡ None = ap slot_in (sym knows) ∙ none in absurd cc

no_length : (k : Option Kept) (r : Option CellRecord) → k ≡ option_map known_of r → length_in k ≡ None → r ≡ None
no_length k None knows none = refl
no_length k (Some r) knows none =
    let there : length_in (option_map known_of (Some r)) ≡ None = ap length_in (sym knows) ∙ none in absurd cc

without : (image : Image) → bad_slot image ≡ None → kept_record image ≡ None → HasPoint image None
without image sound none = record { cell = sound; kept = subst (λ (r : Option CellRecord). IsKeptPoint r None) (sym none) tt }

pub nothing_in_slots : (cell : Cell) (image : Image) → Knows cell image → slot_in cell.kept ≡ None → HasPoint image None
nothing_in_slots cell image knows none = without image knows.sound (no_slot cell.kept (kept_record image) knows.kept none)

pub nothing_long : (cell : Cell) (image : Image) → Knows cell image → length_in cell.kept ≡ None → HasPoint image None
nothing_long cell image knows none = without image knows.sound (no_length cell.kept (kept_record image) knows.kept none)

-- the record that a cell knows
record HasRecord (image : Image) (slot : DiskFile) (number : ℕ) (payload : List ℕ) : Type 0 where
  found : CellRecord
  kept : kept_record image ≡ Some found
  here : found.slot ≡ slot
  number_is : number ≡ found.number
  payload_is : payload ≡ found.payload

found_in : (k : Option Kept) (r : Option CellRecord) (slot : DiskFile) (number : ℕ) (payload : List ℕ) → k ≡ option_map known_of r → slot_in k ≡ Some slot → number ≡ number_in k → payload ≡ payload_in r
    → (found : CellRecord) × (r ≡ Some found) × (found.slot ≡ slot) × (number ≡ found.number) × (payload ≡ found.payload)
found_in k None slot number payload knows there counts spells =
    let none : slot_in None ≡ Some slot = ap slot_in (sym knows) ∙ there in absurd cc
found_in k (Some r) slot number payload knows there counts spells =
    let here : Some r.slot ≡ Some slot = ap slot_in (sym knows) ∙ there in
    let same : r.slot ≡ slot = cc in
    (r, refl, same, counts ∙ ap number_in knows, spells)

has_record : (cell : Cell) (image : Image) (slot : DiskFile) (number : ℕ) (payload : List ℕ) → Knows cell image → slot_in cell.kept ≡ Some slot → number ≡ number_in cell.kept
    → payload ≡ payload_in (kept_record image) → HasRecord image slot number payload
has_record cell image slot number payload knows there counts spells =
    let f = found_in cell.kept (kept_record image) slot number payload knows.kept there counts spells in
    record { found = f.0; kept = f.1; here = f.2; number_is = f.3; payload_is = f.4 }

-- a checkpoint that was read is the one that is kept
pub point_there : (cell : Cell) (image : Image) (slot : DiskFile) (number : ℕ) (payload : List ℕ) (p : Checkpoint) → Knows cell image → slot_in cell.kept ≡ Some slot → number ≡ number_in cell.kept
    → payload ≡ payload_in (kept_record image) → IsPointOf number payload p → HasPoint image (Some p)
point_there cell image slot number payload p knows there counts spells of =
    let h = has_record cell image slot number payload knows there counts spells in
    record {
      cell = knows.sound;
      kept = subst (λ (r : Option CellRecord). IsKeptPoint r (Some p)) (sym h.kept)
          (record { fits = of.fits; is = of.is; number = sym h.number_is ∙ of.number; payload = sym h.payload_is ∙ of.payload });
    }

-- where none was read the slot keeps none
pub no_point_there : (cell : Cell) (image : Image) (slot : DiskFile) (number : ℕ) (payload : List ℕ) → Knows cell image → slot_in cell.kept ≡ Some slot → number ≡ number_in cell.kept
    → payload ≡ payload_in (kept_record image) → ((p : Checkpoint) → IsPointOf number payload p → ⊥) → IsBadTask image slot
no_point_there cell image slot number payload knows there counts spells none =
    let h = has_record cell image slot number payload knows there counts spells in
    no_point knows.sound h.found h.kept h.here
    (λ p is. none p (record { fits = is.fits; is = is.is; number = h.number_is ∙ is.number; payload = h.payload_is ∙ is.payload }))

-- ---- opening

opened_by : (slot : Option DiskFile) (kept : Option Kept) (cell : Cell) → Ok cell ≡ opened_from slot kept → (slot ≡ None) × (cell.kept ≡ kept)
opened_by None kept cell e = let same : cell ≡ record { kept = kept; failed = false } = cc in (refl, ap (λ (c : Cell). c.kept) same)
opened_by (Some slot) kept cell e = absurd cc

refused_by : (slot : Option DiskFile) (kept : Option Kept) (other : DiskFile) → Err (faults.BadCell other) ≡ opened_from slot kept → slot ≡ Some other
refused_by None kept other e = absurd cc
refused_by (Some slot) kept other e = let same : slot ≡ other = cc in ap (λ (s : DiskFile). Some s) same

pub opened_knows : (cell : Cell) (image : Image) → (◌≡◌ {A = Result Cell CellFault} (Ok cell) (Err faults.DiskFault)) ⊎ (◌≡◌ {A = Result Cell CellFault} (Ok cell) (decided image)) → Knows cell image
opened_knows cell image (inl e) = absurd cc
opened_knows cell image (inr e) =
    let parts = opened_by (bad_slot image) (option_map known_of (kept_record image)) cell e in record { sound = parts.0; kept = parts.1 }

pub refused_bad : (slot : DiskFile) (image : Image) → (◌≡◌ {A = Result Cell CellFault} (Err (faults.BadCell slot)) (Err faults.DiskFault)) ⊎ (◌≡◌ {A = Result Cell CellFault} (Err (faults.BadCell slot)) (decided image)) → IsBadTask image slot
refused_bad slot image (inl e) = absurd cc
refused_bad slot image (inr e) = bad (refused_by (bad_slot image) (option_map known_of (kept_record image)) slot e)

-- ---- answers

pub kept_fault : (image : Image) (nodes rotation : ℕ) (fault : TaskFault) → IsKeptOr image (Err fault) → IsLoaded image nodes rotation (Err fault)
kept_fault image nodes rotation DiskFault is = tt
kept_fault image nodes rotation (BadCell slot) is = is
kept_fault image nodes rotation (NodeCount kept given) is = absurd is
kept_fault image nodes rotation (Rotation kept given) is = absurd is
kept_fault image nodes rotation Memory is = tt

pub plan_fault : (image : Image) (nodes rotation : ℕ) (point : Option Checkpoint) (fault : TaskFault) → HasPoint image point → IsFitting nodes rotation point (Err fault) → IsLoaded image nodes rotation (Err fault)
plan_fault image nodes rotation point DiskFault has is = absurd is
plan_fault image nodes rotation point (BadCell slot) has is = absurd is
plan_fault image nodes rotation point (NodeCount kept given) has is = record { point = point; has = has; so = is }
plan_fault image nodes rotation point (Rotation kept given) has is = record { point = point; has = has; so = is }
plan_fault image nodes rotation point Memory has is = absurd is
