-- What a cell's record says of an image.
use Rattle.std.proofs.Common.{◌≡◌, ℕ, ◌<◌, List, length, take, drop, refl, sym, ◌∙◌, ap, subst, arith}
use Rattle.std.specs.Prelude.{Option, None, Some, MatchOption, option_map, unwrap_or}
use Rattle.std.proofs.Math.Seq.{take-length}
use Rattle.cdc_outside.specs.declared.disk_file.DiskFile.{DiskFile}
use Rattle.cdc_outside.specs.Disk.{Image}
use Rattle.cdc_cell.specs.declared.cell.Cell.{Cell}
use Rattle.cdc_cell.specs.Record.{CellRecord, kept_record}
use Rattle.cdc_cell.specs.Cell.{Knows, known_of, slot_in, number_in, length_in, slot_of, cell_number_of, length_of, payload_in}
use Rattle.cdc_records.specs.declared.front.Front.{Front}
use Rattle.cdc_records.specs.Front.{no_front, HasFront, IsFrontRecord}
use Rattle.cdc_dumper.specs.Opening.{record_of, IsNoFrontRecord}
use Rattle.cdc_dumper.proofs.FrontBytes.{front_at_most}

-- the record that a cell keeps, where it keeps one
pub record Keeps (cell : Cell) (image : Image) (slot : DiskFile) : Type 0 where
  pub found : CellRecord
  pub kept : kept_record image ≡ Some found
  pub here : slot ≡ found.slot
  pub number : cell_number_of cell ≡ found.number
  pub size : length_of cell ≡ Some (length found.payload)

keeps_by : (cell : Cell) (image : Image) (slot : DiskFile) (o : Option CellRecord) → kept_record image ≡ o → cell.kept ≡ option_map known_of o → slot_of cell ≡ Some slot → Keeps cell image slot
keeps_by cell image slot None is e s = absurd (let none : slot_of cell ≡ None = ap slot_in e in cc)
keeps_by cell image slot (Some r) is e s = record {
  found = r;
  kept = is;
  here = (let there : slot_of cell ≡ Some r.slot = ap slot_in e in let same : Some slot ≡ Some r.slot = sym s ∙ there in cc);
  number = ap number_in e;
  size = ap length_in e;
}

pub keeps : (cell : Cell) (image : Image) (slot : DiskFile) → Knows cell image → slot_of cell ≡ Some slot → Keeps cell image slot
keeps cell image slot knows s = keeps_by cell image slot (kept_record image) refl knows.kept s

-- a payload that is too long isn't a Front's
pub too_long : (cell : Cell) (image : Image) (slot : DiskFile) (n : ℕ) → Knows cell image → slot_of cell ≡ Some slot → n ≡ unwrap_or (length_of cell) 0 → 116 < n → IsNoFrontRecord image slot
too_long cell image slot n knows s l lt =
    let k = keeps cell image slot knows s in
    let size : n ≡ length k.found.payload = l ∙ ap (λ (o : Option ℕ). unwrap_or o 0) k.size in
    record {
      cell = knows.sound;
      found = k.found;
      kept = k.kept;
      here = k.here;
      no_front = λ f is. omega (arith, front_at_most f is.sound, ap length is.payload, size, lt);
    }

-- all of a payload that was loaded
pub loaded_all : (payload into : List ℕ) (n : ℕ) → n ≡ length payload → into ≡ take n (drop 0 payload) → into ≡ payload
loaded_all payload into n size e = e ∙ ap (λ (m : ℕ). take m payload) size ∙ take-length payload

-- the record in words of what was read
record_is : (r : CellRecord) (slot : DiskFile) (number : ℕ) (payload : List ℕ) → slot ≡ r.slot → number ≡ r.number → payload ≡ r.payload → record_of slot number payload ≡ r
record_is r slot number payload a b c = λ i. record { slot = a i; number = b i; payload = c i }

-- it is a Front's
pub has_front : (cell : Cell) (image : Image) (slot : DiskFile) (n : ℕ) (into : List ℕ) (f : Front) → Knows cell image → slot_of cell ≡ Some slot → n ≡ unwrap_or (length_of cell) 0 → into ≡ take n (drop 0 (payload_in (kept_record image)))
    → ((s : DiskFile) → IsFrontRecord (record_of s (cell_number_of cell) into) f) → HasFront image f
has_front cell image slot n into f knows s l e is =
    let k = keeps cell image slot knows s in
    let size : n ≡ length k.found.payload = l ∙ ap (λ (o : Option ℕ). unwrap_or o 0) k.size in
    let all : into ≡ k.found.payload = loaded_all k.found.payload into n size (e ∙ ap (λ (o : Option CellRecord). take n (drop 0 (payload_in o))) k.kept) in
    let front : IsFrontRecord k.found f = subst (λ (r : CellRecord). IsFrontRecord r f) (record_is k.found slot (cell_number_of cell) into k.here k.number all) (is slot) in
    record { cell = knows.sound; kept = subst (λ (o : Option CellRecord). MatchOption o (f ≡ no_front) (λ r. IsFrontRecord r f)) (sym k.kept) front }

-- it isn't a Front's
pub no_front_there : (cell : Cell) (image : Image) (slot : DiskFile) (n : ℕ) (into : List ℕ) → Knows cell image → slot_of cell ≡ Some slot → n ≡ unwrap_or (length_of cell) 0 → into ≡ take n (drop 0 (payload_in (kept_record image)))
    → ((s : DiskFile) (f : Front) → IsFrontRecord (record_of s (cell_number_of cell) into) f → ⊥) → IsNoFrontRecord image slot
no_front_there cell image slot n into knows s l e never =
    let k = keeps cell image slot knows s in
    let size : n ≡ length k.found.payload = l ∙ ap (λ (o : Option ℕ). unwrap_or o 0) k.size in
    let all : into ≡ k.found.payload = loaded_all k.found.payload into n size (e ∙ ap (λ (o : Option CellRecord). take n (drop 0 (payload_in o))) k.kept) in
    record {
      cell = knows.sound;
      found = k.found;
      kept = k.kept;
      here = k.here;
      no_front = λ f is. never slot f (subst (λ (r : CellRecord). IsFrontRecord r f) (sym (record_is k.found slot (cell_number_of cell) into k.here k.number all)) is);
    }
