-- A kept output can be opened: the file of its Front has all bytes that the Front says.
use Rattle.std.proofs.Common.{◌≡◌, ℕ, zero, suc, ◌+◌, ◌-◌, ◌<◌, ◌≤◌, Bool, if◌then◌else◌, List, [], ◌∷◌, ◌++◌, length, length-take, append-nil, get_or, get_or-drop, take, drop, map, Option, Some, None, MatchOption, ap, sym, refl, ◌∙◌, arith}
use Rattle.std.proofs.lemmas.Bool.{eq-eqb}
use Rattle.std.proofs.Math.Seq.{get_or-append_seam}
use Rattle.cdc_outside.specs.Disk.{Image}
use Rattle.cdc_outside.specs.declared.disk_file.DiskFile.TheVariants.{Log}
use Rattle.cdc_cell.specs.Record.{CellRecord, kept_record}
use Rattle.cdc_model.specs.declared.layout.Layout.{Layout}
use Rattle.cdc_model.specs.Records.{Transaction}
use Rattle.cdc_model.specs.Output.{Output, no_output, output_after, open_file, last_closed, layout_with, files_of}
use Rattle.cdc_model.specs.Transaction.{numbers_from}
use Rattle.cdc_records.specs.declared.front.Front.{Front}
use Rattle.cdc_records.specs.Front.{no_front, IsSoundFront, IsFrontRecord, HasFront}
use Rattle.cdc_records.specs.Published.{published_file, published}
use Rattle.cdc_dumper.specs.Opening.{IsFound}
use Rattle.cdc_recovery.specs.Outputs.{OutputPlan, IsFrontOf, KeepsFrom}

-- ---- the last file of an output

-- the last of closed files, of which the first has this number
record IsLastClosed (number : ℕ) (closed : List (List ℕ)) : Type 0 where
  front : List (List ℕ)
  file : List ℕ
  in_order : closed ≡ front ++ file ∷ []
  counted : (last_closed number closed).file ≡ number + length front
  size : (last_closed number closed).length ≡ length file

-- closed files have a last one, which their layout tells
last_of_closed : (number : ℕ) (first : List ℕ) (closed : List (List ℕ)) → IsLastClosed number (first ∷ closed)
last_of_closed number first [] = record { front = []; file = first; in_order = refl; counted = omega arith; size = refl }
last_of_closed number first (other ∷ closed) =
    let later = last_of_closed (number + 1) other closed in
    record {
      front = first ∷ later.front;
      file = later.file;
      in_order = ap (λ (files : List (List ℕ)). first ∷ files) later.in_order;
      counted = omega (arith, later.counted);
      size = later.size;
    }

-- a layout tells the number and the length of the last of its files
record IsLastFile (files : List (List ℕ)) (layout : Layout) : Type 0 where
  front : List (List ℕ)
  file : List ℕ
  in_order : files ≡ front ++ file ∷ []
  number : layout.file ≡ length front + 1
  size : layout.length ≡ length file

-- each output that has a file has a last one, which its layout tells
last_file : (closed : List (List ℕ)) (current : List ℕ) → 1 ≤ (layout_with closed current).file → IsLastFile (closed ++ open_file current) (layout_with closed current)
last_file [] [] some = absurd (omega (arith, some))
last_file (first ∷ closed) [] some =
    let last = last_of_closed 1 first closed in
    record {
      front = last.front;
      file = last.file;
      in_order = append-nil (first ∷ closed) ∙ last.in_order;
      number = omega (arith, last.counted);
      size = last.size;
    }
last_file closed (byte ∷ bytes) some = record { front = closed; file = byte ∷ bytes; in_order = refl; number = refl; size = refl }

-- ---- the last published file

-- of files under numbers one after another, the one at a place
numbered : (own : ℕ → List ℕ) (first count index : ℕ) → index < count → get_or (map own (numbers_from first count)) index [] ≡ own (first + index)
numbered own first zero index within = absurd (omega (arith, within))
numbered own first (suc count) zero within = ap own (let same : first ≡ first + 0 = omega arith in same)
numbered own first (suc count) (suc index) within =
    numbered own (first + 1) count index (omega (arith, within)) ∙ ap own (let same : first + 1 + index ≡ first + suc index = omega arith in same)

-- what is published of the Front's file
own_file : (f : Front) (image : Image) (number : ℕ) → number ≡ f.file → published_file f image number ≡ take f.length (image (Log f.file))
own_file f image number is =
    ap (λ (b : Bool). if b then take f.length (image (Log number)) else image (Log number)) (eq-eqb number f.file is)
    ∙ ap (λ (n : ℕ). take f.length (image (Log n))) is

-- the file of a Front that a record has
whole_of_sound : (plan : OutputPlan) (txns : List Transaction) (f : Front) (image : Image) → IsSoundFront f → IsFrontOf plan txns f image → f.length ≤ length (image (Log f.file))
whole_of_sound plan txns f image sound is =
    let output : Output = output_after plan.rules plan.rotation no_output (take f.count txns) in
    let layout : Layout = layout_with output.closed output.current in
    let files : List (List ℕ) = files_of plan.rules plan.rotation (take f.count txns) in
    let file_is : f.file ≡ layout.file = ap (λ (l : Layout). l.file) is.layout in
    let size_is : f.length ≡ layout.length = ap (λ (l : Layout). l.length) is.layout in
    let last = last_file output.closed output.current (omega (arith, sound.file, file_is)) in
    let index : ℕ = f.file - f.first in
    let here : f.first + index ≡ f.file = omega (arith, sound.upto) in
    let there : f.first - 1 + index ≡ length last.front = omega (arith, sound.kept, sound.upto, file_is, last.number) in
    let own : get_or (published f image) index [] ≡ take f.length (image (Log f.file)) =
    numbered (published_file f image) f.first (f.file + 1 - f.first) index (omega (arith, sound.upto)) ∙ own_file f image (f.first + index) here in
    let its : get_or (drop (f.first - 1) files) index [] ≡ last.file =
    get_or-drop (f.first - 1) files index []
    ∙ (ap (λ (n : ℕ). get_or files n []) there
    ∙ (ap (λ (list : List (List ℕ)). get_or list (length last.front) []) last.in_order
    ∙ get_or-append_seam last.front last.file [] [])) in
    let same : take f.length (image (Log f.file)) ≡ last.file =
    sym own ∙ (ap (λ (list : List (List ℕ)). get_or list index []) is.files ∙ its) in
    omega (arith, ap length same, length-take f.length (image (Log f.file)), size_is, last.size)

-- the file of a Front has all bytes that the Front says
pub front_is_whole : (plan : OutputPlan) (txns : List Transaction) (f : Front) (image : Image) → HasFront image f → IsFrontOf plan txns f image → f.length ≤ length (image (Log f.file))
front_is_whole plan txns f image has is = by (kept_record image) has.kept
  where
    by : (r : Option CellRecord) → MatchOption r (f ≡ no_front) (λ found. IsFrontRecord found f) → f.length ≤ length (image (Log f.file))
    by None none = let empty : f.length ≡ 0 = ap (λ (g : Front). g.length) none in omega (arith, empty)
    by (Some r) found = whole_of_sound plan txns f image found.sound is

-- so a kept output can be opened
pub kept_is_found : (plan : OutputPlan) (txns : List Transaction) (least : ℕ) (image : Image) (kept : KeepsFrom plan txns least image) → IsFound image kept.keeps.front
kept_is_found plan txns least image kept = record {
  has = kept.keeps.is_front;
  whole = front_is_whole plan txns kept.keeps.front image kept.keeps.is_front kept.keeps.is_kept;
}
