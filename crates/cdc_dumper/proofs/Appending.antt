-- What an append does to what a dumper knows, and to its disk.
use Rattle.std.proofs.Common.{◌≡◌, ℕ, ◌+◌, ◌≤◌, ◌<◌, ◌^◌, ◌==◌, ◌||◌, Bool, true, false, List, [], ◌++◌, length, inl, inr, refl, sym, ◌∙◌, ap, subst, arith, length-append}
use Rattle.std.specs.Prelude.{Option, Some, IsTrue, if◌then◌else◌, option_map}
use Rattle.std.proofs.lemmas.Bool.Decides.{nat_tests}
use Rattle.cdc_outside.specs.declared.disk_file.DiskFile.{DiskFile}
use Rattle.cdc_outside.specs.declared.disk_file.DiskFile.TheVariants.{SlotA, SlotB, Log}
use Rattle.cdc_outside.specs.Disk.{Image, Change, IsPlaceBehind, IsWaiting, with_file, overwritten}
use Rattle.cdc_outside.proofs.Pending.{with_file_same, with_file_other}
use Rattle.cdc_cell.specs.declared.cell.Cell.{Cell}
use Rattle.cdc_cell.specs.Record.{CellRecord}
use Rattle.cdc_cell.specs.Cell.{Knows, known_of, cell_number_of, has_failed}
use Rattle.cdc_model.specs.declared.layout.Layout.{Layout}
use Rattle.cdc_model.specs.Layout.{begins_file, next_file, next_place}
use Rattle.cdc_model.specs.Records.{OutputUnit}
use Rattle.cdc_records.specs.declared.front.Front.{Front}
use Rattle.cdc_records.specs.KeyBytes.{IsRecordKey}
use Rattle.cdc_records.specs.Front.{front_layout, front_number, IsSoundFront, HasFront}
use Rattle.cdc_dumper.specs.Opening.{IsFrontOrNone, SameSlots}
use Rattle.cdc_dumper.specs.State.{DumperState, IsAhead, IsShaped, Stands, keep_of, keep_alone}
use Rattle.cdc_dumper.specs.Moves.{BeginsAt, front_with, IsAppended, OtherLogs}
use Rattle.cdc_dumper.proofs.Images.{same_bad, same_kept, same_front, kept_here, kept_next, alone_here}
use Rattle.cdc_dumper.proofs.Growing.{written_behind, grows_here, grows_next}

-- a unit goes on in the open file, or begins the next
pub data Goes (g : Front) (unit : OutputUnit) (at : ℕ) : Type 0 where
  On : unit.after.file ≡ g.file → at ≡ g.length → 1 ≤ g.file → Goes g unit at
  Next : unit.after.file ≡ g.file + 1 → at ≡ 0 → 123 ≤ length unit.bytes → Goes g unit at

goes_by : (g : Front) (unit : OutputUnit) (at : ℕ) (b : Bool) → begins_file (front_layout g) ≡ b → unit.after.file ≡ (if b then g.file + 1 else g.file) → at ≡ (if b then 0 else g.length)
    → (IsTrue (begins_file (front_layout g)) → 123 ≤ length unit.bytes) → Goes g unit at
goes_by g unit at true is file start head = Next file start (head is)
goes_by g unit at false is file start head = On file start (not_begun g.closed is)
  where
    not_begun : (closed : Bool) → (closed || g.file == 0) ≡ false → 1 ≤ g.file
    not_begun true e = absurd (cc)
    not_begun false e = grind (arith, nat_tests)

pub goes_where : (g : Front) (unit : OutputUnit) (at : ℕ) → BeginsAt unit at → unit.before ≡ front_layout g → Goes g unit at
goes_where g unit at begins e =
    goes_by g unit at (begins_file (front_layout g)) refl (begins.file ∙ ap next_file e) (begins.start ∙ ap next_place e) (λ t. begins.head (subst (λ (l : Layout). IsTrue (begins_file l)) (sym e) t))

-- its file ends where it begins
pub ends_there : (s : DumperState) (seen synced : Image) (pending : DiskFile → List Change) (unit : OutputUnit) (at : ℕ) → Stands s seen synced pending → Goes s.appended unit at → length (seen (Log unit.after.file)) ≡ at
ends_there s seen synced pending unit at stands (On file start some) = ap (λ (n : ℕ). length (seen (Log n))) file ∙ stands.whole some ∙ sym start
ends_there s seen synced pending unit at stands (Next file start head) = ap length (stands.above unit.after.file (omega (arith, file))) ∙ sym start

-- it begins behind what is to stay
behind_some : (kept : Option ℕ) (n at : ℕ) → kept ≡ Some n → n ≤ at → IsPlaceBehind kept at
behind_some kept n at e le = subst (λ (k : Option ℕ). IsPlaceBehind k at) (sym e) le

place_in : (f : Front) (file at : ℕ) → f.file ≤ file → file ≤ f.file + 1 → (file ≡ f.file → f.length ≤ at) → (b : Bool) → (file == f.file) ≡ b → IsPlaceBehind (keep_of f (Log file)) at
place_in f file at low high behind true t =
    let is : file ≡ f.file = grind (arith, nat_tests) in
    behind_some (keep_of f (Log file)) f.length at (ap (λ (n : ℕ). keep_of f (Log n)) is ∙ kept_here f) (behind is)
place_in f file at low high behind false t =
    let is : file ≡ f.file + 1 = grind (arith, nat_tests) in
    behind_some (keep_of f (Log file)) 0 at (ap (λ (n : ℕ). keep_of f (Log n)) is ∙ kept_next f) (omega arith)

pub goes_behind : (f g : Front) (unit : OutputUnit) (at : ℕ) → IsAhead f g → Goes g unit at → unit.after.file ≤ f.file + 1 → IsPlaceBehind (keep_of f (Log unit.after.file)) at
goes_behind f g unit at ahead (On file start some) near =
    place_in f unit.after.file at (omega (arith, ahead.file, file)) near (λ is. let same : g.file ≡ f.file = omega (arith, file, is) in omega (arith, ahead.length same, start)) (unit.after.file == f.file) refl
goes_behind f g unit at ahead (Next file start head) near =
    place_in f unit.after.file at (omega (arith, ahead.file, file)) near (λ is. absurd (omega (arith, ahead.file, file, is))) (unit.after.file == f.file) refl

-- a unit in the Front's file begins behind what is to stay of that
pub goes_alone : (f g : Front) (unit : OutputUnit) (at : ℕ) → IsAhead f g → Goes g unit at → unit.after.file ≡ f.file → IsPlaceBehind (keep_alone f (Log unit.after.file)) at
goes_alone f g unit at ahead (On file start some) is =
    let same : g.file ≡ f.file = omega (arith, file, is) in
    behind_some (keep_alone f (Log unit.after.file)) f.length at (ap (λ (n : ℕ). keep_alone f (Log n)) is ∙ alone_here f) (omega (arith, ahead.length same, start))
goes_alone f g unit at ahead (Next file start head) is = absurd (omega (arith, ahead.file, file, is))

pub goes_up : (g : Front) (unit : OutputUnit) (at : ℕ) → Goes g unit at → g.file ≤ unit.after.file
goes_up g unit at (On file start some) = omega (arith, file)
goes_up g unit at (Next file start head) = omega (arith, file)

-- then all that was appended stands there
pub still_alone : (f g : Front) (unit : OutputUnit) (at : ℕ) → IsAhead f g → Goes g unit at → unit.after.file ≡ f.file → g.file ≡ f.file
still_alone f g unit at ahead goes is = omega (arith, ahead.file, goes_up g unit at goes, is)

-- the Front behind it is one that a record may have
pub sound_with : (g : Front) (unit : OutputUnit) (at : ℕ) → IsFrontOrNone g → BeginsAt unit at → Goes g unit at → unit.number ≡ g.count + 1 → unit.number ≤ 2 ^ 62 → IsRecordKey unit.key → IsSoundFront (front_with g unit)
sound_with g unit at (inl none) begins (On file start some) number most key =
    absurd (let e : g.file ≡ 0 = ap (λ (f : Front). f.file) none in omega (arith, e, some))
sound_with g unit at (inl none) begins (Next file start head) number most key =
    let e : g.file ≡ 0 = ap (λ (f : Front). f.file) none in
    let first : g.first ≡ 1 = ap (λ (f : Front). f.first) none in
    let passed : g.passed ≡ 0 = ap (λ (f : Front). f.passed) none in
    record {
      some = omega (arith, number);
      most = most;
      file = omega (arith, file);
      within = omega (arith, file, e, number);
      kept = omega (arith, first);
      upto = omega (arith, first, file);
      below = omega (arith, passed, number);
      headed = omega (arith, begins.end, head);
      fits = begins.fits;
      version = key;
    }
sound_with g unit at (inr sound) begins (On file start some) number most key = record {
  some = omega (arith, number);
  most = most;
  file = omega (arith, file, some);
  within = omega (arith, file, sound.within, number);
  kept = sound.kept;
  upto = omega (arith, file, sound.upto);
  below = omega (arith, sound.below, number);
  headed = omega (arith, begins.end, start, sound.headed);
  fits = begins.fits;
  version = key;
}
sound_with g unit at (inr sound) begins (Next file start head) number most key = record {
  some = omega (arith, number);
  most = most;
  file = omega (arith, file);
  within = omega (arith, file, sound.within, number);
  kept = sound.kept;
  upto = omega (arith, file, sound.upto);
  below = omega (arith, sound.below, number);
  headed = omega (arith, begins.end, head);
  fits = begins.fits;
  version = key;
}

-- it goes on from what is published
pub ahead_with : (f g : Front) (unit : OutputUnit) (at : ℕ) → IsAhead f g → BeginsAt unit at → Goes g unit at → unit.number ≡ g.count + 1 → unit.after.file ≤ f.file + 1 → IsAhead f (front_with g unit)
ahead_with f g unit at ahead begins (On file start some) number near = record {
  first = ahead.first;
  passed = ahead.passed;
  count = omega (arith, ahead.count, number);
  file = omega (arith, ahead.file, file);
  near = near;
  length = λ is. let same : g.file ≡ f.file = omega (arith, file, is) in omega (arith, ahead.length same, begins.end, start);
  keyed = λ _. refl;
  same = λ is. absurd (omega (arith, is, ahead.count, number));
}
ahead_with f g unit at ahead begins (Next file start head) number near = record {
  first = ahead.first;
  passed = ahead.passed;
  count = omega (arith, ahead.count, number);
  file = omega (arith, ahead.file, file);
  near = near;
  length = λ is. absurd (omega (arith, ahead.file, file, is));
  keyed = λ _. refl;
  same = λ is. absurd (omega (arith, is, ahead.count, number));
}

-- the image behind the write
pub record IsWritten (file at : ℕ) (bytes : List ℕ) (old new : Image) : Type 0 where
  pub slots : SameSlots old new
  pub own : new (Log file) ≡ old (Log file) ++ bytes
  pub others : OtherLogs file old new

pub is_written : (file at : ℕ) (bytes : List ℕ) (old new : Image) → length (old (Log file)) ≡ at → new ≡ with_file (Log file) (overwritten at bytes (old (Log file))) old → IsWritten file at bytes old new
is_written file at bytes old new end e = record {
  slots = record { first = ap (λ (i : Image). i SlotA) e; second = ap (λ (i : Image). i SlotB) e };
  own = ap (λ (i : Image). i (Log file)) e ∙ with_file_same (Log file) (overwritten at bytes (old (Log file))) old ∙ written_behind at bytes (old (Log file)) end;
  others = λ number ne. ap (λ (i : Image). i (Log number)) e ∙ with_file_other (Log file) (overwritten at bytes (old (Log file))) old (Log number) (let t : (file == number) ≡ false = grind (arith, nat_tests) in t);
}

-- the published files of one unit more
pub is_appended : (g : Front) (unit : OutputUnit) (at : ℕ) (old new : Image) → IsFrontOrNone g → BeginsAt unit at → Goes g unit at → (1 ≤ g.file → length (old (Log g.file)) ≡ g.length) → old (Log (g.file + 1)) ≡ []
    → IsWritten unit.after.file at unit.bytes old new → IsAppended g unit old new
is_appended g unit at old new shape begins (On file start some) whole above written = record {
  slots = written.slots;
  others = written.others;
  files = grows_here g unit old new (first_kept shape) (first_upto shape) file (omega (arith, begins.end, start)) (whole some)
      (subst (λ (n : ℕ). new (Log n) ≡ old (Log n) ++ unit.bytes) file written.own) (subst (λ (n : ℕ). OtherLogs n old new) file written.others);
}
  where
    first_kept : IsFrontOrNone g → 1 ≤ g.first
    first_kept (inl none) = omega (arith, ap (λ (f : Front). f.first) none)
    first_kept (inr sound) = sound.kept

    first_upto : IsFrontOrNone g → g.first ≤ g.file
    first_upto (inl none) = omega (arith, ap (λ (f : Front). f.first) none, ap (λ (f : Front). f.file) none, some)
    first_upto (inr sound) = sound.upto
is_appended g unit at old new shape begins (Next file start head) whole above written = record {
  slots = written.slots;
  others = written.others;
  files = grows_next g unit old new (first_kept shape) (first_upto shape) file (omega (arith, begins.end, start)) whole
      (subst (λ (n : ℕ). new (Log n) ≡ old (Log n) ++ unit.bytes) file written.own ∙ ap (λ (xs : List ℕ). xs ++ unit.bytes) above) (subst (λ (n : ℕ). OtherLogs n old new) file written.others);
}
  where
    first_kept : IsFrontOrNone g → 1 ≤ g.first
    first_kept (inl none) = omega (arith, ap (λ (f : Front). f.first) none)
    first_kept (inr sound) = sound.kept

    first_upto : IsFrontOrNone g → g.first ≤ g.file + 1
    first_upto (inl none) = omega (arith, ap (λ (f : Front). f.first) none)
    first_upto (inr sound) = omega (arith, sound.upto)

-- the disk stands as it did, with the unit
pub stands_with : (s t : DumperState) (old synced new synced_now : Image) (pending pending_now : DiskFile → List Change) (unit : OutputUnit) (at : ℕ) → t.cell ≡ s.cell → t.published ≡ s.published → t.appended ≡ front_with s.appended unit
    → s.published.count ≤ s.appended.count → unit.number ≡ s.appended.count + 1
    → Stands s old synced pending → BeginsAt unit at → Goes s.appended unit at → IsWritten unit.after.file at unit.bytes old new → IsWaiting (keep_of s.published) new synced_now pending_now
    → (unit.after.file ≡ s.published.file → IsWaiting (keep_alone s.published) new synced_now pending_now) → Stands t new synced_now pending_now
stands_with s t old synced new synced_now pending pending_now unit at cell published appended count number stands begins goes written waiting alone = record {
  knows = subst (λ (k : Cell). Knows k new) (sym cell) record {
    sound = same_bad old new written.slots ∙ stands.knows.sound;
    kept = stands.knows.kept ∙ sym (ap (λ (r : Option CellRecord). option_map known_of r) (same_kept old new written.slots));
  };
  has = subst (λ (f : Front). HasFront new f) (sym published) (same_front s.published old new written.slots stands.has);
  waiting = subst (λ (f : Front). IsWaiting (keep_of f) new synced_now pending_now) (sym published) waiting;
  alone = λ is. subst (λ (f : Front). IsWaiting (keep_alone f) new synced_now pending_now) (sym published)
      (alone (sym (ap (λ (f : Front). f.file) appended) ∙ is ∙ ap (λ (f : Front). f.file) published));
  whole = λ _. ap (λ (f : Front). length (new (Log f.file))) appended ∙ ap length written.own ∙ length-append (old (Log unit.after.file)) unit.bytes
      ∙ (let e : length (old (Log unit.after.file)) + length unit.bytes ≡ unit.after.length = omega (arith, ends_there s old synced pending unit at stands goes, begins.end) in e) ∙ sym (ap (λ (f : Front). f.length) appended);
  above = λ n lt.
      let past : unit.after.file < n = omega (arith, ap (λ (f : Front). f.file) appended, lt) in
      written.others n (λ is. omega (arith, is, past)) ∙ stands.above n (omega (arith, past, goes_up s.appended unit at goes));
  idle = λ is. absurd (omega (arith, ap (λ (f : Front). f.count) appended, ap (λ (f : Front). f.count) published, is, count, number));
}

-- the dumper behind it is one
pub append_shape : (s i t : DumperState) (unit : OutputUnit) (at : ℕ) → i ≡ s → IsShaped i → t.cell ≡ i.cell → t.published ≡ i.published → t.appended ≡ front_with i.appended unit
    → s.failed ≡ false → unit.number ≡ s.appended.count + 1 → unit.number ≤ 2 ^ 62 → unit.before ≡ front_layout s.appended → unit.after.file ≤ s.published.file + 1 → BeginsAt unit at → IsRecordKey unit.key → IsShaped t
append_shape s i t unit at e shape cell published appended works number most before near begins key =
    let works_here : i.failed ≡ false = ap (λ (d : DumperState). d.failed) e ∙ works in
    let number_here : unit.number ≡ i.appended.count + 1 = subst (λ (d : DumperState). unit.number ≡ d.appended.count + 1) (sym e) number in
    let before_here : unit.before ≡ front_layout i.appended = subst (λ (d : DumperState). unit.before ≡ front_layout d.appended) (sym e) before in
    let near_here : unit.after.file ≤ i.published.file + 1 = subst (λ (d : DumperState). unit.after.file ≤ d.published.file + 1) (sym e) near in
    let goes : Goes i.appended unit at = goes_where i.appended unit at begins before_here in
    record {
      number = ap cell_number_of cell ∙ shape.number ∙ sym (ap front_number published);
      works = λ _. ap has_failed cell ∙ shape.works works_here;
      published = subst IsFrontOrNone (sym published) shape.published;
      appended = subst IsFrontOrNone (sym appended) (inr (sound_with i.appended unit at shape.appended begins goes number_here most key));
      ahead = subst (λ (f : Front). IsAhead f t.appended) (sym published) (subst (λ (f : Front). IsAhead i.published f) (sym appended) (ahead_with i.published i.appended unit at shape.ahead begins goes number_here near_here));
    }

-- what is known of a dumper by its fields is known of it
pub shape_of : (s i : DumperState) → i ≡ s → IsShaped i → IsShaped s
shape_of s i e shape = subst IsShaped e shape
