-- What a dumper does takes nothing from what is recoverable.
use Rattle.std.proofs.Common.{◌≡◌, ◌≢◌, ℕ, suc, ◌+◌, ◌-◌, ◌<◌, ◌≤◌, ◌==◌, Bool, true, false, if◌then◌else◌, inl, inr, List, [], ◌∷◌, ◌++◌, length, take, drop, Option, ap, sym, subst, refl, ◌∙◌, arith}
use Rattle.std.specs.Prelude.{MatchOption}
use Rattle.std.proofs.lemmas.Bool.{eqb-true, eqb-false}
use Rattle.std.proofs.lemmas.Option.{slice_get_within}
use Rattle.cdc_outside.specs.declared.disk_file.DiskFile.{DiskFile}
use Rattle.cdc_outside.specs.declared.disk_file.DiskFile.TheVariants.{SlotA, SlotB, Log}
use Rattle.cdc_outside.specs.Disk.{Image}
use Rattle.cdc_cell.specs.Record.{CellRecord, bad_slot, kept_record}
use Rattle.cdc_model.specs.declared.layout.Layout.{Layout}
use Rattle.cdc_model.specs.Layout.{begins_file, next_file}
use Rattle.cdc_model.specs.Records.{Transaction, OutputUnit}
use Rattle.cdc_model.specs.Output.{layout_of, files_of}
use Rattle.cdc_model.specs.Transaction.{key_at, key_or_first}
use Rattle.cdc_model.specs.Unit.{unit_of, appended_to}
use Rattle.cdc_model.proofs.Units.{units_make_files}
use Rattle.cdc_records.specs.declared.front.Front.{Front}
use Rattle.cdc_records.specs.Front.{no_front, front_layout, IsFrontRecord, HasFront}
use Rattle.cdc_records.specs.Published.{published_file, published}
use Rattle.cdc_dumper.specs.Moves.{front_with}
use Rattle.cdc_dumper.specs.Opening.{IsFrontOrNone, SameSlots}
use Rattle.cdc_recovery.specs.Outputs.{OutputPlan, passed_below, IsFrontOf, IsUnitAt}
use Rattle.cdc_recovery.specs.MoveLaws.{EachStillKeeps, EachAppendKeeps, EachCommitKeeps, EachUnitKeeps, EachTrimKeeps, EachOpeningKeeps}
use Rattle.cdc_recovery.proofs.OneCount.{image_has_one_front}
use Rattle.cdc_recovery.proofs.Files.{take_one_more, files_count, drop_appended, passed_more, published_same}

-- ---- what stays

-- an image in which the published files stay, and nothing comes to stand above the next one
stays : (plan : OutputPlan) (txns : List Transaction) (f : Front) (old image : Image) → IsFrontOf plan txns f old
    → ((n : ℕ) → n ≤ f.file → published_file f image n ≡ published_file f old n)
    → ((n : ℕ) → f.file + 1 < n → image (Log n) ≡ old (Log n)) → IsFrontOf plan txns f image
stays plan txns f old image h same above = record {
  within = h.within;
  layout = h.layout;
  files = published_same f old image same ∙ h.files;
  passed = h.passed;
  last = h.last;
  behind = λ n over. above n over ∙ h.behind n over;
}

-- a published file, by whether it is the Front's
one_file_same : (f : Front) (old image : Image) (n : ℕ) (b : Bool) → (n == f.file) ≡ b → take f.length (image (Log f.file)) ≡ take f.length (old (Log f.file))
    → (n ≢ f.file → image (Log n) ≡ old (Log n)) → published_file f image n ≡ published_file f old n
one_file_same f old image n true is own other =
    let here : n ≡ f.file = eqb-true n f.file is in
    let same : take f.length (image (Log n)) ≡ take f.length (old (Log n)) =
    subst (λ (k : ℕ). take f.length (image (Log k)) ≡ take f.length (old (Log k))) (sym here) own in
    ap (λ (b : Bool). if b then take f.length (image (Log n)) else image (Log n)) is
    ∙ (same ∙ ap (λ (b : Bool). if b then take f.length (old (Log n)) else old (Log n)) (sym is))
one_file_same f old image n false is own other =
    ap (λ (b : Bool). if b then take f.length (image (Log n)) else image (Log n)) is
    ∙ (other (eqb-false n f.file is) ∙ ap (λ (b : Bool). if b then take f.length (old (Log n)) else old (Log n)) (sym is))

pub each_still_keeps : EachStillKeeps
each_still_keeps plan txns f old image h still =
    stays plan txns f old image h
    (λ n upto. one_file_same f old image n (n == f.file) refl still.file (λ ne. still.others n ne (λ e. omega (arith, e, upto))))
    (λ n over. still.others n (λ e. omega (arith, e, over)) (λ e. omega (arith, e, over)))

-- an image whose log files are as they were
same_logs : (plan : OutputPlan) (txns : List Transaction) (f : Front) (old image : Image) → IsFrontOf plan txns f old
    → ((n : ℕ) → image (Log n) ≡ old (Log n)) → IsFrontOf plan txns f image
same_logs plan txns f old image h logs =
    stays plan txns f old image h
    (λ n upto. one_file_same f old image n (n == f.file) refl (ap (take f.length) (logs f.file)) (λ ne. logs n))
    (λ n over. logs n)

pub each_commit_keeps : EachCommitKeeps
each_commit_keeps plan txns g old image h done =
    record { front = g; is_front = done.front; counted = refl; is_kept = same_logs plan txns g old image h done.logs }

-- ---- the record of slots that are as they were

-- an image by its two slots
abbrev two_slots : List ℕ → List ℕ → DiskFile → List ℕ
two_slots a b SlotA = a
two_slots a b SlotB = b
two_slots a b (Log n) = []

same_bad : (old image : Image) → SameSlots old image → bad_slot image ≡ bad_slot old
same_bad old image same = λ i. bad_slot (two_slots (same.first i) (same.second i))

same_kept : (old image : Image) → SameSlots old image → kept_record image ≡ kept_record old
same_kept old image same = λ i. kept_record (two_slots (same.first i) (same.second i))

same_front : (f : Front) (old image : Image) → SameSlots old image → HasFront old f → HasFront image f
same_front f old image same has = record {
  cell = same_bad old image same ∙ has.cell;
  kept = subst (λ (r : Option CellRecord). MatchOption r (f ≡ no_front) (λ found. IsFrontRecord found f)) (sym (same_kept old image same)) has.kept;
}

pub each_trim_keeps : EachTrimKeeps
each_trim_keeps plan txns f old image has h trimmed = record {
  front = f;
  is_front = same_front f old image trimmed.slots has;
  counted = refl;
  is_kept = stays plan txns f old image h
      (λ n upto. one_file_same f old image n (n == f.file) refl trimmed.file (λ ne. trimmed.others n ne (λ e. omega (arith, e, upto))))
      (λ n over. trimmed.others n (λ e. omega (arith, e, over)) (λ e. omega (arith, e, over)));
}

pub each_opening_keeps : EachOpeningKeeps
each_opening_keeps plan txns least f seen image kept found trimmed =
    let same : kept.keeps.front ≡ f = image_has_one_front seen kept.keeps.front f kept.keeps.is_front found.has in
    let own : IsFrontOf plan txns f seen = subst (λ (g : Front). IsFrontOf plan txns g seen) same kept.keeps.is_kept in
    let reached : least ≤ f.count = omega (arith, kept.reached, kept.keeps.counted, ap (λ (g : Front). g.count) same) in
    record { count = f.count; reached = reached; keeps = each_trim_keeps plan txns f seen image found.has own trimmed }

-- ---- one unit more

-- the next transaction goes to the last file or the one behind it
next_at_least : (l : Layout) → l.file ≤ next_file l
next_at_least l = by (begins_file l)
  where
    by : (b : Bool) → l.file ≤ (if b then l.file + 1 else l.file)
    by true = omega arith
    by false = omega arith

-- the next file is one that is kept
record IsNext (g : Front) (next : ℕ) : Type 0 where
  kept : g.first ≤ next
  within : g.first - 1 ≤ g.file
  below : g.first - 1 < next
  later : g.file ≤ next

next_is_kept : (g : Front) → IsFrontOrNone g → IsNext g (next_file (front_layout g))
next_is_kept g (inl none) = subst (λ (f : Front). IsNext f (next_file (front_layout f))) (sym none)
    (record { kept = omega arith; within = omega arith; below = omega arith; later = omega arith })
next_is_kept g (inr sound) =
    let later : g.file ≤ next_file (front_layout g) = next_at_least (front_layout g) in
    record {
      kept = omega (arith, later, sound.upto);
      within = omega (arith, sound.upto);
      below = omega (arith, later, sound.upto, sound.file);
      later = later;
    }

-- the published files of the next Front
abbrev Published : Front → OutputUnit → Image → Image → Type 0
Published g unit old new = published (front_with g unit) new ≡ appended_to (unit.after.file - (g.first - 1)) unit.bytes (published g old)

-- an image with the next unit's bytes
with_unit : (plan : OutputPlan) (txns : List Transaction) (g : Front) (unit : OutputUnit) (old new : Image)
    → IsFrontOrNone g → IsUnitAt plan txns g.count unit → IsFrontOf plan txns g old → Published g unit old new
    → ((n : ℕ) → n ≢ unit.after.file → new (Log n) ≡ old (Log n)) → IsFrontOf plan txns (front_with g unit) new
with_unit plan txns g unit old new shaped at h files others =
    let so_far : List Transaction = take g.count txns in
    let own : OutputUnit = unit_of plan.rules plan.rotation at.txn (layout_of plan.rules plan.rotation so_far) in
    let all : take unit.number txns ≡ so_far ++ at.txn ∷ [] = ap (λ (k : ℕ). take k txns) at.number ∙ take_one_more txns g.count at.txn at.there in
    let makes = units_make_files plan.rules plan.rotation so_far at.txn in
    let next = next_is_kept g shaped in
    let there : next_file (front_layout g) ≡ next_file (layout_of plan.rules plan.rotation so_far) = ap next_file h.layout in
    let number_is : unit.after.file ≡ next_file (front_layout g) = ap (λ (u : OutputUnit). u.after.file) at.is ∙ sym there in
    let size : g.file ≡ length (files_of plan.rules plan.rotation so_far) = ap (λ (l : Layout). l.file) h.layout ∙ files_count plan.rules plan.rotation so_far in
    let below : g.first - 1 < unit.after.file = omega (arith, next.below, number_is) in
    let within : g.first - 1 ≤ length (files_of plan.rules plan.rotation so_far) = omega (arith, next.within, size) in
    let kept : g.first ≤ next_file (layout_of plan.rules plan.rotation so_far) = omega (arith, next.kept, there) in
    let reached : g.count < length txns = slice_get_within txns g.count at.txn at.there in
    record {
      within = omega (arith, reached, at.number);
      layout = ap (λ (u : OutputUnit). u.after) at.is ∙ (sym makes.layout ∙ ap (λ (list : List Transaction). layout_of plan.rules plan.rotation list) (sym all));
      files = files
          ∙ (ap (λ (list : List (List ℕ)). appended_to (unit.after.file - (g.first - 1)) unit.bytes list) h.files
          ∙ (sym (drop_appended (g.first - 1) unit.after.file unit.bytes (files_of plan.rules plan.rotation so_far) below within)
          ∙ (ap (λ (u : OutputUnit). drop (g.first - 1) (appended_to u.after.file u.bytes (files_of plan.rules plan.rotation so_far))) at.is
          ∙ (ap (drop (g.first - 1)) (sym makes.files)
          ∙ ap (λ (list : List Transaction). drop (g.first - 1) (files_of plan.rules plan.rotation list)) (sym all)))));
      passed = h.passed ∙ (sym (passed_more plan g.first so_far at.txn kept) ∙ ap (λ (list : List Transaction). passed_below plan g.first list) (sym all));
      last = λ key is.
          let here : unit.key ≡ key = cc in
          let number : suc g.count ≡ unit.number = omega (arith, at.number) in
          sym here ∙ (ap (λ (u : OutputUnit). u.key) at.is ∙ (ap key_or_first (sym at.there) ∙ ap (key_at txns) number));
      behind = λ n over. others n (λ e. omega (arith, e, over)) ∙ h.behind n (omega (arith, over, next.later, number_is));
    }

pub each_append_keeps : EachAppendKeeps
each_append_keeps plan txns g unit old new shaped at h done = with_unit plan txns g unit old new shaped at h done.files done.others

pub each_unit_keeps : EachUnitKeeps
each_unit_keeps plan txns g unit old image shaped at h done =
    record { front = front_with g unit; is_front = done.front; counted = at.number; is_kept = with_unit plan txns g unit old image shaped at h done.files done.others }
