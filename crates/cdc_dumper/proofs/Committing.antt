-- What a commit, a publish and an opening leave of what a dumper knows.
use Rattle.std.proofs.Common.{◌≡◌, ◌≢◌, ℕ, ◌+◌, ◌-◌, ◌≤◌, ◌<◌, ◌==◌, Bool, true, false, List, [], length, take, inl, inr, refl, sym, ◌∙◌, ap, subst, arith, length-take}
use Rattle.std.specs.Prelude.{Option, None, Some, if◌then◌else◌}
use Rattle.std.proofs.lemmas.Bool.Decides.{nat_tests}
use Rattle.cdc_outside.specs.declared.disk_file.DiskFile.{DiskFile}
use Rattle.cdc_outside.specs.declared.disk_file.DiskFile.TheVariants.{SlotA, SlotB, Log}
use Rattle.cdc_outside.specs.Disk.{Image, Change, AreBehind, FileWaits, IsWaiting, IsDurable}
use Rattle.cdc_cell.specs.Cell.{Knows, cell_number_of}
use Rattle.cdc_model.specs.Records.{OutputUnit}
use Rattle.cdc_records.specs.declared.front.Front.{Front}
use Rattle.cdc_records.specs.Front.{front_layout, front_number, HasFront, IsSoundFront}
use Rattle.cdc_records.specs.Published.{published, published_file}
use Rattle.cdc_dumper.specs.Opening.{IsFrontOrNone, IsFound, IsTrimmedTo, AreEmptyBehind}
use Rattle.cdc_dumper.specs.State.{DumperState, IsAhead, IsShaped, Stands, keep_of, keep_alone}
use Rattle.cdc_dumper.specs.Moves.{BeginsAt, front_with, StillHas, HasCommitted, IsAppended, HasNew, IsBeforeOrCommitted, IsBeforeOrNew}
use Rattle.cdc_dumper.proofs.Growing.{same_from}
use Rattle.cdc_dumper.proofs.Appending.{On, Next, goes_where}

-- what is durable waits for nothing
file_waits : (kept : Option ℕ) (seen synced : List ℕ) (changes : List Change) → synced ≡ seen → changes ≡ [] → ((n : ℕ) → kept ≡ Some n → n ≤ length seen) → FileWaits kept seen synced changes
file_waits None seen synced changes same none short = (same, none)
file_waits (Some n) seen synced changes same none short =
    (subst (λ (xs : List ℕ). n ≤ length xs) (sym same) (short n refl), subst (λ (cs : List Change). AreBehind n cs) (sym none) tt, ap (take n) (sym same))

kept_short : (f : Front) (seen : Image) → f.length ≤ length (seen (Log f.file)) → (file : DiskFile) (n : ℕ) → keep_of f file ≡ Some n → n ≤ length (seen file)
kept_short f seen le SlotA n e = absurd (cc)
kept_short f seen le SlotB n e = absurd (cc)
kept_short f seen le (Log number) n e = here (number == f.file) refl
  where
    there : (b : Bool) → (number == f.file + 1) ≡ b → (if b then Some 0 else None) ≡ Some n → n ≤ length (seen (Log number))
    there true t is = let zero_is : n ≡ 0 = cc in omega (arith, zero_is)
    there false t is = absurd (cc)

    here : (b : Bool) → (number == f.file) ≡ b → n ≤ length (seen (Log number))
    here true t =
        let is : number ≡ f.file = grind (arith, nat_tests) in
        let some : Some f.length ≡ Some n = sym (ap (λ (b : Bool). if b then Some f.length else if number == f.file + 1 then Some 0 else None) t) ∙ e in
        let same : f.length ≡ n = cc in
        subst (λ (m : ℕ). n ≤ length (seen (Log m))) (sym is) (omega (arith, same, le))
    here false t = there (number == f.file + 1) refl (sym (ap (λ (b : Bool). if b then Some f.length else if number == f.file + 1 then Some 0 else None) t) ∙ e)

pub durable_waits : (f : Front) (seen synced : Image) (pending : DiskFile → List Change) → IsDurable seen synced pending → f.length ≤ length (seen (Log f.file)) → IsWaiting (keep_of f) seen synced pending
durable_waits f seen synced pending durable le file =
    file_waits (keep_of f file) (seen file) (synced file) (pending file) (ap (λ (i : Image). i file) durable.whole) (durable.nothing file) (kept_short f seen le file)

alone_short : (f : Front) (seen : Image) → f.length ≤ length (seen (Log f.file)) → (file : DiskFile) (n : ℕ) → keep_alone f file ≡ Some n → n ≤ length (seen file)
alone_short f seen le SlotA n e = absurd (cc)
alone_short f seen le SlotB n e = absurd (cc)
alone_short f seen le (Log number) n e = here (number == f.file) refl
  where
    by_test : (b : Bool) → (number == f.file) ≡ b → (if b then Some f.length else None) ≡ Some n
    by_test b t = sym (ap (λ (b : Bool). if b then Some f.length else None) t) ∙ e

    here : (b : Bool) → (number == f.file) ≡ b → n ≤ length (seen (Log number))
    here true t =
        let is : number ≡ f.file = grind (arith, nat_tests) in
        let some : Some f.length ≡ Some n = by_test true t in
        let same : f.length ≡ n = cc in
        subst (λ (m : ℕ). n ≤ length (seen (Log m))) (sym is) (omega (arith, same, le))
    here false t = absurd (let none : None ≡ Some n = by_test false t in cc)

pub durable_alone : (f : Front) (seen synced : Image) (pending : DiskFile → List Change) → IsDurable seen synced pending → f.length ≤ length (seen (Log f.file)) → IsWaiting (keep_alone f) seen synced pending
durable_alone f seen synced pending durable le file =
    file_waits (keep_alone f file) (seen file) (synced file) (pending file) (ap (λ (i : Image). i file) durable.whole) (durable.nothing file) (alone_short f seen le file)

-- a Front that is none has no length
pub whole_enough : (f : Front) (seen : Image) → IsFrontOrNone f → (1 ≤ f.file → length (seen (Log f.file)) ≡ f.length) → f.length ≤ length (seen (Log f.file))
whole_enough f seen (inl none) whole = omega (arith, ap (λ (g : Front). g.length) none)
whole_enough f seen (inr sound) whole = omega (arith, whole sound.file)

-- the disk behind a commit
pub stands_committed : (s t : DumperState) (old new synced_old synced : Image) (pending_old pending : DiskFile → List Change) → Stands s old synced_old pending_old → IsFrontOrNone s.appended
    → t.published ≡ s.appended → t.appended ≡ s.appended → Knows t.cell new → HasCommitted s.appended old new → IsDurable new synced pending → Stands t new synced pending
stands_committed s t old new synced_old synced pending_old pending stands shape published appended knows has durable =
    let whole : 1 ≤ s.appended.file → length (new (Log s.appended.file)) ≡ s.appended.length = λ some. ap length (has.logs s.appended.file) ∙ stands.whole some in
    record {
      knows = knows;
      has = subst (λ (f : Front). HasFront new f) (sym published) has.front;
      waiting = subst (λ (f : Front). IsWaiting (keep_of f) new synced pending) (sym published) (durable_waits s.appended new synced pending durable (whole_enough s.appended new shape whole));
      alone = λ _. subst (λ (f : Front). IsWaiting (keep_alone f) new synced pending) (sym published) (durable_alone s.appended new synced pending durable (whole_enough s.appended new shape whole));
      whole = subst (λ (f : Front). 1 ≤ f.file → length (new (Log f.file)) ≡ f.length) (sym appended) whole;
      above = λ n lt. has.logs n ∙ stands.above n (omega (arith, ap (λ (f : Front). f.file) appended, lt));
      idle = λ _. durable;
    }

-- what still has it, still has it later
pub still_later : (f : Front) (old mid image : Image) → StillHas f old mid → StillHas f mid image → StillHas f old image
still_later f old mid image first second = record {
  front = second.front;
  file = second.file ∙ first.file;
  others = λ number a b. second.others number a b ∙ first.others number a b;
}

-- nothing done
pub still_now : (f : Front) (seen image : Image) → HasFront seen f → image ≡ seen → StillHas f seen image
still_now f seen image has e = subst (λ (i : Image). StillHas f seen i) (sym e) record { front = has; file = refl; others = λ number _ _. refl }

-- what was appended is published by its Front
pub new_of : (f g : Front) (unit : OutputUnit) (old mid image : Image) → g ≡ front_with f unit → IsAppended f unit old mid → HasCommitted g mid image → HasNew f unit old image
new_of f g unit old mid image e appended has = record {
  front = subst (λ (h : Front). HasFront image h) e has.front;
  others = λ number ne. has.logs number ∙ appended.others number ne;
  files = same_from (published_file (front_with f unit) mid) (published_file (front_with f unit) image) f.first (unit.after.file + 1 - f.first)
      (λ n _. ap (λ (xs : List ℕ). if n == unit.after.file then take unit.after.length xs else xs) (has.logs n)) ∙ appended.files;
}

pub before_or_new : (f h g : Front) (unit : OutputUnit) (old mid image : Image) → h ≡ f → g ≡ front_with f unit → StillHas f old mid → IsAppended f unit old mid → IsBeforeOrCommitted h g mid image → IsBeforeOrNew f unit old image
before_or_new f h g unit old mid image same e still appended (inl was) = inl (still_later f old mid image still (subst (λ (k : Front). StillHas k mid image) same was))
before_or_new f h g unit old mid image same e still appended (inr has) = inr (new_of f g unit old mid image e appended has)

-- a unit's file is at most the next
pub near_next : (f : Front) (unit : OutputUnit) (at : ℕ) → BeginsAt unit at → unit.before ≡ front_layout f → unit.after.file ≤ f.file + 1
near_next f unit at begins e = elim (goes_where f unit at begins e) [ On file start some ↦ omega (arith, file) | Next file start head ↦ omega (arith, file) ]

-- a Front goes on from itself
pub ahead_self : (f : Front) → IsAhead f f
ahead_self f = record {
  first = refl;
  passed = refl;
  count = omega arith;
  file = omega arith;
  near = omega arith;
  length = λ _. omega arith;
  keyed = λ lt. absurd (omega (arith, lt));
  same = λ _. refl;
}

-- the disk behind an opening
pub stands_opened : (s : DumperState) (old new synced : Image) (pending : DiskFile → List Change) → s.appended ≡ s.published → IsFrontOrNone s.published → Knows s.cell new → HasFront new s.published
    → IsFound old s.published → IsTrimmedTo s.published old new → IsDurable new synced pending → AreEmptyBehind (s.published.file + 1) old → Stands s new synced pending
stands_opened s old new synced pending same shape knows has found trimmed durable empty =
    let f : Front = s.published in
    let whole : 1 ≤ f.file → length (new (Log f.file)) ≡ f.length = λ some. ap length (trimmed.file some) ∙ omega (arith, length-take f.length (old (Log f.file)), found.whole) in
    let above : (n : ℕ) → f.file < n → new (Log n) ≡ [] = λ n lt. elim (n == f.file + 1) as (λ (b : Bool). ((n == f.file + 1) ≡ b) → new (Log n) ≡ []) [
      | true ↦ λ t. let is : n ≡ f.file + 1 = grind (arith, nat_tests) in ap (λ (m : ℕ). new (Log m)) is ∙ trimmed.next
      | false ↦ λ t. let ne : n ≢ f.file + 1 = λ is. grind (arith, nat_tests) in trimmed.trimmed.others n (λ is. omega (arith, is, lt)) ne ∙ empty n (let past : f.file + 1 < n = grind (arith, nat_tests) in past)
    ] refl in
    record {
      knows = knows;
      has = has;
      waiting = durable_waits f new synced pending durable (whole_enough f new shape whole);
      alone = λ _. durable_alone f new synced pending durable (whole_enough f new shape whole);
      whole = subst (λ (g : Front). 1 ≤ g.file → length (new (Log g.file)) ≡ g.length) (sym same) whole;
      above = λ n lt. above n (omega (arith, ap (λ (g : Front). g.file) same, lt));
      idle = λ _. durable;
    }

-- where something was appended its Front is one that a record may have, under a greater number
pub committed_sound : (s : DumperState) → IsShaped s → s.appended.count ≢ s.published.count → IsSoundFront s.appended
committed_sound s shape ne = by_shape shape.appended
  where
    by_shape : IsFrontOrNone s.appended → IsSoundFront s.appended
    by_shape (inl none) = absurd (ne (let zero_is : s.appended.count ≡ 0 = ap (λ (f : Front). f.count) none in omega (arith, zero_is, shape.ahead.count)))
    by_shape (inr sound) = sound

pub committed_above : (s : DumperState) → IsShaped s → s.appended.count ≢ s.published.count → cell_number_of s.cell < front_number s.appended
committed_above s shape ne =
    let sound = committed_sound s shape ne in
    omega (arith, shape.number, shape.ahead.count, shape.ahead.first, sound.kept, ne)
