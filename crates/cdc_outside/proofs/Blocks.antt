-- Changes of one file of a disk on which nothing was pending, and a sync behind them.
use Rattle.std.proofs.Common.{◌≡◌, ◌+◌, ◌≤◌, ℕ, List, [], ◌∷◌, ◌++◌, length, ◌∙◌, sym, subst}
use Rattle.cdc_outside.specs.declared.disk_file.DiskFile.{DiskFile}
use Rattle.cdc_outside.specs.Disk.{Image, Change, Wrote, CutTo, MayLeave, IsDurable, IsWaiting, Keep, Begins, Elapses, LeavesOnly, OneWrite, OneCut}
use Rattle.cdc_outside.proofs.Moments.{started, goes_on}
use Rattle.cdc_outside.proofs.Pending.{Leaves, Pends, AreWithin, AreCuts, pends_nothing, pends_more, within_more, cuts_more, one_write, one_cut}

-- what a type of disks tells, with two of its laws
pub record Told (D : Type 0) : Type 1 where
  pub seen : D → Image
  pub synced : D → Image
  pub pending : D → DiskFile → List Change
  pub may_leave : D → Image → Type 0
  pub moment : D → ℕ
  pub left_since : D → ℕ → Image → Type 0
  pub image_is : (disk : D) (image : Image) → may_leave disk image → (file : DiskFile) → MayLeave (synced disk file) (pending disk file) (image file)
  pub only_now : (disk : D) (image : Image) → left_since disk (moment disk) image → may_leave disk image

-- so far a crash leaves what has P, and only changes of the file that have Q are pending
pub record Running {D : Type 0} (t : Told D) (old new : D) (file : DiskFile) (Q : List Change → Type 0) (P : Image → Type 0) : Type 0 where
  pub run : LeavesOnly t.moment t.left_since old new P
  pub pends : Pends file Q (t.pending new)
  pub base : t.synced new ≡ t.seen old

-- images of pending changes that have Q have P
abbrev pub Gives : {D : Type 0} → Told D → D → DiskFile → (List Change → Type 0) → (Image → Type 0) → Type 0
Gives t old file Q P = (changes : DiskFile → List Change) (image : Image) → Pends file Q changes → Leaves (t.seen old) changes image → P image

module _ {D : Type 0} (t : Told D) (old : D) (file : DiskFile) (Q : List Change → Type 0) (P : Image → Type 0) (gives : Gives t old file Q P) where
  leaves_of : (disk : D) (image : Image) → t.synced disk ≡ t.seen old → t.may_leave disk image → Leaves (t.seen old) (t.pending disk) image
  leaves_of disk image base may = λ other. subst (λ (s : Image). MayLeave (s other) (t.pending disk other) (image other)) base (t.image_is disk image may other)

  pub begun : IsDurable (t.seen old) (t.synced old) (t.pending old) → Q [] → Running t old old file Q P
  begun durable none =
      let pends : Pends file Q (t.pending old) = pends_nothing file Q (t.pending old) none durable.nothing in
      record {
        run = started t.moment t.left_since old P (λ image left. gives (t.pending old) image pends (leaves_of old image durable.whole (t.only_now old image left)));
        pends = pends;
        base = durable.whole;
      }

  pub changed : (mid new : D) (change : Change) → Running t old mid file Q P → t.synced new ≡ t.synced mid
      → Begins file change (t.pending mid) (t.pending new) → Elapses (t.moment mid) (t.moment new) (t.left_since mid) (t.left_since new) (t.may_leave new)
      → ((changes : List Change) → Q changes → Q (changes ++ change ∷ [])) → Running t old new file Q P
  changed mid new change so_far same begins time more =
      let pends : Pends file Q (t.pending new) = pends_more file Q change (t.pending mid) (t.pending new) so_far.pends begins more in
      let base : t.synced new ≡ t.seen old = same ∙ so_far.base in
      record {
        run = goes_on t.moment t.left_since old mid new P (t.may_leave new) so_far.run time (λ image left. gives (t.pending new) image pends (leaves_of new image base left));
        pends = pends;
        base = base;
      }

  pub made_durable : (mid new : D) → Running t old mid file Q P
      → Elapses (t.moment mid) (t.moment new) (t.left_since mid) (t.left_since new) (t.may_leave new)
      → ((image : Image) → t.may_leave new image → t.may_leave mid image) → LeavesOnly t.moment t.left_since old new P
  made_durable mid new so_far time fewer =
      goes_on t.moment t.left_since old mid new P (t.may_leave new) so_far.run time (λ image left. gives (t.pending mid) image so_far.pends (leaves_of mid image so_far.base (fewer image left)))

-- writes within one range
module _ {D : Type 0} (t : Told D) (old : D) (file : DiskFile) (at count : ℕ) (place : at ≤ length (t.seen old file)) where
  abbrev pub Writing : D → Type 0
  Writing new = Running t old new file (AreWithin at count) (OneWrite file at count (t.seen old))

  gives : Gives t old file (AreWithin at count) (OneWrite file at count (t.seen old))
  gives = λ changes image. one_write file at count (t.seen old) changes image place

  pub begun_writing : IsDurable (t.seen old) (t.synced old) (t.pending old) → Writing old
  begun_writing durable = begun t old file (AreWithin at count) (OneWrite file at count (t.seen old)) gives durable tt

  pub wrote_more : (mid new : D) (from size : ℕ) → at ≤ from → from + size ≤ at + count → Writing mid → t.synced new ≡ t.synced mid
      → Begins file (Wrote from size) (t.pending mid) (t.pending new) → Elapses (t.moment mid) (t.moment new) (t.left_since mid) (t.left_since new) (t.may_leave new) → Writing new
  wrote_more mid new from size low high so_far same begins time =
      changed t old file (AreWithin at count) (OneWrite file at count (t.seen old)) gives mid new (Wrote from size) so_far same begins time (λ changes are. within_more at count changes from size are low high)

  pub wrote_through : (mid new : D) → Writing mid → Elapses (t.moment mid) (t.moment new) (t.left_since mid) (t.left_since new) (t.may_leave new)
      → ((image : Image) → t.may_leave new image → t.may_leave mid image) → LeavesOnly t.moment t.left_since old new (OneWrite file at count (t.seen old))
  wrote_through mid new so_far time fewer = made_durable t old file (AreWithin at count) (OneWrite file at count (t.seen old)) gives mid new so_far time fewer

-- one cut
module _ {D : Type 0} (t : Told D) (old : D) (file : DiskFile) (to : ℕ) (place : to ≤ length (t.seen old file)) (durable : IsDurable (t.seen old) (t.synced old) (t.pending old)) where
  abbrev pub Cutting : D → Type 0
  Cutting new = Running t old new file (AreCuts to) (OneCut file to (t.seen old))

  gives_cut : Gives t old file (AreCuts to) (OneCut file to (t.seen old))
  gives_cut = λ changes image. one_cut file to (t.seen old) changes image place

  pub was_cut : (new : D) → t.synced new ≡ t.synced old → Begins file (CutTo to) (t.pending old) (t.pending new)
      → Elapses (t.moment old) (t.moment new) (t.left_since old) (t.left_since new) (t.may_leave new) → Cutting new
  was_cut new same begins time =
      changed t old file (AreCuts to) (OneCut file to (t.seen old)) gives_cut old new (CutTo to)
      (begun t old file (AreCuts to) (OneCut file to (t.seen old)) gives_cut durable tt) same begins time (cuts_more to)

  pub cut_through : (mid new : D) → Cutting mid → Elapses (t.moment mid) (t.moment new) (t.left_since mid) (t.left_since new) (t.may_leave new)
      → ((image : Image) → t.may_leave new image → t.may_leave mid image) → LeavesOnly t.moment t.left_since old new (OneCut file to (t.seen old))
  cut_through mid new so_far time fewer = made_durable t old file (AreCuts to) (OneCut file to (t.seen old)) gives_cut mid new so_far time fewer

-- the same content at the last sync
pub base_kept : (keep : Keep) (seen : Image) (pending : DiskFile → List Change) (old new : Image) → new ≡ old → IsWaiting keep seen old pending → IsWaiting keep seen new pending
base_kept keep seen pending old new same waits = subst (λ (s : Image). IsWaiting keep seen s pending) (sym same) waits
