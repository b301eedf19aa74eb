-- Calls that only read, one after the other.
use Rattle.std.proofs.Common.{◌≡◌, ℕ, List, refl, sym, ap, ◌∙◌}
use Rattle.cdc_outside.specs.declared.disk_file.DiskFile.{DiskFile}
use Rattle.cdc_outside.specs.Disk.{Image, Change, IsDurable, Elapses}
use Rattle.cdc_outside.proofs.Moments.{started, goes_on, joined}
use Rattle.cdc_cell.specs.Reading.{IsLeftAlone}

module _ {D : Type 0} (seen synced : D → Image) (pending : D → DiskFile → List Change) (may_leave : D → Image → Type 0) (moment : D → ℕ) (left_since : D → ℕ → Image → Type 0) where
  -- before the first call
  pub alone_yet : (only_now : (disk : D) (image : Image) → left_since disk (moment disk) image → may_leave disk image) (old : D)
      → IsLeftAlone seen synced pending may_leave moment left_since old old
  alone_yet only_now old = record {
    same = refl;
    base = refl;
    changes = refl;
    crash = λ image left. left;
    any_moment = started moment left_since old (may_leave old) (only_now old);
  }

  -- one call
  pub alone_once : (only_now : (disk : D) (image : Image) → left_since disk (moment disk) image → may_leave disk image) (old new : D)
      → seen new ≡ seen old → synced new ≡ synced old → pending new ≡ pending old → ((image : Image) → may_leave new image → may_leave old image)
      → Elapses (moment old) (moment new) (left_since old) (left_since new) (may_leave new) → IsLeftAlone seen synced pending may_leave moment left_since old new
  alone_once only_now old new same base changes crash time = record {
    same = same;
    base = base;
    changes = changes;
    crash = crash;
    any_moment = goes_on moment left_since old old new (may_leave old) (may_leave new) (started moment left_since old (may_leave old) (only_now old)) time crash;
  }

  -- two runs after each other
  pub alone_both : (old mid new : D) → IsLeftAlone seen synced pending may_leave moment left_since old mid → IsLeftAlone seen synced pending may_leave moment left_since mid new
      → IsLeftAlone seen synced pending may_leave moment left_since old new
  alone_both old mid new first second = record {
    same = second.same ∙ first.same;
    base = second.base ∙ first.base;
    changes = second.changes ∙ first.changes;
    crash = λ image left. first.crash image (second.crash image left);
    any_moment = joined moment left_since old mid new (may_leave old) (may_leave mid) (may_leave old) first.any_moment second.any_moment (λ image left. left) first.crash;
  }

-- what is durable stays so
pub still_durable : (old_seen old_synced new_seen new_synced : Image) (old_pending new_pending : DiskFile → List Change) → new_seen ≡ old_seen → new_synced ≡ old_synced → new_pending ≡ old_pending
    → IsDurable old_seen old_synced old_pending → IsDurable new_seen new_synced new_pending
still_durable old_seen old_synced new_seen new_synced old_pending new_pending same base changes durable = record {
  whole = base ∙ durable.whole ∙ sym same;
  nothing = λ file. ap (λ (p : DiskFile → List Change). p file) changes ∙ durable.nothing file;
}
