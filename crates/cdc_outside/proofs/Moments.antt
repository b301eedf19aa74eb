-- How what a crash may leave goes on over calls.
use Rattle.std.proofs.Common.{ℕ, inl, inr, ⊎_elim, arith}
use Rattle.cdc_outside.specs.Disk.{Image, Elapses, LeavesOnly}

module _ {D : Type 0} (moment : D → ℕ) (left_since : D → ℕ → Image → Type 0) where
  -- before the first call
  pub started : (old : D) (P : Image → Type 0) → ((image : Image) → left_since old (moment old) image → P image) → LeavesOnly moment left_since old old P
  started old P here = record { later = omega arith; each = here; before = λ t image le left. inl left }

  -- one call more, after which a crash leaves what has P
  pub goes_on : (old mid new : D) (P leaves : Image → Type 0) → LeavesOnly moment left_since old mid P
      → Elapses (moment mid) (moment new) (left_since mid) (left_since new) leaves
      → ((image : Image) → leaves image → P image) → LeavesOnly moment left_since old new P
  goes_on old mid new P leaves so_far time here = record {
    later = omega (arith, so_far.later, time.later);
    each = λ image left. ⊎_elim (so_far.each image) (here image) (time.nothing_else (moment old) image so_far.later left);
    before = λ t image le left. ⊎_elim (so_far.before t image le) (λ now. inr (here image now)) (time.nothing_else t image (omega (arith, le, so_far.later)) left);
  }

  -- two runs after each other
  pub joined : (old mid new : D) (P Q R : Image → Type 0) → LeavesOnly moment left_since old mid P → LeavesOnly moment left_since mid new Q
      → ((image : Image) → P image → R image) → ((image : Image) → Q image → R image) → LeavesOnly moment left_since old new R
  joined old mid new P Q R first second from_first from_second = record {
    later = omega (arith, first.later, second.later);
    each = λ image left. ⊎_elim (λ was. from_first image (first.each image was)) (from_second image) (second.before (moment old) image first.later left);
    before = λ t image le left. ⊎_elim (λ was. ⊎_elim (λ earlier. inl earlier) (λ now. inr (from_first image now)) (first.before t image le was)) (λ now. inr (from_second image now))
        (second.before t image (omega (arith, le, first.later)) left);
  }

  -- the same run, of which less is said
  pub weaker : (old new : D) (P Q : Image → Type 0) → LeavesOnly moment left_since old new P → ((image : Image) → P image → Q image) → LeavesOnly moment left_since old new Q
  weaker old new P Q run so = record {
    later = run.later;
    each = λ image left. so image (run.each image left);
    before = λ t image le left. ⊎_elim (λ was. inl was) (λ now. inr (so image now)) (run.before t image le left);
  }
