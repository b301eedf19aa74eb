-- The disk model: files, the changes since the last sync, what a crash may leave of them, and moments.
use Rattle.std.specs.Prelude.{◌≡◌, ℕ, ◌+◌, ◌≤◌, ◌<◌, ◌⊎◌, min, max, ◌==◌, nat_le, nat_lt, Bool, true, false, ◌&&◌, ◌||◌, if◌then◌else◌}
use Rattle.std.specs.Prelude.{List, [], ◌∷◌, ◌++◌, length, take, drop, slice_index, Option, None, Some, ⊤}
use Rattle.cdc_outside.specs.declared.disk_file.DiskFile.{DiskFile}
use Rattle.cdc_outside.specs.declared.disk_file.DiskFile.TheVariants.{SlotA, SlotB, Log}

-- a content of each file
abbrev pub Image : Type 0
Image = DiskFile → List ℕ

-- the two name one file
abbrev pub same_file : DiskFile → DiskFile → Bool
same_file SlotA SlotA = true
same_file SlotB SlotB = true
same_file (Log number) (Log other) = number == other
same_file SlotA SlotB = false
same_file SlotA (Log other) = false
same_file SlotB SlotA = false
same_file SlotB (Log other) = false
same_file (Log number) SlotA = false
same_file (Log number) SlotB = false

-- what is kept for each file, with another value for one of them
abbrev pub with_file : {A : Type 0} → DiskFile → A → (DiskFile → A) → DiskFile → A
with_file file value files other = if same_file file other then value else files other

-- a content after bytes were written at a place
abbrev pub overwritten : ℕ → List ℕ → List ℕ → List ℕ
overwritten at bytes old = take at old ++ bytes ++ drop (at + length bytes) old

-- a change of a file: a write at a place of so many bytes, or a cut to a length
pub data Change : Type 0 where
  Wrote : ℕ → ℕ → Change
  CutTo : ℕ → Change

-- the least length that a file of this length had while it was changed so
abbrev pub shortest : ℕ → List Change → ℕ
shortest synced [] = synced
shortest synced (Wrote at count ∷ changes) = shortest synced changes
shortest synced (CutTo to ∷ changes) = min to (shortest synced changes)

-- the greatest length that it had
abbrev pub longest : ℕ → List Change → ℕ
longest synced [] = synced
longest synced (Wrote at count ∷ changes) = max (at + count) (longest synced changes)
longest synced (CutTo to ∷ changes) = longest synced changes

-- a byte lies in a range that was written
abbrev pub is_written : ℕ → List Change → Bool
is_written place [] = false
is_written place (Wrote at count ∷ changes) = (nat_le at place && nat_lt place (at + count)) || is_written place changes
is_written place (CutTo to ∷ changes) = is_written place changes

-- a content that a crash may leave of one file, of its content at the last sync and the changes since
pub record MayLeave (synced : List ℕ) (changes : List Change) (left : List ℕ) : Type 0 where
  pub no_shorter : shortest (length synced) changes ≤ length left
  pub no_longer : length left ≤ longest (length synced) changes
  pub same : (place : ℕ) → place < shortest (length synced) changes → is_written place changes ≡ false → slice_index left place ≡ slice_index synced place

-- nothing is pending: the last sync has what a read gives, and nothing was changed since
pub record IsDurable (seen synced : Image) (pending : DiskFile → List Change) : Type 0 where
  pub whole : synced ≡ seen
  pub nothing : (file : DiskFile) → pending file ≡ []

-- a change of one file has begun, or the call failed before it
abbrev pub Begins : DiskFile → Change → (DiskFile → List Change) → (DiskFile → List Change) → Type 0
Begins file change old new = (new ≡ old) ⊎ (new ≡ with_file file (old file ++ change ∷ []) old)

-- time goes on: a crash since t might have left what it might have left before, or what it may leave now
pub record Elapses (before now : ℕ) (past since : ℕ → Image → Type 0) (leaves : Image → Type 0) : Type 0 where
  pub later : before ≤ now
  pub nothing_else : (t : ℕ) (image : Image) → t ≤ before → since t image → past t image ⊎ leaves image
  pub keeps : (t : ℕ) (image : Image) → t ≤ before → past t image → since t image

-- a crash at any moment since old leaves a content with P
pub record LeavesOnly {D : Type 0} (moment : D → ℕ) (left_since : D → ℕ → Image → Type 0) (old new : D) (P : Image → Type 0) : Type 0 where
  pub later : moment old ≤ moment new
  pub each : (image : Image) → left_since new (moment old) image → P image
  -- for a run that began earlier
  pub before : (t : ℕ) (image : Image) → t ≤ moment old → left_since new t image → left_since old t image ⊎ P image

-- a write of so many bytes at a place, done in part: outside its range and the old end all is as before
pub record IsTorn (at count : ℕ) (old left : List ℕ) : Type 0 where
  pub front : take at left ≡ take at old
  pub rest : drop (at + count) left ≡ drop (at + count) old
  pub no_shorter : length old ≤ length left
  pub no_longer : length left ≤ max (at + count) (length old)

-- one write into one file, done in part
pub record OneWrite (file : DiskFile) (at count : ℕ) (old left : Image) : Type 0 where
  pub others : left ≡ with_file file (left file) old
  pub torn : IsTorn at count (old file) (left file)

-- a cut of one file, done in part: what is kept stands, and what is cut off may be anything
pub record OneCut (file : DiskFile) (to : ℕ) (old left : Image) : Type 0 where
  pub others : left ≡ with_file file (left file) old
  pub front : take to (left file) ≡ take to (old file)
  pub no_shorter : to ≤ length (left file)
  pub no_longer : length (left file) ≤ length (old file)

-- of each file, how many of its first bytes are to stay; all of them where there is no number
abbrev pub Keep : Type 0
Keep = DiskFile → Option ℕ

-- a place in a file at or behind what is to stay
abbrev pub IsPlaceBehind : Option ℕ → ℕ → Type 0
IsPlaceBehind None at = ⊥
IsPlaceBehind (Some kept) at = kept ≤ at

-- every change is at or behind the first bytes
abbrev pub AreBehind : ℕ → List Change → Type 0
AreBehind kept [] = ⊤
AreBehind kept (Wrote at count ∷ changes) = (kept ≤ at) × AreBehind kept changes
AreBehind kept (CutTo to ∷ changes) = (kept ≤ to) × AreBehind kept changes

-- of one file the last sync has what is to stay, and only what is behind it was changed since
abbrev pub FileWaits : Option ℕ → List ℕ → List ℕ → List Change → Type 0
FileWaits None seen synced changes = (synced ≡ seen) × (changes ≡ [])
FileWaits (Some kept) seen synced changes = (kept ≤ length synced) × AreBehind kept changes × (take kept seen ≡ take kept synced)

-- writes wait for a sync, all of them behind what is to stay
abbrev pub IsWaiting : Keep → Image → Image → (DiskFile → List Change) → Type 0
IsWaiting keep seen synced pending = (file : DiskFile) → FileWaits (keep file) (seen file) (synced file) (pending file)

-- what is to stay of one file is as it was
abbrev pub KeepsFile : Option ℕ → List ℕ → List ℕ → Type 0
KeepsFile None old left = left ≡ old
KeepsFile (Some kept) old left = (kept ≤ length left) × (take kept left ≡ take kept old)

-- of each file what is to stay is as it was
abbrev pub KeepsBelow : Keep → Image → Image → Type 0
KeepsBelow keep old left = (file : DiskFile) → KeepsFile (keep file) (old file) (left file)
