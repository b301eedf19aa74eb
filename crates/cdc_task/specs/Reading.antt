-- What is read of a record's bytes, field by field.
use Rattle.std.specs.Prelude.{◌≡◌, ℕ, ◌<◌, ◌^◌, List, ◌∷◌, ◌++◌, Option, None, Some, IfSome}
use Rattle.cdc_model.specs.declared.layout.Layout.{Layout}
use Rattle.cdc_event.specs.Number.{low_first}
use Rattle.cdc_records.specs.KeyBytes.{key_bytes}
use Rattle.cdc_records.specs.declared.checkpoint.Checkpoint.{Checkpoint}
use Rattle.cdc_records.specs.Checkpoint.{layout_bytes, rotation_bytes, point_version, point_bytes, point_number, FitsPoint, IsPoint}

-- where bytes begin with a value of a kind, this is it, and that is what is behind it
abbrev pub ReadsFront : {T : Type 0} → (T → List ℕ) → (T → Type 0) → List ℕ → T → List ℕ → Type 0
ReadsFront {T} bytes_of Fits bytes found left =
    (value : T) (rest : List ℕ) → Fits value → bytes ≡ bytes_of value ++ rest → (found ≡ value) × (left ≡ rest)

-- the numbers of a layout fit into their bytes
pub record FitsLayout (layout : Layout) : Type 0 where
  pub file : layout.file < 2 ^ 64
  pub size : layout.length < 2 ^ 64

-- where bytes begin with the rotation size of a record of this version, or it has none, this is it
abbrev pub ReadsRotation : ℕ → List ℕ → Option ℕ → List ℕ → Type 0
ReadsRotation version bytes found left =
    (value : Option ℕ) (rest : List ℕ) → IfSome value (λ size. size < 2 ^ 64) → version ≡ point_version value → bytes ≡ rotation_bytes value ++ rest
    → (found ≡ value) × (left ≡ rest)

-- where bytes are a checkpoint's, this is it
abbrev pub ReadsPoint : List ℕ → Checkpoint → Type 0
ReadsPoint bytes found = (point : Checkpoint) → FitsPoint point → bytes ≡ point_bytes point → found ≡ point

-- a checkpoint whose record has this number and these bytes
pub record IsPointOf (count : ℕ) (bytes : List ℕ) (point : Checkpoint) : Type 0 where
  pub fits : FitsPoint point
  pub is : IsPoint point
  pub number : count ≡ point_number point
  pub payload : bytes ≡ point_bytes point

-- the checkpoint whose record has this number and these bytes, or none where it is none's
abbrev pub IsReadOf : ℕ → List ℕ → Option Checkpoint → Type 0
IsReadOf number bytes None = (point : Checkpoint) → IsPointOf number bytes point → ⊥
IsReadOf number bytes (Some point) = IsPointOf number bytes point

-- what stands before the nodes
abbrev pub point_front : Checkpoint → List ℕ
point_front p = point_version p.rotation ∷ (low_first 8 p.count ++ (layout_bytes p.layout ++ (key_bytes p.last ++ rotation_bytes p.rotation)))
