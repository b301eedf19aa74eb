-- An id of at most 64 bytes, kept as 64 bytes and a length.
use Rattle.std.specs.Prelude.{◌≡◌, ℕ, ◌≤◌, List, ◌++◌, length, take, drop, replicate}
use Rattle.std.proofs.Common.{ap, ◌∙◌, arith}
use Rattle.std.proofs.lemmas.List.{length-take}
use Rattle.cdc_base.specs.declared.gtrid.Gtrid.TheInside.{Inside}

-- the bytes of the id
abbrev pub id_bytes : Inside → List ℕ
id_bytes id = take id.len id.bytes

-- zeros stand behind the id, up to 64 bytes
pub record IsPadded (id : Inside) : Type 0 where
  pub within : id.len ≤ 64
  pub full : length id.bytes ≡ 64
  pub zeros : take id.len id.bytes ++ drop id.len (replicate 64 0) ≡ id.bytes

-- the id of these bytes
abbrev pub padded : List ℕ → Inside
padded bytes = record { bytes = bytes ++ drop (length bytes) (replicate 64 0); len = length bytes }

-- an id is told by its bytes
pub padded_again : (id : Inside) → IsPadded id → padded (id_bytes id) ≡ id
padded_again id h =
    let e : length (take id.len id.bytes) ≡ id.len = omega (arith, length-take id.len id.bytes, h.within, h.full) in
    let zeros : take id.len id.bytes ++ drop (length (take id.len id.bytes)) (replicate 64 0) ≡ id.bytes
    = ap (λ n. take id.len id.bytes ++ drop n (replicate 64 0)) e ∙ h.zeros in
    λ i. record { bytes = zeros i; len = e i }
