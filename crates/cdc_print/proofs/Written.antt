-- Pieces, written one behind another.
use Rattle.std.proofs.Common.{◌≡◌, ◌<◌, ℕ, zero, suc, List, [], ◌∷◌, ◌++◌, length, take, get_or, append_assoc, append-nil, ap, sym, ◌∙◌, arith}
use Rattle.std.specs.List.{flat_map}
use Rattle.cdc_outside.specs.Sink.{WritesTo}

abbrev pub joined_pieces : List (List ℕ) → List ℕ
joined_pieces pieces = flat_map (λ (piece : List ℕ). piece) pieces

-- a piece of which a front was written, behind those before it
pub front_of_pieces : (before mid now : List ℕ) (full : List (List ℕ)) (last piece : List ℕ) (index : ℕ) → index < length full → piece ≡ get_or full index piece
    → mid ≡ before ++ joined_pieces (take index full) → WritesTo mid piece now → WritesTo before (joined_pieces full ++ last) now
front_of_pieces before mid now [] last piece index h is so_far wrote = absurd (omega (arith, h))
front_of_pieces before mid now (first ∷ full) last piece zero h is so_far (front, rest, split, wrote) = (
  front,
  rest ++ (joined_pieces full ++ last),
  append_assoc first (joined_pieces full) last ∙ ap (λ (bytes : List ℕ). bytes ++ (joined_pieces full ++ last)) (sym is ∙ split) ∙ append_assoc front rest (joined_pieces full ++ last),
  wrote ∙ ap (λ (bytes : List ℕ). bytes ++ front) (so_far ∙ append-nil before),
)
front_of_pieces before mid now (first ∷ full) last piece (suc index) h is so_far wrote =
    let later = front_of_pieces (before ++ first) mid now full last piece index (omega (arith, h)) is (so_far ∙ sym (append_assoc before first (joined_pieces (take index full)))) wrote in (
      first ++ later.0,
      later.1,
      append_assoc first (joined_pieces full) last ∙ ap (λ (bytes : List ℕ). first ++ bytes) later.2 ∙ sym (append_assoc first later.0 later.1),
      later.3 ∙ append_assoc before first later.0,
    )
