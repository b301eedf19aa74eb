-- What a window over a file shows.
use Rattle.std.proofs.Common.{◌≡◌, ℕ, ◌+◌, ◌-◌, ◌<◌, ◌≤◌, ◌⊎◌, List, [], ◌∷◌, length, take, drop, min, refl, sym, ◌∙◌, ap, inl, inr, arith}
use Rattle.std.specs.Prelude.{Bool, true, false, ◌==◌, ◌&&◌, Result, Ok, Err}
use Rattle.std.specs.Str.{bytes_eq}
use Rattle.std.proofs.Math.Bool.{and-false}
use Rattle.std.proofs.lemmas.List.{drop-drop, drop-take, take-take}
use Rattle.cdc_event.specs.Event.{magic}
use Rattle.cdc_index.specs.declared.shelf_fault.ShelfFault.{ShelfFault}
use Rattle.cdc_index.specs.declared.shelf_fault.ShelfFault.TheVariants.{DiskFault, Torn}
use Rattle.cdc_index.specs.Chain.{is_whole_file, is_chain}
use Rattle.cdc_index.specs.Shelf.{Shows, TellsEnds, TellsBoundary}

-- four bytes inside a front are those of the whole
pub inside : (k n : ℕ) (bytes : List ℕ) → k + 4 ≤ n → take 4 (drop k (take n bytes)) ≡ take 4 (drop k bytes)
inside k n bytes h =
    let more : n ≡ k + (n - k) = omega (arith, h) in
    ap (λ m. take 4 (drop k (take m bytes))) more ∙ ap (λ l. take 4 l) (drop-take k (n - k) bytes) ∙ take-take 4 (n - k) (drop k bytes) (omega (arith, h))

-- the length that a header tells, seen in a window
pub shown_length : (file window : List ℕ) (from size place left at : ℕ) → Shows file window from size → from ≤ place → at ≡ place - from → at + 19 ≤ size → 19 ≤ left
    → take 4 (drop (at + 9) window) ≡ take 4 (drop 9 (take left (drop place file)))
shown_length file window from size place left at s before at_is within room =
    let same : from + (at + 9) ≡ place + 9 = omega (arith, at_is, before) in
    sym (inside (at + 9) size window (omega (arith, within)))
    ∙ ap (λ l. take 4 (drop (at + 9) l)) s.bytes
    ∙ inside (at + 9) size (drop from file) (omega (arith, within))
    ∙ ap (λ l. take 4 l) (drop-drop (at + 9) from file ∙ ap (λ n. drop n file) same ∙ sym (drop-drop 9 place file))
    ∙ sym (inside 9 left (drop place file) (omega (arith, room)))

-- fewer bytes than the magic has don't begin with it
pub short_front : (bytes : List ℕ) → length bytes < 4 → false ≡ bytes_eq (take 4 bytes) magic
short_front [] h = refl
short_front (a ∷ []) h = sym (and-false (a == 254))
short_front (a ∷ b ∷ []) h = sym (ap (λ t. (a == 254) && t) (and-false (b == 98)) ∙ and-false (a == 254))
short_front (a ∷ b ∷ c ∷ []) h = sym (ap (λ t. (a == 254) && ((b == 98) && t)) (and-false (c == 105)) ∙ ap (λ t. (a == 254) && t) (and-false (b == 98)) ∙ and-false (a == 254))
short_front (a ∷ b ∷ c ∷ d ∷ bytes) h = absurd (omega (arith, h))

le_or : (a b : ℕ) → (a ≤ b) ⊎ (b < a)
le_or a b = grind arith

-- a window that shows the front of a file shows its first four bytes
pub front_shown : (file window : List ℕ) (limit room size : ℕ) → Shows file window 0 size → size ≡ min (min limit room) (length file) → limit ≤ length file → 19 ≤ room
    → take 4 (take size window) ≡ take 4 (take limit file)
front_shown file window limit room size s all within large = ap (λ l. take 4 l) s.bytes ∙ elim (le_or 4 size) [
  | inl four ↦ take-take 4 size file four ∙ sym (take-take 4 limit file (omega (arith, four, all)))
  | inr few ↦ (let same : size ≡ limit = omega (arith, few, all, within, large) in ap (λ n. take 4 (take n file)) same)
]

-- behind the magic, what is said of the events is said of the file
pub whole_from_ends : (bytes : List ℕ) (at : ℕ) (said : Result Bool ShelfFault) → bytes_eq (take 4 bytes) magic ≡ true → TellsEnds bytes at said → TellsBoundary bytes at said
whole_from_ends bytes at (Ok found) e h = (ap (λ b. b && is_chain (drop 4 bytes)) e ∙ h.0, h.1)
whole_from_ends bytes at (Err Torn) e h = ap (λ b. b && is_chain (drop 4 bytes)) e ∙ h
whole_from_ends bytes at (Err DiskFault) e h = tt

-- without the magic no file is whole
pub no_magic : (bytes : List ℕ) → bytes_eq (take 4 bytes) magic ≡ false → is_whole_file bytes ≡ false
no_magic bytes e = ap (λ b. b && is_chain (drop 4 bytes)) e
