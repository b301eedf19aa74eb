-- What a window shows of a file from a place on.
use Rattle.std.proofs.Common.{◌≡◌, ℕ, ◌+◌, ◌-◌, ◌≤◌, List, length, take, drop, sym, ◌∙◌, ap, arith}
use Rattle.std.proofs.lemmas.List.{drop-drop, drop-take, take-take}
use Rattle.cdc_session.specs.Reading.{WindowShows}

-- bytes inside a front are those of the whole
pub inside : (k m n : ℕ) (bytes : List ℕ) → k + m ≤ n → take m (drop k (take n bytes)) ≡ take m (drop k bytes)
inside k m n bytes h =
    let more : n ≡ k + (n - k) = omega (arith, h) in
    ap (λ j. take m (drop k (take j bytes))) more ∙ ap (λ l. take m l) (drop-take k (n - k) bytes) ∙ take-take m (n - k) (drop k bytes) (omega (arith, h))

pub shown_part : (file window : List ℕ) (from size limit place need : ℕ) → WindowShows file window from size limit → from ≤ place → place - from + need ≤ size
    → take need (drop (place - from) window) ≡ take need (drop place file)
shown_part file window from size limit place need r before within =
    let at : ℕ = place - from in
    let same : from + at ≡ place = omega (arith, before) in
    sym (inside at need size window within)
    ∙ ap (λ l. take need (drop at l)) r.shows.bytes
    ∙ inside at need size (drop from file) within
    ∙ ap (λ l. take need l) (drop-drop at from file ∙ ap (λ n. drop n file) same)

pub shown_front : (file window : List ℕ) (from size limit need : ℕ) → WindowShows file window from size limit → need ≤ size
    → take need window ≡ take need (drop from file)
shown_front file window from size limit need r within =
    sym (take-take need size window within) ∙ ap (λ l. take need l) r.shows.bytes ∙ take-take need size (drop from file) within

-- a window that shows nothing
pub shows_nothing : (file window : List ℕ) (from size limit : ℕ) → size ≡ 0 → limit ≤ length file → WindowShows file window from size limit
shows_nothing file window from size limit none within = record {
  shows = record { bytes = ap (λ n. take n window) none ∙ sym (ap (λ n. take n (drop from file)) none); there = omega (arith, none) };
  within = within;
}
