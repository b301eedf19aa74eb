-- The first two colons of a text.
use Rattle.std.proofs.Common.{◌≡◌, ℕ, ◌+◌, ◌-◌, ◌<◌, true, false, List, [], ◌∷◌, ◌++◌, length, take, drop, get_or, nat_eq, Option, Some, None, refl, ap, sym, ◌∙◌, append_assoc, append-nil, add-one, length-drop}
use Rattle.std.specs.List.{starts_with}
use Rattle.std.specs.Option.{option_map}
use Rattle.std.proofs.lemmas.List.{take_more}
use Rattle.std.proofs.Math.Seq.{drop-cons, drop-length, take-length}
use Rattle.cdc_model.specs.Print.{Statement, split_at_colons}

-- a text split behind what was passed
abbrev pub behind : List ℕ → Option Statement → Option Statement
behind passed split = option_map (λ (s : Statement). (passed ++ s.0, s.1)) split

pub behind_none : (split : Option Statement) → behind [] split ≡ split
behind_none None = refl
behind_none (Some s) = refl

pub behind_more : (passed : List ℕ) (byte : ℕ) (split : Option Statement) → behind passed (option_map (λ (s : Statement). (byte ∷ s.0, s.1)) split) ≡ behind (passed ++ byte ∷ []) split
behind_more passed byte None = refl
behind_more passed byte (Some s) = let front : (passed ++ byte ∷ []) ++ s.0 ≡ passed ++ (byte ∷ s.0) = append_assoc passed (byte ∷ []) s.0 in rw front refl

pub found : (tail : List ℕ) → starts_with nat_eq tail (58 ∷ 58 ∷ []) ≡ true → split_at_colons tail ≡ Some ([], drop 2 tail)
found [] e = absurd (cc)
found (byte ∷ rest) e = rw e refl

pub past : (byte : ℕ) (rest : List ℕ) → starts_with nat_eq (byte ∷ rest) (58 ∷ 58 ∷ []) ≡ false → split_at_colons (byte ∷ rest) ≡ option_map (λ (s : Statement). (byte ∷ s.0, s.1)) (split_at_colons rest)
past byte rest e = rw e refl

pub split_start : (text : List ℕ) → behind (take 0 text) (split_at_colons (drop 0 text)) ≡ split_at_colons text
split_start text = behind_none (split_at_colons text)

pub split_step : (text : List ℕ) (at : ℕ) → at < length text → starts_with nat_eq (drop at text) (58 ∷ 58 ∷ []) ≡ false → behind (take at text) (split_at_colons (drop at text)) ≡ behind (take (at + 1) text) (split_at_colons (drop (at + 1) text))
split_step text at lt e =
    let cons : drop at text ≡ get_or text at 0 ∷ drop (at + 1) text = rw add-one (drop-cons text at 0 lt) in
    let not_here = rw cons at e in
    let more : take (at + 1) text ≡ take at text ++ get_or text at 0 ∷ [] = take_more text at 0 lt in
    rw (cons, more, past (get_or text at 0) (drop (at + 1) text) not_here) (behind_more (take at text) (get_or text at 0) (split_at_colons (drop (at + 1) text)))

pub split_here : (text : List ℕ) (at : ℕ) → starts_with nat_eq (drop at text) (58 ∷ 58 ∷ []) ≡ true → behind (take at text) (split_at_colons (drop at text)) ≡ Some (take at text, drop 2 (drop at text))
split_here text at e = rw (found (drop at text) e, append-nil (take at text)) refl

pub split_end : (text : List ℕ) → behind (take (length text) text) (split_at_colons (drop (length text) text)) ≡ None
split_end text = rw (drop-length text) refl

-- the rest of a text, cut out
pub rest_whole : (text : List ℕ) (at : ℕ) → take (length text - at) (drop at text) ≡ drop at text
rest_whole text at = ap (λ n. take n (drop at text)) (sym (length-drop at text)) ∙ take-length (drop at text)
