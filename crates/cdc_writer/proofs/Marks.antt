-- Decimal digits, and the length of a mark's text.
use Rattle.std.proofs.Common.{◌≡◌, ℕ, zero, suc, ◌+◌, ◌-◌, ◌*◌, ◌^◌, ◌/◌, ◌%◌, ◌<◌, ◌≤◌, List, [], ◌∷◌, ◌++◌, length, drop, set, refl, arith, length-append, append_assoc}
use Rattle.hex.proofs.HexLemmas.{length-encode_with}
use Rattle.cdc_base.specs.declared.key.Key.{Key}
use Rattle.cdc_base.specs.declared.key.Key.TheVariants.{Shared, Plain}
use Rattle.cdc_model.specs.Print.{digits, mark_text, mark_event, row_length}
use Rattle.cdc_event.specs.declared.body.Body.TheVariants.{RowsQuery}
use Rattle.cdc_event.specs.Event.{FitsBody}
use Rattle.cdc_writer.specs.Events.{IsPrintable}
use Rattle.cdc_writer.proofs.Bodies.{marked_size}

pub length-digits : (places number : ℕ) → length (digits places number) ≡ places
unfolding digits
length-digits zero number = refl
length-digits (suc places) number =
    let front : length (digits places (number / 10)) ≡ places = length-digits places (number / 10) in
    omega (arith, length-append (digits places (number / 10)) ((48 + number % 10) ∷ []))

-- a write at a place is what stands from there on
drop_set : (bytes : List ℕ) (at byte : ℕ) → at < length bytes → drop at (set bytes at byte) ≡ byte ∷ drop (suc at) bytes
drop_set [] at byte lt = absurd (omega arith)
drop_set (b ∷ bytes) zero byte lt = refl
drop_set (b ∷ bytes) (suc at) byte lt = drop_set bytes at byte (omega arith)

-- one digit more
pub digits_step : (places rest : ℕ) (out : List ℕ) → 0 < places → places ≤ length out → digits places rest ++ drop places out ≡ digits (places - 1) (rest / 10) ++ drop (places - 1) (set out (places - 1) (48 + rest % 10))
unfolding digits
digits_step zero rest out some within = absurd (omega arith)
digits_step (suc places) rest out some within =
    let e : suc places - 1 ≡ places = omega arith in
    let within' : places < length out = omega arith in
    rw (e, drop_set out places (48 + rest % 10) within') (append_assoc (digits places (rest / 10)) ((48 + rest % 10) ∷ []) (drop (suc places) out))

-- no digit is left
pub digits_none : (number : ℕ) (out : List ℕ) → digits 0 number ++ drop 0 out ≡ out
unfolding digits
digits_none number out = refl

pub shared_size : (timestamp : ℕ) (gtrid : List ℕ) → length (mark_text (Shared timestamp gtrid)) ≡ 29 + 2 * length gtrid
unfolding mark_text
shared_size timestamp gtrid =
    simp (length-append, length-digits, length-encode_with) (omega arith)

pub plain_size : (timestamp node entry : ℕ) → length (mark_text (Plain timestamp node entry)) ≡ 54
unfolding mark_text
plain_size timestamp node entry = simp (length-append, length-digits) (omega arith)

pub mark_size : (key : Key) → row_length (mark_event key) ≡ 20 + length (mark_text key)
mark_size key = omega (arith, marked_size (length (mark_text key)) (mark_text key))

size_fits : (size : ℕ) (text : List ℕ) → size < 256 → FitsBody (RowsQuery size text)
unfolding FitsBody
size_fits size text h = h

-- a mark may be printed where its text's length has a byte
pub mark_printable : (at : ℕ) (key : Key) → length (mark_text key) < 256 → at + row_length (mark_event key) < 2 ^ 32 → IsPrintable at (mark_event key)
mark_printable at key short room = record {
  fits = size_fits (length (mark_text key)) (mark_text key) short;
  kind = refl;
  most = omega (arith, mark_size key);
  room = room;
}

pub six_digits : (number : ℕ) → length (digits 6 number) ≡ 6
six_digits number = length-digits 6 number
