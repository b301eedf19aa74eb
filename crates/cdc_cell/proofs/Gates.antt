-- What is left of a slot while its gate or what is behind it is written.
use Rattle.std.proofs.Common.{◌≡◌, ◌⊎◌, inl, inr, ℕ, ◌+◌, ◌-◌, ◌≤◌, ◌<◌, ◌^◌, nat_lt, true, false, ◌&&◌, List, [], ◌∷◌, ◌++◌, length, take, drop, slice_index, get_or, refl, sym, ◌∙◌, ap, subst, arith, length-append, append_assoc}
use Rattle.std.proofs.lemmas.Nat.{from_le_bytes-to_le_bytes_8}
use Rattle.std.proofs.lemmas.Bool.{cases_eq}
use Rattle.std.proofs.lemmas.Bool.Decides.{nat_tests}
use Rattle.std.proofs.lemmas.List.{take_at}
use Rattle.cdc_outside.specs.declared.disk_file.DiskFile.{DiskFile}
use Rattle.cdc_outside.specs.Disk.{Image, IsTorn, OneWrite, overwritten}
use Rattle.cdc_outside.proofs.Pending.{others_same}
use Rattle.cdc_cell.specs.Slot.{number_at, is_open, is_overrun, slot_number, slot_length, slot_payload, slot_head}
use Rattle.cdc_cell.specs.Record.{IsClosing, record_in}
use Rattle.cdc_cell.proofs.Heads.{is_shut_here, is_short_here, is_open_here}

-- a gate that stood open, or was never written
pub torn_gate : (old left : List ℕ) → (length old ≡ 0) ⊎ (slice_index old 0 ≡ 1) → IsTorn 0 1 old left → (left ≡ old) ⊎ (is_open left ≡ false)
torn_gate [] [] which torn = inl refl
torn_gate [] (y ∷ ys) which torn = inr (is_short_here (y ∷ ys) (omega (arith, torn.no_longer)))
torn_gate (x ∷ xs) [] which torn = absurd (omega (arith, torn.no_shorter))
torn_gate (x ∷ xs) (y ∷ ys) (inl none) torn = absurd (omega arith)
torn_gate (x ∷ xs) (y ∷ ys) (inr one) torn = elim (cases_eq y 1) [
  | inl is ↦ inl (let rest : ys ≡ xs = torn.rest in let same : y ≡ x = omega (arith, is, one) in λ i. same i ∷ rest i)
  | inr isnt ↦ inr (is_shut_here (y ∷ ys) isnt)
]

pub closing : (slot : DiskFile) (old left : Image) → (length (old slot) ≡ 0) ⊎ (slice_index (old slot) 0 ≡ 1) → OneWrite slot 0 1 old left → IsClosing slot old left
closing slot old left which one = record { others = one.others; own = torn_gate (old slot) (left slot) which one.torn }

pub closing_same : (slot : DiskFile) (old left : Image) → left ≡ old → IsClosing slot old left
closing_same slot old left same = subst (IsClosing slot old) (sym same) record { others = others_same slot old old (λ other isnt. refl); own = inl refl }

-- behind a shut gate
pub torn_behind : (count : ℕ) (old left : List ℕ) → 1 ≤ length old → (slice_index old 0 ≡ 1 → ⊥) → IsTorn 1 count old left → is_open left ≡ false
torn_behind count [] left there gate torn = absurd (omega arith)
torn_behind count (x ∷ xs) [] there gate torn = absurd (omega (arith, torn.no_shorter))
torn_behind count (x ∷ xs) (y ∷ ys) there gate torn =
    let same : y ≡ x = ap (λ (l : List ℕ). get_or l 0 0) torn.front in
    is_shut_here (y ∷ ys) (λ one. gate (sym same ∙ one))

-- a shut gate that is being opened
pub torn_open : (gate : ℕ) (rest left : List ℕ) → IsTorn 0 1 (gate ∷ rest) left → (left ≡ 1 ∷ rest) ⊎ (is_open left ≡ false)
torn_open gate rest [] torn = absurd (omega (arith, torn.no_shorter))
torn_open gate rest (y ∷ ys) torn = elim (cases_eq y 1) [
  | inl is ↦ inl (let same : ys ≡ rest = torn.rest in λ i. is i ∷ same i)
  | inr isnt ↦ inr (is_shut_here (y ∷ ys) isnt)
]

-- what a slot holds whose payload was written behind a shut gate
pub filled : (head payload : List ℕ) (old : List ℕ) → 1 ≤ length old → (rest : List ℕ) × (overwritten 1 (head ++ payload) old ≡ slice_index old 0 ∷ (head ++ (payload ++ rest)))
filled head payload [] there = absurd (omega arith)
filled head payload (x ∷ xs) there =
    let rest = drop (1 + length (head ++ payload)) (x ∷ xs) in
    (rest, ap (λ (l : List ℕ). x ∷ l) (append_assoc head payload rest))

length_head : (number size : ℕ) → length (slot_head number size) ≡ 16
unfolding slot_head
length_head number size = refl

first_number : (gate number size : ℕ) (rest : List ℕ) → number < 2 ^ 64 → number_at 1 (gate ∷ (slot_head number size ++ rest)) ≡ number
unfolding slot_head number_at
first_number gate number size rest lt = from_le_bytes-to_le_bytes_8 number lt

second_number : (gate number size : ℕ) (rest : List ℕ) → size < 2 ^ 64 → number_at 9 (gate ∷ (slot_head number size ++ rest)) ≡ size
unfolding slot_head number_at
second_number gate number size rest lt = from_le_bytes-to_le_bytes_8 size lt

payload_at : (gate number size : ℕ) (rest : List ℕ) → drop 17 (gate ∷ (slot_head number size ++ rest)) ≡ rest
unfolding slot_head
payload_at gate number size rest = refl

-- an open slot so written has the record
pub record Written (slot : DiskFile) (number : ℕ) (payload bytes : List ℕ) : Type 0 where
  pub opened : is_open bytes ≡ true
  pub whole : is_overrun bytes ≡ false
  pub number_is : slot_number bytes ≡ number
  pub kept : record_in slot bytes ≡ record { slot = slot; number = number; payload = payload }

pub written : (slot : DiskFile) (number : ℕ) (payload rest : List ℕ) → number < 2 ^ 64 → length payload < 2 ^ 64 → Written slot number payload (1 ∷ (slot_head number (length payload) ++ (payload ++ rest)))
written slot number payload rest lt fits =
    let bytes = 1 ∷ (slot_head number (length payload) ++ (payload ++ rest)) in
    let long : length bytes ≡ 17 + (length payload + length rest) = omega (arith, length-append (slot_head number (length payload)) (payload ++ rest), length-append payload rest, length_head number (length payload)) in
    let opened : is_open bytes ≡ true = is_open_here bytes (omega (arith, long)) refl in
    let size : slot_length bytes ≡ length payload = second_number 1 number (length payload) (payload ++ rest) fits in
    let first : slot_number bytes ≡ number = first_number 1 number (length payload) (payload ++ rest) lt in
    let there : nat_lt (length bytes - 17) (slot_length bytes) ≡ false = within (length bytes - 17) (slot_length bytes) (omega (arith, long, size)) in
    let told : slot_payload bytes ≡ payload =
    ap (λ n. take n (drop 17 bytes)) size ∙ ap (take (length payload)) (payload_at 1 number (length payload) (payload ++ rest)) ∙ take_at payload rest (length payload) refl in
    record {
      opened = opened;
      whole = ap (λ b. b && nat_lt (length bytes - 17) (slot_length bytes)) opened ∙ there;
      number_is = first;
      kept = λ i. record { slot = slot; number = first i; payload = told i };
    }
  where
    within : (left long : ℕ) → long ≤ left → nat_lt left long ≡ false
    within left long le = grind (arith, nat_tests)
