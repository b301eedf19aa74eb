-- A header's bytes are spelled again by what was read.
use Rattle.std.proofs.Common.{◌≡◌, ℕ, List, ◌∷◌, ◌++◌, length, drop, get_or, arith}
use Rattle.std.specs.List.{slice_range}
use Rattle.cdc_event.specs.Number.{low_first, number_of}
use Rattle.cdc_event.proofs.Numbers.{AreBytes}
use Rattle.cdc_event.proofs.Fields.{number_step, last_number, byte_step}

pub header_spelled : (bytes : List ℕ) → AreBytes bytes → length bytes ≡ 19 →
    low_first 4 (number_of (slice_range bytes 0 4)) ++ (get_or bytes 4 0 ∷ (low_first 4 (number_of (slice_range bytes 5 9)) ++ (low_first 4 (number_of (slice_range bytes 9 13)) ++ (low_first 4 (number_of (slice_range bytes 13 17)) ++ low_first 2 (number_of (slice_range bytes 17 19)))))) ≡ bytes
header_spelled bytes h e =
    let end : low_first 2 (number_of (slice_range bytes 17 19)) ≡ drop 17 bytes = last_number 2 bytes 17 h (omega arith) in
    number_step 4 bytes 0 h (omega arith) (byte_step bytes 4 (omega arith) (number_step 4 bytes 5 h (omega arith) (number_step 4 bytes 9 h (omega arith) (number_step 4 bytes 13 h (omega arith) end))))
