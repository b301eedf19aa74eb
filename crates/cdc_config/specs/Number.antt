-- Numbers on the command line.
use Rattle.std.specs.Prelude.{ℕ, ◌^◌, ◌&&◌, nat_lt, nat_le, if◌then◌else◌, Bool, List, length, Option, Some, None}
use Rattle.std.specs.Char.{is_ascii_digit}
use Rattle.std.specs.List.{list_all}
use Rattle.std.specs.Str.Parse.{digits_value}

-- 1 to 20 decimal digits
abbrev pub is_numeral : List ℕ → Bool
is_numeral word = nat_lt 0 (length word) && nat_le (length word) 20 && list_all is_ascii_digit word

-- a number below 2 ^ 64
abbrev pub if_word_sized : ℕ → Option ℕ
if_word_sized number = if nat_lt number (2 ^ 64) then Some number else None

-- the number that a word names: 1 to 20 decimal digits of a value below 2 ^ 64
abbrev pub number_from : List ℕ → Option ℕ
number_from word = if is_numeral word then if_word_sized (digits_value 10 word) else None
