-- How the one file is printed, transaction by transaction.
use Rattle.std.specs.Prelude.{◌≡◌, ℕ, ◌+◌, ◌-◌, ◌^◌, ◌<◌, ◌≤◌, ◌⊎◌, ◌++◌, min, Bool, true, false, List, [], ◌∷◌, length, Option, Some, None}
use Rattle.std.specs.List.{find, before_first}
use Rattle.std.specs.Option.{option_map}
use Rattle.cdc_model.specs.Records.{Transaction}
use Rattle.cdc_model.specs.Print.{printed_bytes, printed_length}
use Rattle.cdc_model.specs.Transaction.{is_oversized}
use Rattle.cdc_model.specs.Output.{file_head, last_place, prints_within, first_beyond, some_or}
use Rattle.cdc_print.specs.declared.printing.Beyond.{Beyond}
use Rattle.cdc_print.specs.declared.printing.Printing.{Printing}

-- of transactions in order those before the first that is oversized
abbrev pub fitting : List Transaction → List Transaction
fitting txns = before_first (is_oversized []) txns

-- of transactions in order the one before which their one file ends, where there is one
abbrev pub ends_file : List Transaction → Option Transaction
ends_file txns = some_or (first_beyond (length file_head) (fitting txns)) (find (is_oversized []) txns)

-- a transaction before which a file ends, as it is told: its number, and its print's length up to the greatest number
abbrev pub told_beyond : Transaction → Beyond
told_beyond txn = record { number = txn.number; bytes = min (printed_length [] txn) (2 ^ 64 - 1) }

-- the head, and the prints of transactions in order that the one file has room for
abbrev pub printed_file : List Transaction → List ℕ
printed_file txns = file_head ++ prints_within (length file_head) (fitting txns)

-- there is some transaction
abbrev pub has_some : List Transaction → Bool
has_some [] = false
has_some (txn ∷ txns) = true

-- bytes that wait, the place of the next print, whether the file has begun, and where it ends are those of these transactions in order
pub record ShowsFile (pieces : List ℕ) (at : ℕ) (begun : Bool) (beyond : Option Beyond) (txns : List Transaction) : Type 0 where
  pub bytes : pieces ≡ printed_file txns
  pub place : at ≡ length (printed_file txns)
  pub has_begun : begun ≡ has_some (fitting txns)
  pub ends : beyond ≡ option_map told_beyond (ends_file txns)

-- these transactions came in order, and are printed
pub record IsPrinted (printing : Printing) (txns : List Transaction) : Type 0 where
  pub counted : printing.count ≡ length txns
  pub few : printing.count ≤ 2 ^ 62
  pub shows : ShowsFile printing.pieces printing.at printing.begun printing.beyond txns

-- a transaction is printed behind the others
pub record PutsPrint (old new : Printing) (txn : Transaction) : Type 0 where
  pub fits : printed_length [] txn ≤ 2 ^ 28
  pub within : old.at + printed_length [] txn ≤ last_place
  pub pieces : new.pieces ≡ old.pieces ++ printed_bytes [] txn old.at
  pub at : new.at ≡ old.at + printed_length [] txn
  pub begun : new.begun ≡ true
  pub beyond : new.beyond ≡ None

-- a transaction that fits, and would pass the last place, ends the file
pub record PassesEnd (old new : Printing) (txn : Transaction) : Type 0 where
  pub fits : printed_length [] txn ≤ 2 ^ 28
  pub passes : last_place < old.at + printed_length [] txn
  pub pieces : new.pieces ≡ old.pieces
  pub at : new.at ≡ old.at
  pub begun : new.begun ≡ true
  pub beyond : new.beyond ≡ Some (told_beyond txn)

-- an oversized transaction ends the file
pub record IsOverlong (old new : Printing) (txn : Transaction) : Type 0 where
  pub large : 2 ^ 28 < printed_length [] txn
  pub pieces : new.pieces ≡ old.pieces
  pub at : new.at ≡ old.at
  pub begun : new.begun ≡ old.begun
  pub beyond : new.beyond ≡ Some (told_beyond txn)

-- what becomes of a printing whose file hasn't ended with a transaction more, but for the count
abbrev pub Puts : Printing → Printing → Transaction → Type 0
Puts old new txn = PutsPrint old new txn ⊎ PassesEnd old new txn ⊎ IsOverlong old new txn
