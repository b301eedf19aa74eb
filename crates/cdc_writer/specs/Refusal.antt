-- Why a transaction isn't printed.
use Rattle.std.specs.Prelude.{◌≡◌, ◌-◌, ◌^◌, ◌<◌, min, List}
use Rattle.cdc_base.specs.declared.rename.Rename.{Rename}
use Rattle.cdc_model.specs.Records.{Transaction}
use Rattle.cdc_model.specs.Print.{printed_length}
use Rattle.cdc_writer.specs.declared.printing.PrintError.{PrintError}
use Rattle.cdc_writer.specs.declared.printing.PrintError.TheVariants.{TooLarge, Memory as NoMemory}

-- the answer to a print that is too large: the transaction's number, and the print's length up to the greatest number
abbrev pub too_large : List Rename → Transaction → PrintError
too_large rules txn = TooLarge txn.number (min (printed_length rules txn) (2 ^ 64 - 1))

-- the print is longer than 2^28 bytes, or there was no memory
abbrev pub HasPrintCause : List Rename → Transaction → PrintError → Type 0
HasPrintCause rules txn (TooLarge number bytes) = (TooLarge number bytes ≡ too_large rules txn) × (2 ^ 28 < printed_length rules txn)
HasPrintCause rules txn NoMemory = Unit {0}
