-- The output files: each transaction's print behind the others, cut into files by the rotation size.
use Rattle.std.specs.Prelude.{◌≡◌, ℕ, ◌+◌, ◌<◌, ◌≤◌, nat_le, nat_lt, true, false, List, [], ◌∷◌, ◌++◌, length, codes, replicate, if◌then◌else◌, Option, Some, None}
use Rattle.std.specs.List.{flat_map}
use Rattle.std.specs.Fmt.{decimal}
use Rattle.cdc_base.specs.declared.rename.Rename.{Rename}
use Rattle.cdc_event.specs.declared.body.Body.TheVariants.{Format, Rotate}
use Rattle.cdc_event.specs.Event.{magic}
use Rattle.cdc_model.specs.declared.layout.Layout.{Layout}
use Rattle.cdc_model.specs.declared.node_log.NodeLog.{NodeLog}
use Rattle.cdc_model.specs.Records.{Transaction}
use Rattle.cdc_model.specs.Print.{digits, printed_event, printed_bytes, printed_length}
use Rattle.cdc_base.specs.Key.{first_key}
use Rattle.cdc_model.specs.Transaction.{settled_transactions, oversized_transaction}

-- the length of each type's post-header, types 1 to 38
unfoldable pub post_headers : List ℕ
post_headers = 56 ∷ 13 ∷ 0 ∷ 8 ∷ 0 ∷ 18 ∷ 0 ∷ 4 ∷ 4 ∷ 4 ∷ 4 ∷ 18 ∷ 0 ∷ 0 ∷ 95 ∷ 0 ∷ 4 ∷ 26 ∷ 8 ∷ 0 ∷ 0 ∷ 0 ∷ 8 ∷ 8 ∷ 8 ∷ 2 ∷ 0 ∷ 0 ∷ 0 ∷ 10 ∷ 10 ∷ 10 ∷ 42 ∷ 42 ∷ 0 ∷ 18 ∷ 52 ∷ 0 ∷ []

-- the 123 bytes that begin an output file: the magic and a format event
unfoldable pub file_head : List ℕ
file_head = magic ++ printed_event 4 0 (15, Format (codes "5.7.0-cdc" ++ replicate 41 0) 0 post_headers 0 0)

-- the name of an output file: its number in at least six digits
unfoldable pub file_name : ℕ → List ℕ
file_name number = codes "binlog." ++ (if nat_lt number 1000000 then digits 6 number else decimal number)

-- the event that closes a file at a place, and names the next file
unfoldable pub rotate_event : ℕ → ℕ → List ℕ
rotate_event at next_file = printed_event at 0 (4, Rotate 4 (file_name next_file))

-- output files: those that are closed, in order, and the bytes of the open one; no bytes where none is open
pub record Output : Type 0 where
  pub closed : List (List ℕ)
  pub current : List ℕ

-- nothing was written yet
abbrev pub no_output : Output
no_output = record { closed = []; current = [] }

-- the bytes of the file that the next transaction goes to, a new file's head where none is open
abbrev pub file_begun : List ℕ → List ℕ
file_begun [] = file_head
file_begun (byte ∷ bytes) = byte ∷ bytes

-- a file that a transaction has reached: closed with a ROTATE event where it has at least the rotation size
abbrev pub file_reached : ℕ → List (List ℕ) → List ℕ → Output
file_reached rotation closed file =
    if nat_le rotation (length file)
    then record { closed = closed ++ (file ++ rotate_event (length file) (length closed + 2)) ∷ []; current = [] }
    else record { closed = closed; current = file }

-- the output with one transaction more
abbrev pub output_with : List Rename → ℕ → Output → Transaction → Output
output_with rules rotation output txn =
    let file = file_begun output.current in
    file_reached rotation output.closed (file ++ printed_bytes rules txn (length file))

-- the output with more transactions
abbrev pub output_after : List Rename → ℕ → Output → List Transaction → Output
output_after rules rotation output [] = output
output_after rules rotation output (txn ∷ txns) = output_after rules rotation (output_with rules rotation output txn) txns

-- the files of an output
abbrev pub open_file : List ℕ → List (List ℕ)
open_file [] = []
open_file (byte ∷ bytes) = (byte ∷ bytes) ∷ []

-- an output's files: the closed ones, and the open one where there is one
abbrev pub files_in : Output → List (List ℕ)
files_in output = output.closed ++ open_file output.current

-- the output files of transactions
abbrev pub files_of : List Rename → ℕ → List Transaction → List (List ℕ)
files_of rules rotation txns = files_in (output_after rules rotation no_output txns)

-- where an output stands
abbrev pub last_closed : ℕ → List (List ℕ) → Layout
last_closed number [] = record { file = 0; length = 0; closed = false }
last_closed number (file ∷ []) = record { file = number; length = length file; closed = true }
last_closed number (file ∷ other ∷ files) = last_closed (number + 1) (other ∷ files)

-- where an output of closed files and an open one stands
abbrev pub layout_with : List (List ℕ) → List ℕ → Layout
layout_with closed [] = last_closed 1 closed
layout_with closed (byte ∷ bytes) = record { file = length closed + 1; length = length (byte ∷ bytes); closed = false }

-- where an output stands
abbrev pub layout_in : Output → Layout
layout_in output = layout_with output.closed output.current

-- where the output of these transactions stands
abbrev pub layout_of : List Rename → ℕ → List Transaction → Layout
layout_of rules rotation txns = layout_in (output_after rules rotation no_output txns)

-- the output files of all logs, read whole
abbrev pub expected_files : List Rename → ℕ → List NodeLog → List (List ℕ)
expected_files rules rotation logs = files_of rules rotation (settled_transactions rules 0 first_key logs)

-- ---- what the files are, in other words

-- prints one behind another, each at its place
abbrev pub prints_at : List Rename → ℕ → List Transaction → List ℕ
prints_at rules at [] = []
prints_at rules at (txn ∷ txns) = printed_bytes rules txn at ++ prints_at rules (at + printed_length rules txn) txns

-- a file with these transactions: its head, then their prints
abbrev pub file_with : List Rename → List Transaction → List ℕ
file_with rules txns = file_head ++ prints_at rules (length file_head) txns

-- a file that has the rotation size is closed by a ROTATE event that names the next one
abbrev pub closed_where_full : ℕ → ℕ → List ℕ → List ℕ
closed_where_full rotation number file =
    if nat_le rotation (length file) then file ++ rotate_event (length file) (number + 1) else file

-- output file `number` has these transactions: at least one; its head, then their prints, and ROTATE exactly
-- where it has the rotation size; before its last transaction it had not
pub record IsOutputFile (rules : List Rename) (rotation number : ℕ) (txns : List Transaction) (file : List ℕ) : Type 0 where
  pub some : 1 ≤ length txns
  pub bytes : file ≡ closed_where_full rotation number (file_with rules txns)
  pub not_before : (front back : List Transaction) → txns ≡ front ++ back → 1 ≤ length front → 1 ≤ length back
      → length (file_with rules front) < rotation

-- output files have these lists of transactions; all but the last have the rotation size
abbrev pub AreOutputFiles : List Rename → ℕ → ℕ → List (List Transaction) → List (List ℕ) → Type 0
AreOutputFiles rules rotation number [] [] = Unit {0}
AreOutputFiles rules rotation number [] (file ∷ files) = ⊥
AreOutputFiles rules rotation number (txns ∷ lists) [] = ⊥
AreOutputFiles rules rotation number (txns ∷ lists) (file ∷ files) =
    IsOutputFile rules rotation number txns file
    × (1 ≤ length lists → rotation ≤ length (file_with rules txns))
    × AreOutputFiles rules rotation (number + 1) lists files

-- law: the transactions, in order, are those of the output files one after another
pub record AreFilesOf (rules : List Rename) (rotation : ℕ) (txns : List Transaction) (files : List (List ℕ)) : Type 0 where
  pub lists : List (List Transaction)
  pub in_order : flat_map (λ (list : List Transaction). list) lists ≡ txns
  pub each : AreOutputFiles rules rotation 1 lists files

-- law: the output files have the transactions, in order, each whole
abbrev pub FilesAreWhole : Type 0
FilesAreWhole = (rules : List Rename) (rotation : ℕ) (txns : List Transaction)
    → AreFilesOf rules rotation txns (files_of rules rotation txns)

-- law: the files of some transactions and one more are one step of the output
abbrev pub OneMoreIsOneStep : Type 0
OneMoreIsOneStep = (rules : List Rename) (rotation : ℕ) (txns : List Transaction) (txn : Transaction)
    → output_after rules rotation no_output (txns ++ txn ∷ []) ≡ output_with rules rotation (output_after rules rotation no_output txns) txn

-- ---- one file, without rotation and renaming

-- the last place of the one file
abbrev pub last_place : ℕ
last_place = 4294967295

-- the prints that stand before the first one that would pass the last place
abbrev pub prints_within : ℕ → List Transaction → List ℕ
prints_within at [] = []
prints_within at (txn ∷ txns) =
    if nat_le (at + printed_length [] txn) last_place
    then printed_bytes [] txn at ++ prints_within (at + printed_length [] txn) txns
    else []

-- the transaction at which they end, where they end before the last
abbrev pub first_beyond : ℕ → List Transaction → Option Transaction
first_beyond at [] = None
first_beyond at (txn ∷ txns) =
    if nat_le (at + printed_length [] txn) last_place then first_beyond (at + printed_length [] txn) txns else Some txn

-- the one file of some transactions: nothing, or the head and their prints
abbrev pub one_file : List Transaction → List ℕ
one_file [] = []
one_file (txn ∷ txns) = file_head ++ prints_within (length file_head) (txn ∷ txns)

-- the one file of all logs, read whole
abbrev pub unrotated_file : List NodeLog → List ℕ
unrotated_file logs = one_file (settled_transactions [] 0 first_key logs)

-- the transaction that is too large for the one file, where there is one
abbrev pub some_or : Option Transaction → Option Transaction → Option Transaction
some_or (Some txn) other = Some txn
some_or None other = other

-- the transaction that ends the one file: the first that would pass its last place, or the oversized one
abbrev pub beyond_the_file : List NodeLog → Option Transaction
beyond_the_file logs = some_or (first_beyond (length file_head) (settled_transactions [] 0 first_key logs)) (oversized_transaction [] 0 first_key logs)
