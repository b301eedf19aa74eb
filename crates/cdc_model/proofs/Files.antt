-- The output files: whole prints, in order, cut where a file has the rotation size.
use Rattle.std.proofs.Common.{◌≡◌, ℕ, ◌+◌, ◌≤◌, leb, Bool, true, false, if◌then◌else◌, List, [], ◌∷◌, ◌++◌, length, flat_map, append_assoc, append-nil, ap, sym, subst, refl, ◌∙◌, arith}
use Rattle.std.proofs.lemmas.Bool.{leb-true, leb-false, lt-leb}
use Rattle.std.proofs.lemmas.Grind.{flat_map-append}
use Rattle.cdc_base.specs.declared.rename.Rename.{Rename}
use Rattle.cdc_model.specs.Records.{Transaction}
use Rattle.cdc_model.specs.Print.{printed_bytes}
use Rattle.cdc_model.specs.Output.{Output, no_output, output_after, output_with, file_head, file_begun, file_reached, file_with, rotate_event, open_file, files_in, closed_where_full, IsOutputFile, AreOutputFiles, AreFilesOf, FilesAreWhole, OneMoreIsOneStep}
use Rattle.cdc_model.proofs.PrintLength.{file_more, file_begins}
use Rattle.cdc_model.proofs.ClosedFiles.{FillNone, AreClosedFiles, not_before_last, still_unfilled, fill_nothing, some_with, closed_more, all_closed, last_open}

-- ---- one step more

pub after_append : (rules : List Rename) (rotation : ℕ) (output : Output) (front back : List Transaction)
    → output_after rules rotation output (front ++ back) ≡ output_after rules rotation (output_after rules rotation output front) back
after_append rules rotation output [] back = refl
after_append rules rotation output (txn ∷ front) back = after_append rules rotation (output_with rules rotation output txn) front back

pub one_more_is_one_step : OneMoreIsOneStep
one_more_is_one_step rules rotation txns txn = after_append rules rotation no_output txns (txn ∷ [])

-- ---- an output and its transactions

-- the bytes of the open file, where it has transactions
abbrev begun_bytes : List Rename → List Transaction → List ℕ
begun_bytes rules [] = []
begun_bytes rules (txn ∷ txns) = file_with rules (txn ∷ txns)

-- an output stands for some transactions: lists of them are in its closed files, the others in its open file
pub record StandsFor (rules : List Rename) (rotation : ℕ) (txns : List Transaction) (output : Output) : Type 0 where
  pub lists : List (List Transaction)
  pub begun : List Transaction
  pub in_order : flat_map (λ (list : List Transaction). list) lists ++ begun ≡ txns
  pub full : AreClosedFiles rules rotation 1 lists output.closed
  pub bytes : output.current ≡ begun_bytes rules begun
  pub unfilled : FillNone rules rotation begun

-- ---- the bytes of the open file

pub begun_kept : (file : List ℕ) → 1 ≤ length file → file_begun file ≡ file
begun_kept [] some = absurd (omega arith)
begun_kept (byte ∷ bytes) some = refl

pub open_kept : (file : List ℕ) → 1 ≤ length file → open_file file ≡ file ∷ []
open_kept [] some = absurd (omega arith)
open_kept (byte ∷ bytes) some = refl

-- the next print goes behind those of the open file
pub begun_with : (rules : List Rename) (txns : List Transaction) → file_begun (begun_bytes rules txns) ≡ file_with rules txns
begun_with rules [] = sym (append-nil file_head)
begun_with rules (txn ∷ txns) = begun_kept (file_with rules (txn ∷ txns)) (file_begins rules (txn ∷ txns))

pub begun_more : (rules : List Rename) (txns : List Transaction) (txn : Transaction)
    → file_with rules (txns ++ txn ∷ []) ≡ begun_bytes rules (txns ++ txn ∷ [])
begun_more rules [] txn = refl
begun_more rules (first ∷ txns) txn = refl

pub printed_behind : (rules : List Rename) (txns : List Transaction) (txn : Transaction) (current : List ℕ) → current ≡ begun_bytes rules txns
    → file_begun current ++ printed_bytes rules txn (length (file_begun current)) ≡ file_with rules (txns ++ txn ∷ [])
printed_behind rules txns txn current is =
    ap (λ (file : List ℕ). file ++ printed_bytes rules txn (length file)) (ap file_begun is ∙ begun_with rules txns) ∙ sym (file_more rules txns txn)

-- ---- the next transaction

-- transactions of closed files, file by file
abbrev in_closed : List (List Transaction) → List Transaction
in_closed lists = flat_map (λ (list : List Transaction). list) lists

pub behind_begun : (lists : List (List Transaction)) (begun txns : List Transaction) (txn : Transaction) → in_closed lists ++ begun ≡ txns
    → in_closed lists ++ (begun ++ txn ∷ []) ≡ txns ++ txn ∷ []
behind_begun lists begun txns txn is =
    sym (append_assoc (in_closed lists) begun (txn ∷ [])) ∙ ap (λ (list : List Transaction). list ++ txn ∷ []) is

pub one_list_more : (lists : List (List Transaction)) (list : List Transaction) → in_closed (lists ++ list ∷ []) ≡ in_closed lists ++ list
one_list_more lists list =
    flat_map-append (λ (list : List Transaction). list) lists (list ∷ []) ∙ ap (λ (last : List Transaction). in_closed lists ++ last) (append-nil list)

pub rotated : (rotation number next : ℕ) (file : List ℕ) → leb rotation (length file) ≡ true → next ≡ number + 1
    → file ++ rotate_event (length file) next ≡ closed_where_full rotation number file
rotated rotation number next file full is =
    ap (λ (n : ℕ). file ++ rotate_event (length file) n) is
    ∙ sym (ap (λ (b : Bool). if b then file ++ rotate_event (length file) (number + 1) else file) full)

pub not_rotated : (rotation number : ℕ) (file : List ℕ) → leb rotation (length file) ≡ false → file ≡ closed_where_full rotation number file
not_rotated rotation number file unfilled =
    sym (ap (λ (b : Bool). if b then file ++ rotate_event (length file) (number + 1) else file) unfilled)

-- the output that a file reaches, by whether it has the rotation size
abbrev reached_by : Bool → List (List ℕ) → List ℕ → Output
reached_by full closed file =
    if full then record { closed = closed ++ (file ++ rotate_event (length file) (length closed + 2)) ∷ []; current = [] }
    else record { closed = closed; current = file }

pub stands_reached : (rules : List Rename) (rotation : ℕ) (txns : List Transaction) (txn : Transaction) (output : Output) (stands : StandsFor rules rotation txns output)
    (full : Bool) → leb rotation (length (file_with rules (stands.begun ++ txn ∷ []))) ≡ full
    → StandsFor rules rotation (txns ++ txn ∷ []) (reached_by full output.closed (file_with rules (stands.begun ++ txn ∷ [])))
stands_reached rules rotation txns txn output stands true is =
    let list : List Transaction = stands.begun ++ txn ∷ [] in
    let file : List ℕ = file_with rules list in
    let whole : IsOutputFile rules rotation (1 + length output.closed) list (file ++ rotate_event (length file) (length output.closed + 2)) = record {
      some = some_with stands.begun txn;
      bytes = rotated rotation (1 + length output.closed) (length output.closed + 2) file is (omega arith);
      not_before = not_before_last rules rotation stands.begun txn stands.unfilled;
    } in
    record {
      lists = stands.lists ++ list ∷ [];
      begun = [];
      in_order = append-nil (in_closed (stands.lists ++ list ∷ [])) ∙ one_list_more stands.lists list ∙ behind_begun stands.lists stands.begun txns txn stands.in_order;
      full = closed_more rules rotation 1 stands.lists output.closed list (file ++ rotate_event (length file) (length output.closed + 2)) stands.full whole (leb-true rotation (length file) is);
      bytes = refl;
      unfilled = fill_nothing rules rotation;
    }
stands_reached rules rotation txns txn output stands false is = record {
  lists = stands.lists;
  begun = stands.begun ++ txn ∷ [];
  in_order = behind_begun stands.lists stands.begun txns txn stands.in_order;
  full = stands.full;
  bytes = begun_more rules stands.begun txn;
  unfilled = still_unfilled rules rotation stands.begun txn stands.unfilled (leb-false rotation (length (file_with rules (stands.begun ++ txn ∷ []))) is);
}

pub stands_with : (rules : List Rename) (rotation : ℕ) (txns : List Transaction) (txn : Transaction) (output : Output)
    → StandsFor rules rotation txns output → StandsFor rules rotation (txns ++ txn ∷ []) (output_with rules rotation output txn)
stands_with rules rotation txns txn output stands =
    subst (λ (file : List ℕ). StandsFor rules rotation (txns ++ txn ∷ []) (file_reached rotation output.closed file))
    (sym (printed_behind rules stands.begun txn output.current stands.bytes))
    (stands_reached rules rotation txns txn output stands (leb rotation (length (file_with rules (stands.begun ++ txn ∷ [])))) refl)

pub stands_after : (rules : List Rename) (rotation : ℕ) (front : List Transaction) (output : Output) (txns : List Transaction)
    → StandsFor rules rotation front output → StandsFor rules rotation (front ++ txns) (output_after rules rotation output txns)
stands_after rules rotation front output [] stands =
    subst (λ (list : List Transaction). StandsFor rules rotation list output) (sym (append-nil front)) stands
stands_after rules rotation front output (txn ∷ txns) stands =
    let next : Output = output_with rules rotation output txn in
    subst (λ (list : List Transaction). StandsFor rules rotation list (output_after rules rotation next txns)) (append_assoc front (txn ∷ []) txns)
    (stands_after rules rotation (front ++ txn ∷ []) next txns (stands_with rules rotation front txn output stands))

-- ---- all files

pub open_output_file : (rules : List Rename) (rotation : ℕ) (txns : List Transaction) → 1 ≤ length txns → FillNone rules rotation txns
    → (number : ℕ) → IsOutputFile rules rotation number txns (file_with rules txns)
open_output_file rules rotation txns some unfilled number = record {
  some = some;
  bytes =
      not_rotated rotation number (file_with rules txns)
      (lt-leb rotation (length (file_with rules txns)) (unfilled txns [] (sym (append-nil txns)) some));
  not_before = λ front back is some more. unfilled front back is some;
}

pub files_of_begun : (rules : List Rename) (rotation : ℕ) (txns : List Transaction) (lists : List (List Transaction)) (begun : List Transaction) (closed : List (List ℕ))
    → in_closed lists ++ begun ≡ txns → AreClosedFiles rules rotation 1 lists closed → FillNone rules rotation begun
    → AreFilesOf rules rotation txns (closed ++ open_file (begun_bytes rules begun))
files_of_begun rules rotation txns lists [] closed is full unfilled = record {
  lists = lists;
  in_order = sym (append-nil (in_closed lists)) ∙ is;
  each = subst (AreOutputFiles rules rotation 1 lists) (sym (append-nil closed)) (all_closed rules rotation 1 lists closed full);
}
files_of_begun rules rotation txns lists (txn ∷ begun) closed is full unfilled = record {
  lists = lists ++ (txn ∷ begun) ∷ [];
  in_order = one_list_more lists (txn ∷ begun) ∙ is;
  each =
      subst (λ (last : List (List ℕ)). AreOutputFiles rules rotation 1 (lists ++ (txn ∷ begun) ∷ []) (closed ++ last))
      (sym (open_kept (file_with rules (txn ∷ begun)) (file_begins rules (txn ∷ begun))))
      (last_open rules rotation 1 lists closed (txn ∷ begun) (file_with rules (txn ∷ begun)) full (open_output_file rules rotation (txn ∷ begun) (omega arith) unfilled));
}

pub all_files : (rules : List Rename) (rotation : ℕ) (txns : List Transaction) (output : Output)
    → StandsFor rules rotation txns output → AreFilesOf rules rotation txns (files_in output)
all_files rules rotation txns output stands =
    subst (λ (current : List ℕ). AreFilesOf rules rotation txns (output.closed ++ open_file current)) (sym stands.bytes)
    (files_of_begun rules rotation txns stands.lists stands.begun output.closed stands.in_order stands.full stands.unfilled)

pub nothing_stands : (rules : List Rename) (rotation : ℕ) → StandsFor rules rotation [] no_output
nothing_stands rules rotation = record {
  lists = [];
  begun = [];
  in_order = refl;
  full = tt;
  bytes = refl;
  unfilled = fill_nothing rules rotation;
}

pub files_are_whole : FilesAreWhole
files_are_whole rules rotation txns =
    all_files rules rotation txns (output_after rules rotation no_output txns) (stands_after rules rotation [] no_output txns (nothing_stands rules rotation))
