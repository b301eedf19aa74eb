-- The print of a transaction without rows is short.
use Rattle.std.proofs.Common.{◌≡◌, ◌≤◌, false, List, [], ◌∷◌, is_some, refl, ap, ◌∙◌, arith}
use Rattle.std.specs.List.{AllByRecursion}
use Rattle.cdc_base.specs.declared.rename.Rename.{Rename}
use Rattle.cdc_base.specs.declared.key.Key.{Key}
use Rattle.cdc_base.specs.declared.key.Key.TheVariants.{Shared, Plain}
use Rattle.cdc_model.specs.Records.{CommittedBranch, Transaction}
use Rattle.cdc_model.specs.Print.{row_events, without_statement, branch_statement, mark_event, row_length, printed_length}
use Rattle.cdc_writer.specs.Events.{events_length, renamed_rows}
use Rattle.cdc_writer.specs.Short.{HasNoRows, HasShortId}
use Rattle.cdc_writer.specs.Parts.{alone_events}
use Rattle.cdc_writer.proofs.Cases.{has_statement, all_left, printed_alone, alone_size}
use Rattle.cdc_writer.proofs.Marks.{mark_size, shared_size, plain_size}

nothing_stated : (branches : List CommittedBranch) → AllByRecursion HasNoRows branches → has_statement branches ≡ false
nothing_stated [] none = refl
nothing_stated (branch ∷ branches) none =
    let here : is_some (branch_statement branch.rows) ≡ false = ap (λ rows. is_some (branch_statement rows)) none.0 in
    rw (here, nothing_stated branches none.1) refl

nothing_left : (rules : List Rename) (branches : List CommittedBranch) → AllByRecursion HasNoRows branches → row_events rules branches ≡ []
nothing_left rules [] none = refl
nothing_left rules (branch ∷ branches) none =
    let here : renamed_rows rules branch.rows ≡ [] = ap (renamed_rows rules) none.0 in
    rw (here, nothing_left rules branches none.1) refl

short_mark : (key : Key) → HasShortId key → row_length (mark_event key) ≤ 177
short_mark (Shared timestamp gtrid) short = omega (arith, mark_size (Shared timestamp gtrid), shared_size timestamp gtrid)
short_mark (Plain timestamp node entry) short = omega (arith, mark_size (Plain timestamp node entry), plain_size timestamp node entry)

pub short_print : (rules : List Rename) (txn : Transaction) → AllByRecursion HasNoRows txn.branches → HasShortId txn.key → printed_length rules txn ≤ 242
short_print rules txn none short =
    let stated : has_statement txn.branches ≡ false = nothing_stated txn.branches none in
    let whole : printed_length rules txn ≡ events_length (alone_events rules txn) = ap events_length (printed_alone rules txn stated) in
    let rows : events_length (row_events rules (without_statement txn.branches)) ≡ 0
    = ap (λ branches. events_length (row_events rules branches)) (all_left txn.branches stated) ∙ ap events_length (nothing_left rules txn.branches none) in
    omega (arith, whole, rows, alone_size rules txn, short_mark txn.key short)
