-- Rows as they are lent: what their bytes say by their type.
use Rattle.std.proofs.Common.{◌≡◌, ℕ, suc, ◌≤◌, ◌==◌, true, false, List, [], ◌∷◌, length, drop, Option, Some, None, refl, ap, sym, subst, ◌∙◌, arith}
use Rattle.std.specs.Option.{option_map}
use Rattle.std.proofs.lemmas.Bool.Decides.{nat_tests}
use Rattle.cdc_base.specs.declared.rename.Rename.{Rename}
use Rattle.cdc_event.specs.declared.body.Body.{Body}
use Rattle.cdc_event.specs.declared.body.Body.TheVariants.{Format, Query, Rotate, RowsQuery, TableMap, Rows, XaPrepare, Timestamp, Skipped}
use Rattle.cdc_event.specs.declared.body.Body.TheVariants.{Xid as XidEvent}
use Rattle.cdc_event.specs.declared.view.BodyView.{BodyView}
use Rattle.cdc_event.specs.Event.{body_bytes, has_kind}
use Rattle.cdc_event.specs.Reading.{HasKnownAlgorithm, body_at}
use Rattle.cdc_event.specs.Table.{renamed}
use Rattle.cdc_event.specs.View.{body_viewed}
use Rattle.cdc_event.proofs.Bodies.{is_kind, body_again}
use Rattle.cdc_model.specs.Row.{Row, IsRow}
use Rattle.cdc_model.specs.Print.{row_statement, statement_in, branch_statement}
use Rattle.cdc_writer.specs.Events.{renamed_rows}

no_test : false ≡ true → ⊥
no_test e = cc

-- a row's body stands under its type
stands : (row : Row) (kind : ℕ) → IsRow row → row.0 ≡ kind → has_kind row.1 kind ≡ true
stands row kind is at = subst (λ (n : ℕ). has_kind row.1 n ≡ true) at is.kind

-- ---- table maps

map_known : (body : Body) → has_kind body 19 ≡ true → HasKnownAlgorithm body
map_known (Format text created lengths checksum tail) typed = absurd (no_test typed)
map_known (Query thread seconds error status db text) typed = tt
map_known (Rotate position name) typed = tt
map_known (XidEvent number) typed = tt
map_known (RowsQuery size text) typed = tt
map_known (TableMap table flags db name rest) typed = tt
map_known (Rows bytes) typed = tt
map_known (XaPrepare one_phase xid) typed = tt
map_known (Timestamp class value) typed = tt
map_known (Skipped bytes) typed = tt

-- a table map's bytes are read as it
map_read : (row : Row) → IsRow row → row.0 ≡ 19 → body_at 19 (body_bytes row.1) ≡ Some row.1
map_read row is at =
    let typed = stands row 19 is at in
    body_again 19 (body_bytes row.1) row.1 record { fits = is.fits; typed = typed; algorithm = map_known row.1 typed; spelled = refl }

pub map_viewed : (row : Row) (bytes : List ℕ) (found : Option BodyView) (view : BodyView) → IsRow row → row.0 ≡ 19 → bytes ≡ body_bytes row.1
    → option_map body_viewed found ≡ body_at 19 bytes → found ≡ Some view → body_viewed view ≡ row.1
map_viewed row bytes found view is at spelled read some =
    let seen : Some (body_viewed view) ≡ Some row.1 =
    sym (ap (option_map body_viewed) some) ∙ read ∙ ap (body_at 19) spelled ∙ map_read row is at in
    cc

pub map_found : (row : Row) (bytes : List ℕ) (found : Option BodyView) → IsRow row → row.0 ≡ 19 → bytes ≡ body_bytes row.1
    → option_map body_viewed found ≡ body_at 19 bytes → found ≡ None → ⊥
map_found row bytes found is at spelled read none =
    let seen : ◌≡◌ {A = Option Body} None (Some row.1) =
    sym (ap (option_map body_viewed) none) ∙ read ∙ ap (body_at 19) spelled ∙ map_read row is at in
    cc

other_than_map : (kind : ℕ) → (kind == 19) ≡ true → (kind ≡ 19 → ⊥) → ⊥
other_than_map kind typed other = other (is_kind kind 19 typed)

-- what is no table map keeps its name
pub not_map : (rules : List Rename) (row : Row) → IsRow row → (row.0 ≡ 19 → ⊥) → (row.0, renamed rules row.1) ≡ row
not_map rules (kind, Format text created lengths checksum tail) is other = refl
not_map rules (kind, Query thread seconds error status db text) is other = refl
not_map rules (kind, Rotate position name) is other = refl
not_map rules (kind, XidEvent number) is other = refl
not_map rules (kind, RowsQuery size text) is other = refl
not_map rules (kind, TableMap table flags db name rest) is other = absurd (other_than_map kind is.kind other)
not_map rules (kind, Rows bytes) is other = refl
not_map rules (kind, XaPrepare one_phase xid) is other = refl
not_map rules (kind, Timestamp class value) is other = refl
not_map rules (kind, Skipped bytes) is other = refl

-- no rule renames
no_rule : (body : Body) → renamed [] body ≡ body
no_rule (Format text created lengths checksum tail) = refl
no_rule (Query thread seconds error status db text) = refl
no_rule (Rotate position name) = refl
no_rule (XidEvent number) = refl
no_rule (RowsQuery size text) = refl
no_rule (TableMap table flags db name rest) = refl
no_rule (Rows bytes) = refl
no_rule (XaPrepare one_phase xid) = refl
no_rule (Timestamp class value) = refl
no_rule (Skipped bytes) = refl

no_rules : (rows : List Row) → renamed_rows [] rows ≡ rows
no_rules [] = refl
no_rules (row ∷ rows) =
    ap (λ (r : Row). r ∷ renamed_rows [] rows) (ap (λ (body : Body). (row.0, body)) (no_rule row.1))
    ∙ ap (λ (list : List Row). row ∷ list) (no_rules rows)

none_here : (rules : List Rename) → (length rules == 0) ≡ true → rules ≡ []
none_here [] e = refl
none_here (rule ∷ rules) e = let some : suc (length rules) ≡ 0 = grind (arith, nat_tests, e) in absurd (omega arith)

pub rows_kept : (rules : List Rename) (rows : List Row) → (length rules == 0) ≡ true → renamed_rows rules rows ≡ rows
rows_kept rules rows e = ap (λ (list : List Rename). renamed_rows list rows) (none_here rules e) ∙ no_rules rows

-- ---- marked texts

-- the text of a row of type 29 stands behind one byte
marked_body : (body : Body) → has_kind body 29 ≡ true → (1 ≤ length (body_bytes body)) × (row_statement body ≡ statement_in (drop 1 (body_bytes body)))
unfolding body_bytes
marked_body (Format text created lengths checksum tail) typed = absurd (no_test typed)
marked_body (Query thread seconds error status db text) typed = absurd (no_test typed)
marked_body (Rotate position name) typed = absurd (no_test typed)
marked_body (XidEvent number) typed = absurd (no_test typed)
marked_body (RowsQuery size text) typed = (omega arith, refl)
marked_body (TableMap table flags db name rest) typed = absurd (no_test typed)
marked_body (Rows bytes) typed = absurd (no_test typed)
marked_body (XaPrepare one_phase xid) typed = absurd (no_test typed)
marked_body (Timestamp class value) typed = absurd (no_test typed)
marked_body (Skipped bytes) typed = absurd (no_test typed)

pub marked_some : (row : Row) → IsRow row → row.0 ≡ 29 → 1 ≤ length (body_bytes row.1)
marked_some row is at = (marked_body row.1 (stands row 29 is at)).0

pub marked_statement : (row : Row) → IsRow row → row.0 ≡ 29 → row_statement row.1 ≡ statement_in (drop 1 (body_bytes row.1))
marked_statement row is at = (marked_body row.1 (stands row 29 is at)).1

-- ---- a branch's one row

at_29 : (row : Row) → row.0 ≡ 29 → branch_statement (row ∷ []) ≡ row_statement row.1
at_29 row at = let test : (row.0 == 29) ≡ true = grind (arith, nat_tests, at) in rw test refl

pub one_marked : (rows rest : List Row) (row : Row) → rows ≡ row ∷ rest → length rows ≡ 1 → row.0 ≡ 29 → branch_statement rows ≡ row_statement row.1
one_marked rows [] row e one at = ap branch_statement e ∙ at_29 row at
one_marked rows (other ∷ rest) row e one at = absurd (omega (arith, ap length e))

not_29 : (row : Row) → (row.0 ≡ 29 → ⊥) → branch_statement (row ∷ []) ≡ None
not_29 row other = let test : (row.0 == 29) ≡ false = grind (arith, nat_tests, other) in rw test refl

pub one_other : (rows rest : List Row) (row : Row) → rows ≡ row ∷ rest → length rows ≡ 1 → (row.0 ≡ 29 → ⊥) → branch_statement rows ≡ None
one_other rows [] row e one other = ap branch_statement e ∙ not_29 row other
one_other rows (next ∷ rest) row e one other = absurd (omega (arith, ap length e))

pub not_one : (rows rest : List Row) (row : Row) → rows ≡ row ∷ rest → (length rows ≡ 1 → ⊥) → branch_statement rows ≡ None
not_one rows [] row e many = absurd (many (ap length e))
not_one rows (next ∷ rest) row e many = ap branch_statement e
