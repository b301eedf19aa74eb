-- A transaction's events, by whether a branch has a statement and whether one has none.
use Rattle.std.proofs.Common.{◌≡◌, ℕ, ◌+◌, Bool, true, false, cond, ◌||◌, List, [], ◌∷◌, ◌++◌, Option, Some, None, is_some, is_none, map, codes, min, ◌-◌, ◌^◌, refl, ap, sym, subst, ◌∙◌, arith, append_assoc}
use Rattle.std.specs.List.{list_any, cons_option}
use Rattle.std.proofs.lemmas.List.Sums.{sum_by-cons, sum_by-append}
use Rattle.cdc_base.specs.declared.rename.Rename.{Rename}
use Rattle.cdc_model.specs.Records.{Row, CommittedBranch, Transaction}
use Rattle.cdc_model.specs.Print.{Statement, branch_statement, statements_of, without_statement, row_events, rows_behind, rows_print, events_of, printed_events, begin_event, mark_event, xid_event, row_length, statement_event, distinct, laid, printed_bytes}
use Rattle.cdc_writer.specs.Events.{events_length}
use Rattle.cdc_writer.specs.Statements.{all_statement_events}
use Rattle.cdc_writer.specs.Parts.{alone_events, marked_events, behind_events}
use Rattle.cdc_writer.proofs.Bodies.{query_size, xid_size}
use Rattle.cdc_writer.proofs.Laid.{laid_append}

-- whether a branch has a statement, and whether one has none
abbrev pub has_statement : List CommittedBranch → Bool
has_statement branches = list_any (λ branch. is_some (branch_statement branch.rows)) branches

abbrev pub has_rows : List CommittedBranch → Bool
has_rows branches = list_any (λ branch. is_none (branch_statement branch.rows)) branches

-- ---- no statement

no_statement_step : (o : Option Statement) (others : Bool) (rest : List Statement) → (is_some o || others) ≡ false → (others ≡ false → rest ≡ []) → cons_option o rest ≡ []
no_statement_step None others rest e h = h e
no_statement_step (Some s) others rest e h = absurd (cc)

no_statement : (branches : List CommittedBranch) → has_statement branches ≡ false → statements_of branches ≡ []
no_statement [] e = refl
no_statement (branch ∷ branches) e = no_statement_step (branch_statement branch.rows) (has_statement branches) (statements_of branches) e (no_statement branches)

all_left_step : (o : Option Statement) (others : Bool) (branch : CommittedBranch) (branches rest : List CommittedBranch) → (is_some o || others) ≡ false → (others ≡ false → rest ≡ branches) → cond (is_none o) (branch ∷ rest) rest ≡ branch ∷ branches
all_left_step None others branch branches rest e h = ap (λ more. branch ∷ more) (h e)
all_left_step (Some s) others branch branches rest e h = absurd (cc)

pub all_left : (branches : List CommittedBranch) → has_statement branches ≡ false → without_statement branches ≡ branches
all_left [] e = refl
all_left (branch ∷ branches) e = all_left_step (branch_statement branch.rows) (has_statement branches) branch branches (without_statement branches) e (all_left branches)

pub printed_alone : (rules : List Rename) (txn : Transaction) → has_statement txn.branches ≡ false → printed_events rules txn ≡ alone_events rules txn
printed_alone rules txn e =
    ap (events_of rules txn.number txn.key txn.branches) (no_statement txn.branches e)
    ∙ ap (λ branches. rows_print rules txn.number txn.key branches) (sym (all_left txn.branches e))

-- ---- some statement

-- the events behind a first statement
marked_step : (rules : List Rename) (txn : Transaction) (statements : List Statement) → (statements ≡ [] → ⊥) → events_of rules txn.number txn.key txn.branches statements ≡ (mark_event txn.key ∷ map statement_event (distinct statements)) ++ rows_behind rules txn.number (without_statement txn.branches)
marked_step rules txn [] some = absurd (some refl)
marked_step rules txn (statement ∷ statements) some = refl

some_statement_step : (o : Option Statement) (others : Bool) (rest : List Statement) → (is_some o || others) ≡ true → (others ≡ true → rest ≡ [] → ⊥) → cons_option o rest ≡ [] → ⊥
some_statement_step None others rest e h none = h e none
some_statement_step (Some s) others rest e h none = absurd (cc)

some_statements : (branches : List CommittedBranch) → has_statement branches ≡ true → statements_of branches ≡ [] → ⊥
some_statements [] e none = absurd (cc)
some_statements (branch ∷ branches) e none = some_statement_step (branch_statement branch.rows) (has_statement branches) (statements_of branches) e (some_statements branches) none

pub printed_marked : (rules : List Rename) (txn : Transaction) → has_statement txn.branches ≡ true → printed_events rules txn ≡ marked_events txn ++ rows_behind rules txn.number (without_statement txn.branches)
printed_marked rules txn e = marked_step rules txn (statements_of txn.branches) (some_statements txn.branches e)

-- ---- rows behind statements

no_rows_step : (o : Option Statement) (others : Bool) (branch : CommittedBranch) (rest : List CommittedBranch) → (is_none o || others) ≡ false → (others ≡ false → rest ≡ []) → cond (is_none o) (branch ∷ rest) rest ≡ []
no_rows_step None others branch rest e h = absurd (cc)
no_rows_step (Some s) others branch rest e h = h e

no_rows : (branches : List CommittedBranch) → has_rows branches ≡ false → without_statement branches ≡ []
no_rows [] e = refl
no_rows (branch ∷ branches) e = no_rows_step (branch_statement branch.rows) (has_rows branches) branch (without_statement branches) e (no_rows branches)

some_rows_step : (o : Option Statement) (others : Bool) (branch : CommittedBranch) (rest : List CommittedBranch) → (is_none o || others) ≡ true → (others ≡ true → rest ≡ [] → ⊥) → cond (is_none o) (branch ∷ rest) rest ≡ [] → ⊥
some_rows_step None others branch rest e h none = absurd (cc)
some_rows_step (Some s) others branch rest e h none = h e none

some_rows : (branches : List CommittedBranch) → has_rows branches ≡ true → without_statement branches ≡ [] → ⊥
some_rows [] e none = absurd (cc)
some_rows (branch ∷ branches) e none = some_rows_step (branch_statement branch.rows) (has_rows branches) branch (without_statement branches) e (some_rows branches) none

behind_step : (rules : List Rename) (number : ℕ) (branches : List CommittedBranch) → (branches ≡ [] → ⊥) → rows_behind rules number branches ≡ begin_event ∷ (row_events rules branches ++ (xid_event number ∷ []))
behind_step rules number [] some = absurd (some refl)
behind_step rules number (branch ∷ branches) some = refl

pub behind_some : (rules : List Rename) (txn : Transaction) → has_rows txn.branches ≡ true → rows_behind rules txn.number (without_statement txn.branches) ≡ behind_events rules txn
behind_some rules txn e = behind_step rules txn.number (without_statement txn.branches) (some_rows txn.branches e)

pub behind_none : (rules : List Rename) (txn : Transaction) → has_rows txn.branches ≡ false → rows_behind rules txn.number (without_statement txn.branches) ≡ []
behind_none rules txn e = ap (rows_behind rules txn.number) (no_rows txn.branches e)

-- ---- the parts' lengths

pub alone_size : (rules : List Rename) (txn : Transaction) → events_length (alone_events rules txn) ≡ 65 + events_length (row_events rules (without_statement txn.branches)) + row_length (mark_event txn.key)
alone_size rules txn =
    let rows = row_events rules (without_statement txn.branches) in
    let end : List Row = mark_event txn.key ∷ xid_event txn.number ∷ [] in
    omega (arith, sum_by-cons row_length begin_event (rows ++ end), sum_by-append row_length rows end, sum_by-cons row_length (mark_event txn.key) (xid_event txn.number ∷ []), query_size [] (codes "BEGIN"), xid_size txn.number)

pub behind_size : (rules : List Rename) (txn : Transaction) → events_length (behind_events rules txn) ≡ 65 + events_length (row_events rules (without_statement txn.branches))
behind_size rules txn =
    let rows = row_events rules (without_statement txn.branches) in
    let end : List Row = xid_event txn.number ∷ [] in
    omega (arith, sum_by-cons row_length begin_event (rows ++ end), sum_by-append row_length rows end, query_size [] (codes "BEGIN"), xid_size txn.number)

pub marked_parts : (txn : Transaction) → events_length (marked_events txn) ≡ row_length (mark_event txn.key) + events_length (all_statement_events txn.branches)
marked_parts txn = sum_by-cons row_length (mark_event txn.key) (all_statement_events txn.branches)

-- ---- what is counted, up to the greatest number

abbrev IsCount : ℕ → List Row → Type 0
IsCount n events = n ≡ min (events_length events) (2 ^ 64 - 1)

pub alone_counts : (rules : List Rename) (txn : Transaction) (n : ℕ) → has_statement txn.branches ≡ false → IsCount n (alone_events rules txn) → IsCount n (printed_events rules txn)
alone_counts rules txn n e count = subst (IsCount n) (sym (printed_alone rules txn e)) count

pub printed_parts : (rules : List Rename) (txn : Transaction) → has_statement txn.branches ≡ true → events_length (printed_events rules txn) ≡ events_length (marked_events txn) + events_length (rows_behind rules txn.number (without_statement txn.branches))
printed_parts rules txn e = ap events_length (printed_marked rules txn e) ∙ sum_by-append row_length (marked_events txn) (rows_behind rules txn.number (without_statement txn.branches))

pub both_counts : (rules : List Rename) (txn : Transaction) (n marked behind : ℕ) → has_statement txn.branches ≡ true → has_rows txn.branches ≡ true → IsCount marked (marked_events txn) → IsCount behind (behind_events rules txn) → n ≡ min (marked + behind) (2 ^ 64 - 1) → IsCount n (printed_events rules txn)
both_counts rules txn n marked behind e rows count more sum =
    let there : events_length (rows_behind rules txn.number (without_statement txn.branches)) ≡ events_length (behind_events rules txn) = ap events_length (behind_some rules txn rows) in
    omega (arith, printed_parts rules txn e, there, count, more, sum)

pub marked_counts : (rules : List Rename) (txn : Transaction) (n : ℕ) → has_statement txn.branches ≡ true → has_rows txn.branches ≡ false → IsCount n (marked_events txn) → IsCount n (printed_events rules txn)
marked_counts rules txn n e rows count =
    let none : events_length (rows_behind rules txn.number (without_statement txn.branches)) ≡ 0 = ap events_length (behind_none rules txn rows) in
    omega (arith, printed_parts rules txn e, none, count)

-- the mark and the statements, and the rows behind them
pub marked_laid : (rules : List Rename) (txn : Transaction) (before b1 b2 : List ℕ) (at p1 : ℕ) → has_statement txn.branches ≡ true
    → b1 ≡ before ++ laid at txn.seconds (marked_events txn) → p1 ≡ at + events_length (marked_events txn)
    → b2 ≡ b1 ++ laid p1 txn.seconds (rows_behind rules txn.number (without_statement txn.branches))
    → b2 ≡ before ++ printed_bytes rules txn at
marked_laid rules txn before b1 b2 at p1 some w1 e1 w2 =
    let rest = rows_behind rules txn.number (without_statement txn.branches) in
    let first = laid at txn.seconds (marked_events txn) in
    let parts : laid at txn.seconds (printed_events rules txn) ≡ first ++ laid (at + events_length (marked_events txn)) txn.seconds rest
    = ap (laid at txn.seconds) (printed_marked rules txn some) ∙ laid_append at txn.seconds (marked_events txn) rest in
    w2 ∙ (ap (λ b. b ++ laid p1 txn.seconds rest) w1
    ∙ (ap (λ p. (before ++ first) ++ laid p txn.seconds rest) e1
    ∙ (append_assoc before first (laid (at + events_length (marked_events txn)) txn.seconds rest)
    ∙ ap (λ bytes. before ++ bytes) (sym parts))))
