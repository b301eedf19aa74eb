-- The rows of entries are those of tables, or one statement.
use Rattle.std.proofs.Common.{◌≡◌, inl, inr, ℕ, ◌+◌, Bool, true, false, IsTrue, cond, ◌&&◌, ◌||◌, ◌==◌, nat_eq, List, [], ◌∷◌, ◌++◌, map, Option, Some, None, ap, sym, subst, refl, ◌∙◌, arith}
use Rattle.std.specs.Prelude.{nat_le, codes}
use Rattle.std.specs.List.{AllByRecursion, flat_map, filter_map, cons_option, starts_with}
use Rattle.std.proofs.lemmas.Bool.Decides.{nat_tests}
use Rattle.std.proofs.lemmas.Bool.{eq-eqb}
use Rattle.cdc_base.specs.declared.place.Place.{Place}
use Rattle.cdc_base.specs.declared.xid.Xid.{Xid}
use Rattle.cdc_event.specs.declared.body.Body.{Body}
use Rattle.cdc_event.specs.declared.body.Body.TheVariants.{Format, Query, Rotate, RowsQuery, TableMap, Rows, XaPrepare, Timestamp, Skipped}
use Rattle.cdc_event.specs.declared.body.Body.TheVariants.{Xid as XidEvent}
use Rattle.cdc_event.specs.declared.fault.FileFault.{FileFault}
use Rattle.cdc_event.specs.Event.{has_kind}
use Rattle.cdc_event.specs.File.{PlacedEvent, AreEvents, AreFileEvents}
use Rattle.cdc_query.specs.declared.verb.Verb.{Verb}
use Rattle.cdc_query.specs.declared.verb.Verb.TheVariants.{Begin, Commit as CommitVerb, Rollback as RollbackVerb, Savepoint, XaStart, XaEnd, XaCommit, XaRollback, XaOther, Other}
use Rattle.cdc_query.specs.Words.{verb_of}
use Rattle.cdc_model.specs.declared.entry.EntryKind.{EntryKind}
use Rattle.cdc_model.specs.declared.entry.EntryKind.TheVariants.{Prepare, OnePhase, Commit, Rollback, Plain, Beat}
use Rattle.cdc_model.specs.declared.fault.NodeFault.{NodeFault}
use Rattle.cdc_model.specs.Records.{Row, LogEntry}
use Rattle.cdc_model.specs.Print.{Statement, statement_in, row_statement, branch_statement}
use Rattle.cdc_model.specs.Sign.{Sign, SignedEvent, signed, Gtid, Quiet, Ddl, Marked, CommitTime, BeatTime, NoTime, RowEvent, Foreign, is_ddl, sign_of_rows_query, sign_of_verb, sign_of_time, sign_of_skipped, sign_of_body, row_of}
use Rattle.cdc_model.specs.Group.{rows_in, Content, TableRows, OneStatement, rows_of, IsGroupBody, IsEndedXa, IsEntryOf, IsItem, ReadsItems}
use Rattle.cdc_model.specs.Entries.{AreEntriesOfEvents, AreFileEntries, AreEntriesFrom}
use Rattle.cdc_model.specs.GrammarRows.{is_table_body, IsTableRow, IsStatementRow, AreBranchRows, HasGrammarRows, RowsAreOfTablesOrOneStatement, ReadsStatements}

-- ---- signs

-- what the row of a sign is
abbrev HasGoodSign : Sign → Type 0
HasGoodSign (RowEvent row) = IsTableRow row
HasGoodSign (Ddl row) = (statement : Statement) × IsStatementRow row statement
HasGoodSign _ = Unit {0}

abbrev IsGood : SignedEvent → Type 0
IsGood event = HasGoodSign event.sign

pub either : (b : Bool) (one other : Sign) → HasGoodSign one → HasGoodSign other → HasGoodSign (cond b one other)
either true one other good fine = good
either false one other good fine = fine

pub verb_good : (verb : Verb) → HasGoodSign (sign_of_verb verb)
verb_good Begin = tt
verb_good CommitVerb = tt
verb_good RollbackVerb = tt
verb_good Savepoint = tt
verb_good (XaStart xid) = tt
verb_good (XaEnd xid) = tt
verb_good (XaCommit xid) = tt
verb_good (XaRollback xid) = tt
verb_good XaOther = tt
verb_good Other = tt

-- a marked text that is a statement spells one
pub spelled : (kind size : ℕ) (text : List ℕ) (found : Option Statement) → statement_in text ≡ found → is_ddl found ≡ true → kind ≡ 29
    → (statement : Statement) × IsStatementRow (kind, RowsQuery size text) statement
spelled kind size text None is test number = absurd (cc)
spelled kind size text (Some statement) is test number = (statement, record { kind = number; spelled = is; other = test })

pub marked_good : (kind size : ℕ) (text : List ℕ) (ddl : Bool) → is_ddl (statement_in text) ≡ ddl → kind ≡ 29
    → HasGoodSign (cond ddl (Ddl (kind, RowsQuery size text)) Marked)
marked_good kind size text true is number = spelled kind size text (statement_in text) refl is number
marked_good kind size text false is number = tt

pub rows_query_good : (kind size : ℕ) (text : List ℕ) → kind ≡ 29 → HasGoodSign (sign_of_rows_query kind size text)
rows_query_good kind size text number =
    either (starts_with nat_eq text (codes "DDL::")) (cond (is_ddl (statement_in text)) (Ddl (kind, RowsQuery size text)) Marked) Quiet
    (marked_good kind size text (is_ddl (statement_in text)) refl number) tt

pub time_good : (class value : ℕ) → HasGoodSign (sign_of_time class value)
time_good class value =
    either (nat_le 1 value && nat_le value 9223372036854775807)
    (cond (class == 1) (CommitTime value) (cond (class == 2) (BeatTime value) NoTime)) NoTime
    (either (class == 1) (CommitTime value) (cond (class == 2) (BeatTime value) NoTime) tt (either (class == 2) (BeatTime value) NoTime tt tt)) tt

pub skipped_good : (kind : ℕ) → HasGoodSign (sign_of_skipped kind)
skipped_good kind =
    either (kind == 18) Foreign (cond ((kind == 33) || (kind == 34)) Gtid Quiet) tt (either ((kind == 33) || (kind == 34)) Gtid Quiet tt tt)

pub is_number : (kind : ℕ) → IsTrue (kind == 29) → kind ≡ 29
is_number kind h = let e : nat_eq kind 29 ≡ true = h in grind (arith, nat_tests, e)

pub body_good : (kind : ℕ) (body : Body) → IsTrue (has_kind body kind) → HasGoodSign (sign_of_body kind body)
body_good kind (Format text created lengths checksum tail) h = tt
body_good kind (Query thread seconds error status db text) h = verb_good (verb_of text)
body_good kind (Rotate position name) h = tt
body_good kind (XidEvent number) h = tt
body_good kind (RowsQuery size text) h = rows_query_good kind size text (is_number kind h)
body_good kind (TableMap table flags db name rest) h = record { table = refl; kind = h }
body_good kind (Rows bytes) h = record { table = refl; kind = h }
body_good kind (XaPrepare one_phase xid) h = tt
body_good kind (Timestamp class value) h = time_good class value
body_good kind (Skipped bytes) h = skipped_good kind

-- ---- the events of a file

pub events_good : (first : Bool) (at checksum : ℕ) (bytes : List ℕ) (events : List PlacedEvent) (fault : Option (ℕ × FileFault))
    → AreEvents first at checksum bytes events fault → AllByRecursion IsGood (map signed events)
events_good first at checksum bytes [] fault are = tt
events_good first at checksum bytes (event ∷ events) fault (piece, rest, is, whole, place, end, setting, more) =
    (body_good event.event.header.kind event.event.body whole.spelled.fits.kind, events_good false event.end event.checksum rest events fault more)

pub none_good : (events : List PlacedEvent) → events ≡ [] → AllByRecursion IsGood (map signed events)
none_good events is = subst (λ (list : List PlacedEvent). AllByRecursion IsGood (map signed list)) (sym is) tt

pub file_good : (bytes : List ℕ) (events : List PlacedEvent) (fault : Option (ℕ × FileFault)) → AreFileEvents bytes events fault → AllByRecursion IsGood (map signed events)
file_good bytes events fault (inl (short, none, no_fault)) = none_good events none
file_good bytes events fault (inr (inl (long, other, none, faulty))) = none_good events none
file_good bytes events fault (inr (inr (rest, is, are))) = events_good true 4 0 rest events fault are

-- ---- parts of lists

pub all_front : {X : Type 0} (P : X → Type 0) (front back : List X) → AllByRecursion P (front ++ back) → AllByRecursion P front
all_front P [] back all = tt
all_front P (x ∷ front) back (here, all) = (here, all_front P front back all)

pub all_back : {X : Type 0} (P : X → Type 0) (front back : List X) → AllByRecursion P (front ++ back) → AllByRecursion P back
all_back P [] back all = all
all_back P (x ∷ front) back (here, all) = all_back P front back all

pub all_both : {X : Type 0} (P : X → Type 0) (front back : List X) → AllByRecursion P front → AllByRecursion P back → AllByRecursion P (front ++ back)
all_both P [] back all more = more
all_both P (x ∷ front) back (here, all) more = (here, all_both P front back all more)

pub all_as : {X : Type 0} (P : X → Type 0) (xs ys : List X) → xs ≡ ys → AllByRecursion P xs → AllByRecursion P ys
all_as P xs ys is all = subst (AllByRecursion P) is all

-- ---- the rows of an entry

pub row_good : (sign : Sign) (rows : List Row) → HasGoodSign sign → AllByRecursion IsTableRow rows → AllByRecursion IsTableRow (cons_option (row_of sign) rows)
row_good (RowEvent row) rows good all = (good, all)
row_good _ rows good all = all

pub rows_good : (events : List SignedEvent) → AllByRecursion IsGood events → AllByRecursion IsTableRow (rows_in events)
rows_good [] all = tt
rows_good (event ∷ events) (here, all) = row_good event.sign (rows_in events) here (rows_good events all)

pub content_good : (content : Content) (body : List SignedEvent) → IsGroupBody content body → AllByRecursion IsGood body → AreBranchRows (rows_of content)
content_good (TableRows rows) body (unmarked, are) all = inl (all_as IsTableRow (rows_in body) rows (sym are) (rows_good body all))
content_good (OneStatement row) body (before, after, statement, is, says, silent, quiet) all =
    let good : IsGood statement = (all_back IsGood before (statement ∷ after) (all_as IsGood body (before ++ statement ∷ after) is all)).0 in
    let ddl : HasGoodSign (Ddl row) = subst HasGoodSign says good in
    inr (row, ddl.0, refl, ddl.1)

pub ended_good : (xid : Xid) (content : Content) (events : List SignedEvent) → IsEndedXa xid content events → AllByRecursion IsGood events → AreBranchRows (rows_of content)
ended_good xid content events (begun, quiets, end, is, (start, body, whole, starts, holds), says, quiet) all =
    let front : AllByRecursion IsGood begun = all_front IsGood begun (end ∷ quiets) (all_as IsGood events (begun ++ end ∷ quiets) is all) in
    content_good content body holds (all_as IsGood begun (start ∷ body) whole front).1

pub entry_good : (kind : EntryKind) (front : List SignedEvent) (last : SignedEvent) → IsEntryOf kind front last → AllByRecursion IsGood front → HasGrammarRows kind
entry_good (Beat timestamp) front last is all = tt
entry_good (Commit xid timestamp seconds) front last is all = tt
entry_good (Rollback xid) front last is all = tt
entry_good (Plain rows seconds) front last ((begin, body, is, begins, inner, are), says, at) all =
    all_as IsTableRow (rows_in body) rows (sym are) (rows_good body (all_as IsGood front (begin ∷ body) is all).1)
entry_good (Prepare xid rows) front last (content, ended, says, are) all =
    subst AreBranchRows (sym are) (ended_good xid content front ended all)
entry_good (OnePhase xid rows timestamp seconds) front last (stamp, group, content, one_phase, is, stamped, ended, says, phase, are, at) all =
    subst AreBranchRows (sym are)
    (ended_good xid content group ended (all_back IsGood stamp group (all_as IsGood front (stamp ++ group) is all)))

-- ---- items, files and logs

abbrev HasRows : LogEntry → Type 0
HasRows entry = HasGrammarRows entry.kind

pub item_good : (file : ℕ) (events : List SignedEvent) (entry : Option LogEntry) (later : List LogEntry) → IsItem file (events, entry) → AllByRecursion IsGood events
    → AllByRecursion HasRows later → AllByRecursion HasRows (cons_option entry later)
item_good file events None later is all others = others
item_good file events (Some entry) later (front, last, is, makes, stands) all others =
    (entry_good entry.kind front last makes (all_front IsGood front (last ∷ []) (all_as IsGood events (front ++ last ∷ []) is all)), others)

pub items_good : (file : ℕ) (items : List (List SignedEvent × Option LogEntry)) → AllByRecursion (IsItem file) items
    → AllByRecursion IsGood (flat_map (λ (item : List SignedEvent × Option LogEntry). item.0) items)
    → AllByRecursion HasRows (filter_map (λ (item : List SignedEvent × Option LogEntry). item.1) items)
items_good file [] each all = tt
items_good file ((events, entry) ∷ items) (first, each) all =
    let rest = flat_map (λ (item : List SignedEvent × Option LogEntry). item.0) items in
    item_good file events entry (filter_map (λ (item : List SignedEvent × Option LogEntry). item.1) items) first (all_front IsGood events rest all)
    (items_good file items each (all_back IsGood events rest all))

pub reads_good : (file : ℕ) (events : List SignedEvent) (entries : List LogEntry) → ReadsItems file events entries → AllByRecursion IsGood events → AllByRecursion HasRows entries
reads_good file events entries reads all =
    all_as HasRows (filter_map (λ (item : List SignedEvent × Option LogEntry). item.1) reads.items) entries (sym reads.entries_in_order)
    (items_good file reads.items reads.each
    (all_as IsGood events (flat_map (λ (item : List SignedEvent × Option LogEntry). item.0) reads.items) reads.events_in_order all))

pub of_events_good : (file : ℕ) (events : List SignedEvent) (ended : Option (ℕ × FileFault)) (entries : List LogEntry) (fault : Option (Place × NodeFault))
    → AreEntriesOfEvents file events ended entries fault → AllByRecursion IsGood events → AllByRecursion HasRows entries
of_events_good file events ended entries fault (inl (progress, reads, is)) all =
    reads_good file reads.whole entries reads.reads
    (all_front IsGood reads.whole reads.part (all_as IsGood events (reads.whole ++ reads.part) reads.events_in_order all))
of_events_good file events ended entries fault (inr (misplaced, wrong, ceases, is)) all =
    let front : AllByRecursion IsGood ceases.front =
    all_front IsGood ceases.front (misplaced ∷ ceases.behind) (all_as IsGood events (ceases.front ++ misplaced ∷ ceases.behind) ceases.events_in_order all) in
    reads_good file ceases.reads.whole entries ceases.reads.reads
    (all_front IsGood ceases.reads.whole ceases.reads.part (all_as IsGood ceases.front (ceases.reads.whole ++ ceases.reads.part) ceases.reads.events_in_order front))

pub file_entries_good : (file : ℕ) (bytes : List ℕ) (entries : List LogEntry) (fault : Option (Place × NodeFault)) → AreFileEntries file bytes entries fault
    → AllByRecursion HasRows entries
file_entries_good file bytes entries fault (events, ended, read, are) =
    of_events_good file (map signed events) ended entries fault are (file_good bytes events ended read)

pub entries_good : (file : ℕ) (files : List (List ℕ)) (entries : List LogEntry) (fault : Option (Place × NodeFault)) → AreEntriesFrom file files entries fault
    → AllByRecursion HasRows entries
entries_good file [] entries fault (none, is) = all_as HasRows [] entries (sym none) tt
entries_good file (bytes ∷ files) entries fault (inl (not, are)) = file_entries_good file bytes entries fault are
entries_good file (bytes ∷ files) entries fault (inr (own, later, is, are, from)) =
    all_as HasRows (own ++ later) entries (sym is)
    (all_both HasRows own later (file_entries_good file bytes own None are) (entries_good (file + 1) files later fault from))

pub rows_are_of_tables_or_one_statement : RowsAreOfTablesOrOneStatement
rows_are_of_tables_or_one_statement files entries fault are = entries_good 1 files entries fault are

-- ---- statements

pub table_has_none : (body : Body) → is_table_body body ≡ true → row_statement body ≡ None
table_has_none (TableMap table flags db name rest) h = refl
table_has_none (Rows bytes) h = refl
table_has_none _ h = absurd (let e = h in cc)

pub either_none : (b : Bool) (found : Option Statement) → found ≡ None → cond b found None ≡ None
either_none true found is = is
either_none false found is = refl

pub tables_have_none : (rows : List Row) → AllByRecursion IsTableRow rows → branch_statement rows ≡ None
tables_have_none [] all = refl
tables_have_none (row ∷ []) (here, all) = either_none (row.0 == 29) (row_statement row.1) (table_has_none row.1 here.table)
tables_have_none (row ∷ other ∷ rows) all = refl

pub one_statement : (row : Row) (statement : Statement) → IsStatementRow row statement → branch_statement (row ∷ []) ≡ Some statement
one_statement row statement is =
    let test : nat_eq row.0 29 ≡ true = eq-eqb row.0 29 is.kind in
    ap (λ (b : Bool). cond b (row_statement row.1) None) test ∙ is.spelled

pub statements_are_read : ReadsStatements
statements_are_read = record { none = tables_have_none; one = one_statement }
