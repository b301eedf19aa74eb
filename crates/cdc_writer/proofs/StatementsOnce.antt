-- Statements of branches: how long they are, and each statement once.
use Rattle.std.proofs.Common.{◌≡◌, ℕ, suc, ◌+◌, ◌^◌, ◌<◌, ◌≤◌, Bool, true, false, cond, ◌&&◌, ◌||◌, not, nat_eq, nat_le, List, [], ◌∷◌, ◌++◌, length, take, drop, get_or, map, Option, Some, None, IfSome, refl, ap, sym, subst, ◌∙◌, arith, append_assoc, append-nil, length-drop, codes}
use Rattle.std.specs.List.{AllByRecursion, list_any, filter, cons_option, starts_with}
use Rattle.std.specs.Option.{option_map, option_and_then}
use Rattle.std.proofs.lemmas.List.{take_more}
use Rattle.std.proofs.lemmas.List.Elements.{filter-append, filter_map-append}
use Rattle.std.proofs.lemmas.Bool.Decides.{nat_tests}
use Rattle.cdc_event.specs.declared.body.Body.{Body}
use Rattle.cdc_event.specs.declared.body.Body.TheVariants.{Format, Query, Rotate, RowsQuery, TableMap, Rows, XaPrepare, Timestamp, Skipped}
use Rattle.cdc_event.specs.declared.body.Body.TheVariants.{Xid as XidEvent}
use Rattle.cdc_event.specs.Event.{body_bytes}
use Rattle.cdc_model.specs.Records.{Row, CommittedBranch}
use Rattle.cdc_model.specs.Kept.{IsRow}
use Rattle.cdc_model.specs.Print.{Statement, split_at_colons, well_formed, statement_in, row_statement, branch_statement, same_statement, distinct, statements_of, statement_event}
use Rattle.cdc_writer.specs.Statements.{is_statement, is_known, new_statement, statement_events, all_statement_events, IsShort}
use Rattle.cdc_writer.specs.Events.{events_length}
use Rattle.cdc_writer.proofs.Bodies.{marked_size, query_size}
use Rattle.cdc_writer.proofs.Laid.{item_first, none_left}

-- ---- how long a statement is

-- the bytes of a statement
abbrev size_of : Option Statement → ℕ
size_of None = 0
size_of (Some s) = length s.0 + length s.1

split_sizes : (here : Bool) (byte : ℕ) (rest : List ℕ) (split : Option Statement) → size_of split ≤ length rest → size_of (cond here (Some ([], drop 1 rest)) (option_map (λ (s : Statement). (byte ∷ s.0, s.1)) split)) ≤ suc (length rest)
split_sizes true byte rest split h = omega (arith, length-drop 1 rest)
split_sizes false byte rest None h = omega arith
split_sizes false byte rest (Some s) h = omega arith

split_size : (text : List ℕ) → size_of (split_at_colons text) ≤ length text
split_size [] = omega arith
split_size (byte ∷ rest) = split_sizes (starts_with nat_eq (byte ∷ rest) (58 ∷ 58 ∷ [])) byte rest (split_at_colons rest) (split_size rest)

-- a database of at most 64 bytes, and not more bytes than these
abbrev IsWithin : ℕ → Statement → Type 0
IsWithin n s = (length s.0 ≤ 64) × (length s.0 + length s.1 ≤ n)

checked_within : (a b : Bool) (n : ℕ) (s : Statement) → (a ≡ true → length s.0 ≤ 64) → length s.0 + length s.1 ≤ n → IfSome (cond (a && b) (Some s) None) (IsWithin n)
checked_within true true n s short h = (short refl, h)
checked_within true false n s short h = tt
checked_within false b n s short h = tt

short_database : (n : ℕ) → nat_le n 64 ≡ true → n ≤ 64
short_database n e = grind (arith, nat_tests)

split_within : (n : ℕ) (split : Option Statement) → size_of split ≤ n → IfSome (option_and_then well_formed split) (IsWithin n)
split_within n None h = tt
split_within n (Some s) h = checked_within (nat_le (length s.0) 64) (nat_le 1 (length s.1)) n s (short_database (length s.0)) h

marked_within : (marked : Bool) (text : List ℕ) → IfSome (cond marked (option_and_then well_formed (split_at_colons (drop 5 text))) None) (IsWithin (length text))
marked_within true text = split_within (length text) (split_at_colons (drop 5 text)) (omega (arith, split_size (drop 5 text), length-drop 5 text))
marked_within false text = tt

text_within : (text : List ℕ) → IfSome (statement_in text) (IsWithin (length text))
unfolding statement_in
text_within text = marked_within (starts_with nat_eq text (codes "DDL::")) text

within_more : (n m : ℕ) (o : Option Statement) → n ≤ m → IfSome o (IsWithin n) → IfSome o (IsWithin m)
within_more n m None le h = tt
within_more n m (Some s) le h = (h.0, omega (arith, h.1))

row_within : (body : Body) → IfSome (row_statement body) (IsWithin (length (body_bytes body)))
row_within (Format text created lengths checksum tail) = tt
row_within (Query thread seconds error status db text) = tt
row_within (Rotate position name) = tt
row_within (XidEvent number) = tt
row_within (RowsQuery size text) = within_more (length text) (length (body_bytes (RowsQuery size text))) (statement_in text) (omega (arith, marked_size size text)) (text_within text)
row_within (TableMap table flags db name rest) = tt
row_within (Rows bytes) = tt
row_within (XaPrepare one_phase xid) = tt
row_within (Timestamp class value) = tt
row_within (Skipped bytes) = tt

row_short : (marked : Bool) (n : ℕ) (o : Option Statement) → 19 + n ≤ 2 ^ 27 → IfSome o (IsWithin n) → IfSome (cond marked o None) IsShort
row_short true n None most h = tt
row_short true n (Some s) most h = record { database = h.0; most = omega (arith, h.1) }
row_short false n o most h = tt

-- the statement of a branch of kept rows may be printed
pub branch_short : (rows : List Row) → AllByRecursion IsRow rows → IfSome (branch_statement rows) IsShort
branch_short [] all = tt
branch_short (row ∷ []) all = row_short (nat_eq row.0 29) (length (body_bytes row.1)) (row_statement row.1) all.0.most (row_within row.1)
branch_short (row ∷ other ∷ rows) all = tt

pub short_of : (rows : List Row) → AllByRecursion IsRow rows → (s : Statement) → Some s ≡ branch_statement rows → IsShort s
short_of rows all s e = let P : Option Statement → Type 0 = λ o. IfSome o IsShort in subst P (sym e) (branch_short rows all)

-- ---- each statement once

last_new : (p : Statement → Bool) (a b : Bool) (s : Statement) → p s ≡ not a → filter p (cond b [] (s ∷ [])) ≡ cond (a || b) [] (s ∷ [])
last_new p true true s e = refl
last_new p true false s e = rw e refl
last_new p false true s e = refl
last_new p false false s e = rw e refl

-- a statement more is new where none before is the same
pub distinct_more : (statements : List Statement) (s : Statement) → distinct (statements ++ s ∷ []) ≡ distinct statements ++ cond (list_any (λ other. same_statement other s) statements) [] (s ∷ [])
distinct_more [] s = refl
distinct_more (x ∷ statements) s =
    let p = λ (other : Statement). not (same_statement x other) in
    let known = list_any (λ (other : Statement). same_statement other s) statements in
    ap (λ rest. x ∷ filter p rest) (distinct_more statements s)
    ∙ ap (λ rest. x ∷ rest) (filter-append p (distinct statements) (cond known [] (s ∷ [])) ∙ ap (λ last. filter p (distinct statements) ++ last) (last_new p (same_statement x s) known s refl))

known_step : (branch : Option Statement) (s : Statement) (branches : List CommittedBranch) → is_known branches s ≡ list_any (λ other. same_statement other s) (statements_of branches) → (is_statement s branch || is_known branches s) ≡ list_any (λ other. same_statement other s) (cons_option branch (statements_of branches))
known_step None s branches e = e
known_step (Some other) s branches e = ap (λ known. same_statement other s || known) e

-- a branch has the statement where it is among all statements
known_is : (branches : List CommittedBranch) (s : Statement) → is_known branches s ≡ list_any (λ other. same_statement other s) (statements_of branches)
known_is [] s = refl
known_is (branch ∷ branches) s = known_step (branch_statement branch.rows) s branches (known_is branches s)

new_step : (branch : Option Statement) (before : List CommittedBranch) → distinct (statements_of before ++ cons_option branch []) ≡ distinct (statements_of before) ++ new_statement before branch
new_step None before = rw (append-nil (statements_of before)) (sym (append-nil (distinct (statements_of before))))
new_step (Some s) before =
    distinct_more (statements_of before) s
    ∙ ap (λ known. distinct (statements_of before) ++ cond known [] (s ∷ [])) (sym (known_is before s))

-- the statements of one branch more
one_more : (before : List CommittedBranch) (branch : CommittedBranch) → distinct (statements_of (before ++ branch ∷ [])) ≡ distinct (statements_of before) ++ new_statement before (branch_statement branch.rows)
one_more before branch =
    ap distinct (filter_map-append (λ (b : CommittedBranch). branch_statement b.rows) before (branch ∷ []))
    ∙ new_step (branch_statement branch.rows) before

-- the new statements of branches behind others
pub left_statements : List CommittedBranch → List CommittedBranch → List Statement
left_statements before [] = []
left_statements before (branch ∷ rest) = new_statement before (branch_statement branch.rows) ++ left_statements (before ++ branch ∷ []) rest

split_statements : (before rest : List CommittedBranch) → distinct (statements_of (before ++ rest)) ≡ distinct (statements_of before) ++ left_statements before rest
unfolding left_statements
split_statements before [] = rw (append-nil before) (sym (append-nil (distinct (statements_of before))))
split_statements before (branch ∷ rest) =
    ap (λ all. distinct (statements_of all)) (sym (append_assoc before (branch ∷ []) rest))
    ∙ (split_statements (before ++ branch ∷ []) rest
    ∙ (ap (λ front. front ++ left_statements (before ++ branch ∷ []) rest) (one_more before branch)
    ∙ append_assoc (distinct (statements_of before)) (new_statement before (branch_statement branch.rows)) (left_statements (before ++ branch ∷ []) rest)))

-- the statements' events that are left behind a place
abbrev pub left_events : List CommittedBranch → ℕ → List Row
left_events branches i = map statement_event (left_statements (take i branches) (drop i branches))

pub left_start : (branches : List CommittedBranch) → all_statement_events branches ≡ left_events branches 0
left_start branches = ap (map statement_event) (split_statements [] branches)

map_append : (xs ys : List Statement) → map statement_event (xs ++ ys) ≡ map statement_event xs ++ map statement_event ys
map_append [] ys = refl
map_append (x ∷ xs) ys = ap (λ rest. statement_event x ∷ rest) (map_append xs ys)

pub left_first : (branches : List CommittedBranch) (i : ℕ) (branch : CommittedBranch) → i < length branches → branch ≡ get_or branches i branch → left_events branches i ≡ statement_events (take i branches) branch ++ left_events branches (i + 1)
unfolding left_statements
left_first branches i branch lt e =
    let more : take i branches ++ branch ∷ [] ≡ take (i + 1) branches = ap (λ item. take i branches ++ item ∷ []) e ∙ sym (take_more branches i branch lt) in
    ap (λ rest. map statement_event (left_statements (take i branches) rest)) (item_first branches i branch lt e)
    ∙ (map_append (new_statement (take i branches) (branch_statement branch.rows)) (left_statements (take i branches ++ branch ∷ []) (drop (i + 1) branches))
    ∙ ap (λ before. statement_events (take i branches) branch ++ map statement_event (left_statements before (drop (i + 1) branches))) more)

pub left_end : (branches : List CommittedBranch) (i : ℕ) → length branches ≤ i → left_events branches i ≡ []
unfolding left_statements
left_end branches i le = ap (λ rest. map statement_event (left_statements (take i branches) rest)) (none_left branches i le)

-- the length of a new statement's event
pub new_size : (before : List CommittedBranch) (branch : CommittedBranch) (s : Statement) → Some s ≡ branch_statement branch.rows → is_known before s ≡ false → events_length (statement_events before branch) ≡ 33 + length s.0 + length s.1
new_size before branch s e known =
    let P : Option Statement → Type 0 = λ o. events_length (map statement_event (new_statement before o)) ≡ 33 + length s.0 + length s.1 in
    subst P e (ap (λ b. events_length (map statement_event (cond b [] (s ∷ [])))) known ∙ omega (arith, query_size s.0 s.1))
