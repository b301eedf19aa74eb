-- One event more: it goes on with the unfinished item, or ends it.
use Rattle.std.proofs.Common.{◌≡◌, ◌≢◌, ◌==◌, ◌⊎◌, inl, inr, ℕ, Bool, true, false, List, [], ◌∷◌, ◌++◌, append_assoc, append-nil, Option, Some, None, ap, sym, subst, refl, ◌∙◌, if◌then◌else◌, arith}
use Rattle.std.proofs.lemmas.Bool.Decides.{nat_tests}
use Rattle.std.proofs.lemmas.List.Elements.{filter_map-append}
use Rattle.std.specs.List.{cons_option}
use Rattle.std.specs.Option.{option_map, option_to_list}
use Rattle.cdc_base.specs.declared.xid.Xid.{Xid}
use Rattle.cdc_model.specs.declared.fault.GroupFault.{GroupFault}
use Rattle.cdc_model.specs.declared.fault.GroupFault.TheVariants.{XidDiffers, NoTimestamp}
use Rattle.cdc_model.specs.Records.{Row, LogEntry}
use Rattle.cdc_base.specs.Xid.{same_xid}
use Rattle.cdc_model.specs.Sign.{Sign, SignedEvent, Gtid, Quiet, Ddl, Marked, CommitTime, BeatTime, RowEvent, NumberEvent, PrepareEvent, BeginText, CommitText, RollbackText, SavepointText, XaStartText, XaEndText, XaCommitText, XaRollbackText, OtherText, is_quiet, is_gtid, is_silent, is_inner, is_unmarked, is_passed, row_of}
use Rattle.cdc_model.specs.Group.{Says, AllSigns, rows_in, Content, TableRows, OneStatement, IsGroupBody, IsEndedXa, IsBegunLocal, IsStamp, IsNoEntry, IsItem, Progress, Out, Wait, Xa, End, Local, Reaches}
use Rattle.cdc_model.specs.Misfit.{misfit, misfit_phase, unless_same}
use Rattle.cdc_model.proofs.SameXid.{no_test, same_xid_is, xid_of}
use Rattle.cdc_model.specs.Advance.{advance, made, entry_at, entry_given, with_row}

-- ---- one element more

-- an event that fits where a branch is named names that branch
pub named_here : (same : Bool) (fault : Option GroupFault) → (if same then fault else Some XidDiffers) ≡ None → (same ≡ true) × (fault ≡ None)
named_here true fault e = (refl, e)
named_here false fault e = absurd (let h = e in cc)

pub all_more : (test : Sign → Bool) (events : List SignedEvent) (event : SignedEvent)
    → AllSigns test events → test event.sign ≡ true
    → AllSigns test (events ++ event ∷ [])
all_more test [] event all last = (last, tt)
all_more test (first ∷ events) event (here, all) last = (here, all_more test events event all last)

-- what is said of a sign is so of the event that has it
pub test_of : (test : Sign → Bool) (event : SignedEvent) (sign : Sign) → Says event sign → test sign ≡ true → test event.sign ≡ true
test_of test event sign says h = ap test says ∙ h

pub rows_more : (rows : List Row) (events : List SignedEvent) (event : SignedEvent) (sign : Sign) → rows ≡ rows_in events → Says event sign
    → rows ++ option_to_list (row_of sign) ≡ rows_in (events ++ event ∷ [])
rows_more rows events event sign are says =
    ap (λ (list : List Row). list ++ option_to_list (row_of sign)) are
    ∙ ap (λ (s : Sign). rows_in events ++ option_to_list (row_of s)) (sym says)
    ∙ ap (λ (list : List Row). rows_in events ++ list) (listed (row_of event.sign))
    ∙ sym (filter_map-append (λ (signed : SignedEvent). row_of signed.sign) events (event ∷ []))
  where
    listed : (row : Option Row) → option_to_list row ≡ cons_option row []
    listed None = refl
    listed (Some row) = refl

pub no_row_more : (rows : List Row) (events : List SignedEvent) (event : SignedEvent) (sign : Sign) → rows ≡ rows_in events → Says event sign
    → row_of sign ≡ None → rows ≡ rows_in (events ++ event ∷ [])
no_row_more rows events event sign are says none =
    sym (append-nil rows) ∙ ap (λ (row : Option Row). rows ++ option_to_list row) (sym none) ∙ rows_more rows events event sign are says

-- a list in two parts, the second of which grows
pub part_more : (events before after : List SignedEvent) (event : SignedEvent) → events ≡ before ++ after → events ++ event ∷ [] ≡ before ++ (after ++ event ∷ [])
part_more events before after event is = ap (λ (list : List SignedEvent). list ++ event ∷ []) is ∙ append_assoc before after (event ∷ [])

-- ---- what one event more comes to

-- the unfinished item and an event: unfinished still, and no entry; or an item
abbrev pub Goes : ℕ → List SignedEvent → SignedEvent → Progress → Option LogEntry → Type 0
Goes file part event next entry = (Reaches (part ++ event ∷ []) next × (entry ≡ None)) ⊎ ((next ≡ Out) × IsItem file (part ++ event ∷ [], entry))

-- where the event has this sign
abbrev GoesBy : ℕ → List SignedEvent → SignedEvent → Progress → Sign → Type 0
GoesBy file part event progress sign = Goes file part event (advance progress sign) (option_map (entry_at file event) (made progress event.seconds sign))

pub passed_over : (file : ℕ) (event : SignedEvent) (sign : Sign) → Says event sign → is_passed sign ≡ true → IsNoEntry (event ∷ [])
passed_over file event sign says h = inl (event, refl, test_of is_passed event sign says h)

pub outside_goes : (file : ℕ) (event : SignedEvent) (sign : Sign) → Says event sign → misfit Out sign ≡ None → GoesBy file [] event Out sign
outside_goes file event Gtid says h = inr (refl, passed_over file event Gtid says refl)
outside_goes file event Quiet says h = inr (refl, passed_over file event Quiet says refl)
outside_goes file event (Ddl row) says h = inr (refl, passed_over file event (Ddl row) says refl)
outside_goes file event Marked says h = inr (refl, passed_over file event Marked says refl)
outside_goes file event CommitText says h = inr (refl, passed_over file event CommitText says refl)
outside_goes file event RollbackText says h = inr (refl, passed_over file event RollbackText says refl)
outside_goes file event SavepointText says h = inr (refl, passed_over file event SavepointText says refl)
outside_goes file event OtherText says h = inr (refl, passed_over file event OtherText says refl)
outside_goes file event (CommitTime timestamp) says h = inl ((event, [], refl, says, tt), refl)
outside_goes file event (BeatTime timestamp) says h = inr (refl, ([], event, refl, (refl, says), record { at = refl; end = refl; checksum = refl }))
outside_goes file event BeginText says h = inl ((event, [], refl, says, tt, refl), refl)
outside_goes file event (XaStartText xid) says h = inl (([], event ∷ [], refl, refl, (event, [], refl, says, (tt, refl))), refl)
outside_goes file event (XaRollbackText xid) says h = inr (refl, ([], event, refl, (refl, says), record { at = refl; end = refl; checksum = refl }))
outside_goes file event _ says h = absurd (let e = h in cc)

pub waiting_goes : (file timestamp : ℕ) (part : List SignedEvent) (event : SignedEvent) (sign : Sign) → IsStamp timestamp part → Says event sign
    → misfit (Wait timestamp) sign ≡ None → GoesBy file part event (Wait timestamp) sign
waiting_goes file timestamp part event Gtid (stamp, gtids, is, first, all) says h =
    inl ((stamp, gtids ++ event ∷ [], ap (λ (list : List SignedEvent). list ++ event ∷ []) is, first, all_more is_gtid gtids event all (test_of is_gtid event Gtid says refl)), refl)
waiting_goes file timestamp part event (XaStartText xid) stamp says h = inl ((part, event ∷ [], refl, stamp, (event, [], refl, says, (tt, refl))), refl)
waiting_goes file timestamp part event (XaCommitText xid) stamp says h =
    inr (refl, (part, event, refl, (stamp, says, refl), record { at = refl; end = refl; checksum = refl }))
waiting_goes file timestamp part event _ stamp says h = absurd (let e = h in cc)

-- ---- inside an XA group

-- unmarked events without a row among them are silent
pub silent_of : (sign : Sign) → is_unmarked sign ≡ true → row_of sign ≡ None → is_silent sign ≡ true
silent_of Gtid h e = refl
silent_of Quiet h e = refl
silent_of SavepointText h e = refl
silent_of (RowEvent row) h e = absurd (let f = e in cc)
silent_of _ h e = absurd (no_test h)

pub no_rows_first : (first : Option Row) (rows : List Row) → [] ≡ cons_option first rows → (first ≡ None) × ([] ≡ rows)
no_rows_first None rows e = (refl, e)
no_rows_first (Some row) rows e = absurd (let f = e in cc)

pub all_silent : (events : List SignedEvent) → AllSigns is_unmarked events → [] ≡ rows_in events
    → AllSigns is_silent events
all_silent [] all none = tt
all_silent (event ∷ events) (first, all) none =
    let parts = no_rows_first (row_of event.sign) (rows_in events) none in
    (silent_of event.sign first parts.0, all_silent events all parts.1)

-- a group that goes on, before its end
pub xa_goes_on : (time : Option ℕ) (xid : Xid) (content : Content) (after : Content) (part : List SignedEvent) (event : SignedEvent) → Reaches part (Xa time xid content)
    → ((body : List SignedEvent) → IsGroupBody content body → IsGroupBody after (body ++ event ∷ [])) → Reaches (part ++ event ∷ []) (Xa time xid after)
xa_goes_on time xid content after part event (stamp, group, is, timed, (start, body, begins, first, holds)) more = (
  stamp,
  group ++ event ∷ [],
  part_more part stamp group event is,
  timed,
  (start, body ++ event ∷ [], ap (λ (list : List SignedEvent). list ++ event ∷ []) begins, first, more body holds),
)

pub silent_more : (content : Content) (body : List SignedEvent) (event : SignedEvent) (sign : Sign) → Says event sign → is_silent sign ≡ true → is_unmarked sign ≡ true
    → row_of sign ≡ None → IsGroupBody content body → IsGroupBody content (body ++ event ∷ [])
silent_more (TableRows rows) body event sign says silent unmarked none (all, are) =
    (all_more is_unmarked body event all (test_of is_unmarked event sign says unmarked), no_row_more rows body event sign are says none)
silent_more (OneStatement row) body event sign says silent unmarked none (before, after, statement, is, first, all, later) = (
  before,
  after ++ event ∷ [],
  statement,
  part_more body before (statement ∷ after) event is,
  first,
  all,
  all_more is_silent after event later (test_of is_silent event sign says silent),
)

pub row_more : (content : Content) (row : Row) (body : List SignedEvent) (event : SignedEvent) → Says event (RowEvent row)
    → misfit (Xa None (xid_of [] [] 0) content) (RowEvent row) ≡ None → IsGroupBody content body → IsGroupBody (with_row content row) (body ++ event ∷ [])
row_more (TableRows rows) row body event says h (all, are) =
    (all_more is_unmarked body event all (test_of is_unmarked event (RowEvent row) says refl), rows_more rows body event (RowEvent row) are says)
row_more (OneStatement statement) row body event says h holds = absurd (let e = h in cc)

pub statement_more : (content : Content) (row : Row) (body : List SignedEvent) (event : SignedEvent) → Says event (Ddl row)
    → misfit (Xa None (xid_of [] [] 0) content) (Ddl row) ≡ None → IsGroupBody content body → IsGroupBody (OneStatement row) (body ++ event ∷ [])
statement_more (TableRows []) row body event says h (all, are) = (body, [], event, refl, says, all_silent body all are, tt)
statement_more (TableRows (first ∷ rows)) row body event says h holds = absurd (let e = h in cc)
statement_more (OneStatement statement) row body event says h holds = absurd (let e = h in cc)

-- the end of a group names its branch
pub group_ends : (file : ℕ) (time : Option ℕ) (xid other : Xid) (content : Content) (part : List SignedEvent) (event : SignedEvent) → Reaches part (Xa time xid content)
    → Says event (XaEndText other) → unless_same xid other None ≡ None → Reaches (part ++ event ∷ []) (End time xid content)
group_ends file time xid other content part event (stamp, group, is, timed, begun) says h =
    let same : xid ≡ other = same_xid_is xid other (named_here (same_xid xid other) None h).0 in
    (stamp, group ++ event ∷ [], part_more part stamp group event is, timed, (group, [], event, refl, begun, says ∙ ap XaEndText (sym same), tt))

pub xa_goes : (file : ℕ) (time : Option ℕ) (xid : Xid) (content : Content) (part : List SignedEvent) (event : SignedEvent) (sign : Sign) → Reaches part (Xa time xid content)
    → Says event sign → misfit (Xa time xid content) sign ≡ None → GoesBy file part event (Xa time xid content) sign
xa_goes file time xid content part event Gtid reaches says h =
    inl (xa_goes_on time xid content content part event reaches (λ body. silent_more content body event Gtid says refl refl refl), refl)
xa_goes file time xid content part event Quiet reaches says h =
    inl (xa_goes_on time xid content content part event reaches (λ body. silent_more content body event Quiet says refl refl refl), refl)
xa_goes file time xid content part event SavepointText reaches says h =
    inl (xa_goes_on time xid content content part event reaches (λ body. silent_more content body event SavepointText says refl refl refl), refl)
xa_goes file time xid content part event (RowEvent row) reaches says h =
    inl (xa_goes_on time xid content (with_row content row) part event reaches (λ body. row_more content row body event says h), refl)
xa_goes file time xid content part event (Ddl row) reaches says h =
    inl (xa_goes_on time xid content (OneStatement row) part event reaches (λ body. statement_more content row body event says h), refl)
xa_goes file time xid content part event (XaEndText other) reaches says h = inl (group_ends file time xid other content part event reaches says h, refl)
xa_goes file time xid content part event _ reaches says h = absurd (let e = h in cc)

-- ---- behind the end of an XA group

pub ended_goes_on : (time : Option ℕ) (xid : Xid) (content : Content) (part : List SignedEvent) (event : SignedEvent) (sign : Sign) → Reaches part (End time xid content)
    → Says event sign → is_quiet sign ≡ true → Reaches (part ++ event ∷ []) (End time xid content)
ended_goes_on time xid content part event sign (stamp, group, is, timed, (begun, quiets, end, ends, begins, last, all)) says h = (
  stamp,
  group ++ event ∷ [],
  part_more part stamp group event is,
  timed,
  (begun, quiets ++ event ∷ [], end, part_more group begun (end ∷ quiets) event ends, begins, last, all_more is_quiet quiets event all (test_of is_quiet event sign says h)),
)

pub zero_phase : (one_phase : ℕ) → misfit_phase None one_phase ≡ None → one_phase ≡ 0
zero_phase one_phase h = by_test (one_phase == 0) refl h
  where
    by_test : (test : Bool) → (one_phase == 0) ≡ test → (if test then None else Some NoTimestamp) ≡ None → one_phase ≡ 0
    by_test true is e = grind (arith, nat_tests, is)
    by_test false is e = absurd (let f = e in cc)

pub other_phase : (timestamp one_phase : ℕ) → misfit_phase (Some timestamp) one_phase ≡ None → one_phase ≢ 0
other_phase timestamp one_phase h zero = absurd (let e : misfit_phase (Some timestamp) 0 ≡ None = subst (λ (n : ℕ). misfit_phase (Some timestamp) n ≡ None) zero h in cc)

pub prepare_goes : (file : ℕ) (time : Option ℕ) (xid other : Xid) (content : Content) (part : List SignedEvent) (event : SignedEvent) (one_phase : ℕ)
    → Reaches part (End time xid content) → Says event (PrepareEvent one_phase other) → unless_same xid other (misfit_phase time one_phase) ≡ None
    → GoesBy file part event (End time xid content) (PrepareEvent one_phase other)
prepare_goes file None xid other content part event one_phase (stamp, group, is, timed, ended) says h =
    let named = named_here (same_xid xid other) (misfit_phase None one_phase) h in
    let same : xid ≡ other = same_xid_is xid other named.0 in
    let whole : part ≡ group = is ∙ ap (λ (list : List SignedEvent). list ++ group) timed in
    let names : Says event (PrepareEvent 0 xid) = says ∙ ap (λ (n : ℕ). PrepareEvent n other) (zero_phase one_phase named.1) ∙ ap (PrepareEvent 0) (sym same) in
    inr (refl, (part, event, refl, (content, subst (IsEndedXa xid content) (sym whole) ended, names, refl), record { at = refl; end = refl; checksum = refl }))
prepare_goes file (Some timestamp) xid other content part event one_phase (stamp, group, is, timed, ended) says h =
    let named = named_here (same_xid xid other) (misfit_phase (Some timestamp) one_phase) h in
    let same : xid ≡ other = same_xid_is xid other named.0 in
    inr (
      refl,
      (
        part,
        event,
        refl,
        (stamp, group, content, one_phase, is, timed, ended, says ∙ ap (PrepareEvent one_phase) (sym same), other_phase timestamp one_phase named.1, refl, refl),
        record { at = refl; end = refl; checksum = refl },
      ),
    )

pub ended_goes : (file : ℕ) (time : Option ℕ) (xid : Xid) (content : Content) (part : List SignedEvent) (event : SignedEvent) (sign : Sign) → Reaches part (End time xid content)
    → Says event sign → misfit (End time xid content) sign ≡ None → GoesBy file part event (End time xid content) sign
ended_goes file time xid content part event Gtid reaches says h = inl (ended_goes_on time xid content part event Gtid reaches says refl, refl)
ended_goes file time xid content part event Quiet reaches says h = inl (ended_goes_on time xid content part event Quiet reaches says refl, refl)
ended_goes file time xid content part event (Ddl row) reaches says h = inl (ended_goes_on time xid content part event (Ddl row) reaches says refl, refl)
ended_goes file time xid content part event Marked reaches says h = inl (ended_goes_on time xid content part event Marked reaches says refl, refl)
ended_goes file time xid content part event (PrepareEvent one_phase other) reaches says h = prepare_goes file time xid other content part event one_phase reaches says h
ended_goes file time xid content part event _ reaches says h = absurd (let e = h in cc)

-- ---- inside a local transaction

pub local_goes_on : (rows more : List Row) (part : List SignedEvent) (event : SignedEvent) (sign : Sign) → IsBegunLocal rows part → Says event sign → is_inner sign ≡ true
    → more ≡ rows ++ option_to_list (row_of sign) → IsBegunLocal more (part ++ event ∷ [])
local_goes_on rows more part event sign (begin, body, is, first, all, are) says h grown = (
  begin,
  body ++ event ∷ [],
  ap (λ (list : List SignedEvent). list ++ event ∷ []) is,
  first,
  all_more is_inner body event all (test_of is_inner event sign says h),
  grown ∙ rows_more rows body event sign are says,
)

pub local_goes : (file : ℕ) (rows : List Row) (part : List SignedEvent) (event : SignedEvent) (sign : Sign) → IsBegunLocal rows part
    → Says event sign → misfit (Local rows) sign ≡ None → GoesBy file part event (Local rows) sign
local_goes file rows part event Gtid begun says h = inl (local_goes_on rows rows part event Gtid begun says refl (sym (append-nil rows)), refl)
local_goes file rows part event Quiet begun says h = inl (local_goes_on rows rows part event Quiet begun says refl (sym (append-nil rows)), refl)
local_goes file rows part event (Ddl row) begun says h = inl (local_goes_on rows rows part event (Ddl row) begun says refl (sym (append-nil rows)), refl)
local_goes file rows part event Marked begun says h = inl (local_goes_on rows rows part event Marked begun says refl (sym (append-nil rows)), refl)
local_goes file rows part event SavepointText begun says h = inl (local_goes_on rows rows part event SavepointText begun says refl (sym (append-nil rows)), refl)
local_goes file rows part event (RowEvent row) begun says h = inl (local_goes_on rows (rows ++ row ∷ []) part event (RowEvent row) begun says refl refl, refl)
local_goes file rows part event NumberEvent begun says h =
    inr (refl, (part, event, refl, (begun, inl says, refl), record { at = refl; end = refl; checksum = refl }))
local_goes file rows part event CommitText begun says h =
    inr (refl, (part, event, refl, (begun, inr says, refl), record { at = refl; end = refl; checksum = refl }))
local_goes file rows part event RollbackText begun says h = inr (refl, inr (part, event, rows, refl, begun, says))
local_goes file rows part event _ begun says h = absurd (let e = h in cc)

-- an event that fits behind an unfinished item goes on with it, or ends it
pub one_more : (file : ℕ) (progress : Progress) (part : List SignedEvent) (event : SignedEvent) → Reaches part progress → misfit progress event.sign ≡ None
    → Goes file part event (advance progress event.sign) (entry_given file progress event)
one_more file Out part event none h =
    subst (λ (list : List SignedEvent). GoesBy file list event Out event.sign) (sym none) (outside_goes file event event.sign refl h)
one_more file (Wait timestamp) part event stamp h = waiting_goes file timestamp part event event.sign stamp refl h
one_more file (Xa time xid content) part event reaches h = xa_goes file time xid content part event event.sign reaches refl h
one_more file (End time xid content) part event reaches h = ended_goes file time xid content part event event.sign reaches refl h
one_more file (Local rows) part event begun h = local_goes file rows part event event.sign begun refl h
