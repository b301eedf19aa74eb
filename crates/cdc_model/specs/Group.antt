-- The grammar of a node's log: which events in a row make an entry, or none.
use Rattle.std.specs.Prelude.{◌≡◌, ◌≢◌, ◌⊎◌, ℕ, Bool, true, List, [], ◌∷◌, ◌++◌, Option, Some, None}
use Rattle.std.specs.List.{AllByRecursion, flat_map, filter_map}
use Rattle.cdc_base.specs.declared.xid.Xid.{Xid}
use Rattle.cdc_model.specs.declared.entry.EntryKind.{EntryKind}
use Rattle.cdc_model.specs.declared.entry.EntryKind.TheVariants.{Prepare, OnePhase, Commit, Rollback, Plain, Beat}
use Rattle.cdc_model.specs.Records.{Row, LogEntry}
use Rattle.cdc_model.specs.Sign.{Sign, SignedEvent, CommitTime, BeatTime, Ddl, NumberEvent, PrepareEvent, BeginText, CommitText, RollbackText, XaStartText, XaEndText, XaCommitText, XaRollbackText, is_quiet, is_gtid, is_silent, is_inner, is_unmarked, is_passed, row_of}

-- an event has this sign
abbrev pub Says : SignedEvent → Sign → Type 0
Says signed sign = signed.sign ≡ sign

-- each of some events has a sign that passes a test
abbrev pub AllSigns : (Sign → Bool) → List SignedEvent → Type 0
AllSigns test events = AllByRecursion (λ (signed : SignedEvent). test (signed.sign) ≡ true) events

-- the rows among events
abbrev pub rows_in : List SignedEvent → List Row
rows_in events = filter_map (λ (signed : SignedEvent). row_of (signed.sign)) events

-- what an XA group holds: rows of tables, or one statement of the whole database
pub data Content : Type 0 where
  TableRows : List Row → Content
  OneStatement : Row → Content

-- a content's rows: a statement is one row
abbrev pub rows_of : Content → List Row
rows_of (TableRows rows) = rows
rows_of (OneStatement row) = row ∷ []

-- events inside an XA group: none marked, and the rows among them; or one statement among silent ones
abbrev pub IsGroupBody : Content → List SignedEvent → Type 0
IsGroupBody (TableRows rows) events = AllSigns is_unmarked events × (rows ≡ rows_in events)
IsGroupBody (OneStatement row) events =
    (before after : List SignedEvent) × (statement : SignedEvent) × (events ≡ before ++ statement ∷ after) × Says statement (Ddl row)
    × AllSigns is_silent before
    × AllSigns is_silent after

-- an XA group before its end
abbrev pub IsBegunXa : Xid → Content → List SignedEvent → Type 0
IsBegunXa xid content events =
    (start : SignedEvent) × (body : List SignedEvent) × (events ≡ start ∷ body) × Says start (XaStartText xid) × IsGroupBody content body

-- an XA group up to its prepare: its end, and quiet events
abbrev pub IsEndedXa : Xid → Content → List SignedEvent → Type 0
IsEndedXa xid content events =
    (begun quiets : List SignedEvent) × (end : SignedEvent) × (events ≡ begun ++ end ∷ quiets) × IsBegunXa xid content begun
    × Says end (XaEndText xid) × AllSigns is_quiet quiets

-- a local transaction before its end
abbrev pub IsBegunLocal : List Row → List SignedEvent → Type 0
IsBegunLocal rows events =
    (begin : SignedEvent) × (body : List SignedEvent) × (events ≡ begin ∷ body) × Says begin BeginText
    × AllSigns is_inner body × (rows ≡ rows_in body)

-- a commit timestamp and ids of transactions behind it
abbrev pub IsStamp : ℕ → List SignedEvent → Type 0
IsStamp timestamp events =
    (stamp : SignedEvent) × (gtids : List SignedEvent) × (events ≡ stamp ∷ gtids) × Says stamp (CommitTime timestamp)
    × AllSigns is_gtid gtids

-- the events of an entry, its last event apart
abbrev pub IsEntryOf : EntryKind → List SignedEvent → SignedEvent → Type 0
IsEntryOf (Beat timestamp) front last = (front ≡ []) × Says last (BeatTime timestamp)
IsEntryOf (Commit xid timestamp seconds) front last =
    IsStamp timestamp front × Says last (XaCommitText xid) × (seconds ≡ last.seconds)
IsEntryOf (Rollback xid) front last = (front ≡ []) × Says last (XaRollbackText xid)
IsEntryOf (Plain rows seconds) front last =
    IsBegunLocal rows front × (Says last NumberEvent ⊎ Says last CommitText) × (seconds ≡ last.seconds)
IsEntryOf (Prepare xid rows) front last =
    (content : Content) × IsEndedXa xid content front × Says last (PrepareEvent 0 xid) × (rows ≡ rows_of content)
IsEntryOf (OnePhase xid rows timestamp seconds) front last =
    (stamp group : List SignedEvent) × (content : Content) × (one_phase : ℕ) × (front ≡ stamp ++ group) × IsStamp timestamp stamp
    × IsEndedXa xid content group × Says last (PrepareEvent one_phase xid) × (one_phase ≢ 0) × (rows ≡ rows_of content)
    × (seconds ≡ last.seconds)

-- what gives no entry: one event that is passed over, or a local transaction that is rolled back
abbrev pub IsNoEntry : List SignedEvent → Type 0
IsNoEntry events =
    ((passed : SignedEvent) × (events ≡ passed ∷ []) × (is_passed passed.sign ≡ true))
    ⊎ ((front : List SignedEvent) × (last : SignedEvent) × (rows : List Row) × (events ≡ front ++ last ∷ [])
    × IsBegunLocal rows front × Says last RollbackText)

-- an entry stands where its last event does
pub record StandsAt (file : ℕ) (last : SignedEvent) (entry : LogEntry) : Type 0 where
  pub at : entry.at ≡ record { file = file; at = last.at }
  pub end : entry.end ≡ record { file = file; at = last.end }
  pub checksum : entry.checksum ≡ last.checksum

-- an item of a file: events, and the entry that they make, or none
abbrev pub IsItem : ℕ → List SignedEvent × Option LogEntry → Type 0
IsItem file (events, None) = IsNoEntry events
IsItem file (events, Some entry) =
    (front : List SignedEvent) × (last : SignedEvent) × (events ≡ front ++ last ∷ []) × IsEntryOf entry.kind front last × StandsAt file last entry

-- events that are whole items, and the entries that these make
pub record ReadsItems (file : ℕ) (events : List SignedEvent) (entries : List LogEntry) : Type 0 where
  pub items : List (List SignedEvent × Option LogEntry)
  pub each : AllByRecursion (IsItem file) items
  pub events_in_order : events ≡ flat_map (λ (item : List SignedEvent × Option LogEntry). item.0) items
  pub entries_in_order : entries ≡ filter_map (λ (item : List SignedEvent × Option LogEntry). item.1) items

-- events fit where whole items begin with them
pub record Fits (file : ℕ) (events : List SignedEvent) : Type 0 where
  pub more : List SignedEvent
  pub entries : List LogEntry
  pub reads : ReadsItems file (events ++ more) entries

-- ---- how far an unfinished item has come

-- how far an unfinished item has come
pub data Progress : Type 0 where
  -- no item has begun
  Out : Progress
  -- a commit timestamp waits for what it belongs to
  Wait : ℕ → Progress
  -- an XA group before its end, and the commit timestamp before it
  Xa : Option ℕ → Xid → Content → Progress
  -- an XA group behind its end
  End : Option ℕ → Xid → Content → Progress
  -- a local transaction
  Local : List Row → Progress

-- what may stand before a group
abbrev pub IsTimed : Option ℕ → List SignedEvent → Type 0
IsTimed None events = events ≡ []
IsTimed (Some timestamp) events = IsStamp timestamp events

-- the events of an unfinished item
abbrev pub Reaches : List SignedEvent → Progress → Type 0
Reaches events Out = events ≡ []
Reaches events (Wait timestamp) = IsStamp timestamp events
Reaches events (Xa time xid content) =
    (stamp group : List SignedEvent) × (events ≡ stamp ++ group) × IsTimed time stamp × IsBegunXa xid content group
Reaches events (End time xid content) =
    (stamp group : List SignedEvent) × (events ≡ stamp ++ group) × IsTimed time stamp × IsEndedXa xid content group
Reaches events (Local rows) = IsBegunLocal rows events
