-- Where one event leads: how far the unfinished item then has come, and the entry that the event ends.
use Rattle.std.specs.Prelude.{◌≡◌, ℕ, List, [], ◌∷◌, ◌++◌, Option, Some, None}
use Rattle.std.specs.Option.{option_map, option_to_list}
use Rattle.cdc_event.specs.declared.fault.FileFault.{FileFault}
use Rattle.cdc_model.specs.declared.entry.EntryKind.{EntryKind}
use Rattle.cdc_model.specs.declared.entry.EntryKind.TheVariants.{Prepare, OnePhase, Commit, Rollback, Plain, Beat}
use Rattle.cdc_model.specs.declared.fault.GroupFault.{GroupFault}
use Rattle.cdc_model.specs.declared.fault.NodeFault.TheVariants.{Group}
use Rattle.cdc_model.specs.Records.{Row, LogEntry}
use Rattle.cdc_model.specs.Sign.{Sign, SignedEvent, Gtid, Ddl, CommitTime, BeatTime, RowEvent, NumberEvent, PrepareEvent, BeginText, CommitText, RollbackText, XaStartText, XaEndText, XaCommitText, XaRollbackText}
use Rattle.cdc_model.specs.Group.{Content, TableRows, OneStatement, rows_of, Progress, Out, Wait, Xa, End, Local}
use Rattle.cdc_model.specs.Misfit.{misfit}
use Rattle.cdc_model.specs.Entries.{ReadsTo, AreEntriesOfEvents}

-- a group's content with a row more; a statement stays alone
abbrev pub with_row : Content → Row → Content
with_row (TableRows rows) row = TableRows (rows ++ row ∷ [])
with_row (OneStatement statement) row = OneStatement statement

-- how far the unfinished item has come behind an event that fits
abbrev pub advance : Progress → Sign → Progress
advance Out (CommitTime timestamp) = Wait timestamp
advance Out BeginText = Local []
advance Out (XaStartText xid) = Xa None xid (TableRows [])
advance Out _ = Out
advance (Wait timestamp) Gtid = Wait timestamp
advance (Wait timestamp) (XaStartText xid) = Xa (Some timestamp) xid (TableRows [])
advance (Wait timestamp) _ = Out
advance (Xa time xid content) (Ddl row) = Xa time xid (OneStatement row)
advance (Xa time xid content) (RowEvent row) = Xa time xid (with_row content row)
advance (Xa time xid content) (XaEndText other) = End time xid content
advance (Xa time xid content) _ = Xa time xid content
advance (End time xid content) (PrepareEvent one_phase other) = Out
advance (End time xid content) _ = End time xid content
advance (Local rows) (RowEvent row) = Local (rows ++ row ∷ [])
advance (Local rows) NumberEvent = Out
advance (Local rows) CommitText = Out
advance (Local rows) RollbackText = Out
advance (Local rows) _ = Local rows

-- a prepared branch with a commit timestamp before it is prepared and committed at once
abbrev pub prepared : Option ℕ → ℕ → EntryKind → EntryKind
prepared None seconds kind = kind
prepared (Some timestamp) seconds (Prepare xid rows) = OnePhase xid rows timestamp seconds
prepared (Some timestamp) seconds kind = kind

-- what the entry says that an event of these seconds ends, or nothing where it ends none
abbrev pub made : Progress → ℕ → Sign → Option EntryKind
made Out seconds (BeatTime timestamp) = Some (Beat timestamp)
made Out seconds (XaRollbackText xid) = Some (Rollback xid)
made Out seconds _ = None
made (Wait timestamp) seconds (XaCommitText xid) = Some (Commit xid timestamp seconds)
made (Wait timestamp) seconds _ = None
made (Xa time xid content) seconds sign = None
made (End time xid content) seconds (PrepareEvent one_phase other) = Some (prepared time seconds (Prepare xid (rows_of content)))
made (End time xid content) seconds _ = None
made (Local rows) seconds NumberEvent = Some (Plain rows seconds)
made (Local rows) seconds CommitText = Some (Plain rows seconds)
made (Local rows) seconds _ = None

-- an entry stands where its last event does
abbrev pub entry_at : ℕ → SignedEvent → EntryKind → LogEntry
entry_at file last kind = record {
  kind = kind;
  at = record { file = file; at = last.at };
  end = record { file = file; at = last.end };
  checksum = last.checksum;
}

-- the entry that an event ends, or none
abbrev pub entry_given : ℕ → Progress → SignedEvent → Option LogEntry
entry_given file progress event = option_map (entry_at file event) (made progress event.seconds event.sign)

-- ---- laws

-- law: before the first event nothing is read, and no item has begun
abbrev pub ReadingBegins : Type 0
ReadingBegins = (file : ℕ) → ReadsTo file [] [] Out

-- law: an event that fits goes on with the unfinished item or ends it: behind it the reading has come to where it leads, and has one
-- entry more where it ends one
abbrev pub OneEventMore : Type 0
OneEventMore = (file : ℕ) (events : List SignedEvent) (entries : List LogEntry) (progress : Progress) (next : SignedEvent)
    → ReadsTo file events entries progress → misfit progress next.sign ≡ None
    → ReadsTo file (events ++ next ∷ []) (entries ++ option_to_list (entry_given file progress next)) (advance progress next.sign)

-- law: an event that doesn't fit ends the entries of its file, whatever stands behind it, with the table's fault at its place
abbrev pub MisplacedEventEnds : Type 0
MisplacedEventEnds = (file : ℕ) (events behind : List SignedEvent) (entries : List LogEntry) (progress : Progress) (next : SignedEvent)
    (fault : GroupFault) (ended : Option (ℕ × FileFault))
    → ReadsTo file events entries progress → misfit progress next.sign ≡ Some fault
    → AreEntriesOfEvents file (events ++ next ∷ behind) ended entries (Some (record { file = file; at = next.at }, Group fault))
