-- A run over an unfinished item comes as far as it has, and a run over whole items gives their entries.
use Rattle.std.proofs.Common.{◌≡◌, ◌≢◌, ◌==◌, inl, inr, ℕ, Bool, true, false, List, [], ◌∷◌, ◌++◌, append-nil, Option, Some, None, ap, sym, subst, refl, ◌∙◌, if◌then◌else◌, arith}
use Rattle.std.specs.List.{AllByRecursion, flat_map, filter_map}
use Rattle.std.specs.Option.{option_to_list}
use Rattle.std.proofs.lemmas.Bool.Decides.{nat_tests}
use Rattle.cdc_base.specs.declared.place.Place.{Place}
use Rattle.cdc_base.specs.declared.xid.Xid.{Xid}
use Rattle.cdc_model.specs.declared.entry.EntryKind.{EntryKind}
use Rattle.cdc_model.specs.declared.entry.EntryKind.TheVariants.{Prepare, OnePhase, Commit, Rollback, Plain, Beat}
use Rattle.cdc_model.specs.declared.fault.GroupFault.{GroupFault}
use Rattle.cdc_model.specs.declared.fault.GroupFault.TheVariants.{XidDiffers}
use Rattle.cdc_model.specs.Records.{Row, LogEntry}
use Rattle.cdc_model.specs.Sign.{Sign, SignedEvent, Gtid, Quiet, Ddl, Marked, CommitTime, BeatTime, RowEvent, NumberEvent, PrepareEvent, BeginText, CommitText, RollbackText, SavepointText, XaStartText, XaEndText, XaCommitText, XaRollbackText, OtherText, is_quiet, is_gtid, is_silent, is_inner, is_unmarked, is_passed, row_of}
use Rattle.cdc_model.specs.Group.{Says, Content, TableRows, OneStatement, rows_of, IsGroupBody, IsBegunXa, IsEndedXa, IsBegunLocal, IsStamp, IsEntryOf, StandsAt, IsItem, ReadsItems, Progress, Out, Wait, Xa, End, Local, IsTimed, Reaches}
use Rattle.cdc_model.specs.Misfit.{unless_same, misfit_phase}
use Rattle.cdc_model.proofs.OpenBranches.{same_xid_laws}
use Rattle.cdc_model.proofs.SameXid.{no_test}
use Rattle.cdc_model.specs.Advance.{entry_at, prepared}
use Rattle.cdc_model.proofs.GroupMachine.{Ending, Reached, outcome}
use Rattle.cdc_model.proofs.GroupRuns.{Leads, Passes, passes_on, runs_then, ends_entry, all_pass, rows_pass, outcome_append, joined, cons_option_list}

-- ---- signs that lead nowhere

pub gtid_leads : (timestamp seconds : ℕ) (sign : Sign) → is_gtid sign ≡ true → Leads (Wait timestamp) seconds sign (Wait timestamp) None
gtid_leads timestamp seconds Gtid h = record { fits = refl; to = refl; gives = refl }
gtid_leads timestamp seconds _ h = absurd (no_test h)

pub silent_leads : (time : Option ℕ) (xid : Xid) (content : Content) (seconds : ℕ) (sign : Sign) → is_silent sign ≡ true
    → Leads (Xa time xid content) seconds sign (Xa time xid content) None
silent_leads time xid content seconds Gtid h = record { fits = refl; to = refl; gives = refl }
silent_leads time xid content seconds Quiet h = record { fits = refl; to = refl; gives = refl }
silent_leads time xid content seconds SavepointText h = record { fits = refl; to = refl; gives = refl }
silent_leads time xid content seconds _ h = absurd (no_test h)

pub quiet_leads : (time : Option ℕ) (xid : Xid) (content : Content) (seconds : ℕ) (sign : Sign) → is_quiet sign ≡ true
    → Leads (End time xid content) seconds sign (End time xid content) None
quiet_leads time xid content seconds Gtid h = record { fits = refl; to = refl; gives = refl }
quiet_leads time xid content seconds Quiet h = record { fits = refl; to = refl; gives = refl }
quiet_leads time xid content seconds (Ddl row) h = record { fits = refl; to = refl; gives = refl }
quiet_leads time xid content seconds Marked h = record { fits = refl; to = refl; gives = refl }
quiet_leads time xid content seconds _ h = absurd (no_test h)

-- ---- signs that bring a row or none

abbrev xa_rows : Option ℕ → Xid → List Row → Progress
xa_rows time xid rows = Xa time xid (TableRows rows)

pub no_row : (at : List Row → Progress) (rows : List Row) → at rows ≡ at (rows ++ [])
no_row at rows = ap at (sym (append-nil rows))

pub unmarked_leads : (time : Option ℕ) (xid : Xid) (rows : List Row) (seconds : ℕ) (sign : Sign) → is_unmarked sign ≡ true
    → Leads (xa_rows time xid rows) seconds sign (xa_rows time xid (rows ++ option_to_list (row_of sign))) None
unmarked_leads time xid rows seconds Gtid h = record { fits = refl; to = no_row (xa_rows time xid) rows; gives = refl }
unmarked_leads time xid rows seconds Quiet h = record { fits = refl; to = no_row (xa_rows time xid) rows; gives = refl }
unmarked_leads time xid rows seconds SavepointText h = record { fits = refl; to = no_row (xa_rows time xid) rows; gives = refl }
unmarked_leads time xid rows seconds (RowEvent row) h = record { fits = refl; to = refl; gives = refl }
unmarked_leads time xid rows seconds _ h = absurd (no_test h)

pub inner_leads : (rows : List Row) (seconds : ℕ) (sign : Sign) → is_inner sign ≡ true
    → Leads (Local rows) seconds sign (Local (rows ++ option_to_list (row_of sign))) None
inner_leads rows seconds Gtid h = record { fits = refl; to = no_row Local rows; gives = refl }
inner_leads rows seconds Quiet h = record { fits = refl; to = no_row Local rows; gives = refl }
inner_leads rows seconds (Ddl row) h = record { fits = refl; to = no_row Local rows; gives = refl }
inner_leads rows seconds Marked h = record { fits = refl; to = no_row Local rows; gives = refl }
inner_leads rows seconds SavepointText h = record { fits = refl; to = no_row Local rows; gives = refl }
inner_leads rows seconds (RowEvent row) h = record { fits = refl; to = refl; gives = refl }
inner_leads rows seconds _ h = absurd (no_test h)

-- ---- unfinished items

-- what is said of a sign is so of the event that has it
pub led_by : (progress next : Progress) (event : SignedEvent) (sign : Sign) (kind : Option EntryKind) → Says event sign
    → Leads progress event.seconds sign next kind → Leads progress event.seconds event.sign next kind
led_by progress next event sign kind says led = subst (λ (s : Sign). Leads progress event.seconds s next kind) (sym says) led

pub stamp_passes : (file timestamp : ℕ) (events : List SignedEvent) → IsStamp timestamp events → Passes file Out events (Wait timestamp)
stamp_passes file timestamp events (stamp, gtids, is, says, all) =
    subst (λ (list : List SignedEvent). Passes file Out list (Wait timestamp)) (sym is)
    (passes_on file Out (Wait timestamp) (Wait timestamp) stamp gtids
    (led_by Out (Wait timestamp) stamp (CommitTime timestamp) None says record { fits = refl; to = refl; gives = refl })
    (all_pass file (Wait timestamp) is_gtid (gtid_leads timestamp) gtids all))

-- where an XA group begins: outside, or behind a commit timestamp
abbrev before_group : Option ℕ → Progress
before_group None = Out
before_group (Some timestamp) = Wait timestamp

pub start_leads : (time : Option ℕ) (xid : Xid) (seconds : ℕ) → Leads (before_group time) seconds (XaStartText xid) (Xa time xid (TableRows [])) None
start_leads None xid seconds = record { fits = refl; to = refl; gives = refl }
start_leads (Some timestamp) xid seconds = record { fits = refl; to = refl; gives = refl }

pub timed_passes : (file : ℕ) (time : Option ℕ) (events : List SignedEvent) → IsTimed time events → Passes file Out events (before_group time)
timed_passes file None events is = ap (outcome file Out) is
timed_passes file (Some timestamp) events stamp = stamp_passes file timestamp events stamp

pub body_passes : (file : ℕ) (time : Option ℕ) (xid : Xid) (content : Content) (body : List SignedEvent) → IsGroupBody content body
    → Passes file (Xa time xid (TableRows [])) body (Xa time xid content)
body_passes file time xid (TableRows rows) body (all, is) =
    subst (λ (list : List Row). Passes file (Xa time xid (TableRows [])) body (Xa time xid (TableRows list))) (sym is)
    (rows_pass file (xa_rows time xid) is_unmarked (unmarked_leads time xid) [] body all)
body_passes file time xid (OneStatement row) body (before, after, statement, is, says, all, later) =
    subst (λ (list : List SignedEvent). Passes file (Xa time xid (TableRows [])) list (Xa time xid (OneStatement row))) (sym is)
    (runs_then file (Xa time xid (TableRows [])) (Xa time xid (TableRows [])) before (statement ∷ after)
    (all_pass file (Xa time xid (TableRows [])) is_silent (silent_leads time xid (TableRows [])) before all)
    ∙ passes_on file (Xa time xid (TableRows [])) (Xa time xid (OneStatement row)) (Xa time xid (OneStatement row)) statement after
    (led_by (Xa time xid (TableRows [])) (Xa time xid (OneStatement row)) statement (Ddl row) None says record { fits = refl; to = refl; gives = refl })
    (all_pass file (Xa time xid (OneStatement row)) is_silent (silent_leads time xid (OneStatement row)) after later))

pub begun_passes : (file : ℕ) (time : Option ℕ) (xid : Xid) (content : Content) (events : List SignedEvent) → IsBegunXa xid content events
    → Passes file (before_group time) events (Xa time xid content)
begun_passes file time xid content events (start, body, is, says, holds) =
    subst (λ (list : List SignedEvent). Passes file (before_group time) list (Xa time xid content)) (sym is)
    (passes_on file (before_group time) (Xa time xid (TableRows [])) (Xa time xid content) start body
    (led_by (before_group time) (Xa time xid (TableRows [])) start (XaStartText xid) None says (start_leads time xid start.seconds))
    (body_passes file time xid content body holds))

-- an event that names its own branch names no other
pub named : (xid : Xid) (fault : Option GroupFault) → unless_same xid xid fault ≡ fault
named xid fault = ap (λ (b : Bool). if b then fault else Some XidDiffers) (same_xid_laws.refl xid)

pub end_leads : (time : Option ℕ) (xid : Xid) (content : Content) (seconds : ℕ) → Leads (Xa time xid content) seconds (XaEndText xid) (End time xid content) None
end_leads time xid content seconds = record { fits = named xid None; to = refl; gives = refl }

pub ended_passes : (file : ℕ) (time : Option ℕ) (xid : Xid) (content : Content) (events : List SignedEvent) → IsEndedXa xid content events
    → Passes file (before_group time) events (End time xid content)
ended_passes file time xid content events (begun, quiets, end, is, begins, says, all) =
    subst (λ (list : List SignedEvent). Passes file (before_group time) list (End time xid content)) (sym is)
    (runs_then file (before_group time) (Xa time xid content) begun (end ∷ quiets) (begun_passes file time xid content begun begins)
    ∙ passes_on file (Xa time xid content) (End time xid content) (End time xid content) end quiets
    (led_by (Xa time xid content) (End time xid content) end (XaEndText xid) None says (end_leads time xid content end.seconds))
    (all_pass file (End time xid content) is_quiet (quiet_leads time xid content) quiets all))

pub local_passes : (file : ℕ) (rows : List Row) (events : List SignedEvent) → IsBegunLocal rows events → Passes file Out events (Local rows)
local_passes file rows events (begin, body, is, says, all, are) =
    subst (λ (list : List SignedEvent). Passes file Out list (Local rows)) (sym is)
    (passes_on file Out (Local []) (Local rows) begin body
    (led_by Out (Local []) begin BeginText None says record { fits = refl; to = refl; gives = refl })
    (subst (λ (list : List Row). Passes file (Local []) body (Local list)) (sym are) (rows_pass file Local is_inner inner_leads [] body all)))

-- a group behind what may stand before it
pub group_passes : (file : ℕ) (time : Option ℕ) (progress : Progress) (events stamp group : List SignedEvent) → events ≡ stamp ++ group → IsTimed time stamp
    → Passes file (before_group time) group progress → Passes file Out events progress
group_passes file time progress events stamp group is timed rest =
    ap (outcome file Out) is ∙ runs_then file Out (before_group time) stamp group (timed_passes file time stamp timed) ∙ rest

pub reaches_passes : (file : ℕ) (part : List SignedEvent) (progress : Progress) → Reaches part progress → Passes file Out part progress
reaches_passes file part Out is = ap (outcome file Out) is
reaches_passes file part (Wait timestamp) stamp = stamp_passes file timestamp part stamp
reaches_passes file part (Xa time xid content) (stamp, group, is, timed, begun) =
    group_passes file time (Xa time xid content) part stamp group is timed (begun_passes file time xid content group begun)
reaches_passes file part (End time xid content) (stamp, group, is, timed, ended) =
    group_passes file time (End time xid content) part stamp group is timed (ended_passes file time xid content group ended)
reaches_passes file part (Local rows) begun = local_passes file rows part begun

-- ---- whole items

-- an entry that stands where its last event does
abbrev log_entry : EntryKind → Place → Place → ℕ → LogEntry
log_entry kind at end checksum = record { kind = kind; at = at; end = end; checksum = checksum }

pub entry_is : (file : ℕ) (last : SignedEvent) (entry : LogEntry) → StandsAt file last entry → entry_at file last entry.kind ≡ entry
entry_is file last entry stands =
    ap (λ (at : Place). log_entry entry.kind at record { file = file; at = last.end } last.checksum) (sym stands.at)
    ∙ ap (λ (end : Place). log_entry entry.kind entry.at end last.checksum) (sym stands.end)
    ∙ ap (log_entry entry.kind entry.at entry.end) (sym stands.checksum)

pub not_zero : (n : ℕ) → n ≢ 0 → (n == 0) ≡ false
not_zero n not = grind (arith, nat_tests)

pub one_phase_fits : (timestamp one_phase : ℕ) → one_phase ≢ 0 → misfit_phase (Some timestamp) one_phase ≡ None
one_phase_fits timestamp one_phase not = rw (not_zero one_phase not)

pub prepare_leads : (time : Option ℕ) (xid : Xid) (content : Content) (one_phase seconds : ℕ) → misfit_phase time one_phase ≡ None
    → Leads (End time xid content) seconds (PrepareEvent one_phase xid) Out (Some (prepared time seconds (Prepare xid (rows_of content))))
prepare_leads time xid content one_phase seconds fits = record { fits = named xid (misfit_phase time one_phase) ∙ fits; to = refl; gives = refl }

-- the progress at which the last event of an entry finds what stands before it
pub data LastOf (file : ℕ) (kind : EntryKind) (front : List SignedEvent) (last : SignedEvent) : Type 0 where
  last_of : (progress : Progress) → Passes file Out front progress → Leads progress last.seconds last.sign Out (Some kind) → LastOf file kind front last

pub entry_last : (file : ℕ) (kind : EntryKind) (front : List SignedEvent) (last : SignedEvent) → IsEntryOf kind front last → LastOf file kind front last
entry_last file (Beat timestamp) front last (is, says) =
    last_of Out (ap (outcome file Out) is) (led_by Out Out last (BeatTime timestamp) (Some (Beat timestamp)) says record { fits = refl; to = refl; gives = refl })
entry_last file (Commit xid timestamp seconds) front last (stamp, says, at) =
    last_of (Wait timestamp) (stamp_passes file timestamp front stamp)
    (led_by (Wait timestamp) Out last (XaCommitText xid) (Some (Commit xid timestamp seconds)) says record { fits = refl; to = refl; gives = ap (λ (s : ℕ). Some (Commit xid timestamp s)) (sym at) })
entry_last file (Rollback xid) front last (is, says) =
    last_of Out (ap (outcome file Out) is) (led_by Out Out last (XaRollbackText xid) (Some (Rollback xid)) says record { fits = refl; to = refl; gives = refl })
entry_last file (Plain rows seconds) front last (begun, inl says, at) =
    last_of (Local rows) (local_passes file rows front begun)
    (led_by (Local rows) Out last NumberEvent (Some (Plain rows seconds)) says record { fits = refl; to = refl; gives = ap (λ (s : ℕ). Some (Plain rows s)) (sym at) })
entry_last file (Plain rows seconds) front last (begun, inr says, at) =
    last_of (Local rows) (local_passes file rows front begun)
    (led_by (Local rows) Out last CommitText (Some (Plain rows seconds)) says record { fits = refl; to = refl; gives = ap (λ (s : ℕ). Some (Plain rows s)) (sym at) })
entry_last file (Prepare xid rows) front last (content, ended, says, are) =
    last_of (End None xid content) (ended_passes file None xid content front ended)
    (led_by (End None xid content) Out last (PrepareEvent 0 xid) (Some (Prepare xid rows)) says
    (subst (λ (list : List Row). Leads (End None xid content) last.seconds (PrepareEvent 0 xid) Out (Some (Prepare xid list))) (sym are)
    (prepare_leads None xid content 0 last.seconds refl)))
entry_last file (OnePhase xid rows timestamp seconds) front last (stamp, group, content, one_phase, is, stamped, ended, says, phase, are, at) =
    last_of (End (Some timestamp) xid content)
    (group_passes file (Some timestamp) (End (Some timestamp) xid content) front stamp group is stamped (ended_passes file (Some timestamp) xid content group ended))
    (led_by (End (Some timestamp) xid content) Out last (PrepareEvent one_phase xid) (Some (OnePhase xid rows timestamp seconds)) says
    (subst (λ (list : List Row). Leads (End (Some timestamp) xid content) last.seconds (PrepareEvent one_phase xid) Out (Some (OnePhase xid list timestamp seconds))) (sym are)
    (subst (λ (s : ℕ). Leads (End (Some timestamp) xid content) last.seconds (PrepareEvent one_phase xid) Out (Some (OnePhase xid (rows_of content) timestamp s))) (sym at)
    (prepare_leads (Some timestamp) xid content one_phase last.seconds (one_phase_fits timestamp one_phase phase)))))

pub passed_leads : (seconds : ℕ) (sign : Sign) → is_passed sign ≡ true → Leads Out seconds sign Out None
passed_leads seconds Gtid h = record { fits = refl; to = refl; gives = refl }
passed_leads seconds Quiet h = record { fits = refl; to = refl; gives = refl }
passed_leads seconds (Ddl row) h = record { fits = refl; to = refl; gives = refl }
passed_leads seconds Marked h = record { fits = refl; to = refl; gives = refl }
passed_leads seconds CommitText h = record { fits = refl; to = refl; gives = refl }
passed_leads seconds RollbackText h = record { fits = refl; to = refl; gives = refl }
passed_leads seconds SavepointText h = record { fits = refl; to = refl; gives = refl }
passed_leads seconds OtherText h = record { fits = refl; to = refl; gives = refl }
passed_leads seconds _ h = absurd (no_test h)

pub item_runs : (file : ℕ) (events : List SignedEvent) (entry : Option LogEntry) → IsItem file (events, entry)
    → outcome file Out events ≡ (option_to_list entry, Reached Out)
item_runs file events None (inl (passed, is, test)) =
    ap (outcome file Out) is ∙ passes_on file Out Out Out passed [] (passed_leads passed.seconds passed.sign test) refl
item_runs file events None (inr (front, last, rows, is, begun, says)) =
    ap (outcome file Out) is
    ∙ ends_entry file (Local rows) front last None (local_passes file rows front begun)
    (led_by (Local rows) Out last RollbackText None says record { fits = refl; to = refl; gives = refl })
item_runs file events (Some entry) (front, last, is, makes, stands) =
    ap (outcome file Out) is ∙ ends (entry_last file entry.kind front last makes)
  where
    ends : LastOf file entry.kind front last → outcome file Out (front ++ last ∷ []) ≡ (entry ∷ [], Reached Out)
    ends (last_of progress passes led) =
        ends_entry file progress front last (Some entry.kind) passes led
        ∙ ap (λ (e : LogEntry). (e ∷ [], Reached Out)) (entry_is file last entry stands)

pub items_run : (file : ℕ) (items : List (List SignedEvent × Option LogEntry)) → AllByRecursion (IsItem file) items
    → outcome file Out (flat_map (λ (item : List SignedEvent × Option LogEntry). item.0) items)
    ≡ (filter_map (λ (item : List SignedEvent × Option LogEntry). item.1) items, Reached Out)
items_run file [] all = refl
items_run file ((events, entry) ∷ items) (first, all) =
    outcome_append file Out events (flat_map (λ (item : List SignedEvent × Option LogEntry). item.0) items)
    ∙ ap (λ (o : List LogEntry × Ending). joined file o (flat_map (λ (item : List SignedEvent × Option LogEntry). item.0) items)) (item_runs file events entry first)
    ∙ ap (λ (o : List LogEntry × Ending). (option_to_list entry ++ o.0, o.1)) (items_run file items all)
    ∙ ap (λ (list : List LogEntry). (list, Reached Out))
    (sym (cons_option_list entry (filter_map (λ (item : List SignedEvent × Option LogEntry). item.1) items)))

pub reads_run : (file : ℕ) (events : List SignedEvent) (entries : List LogEntry) → ReadsItems file events entries
    → outcome file Out events ≡ (entries, Reached Out)
reads_run file events entries reads =
    ap (outcome file Out) reads.events_in_order
    ∙ items_run file reads.items reads.each
    ∙ ap (λ (list : List LogEntry). (list, Reached Out)) (sym reads.entries_in_order)
