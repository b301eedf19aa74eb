-- Events are read in one way: what is read is what a run comes to, and the laws of the grammar that follow.
use Rattle.std.proofs.Common.{◌≡◌, inl, inr, ℕ, List, [], ◌∷◌, ◌++◌, append_assoc, append-nil, Option, Some, None, ap, sym, subst, refl, ◌∙◌}
use Rattle.std.proofs.lemmas.Grind.{flat_map-append}
use Rattle.std.proofs.lemmas.List.Elements.{filter_map-append}
use Rattle.std.specs.List.{AllByRecursion, flat_map, filter_map}
use Rattle.std.specs.Option.{option_to_list}
use Rattle.cdc_base.specs.declared.xid.Xid.{Xid}
use Rattle.cdc_model.specs.declared.fault.GroupFault.{GroupFault}
use Rattle.cdc_model.specs.Records.{LogEntry}
use Rattle.cdc_model.specs.Sign.{Sign, SignedEvent, PrepareEvent, CommitText, XaEndText, XaCommitText}
use Rattle.cdc_model.specs.Group.{Content, IsItem, ReadsItems, Fits, Progress, Out, Wait, Xa, End, Local, Reaches}
use Rattle.cdc_model.specs.Misfit.{misfit}
use Rattle.cdc_model.specs.Entries.{ReadsTo, EventsHaveOneReading, OneProgress, FittingIsRead, FrontsFit, MisfitsAreTold}
use Rattle.cdc_model.specs.Advance.{advance, entry_given}
use Rattle.cdc_model.proofs.GroupMachine.{Ending, Reached, Misplaced, judged, outcome}
use Rattle.cdc_model.proofs.GroupRuns.{joined, outcome_append, outcome_led, cons_option_list}
use Rattle.cdc_model.proofs.GroupItems.{reads_run, reaches_passes, end_leads, named}
use Rattle.cdc_model.proofs.GroupSteps.{Goes, one_more}

-- ---- what is read is what a run comes to

pub reads_to_run : (file : ℕ) (events : List SignedEvent) (entries : List LogEntry) (progress : Progress) → ReadsTo file events entries progress
    → outcome file Out events ≡ (entries, Reached progress)
reads_to_run file events entries progress reads =
    ap (outcome file Out) reads.events_in_order
    ∙ outcome_append file Out reads.whole reads.part
    ∙ ap (λ (o : List LogEntry × Ending). joined file o reads.part) (reads_run file reads.whole entries reads.reads)
    ∙ ap (λ (o : List LogEntry × Ending). (entries ++ o.0, o.1)) (reaches_passes file reads.part progress reads.reaches)
    ∙ ap (λ (list : List LogEntry). (list, Reached progress)) (append-nil entries)

-- the progress that a run has reached
abbrev reached_by : Ending → Progress
reached_by (Reached progress) = progress
reached_by (Misplaced event fault) = Out

-- a run has one end
pub one_outcome : (o : List LogEntry × Ending) (entries others : List LogEntry) (progress other : Progress)
    → o ≡ (entries, Reached progress) → o ≡ (others, Reached other) → (entries ≡ others) × (progress ≡ other)
one_outcome o entries others progress other first second =
    let same : (entries, Reached progress) ≡ (others, Reached other) = sym first ∙ second in
    (ap (λ (p : List LogEntry × Ending). p.0) same, ap (λ (p : List LogEntry × Ending). reached_by p.1) same)

pub one_reading : EventsHaveOneReading
one_reading file events entries others first second =
    (one_outcome (outcome file Out events) entries others Out Out (reads_run file events entries first) (reads_run file events others second)).0

pub one_progress : OneProgress
one_progress file events entries others progress other first second =
    one_outcome (outcome file Out events) entries others progress other
    (reads_to_run file events entries progress first) (reads_to_run file events others other second)

-- ---- a run that ends at a progress has read its events

pub all_items_more : (file : ℕ) (items : List (List SignedEvent × Option LogEntry)) (item : List SignedEvent × Option LogEntry)
    → AllByRecursion (IsItem file) items → IsItem file item → AllByRecursion (IsItem file) (items ++ item ∷ [])
all_items_more file [] item all last = (last, tt)
all_items_more file (first ∷ items) item (here, all) last = (here, all_items_more file items item all last)

pub reads_more : (file : ℕ) (events more : List SignedEvent) (entries : List LogEntry) (entry : Option LogEntry)
    → ReadsItems file events entries → IsItem file (more, entry) → ReadsItems file (events ++ more) (entries ++ option_to_list entry)
reads_more file events more entries entry reads item = record {
  items = reads.items ++ (more, entry) ∷ [];
  each = all_items_more file reads.items (more, entry) reads.each item;
  events_in_order = ap (λ (list : List SignedEvent). list ++ more) reads.events_in_order
      ∙ ap (λ (list : List SignedEvent). flat_map (λ (i : List SignedEvent × Option LogEntry). i.0) reads.items ++ list) (sym (append-nil more))
      ∙ sym (flat_map-append (λ (i : List SignedEvent × Option LogEntry). i.0) reads.items ((more, entry) ∷ []));
  entries_in_order = ap (λ (list : List LogEntry). list ++ option_to_list entry) reads.entries_in_order
      ∙ ap (λ (list : List LogEntry). filter_map (λ (i : List SignedEvent × Option LogEntry). i.1) reads.items ++ list)
      (sym (cons_option_list entry [] ∙ append-nil (option_to_list entry)))
      ∙ sym (filter_map-append (λ (i : List SignedEvent × Option LogEntry). i.1) reads.items ((more, entry) ∷ []));
}

pub reads_one_more : (file : ℕ) (front : List SignedEvent) (entries : List LogEntry) (progress next : Progress) (event : SignedEvent) (entry : Option LogEntry)
    → (reads : ReadsTo file front entries progress) → Goes file reads.part event next entry
    → ReadsTo file (front ++ event ∷ []) (entries ++ option_to_list entry) next
reads_one_more file front entries progress next event entry reads (inl (reaches, none)) = record {
  whole = reads.whole;
  part = reads.part ++ event ∷ [];
  events_in_order = ap (λ (list : List SignedEvent). list ++ event ∷ []) reads.events_in_order ∙ append_assoc reads.whole reads.part (event ∷ []);
  reads = subst (ReadsItems file reads.whole)
      (sym (ap (λ (e : Option LogEntry). entries ++ option_to_list e) none ∙ append-nil entries)) reads.reads;
  reaches = reaches;
}
reads_one_more file front entries progress next event entry reads (inr (out, item)) = record {
  whole = reads.whole ++ (reads.part ++ event ∷ []);
  part = [];
  events_in_order = ap (λ (list : List SignedEvent). list ++ event ∷ []) reads.events_in_order
      ∙ append_assoc reads.whole reads.part (event ∷ []) ∙ sym (append-nil (reads.whole ++ (reads.part ++ event ∷ [])));
  reads = reads_more file reads.whole (reads.part ++ event ∷ []) entries entry reads.reads item;
  reaches = subst (Reaches []) (sym out) refl;
}

-- one event more that fits
pub reads_next : (file : ℕ) (front : List SignedEvent) (entries : List LogEntry) (progress : Progress) (event : SignedEvent)
    → ReadsTo file front entries progress → misfit progress event.sign ≡ None
    → ReadsTo file (front ++ event ∷ []) (entries ++ option_to_list (entry_given file progress event)) (advance progress event.sign)
reads_next file front entries progress event reads fits =
    reads_one_more file front entries progress (advance progress event.sign) event (entry_given file progress event) reads
    (one_more file progress reads.part event reads.reaches fits)

-- a first event that fits, and the rest of a run that ends at a progress
pub run_first : (event : SignedEvent) (fault : Option GroupFault) (entry : Option LogEntry) (later : List LogEntry × Ending) (last : Progress)
    → (judged event fault entry later).1 ≡ Reached last
    → (fault ≡ None) × (later.1 ≡ Reached last) × ((judged event fault entry later).0 ≡ option_to_list entry ++ later.0)
run_first event None entry later last is = (refl, is, cons_option_list entry later.0)
run_first event (Some fault) entry later last is = absurd (let e = is in cc)

pub reads_on : (file : ℕ) (events front : List SignedEvent) (entries : List LogEntry) (progress last : Progress)
    → ReadsTo file front entries progress → (outcome file progress events).1 ≡ Reached last
    → ReadsTo file (front ++ events) (entries ++ (outcome file progress events).0) last
reads_on file [] front entries progress last reads is =
    subst (λ (list : List SignedEvent). ReadsTo file list (entries ++ []) last) (sym (append-nil front))
    (subst (λ (list : List LogEntry). ReadsTo file front list last) (sym (append-nil entries))
    (subst (ReadsTo file front entries) (ap reached_by is) reads))
reads_on file (event ∷ events) front entries progress last reads is =
    let next = advance progress event.sign in
    let entry = entry_given file progress event in
    let first = run_first event (misfit progress event.sign) entry (outcome file next events) last is in
    let more : ReadsTo file ((front ++ event ∷ []) ++ events) ((entries ++ option_to_list entry) ++ (outcome file next events).0) last =
    reads_on file events (front ++ event ∷ []) (entries ++ option_to_list entry) next last (reads_next file front entries progress event reads first.0) first.1 in
    subst (λ (list : List SignedEvent). ReadsTo file list (entries ++ (outcome file progress (event ∷ events)).0) last) (append_assoc front (event ∷ []) events)
    (subst (λ (list : List LogEntry). ReadsTo file ((front ++ event ∷ []) ++ events) list last)
    (append_assoc entries (option_to_list entry) (outcome file next events).0 ∙ ap (λ (list : List LogEntry). entries ++ list) (sym first.2)) more)

pub reads_nothing : (file : ℕ) → ReadsTo file [] [] Out
reads_nothing file = record {
  whole = [];
  part = [];
  events_in_order = refl;
  reads = record { items = []; each = tt; events_in_order = refl; entries_in_order = refl };
  reaches = refl;
}

-- ---- events fit where a run over them ends at a progress

-- events that end an unfinished item
abbrev event_of : Sign → SignedEvent
event_of sign = record { at = 0; end = 0; checksum = 0; seconds = 0; sign = sign }

abbrev ending : Progress → List SignedEvent
ending Out = []
ending (Wait timestamp) = event_of (XaCommitText record { gtrid = []; bqual = []; format = 0 }) ∷ []
ending (Xa None xid content) = event_of (XaEndText xid) ∷ event_of (PrepareEvent 0 xid) ∷ []
ending (Xa (Some timestamp) xid content) = event_of (XaEndText xid) ∷ event_of (PrepareEvent 1 xid) ∷ []
ending (End None xid content) = event_of (PrepareEvent 0 xid) ∷ []
ending (End (Some timestamp) xid content) = event_of (PrepareEvent 1 xid) ∷ []
ending (Local rows) = event_of CommitText ∷ []

pub prepare_ends : (file : ℕ) (time : Option ℕ) (xid : Xid) (content : Content) (one_phase : ℕ) → misfit (End time xid content) (PrepareEvent one_phase xid) ≡ None
    → (outcome file (End time xid content) (event_of (PrepareEvent one_phase xid) ∷ [])).1 ≡ Reached Out
prepare_ends file time xid content one_phase fits =
    ap (λ (f : Option GroupFault). (judged (event_of (PrepareEvent one_phase xid)) f (entry_given file (End time xid content) (event_of (PrepareEvent one_phase xid))) ([], Reached Out)).1) fits

pub group_ends : (file : ℕ) (time : Option ℕ) (xid : Xid) (content : Content) (last : SignedEvent)
    → (outcome file (End time xid content) (last ∷ [])).1 ≡ Reached Out → (outcome file (Xa time xid content) (event_of (XaEndText xid) ∷ last ∷ [])).1 ≡ Reached Out
group_ends file time xid content last is =
    ap (λ (o : List LogEntry × Ending). o.1)
    (outcome_led file (Xa time xid content) (End time xid content) (event_of (XaEndText xid)) (last ∷ []) None (end_leads time xid content 0))
    ∙ is

pub ends : (file : ℕ) (progress : Progress) → (outcome file progress (ending progress)).1 ≡ Reached Out
ends file Out = refl
ends file (Wait timestamp) = refl
ends file (Xa None xid content) = group_ends file None xid content (event_of (PrepareEvent 0 xid)) (prepare_ends file None xid content 0 (named xid None))
ends file (Xa (Some timestamp) xid content) =
    group_ends file (Some timestamp) xid content (event_of (PrepareEvent 1 xid)) (prepare_ends file (Some timestamp) xid content 1 (named xid None))
ends file (End None xid content) = prepare_ends file None xid content 0 (named xid None)
ends file (End (Some timestamp) xid content) = prepare_ends file (Some timestamp) xid content 1 (named xid None)
ends file (Local rows) = refl

pub read_fits : (file : ℕ) (events : List SignedEvent) (entries : List LogEntry) (progress : Progress) → ReadsTo file events entries progress → Fits file events
read_fits file events entries progress reads = whole (reads_on file (ending progress) events entries progress Out reads (ends file progress))
  where
    whole : ReadsTo file (events ++ ending progress) (entries ++ (outcome file progress (ending progress)).0) Out → Fits file events
    whole all = record {
      more = ending progress;
      entries = entries ++ (outcome file progress (ending progress)).0;
      reads = subst (λ (list : List SignedEvent). ReadsItems file list (entries ++ (outcome file progress (ending progress)).0))
          (sym (all.events_in_order ∙ ap (λ (list : List SignedEvent). all.whole ++ list) all.reaches ∙ append-nil all.whole)) all.reads;
    }

-- the front of a run that ends at a progress ends at one
pub front_reached : (file : ℕ) (o : List LogEntry × Ending) (more : List SignedEvent) (last : Progress) → (joined file o more).1 ≡ Reached last
    → (progress : Progress) × (o.1 ≡ Reached progress)
front_reached file (entries, Reached progress) more last is = (progress, refl)
front_reached file (entries, Misplaced event fault) more last is = absurd (let e = is in cc)

pub fitting_read : (file : ℕ) (events : List SignedEvent) → Fits file events → (entries : List LogEntry) × (progress : Progress) × ReadsTo file events entries progress
fitting_read file events fits =
    let run = reads_run file (events ++ fits.more) fits.entries fits.reads in
    let front = front_reached file (outcome file Out events) fits.more Out
    (ap (λ (o : List LogEntry × Ending). o.1) (sym (outcome_append file Out events fits.more) ∙ run)) in
    ((outcome file Out events).0, front.0, reads_on file events [] [] Out front.0 (reads_nothing file) front.1)

pub fitting_is_read : FittingIsRead
fitting_is_read = (fitting_read, read_fits)

pub front_fits : (file : ℕ) (front more : List SignedEvent) → Fits file (front ++ more) → Fits file front
front_fits file front more fits = record {
  more = more ++ fits.more;
  entries = fits.entries;
  reads = subst (λ (list : List SignedEvent). ReadsItems file list fits.entries) (append_assoc front more fits.more) fits.reads;
}

pub fronts_fit : FrontsFit
fronts_fit file front more = (front_fits file front more, λ never fits. never (front_fits file front more fits))

-- ---- where the table has a fault, the events fit no more

-- a run over what is read, and then an event that doesn't fit
pub run_ceases : (file : ℕ) (front behind : List SignedEvent) (entries : List LogEntry) (progress : Progress) (misplaced : SignedEvent) (fault : GroupFault)
    → ReadsTo file front entries progress → misfit progress misplaced.sign ≡ Some fault
    → outcome file Out (front ++ misplaced ∷ behind) ≡ (entries, Misplaced misplaced fault)
run_ceases file front behind entries progress misplaced fault reads told =
    outcome_append file Out front (misplaced ∷ behind)
    ∙ ap (λ (o : List LogEntry × Ending). joined file o (misplaced ∷ behind)) (reads_to_run file front entries progress reads)
    ∙ ap (λ (f : Option GroupFault). (
      entries ++ (judged misplaced f (entry_given file progress misplaced) (outcome file (advance progress misplaced.sign) behind)).0,
      (judged misplaced f (entry_given file progress misplaced) (outcome file (advance progress misplaced.sign) behind)).1,
    )) told
    ∙ ap (λ (list : List LogEntry). (list, Misplaced misplaced fault)) (append-nil entries)

-- no run both ends at a progress and ceases
pub never_both : (o : List LogEntry × Ending) (entries others : List LogEntry) (progress : Progress) (event : SignedEvent) (fault : GroupFault)
    → o ≡ (entries, Reached progress) → o ≡ (others, Misplaced event fault) → ⊥
never_both o entries others progress event fault first second =
    let same : Reached progress ≡ Misplaced event fault = ap (λ (p : List LogEntry × Ending). p.1) (sym first ∙ second) in cc

pub told_misfits : (file : ℕ) (events : List SignedEvent) (entries : List LogEntry) (progress : Progress) (next : SignedEvent) (fault : GroupFault)
    → ReadsTo file events entries progress → misfit progress next.sign ≡ Some fault → Fits file (events ++ next ∷ []) → ⊥
told_misfits file events entries progress next fault reads told fits =
    let read = fitting_read file (events ++ next ∷ []) fits in
    never_both (outcome file Out (events ++ next ∷ [])) read.0 entries read.1 next fault
    (reads_to_run file (events ++ next ∷ []) read.0 read.1 read.2)
    (run_ceases file events [] entries progress next fault reads told)

pub misfits_are_told : MisfitsAreTold
misfits_are_told file events entries progress next reads = (
  λ fits. read_fits file (events ++ next ∷ []) (entries ++ option_to_list (entry_given file progress next)) (advance progress next.sign)
      (reads_next file events entries progress next reads fits),
  λ fault told fits. told_misfits file events entries progress next fault reads told fits,
)
