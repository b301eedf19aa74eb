-- What an event comes to that fits.
use Rattle.std.proofs.Common.{◌≡◌, ℕ, Option, Some, None, Result, Ok, Err, IfOk, OnOk, OnErr, refl, ap, sym, subst, ◌∙◌}
use Rattle.std.specs.Option.{option_map}
use Rattle.cdc_base.specs.declared.memory.Memory.{Memory as NoMemory}
use Rattle.cdc_base.specs.declared.place.Place.{Place}
use Rattle.cdc_event.specs.declared.event.Event.{Event}
use Rattle.cdc_model.specs.declared.entry.EntryKind.{EntryKind}
use Rattle.cdc_model.specs.declared.fault.GroupFault.{GroupFault}
use Rattle.cdc_model.specs.Records.{LogEntry}
use Rattle.cdc_model.specs.Sign.{Sign, sign_of}
use Rattle.cdc_model.specs.Group.{Out as HasNone}
use Rattle.cdc_model.specs.Advance.{made, entry_at}
use Rattle.cdc_group.specs.declared.error.GroupError.{GroupError}
use Rattle.cdc_group.specs.declared.group.Group.{Group}
use Rattle.cdc_group.specs.declared.group.GroupState.{GroupState}
use Rattle.cdc_group.specs.declared.group.GroupState.TheVariants.{Out}
use Rattle.cdc_group.specs.Grouping.{Grouping, Goes, Stopped, fault_at, gone_on, kind_ended, entry_ended}
use Rattle.cdc_group.specs.State.{standing, grouping_of}
use Rattle.cdc_group.specs.Taking.{taken_event, placed_entry, placed_result, TakesEvent}

-- what is made outside a group
pub kind_outside : (group : Group) (seconds : ℕ) (sign : Sign) (result : Option EntryKind) → group.state ≡ Out
    → result ≡ made HasNone seconds sign → result ≡ kind_ended (grouping_of group) seconds sign
kind_outside group seconds sign result is e =
    let stands : grouping_of group ≡ Goes HasNone = ap (λ (state : GroupState). standing state group.xid group.statement group.rows) is in
    e ∙ ap (λ (grouping : Grouping). kind_ended grouping seconds sign) (sym stands)

-- an entry stands where its last event does
entry_stands : (at end : Place) (checksum : ℕ) (event : Event) (kind : EntryKind) → end.file ≡ at.file
    → placed_entry at end checksum kind ≡ entry_at at.file (taken_event at end checksum event) kind
entry_stands at end checksum event kind same =
    ap (λ (file : ℕ). placed_entry at record { file = file; at = end.at } checksum kind) same

no_fault : (fault : GroupFault) → Some fault ≡ None → ⊥
no_fault fault e = cc

option_alike : (at end : Place) (checksum : ℕ) (event : Event) (kind : Option EntryKind) → end.file ≡ at.file
    → option_map (placed_entry at end checksum) kind ≡ option_map (entry_at at.file (taken_event at end checksum event)) kind
option_alike at end checksum event None same = refl
option_alike at end checksum event (Some kind) same = ap (λ (entry : LogEntry). Some entry) (entry_stands at end checksum event kind same)

entry_is : (at end : Place) (checksum : ℕ) (event : Event) (old : Grouping) (kind : Option EntryKind) → end.file ≡ at.file
    → fault_at old (sign_of event) ≡ None → kind ≡ kind_ended old event.header.seconds (sign_of event)
    → option_map (placed_entry at end checksum) kind ≡ entry_ended at.file old (taken_event at end checksum event)
entry_is at end checksum event (Goes progress) kind same fits e =
    option_alike at end checksum event kind same
    ∙ ap (λ (k : Option EntryKind). option_map (entry_at at.file (taken_event at end checksum event)) k) e
entry_is at end checksum event (Stopped fault) kind same fits e = absurd (no_fault fault fits)

-- by the sign of the event itself
went_on : (at end : Place) (checksum : ℕ) (event : Event) (old new : Grouping) (went : Result (Option EntryKind) NoMemory)
    → end.file ≡ at.file → fault_at old (sign_of event) ≡ None
    → IfOk went (λ (kind : Option EntryKind). kind ≡ kind_ended old event.header.seconds (sign_of event))
    → OnOk went (new ≡ gone_on old (sign_of event)) → OnErr went (new ≡ old)
    → TakesEvent at.file (taken_event at end checksum event) old new (placed_result at end checksum went)
went_on at end checksum event old new (Ok kind) same fits made on stays = (fits, on, entry_is at end checksum event old kind same fits made)
went_on at end checksum event old new (Err wanted) same fits made on stays = (fits, stays)

-- and by the sign that was read, and the groups
pub goes_on : (at end : Place) (checksum : ℕ) (event : Event) (sign : Sign) (before after : Group) (old : Grouping)
    (went : Result (Option EntryKind) NoMemory) (result : Result (Option LogEntry) GroupError)
    → end.file ≡ at.file → old ≡ grouping_of before → sign ≡ sign_of event → fault_at (grouping_of before) sign ≡ None
    → IfOk went (λ (kind : Option EntryKind). kind ≡ kind_ended (grouping_of before) event.header.seconds sign)
    → OnOk went (grouping_of after ≡ gone_on (grouping_of before) sign) → OnErr went (after ≡ before)
    → result ≡ placed_result at end checksum went
    → TakesEvent at.file (taken_event at end checksum event) old (grouping_of after) result
goes_on at end checksum event sign before after old went result same seen read fits made on stays is =
    let at_sign : (s : Sign) → sign ≡ s → fault_at (grouping_of before) s ≡ None =
    λ s e. subst (λ (t : Sign). fault_at (grouping_of before) t ≡ None) e fits in
    let made_here = subst (λ (t : Sign). IfOk went (λ (kind : Option EntryKind). kind ≡ kind_ended (grouping_of before) event.header.seconds t)) read made in
    let on_here = subst (λ (t : Sign). OnOk went (grouping_of after ≡ gone_on (grouping_of before) t)) read on in
    let taken = went_on at end checksum event (grouping_of before) (grouping_of after) went same (at_sign (sign_of event) read) made_here on_here (unchanged went stays) in
    let placed = subst (λ (r : Result (Option LogEntry) GroupError). TakesEvent at.file (taken_event at end checksum event) (grouping_of before) (grouping_of after) r) (sym is) taken in
    subst (λ (g : Grouping). TakesEvent at.file (taken_event at end checksum event) g (grouping_of after) result) (sym seen) placed
  where
    unchanged : (w : Result (Option EntryKind) NoMemory) → OnErr w (after ≡ before) → OnErr w (grouping_of after ≡ grouping_of before)
    unchanged (Ok kind) h = h
    unchanged (Err wanted) h = ap (λ (group : Group). grouping_of group) h
