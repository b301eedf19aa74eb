-- Runs of the machine: over one list behind another, and over events that end no entry.
use Rattle.std.proofs.Common.{◌≡◌, ℕ, Bool, true, List, [], ◌∷◌, ◌++◌, append_assoc, append-nil, Option, Some, None, ap, sym, refl, ◌∙◌}
use Rattle.std.specs.List.{cons_option}
use Rattle.std.specs.Option.{option_map, option_to_list}
use Rattle.cdc_model.specs.declared.entry.EntryKind.{EntryKind}
use Rattle.cdc_model.specs.declared.fault.GroupFault.{GroupFault}
use Rattle.cdc_model.specs.Records.{Row, LogEntry}
use Rattle.cdc_model.specs.Sign.{Sign, SignedEvent, row_of}
use Rattle.cdc_model.specs.Group.{AllSigns, rows_in, Progress, Out}
use Rattle.cdc_model.specs.Misfit.{misfit}
use Rattle.cdc_model.specs.Advance.{advance, made, entry_at, entry_given}
use Rattle.cdc_model.proofs.GroupMachine.{Ending, Reached, Misplaced, judged, outcome}

-- ---- one list behind another

-- how a run goes on over further events
abbrev pub joined : ℕ → List LogEntry × Ending → List SignedEvent → List LogEntry × Ending
joined file (entries, Reached progress) more = (entries ++ (outcome file progress more).0, (outcome file progress more).1)
joined file (entries, Misplaced event fault) more = (entries, Misplaced event fault)

pub cons_option_append : {X : Type 0} (first : Option X) (xs ys : List X) → cons_option first (xs ++ ys) ≡ cons_option first xs ++ ys
cons_option_append None xs ys = refl
cons_option_append (Some x) xs ys = refl

pub cons_option_list : {X : Type 0} (first : Option X) (xs : List X) → cons_option first xs ≡ option_to_list first ++ xs
cons_option_list None xs = refl
cons_option_list (Some x) xs = refl

pub judged_joined : (file : ℕ) (event : SignedEvent) (fault : Option GroupFault) (entry : Option LogEntry) (later : List LogEntry × Ending) (more : List SignedEvent)
    → judged event fault entry (joined file later more) ≡ joined file (judged event fault entry later) more
judged_joined file event (Some fault) entry (entries, ending) more = refl
judged_joined file event None entry (entries, Reached progress) more =
    ap (λ (list : List LogEntry). (list, (outcome file progress more).1)) (cons_option_append entry entries (outcome file progress more).0)
judged_joined file event None entry (entries, Misplaced misplaced fault) more = refl

pub outcome_append : (file : ℕ) (progress : Progress) (events more : List SignedEvent)
    → outcome file progress (events ++ more) ≡ joined file (outcome file progress events) more
outcome_append file progress [] more = refl
outcome_append file progress (event ∷ events) more =
    ap (judged event (misfit progress event.sign) (entry_given file progress event)) (outcome_append file (advance progress event.sign) events more)
    ∙ judged_joined file event (misfit progress event.sign) (entry_given file progress event) (outcome file (advance progress event.sign) events) more

-- ---- events that fit

-- an event of this sign fits at a progress, leads to another, and ends this entry or none
pub record Leads (progress : Progress) (seconds : ℕ) (sign : Sign) (next : Progress) (kind : Option EntryKind) : Type 0 where
  pub fits : misfit progress sign ≡ None
  pub to : advance progress sign ≡ next
  pub gives : made progress seconds sign ≡ kind

pub judged_same : (event : SignedEvent) (fault : Option GroupFault) (entry other : Option LogEntry) (later last : List LogEntry × Ending)
    → fault ≡ None → entry ≡ other → later ≡ last → judged event fault entry later ≡ (cons_option other last.0, last.1)
judged_same event fault entry other later last fits gives to =
    ap (λ (f : Option GroupFault). judged event f entry later) fits
    ∙ ap (λ (e : Option LogEntry). (cons_option e later.0, later.1)) gives
    ∙ ap (λ (l : List LogEntry × Ending). (cons_option other l.0, l.1)) to

pub outcome_led : (file : ℕ) (progress next : Progress) (event : SignedEvent) (events : List SignedEvent) (kind : Option EntryKind)
    → Leads progress event.seconds event.sign next kind
    → outcome file progress (event ∷ events) ≡ (cons_option (option_map (entry_at file event) kind) (outcome file next events).0, (outcome file next events).1)
outcome_led file progress next event events kind led =
    judged_same event (misfit progress event.sign) (entry_given file progress event) (option_map (entry_at file event) kind)
    (outcome file (advance progress event.sign) events) (outcome file next events)
    led.fits
    (ap (λ (k : Option EntryKind). option_map (entry_at file event) k) led.gives)
    (ap (λ (s : Progress). outcome file s events) led.to)

-- ---- runs without entries

abbrev pub Passes : ℕ → Progress → List SignedEvent → Progress → Type 0
Passes file progress events next = outcome file progress events ≡ ([], Reached next)

pub passes_on : (file : ℕ) (progress next last : Progress) (event : SignedEvent) (events : List SignedEvent)
    → Leads progress event.seconds event.sign next None → Passes file next events last → Passes file progress (event ∷ events) last
passes_on file progress next last event events led rest = outcome_led file progress next event events None led ∙ rest

pub runs_then : (file : ℕ) (progress next : Progress) (events more : List SignedEvent)
    → Passes file progress events next → outcome file progress (events ++ more) ≡ outcome file next more
runs_then file progress next events more first =
    outcome_append file progress events more ∙ ap (λ (o : List LogEntry × Ending). joined file o more) first

pub ends_entry : (file : ℕ) (progress : Progress) (front : List SignedEvent) (last : SignedEvent) (kind : Option EntryKind)
    → Passes file Out front progress → Leads progress last.seconds last.sign Out kind
    → outcome file Out (front ++ last ∷ []) ≡ (option_to_list (option_map (entry_at file last) kind), Reached Out)
ends_entry file progress front last kind first led =
    runs_then file Out progress front (last ∷ []) first
    ∙ outcome_led file progress Out last [] kind led
    ∙ ap (λ (list : List LogEntry). (list, Reached Out))
    (cons_option_list (option_map (entry_at file last) kind) [] ∙ append-nil (option_to_list (option_map (entry_at file last) kind)))

-- events of a kind that leads nowhere
pub all_pass : (file : ℕ) (progress : Progress) (test : Sign → Bool)
    → ((seconds : ℕ) (sign : Sign) → test sign ≡ true → Leads progress seconds sign progress None)
    → (events : List SignedEvent) → AllSigns test events → Passes file progress events progress
all_pass file progress test leads [] all = refl
all_pass file progress test leads (event ∷ events) (first, all) =
    passes_on file progress progress progress event events (leads event.seconds event.sign first) (all_pass file progress test leads events all)

-- events of a kind that leads nowhere, but that the rows among them are kept
pub rows_pass : (file : ℕ) (at : List Row → Progress) (test : Sign → Bool)
    → ((rows : List Row) (seconds : ℕ) (sign : Sign) → test sign ≡ true → Leads (at rows) seconds sign (at (rows ++ option_to_list (row_of sign))) None)
    → (rows : List Row) (events : List SignedEvent) → AllSigns test events
    → Passes file (at rows) events (at (rows ++ rows_in events))
rows_pass file at test leads rows [] all = ap (λ (list : List Row). ([], Reached (at list))) (sym (append-nil rows))
rows_pass file at test leads rows (event ∷ events) (first, all) =
    let before = rows ++ option_to_list (row_of event.sign) in
    let same : before ++ rows_in events ≡ rows ++ rows_in (event ∷ events) =
    append_assoc rows (option_to_list (row_of event.sign)) (rows_in events)
    ∙ ap (λ (list : List Row). rows ++ list) (sym (cons_option_list (row_of event.sign) (rows_in events))) in
    passes_on file (at rows) (at before) (at (rows ++ rows_in (event ∷ events))) event events (leads rows event.seconds event.sign first)
    (rows_pass file at test leads before events all ∙ ap (λ (list : List Row). ([], Reached (at list))) same)
