-- What the table says of an event is what the grammar says of it.
use Rattle.std.proofs.Common.{◌≡◌, ℕ, List, [], ◌∷◌, ◌++◌, Option, Some, None, Result, Ok, Err, refl, ap, sym, subst, ◌∙◌, append_assoc}
use Rattle.std.specs.Option.{option_to_list}
use Rattle.cdc_model.specs.declared.fault.GroupFault.{GroupFault}
use Rattle.cdc_model.specs.Records.{LogEntry}
use Rattle.cdc_model.specs.Sign.{SignedEvent}
use Rattle.cdc_model.specs.Group.{Progress}
use Rattle.cdc_model.specs.Misfit.{misfit}
use Rattle.cdc_model.specs.Entries.{ReadsTo, CeasesToFit, FittingIsRead, MisfitsAreTold}
use Rattle.cdc_model.specs.Advance.{OneEventMore, ReadingBegins, advance, entry_given}
use Rattle.cdc_group.specs.declared.error.GroupError.{GroupError}
use Rattle.cdc_group.specs.declared.error.GroupError.TheVariants.{Fault, Memory}
use Rattle.cdc_group.specs.Grouping.{Grouping, Goes, Stopped, ended_file}
use Rattle.cdc_group.specs.Taking.{HasGrouped, Groups, TakesEvent}

-- the entries of a reading may be written in another way
given_as : (file : ℕ) (events : List SignedEvent) (given : List LogEntry) (entry other : Option LogEntry) (new : Grouping)
    → entry ≡ other → HasGrouped new file events (given ++ option_to_list other) → HasGrouped new file events (given ++ option_to_list entry)
given_as file events given entry other new e has =
    subst (λ (o : Option LogEntry). HasGrouped new file events (given ++ option_to_list o)) (sym e) has

stands_as : (file : ℕ) (events : List SignedEvent) (given : List LogEntry) (new other : Grouping)
    → new ≡ other → HasGrouped other file events given → HasGrouped new file events given
stands_as file events given new other e has = subst (λ (g : Grouping). HasGrouped g file events given) (sym e) has

-- an event that fits
fits_on : OneEventMore → FittingIsRead → (file : ℕ) (taken : List SignedEvent) (given : List LogEntry) (event : SignedEvent)
    (progress : Progress) (new : Grouping) (entry : Option LogEntry) → ReadsTo file taken given progress → misfit progress event.sign ≡ None
    → new ≡ Goes (advance progress event.sign) → entry ≡ entry_given file progress event
    → Groups file taken given event (Goes progress) new (Ok entry)
fits_on more fitting file taken given event progress new entry reads fit is made =
    let next = more file taken given progress event reads fit in
    let has : HasGrouped new file (taken ++ event ∷ []) (given ++ option_to_list (entry_given file progress event)) =
    stands_as file (taken ++ event ∷ []) (given ++ option_to_list (entry_given file progress event)) new (Goes (advance progress event.sign)) is next in (
      given_as file (taken ++ event ∷ []) given entry (entry_given file progress event) new made has,
      fitting.1 file (taken ++ event ∷ []) (given ++ option_to_list (entry_given file progress event)) (advance progress event.sign) next,
    )

-- an event that doesn't
ceases_at : MisfitsAreTold → (file : ℕ) (taken : List SignedEvent) (given : List LogEntry) (event : SignedEvent) (progress : Progress)
    (fault : GroupFault) → ReadsTo file taken given progress → misfit progress event.sign ≡ Some fault
    → CeasesToFit file (taken ++ event ∷ []) given event fault
ceases_at told file taken given event progress fault reads wrong = record {
  front = taken;
  behind = [];
  progress = progress;
  events_in_order = refl;
  reads = reads;
  ceases = (told file taken given progress event reads).1 fault wrong;
  kind = wrong;
}

-- events behind a fault change nothing
ceased_on : (file : ℕ) (taken : List SignedEvent) (given : List LogEntry) (event misplaced : SignedEvent) (fault : GroupFault)
    → CeasesToFit file taken given misplaced fault → CeasesToFit file (taken ++ event ∷ []) given misplaced fault
ceased_on file taken given event misplaced fault h = record {
  front = h.front;
  behind = h.behind ++ event ∷ [];
  progress = h.progress;
  events_in_order = ap (λ (events : List SignedEvent). events ++ event ∷ []) h.events_in_order ∙ append_assoc h.front (misplaced ∷ h.behind) (event ∷ []);
  reads = h.reads;
  ceases = h.ceases;
  kind = h.kind;
}

same_fault : (fault other : GroupFault) → Some fault ≡ Some other → other ≡ fault
same_fault fault other e = cc

no_fault : (fault : GroupFault) → Some fault ≡ None → ⊥
no_fault fault e = cc

pub answers : OneEventMore → FittingIsRead → MisfitsAreTold → (file : ℕ) (event : SignedEvent) (old new : Grouping)
    (result : Result (Option LogEntry) GroupError) → TakesEvent file event old new result
    → (taken : List SignedEvent) (given : List LogEntry) → HasGrouped old file taken given → Groups file taken given event old new result
answers more fitting told file event (Goes progress) new (Ok entry) takes taken given has =
    fits_on more fitting file taken given event progress new entry has takes.0 takes.1 takes.2
answers more fitting told file event (Stopped before) new (Ok entry) takes taken given has = absurd (no_fault before takes.0)
answers more fitting told file event (Goes progress) new (Err (Fault fault)) takes taken given has =
    let ceases = ceases_at told file taken given event progress fault has takes.0 in
    (stands_as file (taken ++ event ∷ []) given new (Stopped fault) takes.1 (event, ceases), ceases)
answers more fitting told file event (Stopped before) new (Err (Fault fault)) takes taken given has =
    let same = same_fault before fault takes.0 in
    let on : HasGrouped (Stopped before) file (taken ++ event ∷ []) given =
    (has.0, ceased_on file taken given event has.0 before has.1) in
    (stands_as file (taken ++ event ∷ []) given new (Stopped before) (takes.1 ∙ ap Stopped same) on, same)
answers more fitting told file event (Goes progress) new (Err Memory) takes taken given has =
    stands_as file taken given new (Goes progress) takes.1 has
answers more fitting told file event (Stopped before) new (Err Memory) takes taken given has =
    stands_as file taken given new (Stopped before) takes.1 has

-- behind a file's end no event of the next file is taken
pub begins : ReadingBegins → (file : ℕ) (old new : Grouping) → new ≡ ended_file old → ((fault : GroupFault) → old ≡ Stopped fault → ⊥)
    → HasGrouped new file [] []
begins begun file (Goes progress) new e goes = stands_as file [] [] new (ended_file (Goes progress)) e (begun file)
begins begun file (Stopped fault) new e goes = absurd (goes fault refl)
