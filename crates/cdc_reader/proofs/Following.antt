-- What a cutter and a grouper find, step by step.
use Rattle.std.proofs.Common.{◌≡◌, ℕ, ◌+◌, List, [], ◌∷◌, ◌++◌, map, Option, Some, None, Ok, Err, ap, sym, subst, refl, ◌∙◌, append-nil}
use Rattle.std.specs.Option.{option_to_list}
use Rattle.std.proofs.lemmas.List.{map-append}
use Rattle.cdc_base.specs.declared.place.Place.{Place}
use Rattle.cdc_event.specs.declared.event.Event.{Event}
use Rattle.cdc_event.specs.declared.fault.FileFault.{FileFault}
use Rattle.cdc_event.specs.File.{PlacedEvent, AreEventsFrom, GrownFileContinues}
use Rattle.cdc_cutter.specs.declared.state.CutterState.{CutterState}
use Rattle.cdc_cutter.specs.declared.state.CutterState.TheVariants.{Start, First, Behind, Faulty}
use Rattle.cdc_cutter.specs.Cutting.{Cutting, Holds, placed_event, next_file_of, IsGoingOn}
use Rattle.cdc_model.specs.declared.fault.GroupFault.{GroupFault}
use Rattle.cdc_model.specs.declared.fault.NodeFault.{NodeFault}
use Rattle.cdc_model.specs.declared.fault.NodeFault.TheVariants.{File, Group}
use Rattle.cdc_model.specs.Records.{LogEntry}
use Rattle.cdc_model.specs.Sign.{SignedEvent, signed}
use Rattle.cdc_model.specs.Group.{Progress, Out}
use Rattle.cdc_model.specs.Misfit.{misfit}
use Rattle.cdc_model.specs.Entries.{ReadsTo}
use Rattle.cdc_model.specs.Advance.{ReadingBegins, OneEventMore, MisplacedEventEnds, advance, entry_given}
use Rattle.cdc_group.specs.declared.error.GroupError.{GroupError}
use Rattle.cdc_group.specs.declared.error.GroupError.TheVariants.{Fault as Misfit, Memory as Wanting}
use Rattle.cdc_group.specs.Grouping.{Grouping, Goes, ended_file, fault_at, gone_on, entry_ended}
use Rattle.cdc_group.specs.Taking.{TakesEvent, taken_event}
use Rattle.cdc_reader.specs.declared.follower.Follower.{Follower}
use Rattle.cdc_reader.specs.Fed.{Follows, EndsFile, FindsNext, found_of, refusal_of}
use Rattle.cdc_reader.proofs.Finding.{ends_by_bytes, ends_by_event}

-- a cutter that was fed a piece besides
abbrev pub FedOn : Cutting → List ℕ → Cutting → Type 0
FedOn old piece new = (start checksum : ℕ) (fed : List ℕ) (given : List PlacedEvent) → Holds old start checksum fed given → Holds new start checksum (fed ++ piece) given

-- what is followed, with a piece more
abbrev pub FollowsOn : Follower → List ℕ → Follower → Type 0
FollowsOn old piece new = (file start checksum : ℕ) (fed : List ℕ) (own : List LogEntry) → Follows old file start checksum fed own → Follows new file start checksum (fed ++ piece) own

pub fed_on : (old : Follower) (cutter : Cutting) (piece : List ℕ) → cutter.file ≡ old.cutter.file → FedOn old.cutter piece cutter
    → FollowsOn old piece record { cutter = cutter; grouper = old.grouper }
fed_on old cutter piece file on number start checksum fed own follows = record {
  given = follows.given;
  progress = follows.progress;
  in_file = file ∙ follows.in_file;
  cut = on start checksum fed follows.given follows.cut;
  standing = follows.standing;
  reads = follows.reads;
}

-- ---- the next file

no_fault_met : (state : CutterState) → IsGoingOn state → (fault : FileFault) → state ≡ Faulty fault → ⊥
no_fault_met Start going fault e = cc
no_fault_met First going fault e = cc
no_fault_met Behind going fault e = cc
no_fault_met (Faulty other) going fault e = going

next_number : (state : CutterState) (old : Cutting) → IsGoingOn state → (next_file_of state old).file ≡ old.file + 1
next_number Start old going = refl
next_number First old going = refl
next_number Behind old going = refl
next_number (Faulty other) old going = absurd going

pub next_start : (state : CutterState) (old new : Cutting) → IsGoingOn state → new ≡ next_file_of state old
    → (new.file ≡ old.file + 1) × (new.at ≡ 0) × (new.rest ≡ [])
next_start Start old new going is = (ap (λ (c : Cutting). c.file) is, ap (λ (c : Cutting). c.at) is, ap (λ (c : Cutting). c.rest) is)
next_start First old new going is = (ap (λ (c : Cutting). c.file) is, ap (λ (c : Cutting). c.at) is, ap (λ (c : Cutting). c.rest) is)
next_start Behind old new going is = (ap (λ (c : Cutting). c.file) is, ap (λ (c : Cutting). c.at) is, ap (λ (c : Cutting). c.rest) is)
next_start (Faulty other) old new going is = absurd going

pub next_goes : (state : CutterState) (old new : Cutting) → IsGoingOn state → new ≡ next_file_of state old → IsGoingOn new.state
next_goes Start old new going is = subst (λ (c : Cutting). IsGoingOn c.state) (sym is) tt
next_goes First old new going is = subst (λ (c : Cutting). IsGoingOn c.state) (sym is) tt
next_goes Behind old new going is = subst (λ (c : Cutting). IsGoingOn c.state) (sym is) tt
next_goes (Faulty other) old new going is = absurd going

pub follows_next : ReadingBegins → (old new : Follower) → new.cutter ≡ next_file_of old.cutter.state old.cutter
    → (((fault : FileFault) → old.cutter.state ≡ Faulty fault → ⊥) → (checksum : ℕ) → Holds new.cutter 0 checksum [] [])
    → new.grouper ≡ ended_file old.grouper → IsGoingOn old.cutter.state → (progress : Progress) → old.grouper ≡ Goes progress → (checksum : ℕ)
    → Follows new (old.cutter.file + 1) 0 checksum [] []
follows_next law old new cutter holds grouper going progress standing checksum = record {
  given = [];
  progress = Out;
  in_file = ap (λ (c : Cutting). c.file) cutter ∙ next_number old.cutter.state old.cutter going;
  cut = holds (no_fault_met old.cutter.state going) checksum;
  standing = grouper ∙ ap ended_file standing;
  reads = law (old.cutter.file + 1);
}

-- ---- an event

pub follows_event : OneEventMore → (file start checksum : ℕ) (old new : Follower) (fed : List ℕ) (own : List LogEntry) (at end : Place) (event : Event)
    (setting : ℕ) (entry : Option LogEntry) (follows : Follows old file start checksum fed own) → at.file ≡ file → new.cutter.file ≡ file
    → Holds new.cutter start checksum fed (follows.given ++ placed_event at end event setting ∷ [])
    → TakesEvent at.file (taken_event at end setting event) old.grouper new.grouper (Ok entry)
    → Follows new file start checksum fed (own ++ option_to_list entry)
follows_event law file start checksum old new fed own at end event setting entry follows here later holds takes =
    let next : SignedEvent = taken_event at end setting event in
    let progress : Progress = follows.progress in
    let fits : misfit progress next.sign ≡ None = ap (λ (g : Grouping). fault_at g next.sign) (sym follows.standing) ∙ takes.0 in
    let made : entry ≡ entry_given file progress next =
    takes.2 ∙ ap (λ (g : Grouping). entry_ended at.file g next) follows.standing ∙ ap (λ (f : ℕ). entry_given f progress next) here in
    let reads = law file (map signed follows.given) own progress next follows.reads fits in
    record {
      given = follows.given ++ placed_event at end event setting ∷ [];
      progress = advance progress next.sign;
      in_file = later;
      cut = holds;
      standing = takes.1 ∙ ap (λ (g : Grouping). gone_on g next.sign) follows.standing;
      reads =
          subst (λ (list : List SignedEvent). ReadsTo file list (own ++ option_to_list entry) (advance progress next.sign))
          (sym (map-append signed follows.given (placed_event at end event setting ∷ [])))
          (subst (λ (e : Option LogEntry). ReadsTo file (map signed follows.given ++ next ∷ []) (own ++ option_to_list e) (advance progress next.sign)) (sym made) reads);
    }

pub finds_event : (file start checksum : ℕ) (new : Follower) (fed : List ℕ) (own : List LogEntry) (entry : Option LogEntry)
    → Follows new file start checksum fed (own ++ option_to_list entry) → FindsNext file start checksum fed own new (found_of entry)
finds_event file start checksum new fed own None follows = subst (Follows new file start checksum fed) (append-nil own) follows
finds_event file start checksum new fed own (Some entry) follows = follows

-- ---- faults

place_is : (place : Place) (file : ℕ) → place.file ≡ file → record { file = file; at = place.at } ≡ place
place_is place file is = ap (λ (n : ℕ). record { file = n; at = place.at }) (sym is)

ends_at : (file start checksum : ℕ) (fed : List ℕ) (own : List LogEntry) (place other : Place) (fault : NodeFault) → place ≡ other
    → EndsFile file start checksum fed own (Some (place, fault)) → EndsFile file start checksum fed own (Some (other, fault))
ends_at file start checksum fed own place other fault is ends = subst (λ (p : Place). EndsFile file start checksum fed own (Some (p, fault))) is ends

pub finds_bytes_fault : GrownFileContinues → (file start checksum : ℕ) (old : Follower) (fed : List ℕ) (own : List LogEntry) (place : Place) (wrong : FileFault)
    (follows : Follows old file start checksum fed own) → place.file ≡ old.cutter.file → AreEventsFrom start checksum fed follows.given (Some (place.at, wrong))
    → EndsFile file start checksum fed own (Some (place, File wrong))
finds_bytes_fault grown file start checksum old fed own place wrong follows here read =
    ends_at file start checksum fed own record { file = file; at = place.at } place (File wrong) (place_is place file (here ∙ follows.in_file))
    (ends_by_bytes grown file start checksum fed follows.given own follows.progress place.at wrong read follows.reads)

same_refusal : (fault wrong : GroupFault) → Some fault ≡ Some wrong → fault ≡ wrong
same_refusal fault wrong e = cc

refused_for : (error : GroupError) (wrong : GroupFault) (event : SignedEvent) (old new : Grouping) (file : ℕ) → refusal_of error ≡ Some wrong
    → TakesEvent file event old new (Err error) → fault_at old event.sign ≡ Some wrong
refused_for (Misfit fault) wrong event old new file is takes = takes.0 ∙ is
refused_for Wanting wrong event old new file is takes = absurd (let e : None ≡ Some wrong = is in cc)

pub finds_misfit : MisplacedEventEnds → (file start checksum : ℕ) (old : Follower) (cutter : Cutting) (grouper : Grouping) (fed : List ℕ) (own : List LogEntry)
    (at end : Place) (event : Event) (setting : ℕ) (error : GroupError) (wrong : GroupFault) (follows : Follows old file start checksum fed own)
    → at.file ≡ old.cutter.file → Holds cutter start checksum fed (follows.given ++ placed_event at end event setting ∷ [])
    → TakesEvent at.file (taken_event at end setting event) old.grouper grouper (Err error) → refusal_of error ≡ Some wrong
    → EndsFile file start checksum fed own (Some (at, Group wrong))
finds_misfit law file start checksum old cutter grouper fed own at end event setting error wrong follows here holds takes is =
    let told = refused_for error wrong (taken_event at end setting event) old.grouper grouper at.file is takes in
    let misfits : misfit follows.progress (taken_event at end setting event).sign ≡ Some wrong =
    ap (λ (g : Grouping). fault_at g (taken_event at end setting event).sign) (sym follows.standing) ∙ told in
    ends_at file start checksum fed own record { file = file; at = at.at } at (Group wrong) (place_is at file (here ∙ follows.in_file))
    (ends_by_event law file start checksum cutter fed follows.given (placed_event at end event setting) own follows.progress wrong holds follows.reads misfits)

-- want of memory leaves the grouper as it was
pub kept_on_memory : (error : GroupError) (event : SignedEvent) (old new : Grouping) (file : ℕ) → refusal_of error ≡ None
    → TakesEvent file event old new (Err error) → new ≡ old
kept_on_memory (Misfit fault) event old new file is takes = absurd (let e : Some fault ≡ None = is in cc)
kept_on_memory Wanting event old new file is takes = takes.1
