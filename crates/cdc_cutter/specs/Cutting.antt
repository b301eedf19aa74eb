-- What a cutter answers, over all bytes that it may have been fed.
use Rattle.std.specs.Prelude.{◌≡◌, ◌≢◌, ◌<◌, ◌≤◌, ◌^◌, ◌⊎◌, ℕ, zero, suc, ◌+◌, ◌-◌, true, false, List, [], ◌∷◌, ◌++◌, length, take, drop, Bool, Option, Some, None}
use Rattle.cdc_base.specs.declared.place.Place.{Place}
use Rattle.cdc_event.specs.declared.event.Event.{Event}
use Rattle.cdc_event.specs.declared.fault.FileFault.{FileFault}
use Rattle.cdc_event.specs.declared.fault.FileFault.TheVariants.{BadMagic, Event as EventIsFaulty}
use Rattle.cdc_event.specs.Event.{magic}
use Rattle.cdc_event.specs.File.{PlacedEvent, IsWhole, IsFaulty, IsUnfinished, setting_behind, AreEvents, AreFileEvents, AreEventsFrom}
use Rattle.cdc_cutter.specs.declared.state.CutterState.{CutterState}
use Rattle.cdc_cutter.specs.declared.state.CutterState.TheVariants.{Start, First, Behind, Faulty}
use Rattle.cdc_cutter.specs.declared.cut.Cut.{Cut}
use Rattle.cdc_cutter.specs.declared.cut.Cut.TheVariants.{Event as GivesEvent, Need, Fault as GivesFault}
use Rattle.cdc_event.specs.View.{event_viewed}
use Rattle.cdc_cutter.specs.declared.peek.Peek.{Peek}
use Rattle.cdc_cutter.specs.declared.peek.Peek.TheVariants.{Event as SeesNextEvent, Need as SeesNeed, Fault as SeesFault}
use Rattle.cdc_cutter.specs.declared.cutter.Cutter.TheInside.{Inside}
use Rattle.cdc_cutter.specs.Pending.{pending_bytes}

-- what a cutter keeps: its file, where the bytes begin that it hasn't cut, the setting there, how far it is in the file, and
-- these bytes
pub record Cutting : Type 0 where
  pub file : ℕ
  pub at : ℕ
  pub checksum : ℕ
  pub state : CutterState
  pub rest : List ℕ

-- a cutter, seen so
abbrev pub cutter_seen : Inside → Cutting
cutter_seen c = record { file = c.place.file; at = c.place.at; checksum = c.checksum; state = c.state; rest = pending_bytes c.pending }

-- at a file's start fewer than four bytes are there
abbrev pub IsAtStart : CutterState → ℕ → List ℕ → Type 0
IsAtStart Start at rest = (at ≡ 0) × (length rest < 4)
IsAtStart First at rest = Unit {0}
IsAtStart Behind at rest = Unit {0}
IsAtStart (Faulty fault) at rest = Unit {0}

-- what is true of each cutter: places stay below 2^63
pub record IsKeptCutter (c : Inside) : Type 0 where
  pub setting : c.checksum ≤ 1
  pub counted : c.place.at + length (pending_bytes c.pending) < 2 ^ 63
  pub start : IsAtStart c.state c.place.at (pending_bytes c.pending)

-- how a file's start, or the end of an event, is cutter_at with
abbrev pub state_at : ℕ → CutterState
state_at zero = Start
state_at (suc at) = Behind

-- a cutter with no bytes, at a place under a setting
abbrev pub cutter_at : ℕ → ℕ → ℕ → Cutting
cutter_at file at checksum = record { file = file; at = at; checksum = checksum; state = state_at at; rest = [] }

-- these bytes, read on from where a cutter stands, are these events, and then this fault or none
abbrev pub AreLeft : CutterState → ℕ → ℕ → List ℕ → List PlacedEvent → Option (ℕ × FileFault) → Type 0
AreLeft Start at checksum bytes events fault = AreFileEvents bytes events fault
AreLeft First at checksum bytes events fault = AreEvents true at checksum bytes events fault
AreLeft Behind at checksum bytes events fault = AreEvents false at checksum bytes events fault
AreLeft (Faulty wrong) at checksum bytes events fault = (events ≡ []) × (fault ≡ Some (at, wrong))

-- the cutter may have been fed these bytes of a file from a place on, under a setting there, and have given these events of them:
-- whatever more is fed, the events of all that was fed are those that were given and those of what is left
pub record Holds (cutter : Cutting) (start checksum : ℕ) (fed : List ℕ) (given : List PlacedEvent) : Type 0 where
  pub counted : cutter.at + length cutter.rest ≤ start + length fed
  pub forth : (more : List ℕ) (events : List PlacedEvent) (fault : Option (ℕ × FileFault))
      → AreLeft cutter.state cutter.at cutter.checksum (cutter.rest ++ more) events fault
      → AreEventsFrom start checksum (fed ++ more) (given ++ events) fault
  pub back : (more : List ℕ) (all : List PlacedEvent) (fault : Option (ℕ × FileFault))
      → AreEventsFrom start checksum (fed ++ more) all fault
      → (events : List PlacedEvent) × (all ≡ given ++ events)
      × AreLeft cutter.state cutter.at cutter.checksum (cutter.rest ++ more) events fault

-- an event that is given, where it stands in its file
abbrev pub placed_event : Place → Place → Event → ℕ → PlacedEvent
placed_event at end event setting = record { at = at.at; end = end.at; event = event; checksum = setting }

-- what the next call answers, to a cutter that was fed these bytes and has given these events: the next event of the bytes;
-- that they hold no more and no fault; or their fault
abbrev pub Answers : ℕ → ℕ → List ℕ → List PlacedEvent → Cutting → Cutting → Cut → Type 0
Answers start checksum fed given old new (GivesEvent at end event setting) =
    Holds new start checksum fed (given ++ placed_event at end event setting ∷ [])
    × ((all : List PlacedEvent) (fault : Option (ℕ × FileFault)) → AreEventsFrom start checksum fed all fault
    → (later : List PlacedEvent) × (all ≡ given ++ placed_event at end event setting ∷ later))
Answers start checksum fed given old new Need =
    Holds new start checksum fed given × AreEventsFrom start checksum fed given None
Answers start checksum fed given old new (GivesFault place fault) =
    Holds new start checksum fed given × AreEventsFrom start checksum fed given (Some (place.at, fault))

-- the state at which a file's first event begins, or another
abbrev pub BeginsEvent : Bool → CutterState → Type 0
BeginsEvent true state = state ≡ First
BeginsEvent false state = state ≡ Behind

-- the same in terms of the bytes that aren't cut: what is answered where an event may begin
abbrev pub CutsEvent : Bool → Cutting → Cutting → Cut → Type 0
CutsEvent first old new (GivesEvent at end event setting) =
    (piece rest : List ℕ) × (old.rest ≡ piece ++ rest) × IsWhole first old.checksum piece event
    × (at ≡ record { file = old.file; at = old.at }) × (end ≡ record { file = old.file; at = old.at + length piece })
    × (setting ≡ setting_behind old.checksum event.body)
    × (new ≡ record { file = old.file; at = old.at + length piece; checksum = setting; state = Behind; rest = rest })
CutsEvent first old new Need = IsUnfinished old.checksum old.rest × (new ≡ old)
CutsEvent first old new (GivesFault place BadMagic) = ⊥
CutsEvent first old new (GivesFault place (EventIsFaulty wrong)) =
    IsFaulty first old.checksum old.rest wrong × (place ≡ record { file = old.file; at = old.at })
    × (new ≡ record old { state = Faulty (EventIsFaulty wrong) })

-- and at each state
abbrev pub Cuts : CutterState → Cutting → Cutting → Cut → Type 0
Cuts Start old new cut = (cut ≡ Need) × (new ≡ old) × (length old.rest < 4)
Cuts First old new cut = CutsEvent true old new cut
Cuts Behind old new cut = CutsEvent false old new cut
Cuts (Faulty fault) old new cut = (cut ≡ GivesFault (record { file = old.file; at = old.at }) fault) × (new ≡ old)

-- the same answer with its event in place of the view
abbrev pub cut_viewed : Peek → Cut
cut_viewed (SeesNextEvent at end event setting) = GivesEvent at end (event_viewed event) setting
cut_viewed SeesNeed = Need
cut_viewed (SeesFault place fault) = GivesFault place fault

-- a cutter that has passed its bytes up to the end of an event, with this setting behind it
abbrev pub passed_to : Cutting → ℕ → ℕ → Cutting
passed_to old end setting = record { file = old.file; at = end; checksum = setting; state = Behind; rest = drop (end - old.at) old.rest }

-- the cutter behind an answer
abbrev pub behind_cut : Cutting → Cut → Cutting
behind_cut old (GivesEvent at end event setting) = passed_to old end.at setting
behind_cut old Need = old
behind_cut old (GivesFault place fault) = record old { state = Faulty fault }

-- an event may be passed, up to this end and with this setting behind it
pub record CanPass (cutter : Cutting) (end : Place) (setting : ℕ) : Type 0 where
  pub begins : (cutter.state ≡ First) ⊎ (cutter.state ≡ Behind)
  pub file : end.file ≡ cutter.file
  pub order : cutter.at ≤ end.at
  pub within : end.at ≤ cutter.at + length cutter.rest
  pub known : setting ≤ 1

-- the event that is seen may be passed
abbrev pub MayPass : Cutting → Peek → Type 0
MayPass cutter (SeesNextEvent at end event setting) = CanPass cutter end setting
MayPass cutter SeesNeed = Unit {0}
MayPass cutter (SeesFault place fault) = Unit {0}

-- an answer speaks of this file
abbrev pub IsInFile : ℕ → Cut → Type 0
IsInFile file (GivesEvent at end event setting) = (at.file ≡ file) × (end.file ≡ file)
IsInFile file Need = Unit {0}
IsInFile file (GivesFault place fault) = place.file ≡ file

-- no fault was met
abbrev pub IsGoingOn : CutterState → Type 0
IsGoingOn Start = Unit {0}
IsGoingOn First = Unit {0}
IsGoingOn Behind = Unit {0}
IsGoingOn (Faulty fault) = ⊥

-- what is passed at a file's start: the magic, once four bytes are there; four others are a fault
abbrev pub PassesMagic : List ℕ → List ℕ → CutterState → Type 0
PassesMagic bytes rest Start = (length bytes < 4) × (rest ≡ bytes)
PassesMagic bytes rest First = bytes ≡ magic ++ rest
PassesMagic bytes rest Behind = ⊥
PassesMagic bytes rest (Faulty fault) = (4 ≤ length bytes) × (take 4 bytes ≢ magic) × (fault ≡ BadMagic) × (rest ≡ bytes)

-- a cutter with one piece more, in terms of the bytes that aren't cut
abbrev pub TakesAtStart : CutterState → List ℕ → Cutting → Cutting → Type 0
TakesAtStart Start bytes old new = (length bytes < 4) × (new ≡ record old { rest = bytes })
TakesAtStart First bytes old new = (bytes ≡ magic ++ new.rest) × (new ≡ record { file = old.file; at = 4; checksum = 0; state = First; rest = new.rest })
TakesAtStart Behind bytes old new = ⊥
TakesAtStart (Faulty fault) bytes old new =
    (4 ≤ length bytes) × (take 4 bytes ≢ magic) × (fault ≡ BadMagic) × (old.at ≡ 0) × (new ≡ record old { rest = bytes; state = Faulty BadMagic })

-- the same where it is: behind the magic the piece is appended
abbrev pub Takes : CutterState → List ℕ → Cutting → Cutting → Type 0
Takes Start piece old new = TakesAtStart new.state (old.rest ++ piece) old new
Takes First piece old new = new ≡ record old { rest = old.rest ++ piece }
Takes Behind piece old new = new ≡ record old { rest = old.rest ++ piece }
Takes (Faulty fault) piece old new = new ≡ record old { rest = old.rest ++ piece }

-- the next file's start; after a fault nothing changes
abbrev pub next_file_of : CutterState → Cutting → Cutting
next_file_of Start old = cutter_at (old.file + 1) 0 old.checksum
next_file_of First old = cutter_at (old.file + 1) 0 old.checksum
next_file_of Behind old = cutter_at (old.file + 1) 0 old.checksum
next_file_of (Faulty fault) old = old
