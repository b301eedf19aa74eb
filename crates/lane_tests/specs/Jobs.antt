-- What the tests' jobs tell of themselves.
use Rattle.std.specs.Prelude.{◌≡◌, ℕ, ◌+◌, ◌-◌, ◌*◌, Bool, true, false, [], ◌∷◌, length, if◌then◌else◌}
use Rattle.std.specs.List.{AllZip}
use Rattle.cdc_lane.specs.declared.plain.PlainLane.{PlainLane}
use Rattle.cdc_lane.specs.Held.{held, room_of, WentIn, CameOut}
use Rattle.cdc_turns.specs.declared.turn.Turn.{Turn}
use Rattle.cdc_turns.specs.declared.turn.Turn.TheVariants.{Moved, Blocked, Done}
use Rattle.cdc_turns.specs.Account.{Sender, Passer, Taker}
use Rattle.cdc_turns.specs.Ends.{EndsAs}
use Rattle.lane_tests.specs.declared.item.Item.{Item}
use Rattle.lane_tests.specs.declared.item.Item.TheVariants.{Number, End}
use Rattle.lane_tests.specs.declared.feeder.Feeder.{Feeder}
use Rattle.lane_tests.specs.declared.keeper.Keeper.{Keeper}
use Rattle.lane_tests.specs.declared.relay.State.{State}
use Rattle.lane_tests.specs.declared.relay.State.TheVariants.{Taking, Holding, Ending, Over}
use Rattle.lane_tests.specs.declared.relay.Relay.{Relay}
use Rattle.lane_tests.specs.Item.{is_closing}

-- how many items a feeder has yet to send in its window
abbrev pub items_left : Feeder → ℕ
items_left job = if job.ended then 0 else (job.upto - job.next) + 1

-- what a feeder tells: its Ends close its windows, and each item costs a move
abbrev pub feeder_account : Sender Feeder Item
feeder_account = record {
  sent = λ job window items. EndsAs is_closing window job.ended items;
  ended = λ job. job.ended;
  work = λ job weight. items_left job * (weight + 1);
  turned = λ old new. Unit {0};
}

-- what a keeper tells: the Ends that came close its windows, and each item costs a move
abbrev pub keeper_account : Taker Keeper Item
keeper_account = record {
  got = λ job window items. EndsAs is_closing window job.ended items;
  ended = λ job. job.ended;
  work = λ job. 0;
  price = 1;
  turned = λ old items new. Unit {0};
}

-- whether a relay has taken the End
abbrev pub has_taken : State → Bool
has_taken Taking = false
has_taken (Holding number) = false
has_taken Ending = true
has_taken Over = true

-- whether it has given the End
abbrev pub has_given_number : State → Bool
has_given_number Taking = false
has_given_number (Holding number) = false
has_given_number Ending = false
has_given_number Over = true

-- whether it holds an item
abbrev pub is_holding : State → Bool
is_holding Taking = false
is_holding (Holding number) = true
is_holding Ending = true
is_holding Over = false

-- what a relay tells: an item costs a move to be taken, and one to be given
abbrev pub relay_account : Passer Relay Item Item
relay_account = record {
  did = λ job window takes gives. AllZip (EndsAs is_closing window) (has_taken job.state ∷ []) takes × AllZip (EndsAs is_closing window) (has_given_number job.state ∷ []) gives;
  took = λ job. has_taken job.state ∷ [];
  gave = λ job. has_given_number job.state ∷ [];
  ended = λ job. has_given_number job.state;
  work = λ job price. if is_holding job.state then price + 1 else 0;
  weight = λ job price. price + 2;
  turned = λ old new. Unit {0};
}

-- what a relay holds of an item
abbrev pub state_of : Item → State
state_of (Number number) = Holding number
state_of End = Ending

-- an item was taken off a lane, or the lane is empty
abbrev pub TakesOne : PlainLane Item → PlainLane Item → Turn → State → Type 0
TakesOne lane later Moved state = (item : Item) × CameOut lane (item ∷ []) later × (state ≡ state_of item)
TakesOne lane later Blocked state = CameOut lane [] later × (held later ≡ []) × (state ≡ Taking)
TakesOne lane later Done state = ⊥

-- an item went onto a lane, or the lane is full
abbrev pub GivesOne : PlainLane Item → PlainLane Item → Item → Bool → Type 0
GivesOne lane later item true = WentIn lane (item ∷ []) later
GivesOne lane later item false = WentIn lane [] later × (length (held later) ≡ room_of later)
