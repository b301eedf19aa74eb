-- What one turn of a job did.
use Rattle.std.specs.Prelude.{◌≡◌, ℕ, ◌+◌, ◌*◌, ◌≤◌, ◌<◌, ◌⊎◌, Bool, true, false, List, [], ◌++◌, length, get_or}
use Rattle.cdc_lane.specs.declared.plain.PlainLane.{PlainLane}
use Rattle.cdc_lane.specs.Held.{held, room_of, WentIn, CameOut}
use Rattle.cdc_turns.specs.declared.turn.Turn.{Turn}
use Rattle.cdc_turns.specs.declared.turn.Turn.TheVariants.{Moved, Blocked, Done}
use Rattle.cdc_turns.specs.Account.{Sender, Passer, Taker}
use Rattle.cdc_turns.specs.Joined.{joined, total, contents}

-- the turn moved
abbrev pub is_move : Turn → Bool
is_move Moved = true
is_move Blocked = false
is_move Done = false

-- one where something moved
abbrev pub one_if : Bool → ℕ
one_if true = 1
one_if false = 0

-- a job sent items, mostly one or none, onto its lane; what it sent before is followed by them; its work fell by one
-- move at least, and by what the items may cost
pub record Sends {J T : Type 0} (account : Sender J T) (old new : J) (lane later : PlainLane T) (turn : Turn) : Type 0 where
  pub items : List T
  pub flows : WentIn lane items later
  pub did : (window : ℕ) (before : List T) → account.sent old window before → account.sent new window (before ++ items)
  pub cost : (weight : ℕ) → account.work new weight + weight * length items + one_if (is_move turn) ≤ account.work old weight
  pub turned : account.turned old new

-- what the answer says of a job that sends: it had ended exactly where it answers Done, and it sent nothing where it
-- doesn't answer Moved; where it answers Blocked its lane is full
abbrev pub NodeSays : {J T : Type 0} → Sender J T → J → J → PlainLane T → PlainLane T → Turn → Type 0
NodeSays account old new lane later Moved = account.ended old ≡ false
NodeSays account old new lane later Blocked = (account.ended old ≡ false) × (account.ended new ≡ false) × (held later ≡ held lane) × (length (held later) ≡ room_of later)
NodeSays account old new lane later Done = (account.ended old ≡ true) × (account.ended new ≡ true) × (held later ≡ held lane)

-- a job took items from the front of its lane
pub record TakesItems {J U : Type 0} (account : Taker J U) (old new : J) (lane later : PlainLane U) (turn : Turn) : Type 0 where
  pub items : List U
  pub flows : CameOut lane items later
  pub did : (window : ℕ) (before : List U) → account.got old window before → account.got new window (before ++ items)
  pub cost : account.work new + one_if (is_move turn) ≤ account.work old + account.price * length items
  pub turned : account.turned old items new

-- what the answer says of a job that takes; where it answers Blocked its lane is empty
abbrev pub DumpSays : {J U : Type 0} → Taker J U → J → J → PlainLane U → PlainLane U → Turn → Type 0
DumpSays account old new lane later Moved = account.ended old ≡ false
DumpSays account old new lane later Blocked = (account.ended old ≡ false) × (account.ended new ≡ false) × (held later ≡ held lane) × (held later ≡ [])
DumpSays account old new lane later Done = (account.ended old ≡ true) × (account.ended new ≡ true) × (held later ≡ held lane)

-- a job took items from some lanes and gave items onto others; what one that it took may cost pays for its own moves
-- and for what it gave
pub record Passes {J T U : Type 0} (account : Passer J T U) (old new : J) (ins ins_later : List (PlainLane T)) (outs outs_later : List (PlainLane U)) (turn : Turn) : Type 0 where
  pub taken : List (List T)
  pub given : List (List U)
  pub flows_in : contents ins ≡ joined taken (contents ins_later)
  pub flows_out : contents outs_later ≡ joined (contents outs) given
  pub did : (window : ℕ) (takes : List (List T)) (gives : List (List U)) → account.did old window takes gives → account.did new window (joined takes taken) (joined gives given)
  pub weighs : (price : ℕ) → account.weight new price ≡ account.weight old price
  pub cost : (price : ℕ) → account.work new price + price * total given + one_if (is_move turn) ≤ account.work old price + account.weight old price * total taken
  pub width_in : length (account.took new) ≡ length (account.took old)
  pub width_out : length (account.gave new) ≡ length (account.gave old)
  pub turned : account.turned old new

-- a lane is empty
abbrev pub IsEmptyAt : {T : Type 0} → List (PlainLane T) → ℕ → Type 0
IsEmptyAt {T} lanes index = (index < length lanes) × ((d : PlainLane T) → held (get_or lanes index d) ≡ [])

-- a lane is full
abbrev pub IsFullAt : {T : Type 0} → List (PlainLane T) → ℕ → Type 0
IsFullAt {T} lanes index = (index < length lanes) × ((d : PlainLane T) → length (held (get_or lanes index d)) ≡ room_of (get_or lanes index d))

-- it waits for a lane: one that is empty and from which the End is to come, or one that is full and wants the End
abbrev pub WaitsFor : {J T U : Type 0} → Passer J T U → J → List (PlainLane T) → List (PlainLane U) → Type 0
WaitsFor account job ins outs =
    ((index : ℕ) × IsEmptyAt ins index × (get_or (account.took job) index true ≡ false))
    ⊎ ((index : ℕ) × IsFullAt outs index × (get_or (account.gave job) index true ≡ false))

-- nothing moved through the lanes, and no End either
pub record RestsAs {J T U : Type 0} (account : Passer J T U) (old new : J) (ins ins_later : List (PlainLane T)) (outs outs_later : List (PlainLane U)) : Type 0 where
  pub held_in : contents ins_later ≡ contents ins
  pub held_out : contents outs_later ≡ contents outs
  pub took : account.took new ≡ account.took old
  pub gave : account.gave new ≡ account.gave old

-- what the answer says of a job that passes on
abbrev pub MergeSays : {J T U : Type 0} → Passer J T U → J → J → List (PlainLane T) → List (PlainLane T) → List (PlainLane U) → List (PlainLane U) → Turn → Type 0
MergeSays account old new ins ins_later outs outs_later Moved = account.ended old ≡ false
MergeSays account old new ins ins_later outs outs_later Blocked = (account.ended old ≡ false) × (account.ended new ≡ false) × RestsAs account old new ins ins_later outs outs_later × WaitsFor account new ins_later outs_later
MergeSays account old new ins ins_later outs outs_later Done = (account.ended old ≡ true) × (account.ended new ≡ true) × RestsAs account old new ins ins_later outs outs_later
