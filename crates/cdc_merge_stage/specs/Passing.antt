-- What the steps of a turn do to a merge stage.
use Rattle.std.specs.Prelude.{◌≡◌, ℕ, ◌+◌, ◌*◌, ◌≤◌, ◌<◌, ◌⊎◌, Bool, true, false, List, [], ◌∷◌, length, map, get_or, set, Option, Some, None, is_some, if◌then◌else◌}
use Rattle.cdc_model.specs.Records.{Transaction, OutputUnit}
use Rattle.cdc_model.specs.Feed.{NodeFeed, merged_transactions}
use Rattle.cdc_merger.specs.Merging.{IsGivenInTime, given_branch, told_bound}
use Rattle.cdc_turns.specs.declared.turn.Turn.{Turn}
use Rattle.cdc_turns.specs.declared.turn.Turn.TheVariants.{Moved, Blocked, Done}
use Rattle.cdc_turns.specs.Joined.{nothing_for, AllTurned, total}
use Rattle.cdc_turns.specs.Turns.{is_move, one_if}
use Rattle.cdc_item.specs.declared.node_item.NodeItem.{NodeItem}
use Rattle.cdc_item.specs.declared.node_item.NodeItem.TheVariants.{Branch, Bound, End as NodeEnd}
use Rattle.cdc_item.specs.declared.dump_item.DumpItem.{DumpItem}
use Rattle.cdc_item.specs.declared.dump_item.DumpItem.TheVariants.{Unit as OneUnit}
use Rattle.cdc_item.specs.Item.{closes_node_window}
use Rattle.cdc_merge_stage.specs.declared.start.MergeStart.{MergeStart}
use Rattle.cdc_merge_stage.specs.declared.merge_end.MergeEnd.TheVariants.{Open, Memory}
use Rattle.cdc_merge_stage.specs.declared.stage.MakeStep.{MakeStep}
use Rattle.cdc_merge_stage.specs.declared.stage.MakeStep.TheVariants.{Filled, Ended, Nothing}
use Rattle.cdc_merge_stage.specs.Making.{MakerState, Makes, IsHigher, unit_behind}
use Rattle.cdc_merge_stage.specs.Merged.{MergeState, MergeDid, HasGivenUnits, IsSameMerge, AreKept, feeds_of, merge_work, unit_cost, HasPassed, has_ended, has_given, all_none}

-- of the nodes before a place, none whose End is to come has told a lower bound
abbrev pub IsLeastBelow : List Bool → List ℕ → ℕ → ℕ → Type 0
IsLeastBelow took bounds place node = (other : ℕ) → other < place → get_or took other true ≡ false → get_or bounds node 0 ≤ get_or bounds other 0

-- the maker has taken an item of a node, where the item was in time
abbrev pub MakerTakes : MakerState → MakerState → MergeStart → List NodeFeed → List Transaction → ℕ → NodeItem → Type 0
MakerTakes old new start feeds gave node (Branch branch) = IsGivenInTime start.last (node + 1) branch feeds → Makes new start (given_branch (node + 1) branch feeds) gave
MakerTakes old new start feeds gave node (Bound bound) = IsHigher (node + 1) bound feeds → Makes new start (told_bound (node + 1) bound feeds) gave
MakerTakes old new start feeds gave node NodeEnd = Makes new start feeds gave

-- the item of a node was taken: the maker has it, or there was no memory; one that failed before drops it
pub record HasAccepted (old : MergeState) (node : ℕ) (item : NodeItem) (new : MergeState) : Type 0 where
  pub took : new.took ≡ (if closes_node_window item then set old.took node true else old.took)
  pub slots : new.slots ≡ old.slots
  pub closing : new.closing ≡ old.closing
  pub start : new.start ≡ old.start
  pub behind : new.behind ≡ old.behind
  pub rules : new.maker.rules ≡ old.maker.rules
  pub rotation : new.maker.rotation ≡ old.maker.rotation
  pub credit : new.maker.credit ≤ old.maker.credit + 1
  pub ends : (new.end ≡ old.end) ⊎ ((old.end ≡ Open) × (new.end ≡ Memory))
  pub makes : old.end ≡ Open → new.end ≡ Open → (start : MergeStart) (feeds : List NodeFeed) (gave : List Transaction) → Makes old.maker start feeds gave → MakerTakes old.maker new.maker start feeds gave node item

-- an item came off a node's lane, or that lane was empty
abbrev pub TakesOff : {I : Type 0} → (I → List NodeItem → I → Type 0) → (I → Type 0) → MergeState → List I → ℕ → MergeState → List I → Turn → Type 0
TakesOff {I} moved empty old ins node new later Moved = (item : NodeItem) × HasAccepted old node item new × AllTurned moved ins (set (nothing_for ins) node (item ∷ [])) later
TakesOff {I} moved empty old ins node new later Blocked = (new ≡ old) × AllTurned moved ins (nothing_for ins) later × ((d : I) → empty (get_or later node d))
TakesOff {I} moved empty old ins node new later Done = ⊥

-- a stage for whose lanes other things wait
abbrev pub slotted : MergeState → List (Option DumpItem) → MergeState
slotted old slots = record { maker = old.maker; start = old.start; behind = old.behind; took = old.took; slots = slots; closing = old.closing; end = old.end }

-- nothing waits for a lane any more, and for the others what did
abbrev pub pushed : MergeState → ℕ → MergeState
pushed old out = slotted old (set old.slots out None)

-- what waited for an output's lane went onto it, or that lane was full
abbrev pub Pushes : {O : Type 0} → (O → List DumpItem → O → Type 0) → (O → Type 0) → MergeState → List O → ℕ → MergeState → List O → Turn → Type 0
Pushes {O} moved full old outs out new later Moved = (item : DumpItem) × (get_or old.slots out None ≡ Some item) × (new ≡ pushed old out) × AllTurned moved outs (set (nothing_for outs) out (item ∷ [])) later
Pushes {O} moved full old outs out new later Blocked = (new ≡ old) × AllTurned moved outs (nothing_for outs) later × ((d : O) → full (get_or later out d))
Pushes {O} moved full old outs out new later Done = ⊥

-- what waited for the first lane went onto it or not, or nothing waited
abbrev pub PushesFirst : {O : Type 0} → (O → List DumpItem → O → Type 0) → (O → Type 0) → MergeState → List O → MergeState → List O → Turn → Type 0
PushesFirst {O} moved full old outs new later turn =
    ((out : ℕ) × (out < length old.slots) × (is_some (get_or old.slots out None) ≡ true) × Pushes moved full old outs out new later turn)
    ⊎ ((all_none old.slots ≡ true) × (new ≡ old) × (later ≡ outs) × (turn ≡ Moved))

-- a unit waits for each lane, and the stage stands behind it; or there was no memory and nothing waits
abbrev pub HasFilled : MergeState → OutputUnit → MergeState → MakeStep → Type 0
HasFilled old unit new Filled = (new.slots ≡ map (λ _. Some (OneUnit unit)) old.slots) × (new.end ≡ old.end) × (new.behind ≡ unit_behind unit)
HasFilled old unit new Ended = (new.slots ≡ old.slots) × (new.end ≡ Memory) × (new.behind ≡ old.behind)
HasFilled old unit new Nothing = ⊥

-- all that was taken was given, and no more is settled
pub record IsQuiet (s : MergeState) (takes : List (List NodeItem)) (gives : List (List DumpItem)) : Type 0 where
  pub merged : HasGivenUnits s (feeds_of takes) gives
  pub all : merged.gave ≡ merged_transactions s.start.count (feeds_of takes)

-- what was made of what the nodes gave
abbrev pub AfterMake : ℕ → MergeState → List (List NodeItem) → List (List DumpItem) → MakeStep → Type 0
AfterMake window new takes gives Filled = MergeDid window new takes gives
AfterMake window new takes gives Ended = MergeDid window new takes gives
AfterMake window new takes gives Nothing = MergeDid window new takes gives × (AreKept new.start takes → IsQuiet new takes gives)

-- making something is paid for
abbrev pub MakeCosts : MergeState → MergeState → ℕ → MakeStep → Type 0
MakeCosts old new price Filled = merge_work new price + 1 ≤ merge_work old price
MakeCosts old new price Ended = merge_work new price + 1 ≤ merge_work old price
MakeCosts old new price Nothing = merge_work new price ≤ merge_work old price

-- how the stage is after it
abbrev pub MakeLeaves : MergeState → MergeState → MakeStep → Type 0
MakeLeaves old new Filled = new.end ≡ old.end
MakeLeaves old new Ended = new.slots ≡ old.slots
MakeLeaves old new Nothing = (new.end ≡ old.end) × (new.slots ≡ old.slots)

-- it waits for a lane: a node's that is empty and from which the End is to come, or an output's that is full and wants it
abbrev pub WaitsAt : {I O : Type 0} → (I → Type 0) → (O → Type 0) → MergeState → List I → List O → Type 0
WaitsAt {I} {O} empty full new ins outs =
    ((node : ℕ) × (node < length ins) × ((d : I) → empty (get_or ins node d)) × (get_or new.took node true ≡ false))
    ⊎ ((out : ℕ) × (out < length outs) × ((d : O) → full (get_or outs out d)) × (get_or (map (has_given new.closing) new.slots) out true ≡ false))

-- no item was taken or given, and no End
pub record IsStill {I O : Type 0} (old : MergeState) (taken : List (List NodeItem)) (given : List (List DumpItem)) (new : MergeState) (ins : List I) (outs : List O) : Type 0 where
  pub none_taken : taken ≡ nothing_for ins
  pub none_given : given ≡ nothing_for outs
  pub took : new.took ≡ old.took
  pub gave : map (has_given new.closing) new.slots ≡ map (has_given old.closing) old.slots

-- what a turn's answer says
abbrev pub TurnSays : {I O : Type 0} → (I → Type 0) → (O → Type 0) → MergeState → List (List NodeItem) → List (List DumpItem) → MergeState → List I → List O → Turn → Type 0
TurnSays empty full old taken given new ins outs Moved = has_ended old ≡ false
TurnSays empty full old taken given new ins outs Blocked = (has_ended old ≡ false) × (has_ended new ≡ false) × IsStill old taken given new ins outs × WaitsAt empty full new ins outs
TurnSays empty full old taken given new ins outs Done = (has_ended old ≡ true) × (has_ended new ≡ true) × IsStill old taken given new ins outs

-- one turn: what was taken and given, what it cost, and what the answer says
pub record MergeTurn {I O : Type 0} (empty : I → Type 0) (full : O → Type 0) (old : MergeState) (taken : List (List NodeItem)) (given : List (List DumpItem)) (new : MergeState) (ins : List I) (outs : List O) (turn : Turn) : Type 0 where
  pub passed : HasPassed old taken given new
  pub cost : (price : ℕ) → merge_work new price + price * total given + one_if (is_move turn) ≤ merge_work old price + (unit_cost old price + 1) * total taken
  pub says : TurnSays empty full old taken given new ins outs turn

-- a stage comes to another without a lane, at some cost
pub record ComesTo (old mid : MergeState) (slack : ℕ) : Type 0 where
  pub did : (window : ℕ) (takes : List (List NodeItem)) (gives : List (List DumpItem)) → MergeDid window old takes gives → MergeDid window mid takes gives
  pub same : IsSameMerge old mid
  pub took : mid.took ≡ old.took
  pub gave : map (has_given mid.closing) mid.slots ≡ map (has_given old.closing) old.slots
  pub cost : (price : ℕ) → merge_work mid price + slack ≤ merge_work old price
  pub going : has_ended old ≡ false

-- an item off a node's lane, or onto an output's, and what a turn says: all in one
abbrev pub Turned : {I O : Type 0} → (I → List NodeItem → I → Type 0) → (I → Type 0) → (O → List DumpItem → O → Type 0) → (O → Type 0) → MergeState → List I → List O → MergeState → List I → List O → Turn → Type 0
Turned {I} {O} moved_in empty moved_out full old ins outs new ins_later outs_later turn =
    (taken : List (List NodeItem)) × (given : List (List DumpItem)) × AllTurned moved_in ins taken ins_later × AllTurned moved_out outs given outs_later × MergeTurn empty full old taken given new ins_later outs_later turn
