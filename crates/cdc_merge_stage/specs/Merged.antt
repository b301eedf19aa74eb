-- How the merging goes on from window to window, and what the stage keeps.
use Rattle.std.specs.Prelude.{◌≡◌, ℕ, ◌+◌, ◌*◌, ◌≤◌, ◌<◌, ◌^◌, Bool, true, false, ◌&&◌, List, [], ◌∷◌, ◌++◌, length, map, count_by, Option, Some, None, is_none, if◌then◌else◌, ⊤}
use Rattle.std.specs.List.{AllZip, AllByRecursion, fold}
use Rattle.cdc_base.specs.declared.key.Key.{Key}
use Rattle.cdc_model.specs.Records.{Transaction}
use Rattle.cdc_model.specs.Branch.{is_settled}
use Rattle.cdc_model.specs.SettledOrder.{IsFront}
use Rattle.cdc_model.specs.Feed.{NodeFeed, merged_transactions}
use Rattle.cdc_model.specs.NodeReading.{no_feed}
use Rattle.cdc_merger.specs.Feeding.{with_branch, with_bound}
use Rattle.cdc_merger.specs.Merging.{IsOrderedFeed}
use Rattle.cdc_turns.specs.Account.{Passer}
use Rattle.cdc_turns.specs.Ends.{IsClosed, EndsAs}
use Rattle.cdc_turns.specs.Joined.{joined}
use Rattle.cdc_item.specs.declared.node_item.NodeItem.{NodeItem}
use Rattle.cdc_item.specs.declared.node_item.NodeItem.TheVariants.{Branch, Bound, End as NodeEnd}
use Rattle.cdc_item.specs.declared.dump_item.DumpItem.{DumpItem}
use Rattle.cdc_item.specs.declared.dump_item.DumpItem.TheVariants.{Unit as OneUnit, End}
use Rattle.cdc_item.specs.Item.{closes_node_window, closes_dump_window, units_among}
use Rattle.cdc_merge_stage.specs.declared.start.MergeStart.{MergeStart}
use Rattle.cdc_merge_stage.specs.declared.merge_end.MergeEnd.{MergeEnd}
use Rattle.cdc_merge_stage.specs.declared.merge_end.MergeEnd.TheVariants.{Open, Whole, TooLarge, Memory}
use Rattle.cdc_merge_stage.specs.Making.{MakerState, Makes, IsTooLarge, PrintFits, start_behind, units_behind}

-- the stage merges
abbrev pub merges_on : MergeEnd → Bool
merges_on Open = true
merges_on Whole = false
merges_on (TooLarge number bytes) = false
merges_on Memory = false

-- the end with which the next window begins
abbrev pub merge_end_again : MergeEnd → MergeEnd
merge_end_again Open = Open
merge_end_again Whole = Open
merge_end_again (TooLarge number bytes) = TooLarge number bytes
merge_end_again Memory = Memory

-- a merge stage: what it makes units of, where it began and where it would begin behind the last unit that it gave, from which
-- nodes the End has come, what waits for each output's lane, whether the Ends are given, and how it ended
pub record MergeState : Type 0 where
  pub maker : MakerState
  pub start : MergeStart
  pub behind : MergeStart
  pub took : List Bool
  pub slots : List (Option DumpItem)
  pub closing : Bool
  pub end : MergeEnd

-- these, as one
abbrev pub stage_with : MakerState → MergeStart → MergeStart → List Bool → List (Option DumpItem) → Bool → MergeEnd → MergeState
stage_with maker start behind took slots closing merge_end = record { maker = maker; start = start; behind = behind; took = took; slots = slots; closing = closing; end = merge_end }

-- all are true
abbrev pub all_true : List Bool → Bool
all_true [] = true
all_true (flag ∷ flags) = flag && all_true flags

-- nothing waits for a lane
abbrev pub all_none : List (Option DumpItem) → Bool
all_none [] = true
all_none (slot ∷ slots) = is_none slot && all_none slots

-- how many items wait for lanes
abbrev pub waiting_in : List (Option DumpItem) → ℕ
waiting_in [] = 0
waiting_in (None ∷ slots) = waiting_in slots
waiting_in (Some item ∷ slots) = waiting_in slots + 1

-- an output's lane has got the End
abbrev pub has_given : Bool → Option DumpItem → Bool
has_given closing slot = closing && is_none slot

-- each node's End has come, and each output has got its own
abbrev pub has_ended : MergeState → Bool
has_ended s = all_true s.took && (s.closing && all_none s.slots)

-- what is true of each merge stage, and of the bounds that its nodes told last
pub record IsKeptStage (s : MergeState) (bounds : List ℕ) : Type 0 where
  pub bounded : length bounds ≡ length s.took
  pub whole : s.end ≡ Whole → s.closing ≡ true
  pub nodes : length s.took ≡ length s.maker.merger.nodes
  pub few : length s.took ≤ 256
  pub all : s.closing ≡ true → all_true s.took ≡ true
  pub closed : s.closing ≡ true → merges_on s.end ≡ false

-- ---- what the nodes gave

-- a feed with one item more
abbrev pub fed : NodeFeed → NodeItem → NodeFeed
fed feed (Branch branch) = with_branch branch feed
fed feed (Bound bound) = with_bound bound feed
fed feed NodeEnd = feed

-- what a node's items give and tell
abbrev pub feed_of : List NodeItem → NodeFeed
feed_of items = fold fed no_feed items

-- what all nodes' items do
abbrev pub feeds_of : List (List NodeItem) → List NodeFeed
feeds_of takes = map feed_of takes

-- no branch comes behind a bound that settles it, and bounds don't fall
abbrev pub IsInTime : NodeFeed → List NodeItem → Type 0
IsInTime feed [] = ⊤
IsInTime feed (Branch branch ∷ items) = (is_settled feed.bound branch.key ≡ false) × IsInTime (with_branch branch feed) items
IsInTime feed (Bound bound ∷ items) = (feed.bound ≤ bound) × IsInTime (with_bound bound feed) items
IsInTime feed (NodeEnd ∷ items) = IsInTime feed items

-- what a node promises of its items: they are in time, and its branches in order and above a last key
pub record IsKeptItems (last : Key) (items : List NodeItem) : Type 0 where
  pub in_time : IsInTime no_feed items
  pub ordered : IsOrderedFeed last (feed_of items)

-- all nodes keep it
abbrev pub AreKept : MergeStart → List (List NodeItem) → Type 0
AreKept start takes = AllByRecursion (IsKeptItems start.last) takes

-- ---- what the outputs got

-- what waits for a lane, as items
abbrev pub items_in : Option DumpItem → List DumpItem
items_in None = []
items_in (Some item) = item ∷ []

-- nothing waits, or a unit
abbrev pub IsUnitOrNone : Option DumpItem → Type 0
IsUnitOrNone None = ⊤
IsUnitOrNone (Some (OneUnit unit)) = ⊤
IsUnitOrNone (Some End) = ⊥

-- an output's lane in a window: the End is to come, or waits, or was given
abbrev pub IsOut : ℕ → Bool → Option DumpItem → List DumpItem → Type 0
IsOut window false slot items = (count_by closes_dump_window items + 1 ≡ window) × IsUnitOrNone slot
IsOut window true None items = IsClosed closes_dump_window window items
IsOut window true (Some item) items = (count_by closes_dump_window items + 1 ≡ window) × (closes_dump_window item ≡ true)

-- what was made of feeds, by how the stage ended: where it is whole all that they settle; else a front of it, and with it the
-- transaction that is too large
abbrev pub HasMade : MergeState → List NodeFeed → List Transaction → MergeEnd → Type 0
HasMade s feeds gave Open = Makes s.maker s.start feeds gave
HasMade s feeds gave Whole = Makes s.maker s.start feeds gave × (gave ≡ merged_transactions s.start.count feeds)
HasMade s feeds gave (TooLarge number bytes) = IsTooLarge s.maker.rules s.start feeds gave number bytes
HasMade s feeds gave Memory = IsFront gave (merged_transactions s.start.count feeds)

-- each output has got the units of all transactions that were given, but for what waits for its lane; none of them is too
-- large or numbered above 2^62, and the stage knows where it stands behind them
pub record HasGivenUnits (s : MergeState) (feeds : List NodeFeed) (gives : List (List DumpItem)) : Type 0 where
  pub gave : List Transaction
  pub made : HasMade s feeds gave s.end
  pub fits : AllByRecursion (PrintFits s.maker.rules) gave
  pub few : 0 < length gave → s.start.count + length gave ≤ 2 ^ 62
  pub behind : s.behind ≡ start_behind s.maker.rules s.maker.rotation s.start gave
  pub outs : AllZip (λ (slot : Option DumpItem) (items : List DumpItem). units_among (items ++ items_in slot) ≡ units_behind s.maker.rules s.maker.rotation s.start.before gave) s.slots gives

-- what a stage took and gave in so many windows
pub record MergeDid (window : ℕ) (s : MergeState) (takes : List (List NodeItem)) (gives : List (List DumpItem)) : Type 0 where
  pub ins : AllZip (EndsAs closes_node_window window) s.took takes
  pub outs : AllZip (IsOut window s.closing) s.slots gives
  pub merged : AreKept s.start takes → HasGivenUnits s (feeds_of takes) gives

-- ---- turns

-- what stays of a merge stage
pub record IsSameMerge (old new : MergeState) : Type 0 where
  pub start : new.start ≡ old.start
  pub rules : new.maker.rules ≡ old.maker.rules
  pub rotation : new.maker.rotation ≡ old.maker.rotation
  pub nodes : length new.took ≡ length old.took
  pub outs : length new.slots ≡ length old.slots

-- over turns these items were taken and given
pub record HasPassed (old : MergeState) (taken : List (List NodeItem)) (given : List (List DumpItem)) (new : MergeState) : Type 0 where
  pub did : (window : ℕ) (takes : List (List NodeItem)) (gives : List (List DumpItem)) → MergeDid window old takes gives → MergeDid window new (joined takes taken) (joined gives given)
  pub same : IsSameMerge old new

-- what one unit costs on all lanes, and its making
abbrev pub unit_cost : MergeState → ℕ → ℕ
unit_cost s price = (price + 1) * length s.slots + 1

-- the work that is left of what was taken: what waits, the units that may come, the Ends, and the end's record
abbrev pub merge_work : MergeState → ℕ → ℕ
merge_work s price =
    (price + 1) * waiting_in s.slots + unit_cost s price * (s.maker.credit + (if s.closing then 0 else 1)) + (if merges_on s.end then 1 else 0)

-- what a merge stage tells of itself
abbrev pub merge_account : Passer MergeState NodeItem DumpItem
merge_account = record {
  did = λ s window takes gives. MergeDid window s takes gives;
  took = λ s. s.took;
  gave = λ s. map (has_given s.closing) s.slots;
  ended = has_ended;
  work = merge_work;
  weight = λ s price. unit_cost s price + 1;
  turned = λ old new. IsSameMerge old new;
}
