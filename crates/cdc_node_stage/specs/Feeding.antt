-- What a node's items give and tell.
use Rattle.std.specs.Prelude.{◌≡◌, ◌≤◌, false, List, [], ◌∷◌, Option, Some, None}
use Rattle.std.specs.List.{fold}
use Rattle.cdc_model.specs.Branch.{is_settled}
use Rattle.cdc_model.specs.Feed.{NodeFeed}
use Rattle.cdc_model.specs.NodeReading.{no_feed, feed_with, feed_told}
use Rattle.cdc_item.specs.declared.node_item.NodeItem.{NodeItem}
use Rattle.cdc_item.specs.declared.node_item.NodeItem.TheVariants.{Branch, Bound, End}

-- a feed with one item more
abbrev pub fed_item : NodeFeed → NodeItem → NodeFeed
fed_item feed (Branch branch) = feed_with feed branch
fed_item feed (Bound bound) = feed_told feed bound
fed_item feed End = feed

-- what items give and tell
abbrev pub feed_sent : List NodeItem → NodeFeed
feed_sent items = fold fed_item no_feed items

-- items that go on a feed in time: no branch comes behind a bound that settles it, and bounds don't fall
abbrev pub ComeInTime : NodeFeed → List NodeItem → Type 0
ComeInTime feed [] = Unit {0}
ComeInTime feed (Branch branch ∷ items) = (is_settled feed.bound branch.key ≡ false) × ComeInTime (feed_with feed branch) items
ComeInTime feed (Bound bound ∷ items) = (feed.bound ≤ bound) × ComeInTime (feed_told feed bound) items
ComeInTime feed (End ∷ items) = ComeInTime feed items

-- the item that waits for the lane, as a list
abbrev pub waiting_item : Option NodeItem → List NodeItem
waiting_item None = []
waiting_item (Some item) = item ∷ []
