-- What a node's items give and tell is the same in the words of the stage that sends them and of the one that merges them.
use Rattle.std.proofs.Common.{◌≡◌, List, [], ◌∷◌, ◌++◌, append-nil, Option, None, refl, ap, ◌∙◌}
use Rattle.std.specs.List.{fold}
use Rattle.cdc_model.specs.Feed.{NodeFeed}
use Rattle.cdc_model.specs.NodeReading.{no_feed, feed_with, feed_told}
use Rattle.cdc_item.specs.declared.node_item.NodeItem.{NodeItem}
use Rattle.cdc_item.specs.declared.node_item.NodeItem.TheVariants.{Branch, Bound, End}
use Rattle.cdc_node_stage.specs.Feeding.{fed_item, feed_sent, ComeInTime, waiting_item}
use Rattle.cdc_merge_stage.specs.Merged.{fed, feed_of, IsInTime}

-- on whatever feed they go
folds_alike : (feed : NodeFeed) (items : List NodeItem) → fold fed_item feed items ≡ fold fed feed items
folds_alike feed [] = refl
folds_alike feed (Branch branch ∷ items) = folds_alike (feed_with feed branch) items
folds_alike feed (Bound bound ∷ items) = folds_alike (feed_told feed bound) items
folds_alike feed (End ∷ items) = folds_alike feed items

-- the feed of items is one
pub feeds_alike : (items : List NodeItem) → feed_sent items ≡ feed_of items
feeds_alike items = folds_alike no_feed items

-- where nothing waits it is the feed of what was sent
pub feed_of_sent : (items : List NodeItem) (pending : Option NodeItem) → pending ≡ None → feed_sent (items ++ waiting_item pending) ≡ feed_of items
feed_of_sent items pending none =
    ap (λ (p : Option NodeItem). feed_sent (items ++ waiting_item p)) none ∙ (ap feed_sent (append-nil items) ∙ feeds_alike items)

-- items that come in time are in time
pub comes_in_time : (feed : NodeFeed) (items : List NodeItem) → ComeInTime feed items → IsInTime feed items
comes_in_time feed [] came = tt
comes_in_time feed (Branch branch ∷ items) came = (came.0, comes_in_time (feed_with feed branch) items came.1)
comes_in_time feed (Bound bound ∷ items) came = (came.0, comes_in_time (feed_told feed bound) items came.1)
comes_in_time feed (End ∷ items) came = comes_in_time feed items came
