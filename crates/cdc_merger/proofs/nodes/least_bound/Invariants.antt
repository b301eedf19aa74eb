use Rattle.std.proofs.Common.{◌≡◌, map, drop}
use Rattle.cdc_model.specs.Watermark.{least}
use Rattle.cdc_model.specs.Feed.{NodeFeed, least_bound}
use Rattle.cdc_merger.proofs.nodes.least_bound.Given as goal

-- what is left decides the rest
abbrev pub invariant-loop-node : goal.invariant-loop-node
invariant-loop-node l = least l.bound (map (λ (feed : NodeFeed). feed.bound) (drop l.node-index l.rest)) ≡ least_bound l.fn.nodes
