use Rattle.std.proofs.Common.{◌≡◌, ◌+◌, ◌≤◌, ℕ, Bool, List, length}
use Rattle.cdc_model.specs.Records.{LogEntry}
use Rattle.cdc_model.specs.Feed.{NodeFeed}
use Rattle.cdc_sorter.specs.Sorting.{SortReading}
use Rattle.cdc_reader.specs.declared.step.NodeEnd.TheVariants.{Open}
use Rattle.cdc_reader.specs.Standing.{AllGiven, IsReading, AdvancesTo}
use Rattle.cdc_reader.proofs.reader.Reader.advance.Given as goal

-- all that is settled so far was given before
abbrev pub invariant-events : goal.invariant-events
invariant-events l = record {
  end : l.self.end ≡ l.fn.self.end;
  told : l.self.told ≡ l.fn.self.told;
  place : l.self.log.place ≡ l.fn.self.log.place;
  cuts : l.self.entries + length l.self.log.follower.cutter.rest ≤ l.fn.self.entries + length l.fn.self.log.follower.cutter.rest;
  known : (tells : Bool) (files : List (List ℕ)) (reading : SortReading) (taken : List LogEntry) (feed : NodeFeed)
      → IsReading tells files l.fn.self reading taken feed → l.fn.self.end ≡ Open → AllGiven reading taken feed
      → l.self.sorter.trail.known ≡ l.fn.self.sorter.trail.known;
  advances : (tells : Bool) (files : List (List ℕ)) (reading : SortReading) (taken : List LogEntry) (feed : NodeFeed)
      → IsReading tells files l.fn.self reading taken feed → l.fn.self.end ≡ Open → AllGiven reading taken feed
      → AdvancesTo tells files l.self reading taken feed;
}

abbrev pub decreases-events : goal.decreases-events
decreases-events l = length l.self.log.follower.cutter.rest
