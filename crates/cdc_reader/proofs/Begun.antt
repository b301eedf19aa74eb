-- A reader that has read nothing yet.
use Rattle.std.proofs.Common.{◌≡◌, ◌≤◌, ℕ, Bool, true, false, List, [], None, sym, subst, ◌∙◌, arith}
use Rattle.cdc_base.specs.declared.place.Place.{Place}
use Rattle.cdc_model.specs.Restart.{start_at}
use Rattle.cdc_model.specs.NodeReading.{FeedsBehind, no_feed}
use Rattle.cdc_sorter.specs.Sorting.{SortReading, HoldsReading}
use Rattle.cdc_reader.specs.declared.step.NodeEnd.{NodeEnd}
use Rattle.cdc_reader.specs.declared.step.NodeEnd.TheVariants.{Open}
use Rattle.cdc_reader.specs.Fed.{Follows}
use Rattle.cdc_reader.specs.LogFront.{IsReadUpTo}
use Rattle.cdc_reader.specs.Standing.{ReaderState, IsReading, ReadingStands}
use Rattle.cdc_reader.proofs.Reading.{read_to_first}

never : false ≡ true → ⊥
never e = cc

pub begun : (tells : Bool) (files : List (List ℕ)) (reader : ReaderState) (reading : SortReading) → reader.log.place ≡ reading.from.place
    → reader.log.opened ≡ false → Follows reader.log.follower reading.from.place.file reading.from.place.at reading.from.checksum [] []
    → HoldsReading reader.sorter reading [] [] → reader.sorter.stopped ≡ None → FeedsBehind reading.last (start_at reading.from) reading.node [] no_feed
    → 1 ≤ reading.from.place.file → reader.told ≡ 0 → reader.entries ≡ reading.from.entry → reader.end ≡ Open
    → IsReading tells files reader reading [] no_feed
begun tells files reader reading place opened follows holds sound feeds first told entries end = record {
  feeding = record {
    sorted = holds;
    told = told;
    sound = tt;
    feeds = feeds;
    counted = let is : reader.entries ≡ reading.from.entry = entries in omega arith;
  };
  going = λ e. sound;
  stands = λ t.
      subst (λ (n : NodeEnd). ReadingStands n reading.from files reader.log []) (sym end)
      record {
        read =
            subst (λ (p : Place). IsReadUpTo reading.from files reader.log.follower p []) (sym place)
            (read_to_first reading.from files reader.log.follower first follows);
        sized = λ is. absurd (never (sym opened ∙ is));
      };
}
