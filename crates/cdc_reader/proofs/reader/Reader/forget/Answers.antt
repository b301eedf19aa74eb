use Rattle.std.proofs.Common.{refl, reverse, sym, subst}
use Rattle.cdc_reader.specs.Standing.{ReaderState, IsReading}
use Rattle.cdc_reader.proofs.Filled.{nothing_settled}
use Rattle.cdc_reader.proofs.reader.Reader.forget.Goals as goal

pub returns-clause-reads : goal.returns-clause-reads
returns-clause-reads c = λ tells files reading taken feed reads.
    let here = subst (λ (r : ReaderState). IsReading tells files r reading taken feed) (sym c.self.view_is) reads in
    nothing_settled tells files _
    record { log = c.self.inside.log; sorter = c.forget.new.self; entries = c.self.inside.entries; told = c.self.inside.told; end = c.self.inside.end } reading taken feed here refl refl
    c.forget.ensures.kept record {
      sorted = c.forget.ensures.holds reading (reverse taken) feed.branches here.feeding.sorted;
      told = here.feeding.told;
      sound = here.feeding.sound;
      feeds = here.feeding.feeds;
      counted = here.feeding.counted;
    }
