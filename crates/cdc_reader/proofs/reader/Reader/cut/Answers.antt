use Rattle.std.proofs.Common.{List, reverse, sym, subst}
use Rattle.std.specs.Prelude.{IfOk}
use Rattle.std.proofs.lemmas.List.{reverse-reverse}
use Rattle.cdc_model.specs.Records.{LogEntry}
use Rattle.cdc_model.specs.Restart.{IsAtMost, IsLatestPoint}
use Rattle.cdc_reader.specs.Standing.{ReaderState, IsReading}
use Rattle.cdc_reader.proofs.reader.Reader.cut.Goals as goal

pub returns : goal.returns
returns c = λ tells files reading taken feed reads start least.
    let here = subst (λ (r : ReaderState). IsReading tells files r reading taken feed) (sym c.self.view_is) reads in
    subst (λ (list : List LogEntry). IfOk c.cut.result (λ cut. IsLatestPoint c.args.last.now reading.from reading.node list cut)) (reverse-reverse taken)
    (c.cut.ensures reading (reverse taken) feed.branches here.feeding.sorted start (subst (λ (r : ReaderState). IsAtMost r.sorter.trail.known c.args.last.now) (sym c.self.view_is) least))
