use Rattle.std.proofs.Common.{◌≡◌, ◌≤◌, IsTrue, List, length}
use Rattle.cdc_cutter.specs.Cutting.{IsGoingOn}
use Rattle.cdc_model.specs.Records.{LogEntry}
use Rattle.cdc_model.specs.Restart.{RestartPoint}
use Rattle.cdc_reader.specs.Asking.{IsFromOn, NothingBelow, bytes_up_to}
use Rattle.cdc_reader.specs.LogFront.{IsTakenTo}
use Rattle.cdc_reader.specs.Filling.{IsLogSized}
use Rattle.cdc_reader.proofs.log.LogReader.fill.Given as goal

-- all events of the files so far were taken
abbrev pub invariant-files : goal.invariant-files
invariant-files g l = record {
  here : l.self.place.file ≡ l.file;
  first : 1 ≤ l.self.place.file;
  going : IsGoingOn l.self.follower.cutter.state;
  room : length l.piece ≡ length l.fn.piece;
  later : g.S.Source.faults l.fn.source ≤ g.S.Source.faults l.source;
  held : g.S.Source.held l.source ≡ g.S.Source.held l.fn.source;
  sizes : g.S.Source.sizes l.source ≡ g.S.Source.sizes l.fn.source;
  below : NothingBelow l.fn.self.place (g.S.Source.lowest l.fn.source) (g.S.Source.lowest l.source);
  onward : IsFromOn l.fn.self.place l.self.place;
  walked : IsTrue g.S.Source.tells → IsLogSized (g.S.Source.held l.fn.source) l.fn.self
      → IsLogSized (g.S.Source.held l.fn.source) l.self × (bytes_up_to (g.S.Source.held l.fn.source) l.self.place ≤ bytes_up_to (g.S.Source.held l.fn.source) l.fn.self.place);
  taken : IsTrue g.S.Source.tells → (point : RestartPoint) (taken : List LogEntry)
      → IsTakenTo point (g.S.Source.held l.fn.source) l.fn.self.follower l.fn.self.place taken
      → IsLogSized (g.S.Source.held l.fn.source) l.fn.self
      → IsTakenTo point (g.S.Source.held l.fn.source) l.self.follower l.self.place taken × IsLogSized (g.S.Source.held l.fn.source) l.self;
}
