-- The laws of such a job: turns are read on, and reading on behind reading on is reading on.
use Rattle.std.proofs.Common.{sym, ◌∙◌, ap}
use Rattle.cdc_sorter.specs.Sorting.{SortReading}
use Rattle.cdc_node_stage.specs.Sending.{node_state}
use Rattle.cdc_node_stage.specs.Job.{SourceWords, SourcedStage, HasTurned}
use Rattle.cdc_node_stage.specs.NodeLaws.{asked_on}
use Rattle.cdc_windows.specs.Sourced.{HasReadOn}

module _ {S : Type 0} (w : SourceWords S) where
  pub turns_are_read_on : (a b : SourcedStage S) → HasTurned w a b → HasReadOn w a b
  turns_are_read_on a b turned = record { reading = turned.stage.reading; over = turned.stage.over; asked = turned.source }

  pub read_on_twice : (a b c : SourcedStage S) → HasReadOn w a b → HasReadOn w b c → HasReadOn w a c
  read_on_twice a b c p q = record {
    reading = q.reading ∙ p.reading;
    over = λ not. q.over (λ open_still. not (sym (p.over not) ∙ open_still)) ∙ p.over not;
    asked =
        asked_on w (node_state a.stage) (node_state b.stage) (node_state c.stage) a.source b.source c.source (ap (λ (r : SortReading). r.from) p.reading)
        p.asked q.asked;
  }
