-- How the readings of a pass ended.
use Rattle.std.specs.Prelude.{List}
use Rattle.std.specs.List.{AllByRecursion, AllZip}
use Rattle.cdc_content.specs.Laws.{IsToEnd}
use Rattle.cdc_node_stage.specs.Job.{SourceWords, SourcedStage}
use Rattle.cdc_print.specs.Outcome.{HasEnded}

-- each reading came to its log's end or its fault
abbrev pub AreReadThrough : {S : Type 0} → List (SourcedStage S) → Type 0
AreReadThrough {S} jobs = AllByRecursion (λ (job : SourcedStage S). IsToEnd job.stage.reader.end) jobs

-- each reading ended, and as it ended so it is with its log or its source
abbrev pub HaveAllEnded : {S : Type 0} → SourceWords S → List (SourcedStage S) → List (SourcedStage S) → Type 0
HaveAllEnded {S} w jobs laters =
    AllZip (λ (job : SourcedStage S) (later : SourcedStage S). HasEnded w.tells (w.held job.source) (w.faults job.source) (w.faults later.source) later.stage.reader.end) jobs laters
