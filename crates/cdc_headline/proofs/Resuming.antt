-- A pass reads on from the checkpoint that is kept, where no output has fewer transactions.
use Rattle.std.proofs.Common.{◌≡◌, ℕ, ◌+◌, ◌≤◌, ◌↔◌, List, [], ◌∷◌, map, Option, Some, sym, ◌∙◌, ap, subst, arith}
use Rattle.std.specs.List.{AllZip, AllByRecursion}
use Rattle.std.proofs.lemmas.List.Elements.{All-from_recursion}
use Rattle.cdc_base.specs.declared.key.Key.{Key}
use Rattle.cdc_outside.specs.Disk.{Image}
use Rattle.cdc_model.specs.Records.{Transaction}
use Rattle.cdc_model.specs.Restart.{RestartPoint}
use Rattle.cdc_records.specs.declared.checkpoint.Checkpoint.{Checkpoint}
use Rattle.cdc_records.specs.declared.front.Front.{Front}
use Rattle.cdc_sorter.specs.Sorting.{SortReading}
use Rattle.cdc_reader.specs.Asking.{NothingBelow}
use Rattle.cdc_recovery.specs.Outputs.{OutputPlan, KeepsFrom}
use Rattle.cdc_recovery.proofs.OneCount.{image_has_one_front}
use Rattle.cdc_dumper.specs.Opening.{IsFound}
use Rattle.cdc_dumper.specs.State.{DumperState}
use Rattle.cdc_node_stage.specs.Job.{SourceWords, SourcedStage}
use Rattle.cdc_opening.specs.Answers.{published_counts, used_point}
use Rattle.cdc_opening.specs.Lists.{AllThree}
use Rattle.cdc_task.specs.declared.start.Start.{Start}
use Rattle.cdc_task.specs.declared.start.Start.TheVariants.{Cut}
use Rattle.cdc_task.specs.Task.{GoesOnFrom}
use Rattle.cdc_kept.specs.Kept.{start_of_pass}
use Rattle.cdc_reads.specs.Begun.{AllBegin}
use Rattle.cdc_windows.specs.Sourced.{HasReadOn}
use Rattle.cdc_headline.specs.Running.{KeepsSource, sources_of}

-- the Front of an output that has so many transactions has as many
has_reached : (plan : OutputPlan) (txns : List Transaction) (count : ℕ) (image : Image) (front : Front) → IsFound image front → KeepsFrom plan txns count image → count ≤ front.count
has_reached plan txns count image front found kept =
    let same = ap (λ (f : Front). f.count) (image_has_one_front image kept.keeps.front front kept.keeps.is_front found.has) in
    let counted = kept.keeps.counted in
    let reached = kept.reached in
    omega (arith, same, counted, reached)

-- so it is of all outputs
all_reached : {D : Type 0} (seen : D → Image) (plan : OutputPlan) (txns : List Transaction) (count : ℕ) (outs : List D) (dumpers : List DumperState)
    → AllZip (λ (image : Image) (dumper : DumperState). IsFound image dumper.published) (map seen outs) dumpers → AllByRecursion (λ (disk : D). KeepsFrom plan txns count (seen disk)) outs
    → AllByRecursion (λ (reached : ℕ). count ≤ reached) (published_counts dumpers)
all_reached seen plan txns count [] [] found kept = tt
all_reached seen plan txns count [] (d ∷ dumpers) found kept = absurd found
all_reached seen plan txns count (o ∷ outs) [] found kept = absurd found
all_reached seen plan txns count (o ∷ outs) (d ∷ dumpers) found kept =
    (has_reached plan txns count (seen o) d.published found.0 kept.0, all_reached seen plan txns count outs dumpers found.1 kept.1)

-- so a pass goes on from a checkpoint that no output is behind
pub starts_at_point : {A D : Type 0} (seen : D → Image) (plan : OutputPlan) (txns : List Transaction) (nodes : List A) (outs : List D) (dumpers : List DumperState) (kept : Option Checkpoint) (start : Start) (point : Checkpoint)
    → AllZip (λ (image : Image) (dumper : DumperState). IsFound image dumper.published) (map seen outs) dumpers → AllByRecursion (λ (disk : D). KeepsFrom plan txns point.count (seen disk)) outs
    → (start ≡ Cut) ↔ GoesOnFrom kept (published_counts dumpers) → kept ≡ Some point → start_of_pass nodes (used_point start kept) ≡ start_of_pass nodes (Some point)
starts_at_point seen plan txns nodes outs dumpers kept start point found each starts kept_is =
    let reached = All-from_recursion (λ (reached : ℕ). point.count ≤ reached) (published_counts dumpers) (all_reached seen plan txns point.count outs dumpers found each) in
    let on : start ≡ Cut = starts.1 (subst (λ (k : Option Checkpoint). GoesOnFrom k (published_counts dumpers)) (sym kept_is) reached) in
    ap (λ (st : Start). start_of_pass nodes (used_point st kept)) on ∙ ap (λ (k : Option Checkpoint). start_of_pass nodes k) kept_is

-- nothing was asked for below the points from which the jobs begin
pub asked_below : {S : Type 0} (s : SourceWords S) (first : ℕ) (last : Key) (points : List RestartPoint) (jobs laters : List (SourcedStage S)) → AllBegin first last points jobs → AllZip (HasReadOn s) jobs laters
    → AllThree (λ (cut : RestartPoint) (old : S) (new : S). NothingBelow cut.place (s.lowest old) (s.lowest new)) points (sources_of jobs) (sources_of laters)
asked_below s first last [] [] [] begin read = tt
asked_below s first last [] [] (l ∷ laters) begin read = absurd read
asked_below s first last [] (j ∷ jobs) laters begin read = absurd begin
asked_below s first last (p ∷ points) [] laters begin read = absurd begin
asked_below s first last (p ∷ points) (j ∷ jobs) [] begin read = absurd read
asked_below s first last (p ∷ points) (j ∷ jobs) (l ∷ laters) begin read = (
  subst (λ (cut : RestartPoint). NothingBelow cut.place (s.lowest j.source) (s.lowest l.source)) (ap (λ (r : SortReading). r.from) begin.0.1.goes_by) read.0.asked.below,
  asked_below s (first + 1) last points jobs laters begin.1 read.1,
)

-- nor before, in the opening
pub asked_below_since : {S : Type 0} (s : SourceWords S) (points : List RestartPoint) (nodes mid nodes_now : List S) → AllZip (KeepsSource s) nodes mid
    → AllThree (λ (cut : RestartPoint) (old : S) (new : S). NothingBelow cut.place (s.lowest old) (s.lowest new)) points mid nodes_now
    → AllThree (λ (cut : RestartPoint) (old : S) (new : S). NothingBelow cut.place (s.lowest old) (s.lowest new)) points nodes nodes_now
asked_below_since s [] [] [] nodes_now kept asked = asked
asked_below_since s [] [] (m ∷ mid) nodes_now kept asked = absurd kept
asked_below_since s [] (o ∷ nodes) [] nodes_now kept asked = absurd kept
asked_below_since s [] (o ∷ nodes) (m ∷ mid) nodes_now kept asked = absurd asked
asked_below_since s (p ∷ points) [] [] nodes_now kept asked = absurd asked
asked_below_since s (p ∷ points) [] (m ∷ mid) nodes_now kept asked = absurd kept
asked_below_since s (p ∷ points) (o ∷ nodes) [] nodes_now kept asked = absurd kept
asked_below_since s (p ∷ points) (o ∷ nodes) (m ∷ mid) [] kept asked = absurd asked
asked_below_since s (p ∷ points) (o ∷ nodes) (m ∷ mid) (n ∷ nodes_now) kept asked =
    (subst (λ lowest. NothingBelow p.place lowest (s.lowest n)) kept.0.lowest asked.0, asked_below_since s points nodes mid nodes_now kept.1 asked.1)
