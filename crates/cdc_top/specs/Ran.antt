-- A call of `run`: what it came to, and why.
use Rattle.std.specs.Prelude.{◌≡◌, ℕ, ◌⊎◌, ◌++◌, Bool, IsTrue, List, length, map, Some, None, Err}
use Rattle.std.specs.List.{AllZip}
use Rattle.cdc_outside.specs.Count.{Rose}
use Rattle.cdc_outside.specs.Sink.{WritesTo}
use Rattle.cdc_cell.specs.Reading.{IsLeftAlone}
use Rattle.cdc_config.specs.declared.plan.Plan.{Plan}
use Rattle.cdc_config.specs.Plan.{IsPlanOf, refused_key}
use Rattle.cdc_model.specs.declared.node_log.NodeLog.{NodeLog}
use Rattle.cdc_dump_stage.specs.Disks.{DiskWords}
use Rattle.cdc_node_stage.specs.Job.{SourceWords}
use Rattle.cdc_opening.specs.declared.outcome.Outcome.{Outcome}
use Rattle.cdc_opening.specs.declared.outcome.Outcome.TheVariants as pass
use Rattle.cdc_opening.specs.Answers.{AnswersDisks, AnswersLogs}
use Rattle.cdc_opening.specs.Lists.{DeviceRoseAt}
use Rattle.cdc_headline.specs.Ending.{PublishesAll, IsRefusedOpening}
use Rattle.cdc_headline.specs.Headline.{Headline}
use Rattle.cdc_headline.specs.Running.{IsPassOver}
use Rattle.cdc_pass.specs.Starting.{output_plan}
use Rattle.cdc_list.specs.declared.list_end.ListEnd.{ListEnd}
use Rattle.cdc_list.specs.declared.list_end.ListEnd.TheVariants as list
use Rattle.cdc_list.specs.Listing.{ListRun, AllLater, IsStopped, IsFrontsText, IsFrontsEnd}
use Rattle.cdc_top.specs.declared.answer.Answer.{Answer}
use Rattle.cdc_top.specs.declared.answer.Answer.TheVariants.{Done, Usage, Config, Node, ReadConfig, Read, Disk, TooLarge, Unopened, TaskDisk, TaskCell, TaskNodes, TaskRotation, Behind, Differs, OtherKey, Memory, Sink}
use Rattle.cdc_top.specs.declared.config.ConfigStop.{ConfigStop}
use Rattle.cdc_top.specs.declared.findings.Findings.{Findings}
use Rattle.cdc_top.specs.Call.{ConfigRun}
use Rattle.cdc_top.specs.Order.{findings_of_config, findings_of_pass, findings_of_lines, pass_answer}
use Rattle.cdc_top.specs.Planning.{IsNoPlan}

-- what `run` asks of its devices: the source of the configuration tells what it holds; where that is accepted as a plan, there are a source for each of its
-- nodes and a disk for each of its outs
pub record IsFitToRun (told : Bool) (text : List ℕ) (nodes outs : ℕ) : Type 0 where
  pub tells : IsTrue told
  pub many_nodes : refused_key text ≡ None → (plan : Plan) → IsPlanOf text plan → nodes ≡ length plan.paths.node_files
  pub many_outs : refused_key text ≡ None → (plan : Plan) → IsPlanOf text plan → outs ≡ length plan.paths.out_folders

-- a call of `run` as it is seen from outside: its configuration; its nodes, its outs and its task before and now; what the sink has before and
-- now, and the sink's count of faults
pub record RunCall (S D : Type 0) : Type 0 where
  pub config : ConfigRun
  pub nodes : List S
  pub nodes_now : List S
  pub outs : List D
  pub outs_now : List D
  pub task : D
  pub task_now : D
  pub out_before : List ℕ
  pub out_now : List ℕ
  pub faults_before : ℕ
  pub faults_now : ℕ

-- these, as one
abbrev pub run_call : {S D : Type 0} → ConfigRun → List S → List S → List D → List D → D → D → List ℕ → List ℕ → ℕ → ℕ → RunCall S D
run_call config nodes nodes_now outs outs_now task task_now out_before out_now faults_before faults_now = record {
  config = config;
  nodes = nodes;
  nodes_now = nodes_now;
  outs = outs;
  outs_now = outs_now;
  task = task;
  task_now = task_now;
  out_before = out_before;
  out_now = out_now;
  faults_before = faults_before;
  faults_now = faults_now;
}

-- what the lines of the outs see of a call: the outs as the pass left them, and now
abbrev pub lines_seen : {S D : Type 0} → DiskWords D → RunCall S D → List D → ListRun
lines_seen w call behind = record {
  images = map w.seen behind;
  failed_before = map w.faults behind;
  failed_now = map w.faults call.outs_now;
  out_before = call.out_before;
  out_now = call.out_now;
  faults_before = call.faults_before;
  faults_now = call.faults_now;
}

-- a pass over all logs that the nodes have keeps the headline, where sources and disks tell
abbrev pub KeepsHeadline : {S D : Type 0} → SourceWords S → DiskWords D → Plan → List S → List S → List D → List D → D → D → Outcome → Type 0
KeepsHeadline s w plan nodes nodes_now outs outs_now task task_now outcome = IsTrue w.tells → IsTrue s.tells → (logs : List NodeLog)
    → IsPassOver s w (output_plan plan) logs nodes outs task → Headline s w (output_plan plan) logs nodes nodes_now outs outs_now task task_now outcome

-- why a pass ended so: a refusal of the opening is as the disks and the sources have it; a device that is named has a count that rose
pub record IsPassCause {S D : Type 0} (s : SourceWords S) (w : DiskWords D) (plan : Plan) (nodes nodes_now : List S) (outs outs_now : List D) (task task_now : D) (outcome : Outcome) : Type 0 where
  pub refused : IsTrue w.tells → IsTrue s.tells → IsRefusedOpening outcome
      → AnswersDisks (map w.seen outs) (w.seen task) (length nodes) plan.rotation (Err outcome) × AnswersLogs (map w.seen outs) (w.seen task) (map s.held nodes) (Err outcome)
  pub out_failed : (number : ℕ) → outcome ≡ pass.Disk number → DeviceRoseAt (map w.faults outs) (map w.faults outs_now) number
  pub task_failed : outcome ≡ pass.TaskDisk → Rose (w.faults task) (w.faults task_now)
  pub node_failed : (number : ℕ) → outcome ≡ pass.Read number → DeviceRoseAt (map s.faults nodes) (map s.faults nodes_now) number

-- nodes, outs and task are as they were
pub record IsUntouched {S D : Type 0} (call : RunCall S D) : Type 0 where
  pub nodes_same : call.nodes_now ≡ call.nodes
  pub outs_same : call.outs_now ≡ call.outs
  pub task_same : call.task_now ≡ call.task

-- no pass was begun: there was no plan, or no memory; nothing was done
pub record HadNoPass {S D : Type 0} (call : RunCall S D) (found : Findings) : Type 0 where
  pub why : ConfigStop
  pub found_is : found ≡ findings_of_config why
  pub is : IsNoPlan call.config why
  pub nothing : call.out_now ≡ call.out_before
  pub untouched : IsUntouched call

-- the pass ended before all was published: nothing was written, and it is answered
pub record HadStop {S D : Type 0} (call : RunCall S D) (outcome : Outcome) (found : Findings) : Type 0 where
  pub stopped : PublishesAll outcome → ⊥
  pub found_is : found ≡ findings_of_pass outcome
  pub nothing : call.out_now ≡ call.out_before

-- the pass published all, and the lines of the outs were to be written
pub record HadLines {S D : Type 0} (w : DiskWords D) (shown : Bool) (call : RunCall S D) (behind : List D) (outcome : Outcome) (found : Findings) : Type 0 where
  pub published : PublishesAll outcome
  pub end : ListEnd
  pub found_is : found ≡ findings_of_lines outcome end
  pub ended : IsFrontsEnd w.tells shown (lines_seen w call behind) end

-- a pass was made over a plan, and ended so; behind it the outs were only looked at
pub record MadePass {S D : Type 0} (s : SourceWords S) (w : DiskWords D) (shown : Bool) (plan : Plan) (call : RunCall S D) (found : Findings) : Type 0 where
  pub outcome : Outcome
  pub behind : List D
  pub cause : IsPassCause s w plan call.nodes call.nodes_now call.outs call.outs_now call.task call.task_now outcome
  pub rest : HadStop call outcome found ⊎ HadLines w shown call behind outcome found
  pub later : AllLater w.faults behind call.outs_now
  pub alone : IsTrue w.tells → AllZip (IsLeftAlone w.seen w.synced w.pending w.may_leave w.moment w.left_since) behind call.outs_now
  pub headline : KeepsHeadline s w plan call.nodes call.nodes_now call.outs call.outs_now call.task call.task_now outcome

-- a pass was made over the plan of the configuration
pub record HadPass {S D : Type 0} (s : SourceWords S) (w : DiskWords D) (shown : Bool) (call : RunCall S D) (found : Findings) : Type 0 where
  pub plan : Plan
  pub is_plan : IsTrue call.config.told → IsPlanOf call.config.text plan
  pub passed : MadePass s w shown plan call found

-- what `run` came to
abbrev pub IsRunCall : {S D : Type 0} → SourceWords S → DiskWords D → Bool → RunCall S D → Findings → Type 0
IsRunCall s w shown call found = HadNoPass call found ⊎ HadPass s w shown call found

-- ---- by the answer

-- nothing was written
abbrev pub GaveNoLines : {S D : Type 0} → Bool → RunCall S D → Type 0
GaveNoLines shown call = IsTrue shown → call.out_now ≡ call.out_before

-- exactly the lines of the outs as they are now were written
abbrev pub GaveLines : {S D : Type 0} → DiskWords D → Bool → RunCall S D → Type 0
GaveLines w shown call = IsTrue w.tells → (text : List ℕ) × IsFrontsText (map w.seen call.outs_now) text × (IsTrue shown → call.out_now ≡ call.out_before ++ text)

-- the sink failed behind a front of these lines
abbrev pub GaveFrontOfLines : {S D : Type 0} → DiskWords D → Bool → RunCall S D → Type 0
GaveFrontOfLines w shown call = Rose call.faults_before call.faults_now
    × (IsTrue w.tells → (text : List ℕ) × IsFrontsText (map w.seen call.outs_now) text × (IsTrue shown → WritesTo call.out_before text call.out_now))

-- a pass over the plan of the configuration ended so, and kept the headline
pub record EndedAs {S D : Type 0} (s : SourceWords S) (w : DiskWords D) (call : RunCall S D) (outcome : Outcome) : Type 0 where
  pub plan : Plan
  pub is_plan : IsTrue call.config.told → IsPlanOf call.config.text plan
  pub cause : IsPassCause s w plan call.nodes call.nodes_now call.outs call.outs_now call.task call.task_now outcome
  pub headline : KeepsHeadline s w plan call.nodes call.nodes_now call.outs call.outs_now call.task call.task_now outcome

-- the pass ended before all was published, and it is answered
pub record StoppedAs {S D : Type 0} (s : SourceWords S) (w : DiskWords D) (call : RunCall S D) (answer : Answer) : Type 0 where
  pub outcome : Outcome
  pub ended : EndedAs s w call outcome
  pub stopped : PublishesAll outcome → ⊥
  pub answered : answer ≡ pass_answer outcome

-- the pass published all, and its outs, as it left them, couldn't be looked at
pub record LinesStopped {S D : Type 0} (s : SourceWords S) (w : DiskWords D) (call : RunCall S D) (end : ListEnd) : Type 0 where
  pub outcome : Outcome
  pub ended : EndedAs s w call outcome
  pub published : PublishesAll outcome
  pub behind : List D
  pub later : AllLater w.faults behind call.outs_now
  pub same : IsTrue w.tells → map w.seen call.outs_now ≡ map w.seen behind
  pub stopped : IsStopped w.tells (map w.seen behind) (map w.faults behind) (map w.faults call.outs_now) end

-- what an answer says of a call of `run`, and what was written
abbrev pub RunSays : {S D : Type 0} → SourceWords S → DiskWords D → Bool → RunCall S D → Answer → Type 0
RunSays s w shown call Done = EndedAs s w call pass.Done × GaveLines w shown call
RunSays s w shown call Usage = ⊥
RunSays s w shown call (Config key) = GaveNoLines shown call × IsUntouched call × (IsTrue call.config.told → refused_key call.config.text ≡ Some key)
RunSays s w shown call (Node node place fault) = EndedAs s w call (pass.Node node place fault) × (GaveLines w shown call ⊎ GaveFrontOfLines w shown call)
RunSays s w shown call ReadConfig = GaveNoLines shown call × IsUntouched call × Rose call.config.failed_before call.config.failed_now
RunSays s w shown call (Read node) = GaveNoLines shown call × StoppedAs s w call (Read node)
RunSays s w shown call (Disk out) = GaveNoLines shown call × (StoppedAs s w call (Disk out) ⊎ LinesStopped s w call (list.Disk out))
RunSays s w shown call (TooLarge number bytes) = EndedAs s w call (pass.TooLarge number bytes) × (GaveLines w shown call ⊎ GaveFrontOfLines w shown call)
RunSays s w shown call (Unopened out fault) = GaveNoLines shown call × (StoppedAs s w call (Unopened out fault) ⊎ LinesStopped s w call (list.Unopened out fault))
RunSays s w shown call TaskDisk = GaveNoLines shown call × StoppedAs s w call TaskDisk
RunSays s w shown call TaskCell = GaveNoLines shown call × StoppedAs s w call TaskCell
RunSays s w shown call (TaskNodes kept given) = GaveNoLines shown call × StoppedAs s w call (TaskNodes kept given)
RunSays s w shown call (TaskRotation kept given) = GaveNoLines shown call × StoppedAs s w call (TaskRotation kept given)
RunSays s w shown call (Behind node kept given) = GaveNoLines shown call × StoppedAs s w call (Behind node kept given)
RunSays s w shown call (Differs out kept given) = GaveNoLines shown call × StoppedAs s w call (Differs out kept given)
RunSays s w shown call (OtherKey out kept given) = GaveNoLines shown call × StoppedAs s w call (OtherKey out kept given)
RunSays s w shown call Memory = GaveNoLines shown call × (IsUntouched call ⊎ ((outcome : Outcome) × EndedAs s w call outcome))
RunSays s w shown call Sink = EndedAs s w call pass.Done × GaveFrontOfLines w shown call
