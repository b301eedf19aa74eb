-- What a pass over sources has read and given, and what follows of it.
use Rattle.std.proofs.Common.{◌≡◌, ℕ, ◌+◌, true, List, length, take, None, sym, ap, subst, ◌∙◌, arith}
use Rattle.std.specs.List.{AllByRecursion, AllZip}
use Rattle.cdc_base.specs.Key.{first_key}
use Rattle.cdc_model.specs.declared.node_log.NodeLog.{NodeLog}
use Rattle.cdc_model.specs.Output.{layout_of}
use Rattle.cdc_model.specs.Transaction.{oversized_transaction}
use Rattle.cdc_model.specs.Restart.{RestartPoint, AreRestartPoints, RestartPointIsStart}
use Rattle.cdc_recovery.specs.Outputs.{OutputPlan, planned_transactions}
use Rattle.cdc_recovery.specs.Checkpoints.{IsLastCheckpoint}
use Rattle.cdc_content.specs.Reading.{HaveReadAll, AreLatestOfRead}
use Rattle.cdc_content.specs.Laws.{ReadingsStandSo, PassReads}
use Rattle.cdc_item.specs.declared.node_item.NodeItem.{NodeItem}
use Rattle.cdc_item.specs.declared.dump_item.DumpItem.{DumpItem}
use Rattle.cdc_node_stage.specs.Job.{SourceWords, SourcedStage, node_account}
use Rattle.cdc_merge_stage.specs.declared.start.MergeStart.{MergeStart}
use Rattle.cdc_merge_stage.specs.declared.merge_end.MergeEnd.TheVariants.{Whole, TooLarge}
use Rattle.cdc_merge_stage.specs.Making.{units_behind}
use Rattle.cdc_merge_stage.specs.Merged.{MergeState, HasGivenUnits, AreKept, feeds_of, all_true, all_none, merge_account}
use Rattle.cdc_merge_stage.specs.MergeLaws.{all_parts}
use Rattle.cdc_units.specs.Given.{PassGave, point_at}
use Rattle.cdc_units.specs.Laws.{PassGivesPlannedUnits, AllReadGivesAll, TooLargeEndsThePass, PassPointsAreSound, PassPointIsTheLast, EndsAtOversized}
use Rattle.cdc_windows.specs.Windows.{HasUnits, AreGiven, HaveEndedFrom}
use Rattle.cdc_windows.specs.Sourced.{MayRestartAt, node_rereading, reached_by}
use Rattle.cdc_reads.specs.Begun.{IsPassBegun, files_of_jobs}
use Rattle.cdc_reads.specs.Ended.{AreReadThrough}
use Rattle.cdc_reads.specs.Laws.{JobsReadLogs, AllWindowsGiveAll, TooLargeIsOversized, LastWindowsPointIsTheLast}
use Rattle.cdc_reads.proofs.AllNodes.{HaveTaken, have_taken, each_by_recursion, have_read_from, have_read_all, all_kept, points_start, all_latest}
use Rattle.cdc_reads.proofs.Counting.{units_many, all_counted}

module _ {S : Type 0} (w : SourceWords S) (plan : OutputPlan) (logs : List NodeLog) (points : List RestartPoint) (nodes : List (SourcedStage S)) (merge : MergeState)
    (begun : IsPassBegun w plan logs points nodes merge)
    (laters : List (SourcedStage S)) (later : MergeState) (window : ℕ) (sends : List (List NodeItem)) (gives : List (List DumpItem))
    (ended : HaveEndedFrom (node_account w) merge_account (node_rereading w) nodes merge laters later window sends gives) where
  -- what each node has taken
  abbrev pub taken_by : HaveTaken w 1 merge.start.last points nodes laters sends
  taken_by =
      have_taken w 1 merge.start.last points nodes laters window sends begun.begin ended.nodes_on ended.sent
      (each_by_recursion (λ (job : SourcedStage S). job.stage.ended ≡ true) laters ended.nodes_ended)

  -- what they sent is kept, for the merge stage's start
  kept_so : AreKept later.start sends
  kept_so = subst (λ (start : MergeStart). AreKept start sends) (sym ended.merge_on.start) (all_kept w 1 merge.start.last points nodes laters taken_by.takens sends taken_by.each)

  module _ (law : ReadingsStandSo) where
    -- they have read these logs from their points on
    reads_so : PassReads plan (files_of_jobs w nodes) logs later.start.count later.start.last points taken_by.takens (feeds_of sends)
    reads_so =
        subst (λ (start : MergeStart). PassReads plan (files_of_jobs w nodes) logs start.count start.last points taken_by.takens (feeds_of sends)) (sym ended.merge_on.start)
        (record {
          whole = begun.whole;
          behind = begun.behind;
          read = have_read_from w law begun.tells 1 merge.start.last points nodes laters taken_by.takens sends taken_by.each;
        })

    -- the pass has read and given so
    pub pass_gave : PassGave plan (files_of_jobs w nodes) logs points taken_by.takens window later sends gives
    pass_gave = record {
      rules = ended.merge_on.rules ∙ begun.rules;
      rotation = ended.merge_on.rotation ∙ begun.rotation;
      before =
          subst (λ (start : MergeStart). start.before ≡ layout_of plan.rules plan.rotation (take start.count (planned_transactions plan logs))) (sym ended.merge_on.start)
          begun.layout;
      reads = reads_so;
      kept = kept_so;
      did = ended.did;
    }

    -- the transactions that were given
    abbrev has : HasGivenUnits later (feeds_of sends) gives
    has = pass_gave.did.merged pass_gave.kept

    -- the merge stage stands behind as many as there are units
    counted : later.start.count + length (units_behind later.maker.rules later.maker.rotation later.start.before has.gave) ≡ later.behind.count
    counted =
        let many : length (units_behind later.maker.rules later.maker.rotation later.start.before has.gave) ≡ length has.gave =
        units_many later.maker.rules later.maker.rotation later.start.before has.gave in
        let count : later.behind.count ≡ later.start.count + length has.gave = ap (λ (b : MergeStart). b.count) has.behind in
        omega (arith, many, count)

    -- no unit waits for a lane
    none_wait : all_none later.slots ≡ true
    none_wait = (all_parts (all_true later.took) later.closing (all_none later.slots) ended.merge_ended).2

    -- the units given are those of the logs' next transactions
    pub are_given : PassGivesPlannedUnits → AreGiven plan (planned_transactions plan logs) merge.start.count (reached_by later) gives
    are_given gives_law =
        let given = gives_law plan (files_of_jobs w nodes) logs points taken_by.takens window later sends gives pass_gave in
        record {
          within = given.stands.within;
          last = given.stands.last;
          layout = given.stands.before;
          units =
              subst (λ (start : MergeStart). AllByRecursion (HasUnits plan (planned_transactions plan logs) start.count later.behind.count) gives) ended.merge_on.start
              (all_counted plan (planned_transactions plan logs) later.start.count later.behind.count
              (units_behind later.maker.rules later.maker.rotation later.start.before has.gave) later.slots gives counted none_wait given.units has.outs);
        }

    -- points from which the nodes may be read again are the latest ones of what was taken
    latest_so : RestartPointIsStart → (latests : List RestartPoint)
        → AllZip (λ (node : SourcedStage S) (latest : RestartPoint). MayRestartAt w node later.behind.last latest) laters latests
        → AreLatestOfRead 1 later.behind.last points taken_by.takens latests
    latest_so start_law latests may =
        all_latest w 1 merge.start.last later.behind.last points nodes laters taken_by.takens sends latests taken_by.each
        (points_start start_law merge.start.last 1 logs points begun.behind.restart) may

    -- they are restart points
    pub are_points : RestartPointIsStart → PassPointsAreSound → (latests : List RestartPoint)
        → AllZip (λ (node : SourcedStage S) (latest : RestartPoint). MayRestartAt w node later.behind.last latest) laters latests → AreRestartPoints later.behind.last logs latests
    are_points start_law points_law latests may =
        (points_law plan (files_of_jobs w nodes) logs points taken_by.takens window later sends gives latests pass_gave (latest_so start_law latests may)).points

    -- all of their logs, where each reading came to its log's end or fault
    all_read : AreReadThrough laters → HaveReadAll (files_of_jobs w nodes) points taken_by.takens (feeds_of sends)
    all_read through = have_read_all w law begun.tells 1 merge.start.last points nodes laters taken_by.takens sends taken_by.each through

    -- where all was read and the merge stage is whole, all was given
    pub gives_all : AllReadGivesAll → AreReadThrough laters → later.end ≡ Whole
        → (later.behind.count ≡ length (planned_transactions plan logs)) × (oversized_transaction plan.rules 0 first_key logs ≡ None)
    gives_all all_law through whole =
        all_law plan (files_of_jobs w nodes) logs points taken_by.takens window later sends gives pass_gave (all_read through) whole

    -- and the checkpoint of where it stands is the last one
    pub last_point : AllReadGivesAll → RestartPointIsStart → PassPointIsTheLast → (cuts : List RestartPoint) → AreReadThrough laters → later.end ≡ Whole
        → AllZip (λ (node : SourcedStage S) (cut : RestartPoint). MayRestartAt w node later.behind.last cut) laters cuts
        → IsLastCheckpoint plan logs (point_at plan.rotation later.behind cuts)
    last_point all_law start_law last_law cuts through whole may =
        last_law plan (files_of_jobs w nodes) logs points taken_by.takens window later sends gives cuts pass_gave (all_read through)
        (gives_all all_law through whole).0 (latest_so start_law cuts may)

    -- where it met a print that is too large, this one ends the logs' transactions
    pub ends_at : TooLargeEndsThePass → (number bytes : ℕ) → later.end ≡ TooLarge number bytes → EndsAtOversized plan logs later number bytes
    ends_at large_law number bytes is =
        large_law plan (files_of_jobs w nodes) logs points taken_by.takens window later sends gives number bytes pass_gave is

-- ---- the laws

-- jobs that begin so read these logs
pub jobs_read_logs : {S : Type 0} (w : SourceWords S) → ReadingsStandSo → PassGivesPlannedUnits → RestartPointIsStart → PassPointsAreSound → JobsReadLogs w
jobs_read_logs w law gives_law start_law points_law plan logs points nodes merge begun = record {
  gives = λ laters later window sends gives ended. are_given w plan logs points nodes merge begun laters later window sends gives ended law gives_law;
  points = λ laters later window sends gives latests ended may.
      are_points w plan logs points nodes merge begun laters later window sends gives ended law start_law points_law latests may;
}

-- all was read, so all was given
pub all_windows_give_all : {S : Type 0} (w : SourceWords S) → ReadingsStandSo → AllReadGivesAll → AllWindowsGiveAll w
all_windows_give_all w law all_law plan logs points nodes merge laters later begun run through whole =
    gives_all w plan logs points nodes merge begun laters later run.window run.sends run.gives run.ended law all_law through whole

-- a print that is too large is the logs' oversized one
pub too_large_is_oversized : {S : Type 0} (w : SourceWords S) → ReadingsStandSo → TooLargeEndsThePass → TooLargeIsOversized w
too_large_is_oversized w law large_law plan logs points nodes merge laters later number bytes begun run is =
    ends_at w plan logs points nodes merge begun laters later run.window run.sends run.gives run.ended law large_law number bytes is

-- all was read, so the checkpoint is the last one
pub last_windows_point_is_the_last : {S : Type 0} (w : SourceWords S) → ReadingsStandSo → AllReadGivesAll → RestartPointIsStart → PassPointIsTheLast → LastWindowsPointIsTheLast w
last_windows_point_is_the_last w law all_law start_law last_law plan logs points nodes merge laters later cuts begun run through whole may =
    last_point w plan logs points nodes merge begun laters later run.window run.sends run.gives run.ended law all_law start_law last_law cuts through whole may
