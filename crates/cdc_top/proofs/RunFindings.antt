-- From what `run` came to, to what its answer says.
use Rattle.std.proofs.Common.{◌≡◌, ◌⊎◌, Bool, IsTrue, List, map, refl, sym, subst, inl, inr}
use Rattle.cdc_outside.specs.Disk.{Image}
use Rattle.cdc_dump_stage.specs.Disks.{DiskWords}
use Rattle.cdc_node_stage.specs.Job.{SourceWords}
use Rattle.cdc_opening.specs.declared.outcome.Outcome.{Outcome}
use Rattle.cdc_opening.specs.declared.outcome.Outcome.TheVariants as pass
use Rattle.cdc_task.specs.declared.fault.TaskFault.TheVariants as task
use Rattle.cdc_headline.specs.Ending.{PublishesAll}
use Rattle.cdc_list.specs.declared.list_end.ListEnd.{ListEnd}
use Rattle.cdc_list.specs.declared.list_end.ListEnd.TheVariants as list
use Rattle.cdc_list.specs.Listing.{AllLater, IsStopped, IsFrontsText, IsFrontsEnd}
use Rattle.cdc_list.proofs.Zips.{zip_same}
use Rattle.cdc_top.specs.declared.config.ConfigStop.{ConfigStop}
use Rattle.cdc_top.specs.declared.config.ConfigStop.TheVariants as stop
use Rattle.cdc_top.specs.declared.findings.Findings.{Findings}
use Rattle.cdc_top.specs.Order.{answer_of, findings_of_config, findings_of_pass, findings_of_lines}
use Rattle.cdc_top.specs.Planning.{IsNoPlan}
use Rattle.cdc_top.specs.Ran.{RunCall, lines_seen, IsUntouched, HadStop, HadLines, HadPass, IsRunCall, EndedAs, GaveLines, GaveFrontOfLines, RunSays, LinesStopped}
use Rattle.cdc_top.proofs.Behind.{IsLookedAt}

module _ {S D : Type 0} (s : SourceWords S) (w : DiskWords D) (shown : Bool) (call : RunCall S D) where
  -- no pass was begun
  no_pass_says : (why : ConfigStop) → IsNoPlan call.config why → call.out_now ≡ call.out_before → IsUntouched call → RunSays s w shown call (answer_of (findings_of_config why))
  no_pass_says stop.Unread is nothing same = (λ t. nothing, same, is)
  no_pass_says (stop.Refused key) is nothing same = (λ t. nothing, same, is)
  no_pass_says stop.Memory is nothing same = (λ t. nothing, inl same)

  -- a pass ended before all was published
  stop_says : (outcome : Outcome) → EndedAs s w call outcome → (PublishesAll outcome → ⊥) → call.out_now ≡ call.out_before → RunSays s w shown call (answer_of (findings_of_pass outcome))
  stop_says pass.Done ended stopped nothing = absurd (stopped tt)
  stop_says (pass.Disk out) ended stopped nothing = (λ t. nothing, inl (record { outcome = pass.Disk out; ended = ended; stopped = stopped; answered = refl }))
  stop_says pass.TaskDisk ended stopped nothing = (λ t. nothing, record { outcome = pass.TaskDisk; ended = ended; stopped = stopped; answered = refl })
  stop_says (pass.Read node) ended stopped nothing = (λ t. nothing, record { outcome = pass.Read node; ended = ended; stopped = stopped; answered = refl })
  stop_says pass.Memory ended stopped nothing = (λ t. nothing, inr (pass.Memory, ended))
  stop_says (pass.TooLarge number bytes) ended stopped nothing = absurd (stopped tt)
  stop_says (pass.Node node place fault) ended stopped nothing = absurd (stopped tt)
  stop_says (pass.Open out fault) ended stopped nothing = (λ t. nothing, inl (record { outcome = pass.Open out fault; ended = ended; stopped = stopped; answered = refl }))
  stop_says (pass.Task task.DiskFault) ended stopped nothing = (λ t. nothing, record { outcome = pass.Task task.DiskFault; ended = ended; stopped = stopped; answered = refl })
  stop_says (pass.Task (task.BadCell slot)) ended stopped nothing = (λ t. nothing, record { outcome = pass.Task (task.BadCell slot); ended = ended; stopped = stopped; answered = refl })
  stop_says (pass.Task (task.NodeCount kept given)) ended stopped nothing =
      (λ t. nothing, record { outcome = pass.Task (task.NodeCount kept given); ended = ended; stopped = stopped; answered = refl })
  stop_says (pass.Task (task.Rotation kept given)) ended stopped nothing =
      (λ t. nothing, record { outcome = pass.Task (task.Rotation kept given); ended = ended; stopped = stopped; answered = refl })
  stop_says (pass.Task task.Memory) ended stopped nothing = (λ t. nothing, inr (pass.Task task.Memory, ended))
  stop_says (pass.Behind node kept given) ended stopped nothing = (λ t. nothing, record { outcome = pass.Behind node kept given; ended = ended; stopped = stopped; answered = refl })
  stop_says (pass.Differs out kept given) ended stopped nothing = (λ t. nothing, record { outcome = pass.Differs out kept given; ended = ended; stopped = stopped; answered = refl })
  stop_says (pass.Key out kept given) ended stopped nothing = (λ t. nothing, record { outcome = pass.Key out kept given; ended = ended; stopped = stopped; answered = refl })

  -- a pass published all, and the lines were written
  done_says : (outcome : Outcome) → EndedAs s w call outcome → PublishesAll outcome → GaveLines w shown call → RunSays s w shown call (answer_of (findings_of_lines outcome list.Done))
  done_says pass.Done ended published lines = (ended, lines)
  done_says (pass.TooLarge number bytes) ended published lines = (ended, inl lines)
  done_says (pass.Node node place fault) ended published lines = (ended, inl lines)
  done_says (pass.Disk out) ended published lines = absurd published
  done_says pass.TaskDisk ended published lines = absurd published
  done_says (pass.Read node) ended published lines = absurd published
  done_says pass.Memory ended published lines = absurd published
  done_says (pass.Open out fault) ended published lines = absurd published
  done_says (pass.Task fault) ended published lines = absurd published
  done_says (pass.Behind node kept given) ended published lines = absurd published
  done_says (pass.Differs out kept given) ended published lines = absurd published
  done_says (pass.Key out kept given) ended published lines = absurd published

  -- or the sink failed
  sink_says : (outcome : Outcome) → EndedAs s w call outcome → PublishesAll outcome → GaveFrontOfLines w shown call → RunSays s w shown call (answer_of (findings_of_lines outcome list.Sink))
  sink_says pass.Done ended published lines = (ended, lines)
  sink_says (pass.TooLarge number bytes) ended published lines = (ended, inr lines)
  sink_says (pass.Node node place fault) ended published lines = (ended, inr lines)
  sink_says (pass.Disk out) ended published lines = absurd published
  sink_says pass.TaskDisk ended published lines = absurd published
  sink_says (pass.Read node) ended published lines = absurd published
  sink_says pass.Memory ended published lines = absurd published
  sink_says (pass.Open out fault) ended published lines = absurd published
  sink_says (pass.Task fault) ended published lines = absurd published
  sink_says (pass.Behind node kept given) ended published lines = absurd published
  sink_says (pass.Differs out kept given) ended published lines = absurd published
  sink_says (pass.Key out kept given) ended published lines = absurd published

  module _ (behind : List D) (same : IsTrue w.tells → map w.seen call.outs_now ≡ map w.seen behind) where
    -- the lines are those of the outs as they are now
    all_lines : IsFrontsEnd w.tells shown (lines_seen w call behind) list.Done → GaveLines w shown call
    all_lines ended = λ t. ((ended t).0, subst (λ (images : List Image). IsFrontsText images (ended t).0) (sym (same t)) (ended t).1, (ended t).2)

    -- or a front of them
    front_lines : IsFrontsEnd w.tells shown (lines_seen w call behind) list.Sink → GaveFrontOfLines w shown call
    front_lines ended = (ended.0, λ t. ((ended.1 t).0, subst (λ (images : List Image). IsFrontsText images (ended.1 t).0) (sym (same t)) (ended.1 t).1, (ended.1 t).2))

    -- the outs couldn't be looked at
    lines_stop : (outcome : Outcome) (end : ListEnd) → EndedAs s w call outcome → PublishesAll outcome → AllLater w.faults behind call.outs_now
        → IsStopped w.tells (map w.seen behind) (map w.faults behind) (map w.faults call.outs_now) end → LinesStopped s w call end
    lines_stop outcome end ended published later stopped =
        record { outcome = outcome; ended = ended; published = published; behind = behind; later = later; same = same; stopped = stopped }

    -- so it says
    lines_say : (outcome : Outcome) (end : ListEnd) → EndedAs s w call outcome → PublishesAll outcome → AllLater w.faults behind call.outs_now → IsFrontsEnd w.tells shown (lines_seen w call behind) end
        → RunSays s w shown call (answer_of (findings_of_lines outcome end))
    lines_say outcome list.Done ended published later is = done_says outcome ended published (all_lines is)
    lines_say outcome (list.Unopened out fault) ended published later is = (is.1, inr (lines_stop outcome (list.Unopened out fault) ended published later is.0))
    lines_say outcome (list.Disk out) ended published later is = (is.1, inr (lines_stop outcome (list.Disk out) ended published later is.0))
    lines_say outcome list.Memory ended published later is = (is.1, inr (outcome, ended))
    lines_say outcome list.Sink ended published later is = sink_says outcome ended published (front_lines is)

  -- what is answered of a pass
  pass_says : (found : Findings) → HadPass s w shown call found → RunSays s w shown call (answer_of found)
  pass_says found had = by_rest had.passed.rest
    where
      ended : EndedAs s w call had.passed.outcome
      ended = record { plan = had.plan; is_plan = had.is_plan; cause = had.passed.cause; headline = had.passed.headline }

      by_rest : HadStop call had.passed.outcome found ⊎ HadLines w shown call had.passed.behind had.passed.outcome found → RunSays s w shown call (answer_of found)
      by_rest (inl stop) =
          subst (λ (f : Findings). RunSays s w shown call (answer_of f)) (sym stop.found_is) (stop_says had.passed.outcome ended stop.stopped stop.nothing)
      by_rest (inr lines) =
          subst (λ (f : Findings). RunSays s w shown call (answer_of f)) (sym lines.found_is)
          (lines_say had.passed.behind
          (λ t. zip_same (IsLookedAt w) w.seen (λ x y alone. alone.same) had.passed.behind call.outs_now (had.passed.alone t))
          had.passed.outcome lines.end ended lines.published had.passed.later lines.ended)

  -- what is answered of a call of `run`
  pub run_says : (found : Findings) → IsRunCall s w shown call found → RunSays s w shown call (answer_of found)
  run_says found (inl none) = subst (λ (f : Findings). RunSays s w shown call (answer_of f)) (sym none.found_is) (no_pass_says none.why none.is none.nothing none.untouched)
  run_says found (inr had) = pass_says found had
