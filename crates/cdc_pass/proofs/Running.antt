-- A pass behind its opening keeps the headline, names devices by their counts, and refuses no opening.
use Rattle.std.proofs.Common.{◌≡◌, ℕ, ◌⊎◌, inl, inr, IsTrue, List, map, Result, Ok, sym, ◌∙◌, ap, subst, arith}
use Rattle.std.specs.List.{AllZip}
use Rattle.cdc_model.specs.declared.node_log.NodeLog.{NodeLog}
use Rattle.cdc_recovery.specs.Outputs.{OutputPlan}
use Rattle.cdc_dump_stage.specs.Disks.{DiskWords}
use Rattle.cdc_kept.specs.Kept.{PassStart, opened_start}
use Rattle.cdc_node_stage.specs.Job.{SourceWords}
use Rattle.cdc_opening.specs.Answers.{used_point}
use Rattle.cdc_opening.specs.declared.opened.Opened.{Opened}
use Rattle.cdc_opening.specs.declared.outcome.Outcome.{Outcome}
use Rattle.cdc_opening.specs.declared.outcome.Outcome.TheVariants.{Disk, TaskDisk, Read, Memory}
use Rattle.cdc_opening.specs.Lists.{DeviceRoseAt}
use Rattle.cdc_opening.specs.OpenOuts.{IsOutKept}
use Rattle.cdc_opening.specs.Outcomes.{place_of_outcome}
use Rattle.cdc_opening.specs.TaskAnswers.{IsTaskKept}
use Rattle.cdc_windows.specs.Jobs.{pass_start}
use Rattle.cdc_headline.specs.Ending.{IsRefusedOpening}
use Rattle.cdc_headline.specs.Headline.{Headline}
use Rattle.cdc_headline.specs.Laws.{OpeningKeepsHeadline, WindowsKeepHeadline, WindowsNameByCounts, NamesByCounts}
use Rattle.cdc_headline.specs.Running.{IsPassOver, HasOpened, KeepsSource, HasRunWindows}
use Rattle.cdc_pass.specs.Starting.{DidNothing}
use Rattle.cdc_pass.proofs.Causes.{all_unrefused}
use Rattle.cdc_pass.proofs.Opened.{same_start, rose_since, rose_from, zip_long}

-- what a pass did behind its opening
abbrev pub DidBehind : {S D : Type 0} → SourceWords S → DiskWords D → OutputPlan → Opened → List S → List S → List D → List D → D → D → Outcome → Type 0
DidBehind s w plan opened mid nodes_now outs_mid outs_now task_mid task_now outcome =
    DidNothing mid nodes_now outs_mid outs_now task_mid task_now outcome
    ⊎ HasRunWindows s w plan (opened_start mid opened) opened.dumpers.items (pass_start opened.kept opened.start) mid nodes_now outs_mid outs_now task_mid task_now outcome

-- want of memory names no disk
no_disk : (number : ℕ) → Memory ≡ Disk number → ⊥
no_disk number same = let e : place_of_outcome Memory ≡ place_of_outcome (Disk number) = ap place_of_outcome same in omega (arith, e)

-- nor the task's
no_task : Memory ≡ TaskDisk → ⊥
no_task same = let e : place_of_outcome Memory ≡ place_of_outcome TaskDisk = ap place_of_outcome same in omega (arith, e)

-- nor a source
no_read : (number : ℕ) → Memory ≡ Read number → ⊥
no_read number same = let e : place_of_outcome Memory ≡ place_of_outcome (Read number) = ap place_of_outcome same in omega (arith, e)

module _ {S D : Type 0} (s : SourceWords S) (w : DiskWords D) where
  -- it keeps the headline
  pub behind_keeps : OpeningKeepsHeadline s w → WindowsKeepHeadline s w → (plan : OutputPlan) (logs : List NodeLog) (nodes mid nodes_now : List S) (outs outs_mid outs_now : List D) (task task_mid task_now : D) (opened : Opened) (outcome : Outcome)
      → IsTrue s.tells → IsTrue w.tells → IsPassOver s w plan logs nodes outs task → HasOpened s w plan nodes mid outs outs_mid task task_mid (Ok opened)
      → DidBehind s w plan opened mid nodes_now outs_mid outs_now task_mid task_now outcome → Headline s w plan logs nodes nodes_now outs outs_now task task_now outcome
  behind_keeps opening windows plan logs nodes mid nodes_now outs outs_mid outs_now task task_mid task_now opened outcome s_tells w_tells over has (inl nothing) =
      opening plan logs nodes nodes_now outs outs_now task task_now (Ok opened) outcome s_tells w_tells over
      (subst (λ (ns : List S). HasOpened s w plan nodes ns outs outs_now task task_now (Ok opened)) (sym nothing.nodes_same)
      (subst (λ (ds : List D). HasOpened s w plan nodes mid outs ds task task_now (Ok opened)) (sym nothing.outs_same)
      (subst (λ (d : D). HasOpened s w plan nodes mid outs outs_mid task d (Ok opened)) (sym nothing.task_same) has)))
      (inr nothing.wanting)
  behind_keeps opening windows plan logs nodes mid nodes_now outs outs_mid outs_now task task_mid task_now opened outcome s_tells w_tells over has (inr ran) =
      windows plan logs nodes mid nodes_now outs outs_mid outs_now task task_mid task_now opened outcome s_tells w_tells over has
      (subst (λ (start : PassStart). HasRunWindows s w plan start opened.dumpers.items (pass_start opened.kept opened.start) mid nodes_now outs_mid outs_now task_mid task_now outcome)
      (same_start mid nodes (used_point opened.start opened.kept) (sym (zip_long (KeepsSource s) nodes mid has.nodes_kept))) ran)

  -- what was done behind the opening names a device only where its count rose since
  names_behind : WindowsNameByCounts s w → (plan : OutputPlan) (mid nodes_now : List S) (outs_mid outs_now : List D) (task_mid task_now : D) (opened : Opened) (outcome : Outcome)
      → DidBehind s w plan opened mid nodes_now outs_mid outs_now task_mid task_now outcome → NamesByCounts s w mid nodes_now outs_mid outs_now task_mid task_now outcome
  names_behind windows plan mid nodes_now outs_mid outs_now task_mid task_now opened outcome (inl nothing) = record {
    outs_rose = λ number is. absurd (no_disk number (sym nothing.wanting ∙ is));
    task_rose = λ is. absurd (no_task (sym nothing.wanting ∙ is));
    nodes_rose = λ number is. absurd (no_read number (sym nothing.wanting ∙ is));
  }
  names_behind windows plan mid nodes_now outs_mid outs_now task_mid task_now opened outcome (inr ran) = windows plan mid nodes_now outs_mid outs_now task_mid task_now opened outcome ran

  -- it names a device only where its count rose, the opening's calls included
  pub behind_names : WindowsNameByCounts s w → (plan : OutputPlan) (nodes mid nodes_now : List S) (outs outs_mid outs_now : List D) (task task_mid task_now : D) (opened : Opened) (outcome : Outcome)
      → AllZip (KeepsSource s) nodes mid → AllZip (IsOutKept w.tells w.seen w.may_leave w.moment w.left_since w.faults) outs outs_mid → IsTaskKept w.tells w.seen w.may_leave w.moment w.left_since w.faults task task_mid
      → DidBehind s w plan opened mid nodes_now outs_mid outs_now task_mid task_now outcome → NamesByCounts s w nodes nodes_now outs outs_now task task_now outcome
  behind_names windows plan nodes mid nodes_now outs outs_mid outs_now task task_mid task_now opened outcome nodes_kept outs_kept task_kept did =
      let names = names_behind windows plan mid nodes_now outs_mid outs_now task_mid task_now opened outcome did in
      record {
        outs_rose = λ number is.
            rose_since w.faults (IsOutKept w.tells w.seen w.may_leave w.moment w.left_since w.faults) (λ old new kept. kept.later) outs outs_mid outs_now number outs_kept (names.outs_rose number is);
        task_rose = λ is. rose_from (w.faults task) (w.faults task_mid) (w.faults task_now) task_kept.later (names.task_rose is);
        nodes_rose = λ number is. rose_since s.faults (KeepsSource s) (λ old new kept. kept.later) nodes mid nodes_now number nodes_kept (names.nodes_rose number is);
      }

  -- and its answer is no refusal of an opening
  pub behind_unrefused : (plan : OutputPlan) (opened : Opened) (mid nodes_now : List S) (outs_mid outs_now : List D) (task_mid task_now : D) (outcome : Outcome)
      → DidBehind s w plan opened mid nodes_now outs_mid outs_now task_mid task_now outcome → IsRefusedOpening outcome → ⊥
  behind_unrefused plan opened mid nodes_now outs_mid outs_now task_mid task_now outcome (inl nothing) refused = subst (λ (o : Outcome). IsRefusedOpening o) nothing.wanting refused
  behind_unrefused plan opened mid nodes_now outs_mid outs_now task_mid task_now outcome (inr ran) refused =
      all_unrefused ran.caused.jobs ran.caused.task_failed ran.caused.wanting ran.passed.cause ran.laters ran.later.end outcome ran.caused.first ran.first refused

  -- ---- over lists that were lent as slices

  -- what a pass did over lists that are as others
  pub lent_behind : (plan : OutputPlan) (opened : Opened) (ns nodes_now : List S) (ds outs_now : List D) (task_mid task_now : D) (outcome : Outcome) (mid : List S) (outs_mid : List D)
      → DidBehind s w plan opened ns nodes_now ds outs_now task_mid task_now outcome → ns ≡ mid → ds ≡ outs_mid → DidBehind s w plan opened mid nodes_now outs_mid outs_now task_mid task_now outcome
  lent_behind plan opened ns nodes_now ds outs_now task_mid task_now outcome mid outs_mid did nodes_same outs_same =
      subst (λ (list : List S). DidBehind s w plan opened list nodes_now outs_mid outs_now task_mid task_now outcome) nodes_same
      (subst (λ (list : List D). DidBehind s w plan opened ns nodes_now list outs_now task_mid task_now outcome) outs_same did)

  -- what an opening answered
  pub lent_opened : (plan : OutputPlan) (ns mid : List S) (ds outs_mid : List D) (task task_mid : D) (result : Result Opened Outcome) (nodes : List S) (outs : List D)
      → HasOpened s w plan ns mid ds outs_mid task task_mid result → ns ≡ nodes → ds ≡ outs → HasOpened s w plan nodes mid outs outs_mid task task_mid result
  lent_opened plan ns mid ds outs_mid task task_mid result nodes outs has nodes_same outs_same =
      subst (λ (list : List S). HasOpened s w plan list mid outs outs_mid task task_mid result) nodes_same (subst (λ (list : List D). HasOpened s w plan ns mid list outs_mid task task_mid result) outs_same has)

  -- the headline
  pub lent_headline : (plan : OutputPlan) (logs : List NodeLog) (nodes mid ns : List S) (outs outs_mid ds : List D) (task task_now : D) (outcome : Outcome)
      → Headline s w plan logs nodes mid outs outs_mid task task_now outcome → mid ≡ ns → outs_mid ≡ ds → Headline s w plan logs nodes ns outs ds task task_now outcome
  lent_headline plan logs nodes mid ns outs outs_mid ds task task_now outcome keeps nodes_same outs_same =
      subst (λ (list : List S). Headline s w plan logs nodes list outs ds task task_now outcome) nodes_same (subst (λ (list : List D). Headline s w plan logs nodes mid outs list task task_now outcome) outs_same keeps)

  -- names by counts
  pub lent_names : (ns nodes_now : List S) (ds outs_now : List D) (task task_now : D) (outcome : Outcome) (nodes : List S) (outs : List D)
      → NamesByCounts s w ns nodes_now ds outs_now task task_now outcome → ns ≡ nodes → ds ≡ outs → NamesByCounts s w nodes nodes_now outs outs_now task task_now outcome
  lent_names ns nodes_now ds outs_now task task_now outcome nodes outs names nodes_same outs_same =
      subst (λ (list : List S). NamesByCounts s w list nodes_now outs outs_now task task_now outcome) nodes_same
      (subst (λ (list : List D). NamesByCounts s w ns nodes_now list outs_now task task_now outcome) outs_same names)

-- a count that rose
pub lent_rose : {A : Type 0} (faults : A → ℕ) (number : ℕ) (olds news firsts lasts : List A) → DeviceRoseAt (map faults olds) (map faults news) number → olds ≡ firsts → news ≡ lasts → DeviceRoseAt (map faults firsts) (map faults lasts) number
lent_rose {A} faults number olds news firsts lasts rose old new =
    subst (λ (list : List A). DeviceRoseAt (map faults list) (map faults lasts) number) old (subst (λ (list : List A). DeviceRoseAt (map faults olds) (map faults list) number) new rose)
