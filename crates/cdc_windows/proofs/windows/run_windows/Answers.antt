-- The first window, and one more.
use Rattle.std.proofs.Common.{◌≡◌, ◌⊎◌, ◌≤◌, ℕ, Bool, true, inl, inr, ⊎_elim, sym, subst, arith}
use Rattle.cdc_outside.specs.Count.{Rose}
use Rattle.cdc_model.specs.Transaction.{key_at}
use Rattle.cdc_recovery.specs.Outputs.{planned_transactions}
use Rattle.cdc_turns.specs.Flow.{line_with}
use Rattle.cdc_dump_stage.specs.Disks.{disk_words}
use Rattle.cdc_dump_stage.specs.Job.{dump_account}
use Rattle.cdc_dump_stage.specs.JobLaws.{gone_nowhere, gone_on}
use Rattle.cdc_windows.specs.declared.reached.Reached.{Reached}
use Rattle.cdc_windows.specs.Rereading.{RememberFrom}
use Rattle.cdc_windows.proofs.Flows.{begins, forgets, flows_on}
use Rattle.cdc_windows.proofs.MorePairs.{all_seen_same}
use Rattle.cdc_windows.proofs.Passing.{keeps_first, keeps_later}
use Rattle.cdc_windows.proofs.Remembering.{turns_remember, remember_first, remember_later}
use Rattle.cdc_windows.proofs.windows.run_windows.Goals as goal
use Rattle.cdc_windows.proofs.windows.run_windows.Goals.{then-not-also, else-not-also}

-- a failure of one of two runs is one of both
fails_more : (first old new : Bool) (a b c : ℕ) → a ≤ b → b ≤ c → (old ≡ true → (first ≡ true) ⊎ Rose a b) → (new ≡ true → (old ≡ true) ⊎ Rose b c) → new ≡ true → (first ≡ true) ⊎ Rose a c
fails_more first old new a b c low high before now is =
    ⊎_elim
    (λ (was : old ≡ true). ⊎_elim (λ (at_first : first ≡ true). inl at_first) (λ (rose : Rose a b). inr (let h : Rose a c = omega (arith, rose, high) in h)) (before was))
    (λ (rose : Rose b c). inr (let h : Rose a c = omega (arith, rose, low) in h)) (now is)

pub windows-init : goal.windows-init
windows-init g c =
    let w = disk_words g.D.Disk.tells g.D.Disk.seen g.D.Disk.synced g.D.Disk.pending g.D.Disk.may_leave g.D.Disk.moment g.D.Disk.left_since g.D.Disk.faults in
    let a = g.N.NodeTurns.account in
    let m = g.M.MergeTurns.account in
    let first = line_with c.args.nodes.now c.args.ins.now c.args.merge.now c.args.outs.now c.args.dumps.now in
    let run = c.run_window-kept in
    let line = line_with run.new.nodes run.new.ins run.new.merge run.new.outs run.new.dumps in
    let begun = begins a m (dump_account w) g.N.NodePart.rereading (λ node. g.met.N.NodePart.turns_read_on node node (g.met.N.NodeTurns.starts node)) g.met.M.MergeTurns.starts (λ job. gone_nowhere w (λ told disk image left. g.met.D.Disk.only_now disk image told left) job) first c.requires.begun in
    let runs = run.ensures.runs first begun.0 in
    record {
      ran = runs.has_run;
      keeps = λ told plan logs from same reads ready.
          keeps_first a m w g.N.NodePart.rereading g.M.MergePart.came told (λ disk t image le left. g.met.D.Disk.counts_now disk t image told le left) (λ disk image left. g.met.D.Disk.only_now disk image told left)
          (λ disk. g.met.D.Disk.seen_may_stay disk told) plan logs c.args.rotation from first line begun.0 c.args.task.now run.new.task begun.1 same reads ready c.requires.some runs (run.ensures.stored told);
      standing = run.ensures.standing;
      place = run.ensures.place;
      fails = run.ensures.fails;
      later = run.ensures.later;
      remember = λ plan logs from reads low.
          remember_first a m w g.N.NodePart.rereading g.M.MergePart.came plan logs from first reads c.requires.some line runs.has_run (run.ensures.known (key_at (planned_transactions plan logs) from) low);
      last = run.ensures.last;
    }

pub next_window-requires-clause-nodes_ended : goal.next_window-requires-clause-nodes_ended
next_window-requires-clause-nodes_ended g c =
    all_seen_same g.N.NodeTurns.account.ended c.windows.nodes c.forget_all.new.nodes c.forget_all.ensures.ended c.windows.invariant.ran.ran.nodes_ended

pub windows-preserved : goal.windows-preserved
windows-preserved g c =
    let w = disk_words g.D.Disk.tells g.D.Disk.seen g.D.Disk.synced g.D.Disk.pending g.D.Disk.may_leave g.D.Disk.moment g.D.Disk.left_since g.D.Disk.faults in
    let a = g.N.NodeTurns.account in
    let m = g.M.MergeTurns.account in
    let first = line_with c.args.nodes.now c.args.ins.now c.args.merge.now c.args.outs.now c.args.dumps.now in
    let r = g.N.NodePart.rereading in
    let later = c.forget_all in
    let old = line_with later.new.nodes c.windows.ins c.windows.merge c.windows.outs c.windows.dumps in
    let next = c.next_window in
    let between = line_with next.new.nodes c.windows.ins next.new.merge c.windows.outs next.new.dumps in
    let run = c.run_window-also in
    let line = line_with run.new.nodes run.new.ins run.new.merge run.new.outs run.new.dumps in
    let had =
    forgets a m (dump_account w) r g.met.N.NodePart.reads_more first c.windows.nodes later.new.nodes c.windows.ins c.windows.merge c.windows.outs c.windows.dumps c.windows.invariant.ran later.ensures.sent later.ensures.ended later.ensures.read_on in
    let flows = flows_on a m (dump_account w) r g.met.N.NodePart.turns_read_on g.met.N.NodePart.reads_more g.met.M.MergeTurns.adds (λ x y z p q. gone_on w (λ told disk t image le left. g.met.D.Disk.counts_now disk t image told le left) x y z p q) first old between had
    (next.ensures.fits c.windows.ins c.windows.outs had.fits) next.ensures.nodes next.ensures.merge next.ensures.dumps (next.ensures.flow had.window c.windows.ins c.windows.outs had.fits had.ran) in
    let runs = run.ensures.runs first flows.0 in
    record {
      ran = runs.has_run;
      keeps = λ told plan logs from same reads ready.
          keeps_later a m w g.N.NodePart.rereading g.M.MergePart.came told (λ disk t image le left. g.met.D.Disk.counts_now disk t image told le left) (λ disk. g.met.D.Disk.seen_may_stay disk told) plan logs c.args.rotation from
          first old between line c.args.task.now c.windows.task run.new.task same reads ready c.requires.some had (c.windows.invariant.keeps told plan logs from same reads ready) next.ensures.dumps flows.0 flows.1 runs (run.ensures.stored told);
      standing = run.ensures.standing;
      place = run.ensures.place;
      fails =
          fails_more c.args.keeper.now.failed c.windows.keeper.failed run.new.keeper.failed (g.D.Disk.faults c.args.task.now) (g.D.Disk.faults c.windows.task) (g.D.Disk.faults run.new.task) c.windows.invariant.later run.ensures.later
          c.windows.invariant.fails run.ensures.fails;
      later = let low = c.windows.invariant.later in let high = run.ensures.later in omega (arith, low, high);
      remember = λ plan logs from reads low.
          let here : RememberFrom r (g.M.MergePart.came c.windows.merge).last c.windows.nodes = c.windows.invariant.remember plan logs from reads low in
          let forgot : RememberFrom r (g.M.MergePart.came c.windows.merge).last later.new.nodes = subst (λ (came : Reached). RememberFrom r came.last later.new.nodes) c.reached-reached.ensures
          (later.ensures.known (subst (λ (came : Reached). RememberFrom r came.last c.windows.nodes) (sym c.reached-reached.ensures) here)) in
          let next_on = turns_remember r a g.met.N.NodePart.turns_keep_known (g.M.MergePart.came c.windows.merge).last later.new.nodes next.new.nodes next.ensures.nodes forgot in
          remember_later a m w r g.M.MergePart.came plan logs from first reads c.requires.some old between line had flows.0 flows.1 runs (run.ensures.known (g.M.MergePart.came c.windows.merge).last next_on);
      last = λ kept well low works.
          elim c.if-not-also.branch [
            | then-not-also w ↦ absurd (let never = w.kept-is in cc)
            | else-not-also w ↦ run.ensures.last (let there = w.if-not-also.false in cc) well low works
          ];
    }
