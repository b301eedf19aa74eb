use Rattle.std.proofs.Common.{rules, ◌≤◌, refl, sym, ◌∙◌, inl, inr, arith}
use Rattle.cdc_cell.specs.Reading.{IsLeftAlone}
use Rattle.cdc_cell.proofs.Alone.{alone_yet}
use Rattle.cdc_dump_stage.specs.Disks.{disk_words}
use Rattle.cdc_node_stage.specs.Job.{source_words}
use Rattle.cdc_list.proofs.Zips.{zip_yet, zip_both, zip_many, later_yet}
use Rattle.cdc_pass.specs.Starting.{output_plan}
use Rattle.cdc_top.proofs.Behind.{rose_till, headline_on, none_fell}
use Rattle.cdc_top.proofs.Facts.{apart}
use Rattle.cdc_top.proofs.run_call.pass_over.Goals as goal

-- all was published, and the lines were to be written
pub returns-then-publishes_all-clause-passed : goal.returns-then-publishes_all-clause-passed
returns-then-publishes_all-clause-passed g c config = record {
  outcome = c.run-outcome.result;
  behind = c.run-outcome.new.outs.items;
  cause = record {
    refused = c.run-outcome.ensures.refused;
    out_failed = λ number is. rose_till g.D.Disk.faults c.args.outs.now.items c.run-outcome.new.outs.items c.list_fronts-end.new.outs.items number (c.run-outcome.ensures.out_failed number is) c.list_fronts-end.ensures.later;
    task_failed = c.run-outcome.ensures.task_failed;
    node_failed = c.run-outcome.ensures.node_failed;
  };
  rest = inr (record {
    published = c.publishes_all.ensures.0 c.if-publishes_all.true;
    end = c.list_fronts-end.result;
    found_is = c.findings_of_run.ensures;
    ended = c.list_fronts-end.ensures.ended;
  });
  later = c.list_fronts-end.ensures.later;
  alone = c.list_fronts-end.ensures.alone;
  headline = λ told tells logs over.
      headline_on (source_words g.S.Source.tells g.S.Source.held g.S.Source.sizes g.S.Source.lowest g.S.Source.faults)
      (disk_words g.D.Disk.tells g.D.Disk.seen g.D.Disk.synced g.D.Disk.pending g.D.Disk.may_leave g.D.Disk.moment g.D.Disk.left_since g.D.Disk.faults)
      (λ disk t image within left. g.met.D.Disk.counts_now disk t image told within left) (output_plan c.args.plan.now) logs c.args.nodes.now.items c.run-outcome.new.nodes.items c.args.outs.now.items c.run-outcome.new.outs.items
      c.list_fronts-end.new.outs.items c.args.task.now c.run-outcome.new.task c.run-outcome.result (c.list_fronts-end.ensures.alone told) (c.run-outcome.ensures.headline told tells logs over);
}

-- it wasn't
pub returns-else-publishes_all-clause-passed : goal.returns-else-publishes_all-clause-passed
returns-else-publishes_all-clause-passed g c config = record {
  outcome = c.run-outcome.result;
  behind = c.run-outcome.new.outs.items;
  cause = record {
    refused = c.run-outcome.ensures.refused;
    out_failed = c.run-outcome.ensures.out_failed;
    task_failed = c.run-outcome.ensures.task_failed;
    node_failed = c.run-outcome.ensures.node_failed;
  };
  rest = inl (record { stopped = λ all. apart (sym (c.publishes_all.ensures.1 all) ∙ c.if-publishes_all.false); found_is = c.findings_of_pass.ensures; nothing = refl });
  later = later_yet g.D.Disk.faults c.run-outcome.new.outs.items;
  alone = λ told.
      zip_yet (IsLeftAlone g.D.Disk.seen g.D.Disk.synced g.D.Disk.pending g.D.Disk.may_leave g.D.Disk.moment g.D.Disk.left_since)
      (alone_yet g.D.Disk.seen g.D.Disk.synced g.D.Disk.pending g.D.Disk.may_leave g.D.Disk.moment g.D.Disk.left_since (λ disk image left. g.met.D.Disk.only_now disk image told left)) c.run-outcome.new.outs.items;
  headline = c.run-outcome.ensures.headline;
}

-- there are as many outs as the plan has
pub list_fronts-end-requires : goal.list_fronts-end-requires
list_fronts-end-requires g c =
    let many = zip_many (λ old new. g.D.Disk.faults old ≤ g.D.Disk.faults new) c.args.outs.now.items c.run-outcome.new.outs.items c.run-outcome.ensures.outs_later in
    search (rules, many)

pub returns-then-publishes_all-clause-outs_later : goal.returns-then-publishes_all-clause-outs_later
returns-then-publishes_all-clause-outs_later g c =
    zip_both (λ old new. g.D.Disk.faults old ≤ g.D.Disk.faults new) (λ x y z a b. omega (arith, a, b)) c.args.outs.now.items c.run-outcome.new.outs.items c.list_fronts-end.new.outs.items c.run-outcome.ensures.outs_later c.list_fronts-end.ensures.later

pub returns-then-publishes_all-clause-later : goal.returns-then-publishes_all-clause-later
returns-then-publishes_all-clause-later g c = none_fell g.S.Source.faults c.args.nodes.now.items c.run-outcome.new.nodes.items c.run-outcome.ensures.nodes_later

pub returns-else-publishes_all-clause-later : goal.returns-else-publishes_all-clause-later
returns-else-publishes_all-clause-later g c = none_fell g.S.Source.faults c.args.nodes.now.items c.run-outcome.new.nodes.items c.run-outcome.ensures.nodes_later
