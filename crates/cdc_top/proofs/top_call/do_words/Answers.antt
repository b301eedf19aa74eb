use Rattle.std.proofs.Common.{◌≡◌, ℕ, Bool, false, List, Option, Some, ◌∙◌, ap, inl, inr}
use Rattle.cdc_cell.specs.Reading.{IsLeftAlone}
use Rattle.cdc_cell.proofs.Alone.{alone_yet}
use Rattle.cdc_config.specs.declared.command.Command.{Command}
use Rattle.cdc_config.specs.declared.command.Command.TheVariants as command
use Rattle.cdc_config.specs.Words.{command_from}
use Rattle.cdc_drill.specs.Drill.{drill_run, IsDrillEnd}
use Rattle.cdc_list.proofs.Zips.{zip_yet, later_yet}
use Rattle.cdc_print.specs.Outcome.{run_seen}
use Rattle.cdc_top.specs.Call.{call_seen, config_seen, outs_seen}
use Rattle.cdc_top.specs.Words.{IsNoPass, help_text, version_text}
use Rattle.cdc_top.proofs.Drilled.{same_drill}
use Rattle.cdc_top.proofs.ListFindings.{list_findings, list_wrote}
use Rattle.cdc_top.proofs.PrintFindings.{print_findings, print_wrote}
use Rattle.cdc_top.proofs.TextFindings.{text_findings, help_wrote, version_wrote}
use Rattle.cdc_top.proofs.top_call.do_words.Goals as goal

pub returns-in-Print-clause-findings : goal.returns-in-Print-clause-findings
returns-in-Print-clause-findings g c other =
    rw c.findings_of.ensures
    (print_findings g.S.Source.tells g.K.Sink.tells
    (call_seen c.args.words.now (run_seen g.S.Source.held g.S.Source.faults g.K.Sink.written g.K.Sink.faults c.args.nodes.now.items c.print_logs.new.nodes.items c.args.out.now c.print_logs.new.out)
    (config_seen g.C.Source.tells g.C.Source.held g.C.Source.faults c.args.config.now c.args.config.now) (outs_seen g.D.Disk.tells g.D.Disk.seen g.D.Disk.faults c.args.outs.now.items c.args.outs.now.items))
    c.print_logs.result (_, c.in-Ok.ensures.command ∙ ap (λ (found : Command). Some found) c.in-Print.is) c.print_logs.ensures.ended c.print_logs.ensures.ordered)

pub returns-in-Print-clause-wrote : goal.returns-in-Print-clause-wrote
returns-in-Print-clause-wrote g c other =
    rw c.findings_of.ensures
    (print_wrote g.S.Source.tells g.K.Sink.tells
    (call_seen c.args.words.now (run_seen g.S.Source.held g.S.Source.faults g.K.Sink.written g.K.Sink.faults c.args.nodes.now.items c.print_logs.new.nodes.items c.args.out.now c.print_logs.new.out)
    (config_seen g.C.Source.tells g.C.Source.held g.C.Source.faults c.args.config.now c.args.config.now) (outs_seen g.D.Disk.tells g.D.Disk.seen g.D.Disk.faults c.args.outs.now.items c.args.outs.now.items))
    c.print_logs.result (_, c.in-Ok.ensures.command ∙ ap (λ (found : Command). Some found) c.in-Print.is) c.print_logs.ensures.ended)

pub returns-in-List-clause-findings : goal.returns-in-List-clause-findings
returns-in-List-clause-findings g c other =
    list_findings g.S.Source.tells g.K.Sink.tells
    (call_seen c.args.words.now (run_seen g.S.Source.held g.S.Source.faults g.K.Sink.written g.K.Sink.faults c.args.nodes.now.items c.args.nodes.now.items c.args.out.now c.list_outs.new.out)
    (config_seen g.C.Source.tells g.C.Source.held g.C.Source.faults c.args.config.now c.list_outs.new.config) (outs_seen g.D.Disk.tells g.D.Disk.seen g.D.Disk.faults c.args.outs.now.items c.list_outs.new.outs.items))
    c.list_outs.result (_, c.in-Ok.ensures.command ∙ ap (λ (found : Command). Some found) c.in-List.is) c.list_outs.ensures.ended

pub returns-in-List-clause-wrote : goal.returns-in-List-clause-wrote
returns-in-List-clause-wrote g c other =
    list_wrote g.S.Source.tells g.K.Sink.tells
    (call_seen c.args.words.now (run_seen g.S.Source.held g.S.Source.faults g.K.Sink.written g.K.Sink.faults c.args.nodes.now.items c.args.nodes.now.items c.args.out.now c.list_outs.new.out)
    (config_seen g.C.Source.tells g.C.Source.held g.C.Source.faults c.args.config.now c.list_outs.new.config) (outs_seen g.D.Disk.tells g.D.Disk.seen g.D.Disk.faults c.args.outs.now.items c.list_outs.new.outs.items))
    c.list_outs.result (_, c.in-Ok.ensures.command ∙ ap (λ (found : Command). Some found) c.in-List.is) c.list_outs.ensures.ended

pub returns-in-Help-clause-findings : goal.returns-in-Help-clause-findings
returns-in-Help-clause-findings g c other =
    text_findings g.S.Source.tells g.K.Sink.tells
    (call_seen c.args.words.now (run_seen g.S.Source.held g.S.Source.faults g.K.Sink.written g.K.Sink.faults c.args.nodes.now.items c.args.nodes.now.items c.args.out.now c.write_text.new.out)
    (config_seen g.C.Source.tells g.C.Source.held g.C.Source.faults c.args.config.now c.args.config.now) (outs_seen g.D.Disk.tells g.D.Disk.seen g.D.Disk.faults c.args.outs.now.items c.args.outs.now.items))
    help_text c.write_text.result
    (inl (c.in-Ok.ensures.command ∙ ap (λ (found : Command). Some found) c.in-Help.is))
    (rw c.help.ensures at c.write_text.ensures.written)

pub returns-in-Help-clause-wrote : goal.returns-in-Help-clause-wrote
returns-in-Help-clause-wrote g c other =
    help_wrote g.S.Source.tells g.K.Sink.tells
    (call_seen c.args.words.now (run_seen g.S.Source.held g.S.Source.faults g.K.Sink.written g.K.Sink.faults c.args.nodes.now.items c.args.nodes.now.items c.args.out.now c.write_text.new.out)
    (config_seen g.C.Source.tells g.C.Source.held g.C.Source.faults c.args.config.now c.args.config.now) (outs_seen g.D.Disk.tells g.D.Disk.seen g.D.Disk.faults c.args.outs.now.items c.args.outs.now.items))
    c.write_text.result
    (c.in-Ok.ensures.command ∙ ap (λ (found : Command). Some found) c.in-Help.is)
    (rw c.help.ensures at c.write_text.ensures.written)

pub returns-in-Version-clause-findings : goal.returns-in-Version-clause-findings
returns-in-Version-clause-findings g c other =
    text_findings g.S.Source.tells g.K.Sink.tells
    (call_seen c.args.words.now (run_seen g.S.Source.held g.S.Source.faults g.K.Sink.written g.K.Sink.faults c.args.nodes.now.items c.args.nodes.now.items c.args.out.now c.write_text-in-Version.new.out)
    (config_seen g.C.Source.tells g.C.Source.held g.C.Source.faults c.args.config.now c.args.config.now) (outs_seen g.D.Disk.tells g.D.Disk.seen g.D.Disk.faults c.args.outs.now.items c.args.outs.now.items))
    version_text c.write_text-in-Version.result
    (inr (c.in-Ok.ensures.command ∙ ap (λ (found : Command). Some found) c.in-Version.is))
    (rw c.version.ensures at c.write_text-in-Version.ensures.written)

pub returns-in-Version-clause-wrote : goal.returns-in-Version-clause-wrote
returns-in-Version-clause-wrote g c other =
    version_wrote g.S.Source.tells g.K.Sink.tells
    (call_seen c.args.words.now (run_seen g.S.Source.held g.S.Source.faults g.K.Sink.written g.K.Sink.faults c.args.nodes.now.items c.args.nodes.now.items c.args.out.now c.write_text-in-Version.new.out)
    (config_seen g.C.Source.tells g.C.Source.held g.C.Source.faults c.args.config.now c.args.config.now) (outs_seen g.D.Disk.tells g.D.Disk.seen g.D.Disk.faults c.args.outs.now.items c.args.outs.now.items))
    c.write_text-in-Version.result
    (c.in-Ok.ensures.command ∙ ap (λ (found : Command). Some found) c.in-Version.is)
    (rw c.version.ensures at c.write_text-in-Version.ensures.written)

pub returns-in-Err-Memory-clause-outs_later : goal.returns-in-Err-Memory-clause-outs_later
returns-in-Err-Memory-clause-outs_later g c = later_yet g.D.Disk.faults c.args.outs.now.items

pub returns-in-Err-Memory-clause-outs_alone : goal.returns-in-Err-Memory-clause-outs_alone
returns-in-Err-Memory-clause-outs_alone g c other told =
    zip_yet (IsLeftAlone g.D.Disk.seen g.D.Disk.synced g.D.Disk.pending g.D.Disk.may_leave g.D.Disk.moment g.D.Disk.left_since)
    (alone_yet g.D.Disk.seen g.D.Disk.synced g.D.Disk.pending g.D.Disk.may_leave g.D.Disk.moment g.D.Disk.left_since (λ disk image left. g.met.D.Disk.only_now disk image told left)) c.args.outs.now.items

pub returns-in-Err-Usage-clause-outs_later : goal.returns-in-Err-Usage-clause-outs_later
returns-in-Err-Usage-clause-outs_later g c = later_yet g.D.Disk.faults c.args.outs.now.items

pub returns-in-Err-Usage-clause-outs_alone : goal.returns-in-Err-Usage-clause-outs_alone
returns-in-Err-Usage-clause-outs_alone g c other told =
    zip_yet (IsLeftAlone g.D.Disk.seen g.D.Disk.synced g.D.Disk.pending g.D.Disk.may_leave g.D.Disk.moment g.D.Disk.left_since)
    (alone_yet g.D.Disk.seen g.D.Disk.synced g.D.Disk.pending g.D.Disk.may_leave g.D.Disk.moment g.D.Disk.left_since (λ disk image left. g.met.D.Disk.only_now disk image told left)) c.args.outs.now.items

pub returns-in-Print-clause-outs_later : goal.returns-in-Print-clause-outs_later
returns-in-Print-clause-outs_later g c = later_yet g.D.Disk.faults c.args.outs.now.items

pub returns-in-Print-clause-outs_alone : goal.returns-in-Print-clause-outs_alone
returns-in-Print-clause-outs_alone g c other told =
    zip_yet (IsLeftAlone g.D.Disk.seen g.D.Disk.synced g.D.Disk.pending g.D.Disk.may_leave g.D.Disk.moment g.D.Disk.left_since)
    (alone_yet g.D.Disk.seen g.D.Disk.synced g.D.Disk.pending g.D.Disk.may_leave g.D.Disk.moment g.D.Disk.left_since (λ disk image left. g.met.D.Disk.only_now disk image told left)) c.args.outs.now.items

pub returns-in-Help-clause-outs_later : goal.returns-in-Help-clause-outs_later
returns-in-Help-clause-outs_later g c = later_yet g.D.Disk.faults c.args.outs.now.items

pub returns-in-Help-clause-outs_alone : goal.returns-in-Help-clause-outs_alone
returns-in-Help-clause-outs_alone g c other told =
    zip_yet (IsLeftAlone g.D.Disk.seen g.D.Disk.synced g.D.Disk.pending g.D.Disk.may_leave g.D.Disk.moment g.D.Disk.left_since)
    (alone_yet g.D.Disk.seen g.D.Disk.synced g.D.Disk.pending g.D.Disk.may_leave g.D.Disk.moment g.D.Disk.left_since (λ disk image left. g.met.D.Disk.only_now disk image told left)) c.args.outs.now.items

pub returns-in-Version-clause-outs_later : goal.returns-in-Version-clause-outs_later
returns-in-Version-clause-outs_later g c = later_yet g.D.Disk.faults c.args.outs.now.items

pub returns-in-Version-clause-outs_alone : goal.returns-in-Version-clause-outs_alone
returns-in-Version-clause-outs_alone g c other told =
    zip_yet (IsLeftAlone g.D.Disk.seen g.D.Disk.synced g.D.Disk.pending g.D.Disk.may_leave g.D.Disk.moment g.D.Disk.left_since)
    (alone_yet g.D.Disk.seen g.D.Disk.synced g.D.Disk.pending g.D.Disk.may_leave g.D.Disk.moment g.D.Disk.left_since (λ disk image left. g.met.D.Disk.only_now disk image told left)) c.args.outs.now.items

pub returns-clause-outs_later : goal.returns-clause-outs_later
returns-clause-outs_later g c = later_yet g.D.Disk.faults c.args.outs.now.items

pub returns-clause-outs_alone : goal.returns-clause-outs_alone
returns-clause-outs_alone g c other told =
    zip_yet (IsLeftAlone g.D.Disk.seen g.D.Disk.synced g.D.Disk.pending g.D.Disk.may_leave g.D.Disk.moment g.D.Disk.left_since)
    (alone_yet g.D.Disk.seen g.D.Disk.synced g.D.Disk.pending g.D.Disk.may_leave g.D.Disk.moment g.D.Disk.left_since (λ disk image left. g.met.D.Disk.only_now disk image told left)) c.args.outs.now.items

pub returns-then-threads-clause-outs_later : goal.returns-then-threads-clause-outs_later
returns-then-threads-clause-outs_later g c = later_yet g.D.Disk.faults c.args.outs.now.items

pub returns-then-threads-clause-outs_alone : goal.returns-then-threads-clause-outs_alone
returns-then-threads-clause-outs_alone g c other told =
    zip_yet (IsLeftAlone g.D.Disk.seen g.D.Disk.synced g.D.Disk.pending g.D.Disk.may_leave g.D.Disk.moment g.D.Disk.left_since)
    (alone_yet g.D.Disk.seen g.D.Disk.synced g.D.Disk.pending g.D.Disk.may_leave g.D.Disk.moment g.D.Disk.left_since (λ disk image left. g.met.D.Disk.only_now disk image told left)) c.args.outs.now.items

pub returns-then-threads-2-clause-outs_later : goal.returns-then-threads-2-clause-outs_later
returns-then-threads-2-clause-outs_later g c = later_yet g.D.Disk.faults c.args.outs.now.items

pub returns-then-threads-2-clause-outs_alone : goal.returns-then-threads-2-clause-outs_alone
returns-then-threads-2-clause-outs_alone g c other told =
    zip_yet (IsLeftAlone g.D.Disk.seen g.D.Disk.synced g.D.Disk.pending g.D.Disk.may_leave g.D.Disk.moment g.D.Disk.left_since)
    (alone_yet g.D.Disk.seen g.D.Disk.synced g.D.Disk.pending g.D.Disk.may_leave g.D.Disk.moment g.D.Disk.left_since (λ disk image left. g.met.D.Disk.only_now disk image told left)) c.args.outs.now.items

pub returns-in-Drill-clause-outs_later : goal.returns-in-Drill-clause-outs_later
returns-in-Drill-clause-outs_later g c = later_yet g.D.Disk.faults c.args.outs.now.items

pub returns-in-Drill-clause-outs_alone : goal.returns-in-Drill-clause-outs_alone
returns-in-Drill-clause-outs_alone g c other told =
    zip_yet (IsLeftAlone g.D.Disk.seen g.D.Disk.synced g.D.Disk.pending g.D.Disk.may_leave g.D.Disk.moment g.D.Disk.left_since)
    (alone_yet g.D.Disk.seen g.D.Disk.synced g.D.Disk.pending g.D.Disk.may_leave g.D.Disk.moment g.D.Disk.left_since (λ disk image left. g.met.D.Disk.only_now disk image told left)) c.args.outs.now.items

-- a drill is no pass of the nodes
no_findings : (words : List (List ℕ)) (s n k : ℕ) (order : Option ℕ) (threads : Bool) → IsNoPass words → command_from words ≡ Some (command.Drill s n k order threads) → threads ≡ false → ⊥
no_findings words s n k order threads other is off = other.no_drill s n k (order, is ∙ ap (λ t. Some (command.Drill s n k order t)) off)

pub returns-in-Drill-clause-findings : goal.returns-in-Drill-clause-findings
returns-in-Drill-clause-findings g c other = absurd (no_findings _ _ _ _ _ _ other (c.in-Ok.ensures.command ∙ ap (λ (found : Command). Some found) c.in-Drill.is) c.if-threads-2.false)

pub returns-in-Drill-clause-wrote : goal.returns-in-Drill-clause-wrote
returns-in-Drill-clause-wrote g c other = absurd (no_findings _ _ _ _ _ _ other (c.in-Ok.ensures.command ∙ ap (λ (found : Command). Some found) c.in-Drill.is) c.if-threads-2.false)

pub returns-in-Drill-clause-drilled : goal.returns-in-Drill-clause-drilled
returns-in-Drill-clause-drilled g c seed nodes count is = (
  c.drill.result,
  same_drill c.args.words.now seed nodes count c.in-Drill.seed c.in-Drill.nodes c.in-Drill.count _ _ (c.in-Ok.ensures.command ∙ ap (λ (found : Command). Some found) c.in-Drill.is) is
      (λ s n k. IsDrillEnd g.K.Sink.tells (drill_run s n k (g.K.Sink.written c.args.out.now) (g.K.Sink.written c.drill.new.out) (g.K.Sink.faults c.args.out.now) (g.K.Sink.faults c.drill.new.out)) c.drill.result)
      c.drill.ensures.ended,
  c.findings_of_drilled.ensures,
)
