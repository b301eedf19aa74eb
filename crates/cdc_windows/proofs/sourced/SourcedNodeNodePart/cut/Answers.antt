-- The stage's point, where it has forgotten up to no greater key.
use Rattle.std.proofs.Common.{◌≡◌, ℕ, Bool, false, List, refl, sym, ◌∙◌, ap, subst}
use Rattle.std.specs.Ordering.{is_gt}
use Rattle.cdc_base.specs.declared.key.Key.{Key}
use Rattle.cdc_base.specs.Key.{key_order}
use Rattle.cdc_model.specs.Commits.{IsStart}
use Rattle.cdc_model.specs.Restart.{RestartPoint, start_at, IsAtMost, IsLatestPoint}
use Rattle.cdc_item.specs.declared.node_item.NodeItem.{NodeItem}
use Rattle.cdc_node_stage.specs.declared.stage.NodeStage.{NodeStage}
use Rattle.cdc_node_stage.specs.Sending.{node_state, HasSent}
use Rattle.cdc_node_stage.specs.Job.{SourcedStage}
use Rattle.cdc_windows.proofs.sourced.SourcedNodeNodePart.cut.Goals as goal

-- a point of a stage for a key is the latest one, where no more was forgotten
abbrev IsCutOf : Key → RestartPoint → NodeStage → Type 0
IsCutOf last point stage =
    (tells : Bool) (files : List (List ℕ)) (window : ℕ) (items : List NodeItem) (sent : HasSent tells files (node_state stage) window items)
    → IsStart (start_at stage.from) → IsAtMost stage.reader.sorter.trail.known last → IsLatestPoint last stage.from stage.reader.sorter.node sent.taken point

pub returns : goal.returns
returns g c =
    let stage_is : c.stage.result.now ≡ c.args.self.now.stage = c.stage.ensures ∙ ap (λ (job : SourcedStage g.row.S.Denot). job.stage) c.self.view_is in
    let known_is : c.args.self.now.stage.reader.sorter.trail.known ≡ c.self.inside.known =
    ap (λ (job : SourcedStage g.row.S.Denot). job.stage.reader.sorter.trail.known) (sym c.self.view_is) ∙ c.self.invariant in
    let within : is_gt (key_order c.self.inside.known c.args.last.now) ≡ false = cc in
    let most : IsAtMost c.args.self.now.stage.reader.sorter.trail.known c.args.last.now = ap (λ (key : Key). is_gt (key_order key c.args.last.now)) known_is ∙ within in
    record {
      point = λ window items sent begins.
          subst (IsCutOf c.args.last.now c.in_ok-cut.field-0) stage_is c.in_ok-cut.ensures g.S.Source.tells (g.S.Source.held c.args.self.now.source) window items sent begins most;
      there = λ low. refl;
    }
