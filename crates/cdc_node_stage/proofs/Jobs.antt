-- A job's turn, as the driver sees it.
use Rattle.std.proofs.Common.{◌≡◌, ℕ, List, [], ◌++◌, length, append-nil, refl, sym, ap, subst, ◌∙◌}
use Rattle.cdc_lane.specs.declared.plain.PlainLane.{PlainLane}
use Rattle.cdc_lane.specs.Held.{held, room_of, WentIn}
use Rattle.cdc_turns.specs.declared.turn.Turn.{Turn}
use Rattle.cdc_turns.specs.declared.turn.Turn.TheVariants.{Moved, Blocked, Done}
use Rattle.cdc_turns.specs.Turns.{Sends, NodeSays}
use Rattle.cdc_item.specs.declared.node_item.NodeItem.{NodeItem}
use Rattle.cdc_node_stage.specs.declared.stage.NodeStage.{NodeStage}
use Rattle.cdc_node_stage.specs.Sending.{NodeState, node_state, HasSent, IsNodeStanding}
use Rattle.cdc_node_stage.specs.Preparing.{TurnsStage, opened_again}
use Rattle.cdc_node_stage.specs.Job.{SourceWords, SourcedStage, sourced, HasAsked, HasTurned, node_account}
use Rattle.cdc_node_stage.specs.Turning.{KeepsReading}
use Rattle.cdc_node_stage.specs.NodeLaws.{asked_nothing}

module _ {S : Type 0} (w : SourceWords S) where
  pub sends : (old new : SourcedStage S) (lane later : PlainLane NodeItem) (items : List NodeItem) (turn : Turn) → WentIn lane items later
      → TurnsStage w.tells (w.held old.source) (node_state old.stage) items (node_state new.stage) turn → HasAsked w (node_state old.stage) old.source (node_state new.stage) new.source
      → Sends (node_account w) old new lane later turn
  sends old new lane later items turn flows turns asked = record {
    items = items;
    flows = flows;
    did = λ window before sent. subst (λ (files : List (List ℕ)). HasSent w.tells files (node_state new.stage) window (before ++ items)) (sym asked.held) (turns.did window before sent);
    cost = turns.cost;
    turned = record { stage = turns.keeps; source = asked };
  }

  same_lane : (lane later : PlainLane NodeItem) (items : List NodeItem) → WentIn lane items later → items ≡ [] → held later ≡ held lane
  same_lane lane later items flows none = flows.behind ∙ ap (λ (list : List NodeItem). held lane ++ list) none ∙ append-nil (held lane)

  pub says : (old new : SourcedStage S) (lane later : PlainLane NodeItem) (items : List NodeItem) (turn : Turn) → WentIn lane items later
      → TurnsStage w.tells (w.held old.source) (node_state old.stage) items (node_state new.stage) turn → (turn ≡ Blocked → length (held later) ≡ room_of later)
      → NodeSays (node_account w) old new lane later turn
  says old new lane later items Moved flows turns full = turns.is.0
  says old new lane later items Blocked flows turns full = (turns.is.0, turns.is.1, same_lane lane later items flows turns.is.2, full refl)
  says old new lane later items Done flows turns full =
      (turns.is.0, ap (λ (s : NodeState). s.ended) turns.is.2 ∙ turns.is.0, same_lane lane later items flows turns.is.1)

  pub stands_behind : (old new : SourcedStage S) (items : List NodeItem) (turn : Turn)
      → TurnsStage w.tells (w.held old.source) (node_state old.stage) items (node_state new.stage) turn → HasAsked w (node_state old.stage) old.source (node_state new.stage) new.source
      → IsNodeStanding w.tells (w.held new.source) (node_state new.stage)
  stands_behind old new items turn turns asked = subst (λ (files : List (List ℕ)). IsNodeStanding w.tells files (node_state new.stage)) (sym asked.held) turns.stands

  -- the next window is opened
  opened : (s next : NodeState) (source : S) → next ≡ opened_again s → KeepsReading s next
  opened s next source is = subst (λ (n : NodeState). KeepsReading s n) (sym is) record { reading = refl; window = refl; known = refl; over = λ not. refl }

  opened_asks : (s next : NodeState) (source : S) → next ≡ opened_again s → HasAsked w s source next source
  opened_asks s next source is =
      let none = asked_nothing w s source in
      subst (λ (n : NodeState). HasAsked w s source n source) (sym is)
      record { held = none.held; sizes = none.sizes; later = none.later; below = none.below; fails = none.fails }

  pub reopens : (old new : NodeStage) (source : S) → node_state new ≡ opened_again (node_state old) → HasTurned w (sourced old source) (sourced new source)
  reopens old new source is = record { stage = opened (node_state old) (node_state new) source is; source = opened_asks (node_state old) (node_state new) source is }
