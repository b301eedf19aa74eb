-- A turn, by what it prepared and what the lane did with it.
use Rattle.std.proofs.Common.{◌≡◌, ℕ, ◌+◌, ◌≤◌, inl, inr, Bool, true, false, not, List, [], ◌∷◌, ◌++◌, append-nil, Some, None, refl, sym, ap, subst, arith, le_refl}
use Rattle.cdc_turns.specs.declared.turn.Turn.{Turn}
use Rattle.cdc_turns.specs.declared.turn.Turn.TheVariants.{Moved, Blocked, Done}
use Rattle.cdc_turns.specs.Turns.{one_if}
use Rattle.cdc_item.specs.declared.node_item.NodeItem.{NodeItem}
use Rattle.cdc_item.specs.declared.node_item.NodeItem.TheVariants.{Branch, Bound, End}
use Rattle.cdc_node_stage.specs.Sending.{NodeState, HasSent, IsNodeStanding}
use Rattle.cdc_node_stage.specs.Turning.{moves_waiting, moves_left}
use Rattle.cdc_node_stage.specs.Preparing.{Prepares, sent_state, IsPushed, TurnsStage}
use Rattle.cdc_node_stage.specs.NodeLaws.{keeps_itself, keeps_on}
use Rattle.cdc_node_stage.specs.Job.{SourceWords, HasAsked}
use Rattle.cdc_node_stage.proofs.Costs.{work_falls, moves_falls, work_stays}
use Rattle.cdc_node_stage.proofs.Sent.{item_sent}

none_more : (tells : Bool) (files : List (List ℕ)) (s : NodeState) (window : ℕ) (before : List NodeItem) → HasSent tells files s window before → HasSent tells files s window (before ++ [])
none_more tells files s window before sent = subst (λ (list : List NodeItem). HasSent tells files s window list) (sym (append-nil before)) sent

-- the window's End was sent before
pub was_done : (tells : Bool) (files : List (List ℕ)) (s : NodeState) → s.ended ≡ true → IsNodeStanding tells files s → TurnsStage tells files s [] s Done
was_done tells files s over stands = record {
  is = (over, refl, refl);
  did = λ window before sent. none_more tells files s window before sent;
  stands = stands;
  cost = λ weight. omega arith;
  keeps = keeps_itself s;
  within = λ told. le_refl _;
}

-- an item's move: it no longer waits, or the End was sent
sent_falls : (s : NodeState) (item : NodeItem) → s.pending ≡ Some item → s.ended ≡ false → moves_left (sent_state s item) + 1 ≤ moves_left s
sent_falls s (Branch branch) waits open_still =
    let one : moves_waiting s.pending ≡ 1 = ap moves_waiting waits in
    let still : one_if (not s.ended) ≡ 1 = ap (λ (b : Bool). one_if (not b)) open_still in
    omega (arith, one, still)
sent_falls s (Bound bound) waits open_still =
    let one : moves_waiting s.pending ≡ 1 = ap moves_waiting waits in
    let still : one_if (not s.ended) ≡ 1 = ap (λ (b : Bool). one_if (not b)) open_still in
    omega (arith, one, still)
sent_falls s End waits open_still =
    let one : moves_waiting s.pending ≡ 0 = ap moves_waiting waits in
    let still : one_if (not s.ended) ≡ 1 = ap (λ (b : Bool). one_if (not b)) open_still in
    omega (arith, one, still)

module _ (tells : Bool) (files : List (List ℕ)) (s held : NodeState) (open_still : s.ended ≡ false) where
  module _ (item : NodeItem) (p : Prepares tells files (HasSent tells files s) s held (Some item)) (waits : held.pending ≡ Some item) where
    item_went : TurnsStage tells files s (item ∷ []) (sent_state held item) Moved
    item_went = record {
      is = (open_still, inl refl);
      did = λ window before sent. item_sent tells files held item window before waits p.going (p.sends window before sent);
      stands = record { taken = p.stands.taken; feed = p.stands.feed; reads = p.stands.reads; onward = p.stands.onward };
      cost = λ weight.
          work_falls s (sent_state held item) weight
          (let less = sent_falls held item waits p.going in let before = p.cost in omega (arith, less, before));
      keeps = keeps_on s held (sent_state held item) p.keeps record { reading = refl; window = refl; known = refl; over = λ not. refl };
      within = p.within;
    }

    item_waits : TurnsStage tells files s [] held Blocked
    item_waits = record {
      is = (open_still, p.going, refl);
      did = λ window before sent. none_more tells files held window before (p.sends window before sent);
      stands = p.stands;
      cost = λ weight. let less = work_stays s held weight (let before = p.cost in omega (arith, before)) in omega (arith, less);
      keeps = p.keeps;
      within = p.within;
    }

    -- an item was pushed
    pub pushed : (items : List NodeItem) (new : NodeState) (turn : Turn) → IsPushed held item items new turn → TurnsStage tells files s items new turn
    pushed items new Moved (one, is) =
        subst (λ (list : List NodeItem). TurnsStage tells files s list new Moved) (sym one) (subst (λ (n : NodeState). TurnsStage tells files s (item ∷ []) n Moved) (sym is) item_went)
    pushed items new Blocked (none, is) =
        subst (λ (list : List NodeItem). TurnsStage tells files s list new Blocked) (sym none) (subst (λ (n : NodeState). TurnsStage tells files s [] n Blocked) (sym is) item_waits)
    pushed items new Done is = absurd is

  -- bytes were read, or the reading ended
  pub nothing_sent : Prepares tells files (HasSent tells files s) s held None → TurnsStage tells files s [] held Moved
  nothing_sent p = record {
    is = (open_still, inr (refl, p.done refl));
    did = λ window before sent. none_more tells files held window before (p.sends window before sent);
    stands = p.stands;
    cost = λ weight. let less = moves_falls s held weight p.cost in omega (arith, less);
    keeps = p.keeps;
    within = p.within;
  }

-- what was asked of the source, where an item was pushed behind it
pub asked_pushed : {S : Type 0} (w : SourceWords S) (s held new : NodeState) (before now : S) (item : NodeItem) (items : List NodeItem) (turn : Turn)
    → HasAsked w s before held now → IsPushed held item items new turn → HasAsked w s before new now
asked_pushed w s held new before now item items Moved asked (one, is) =
    subst (λ (n : NodeState). HasAsked w s before n now) (sym is)
    record { held = asked.held; sizes = asked.sizes; later = asked.later; below = asked.below; fails = asked.fails }
asked_pushed w s held new before now item items Blocked asked (none, is) = subst (λ (n : NodeState). HasAsked w s before n now) (sym is) asked
asked_pushed w s held new before now item items Done asked is = absurd is
