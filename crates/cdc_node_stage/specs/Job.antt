-- A node's stage with its source, as the driver turns it.
use Rattle.std.specs.Prelude.{◌≡◌, ◌⊎◌, ◌≤◌, ℕ, Bool, List, Option}
use Rattle.cdc_base.specs.declared.place.Place.{Place}
use Rattle.cdc_outside.specs.Count.{Rose}
use Rattle.cdc_reader.specs.declared.step.NodeEnd.TheVariants.{Read as ReadFailed}
use Rattle.cdc_reader.specs.Asking.{NothingBelow}
use Rattle.cdc_turns.specs.Account.{Sender}
use Rattle.cdc_item.specs.declared.node_item.NodeItem.{NodeItem}
use Rattle.cdc_node_stage.specs.declared.stage.NodeStage.{NodeStage}
use Rattle.cdc_node_stage.specs.Sending.{NodeState, node_state, HasSent}
use Rattle.cdc_node_stage.specs.Turning.{node_work, KeepsReading}

-- the meanings of a source
pub record SourceWords (S : Type 0) : Type 1 where
  pub tells : Bool
  pub held : S → List (List ℕ)
  pub sizes : S → List ℕ
  pub lowest : S → Option Place
  pub faults : S → ℕ

-- these, as one
abbrev pub source_words : {S : Type 0} → Bool → (S → List (List ℕ)) → (S → List ℕ) → (S → Option Place) → (S → ℕ) → SourceWords S
source_words tells held sizes lowest faults = record { tells = tells; held = held; sizes = sizes; lowest = lowest; faults = faults }

-- a stage and its source
pub record SourcedStage (S : Type 0) : Type 0 where
  pub stage : NodeStage
  pub source : S

-- these, as one
abbrev pub sourced : {S : Type 0} → NodeStage → S → SourcedStage S
sourced stage source = record { stage = stage; source = source }

-- what turns leave of a source, read by a stage: its bytes; a count of faults that doesn't fall; nothing below the stage's point was
-- asked for; and the reading ended by the source's failure only where the count rose
pub record HasAsked {S : Type 0} (w : SourceWords S) (old : NodeState) (before : S) (new : NodeState) (now : S) : Type 0 where
  pub held : w.held now ≡ w.held before
  pub sizes : w.sizes now ≡ w.sizes before
  pub later : w.faults before ≤ w.faults now
  pub below : NothingBelow old.from.place (w.lowest before) (w.lowest now)
  pub fails : new.reader.end ≡ ReadFailed → (old.reader.end ≡ ReadFailed) ⊎ Rose (w.faults before) (w.faults now)

-- what turns leave of a job
pub record HasTurned {S : Type 0} (w : SourceWords S) (old new : SourcedStage S) : Type 0 where
  pub stage : KeepsReading (node_state old.stage) (node_state new.stage)
  pub source : HasAsked w (node_state old.stage) old.source (node_state new.stage) new.source

-- what a job tells of itself
abbrev pub node_account : {S : Type 0} → SourceWords S → Sender (SourcedStage S) NodeItem
node_account w = record {
  sent = λ job window items. HasSent w.tells (w.held job.source) (node_state job.stage) window items;
  ended = λ job. job.stage.ended;
  work = λ job weight. node_work (node_state job.stage) weight;
  turned = λ old new. HasTurned w old new;
}
