-- The laws of a job: where nothing is done nothing changes, and turns behind turns are turns.
use Rattle.std.specs.Prelude.{◌≡◌, ◌⊎◌, ◌≤◌, refl}
use Rattle.std.proofs.Common.{inl, inr, sym, ◌∙◌, ap, subst, arith, le_refl}
use Rattle.cdc_outside.specs.Count.{Rose}
use Rattle.cdc_model.specs.Restart.{RestartPoint}
use Rattle.cdc_sorter.specs.Sorting.{SortReading}
use Rattle.cdc_reader.specs.declared.step.NodeEnd.TheVariants.{Read as ReadFailed}
use Rattle.cdc_reader.specs.Asking.{NothingBelow}
use Rattle.cdc_node_stage.specs.Sending.{NodeState, node_state}
use Rattle.cdc_node_stage.specs.Turning.{KeepsReading}
use Rattle.cdc_node_stage.specs.Job.{SourceWords, SourcedStage, HasAsked, HasTurned}

-- a stage keeps its reading where nothing is done
pub keeps_itself : (s : NodeState) → KeepsReading s s
keeps_itself s = record { reading = refl; window = refl; known = refl; over = λ not. refl }

-- and over two runs where it does over each
pub keeps_on : (a b c : NodeState) → KeepsReading a b → KeepsReading b c → KeepsReading a c
keeps_on a b c p q = record {
  reading = q.reading ∙ p.reading;
  window = q.window ∙ p.window;
  known = q.known ∙ p.known;
  over = λ not. q.over (λ open_still. not (sym (p.over not) ∙ open_still)) ∙ p.over not;
}

module _ {S : Type 0} (w : SourceWords S) where
  pub asked_nothing : (s : NodeState) (source : S) → HasAsked w s source s source
  asked_nothing s source = record { held = refl; sizes = refl; later = le_refl (w.faults source); below = refl; fails = λ is. inl is }

  fails_later : (a b c : NodeState) (before mid now : S) → w.faults before ≤ w.faults mid → w.faults mid ≤ w.faults now
      → (b.reader.end ≡ ReadFailed → (a.reader.end ≡ ReadFailed) ⊎ Rose (w.faults before) (w.faults mid))
      → (b.reader.end ≡ ReadFailed) ⊎ Rose (w.faults mid) (w.faults now) → (a.reader.end ≡ ReadFailed) ⊎ Rose (w.faults before) (w.faults now)
  fails_later a b c before mid now first second fails (inl was) = by (fails was)
    where
      by : (a.reader.end ≡ ReadFailed) ⊎ Rose (w.faults before) (w.faults mid) → (a.reader.end ≡ ReadFailed) ⊎ Rose (w.faults before) (w.faults now)
      by (inl earlier) = inl earlier
      by (inr rose) = inr (omega (arith, rose, second))
  fails_later a b c before mid now first second fails (inr rose) = inr (omega (arith, rose, first))

  pub asked_on : (a b c : NodeState) (before mid now : S) → b.from ≡ a.from → HasAsked w a before b mid → HasAsked w b mid c now → HasAsked w a before c now
  asked_on a b c before mid now from p q = record {
    held = q.held ∙ p.held;
    sizes = q.sizes ∙ p.sizes;
    later = let first = p.later in let second = q.later in omega (arith, first, second);
    below = subst (λ (point : RestartPoint). NothingBelow point.place (w.lowest mid) (w.lowest now)) from q.below ∙ p.below;
    fails = λ is. fails_later a b c before mid now p.later q.later p.fails (q.fails is);
  }

  pub turned_nothing : (job : SourcedStage S) → HasTurned w job job
  turned_nothing job = record { stage = keeps_itself (node_state job.stage); source = asked_nothing (node_state job.stage) job.source }

  pub turned_on : (a b c : SourcedStage S) → HasTurned w a b → HasTurned w b c → HasTurned w a c
  turned_on a b c p q = record {
    stage = keeps_on (node_state a.stage) (node_state b.stage) (node_state c.stage) p.stage q.stage;
    source =
        asked_on (node_state a.stage) (node_state b.stage) (node_state c.stage) a.source b.source c.source (ap (λ (r : SortReading). r.from) p.stage.reading)
        p.source q.source;
  }
