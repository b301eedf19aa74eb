use Rattle.std.proofs.Common.{◌≡◌, ◌<◌, ◌≤◌, ◌^◌, ℕ, List, ◌∷◌, [], ◌++◌, length, length-append, append_assoc, ap, sym, subst, ◌∙◌, arith}
use Rattle.std.proofs.lemmas.Bool.{eqb-true}
use Rattle.std.specs.List.{flat_map}
use Rattle.cdc_base.specs.declared.xid.Xid.{Xid}
use Rattle.cdc_event.specs.Number.{low_first}
use Rattle.cdc_model.specs.NodeCuts.{AreFloors}
use Rattle.cdc_records.specs.Checkpoint.{held_bytes, FitsHeld}
use Rattle.cdc_task.proofs.Lists.{ReadsOn, reads_more, reads_all, reads_short, held_some}
use Rattle.cdc_task.proofs.Written.{all_with}
use Rattle.cdc_task.proofs.held_reading.held_list.Goals as goal
use Rattle.cdc_task.proofs.held_reading.held_list.Goals.{then-pairs-test+else-not-is_empty, else-pairs-test}

pub pairs-preserved : goal.pairs-preserved
pairs-preserved c =
    let count : ℕ = c.number_8-count.result.0 in
    let whole : List ℕ = c.number_8-count.result.1.now in
    let item : Xid × ℕ = c.held-pair.result.0 in
    let behind : List ℕ = c.held-pair.result.1.now in
    let below : length c.pairs.list < count = omega (arith, c.pairs.invariant.1, c.pairs-test.true) in
    let pushed : c.push.new.self ≡ c.pairs.list ++ item ∷ [] = c.in_ok-push.ensures.ok in
    let more : ReadsOn held_bytes FitsHeld count whole (c.pairs.list ++ item ∷ []) behind =
    reads_more held_bytes FitsHeld count whole c.pairs.list c.pairs.left.now item behind below c.held-pair.ensures.reads c.pairs.invariant.0 in
    let low : item.1 < 2 ^ 63 = omega (arith, c.held-pair.ensures.floor) in (
      subst (λ (list : List (Xid × ℕ)). ReadsOn held_bytes FitsHeld count whole list behind) (sym pushed) more,
      omega (arith, ap length pushed, length-append c.pairs.list (item ∷ []), c.pairs.invariant.1),
      omega (arith, c.pairs-test.true),
      subst AreFloors (sym pushed) (all_with (λ (pair : Xid × ℕ). pair.1 < 2 ^ 63) c.pairs.list item c.pairs.invariant.3 low),
      omega (arith, c.held-pair.ensures.shorter, c.pairs.invariant.4),
    )

pub returns-clause-reads : goal.returns-clause-reads
returns-clause-reads c = λ value rest fits e.
    let count : ℕ = c.number_8-count.result.0 in
    let whole : List ℕ = c.number_8-count.result.1.now in
    let head = c.number_8-count.ensures.reads (length value) (flat_map held_bytes value ++ rest) fits.few (e ∙ append_assoc (low_first 8 (length value)) (flat_map held_bytes value) rest) in
    elim c.pairs-test.branch [
      | then-pairs-test+else-not-is_empty w ↦
          let below : length c.pairs.list < count = omega (arith, c.pairs.invariant.1, w.pairs-test.true) in
          let none : length c.pairs.left.now ≡ 0 = eqb-true (length c.pairs.left.now) 0 (sym w.if-not-is_empty.ensures) in
          absurd (reads_short held_bytes FitsHeld held_some count whole c.pairs.list c.pairs.left.now below none c.pairs.invariant.0 value rest fits.each (sym head.0) head.1)
      | else-pairs-test w ↦
          let enough : count ≤ length c.pairs.list = omega (arith, c.pairs.invariant.1, w.pairs-test.false) in
          reads_all held_bytes FitsHeld count whole c.pairs.list c.pairs.left.now enough c.pairs.invariant.0 value rest fits.each (sym head.0) head.1
    ]
