use Rattle.std.proofs.Common.{◌≡◌, ◌<◌, ◌≤◌, ℕ, List, ◌∷◌, [], ◌++◌, length, length-append, append_assoc, ap, sym, subst, ◌∙◌, arith}
use Rattle.std.proofs.lemmas.Bool.{eqb-true}
use Rattle.std.specs.List.{flat_map}
use Rattle.cdc_event.specs.Number.{low_first}
use Rattle.cdc_model.specs.Restart.{RestartPoint}
use Rattle.cdc_records.specs.Checkpoint.{cut_bytes, FitsCut}
use Rattle.cdc_task.proofs.Lists.{ReadsOn, reads_more, reads_all, reads_short, cut_some}
use Rattle.cdc_task.proofs.cut_reading.cut_list.Goals as goal
use Rattle.cdc_task.proofs.cut_reading.cut_list.Goals.{then-points-test+else-not-is_empty, else-points-test}

pub points-preserved : goal.points-preserved
points-preserved c =
    let count : ℕ = c.number_2-count.result.0 in
    let whole : List ℕ = c.number_2-count.result.1.now in
    let item : RestartPoint = c.in_ok-point.point in
    let behind : List ℕ = c.in_ok-point.rest.now in
    let below : length c.points.list < count = omega (arith, c.points.invariant.1, c.points-test.true) in
    let pushed : c.push.new.self ≡ c.points.list ++ item ∷ [] = c.in_ok-push.ensures.ok in
    let more : ReadsOn cut_bytes FitsCut count whole (c.points.list ++ item ∷ []) behind =
    reads_more cut_bytes FitsCut count whole c.points.list c.points.left.now item behind below c.in_ok-point.ensures.reads c.points.invariant.0 in (
      subst (λ (list : List RestartPoint). ReadsOn cut_bytes FitsCut count whole list behind) (sym pushed) more,
      omega (arith, ap length pushed, length-append c.points.list (item ∷ []), c.points.invariant.1),
      omega (arith, c.points-test.true),
    )

pub returns : goal.returns
returns c = record {
  reads = λ value rest fits e.
      let count : ℕ = c.number_2-count.result.0 in
      let whole : List ℕ = c.number_2-count.result.1.now in
      let head = c.number_2-count.ensures.reads (length value) (flat_map cut_bytes value ++ rest) fits.few (e ∙ append_assoc (low_first 2 (length value)) (flat_map cut_bytes value) rest) in
      elim c.points-test.branch [
        | then-points-test+else-not-is_empty w ↦
            let below : length c.points.list < count = omega (arith, c.points.invariant.1, w.points-test.true) in
            let none : length c.points.left.now ≡ 0 = eqb-true (length c.points.left.now) 0 (sym w.if-not-is_empty.ensures) in
            absurd (reads_short cut_bytes FitsCut cut_some count whole c.points.list c.points.left.now below none c.points.invariant.0 value rest fits.each (sym head.0) head.1)
        | else-points-test w ↦
            let enough : count ≤ length c.points.list = omega (arith, c.points.invariant.1, w.points-test.false) in
            reads_all cut_bytes FitsCut count whole c.points.list c.points.left.now enough c.points.invariant.0 value rest fits.each (sym head.0) head.1
      ];
}
