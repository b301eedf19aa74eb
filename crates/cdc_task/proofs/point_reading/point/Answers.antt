use Rattle.std.proofs.Common.{List, ℕ, [], ◌++◌, append-nil, sym, ◌∙◌}
use Rattle.cdc_event.specs.Number.{low_first}
use Rattle.cdc_records.specs.KeyBytes.{key_bytes}
use Rattle.cdc_records.specs.Checkpoint.{layout_bytes, rotation_bytes, point_version, cut_list_bytes}
use Rattle.cdc_task.proofs.point_reading.point.Goals as goal

pub returns : goal.returns
returns c = record {
  reads = λ p fits e.
      let nodes : List ℕ = cut_list_bytes p.nodes in
      let sized : List ℕ = rotation_bytes p.rotation ++ nodes in
      let keyed : List ℕ = key_bytes p.last ++ sized in
      let laid : List ℕ = layout_bytes p.layout ++ keyed in
      let version = c.byte-version.ensures.reads (point_version p.rotation) (low_first 8 p.count ++ laid) e in
      let count = c.number_8-count.ensures.reads p.count laid fits.count version.1 in
      let layout = c.layout.ensures.reads p.layout keyed (record { file = fits.file; size = fits.size }) count.1 in
      let key = c.key-last.ensures.reads p.last sized fits.key layout.1 in
      let rotation = c.rotation-rotation.ensures.reads p.rotation nodes fits.rotation version.0 key.1 in
      let cuts = c.in_ok-nodes.ensures.reads p.nodes [] fits.nodes (rotation.1 ∙ sym (append-nil nodes)) in
      λ i. record { count = count.0 i; layout = layout.0 i; last = key.0 i; rotation = rotation.0 i; nodes = cuts.0 i };
}
