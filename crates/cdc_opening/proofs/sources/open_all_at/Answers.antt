-- One source more, and its restart point.
use Rattle.std.proofs.Common.{◌≡◌, ℕ, ◌+◌, ◌<◌, ◌≤◌, IsTrue, refl, ◌∙◌, arith, length, map, get_or}
use Rattle.std.proofs.lemmas.List.{length-set}
use Rattle.cdc_model.specs.Restart.{RestartPoint}
use Rattle.cdc_opening.specs.declared.outcome.Outcome.TheVariants.{Read}
use Rattle.cdc_opening.specs.OpenSources.{IsSourceKept, EndsBeforePlace, CanReadFrom}
use Rattle.cdc_opening.proofs.OneMoreNode.{pairs_more, seen_place, this_place, none_before, node_refused, failed_number}
use Rattle.cdc_opening.proofs.Rising.{as_first, rose_put, same_behind, source_same}
use Rattle.cdc_opening.proofs.Zips.{zip_put, zip_same, zip_by_index}
use Rattle.cdc_opening.proofs.sources.open_all_at.Goals as goal

pub loop-index-init : goal.loop-index-init
loop-index-init g c = record {
  long = refl;
  kept =
      zip_same (IsSourceKept g.S.Source.held g.S.Source.sizes g.S.Source.lowest g.S.Source.highest g.S.Source.faults)
      (source_same g.S.Source.held g.S.Source.sizes g.S.Source.lowest g.S.Source.highest g.S.Source.faults) c.args.sources.now;
  same = λ k d le. refl;
  there = λ k d e below told ends. (let h : k < 0 = below in omega (arith, h));
  can = λ k d e below. absurd (let h : k < 0 = below in omega (arith, h));
}

pub returns-in-Err-clause-refused : goal.returns-in-Err-clause-refused
returns-in-Err-clause-refused g c =
    let old = get_or c.loop-index.sources c.loop-index.index c.index-sources-index.result in
    let cut : RestartPoint = c.index-cuts-index.result in
    let k : ℕ = c.loop-index.index in
    let first = as_first c.args.sources.now c.loop-index.sources k c.index-sources-index.result c.loop-index.invariant.same c.index-sources-index.is in
    let long : length c.loop-index.sources ≡ length c.args.sources.now = c.loop-index.invariant.long in
    let many : length c.args.cuts.now ≡ length c.args.sources.now = c.requires.many in
    let within : k < length c.args.sources.now = c.loop-index-test.true in
    let inside : k < length c.args.cuts.now = omega (arith, within, many) in
    node_refused g.S.Source.tells (map g.S.Source.held c.args.sources.now) c.args.cuts.now (g.S.Source.held old) cut k c.in-Err.outcome
    (λ told. none_before g.S.Source.held c.args.sources.now c.args.cuts.now k (let h : k ≤ length c.args.sources.now = omega (arith, within) in h) (let h : k ≤ length c.args.cuts.now = omega (arith, inside) in h)
    (λ (j : ℕ) (d : g.row.S.Denot) (e : RestartPoint) (below : j < k). c.loop-index.invariant.there j d e below told))
    (seen_place g.S.Source.held c.args.sources.now k old within first) (this_place c.args.cuts.now k cut inside c.index-cuts-index.is) c.in-Err.ensures.refused

pub returns-in-Err-clause-kept : goal.returns-in-Err-clause-kept
returns-in-Err-clause-kept g c =
    let old = get_or c.loop-index.sources c.loop-index.index c.index-sources-index.result in
    let first = as_first c.args.sources.now c.loop-index.sources c.loop-index.index c.index-sources-index.result c.loop-index.invariant.same c.index-sources-index.is in
    zip_put (IsSourceKept g.S.Source.held g.S.Source.sizes g.S.Source.lowest g.S.Source.highest g.S.Source.faults) c.args.sources.now c.loop-index.sources c.loop-index.index old c.open_at.new.source
    c.loop-index.invariant.kept first c.open_at.ensures.kept

pub returns-in-Err-clause-failed : goal.returns-in-Err-clause-failed
returns-in-Err-clause-failed g c number is =
    let old = get_or c.loop-index.sources c.loop-index.index c.index-sources-index.result in
    let first = as_first c.args.sources.now c.loop-index.sources c.loop-index.index c.index-sources-index.result c.loop-index.invariant.same c.index-sources-index.is in
    let outcome : c.in-Err.outcome ≡ Read number = cc in
    rose_put g.S.Source.faults c.args.sources.now c.loop-index.sources c.loop-index.index number old c.open_at.new.source c.loop-index.invariant.long c.loop-index-test.true first
    (failed_number g.S.Source.tells (g.S.Source.held old) c.index-cuts-index.result (c.loop-index.index + 1) number c.in-Err.outcome outcome c.in-Err.ensures.refused) (c.in-Err.ensures.failed number is)

pub loop-index-preserved : goal.loop-index-preserved
loop-index-preserved g c =
    let old = get_or c.loop-index.sources c.loop-index.index c.index-sources-index.result in
    let cut : RestartPoint = c.index-cuts-index.result in
    let k : ℕ = c.loop-index.index in
    let first = as_first c.args.sources.now c.loop-index.sources k c.index-sources-index.result c.loop-index.invariant.same c.index-sources-index.is in
    let long : length c.loop-index.sources ≡ length c.args.sources.now = c.loop-index.invariant.long in
    let many : length c.args.cuts.now ≡ length c.args.sources.now = c.requires.many in
    let within : k < length c.args.sources.now = c.loop-index-test.true in
    let inside : k < length c.args.cuts.now = omega (arith, within, many) in
    record {
      long = length-set c.loop-index.sources k c.open_at.new.source ∙ c.loop-index.invariant.long;
      kept = zip_put (IsSourceKept g.S.Source.held g.S.Source.sizes g.S.Source.lowest g.S.Source.highest g.S.Source.faults) c.args.sources.now c.loop-index.sources k old c.open_at.new.source
          c.loop-index.invariant.kept first c.open_at.ensures.kept;
      same = same_behind c.loop-index.sources c.args.sources.now k c.open_at.new.source c.loop-index.invariant.same;
      there = pairs_more (λ source point. IsTrue g.S.Source.tells → EndsBeforePlace (g.S.Source.held source) point → ⊥) c.args.sources.now c.args.cuts.now k old cut within inside
          c.loop-index.invariant.there first c.index-cuts-index.is c.in-Ok.ensures.there;
      can = pairs_more (λ source point. CanReadFrom (g.S.Source.sizes source) point) c.args.sources.now c.args.cuts.now k old cut within inside c.loop-index.invariant.can first c.index-cuts-index.is c.in-Ok.ensures.can;
    }

pub returns-clause-there : goal.returns-clause-there
returns-clause-there g c = λ told.
    let long : length c.loop-index.sources ≡ length c.args.sources.now = c.loop-index.invariant.long in
    let many : length c.args.cuts.now ≡ length c.args.sources.now = c.requires.many in
    let past = c.loop-index-test.false in
    none_before g.S.Source.held c.args.sources.now c.args.cuts.now (length c.args.sources.now) (omega arith) (omega (arith, many))
    (λ (j : ℕ) (d : g.row.S.Denot) (e : RestartPoint) (below : j < length c.args.sources.now). c.loop-index.invariant.there j d e (omega (arith, below, past)) told)

pub returns-clause-can : goal.returns-clause-can
returns-clause-can g c =
    let long : length c.loop-index.sources ≡ length c.args.sources.now = c.loop-index.invariant.long in
    let past = c.loop-index-test.false in
    zip_by_index (λ source cut. CanReadFrom (g.S.Source.sizes source) cut) c.args.sources.now c.args.cuts.now c.requires.many
    (λ (j : ℕ) (d : g.row.S.Denot) (e : RestartPoint) (below : j < length c.args.sources.now). c.loop-index.invariant.can j d e (omega (arith, below, past)))
