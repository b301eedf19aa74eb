use Rattle.std.proofs.Common.{◌≡◌, ◌+◌, [], ◌∷◌, ◌++◌, refl, sym, subst, arith, length, length-append, Some, None, inl, inr}
use Rattle.cdc_event.specs.View.{event_viewed}
use Rattle.cdc_cutter.specs.Cutting.{Cutting, Holds, Answers, placed_event, behind_cut, cut_viewed}
use Rattle.cutter_tests.proofs.counted.count_in_place.Goals as goal

pub loop-count-init : goal.loop-count-init
loop-count-init c = ([], refl, c.in_ok-feed.ensures.fed 0 0 [] [] c.in_ok-cutter.ensures.holds)

pub returns-in-Need : goal.returns-in-Need
returns-in-Need c =
    let inv = c.loop-count.invariant in
    let old = c.loop-count.cutter in
    let answer = c.peek.ensures.answer 0 0 c.args.file.now inv.0 inv.2 in
    elim c.in-Need.is [
      | inl n ↦ let a = subst (λ p. Answers 0 0 c.args.file.now inv.0 old (behind_cut old (cut_viewed p)) (cut_viewed p)) n answer in (inv.0, None, a.1, sym inv.1)
      | inr f ↦ let a = subst (λ p. Answers 0 0 c.args.file.now inv.0 old (behind_cut old (cut_viewed p)) (cut_viewed p)) f.2 answer in (inv.0, Some (f.0.at, f.1), a.1, sym inv.1)
    ]

pub loop-count-preserved : goal.loop-count-preserved
loop-count-preserved c =
    let inv = c.loop-count.invariant in
    let old = c.loop-count.cutter in
    let p = placed_event c.in-Event.at c.in-Event.end (event_viewed c.in-Event.event) c.in-Event.checksum in
    let a = subst (λ p. Answers 0 0 c.args.file.now inv.0 old (behind_cut old (cut_viewed p)) (cut_viewed p)) c.in-Event.is (c.peek.ensures.answer 0 0 c.args.file.now inv.0 inv.2) in
    let before : length inv.0 ≡ c.loop-count.count = inv.1 in
    let size : length (inv.0 ++ p ∷ []) ≡ length inv.0 + length (p ∷ []) = length-append inv.0 (p ∷ []) in
    (inv.0 ++ p ∷ [], omega arith, subst (λ (v : Cutting). Holds v 0 0 c.args.file.now (inv.0 ++ p ∷ [])) (sym c.pass.ensures) a.0)
