use Rattle.std.proofs.Common.{◌≡◌, ◌+◌, [], ◌∷◌, ◌++◌, refl, sym, subst, arith, length, length-append, Some, None, inl, inr}
use Rattle.cdc_cutter.specs.Cutting.{Answers, placed_event}
use Rattle.cutter_tests.proofs.counted.count_events.Goals as goal

pub loop-count-init : goal.loop-count-init
loop-count-init c = ([], refl, c.in_ok-feed.ensures.fed 0 0 [] [] c.in_ok-cutter.ensures.holds)

pub returns-in-Need : goal.returns-in-Need
returns-in-Need c =
    let inv = c.loop-count.invariant in
    let answer = c.in_ok-next.ensures.answer 0 0 c.args.file.now inv.0 inv.2 in
    elim c.in-Need.is [
      | inl n ↦ let a = subst (Answers 0 0 c.args.file.now inv.0 c.loop-count.cutter c.next.new.self) n answer in (inv.0, None, a.1, sym inv.1)
      | inr f ↦ let a = subst (Answers 0 0 c.args.file.now inv.0 c.loop-count.cutter c.next.new.self) f.2 answer in (inv.0, Some (f.0.at, f.1), a.1, sym inv.1)
    ]

pub loop-count-preserved : goal.loop-count-preserved
loop-count-preserved c =
    let inv = c.loop-count.invariant in
    let p = placed_event c.in-Event.at c.in-Event.end c.in-Event.event c.in-Event.checksum in
    let a = subst (Answers 0 0 c.args.file.now inv.0 c.loop-count.cutter c.next.new.self) c.in-Event.is (c.in_ok-next.ensures.answer 0 0 c.args.file.now inv.0 inv.2) in
    let before : length inv.0 ≡ c.loop-count.count = inv.1 in
    let size : length (inv.0 ++ p ∷ []) ≡ length inv.0 + length (p ∷ []) = length-append inv.0 (p ∷ []) in
    (inv.0 ++ p ∷ [], omega arith, a.0)
