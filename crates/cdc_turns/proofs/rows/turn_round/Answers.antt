-- One job more: where it moved something has moved, and where it didn't, all so far rest as they did.
use Rattle.std.proofs.Common.{◌≡◌, inl, inr, ℕ, Bool, true, false, ◌||◌, refl, sym, ◌∙◌, subst, arith}
use Rattle.std.proofs.lemmas.Bool.{cases_lt}
use Rattle.cdc_turns.specs.Flow.{RestsAt, line_with, view_of}
use Rattle.cdc_turns.proofs.OneTurn.{steps_then, steps_none}
use Rattle.cdc_turns.proofs.rows.turn_round.Goals as goal
use Rattle.cdc_turns.proofs.rows.turn_round.Goals.{then-row, else-row}

or_true : (p q : Bool) → q ≡ true → (p || q) ≡ true
or_true true q is = refl
or_true false q is = is

or_false : (p q : Bool) → q ≡ false → (p || q) ≡ p
or_false true q is = refl
or_false false q is = is

pub loop-number-init : goal.loop-number-init
loop-number-init g c = (steps_none g.N.NodeTurns.account g.M.MergeTurns.account g.D.DumpTurns.account g.met.N.NodeTurns.starts g.met.M.MergeTurns.starts g.met.D.DumpTurns.starts (line_with c.args.nodes.now c.args.ins.now c.args.merge.now c.args.outs.now c.args.dumps.now), λ _ j below. absurd (omega (arith, below)))

pub loop-number-preserved : goal.loop-number-preserved
loop-number-preserved g c =
    let so_far = c.loop-number.invariant in
    let row = c.turn_row-row in
    let x = (line_with c.args.nodes.now c.args.ins.now c.args.merge.now c.args.outs.now c.args.dumps.now) in
    let y = (line_with c.loop-number.nodes c.loop-number.ins c.loop-number.merge c.loop-number.outs c.loop-number.dumps) in
    let z = (line_with row.new.nodes row.new.ins row.new.merge row.new.outs row.new.dumps) in
    elim c.if-row.branch [
      | then-row w ↦ (steps_then g.N.NodeTurns.account g.M.MergeTurns.account g.D.DumpTurns.account g.met.N.NodeTurns.adds g.met.M.MergeTurns.adds g.met.D.DumpTurns.adds x y z c.loop-number.moved row.result c.if-row.moved (w.moved-is ∙ sym (or_true c.loop-number.moved row.result w.if-row.true)) so_far.0 row.ensures.steps, λ none. absurd (let moved = w.moved-is in cc))
      | else-row w ↦ (
        steps_then g.N.NodeTurns.account g.M.MergeTurns.account g.D.DumpTurns.account g.met.N.NodeTurns.adds g.met.M.MergeTurns.adds g.met.D.DumpTurns.adds x y z c.loop-number.moved row.result c.if-row.moved (w.moved-is ∙ sym (or_false c.loop-number.moved row.result w.if-row.false)) so_far.0 row.ensures.steps,
        λ none j below. elim (cases_lt j c.loop-number.number) [
          | inl before ↦ subst (λ v. RestsAt v j) (sym (row.ensures.steps.still w.if-row.false)) (so_far.1 (sym w.moved-is ∙ none) j before)
          | inr past ↦ subst (λ (i : ℕ). RestsAt (view_of g.N.NodeTurns.account g.M.MergeTurns.account g.D.DumpTurns.account z) i) (let same : c.loop-number.number ≡ j = omega (arith, below, past) in same) (row.ensures.rests w.if-row.false)
        ],
      )
    ]
