use Rattle.std.proofs.Common.{List, ℕ, ◌++◌, ap, subst, ◌∙◌}
use Rattle.cdc_outside.specs.Sink.{WritesTo}
use Rattle.cdc_print.proofs.Written.{joined_pieces, front_of_pieces}
use Rattle.cdc_print.proofs.pieces.Pieces.write_to.Goals as goal

pub returns-in-Err-clause-err : goal.returns-in-Err-clause-err
returns-in-Err-clause-err g c = λ tells.
    let before = g.K.Sink.written c.args.out.now in
    let mid = g.K.Sink.written c.loop-piece.out in
    let now = g.K.Sink.written c.write.new.self in
    let wrote = subst (λ (bytes : List ℕ). WritesTo mid bytes now) c.bytes.ensures.value (c.in-Err.ensures.err tells) in
    subst (λ (bytes : List ℕ). WritesTo before bytes now)
    (ap (λ (pieces : List (List ℕ)). joined_pieces pieces ++ c.self.inside.last) c.as_slice-piece-items.ensures.value ∙ c.self.view_is)
    (front_of_pieces before mid now c.as_slice-piece-items.result.now c.self.inside.last c.piece-item.result c.loop-piece.piece-index c.loop-piece-test.true c.piece-item.is
    (c.loop-piece.invariant.written tells) wrote)
