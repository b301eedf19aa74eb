use Rattle.std.proofs.Common.{◌≡◌, ◌+◌, ◌-◌, ℕ, take, drop, ◌∙◌, ap, arith}
use Rattle.cdc_session.proofs.Copies.{piece_fails}
use Rattle.cdc_session.proofs.copying.copy_piece.Goals as goal

pub returns-in-Err-gather-clause-told : goal.returns-in-Err-gather-clause-told
returns-in-Err-gather-clause-told g c told tells image same reads =
    let at : ℕ = c.in-Ok.at in
    let count : ℕ = c.min-count.result in
    let size : at + count - at ≡ count = omega arith in
    let least = c.min-count.ensures in
    piece_fails (drop c.args.place (image c.args.source.file)) count c.args.more (c.in-Err-gather.ensures.told tells)
    (ap (λ n. take n (drop at c.locate.new.window.bytes)) size ∙ c.in-Ok.ensures.told told image same reads)
    (omega (arith, least))
