use Rattle.std.proofs.Common.{◌≡◌, ◌<◌, false, true, length, [], arith}
use Rattle.std.specs.Prelude.{nat_le, Some, None}
use Rattle.std.specs.Result.{is_err}
use Rattle.std.proofs.lemmas.List.{get_or_default}
use Rattle.cdc_memory.specs.Calls.{is_failing}
use Rattle.cdc_memory.proofs.Draws.{drawn_more, not_failing, none_is, some_is}
use Rattle.cdc_memory.proofs.salt.MemSaltSalt.draw.Goals as goal

pub returns-then-is_err-clause-drawn : goal.returns-then-is_err-clause-drawn
returns-then-is_err-clause-drawn c = λ answers h.
    let before = c.args.self.now in
    let failed : is_err c.count.result ≡ true = grind arith in
    let failing : is_failing (nat_le (length before.draws.items) before.calls.calls) before.calls ≡ true = grind (arith, c.count.ensures.fails.0 failed) in
    drawn_more before.draws.items before.calls _ _ answers None (grind (arith, before.draws.ok, before.draws.small)) c.count.ensures.after (none_is before.draws.items before.calls.fails before.calls.calls failing) h

pub returns-clause-drawn : goal.returns-clause-drawn
returns-clause-drawn c = λ answers h.
    let before = c.args.self.now in
    let done : is_err c.count.result ≡ false = grind arith in
    let failing : is_failing (nat_le (length before.draws.items) before.calls.calls) before.calls ≡ false = grind (arith, not_failing (is_failing (nat_le c.len.result c.calls-before.result) before.calls) (is_err c.count.result) c.count.ensures.fails.1 done) in
    let below : before.calls.calls < length before.draws.items = grind (arith, failing) in
    drawn_more before.draws.items before.calls _ _ answers (Some c.index.result.now) (grind (arith, before.draws.ok, before.draws.small)) c.count.ensures.after (some_is before.draws.items before.calls.fails before.calls.calls _ failing (grind (arith, get_or_default before.draws.items before.calls.calls [] c.index.result.now below))) h
