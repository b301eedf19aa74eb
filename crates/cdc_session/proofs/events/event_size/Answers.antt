use Rattle.std.proofs.Common.{◌≡◌, ℕ, ◌+◌, ◌-◌, ◌≤◌, List, take, drop, ap, ◌∙◌, arith}
use Rattle.cdc_event.specs.Number.{number_of}
use Rattle.cdc_session.proofs.Chains.{short_rest, misfit_rest, header_told}
use Rattle.cdc_session.proofs.events.event_size.Goals as goal

pub returns-then-left-clause-whole : goal.returns-then-left-clause-whole
returns-then-left-clause-whole g c told image same reads more chain e =
    short_rest (image c.args.source.file) c.args.source.limit c.args.place reads.within more c.if-left.true chain

pub returns-then-size-clause-whole : goal.returns-then-size-clause-whole
returns-then-size-clause-whole g c told image same reads more chain e =
    let file : List ℕ = image c.args.source.file in
    let window : List ℕ = c.locate.new.window.bytes in
    let at : ℕ = c.in-Ok.at in
    let four : at + 13 - (at + 9) ≡ 4 = omega arith in
    let room : c.args.place + 19 ≤ c.args.source.limit = omega (arith, c.if-left.false) in
    let size = c.from-size.ensures ∙ c.number_4.ensures ∙ ap (λ (n : ℕ). number_of (take n (drop (at + 9) window))) four
    ∙ header_told file window at c.args.place c.args.source.limit room (c.in-Ok.ensures.told told image same reads) in
    misfit_rest file c.args.source.limit c.args.place c.from-size.result reads.within more size (λ low high. omega (arith, low, c.if-size.true)) chain

pub returns-then-size-left-clause-whole : goal.returns-then-size-left-clause-whole
returns-then-size-left-clause-whole g c told image same reads more chain e =
    let file : List ℕ = image c.args.source.file in
    let window : List ℕ = c.locate.new.window.bytes in
    let at : ℕ = c.in-Ok.at in
    let four : at + 13 - (at + 9) ≡ 4 = omega arith in
    let room : c.args.place + 19 ≤ c.args.source.limit = omega (arith, c.if-left.false) in
    let size = c.from-size.ensures ∙ c.number_4.ensures ∙ ap (λ (n : ℕ). number_of (take n (drop (at + 9) window))) four
    ∙ header_told file window at c.args.place c.args.source.limit room (c.in-Ok.ensures.told told image same reads) in
    misfit_rest file c.args.source.limit c.args.place c.from-size.result reads.within more size (λ low high. omega (arith, high, c.if-size-left.true)) chain

pub returns-clause-told : goal.returns-clause-told
returns-clause-told g c told image same reads =
    let file : List ℕ = image c.args.source.file in
    let window : List ℕ = c.locate.new.window.bytes in
    let at : ℕ = c.in-Ok.at in
    let four : at + 13 - (at + 9) ≡ 4 = omega arith in
    let room : c.args.place + 19 ≤ c.args.source.limit = omega (arith, c.if-left.false) in
    c.from-size.ensures ∙ c.number_4.ensures ∙ ap (λ (n : ℕ). number_of (take n (drop (at + 9) window))) four
    ∙ header_told file window at c.args.place c.args.source.limit room (c.in-Ok.ensures.told told image same reads)
