use Rattle.std.proofs.Common.{ap, refl, sym, ◌∙◌, Some, arith}
use Rattle.cdc_records.specs.declared.front.Front.{Front}
use Rattle.cdc_dumper.proofs.FrontBytes.{front_long, front_first, front_second_long, key_behind, front_second}
use Rattle.cdc_dumper.proofs.reading.front_in.Goals as goal

pub returns-then-payload-lt26 : goal.returns-then-payload-lt26
returns-then-payload-lt26 c = λ f sound e. absurd (omega (arith, front_long c.args.payload.now f sound e))

pub returns-then-payload-eq1 : goal.returns-then-payload-eq1
returns-then-payload-eq1 c = λ f sound e.
    ap (λ (g : Front). Some g) (front_first c.args.payload.now f c.number_8-count.result c.number_8-file.result c.number_8-length.result _ sound e c.if-payload-eq1.true
    record { count_is = c.number_8-count.ensures; file_is = c.number_8-file.ensures; size_is = c.number_8-length.ensures; closed_is = refl })

pub returns-then-payload-lt42 : goal.returns-then-payload-lt42
returns-then-payload-lt42 c = λ f sound e. absurd (omega (arith, front_second_long c.args.payload.now f sound e c.if-payload-eq1.false))

pub returns-in_err-last : goal.returns-in_err-last
returns-in_err-last c = λ f sound e.
    let behind = key_behind c.args.payload.now f sound e c.if-payload-eq1.false in
    absurd (let none = c.in_err-last.ensures behind.key behind.fits behind.there in cc)

pub returns : goal.returns
returns c = λ f sound e.
    let behind = key_behind c.args.payload.now f sound e c.if-payload-eq1.false in
    ap (λ (g : Front). Some g) (front_second c.args.payload.now f c.number_8-count.result c.number_8-file.result c.number_8-length.result _ c.number_8.result c.number_8-2.result c.in_ok-last.last behind
    record { count_is = c.number_8-count.ensures; file_is = c.number_8-file.ensures; size_is = c.number_8-length.ensures; closed_is = refl }
    c.number_8.ensures c.number_8-2.ensures (c.in_ok-last.ensures behind.key behind.fits behind.there ∙ sym behind.some))
