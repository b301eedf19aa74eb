use Rattle.std.proofs.Common.{◌≡◌, true, ◌∙◌, sym, ap}
use Rattle.std.specs.Str.Parse.{ParsesUnsigned}
use Rattle.cdc_config.specs.Number.{is_numeral}
use Rattle.cdc_config.proofs.Numerals.{parsed}
use Rattle.cdc_config.proofs.number.number_of.Goals as goal

pub returns-then-is_decimal : goal.returns-then-is_decimal
returns-then-is_decimal c =
    let numeral : is_numeral c.args.word.now ≡ true = ap is_numeral (sym c.bytes.ensures) ∙ sym c.is_decimal.ensures ∙ c.if-is_decimal.true in
    let read : ParsesUnsigned 64 10 c.args.word.now c.parse.result = rw c.as_str.ensures at c.parse.ensures.value.0 in
    c.ok.ensures.value ∙ parsed c.args.word.now c.parse.result numeral read
