use Rattle.std.proofs.Common.{◌≤◌, length, ap, ◌∙◌, Some, arith, refl}
use Rattle.cdc_base.specs.declared.key.Key.{Key}
use Rattle.cdc_event.proofs.Fields.{last_part}
use Rattle.cdc_dumper.proofs.FrontBytes.{key_long, key_short, key_shared, key_size, key_plain}
use Rattle.cdc_dumper.proofs.reading.key_in.Goals as goal

pub returns-then-bytes-lt10 : goal.returns-then-bytes-lt10
returns-then-bytes-lt10 c = λ key fits e. absurd (omega (arith, key_long c.args.bytes.now key fits e))

pub returns-in_err-gtrid : goal.returns-in_err-gtrid
returns-in_err-gtrid c = λ key fits e.
    let at : 10 ≤ length c.args.bytes.now = omega arith in
    absurd (omega (arith, (c.in_err-gtrid.ensures.none).0 refl, key_short c.args.bytes.now _ key fits e c.if-bytes-eq0.true (last_part c.args.bytes.now 10 at)))

pub returns-then-bytes-eq0 : goal.returns-then-bytes-eq0
returns-then-bytes-eq0 c = λ key fits e.
    let at : 10 ≤ length c.args.bytes.now = omega arith in
    ap (λ (k : Key). Some k) (key_shared c.args.bytes.now c.in_ok-gtrid.gtrid c.number_8-timestamp.result key fits e c.if-bytes-eq0.true c.number_8-timestamp.ensures (c.in_ok-gtrid.ensures.some ∙ last_part c.args.bytes.now 10 at))

pub returns-then-bytes-ne21 : goal.returns-then-bytes-ne21
returns-then-bytes-ne21 c = λ key fits e. absurd (c.if-bytes-ne21.true (key_size c.args.bytes.now key fits e c.if-bytes-eq0.false))

pub returns : goal.returns
returns c = λ key fits e.
    ap (λ (k : Key). Some k) (key_plain c.args.bytes.now c.number_8-timestamp.result c.number_4.result c.number_8.result key fits e c.if-bytes-eq0.false c.number_8-timestamp.ensures c.number_4.ensures c.number_8.ensures)
