use Rattle.std.proofs.Common.{◌∙◌, refl, ap, sym, subst}
use Rattle.cdc_reader.specs.LogFront.{IsTakenTo}
use Rattle.cdc_reader.specs.Standing.{ReaderState, IsReading}
use Rattle.cdc_reader.proofs.Steps.{feeding_still, open_at}
use Rattle.cdc_reader.proofs.Filled.{stops_so, whole_so, reads_bytes}
use Rattle.cdc_reader.proofs.reader.Reader.fill.Goals as goal

pub returns-in-Err-clause-steps : goal.returns-in-Err-clause-steps
returns-in-Err-clause-steps g c = λ reading taken feed reads goes_on given all.
    let files = g.S.Source.held c.args.source.now in
    let here = subst (λ (r : ReaderState). IsReading g.S.Source.tells files r reading taken feed) (sym c.self.view_is) reads in
    let opened = ap (λ (r : ReaderState). r.end) c.self.view_is ∙ goes_on in
    stops_so g.S.Source.tells files _ reading taken feed c.in-Err.stopped (feeding_still _ _ reading taken feed here.feeding here.feeding.sorted refl refl) given
    c.end_of_stop-self-inside.ensures
    (λ t.
    c.in-Err.ensures.fills t reading.from taken
    (subst (λ (r : ReaderState). IsTakenTo reading.from files r.log.follower r.log.place taken) (sym c.self.view_is) (all t))
    (open_at g.S.Source.tells files _ reading taken feed here opened t).sized)

pub returns-then-read-eq0-clause-steps : goal.returns-then-read-eq0-clause-steps
returns-then-read-eq0-clause-steps g c = λ reading taken feed reads goes_on given all.
    let files = g.S.Source.held c.args.source.now in
    let here = subst (λ (r : ReaderState). IsReading g.S.Source.tells files r reading taken feed) (sym c.self.view_is) reads in
    let opened = ap (λ (r : ReaderState). r.end) c.self.view_is ∙ goes_on in
    whole_so g.S.Source.tells files _ reading taken feed c.in-Ok.read (feeding_still _ _ reading taken feed here.feeding here.feeding.sorted refl refl) given refl
    c.if-read-eq0.true
    (λ t.
    c.in-Ok.ensures.fills t reading.from taken
    (subst (λ (r : ReaderState). IsTakenTo reading.from files r.log.follower r.log.place taken) (sym c.self.view_is) (all t))
    (open_at g.S.Source.tells files _ reading taken feed here opened t).sized)

pub returns-clause-steps : goal.returns-clause-steps
returns-clause-steps g c = λ reading taken feed reads goes_on given all.
    let files = g.S.Source.held c.args.source.now in
    let here = subst (λ (r : ReaderState). IsReading g.S.Source.tells files r reading taken feed) (sym c.self.view_is) reads in
    let opened = ap (λ (r : ReaderState). r.end) c.self.view_is ∙ goes_on in
    reads_bytes g.S.Source.tells files _ reading taken feed c.in-Ok.read (feeding_still _ _ reading taken feed here.feeding here.feeding.sorted refl refl) given opened
    (here.going opened)
    (λ t.
    c.in-Ok.ensures.fills t reading.from taken
    (subst (λ (r : ReaderState). IsTakenTo reading.from files r.log.follower r.log.place taken) (sym c.self.view_is) (all t))
    (open_at g.S.Source.tells files _ reading taken feed here opened t).sized)
    c.if-read-eq0.false
