use Rattle.std.proofs.Common.{◌≡◌, ◌<◌, ◌+◌, ◌^◌, ◌∙◌, length, reverse, refl, sym, ap, subst, arith}
use Rattle.std.proofs.lemmas.List.{length-reverse}
use Rattle.cdc_base.specs.declared.place.Place.{Place}
use Rattle.cdc_model.specs.Records.{LogEntry}
use Rattle.cdc_reader.specs.Standing.{ReaderState, IsFeeding, end_of_refusal}
use Rattle.cdc_reader.proofs.Steps.{feeding_more, feeding_refused, refusal_of_log}
use Rattle.cdc_reader.proofs.reader.Reader.take.Goals as goal

pub returns-in-Ok-clause-takes : goal.returns-in-Ok-clause-takes
returns-in-Ok-clause-takes c = λ reading taken feed f going.
    let here = subst (λ (r : ReaderState). IsFeeding r reading taken feed) (sym c.self.view_is) f in
    let entries = here.counted in
    let few = c.if-self-ge-MOST_ENTRIES.false in
    let count : length (reverse taken) ≡ length taken = length-reverse taken in
    let numbered : reading.from.entry + length (reverse taken) + 1 < 2 ^ 64 = omega (arith, entries, few, count) in
    let took = c.take.ensures.taken reading (reverse taken) feed.branches here.sorted c.in-Ok.is numbered in
    (feeding_more c.feed_reads_on.ensures _ _ reading taken feed c.args.entry here took.2 took.1 refl refl, took.0)

pub returns-in-Err-clause-takes : goal.returns-in-Err-clause-takes
returns-in-Err-clause-takes c = λ reading taken feed f going.
    let here = subst (λ (r : ReaderState). IsFeeding r reading taken feed) (sym c.self.view_is) f in
    let sound = ap (λ (r : ReaderState). r.sorter.stopped) c.self.view_is ∙ going in
    let at = ap (λ (e : LogEntry). e.at) c.entry.view_is in
    feeding_refused _ _ reading taken feed c.args.entry c.in-Err.error c.take.result c.in-Err.is c.take.ensures.memory c.take.ensures.fault
    (λ fault is. c.take.ensures.refused fault reading (reverse taken) feed.branches here.sorted sound is) here refl refl c.end_of_refusal.result
    (c.end_of_refusal.ensures ∙ ap (λ (p : Place). end_of_refusal p c.in-Err.error) at)

pub returns-in-Err-clause-own : goal.returns-in-Err-clause-own
returns-in-Err-clause-own c = refusal_of_log c.entry.inside.at c.in-Err.error c.end_of_refusal.result c.end_of_refusal.ensures

pub returns-in-Ok-clause-known : goal.returns-in-Ok-clause-known
returns-in-Ok-clause-known c = λ reading taken feed f.
    let here = subst (λ (r : ReaderState). IsFeeding r reading taken feed) (sym c.self.view_is) f in
    let entries = here.counted in
    let few = c.if-self-ge-MOST_ENTRIES.false in
    let count : length (reverse taken) ≡ length taken = length-reverse taken in
    let numbered : reading.from.entry + length (reverse taken) + 1 < 2 ^ 64 = omega (arith, entries, few, count) in
    c.take.ensures.known reading (reverse taken) feed.branches here.sorted numbered ∙ ap (λ (r : ReaderState). r.sorter.trail.known) c.self.view_is

pub returns-in-Err-clause-known : goal.returns-in-Err-clause-known
returns-in-Err-clause-known c = λ reading taken feed f.
    let here = subst (λ (r : ReaderState). IsFeeding r reading taken feed) (sym c.self.view_is) f in
    let entries = here.counted in
    let few = c.if-self-ge-MOST_ENTRIES.false in
    let count : length (reverse taken) ≡ length taken = length-reverse taken in
    let numbered : reading.from.entry + length (reverse taken) + 1 < 2 ^ 64 = omega (arith, entries, few, count) in
    c.take.ensures.known reading (reverse taken) feed.branches here.sorted numbered ∙ ap (λ (r : ReaderState). r.sorter.trail.known) c.self.view_is
