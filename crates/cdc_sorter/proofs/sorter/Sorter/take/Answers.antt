use Rattle.std.proofs.Common.{◌≡◌, ◌∷◌, None, ap, sym, subst, ◌∙◌}
use Rattle.cdc_model.specs.Kept.{entry_seen}
use Rattle.cdc_model.specs.Records.{LogEntry}
use Rattle.cdc_model.specs.Soundness.{entry_fault}
use Rattle.cdc_sorter.specs.Seen.{sorter_seen}
use Rattle.cdc_sorter.specs.Trail.{reading_start}
use Rattle.cdc_sorter.specs.Sorting.{Sorting, HoldsReading, history_behind}
use Rattle.cdc_sorter.proofs.Steps.{takes_on, takes_known}
use Rattle.cdc_sorter.proofs.sorter.Sorter.take.Goals as goal

pub returns-in-Ok-clause-taken : goal.returns-in-Ok-clause-taken
returns-in-Ok-clause-taken c =
    let self_is : c.args.self.now ≡ sorter_seen c.self.inside = sym c.self.view_is in
    let entry_is : entry_seen c.entry.inside ≡ c.args.entry = c.entry.view_is in
    let sound : entry_fault c.entry.inside.kind (reading_start c.args.self.now.here) ≡ None =
    ap (λ (s : Sorting). entry_fault c.entry.inside.kind (reading_start s.here)) self_is ∙ sym c.fault.ensures ∙ c.in_default-fault.is in
    let unstopped : c.args.self.now.stopped ≡ None = ap (λ (s : Sorting). s.stopped) self_is ∙ c.in_default.is in
    λ reading history gave h done room.
    let went =
    subst (λ (entry : LogEntry). (c.go_on.new.self.stopped ≡ None) × (entry_fault entry.kind (history_behind reading history) ≡ None) × HoldsReading c.go_on.new.self reading (entry ∷ history) gave)
    entry_is
    (takes_on c.args.self.now c.go_on.new.self reading history gave (entry_seen c.entry.inside) h sound unstopped c.in-Ok.ensures.ok room) in
    (c.sweep.ensures.kept ∙ went.0, went.1, c.sweep.ensures.holds reading (c.args.entry ∷ history) gave went.2)

pub returns-in-Ok-clause-known : goal.returns-in-Ok-clause-known
returns-in-Ok-clause-known c =
    λ reading history gave h room.
    c.sweep.ensures.known
    ∙ takes_known c.args.self.now c.go_on.new.self reading history gave (entry_seen c.entry.inside) h c.in-Ok.ensures.ok room
