use Rattle.std.proofs.Common.{rules, ◌≡◌, ◌≤◌, ℕ, List, length, take, sym, subst, ap, ◌∙◌}
use Rattle.std.specs.Str.{bytes_eq}
use Rattle.cdc_event.specs.Event.{magic}
use Rattle.cdc_outside.specs.Disk.{Image}
use Rattle.cdc_index.specs.Shelf.{Shows, TellsEnds}
use Rattle.cdc_index.proofs.Windows.{front_shown, whole_from_ends, no_magic}
use Rattle.cdc_index.proofs.scan.scan.Goals as goal

pub returns-then-begins_log-clause-told : goal.returns-then-begins_log-clause-told
returns-then-begins_log-clause-told g c told within =
    let content : List ℕ = g.D.Disk.seen c.args.disk.now c.args.file in
    let limit : ℕ = c.args.limit in
    let window : List ℕ = c.first_part.new.window in
    let same : g.D.Disk.seen c.first_part.new.disk c.args.file ≡ content = ap (λ (f : Image). f c.args.file) (c.in-Ok.ensures.alone told).same in
    let front = front_shown content window limit _ c.in-Ok.part.size (c.in-Ok.ensures.told told) (c.in-Ok.ensures.all told) within (search rules) in
    let here : Shows content window c.in-Ok.part.from c.in-Ok.part.size =
    subst (λ (n : ℕ). Shows content window n c.in-Ok.part.size) (sym c.in-Ok.ensures.start) (c.in-Ok.ensures.told told) in
    let ends = c.walk.ensures.told told (subst (λ (l : List ℕ). limit ≤ length l) (sym same) within)
    (subst (λ (l : List ℕ). Shows l window c.in-Ok.part.from c.in-Ok.part.size) (sym same) here) in
    whole_from_ends (take limit content) c.args.at c.walk.result (ap (λ (l : List ℕ). bytes_eq l magic) (sym front) ∙ sym c.begins_log.ensures.value ∙ c.if-begins_log.true)
    (subst (λ (l : List ℕ). TellsEnds (take limit l) c.args.at c.walk.result) same ends)

pub returns-else-begins_log-clause-told : goal.returns-else-begins_log-clause-told
returns-else-begins_log-clause-told g c told within =
    let content : List ℕ = g.D.Disk.seen c.args.disk.now c.args.file in
    let front = front_shown content c.first_part.new.window c.args.limit _ c.in-Ok.part.size (c.in-Ok.ensures.told told) (c.in-Ok.ensures.all told) within (search rules) in
    no_magic (take c.args.limit content) (ap (λ (l : List ℕ). bytes_eq l magic) (sym front) ∙ sym c.begins_log.ensures.value ∙ c.if-begins_log.false)
