use Rattle.std.proofs.Common.{◌≡◌, ◌+◌, ℕ, List, None, ap, sym, ◌∙◌, arith}
use Rattle.cdc_model.specs.declared.entry.EntryKind.TheVariants.{Prepare}
use Rattle.cdc_model.specs.Soundness.{entry_fault}
use Rattle.cdc_sorter.specs.Seen.{position_seen}
use Rattle.cdc_open.specs.Standing.{StandingBranch}
use Rattle.cdc_sorter.specs.Trail.{Standings, reading_start, standings_behind}
use Rattle.cdc_sorter.proofs.Points.{standing_prepared}
use Rattle.cdc_sorter.proofs.position.Position.prepare.Goals as goal

pub returns-clause-ok : goal.returns-clause-ok
returns-clause-ok c =
    λ room.
    let is : position_seen c.self.inside ≡ c.args.self.now = c.self.view_is in
    let entry_is : c.self.inside.entry ≡ c.args.self.now.entry = ap (λ (s : Standings). s.entry) is in
    let counted : c.saturating_add-self-inside.result ≡ c.self.inside.entry + 1 = omega (arith, c.saturating_add-self-inside.ensures, room, entry_is) in
    let sound : entry_fault (Prepare c.args.xid c.args.rows) (reading_start (position_seen c.self.inside)) ≡ None =
    ap (λ (s : Standings). entry_fault (Prepare c.args.xid c.args.rows) (reading_start s)) is ∙ c.requires.sound in
    let there : ℕ → List StandingBranch → Standings = λ (entry : ℕ) (list : List StandingBranch). record { entry = entry; mark = c.self.inside.mark; opened = list } in
    ap (λ (entry : ℕ). there entry c.open.new.self) counted
    ∙ ap (there (c.self.inside.entry + 1)) c.in_ok-open.ensures.ok
    ∙ sym (standing_prepared c.args.xid c.args.rows c.args.place c.args.checksum (position_seen c.self.inside) sound)
    ∙ ap (standings_behind (Prepare c.args.xid c.args.rows) c.args.place c.args.checksum) is
