use Rattle.std.proofs.Common.{◌≡◌, ◌⊎◌, ℕ, ◌<◌, List, length, map, sym, ◌∙◌, subst}
use Rattle.std.specs.Prelude.{IsTrue, ⊤}
use Rattle.std.specs.List.{AllByRecursion}
use Rattle.cdc_base.specs.declared.user.User.{User}
use Rattle.cdc_dumper.specs.declared.fault.OpenFault.{OpenFault}
use Rattle.cdc_outside.specs.Count.{Rose}
use Rattle.cdc_outside.specs.Disk.{Image}
use Rattle.cdc_outside.specs.Source.{file_of}
use Rattle.cdc_session.specs.Shelf.{IsRefusedShelf, HasTornFile}
use Rattle.cdc_server.specs.declared.serve_end.FirstEnd.{FirstEnd}
use Rattle.cdc_server.specs.declared.serve_end.ServeEnd.{ServeEnd}
use Rattle.cdc_server.specs.Doors.{IsDoorServed}
use Rattle.cdc_server.specs.Server.{IsSoAt, RoseAt, ServesDoors, serve_end}
use Rattle.cdc_serve.specs.Call.{IsCausedEnd}
use Rattle.cdc_serve.proofs.Answering.{config_answer}
use Rattle.cdc_serve.proofs.serving.serve_config.Goals as goal

pub returns-in-Ok-clause-answer : goal.returns-in-Ok-clause-answer
returns-in-Ok-clause-answer g c =
    config_answer c.bytes.result.now (file_of (g.C.Source.held c.args.config.now) 1) (IsTrue g.C.Source.tells) (Rose (g.C.Source.faults c.args.config.now) (g.C.Source.faults c.read_whole.new.source))
    (λ (users : List User) (end : ServeEnd).
    (0 < length c.args.doors.now → (first : FirstEnd) × (end ≡ serve_end first.door first.ending)
    × ServesDoors (IsDoorServed g.D.Disk.tells g.D.Disk.seen g.D.Disk.synced g.D.Disk.pending g.D.Disk.may_leave g.D.Disk.moment g.D.Disk.left_since g.D.Disk.faults g.G.Door.tells g.G.Door.shut g.G.Door.handed g.G.Door.served g.G.Door.faults g.Z.Salt.tells g.Z.Salt.drawn g.Z.Salt.faults users) 1 c.args.outs.now c.serve_text.new.outs c.args.doors.now c.serve_text.new.doors c.args.salts.now c.serve_text.new.salts first)
    × IsCausedEnd (AllByRecursion (λ (door : _). IsTrue (g.G.Door.shut door)) c.serve_text.new.doors) (λ (out : ℕ). RoseAt (map g.D.Disk.faults c.args.outs.now) (map g.D.Disk.faults c.serve_text.new.outs) out)
    (λ (out : ℕ) (fault : OpenFault). IsSoAt (λ (image : Image). IsTrue g.D.Disk.tells → IsRefusedShelf image fault) (map g.D.Disk.seen c.args.outs.now) out)
    (λ (out : ℕ). IsSoAt (λ (image : Image). IsTrue g.D.Disk.tells → HasTornFile image) (map g.D.Disk.seen c.args.outs.now) out)
    (λ (door : ℕ). RoseAt (map g.G.Door.faults c.args.doors.now) (map g.G.Door.faults c.serve_text.new.doors) door)
    (λ (door : ℕ). RoseAt (map g.Z.Salt.faults c.args.salts.now) (map g.Z.Salt.faults c.serve_text.new.salts) door) end)
    ((c.serve_text.new.outs ≡ c.args.outs.now) × (c.serve_text.new.doors ≡ c.args.doors.now) × (c.serve_text.new.salts ≡ c.args.salts.now))
    c.serve_text.result (λ told. c.bytes.ensures.value ∙ c.in-Ok.ensures.whole told) c.serve_text.ensures
