use Rattle.std.proofs.Common.{◌≡◌, ℕ, ◌+◌, ◌≤◌, ◌<◌, List, [], ◌∷◌, ◌++◌, length, get_or, sym, ◌∙◌, ap, subst, arith, length-append}
use Rattle.cdc_outside.specs.declared.disk_file.DiskFile.{DiskFile}
use Rattle.cdc_outside.specs.Disk.{Change}
use Rattle.cdc_memory.specs.CrashPick.{crash_pick, picked}
use Rattle.cdc_memory.specs.DiskFiles.{place_of}
use Rattle.cdc_memory.specs.MemDisk.{start_of, held_by}
use Rattle.cdc_memory.specs.Replay.{Holding}
use Rattle.cdc_memory.specs.declared.mem_file.MemFile.{MemFile}
use Rattle.cdc_memory.proofs.DiskContents.{imaged_more, all_imaged, content_past}
use Rattle.cdc_memory.proofs.Picks.{nothing_picked}
use Rattle.cdc_memory.proofs.mem_disk.MemDisk.left_by_crash.Goals as goal

pub loop-place-preserved : goal.loop-place-preserved
loop-place-preserved c =
    let disk = c.args.self.now in
    let file : DiskFile = c.file_at-file.result in
    let held : Holding = held_by disk in
    let changes : List Change = held.pending file in
    let pick : ℕ = c.args.pick in
    let place : ℕ = c.loop-place.place in
    let files : c.push.new.self.files.items ≡ c.loop-place.left.files.items ++ c.in_ok-bytes.bytes ∷ [] = c.in_ok-push.ensures.files in
    let here : c.in_ok-bytes.bytes.bytes.items ≡ picked pick held file =
    c.in_ok-bytes.ensures.bytes (start_of disk)
    ∙ ap (λ (l : List ℕ). crash_pick pick l changes c.bytes-in-loop-place.result.now) (c.bytes.ensures.bytes ∙ disk.as_synced file)
    ∙ ap (λ (l : List ℕ). crash_pick pick (held.last_sync file) changes l) (c.bytes-in-loop-place.ensures.bytes ∙ disk.as_seen file) in
    record {
      number = omega (arith, ap length files, length-append c.loop-place.left.files.items (c.in_ok-bytes.bytes ∷ []), c.loop-place.invariant.number);
      room = c.push.ensures.room ∙ c.loop-place.invariant.room;
      done = subst (λ (l : List MemFile). (k : ℕ) (other : MemFile) (it : DiskFile) → k < place + 1 → place_of it ≡ k → (get_or l k other).bytes.items ≡ picked pick held it) (sym files)
          (imaged_more c.loop-place.left.files.items c.in_ok-bytes.bytes place file (picked pick held) c.loop-place.invariant.number c.file_at-file.ensures here c.loop-place.invariant.done);
    }

pub returns-clause-content : goal.returns-clause-content
returns-clause-content c =
    let disk = c.args.self.now in
    let held : Holding = held_by disk in
    let pick : ℕ = c.args.pick in
    all_imaged c.loop-place.left.files.items (picked pick held)
    (λ k other it lt e. c.loop-place.invariant.done k other it (omega (arith, c.loop-place.invariant.number, lt)) e)
    (λ it past.
    let beyond : length disk.files.files.items ≤ place_of it = omega (arith, c.loop-place.invariant.number) in
    let synced : held.last_sync it ≡ [] = sym (disk.as_synced it) ∙ content_past disk.synced.files.items it (omega (arith, disk.same_number, beyond)) in
    let seen : held.seen it ≡ [] = sym (disk.as_seen it) ∙ content_past disk.files.files.items it beyond in
    nothing_picked pick (held.last_sync it) (held.seen it) (held.pending it) synced seen)
