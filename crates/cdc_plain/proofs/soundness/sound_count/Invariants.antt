use Rattle.std.proofs.Common.{◌≡◌, ◌+◌, ◌++◌, take, drop}
use Rattle.cdc_model.specs.Soundness.{sound_entries}
use Rattle.cdc_plain.proofs.soundness.sound_count.Given as goal

-- entries so far are sound, and what is left decides the rest
abbrev pub invariant-loop-count : goal.invariant-loop-count
invariant-loop-count l =
    (l.start.entry ≡ l.log.start.entry + l.count)
    × (take l.count l.entries ++ sound_entries l.start (drop l.count l.entries) ≡ sound_entries l.log.start l.entries)
