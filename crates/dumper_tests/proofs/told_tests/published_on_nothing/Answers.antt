use Rattle.std.proofs.Common.{◌≡◌, ℕ, List, [], ◌∙◌, ap}
use Rattle.cdc_outside.specs.declared.disk_file.DiskFile.TheVariants.{Log}
use Rattle.cdc_memory.specs.declared.disk_record.DiskStep.{DiskStep}
use Rattle.cdc_memory.specs.MemDisk.{start_of}
use Rattle.cdc_memory.specs.Replay.{holding_of}
use Rattle.dumper_tests.proofs.told_tests.published_on_nothing.Goals as goal

-- no file has a byte before the opening
pub publish-requires-clause-stands : goal.publish-requires-clause-stands
publish-requires-clause-stands c = λ told. c.in-Ok.ensures.stands told (λ other above.
    ap (λ (steps : List DiskStep). (holding_of (start_of c.in_ok-disk.disk) steps).seen (Log other)) c.in_ok-disk.ensures.steps ∙ c.in_ok-disk.ensures.start (Log other))
