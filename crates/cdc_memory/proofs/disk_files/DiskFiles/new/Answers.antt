use Rattle.cdc_memory.proofs.DiskContents.{each_empty}
use Rattle.cdc_memory.proofs.disk_files.DiskFiles.new.Goals as goal

pub returns-clause-content : goal.returns-clause-content
returns-clause-content c = each_empty c.loop.files.items c.loop.invariant.empty
