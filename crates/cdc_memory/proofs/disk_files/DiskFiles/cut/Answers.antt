use Rattle.std.proofs.Common.{ℕ, List, take}
use Rattle.cdc_memory.proofs.DiskContents.{changed_file}
use Rattle.cdc_memory.proofs.disk_files.DiskFiles.cut.Goals as goal

pub returns-in-Some-clause-content : goal.returns-in-Some-clause-content
returns-in-Some-clause-content c =
    changed_file c.args.self.now.files.items c.args.file c.in-Some.place c.index_mut.result.now c.cut.new.self (λ (l : List ℕ). take c.args.to l) c.in-Some.ensures.0 c.in-Some.ensures.1 c.index_mut.ensures.value c.cut.ensures.bytes
