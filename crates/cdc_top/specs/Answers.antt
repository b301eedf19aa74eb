-- Statuses, and lines on the error stream.
use Rattle.std.specs.Prelude.{◌≡◌, ℕ, ◌⊎◌, List, [], ◌++◌, codes, decimal}
use Rattle.cdc_base.specs.declared.key.Key.{Key}
use Rattle.cdc_base.specs.declared.place.Place.{Place}
use Rattle.cdc_config.specs.KeyWords.{key_word}
use Rattle.cdc_dumper.specs.declared.fault.OpenFault.{OpenFault}
use Rattle.cdc_dumper.specs.declared.fault.OpenFault.TheVariants.{DiskFault, BadCell, BadFront}
use Rattle.cdc_model.specs.declared.layout.Layout.{Layout}
use Rattle.cdc_outside.specs.Count.{Rose}
use Rattle.cdc_outside.specs.Sink.{WritesTo}
use Rattle.cdc_top.specs.declared.answer.Answer.{Answer}
use Rattle.cdc_top.specs.declared.answer.Answer.TheVariants.{Done, Usage, Config, Node, ReadConfig, Read, Disk, TooLarge, Unopened, TaskDisk, TaskCell, TaskNodes, TaskRotation, Behind, Differs, OtherKey, Memory, Sink}
use Rattle.cdc_top.specs.FaultText.{shown_place, shown_fault}
use Rattle.cdc_top.specs.KeptText.{shown_layout, shown_key}

-- the exit status of an out that can't be opened: its disk failed, or what it keeps is refused
abbrev pub unopened_status : OpenFault → ℕ
unopened_status DiskFault = 5
unopened_status (BadCell slot) = 7
unopened_status (BadFront kept found) = 7

-- the exit status of an answer
abbrev pub status_of : Answer → ℕ
status_of Done = 0
status_of Usage = 2
status_of (Config key) = 2
status_of (Node node place fault) = 3
status_of ReadConfig = 4
status_of (Read node) = 4
status_of (Disk out) = 5
status_of (TooLarge number bytes) = 6
status_of (Unopened out fault) = unopened_status fault
status_of TaskDisk = 5
status_of TaskCell = 7
status_of (TaskNodes kept given) = 7
status_of (TaskRotation kept given) = 7
status_of (Behind node kept given) = 7
status_of (Differs out kept given) = 7
status_of (OtherKey out kept given) = 7
status_of Memory = 8
status_of Sink = 9

-- the line of an out whose disk failed
abbrev pub disk_line : ℕ → List ℕ
disk_line out = codes "cdc: disk out " ++ decimal out ++ codes "\n"

-- the line of an out whose record is refused
abbrev pub bad_cell_line : ℕ → List ℕ
bad_cell_line out = codes "cdc: kept out " ++ decimal out ++ codes " bad cell\n"

-- the line of an out whose last file is shorter than its record says
abbrev pub bad_front_line : ℕ → ℕ → ℕ → List ℕ
bad_front_line out kept found = codes "cdc: kept out " ++ decimal out ++ codes " bad front " ++ decimal kept ++ codes " " ++ decimal found ++ codes "\n"

-- the line of an out that can't be opened
abbrev pub unopened_line : ℕ → OpenFault → List ℕ
unopened_line out DiskFault = disk_line out
unopened_line out (BadCell slot) = bad_cell_line out
unopened_line out (BadFront kept found) = bad_front_line out kept found

-- the line of a task that was kept for another number of nodes
abbrev pub task_nodes_line : ℕ → ℕ → List ℕ
task_nodes_line kept given = codes "cdc: kept task nodes " ++ decimal kept ++ codes " " ++ decimal given ++ codes "\n"

-- the line of a task that was kept for another rotation size
abbrev pub task_rotation_line : ℕ → ℕ → List ℕ
task_rotation_line kept given = codes "cdc: kept task rotation " ++ decimal kept ++ codes " " ++ decimal given ++ codes "\n"

-- the line of a node whose log ends before the place from which it is read on
abbrev pub behind_line : ℕ → Place → Place → List ℕ
behind_line node kept given = codes "cdc: kept node " ++ decimal node ++ codes " behind " ++ shown_place kept ++ codes " " ++ shown_place given ++ codes "\n"

-- the line of an out that stands elsewhere than where the next transaction begins
abbrev pub differs_line : ℕ → Layout → Layout → List ℕ
differs_line out kept given = codes "cdc: kept out " ++ decimal out ++ codes " differs " ++ shown_layout kept ++ codes " " ++ shown_layout given ++ codes "\n"

-- the line of an out whose last transaction has another key
abbrev pub other_key_line : ℕ → Key → Key → List ℕ
other_key_line out kept given = codes "cdc: kept out " ++ decimal out ++ codes " key " ++ shown_key kept ++ codes " " ++ shown_key given ++ codes "\n"

-- the line of an answer; each ends with a line feed
abbrev pub line_of : Answer → List ℕ
line_of Done = []
line_of Usage = codes "cdc: usage\n"
line_of (Config key) = codes "cdc: config " ++ key_word key ++ codes "\n"
line_of (Node node place fault) =
    codes "cdc: node " ++ decimal node ++ codes " " ++ shown_place place ++ codes " " ++ shown_fault fault ++ codes "\n"
line_of ReadConfig = codes "cdc: read config\n"
line_of (Read node) = codes "cdc: read node " ++ decimal node ++ codes "\n"
line_of (Disk out) = disk_line out
line_of (TooLarge number bytes) = codes "cdc: too large " ++ decimal number ++ codes " " ++ decimal bytes ++ codes "\n"
line_of (Unopened out fault) = unopened_line out fault
line_of TaskDisk = codes "cdc: disk task\n"
line_of TaskCell = codes "cdc: kept task bad cell\n"
line_of (TaskNodes kept given) = task_nodes_line kept given
line_of (TaskRotation kept given) = task_rotation_line kept given
line_of (Behind node kept given) = behind_line node kept given
line_of (Differs out kept given) = differs_line out kept given
line_of (OtherKey out kept given) = other_key_line out kept given
line_of Memory = codes "cdc: memory\n"
line_of Sink = codes "cdc: sink\n"

-- a line was written behind what stood there, or a front of it where the count of faults rose
abbrev pub IsSaid : List ℕ → List ℕ → List ℕ → ℕ → ℕ → Type 0
IsSaid before line now faults_before faults_now = (now ≡ before ++ line) ⊎ (WritesTo before line now × Rose faults_before faults_now)
