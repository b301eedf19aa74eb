-- The laws of what a dumper does: it takes nothing from what is recoverable.
use Rattle.std.specs.Prelude.{ℕ, ◌+◌, List}
use Rattle.cdc_outside.specs.Disk.{Image}
use Rattle.cdc_model.specs.Records.{Transaction, OutputUnit}
use Rattle.cdc_records.specs.declared.front.Front.{Front}
use Rattle.cdc_records.specs.Front.{HasFront}
use Rattle.cdc_dumper.specs.Moves.{front_with, StillHas, IsAppended, HasCommitted, HasNew}
use Rattle.cdc_dumper.specs.Opening.{IsFound, IsTrimmed, IsFrontOrNone}
use Rattle.cdc_recovery.specs.Outputs.{OutputPlan, IsFrontOf, KeepsOut, KeepsFrom, IsUnitAt}

-- law: bytes behind a Front and a torn slot take nothing from it
abbrev pub EachStillKeeps : Type 0
EachStillKeeps = (plan : OutputPlan) (txns : List Transaction) (f : Front) (old image : Image)
    → IsFrontOf plan txns f old → StillHas f old image → IsFrontOf plan txns f image

-- law: with the next transaction's unit appended, an image has what one transaction more has
abbrev pub EachAppendKeeps : Type 0
EachAppendKeeps = (plan : OutputPlan) (txns : List Transaction) (g : Front) (unit : OutputUnit) (old new : Image)
    → IsFrontOrNone g → IsUnitAt plan txns g.count unit → IsFrontOf plan txns g old → IsAppended g unit old new → IsFrontOf plan txns (front_with g unit) new

-- law: a commit makes recoverable what was appended
abbrev pub EachCommitKeeps : Type 0
EachCommitKeeps = (plan : OutputPlan) (txns : List Transaction) (g : Front) (old image : Image)
    → IsFrontOf plan txns g old → HasCommitted g old image → KeepsOut plan txns g.count image

-- law: with the next transaction's unit published, an output is recoverable with one transaction more
abbrev pub EachUnitKeeps : Type 0
EachUnitKeeps = (plan : OutputPlan) (txns : List Transaction) (g : Front) (unit : OutputUnit) (old image : Image)
    → IsFrontOrNone g → IsUnitAt plan txns g.count unit → IsFrontOf plan txns g old → HasNew g unit old image → KeepsOut plan txns (g.count + 1) image

-- law: the cuts of an opening take nothing from what is recoverable
abbrev pub EachTrimKeeps : Type 0
EachTrimKeeps = (plan : OutputPlan) (txns : List Transaction) (f : Front) (old image : Image)
    → HasFront old f → IsFrontOf plan txns f old → IsTrimmed f old image → KeepsOut plan txns f.count image

-- law: where what is seen of an output keeps at least so many transactions, so does what the cuts of an opening leave of it
abbrev pub EachOpeningKeeps : Type 0
EachOpeningKeeps = (plan : OutputPlan) (txns : List Transaction) (least : ℕ) (f : Front) (seen image : Image)
    → KeepsFrom plan txns least seen → IsFound seen f → IsTrimmed f seen image → KeepsFrom plan txns least image
