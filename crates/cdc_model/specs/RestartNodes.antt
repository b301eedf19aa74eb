-- Restart points of all nodes, and the latest points of a reading that goes on.
use Rattle.std.specs.Prelude.{◌≤◌, ℕ, ◌-◌, List, drop}
use Rattle.std.specs.List.{AllZip, enumerate_from}
use Rattle.cdc_base.specs.declared.key.Key.{Key}
use Rattle.cdc_model.specs.declared.node_log.NodeLog.{NodeLog}
use Rattle.cdc_model.specs.Records.{LogEntry}
use Rattle.cdc_model.specs.Soundness.{sound_entries}
use Rattle.cdc_model.specs.SettledOrder.{IsFront}
use Rattle.cdc_model.specs.Growth.{LogsGrow}
use Rattle.cdc_model.specs.Restart.{RestartPoint, first_point, start_at, IsAtMost, IsRestartPoint, IsLatestPoint, AreRestartPoints}

-- the latest restart point of each node for a key
abbrev pub AreLatestPoints : Key → List NodeLog → List RestartPoint → Type 0
AreLatestPoints last logs points =
    AllZip (λ (node : ℕ × NodeLog) (point : RestartPoint). IsLatestPoint last first_point node.0 (sound_entries node.1.start node.1.entries) point)
    (enumerate_from 1 logs) points

-- law: the restart points of all nodes stay such for a greater key, where the logs go on
abbrev pub RestartPointsStay : Type 0
RestartPointsStay = (last later : Key) (olds news : List NodeLog) (points : List RestartPoint)
    → IsAtMost last later → LogsGrow olds news → AreRestartPoints last olds points → AreRestartPoints later news points

-- law: the latest restart point of a reading that began at a restart point, over a log that has gone on, is the whole log's
abbrev pub ResumedLatestIsTheWholes : Type 0
ResumedLatestIsTheWholes = (last later : Key) (from point : RestartPoint) (node : ℕ) (old entries : List LogEntry) (other : RestartPoint)
    → 1 ≤ from.entry → IsAtMost last later → IsFront (sound_entries (start_at from) old) (sound_entries (start_at from) entries)
    → IsRestartPoint last from node (sound_entries (start_at from) old) point
    → IsLatestPoint later point node (sound_entries (start_at point) (drop (point.entry - from.entry) entries)) other
    → IsLatestPoint later from node (sound_entries (start_at from) entries) other
