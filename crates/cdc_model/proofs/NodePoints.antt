-- Restart points of all nodes stay, and the latest points of a resumed reading are the whole's.
use Rattle.std.proofs.Common.{ℕ, ◌+◌, ◌-◌, List, [], ◌∷◌, ◌++◌, drop, sym, subst}
use Rattle.std.specs.List.{AllZip, enumerate_from}
use Rattle.cdc_base.specs.declared.key.Key.{Key}
use Rattle.cdc_model.specs.declared.node_log.NodeLog.{NodeLog}
use Rattle.cdc_model.specs.Records.{LogEntry}
use Rattle.cdc_model.specs.Soundness.{sound_entries}
use Rattle.cdc_model.specs.Growth.{LogsGrow}
use Rattle.cdc_model.specs.Restart.{RestartPoint, first_point, start_at, IsAtMost, IsRestartPoint, IsLatestPoint}
use Rattle.cdc_model.specs.RestartNodes.{RestartPointsStay, ResumedLatestIsTheWholes}
use Rattle.cdc_model.proofs.RestartPoints.{at_most_itself, restart_point_stays}
use Rattle.cdc_model.proofs.RestartRest.{restart_reads_the_rest}
use Rattle.cdc_model.proofs.RestartAgain.{restarted_points_are_the_wholes}

pub points_stay : (last later : Key) (number : ℕ) (olds news : List NodeLog) (points : List RestartPoint) → IsAtMost last later → LogsGrow olds news
    → AllZip (λ (node : ℕ × NodeLog) (point : RestartPoint). IsRestartPoint last first_point node.0 (sound_entries node.1.start node.1.entries) point) (enumerate_from number olds) points
    → AllZip (λ (node : ℕ × NodeLog) (point : RestartPoint). IsRestartPoint later first_point node.0 (sound_entries node.1.start node.1.entries) point) (enumerate_from number news) points
points_stay last later number [] [] [] low grow are = tt
points_stay last later number [] [] (point ∷ points) low grow are = absurd are
points_stay last later number [] (new ∷ news) points low grow are = absurd grow
points_stay last later number (old ∷ olds) [] points low grow are = absurd grow
points_stay last later number (old ∷ olds) (new ∷ news) [] low grow are = absurd are
points_stay last later number (old ∷ olds) (new ∷ news) (point ∷ points) low (grows, grow) (is, are) = (
  restart_point_stays last later first_point number (sound_entries old.start old.entries) (sound_entries new.start new.entries) point low grows.front is,
  points_stay last later (number + 1) olds news points low grow are,
)

pub restart_points_stay : RestartPointsStay
restart_points_stay last later olds news points low grow are = points_stay last later 1 olds news points low grow are

pub resumed_latest_is_the_wholes : ResumedLatestIsTheWholes
resumed_latest_is_the_wholes last later from point node old entries other positive low front is latest =
    let rest = restart_reads_the_rest last from point node old entries positive front is in
    let behind : List LogEntry = sound_entries (start_at point) (drop (point.entry - from.entry) entries) in
    let stays : IsRestartPoint last from node (rest.before ++ behind) point =
    subst (λ (list : List LogEntry). IsRestartPoint last from node list point) rest.sound
    (restart_point_stays last last from node (sound_entries (start_at from) old) (sound_entries (start_at from) entries) point (at_most_itself last) front is) in
    subst (λ (list : List LogEntry). IsLatestPoint later from node list other) (sym rest.sound)
    ((restarted_points_are_the_wholes last later from point node rest.before behind positive low rest.number stays).latest other latest)
