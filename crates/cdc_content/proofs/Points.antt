-- The points that were found in what was read, beside those of the whole logs.
use Rattle.std.proofs.Common.{ℕ, ◌+◌, ◌-◌, ◌≤◌, List, [], ◌∷◌, ◌++◌, length, length-append, drop, ap, sym, subst, refl, arith}
use Rattle.std.proofs.lemmas.List.{length-drop}
use Rattle.std.specs.List.{AllZip, enumerate_from}
use Rattle.cdc_base.specs.declared.key.Key.{Key}
use Rattle.cdc_model.specs.declared.node_log.NodeLog.{NodeLog}
use Rattle.cdc_model.specs.Records.{LogEntry, Transaction, Start}
use Rattle.cdc_model.specs.Soundness.{sound_entries}
use Rattle.cdc_model.specs.Transaction.{key_at}
use Rattle.cdc_model.specs.SettledOrder.{IsFront}
use Rattle.cdc_model.specs.Feed.{NodeFeed}
use Rattle.cdc_model.specs.Growth.{IsReadWhole}
use Rattle.cdc_model.specs.Restart.{RestartPoint, first_point, start_at, IsAtMost, IsRestartPoint, IsLatestPoint, RestartPlaceReadsTheRest}
use Rattle.cdc_model.proofs.Fronts.{front_itself}
use Rattle.cdc_model.proofs.RestartPoints.{at_most_itself, restart_point_stays}
use Rattle.cdc_model.proofs.RestartRest.{restart_reads_the_rest}
use Rattle.cdc_model.proofs.RestartAgain.{restarted_points_are_the_wholes}
use Rattle.cdc_model.proofs.NodePoints.{resumed_latest_is_the_wholes}
use Rattle.cdc_recovery.specs.Outputs.{planned_transactions}
use Rattle.cdc_content.specs.Reading.{HasReadFrom, HaveReadFrom, HasReadAll, HaveReadAll, AreLatestOfRead}
use Rattle.cdc_content.specs.Laws.{PointsBehindAreSound, PointsOfAllAreLatest}
use Rattle.cdc_content.proofs.Behind.{PointsFrom, point_of_whole, read_behind, all_behind}
use Rattle.cdc_content.proofs.Rising.{later_key}

-- a point that was found in what was read is one of the whole log
one_sound : RestartPlaceReadsTheRest → (last key : Key) (node : ℕ) (files : List (List ℕ)) (log : NodeLog) (point later : RestartPoint) (taken : List LogEntry) (feed : NodeFeed)
    → IsAtMost last key → IsReadWhole files log → IsRestartPoint last first_point node (sound_entries log.start log.entries) point → HasReadFrom files last point node taken feed
    → IsLatestPoint key point node taken later → IsRestartPoint key first_point node (sound_entries log.start log.entries) later
one_sound law last key node files log point later taken feed low whole is read latest =
    let here = point_of_whole last node files log point whole is in
    let all : List LogEntry = sound_entries (start_at first_point) log.entries in
    let rest = restart_reads_the_rest last first_point point node log.entries log.entries (omega arith) (front_itself all) here in
    let behind : List LogEntry = sound_entries (start_at point) (drop (point.entry - 1) log.entries) in
    let stays : IsRestartPoint last first_point node (rest.before ++ behind) point = subst (λ (list : List LogEntry). IsRestartPoint last first_point node list point) rest.sound here in
    let grown : IsRestartPoint key point node behind later =
    restart_point_stays key key point node taken behind later (at_most_itself key)
    (read.first (drop (point.entry - 1) log.entries) whole.fault (read_behind law last node files log point whole is)) latest.sound in
    let found : IsRestartPoint key first_point node (rest.before ++ behind) later =
    (restarted_points_are_the_wholes last key first_point point node rest.before behind (omega arith) low rest.number stays).forth later grown in
    subst (λ (s : Start). IsRestartPoint key first_point node (sound_entries s log.entries) later) (sym whole.begins)
    (subst (λ (list : List LogEntry). IsRestartPoint key first_point node list later) (sym rest.sound) found)

points_sound : RestartPlaceReadsTheRest → (last key : Key) (node : ℕ) (nodes : List (List (List ℕ))) (logs : List NodeLog) (points laters : List RestartPoint) (takens : List (List LogEntry)) (feeds : List NodeFeed)
    → IsAtMost last key → AllZip IsReadWhole nodes logs → PointsFrom last node logs points → HaveReadFrom node nodes last points takens feeds
    → AreLatestOfRead node key points takens laters → PointsFrom key node logs laters
points_sound law last key node [] [] [] [] [] [] low whole are read latest = tt
points_sound law last key node (files ∷ nodes) (log ∷ logs) (point ∷ points) (later ∷ laters) (taken ∷ takens) (feed ∷ feeds) low (is_whole, whole) (is, are) (has, read) (late, latest) = (
  one_sound law last key node files log point later taken feed low is_whole is has late,
  points_sound law last key (node + 1) nodes logs points laters takens feeds low whole are read latest,
)
points_sound law last key node [] (log ∷ logs) points laters takens feeds low whole are read latest = absurd whole
points_sound law last key node (files ∷ nodes) [] points laters takens feeds low whole are read latest = absurd whole
points_sound law last key node [] [] (point ∷ points) laters takens feeds low whole are read latest = absurd read
points_sound law last key node [] [] [] laters (taken ∷ takens) feeds low whole are read latest = absurd read
points_sound law last key node [] [] [] laters [] (feed ∷ feeds) low whole are read latest = absurd read
points_sound law last key node [] [] [] (later ∷ laters) [] [] low whole are read latest = absurd latest
points_sound law last key node (files ∷ nodes) (log ∷ logs) [] laters takens feeds low whole are read latest = absurd are
points_sound law last key node (files ∷ nodes) (log ∷ logs) (point ∷ points) laters [] feeds low whole are read latest = absurd read
points_sound law last key node (files ∷ nodes) (log ∷ logs) (point ∷ points) laters (taken ∷ takens) [] low whole are read latest = absurd read
points_sound law last key node (files ∷ nodes) (log ∷ logs) (point ∷ points) [] (taken ∷ takens) (feed ∷ feeds) low whole are read latest = absurd latest

-- what begins the transactions behind so many has no more than there are
within_behind : (count : ℕ) (made txns : List Transaction) → count ≤ length txns → IsFront made (drop count txns) → count + length made ≤ length txns
within_behind count made txns within front = omega (arith, within, ap length front.is, length-append made front.rest, length-drop count txns)

pub points_behind_are_sound : RestartPlaceReadsTheRest → PointsBehindAreSound
points_behind_are_sound law plan nodes logs count last points takens feeds made laters reads front latest =
    let txns : List Transaction = planned_transactions plan logs in
    let key : Key = key_at txns (count + length made) in
    let within : count + length made ≤ length txns = within_behind count made txns reads.behind.within front in
    let low : IsAtMost last key =
    subst (λ (k : Key). IsAtMost k key) (sym reads.behind.key) (later_key plan logs count (count + length made) (omega arith) within) in
    record {
      within = within;
      key = refl;
      restart = points_sound law last key 1 nodes logs points laters takens feeds low reads.whole reads.behind.restart reads.read latest;
    }

-- ---- where all was read

one_latest : RestartPlaceReadsTheRest → (last key : Key) (node : ℕ) (files : List (List ℕ)) (log : NodeLog) (point later : RestartPoint) (taken : List LogEntry) (feed : NodeFeed)
    → IsAtMost last key → IsReadWhole files log → IsRestartPoint last first_point node (sound_entries log.start log.entries) point → HasReadAll files point taken feed
    → IsLatestPoint key point node taken later → IsLatestPoint key first_point node (sound_entries log.start log.entries) later
one_latest law last key node files log point later taken feed low whole is has latest =
    subst (λ (s : Start). IsLatestPoint key first_point node (sound_entries s log.entries) later) (sym whole.begins)
    (resumed_latest_is_the_wholes last key first_point point node log.entries log.entries later (omega arith) low
    (front_itself (sound_entries (start_at first_point) log.entries)) (point_of_whole last node files log point whole is)
    (subst (λ (list : List LogEntry). IsLatestPoint key point node list later) (sym (all_behind law last node files log point taken feed whole is has)) latest))

abbrev LatestFrom : Key → ℕ → List NodeLog → List RestartPoint → Type 0
LatestFrom key node logs laters =
    AllZip (λ (one : ℕ × NodeLog) (point : RestartPoint). IsLatestPoint key first_point one.0 (sound_entries one.1.start one.1.entries) point) (enumerate_from node logs) laters

points_latest : RestartPlaceReadsTheRest → (last key : Key) (node : ℕ) (nodes : List (List (List ℕ))) (logs : List NodeLog) (points laters : List RestartPoint) (takens : List (List LogEntry)) (feeds : List NodeFeed)
    → IsAtMost last key → AllZip IsReadWhole nodes logs → PointsFrom last node logs points → HaveReadAll nodes points takens feeds
    → AreLatestOfRead node key points takens laters → LatestFrom key node logs laters
points_latest law last key node [] [] [] [] [] [] low whole are all latest = tt
points_latest law last key node (files ∷ nodes) (log ∷ logs) (point ∷ points) (later ∷ laters) (taken ∷ takens) (feed ∷ feeds) low (is_whole, whole) (is, are) (has, all) (late, latest) = (
  one_latest law last key node files log point later taken feed low is_whole is has late,
  points_latest law last key (node + 1) nodes logs points laters takens feeds low whole are all latest,
)
points_latest law last key node [] (log ∷ logs) points laters takens feeds low whole are all latest = absurd whole
points_latest law last key node (files ∷ nodes) [] points laters takens feeds low whole are all latest = absurd whole
points_latest law last key node [] [] (point ∷ points) laters takens feeds low whole are all latest = absurd all
points_latest law last key node [] [] [] laters (taken ∷ takens) feeds low whole are all latest = absurd all
points_latest law last key node [] [] [] laters [] (feed ∷ feeds) low whole are all latest = absurd all
points_latest law last key node [] [] [] (later ∷ laters) [] [] low whole are all latest = absurd latest
points_latest law last key node (files ∷ nodes) (log ∷ logs) [] laters takens feeds low whole are all latest = absurd are
points_latest law last key node (files ∷ nodes) (log ∷ logs) (point ∷ points) laters [] feeds low whole are all latest = absurd all
points_latest law last key node (files ∷ nodes) (log ∷ logs) (point ∷ points) laters (taken ∷ takens) [] low whole are all latest = absurd all
points_latest law last key node (files ∷ nodes) (log ∷ logs) (point ∷ points) [] (taken ∷ takens) (feed ∷ feeds) low whole are all latest = absurd latest

pub points_of_all_are_latest : RestartPlaceReadsTheRest → PointsOfAllAreLatest
points_of_all_are_latest law plan nodes logs count last points takens feeds made laters reads all front latest =
    let txns : List Transaction = planned_transactions plan logs in
    let key : Key = key_at txns (count + length made) in
    let within : count + length made ≤ length txns = within_behind count made txns reads.behind.within front in
    let low : IsAtMost last key =
    subst (λ (k : Key). IsAtMost k key) (sym reads.behind.key) (later_key plan logs count (count + length made) (omega arith) within) in
    points_latest law last key 1 nodes logs points laters takens feeds low reads.whole reads.behind.restart all latest
