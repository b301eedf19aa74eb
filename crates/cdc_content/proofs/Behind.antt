-- What was read and given, beside the order of the whole logs.
use Rattle.std.proofs.Common.{◌≡◌, ℕ, ◌+◌, ◌-◌, List, [], ◌∷◌, reverse, drop, None, ap, sym, subst, refl, ◌∙◌}
use Rattle.std.specs.List.{AllZip, enumerate_from, find}
use Rattle.cdc_base.specs.declared.key.Key.{Key}
use Rattle.cdc_model.specs.declared.node_log.NodeLog.{NodeLog}
use Rattle.cdc_model.specs.Records.{LogEntry, Transaction, Start}
use Rattle.cdc_model.specs.Soundness.{AllSound, sound_entries, reached}
use Rattle.cdc_model.specs.Watermark.{node_low_water_mark}
use Rattle.cdc_model.specs.Transaction.{node_branches, ordered_transactions, settled_transactions, is_oversized}
use Rattle.cdc_model.specs.SettledOrder.{IsFront}
use Rattle.cdc_model.specs.Feed.{NodeFeed, FeedsFrom, AreToldOf}
use Rattle.cdc_model.specs.NodeReading.{FeedsBehind, low_behind}
use Rattle.cdc_model.specs.Growth.{LogGrows, LogsGrow, IsReadWhole}
use Rattle.cdc_model.specs.Restart.{RestartPoint, first_point, start_at, IsRestartPoint, AreWhole, GivesTheRest, RestartPlaceReadsTheRest, log_behind, logs_behind}
use Rattle.cdc_model.specs.ReadFrom.{AreEntriesReadFrom}
use Rattle.cdc_model.proofs.Fronts.{front_itself, front_same, fronts_of_each}
use Rattle.cdc_model.proofs.OutputGrowth.{settled_order_grows}
use Rattle.cdc_model.proofs.RestartOrder.{restart_gives_the_rest}
use Rattle.cdc_reader.proofs.Sound.{reads_all_sound}
use Rattle.cdc_recovery.specs.Outputs.{OutputPlan}
use Rattle.cdc_content.specs.Reading.{HasReadFrom, HaveReadFrom, HasReadAll, HaveReadAll, GoesOnBehind, logs_read}
use Rattle.cdc_content.specs.Laws.{ReadingsAreFeeds, ReadingsSettleTheNext, ReadingsOfAllSettleAll}

-- ---- what was read, as logs

-- all that was taken is sound
pub taken_is_sound : (start : Start) (taken : List LogEntry) → AllSound start taken → sound_entries start taken ≡ taken
taken_is_sound start taken sound = (reads_all_sound start taken taken None None sound refl refl).0

-- the feeds are those of what was read
fed : (node : ℕ) (nodes : List (List (List ℕ))) (last : Key) (points : List RestartPoint) (takens : List (List LogEntry)) (feeds : List NodeFeed)
    → HaveReadFrom node nodes last points takens feeds
    → AllZip (λ (one : ℕ × NodeLog) (feed : NodeFeed). FeedsFrom (node_low_water_mark (reached one.1)) (node_branches last one) feed) (enumerate_from node (logs_read points takens)) feeds
fed node [] last [] [] [] are = tt
fed node (files ∷ nodes) last (point ∷ points) (taken ∷ takens) (feed ∷ feeds) (is, are) = (
  subst (λ (list : List LogEntry). FeedsBehind last (start_at point) node (reverse list) feed) (sym (taken_is_sound (start_at point) taken is.sound)) is.feeds,
  fed (node + 1) nodes last points takens feeds are,
)
fed node nodes last points takens feeds are = absurd are

-- and they have told the marks
told : (node : ℕ) (nodes : List (List (List ℕ))) (last : Key) (points : List RestartPoint) (takens : List (List LogEntry)) (feeds : List NodeFeed)
    → HaveReadFrom node nodes last points takens feeds → HaveReadAll nodes points takens feeds → AreToldOf (logs_read points takens) feeds
told node [] last [] [] [] are all = tt
told node (files ∷ nodes) last (point ∷ points) (taken ∷ takens) (feed ∷ feeds) (is, are) (has, all) = (
  subst (λ (list : List LogEntry). feed.bound ≡ low_behind (start_at point) (reverse list)) (sym (taken_is_sound (start_at point) taken is.sound)) has.bound,
  told (node + 1) nodes last points takens feeds are all,
)
told node nodes last points takens feeds are all = absurd are

-- ---- what was read, and the whole logs behind the points

-- the points of nodes, of which the first has this number
abbrev pub PointsFrom : Key → ℕ → List NodeLog → List RestartPoint → Type 0
PointsFrom last node logs points =
    AllZip (λ (one : ℕ × NodeLog) (point : RestartPoint). IsRestartPoint last first_point one.0 (sound_entries one.1.start one.1.entries) point) (enumerate_from node logs) points

-- a point of a log that is read whole
pub point_of_whole : (last : Key) (node : ℕ) (files : List (List ℕ)) (log : NodeLog) (point : RestartPoint) → IsReadWhole files log
    → IsRestartPoint last first_point node (sound_entries log.start log.entries) point → IsRestartPoint last first_point node (sound_entries (start_at first_point) log.entries) point
point_of_whole last node files log point whole is = subst (λ (s : Start). IsRestartPoint last first_point node (sound_entries s log.entries) point) whole.begins is

-- what a log has behind its point is what is read from there
pub read_behind : RestartPlaceReadsTheRest → (last : Key) (node : ℕ) (files : List (List ℕ)) (log : NodeLog) (point : RestartPoint) → (whole : IsReadWhole files log)
    → IsRestartPoint last first_point node (sound_entries log.start log.entries) point
    → AreEntriesReadFrom point.place point.checksum files (drop (point.entry - 1) log.entries) whole.fault
read_behind law last node files log point whole is =
    law last point node files log.entries log.entries whole.fault whole.read (front_itself (sound_entries (start_at first_point) log.entries))
    (point_of_whole last node files log point whole is)

one_grows : RestartPlaceReadsTheRest → (last : Key) (node : ℕ) (files : List (List ℕ)) (log : NodeLog) (point : RestartPoint) (taken : List LogEntry) (feed : NodeFeed)
    → IsReadWhole files log → IsRestartPoint last first_point node (sound_entries log.start log.entries) point → HasReadFrom files last point node taken feed
    → LogGrows (record { start = start_at point; entries = taken }) (log_behind first_point point log.entries)
one_grows law last node files log point taken feed whole is read = record {
  same_start = refl;
  front = subst (λ (list : List LogEntry). IsFront list (sound_entries (start_at point) (drop (point.entry - 1) log.entries)))
      (sym (taken_is_sound (start_at point) taken read.sound))
      (read.first (drop (point.entry - 1) log.entries) whole.fault (read_behind law last node files log point whole is));
}

pub logs_grow : RestartPlaceReadsTheRest → (last : Key) (node : ℕ) (nodes : List (List (List ℕ))) (logs : List NodeLog) (points : List RestartPoint) (takens : List (List LogEntry)) (feeds : List NodeFeed)
    → AllZip IsReadWhole nodes logs → PointsFrom last node logs points → HaveReadFrom node nodes last points takens feeds
    → LogsGrow (logs_read points takens) (logs_behind points logs)
logs_grow law last node [] [] [] [] [] whole are read = tt
logs_grow law last node (files ∷ nodes) (log ∷ logs) (point ∷ points) (taken ∷ takens) (feed ∷ feeds) (is_whole, whole) (is, are) (has, read) =
    (one_grows law last node files log point taken feed is_whole is has, logs_grow law last (node + 1) nodes logs points takens feeds whole are read)
logs_grow law last node [] (log ∷ logs) points takens feeds whole are read = absurd whole
logs_grow law last node (files ∷ nodes) [] points takens feeds whole are read = absurd whole
logs_grow law last node [] [] (point ∷ points) takens feeds whole are read = absurd read
logs_grow law last node [] [] [] (taken ∷ takens) feeds whole are read = absurd read
logs_grow law last node [] [] [] [] (feed ∷ feeds) whole are read = absurd read
logs_grow law last node (files ∷ nodes) (log ∷ logs) [] takens feeds whole are read = absurd are
logs_grow law last node (files ∷ nodes) (log ∷ logs) (point ∷ points) [] feeds whole are read = absurd read
logs_grow law last node (files ∷ nodes) (log ∷ logs) (point ∷ points) (taken ∷ takens) [] whole are read = absurd read

-- what was read to its end is all that stands behind the point
pub all_behind : RestartPlaceReadsTheRest → (last : Key) (node : ℕ) (files : List (List ℕ)) (log : NodeLog) (point : RestartPoint) (taken : List LogEntry) (feed : NodeFeed)
    → IsReadWhole files log → IsRestartPoint last first_point node (sound_entries log.start log.entries) point → HasReadAll files point taken feed
    → sound_entries (start_at point) (drop (point.entry - 1) log.entries) ≡ taken
all_behind law last node files log point taken feed whole is has =
    (has.read (drop (point.entry - 1) log.entries) whole.fault (read_behind law last node files log point whole is)).0

one_shrinks : RestartPlaceReadsTheRest → (last : Key) (node : ℕ) (files : List (List ℕ)) (log : NodeLog) (point : RestartPoint) (taken : List LogEntry) (feed : NodeFeed)
    → IsReadWhole files log → IsRestartPoint last first_point node (sound_entries log.start log.entries) point → HasReadFrom files last point node taken feed
    → HasReadAll files point taken feed → LogGrows (log_behind first_point point log.entries) (record { start = start_at point; entries = taken })
one_shrinks law last node files log point taken feed whole is read has = record {
  same_start = refl;
  front = front_same (sound_entries (start_at point) (drop (point.entry - 1) log.entries)) (sound_entries (start_at point) taken)
      (all_behind law last node files log point taken feed whole is has ∙ sym (taken_is_sound (start_at point) taken read.sound));
}

logs_shrink : RestartPlaceReadsTheRest → (last : Key) (node : ℕ) (nodes : List (List (List ℕ))) (logs : List NodeLog) (points : List RestartPoint) (takens : List (List LogEntry)) (feeds : List NodeFeed)
    → AllZip IsReadWhole nodes logs → PointsFrom last node logs points → HaveReadFrom node nodes last points takens feeds → HaveReadAll nodes points takens feeds
    → LogsGrow (logs_behind points logs) (logs_read points takens)
logs_shrink law last node [] [] [] [] [] whole are read all = tt
logs_shrink law last node (files ∷ nodes) (log ∷ logs) (point ∷ points) (taken ∷ takens) (feed ∷ feeds) (is_whole, whole) (is, are) (has, read) (has_all, all) =
    (one_shrinks law last node files log point taken feed is_whole is has has_all, logs_shrink law last (node + 1) nodes logs points takens feeds whole are read all)
logs_shrink law last node [] (log ∷ logs) points takens feeds whole are read all = absurd whole
logs_shrink law last node (files ∷ nodes) [] points takens feeds whole are read all = absurd whole
logs_shrink law last node [] [] (point ∷ points) takens feeds whole are read all = absurd read
logs_shrink law last node [] [] [] (taken ∷ takens) feeds whole are read all = absurd read
logs_shrink law last node [] [] [] [] (feed ∷ feeds) whole are read all = absurd read
logs_shrink law last node (files ∷ nodes) (log ∷ logs) [] takens feeds whole are read all = absurd are
logs_shrink law last node (files ∷ nodes) (log ∷ logs) (point ∷ points) [] feeds whole are read all = absurd read
logs_shrink law last node (files ∷ nodes) (log ∷ logs) (point ∷ points) (taken ∷ takens) [] whole are read all = absurd read

-- ---- the order

all_whole : (nodes : List (List (List ℕ))) (logs : List NodeLog) → AllZip IsReadWhole nodes logs → AreWhole logs
all_whole [] [] whole = tt
all_whole [] (log ∷ logs) whole = absurd whole
all_whole (files ∷ nodes) [] whole = absurd whole
all_whole (files ∷ nodes) (log ∷ logs) (is, whole) = (is.begins, all_whole nodes logs whole)

-- logs go on as they are
still : (logs : List NodeLog) → LogsGrow logs logs
still [] = tt
still (log ∷ logs) = (record { same_start = refl; front = front_itself (sound_entries log.start log.entries) }, still logs)

-- what stands behind the points is the rest of the order
pub gives_the_rest : (plan : OutputPlan) (nodes : List (List (List ℕ))) (logs : List NodeLog) (count : ℕ) (last : Key) (points : List RestartPoint)
    → AllZip IsReadWhole nodes logs → GoesOnBehind plan logs count last points → GivesTheRest plan.rules count last logs (logs_behind points logs)
gives_the_rest plan nodes logs count last points whole behind =
    subst (λ (key : Key). GivesTheRest plan.rules count key logs (logs_behind points logs)) (sym behind.key)
    (restart_gives_the_rest plan.rules count logs logs points (all_whole nodes logs whole) (still logs) behind.within
    (subst (λ (key : Key). PointsFrom key 1 logs points) behind.key behind.restart))

-- ---- the laws

pub readings_are_feeds : ReadingsAreFeeds
readings_are_feeds nodes last points takens feeds read = (fed 1 nodes last points takens feeds read, told 1 nodes last points takens feeds read)

pub readings_settle_the_next : RestartPlaceReadsTheRest → ReadingsSettleTheNext
readings_settle_the_next law plan nodes logs count last points takens feeds reads =
    let read : List NodeLog = logs_read points takens in
    let grown = settled_order_grows plan.rules count last read (logs_behind points logs)
    (logs_grow law last 1 nodes logs points takens feeds reads.whole reads.behind.restart reads.read) in
    let rest = gives_the_rest plan nodes logs count last points reads.whole reads.behind in
    record {
      front = subst (λ (list : List Transaction). IsFront (settled_transactions plan.rules count last read) list) rest.settled grown.settled;
      oversized = λ txn is. let stays = grown.oversized txn is in (sym rest.oversized ∙ stays.0, sym stays.1 ∙ rest.settled);
    }

pub readings_of_all_settle_all : RestartPlaceReadsTheRest → ReadingsOfAllSettleAll
readings_of_all_settle_all law plan nodes logs count last points takens feeds reads all =
    let read : List NodeLog = logs_read points takens in
    let behind : List NodeLog = logs_behind points logs in
    let forth = settled_order_grows plan.rules count last read behind
    (logs_grow law last 1 nodes logs points takens feeds reads.whole reads.behind.restart reads.read) in
    let back = settled_order_grows plan.rules count last behind read
    (logs_shrink law last 1 nodes logs points takens feeds reads.whole reads.behind.restart reads.read all) in
    let rest = gives_the_rest plan nodes logs count last points reads.whole reads.behind in
    let order = fronts_of_each (ordered_transactions count last read) (ordered_transactions count last behind) forth.ordered back.ordered in
    record {
      all = fronts_of_each (settled_transactions plan.rules count last read) (settled_transactions plan.rules count last behind) forth.settled back.settled ∙ rest.settled;
      oversized = ap (find (is_oversized plan.rules)) order ∙ rest.oversized;
    }
