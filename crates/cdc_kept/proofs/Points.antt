-- Restart points lie in their logs, so that no log ends before them.
use Rattle.std.proofs.Common.{◌≡◌, ◌<◌, inl, inr, ℕ, zero, suc, ◌+◌, ◌-◌, List, [], ◌∷◌, ◌++◌, append_assoc, length, take, take-append-drop, drop, reverse, map, Some, slice_get, ap, sym, subst, refl, ◌∙◌, arith}
use Rattle.std.specs.List.{AllZip}
use Rattle.cdc_base.specs.declared.key.Key.{Key}
use Rattle.cdc_base.specs.declared.place.Place.{Place}
use Rattle.cdc_model.specs.declared.node_log.NodeLog.{NodeLog}
use Rattle.cdc_model.specs.Records.{LogEntry}
use Rattle.cdc_model.specs.Soundness.{sound_entries}
use Rattle.cdc_model.specs.Entries.{AreLogEntries}
use Rattle.cdc_model.specs.Growth.{IsReadWhole}
use Rattle.cdc_model.specs.Restart.{RestartPoint, first_point, point_behind, IsRestartPoint, StartIsRestartPoint}
use Rattle.cdc_model.proofs.SoundFront.{sound_is_longest}
use Rattle.cdc_model.proofs.RestartRest.{Last, none, some, last_of}
use Rattle.cdc_content.proofs.Behind.{PointsFrom}
use Rattle.cdc_opening.specs.OpenSources.{LiesPast, EndsBeforePlace}
use Rattle.cdc_kept.proofs.Places.{LiesIn, entry_lies_in}

-- ---- one log

-- an entry among the first of a log's sound entries, among all of the log
sound_in_log : (count : ℕ) (entries sound rest front : List LogEntry) (entry : LogEntry) → entries ≡ sound ++ rest → take count sound ≡ front ++ entry ∷ []
    → entries ≡ front ++ entry ∷ (drop count sound ++ rest)
sound_in_log count entries sound rest front entry is order =
    let parts : sound ≡ front ++ entry ∷ drop count sound =
    sym (take-append-drop count sound)
    ∙ (ap (λ (list : List LogEntry). list ++ drop count sound) order ∙ append_assoc front (entry ∷ []) (drop count sound)) in
    is ∙ (ap (λ (list : List LogEntry). list ++ rest) parts ∙ append_assoc front (entry ∷ drop count sound) rest)

-- a restart point of a log that isn't its start lies in it
point_lies_in : (last : Key) (node : ℕ) (files : List (List ℕ)) (log : NodeLog) (point : RestartPoint)
    → IsReadWhole files log → IsRestartPoint last first_point node (sound_entries log.start log.entries) point → 1 < point.entry → LiesIn files point.place
point_lies_in last node files log point whole is later = by (last_of (take (point.entry - 1) sound))
  where
    sound : List LogEntry
    sound = sound_entries log.start log.entries

    by : Last (take (point.entry - 1) sound) → LiesIn files point.place
    by (none empty) =
        let start : point ≡ first_point = is.parts ∙ ap (λ (list : List LogEntry). point_behind first_point (reverse list)) empty in
        absurd (omega (arith, later, ap (λ (p : RestartPoint). p.entry) start))
    by (some front entry order turned) =
        let longest = sound_is_longest log.start log.entries in
        let here : point ≡ point_behind first_point (entry ∷ reverse front) = is.parts ∙ ap (point_behind first_point) turned in
        let all : log.entries ≡ front ++ entry ∷ (drop (point.entry - 1) sound ++ longest.rest) =
        sound_in_log (point.entry - 1) log.entries sound longest.rest front entry longest.front order in
        subst (λ (p : RestartPoint). LiesIn files p.place) (sym here)
        (entry_lies_in files front entry (drop (point.entry - 1) sound ++ longest.rest) whole.fault
        (subst (λ (list : List LogEntry). AreLogEntries files list whole.fault) all whole.read))

-- what lies in a log doesn't lie past its end
not_past : (files : List (List ℕ)) (place : Place) → LiesIn files place → LiesPast files place → ⊥
not_past files place lies (inl over) = omega (arith, over, lies.file)
not_past files place lies (inr (upto, over)) = omega (arith, over, lies.at)

-- a log doesn't end before its restart point
not_before : (last : Key) (node : ℕ) (files : List (List ℕ)) (log : NodeLog) (point : RestartPoint)
    → IsReadWhole files log → IsRestartPoint last first_point node (sound_entries log.start log.entries) point → EndsBeforePlace files point → ⊥
not_before last node files log point whole is ends =
    not_past files point.place (point_lies_in last node files log point whole is ends.behind_start) ends.past

-- ---- the logs of all nodes

-- no log ends before its restart point
pub none_ends_before : (last : Key) (node : ℕ) (nodes : List (List (List ℕ))) (logs : List NodeLog) (points : List RestartPoint) (at : ℕ) (files : List (List ℕ)) (point : RestartPoint)
    → AllZip IsReadWhole nodes logs → PointsFrom last node logs points
    → slice_get nodes at ≡ Some files → slice_get points at ≡ Some point → EndsBeforePlace files point → ⊥
none_ends_before last node [] logs points at files point whole are own its ends = absurd (let e = own in cc)
none_ends_before last node (log_files ∷ nodes) [] points at files point whole are own its ends = absurd whole
none_ends_before last node (log_files ∷ nodes) (log ∷ logs) [] at files point whole are own its ends = absurd are
none_ends_before last node (log_files ∷ nodes) (log ∷ logs) (first ∷ points) zero files point (is_whole, whole) (is, are) own its ends =
    let files_are : log_files ≡ files = cc in
    let point_is : first ≡ point = cc in
    not_before last node log_files log first is_whole is
    (subst (λ (p : RestartPoint). EndsBeforePlace log_files p) (sym point_is) (subst (λ (f : List (List ℕ)). EndsBeforePlace f point) (sym files_are) ends))
none_ends_before last node (log_files ∷ nodes) (log ∷ logs) (first ∷ points) (suc at) files point (is_whole, whole) (is, are) own its ends =
    none_ends_before last (node + 1) nodes logs points at files point whole are own its ends

-- there are as many restart points as logs
pub as_many_points : (last : Key) (node : ℕ) (logs : List NodeLog) (points : List RestartPoint) → PointsFrom last node logs points → length points ≡ length logs
as_many_points last node [] [] are = refl
as_many_points last node [] (point ∷ points) are = absurd are
as_many_points last node (log ∷ logs) [] are = absurd are
as_many_points last node (log ∷ logs) (point ∷ points) (is, are) = ap suc (as_many_points last (node + 1) logs points are)

-- and as many logs as nodes
pub as_many_logs : (nodes : List (List (List ℕ))) (logs : List NodeLog) → AllZip IsReadWhole nodes logs → length nodes ≡ length logs
as_many_logs [] [] whole = refl
as_many_logs [] (log ∷ logs) whole = absurd whole
as_many_logs (files ∷ nodes) [] whole = absurd whole
as_many_logs (files ∷ nodes) (log ∷ logs) (is, whole) = ap suc (as_many_logs nodes logs whole)

-- the starts of all logs are restart points, whatever the key
pub starts_are_points : StartIsRestartPoint → (last : Key) (node : ℕ) (nodes : List (List (List ℕ))) (logs : List NodeLog)
    → AllZip IsReadWhole nodes logs → PointsFrom last node logs (map (λ (files : List (List ℕ)). first_point) nodes)
starts_are_points law last node [] [] whole = tt
starts_are_points law last node [] (log ∷ logs) whole = absurd whole
starts_are_points law last node (files ∷ nodes) [] whole = absurd whole
starts_are_points law last node (files ∷ nodes) (log ∷ logs) (is, whole) =
    (law last first_point node (sound_entries log.start log.entries), starts_are_points law last (node + 1) nodes logs whole)
