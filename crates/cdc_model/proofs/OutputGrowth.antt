-- The settled transactions of logs that go on, and the output files of more transactions.
use Rattle.std.proofs.Common.{◌≡◌, ◌≤◌, ℕ, ◌+◌, leb, Bool, true, false, if◌then◌else◌, List, [], ◌∷◌, ◌++◌, length, append_assoc, append-nil, map, find, Option, Some, None, ap, sym, subst, refl, ◌∙◌}
use Rattle.std.specs.List.{AllByRecursion, AllZip, flat_map, enumerate_from, before_first}
use Rattle.std.proofs.lemmas.Bool.{le-ltb, lt-leb}
use Rattle.cdc_base.specs.declared.key.Key.{Key}
use Rattle.cdc_base.specs.declared.key.Key.TheVariants.{Shared, Plain as PlainKey}
use Rattle.cdc_base.specs.declared.rename.Rename.{Rename}
use Rattle.cdc_base.specs.Key.{first_key}
use Rattle.cdc_model.specs.declared.node_log.NodeLog.{NodeLog}
use Rattle.cdc_model.specs.Records.{CommittedBranch, Transaction}
use Rattle.cdc_model.specs.Log.{Continues, IsLogPrefix}
use Rattle.cdc_model.specs.Watermark.{low_water_mark, node_low_water_mark}
use Rattle.cdc_model.specs.Soundness.{reached}
use Rattle.cdc_model.specs.Branch.{is_settled}
use Rattle.cdc_model.specs.Print.{printed_bytes, printed_length}
use Rattle.cdc_model.specs.Transaction.{node_branches, logs_low_water_mark, ordered_transactions, is_oversized, settled_transactions, oversized_transaction}
use Rattle.cdc_model.specs.Output.{Output, no_output, output_with, output_after, file_head, file_begun, rotate_event, open_file, files_in, files_of, last_place, prints_within, first_beyond, one_file, some_or}
use Rattle.cdc_model.specs.SettledOrder.{IsFront, transactions_under}
use Rattle.cdc_model.specs.Feed.{NodeFeed, FeedGrows, merged_transactions, fed_branches}
use Rattle.cdc_model.specs.Growth.{LogGrows, LogsGrow, LiesAbove, LeastMarkRises, SettledOrderGrows, OutputOfMoreGoesOn, OutputOnlyGrows}
use Rattle.cdc_model.proofs.LogPrefix.{log_prefix_is_an_order, grown_log_continues}
use Rattle.cdc_model.proofs.Files.{after_append}
use Rattle.cdc_model.proofs.OrderCut.{first_passes, first_fails, found_at, found_later}
use Rattle.cdc_model.proofs.FeedLaws.{later_feeds_go_on, lowest_lower}
use Rattle.cdc_model.proofs.SoundGrowth.{low_water_mark_rises}

-- ---- a log is a feed that has told all

pub unsettled : (mark : ℕ) (key : Key) → LiesAbove mark key → is_settled mark key ≡ false
unsettled mark (Shared timestamp gtrid) above = lt-leb timestamp mark above
unsettled mark (PlainKey timestamp node entry) above = le-ltb timestamp mark above

pub all_unsettled : (mark : ℕ) (branches : List CommittedBranch) → AllByRecursion (λ (branch : CommittedBranch). LiesAbove mark branch.key) branches
    → AllByRecursion (λ (branch : CommittedBranch). is_settled mark branch.key ≡ false) branches
all_unsettled mark [] all = tt
all_unsettled mark (branch ∷ branches) (here, all) = (unsettled mark branch.key here, all_unsettled mark branches all)

abbrev feed_of_log : Key → ℕ × NodeLog → NodeFeed
feed_of_log last node = record { branches = node_branches last node; bound = node_low_water_mark (reached node.1) }

abbrev feeds_of_logs : Key → ℕ → List NodeLog → List NodeFeed
feeds_of_logs last number logs = map (feed_of_log last) (enumerate_from number logs)

pub feed_grows : (last : Key) (node : ℕ) (old new : NodeLog) → LogGrows old new → FeedGrows (feed_of_log last (node, old)) (feed_of_log last (node, new))
feed_grows last node old new grows =
    let rises = low_water_mark_rises last node old new grows in
    record {
      more = rises.more;
      goes_on = rises.goes_on;
      above = all_unsettled (node_low_water_mark (reached old)) rises.more rises.above;
      bounded = rises.low;
    }

pub feeds_grow : (last : Key) (number : ℕ) (olds news : List NodeLog) → LogsGrow olds news → AllZip FeedGrows (feeds_of_logs last number olds) (feeds_of_logs last number news)
feeds_grow last number [] [] all = tt
feeds_grow last number [] (new ∷ news) all = absurd all
feeds_grow last number (old ∷ olds) [] all = absurd all
feeds_grow last number (old ∷ olds) (new ∷ news) (here, all) = (feed_grows last number old new here, feeds_grow last (number + 1) olds news all)

pub marks_of_feeds : (last : Key) (number : ℕ) (logs : List NodeLog)
    → map (λ (feed : NodeFeed). feed.bound) (feeds_of_logs last number logs) ≡ map (λ log. node_low_water_mark (reached log)) logs
marks_of_feeds last number [] = refl
marks_of_feeds last number (log ∷ logs) = ap (λ (list : List ℕ). node_low_water_mark (reached log) ∷ list) (marks_of_feeds last (number + 1) logs)

pub branches_of_feeds : (last : Key) (number : ℕ) (logs : List NodeLog)
    → fed_branches (feeds_of_logs last number logs) ≡ flat_map (node_branches last) (enumerate_from number logs)
branches_of_feeds last number [] = refl
branches_of_feeds last number (log ∷ logs) = ap (λ (list : List CommittedBranch). node_branches last (number, log) ++ list) (branches_of_feeds last (number + 1) logs)

pub merged_of_logs : (count : ℕ) (last : Key) (logs : List NodeLog) → merged_transactions count (feeds_of_logs last 1 logs) ≡ ordered_transactions count last logs
merged_of_logs count last logs =
    ap (λ (marks : List ℕ). transactions_under count (low_water_mark marks) (fed_branches (feeds_of_logs last 1 logs))) (marks_of_feeds last 1 logs)
    ∙ ap (transactions_under count (logs_low_water_mark logs)) (branches_of_feeds last 1 logs)

pub ordered_grow : (count : ℕ) (last : Key) (olds news : List NodeLog) → LogsGrow olds news
    → IsFront (ordered_transactions count last olds) (ordered_transactions count last news)
ordered_grow count last olds news grow =
    subst (λ (list : List Transaction). IsFront list (ordered_transactions count last news)) (merged_of_logs count last olds)
    (subst (IsFront (merged_transactions count (feeds_of_logs last 1 olds))) (merged_of_logs count last news)
    (later_feeds_go_on count (feeds_of_logs last 1 olds) (feeds_of_logs last 1 news) (feeds_grow last 1 olds news grow)))

pub marks_grow : (olds news : List NodeLog) → LogsGrow olds news
    → AllZip (λ (low high : ℕ). low ≤ high) (map (λ log. node_low_water_mark (reached log)) olds) (map (λ log. node_low_water_mark (reached log)) news)
marks_grow [] [] all = tt
marks_grow [] (new ∷ news) all = absurd all
marks_grow (old ∷ olds) [] all = absurd all
marks_grow (old ∷ olds) (new ∷ news) (here, all) = ((low_water_mark_rises first_key 0 old new here).low, marks_grow olds news all)

pub least_mark_rises : LeastMarkRises
least_mark_rises olds news grow =
    lowest_lower (map (λ log. node_low_water_mark (reached log)) olds) (map (λ log. node_low_water_mark (reached log)) news) (marks_grow olds news grow)

-- ---- before the first that passes a test

pub before_front : {X : Type 0} (test : X → Bool) (xs rest : List X) → IsFront (before_first test xs) (before_first test (xs ++ rest))
before_front test [] rest = record { rest = before_first test rest; is = refl }
before_front {X} test (x ∷ xs) rest = by (test x) refl (before_front test xs rest)
  where
    by : (passes : Bool) → test x ≡ passes → IsFront (before_first test xs) (before_first test (xs ++ rest))
        → IsFront (before_first test (x ∷ xs)) (before_first test (x ∷ (xs ++ rest)))
    by true is later = record { rest = []; is = first_passes test x (xs ++ rest) is ∙ sym (append-nil []) ∙ ap (λ (list : List X). list ++ []) (sym (first_passes test x xs is)) }
    by false is later = record {
      rest = later.rest;
      is = first_fails test x (xs ++ rest) is ∙ ap (λ (list : List X). x ∷ list) later.is
          ∙ ap (λ (list : List X). list ++ later.rest) (sym (first_fails test x xs is));
    }

-- where one passes, it is found in front of all that follows, and nothing behind it counts
pub found_stays : {X : Type 0} (test : X → Bool) (xs rest : List X) (x : X) → find test xs ≡ Some x
    → (find test (xs ++ rest) ≡ Some x) × (before_first test (xs ++ rest) ≡ before_first test xs)
found_stays test [] rest x found = absurd (cc)
found_stays {X} test (first ∷ xs) rest x found = by (test first) refl (found_stays test xs rest x)
  where
    by : (passes : Bool) → test first ≡ passes → (find test xs ≡ Some x → (find test (xs ++ rest) ≡ Some x) × (before_first test (xs ++ rest) ≡ before_first test xs))
        → (find test (first ∷ (xs ++ rest)) ≡ Some x) × (before_first test (first ∷ (xs ++ rest)) ≡ before_first test (first ∷ xs))
    by true is later = (
      found_at test first (xs ++ rest) is ∙ sym (found_at test first xs is) ∙ found,
      first_passes test first (xs ++ rest) is ∙ sym (first_passes test first xs is),
    )
    by false is later =
        let behind = later (sym (found_later test first xs is) ∙ found) in (
          found_later test first (xs ++ rest) is ∙ behind.0,
          first_fails test first (xs ++ rest) is ∙ ap (λ (list : List X). first ∷ list) behind.1 ∙ sym (first_fails test first xs is),
        )

pub settled_order_grows : SettledOrderGrows
settled_order_grows rules count last olds news grow =
    let ordered = ordered_grow count last olds news grow in
    let test = is_oversized rules in
    let old = ordered_transactions count last olds in
    record {
      ordered = ordered;
      settled = subst (λ (list : List Transaction). IsFront (before_first test old) (before_first test list)) (sym ordered.is) (before_front test old ordered.rest);
      oversized = λ txn found.
          let stays = found_stays test old ordered.rest txn found in
          (ap (find test) ordered.is ∙ stays.0, ap (before_first test) ordered.is ∙ stays.1);
    }

-- ---- the output of more transactions

pub behind_files : (files further : List (List ℕ)) → IsLogPrefix files (files ++ further)
behind_files [] further = tt
behind_files (file ∷ []) further = ([], sym (append-nil file))
behind_files (file ∷ next ∷ files) further = (refl, behind_files (next ∷ files) further)

-- the open file grows, and others come behind it
pub grows_open : (closed : List (List ℕ)) (byte : ℕ) (bytes more : List ℕ) (further : List (List ℕ))
    → IsLogPrefix (closed ++ open_file (byte ∷ bytes)) (closed ++ ((byte ∷ bytes) ++ more) ∷ further)
grows_open closed byte bytes more further = grown_log_continues closed (byte ∷ bytes) more further

-- an output that is closed or not
abbrev output_by : Bool → List (List ℕ) → List ℕ → Output
output_by full closed file =
    if full then record { closed = closed ++ (file ++ rotate_event (length file) (length closed + 2)) ∷ []; current = [] }
    else record { closed = closed; current = file }

pub step_grows_by : (full : Bool) (closed : List (List ℕ)) (current printed : List ℕ)
    → IsLogPrefix (closed ++ open_file current) (files_in (output_by full closed (file_begun current ++ printed)))
step_grows_by true closed [] printed =
    subst (λ (files : List (List ℕ)). IsLogPrefix files (files_in (output_by true closed (file_head ++ printed)))) (sym (append-nil closed))
    (subst (IsLogPrefix closed) (sym (append-nil (closed ++ ((file_head ++ printed) ++ rotate_event (length (file_head ++ printed)) (length closed + 2)) ∷ [])))
    (behind_files closed (((file_head ++ printed) ++ rotate_event (length (file_head ++ printed)) (length closed + 2)) ∷ [])))
step_grows_by false closed [] printed =
    subst (λ (files : List (List ℕ)). IsLogPrefix files (closed ++ open_file (file_head ++ printed))) (sym (append-nil closed))
    (behind_files closed (open_file (file_head ++ printed)))
step_grows_by true closed (byte ∷ bytes) printed =
    let file : List ℕ = (byte ∷ bytes) ++ printed in
    let rotated : List ℕ = rotate_event (length file) (length closed + 2) in
    subst (IsLogPrefix (closed ++ open_file (byte ∷ bytes)))
    (ap (λ (list : List ℕ). closed ++ list ∷ []) (sym (append_assoc (byte ∷ bytes) printed rotated)) ∙ sym (append-nil (closed ++ (file ++ rotated) ∷ [])))
    (grows_open closed byte bytes (printed ++ rotated) [])
step_grows_by false closed (byte ∷ bytes) printed = grows_open closed byte bytes printed []

pub step_grows : (rules : List Rename) (rotation : ℕ) (output : Output) (txn : Transaction) → IsLogPrefix (files_in output) (files_in (output_with rules rotation output txn))
step_grows rules rotation output txn =
    let printed : List ℕ = printed_bytes rules txn (length (file_begun output.current)) in
    step_grows_by (leb rotation (length (file_begun output.current ++ printed))) output.closed output.current printed

pub steps_grow : (rules : List Rename) (rotation : ℕ) (output : Output) (txns : List Transaction) → IsLogPrefix (files_in output) (files_in (output_after rules rotation output txns))
steps_grow rules rotation output [] = log_prefix_is_an_order.0 (files_in output)
steps_grow rules rotation output (txn ∷ txns) =
    log_prefix_is_an_order.1 (files_in output) (files_in (output_with rules rotation output txn)) (files_in (output_after rules rotation (output_with rules rotation output txn) txns))
    (step_grows rules rotation output txn) (steps_grow rules rotation (output_with rules rotation output txn) txns)

-- ---- the one file

pub within_by : (at : ℕ) (txn : Transaction) (txns : List Transaction) (fits : Bool) → leb (at + printed_length [] txn) last_place ≡ fits
    → prints_within at (txn ∷ txns) ≡ (if fits then printed_bytes [] txn at ++ prints_within (at + printed_length [] txn) txns else [])
within_by at txn txns fits is = ap (λ (b : Bool). if b then printed_bytes [] txn at ++ prints_within (at + printed_length [] txn) txns else []) is

pub beyond_by : (at : ℕ) (txn : Transaction) (txns : List Transaction) (fits : Bool) → leb (at + printed_length [] txn) last_place ≡ fits
    → first_beyond at (txn ∷ txns) ≡ (if fits then first_beyond (at + printed_length [] txn) txns else Some txn)
beyond_by at txn txns fits is = ap (λ (b : Bool). if b then first_beyond (at + printed_length [] txn) txns else Some txn) is

pub within_grows : (at : ℕ) (txns rest : List Transaction) → Continues (prints_within at txns) (prints_within at (txns ++ rest))
within_grows at [] rest = (prints_within at rest, refl)
within_grows at (txn ∷ txns) rest = by (leb (at + printed_length [] txn) last_place) refl (within_grows (at + printed_length [] txn) txns rest)
  where
    by : (fits : Bool) → leb (at + printed_length [] txn) last_place ≡ fits
        → Continues (prints_within (at + printed_length [] txn) txns) (prints_within (at + printed_length [] txn) (txns ++ rest))
        → Continues (prints_within at (txn ∷ txns)) (prints_within at (txn ∷ (txns ++ rest)))
    by true is (more, later) = (
      more,
      within_by at txn (txns ++ rest) true is ∙ ap (λ (bytes : List ℕ). printed_bytes [] txn at ++ bytes) later
          ∙ sym (append_assoc (printed_bytes [] txn at) (prints_within (at + printed_length [] txn) txns) more)
          ∙ ap (λ (bytes : List ℕ). bytes ++ more) (sym (within_by at txn txns true is)),
    )
    by false is later = (
      [],
      within_by at txn (txns ++ rest) false is ∙ sym (within_by at txn txns false is) ∙ sym (append-nil (prints_within at (txn ∷ txns))),
    )

pub beyond_stays : (at : ℕ) (txns rest : List Transaction) (txn : Transaction) → first_beyond at txns ≡ Some txn
    → (first_beyond at (txns ++ rest) ≡ Some txn) × (prints_within at (txns ++ rest) ≡ prints_within at txns)
beyond_stays at [] rest txn is = absurd (cc)
beyond_stays at (first ∷ txns) rest txn found = by (leb (at + printed_length [] first) last_place) refl (beyond_stays (at + printed_length [] first) txns rest txn)
  where
    by : (fits : Bool) → leb (at + printed_length [] first) last_place ≡ fits
        → (first_beyond (at + printed_length [] first) txns ≡ Some txn
        → (first_beyond (at + printed_length [] first) (txns ++ rest) ≡ Some txn)
        × (prints_within (at + printed_length [] first) (txns ++ rest) ≡ prints_within (at + printed_length [] first) txns))
        → (first_beyond at (first ∷ (txns ++ rest)) ≡ Some txn) × (prints_within at (first ∷ (txns ++ rest)) ≡ prints_within at (first ∷ txns))
    by true is later =
        let behind = later (sym (beyond_by at first txns true is) ∙ found) in (
          beyond_by at first (txns ++ rest) true is ∙ behind.0,
          within_by at first (txns ++ rest) true is ∙ ap (λ (bytes : List ℕ). printed_bytes [] first at ++ bytes) behind.1 ∙ sym (within_by at first txns true is),
        )
    by false is later = (
      beyond_by at first (txns ++ rest) false is ∙ sym (beyond_by at first txns false is) ∙ found,
      within_by at first (txns ++ rest) false is ∙ sym (within_by at first txns false is),
    )

pub one_file_grows : (txns rest : List Transaction) → Continues (one_file txns) (one_file (txns ++ rest))
one_file_grows [] rest = (one_file rest, refl)
one_file_grows (txn ∷ txns) rest =
    let grows = within_grows (length file_head) (txn ∷ txns) rest in (
      grows.0,
      ap (λ (bytes : List ℕ). file_head ++ bytes) grows.1 ∙ sym (append_assoc file_head (prints_within (length file_head) (txn ∷ txns)) grows.0),
    )

-- the one file ends where it did
pub one_file_stays : (txns rest : List Transaction) (txn : Transaction) → first_beyond (length file_head) txns ≡ Some txn → one_file (txns ++ rest) ≡ one_file txns
one_file_stays [] rest txn is = absurd (cc)
one_file_stays (first ∷ txns) rest txn is =
    ap (λ (bytes : List ℕ). file_head ++ bytes) (beyond_stays (length file_head) (first ∷ txns) rest txn is).1

pub output_of_more_goes_on : OutputOfMoreGoesOn
output_of_more_goes_on rules rotation txns more front = record {
  files =
      subst (λ (output : Output). IsLogPrefix (files_of rules rotation txns) (files_in output))
      (sym (ap (output_after rules rotation no_output) front.is ∙ after_append rules rotation no_output txns front.rest))
      (steps_grow rules rotation (output_after rules rotation no_output txns) front.rest);
  whole = subst (λ (list : List Transaction). Continues (one_file txns) (one_file list)) (sym front.is) (one_file_grows txns front.rest);
}

-- the transaction that ends the one file stays
pub ends_stay : (old new : List Transaction) (front : IsFront old new) (over later : Option Transaction)
    → ((txn : Transaction) → over ≡ Some txn → (later ≡ Some txn) × (new ≡ old)) → (beyond : Option Transaction) → first_beyond (length file_head) old ≡ beyond
    → (txn : Transaction) → some_or beyond over ≡ Some txn → (some_or (first_beyond (length file_head) new) later ≡ Some txn) × (one_file new ≡ one_file old)
ends_stay old new front over later stays (Some other) is txn found =
    let kept = beyond_stays (length file_head) old front.rest other is in (
      ap (λ (o : Option Transaction). some_or o later) (ap (first_beyond (length file_head)) front.is ∙ kept.0) ∙ found,
      ap one_file front.is ∙ one_file_stays old front.rest other is,
    )
ends_stay old new front over later stays None is txn found =
    let kept = stays txn found in (
      ap (λ (list : List Transaction). some_or (first_beyond (length file_head) list) later) kept.1
          ∙ ap (λ (o : Option Transaction). some_or o later) is ∙ kept.0,
      ap one_file kept.1,
    )

pub output_only_grows : OutputOnlyGrows
output_only_grows rules rotation olds news grow =
    let renamed = settled_order_grows rules 0 first_key olds news grow in
    let plain = settled_order_grows [] 0 first_key olds news grow in
    let old = settled_transactions [] 0 first_key olds in
    let new = settled_transactions [] 0 first_key news in
    record {
      files = (output_of_more_goes_on rules rotation (settled_transactions rules 0 first_key olds) (settled_transactions rules 0 first_key news) renamed.settled).files;
      whole = (output_of_more_goes_on [] 0 old new plain.settled).whole;
      beyond =
          ends_stay old new plain.settled (oversized_transaction [] 0 first_key olds) (oversized_transaction [] 0 first_key news) plain.oversized
          (first_beyond (length file_head) old) refl;
    }
