-- How answers to dumps follow their definition, and that an image has one shelf.
use Rattle.std.proofs.Common.{◌≡◌, ℕ, ◌%◌, ◌≢◌, length, List, [], ◌∷◌, ◌++◌, refl, sym, ◌∙◌, ap, subst, arith, inl, inr, append-nil}
use Rattle.std.specs.Prelude.{Bool, true, false, not, ◌==◌, if◌then◌else◌, Option, Some, None, Result, Ok, Err, MatchOption}
use Rattle.std.proofs.lemmas.Bool.Decides.{eqb_tells}
use Rattle.cdc_outside.specs.declared.disk_file.DiskFile.{DiskFile}
use Rattle.cdc_outside.specs.declared.disk_file.DiskFile.TheVariants.{Log}
use Rattle.cdc_outside.specs.Disk.{Image}
use Rattle.cdc_cell.specs.Record.{CellRecord, kept_record}
use Rattle.cdc_outside.specs.Sink.{WritesTo}
use Rattle.cdc_records.specs.declared.front.Front.{Front}
use Rattle.cdc_records.specs.Front.{HasFront, IsFrontRecord, no_front as no_front_yet}
use Rattle.cdc_recovery.proofs.OneCount.{image_has_one_front}
use Rattle.cdc_dumper.specs.declared.fault.OpenFault.{OpenFault}
use Rattle.cdc_dumper.specs.declared.fault.OpenFault.TheVariants as open_fault
use Rattle.cdc_dumper.specs.Opening.{IsFound, IsOpenFault, IsRefused, FileIsShort}
use Rattle.cdc_index.specs.Chain.{is_whole_file, is_boundary_of}
use Rattle.cdc_session.specs.declared.dump_stop.DumpStop.{DumpStop}
use Rattle.cdc_session.specs.declared.dump_stop.DumpStop.TheVariants as stop
use Rattle.cdc_session.specs.declared.session_end.SessionEnd.{SessionEnd}
use Rattle.cdc_session.specs.declared.session_end.SessionEnd.TheVariants.{Closed, Kept, Torn}
use Rattle.cdc_session.specs.Shelf.{PublishedFile, Shelf, IsShelf, shelf_files}
use Rattle.cdc_session.specs.Dump.{dump_payloads, are_whole}
use Rattle.cdc_session.specs.Ends.{session_end_by, refused_by, end_payloads}
use Rattle.cdc_session.specs.Packing.{Packed, Breaks}
use Rattle.cdc_session.specs.Reply.{Answer, goes_on, ends_with, dumped, dump_answer, shelf_answer, no_place_payload, no_more_payload, packets_from, sequence_after}
use Rattle.cdc_session.specs.Following.{Answered, FollowsAnswer}
use Rattle.cdc_session.proofs.Sent.{packs_then, packs_first, no_end}
use Rattle.cdc_session.proofs.Choices.{chosen, left_out, both}

-- ---- dumps

-- an answer to a dump, by its three tests
abbrev by_tests : ℕ → ℕ → PublishedFile → List PublishedFile → Bool → Bool → Bool → Answer
by_tests at flags file files whole boundary others =
    if not whole then ends_with [] Torn
    else if not boundary then goes_on (no_place_payload ∷ [])
    else if not others then ends_with (dump_payloads at file files) Torn
    else dumped flags (dump_payloads at file files)

tests_are : (at flags : ℕ) (file : PublishedFile) (files : List PublishedFile) (whole boundary others : Bool)
    → is_whole_file file.bytes ≡ whole → is_boundary_of file.bytes at ≡ boundary → are_whole files ≡ others
    → dump_answer at flags (file ∷ files) ≡ by_tests at flags file files whole boundary others
tests_are at flags file files whole boundary others a b c = λ i. by_tests at flags file files (a i) (b i) (c i)

-- the file isn't whole
pub torn_answer : (at flags : ℕ) (file : PublishedFile) (files : List PublishedFile) → is_whole_file file.bytes ≡ false → dump_answer at flags (file ∷ files) ≡ ends_with [] Torn
torn_answer at flags file files a = tests_are at flags file files false (is_boundary_of file.bytes at) (are_whole files) a refl refl

-- the place is none
pub no_place_answer : (at flags : ℕ) (file : PublishedFile) (files : List PublishedFile) → is_whole_file file.bytes ≡ true → is_boundary_of file.bytes at ≡ false
    → dump_answer at flags (file ∷ files) ≡ goes_on (no_place_payload ∷ [])
no_place_answer at flags file files a b = tests_are at flags file files true false (are_whole files) a b refl

-- a file behind it isn't whole
pub torn_behind_answer : (at flags : ℕ) (file : PublishedFile) (files : List PublishedFile) → is_whole_file file.bytes ≡ true → is_boundary_of file.bytes at ≡ true → are_whole files ≡ false
    → dump_answer at flags (file ∷ files) ≡ ends_with (dump_payloads at file files) Torn
torn_behind_answer at flags file files a b c = tests_are at flags file files true true false a b c

-- all of it is there
pub dumped_answer : (at flags : ℕ) (file : PublishedFile) (files : List PublishedFile) → is_whole_file file.bytes ≡ true → is_boundary_of file.bytes at ≡ true → are_whole files ≡ true
    → dump_answer at flags (file ∷ files) ≡ dumped flags (dump_payloads at file files)
dumped_answer at flags file files a b c = tests_are at flags file files true true true a b c

-- a dump's payloads, its end behind them
pub record IsDumped (flags : ℕ) (payloads : List (List ℕ)) (answer : Answer) : Type 0 where
  pub payloads_are : answer.payloads ≡ payloads ++ end_payloads flags
  pub goes : flags % 2 ≡ 1 → answer.ending ≡ None
  pub closes : flags % 2 ≢ 1 → answer.ending ≡ Some Closed

dumped_by : (flags : ℕ) (payloads : List (List ℕ)) → IsDumped flags payloads (dumped flags payloads)
dumped_by flags payloads = elim (eqb_tells (flags % 2) 1) [
  | inl same ↦
      let answer : dumped flags payloads ≡ goes_on (payloads ++ no_more_payload ∷ []) = chosen (flags % 2 == 1) _ _ same.0 in
      let end : end_payloads flags ≡ no_more_payload ∷ [] = chosen (flags % 2 == 1) _ _ same.0 in
      record {
        payloads_are = ap (λ (a : Answer). a.payloads) answer ∙ ap (λ l. payloads ++ l) (sym end);
        goes = λ one. ap (λ (a : Answer). a.ending) answer;
        closes = λ other. absurd (other same.1);
      }
  | inr other ↦
      let answer : dumped flags payloads ≡ ends_with payloads Closed = left_out (flags % 2 == 1) _ _ other.0 in
      let end : end_payloads flags ≡ [] = no_end flags other.1 in
      record {
        payloads_are = ap (λ (a : Answer). a.payloads) answer ∙ sym (append-nil payloads) ∙ ap (λ l. payloads ++ l) (sym end);
        goes = λ one. absurd (other.1 one);
        closes = λ odd. ap (λ (a : Answer). a.ending) answer;
      }
]

-- whichever files are whole behind a whole one, the answer begins with the dump's payloads
payloads_begin : (at flags : ℕ) (file : PublishedFile) (files : List PublishedFile) → is_whole_file file.bytes ≡ true → is_boundary_of file.bytes at ≡ true
    → (more : List (List ℕ)) × ((dump_answer at flags (file ∷ files)).payloads ≡ dump_payloads at file files ++ more)
payloads_begin at flags file files a b = elim (both (are_whole files)) [
  | inl c ↦ (end_payloads flags, ap (λ (x : Answer). x.payloads) (dumped_answer at flags file files a b c) ∙ (dumped_by flags (dump_payloads at file files)).payloads_are)
  | inr c ↦ ([], ap (λ (x : Answer). x.payloads) (torn_behind_answer at flags file files a b c) ∙ sym (append-nil (dump_payloads at file files)))
]

-- what broke off behind nothing held back
broke : {before was bytes now : List ℕ} → was ≡ [] → Breaks before was bytes now → WritesTo before bytes now
broke {before} {was} {bytes} {now} none w = (w.front, w.rest, ap (λ l. l ++ bytes) (sym none) ∙ w.whole, w.sent)

-- a front of an answer's payloads was written
stopped : (answer : Answer) (sequence : ℕ) (before now : List ℕ) (s : DumpStop) → WritesTo before (packets_from sequence answer.payloads) now
    → (s ≡ stop.Torn → answer.ending ≡ Some Torn) → FollowsAnswer {X = Unit {0}} answer sequence before now (Err (session_end_by s))
stopped answer sequence before now stop.LinkFault w t = w
stopped answer sequence before now stop.DiskFault w t = w
stopped answer sequence before now stop.Memory w t = w
stopped answer sequence before now stop.Torn w t = record { ends = t refl; written = w }

-- a dump broke off
pub dump_broke : (at flags : ℕ) (file : PublishedFile) (files : List PublishedFile) (sequence : ℕ) (before was now : List ℕ) (s : DumpStop)
    → is_whole_file file.bytes ≡ true → is_boundary_of file.bytes at ≡ true → was ≡ [] → Breaks before was (packets_from sequence (dump_payloads at file files)) now
    → (s ≡ stop.Torn → are_whole files ≡ false) → FollowsAnswer {X = Unit {0}} (dump_answer at flags (file ∷ files)) sequence before now (Err (session_end_by s))
dump_broke at flags file files sequence before was now s a b none w t =
    let begin = payloads_begin at flags file files a b in
    let all : Breaks before was (packets_from sequence (dump_answer at flags (file ∷ files)).payloads) now =
    subst (λ (p : List (List ℕ)). Breaks before was (packets_from sequence p) now) (sym begin.1) (packs_first sequence (dump_payloads at file files) begin.0 w) in
    stopped (dump_answer at flags (file ∷ files)) sequence before now s (broke none all)
    (λ torn. ap (λ (x : Answer). x.ending) (torn_behind_answer at flags file files a b (t torn)))

-- a dump that is packed broke off at its end
pub end_broke : (at flags : ℕ) (file : PublishedFile) (files : List PublishedFile) (sequence number : ℕ) (before was mid held now : List ℕ) (s : DumpStop)
    → is_whole_file file.bytes ≡ true → is_boundary_of file.bytes at ≡ true → are_whole files ≡ true → was ≡ []
    → Packed before was sequence (dump_payloads at file files) mid held number → Breaks mid held (packets_from number (end_payloads flags)) now → (s ≡ stop.Torn → ⊥)
    → FollowsAnswer {X = Unit {0}} (dump_answer at flags (file ∷ files)) sequence before now (Err (session_end_by s))
end_broke at flags file files sequence number before was mid held now s a b c none p w t =
    let payloads : List (List ℕ) = dump_payloads at file files in
    let is = ap (λ (x : Answer). x.payloads) (dumped_answer at flags file files a b c) ∙ (dumped_by flags payloads).payloads_are in
    let all : Breaks before was (packets_from sequence (payloads ++ end_payloads flags)) now = packs_then {X = Unit {0}} (Err s) now [] number (end_payloads flags) p w in
    stopped (dump_answer at flags (file ∷ files)) sequence before now s
    (broke none (subst (λ (l : List (List ℕ)). Breaks before was (packets_from sequence l) now) (sym is) all)) (λ torn. absurd (t torn))

-- all was sent
rest_sent : (before was mid held now : List ℕ) (sequence number : ℕ) (payloads more : List (List ℕ)) → was ≡ [] → Packed before was sequence payloads mid held number
    → now ≡ mid ++ (held ++ packets_from number more) → now ≡ before ++ packets_from sequence (payloads ++ more)
rest_sent before was mid held now sequence number payloads more none p e =
    let nothing : List ℕ = [] in
    let last : Packed mid held number more now nothing (sequence_after number more) = record {
      out = record { front = held ++ packets_from number more; sent = e; whole = sym (append-nil (held ++ packets_from number more)) };
      next_is = refl;
    } in
    let all : Packed before was sequence (payloads ++ more) now nothing (sequence_after number more) = packs_then {X = Unit {0}} (Ok tt) now nothing (sequence_after number more) more p last in
    let front_is : packets_from sequence (payloads ++ more) ≡ all.out.front =
    ap (λ l. l ++ packets_from sequence (payloads ++ more)) (sym none) ∙ all.out.whole ∙ append-nil all.out.front in
    all.out.sent ∙ ap (λ l. before ++ l) (sym front_is)

pub dump_sent : (at flags : ℕ) (file : PublishedFile) (files : List PublishedFile) (sequence number : ℕ) (before was mid held now : List ℕ) (ending : Option SessionEnd)
    → is_whole_file file.bytes ≡ true → is_boundary_of file.bytes at ≡ true → are_whole files ≡ true → was ≡ []
    → Packed before was sequence (dump_payloads at file files) mid held number → now ≡ mid ++ (held ++ packets_from number (end_payloads flags))
    → (IsDumped flags (dump_payloads at file files) (dumped flags (dump_payloads at file files)) → (dumped flags (dump_payloads at file files)).ending ≡ ending)
    → Answered (dump_answer at flags (file ∷ files)) ending sequence before now
dump_sent at flags file files sequence number before was mid held now ending a b c none p e t =
    let payloads : List (List ℕ) = dump_payloads at file files in
    let answer = dumped_answer at flags file files a b c in
    let is = ap (λ (x : Answer). x.payloads) answer ∙ (dumped_by flags payloads).payloads_are in
    record {
      ends = ap (λ (x : Answer). x.ending) answer ∙ t (dumped_by flags payloads);
      written = rest_sent before was mid held now sequence number payloads (end_payloads flags) none p e ∙ ap (λ l. before ++ packets_from sequence l) (sym is);
    }

-- nothing was written
pub nothing_written : (before : List ℕ) (sequence : ℕ) → before ≡ before ++ packets_from sequence []
unfolding packets_from
nothing_written before sequence = sym (append-nil before)

pub no_front : (before bytes : List ℕ) → WritesTo before bytes before
no_front before bytes = ([], bytes, refl, sym (append-nil before))

-- the answer, in other words
pub follows_as : {X : Type 0} (r : Result X SessionEnd) (answer other : Answer) (sequence : ℕ) (before now : List ℕ) → other ≡ answer
    → FollowsAnswer answer sequence before now r → FollowsAnswer other sequence before now r
follows_as r answer other sequence before now e h = subst (λ a. FollowsAnswer a sequence before now r) (sym e) h

-- ---- shelves

-- an image with a Front isn't refused for a slot
not_refused : (image : Image) (f : Front) (slot : DiskFile) → HasFront image f → IsRefused image slot → ⊥
not_refused image f slot has (inl bad) = (let none = has.cell in cc)
not_refused image f slot has (inr other) =
    let is : MatchOption (kept_record image) (f ≡ no_front_yet) (λ r. IsFrontRecord r f) = has.kept in
    let found : MatchOption (Some other.found) (f ≡ no_front_yet) (λ r. IsFrontRecord r f) =
    subst (λ r. MatchOption r (f ≡ no_front_yet) (λ r. IsFrontRecord r f)) other.kept is in
    other.no_front f found

-- nor because its file is short
not_short : (image : Image) (f : Front) (kept found : ℕ) → IsFound image f → FileIsShort image kept found → ⊥
not_short image f kept found is short =
    let same : short.front ≡ f = image_has_one_front image short.front f short.has is.has in
    let size : short.front.length ≡ f.length = ap (λ (x : Front). x.length) same in
    let file : length (image (Log short.front.file)) ≡ length (image (Log f.file)) = ap (λ (x : Front). length (image (Log x.file))) same in
    let said = short.said in
    let there = short.there in
    let less = short.short in
    let whole = is.whole in
    omega (arith, size, file, said, there, less, whole)

-- one slot is refused
one_slot : (image : Image) (slot other : DiskFile) → IsRefused image slot → IsRefused image other → slot ≡ other
one_slot image slot other (inl a) (inl b) = (let e = sym a ∙ b in cc)
one_slot image slot other (inl a) (inr b) = absurd (let none = b.cell in cc)
one_slot image slot other (inr a) (inl b) = absurd (let none = a.cell in cc)
one_slot image slot other (inr a) (inr b) =
    let e : Some a.found ≡ Some b.found = sym a.kept ∙ b.kept in
    let found : a.found ≡ b.found = (let h = e in cc) in
    a.here ∙ ap (λ (r : CellRecord). r.slot) found ∙ sym b.here

-- a refused slot and a short file don't come together
slot_or_short : (image : Image) (slot : DiskFile) (kept found : ℕ) → IsRefused image slot → FileIsShort image kept found → ⊥
slot_or_short image slot kept found refused short = not_refused image short.front slot short.has refused

-- an image has one shelf
pub one_shelf : (image : Image) (a b : Shelf) → IsShelf image a → IsShelf image b → a ≡ b
one_shelf image (Ok files) (Ok others) x y =
    ap Ok (x.are ∙ ap (λ (f : Front). shelf_files f image) (image_has_one_front image x.front y.front x.found.has y.found.has) ∙ sym y.are)
one_shelf image (Ok files) (Err open_fault.DiskFault) x y = absurd y
one_shelf image (Ok files) (Err (open_fault.BadCell slot)) x y = absurd (not_refused image x.front slot x.found.has y)
one_shelf image (Ok files) (Err (open_fault.BadFront kept found)) x y = absurd (not_short image x.front kept found x.found y)
one_shelf image (Err open_fault.DiskFault) b x y = absurd x
one_shelf image (Err (open_fault.BadCell slot)) (Ok files) x y = absurd (not_refused image y.front slot y.found.has x)
one_shelf image (Err (open_fault.BadCell slot)) (Err open_fault.DiskFault) x y = absurd y
one_shelf image (Err (open_fault.BadCell slot)) (Err (open_fault.BadCell other)) x y = ap (λ (s : DiskFile). Err (open_fault.BadCell s)) (one_slot image slot other x y)
one_shelf image (Err (open_fault.BadCell slot)) (Err (open_fault.BadFront kept found)) x y = absurd (slot_or_short image slot kept found x y)
one_shelf image (Err (open_fault.BadFront kept found)) (Ok files) x y = absurd (not_short image y.front kept found y.found x)
one_shelf image (Err (open_fault.BadFront kept found)) (Err open_fault.DiskFault) x y = absurd y
one_shelf image (Err (open_fault.BadFront kept found)) (Err (open_fault.BadCell slot)) x y = absurd (slot_or_short image slot kept found y x)
one_shelf image (Err (open_fault.BadFront kept found)) (Err (open_fault.BadFront other there)) x y =
    let same : x.front ≡ y.front = image_has_one_front image x.front y.front x.has y.has in
    let size : kept ≡ other = x.said ∙ ap (λ (f : Front). f.length) same ∙ sym y.said in
    let file : found ≡ there = x.there ∙ ap (λ (f : Front). length (image (Log f.file))) same ∙ sym y.there in
    (λ i. Err (open_fault.BadFront (size i) (file i)))

-- a refused shelf
pub refused_shelf : (image : Image) (found : Shelf) (fault : OpenFault) (at flags : ℕ) (name : List ℕ) (sequence : ℕ) (before : List ℕ)
    → IsShelf image found → IsOpenFault image fault → FollowsAnswer {X = Unit {0}} (shelf_answer found at flags name) sequence before before (Err (refused_by fault))
refused_shelf image found open_fault.DiskFault at flags name sequence before x y = no_front before (packets_from sequence (shelf_answer found at flags name).payloads)
refused_shelf image found (open_fault.BadCell slot) at flags name sequence before x y =
    let same : found ≡ Err (open_fault.BadCell slot) = one_shelf image found (Err (open_fault.BadCell slot)) x y in
    subst (λ s. Answered (shelf_answer s at flags name) (Some (Kept (open_fault.BadCell slot))) sequence before before) (sym same)
    record { ends = refl; written = nothing_written before sequence }
refused_shelf image found (open_fault.BadFront kept there) at flags name sequence before x y =
    let same : found ≡ Err (open_fault.BadFront kept there) = one_shelf image found (Err (open_fault.BadFront kept there)) x y in
    subst (λ s. Answered (shelf_answer s at flags name) (Some (Kept (open_fault.BadFront kept there))) sequence before before) (sym same)
    record { ends = refl; written = nothing_written before sequence }
