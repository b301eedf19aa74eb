use Rattle.std.proofs.Common.{◌≡◌, ◌≤◌, ◌<◌, ◌+◌, ◌∙◌, IfOk, ℕ, false, true, List, length, map, ap, subst, sym, arith}
use Rattle.std.proofs.lemmas.List.{length-map}
use Rattle.std.proofs.lemmas.Result.{on_ok_weaker}
use Rattle.cdc_base.specs.declared.place.Place.{Place}
use Rattle.cdc_outside.specs.Source.{file_of}
use Rattle.cdc_reader.specs.LogFront.{IsReadUpTo}
use Rattle.cdc_reader.specs.Asking.{IsFromOn, bytes_up_to}
use Rattle.cdc_reader.specs.Filling.{IsLogSized}
use Rattle.cdc_reader.proofs.Asked.{from_further, below_earlier, from_bytes, from_next, bytes_at_next, bytes_behind, walked_on, went_onward}
use Rattle.cdc_reader.proofs.Reading.{taken_nothing}
use Rattle.cdc_reader.proofs.Filled.{stays_filled, fills_not, fills_more, fills_last, passes_file}
use Rattle.cdc_reader.proofs.log.LogReader.fill.Goals as goal

-- as many sizes as files
files_held : (count : ℕ) (sizes : List ℕ) (files : List (List ℕ)) → count ≡ length sizes → sizes ≡ map length files → count ≡ length files
files_held count sizes files number are = number ∙ ap length are ∙ length-map files length

pub returns-in-Err-clause-fills : goal.returns-in-Err-clause-fills
returns-in-Err-clause-fills g c = λ told point taken all sized.
    stays_filled c.file_is_read_in_one_way.ensures point (g.S.Source.held c.args.source.now) c.args.self.now taken all

pub returns-then-files-self-clause-fills : goal.returns-then-files-self-clause-fills
returns-then-files-self-clause-fills g c = λ told point taken all sized.
    let files = g.S.Source.held c.args.source.now in
    let count : c.in-Ok.files ≡ length files =
    files_held c.in-Ok.files (g.S.Source.sizes c.args.source.now) files c.in-Ok.ensures.number (g.met.S.Source.sizes_are_lengths c.args.source.now told) in
    let beyond : length files < c.args.self.now.place.file = omega arith in
    taken_nothing point files c.args.self.now.follower c.args.self.now.place taken beyond all.read

pub returns-in-Err-read_on-clause-fills : goal.returns-in-Err-read_on-clause-fills
returns-in-Err-read_on-clause-fills g c = λ told point taken all sized.
    let at = c.files.invariant.taken told point taken all sized in
    fills_not c.file_is_read_in_one_way.ensures point (g.S.Source.held c.args.source.now) taken c.files.self c.read_on.new.self c.in-Err-read_on.stopped
    at.0 c.in-Err-read_on.ensures.err

pub returns-then-read-gt0-clause-fills : goal.returns-then-read-gt0-clause-fills
returns-then-read-gt0-clause-fills g c = λ told point taken all sized.
    let files = g.S.Source.held c.args.source.now in
    let count : c.in-Ok.files ≡ length files =
    files_held c.in-Ok.files (g.S.Source.sizes c.args.source.now) files c.in-Ok.ensures.number (g.met.S.Source.sizes_are_lengths c.args.source.now told) in
    let at = c.files.invariant.taken told point taken all sized in
    let here : c.files.self.place.file ≡ c.files.file = c.files.invariant.here in
    let there : c.files.self.place.file ≤ length files = omega arith in
    fills_more c.file_is_read_in_one_way.ensures point files taken c.files.self c.read_on.new.self c.in-Ok-read_on.read at.0 there
    c.in-Ok-read_on.ensures.place
    (subst (λ (h : List (List ℕ)). IsReadUpTo point h c.files.self.follower c.files.self.place taken → IsReadUpTo point h c.read_on.new.self.follower c.read_on.new.self.place taken)
    c.files.invariant.held (c.in-Ok-read_on.ensures.reads told point taken))
    (subst (λ (h : List (List ℕ)). IsLogSized h c.files.self → IsLogSized h c.read_on.new.self) c.files.invariant.held (c.in-Ok-read_on.ensures.sized told) at.1)
    c.if-read-gt0.true

pub returns-in-Err-read_on-clause-below : goal.returns-in-Err-read_on-clause-below
returns-in-Err-read_on-clause-below g c = below_earlier c.args.self.now.place c.files.self.place _ _ c.files.invariant.onward c.read_on.ensures.below ∙ c.files.invariant.below

pub returns-in-Err-read_on-clause-onward : goal.returns-in-Err-read_on-clause-onward
returns-in-Err-read_on-clause-onward g c = subst (λ (p : Place). IsFromOn c.args.self.now.place p) (sym c.in-Err-read_on.ensures.err.1) c.files.invariant.onward

pub returns-in-Err-read_on-clause-bytes : goal.returns-in-Err-read_on-clause-bytes
returns-in-Err-read_on-clause-bytes g c = λ told sized.
    subst (λ (p : Place). bytes_up_to (g.S.Source.held c.args.source.now) p ≤ bytes_up_to (g.S.Source.held c.args.source.now) c.args.self.now.place) (sym c.in-Err-read_on.ensures.err.1)
    (c.files.invariant.walked told sized).1

pub returns-then-read-gt0-clause-below : goal.returns-then-read-gt0-clause-below
returns-then-read-gt0-clause-below g c = below_earlier c.args.self.now.place c.files.self.place _ _ c.files.invariant.onward c.read_on.ensures.below ∙ c.files.invariant.below

pub returns-then-read-gt0-clause-onward : goal.returns-then-read-gt0-clause-onward
returns-then-read-gt0-clause-onward g c =
    from_further c.args.self.now.place c.files.self.place c.read_on.new.self.place c.files.invariant.onward (from_bytes c.files.self.place c.read_on.new.self.place c.in-Ok-read_on.read c.in-Ok-read_on.ensures.place)

pub returns-then-read-gt0-clause-bytes : goal.returns-then-read-gt0-clause-bytes
returns-then-read-gt0-clause-bytes g c = λ told sized.
    let more = bytes_behind (g.S.Source.held c.args.source.now) c.files.self.place c.read_on.new.self.place c.in-Ok-read_on.read c.in-Ok-read_on.ensures.place in
    let before = (c.files.invariant.walked told sized).1 in
    omega (arith, more, before)

pub returns-clause-below : goal.returns-clause-below
returns-clause-below g c = below_earlier c.args.self.now.place c.files.self.place _ _ c.files.invariant.onward c.read_on-2.ensures.below ∙ c.files.invariant.below

pub returns-clause-onward : goal.returns-clause-onward
returns-clause-onward g c =
    went_onward _ c.args.self.now.place c.files.self.place c.read_on-2.new.self.place c.read_on-2.result c.files.invariant.onward c.read_on-2.ensures.place c.read_on-2.ensures.err

pub returns-clause-bytes : goal.returns-clause-bytes
returns-clause-bytes g c = λ told sized.
    walked_on _ (g.S.Source.held c.args.source.now) c.args.self.now.place c.files.self.place c.read_on-2.new.self.place c.read_on-2.result (c.files.invariant.walked told sized).1
    c.read_on-2.ensures.place c.read_on-2.ensures.err

pub files-preserved : goal.files-preserved
files-preserved g c =
    let place : c.read_on.new.self.place ≡ record { file = c.files.self.place.file; at = c.files.self.place.at + c.in-Ok-read_on.read } = c.in-Ok-read_on.ensures.place in
    let file : c.read_on.new.self.place.file ≡ c.files.self.place.file = ap (λ (p : Place). p.file) place in
    let next : c.next_file.new.self.place.file ≡ c.read_on.new.self.place.file + 1 = ap (λ (p : Place). p.file) c.next_file.ensures.place in
    let here : c.files.self.place.file ≡ c.files.file = c.files.invariant.here in
    let none : c.in-Ok-read_on.read ≡ 0 = omega arith in
    record {
      here = omega arith;
      first = omega arith;
      going = c.next_file.ensures.going;
      room = c.read_on.auto.piece ∙ c.files.invariant.room;
      later = omega (arith, c.in-Ok-read_on.ensures.later, c.files.invariant.later);
      held = c.in-Ok-read_on.ensures.held ∙ c.files.invariant.held;
      sizes = c.in-Ok-read_on.ensures.sizes ∙ c.files.invariant.sizes;
      below = below_earlier c.args.self.now.place c.files.self.place _ _ c.files.invariant.onward c.in-Ok-read_on.ensures.below ∙ c.files.invariant.below;
      onward =
          from_further c.args.self.now.place c.read_on.new.self.place c.next_file.new.self.place
          (from_further c.args.self.now.place c.files.self.place c.read_on.new.self.place c.files.invariant.onward (from_bytes c.files.self.place c.read_on.new.self.place c.in-Ok-read_on.read place))
          (from_next c.read_on.new.self.place c.next_file.new.self.place c.next_file.ensures.place);
      walked = λ told sized.
          let files = g.S.Source.held c.args.source.now in
          let count : c.in-Ok.files ≡ length files =
          files_held c.in-Ok.files (g.S.Source.sizes c.args.source.now) files c.in-Ok.ensures.number (g.met.S.Source.sizes_are_lengths c.args.source.now told) in
          let there : c.files.self.place.file ≤ length files = omega arith in
          let at = c.files.invariant.walked told sized in
          let ends = subst (λ (h : List (List ℕ)). IsLogSized h c.files.self → c.in-Ok-read_on.read ≡ 0 → length (file_of h c.files.self.place.file) ≤ c.files.self.place.at)
          c.files.invariant.held (c.in-Ok-read_on.ensures.ends told) at.0 none in
          let same : c.read_on.new.self.place ≡ c.files.self.place = place ∙ ap (λ (n : ℕ). record { file = c.files.self.place.file; at = n }) (let e : c.files.self.place.at + c.in-Ok-read_on.read ≡ c.files.self.place.at = omega (arith, none) in e) in
          let further = bytes_at_next files c.files.self.place c.next_file.new.self.place c.files.invariant.first there ends
          (c.next_file.ensures.place ∙ ap (λ (p : Place). record { file = p.file + 1; at = 0 }) same) in
          let before = at.1 in
          (λ is. absurd (let h : false ≡ true = sym c.next_file.ensures.opened ∙ is in cc), omega (arith, further, before));
      taken = λ told point taken all sized.
          let files = g.S.Source.held c.args.source.now in
          let count : c.in-Ok.files ≡ length files =
          files_held c.in-Ok.files (g.S.Source.sizes c.args.source.now) files c.in-Ok.ensures.number (g.met.S.Source.sizes_are_lengths c.args.source.now told) in
          let there : c.files.self.place.file ≤ length files = omega arith in
          let at = c.files.invariant.taken told point taken all sized in
          passes_file point files taken c.files.self c.read_on.new.self c.next_file.new.self c.in-Ok-read_on.read none at.0 c.in-Ok-read_on.ensures.none place there
          (subst (λ (h : List (List ℕ)). IsLogSized h c.files.self → c.in-Ok-read_on.read ≡ 0 → length (file_of h c.files.self.place.file) ≤ c.files.self.place.at)
          c.files.invariant.held (c.in-Ok-read_on.ensures.ends told) at.1 none)
          (c.next_file.ensures.taken point files taken) c.next_file.ensures.opened;
    }

pub returns-clause-fills : goal.returns-clause-fills
returns-clause-fills g c = λ told point taken all sized.
    let files = g.S.Source.held c.args.source.now in
    let count : c.in-Ok.files ≡ length files =
    files_held c.in-Ok.files (g.S.Source.sizes c.args.source.now) files c.in-Ok.ensures.number (g.met.S.Source.sizes_are_lengths c.args.source.now told) in
    let at = c.files.invariant.taken told point taken all sized in
    let here : c.files.self.place.file ≡ c.files.file = c.files.invariant.here in
    let last : c.files.self.place.file ≡ length files = omega (arith, c.files.auto.file-end) in
    fills_last c.file_is_read_in_one_way.ensures point files taken c.files.self c.read_on-2.new.self c.read_on-2.result at.0 last c.read_on-2.ensures.place
    (subst (λ (h : List (List ℕ)). IsLogSized h c.files.self → IfOk c.read_on-2.result (λ read. read ≡ 0 → length (file_of h c.files.self.place.file) ≤ c.files.self.place.at))
    c.files.invariant.held (c.read_on-2.ensures.ends told) at.1)
    (on_ok_weaker c.read_on-2.result
    (λ reads.
    subst (λ (h : List (List ℕ)). IsReadUpTo point h c.files.self.follower c.files.self.place taken → IsReadUpTo point h c.read_on-2.new.self.follower c.read_on-2.new.self.place taken)
    c.files.invariant.held (reads point taken))
    (c.read_on-2.ensures.reads told))
    (subst (λ (h : List (List ℕ)). IsLogSized h c.files.self → IsLogSized h c.read_on-2.new.self) c.files.invariant.held (c.read_on-2.ensures.sized told) at.1)
    c.read_on-2.ensures.err
