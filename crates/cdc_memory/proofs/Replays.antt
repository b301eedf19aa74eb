-- Replay of one step more, and what it means for images and moments.
use Rattle.std.proofs.Common.{◌≡◌, inl, inr, ℕ, ◌+◌, ◌<◌, min, Bool, true, false, if◌then◌else◌, ◌||◌, nat_le, nat_lt, ◌&&◌}
use Rattle.std.proofs.Common.{List, [], ◌∷◌, ◌++◌, length, get_or, take, refl, sym, ◌∙◌, ap, subst, arith, length-append}
use Rattle.std.proofs.lemmas.Bool.{cases_Bool, cases_lt}
use Rattle.std.proofs.lemmas.List.{take_more, take_all, take-append-le}
use Rattle.cdc_outside.specs.declared.disk_file.DiskFile.{DiskFile}
use Rattle.cdc_outside.specs.Disk.{Image, Change, Wrote, CutTo, Elapses, same_file, with_file, shortest, is_written}
use Rattle.cdc_outside.proofs.Changes.{is_written_more, shortest_wrote, shortest_cut}
use Rattle.cdc_memory.specs.Moments.{stays_from_rest}
use Rattle.cdc_outside.proofs.Pending.{as_synced, same_file_is, with_file_same, with_file_other}
use Rattle.cdc_memory.specs.Replay.{Holding, at_rest, after_step, after_steps, LeavesNow, LeavesSince, holding_of}
use Rattle.cdc_memory.specs.declared.disk_record.DiskStep.{DiskStep}
use Rattle.cdc_memory.specs.declared.disk_record.DiskStep.TheVariants.{Sync}

pub replayed_more : (holding : Holding) (steps : List DiskStep) (step : DiskStep) → after_steps holding (steps ++ step ∷ []) ≡ after_step (after_steps holding steps) step
replayed_more holding [] step = refl
replayed_more holding (first ∷ steps) step = replayed_more (after_step holding first) steps step

pub replayed_next : (holding : Holding) (steps : List DiskStep) (index : ℕ) (step : DiskStep) → index < length steps → step ≡ get_or steps index step
    → after_steps holding (take (index + 1) steps) ≡ after_step (after_steps holding (take index steps)) step
replayed_next holding steps index step lt is =
    ap (after_steps holding) (take_more steps index step lt ∙ ap (λ it. take index steps ++ it ∷ []) (sym is)) ∙ replayed_more holding (take index steps) step

-- whether a byte was written, after a write
pub written_then : (file other : DiskFile) (at place : ℕ) (bytes : List ℕ) (pending : DiskFile → List Change) (before now : Bool) → before ≡ is_written place (pending file)
    → now ≡ (before || (same_file other file && (nat_le at place && nat_lt place (at + length bytes))))
    → now ≡ is_written place (with_file other (pending other ++ Wrote at (length bytes) ∷ []) pending file)
written_then file other at place bytes pending before now was is = is ∙ elim (cases_Bool (same_file other file)) [
  | inl same ↦
      let e : other ≡ file = same_file_is other file same in
      ap (λ b. before || (b && (nat_le at place && nat_lt place (at + length bytes)))) same
      ∙ ap (λ b. b || (nat_le at place && nat_lt place (at + length bytes))) was
      ∙ or_false (is_written place (pending file)) (nat_le at place && nat_lt place (at + length bytes))
      ∙ sym (is_written_more place (pending file) (Wrote at (length bytes)))
      ∙ ap (is_written place) (ap (λ o. pending o ++ Wrote at (length bytes) ∷ []) (sym e) ∙ sym (with_file_same other (pending other ++ Wrote at (length bytes) ∷ []) pending) ∙ ap (with_file other (pending other ++ Wrote at (length bytes) ∷ []) pending) e)
  | inr isnt ↦
      ap (λ b. before || (b && (nat_le at place && nat_lt place (at + length bytes)))) isnt ∙ or_none before ∙ was
      ∙ ap (is_written place) (sym (with_file_other other (pending other ++ Wrote at (length bytes) ∷ []) pending file isnt))
]
  where
    or_none : (a : Bool) → (a || false) ≡ a
    or_none true = refl
    or_none false = refl

    or_false : (a b : Bool) → (a || b) ≡ (a || (b || false))
    or_false true b = refl
    or_false false true = refl
    or_false false false = refl

pub written_cut : (file other : DiskFile) (to place : ℕ) (pending : DiskFile → List Change) (before : Bool) → before ≡ is_written place (pending file)
    → before ≡ is_written place (with_file other (pending other ++ CutTo to ∷ []) pending file)
written_cut file other to place pending before was = was ∙ elim (cases_Bool (same_file other file)) [
  | inl same ↦
      let e : other ≡ file = same_file_is other file same in
      or_none (is_written place (pending file)) ∙ sym (is_written_more place (pending file) (CutTo to))
      ∙ ap (is_written place) (ap (λ o. pending o ++ CutTo to ∷ []) (sym e) ∙ sym (with_file_same other (pending other ++ CutTo to ∷ []) pending) ∙ ap (with_file other (pending other ++ CutTo to ∷ []) pending) e)
  | inr isnt ↦ ap (is_written place) (sym (with_file_other other (pending other ++ CutTo to ∷ []) pending file isnt))
]
  where
    or_none : (a : Bool) → a ≡ (a || false)
    or_none true = refl
    or_none false = refl

-- the least length, after each step
pub shortest_then_wrote : (file other : DiskFile) (at count synced least : ℕ) (pending : DiskFile → List Change) → least ≡ shortest synced (pending file)
    → least ≡ shortest synced (with_file other (pending other ++ Wrote at count ∷ []) pending file)
shortest_then_wrote file other at count synced least pending was = was ∙ elim (cases_Bool (same_file other file)) [
  | inl same ↦
      let e : other ≡ file = same_file_is other file same in
      sym (shortest_wrote synced (pending file) at count)
      ∙ ap (shortest synced) (ap (λ o. pending o ++ Wrote at count ∷ []) (sym e) ∙ sym (with_file_same other (pending other ++ Wrote at count ∷ []) pending) ∙ ap (with_file other (pending other ++ Wrote at count ∷ []) pending) e)
  | inr isnt ↦ ap (shortest synced) (sym (with_file_other other (pending other ++ Wrote at count ∷ []) pending file isnt))
]

pub shortest_then_cut : (file other : DiskFile) (to synced least : ℕ) (pending : DiskFile → List Change) → same_file other file ≡ true → least ≡ shortest synced (pending file)
    → min least to ≡ shortest synced (with_file other (pending other ++ CutTo to ∷ []) pending file)
shortest_then_cut file other to synced least pending same was =
    let e : other ≡ file = same_file_is other file same in
    let turned : min least to ≡ min to (shortest synced (pending file)) = omega (arith, was) in
    turned ∙ sym (shortest_cut synced (pending file) to)
    ∙ ap (shortest synced) (ap (λ o. pending o ++ CutTo to ∷ []) (sym e) ∙ sym (with_file_same other (pending other ++ CutTo to ∷ []) pending) ∙ ap (with_file other (pending other ++ CutTo to ∷ []) pending) e)

pub shortest_then_other : (file other : DiskFile) (to synced least : ℕ) (pending : DiskFile → List Change) → same_file other file ≡ false → least ≡ shortest synced (pending file)
    → least ≡ shortest synced (with_file other (pending other ++ CutTo to ∷ []) pending file)
shortest_then_other file other to synced least pending isnt was = was ∙ ap (shortest synced) (sym (with_file_other other (pending other ++ CutTo to ∷ []) pending file isnt))

pub written_by : (file other : DiskFile) (at place : ℕ) (told bytes : List ℕ) (pending : DiskFile → List Change) (before same covered now : Bool) → before ≡ is_written place (pending file)
    → same ≡ same_file other file → covered ≡ (nat_le at place && nat_lt place (at + length told)) → told ≡ bytes → now ≡ (before || (same && covered))
    → now ≡ is_written place (with_file other (pending other ++ Wrote at (length bytes) ∷ []) pending file)
written_by file other at place told bytes pending before same covered now was sames covers e is =
    written_then file other at place bytes pending before now was
    (is ∙ ap (λ b. before || (b && covered)) sames ∙ ap (λ b. before || (same_file other file && b)) (covers ∙ ap (λ (l : List ℕ). nat_le at place && nat_lt place (at + length l)) e))

-- moments: the same steps, and one step more
pub no_step : (start : Holding) (steps : List DiskStep) → Elapses (length steps) (length steps) (LeavesSince start steps) (LeavesSince start steps) (LeavesNow (after_steps start steps))
no_step start steps = record { later = omega arith; nothing_else = λ t image le left. inl left; keeps = λ t image le left. left }

pub one_step : (start : Holding) (steps : List DiskStep) (step : DiskStep)
    → Elapses (length steps) (length (steps ++ step ∷ [])) (LeavesSince start steps) (LeavesSince start (steps ++ step ∷ [])) (LeavesNow (after_steps start (steps ++ step ∷ [])))
one_step start steps step = record {
  later = omega (arith, length-append steps (step ∷ []));
  nothing_else = λ t image le left. elim (cases_lt (length steps) left.0) [
    | inl past ↦
        let all : take left.0 (steps ++ step ∷ []) ≡ steps ++ step ∷ [] = take_all left.0 (steps ++ step ∷ []) (omega (arith, length-append steps (step ∷ []))) in
        inr (subst (λ (l : List DiskStep). LeavesNow (after_steps start l) image) all left.3)
    | inr within ↦
        let same : take left.0 (steps ++ step ∷ []) ≡ take left.0 steps = take-append-le left.0 steps (step ∷ []) within in
        inl (left.0, left.1, within, subst (λ (l : List DiskStep). LeavesNow (after_steps start l) image) same left.3)
  ];
  keeps = λ t image le left.
      let same : take left.0 (steps ++ step ∷ []) ≡ take left.0 steps = take-append-le left.0 steps (step ∷ []) left.2 in
      (left.0, left.1, omega (arith, left.2, length-append steps (step ∷ [])), subst (λ (l : List DiskStep). LeavesNow (after_steps start l) image) (sym same) left.3);
}

-- the replay of one step more
pub stepped : (start : Image) (steps more : List DiskStep) (step : DiskStep) → more ≡ steps ++ step ∷ [] → holding_of start more ≡ after_step (holding_of start steps) step
stepped start steps more step e = ap (holding_of start) e ∙ replayed_more (at_rest start) steps step

pub time_stepped : (start : Image) (steps more : List DiskStep) (step : DiskStep) → more ≡ steps ++ step ∷ []
    → Elapses (length steps) (length more) (LeavesSince (at_rest start) steps) (LeavesSince (at_rest start) more) (LeavesNow (holding_of start more))
time_stepped start steps more step e =
    subst (λ (l : List DiskStep). Elapses (length steps) (length l) (LeavesSince (at_rest start) steps) (LeavesSince (at_rest start) l) (LeavesNow (holding_of start l))) (sym e) (one_step (at_rest start) steps step)

-- files that were as the replay says, after a change of one of them
pub files_changed : (before after : Image) (file : DiskFile) (change : List ℕ → List ℕ) (held : Image) → ((other : DiskFile) → before other ≡ held other)
    → after ≡ with_file file (change (before file)) before → after ≡ with_file file (change (held file)) held
files_changed before after file change held as_seen is =
    let same : before ≡ held = λ i other. as_seen other i in
    is ∙ ap (λ (f : Image). with_file file (change (f file)) f) same

-- a sync, which is noted where something was changed
pub record Synced (start : Image) (steps more : List DiskStep) : Type 0 where
  pub same : (file : DiskFile) → (holding_of start more).last_sync file ≡ (holding_of start more).seen file
  pub nothing : (file : DiskFile) → length ((holding_of start more).pending file) ≡ 0
  pub seen : (holding_of start more).seen ≡ (holding_of start steps).seen
  pub crash : (image : Image) → LeavesNow (holding_of start more) image → LeavesNow (holding_of start steps) image
  pub time : Elapses (length steps) (length more) (LeavesSince (at_rest start) steps) (LeavesSince (at_rest start) more) (LeavesNow (holding_of start more))

pub synced : (start : Image) (steps more : List DiskStep) (changed : Bool) → more ≡ (if changed then steps ++ Sync ∷ [] else steps)
    → (changed ≡ false → (file : DiskFile) → (holding_of start steps).last_sync file ≡ (holding_of start steps).seen file)
    → (changed ≡ false → (file : DiskFile) → length ((holding_of start steps).pending file) ≡ 0) → Synced start steps more
synced start steps more true e still nothing =
    let after : holding_of start more ≡ at_rest (holding_of start steps).seen = stepped start steps more Sync e in
    record {
      same = λ file. ap (λ (h : Holding). h.last_sync file) after ∙ sym (ap (λ (h : Holding). h.seen file) after);
      nothing = λ file. ap (λ (h : Holding). length (h.pending file)) after;
      seen = ap (λ (h : Holding). h.seen) after;
      crash = λ image left.
          let rests : LeavesNow (at_rest (holding_of start steps).seen) image = subst (λ (h : Holding). LeavesNow h image) after left in
          let is : (file : DiskFile) → image file ≡ (holding_of start steps).seen file = λ file. as_synced ((holding_of start steps).seen file) (image file) (rests file) in
          let e : image ≡ (holding_of start steps).seen = λ i file. is file i in
          subst (LeavesNow (holding_of start steps)) (sym e) (stays_from_rest start steps);
      time = time_stepped start steps more Sync e;
    }
synced start steps more false e still nothing =
    let E : List DiskStep → Type 0 = λ l. Synced start steps l in
    subst E (sym e) record {
      same = still refl;
      nothing = nothing refl;
      seen = refl;
      crash = λ image left. left;
      time = no_step (at_rest start) steps;
    }
