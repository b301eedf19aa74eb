-- Stages and jobs at the beginning of a pass.
use Rattle.std.proofs.Common.{◌≡◌, ℕ, ◌+◌, ◌<◌, Bool, List, [], ◌∷◌, ◌++◌, length, refl, sym, subst, arith, append_assoc, append-nil}
use Rattle.std.specs.Prelude.{remove, slice_index_or}
use Rattle.std.specs.List.{AllByRecursion}
use Rattle.cdc_base.specs.declared.key.Key.{Key}
use Rattle.cdc_model.specs.Restart.{RestartPoint}
use Rattle.cdc_sorter.specs.Sorting.{SortReading}
use Rattle.cdc_node_stage.specs.declared.stage.NodeStage.{NodeStage}
use Rattle.cdc_node_stage.specs.Sending.{node_state}
use Rattle.cdc_node_stage.specs.Preparing.{BeginsAs}
use Rattle.cdc_node_stage.specs.Job.{SourcedStage}
use Rattle.cdc_reads.specs.Begun.{AllBegin}
use Rattle.cdc_pass.specs.Starting.{StagesBegin, BeginsBehind, stages_of, HasSentNothing}

-- what a stage goes by that begins at a point
abbrev pub begin_at : Key → RestartPoint → ℕ → SortReading
begin_at last point node = record { last = last; from = point; node = node }

-- the first of the points goes, and its stage comes
pub stages_more : (last : Key) (firsts : List RestartPoint) (node window : ℕ) (points : List RestartPoint) (made : List NodeStage) (point : RestartPoint) (stage : NodeStage) → 0 < length points → point ≡ slice_index_or points 0 point
    → BeginsAs (node_state stage) (begin_at last point node) window
    → ((rest : List NodeStage) → StagesBegin node last points rest → StagesBegin 1 last firsts (made ++ rest))
    → (rest : List NodeStage) → StagesBegin (node + 1) last (remove points 0) rest → StagesBegin 1 last firsts ((made ++ stage ∷ []) ++ rest)
stages_more last firsts node window [] made point stage some is begins left rest all = absurd (omega (arith, some))
stages_more last firsts node window (p ∷ points) made point stage some is begins left rest all =
    subst (λ (items : List NodeStage). StagesBegin 1 last firsts items) (sym (append_assoc made (stage ∷ []) rest))
    (left (stage ∷ rest) ((window, subst (λ (v : RestartPoint). BeginsAs (node_state stage) (begin_at last v node) window) is begins), all))

-- all have come
pub stages_all : (last : Key) (firsts : List RestartPoint) (node : ℕ) (points : List RestartPoint) (made : List NodeStage) → length points ≡ 0
    → ((rest : List NodeStage) → StagesBegin node last points rest → StagesBegin 1 last firsts (made ++ rest)) → StagesBegin 1 last firsts made
stages_all last firsts node [] made none left = subst (λ (items : List NodeStage). StagesBegin 1 last firsts items) (append-nil made) (left [] tt)
stages_all last firsts node (p ∷ points) made none left = absurd (omega (arith, none))

-- as many stages as points
pub stages_long : (node : ℕ) (last : Key) (points : List RestartPoint) (stages : List NodeStage) → StagesBegin node last points stages → length stages ≡ length points
stages_long node last [] [] begin = refl
stages_long node last [] (s ∷ stages) begin = absurd begin
stages_long node last (p ∷ points) [] begin = absurd begin
stages_long node last (p ∷ points) (s ∷ stages) begin = let e = stages_long (node + 1) last points stages begin.1 in omega (arith, e)

-- each can read any log
pub stages_behind : (node : ℕ) (last : Key) (points : List RestartPoint) (stages : List NodeStage) → StagesBegin node last points stages → AllByRecursion (BeginsBehind last) stages
stages_behind node last [] [] begin = tt
stages_behind node last [] (s ∷ stages) begin = absurd begin
stages_behind node last (p ∷ points) [] begin = absurd begin
stages_behind node last (p ∷ points) (s ∷ stages) begin = (record { stands = begin.0.1.stands; known = begin.0.1.known }, stages_behind (node + 1) last points stages begin.1)

-- their jobs begin there
pub jobs_begin : {S : Type 0} (node : ℕ) (last : Key) (points : List RestartPoint) (jobs : List (SourcedStage S)) → StagesBegin node last points (stages_of jobs) → AllBegin node last points jobs
jobs_begin node last [] [] begin = tt
jobs_begin node last [] (j ∷ jobs) begin = absurd begin
jobs_begin node last (p ∷ points) [] begin = absurd begin
jobs_begin node last (p ∷ points) (j ∷ jobs) begin = (begin.0, jobs_begin (node + 1) last points jobs begin.1)

-- and have sent nothing
pub jobs_fresh : {S : Type 0} (tells : Bool) (held : S → List (List ℕ)) (node : ℕ) (last : Key) (points : List RestartPoint) (jobs : List (SourcedStage S)) → StagesBegin node last points (stages_of jobs) → AllByRecursion (HasSentNothing tells held) jobs
jobs_fresh tells held node last [] [] begin = tt
jobs_fresh tells held node last [] (j ∷ jobs) begin = absurd begin
jobs_fresh tells held node last (p ∷ points) [] begin = absurd begin
jobs_fresh tells held node last (p ∷ points) (j ∷ jobs) begin = (begin.0.1.sends tells (held j.source), jobs_fresh tells held (node + 1) last points jobs begin.1)
