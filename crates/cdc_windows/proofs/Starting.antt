-- Before the first window nothing was sent, and every output is ready.
use Rattle.std.proofs.Common.{◌≡◌, ℕ, zero, suc, ◌+◌, ◌≤◌, Bool, IsTrue, List, [], ◌∷◌, length, get_or, map, count_by, Option, refl, sym, ◌∙◌, ap, subst, arith}
use Rattle.std.specs.List.{AllZip, AllByRecursion}
use Rattle.cdc_base.specs.declared.key.Key.{Key}
use Rattle.cdc_lane.specs.declared.plain.PlainLane.{PlainLane}
use Rattle.cdc_lane.specs.Held.{held}
use Rattle.cdc_model.specs.Records.{Transaction}
use Rattle.cdc_recovery.specs.Outputs.{OutputPlan, KeepsFrom}
use Rattle.cdc_recovery.specs.Growing.{Each}
use Rattle.cdc_dumper.specs.State.{DumperState}
use Rattle.cdc_turns.specs.Account.{Sender, Passer}
use Rattle.cdc_turns.specs.Ends.{EndsAs}
use Rattle.cdc_turns.specs.Joined.{joined, contents, nothing_for}
use Rattle.cdc_turns.specs.Flow.{line_with}
use Rattle.cdc_turns.proofs.Lanewise.{joined_empty}
use Rattle.cdc_item.specs.declared.node_item.NodeItem.{NodeItem}
use Rattle.cdc_item.specs.declared.dump_item.DumpItem.{DumpItem}
use Rattle.cdc_item.specs.Item.{closes_dump_window}
use Rattle.cdc_dump_stage.specs.Disks.{DiskWords}
use Rattle.cdc_dump_stage.specs.Standing.{IsReadyFor}
use Rattle.cdc_dump_stage.specs.Job.{StagedDisk, dump_account}
use Rattle.cdc_opening.specs.Lists.{AllThree}
use Rattle.cdc_opening.specs.OpenOuts.{IsOutOpened}
use Rattle.cdc_windows.specs.Jobs.{IsJobOf, StartsSoundly}
use Rattle.cdc_windows.specs.Windows.{IsBegun}
use Rattle.cdc_windows.proofs.OutsReady.{opened_ready}

-- as many, so the same
pub same_nothing : {A B T : Type 0} (xs : List A) (ys : List B) → length xs ≡ length ys → ◌≡◌ {A = List (List T)} (nothing_for xs) (nothing_for ys)
same_nothing [] [] long = refl
same_nothing [] (y ∷ ys) long = absurd (omega (arith, long))
same_nothing (x ∷ xs) [] long = absurd (omega (arith, long))
same_nothing {A} {B} {T} (x ∷ xs) (y ∷ ys) long = ap (λ (lists : List (List T)). [] ∷ lists) (same_nothing {T = T} xs ys (omega (arith, long)))

nothing_long : {A : Type 0} (T : Type 0) (xs : List A) → length (nothing_for {T = T} xs) ≡ length xs
nothing_long T [] = refl
nothing_long T (x ∷ xs) = ap (λ n. suc n) (nothing_long T xs)

contents_long : {T : Type 0} (lanes : List (PlainLane T)) → length (contents lanes) ≡ length lanes
contents_long [] = refl
contents_long (lane ∷ lanes) = ap (λ n. suc n) (contents_long lanes)

empty_at : {T : Type 0} (lanes : List (PlainLane T)) → AllByRecursion (λ (lane : PlainLane T). held lane ≡ []) lanes → (k : ℕ) → get_or (contents lanes) k [] ≡ []
empty_at [] empty k = refl
empty_at (lane ∷ lanes) empty zero = empty.0
empty_at (lane ∷ lanes) empty (suc k) = empty_at lanes empty.1 k

-- over empty lanes
pub nothing_flows : {A T : Type 0} (xs : List A) (lanes : List (PlainLane T)) → length lanes ≡ length xs → AllByRecursion (λ (lane : PlainLane T). held lane ≡ []) lanes → nothing_for xs ≡ joined (nothing_for xs) (contents lanes)
nothing_flows {A} {T} xs lanes long empty =
    sym (joined_empty (nothing_for xs) (contents lanes) (let a = contents_long lanes in let b = nothing_long T xs in omega (arith, a, b, long)) (empty_at lanes empty))

-- jobs of outputs that have taken nothing
pub jobs_begin : {D : Type 0} (w : DiskWords D) (start : Option (ℕ × Key)) (dumpers : List DumperState) (disks : List D) (jobs : List (StagedDisk D)) → AllThree (IsJobOf start) dumpers disks jobs
    → AllZip (λ job items. (dump_account w).got job 1 items) jobs (nothing_for jobs)
jobs_begin w start [] [] [] all = tt
jobs_begin w start [] [] (j ∷ jobs) all = absurd all
jobs_begin w start [] (o ∷ disks) jobs all = absurd all
jobs_begin w start (d ∷ dumpers) [] jobs all = absurd all
jobs_begin w start (d ∷ dumpers) (o ∷ disks) [] all = absurd all
jobs_begin w start (d ∷ dumpers) (o ∷ disks) (j ∷ jobs) all =
    (subst (λ (b : Bool). EndsAs closes_dump_window 1 b []) (sym all.0.fresh) (let none : count_by closes_dump_window [] + 1 ≡ 1 = refl in none), jobs_begin w start dumpers disks jobs all.1)

pub jobs_long : {D : Type 0} (start : Option (ℕ × Key)) (dumpers : List DumperState) (disks : List D) (jobs : List (StagedDisk D)) → AllThree (IsJobOf start) dumpers disks jobs → length jobs ≡ length disks
jobs_long start [] [] [] all = refl
jobs_long start [] [] (j ∷ jobs) all = absurd all
jobs_long start [] (o ∷ disks) jobs all = absurd all
jobs_long start (d ∷ dumpers) [] jobs all = absurd all
jobs_long start (d ∷ dumpers) (o ∷ disks) [] all = absurd all
jobs_long start (d ∷ dumpers) (o ∷ disks) (j ∷ jobs) all = ap (λ n. suc n) (jobs_long start dumpers disks jobs all.1)

-- nothing was sent or given
pub line_begins : {N M D : Type 0} (a : Sender N NodeItem) (m : Passer M NodeItem DumpItem) (w : DiskWords D) (nodes : List N) (ins : List (PlainLane NodeItem)) (merge : M) (outs : List (PlainLane DumpItem))
    (start : Option (ℕ × Key)) (dumpers : List DumperState) (disks : List D) (jobs : List (StagedDisk D)) → AllThree (IsJobOf start) dumpers disks jobs
    → length ins ≡ length nodes → length outs ≡ length disks → length (m.took merge) ≡ length nodes → length (m.gave merge) ≡ length disks
    → AllByRecursion (λ (lane : PlainLane NodeItem). held lane ≡ []) ins → AllByRecursion (λ (lane : PlainLane DumpItem). held lane ≡ []) outs
    → AllZip (λ node items. a.sent node 1 items) nodes (nothing_for nodes) → m.did merge 1 (nothing_for nodes) (nothing_for disks)
    → IsBegun a m (dump_account w) (line_with nodes ins merge outs jobs)
line_begins a m w nodes ins merge outs start dumpers disks jobs made ins_long outs_long took gave ins_empty outs_empty sent did =
    let long = jobs_long start dumpers disks jobs made in
    record {
      fits = record { nodes = sym ins_long; dumps = long ∙ sym outs_long; took = took ∙ sym ins_long; gave = gave ∙ sym outs_long };
      flow = record {
        sends = nothing_for nodes;
        takes = nothing_for nodes;
        gives = nothing_for jobs;
        gets = nothing_for jobs;
        of_nodes = sent;
        of_merge = subst (λ gives. m.did merge 1 (nothing_for nodes) gives) (same_nothing disks jobs (sym long)) did;
        of_dumps = jobs_begin w start dumpers disks jobs made;
        ins_hold = nothing_flows nodes ins ins_long ins_empty;
        outs_hold = nothing_flows jobs outs (outs_long ∙ sym long) outs_empty;
      };
      gets = refl;
    }

-- every output is ready
pub all_ready : {D : Type 0} (w : DiskWords D) → IsTrue w.tells → ((disk : D) → w.may_leave disk (w.seen disk)) → (plan : OutputPlan) (txns : List Transaction) (start : Option (ℕ × Key)) (from : ℕ)
    (olds : List D) (dumpers : List DumperState) (disks : List D) (jobs : List (StagedDisk D)) → AllThree (IsOutOpened w.tells w.seen w.synced w.pending) olds dumpers disks → AllThree (IsJobOf start) dumpers disks jobs
    → AllByRecursion (λ (disk : D). Each (w.may_leave disk) (KeepsFrom plan txns 0)) olds → StartsSoundly txns start → AllByRecursion (λ (dumper : DumperState). from ≤ dumper.published.count) dumpers
    → AllByRecursion (λ (job : StagedDisk D). IsReadyFor w plan txns from job.stage job.disk) jobs
all_ready w told seen_may_stay plan txns start from [] [] [] [] opened made each sound few = tt
all_ready w told seen_may_stay plan txns start from [] [] [] (j ∷ jobs) opened made each sound few = absurd made
all_ready w told seen_may_stay plan txns start from [] [] (o ∷ disks) jobs opened made each sound few = absurd opened
all_ready w told seen_may_stay plan txns start from [] (d ∷ dumpers) disks jobs opened made each sound few = absurd opened
all_ready w told seen_may_stay plan txns start from (x ∷ olds) [] disks jobs opened made each sound few = absurd opened
all_ready w told seen_may_stay plan txns start from (x ∷ olds) (d ∷ dumpers) [] jobs opened made each sound few = absurd opened
all_ready w told seen_may_stay plan txns start from (x ∷ olds) (d ∷ dumpers) (o ∷ disks) [] opened made each sound few = absurd made
all_ready {D} w told seen_may_stay plan txns start from (x ∷ olds) (d ∷ dumpers) (o ∷ disks) (j ∷ jobs) opened made each sound few = (
  opened_ready w told seen_may_stay plan txns start from x d j (subst (λ (v : D). IsOutOpened w.tells w.seen w.synced w.pending x d v) (sym made.0.of_disk) opened.0) (subst (λ (v : D). IsJobOf start d v j) (sym made.0.of_disk) made.0)
      each.0 sound few.0,
  all_ready w told seen_may_stay plan txns start from olds dumpers disks jobs opened.1 made.1 each.1 sound few.1,
)

-- the disks of jobs are those that were opened
pub disks_back : {D : Type 0} (start : Option (ℕ × Key)) (dumpers : List DumperState) (disks : List D) (jobs : List (StagedDisk D)) → AllThree (IsJobOf start) dumpers disks jobs → map (λ (job : StagedDisk D). job.disk) jobs ≡ disks
disks_back start [] [] [] all = refl
disks_back start [] [] (j ∷ jobs) all = absurd all
disks_back start [] (o ∷ disks) jobs all = absurd all
disks_back start (d ∷ dumpers) [] jobs all = absurd all
disks_back start (d ∷ dumpers) (o ∷ disks) [] all = absurd all
disks_back {D} start (d ∷ dumpers) (o ∷ disks) (j ∷ jobs) all = ap (λ (v : D). v ∷ map (λ (job : StagedDisk D). job.disk) jobs) all.0.of_disk ∙ ap (λ (rest : List D). o ∷ rest) (disks_back start dumpers disks jobs all.1)
