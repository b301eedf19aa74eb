-- What a step adds to the logs of all nodes.
use Rattle.std.proofs.Common.{◌≡◌, ◌≤◌, ◌<◌, ◌^◌, ◌+◌, ◌*◌, ◌-◌, ℕ, zero, suc, true, false, Bool, List, [], ◌∷◌, ◌++◌, length, map, refl, sym, ap, ◌∙◌, arith, get_or, lit≤, eq-eqb}
use Rattle.std.proofs.lemmas.Bool.{ne_eqb}
use Rattle.std.specs.Prelude.{◌==◌, if◌then◌else◌, codes}
use Rattle.std.specs.List.{range_with_len, AllByRecursion}
use Rattle.std.proofs.lemmas.List.FromFn.{map-range_with_len_more, get_or-map-range_with_len}
use Rattle.cdc_event.specs.declared.body.Body.{Body}
use Rattle.cdc_event.specs.declared.body.Body.TheVariants.{XaPrepare, Timestamp, Xid}
use Rattle.cdc_event.specs.Number.{low_first}
use Rattle.cdc_event.specs.Event.{header_bytes, body_bytes}
use Rattle.cdc_query.specs.declared.verb.Verb.TheVariants.{XaStart, XaEnd, XaCommit}
use Rattle.cdc_query.specs.Text.{canonical_text}
use Rattle.std.proofs.Math.ListN.{set}
use Rattle.cdc_gen.specs.declared.step.StepKind.TheVariants.{Prepare, Commit, Local, End}
use Rattle.cdc_gen.specs.declared.step.StepKind.{StepKind}
use Rattle.cdc_gen.specs.declared.step.Step.{Step}
use Rattle.cdc_gen.specs.Events.{Unplaced, unplaced, seconds_of, branch_xid, query_body, xa_body, table_body, row_body, prepare_events, commit_events, local_events, end_events, kind_events, step_events}
use Rattle.cdc_gen.specs.Head.{log_head}
use Rattle.cdc_gen.specs.Logs.{size_of_event, with_event, with_events, with_step, with_steps}
use Rattle.cdc_gen.specs.Growing.{growing_logs}
use Rattle.cdc_gen.proofs.Sizes.{start_length, end_length, commit_length, query_placeable, table_placeable, row_placeable, prepare_placeable, timestamp_size, xid_size, with_event_length}

-- steps behind steps
pub with_steps_append : (node : ℕ) (log : List ℕ) (xs ys : List Step) → with_steps node log (xs ++ ys) ≡ with_steps node (with_steps node log xs) ys
with_steps_append node log [] ys = refl
with_steps_append node log (x ∷ xs) ys = with_steps_append node (with_step node log x) xs ys

-- functions that agree from a number on
same_from : {A : Type 0} (f g : ℕ → A) (a n : ℕ) → ((i : ℕ) → a ≤ i → f i ≡ g i) → map f (range_with_len a n) ≡ map g (range_with_len a n)
same_from f g a zero same = refl
same_from f g a (suc n) same =
    let first = same a (omega arith) in
    let rest = same_from f g (a + 1) n (λ i h. same i (omega arith)) in
    cc

-- functions that agree but at one number: their lists differ at its place
one_place : {A : Type 0} (f g : ℕ → A) (a n j : ℕ) → j < n → ((i : ℕ) → (i ≡ a + j → ⊥) → f i ≡ g i) →
    map g (range_with_len a n) ≡ set (map f (range_with_len a n)) j (g (a + j))
one_place f g a zero j h same = absurd (omega arith)
one_place f g a (suc n) zero h same =
    let rest = same_from f g (a + 1) n (λ i l. same i (λ e. omega (arith, e))) in
    let here : a + 0 ≡ a = omega arith in
    rw here (ap (λ tail. g a ∷ tail) (sym rest))
one_place f g a (suc n) (suc j) h same =
    let first = same a (λ e. omega (arith, e)) in
    let there : a + suc j ≡ a + 1 + j = omega arith in
    let rest = one_place f g (a + 1) n j (omega arith) (λ i l. same i (λ e. l (omega (arith, e)))) in
    rw (there, first, rest) refl

-- one head more
pub one_more_head : (nodes : ℕ) (logs : List (List ℕ)) (log : List ℕ) → logs ≡ growing_logs nodes [] → log ≡ log_head → logs ++ log ∷ [] ≡ growing_logs (nodes + 1) []
one_more_head nodes logs log so_far is =
    let head : ℕ → List ℕ = λ node. log_head in
    let more = map-range_with_len_more head 1 nodes (nodes + 1) (omega arith) in
    rw (so_far, is) (sym more)

-- ---- lengths

abbrev pub IsShortEvent : Unplaced → Type 0
IsShortEvent event = size_of_event event ≤ 119

with_events_length : (node : ℕ) (log : List ℕ) (events : List Unplaced) → AllByRecursion IsShortEvent events → length (with_events node log events) ≤ length log + 119 * length events
with_events_length node log [] short = omega arith
with_events_length node log (event ∷ events) short =
    let first = with_event_length node log event in
    let rest = with_events_length node (with_event node log event) events short.1 in
    omega (arith, first, rest, short.0)

short_body : (seconds kind : ℕ) (body : Body) → length (body_bytes body) ≤ 100 → IsShortEvent (unplaced seconds kind body)
short_body seconds kind body h = omega arith

step_length : (kind : StepKind) (number own node : ℕ) (log : List ℕ) → length (with_events node log (kind_events kind number own)) ≤ length log + 595
step_length Prepare number own node log =
    let s = seconds_of number in
    let first = query_placeable (canonical_text (XaStart (branch_xid number own))) (omega (arith, start_length number own)) in
    let last = query_placeable (canonical_text (XaEnd (branch_xid number own))) (omega (arith, end_length number own)) in
    let short : AllByRecursion IsShortEvent (prepare_events number own) = (
      short_body s 2 (xa_body (XaStart (branch_xid number own))) first.short,
      (
        short_body s 19 table_body table_placeable.short,
        (
          short_body s 30 (row_body number) (row_placeable number).short,
          (
            short_body s 2 (xa_body (XaEnd (branch_xid number own))) last.short,
            (short_body s 38 (XaPrepare 0 (branch_xid number own)) (prepare_placeable number own).short, tt),
          ),
        ),
      ),
    )
    in with_events_length node log (prepare_events number own) short
step_length Commit number own node log =
    let s = seconds_of number in
    let last = query_placeable (canonical_text (XaCommit (branch_xid number own))) (omega (arith, commit_length number own)) in
    let short : AllByRecursion IsShortEvent (commit_events number own) = (
      short_body s 200 (Timestamp 1 (10 * number)) (omega (arith, timestamp_size 1 (10 * number))),
      (short_body s 2 (xa_body (XaCommit (branch_xid number own))) last.short, tt),
    )
    in omega (arith, with_events_length node log (commit_events number own) short)
step_length Local number own node log =
    let s = seconds_of number in
    let short : AllByRecursion IsShortEvent (local_events number) = (
      short_body s 200 (Timestamp 2 (10 * number)) (omega (arith, timestamp_size 2 (10 * number))),
      (
        short_body s 2 (query_body (codes "BEGIN")) (query_placeable (codes "BEGIN") (lit≤ tt)).short,
        (
          short_body s 19 table_body table_placeable.short,
          (
            short_body s 30 (row_body number) (row_placeable number).short,
            (short_body s 16 (Xid number) (omega (arith, xid_size number)), tt),
          ),
        ),
      ),
    )
    in with_events_length node log (local_events number) short
step_length End number own node log =
    let short : AllByRecursion IsShortEvent (end_events number) = (short_body 0 200 (Timestamp 2 (10 * number + 1)) (omega (arith, timestamp_size 2 (10 * number + 1))), tt)
    in omega (arith, with_events_length node log (end_events number) short)

own_step_length : (own : Bool) (node : ℕ) (log : List ℕ) (step : Step) → length (if own then with_events node log (step_events step) else log) ≤ length log + 595
own_step_length true node log step = step_length step.kind step.number step.node node log
own_step_length false node log step = omega arith

-- how long a log is at most
pub log_length : (node : ℕ) (log : List ℕ) (steps : List Step) → length (with_steps node log steps) ≤ length log + 595 * length steps
log_length node log [] = omega arith
log_length node log (step ∷ steps) =
    let first = own_step_length (step.node == node) node log step in
    let rest = log_length node (with_step node log step) steps in
    omega (arith, first, rest)

pub head_length : length log_head ≡ 123
unfolding log_head header_bytes body_bytes low_first
head_length = refl

-- ---- one step more

other_log : (own : Bool) (node : ℕ) (log : List ℕ) (step : Step) → own ≡ false → (if own then with_events node log (step_events step) else log) ≡ log
other_log true node log step h = cc
other_log false node log step h = refl

own_log : (own : Bool) (node : ℕ) (log : List ℕ) (step : Step) → own ≡ true → (if own then with_events node log (step_events step) else log) ≡ with_events node log (step_events step)
own_log true node log step h = refl
own_log false node log step h = cc

pub put_adds : (nodes : ℕ) (steps : List Step) (step : Step) (log : List ℕ) → 1 ≤ step.node → step.node ≤ nodes →
    log ≡ with_events step.node (with_steps step.node log_head steps) (step_events step) →
    set (growing_logs nodes steps) (step.node - 1) log ≡ growing_logs nodes (steps ++ step ∷ [])
put_adds nodes steps step log first last is =
    let before : ℕ → List ℕ = λ node. with_steps node log_head steps in
    let behind : ℕ → List ℕ = λ node. with_steps node log_head (steps ++ step ∷ []) in
    let there : 1 + (step.node - 1) ≡ step.node = omega arith in
    let others = λ (i : ℕ) (h : i ≡ 1 + (step.node - 1) → ⊥).
    let apart : step.node == i ≡ false = ne_eqb step.node i (λ e. h (omega (arith, e))) in
    sym (with_steps_append i log_head steps (step ∷ []) ∙ other_log (step.node == i) i (before i) step apart) in
    let changed = one_place before behind 1 nodes (step.node - 1) (omega arith) others in
    let own = with_steps_append step.node log_head steps (step ∷ []) ∙ own_log (step.node == step.node) step.node (before step.node) step (eq-eqb step.node step.node refl) in
    let here : behind (1 + (step.node - 1)) ≡ log = ap behind there ∙ own ∙ sym is in
    ap (λ new. set (growing_logs nodes steps) (step.node - 1) new) (sym here) ∙ sym changed

-- a node's log is at its place
pub log_there : (nodes : ℕ) (steps : List Step) (node : ℕ) (other : List ℕ) → 1 ≤ node → node ≤ nodes → get_or (growing_logs nodes steps) (node - 1) other ≡ with_steps node log_head steps
log_there nodes steps node other first last =
    let of : ℕ → List ℕ = λ node. with_steps node log_head steps in
    get_or-map-range_with_len of 1 nodes (node - 1) node other (omega arith) (omega arith)

-- a step is appended to its node's log
pub put_into : (nodes : ℕ) (steps : List Step) (step : Step) (logs : List (List ℕ)) (log new : List ℕ) → logs ≡ growing_logs nodes steps → 1 ≤ step.node → step.node ≤ nodes →
    log ≡ with_steps step.node log_head steps → new ≡ with_events step.node log (step_events step) →
    set logs (step.node - 1) new ≡ growing_logs nodes (steps ++ step ∷ [])
put_into nodes steps step logs log new same first last is e =
    ap (λ before. set before (step.node - 1) new) same
    ∙ put_adds nodes steps step new first last (e ∙ ap (λ front. with_events step.node front (step_events step)) is)

-- and it has room for the step
pub has_room : (node : ℕ) (log : List ℕ) (steps : List Step) → length steps + 1 ≤ 1000000 → log ≡ with_steps node log_head steps → length log + 595 < 2 ^ 32
has_room node log steps few is =
    let long = ap length is in
    let most = log_length node log_head steps in
    omega (arith, long, most, head_length)
