-- The whole of a window: the jobs and the lanes between them, what goes through the lanes, and how it ends.
use Rattle.std.specs.Prelude.{◌≡◌, ◌≢◌, ℕ, ◌+◌, ◌*◌, ◌≤◌, ◌<◌, ◌⊎◌, Bool, true, false, List, [], length, map, get_or}
use Rattle.std.specs.List.{AllZip, All, sum_by}
use Rattle.cdc_lane.specs.declared.plain.PlainLane.{PlainLane}
use Rattle.cdc_lane.specs.Held.{held}
use Rattle.cdc_turns.specs.Account.{Sender, Passer, Taker}
use Rattle.cdc_turns.specs.Joined.{joined, total, contents, AllTurned}
use Rattle.cdc_turns.specs.Turns.{one_if}

-- the jobs of a pass and the lanes between them, at one moment
pub record Line (N M D T U : Type 0) : Type 0 where
  pub nodes : List N
  pub ins : List (PlainLane T)
  pub merge : M
  pub outs : List (PlainLane U)
  pub dumps : List D

-- these, as one
abbrev pub line_with : {N M D T U : Type 0} → List N → List (PlainLane T) → M → List (PlainLane U) → List D → Line N M D T U
line_with nodes ins merge outs dumps = record { nodes = nodes; ins = ins; merge = merge; outs = outs; dumps = dumps }

-- each job has its lane, and the merge job knows how many there are
pub record LanesFit {N M D T U : Type 0} (m : Passer M T U) (line : Line N M D T U) : Type 0 where
  pub nodes : length line.nodes ≡ length line.ins
  pub dumps : length line.dumps ≡ length line.outs
  pub took : length (m.took line.merge) ≡ length line.ins
  pub gave : length (m.gave line.merge) ≡ length line.outs

-- at each moment of a window: on each lane what was taken, followed by what the lane holds, is what was sent
pub record Flow {N M D T U : Type 0} (a : Sender N T) (m : Passer M T U) (d : Taker D U) (window : ℕ) (line : Line N M D T U) : Type 0 where
  pub sends : List (List T)
  pub takes : List (List T)
  pub gives : List (List U)
  pub gets : List (List U)
  pub of_nodes : AllZip (λ node items. a.sent node window items) line.nodes sends
  pub of_merge : m.did line.merge window takes gives
  pub of_dumps : AllZip (λ dump items. d.got dump window items) line.dumps gets
  pub ins_hold : sends ≡ joined takes (contents line.ins)
  pub outs_hold : gives ≡ joined gets (contents line.outs)

-- at a window's end: what was sent was taken, what was given was got, all have ended, and the lanes are empty
pub record Ran {N M D T U : Type 0} (a : Sender N T) (m : Passer M T U) (d : Taker D U) (window : ℕ) (line : Line N M D T U) : Type 0 where
  pub sends : List (List T)
  pub gives : List (List U)
  pub of_nodes : AllZip (λ node items. a.sent node window items) line.nodes sends
  pub of_merge : m.did line.merge window sends gives
  pub of_dumps : AllZip (λ dump items. d.got dump window items) line.dumps gives
  pub nodes_ended : All (λ node. a.ended node ≡ true) line.nodes
  pub merge_ended : m.ended line.merge ≡ true
  pub dumps_ended : All (λ dump. d.ended dump ≡ true) line.dumps
  pub ins_empty : All (λ lane. held lane ≡ []) line.ins
  pub outs_empty : All (λ lane. held lane ≡ []) line.outs

-- the work that is left, of jobs and of items on lanes
abbrev pub work_left : {N M D T U : Type 0} → Sender N T → Passer M T U → Taker D U → Line N M D T U → ℕ
work_left a m d line =
    sum_by (λ node. a.work node (m.weight line.merge d.price)) line.nodes
    + m.weight line.merge d.price * total (contents line.ins)
    + m.work line.merge d.price
    + d.price * total (contents line.outs)
    + sum_by d.work line.dumps

-- all by which a job waits: which Ends have come, and what the lanes hold
pub record View (T U : Type 0) : Type 0 where
  pub nodes : List Bool
  pub ins : List (List T)
  pub took : List Bool
  pub gave : List Bool
  pub over : Bool
  pub outs : List (List U)
  pub dumps : List Bool

-- these, as one
abbrev pub view_by : {T U : Type 0} → List Bool → List (List T) → List Bool → List Bool → Bool → List (List U) → List Bool → View T U
view_by nodes ins took gave over outs dumps = record { nodes = nodes; ins = ins; took = took; gave = gave; over = over; outs = outs; dumps = dumps }

-- of jobs and lanes
abbrev pub view_of : {N M D T U : Type 0} → Sender N T → Passer M T U → Taker D U → Line N M D T U → View T U
view_of a m d line = view_by (map a.ended line.nodes) (contents line.ins) (m.took line.merge) (m.gave line.merge) (m.ended line.merge) (contents line.outs) (map d.ended line.dumps)

-- a window flows on, and what the outs' jobs got since are these items
pub record FlowsOn {N M D T U : Type 0} (a : Sender N T) (m : Passer M T U) (d : Taker D U) (window : ℕ) (old new : Line N M D T U) (taken : List (List U)) (before : Flow a m d window old) : Type 0 where
  pub flow : Flow a m d window new
  pub gets : flow.gets ≡ joined before.gets taken

-- a window has run to its end, and what the outs' jobs got since are these items
pub record RanOn {N M D T U : Type 0} (a : Sender N T) (m : Passer M T U) (d : Taker D U) (window : ℕ) (old new : Line N M D T U) (taken : List (List U)) (before : Flow a m d window old) : Type 0 where
  pub ran : Ran a m d window new
  pub gives : ran.gives ≡ joined before.gets taken

-- the next window begins where this one ended: what the outs' jobs got is what was given
pub record NextFlow {N M D T U : Type 0} (a : Sender N T) (m : Passer M T U) (d : Taker D U) (window : ℕ) (old new : Line N M D T U) (ran : Ran a m d window old) : Type 0 where
  pub flow : Flow a m d (window + 1) new
  pub gets : flow.gets ≡ ran.gives

-- the first becomes the second by some turns, and something has moved or nothing
pub record Steps {N M D T U : Type 0} (a : Sender N T) (m : Passer M T U) (d : Taker D U) (old new : Line N M D T U) (moved : Bool) : Type 0 where
  pub fits : LanesFit m old → LanesFit m new
  pub nodes : length new.nodes ≡ length old.nodes
  pub dumps : length new.dumps ≡ length old.dumps
  -- what each out's job took
  pub taken : List (List U)
  pub flow : (window : ℕ) (before : Flow a m d window old) → FlowsOn a m d window old new taken before
  pub cost : work_left a m d new + one_if moved ≤ work_left a m d old
  pub still : moved ≡ false → view_of a m d new ≡ view_of a m d old
  pub turned_nodes : AllZip a.turned old.nodes new.nodes
  pub turned_merge : m.turned old.merge new.merge
  pub turned_dumps : AllTurned d.turned old.dumps taken new.dumps

-- a node's job rests: it has ended, or its lane holds something
abbrev pub NodeRests : {T U : Type 0} → View T U → ℕ → Type 0
NodeRests view index = (get_or view.nodes index true ≡ true) ⊎ ((get_or view.nodes index true ≡ false) × (get_or view.ins index [] ≢ []))

-- an out's job rests: it has ended, or its lane is empty
abbrev pub DumpRests : {T U : Type 0} → View T U → ℕ → Type 0
DumpRests view index = (get_or view.dumps index true ≡ true) ⊎ ((get_or view.dumps index true ≡ false) × (get_or view.outs index [] ≡ []))

-- the merge job waits for a node: its lane is empty, and its End is to come
pub record AwaitsNode {T U : Type 0} (view : View T U) : Type 0 where
  pub index : ℕ
  pub within : index < length view.ins
  pub empty : get_or view.ins index [] ≡ []
  pub open_still : get_or view.took index true ≡ false

-- it waits for an out: its lane holds something, and wants its End
pub record AwaitsOut {T U : Type 0} (view : View T U) : Type 0 where
  pub index : ℕ
  pub within : index < length view.outs
  pub held_still : get_or view.outs index [] ≢ []
  pub open_still : get_or view.gave index true ≡ false

-- the merge job rests
abbrev pub MergeRests : {T U : Type 0} → View T U → Type 0
MergeRests view = (view.over ≡ true) ⊎ (AwaitsNode view ⊎ AwaitsOut view)

-- the job of a number rests: the nodes' jobs come first, then the merge job, then the outs' jobs
pub record RestsAt {T U : Type 0} (view : View T U) (number : ℕ) : Type 0 where
  pub node : number < length view.nodes → NodeRests view number
  pub merge : number ≡ length view.nodes → MergeRests view
  pub dump : (index : ℕ) → number ≡ length view.nodes + 1 + index → index < length view.dumps → DumpRests view index
