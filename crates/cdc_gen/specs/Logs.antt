-- The logs of a drill: each node's file has the events of its own steps, in order, each at its true place.
use Rattle.std.specs.Prelude.{ℕ, ◌+◌, ◌==◌, List, [], ◌∷◌, ◌++◌, length, map, if◌then◌else◌}
use Rattle.std.specs.List.{range_with_len}
use Rattle.cdc_event.specs.declared.header.Header.{Header}
use Rattle.cdc_event.specs.declared.event.Event.{Event}
use Rattle.cdc_event.specs.Event.{body_bytes, event_bytes}
use Rattle.cdc_gen.specs.Head.{log_head}
use Rattle.cdc_gen.specs.declared.step.Step.{Step}
use Rattle.cdc_gen.specs.Events.{Unplaced, step_events}
use Rattle.cdc_gen.specs.Script.{drill_steps}

-- how many bytes an event has
abbrev pub size_of_event : Unplaced → ℕ
size_of_event event = 19 + length (body_bytes event.body)

-- its header at a place of a node's log
abbrev pub placed_header : ℕ → ℕ → Unplaced → Header
placed_header node at event = record {
  seconds = event.seconds;
  kind = event.kind;
  server = 100 + node;
  length = size_of_event event;
  next = at + size_of_event event;
  flags = 0;
}

-- an event of a node at its place
abbrev pub event_placed : ℕ → ℕ → Unplaced → Event
event_placed node at event = record { header = placed_header node at event; body = event.body }

-- a node's log with one event more
unfoldable pub with_event : ℕ → List ℕ → Unplaced → List ℕ
with_event node log event = log ++ event_bytes (event_placed node (length log) event)

-- and with more of them
abbrev pub with_events : ℕ → List ℕ → List Unplaced → List ℕ
with_events node log [] = log
with_events node log (event ∷ events) = with_events node (with_event node log event) events

-- a node's log with a step more, where the step is the node's own
abbrev pub with_step : ℕ → List ℕ → Step → List ℕ
with_step node log step = if step.node == node then with_events node log (step_events step) else log

-- and with more of them
abbrev pub with_steps : ℕ → List ℕ → List Step → List ℕ
with_steps node log [] = log
with_steps node log (step ∷ steps) = with_steps node (with_step node log step) steps

-- the log of one node: a file's head, and its events
abbrev pub drill_log : ℕ → ℕ → ℕ → ℕ → List ℕ
drill_log seed nodes count node = with_steps node log_head (drill_steps seed nodes count)

-- the logs of all nodes
abbrev pub drill_logs : ℕ → ℕ → ℕ → List (List ℕ)
drill_logs seed nodes count = map (drill_log seed nodes count) (range_with_len 1 nodes)
