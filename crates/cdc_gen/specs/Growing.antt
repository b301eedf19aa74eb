-- The logs of all nodes while a drill is written.
use Rattle.std.specs.Prelude.{ℕ, ◌≤◌, IsTrue, List, length, map}
use Rattle.std.specs.List.{range_with_len}
use Rattle.cdc_event.specs.declared.body.Body.{Body}
use Rattle.cdc_event.specs.Event.{FitsBody, has_kind, body_bytes}
use Rattle.cdc_gen.specs.Head.{log_head}
use Rattle.cdc_gen.specs.declared.step.Planned.{Planned}
use Rattle.cdc_gen.specs.declared.step.Step.{Step}
use Rattle.cdc_gen.specs.Logs.{with_steps}

-- a body that may stand in an event of this type, and is short
pub record IsPlaceable (kind : ℕ) (body : Body) : Type 0 where
  pub fits : FitsBody body
  pub own : IsTrue (has_kind body kind)
  pub short : length (body_bytes body) ≤ 100

-- a transaction that is planned: its first node is one of so many, and its number within the limit
pub record IsPlanned (nodes : ℕ) (plan : Planned) : Type 0 where
  pub least : 1 ≤ plan.first
  pub most : plan.first ≤ nodes
  pub number : plan.number ≤ 100000

-- the logs of all nodes behind these steps
abbrev pub growing_logs : ℕ → List Step → List (List ℕ)
growing_logs nodes steps = map (λ node. with_steps node log_head steps) (range_with_len 1 nodes)
