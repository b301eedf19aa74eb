-- The grammar of a node's log as a machine, for proofs: what a run over events comes to.
use Rattle.std.specs.Prelude.{ℕ, List, [], ◌∷◌, Option, Some, None}
use Rattle.std.specs.List.{cons_option}
use Rattle.cdc_model.specs.declared.fault.GroupFault.{GroupFault}
use Rattle.cdc_model.specs.Records.{LogEntry}
use Rattle.cdc_model.specs.Sign.{SignedEvent}
use Rattle.cdc_model.specs.Group.{Progress}
use Rattle.cdc_model.specs.Misfit.{misfit}
use Rattle.cdc_model.specs.Advance.{advance, entry_given}

-- how a run ends: all events fit, and an unfinished item has come so far; or an event doesn't fit
pub data Ending : Type 0 where
  Reached : Progress → Ending
  Misplaced : SignedEvent → GroupFault → Ending

-- an event that the table has a fault for ends the run, and any other gives its entry, if it ends one, before those of later events
abbrev pub judged : SignedEvent → Option GroupFault → Option LogEntry → List LogEntry × Ending → List LogEntry × Ending
judged event None entry later = (cons_option entry later.0, later.1)
judged event (Some fault) entry later = ([], Misplaced event fault)

-- the entries of events of file `file` from a progress on, and how the run ends
abbrev pub outcome : ℕ → Progress → List SignedEvent → List LogEntry × Ending
outcome file progress [] = ([], Reached progress)
outcome file progress (event ∷ events) =
    judged event (misfit progress event.sign) (entry_given file progress event) (outcome file (advance progress event.sign) events)
