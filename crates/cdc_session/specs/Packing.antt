-- How the packets of a reply are gathered and sent.
use Rattle.std.specs.Prelude.{◌≡◌, ℕ, List, ◌++◌, Result, Ok, Err}
use Rattle.cdc_session.specs.declared.dump_stop.DumpStop.{DumpStop}
use Rattle.cdc_session.specs.Reply.{packets_from, sequence_after}

-- of the bytes that were held back and those behind them a front went out, and the rest is held back
pub record GoesOut (before was bytes now held : List ℕ) : Type 0 where
  pub front : List ℕ
  pub sent : now ≡ before ++ front
  pub whole : was ++ bytes ≡ front ++ held

-- of the bytes that were held back and those behind them a front went out
pub record Breaks (before was bytes now : List ℕ) : Type 0 where
  pub front : List ℕ
  pub rest : List ℕ
  pub sent : now ≡ before ++ front
  pub whole : was ++ bytes ≡ front ++ rest

-- bytes were sent, or gathered behind those that were held back
abbrev pub Gathers : {X : Type 0} → List ℕ → List ℕ → List ℕ → List ℕ → List ℕ → Result X DumpStop → Type 0
Gathers before was bytes now held (Ok done) = GoesOut before was bytes now held
Gathers before was bytes now held (Err stop) = Breaks before was bytes now

-- the packets of payloads were sent, or gathered behind the bytes that were held back
pub record Packed (before was : List ℕ) (sequence : ℕ) (payloads : List (List ℕ)) (now held : List ℕ) (next : ℕ) : Type 0 where
  pub out : GoesOut before was (packets_from sequence payloads) now held
  pub next_is : next ≡ sequence_after sequence payloads

-- so they were, or a front of them was sent
abbrev pub Packs : {X : Type 0} → List ℕ → List ℕ → ℕ → List (List ℕ) → List ℕ → List ℕ → ℕ → Result X DumpStop → Type 0
Packs before was sequence payloads now held next (Ok done) = Packed before was sequence payloads now held next
Packs before was sequence payloads now held next (Err stop) = Breaks before was (packets_from sequence payloads) now

-- all bytes that were held back and those behind them were sent, or a front of them
abbrev pub SendsRest : {X : Type 0} → List ℕ → List ℕ → List ℕ → List ℕ → Result X DumpStop → Type 0
SendsRest before was bytes now (Ok done) = now ≡ before ++ (was ++ bytes)
SendsRest before was bytes now (Err stop) = Breaks before was bytes now
