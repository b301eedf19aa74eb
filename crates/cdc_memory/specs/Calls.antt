-- Which calls of a device in memory fail. Calls are counted from 1.
use Rattle.std.specs.Prelude.{ℕ, ◌+◌, ◌-◌, ◌^◌, ◌==◌, ◌||◌, ◌↔◌, Bool, IsTrue, IsErr, List, Result, min, if◌then◌else◌, ◌≡◌}
use Rattle.std.specs.List.{list_any}

-- the numbers of the calls that are to fail, the calls so far, and those of them that failed
pub record Calls : Type 0 where
  pub fails : List ℕ
  pub calls : ℕ
  pub faults : ℕ

-- one more, and no more at the type's end
abbrev pub counted : ℕ → ℕ
counted n = min (n + 1) (2 ^ 64 - 1)

-- before the first call
abbrev pub at_first : List ℕ → Calls
at_first fails = record { fails = fails; calls = 0; faults = 0 }

-- whether the next call fails: it is barred, or listed
abbrev pub is_failing : Bool → Calls → Bool
is_failing barred calls = barred || list_any (λ number. number == counted calls.calls) calls.fails

-- the calls, with one more
abbrev pub after_call : Bool → Calls → Calls
after_call barred calls = record { fails = calls.fails; calls = counted calls.calls; faults = if is_failing barred calls then counted calls.faults else calls.faults }

-- a call was counted, and it failed exactly where it is barred or listed
pub record Counts {A E : Type 0} (barred : Bool) (before now : Calls) (result : Result A E) : Type 0 where
  pub after : now ≡ after_call barred before
  pub fails : IsErr result ↔ IsTrue (is_failing barred before)
