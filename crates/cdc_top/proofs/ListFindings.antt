-- From what `list` came to, to what the call met with and wrote.
use Rattle.std.proofs.Common.{◌≡◌, ℕ, ◌-◌, Bool, true, false, IsTrue, List, Option, Some, None, refl, sym, ◌∙◌, subst, inl, inr, arith}
use Rattle.cdc_config.specs.declared.command.Command.TheVariants as command
use Rattle.cdc_config.specs.declared.command.ConfigKey.{ConfigKey}
use Rattle.cdc_config.specs.Words.{command_from}
use Rattle.cdc_outside.specs.Count.{Rose}
use Rattle.cdc_outside.specs.Disk.{Image}
use Rattle.cdc_dumper.specs.declared.fault.OpenFault.{OpenFault}
use Rattle.cdc_dumper.specs.declared.fault.OpenFault.TheVariants.{DiskFault}
use Rattle.cdc_dumper.specs.Opening.{IsFound}
use Rattle.cdc_recovery.specs.Laws.{ImageHasOneFront}
use Rattle.cdc_list.specs.declared.list_end.ListEnd.{ListEnd}
use Rattle.cdc_list.specs.declared.list_end.ListEnd.TheVariants as list
use Rattle.cdc_list.specs.Listing.{AreOpenable, IsListing, IsListEnd, image_of}
use Rattle.cdc_list.proofs.Zips.{zip_each}
use Rattle.cdc_list.proofs.Complete.{openable_is, openable_at}
use Rattle.cdc_top.specs.declared.config.ConfigStop.{ConfigStop}
use Rattle.cdc_top.specs.declared.config.ConfigStop.TheVariants as stop
use Rattle.cdc_top.specs.declared.findings.Findings.{Findings}
use Rattle.cdc_top.specs.Words.{IsList}
use Rattle.cdc_top.specs.Order.{findings_of_config, findings_of_listing, answer_of}
use Rattle.cdc_top.specs.Call.{TopCall, ConfigRun, OutsRun, listing_of, AreTextFindings, AreListFindings, IsAccepted, IsLeastUnopened, AreFindings, WroteFor, IsOpenList}
use Rattle.cdc_top.specs.Listed.{IsListCall}
use Rattle.cdc_top.specs.Planning.{IsNoPlan}
use Rattle.cdc_top.proofs.Facts.{apart, list_is_command, is_some_command, no_list_print}

-- a configuration is refused for a key, or not
pub other_key : {found : Option ConfigKey} (key : ConfigKey) → found ≡ Some key → found ≡ None → ⊥
other_key key some none = absurd (let both : Some key ≡ None = sym some ∙ none in cc)

-- an out that can be opened is unopened for its disk alone
pub only_its_disk : ImageHasOneFront → (call : TopCall) (out : ℕ) (fault : OpenFault) → IsOpenList call → IsLeastUnopened call.config call.outs out fault → fault ≡ DiskFault
only_its_disk law call out fault clean closed =
    openable_is law (image_of call.outs.images out) fault
    (openable_at call.outs.images (out - 1) clean.openable (omega (arith, closed.least.first, closed.least.last))) (closed.least.refused clean.outs_told)

-- contents that have a text can be opened
listing_opens : (images : List Image) (text : List ℕ) → IsListing images text → AreOpenable images
listing_opens images text listing = zip_each IsFound images listing.fronts listing.found

-- ---- what was met with

no_plan_met : (config : ConfigRun) (outs : OutsRun) (why : ConfigStop) → IsNoPlan config why → AreListFindings config outs (findings_of_config why)
no_plan_met config outs stop.Unread is = record { unread = λ u. is; refused = tt; unopened = tt; failed = tt; all = λ h. absurd (apart h.read) }
no_plan_met config outs (stop.Refused key) is =
    record { unread = λ u. absurd (apart (sym u)); refused = is; unopened = tt; failed = tt; all = λ h. absurd (let e = h.accepted in cc) }
no_plan_met config outs stop.Memory is = record { unread = λ u. absurd (apart (sym u)); refused = tt; unopened = tt; failed = tt; all = λ h. absurd (apart h.memory) }

listing_met : (shown : Bool) (call : TopCall) (end : ListEnd) → IsAccepted call.config → IsListEnd call.outs.told shown (listing_of call) end
    → AreListFindings call.config call.outs (findings_of_listing end)
listing_met shown call list.Done accepted e = record {
  unread = λ u. absurd (apart (sym u));
  refused = tt;
  unopened = tt;
  failed = tt;
  all = λ h. record { opened = λ t. listing_opens call.outs.images (e t).0 (e t).1; accepted = accepted };
}
listing_met shown call (list.Unopened out fault) accepted e = record {
  unread = λ u. absurd (apart (sym u));
  refused = tt;
  unopened = record { least = e.0; accepted = accepted };
  failed = tt;
  all = λ h. absurd (let f = h.opened in cc);
}
listing_met shown call (list.Disk out) accepted e = record {
  unread = λ u. absurd (apart (sym u));
  refused = tt;
  unopened = tt;
  failed = record { rose = e.0.0; opened = e.0.1; accepted = accepted };
  all = λ h. absurd (let f = h.lasted in cc);
}
listing_met shown call list.Memory accepted e =
    record { unread = λ u. absurd (apart (sym u)); refused = tt; unopened = tt; failed = tt; all = λ h. absurd (apart h.memory) }
listing_met shown call list.Sink accepted e = record {
  unread = λ u. absurd (apart (sym u));
  refused = tt;
  unopened = tt;
  failed = tt;
  all = λ h. record { opened = λ t. listing_opens call.outs.images (e.1 t).0 (e.1 t).1; accepted = accepted };
}

-- nothing else was
list_found : (told : Bool) (call : TopCall) (found : Findings) → IsList call.words → found.usage ≡ false → AreTextFindings found → found.passed ≡ None
    → AreListFindings call.config call.outs found → (found.sink ≡ true → Rose call.run.faults_before call.run.faults_now) → AreFindings told call found
list_found told call found l no_usage bare unpassed met sink = record {
  usage = λ u. absurd (apart (sym u ∙ no_usage));
  command = λ u w. list_is_command call.words l;
  words = λ none. absurd (is_some_command (command_from call.words) (list_is_command call.words l) none);
  print = λ p. absurd (no_list_print call.words l p);
  other = inr bare;
  list = λ q. met;
  no_list = inl l;
  no_pass = unpassed;
  sink = sink;
}

no_plan_found : (told : Bool) (call : TopCall) (why : ConfigStop) → IsList call.words → IsNoPlan call.config why → AreFindings told call (findings_of_config why)
no_plan_found told call stop.Unread l is =
    list_found told call _ l refl (record { unread = refl; oversized = refl; faulty = refl }) refl (no_plan_met call.config call.outs stop.Unread is) (λ s. absurd (apart (sym s)))
no_plan_found told call (stop.Refused key) l is =
    list_found told call _ l refl (record { unread = refl; oversized = refl; faulty = refl }) refl (no_plan_met call.config call.outs (stop.Refused key) is) (λ s. absurd (apart (sym s)))
no_plan_found told call stop.Memory l is =
    list_found told call _ l refl (record { unread = refl; oversized = refl; faulty = refl }) refl (no_plan_met call.config call.outs stop.Memory is) (λ s. absurd (apart (sym s)))

listing_found : (told shown : Bool) (call : TopCall) (end : ListEnd) → IsList call.words → IsAccepted call.config → IsListEnd call.outs.told shown (listing_of call) end
    → AreFindings told call (findings_of_listing end)
listing_found told shown call list.Done l accepted e =
    list_found told call _ l refl (record { unread = refl; oversized = refl; faulty = refl }) refl (listing_met shown call list.Done accepted e) (λ s. absurd (apart (sym s)))
listing_found told shown call (list.Unopened out fault) l accepted e =
    list_found told call _ l refl (record { unread = refl; oversized = refl; faulty = refl }) refl (listing_met shown call (list.Unopened out fault) accepted e) (λ s. absurd (apart (sym s)))
listing_found told shown call (list.Disk out) l accepted e =
    list_found told call _ l refl (record { unread = refl; oversized = refl; faulty = refl }) refl (listing_met shown call (list.Disk out) accepted e) (λ s. absurd (apart (sym s)))
listing_found told shown call list.Memory l accepted e =
    list_found told call _ l refl (record { unread = refl; oversized = refl; faulty = refl }) refl (listing_met shown call list.Memory accepted e) (λ s. absurd (apart (sym s)))
listing_found told shown call list.Sink l accepted e =
    list_found told call _ l refl (record { unread = refl; oversized = refl; faulty = refl }) refl (listing_met shown call list.Sink accepted e) (λ s. e.0)

pub list_findings : (told shown : Bool) (call : TopCall) (found : Findings) → IsList call.words → IsListCall call.outs.told shown call.config (listing_of call) found
    → AreFindings told call found
list_findings told shown call found l (inl none) = subst (AreFindings told call) (sym none.found_is) (no_plan_found told call none.why l none.is)
list_findings told shown call found l (inr some) =
    subst (AreFindings told call) (sym some.found_is) (listing_found told shown call some.end l some.accepted some.ended)

-- ---- what was written

no_plan_wrote : (told : Bool) (call : TopCall) (why : ConfigStop) → call.run.out_now ≡ call.run.out_before → WroteFor told call (answer_of (findings_of_config why))
no_plan_wrote told call stop.Unread nothing = nothing
no_plan_wrote told call (stop.Refused key) nothing = nothing
no_plan_wrote told call stop.Memory nothing = nothing

listing_wrote : (told shown : Bool) (call : TopCall) (end : ListEnd) → IsList call.words → IsListEnd call.outs.told shown (listing_of call) end → IsTrue shown
    → WroteFor told call (answer_of (findings_of_listing end))
listing_wrote told shown call list.Done l e s = (command.List l.0, l.1, λ t. ((e t).0, (e t).1, (e t).2 s))
listing_wrote told shown call (list.Unopened out fault) l e s = e.1 s
listing_wrote told shown call (list.Disk out) l e s = e.1 s
listing_wrote told shown call list.Memory l e s = e.1 s
listing_wrote told shown call list.Sink l e s = (command.List l.0, l.1, λ t. ((e.1 t).0, (e.1 t).1, (e.1 t).2 s))

pub list_wrote : (told shown : Bool) (call : TopCall) (found : Findings) → IsList call.words → IsListCall call.outs.told shown call.config (listing_of call) found → IsTrue shown
    → WroteFor told call (answer_of found)
list_wrote told shown call found l (inl none) s =
    subst (λ (f : Findings). WroteFor told call (answer_of f)) (sym none.found_is) (no_plan_wrote told call none.why none.nothing)
list_wrote told shown call found l (inr some) s =
    subst (λ (f : Findings). WroteFor told call (answer_of f)) (sym some.found_is) (listing_wrote told shown call some.end l some.ended s)
