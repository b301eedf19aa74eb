-- From a print's end to what the call met with and wrote.
use Rattle.std.proofs.Common.{◌≡◌, Bool, true, false, IsTrue, Some, None, refl, sym, ◌∙◌, inl, inr}
use Rattle.cdc_config.specs.declared.command.Command.TheVariants as command
use Rattle.cdc_config.specs.Words.{command_from}
use Rattle.cdc_outside.specs.Count.{Rose}
use Rattle.cdc_print.specs.declared.end.PrintEnd.{PrintEnd}
use Rattle.cdc_print.specs.declared.end.PrintEnd.TheVariants.{Done, Read, Memory, TooLarge, Fault, Sink}
use Rattle.cdc_print.specs.Outcome.{PrintRun, IsPrintEnd, ComesBehindReading}
use Rattle.cdc_top.specs.Words.{IsPrint}
use Rattle.cdc_top.specs.Order.{findings_of_print, answer_of}
use Rattle.cdc_top.specs.Call.{TopCall, ArePrintFindings, AreOtherFindings, AreFindings, WroteFor}
use Rattle.cdc_top.proofs.Facts.{apart, print_is_command, is_some_command, no_list_print}

-- what a print's end tells was met with
print_met : (told shown : Bool) (run : PrintRun) (end : PrintEnd) → IsPrintEnd told shown run end → ComesBehindReading told run end → ArePrintFindings told run (findings_of_print end)
print_met told shown run Done e o = record {
  unread = tt;
  read = λ h. o;
  oversized = λ t w. (e t).1;
  faulty = λ t w n. (e t).0;
}
print_met told shown run (Read node) e o = record {
  unread = e.0;
  read = λ h. let s : Some node ≡ None = h.sources in absurd (cc);
  oversized = λ t w. let s : Some node ≡ None = w.sources in absurd (cc);
  faulty = λ t w n. let s : Some node ≡ None = w.sources in absurd (cc);
}
print_met told shown run Memory e o = record {
  unread = tt;
  read = λ h. absurd (apart h.memory);
  oversized = λ t w. absurd (apart w.memory);
  faulty = λ t w n. absurd (apart w.memory);
}
print_met told shown run (TooLarge number bytes) e o = record {
  unread = tt;
  read = λ h. o;
  oversized = λ t w. (e t).0;
  faulty = λ t w n. absurd (let s = n in cc);
}
print_met told shown run (Fault node place fault) e o = record {
  unread = tt;
  read = λ h. o;
  oversized = λ t w. (e t).1;
  faulty = λ t w n. (e t).0;
}
print_met told shown run Sink e o = record {
  unread = tt;
  read = λ h. o;
  oversized = λ t w. (e.1 t).1;
  faulty = λ t w n. (e.1 t).0;
}

-- no print's end says that the words are no command
no_usage : (end : PrintEnd) → (findings_of_print end).usage ≡ false
no_usage Done = refl
no_usage (Read node) = refl
no_usage Memory = refl
no_usage (TooLarge number bytes) = refl
no_usage (Fault node place fault) = refl
no_usage Sink = refl

-- a sink that failed had its count rise
sink_rose : (told shown : Bool) (run : PrintRun) (end : PrintEnd) → IsPrintEnd told shown run end → (findings_of_print end).sink ≡ true → Rose run.faults_before run.faults_now
sink_rose told shown run Done e s = absurd (apart (sym s))
sink_rose told shown run (Read node) e s = absurd (apart (sym s))
sink_rose told shown run Memory e s = absurd (apart (sym s))
sink_rose told shown run (TooLarge number bytes) e s = absurd (apart (sym s))
sink_rose told shown run (Fault node place fault) e s = absurd (apart (sym s))
sink_rose told shown run Sink e s = e.0

-- no print's end says anything of a configuration or of outs
no_other : (end : PrintEnd) → AreOtherFindings (findings_of_print end)
no_other Done = record { read = refl; accepted = refl; opened = refl; lasted = refl }
no_other (Read node) = record { read = refl; accepted = refl; opened = refl; lasted = refl }
no_other Memory = record { read = refl; accepted = refl; opened = refl; lasted = refl }
no_other (TooLarge number bytes) = record { read = refl; accepted = refl; opened = refl; lasted = refl }
no_other (Fault node place fault) = record { read = refl; accepted = refl; opened = refl; lasted = refl }
no_other Sink = record { read = refl; accepted = refl; opened = refl; lasted = refl }

-- no print's end says anything of a pass
no_pass : (end : PrintEnd) → (findings_of_print end).passed ≡ None
no_pass Done = refl
no_pass (Read node) = refl
no_pass Memory = refl
no_pass (TooLarge number bytes) = refl
no_pass (Fault node place fault) = refl
no_pass Sink = refl

-- what `print` met with
pub print_findings : (told shown : Bool) (call : TopCall) (end : PrintEnd) → IsPrint call.words → IsPrintEnd told shown call.run end → ComesBehindReading told call.run end
    → AreFindings told call (findings_of_print end)
print_findings told shown call end p e o = record {
  usage = λ u. absurd (apart (sym u ∙ no_usage end));
  command = λ u w. print_is_command call.words p;
  words = λ none. absurd (is_some_command (command_from call.words) (print_is_command call.words p) none);
  print = λ q. print_met told shown call.run end e o;
  other = inl p;
  list = λ l. absurd (no_list_print call.words l p);
  no_list = inr (no_other end);
  no_pass = no_pass end;
  sink = sink_rose told shown call.run end e;
}

-- what `print` wrote
pub print_wrote : (told shown : Bool) (call : TopCall) (end : PrintEnd) → IsPrint call.words → IsPrintEnd told shown call.run end → IsTrue shown
    → WroteFor told call (answer_of (findings_of_print end))
print_wrote told shown call Done p e s = (command.Print p.0, p.1, λ t. (e t).2 s)
print_wrote told shown call (Read node) p e s = e.1 s
print_wrote told shown call Memory p e s = e s
print_wrote told shown call (TooLarge number bytes) p e s = λ t. (e t).1 s
print_wrote told shown call (Fault node place fault) p e s = λ t. (e t).2 s
print_wrote told shown call Sink p e s = (command.Print p.0, p.1, λ t. (e.1 t).2 s)
