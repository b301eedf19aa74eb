-- From words that are no `print` to what the call met with and wrote.
use Rattle.std.proofs.Common.{◌≡◌, ℕ, Bool, true, false, IsTrue, List, Option, Some, None, IsSome, refl, sym, ap, ◌∙◌, subst, inl, inr}
use Rattle.cdc_config.specs.declared.command.Command.{Command}
use Rattle.cdc_config.specs.declared.command.Command.TheVariants as command
use Rattle.cdc_config.specs.Words.{command_from}
use Rattle.cdc_outside.specs.Count.{Rose}
use Rattle.cdc_top.specs.declared.findings.Findings.{Findings}
use Rattle.cdc_top.specs.Words.{is_command_built, is_command, IsPrint, help_text, version_text}
use Rattle.cdc_top.specs.Order.{usage_met, wanting_met, nothing_met, sink_met, answer_of}
use Rattle.cdc_top.specs.Texts.{IsTextWritten}
use Rattle.cdc_top.specs.Call.{TopCall, AreTextFindings, AreOtherFindings, AreFindings, WroteFor, IsText}
use Rattle.cdc_top.proofs.Facts.{apart, list_is_command, print_is_command, is_some_command, no_list_text, one_command}

-- words that are no command of this call
pub usage_findings : (told : Bool) (call : TopCall) → is_command call.words ≡ false → AreFindings told call usage_met
usage_findings told call no_command = record {
  usage = λ u. no_command;
  command = λ u w. absurd (apart u);
  words = λ none. refl;
  print = λ p. absurd (apart (sym (print_is_command call.words p) ∙ no_command));
  other = inr record { unread = refl; oversized = refl; faulty = refl };
  list = λ l. absurd (apart (sym (list_is_command call.words l) ∙ no_command));
  no_list = inr record { read = refl; accepted = refl; opened = refl; lasted = refl };
  no_pass = refl;
  sink = λ s. absurd (apart (sym s));
}

-- words that are none
pub none_findings : (told : Bool) (call : TopCall) → command_from call.words ≡ None → AreFindings told call usage_met
none_findings told call none = usage_findings told call (ap is_command_built none)

no_some : (found : Option Command) → IsSome found → found ≡ None → ⊥
no_some None s none = absurd (let e = s in cc)
no_some (Some c) s none = absurd (let e = none in cc)

-- no memory even for the words
pub wanting_findings : (told : Bool) (call : TopCall) → IsSome (command_from call.words) → AreFindings told call wanting_met
wanting_findings told call some = record {
  usage = λ u. absurd (apart (sym u));
  command = λ u w. absurd (apart w);
  words = λ none. absurd (no_some (command_from call.words) some none);
  print = λ p. record { unread = tt; read = λ h. absurd (apart h.memory); oversized = λ t w. absurd (apart w.memory); faulty = λ t w n. absurd (apart w.memory) };
  other = inr record { unread = refl; oversized = refl; faulty = refl };
  list = λ l. record { unread = λ u. absurd (apart (sym u)); refused = tt; unopened = tt; failed = tt; all = λ h. absurd (apart h.memory) };
  no_list = inr record { read = refl; accepted = refl; opened = refl; lasted = refl };
  no_pass = refl;
  sink = λ s. absurd (apart (sym s));
}

-- the words ask for a text, so not for a print
pub no_print : (words : List (List ℕ)) → IsText words → IsPrint words → ⊥
no_print words (inl h) p = absurd (let e = one_command words command.Help (command.Print p.0) h p.1 in cc)
no_print words (inr v) p = absurd (let e = one_command words command.Version (command.Print p.0) v p.1 in cc)

pub text_command : (words : List (List ℕ)) → IsText words → is_command words ≡ true
text_command words (inl h) = ap is_command_built h
text_command words (inr v) = ap is_command_built v

-- a text was written, or the sink failed
text_found : (told : Bool) (call : TopCall) (found : Findings) → IsText call.words → found.usage ≡ false → AreTextFindings found → AreOtherFindings found → found.passed ≡ None
    → (found.sink ≡ true → Rose call.run.faults_before call.run.faults_now) → AreFindings told call found
text_found told call found text no_usage bare other unpassed sink = record {
  usage = λ u. absurd (apart (sym u ∙ no_usage));
  command = λ u w. text_command call.words text;
  words = λ none. absurd (is_some_command (command_from call.words) (text_command call.words text) none);
  print = λ p. absurd (no_print call.words text p);
  other = inr bare;
  list = λ l. absurd (no_list_text call.words text l);
  no_list = inr other;
  no_pass = unpassed;
  sink = sink;
}

pub text_findings : (told shown : Bool) (call : TopCall) (text : List ℕ) (found : Findings) → IsText call.words
    → IsTextWritten shown call.run.out_before text call.run.out_now call.run.faults_before call.run.faults_now found → AreFindings told call found
text_findings told shown call text found asked (inl done) =
    subst (AreFindings told call) (sym done.0)
    (text_found told call nothing_met asked refl (record { unread = refl; oversized = refl; faulty = refl })
    (record { read = refl; accepted = refl; opened = refl; lasted = refl }) refl (λ s. absurd (apart (sym s))))
text_findings told shown call text found asked (inr failed) =
    subst (AreFindings told call) (sym failed.0)
    (text_found told call sink_met asked refl (record { unread = refl; oversized = refl; faulty = refl })
    (record { read = refl; accepted = refl; opened = refl; lasted = refl }) refl (λ s. failed.1))

-- what was written of `--help`
pub help_wrote : (told shown : Bool) (call : TopCall) (found : Findings) → command_from call.words ≡ Some command.Help
    → IsTextWritten shown call.run.out_before help_text call.run.out_now call.run.faults_before call.run.faults_now found → IsTrue shown
    → WroteFor told call (answer_of found)
help_wrote told shown call found asked (inl done) s =
    subst (λ (f : Findings). WroteFor told call (answer_of f)) (sym done.0) (command.Help, asked, done.1 s)
help_wrote told shown call found asked (inr failed) s =
    subst (λ (f : Findings). WroteFor told call (answer_of f)) (sym failed.0) (command.Help, asked, failed.2 s)

-- and of `--version`
pub version_wrote : (told shown : Bool) (call : TopCall) (found : Findings) → command_from call.words ≡ Some command.Version
    → IsTextWritten shown call.run.out_before version_text call.run.out_now call.run.faults_before call.run.faults_now found → IsTrue shown
    → WroteFor told call (answer_of found)
version_wrote told shown call found asked (inl done) s =
    subst (λ (f : Findings). WroteFor told call (answer_of f)) (sym done.0) (command.Version, asked, done.1 s)
version_wrote told shown call found asked (inr failed) s =
    subst (λ (f : Findings). WroteFor told call (answer_of f)) (sym failed.0) (command.Version, asked, failed.2 s)
