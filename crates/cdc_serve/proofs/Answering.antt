-- Why a server's call answers so, put together.
use Rattle.std.proofs.Common.{◌≡◌, ◌⊎◌, ℕ, List, refl, sym, ◌∙◌, subst, inl, inr}
use Rattle.std.specs.Prelude.{Bool, true, false, Option, Some, None, ⊤}
use Rattle.cdc_base.specs.declared.user.User.{User}
use Rattle.cdc_dumper.specs.declared.fault.OpenFault.{OpenFault}
use Rattle.cdc_config.specs.Plan.{IsPlanOf, refused_key}
use Rattle.cdc_config.specs.Words.{command_from}
use Rattle.cdc_config.specs.declared.command.Command.{Command}
use Rattle.cdc_serve.specs.declared.answer.ServeAnswer.{ServeAnswer}
use Rattle.cdc_serve.specs.declared.answer.ServeAnswer.TheVariants as answer
use Rattle.cdc_serve.specs.Answers.{end_status, serve_status}
use Rattle.cdc_serve.specs.Call.{is_serve, IsServe, IsConfigAnswer, IsServeAnswer, IsCausedEnd}
use Rattle.cdc_server.specs.declared.serve_end.ServeEnd.{ServeEnd}
use Rattle.cdc_server.specs.declared.serve_end.ServeEnd.TheVariants.{Done, Disk, Kept, Torn, Memory, Door, Salt}

-- what stands behind each end
pub caused_end : {shut : Type 0} {disk : ℕ → Type 0} {refused : ℕ → OpenFault → Type 0} {torn door salt : ℕ → Type 0} (end : ServeEnd) → (end ≡ Done → shut) → ((out : ℕ) → end ≡ Disk out → disk out)
    → ((out : ℕ) (fault : OpenFault) → end ≡ Kept out fault → refused out fault) → ((out : ℕ) → end ≡ Torn out → torn out) → ((number : ℕ) → end ≡ Door number → door number)
    → ((number : ℕ) → end ≡ Salt number → salt number) → IsCausedEnd shut disk refused torn door salt end
caused_end Done a b c d e f = a refl
caused_end (Disk out) a b c d e f = b out refl
caused_end (Kept out fault) a b c d e f = c out fault refl
caused_end (Torn out) a b c d e f = d out refl
caused_end Memory a b c d e f = tt
caused_end (Door number) a b c d e f = e number refl
caused_end (Salt number) a b c d e f = f number refl

-- an answer by the text that was read, as one by the text that is held
pub config_answer : (text held : List ℕ) (told unread : Type 0) (served : List User → ServeEnd → Type 0) (untouched : Type 0) (found : ServeAnswer) → (told → text ≡ held)
    → IsConfigAnswer text ⊤ ⊥ served untouched found → IsConfigAnswer held told unread served untouched found
config_answer text held told unread served untouched answer.Usage same is = is
config_answer text held told unread served untouched answer.ReadConfig same is = absurd is.0
config_answer text held told unread served untouched (answer.Config key) same is = (λ t. subst (λ (l : List ℕ). refused_key l ≡ Some key) (same t) (is.0 tt), is.1)
config_answer text held told unread served untouched answer.Memory same is = is
config_answer text held told unread served untouched (answer.Served end) same is = (is.0, λ t. subst (λ (l : List ℕ). IsPlanOf l is.0) (same t) (is.1 tt), is.2)

-- an answer by the configuration, where the words are `serve`
pub serve_answer : (words : List (List ℕ)) (text : List ℕ) (told unread : Type 0) (served : List User → ServeEnd → Type 0) (untouched : Type 0) (command : Command) (found : ServeAnswer)
    → command_from words ≡ Some command → is_serve command ≡ true → IsConfigAnswer text told unread served untouched found → IsServeAnswer words text told unread served untouched found
serve_answer words text told unread served untouched command answer.Usage read serves is = absurd is
serve_answer words text told unread served untouched command answer.ReadConfig read serves is = (record { command = command; read = read; serves = serves }, is)
serve_answer words text told unread served untouched command (answer.Config key) read serves is = (record { command = command; read = read; serves = serves }, is)
serve_answer words text told unread served untouched command answer.Memory read serves is = (λ none. (let no : Some command ≡ None = sym read ∙ none in cc), is)
serve_answer words text told unread served untouched command (answer.Served end) read serves is = (record { command = command; read = read; serves = serves }, is)

some_is : (a b : Command) → Some a ≡ Some b → a ≡ b
some_is a b e = (let h = e in cc)

-- words of another command
pub another_command : (words : List (List ℕ)) (command : Command) → command_from words ≡ Some command → is_serve command ≡ false → IsServe words → ⊥
another_command words command read other serves =
    let same : command ≡ serves.command = some_is command serves.command (sym read ∙ serves.read) in
    let both : false ≡ true = sym other ∙ subst (λ (c : Command). is_serve c ≡ true) (sym same) serves.serves in
    (let h = both in cc)

-- no words of a command
pub no_command : (words : List (List ℕ)) → command_from words ≡ None → IsServe words → ⊥
no_command words none serves = (let no : None ≡ Some serves.command = sym none ∙ serves.read in cc)

-- what doors come to where nothing failed and nothing is refused
pub end_complete : (shut : Type 0) {disk : ℕ → Type 0} {refused : ℕ → OpenFault → Type 0} {torn door salt : ℕ → Type 0} (end : ServeEnd) → IsCausedEnd shut disk refused torn door salt end
    → ((out : ℕ) → disk out → ⊥) → ((out : ℕ) (fault : OpenFault) → refused out fault → ⊥) → ((out : ℕ) → torn out → ⊥) → ((number : ℕ) → door number → ⊥) → ((number : ℕ) → salt number → ⊥)
    → (end_status end ≡ 0) ⊎ (end_status end ≡ 8)
end_complete shut Done c disks refusals tears doors salts = inl refl
end_complete shut (Disk out) c disks refusals tears doors salts = absurd (disks out c)
end_complete shut (Kept out fault) c disks refusals tears doors salts = absurd (refusals out fault c)
end_complete shut (Torn out) c disks refusals tears doors salts = absurd (tears out c)
end_complete shut Memory c disks refusals tears doors salts = inr refl
end_complete shut (Door number) c disks refusals tears doors salts = absurd (doors number c)
end_complete shut (Salt number) c disks refusals tears doors salts = absurd (salts number c)

-- what the call answers then
pub serve_complete : (words : List (List ℕ)) (text : List ℕ) (told unread : Type 0) (served : List User → ServeEnd → Type 0) (untouched : Type 0) (found : ServeAnswer)
    → IsServeAnswer words text told unread served untouched found → ((users : List User) (end : ServeEnd) → served users end → (end_status end ≡ 0) ⊎ (end_status end ≡ 8)) → IsServe words → told
    → refused_key text ≡ None → (unread → ⊥) → (serve_status found ≡ 0) ⊎ (serve_status found ≡ 8)
serve_complete words text told unread served untouched answer.Usage is ends serves t accepted read = absurd (is.0 serves)
serve_complete words text told unread served untouched answer.ReadConfig is ends serves t accepted read = absurd (read is.1.0)
serve_complete words text told unread served untouched (answer.Config key) is ends serves t accepted read = absurd (let no = sym (is.1.0 t) ∙ accepted in cc)
serve_complete words text told unread served untouched answer.Memory is ends serves t accepted read = inr refl
serve_complete words text told unread served untouched (answer.Served end) is ends serves t accepted read = ends is.1.0.users end is.1.2
