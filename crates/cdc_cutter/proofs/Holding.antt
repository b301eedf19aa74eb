-- A cutter that takes a piece has been fed it.
use Rattle.std.proofs.Common.{◌≡◌, ◌≢◌, ℕ, ◌+◌, ◌<◌, ◌≤◌, ◌^◌, true, List, [], ◌++◌, length, take, drop, refl, ap, sym, ◌∙◌, subst, arith, append_assoc, length-append, Option, Some, Result, Ok, Err, OnOk, OnErr, inl, inr}
use Rattle.cdc_event.specs.declared.fault.FileFault.{FileFault}
use Rattle.cdc_event.specs.declared.fault.FileFault.TheVariants.{BadMagic}
use Rattle.cdc_event.specs.Event.{magic}
use Rattle.cdc_event.specs.File.{PlacedEvent, AreEvents, AreFileEvents, AreEventsFrom}
use Rattle.cdc_event.proofs.FileReading.{front_stays, more_length, begins_with_magic, magic_length}
use Rattle.cdc_cutter.specs.declared.state.CutterState.{CutterState}
use Rattle.cdc_cutter.specs.declared.state.CutterState.TheVariants.{Start, First, Behind, Faulty}
use Rattle.cdc_cutter.specs.Cutting.{Cutting, AreLeft, Holds, TakesAtStart, Takes}

pub assoc : (xs ys zs : List ℕ) → (xs ++ ys) ++ zs ≡ xs ++ (ys ++ zs)
assoc xs ys zs = simp append_assoc

-- another state that leaves the same holds the same
pub record LeavesAs (old new : Cutting) : Type 0 where
  pub counted : new.at + length new.rest ≤ old.at + length old.rest
  pub forth : (more : List ℕ) (events : List PlacedEvent) (fault : Option (ℕ × FileFault))
      → AreLeft new.state new.at new.checksum (new.rest ++ more) events fault → AreLeft old.state old.at old.checksum (old.rest ++ more) events fault
  pub back : (more : List ℕ) (events : List PlacedEvent) (fault : Option (ℕ × FileFault))
      → AreLeft old.state old.at old.checksum (old.rest ++ more) events fault → AreLeft new.state new.at new.checksum (new.rest ++ more) events fault

pub holds_as : (old new : Cutting) (start checksum : ℕ) (fed : List ℕ) (given : List PlacedEvent) → LeavesAs old new → Holds old start checksum fed given → Holds new start checksum fed given
holds_as old new start checksum fed given l h =
    let less = l.counted in
    let counted : old.at + length old.rest ≤ start + length fed = h.counted in
    record {
      counted = omega arith;
      forth = λ more events fault left. h.forth more events fault (l.forth more events fault left);
      back = λ more all fault read. let b = h.back more all fault read in (b.0, b.1, l.back more b.0 fault b.2);
    }

-- more bytes are left, as many as were fed
pub holds_longer : (old : Cutting) (piece : List ℕ) (start checksum : ℕ) (fed : List ℕ) (given : List PlacedEvent) → Holds old start checksum fed given →
    Holds (record old { rest = old.rest ++ piece }) start checksum (fed ++ piece) given
holds_longer old piece start checksum fed given h =
    let counted : old.at + length old.rest ≤ start + length fed = h.counted in
    let left : length (old.rest ++ piece) ≡ length old.rest + length piece = length-append old.rest piece in
    let all : length (fed ++ piece) ≡ length fed + length piece = length-append fed piece in
    record {
      counted = omega arith;
      forth = λ more events fault left.
          subst (λ v. AreEventsFrom start checksum v (given ++ events) fault) (sym (assoc fed piece more))
          (h.forth (piece ++ more) events fault (subst (λ v. AreLeft old.state old.at old.checksum v events fault) (assoc old.rest piece more) left));
      back = λ more read fault whole.
          let b = h.back (piece ++ more) read fault (subst (λ v. AreEventsFrom start checksum v read fault) (assoc fed piece more) whole) in
          (b.0, b.1, subst (λ v. AreLeft old.state old.at old.checksum v b.0 fault) (sym (assoc old.rest piece more)) b.2);
    }

-- behind the magic the file's events are read on
passes : (bytes rest more : List ℕ) (events : List PlacedEvent) (fault : Option (ℕ × FileFault)) → bytes ≡ magic ++ rest → AreEvents true 4 0 (rest ++ more) events fault → AreFileEvents (bytes ++ more) events fault
passes bytes rest more events fault e a = inr (inr (rest ++ more, ap (λ v. v ++ more) e, a))

passed : (bytes rest more : List ℕ) (events : List PlacedEvent) (fault : Option (ℕ × FileFault)) → bytes ≡ magic ++ rest → AreFileEvents (bytes ++ more) events fault → AreEvents true 4 0 (rest ++ more) events fault
passed bytes rest more events fault e (inl a) =
    let four = magic_length bytes rest e in
    let short : length (bytes ++ more) < 4 = a.0 in
    let size = more_length bytes more in
    absurd (omega arith)
passed bytes rest more events fault e (inr (inl a)) = absurd (a.1 (front_stays bytes more (magic_length bytes rest e) ∙ ap (take 4) e))
passed bytes rest more events fault e (inr (inr a)) =
    let joined : magic ++ (rest ++ more) ≡ magic ++ a.0 = ap (λ v. v ++ more) (sym e) ∙ a.1 in
    let same : rest ++ more ≡ a.0 = ap (drop 4) joined in
    subst (λ v. AreEvents true 4 0 v events fault) (sym same) a.2

-- four other bytes are the file's fault
fails : (bytes more : List ℕ) (events : List PlacedEvent) (fault : Option (ℕ × FileFault)) → 4 ≤ length bytes → take 4 bytes ≢ magic → events ≡ [] → fault ≡ Some (0, BadMagic) → AreFileEvents (bytes ++ more) events fault
fails bytes more events fault four other none bad =
    let size = more_length bytes more in
    inr (inl (omega arith, λ e. other (sym (front_stays bytes more four) ∙ e), none, bad))

failed : (bytes more : List ℕ) (events : List PlacedEvent) (fault : Option (ℕ × FileFault)) → 4 ≤ length bytes → take 4 bytes ≢ magic → AreFileEvents (bytes ++ more) events fault → (events ≡ []) × (fault ≡ Some (0, BadMagic))
failed bytes more events fault four other (inl a) =
    let short : length (bytes ++ more) < 4 = a.0 in
    let size = more_length bytes more in
    absurd (omega arith)
failed bytes more events fault four other (inr (inl a)) = (a.2, a.3)
failed bytes more events fault four other (inr (inr a)) = absurd (other (begins_with_magic bytes more a.0 a.1 four))

at_start : (state : CutterState) (old : Cutting) (bytes : List ℕ) (start checksum : ℕ) (fed : List ℕ) (given : List PlacedEvent) (new : Cutting) → old.state ≡ Start → old.rest ≡ bytes →
    TakesAtStart state bytes old new → Holds old start checksum fed given → Holds new start checksum fed given
at_start Start old bytes start checksum fed given new s r t h = subst (λ c. Holds c start checksum fed given) (sym t.1) (holds_as old (record old { rest = bytes }) start checksum fed given (record {
  counted = let size : length bytes ≡ length old.rest = ap length (sym r) in omega arith;
  forth = λ more events fault left. subst (λ v. AreLeft old.state old.at old.checksum (v ++ more) events fault) (sym r) left;
  back = λ more events fault left. subst (λ v. AreLeft old.state old.at old.checksum (v ++ more) events fault) r left;
}) h)
at_start First old bytes start checksum fed given new s r t h =
    let size : length bytes ≡ length magic + length new.rest = ap length t.0 ∙ length-append magic new.rest in
    let all : length bytes ≡ length old.rest = ap length (sym r) in
    subst (λ c. Holds c start checksum fed given) (sym t.1) (holds_as old (record { file = old.file; at = 4; checksum = 0; state = First; rest = new.rest }) start checksum fed given (record {
      counted = omega arith;
      forth = λ more events fault left. subst (λ g. AreLeft g old.at old.checksum (old.rest ++ more) events fault) (sym s)
          (subst (λ v. AreFileEvents (v ++ more) events fault) (sym r) (passes bytes new.rest more events fault t.0 left));
      back = λ more events fault left. passed bytes new.rest more events fault t.0 (subst (λ v. AreFileEvents (v ++ more) events fault) r (subst (λ g. AreLeft g old.at old.checksum (old.rest ++ more) events fault) s left));
    }) h)
at_start Behind old bytes start checksum fed given new s r t h = absurd t
at_start (Faulty wrong) old bytes start checksum fed given new s r t h =
    let all : length bytes ≡ length old.rest = ap length (sym r) in
    let zero_at : old.at ≡ 0 = t.3 in
    let here : ◌≡◌ {A = Option (ℕ × FileFault)} (Some (old.at, BadMagic)) (Some (0, BadMagic)) = λ i. Some (zero_at i, BadMagic) in
    subst (λ c. Holds c start checksum fed given) (sym t.4) (holds_as old (record old { rest = bytes; state = Faulty BadMagic }) start checksum fed given (record {
      counted = omega arith;
      forth = λ more events fault left. subst (λ g. AreLeft g old.at old.checksum (old.rest ++ more) events fault) (sym s)
          (subst (λ v. AreFileEvents (v ++ more) events fault) (sym r) (fails bytes more events fault t.0 t.1 left.0 (left.1 ∙ here)));
      back = λ more events fault left.
          let f = failed bytes more events fault t.0 t.1 (subst (λ v. AreFileEvents (v ++ more) events fault) r (subst (λ g. AreLeft g old.at old.checksum (old.rest ++ more) events fault) s left)) in
          (f.0, f.1 ∙ sym here);
    }) h)

takes_longer : (state : CutterState) (bytes : List ℕ) (old new : Cutting) → TakesAtStart state bytes old new → TakesAtStart state bytes (record old { rest = bytes }) new
takes_longer Start bytes old new t = t
takes_longer First bytes old new t = t
takes_longer Behind bytes old new t = t
takes_longer (Faulty fault) bytes old new t = t

-- whatever a cutter may have been fed, it has been fed the piece besides
pub fed_more : (state : CutterState) (piece : List ℕ) (old new : Cutting) → old.state ≡ state → Takes state piece old new →
    (start checksum : ℕ) (fed : List ℕ) (given : List PlacedEvent) → Holds old start checksum fed given → Holds new start checksum (fed ++ piece) given
fed_more Start piece old new s t start checksum fed given h =
    at_start new.state (record old { rest = old.rest ++ piece }) (old.rest ++ piece) start checksum (fed ++ piece) given new s refl (takes_longer new.state (old.rest ++ piece) old new t) (holds_longer old piece start checksum fed given h)
fed_more First piece old new s t start checksum fed given h = subst (λ c. Holds c start checksum (fed ++ piece) given) (sym t) (holds_longer old piece start checksum fed given h)
fed_more Behind piece old new s t start checksum fed given h = subst (λ c. Holds c start checksum (fed ++ piece) given) (sym t) (holds_longer old piece start checksum fed given h)
fed_more (Faulty fault) piece old new s t start checksum fed given h = subst (λ c. Holds c start checksum (fed ++ piece) given) (sym t) (holds_longer old piece start checksum fed given h)

-- after a fault nothing more is read
pub fed_faulty : (old : Cutting) (wrong : FileFault) (piece : List ℕ) (start checksum : ℕ) (fed : List ℕ) (given : List PlacedEvent) → old.state ≡ Faulty wrong → Holds old start checksum fed given → Holds old start checksum (fed ++ piece) given
fed_faulty old wrong piece start checksum fed given s h =
    let long = holds_longer old piece start checksum fed given h in
    let size : length (old.rest ++ piece) ≡ length old.rest + length piece = length-append old.rest piece in
    holds_as (record old { rest = old.rest ++ piece }) old start checksum (fed ++ piece) given (record {
      counted = omega arith;
      forth = λ more events fault left.
          subst (λ g. AreLeft g old.at old.checksum ((old.rest ++ piece) ++ more) events fault) (sym s) (subst (λ g. AreLeft g old.at old.checksum (old.rest ++ more) events fault) s left);
      back = λ more events fault left.
          subst (λ g. AreLeft g old.at old.checksum (old.rest ++ more) events fault) (sym s) (subst (λ g. AreLeft g old.at old.checksum ((old.rest ++ piece) ++ more) events fault) s left);
    }) long

pub on_ok : {A B : Type 0} (result : Result A B) {P Q : Type 0} → OnOk result P → (P → Q) → OnOk result Q
on_ok (Ok value) p f = f p
on_ok (Err error) p f = tt

start_file : (state : CutterState) (bytes : List ℕ) (old new : Cutting) → TakesAtStart state bytes old new → new.file ≡ old.file
start_file Start bytes old new t = ap (λ (v : Cutting). v.file) t.1
start_file First bytes old new t = ap (λ (v : Cutting). v.file) t.1
start_file Behind bytes old new t = absurd t
start_file (Faulty fault) bytes old new t = ap (λ (v : Cutting). v.file) t.4

same_file : (state : CutterState) (piece : List ℕ) (old new : Cutting) → Takes state piece old new → new.file ≡ old.file
same_file Start piece old new t = start_file new.state (old.rest ++ piece) old new t
same_file First piece old new t = ap (λ (v : Cutting). v.file) t
same_file Behind piece old new t = ap (λ (v : Cutting). v.file) t
same_file (Faulty fault) piece old new t = ap (λ (v : Cutting). v.file) t

pub takes_file : {A B : Type 0} (result : Result A B) (piece : List ℕ) (old new : Cutting) → OnOk result (Takes old.state piece old new) → OnErr result (new ≡ old) → new.file ≡ old.file
takes_file (Ok value) piece old new t e = same_file old.state piece old new t
takes_file (Err error) piece old new t e = ap (λ (v : Cutting). v.file) e

pub passed_count : (left piece rest : List ℕ) (at : ℕ) → at + length left + length piece < 2 ^ 63 → left ++ piece ≡ magic ++ rest → 4 + length rest < 2 ^ 63
passed_count left piece rest at h e =
    let all : length left + length piece ≡ length magic + length rest = sym (length-append left piece) ∙ (ap length e ∙ length-append magic rest) in
    omega arith

-- a piece more moves the end of the bytes by no more than its length
more_fed : (old : Cutting) (rest piece : List ℕ) → rest ≡ old.rest ++ piece → old.at + length rest ≤ old.at + length old.rest + length piece
more_fed old rest piece is =
    let size : length rest ≡ length old.rest + length piece = ap length is ∙ length-append old.rest piece in omega arith

start_moves : (state : CutterState) (bytes piece : List ℕ) (old new : Cutting) → bytes ≡ old.rest ++ piece → TakesAtStart state bytes old new
    → new.at + length new.rest ≤ old.at + length old.rest + length piece
start_moves Start bytes piece old new is t =
    let at : new.at ≡ old.at = ap (λ (v : Cutting). v.at) t.1 in
    let rest : length new.rest ≡ length bytes = ap (λ (v : Cutting). length v.rest) t.1 in
    let more : old.at + length bytes ≤ old.at + length old.rest + length piece = more_fed old bytes piece is in omega arith
start_moves First bytes piece old new is t =
    let at : new.at ≡ 4 = ap (λ (v : Cutting). v.at) t.1 in
    let all : length bytes ≡ length magic + length new.rest = ap length t.0 ∙ length-append magic new.rest in
    let more : old.at + length bytes ≤ old.at + length old.rest + length piece = more_fed old bytes piece is in omega arith
start_moves Behind bytes piece old new is t = absurd t
start_moves (Faulty fault) bytes piece old new is t =
    let at : new.at ≡ old.at = ap (λ (v : Cutting). v.at) t.4 in
    let rest : length new.rest ≡ length bytes = ap (λ (v : Cutting). length v.rest) t.4 in
    let more : old.at + length bytes ≤ old.at + length old.rest + length piece = more_fed old bytes piece is in omega arith

fed_moves : (old new : Cutting) (piece : List ℕ) → new ≡ record old { rest = old.rest ++ piece } → new.at + length new.rest ≤ old.at + length old.rest + length piece
fed_moves old new piece t =
    let at : new.at ≡ old.at = ap (λ (v : Cutting). v.at) t in
    let rest : length new.rest ≡ length (old.rest ++ piece) = ap (λ (v : Cutting). length v.rest) t in
    let more : old.at + length (old.rest ++ piece) ≤ old.at + length old.rest + length piece = more_fed old (old.rest ++ piece) piece refl in omega arith

moves : (state : CutterState) (piece : List ℕ) (old new : Cutting) → Takes state piece old new → new.at + length new.rest ≤ old.at + length old.rest + length piece
moves Start piece old new t = start_moves new.state (old.rest ++ piece) piece old new refl t
moves First piece old new t = fed_moves old new piece t
moves Behind piece old new t = fed_moves old new piece t
moves (Faulty fault) piece old new t = fed_moves old new piece t

pub takes_end : {A B : Type 0} (result : Result A B) (piece : List ℕ) (old new : Cutting) → OnOk result (Takes old.state piece old new) → OnErr result (new ≡ old)
    → new.at + length new.rest ≤ old.at + length old.rest + length piece
takes_end (Ok value) piece old new t e = moves old.state piece old new t
takes_end (Err error) piece old new t e =
    let at : new.at ≡ old.at = ap (λ (v : Cutting). v.at) e in
    let rest : length new.rest ≡ length old.rest = ap (λ (v : Cutting). length v.rest) e in omega arith
