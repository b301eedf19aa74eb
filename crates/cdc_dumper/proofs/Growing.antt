-- How the published files grow by a unit.
use Rattle.std.proofs.Common.{◌≡◌, ◌≢◌, ℕ, zero, suc, ◌+◌, ◌-◌, ◌≤◌, ◌<◌, ◌==◌, Bool, true, false, List, [], ◌∷◌, ◌++◌, length, take, drop, map, refl, sym, ◌∙◌, ap, subst, arith, append-nil, length-append}
use Rattle.std.specs.Prelude.{if◌then◌else◌}
use Rattle.std.proofs.lemmas.Bool.Decides.{nat_tests}
use Rattle.std.proofs.Math.Seq.{take-length, drop-length}
use Rattle.cdc_event.proofs.Fields.{drop_more}
use Rattle.cdc_outside.specs.declared.disk_file.DiskFile.TheVariants.{Log}
use Rattle.cdc_outside.specs.Disk.{Image, overwritten}
use Rattle.cdc_model.specs.Transaction.{numbers_from}
use Rattle.cdc_model.specs.Records.{OutputUnit}
use Rattle.cdc_model.specs.Unit.{appended_to}
use Rattle.cdc_records.specs.declared.front.Front.{Front}
use Rattle.cdc_records.specs.Published.{published, published_file}
use Rattle.cdc_dumper.specs.Moves.{front_with, OtherLogs}

drop_none : (more : ℕ) (xs : List ℕ) → xs ≡ [] → drop more xs ≡ []
drop_none zero xs e = e
drop_none (suc more) [] e = refl
drop_none (suc more) (x ∷ xs) e = absurd (cc)

drop_past : (xs : List ℕ) (more : ℕ) → drop (length xs + more) xs ≡ []
drop_past xs more = drop_more (length xs) more xs ∙ drop_none more (drop (length xs) xs) (drop-length xs)

-- bytes written at a file's end stand behind it
pub written_behind : (at : ℕ) (bytes old : List ℕ) → length old ≡ at → overwritten at bytes old ≡ old ++ bytes
written_behind at bytes old e =
    let front : take at old ≡ old = ap (λ (n : ℕ). take n old) (sym e) ∙ take-length old in
    let size : at + length bytes ≡ length old + length bytes = omega (arith, e) in
    let none : drop (length old + length bytes) old ≡ [] = drop_past old (length bytes) in
    ap (λ (xs : List ℕ). xs ++ bytes ++ drop (at + length bytes) old) front ∙ ap (λ (n : ℕ). old ++ bytes ++ drop n old) size ∙ ap (λ (xs : List ℕ). old ++ bytes ++ xs) none ∙ append-nil (old ++ bytes)

appended_here : (number : ℕ) (bytes file : List ℕ) (files : List (List ℕ)) → number ≡ 1 → appended_to number bytes (file ∷ files) ≡ (file ++ bytes) ∷ files
appended_here number bytes file files e =
    let t : (number == 1) ≡ true = grind (arith, nat_tests) in
    ap (λ (b : Bool). if b then (file ++ bytes) ∷ files else file ∷ appended_to (number - 1) bytes files) t

appended_later : (number : ℕ) (bytes file : List ℕ) (files : List (List ℕ)) → 1 < number → appended_to number bytes (file ∷ files) ≡ file ∷ appended_to (number - 1) bytes files
appended_later number bytes file files lt =
    let t : (number == 1) ≡ false = grind (arith, nat_tests) in
    ap (λ (b : Bool). if b then (file ++ bytes) ∷ files else file ∷ appended_to (number - 1) bytes files) t

-- files that are the same from a number on
pub same_from : (h g : ℕ → List ℕ) (start count : ℕ) → ((n : ℕ) → start ≤ n → g n ≡ h n) → map g (numbers_from start count) ≡ map h (numbers_from start count)
same_from h g start zero same = refl
same_from h g start (suc count) same =
    let rest = same_from h g (start + 1) count (λ n le. same n (omega arith)) in
    ap (λ (x : List ℕ). x ∷ map g (numbers_from (start + 1) count)) (same start (omega arith)) ∙ ap (λ (xs : List (List ℕ)). h start ∷ xs) rest

-- the last file of a row grows
pub last_grows : (h g : ℕ → List ℕ) (bytes : List ℕ) (start count file : ℕ) → file + 1 ≡ start + count → start ≤ file → ((n : ℕ) → n ≢ file → g n ≡ h n) → g file ≡ h file ++ bytes
    → map g (numbers_from start count) ≡ appended_to (file + 1 - start) bytes (map h (numbers_from start count))
last_grows h g bytes start zero file e le same grown = absurd (omega arith)
last_grows h g bytes start (suc zero) file e le same grown =
    let is : file ≡ start = omega arith in
    let here : g start ≡ h start ++ bytes = subst (λ (n : ℕ). g n ≡ h n ++ bytes) is grown in
    ap (λ (x : List ℕ). x ∷ []) here ∙ sym (appended_here (file + 1 - start) bytes (h start) [] (omega arith))
last_grows h g bytes start (suc (suc count)) file e le same grown =
    let other : start ≢ file = λ is. omega (arith, is) in
    let rest = last_grows h g bytes (start + 1) (suc count) file (omega arith) (omega arith) same grown in
    let k : file + 1 - (start + 1) ≡ file + 1 - start - 1 = omega arith in
    ap (λ (x : List ℕ). x ∷ map g (numbers_from (start + 1) (suc count))) (same start other)
    ∙ ap (λ (xs : List (List ℕ)). h start ∷ xs) (rest ∙ ap (λ (n : ℕ). appended_to n bytes (map h (numbers_from (start + 1) (suc count)))) k)
    ∙ sym (appended_later (file + 1 - start) bytes (h start) (map h (numbers_from (start + 1) (suc count))) (omega arith))

-- a row gains a file
pub file_more : (h g : ℕ → List ℕ) (bytes : List ℕ) (start count file : ℕ) → file ≡ start + count → ((n : ℕ) → start ≤ n → n < file → g n ≡ h n) → g file ≡ bytes
    → map g (numbers_from start (suc count)) ≡ appended_to (file + 1 - start) bytes (map h (numbers_from start count))
file_more h g bytes start zero file e same new =
    let is : file ≡ start = omega arith in
    let here : g start ≡ bytes = subst (λ (n : ℕ). g n ≡ bytes) is new in
    ap (λ (x : List ℕ). x ∷ []) here
file_more h g bytes start (suc count) file e same new =
    let rest = file_more h g bytes (start + 1) count file (omega arith) (λ n le lt. same n (omega arith) lt) new in
    let k : file + 1 - (start + 1) ≡ file + 1 - start - 1 = omega arith in
    ap (λ (x : List ℕ). x ∷ map g (numbers_from (start + 1) (suc count))) (same start (omega arith) (omega arith))
    ∙ ap (λ (xs : List (List ℕ)). h start ∷ xs) (rest ∙ ap (λ (n : ℕ). appended_to n bytes (map h (numbers_from (start + 1) count))) k)
    ∙ sym (appended_later (file + 1 - start) bytes (h start) (map h (numbers_from (start + 1) count)) (omega arith))

-- what is published of a file
here_published : (f : Front) (image : Image) (number : ℕ) → number ≡ f.file → published_file f image number ≡ take f.length (image (Log number))
here_published f image number e =
    let t : (number == f.file) ≡ true = grind (arith, nat_tests) in
    ap (λ (b : Bool). if b then take f.length (image (Log number)) else image (Log number)) t

else_published : (f : Front) (image : Image) (number : ℕ) → number ≢ f.file → published_file f image number ≡ image (Log number)
else_published f image number ne =
    let t : (number == f.file) ≡ false = grind (arith, nat_tests) in
    ap (λ (b : Bool). if b then take f.length (image (Log number)) else image (Log number)) t

whole_published : (f : Front) (image : Image) (number : ℕ) → (number ≡ f.file → length (image (Log number)) ≡ f.length) → published_file f image number ≡ image (Log number)
whole_published f image number whole =
    elim (number == f.file) as (λ (b : Bool). ((number == f.file) ≡ b) → published_file f image number ≡ image (Log number)) [
      | true ↦ λ t. let is : number ≡ f.file = grind (arith, nat_tests) in here_published f image number is ∙ ap (λ (n : ℕ). take n (image (Log number))) (sym (whole is)) ∙ take-length (image (Log number))
      | false ↦ λ t. let ne : number ≢ f.file = λ is. grind (arith, nat_tests) in else_published f image number ne
    ] refl

-- in the file that is open
pub grows_here : (g : Front) (unit : OutputUnit) (old new : Image) → 1 ≤ g.first → g.first ≤ g.file → unit.after.file ≡ g.file → unit.after.length ≡ g.length + length unit.bytes
    → length (old (Log g.file)) ≡ g.length → new (Log g.file) ≡ old (Log g.file) ++ unit.bytes → OtherLogs g.file old new
    → published (front_with g unit) new ≡ appended_to (unit.after.file - (g.first - 1)) unit.bytes (published g old)
grows_here g unit old new one le file end whole written others =
    let h : ℕ → List ℕ = published_file g old in
    let k : ℕ → List ℕ = published_file (front_with g unit) new in
    let count : ℕ = g.file + 1 - g.first in
    let here : k g.file ≡ h g.file ++ unit.bytes =
    whole_published (front_with g unit) new g.file (λ _. ap length written ∙ length-append (old (Log g.file)) unit.bytes ∙ (let s : length (old (Log g.file)) + length unit.bytes ≡ unit.after.length = omega (arith, whole, end) in s))
    ∙ written ∙ ap (λ (xs : List ℕ). xs ++ unit.bytes) (sym (whole_published g old g.file (λ _. whole))) in
    let others_same : (n : ℕ) → n ≢ g.file → k n ≡ h n = λ n ne. else_published (front_with g unit) new n (λ is. ne (is ∙ file)) ∙ others n ne ∙ sym (else_published g old n ne) in
    let grown = last_grows h k unit.bytes g.first count g.file (omega (arith, one, le)) le others_same here in
    ap (λ (n : ℕ). map k (numbers_from g.first (n + 1 - g.first))) file
    ∙ grown ∙ ap (λ (n : ℕ). appended_to n unit.bytes (map h (numbers_from g.first count))) (let e : g.file + 1 - g.first ≡ unit.after.file - (g.first - 1) = omega (arith, one, le, file) in e)

-- in a new file
pub grows_next : (g : Front) (unit : OutputUnit) (old new : Image) → 1 ≤ g.first → g.first ≤ g.file + 1 → unit.after.file ≡ g.file + 1 → unit.after.length ≡ length unit.bytes
    → (1 ≤ g.file → length (old (Log g.file)) ≡ g.length) → new (Log (g.file + 1)) ≡ unit.bytes → OtherLogs (g.file + 1) old new
    → published (front_with g unit) new ≡ appended_to (unit.after.file - (g.first - 1)) unit.bytes (published g old)
grows_next g unit old new one le file end whole written others =
    let h : ℕ → List ℕ = published_file g old in
    let k : ℕ → List ℕ = published_file (front_with g unit) new in
    let count : ℕ = g.file + 1 - g.first in
    let here : k (g.file + 1) ≡ unit.bytes =
    whole_published (front_with g unit) new (g.file + 1) (λ _. ap length written ∙ sym end) ∙ written in
    let before : (n : ℕ) → g.first ≤ n → n < g.file + 1 → k n ≡ h n = λ n from lt.
    let ne : n ≢ g.file + 1 = λ is. omega (arith, is, lt) in
    else_published (front_with g unit) new n (λ is. ne (is ∙ file)) ∙ others n ne ∙ sym (whole_published g old n (λ is. subst (λ (m : ℕ). length (old (Log m)) ≡ g.length) (sym is) (whole (omega (arith, is, one, from))))) in
    let grown = file_more h k unit.bytes g.first count (g.file + 1) (omega (arith, le)) before here in
    ap (λ (n : ℕ). map k (numbers_from g.first n)) (let e : unit.after.file + 1 - g.first ≡ suc count = omega (arith, file, le) in e)
    ∙ grown ∙ ap (λ (n : ℕ). appended_to n unit.bytes (map h (numbers_from g.first count))) (let e : g.file + 1 + 1 - g.first ≡ unit.after.file - (g.first - 1) = omega (arith, one, le, file) in e)
