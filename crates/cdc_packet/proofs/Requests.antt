-- How a request's head decides what it is.
use Rattle.std.proofs.Common.{◌≡◌, ℕ, ◌<◌, ◌≤◌, List, [], ◌∷◌, ◌++◌, length, take, drop, get_or, refl, sym, ◌∙◌, ap, subst, arith, append_assoc, lt-ltb, le-ltb}
use Rattle.std.specs.Prelude.{Ok, Err, nat_lt, true, false, if◌then◌else◌}
use Rattle.std.proofs.lemmas.List.{take_all, drop_all}
use Rattle.cdc_event.specs.Number.{number_of}
use Rattle.cdc_outside.specs.Sink.{WritesTo}
use Rattle.cdc_packet.specs.Request.{longest_request, request_behind, next_request, payload_part, EndsWith, ReadsRequest}
use Rattle.cdc_packet.specs.Request.Request.{NoRequest, CutShort, Oversized, Whole}
use Rattle.cdc_packet.specs.Pieces.{Fills, TakesPayload}
use Rattle.cdc_packet.specs.declared.packet_end.PacketEnd.{PacketEnd}
use Rattle.cdc_packet.specs.declared.packet_end.PacketEnd.TheVariants.{Closed, Torn, TooLong, LinkFault, Memory}

-- no byte came
pub none_came : (bytes head rest : List ℕ) → length head ≡ 4 → Fills bytes head 0 rest → (next_request bytes ≡ NoRequest) × (rest ≡ [])
none_came [] head rest four f = (refl, f.rest_is)
none_came (low ∷ bytes) head rest four f = absurd (let all = f.all in omega (arith, all, four))

-- fewer bytes came than a head has
pub few_came : (bytes head rest : List ℕ) (read : ℕ) → length head ≡ 4 → Fills bytes head read rest → 0 < read → read < 4 → (next_request bytes ≡ CutShort) × (drop 4 bytes ≡ []) × (rest ≡ [])
few_came [] head rest read four f some few = absurd (let all = f.all in omega (arith, all, four, some))
few_came (a ∷ []) head rest read four f some few = (refl, refl, f.rest_is ∙ drop_all read (a ∷ []) (let all = f.all in omega (arith, all, four)))
few_came (a ∷ b ∷ []) head rest read four f some few = (refl, refl, f.rest_is ∙ drop_all read (a ∷ b ∷ []) (let all = f.all in omega (arith, all, four)))
few_came (a ∷ b ∷ c ∷ []) head rest read four f some few = (refl, refl, f.rest_is ∙ drop_all read (a ∷ b ∷ c ∷ []) (let all = f.all in omega (arith, all, four)))
few_came (a ∷ b ∷ c ∷ d ∷ bytes) head rest read four f some few = absurd (let all = f.all in omega (arith, all, four, few))

-- a whole head came
pub record HeadCame (bytes head rest : List ℕ) : Type 0 where
  pub next : next_request bytes ≡ request_behind (number_of (take 3 head)) (get_or head 3 0) (drop 4 bytes)
  pub same : take 3 head ≡ take 3 bytes
  pub left : rest ≡ drop 4 bytes
  pub whole : bytes ≡ take 4 bytes ++ rest

pub head_came : (bytes head rest : List ℕ) (read : ℕ) → length head ≡ 4 → Fills bytes head read rest → 4 ≤ read → HeadCame bytes head rest
head_came [] head rest read four f all = absurd (let size = f.all in omega (arith, size, four, all))
head_came (a ∷ []) head rest read four f all = absurd (let size = f.all in omega (arith, size, four, all))
head_came (a ∷ b ∷ []) head rest read four f all = absurd (let size = f.all in omega (arith, size, four, all))
head_came (a ∷ b ∷ c ∷ []) head rest read four f all = absurd (let size = f.all in omega (arith, size, four, all))
head_came (a ∷ b ∷ c ∷ d ∷ bytes) head rest read four f all =
    let size : read ≡ 4 = (let e = f.all in omega (arith, e, four, all)) in
    let head_is : head ≡ a ∷ b ∷ c ∷ d ∷ [] =
    sym (take_all 4 head (omega (arith, four))) ∙ ap (λ n. take n head) (sym size) ∙ f.front ∙ ap (λ n. take n (a ∷ b ∷ c ∷ d ∷ bytes)) size in
    let rest_is : rest ≡ bytes = f.rest_is ∙ ap (λ n. drop n (a ∷ b ∷ c ∷ d ∷ bytes)) size in
    record {
      next = ap (λ l. request_behind (number_of (take 3 l)) (get_or l 3 0) bytes) (sym head_is);
      same = ap (λ l. take 3 l) head_is;
      left = rest_is;
      whole = ap (λ l. a ∷ b ∷ c ∷ d ∷ l) (sym rest_is);
    }

-- longer than a request
pub too_long : (bytes head rest before : List ℕ) (size : ℕ) → HeadCame bytes head rest → size ≡ number_of (take 3 head) → longest_request < size → ReadsRequest bytes before before rest (Err TooLong)
too_long bytes head rest before size h e over =
    let test : nat_lt longest_request (number_of (take 3 head)) ≡ true = lt-ltb longest_request (number_of (take 3 head)) (subst (λ n. longest_request < n) e over) in
    (h.next ∙ ap (λ b. if b then Oversized else if nat_lt (length (drop 4 bytes)) (number_of (take 3 head)) then CutShort else Whole (get_or head 3 0) (take (number_of (take 3 head)) (drop 4 bytes)) (drop (number_of (take 3 head)) (drop 4 bytes))) test, refl, h.left)

-- what a request is whose length is told by its head, and no longer than a request's
pub short_enough : {bytes head rest : List ℕ} (size : ℕ) → HeadCame bytes head rest → size ≡ number_of (take 3 head) → size ≤ longest_request
    → next_request bytes ≡ (if nat_lt (length (drop 4 bytes)) size then CutShort else Whole (get_or head 3 0) (take size (drop 4 bytes)) (drop size (drop 4 bytes)))
short_enough {bytes} {head} {rest} size h e within =
    let test : nat_lt longest_request size ≡ false = le-ltb longest_request size within in
    h.next ∙ ap (λ n. request_behind n (get_or head 3 0) (drop 4 bytes)) (sym e)
    ∙ ap (λ b. if b then Oversized else if nat_lt (length (drop 4 bytes)) size then CutShort else Whole (get_or head 3 0) (take size (drop 4 bytes)) (drop size (drop 4 bytes))) test

-- a payload was taken
pub whole_came : (X : Type 0) (bytes head rest before now later : List ℕ) (x : X) (size : ℕ) → HeadCame bytes head rest → size ≡ number_of (take 3 head) → size ≤ longest_request
    → TakesPayload size rest before now later (Ok x) → ReadsRequest bytes before now later (Ok (get_or head 3 0))
whole_came X bytes head rest before now later x size h e within t =
    let there : size ≤ length (drop 4 bytes) = subst (λ l. size ≤ length l) h.left t.0 in
    let test : nat_lt (length (drop 4 bytes)) size ≡ false = le-ltb (length (drop 4 bytes)) size there in
    let behind : drop size (drop 4 bytes) ≡ later = ap (λ l. drop size l) (sym h.left) ∙ sym t.2 in (
      take size (drop 4 bytes),
      short_enough size h e within ∙ ap (λ b. if b then CutShort else Whole (get_or head 3 0) (take size (drop 4 bytes)) (drop size (drop 4 bytes))) test
          ∙ ap (λ l. Whole (get_or head 3 0) (take size (drop 4 bytes)) l) behind,
      t.1 ∙ ap (λ l. before ++ take size l) h.left,
    )

part_of : (bytes head rest before now : List ℕ) (size : ℕ) → HeadCame bytes head rest → size ≡ number_of (take 3 head) → WritesTo before (take size rest) now → WritesTo before (payload_part bytes) now
part_of bytes head rest before now size h e w =
    subst (λ l. WritesTo before l now) (λ i. take ((e ∙ ap number_of h.same) i) (h.left i)) w

behind_of : (bytes head rest later : List ℕ) → HeadCame bytes head rest → EndsWith rest later → EndsWith bytes later
behind_of bytes head rest later h w =
    (take 4 bytes ++ w.0, h.whole ∙ ap (λ l. take 4 bytes ++ l) w.1 ∙ sym (append_assoc (take 4 bytes) w.0 later))

-- it could not be taken
pub not_whole : (X : Type 0) (bytes head rest before now later : List ℕ) (size : ℕ) (end : PacketEnd) → HeadCame bytes head rest → size ≡ number_of (take 3 head) → size ≤ longest_request
    → TakesPayload {X = X} size rest before now later (Err end) → ReadsRequest bytes before now later (Err end)
not_whole X bytes head rest before now later size Closed h e within t = absurd t
not_whole X bytes head rest before now later size TooLong h e within t = absurd t
not_whole X bytes head rest before now later size Torn h e within t =
    let short : length (drop 4 bytes) < size = subst (λ l. length l < size) h.left t.0 in
    let test : nat_lt (length (drop 4 bytes)) size ≡ true = lt-ltb (length (drop 4 bytes)) size short in (
      short_enough size h e within ∙ ap (λ b. if b then CutShort else Whole (get_or head 3 0) (take size (drop 4 bytes)) (drop size (drop 4 bytes))) test,
      t.1 ∙ ap (λ l. before ++ l) h.left,
      t.2,
    )
not_whole X bytes head rest before now later size LinkFault h e within t = (part_of bytes head rest before now size h e t.0, behind_of bytes head rest later h t.1)
not_whole X bytes head rest before now later size Memory h e within t = (part_of bytes head rest before now size h e t.0, behind_of bytes head rest later h t.1)
