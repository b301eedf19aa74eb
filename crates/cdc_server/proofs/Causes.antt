-- Which cause is the first, and which end of a link brings it.
use Rattle.std.proofs.Common.{◌≡◌, ◌≤◌, ◌<◌, ◌⊎◌, List, [], ◌∷◌, ◌++◌, inl, inr, refl, sym, ◌∙◌, ap, subst, arith}
use Rattle.std.specs.List.{Contains}
use Rattle.std.proofs.lemmas.List.Elements.{Contains-append_left, Contains-push, Contains-push_cases}
use Rattle.cdc_dumper.specs.declared.fault.OpenFault.{OpenFault}
use Rattle.cdc_auth.specs.declared.login_end.LoginEnd.TheVariants as login
use Rattle.cdc_session.specs.declared.session_end.SessionEnd.TheVariants as session
use Rattle.cdc_server.specs.declared.door_end.DoorEnd.{DoorEnd}
use Rattle.cdc_server.specs.declared.door_end.DoorEnd.TheVariants.{Done, Disk, Kept, Torn, Door, Salt}
use Rattle.cdc_server.specs.declared.link_end.LinkEnd.{LinkEnd}
use Rattle.cdc_server.specs.declared.link_end.LinkEnd.TheVariants.{OfSession, OfLogin}
use Rattle.cdc_server.specs.Numbers.{link_number}
use Rattle.cdc_server.specs.Ends.{link_cause, cause_rank, IsBrought, IsFirstCause, IsCaused}
use Rattle.cdc_server.specs.Links.{Visit}
use Rattle.cdc_server.proofs.Serving.{no_visit}

still_brought : (visits : List Visit) (visit : Visit) (cause : DoorEnd) → IsBrought visits Done cause → IsBrought (visits ++ visit ∷ []) Done cause
still_brought visits visit cause brought = elim brought [
  | inl some ↦ inl (some.0, Contains-append_left visits (visit ∷ []) some.0 some.1, some.2)
  | inr same ↦ inr same
]

-- nothing was brought yet
pub no_cause_yet : IsFirstCause [] Done Done
no_cause_yet = record { among = inr refl; least = λ cause brought. elim brought [ inl some ↦ absurd (no_visit some.0 some.1) | inr same ↦ subst (λ (c : DoorEnd). 6 ≤ cause_rank c) same (omega arith) ] }

-- one link more
pub cause_more : (visits : List Visit) (visit : Visit) (end cause now : DoorEnd) → cause ≡ link_cause visit.ending
    → ((now ≡ end) × (cause_rank end ≤ cause_rank cause)) ⊎ ((now ≡ cause) × (cause_rank cause < cause_rank end))
    → IsFirstCause visits Done end → IsFirstCause (visits ++ visit ∷ []) Done now
cause_more visits visit end cause now same chosen first =
    let ranks : (cause_rank now ≤ cause_rank end) × (cause_rank now ≤ cause_rank cause) = elim chosen [
      | inl a ↦ (subst (λ (n : DoorEnd). (cause_rank n ≤ cause_rank end) × (cause_rank n ≤ cause_rank cause)) (sym a.0) (omega arith, a.1))
      | inr b ↦ (subst (λ (n : DoorEnd). (cause_rank n ≤ cause_rank end) × (cause_rank n ≤ cause_rank cause)) (sym b.0) (omega (arith, b.1), omega arith))
    ] in
    record {
      among = elim chosen [
        | inl a ↦ subst (λ (n : DoorEnd). IsBrought (visits ++ visit ∷ []) Done n) (sym a.0) (still_brought visits visit end first.among)
        | inr b ↦ inl (visit, Contains-push visits visit, sym same ∙ sym b.0)
      ];
      least = λ other brought. elim brought [
        | inl some ↦ elim (Contains-push_cases visits visit some.0 some.1) [
          | inl old ↦ (let least = first.least other (inl (some.0, old, some.2)) in omega (arith, least, ranks.0))
          | inr new ↦
              let is : cause ≡ other = same ∙ ap (λ (v : Visit). link_cause v.ending) new ∙ some.2 in
              subst (λ (c : DoorEnd). cause_rank now ≤ cause_rank c) is ranks.1
        ]
        | inr done ↦ (let least = first.least other (inr done) in omega (arith, least, ranks.0))
      ];
    }

-- the door failed
pub cause_closed : (visits : List Visit) (end now : DoorEnd) → ((now ≡ end) × (cause_rank end ≤ 4)) ⊎ ((now ≡ Door) × (4 < cause_rank end))
    → IsFirstCause visits Done end → IsFirstCause visits Door now
cause_closed visits end now chosen first = elim chosen [
  | inl a ↦
      subst (λ (n : DoorEnd). IsFirstCause visits Door n) (sym a.0)
      (record {
        among = elim first.among [
          | inl some ↦ inl some
          | inr done ↦ absurd (let six : 6 ≤ 4 = subst (λ (c : DoorEnd). cause_rank c ≤ 4) (sym done) a.1 in omega (arith, six))
        ];
        least = λ other brought. elim brought [
          | inl some ↦ first.least other (inl some)
          | inr same ↦ subst (λ (c : DoorEnd). cause_rank end ≤ cause_rank c) same a.1
        ];
      })
  | inr b ↦
      subst (λ (n : DoorEnd). IsFirstCause visits Door n) (sym b.0)
      (record {
        among = inr refl;
        least = λ other brought. elim brought [
          | inl some ↦ (let least = first.least other (inl some) in omega (arith, least, b.1))
          | inr same ↦ subst (λ (c : DoorEnd). 4 ≤ cause_rank c) same (omega arith)
        ];
      })
]

pub disk_cause : (end : LinkEnd) → link_cause end ≡ Disk → end ≡ OfSession session.DiskFault
disk_cause (OfSession session.DiskFault) e = refl
disk_cause (OfSession session.Quit) e = absurd (let h = e in cc)
disk_cause (OfSession session.Closed) e = absurd (let h = e in cc)
disk_cause (OfSession session.BadPacket) e = absurd (let h = e in cc)
disk_cause (OfSession session.LinkFault) e = absurd (let h = e in cc)
disk_cause (OfSession (session.Kept fault)) e = absurd (let h = e in cc)
disk_cause (OfSession session.Torn) e = absurd (let h = e in cc)
disk_cause (OfSession session.Memory) e = absurd (let h = e in cc)
disk_cause (OfLogin login.In) e = absurd (let h = e in cc)
disk_cause (OfLogin login.Denied) e = absurd (let h = e in cc)
disk_cause (OfLogin login.BadPacket) e = absurd (let h = e in cc)
disk_cause (OfLogin login.Closed) e = absurd (let h = e in cc)
disk_cause (OfLogin login.LinkFault) e = absurd (let h = e in cc)
disk_cause (OfLogin login.SaltFault) e = absurd (let h = e in cc)
disk_cause (OfLogin login.Memory) e = absurd (let h = e in cc)

pub kept_cause : (end : LinkEnd) (fault : OpenFault) → link_cause end ≡ Kept fault → end ≡ OfSession (session.Kept fault)
kept_cause (OfSession (session.Kept other)) fault e = (let same : other ≡ fault = (let h = e in cc) in ap (λ (f : OpenFault). OfSession (session.Kept f)) same)
kept_cause (OfSession session.DiskFault) fault e = absurd (let h = e in cc)
kept_cause (OfSession session.Quit) fault e = absurd (let h = e in cc)
kept_cause (OfSession session.Closed) fault e = absurd (let h = e in cc)
kept_cause (OfSession session.BadPacket) fault e = absurd (let h = e in cc)
kept_cause (OfSession session.LinkFault) fault e = absurd (let h = e in cc)
kept_cause (OfSession session.Torn) fault e = absurd (let h = e in cc)
kept_cause (OfSession session.Memory) fault e = absurd (let h = e in cc)
kept_cause (OfLogin login.In) fault e = absurd (let h = e in cc)
kept_cause (OfLogin login.Denied) fault e = absurd (let h = e in cc)
kept_cause (OfLogin login.BadPacket) fault e = absurd (let h = e in cc)
kept_cause (OfLogin login.Closed) fault e = absurd (let h = e in cc)
kept_cause (OfLogin login.LinkFault) fault e = absurd (let h = e in cc)
kept_cause (OfLogin login.SaltFault) fault e = absurd (let h = e in cc)
kept_cause (OfLogin login.Memory) fault e = absurd (let h = e in cc)

pub torn_cause : (end : LinkEnd) → link_cause end ≡ Torn → end ≡ OfSession session.Torn
torn_cause (OfSession session.Torn) e = refl
torn_cause (OfSession session.DiskFault) e = absurd (let h = e in cc)
torn_cause (OfSession session.Quit) e = absurd (let h = e in cc)
torn_cause (OfSession session.Closed) e = absurd (let h = e in cc)
torn_cause (OfSession session.BadPacket) e = absurd (let h = e in cc)
torn_cause (OfSession session.LinkFault) e = absurd (let h = e in cc)
torn_cause (OfSession (session.Kept fault)) e = absurd (let h = e in cc)
torn_cause (OfSession session.Memory) e = absurd (let h = e in cc)
torn_cause (OfLogin login.In) e = absurd (let h = e in cc)
torn_cause (OfLogin login.Denied) e = absurd (let h = e in cc)
torn_cause (OfLogin login.BadPacket) e = absurd (let h = e in cc)
torn_cause (OfLogin login.Closed) e = absurd (let h = e in cc)
torn_cause (OfLogin login.LinkFault) e = absurd (let h = e in cc)
torn_cause (OfLogin login.SaltFault) e = absurd (let h = e in cc)
torn_cause (OfLogin login.Memory) e = absurd (let h = e in cc)

pub salt_cause : (end : LinkEnd) → link_cause end ≡ Salt → end ≡ OfLogin login.SaltFault
salt_cause (OfLogin login.SaltFault) e = refl
salt_cause (OfSession session.DiskFault) e = absurd (let h = e in cc)
salt_cause (OfSession session.Quit) e = absurd (let h = e in cc)
salt_cause (OfSession session.Closed) e = absurd (let h = e in cc)
salt_cause (OfSession session.BadPacket) e = absurd (let h = e in cc)
salt_cause (OfSession session.LinkFault) e = absurd (let h = e in cc)
salt_cause (OfSession (session.Kept fault)) e = absurd (let h = e in cc)
salt_cause (OfSession session.Torn) e = absurd (let h = e in cc)
salt_cause (OfSession session.Memory) e = absurd (let h = e in cc)
salt_cause (OfLogin login.In) e = absurd (let h = e in cc)
salt_cause (OfLogin login.Denied) e = absurd (let h = e in cc)
salt_cause (OfLogin login.BadPacket) e = absurd (let h = e in cc)
salt_cause (OfLogin login.Closed) e = absurd (let h = e in cc)
salt_cause (OfLogin login.LinkFault) e = absurd (let h = e in cc)
salt_cause (OfLogin login.Memory) e = absurd (let h = e in cc)

pub no_door_cause : (end : LinkEnd) → link_cause end ≡ Door → ⊥
no_door_cause (OfSession session.DiskFault) e = (let h = e in cc)
no_door_cause (OfSession session.Quit) e = (let h = e in cc)
no_door_cause (OfSession session.Closed) e = (let h = e in cc)
no_door_cause (OfSession session.BadPacket) e = (let h = e in cc)
no_door_cause (OfSession session.LinkFault) e = (let h = e in cc)
no_door_cause (OfSession (session.Kept fault)) e = (let h = e in cc)
no_door_cause (OfSession session.Torn) e = (let h = e in cc)
no_door_cause (OfSession session.Memory) e = (let h = e in cc)
no_door_cause (OfLogin login.In) e = (let h = e in cc)
no_door_cause (OfLogin login.Denied) e = (let h = e in cc)
no_door_cause (OfLogin login.BadPacket) e = (let h = e in cc)
no_door_cause (OfLogin login.Closed) e = (let h = e in cc)
no_door_cause (OfLogin login.LinkFault) e = (let h = e in cc)
no_door_cause (OfLogin login.SaltFault) e = (let h = e in cc)
no_door_cause (OfLogin login.Memory) e = (let h = e in cc)

-- a link by its fault
pub fault_number : (end : LinkEnd) → link_number end ≡ 4 → (end ≡ OfSession session.LinkFault) ⊎ (end ≡ OfLogin login.LinkFault)
fault_number (OfSession session.LinkFault) e = inl refl
fault_number (OfLogin login.LinkFault) e = inr refl
fault_number (OfSession session.DiskFault) e = absurd (let h = e in omega (arith, h))
fault_number (OfSession session.Quit) e = absurd (let h = e in omega (arith, h))
fault_number (OfSession session.Closed) e = absurd (let h = e in omega (arith, h))
fault_number (OfSession session.BadPacket) e = absurd (let h = e in omega (arith, h))
fault_number (OfSession (session.Kept fault)) e = absurd (let h = e in omega (arith, h))
fault_number (OfSession session.Torn) e = absurd (let h = e in omega (arith, h))
fault_number (OfSession session.Memory) e = absurd (let h = e in omega (arith, h))
fault_number (OfLogin login.In) e = absurd (let h = e in omega (arith, h))
fault_number (OfLogin login.Denied) e = absurd (let h = e in omega (arith, h))
fault_number (OfLogin login.BadPacket) e = absurd (let h = e in omega (arith, h))
fault_number (OfLogin login.Closed) e = absurd (let h = e in omega (arith, h))
fault_number (OfLogin login.SaltFault) e = absurd (let h = e in omega (arith, h))
fault_number (OfLogin login.Memory) e = absurd (let h = e in omega (arith, h))

-- what stands behind the first cause, where it isn't the closing's
pub disk_behind : (visits : List Visit) (closing first : DoorEnd) {disk : Type 0} {refused : OpenFault → Type 0} {torn salt : Type 0}
    → ((visit : Visit) → Contains visits visit → IsCaused visit.ending disk refused torn salt) → (closing ≡ Disk → ⊥) → IsFirstCause visits closing first → first ≡ Disk → disk
disk_behind visits closing first caused other is e = elim is.among [
  | inl some ↦ (caused some.0 some.1).by_disk (disk_cause some.0.ending (some.2 ∙ e))
  | inr same ↦ absurd (other (same ∙ e))
]

pub kept_behind : (visits : List Visit) (closing first : DoorEnd) {disk : Type 0} {refused : OpenFault → Type 0} {torn salt : Type 0}
    → ((visit : Visit) → Contains visits visit → IsCaused visit.ending disk refused torn salt) → (fault : OpenFault) → (closing ≡ Kept fault → ⊥) → IsFirstCause visits closing first
    → first ≡ Kept fault → refused fault
kept_behind visits closing first caused fault other is e = elim is.among [
  | inl some ↦ (caused some.0 some.1).by_output fault (kept_cause some.0.ending fault (some.2 ∙ e))
  | inr same ↦ absurd (other (same ∙ e))
]

pub torn_behind : (visits : List Visit) (closing first : DoorEnd) {disk : Type 0} {refused : OpenFault → Type 0} {torn salt : Type 0}
    → ((visit : Visit) → Contains visits visit → IsCaused visit.ending disk refused torn salt) → (closing ≡ Torn → ⊥) → IsFirstCause visits closing first → first ≡ Torn → torn
torn_behind visits closing first caused other is e = elim is.among [
  | inl some ↦ (caused some.0 some.1).by_file (torn_cause some.0.ending (some.2 ∙ e))
  | inr same ↦ absurd (other (same ∙ e))
]

pub salt_behind : (visits : List Visit) (closing first : DoorEnd) {disk : Type 0} {refused : OpenFault → Type 0} {torn salt : Type 0}
    → ((visit : Visit) → Contains visits visit → IsCaused visit.ending disk refused torn salt) → (closing ≡ Salt → ⊥) → IsFirstCause visits closing first → first ≡ Salt → salt
salt_behind visits closing first caused other is e = elim is.among [
  | inl some ↦ (caused some.0 some.1).by_salt (salt_cause some.0.ending (some.2 ∙ e))
  | inr same ↦ absurd (other (same ∙ e))
]
