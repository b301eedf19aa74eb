use Rattle.std.proofs.Common.{◌+◌, ◌++◌, ℕ, List, length, take, drop, ap}
use Rattle.cdc_packet.specs.Packet.{packet_head}
use Rattle.cdc_session.proofs.Sent.{goes_as, breaks_as, out_then, breaks_then, breaks_first}
use Rattle.cdc_session.proofs.copying.pack_part.Goals as goal

pub returns-in-Err-clause-told : goal.returns-in-Err-clause-told
returns-in-Err-clause-told g c told tells image same reads =
    let lead : List ℕ = c.args.lead.now in
    let head : List ℕ = packet_head (length lead + c.args.count) c.args.out.now.sequence in
    breaks_first (take c.args.count (drop c.args.at (image c.args.source.file)))
    (breaks_as (head ++ lead) (ap (λ h. h ++ lead) c.head_of-head.ensures) (c.in-Err.ensures.told tells))

pub returns-in-Err-copy-clause-told : goal.returns-in-Err-copy-clause-told
returns-in-Err-copy-clause-told g c told tells image same reads =
    let lead : List ℕ = c.args.lead.now in
    let head : List ℕ = packet_head (length lead + c.args.count) c.args.out.now.sequence in
    breaks_then (goes_as (head ++ lead) (ap (λ h. h ++ lead) c.head_of-head.ensures) (c.in_default.ensures.told tells)) (c.in-Err-copy.ensures.told told tells image same reads)

pub returns-clause-told : goal.returns-clause-told
returns-clause-told g c told tells image same reads =
    let lead : List ℕ = c.args.lead.now in
    let head : List ℕ = packet_head (length lead + c.args.count) c.args.out.now.sequence in
    out_then (goes_as (head ++ lead) (ap (λ h. h ++ lead) c.head_of-head.ensures) (c.in_default.ensures.told tells)) (c.in_default-copy.ensures.told told tells image same reads)
