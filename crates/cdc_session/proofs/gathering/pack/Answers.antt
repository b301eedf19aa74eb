use Rattle.std.proofs.Common.{◌++◌, ℕ, List}
use Rattle.cdc_session.proofs.Sent.{one_packed, one_broken, small_packet, small_number}
use Rattle.cdc_session.proofs.gathering.pack.Goals as goal

pub returns-in-Err-clause-told : goal.returns-in-Err-clause-told
returns-in-Err-clause-told g c told =
    let first : List ℕ = c.args.first.now in
    let rest : List ℕ = c.args.rest.now in
    one_broken c.args.out.now.sequence (first ++ rest) (c.head_of-head.result ++ (first ++ rest)) (c.in-Err.ensures.told told)
    (small_packet c.args.out.now.sequence first rest c.head_of-head.result c.requires c.head_of-head.ensures)

pub returns-clause-told : goal.returns-clause-told
returns-clause-told g c told =
    let first : List ℕ = c.args.first.now in
    let rest : List ℕ = c.args.rest.now in
    one_packed (first ++ rest) (c.head_of-head.result ++ (first ++ rest)) (c.in_default.ensures.told told)
    (small_packet c.args.out.now.sequence first rest c.head_of-head.result c.requires c.head_of-head.ensures)
    (small_number c.args.out.now.sequence first rest c.requires)
