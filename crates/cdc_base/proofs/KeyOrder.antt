-- The order of keys is total, and keys that tie are equal in all their parts.
use Rattle.std.proofs.Common.{◌≡◌, rules}
use Rattle.std.specs.Cmp.{IsTotalOrder}
use Rattle.std.specs.Cmp.Rules.{comparing}
use Rattle.std.specs.Ordering.{ordering_then, nat_cmp}
use Rattle.std.specs.declared.cmp.Ordering.{Ordering}
use Rattle.std.specs.declared.cmp.Ordering.TheVariants.{Less, Equal, Greater}
use Rattle.std.proofs.lemmas.Map.Lookups.{exact_unsigned, exact_bytes}
use Rattle.cdc_base.specs.declared.key.Key.TheVariants.{Shared, Plain}
use Rattle.cdc_base.specs.Key.{key_order, SameKey}

pub key_order_total : IsTotalOrder key_order
key_order_total = search (comparing, rules) depth 9

-- where two orders one after the other tie, each ties
both_tie : (first second : Ordering) → ordering_then first second ≡ Equal → (first ≡ Equal) × (second ≡ Equal)
both_tie Less second e = absurd (cc)
both_tie Equal second e = (λ _. Equal, e)
both_tie Greater second e = absurd (cc)

pub same_key : SameKey
same_key (Shared timestamp gtrid) (Shared timestamp' gtrid') e =
    let by_time = both_tie _ _ e in
    let by_id = both_tie _ _ by_time.1 in
    let p : timestamp ≡ timestamp' = exact_unsigned _ _ by_time.0 in
    let q : gtrid ≡ gtrid' = exact_bytes _ _ by_id.0 in
    λ i. Shared (p i) (q i)
same_key (Shared timestamp gtrid) (Plain timestamp' node' entry') e =
    let by_class : Less ≡ Equal = (both_tie (nat_cmp timestamp timestamp') _ e).1 in absurd (cc)
same_key (Plain timestamp node entry) (Shared timestamp' gtrid') e =
    let by_class : Greater ≡ Equal = (both_tie (nat_cmp timestamp timestamp') _ e).1 in absurd (cc)
same_key (Plain timestamp node entry) (Plain timestamp' node' entry') e =
    let by_time = both_tie _ _ e in
    let by_node = both_tie _ _ by_time.1 in
    let p : timestamp ≡ timestamp' = exact_unsigned _ _ by_time.0 in
    let q : node ≡ node' = exact_unsigned _ _ by_node.0 in
    let r : entry ≡ entry' = exact_unsigned _ _ by_node.1 in
    λ i. Plain (p i) (q i) (r i)
