use Rattle.std.proofs.Common.{rules, ℕ, ◌<◌, List, length, ◌∙◌}
use Rattle.std.proofs.lemmas.List.{length-set}
use Rattle.cdc_auth.proofs.Digests.{xor_next}
use Rattle.cdc_auth.proofs.answer.xor.Goals as goal

pub loop-i-preserved : goal.loop-i-preserved
loop-i-preserved c =
    let bytes : List ℕ = c.args.bytes.now in
    let others : List ℕ = c.args.others.now in
    let in_bytes : c.loop-i.i < length bytes = search rules in
    let in_others : c.loop-i.i < length others = search rules in
    let in_joined : c.loop-i.i < length c.loop-i.joined = search rules in
    record {
      size = length-set c.loop-i.joined c.loop-i.i _ ∙ c.loop-i.invariant.size;
      so_far = xor_next c.loop-i.i bytes others c.loop-i.joined c.loop-i.invariant.so_far in_bytes in_others in_joined;
    }
