-- Keys keep their facts where one more is put among them.
use Rattle.std.proofs.Common.{List, [], ◌∷◌}
use Rattle.std.specs.List.{AllByRecursion}
use Rattle.std.specs.declared.cmp.Ordering.{Ordering}
use Rattle.std.specs.declared.cmp.Ordering.TheVariants.{Less, Equal, Greater}
use Rattle.cdc_base.specs.declared.key.Key.{Key}
use Rattle.cdc_base.specs.Key.{key_order}
use Rattle.cdc_model.specs.Kept.{IsKeptKey}
use Rattle.cdc_model.specs.Transaction.{placed_key, put}

placed_kept : (order : Ordering) (key first : Key) (rest later : List Key) → IsKeptKey key → AllByRecursion IsKeptKey (first ∷ rest)
    → AllByRecursion IsKeptKey later → AllByRecursion IsKeptKey (placed_key order key first rest later)
placed_kept Less key first rest later kept all others = (kept, all)
placed_kept Equal key first rest later kept all others = all
placed_kept Greater key first rest later kept all others = (all.0, others)

pub put_kept : (key : Key) (keys : List Key) → IsKeptKey key → AllByRecursion IsKeptKey keys → AllByRecursion IsKeptKey (put key keys)
put_kept key [] kept all = (kept, tt)
put_kept key (first ∷ rest) kept all =
    placed_kept (key_order key first) key first rest (put key rest) kept all (put_kept key rest kept all.1)
