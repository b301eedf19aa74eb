use Rattle.std.proofs.Common.{◌≡◌, map, string_bytes, ◌++◌}
use Rattle.std.specs.Vec.Iter.{into_iter_items}
use Rattle.cdc_prog.proofs.words.texts_of.Given as goal

-- the texts so far and those of the words left are all
abbrev pub invariant-loop-word : goal.invariant-loop-word
invariant-loop-word l = l.texts ++ map string_bytes (into_iter_items l.word-iterator) ≡ map string_bytes (into_iter_items l.fn.words)
