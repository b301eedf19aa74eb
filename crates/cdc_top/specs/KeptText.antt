-- The text of what outs and the task keep, as a line has it.
use Rattle.std.specs.Prelude.{ℕ, List, ◌++◌, codes, decimal}
use Rattle.hex.specs.Hex.{encode_lower}
use Rattle.cdc_base.specs.declared.key.Key.{Key}
use Rattle.cdc_base.specs.declared.key.Key.TheVariants.{Shared, Plain}
use Rattle.cdc_model.specs.declared.layout.Layout.{Layout}

-- where an out stands: its last file, a colon, that file's length
abbrev pub shown_layout : Layout → List ℕ
shown_layout at = decimal at.file ++ codes ":" ++ decimal at.length

-- a key: its timestamp and its class; then the id in lower-case hexadecimal digits, or the node and the entry; with commas between them
abbrev pub shown_key : Key → List ℕ
shown_key (Shared timestamp gtrid) = decimal timestamp ++ codes ",0," ++ encode_lower gtrid
shown_key (Plain timestamp node entry) = decimal timestamp ++ codes ",1," ++ decimal node ++ codes "," ++ decimal entry
