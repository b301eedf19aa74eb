-- Transactions without rows.
use Rattle.std.specs.Prelude.{◌≡◌, ◌≤◌, [], length}
use Rattle.cdc_base.specs.declared.key.Key.{Key}
use Rattle.cdc_base.specs.declared.key.Key.TheVariants.{Shared, Plain}
use Rattle.cdc_model.specs.Records.{CommittedBranch}

-- a branch without rows
abbrev pub HasNoRows : CommittedBranch → Type 0
HasNoRows branch = branch.rows ≡ []

-- a key whose global id has at most 64 bytes
abbrev pub HasShortId : Key → Type 0
HasShortId (Shared timestamp gtrid) = length gtrid ≤ 64
HasShortId (Plain timestamp node entry) = Unit {0}
