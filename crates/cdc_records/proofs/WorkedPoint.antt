-- The records of two small checkpoints, worked out by hand.
use Rattle.std.proofs.Common.{◌≡◌, ℕ, List, [], ◌∷◌, ◌++◌, length, false, refl}
use Rattle.std.specs.Prelude.{None, Some, replicate}
use Rattle.cdc_base.specs.declared.key.Key.TheVariants.{Shared}
use Rattle.cdc_base.specs.declared.xid.Xid.{Xid}
use Rattle.cdc_event.specs.Number.{low_first}
use Rattle.cdc_records.specs.declared.checkpoint.Checkpoint.{Checkpoint}
use Rattle.cdc_records.specs.Checkpoint.{point_bytes, point_number}

-- the branch `g1` without qualifier, of format 1
abbrev g1 : Xid
g1 = record { gtrid = 103 ∷ 49 ∷ []; bqual = []; format = 1 }

-- one transaction with the key 10 `g1` in file 1 of 241 bytes; the one node goes on with entry 3 at byte 293 of file 1
-- behind the mark 10, and holds `g1` open with floor 0
abbrev after_one : Checkpoint
after_one = record {
  count = 1;
  layout = record { file = 1; length = 241; closed = false };
  last = Shared 10 (103 ∷ 49 ∷ []);
  rotation = Some 536870912;
  nodes = record { entry = 3; place = record { file = 1; at = 293 }; mark = 10; checksum = 0; held = (g1, 0) ∷ [] } ∷ [];
}

-- two transactions, and nothing held
abbrev after_two : Checkpoint
after_two = record {
  count = 2;
  layout = record { file = 1; length = 359; closed = false };
  last = Shared 20 (103 ∷ 50 ∷ []);
  rotation = Some 536870912;
  nodes = record { entry = 6; place = record { file = 1; at = 603 }; mark = 20; checksum = 0; held = [] } ∷ [];
}

-- zeros, behind the lowest byte of a small number
abbrev zeros : ℕ → List ℕ
zeros count = replicate count 0

pub bytes_after_one : point_bytes after_one
    ≡ 2 ∷ (1 ∷ zeros 7 ++ (1 ∷ zeros 7 ++ (241 ∷ zeros 7 ++ (0 ∷ (10 ∷ zeros 7 ++ (0 ∷ 2 ∷ 103 ∷ 49 ∷ (0 ∷ 0 ∷ 0 ∷ 32 ∷ zeros 4
    ++ (1 ∷ 0 ∷ (3 ∷ zeros 7 ++ (1 ∷ zeros 3 ++ (37 ∷ 1 ∷ zeros 6 ++ (10 ∷ zeros 7 ++ (0 ∷ (1 ∷ zeros 7
    ++ (zeros 8 ++ (1 ∷ zeros 3 ++ (2 ∷ 103 ∷ 49 ∷ 0 ∷ [])))))))))))))))))
unfolding low_first
bytes_after_one = refl

pub length_after_one : length (point_bytes after_one) ≡ 101
unfolding low_first
length_after_one = refl

pub number_after_one : point_number after_one ≡ 4
number_after_one = refl

pub length_after_two : length (point_bytes after_two) ≡ 85
unfolding low_first
length_after_two = refl

pub number_after_two : point_number after_two ≡ 8
number_after_two = refl

-- a record of the first version doesn't name the rotation size, which has 8 bytes
pub length_of_version_one : length (point_bytes (record after_one { rotation = None })) ≡ 93
unfolding low_first
length_of_version_one = refl
