-- The records of a small Front, worked out by hand.
use Rattle.std.proofs.Common.{◌≡◌, ℕ, List, [], ◌∷◌, ◌++◌, length, false, refl}
use Rattle.std.specs.Prelude.{None, Some, replicate}
use Rattle.cdc_base.specs.declared.key.Key.TheVariants.{Shared}
use Rattle.cdc_event.specs.Number.{low_first}
use Rattle.cdc_records.specs.declared.front.Front.{Front}
use Rattle.cdc_records.specs.Front.{front_bytes, front_number}

-- one transaction with the key 10 `g1`, in file 1 of 241 bytes
abbrev one_published : Front
one_published = record { count = 1; file = 1; length = 241; closed = false; first = 1; passed = 0; last = Some (Shared 10 (103 ∷ 49 ∷ [])) }

-- the same without what the first version doesn't keep
abbrev one_of_version_one : Front
one_of_version_one = record { count = 1; file = 1; length = 241; closed = false; first = 1; passed = 0; last = None }

-- seven zeros, behind the lowest byte of a small number
abbrev high : List ℕ
high = replicate 7 0

pub second_version_bytes : front_bytes one_published
    ≡ 2 ∷ (1 ∷ high ++ (1 ∷ high ++ (241 ∷ high ++ (0 ∷ (1 ∷ high ++ (0 ∷ high ++ (10 ∷ high ++ (0 ∷ 2 ∷ 103 ∷ 49 ∷ []))))))))
unfolding low_first
second_version_bytes = refl

pub second_version_length : length (front_bytes one_published) ≡ 54
unfolding low_first
second_version_length = refl

pub first_version_bytes : front_bytes one_of_version_one ≡ 1 ∷ (1 ∷ high ++ (1 ∷ high ++ (241 ∷ high ++ (0 ∷ []))))
unfolding low_first
first_version_bytes = refl

pub first_version_length : length (front_bytes one_of_version_one) ≡ 26
unfolding low_first
first_version_length = refl

-- the first record has the number 1
pub first_number : front_number one_published ≡ 1
first_number = refl
