-- The rules of a configuration have names of 1 to 64 bytes.
use Rattle.std.proofs.Common.{◌≡◌, ℕ, ◌&&◌, nat_le, Bool, true, false, List, [], ◌∷◌, length, codes, Option, Some, None, option_map, option_and_then, cond, refl, subst}
use Rattle.std.specs.List.{AllByRecursion}
use Rattle.std.proofs.lemmas.Bool.{and_parts, leb-true}
use Rattle.toml.specs.Data.{Data, Items, no_items, item, as_array, as_str, get}
use Rattle.cdc_base.specs.declared.rename.Rename.{Rename}
use Rattle.cdc_rename.specs.Names.{IsName, IsRule}
use Rattle.cdc_config.specs.declared.parts.TableNames.{TableNames}
use Rattle.cdc_config.specs.declared.shape.Shape.TheVariants as shape
use Rattle.cdc_config.specs.Keys.{listed, part_at, rule_from, rule_with, table_at, table_names}
use Rattle.cdc_config.specs.Tree.{array_of, each, if_passed, is_shaped, sized_text}

-- what a step was made from
pub data CameFrom {A B : Type 0} (step : A → Option B) (first : Option A) (last : B) : Type 0 where
  by_way_of : (middle : A) → first ≡ Some middle → step middle ≡ Some last → CameFrom step first last

and_then_came : {A B : Type 0} (step : A → Option B) (first : Option A) (last : B) → option_and_then step first ≡ Some last → CameFrom step first last
and_then_came step None last h = absurd (cc)
and_then_came step (Some middle) last h = by_way_of middle refl h

map_came : {A B : Type 0} (made : A → B) (first : Option A) (last : B) → option_map made first ≡ Some last → CameFrom (λ x. Some (made x)) first last
map_came made None last h = absurd (cc)
map_came made (Some middle) last h = by_way_of middle refl h

passed_is : {A : Type 0} (test : Bool) (value last : A) → if_passed test value ≡ Some last → (test ≡ true) × (value ≡ last)
passed_is true value last h = (refl, cc)
passed_is false value last h = absurd (cc)

then_is : {A : Type 0} (test : Bool) (found : Option A) (last : A) → cond test found None ≡ Some last → found ≡ Some last
then_is true found last h = h
then_is false found last h = absurd (cc)

sized_is : (value : Data) (text : List ℕ) → sized_text 1 64 value ≡ Some text → IsName text
sized_is value text h =
    elim (and_then_came (λ (t : List ℕ). if_passed (nat_le 1 (length t) && nat_le (length t) 64) t) (as_str value) text h) [
      | by_way_of middle first second ↦
          let both = passed_is (nat_le 1 (length middle) && nat_le (length middle) 64) middle text second in
          let parts = and_parts (nat_le 1 (length middle)) (nat_le (length middle) 64) both.0 in
          subst IsName both.1 (record { some = leb-true 1 (length middle) parts.0; short = leb-true (length middle) 64 parts.1 })
    ]

name_is : (key : List ℕ) (value : Data) (text : List ℕ) → part_at (sized_text 1 64) key value ≡ Some text → IsName text
name_is key value text h =
    elim (and_then_came (sized_text 1 64) (get key value) text h) [
      | by_way_of middle first second ↦ sized_is middle text second
    ]

-- two names
pub record AreNamed (names : TableNames) : Type 0 where
  pub db_is : IsName names.db
  pub table_is : IsName names.table

table_is : (db table : List ℕ) (value : Data) (names : TableNames) → table_at db table value ≡ Some names → AreNamed names
table_is db table value names h =
    elim (and_then_came (λ (d : List ℕ). option_map (table_names d) (part_at (sized_text 1 64) table value)) (part_at (sized_text 1 64) db value) names h) [
      | by_way_of d first second ↦
          elim (map_came (table_names d) (part_at (sized_text 1 64) table value) names second) [
            | by_way_of t third fourth ↦
                let same : table_names d t ≡ names = cc in
                subst AreNamed same (record { db_is = name_is db value d first; table_is = name_is table value t third })
          ]
    ]

rule_is : (value : Data) (rule : Rename) → rule_from value ≡ Some rule → IsRule rule
rule_is value rule h =
    let inner = then_is (is_shaped shape.Table value) (option_and_then (λ (old : TableNames). option_map (rule_with old) (table_at (codes "to_db") (codes "to_table") value)) (table_at (codes "db") (codes "table") value)) rule h in
    elim (and_then_came (λ (old : TableNames). option_map (rule_with old) (table_at (codes "to_db") (codes "to_table") value)) (table_at (codes "db") (codes "table") value) rule inner) [
      | by_way_of old first second ↦
          elim (map_came (rule_with old) (table_at (codes "to_db") (codes "to_table") value) rule second) [
            | by_way_of new third fourth ↦
                let before = table_is (codes "db") (codes "table") value old first in
                let after = table_is (codes "to_db") (codes "to_table") value new third in
                let same : rule_with old new ≡ rule = cc in
                subst IsRule same (record { db = before.db_is; table = before.table_is; to_db = after.db_is; to_table = after.table_is })
          ]
    ]

each_all : {A : Type 0} (read : Data → Option A) (P : A → Type 0) → ((value : Data) (part : A) → read value ≡ Some part → P part) → (items : Items) (parts : List A) → each read items ≡ Some parts → AllByRecursion P parts
each_all read P made no_items parts h = let none : [] ≡ parts = cc in subst (AllByRecursion P) none tt
each_all {A} read P made (item value items) parts h =
    elim (and_then_came (λ (part : A). option_map (λ (more : List A). part ∷ more) (each read items)) (read value) parts h) [
      | by_way_of part first second ↦
          elim (map_came (λ (more : List A). part ∷ more) (each read items) parts second) [
            | by_way_of more third fourth ↦
                let same : part ∷ more ≡ parts = cc in
                subst (AllByRecursion P) same (made value part first, each_all read P made items more third)
          ]
    ]

array_all : (value : Data) (rules : List Rename) → array_of 0 65536 rule_from value ≡ Some rules → AllByRecursion IsRule rules
array_all value rules h =
    elim (and_then_came (λ (items : Items). option_and_then (λ (parts : List Rename). if_passed (nat_le 0 (length parts) && nat_le (length parts) 65536) parts) (each rule_from items)) (as_array value) rules h) [
      | by_way_of items first second ↦
          elim (and_then_came (λ (parts : List Rename). if_passed (nat_le 0 (length parts) && nat_le (length parts) 65536) parts) (each rule_from items) rules second) [
            | by_way_of parts third fourth ↦
                let same = (passed_is (nat_le 0 (length parts) && nat_le (length parts) 65536) parts rules fourth).1 in
                subst (AllByRecursion IsRule) same (each_all rule_from IsRule rule_is items parts third)
          ]
    ]

-- each rule at the key `table` is one
pub rules_are : (found : Option Data) (rules : List Rename) → listed (array_of 0 65536 rule_from) found ≡ Some rules → AllByRecursion IsRule rules
rules_are None rules h = let none : [] ≡ rules = cc in subst (AllByRecursion IsRule) none tt
rules_are (Some value) rules h = array_all value rules h
