-- What a grouper keeps stands for.
use Rattle.std.specs.Prelude.{ℕ, Bool, true, false, List, [], ◌∷◌, Option, Some, None}
use Rattle.cdc_base.specs.declared.xid.Xid.{Xid}
use Rattle.cdc_model.specs.Records.{Row}
use Rattle.cdc_model.specs.Group.{Content, TableRows, OneStatement}
use Rattle.cdc_model.specs.Group.{Out as HasNone, Wait as HasTime, Xa as HasXa, End as HasEnded, Local as HasLocal}
use Rattle.cdc_group.specs.declared.time.Time.{Time}
use Rattle.cdc_group.specs.declared.group.GroupState.{GroupState}
use Rattle.cdc_group.specs.declared.group.GroupState.TheVariants.{Out, Wait, Xa, End, Local, Faulty}
use Rattle.cdc_group.specs.declared.group.Group.{Group}
use Rattle.cdc_group.specs.Grouping.{Grouping, Goes, Stopped}

-- what a group holds: its one row where that is a statement, or rows of tables
abbrev pub group_content : Bool → List Row → Content
group_content false rows = TableRows rows
group_content true [] = TableRows []
group_content true (row ∷ []) = OneStatement row
group_content true (row ∷ other ∷ rows) = TableRows (row ∷ other ∷ rows)

-- a timestamp's value
abbrev pub value_of_time : Option Time → Option ℕ
value_of_time None = None
value_of_time (Some time) = Some time.value

-- how far the unfinished item has come, or the fault
abbrev pub standing : GroupState → Xid → Bool → List Row → Grouping
standing Out xid statement rows = Goes HasNone
standing (Wait time) xid statement rows = Goes (HasTime time.value)
standing (Xa time) xid statement rows = Goes (HasXa (value_of_time time) xid (group_content statement rows))
standing (End time) xid statement rows = Goes (HasEnded (value_of_time time) xid (group_content statement rows))
standing Local xid statement rows = Goes (HasLocal rows)
standing (Faulty fault) xid statement rows = Stopped fault

-- where a grouper with these parts stands
abbrev pub grouping_of : Group → Grouping
grouping_of group = standing group.state group.xid group.statement group.rows
