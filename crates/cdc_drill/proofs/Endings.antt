-- How a drill ends, by how its attempts and its writing ended.
use Rattle.std.proofs.Common.{Bool, ◌++◌, refl}
use Rattle.cdc_records.specs.declared.front.Front.{Front}
use Rattle.cdc_list.specs.Lines.{out_line}
use Rattle.cdc_drill.specs.Drill.{DrillRun, drill_line, drill_nodes, IsDone, IsDrillEnd}
use Rattle.cdc_drill.specs.Attempts.{IsAttempt, WritesText}
use Rattle.cdc_drill.specs.declared.attempt.Attempt.TheVariants.{Found}
use Rattle.cdc_drill.specs.declared.drill_end.DrillEnd.{DrillEnd}
use Rattle.cdc_drill.specs.declared.drill_end.DrillEnd.TheVariants.{Done, TooLarge, Node, Memory, Sink}

-- the two lines of a Front that has all transactions are the drill's text
done_with : (run : DrillRun) (front : Front) → IsAttempt (drill_nodes run.seed run.nodes run.count) (Found front) → IsDone run (drill_line run ++ out_line 1 front)
done_with run front passed logs whole =
    let both = passed logs whole in (both.0, record { front = front; counted = both.1.counted; layout = both.1.layout; is = refl })

pub ends_written : (shown : Bool) (run : DrillRun) (front : Front) (end : DrillEnd) → IsAttempt (drill_nodes run.seed run.nodes run.count) (Found front) → WritesText shown run front end
    → IsDrillEnd shown run end
ends_written shown run front Done passed written = (drill_line run ++ out_line 1 front, done_with run front passed, written)
ends_written shown run front (TooLarge number bytes) passed written = absurd written
ends_written shown run front (Node node place fault) passed written = absurd written
ends_written shown run front Memory passed written = written
ends_written shown run front Sink passed written = (written.0, (drill_line run ++ out_line 1 front, done_with run front passed, written.1))
