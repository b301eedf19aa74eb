use Rattle.cdc_writer.proofs.Runs.{spot_begun}
use Rattle.cdc_writer.proofs.spot.place.Goals as goal

pub returns-then-begins_file : goal.returns-then-begins_file
returns-then-begins_file c = spot_begun c.args.layout.now c.args.rotation c.args.length c.if-begins_file.ensures
