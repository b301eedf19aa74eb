use Rattle.cdc_dumper.specs.Shape.{dumper_seen}
use Rattle.cdc_dumper.proofs.Appending.{shape_of}
use Rattle.cdc_dumper.proofs.dumper.Dumper.keeps_shape.Goals as goal

pub returns : goal.returns
returns c = shape_of c.args.self.now (dumper_seen c.self.inside) c.self.view_is c.self.invariant
