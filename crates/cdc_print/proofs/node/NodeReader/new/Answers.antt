use Rattle.std.proofs.Common.{◌∙◌, [], refl}
use Rattle.cdc_print.specs.Reading.{whole_reading}
use Rattle.cdc_model.specs.NodeReading.{no_feed}
use Rattle.cdc_print.proofs.Stepping.{node_new}
use Rattle.cdc_print.proofs.node.NodeReader.new.Goals as goal

pub returns : goal.returns
returns c = λ told files before.
    node_new told files before c.args.node _
    (c.forget.ensures.reads told files (whole_reading c.args.node) [] no_feed (c.in_ok-reader.ensures.reads told files)) (c.forget.ensures.end ∙ c.in_ok-reader.ensures.goes_on) refl
