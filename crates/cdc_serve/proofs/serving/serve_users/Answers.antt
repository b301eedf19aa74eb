use Rattle.cdc_serve.proofs.Answering.{caused_end}
use Rattle.cdc_serve.proofs.serving.serve_users.Goals as goal

pub returns-clause-caused : goal.returns-clause-caused
returns-clause-caused g c =
    caused_end c.serve_all.result c.serve_all.ensures.done c.serve_all.ensures.disk_failed c.serve_all.ensures.kept c.serve_all.ensures.torn c.serve_all.ensures.door_failed
    c.serve_all.ensures.salt_failed
