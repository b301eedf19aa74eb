use Rattle.cdc_serve.proofs.serving.serve_text.Goals as goal

pub returns-in-Ok : goal.returns-in-Ok
returns-in-Ok g c = (c.in-Ok.plan, λ t. c.in-Ok.ensures.plan, (c.serve_users.ensures.served, c.serve_users.ensures.caused))
