use Rattle.std.proofs.Common.{[], sym, ◌∙◌}
use Rattle.cdc_server.proofs.Serving.{open_is, user_is, none_drawn}
use Rattle.cdc_server.proofs.linking.serve_link.Goals as goal

pub returns-then-is_empty-clause-told : goal.returns-then-is_empty-clause-told
returns-then-is_empty-clause-told g c = (
  [],
  λ z. none_drawn g.Z.Salt.drawn c.args.salt.now,
  λ d l found is.
      open_is c.args.users.now c.args.number found _ _ _ c.serve_open.result (sym c.is_empty.ensures ∙ c.if-is_empty.true) (c.serve_open.ensures.told d l found is),
)

pub returns-clause-told : goal.returns-clause-told
returns-clause-told g c =
    let t = c.serve_user.ensures.told in (
      t.0,
      λ z. t.1 z,
      λ d l found is. user_is c.args.users.now c.args.number found t.0 _ _ _ c.serve_user.result (sym c.is_empty.ensures ∙ c.if-is_empty.false) (t.2 d l found is),
    )
