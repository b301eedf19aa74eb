use Rattle.std.proofs.Common.{[], ◌∷◌, refl}
use Rattle.cdc_auth.specs.declared.login_end.LoginEnd.TheVariants as login
use Rattle.cdc_server.proofs.linking.serve_user.Goals as goal

pub returns-in-In-clause-told : goal.returns-in-In-clause-told
returns-in-In-clause-told g c =
    let t = c.in-In.ensures.told in (
      t.0 ∷ [],
      λ z. t.1 z,
      λ d l found is.
          record {
            draw = t.0;
            one = refl;
            mid = g.L.Link.written c.login.new.link;
            left = g.L.Link.left c.login.new.link;
            login = login.In;
            follows = t.2 l;
            behind = c.serve_open.ensures.told d l found is;
          },
    )

pub returns-in-Denied-clause-told : goal.returns-in-Denied-clause-told
returns-in-Denied-clause-told g c =
    let t = c.in-Denied.ensures.told in (
      t.0 ∷ [],
      λ z. t.1 z,
      λ d l found is.
          record {
            draw = t.0;
            one = refl;
            mid = g.L.Link.written c.login.new.link;
            left = g.L.Link.left c.login.new.link;
            login = login.Denied;
            follows = t.2 l;
            behind = (refl, refl);
          },
    )

pub returns-in-BadPacket-clause-told : goal.returns-in-BadPacket-clause-told
returns-in-BadPacket-clause-told g c =
    let t = c.in-BadPacket.ensures.told in (
      t.0 ∷ [],
      λ z. t.1 z,
      λ d l found is.
          record {
            draw = t.0;
            one = refl;
            mid = g.L.Link.written c.login.new.link;
            left = g.L.Link.left c.login.new.link;
            login = login.BadPacket;
            follows = t.2 l;
            behind = (refl, refl);
          },
    )

pub returns-in-Closed-clause-told : goal.returns-in-Closed-clause-told
returns-in-Closed-clause-told g c =
    let t = c.in-Closed.ensures.told in (
      t.0 ∷ [],
      λ z. t.1 z,
      λ d l found is.
          record {
            draw = t.0;
            one = refl;
            mid = g.L.Link.written c.login.new.link;
            left = g.L.Link.left c.login.new.link;
            login = login.Closed;
            follows = t.2 l;
            behind = (refl, refl);
          },
    )

pub returns-in-LinkFault-clause-told : goal.returns-in-LinkFault-clause-told
returns-in-LinkFault-clause-told g c =
    let t = c.in-LinkFault.ensures.told in (
      t.0 ∷ [],
      λ z. t.1 z,
      λ d l found is.
          record {
            draw = t.0;
            one = refl;
            mid = g.L.Link.written c.login.new.link;
            left = g.L.Link.left c.login.new.link;
            login = login.LinkFault;
            follows = t.2 l;
            behind = (refl, refl);
          },
    )

pub returns-in-SaltFault-clause-told : goal.returns-in-SaltFault-clause-told
returns-in-SaltFault-clause-told g c =
    let t = c.in-SaltFault.ensures.told in (
      t.0 ∷ [],
      λ z. t.1 z,
      λ d l found is.
          record {
            draw = t.0;
            one = refl;
            mid = g.L.Link.written c.login.new.link;
            left = g.L.Link.left c.login.new.link;
            login = login.SaltFault;
            follows = t.2 l;
            behind = (refl, refl);
          },
    )

pub returns-in-Memory-clause-told : goal.returns-in-Memory-clause-told
returns-in-Memory-clause-told g c =
    let t = c.in-Memory.ensures.told in (
      t.0 ∷ [],
      λ z. t.1 z,
      λ d l found is.
          record {
            draw = t.0;
            one = refl;
            mid = g.L.Link.written c.login.new.link;
            left = g.L.Link.left c.login.new.link;
            login = login.Memory;
            follows = t.2 l;
            behind = (refl, refl);
          },
    )
