use Rattle.std.proofs.Common.{◌≡◌, drop}
use Rattle.std.specs.List.{find}
use Rattle.std.specs.Str.{bytes_eq}
use Rattle.cdc_base.specs.declared.user.User.{User}
use Rattle.cdc_auth.proofs.answer.find_user.Given as goal

-- what is left decides the answer
abbrev pub invariant-loop-user : goal.invariant-loop-user
invariant-loop-user l = find (λ (user : User). bytes_eq user.name l.name) (drop l.user-index l.users) ≡ find (λ (user : User). bytes_eq user.name l.name) l.users
