use Rattle.std.proofs.Common.{◌≡◌, Option, None, Some, option_map, is_some, refl, ap, arith, ◌∙◌}
use Rattle.tbf_headers.specs.Meaning.{header_reading, permissions_by}
use Rattle.tbf_headers.specs.Shown.{permissions_shown}
use Rattle.process_seat.proofs.seat.has_permissions.Goals as goal

pub object_at-requires : goal.object_at-requires
object_at-requires c =
    let from = c.requires.from in
    let to = c.requires.to in
    omega (arith, from, to)

still_some : {A B : Type 0} (f : A → B) (o : Option A) → is_some o ≡ is_some (option_map f o)
still_some f None = refl
still_some f (Some a) = refl

pub returns-in-Ok : goal.returns-in-Ok
returns-in-Ok c =
    c.is_some.ensures
    ∙ still_some permissions_shown c.perms.result
    ∙ ap is_some c.perms.ensures
    ∙ ap (λ r. is_some (permissions_by r)) (c.in-Ok.ensures.read ∙ ap header_reading c.object_at.ensures)

pub returns-in-Err : goal.returns-in-Err
returns-in-Err c =
    ap (λ r. is_some (permissions_by r)) (c.in-Err.ensures.read ∙ ap header_reading c.object_at.ensures)
