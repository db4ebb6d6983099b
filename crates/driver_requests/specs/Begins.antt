-- What a visit leaves that has a request begin to wait.
use Rattle.std.specs.Prelude.{◌≡◌, Bool, true, false, Option, None, Some}
use Rattle.grant_values.specs.Values.{KeptValue}
use Rattle.driver_model.specs.Requests.{RequestKind}

-- where none waits it begins to; where one does, nothing changes
abbrev pub Begins : {R : Type 0} → RequestKind R → Option R → R → KeptValue → Bool → KeptValue → Type 0
Begins request_kind None request value begun value' =
    (begun ≡ true) × (value' ≡ request_kind.with_request (Some request) value)
Begins request_kind (Some waiting) request value begun value' = (begun ≡ false) × (value' ≡ value)
