-- The name of a process (Tock Binary Format, "Package Name").
use Rattle.std.specs.Prelude.{ℕ, List, [], take, option_and_then, option_map, unwrap_or}
use Rattle.std.specs.Result.{result_ok}
use Rattle.tbf_headers.specs.Meaning.{header_reading}

-- the name that is shown of an object with these bytes: the first 32 bytes of the package name that its header gives;
-- none where there is no name
abbrev pub name_of : List ℕ → List ℕ
name_of object =
    unwrap_or (option_map (take 32) (option_and_then (λ h. h.name) (result_ok (header_reading object)))) []
