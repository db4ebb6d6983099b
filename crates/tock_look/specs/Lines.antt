-- Commands that come in, one a line. They are this tool's own.
use Rattle.std.specs.Prelude.{◌≡◌, ℕ, List, [], ◌∷◌, ◌++◌, Option, None, Some}

-- the lines that are still to come, before and after some of them were taken, where they are told
abbrev pub Came : Option (List (List ℕ)) → Option (List (List ℕ)) → List (List ℕ) → Type 0
Came None new given = Unit {0}
Came (Some lines) None given = ⊥
Came (Some lines) (Some rest) given = lines ≡ given ++ rest

-- no line is left
abbrev pub IsEnded : Option (List (List ℕ)) → Type 0
IsEnded None = Unit {0}
IsEnded (Some lines) = lines ≡ []

-- the next line is taken; or none is left, and none is taken
abbrev pub GivesLine : Option (List (List ℕ)) → Option (List (List ℕ)) → Option (List ℕ) → Type 0
GivesLine old new None = Came old new [] × IsEnded new
GivesLine old new (Some line) = Came old new (line ∷ [])

-- a source of lines before a call, and after it
pub record LineAccount : Type 0 where
  pub before : Option (List (List ℕ))
  pub after : Option (List (List ℕ))

abbrev pub line_account : {L : Type 0} → (L → Option (List (List ℕ))) → L → L → LineAccount
line_account lines old new = record { before = lines old; after = lines new }
