-- The buttons' value in words (this kernel's own form): a mask of the buttons of which the process is told, bit n for
-- button n; three zeros. What it keeps is what Tock's driver 0x3 needs.
use Rattle.std.specs.Prelude.{ℕ, List, [], ◌∷◌}

-- the words that the buttons keep of a process
abbrev pub buttons_words : ℕ → List ℕ
buttons_words enabled = enabled ∷ 0 ∷ 0 ∷ 0 ∷ []
