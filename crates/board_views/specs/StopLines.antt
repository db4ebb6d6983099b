-- The lines that tell why a board stopped. Their form is this tool's own.
use Rattle.std.specs.Prelude.{ℕ, List, [], ◌∷◌, ◌++◌, codes, decimal, Option, None, Some}
use Rattle.tk_base.specs.Access.{cause_of}
use Rattle.board_views.specs.Lines.{line_text, words_text}
use Rattle.board_views.specs.declared.going.Stop.{Stop}
use Rattle.board_views.specs.declared.going.Stop.TheVariants.{Done, Most, Time, Turns, Address, Range, Changed}
use Rattle.board_views.specs.declared.going.Stop.TheVariants.{Denied, Exit, Act}
use Rattle.board_views.specs.declared.searches.Found.{Found}

-- a line: why, and words
unfoldable pub line_of_stop : List ℕ → List ℕ → List ℕ
line_of_stop why words = codes "stop " ++ line_text why (words_text words)

-- a change has the address of its place, a denial its code in mcause and its address, an exit a0 to a3; before them
-- stands the slot
abbrev pub stop_text : Stop → List ℕ
stop_text Done = line_of_stop (codes "done") []
stop_text Most = line_of_stop (codes "most") []
stop_text Time = line_of_stop (codes "time") []
stop_text Turns = line_of_stop (codes "turns") []
stop_text (Address slot) = line_of_stop (codes "address") (slot ∷ [])
stop_text Range = line_of_stop (codes "range") []
stop_text (Changed at) = line_of_stop (codes "changed") (at ∷ [])
stop_text (Denied slot denial) = line_of_stop (codes "denied") (slot ∷ cause_of denial ∷ denial.address ∷ [])
stop_text (Exit slot words) = line_of_stop (codes "exit") (slot ∷ words)
stop_text (Act slot) = line_of_stop (codes "act") (slot ∷ [])

-- the last place, if there is one: after how many steps, and why
unfoldable pub found_text : Option Found → List ℕ
found_text None = codes "none\n"
found_text (Some found) = codes "last " ++ (decimal found.steps ++ (codes "\n" ++ stop_text found.stop))
