-- What handing the instruction of an entry over comes to.
use Rattle.std.specs.Prelude.{◌≡◌, true, Option, None, Some, is_some}
use Rattle.rv32_model.specs.declared.instr.Instr.{Instr}

-- what handing an instruction over comes to: there is none, and the handler is as it was; or it was handled by one that
-- knows the length
abbrev pub HandsOver : {H Answer : Type 0} → Option Instr → (H → Option Instr → Answer → H → Type 0) → H
    → Option Answer → H → H → Type 0
HandsOver instr handles sized None before after = (instr ≡ None) × (after ≡ before)
HandsOver instr handles sized (Some answer) before after = (is_some instr ≡ true) × handles sized instr answer after
