-- A small board for worked cases: one instruction from address 0 on, all registers 0, and nothing but fetches
-- permitted.
use Rattle.std.specs.Prelude.{ℕ, Option, None, Some, replicate}
use Rattle.tk_base.specs.declared.access.Access.{Access}
use Rattle.tk_base.specs.declared.access.Access.TheVariants.{Fetch, Load, Store}
use Rattle.tk_base.specs.declared.access.Rule.{Rule}
use Rattle.tk_base.specs.declared.access.Rule.TheVariants.{NoRegion}
use Rattle.tk_base.specs.declared.access.Width.{Width}
use Rattle.tk_base.specs.Regs.{Registers}
use Rattle.tk_base.specs.Bus.{byte_of}
use Rattle.rv32_model.specs.UserTurn.{UserTurn, user_turn}

abbrev pub only_fetches : Access → ℕ → Width → Option Rule
only_fetches Fetch at width = None
only_fetches Load at width = Some NoRegion
only_fetches Store at width = Some NoRegion

abbrev pub begun : Registers
begun = record { x = replicate 32 0; pc = 0 }

-- the turn of an instruction there
abbrev pub worked_turn_of : ℕ → UserTurn
worked_turn_of word = user_turn only_fetches (byte_of word) begun
