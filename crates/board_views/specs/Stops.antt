-- Why a board stopped that went on. The words are this tool's own.
use Rattle.std.specs.Prelude.{◌≡◌, ◌⊎◌, ◌≤◌, ◌<◌, ℕ, zero, suc, ◌-◌, nat_le, min, if◌then◌else◌, slice_get}
use Rattle.std.specs.Prelude.{Option, None, Some, is_none}
use Rattle.tk_base.specs.declared.limits.TheConstants.{STEP_LIMIT}
use Rattle.kernel_model.specs.Record.{Record}
use Rattle.kernel_model.specs.World.{World}
use Rattle.kernel_model.specs.Run.{next, round}
use Rattle.board_views.specs.declared.going.Stop.{Stop}
use Rattle.board_views.specs.declared.going.Stop.TheVariants.{Done, Most, Turns}

-- nothing is left to do, or as many steps were made as might be
unfoldable pub stop_at : World → Stop
stop_at w = if is_none (next w) then Done else Most

-- so many steps, or as many as may be made
abbrev pub within : World → ℕ → ℕ
within w most = min most (STEP_LIMIT - w.clock.steps)

-- how many turns the process of a slot had; none where there is no process
abbrev pub turns_had : Option Record → ℕ
turns_had None = 0
turns_had (Some r) = r.process.turns

abbrev pub turns_of : World → ℕ → ℕ
turns_of w slot = turns_had (slice_get w.records slot)

-- the first world in which the process of a slot had so many turns, or the one after n steps, where it had fewer
unfoldable pub until_turns : ℕ → ℕ → ℕ → World → World
until_turns zero slot turns w = w
until_turns (suc n) slot turns w =
    if nat_le turns (turns_of w slot) then w else until_turns n slot turns (round 1 w).world

-- How a board came to a world that goes on to so many turns of a process: by steps of the round robin, before each of
-- which that had fewer; and it has them there, or as many steps were made as might be.
pub record IsFirstWithTurns (n slot turns : ℕ) (from world : World) : Type 0 where
  pub made : ℕ
  pub few : made ≤ n
  pub reached : world ≡ (round made from).world
  pub none_before : (i : ℕ) → i < made → turns_of (round i from).world slot < turns
  pub ended : (turns ≤ turns_of world slot) ⊎ (made ≡ n)

-- why a board stopped there
unfoldable pub turns_stop : World → ℕ → ℕ → Stop
turns_stop w slot turns = if nat_le turns (turns_of w slot) then Turns else stop_at w
