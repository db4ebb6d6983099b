-- That time passes no further than to the nearest time at which there is something to do for a device, which is this
-- board's own rule.
use Rattle.std.specs.Prelude.{◌≡◌, ◌<◌, ℕ, ◌+◌, false, Some}
use Rattle.tk_base.specs.declared.process.Choice.TheVariants.{Pass}
use Rattle.tk_base.specs.declared.process.Dev.{Dev}
use Rattle.board_devices.specs.Clock.{clock_at}
use Rattle.kernel_model.specs.World.{World, can_act_at, only_in, owns_in}
use Rattle.kernel_model.specs.Run.{next}

-- At no time before so many ticks have passed is a device step ready, of any device, for those that are served now, if
-- nothing acts meanwhile: nothing comes in, no alarm is due, the UART is free for no write that waits, and no other
-- request can be served.
abbrev pub NoneIsReadyBefore : World → ℕ → Type 0
NoneIsReadyBefore w ticks =
    (later : ℕ) (device : Dev) → later < ticks →
    let time = w.clock.time + later in
    can_act_at (only_in w) time (clock_at w.settings.start time) (owns_in w) w.devices device ≡ false

-- so it is where the next choice, of the round robin or of the windows, is a pass of so many
abbrev pub PassesStopAtTheNearest : Type 0
PassesStopAtTheNearest = (w : World) (ticks : ℕ) → next w ≡ Some (Pass ticks) → NoneIsReadyBefore w ticks
