-- That what is a process's own stays whole, so that each changed byte has its cause in every run. Buffers lie as in
-- TRD 104, "Read-Only Allow" and "Read-Write Allow".
use Rattle.std.specs.Prelude.{ℕ, List, slice_get, IfSome}
use Rattle.tk_base.specs.declared.process.Choice.{Choice}
use Rattle.driver_model.specs.Keeping.{IsSettled}
use Rattle.kernel_model.specs.Record.{Record}
use Rattle.kernel_model.specs.World.{World}
use Rattle.kernel_model.specs.Replay.{after_all}
use Rattle.kernel_model.specs.Causes.{AllHaveCauses, AreWhole}
use Rattle.kernel_model.specs.Lives.{HasOrder}

-- A process's memory is in order; its bytes end at the kernel break, where its grants begin; and each buffer with bytes
-- that it has allowed lies in its RAM below the mark, or, a read-only one, there or in accessible flash.
abbrev pub HasWholeOwn : Record → Type 0
HasWholeOwn r = HasOrder r × IsSettled r.own

-- each process of a world has that
abbrev pub AllHaveWholeOwns : World → Type 0
AllHaveWholeOwns w = (slot : ℕ) → IfSome (slice_get w.records slot) HasWholeOwn

-- then after any choices what is the own of each process is whole
abbrev pub OwnsStayWhole : Type 0
OwnsStayWhole = (w : World) (choices : List Choice) → AllHaveWholeOwns w → AreWhole (after_all w choices)

-- and no step among them changes a byte of a process without a cause
abbrev pub ChoicesHaveCauses : Type 0
ChoicesHaveCauses = (w : World) (choices : List Choice) → AllHaveWholeOwns w → AllHaveCauses w choices
