-- What is known of how the instruction of the next turn ends.
use Rattle.std.proofs.Common.{◌≡◌, slice_get, ℕ, Option, None, Some, refl, subst, arith}
use Rattle.std.specs.Prelude.{IfSome}
use Rattle.std.proofs.lemmas.Option.{slice_get-get_or, slice_get_within}
use Rattle.tk_base.specs.declared.process.Choice.{Choice}
use Rattle.tk_base.specs.declared.process.Choice.TheVariants.{Run, Device, Pass}
use Rattle.rv32_model.specs.declared.turn_end.TurnEnd.{TurnEnd}
use Rattle.rv32_model.specs.declared.turn_end.TurnEnd.TheVariants.{Went}
use Rattle.process_record.specs.declared.process.Process.{Process}
use Rattle.grant_enter.specs.Homes.{nobody, own_of}
use Rattle.kernel_model.specs.Record.{Record}
use Rattle.kernel_model.specs.World.{World}
use Rattle.kernel_calls.specs.Residents.{resident}
use Rattle.board_drivers.proofs.Records.{beside, record_found}
use Rattle.board_turns.specs.Turning.{IsKnownEnd as IsKnownOf}
use Rattle.board_core.specs.declared.state.BoardState.{BoardState}
use Rattle.board_core.specs.Shows.{IsBoard, world_of}
use Rattle.board_core.specs.KnownEnds.{EndsSo, IsKnownOfChoice}

-- nothing is known of any choice
pub nothing_known : (w : World) (choice : Choice) → IsKnownOfChoice w Went choice
nothing_known w (Run slot) = of_record (slice_get w.records slot)
  where
    of_record : (o : Option Record) → IfSome o (EndsSo Went)
    of_record None = tt
    of_record (Some r) = λ stops. absurd (stops refl)
nothing_known w (Device device) = tt
nothing_known w (Pass ticks) = tt

-- nor of the next one, if there is one
pub nothing_known_next : (w : World) (next : Option Choice) → IfSome next (IsKnownOfChoice w Went)
nothing_known_next w None = tt
nothing_known_next w (Some choice) = nothing_known w choice

-- what is known of a turn's instruction is known of that of the process in the slot
pub known_at : (b : BoardState) (slot : ℕ) (end : TurnEnd) → IsBoard b → IsKnownOfChoice (world_of b) end (Run slot)
    → (p : Process) → slice_get b.processes.items slot ≡ Some p
    → IsKnownOf end b.machine.home.flash (resident b.machine.home slot p)
known_at b slot end board known p is =
    subst (λ (o : Option Record). IfSome o (EndsSo end))
    (record_found b.machine.home.flash b.machine.drivers.buttons.pressed b.processes.items b.machine.home.owns
    b.machine.drivers.stores.slots slot p (own_of b.machine.home slot) is
    (slice_get-get_or b.machine.home.owns slot nobody
    (omega (arith, board.owns, slice_get_within b.processes.items slot p is)))
    (beside b.processes.items b.machine.home.owns b.machine.drivers.stores.slots board.owns board.few
    board.machine.driven.slots)) known
