-- What processes access in a run: each fetch, load and store of a turn lay in what the process may access, and what
-- was denied did not (Levy et al., SOSP 2017; RISC-V privileged manual, "Physical Memory Protection").
use Rattle.std.specs.Prelude.{◌≡◌, ◌≢◌, ◌⊎◌, ◌<◌, ◌%◌, List, All, IfSome, None, Some, slice_get}
use Rattle.tk_base.specs.declared.access.Access.TheVariants.{Fetch}
use Rattle.tk_base.specs.declared.access.Denial.{Denial}
use Rattle.tk_base.specs.declared.access.Rule.TheVariants.{UnknownClass}
use Rattle.tk_base.specs.declared.process.Choice.{Choice}
use Rattle.tk_base.specs.Access.{width_bytes}
use Rattle.rv32_model.specs.declared.instr.Instr.TheVariants.{Ecall}
use Rattle.rv32_model.specs.Laws.{IsInstrAt, IsDue as IsDueAt}
use Rattle.rv32_model.specs.UserTurn.{MemoryAccess, denied_at}
use Rattle.syscall_abi.specs.Call.{class}
use Rattle.process_model.specs.Own.{Own}
use Rattle.process_model.specs.Permission.{denied}
use Rattle.kernel_model.specs.Record.{Record, byte_at}
use Rattle.kernel_model.specs.Turn.{TurnTrace}
use Rattle.kernel_model.specs.World.{World, Label, labels}
use Rattle.kernel_model.specs.Replay.{after_all}

-- an access that nothing denies a process, by its layout; a load or a store is at a multiple of its width
pub record IsPermitted (own : Own) (t : MemoryAccess) : Type 0 where
  pub permitted : denied own.layout t.access t.address t.width ≡ None
  pub aligned : t.access ≢ Fetch → t.address % width_bytes t.width ≡ 0

-- a call of a class that is unknown, by the ECALL at pc; it is denied as the fetch of that
pub record IsUnknownCall (r : Record) (d : Denial) : Type 0 where
  pub instruction : IsInstrAt (denied r.own.layout) (byte_at r) r.process.regs.pc (Some Ecall)
  pub class : 7 < class r.process.regs
  pub denial : d ≡ denied_at Fetch r.process.regs.pc UnknownClass

-- A denial that is due, by what the process may access: of a parcel that it may not fetch, of what the instruction at
-- pc may not load or store, of one that no row fits, of EBREAK; or of a call of an unknown class.
abbrev pub DenialIsDue : Record → Denial → Type 0
DenialIsDue r d = IsDueAt (denied r.own.layout) (byte_at r) r.process.regs d ⊎ IsUnknownCall r d

-- Of a label that a step tells: there was a process in its slot before the step, and so it is with what its turn told,
-- and with the process as it was then.
abbrev pub OfTurn : (Record → TurnTrace → Type 0) → World → Label → Type 0
OfTurn P w label = (r : Record) × (slice_get w.records label.slot ≡ Some r) × P r label.trace

-- so it is with each turn of every run, whatever the choices and wherever it begins
abbrev pub OfEachTurn : (Record → TurnTrace → Type 0) → Type 0
OfEachTurn P =
    (w : World) (choices : List Choice) (choice : Choice) →
    let v = after_all w choices in
    All (OfTurn P v) (labels v choice)

-- each access of a turn is permitted to its process before the turn
abbrev pub EachAccessIsPermitted : Type 0
EachAccessIsPermitted = OfEachTurn (λ r told. All (IsPermitted r.own) told.accesses)

-- the denial of each denied turn is due before the turn
abbrev pub EachDenialIsDue : Type 0
EachDenialIsDue = OfEachTurn (λ r told. IfSome told.denial (DenialIsDue r))

-- of one step: each access of a turn in it is permitted before it, and each denial is due before it
pub record IsGuarded (w : World) (choice : Choice) : Type 0 where
  pub accesses : All (OfTurn (λ r told. All (IsPermitted r.own) told.accesses) w) (labels w choice)
  pub denials : All (OfTurn (λ r told. IfSome told.denial (DenialIsDue r)) w) (labels w choice)

-- so is every step of every world
abbrev pub StepsAreGuarded : Type 0
StepsAreGuarded = (w : World) (choice : Choice) → IsGuarded w choice
