-- That an accepted brk or sbrk moves the break of a process where it asks for it, and changes nothing else of what is
-- its own (TRD 104, "Memop"). The rounding is this board's own rule.
use Rattle.std.specs.Prelude.{◌≡◌, ◌<◌, ◌≤◌, ℕ, ◌+◌, ◌-◌, ◌^◌, slice_index, None, IfSome}
use Rattle.tk_base.specs.Numbers.{rounded_up}
use Rattle.process_record.specs.declared.emit.CallMade.{CallMade}
use Rattle.kernel_model.specs.Record.{Record}
use Rattle.kernel_laws.specs.Between.{OfEachTurn}

-- the break is moved to an address, rounded up to a multiple of 4, and all else of the process's own is as it was
abbrev pub HasBreakAt : ℕ → Record → Record → Type 0
HasBreakAt new r s = s.own ≡ record r.own { layout = record r.own.layout { brk = rounded_up new } }

-- an accepted memop with an operation
pub record IsMemop (operation : ℕ) (call : CallMade) : Type 0 where
  pub class : call.class ≡ 5
  pub asks : slice_index call.args 0 ≡ operation
  pub accepted : call.rule ≡ None

-- Operation 0 moves the break to its argument; 1 moves it by that as a signed number of 32 bits, up or down.
pub record MovesBreak (r s : Record) (call : CallMade) : Type 0 where
  pub to : IsMemop 0 call → HasBreakAt (slice_index call.args 1) r s
  pub up : IsMemop 1 call → slice_index call.args 1 < 2 ^ 31
      → HasBreakAt (r.own.layout.brk + slice_index call.args 1) r s
  pub down : IsMemop 1 call → 2 ^ 31 ≤ slice_index call.args 1
      → HasBreakAt (r.own.layout.brk + slice_index call.args 1 - 2 ^ 32) r s

-- so it is with each call that a turn tells, in every step of every world
abbrev pub BreaksAreMoved : Type 0
BreaksAreMoved = OfEachTurn (λ r s told. IfSome told.call (MovesBreak r s))
