-- What a delivery, or a yield without one, gives a process, as it sees it: in its registers (TRD 104, "Subscribe",
-- "Yield").
use Rattle.std.specs.Prelude.{◌≡◌, ◌≢◌, ◌<◌, ◌⊎◌, ℕ, ◌+◌, ◌-◌, ◌%◌, ◌^◌, false, List, [], ◌∷◌, length, remove}
use Rattle.std.specs.Prelude.{slice_get}
use Rattle.std.specs.Prelude.{slice_index, None, Some}
use Rattle.tk_base.specs.Regs.{Registers, register}
use Rattle.tk_base.specs.declared.upcall.Upcall.{Upcall as Scheduled}
use Rattle.tk_base.specs.declared.upcall.Wait.TheVariants.{No, For, Given}
use Rattle.upcall_queue.specs.declared.inbox.Inbox.{Inbox}
use Rattle.upcall_queue.specs.Pending.{place_of}
use Rattle.process_record.specs.declared.emit.CallMade.{CallMade}
use Rattle.process_record.specs.declared.process.State.{State}
use Rattle.process_record.specs.declared.process.State.TheVariants.{Running, Yielded}
use Rattle.kernel_model.specs.Record.{Record}
use Rattle.kernel_model.specs.Turn.{TurnTrace}
use Rattle.kernel_laws.specs.Between.{OfEachTurn}

-- The function of an upcall runs: a0 to a2 have its arguments, and a3 the application data that its process gave with
-- it; ra, which is x1, has the address at which the process goes on afterwards; pc is the function, bit 0 cleared; and
-- every other register is as it was.
pub record RunsFunction (upcall : Scheduled) (back : ℕ) (before later : Registers) : Type 0 where
  pub arguments : register later 10 ∷ register later 11 ∷ register later 12 ∷ [] ≡ upcall.args
  pub app : register later 13 ≡ upcall.app
  pub ra : register later 1 ≡ back
  pub pc : later.pc ≡ upcall.function - upcall.function % 2
  pub others : (n : ℕ) → n ≢ 1 → (n < 10) ⊎ (13 < n) → register later n ≡ register before n

-- A process goes on with the arguments of an upcall, and no function runs: a0 to a2 have them, pc is where it goes on,
-- and every other register is as it was.
pub record HasArguments (args : List ℕ) (goes : ℕ) (before later : Registers) : Type 0 where
  pub arguments : register later 10 ∷ register later 11 ∷ register later 12 ∷ [] ≡ args
  pub pc : later.pc ≡ goes
  pub others : (n : ℕ) → (n < 10) ⊎ (12 < n) → register later n ≡ register before n

-- A process runs an upcall; in its registers, where these are 32 and the upcall has three arguments. The other upcalls
-- that waited wait still.
pub record RunsUpcall (upcall : Scheduled) (rest : List Scheduled) (back : ℕ) (r s : Record) : Type 0 where
  pub registers : length r.process.regs.x ≡ 32 → length upcall.args ≡ 3
      → RunsFunction upcall back r.process.regs s.process.regs
  pub runs : s.process.state ≡ Running
  pub left : s.own.inbox.pending ≡ rest

-- and one goes on with arguments, in the same way
pub record GoesOnWith (args : List ℕ) (rest : List Scheduled) (pc : ℕ) (r s : Record) : Type 0 where
  pub registers : length r.process.regs.x ≡ 32 → length args ≡ 3
      → HasArguments args pc r.process.regs s.process.regs
  pub runs : s.process.state ≡ Running
  pub left : s.own.inbox.pending ≡ rest

-- A process to which nothing is delivered stands behind its `ecall`, and no register but pc has changed; it runs, or
-- waits there; and what is scheduled for it, and what it waits for, is this.
pub record StandsBehind (becomes : State) (inbox : Inbox) (r s : Record) : Type 0 where
  pub registers : s.process.regs ≡ record r.process.regs { pc = (r.process.regs.pc + 4) % 2 ^ 32 }
  pub state : s.process.state ≡ becomes
  pub scheduled : s.own.inbox ≡ inbox

-- a call that is an accepted yield of a number
pub record IsYield (n : ℕ) (call : CallMade) : Type 0 where
  pub class : call.class ≡ 0
  pub number : slice_index call.args 0 ≡ n
  pub accepted : call.rule ≡ None

-- What the turn of a process that no operator holds delivers. One that has yielded for any upcall runs the first that
-- waits, and goes back to where it yielded; one that has yielded for one alone, which came, goes on there with its
-- arguments, and waits for none any more. A yield with 0 runs the first that waits, and goes back behind its `ecall`;
-- one with 2 goes on behind it with the arguments of the first that waits of that driver and number. Where none waits
-- that with 0 goes on, and that with 2 waits for such a one alone; one with 1 waits for any, and one with another
-- number goes on, whatever waits.
pub record Delivers (r s : Record) (told : TurnTrace) : Type 0 where
  pub woken : r.process.held ≡ false → r.process.state ≡ Yielded → r.own.inbox.wait ≡ No
      → (upcall : Scheduled) (rest : List Scheduled) → r.own.inbox.pending ≡ upcall ∷ rest
      → RunsUpcall upcall rest r.process.regs.pc r s
  pub given : r.process.held ≡ false → r.process.state ≡ Yielded
      → (args : List ℕ) → r.own.inbox.wait ≡ Given args
      → GoesOnWith args r.own.inbox.pending r.process.regs.pc r s × (s.own.inbox.wait ≡ No)
  pub now : (call : CallMade) → told.call ≡ Some call → IsYield 0 call
      → (upcall : Scheduled) (rest : List Scheduled) → r.own.inbox.pending ≡ upcall ∷ rest
      → RunsUpcall upcall rest ((r.process.regs.pc + 4) % 2 ^ 32) r s
  pub one : (call : CallMade) → told.call ≡ Some call → IsYield 2 call
      → (upcall : Scheduled)
      → let place = place_of (slice_index call.args 1) (slice_index call.args 2) r.own.inbox.pending in
      slice_get r.own.inbox.pending place ≡ Some upcall
      → GoesOnWith upcall.args (remove r.own.inbox.pending place) ((r.process.regs.pc + 4) % 2 ^ 32) r s
  pub none : (call : CallMade) → told.call ≡ Some call → IsYield 0 call → r.own.inbox.pending ≡ []
      → StandsBehind Running r.own.inbox r s
  pub waits : (call : CallMade) → told.call ≡ Some call → IsYield 1 call → StandsBehind Yielded r.own.inbox r s
  pub waits_for : (call : CallMade) → told.call ≡ Some call → IsYield 2 call
      → slice_get r.own.inbox.pending
      (place_of (slice_index call.args 1) (slice_index call.args 2) r.own.inbox.pending)
      ≡ None
      → StandsBehind Yielded
      (record r.own.inbox { wait = For (slice_index call.args 1) (slice_index call.args 2) }) r s
  pub other : (n : ℕ) (call : CallMade) → told.call ≡ Some call → IsYield n call → 2 < n
      → StandsBehind Running r.own.inbox r s

-- so it is in every step of every world
abbrev pub DeliveriesAreSeen : Type 0
DeliveriesAreSeen = OfEachTurn Delivers
