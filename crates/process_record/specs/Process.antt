-- One process: TRD 104, "Yield", "Exit" and "Return Values"; the start registers as Tock gives them to a process.
use Rattle.std.specs.Prelude.{ℕ, ◌+◌, ◌*◌, ◌/◌, ◌%◌, ◌^◌, Bool, true, false, [], ◌∷◌, None, Some, replicate}
use Rattle.tk_base.specs.Regs.{Registers}
use Rattle.tk_base.specs.Regs.{with_register}
use Rattle.tk_base.specs.declared.call.CallRule.{CallRule}
use Rattle.tk_base.specs.declared.upcall.Upcall.{Upcall}
use Rattle.upcall_queue.specs.declared.inbox.Delivery.{Delivery}
use Rattle.upcall_queue.specs.declared.inbox.Delivery.TheVariants.{Function, Arguments}
use Rattle.syscall_abi.specs.declared.reply.Reply.{Reply}
use Rattle.syscall_abi.specs.Reply.{put_reply, with_words}
use Rattle.tbf_headers.specs.declared.program.Main.{Main}
use Rattle.tbf_headers.specs.Meaning.{Meaning}
use Rattle.tbf_headers.specs.Addresses.{after_protected, entry_of}
use Rattle.process_record.specs.declared.process.Process.{Process}
use Rattle.process_record.specs.declared.process.State.{State}
use Rattle.process_record.specs.declared.process.State.TheVariants.{Running, Yielded, Terminated}

-- a process lives while it runs or waits (TRD 104, "Yield", "Exit")
abbrev pub is_alive : State → Bool
is_alive Running = true
is_alive Yielded = true
is_alive other = false

-- the registers of a start, for an object at an address: pc is the entry, a0 the first address after the header and the
-- protected bytes, a1 and sp the start of the RAM, a2 the block's length, a3 the break, and all others 0
abbrev pub start_regs : ℕ → Meaning → Main → ℕ → ℕ → ℕ → Registers
start_regs object h m ram length brk =
    let at_entry = with_register (record { x = replicate 32 0; pc = entry_of object h m }) 2 ram in
    with_words 10 (after_protected object h m ∷ ram ∷ length ∷ brk ∷ []) at_entry

-- a process at its start
abbrev pub started : ℕ → Meaning → Main → ℕ → ℕ → ℕ → Process
started object h m ram length brk = record {
  regs = start_regs object h m ram length brk;
  object = record { address = object; size = h.total_size };
  state = Running;
  held = false;
  restarts = 0;
  turns = 0;
  denial = None;
  refusal = None;
}

-- a process that starts again with registers, held no more: its object, its turns, its last denial and its last
-- refusal stay
abbrev pub restarted_with_regs : Process → Registers → Process
restarted_with_regs p regs = record p { regs = regs; state = Running; held = false; restarts = p.restarts + 1 }

-- a process that starts again by the header of its object
abbrev pub restarted : Process → Meaning → Main → ℕ → ℕ → ℕ → Process
restarted p h m ram length brk = restarted_with_regs p (start_regs p.object.address h m ram length brk)

-- a process that had one more turn
abbrev pub after_turn : Process → Process
after_turn p = record p { turns = p.turns + 1 }

-- the process goes on with pc past its `ecall`
abbrev pub after_call : Process → Process
after_call p = record p { regs = record p.regs { pc = (p.regs.pc + 4) % 2 ^ 32 } }

-- the process ends with a completion code, held no more
abbrev pub after_end : Process → ℕ → Process
after_end p code = record p { state = Terminated code; held = false }

-- a reply stands in the registers, with pc past the `ecall`
abbrev pub after_reply : Process → Reply → Process
after_reply p reply = after_call (record p { regs = put_reply reply p.regs })

-- the refused call is recorded, by the address of its `ecall` and the rule that it broke, and replied to
abbrev pub after_refusal : Process → CallRule → Reply → Process
after_refusal p rule reply =
    record (after_reply p reply) { refusal = Some (record { address = p.regs.pc; rule = rule }) }

-- it waits for an upcall, with pc past the `ecall`
abbrev pub waiting : Process → Process
waiting p = record (after_call p) { state = Yielded }

-- The registers of a delivery. Of an upcall that runs a0 to a2 are its arguments and a3 the application data, ra is pc,
-- and pc the function with bit 0 cleared; of one to a process that waited for it alone they are its arguments, and all
-- else stays.
abbrev pub delivery_regs : Delivery → Registers → Registers
delivery_regs (Function u) regs =
    record (with_register (with_register (with_words 10 u.args regs) 13 u.app) 1 regs.pc) { pc = u.function / 2 * 2 }
delivery_regs (Arguments args) regs = with_words 10 args regs

-- a process goes on with what is delivered to it (TRD 104, "Yield")
abbrev pub delivered : Delivery → Process → Process
delivered delivery p = record p { regs = delivery_regs delivery p.regs; state = Running }
