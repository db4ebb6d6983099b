-- What laws of runs name beside the definitions of steps: who waits, which lane serves, what an edge of a button
-- schedules. They are this board's own.
use Rattle.std.specs.Prelude.{ℕ, Bool, false, List, [], ◌∷◌, slice_index_or, Option, option_map, unwrap_or}
use Rattle.tk_base.specs.Bits.{bit_of, with_bit}
use Rattle.tk_base.specs.declared.upcall.Upcall.{Upcall as Scheduled}
use Rattle.upcall_queue.specs.Pending.{is_of}
use Rattle.process_model.specs.Own.{Own}
use Rattle.process_model.specs.Served.{upcall_of}
use Rattle.driver_model.specs.Buttons as buttons
use Rattle.driver_model.specs.Commands.{QueueName, Writes, Reads, Randoms, Stores}
use Rattle.kernel_model.specs.Record.{Record}
use Rattle.kernel_model.specs.Turn.{may_turn}
use Rattle.kernel_model.specs.World.{Devices, WaitingSlots, one_waits}

-- those that wait in a queue
abbrev pub slots_in : QueueName → WaitingSlots → List ℕ
slots_in Writes waiting = waiting.writes
slots_in Reads waiting = waiting.reads
slots_in Randoms waiting = waiting.randoms
slots_in Stores waiting = waiting.stores

-- whether one waits in a queue that may be served
abbrev pub waits_in : Option ℕ → QueueName → Devices → Bool
waits_in only queue d = one_waits only (slots_in queue d.waiting)

-- whether there is a process that can have a turn
abbrev pub can_run : Option Record → Bool
can_run r = unwrap_or (option_map may_turn r) false

-- the lane by which devices serve: the one that there is, or that of the slot that alone is served
abbrev pub lane_by : Option ℕ → ℕ
lane_by only = unwrap_or only 0

-- the random words that are left in a lane
abbrev pub words_in : ℕ → Devices → List ℕ
words_in lane d = slice_index_or d.words lane []

-- which buttons are pressed after an edge, or after none
abbrev pub pressed_by : Option (ℕ × Bool) → ℕ → ℕ
pressed_by edge mask = unwrap_or (option_map (λ edge. with_bit mask edge.0 edge.1) edge) mask

-- whether an upcall that was scheduled is of an edge
abbrev pub is_of_edge : Scheduled → Bool
is_of_edge upcall = is_of buttons.buttons 0 upcall

-- the upcall of an edge that a process now holds, with the button and its state, 1 for pressed
abbrev pub edge_upcall : Own → ℕ × Bool → Scheduled
edge_upcall own edge = upcall_of buttons.buttons 0 (edge.0 ∷ bit_of edge.1 ∷ 0 ∷ []) own
