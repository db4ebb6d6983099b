-- Whether a process gets the upcall of an edge of a button (Tock's driver 0x3; TRD 104, "Subscribe", "Yield").
use Rattle.std.specs.Prelude.{ℕ, Bool, ◌&&◌, [], ◌∷◌}
use Rattle.tk_base.specs.Bits.{bit_of}
use Rattle.upcall_queue.specs.Pending.{is_taken}
use Rattle.process_model.specs.Own.{Own}
use Rattle.process_model.specs.Served.{upcall_of}
use Rattle.driver_model.specs.Buttons.{buttons, is_told}

-- it is told of the edge, and the upcall is queued, or given to it, as it waits for that upcall alone
abbrev pub is_queued : ℕ → Bool → Own → Bool
is_queued button state own =
    is_told button own && is_taken (upcall_of buttons 0 (button ∷ bit_of state ∷ 0 ∷ []) own) own.inbox
