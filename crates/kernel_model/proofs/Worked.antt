-- Worked cases of the definitions, computed from them alone. The numbers were put together by hand from TRD 104,
-- "System
-- Call API", "Memop" and "Return Values".
use Rattle.std.proofs.Common.{◌≡◌, ◌+◌, ◌-◌, ◌^◌, [], ◌∷◌, None, Some, map, replicate, reverse, slice_get, refl}
use Rattle.std.specs.Option.{option_and_then}
use Rattle.tk_base.specs.declared.access.TheConstants.{FLASH_START, RAM_START}
use Rattle.tk_base.specs.declared.call.CallRule.TheVariants.{Break}
use Rattle.tk_base.specs.declared.process.Choice.TheVariants.{Run}
use Rattle.syscall_abi.specs.Call.{a0, a1, call_of, class_table}
use Rattle.rv32_model.specs.UserTurn.{user_turn, on_word, executed, fetched, instr_of}
use Rattle.rv32_model.specs.Instructions.{decoding, instruction_table}
use Rattle.process_model.specs.Permission.{denied}
use Rattle.process_model.specs.Instruction.{ram_after}
use Rattle.tbf_headers.specs.Meaning.{header_reading}
use Rattle.grant_values.specs.Drivers.{counts_of, drivers}
use Rattle.grant_model.specs.Grants.{shape_of}
use Rattle.driver_model.specs.Alarm.{due_slot}
use Rattle.turn_scheduler.specs.RoundRobin.{choice, ready_device, next_slot}
use Rattle.kernel_model.specs.Calls.{served, by_form, memop, memops, swap_refusal}
use Rattle.kernel_model.specs.Turn.{Turned, turned}
use Rattle.kernel_model.specs.World.{World, after, stepped, carried_out, may_be_made}
use Rattle.kernel_model.specs.Run.{next}
use Rattle.kernel_model.specs.Histories.{last_pair, turns_since}
use Rattle.kernel_model.specs.Worked.{asks, turn_of, board, alarm_upcall, subscribes}

-- Memop 2 is answered by a success with one word, where the block starts; pc goes past the `ecall`.
told_start : Turned
told_start = turn_of (asks 2 0)

start : (a0 told_start.after.process.regs ≡ 129) × (a1 told_start.after.process.regs ≡ RAM_START)
    × (told_start.after.process.regs.pc ≡ FLASH_START + 4)
unfolding told_start user_turn on_word executed fetched instr_of decoding instruction_table denied ram_after
    call_of class_table header_reading served by_form memop memops turned
start = (refl, refl, refl)

-- A break 4 bytes below the block is refused by a failure of no memory, and recorded; the break stays.
refused : Turned
refused = turn_of (asks 1 (2 ^ 32 - 12))

break : (a0 refused.after.process.regs ≡ 0) × (a1 refused.after.process.regs ≡ 9)
    × (refused.after.own ≡ (asks 1 (2 ^ 32 - 12)).own)
    × (refused.after.process.refusal ≡ Some (record { address = FLASH_START; rule = Break }))
unfolding refused user_turn on_word executed fetched instr_of decoding instruction_table denied ram_after
    call_of class_table header_reading served by_form memop memops turned
break = (refl, refl, refl, refl)

-- A turn of slot 0 leaves the record of slot 1 as it was. In slices of one turn slot 1 is next; in slices of two slot 0
-- goes on.
after_one : World
after_one = after (board 1 (asks 2 0 ∷ asks 3 0 ∷ [])) (Run 0)

steps : (slice_get after_one.records 1 ≡ Some (asks 3 0)) × (next after_one ≡ Some (Run 1))
    × (next (after (board 2 (asks 2 0 ∷ asks 3 0 ∷ [])) (Run 0)) ≡ Some (Run 0))
unfolding after_one user_turn on_word executed fetched instr_of decoding instruction_table denied ram_after
    call_of class_table header_reading served by_form memop memops turned due_slot stepped carried_out may_be_made
    next choice ready_device next_slot
steps = (refl, refl, refl)

-- A process subscribes an upcall twice: the first time (0, 0) is given back, and the second time the pair of the first,
-- which is the last pair of its turns.
swaps : (last_pair alarm_upcall (turns_since 0 (board 1 (subscribes ∷ [])) (Run 0 ∷ []) []) ≡ (0, 7))
    × (map (λ told. option_and_then (λ made. made.reply) told.call)
    (reverse (turns_since 0 (board 1 (subscribes ∷ [])) (replicate 6 (Run 0)) []))
    ≡ Some (130 ∷ 0 ∷ 0 ∷ 7 ∷ []) ∷ None ∷ None ∷ None ∷ None ∷ Some (130 ∷ 0 ∷ 7 ∷ 9 ∷ []) ∷ [])
unfolding user_turn on_word executed fetched instr_of decoding instruction_table denied ram_after
    call_of class_table header_reading counts_of drivers shape_of served by_form swap_refusal turned stepped carried_out
    may_be_made
swaps = (refl, refl)
