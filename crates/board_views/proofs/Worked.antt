-- Worked cases, computed from the definitions alone: of each relation of a board that goes on an instance that it has,
-- and one of a wrong board that it refuses. Words were put together by hand from the unprivileged RISC-V manual.
use Rattle.std.proofs.lemmas.Option.{none-some, same_Some}
use Rattle.std.proofs.Common.{◌≡◌, ◌⊎◌, inl, inr, ◌<◌, ◌≤◌, ℕ, zero, suc, ◌+◌, true, false, List, [], ◌∷◌}
use Rattle.std.proofs.Common.{length, None, Some, is_some, refl, sym, ap, ◌∙◌, arith}
use Rattle.std.proofs.lemmas.Bool.{false≢true}
use Rattle.tk_base.specs.declared.access.TheConstants.{FLASH_START}
use Rattle.tk_base.specs.declared.process.Choice.TheVariants.{Run}
use Rattle.rv32_model.specs.Instructions.{decoding, instruction_table}
use Rattle.rv32_model.specs.UserTurn.{user_turn, on_word, executed, fetched, instr_of}
use Rattle.script_text.specs.Settings.{Press, ScriptEvent}
use Rattle.process_model.specs.Instruction.{ram_after}
use Rattle.process_model.specs.Permission.{denied}
use Rattle.process_record.specs.Parts.{cleared}
use Rattle.driver_model.specs.Alarm.{due_slot}
use Rattle.turn_scheduler.specs.RoundRobin.{choice, next_slot, ready_device}
use Rattle.kernel_model.specs.Run.{next, round}
use Rattle.kernel_model.specs.Shown.{shown_by}
use Rattle.kernel_model.specs.Turn.{turned}
use Rattle.kernel_model.specs.Worked.{board, standing}
use Rattle.kernel_model.specs.World.{Clock, World, after, carried_out, may_be_made, stepped}
use Rattle.board_core.specs.Expecting.{expecting}
use Rattle.board_views.specs.declared.goal.Goal.{Goal}
use Rattle.board_views.specs.declared.going.Stop.TheVariants.{Address, Most}
use Rattle.board_views.specs.declared.searches.Found.{Found}
use Rattle.board_views.specs.Agreeing.{ComesWithin, IsAsAdded}
use Rattle.board_views.specs.Goals.{stop_after}
use Rattle.board_views.specs.Searches.{IsLastFound, IsWhyItStopped, NoneStops, choice_in, kept_at, place_at}
use Rattle.board_views.specs.Stops.{IsFirstWithTurns, turns_of}
use Rattle.board_views.specs.Times.{choice_within}

-- A process at the first of three instructions, each an `addi` of a register and 0, before its first turn.
abbrev walking : World
walking =
    board 1 (standing
    (0x13 ∷ 0x05 ∷ 0 ∷ 0 ∷ 0x93 ∷ 0x05 ∷ 0 ∷ 0 ∷ 0x13 ∷ 0x06 ∷ 0 ∷ 0 ∷ []) 16 (cleared FLASH_START) ∷ [])

-- after one step, and after two
abbrev once : World
once = after walking (Run 0)

abbrev twice : World
twice = after once (Run 0)

-- a goal of some addresses, which watches nothing
abbrev at_addresses : List ℕ → Goal
at_addresses addresses =
    record { slot = 0; low = 0; high = 0; watched = record { items = [] }; addresses = record { items = addresses } }

-- what the first steps of the run come to
steps_are : ((round 0 walking).world ≡ walking) × ((round 1 walking).world ≡ once)
    × (once.clock ≡ record { time = 1; steps = 1 }) × (twice.clock ≡ record { time = 2; steps = 2 })
    × (turns_of walking 0 ≡ 0) × (turns_of once 0 ≡ 1)
unfolding round next choice ready_device next_slot due_slot stepped carried_out may_be_made turned user_turn on_word
    executed fetched instr_of decoding instruction_table denied ram_after
steps_are = (refl, refl, refl, refl, refl, refl)

-- one that is two steps on made two steps at least
two_on : (made : ℕ) → twice ≡ (round made walking).world → 2 ≤ made
two_on zero reached =
    let none : 2 ≡ 0 = sym (ap (λ (c : Clock). c.steps) steps_are.3)
    ∙ ap (λ (w : World). w.clock.steps) (reached ∙ steps_are.0) in
    absurd (omega (arith, none))
two_on (suc zero) reached =
    let one : 2 ≡ 1 = sym (ap (λ (c : Clock). c.steps) steps_are.3)
    ∙ ap (λ (w : World). w.clock.steps) (reached ∙ steps_are.1) ∙ ap (λ (c : Clock). c.steps) steps_are.2 in
    absurd (omega (arith, one))
two_on (suc (suc made)) reached = omega arith

-- A board stopped after one of five steps, since its process was at an address; one that tells that as many steps were
-- made as might be, there or where nothing stopped it.
abbrev second : Goal
second = at_addresses ((FLASH_START + 4) ∷ [])

stops_at_address : IsWhyItStopped 5 second [] walking 1 (Address 0)
unfolding round next choice ready_device next_slot due_slot stepped carried_out may_be_made turned user_turn on_word
    executed fetched instr_of decoding instruction_table denied ram_after stop_after shown_by
stops_at_address = record { why = refl; over = λ none. absurd (cc) }

none_tells_most : IsWhyItStopped 5 second [] walking 1 Most → ⊥
unfolding round next choice ready_device next_slot due_slot stepped carried_out may_be_made turned user_turn on_word
    executed fetched instr_of decoding instruction_table denied ram_after stop_after shown_by
none_tells_most stopped = let why = stopped.why in cc

none_stops_early : IsWhyItStopped 5 (at_addresses []) [] walking 1 Most → ⊥
unfolding round next choice ready_device next_slot due_slot stepped carried_out may_be_made turned user_turn on_word
    executed fetched instr_of decoding instruction_table denied ram_after stop_after shown_by
none_stops_early stopped = by_end (stopped.over refl)
  where
    by_end : ◌≡◌ {A = ℕ} 1 5 ⊎ (choice_in (round 1 walking).world ≡ None) → ⊥
    by_end (inl all) = omega (arith, all)
    by_end (inr none) = cc

-- Two instructions at addresses of a goal, of which the second one is the last; the first one, and none.
abbrev first_two : Goal
first_two = at_addresses (FLASH_START ∷ (FLASH_START + 4) ∷ [])

abbrev place : ℕ → Found
place steps = record { steps = steps; stop = Address 0 }

places : (place_at first_two [] walking 0 ≡ Some (place 0)) × (place_at first_two [] walking 1 ≡ Some (place 1))
unfolding round next choice ready_device next_slot due_slot stepped carried_out may_be_made turned user_turn on_word
    executed fetched instr_of decoding instruction_table denied ram_after kept_at
places = (refl, refl)

finds_second : IsLastFound 2 first_two [] walking (Some (place 1))
finds_second =
    record { made = 1; within = omega arith; stops = places.1; none_later = λ i h l. absurd (omega (arith, h, l)) }

none_finds_first : IsLastFound 2 first_two [] walking (Some (place 0)) → ⊥
none_finds_first last = by_made last.made last.within last.stops last.none_later
  where
    by_made : (made : ℕ) → made < 2 → place_at first_two [] walking made ≡ Some (place 0)
        → NoneStops first_two [] walking (suc made) 2 → ⊥
    by_made zero within stops none = none-some (place 1) (sym (none 1 (omega arith) (omega arith)) ∙ places.1)
    by_made (suc zero) within stops none =
        let same = ap (λ (f : Found). f.steps) (same_Some (place 1) (place 0) (sym places.1 ∙ stops)) in
        omega (arith, same)
    by_made (suc (suc made)) within stops none = omega (arith, within)

none_finds_none : IsLastFound 2 first_two [] walking None → ⊥
none_finds_none none = none-some (place 1) (sym (none 1 (omega arith) (omega arith)) ∙ places.1)

-- A process comes to its first turn in one step; a board that goes on to its second one.
comes_to_one : IsFirstWithTurns 5 0 1 walking once
comes_to_one = record {
  made = 1;
  few = omega arith;
  reached = sym steps_are.1;
  none_before = before;
  ended = inl (rw steps_are.5 (omega arith));
}
  where
    before : (i : ℕ) → i < 1 → turns_of (round i walking).world 0 < 1
    before zero l = let none = ap (λ (w : World). turns_of w 0) steps_are.0 ∙ steps_are.4 in omega (arith, none)
    before (suc i) l = absurd (omega (arith, l))

none_comes_to_two : IsFirstWithTurns 5 0 1 walking twice → ⊥
none_comes_to_two first =
    let two = two_on first.made first.reached in
    let fewer = first.none_before 1 (omega (arith, two)) in
    let had : turns_of (round 1 walking).world 0 ≡ 1 = ap (λ (w : World). turns_of w 0) steps_are.1 ∙ steps_are.5 in
    omega (arith, fewer, had)

-- One step is made before the time 1, and ends at it; a board that makes another one, which begins then.
are_within : (is_some (choice_within 1 walking) ≡ true) × (is_some (choice_within 1 once) ≡ false)
unfolding next choice ready_device next_slot due_slot stepped carried_out may_be_made turned user_turn on_word
    executed fetched instr_of decoding instruction_table denied ram_after
are_within = (refl, refl)

comes_within_one : ComesWithin 5 1 walking once
comes_within_one = record { made = 1; few = omega arith; reached = sym steps_are.1; within = within }
  where
    within : (i : ℕ) → i < 1 → is_some (choice_within 1 (round i walking).world) ≡ true
    within zero l = ap (λ (w : World). is_some (choice_within 1 w)) steps_are.0 ∙ are_within.0
    within (suc i) l = absurd (omega (arith, l))

none_comes_later : ComesWithin 5 1 walking twice → ⊥
none_comes_later comes =
    let two = two_on comes.made comes.reached in
    false≢true (sym are_within.1 ∙ sym (ap (λ (w : World). is_some (choice_within 1 w)) steps_are.1)
    ∙ comes.within 1 (omega (arith, two)))

-- A button that is pressed at time 5, added to a board for which nothing was to come; a board that lost it.
abbrev press : ScriptEvent
press = record { time = 5; kind = Press 0 }

comes_besides : IsAsAdded press walking (expecting press walking)
comes_besides = refl

none_is_lost : IsAsAdded press walking walking → ⊥
none_is_lost lost =
    let none : 0 ≡ 1 = ap (λ (w : World). length w.devices.arrivals) lost in
    absurd (omega (arith, none))
