-- Worked cases of laws, computed from the definitions alone: of each relation an instance that it has, and one of a
-- wrong kernel that it refuses. Words were put together by hand from the unprivileged RISC-V manual, TRD 104 and the
-- Tock Binary Format.
use Rattle.std.proofs.Common.{◌≤◌}
use Rattle.std.proofs.Common.{◌≡◌, ◌⊎◌, inl, inr, ◌<◌, ℕ, zero, suc, ◌+◌, ◌-◌, ◌^◌, List, [], ◌∷◌, length, None, Option}
use Rattle.std.proofs.Common.{Some, Ok, Err, replicate, slice_index, true, false, sym, ap, subst}
use Rattle.std.proofs.Common.{refl, arith, is_some, unwrap_or}
use Rattle.std.proofs.lemmas.Bool.{true≢false}
use Rattle.std.specs.Option.{ForSome}
use Rattle.tk_base.specs.declared.access.Access.TheVariants.{Fetch, Load, Store}
use Rattle.tk_base.specs.declared.access.Rule.TheVariants.{NoRegion}
use Rattle.tk_base.specs.declared.access.TheConstants.{FLASH_START, RAM_START}
use Rattle.tk_base.specs.declared.access.Width.TheVariants.{Word}
use Rattle.tk_base.specs.declared.call.CallRule.{CallRule}
use Rattle.tk_base.specs.declared.call.CallRule.TheVariants.{Break, NoRoom}
use Rattle.tk_base.specs.declared.kinds.PairKind.TheVariants.{ReadOnly}
use Rattle.tk_base.specs.declared.process.Choice.TheVariants.{Run, Pass}
use Rattle.tk_base.specs.declared.process.Dev.{Dev}
use Rattle.tk_base.specs.declared.process.Dev.TheVariants as dev
use Rattle.tk_base.specs.declared.process.Verb.TheVariants.{Stop}
use Rattle.tk_base.specs.declared.upcall.Wait.TheVariants.{For, Given}
use Rattle.grant_values.specs.Drivers.{counts_of, drivers}
use Rattle.grant_values.specs.declared.console.WaitingWrite.{WaitingWrite}
use Rattle.grant_model.specs.Grants.{shape_of}
use Rattle.script_text.specs.Settings.{Act}
use Rattle.syscall_abi.specs.Call.{call_of, class_table}
use Rattle.syscall_abi.specs.declared.form.CallForm.TheVariants.{Memop}
use Rattle.rv32_model.specs.Instructions.{decoding, instruction_table}
use Rattle.rv32_model.specs.Laws.{IsDueOf}
use Rattle.rv32_model.specs.declared.instr.Instr.{Instr}
use Rattle.rv32_model.specs.declared.instr.Instr.TheVariants.{Ecall}
use Rattle.rv32_model.specs.UserTurn.{user_turn, on_word, executed, fetched, instr_of, denied_at}
use Rattle.tbf_headers.specs.Meaning.{header_reading, meaning_of}
use Rattle.tbf_headers.specs.Tlv.{tlv_places_from}
use Rattle.process_model.specs.Own.{Own}
use Rattle.process_model.specs.Handed.{handing, own_entering}
use Rattle.process_model.specs.Instruction.{ram_after}
use Rattle.process_model.specs.Permission.{denied}
use Rattle.process_record.specs.Lines.{slot_named}
use Rattle.process_record.specs.Parts.{cleared}
use Rattle.process_record.specs.declared.emit.CallMade.{CallMade}
use Rattle.partition_turns.specs.LanesView.{LanesView}
use Rattle.partition_turns.specs.Laws.{AllIsDone, CanBeMadeIn, EndsInTime, IsTheSameChoice}
use Rattle.partition_turns.specs.Turns.{FillWindow, TakeEachTick}
use Rattle.partition_turns.specs.Windows.{AreAhead, device_in_window, device_is_ready, is_left, ready_time, slot_choice}
use Rattle.driver_model.specs.Alarm as alarm
use Rattle.driver_model.specs.Alarm.{alarm_driver}
use Rattle.driver_model.specs.Answers.{DrawsTheNext, FollowsAnswer, TellsInput, TellsWord, TellsWrite}
use Rattle.driver_model.specs.Commands.{BoardRequest, Commanded, QueueName, Writes, Reads, Randoms, Stores, Waits}
use Rattle.driver_model.specs.Console.{console, console_writes, taken}
use Rattle.driver_model.specs.Drivers.{CommandContext}
use Rattle.driver_model.specs.Laws.{IsAtMostOneMore}
use Rattle.driver_model.specs.Lines.{AsksTheSame, FollowsCommand, has_waiting, waits_after, waits_once}
use Rattle.driver_model.specs.Requests.{with_request}
use Rattle.driver_model.specs.Random.{answered}
use Rattle.driver_model.specs.Steps.{DriverStep, scheduling, silently}
use Rattle.kernel_model.specs.Accesses.{DenialIsDue, IsPermitted}
use Rattle.kernel_model.specs.Calls.{Served, by_form, failure_of, memop, memops, refused_with, served}
use Rattle.kernel_model.specs.Causes.{ChangeHasACause, IsCause, IsDoneByAnswer, IsDoneByTurn}
use Rattle.kernel_model.specs.Console.{ActsOnOne}
use Rattle.kernel_model.specs.Filter.{IsFiltered}
use Rattle.kernel_model.specs.Histories.{GivesBack, HandedNothing, PairKey}
use Rattle.kernel_model.specs.Laws.{ActsAtCalls, ChangesByOne, ChangesLittleRefused, ComesTo, IsReadyBelowLimit}
use Rattle.kernel_model.specs.Laws.{KeepsGrants, KeepsLines, LiesAhead, StaysUntold, quiet}
use Rattle.kernel_model.specs.Lives.{DropsWhereFull, HasOrder, HaveAsMany, StaysButPressed}
use Rattle.kernel_model.specs.Prints.{AreOfItsBuffer, CouldLoad}
use Rattle.kernel_model.specs.Record.{Record, byte_at}
use Rattle.kernel_model.specs.Refused.{LeavesRefused}
use Rattle.kernel_model.specs.Replay.{HaveSameRecord, IsReplayOf, LeadTo}
use Rattle.kernel_model.specs.Turn.{Turn, TurnTrace, Turned, turned, untraced}
use Rattle.kernel_model.specs.Turn as turn
use Rattle.kernel_model.specs.World.{Stepped, World, after, carried_out, may_be_made, stepped, turn_label}
use Rattle.kernel_model.specs.Worked.{asks, board, standing, worked_settings}
use Rattle.kernel_model.proofs.Classes.{memop_in}
use Rattle.kernel_laws.specs.Alarms.{StopsAtAlarm, WaitsForAlarm}
use Rattle.kernel_laws.specs.Clock.{IsTheSameButForAlarms}
use Rattle.kernel_laws.specs.Fairness.{HasTurnAmong}
use Rattle.kernel_laws.specs.Ready.{DoesNothingUnready}
use Rattle.kernel_laws.specs.Tables.{TakesAsItKeeps}
use Rattle.kernel_laws.specs.Windows.{IsOfTheWindow}
use Rattle.kernel_histories.specs.Waits.{IsAwaited, RestsWaiting}
use Rattle.kernel_lives.specs.Requests.{BeginsByCommand}
use Rattle.board_opening.specs.Alone.{BecomesAlone, IsFirstAlone, first_alone}
use Rattle.board_opening.specs.Certified.{AreToldAndLeft, CountsAre, HasDropped, HasStored}
use Rattle.board_report.specs.OwnWords.{AreToldApart}
use Rattle.board_report.specs.Words.{call_rule_text}

-- An application with the header of one, that stands at an `ecall`; its block has the byte 9 throughout.
abbrev object : List ℕ
object =
    2 ∷ 0 ∷ 32 ∷ 0 ∷ 36 ∷ 0 ∷ 0 ∷ 0 ∷ 1 ∷ 0 ∷ 0 ∷ 0 ∷ 46 ∷ 0 ∷ 44 ∷ 0
    ∷ 1 ∷ 0 ∷ 12 ∷ 0 ∷ 0 ∷ 0 ∷ 0 ∷ 0 ∷ 0 ∷ 0 ∷ 0 ∷ 0 ∷ 8 ∷ 0 ∷ 0 ∷ 0
    ∷ 0x73 ∷ 0 ∷ 0 ∷ 0 ∷ []

abbrev application : Record
application =
    let r = standing object 256 (cleared (FLASH_START + 32)) in
    record r { own = record r.own { ram = replicate 256 9 } }

-- It after its driver did something to what is its own.
abbrev with_own : (Own → Own) → Record
with_own change = record application { own = change application.own }

-- Its write of two bytes, which waits, of a read-only buffer of two at the block's start.
abbrev asks_to_write : Own → Own
asks_to_write own =
    with_request console_writes (Some (record { length = 2; taken = 0 }))
    (handing ReadOnly console 1 (RAM_START, 2) own)

-- A device that has nobody to tell; one that makes two steps at once.
abbrev stopped : World
stopped = board 1 (application ∷ [])

comes_to_quiet : ComesTo stopped (quiet stopped stopped.devices)
comes_to_quiet = inr (inl (stopped.devices, refl))

abbrev twice : Stepped
twice = record { after = record stopped { clock = record { time = 0; steps = 2 } }; labels = [] }

none_steps_twice : ComesTo stopped twice → ⊥
none_steps_twice (inl none) = let steps = ap (λ (s : Stepped). s.after.clock.steps) none in omega (arith, steps)
none_steps_twice (inr (inl nobody)) =
    let steps = ap (λ (s : Stepped). s.after.clock.steps) nobody.1 in omega (arith, steps)
none_steps_twice (inr (inr (inl one))) =
    let steps = ap (λ (s : Stepped). s.after.clock.steps) one.is in omega (arith, steps)
none_steps_twice (inr (inr (inr edge))) =
    let steps = ap (λ (s : Stepped). s.after.clock.steps) edge.is in omega (arith, steps)

-- A break beyond the block, which is refused; a kernel that takes no time for it.
abbrev beyond : World
beyond = board 1 (asks 1 (2 ^ 32 - 12) ∷ [])

leaves_refused : LeavesRefused beyond (after beyond (Run 0)) 0 Break
unfolding user_turn on_word executed fetched instr_of decoding instruction_table denied ram_after
    call_of class_table header_reading served by_form memop memops turned stepped carried_out may_be_made
leaves_refused = record {
  before = asks 1 (2 ^ 32 - 12);
  is_there = refl;
  call = memop_in (asks 1 (2 ^ 32 - 12)).process.regs;
  is_made = refl;
  world = refl;
}

none_in_no_time : LeavesRefused beyond beyond 0 Break → ⊥
none_in_no_time leaves = let time = ap (λ (w : World). w.clock.time) leaves.world in omega (arith, time)

waits_by_asking : (queue : QueueName) → has_waiting queue (asks_to_write application.own)
    ≡ waits_after queue (has_waiting queue application.own) (Waits Writes ∷ [])
unfolding counts_of drivers shape_of
waits_by_asking Writes = refl
waits_by_asking _ = refl

waits_once_by_asking : (queue : QueueName)
    → waits_once queue (has_waiting queue application.own) (Waits Writes ∷ []) ≡ true
unfolding counts_of drivers shape_of
waits_once_by_asking Writes = refl
waits_once_by_asking _ = refl

-- A turn that asks to write; a kernel that keeps the request, and puts the process in no queue.
keeps_write : KeepsLines 0 application.own (asks_to_write application.own) (Waits Writes ∷ [])
unfolding counts_of drivers shape_of
keeps_write =
    record { lines = waits_by_asking; once = waits_once_by_asking; life = λ queue waits. refl; within = λ is. is }

none_waits_nowhere : KeepsLines 0 application.own (asks_to_write application.own) [] → ⊥
unfolding counts_of drivers shape_of
none_waits_nowhere keeps = true≢false (keeps.lines Writes)

-- At most one upcall more is dropped.
drops_one : IsAtMostOneMore 1 2
drops_one = record { not_less = omega arith; not_more = omega arith }

none_drops_two : IsAtMostOneMore 1 3 → ⊥
none_drops_two more = let not_more = more.not_more in omega (arith, not_more)

-- A command that asks for a write; one that takes the request away, and leaves the process in its queue.
abbrev context : CommandContext
context = record { now = 0; leds = 0; buttons = 0; pressed = 0; storage = 0 }

abbrev leaving : List BoardRequest → Own → Commanded
leaving acts own = record { answer = Err Break; step = silently own; acts = acts }

none_forgets : FollowsCommand context (asks_to_write application.own) (leaving [] application.own) → ⊥
unfolding counts_of drivers shape_of
none_forgets follows = true≢false (sym (follows.lines refl Writes))

abbrev asking : Commanded
asking = leaving (Waits Writes ∷ []) (asks_to_write application.own)

follows_so : FollowsCommand context application.own asking
unfolding counts_of drivers shape_of
follows_so = record { lines = λ lives. waits_by_asking; once = waits_once_by_asking; within = λ is. is }

-- An answer that leaves all; one that drops two upcalls.
answers_nothing : FollowsAnswer (λ queue. false) application.own application.own
answers_nothing = record {
  rest = refl;
  dropped = record { not_less = omega arith; not_more = omega arith };
  lines = λ queue. refl;
  within = λ size is. is;
}

abbrev drops : ℕ → Own → Own
drops n own = record own { inbox = record own.inbox { dropped = n } }

none_answers_so : FollowsAnswer (λ queue. false) application.own (drops 2 application.own) → ⊥
none_answers_so follows = let more = follows.dropped.not_more in omega (arith, more)

-- A process asks for the same as before; one whose request is lost.
asks_as_before : AsksTheSame (asks_to_write application.own) (asks_to_write application.own)
asks_as_before = record { requests = λ queue. refl; waiting = λ queue. refl }

none_asks_no_more : AsksTheSame (asks_to_write application.own) application.own → ⊥
unfolding counts_of drivers shape_of
none_asks_no_more same = true≢false (sym (same.waiting Writes))

-- A load of the first word of the block; a kernel that lets a process store in flash, or below its block.
permits_load : IsPermitted application.own (record { access = Load; address = RAM_START; width = Word })
unfolding denied
permits_load = record { permitted = refl; aligned = λ apart. refl }

none_below : IsPermitted application.own (record { access = Store; address = RAM_START - 4; width = Word }) → ⊥
unfolding denied
none_below is = let none = is.permitted in cc

-- A denial: of a fetch behind what a process has; a kernel that denies a call which is known.
abbrev lost : Record
lost = standing object 256 (cleared 0)

due_behind : DenialIsDue lost (denied_at Fetch 0 NoRegion)
unfolding denied
due_behind = inl (inl (refl, refl, inl refl))

none_denies_a_call : DenialIsDue (asks 2 0) (denied_at Load 0 NoRegion) → ⊥
unfolding denied user_turn on_word executed fetched instr_of decoding instruction_table class_table
none_denies_a_call (inl (inl parcel)) = let fetch = parcel.0 in cc
none_denies_a_call (inl (inr due)) = by_call due.0 due.1.word due.1.fetch due.1.means due.2
  where
    by_call : (instr : Option Instr) (word : ℕ)
        → fetched (denied (asks 2 0).own.layout) (byte_at (asks 2 0)) FLASH_START ≡ Ok word
        → instr_of word ≡ instr
        → IsDueOf (denied (asks 2 0).own.layout) (asks 2 0).process.regs (denied_at Load 0 NoRegion) instr → ⊥
    by_call instr word fetch means due =
        let ecall : 0x73 ≡ word = cc in
        let same : Some Ecall ≡ instr = subst (λ w. instr_of w ≡ instr) (sym ecall) means in
        subst (IsDueOf (denied (asks 2 0).own.layout) (asks 2 0).process.regs (denied_at Load 0 NoRegion)) (sym same)
        due
none_denies_a_call (inr unknown) = let class = unknown.class in omega (arith, class)

-- A command is told that a process without a list of its own made; under a filter that is strict such a one is refused.
abbrev commanded : TurnTrace
commanded =
    record untraced { call = Some (record { class = 2; args = 1 ∷ 0 ∷ 0 ∷ 0 ∷ []; reply = None; rule = None }) }

passes_filter : IsFiltered worked_settings application commanded
unfolding header_reading meaning_of tlv_places_from
passes_filter made told names accepted = refl

none_passes_strict : IsFiltered (record worked_settings { strict = true }) application commanded → ⊥
unfolding header_reading meaning_of tlv_places_from
none_passes_strict filtered = true≢false (sym (filtered _ refl refl refl))

-- A process that has handed nothing; one that has entered a driver.
hands_nothing : HandedNothing application
unfolding header_reading meaning_of tlv_places_from
hands_nothing = record { grants = refl; pending = refl; application = refl }

none_entered : HandedNothing (with_own (own_entering alarm_driver)) → ⊥
unfolding counts_of drivers shape_of
none_entered handed = let grants = ap length handed.grants in omega (arith, grants)

-- The order of a process's memory; a break that lies below the mark.
has_order : HasOrder application
unfolding header_reading meaning_of tlv_places_from
has_order = record {
  places = record { mark = omega arith; brk = omega arith; grants = omega arith };
  least = omega arith;
}

abbrev moved : ℕ → ℕ → Own → Own
moved mark brk own = record own { layout = record own.layout { mark = mark; brk = brk } }

none_below_mark : HasOrder (with_own (moved (RAM_START + 8) (RAM_START + 4))) → ⊥
none_below_mark order = let brk = order.places.brk in omega (arith, brk)

-- What is printed is of the buffer, whose bytes are 9; a kernel that prints another byte.
prints_nines : AreOfItsBuffer (9 ∷ 9 ∷ []) (with_own asks_to_write)
unfolding counts_of drivers shape_of
prints_nines = record { lives = refl; write = record { length = 2; taken = 0 }; waits = refl; each = each }
  where
    each : (k : ℕ) → k < 2 → (0 + k < 2) × (slice_index (9 ∷ 9 ∷ []) k ≡ slice_index (9 ∷ 9 ∷ []) (0 + k))
    each zero below = (omega arith, refl)
    each (suc zero) below = (omega arith, refl)
    each (suc (suc k)) below = absurd (omega (arith, below))

none_prints_another : AreOfItsBuffer (66 ∷ []) (with_own asks_to_write) → ⊥
unfolding counts_of drivers shape_of
none_prints_another of = by_write of.write of.waits (of.each 0 (omega arith)).1
  where
    by_write : (write : WaitingWrite)
        → ◌≡◌ {A = Option WaitingWrite} (Some (record { length = 2; taken = 0 })) (Some write)
        → 66 ≡ slice_index (9 ∷ 9 ∷ []) (write.taken + 0) → ⊥
    by_write write waits printed =
        let same : record { length = 2; taken = 0 } ≡ write = cc in
        let taken : 0 ≡ write.taken = ap (λ (w : WaitingWrite). w.taken) same in
        let nine : 66 ≡ 9 = subst (λ n. 66 ≡ slice_index (9 ∷ 9 ∷ []) (n + 0)) (sym taken) printed in
        omega (arith, nine)

-- Its process could load what is printed; a kernel that prints what lies above the break.
could_load : CouldLoad (with_own asks_to_write) 0 2
unfolding counts_of drivers shape_of denied
could_load zero below = refl
could_load (suc zero) below = refl
could_load (suc (suc k)) below = absurd (omega (arith, below))

none_above_break : CouldLoad (with_own asks_to_write) 8 1 → ⊥
unfolding counts_of drivers shape_of denied
none_above_break could = let none = could 0 (omega arith) in cc

-- Time 5, in the window of slot 1, which ends at time 8: nothing is left to do.
abbrev idle : LanesView
idle = record {
  time = 5;
  n = 4;
  slots = [];
  event_ready = false;
  event_at = None;
  devices = [];
  alarm_at = [];
  uart_at = [];
}

all_is_done : AllIsDone idle
all_is_done = record { slots = λ slot below. refl; devices = devices; times = times }
  where
    devices : (slot : ℕ) (device : Dev) → slot < 16 → device_is_ready idle slot device ≡ false
    devices slot dev.Event below = refl
    devices slot _ below = refl

    times : (slot : ℕ) (device : Dev) → slot < 16 → ready_time idle slot device ≡ None
    times slot dev.Event below = refl
    times slot _ below = refl

-- An alarm of slot 1 is to come; a kernel that is done before.
abbrev with_alarm : LanesView
with_alarm = record idle { alarm_at = None ∷ Some 7 ∷ [] }

none_done_before : AllIsDone with_alarm → ⊥
none_done_before done = let none = done.times 1 dev.Alarm (omega arith) in cc

-- Time passes to that alarm; a kernel that lets it pass to the window's end.
ends_at_alarm : EndsInTime with_alarm 1 2
ends_at_alarm = record {
  some = omega arith;
  few = omega arith;
  passes_none = record { window = omega arith; devices = devices };
  last = λ to none. none.devices dev.Alarm 7 refl;
}
  where
    devices : (device : Dev) → ForSome (ready_time with_alarm 1 device) (λ at. 7 ≤ at)
    devices dev.Alarm = λ at is. let same : 7 ≡ at = cc in omega (arith, same)
    devices _ = λ at is. absurd (cc)

none_past_alarm : EndsInTime with_alarm 1 3 → ⊥
none_past_alarm ends = let late : 8 ≤ 7 = ends.passes_none.devices dev.Alarm 7 refl in omega (arith, late)

-- The turn of the slot whose window it is; a kernel that gives it to another.
abbrev both_ready : LanesView
both_ready = record idle { slots = true ∷ true ∷ [] }

of_the_window : CanBeMadeIn both_ready 1 (Run 1)
unfolding device_in_window
of_the_window = (refl, refl, refl)

none_of_another : CanBeMadeIn both_ready 1 (Run 0) → ⊥
none_of_another made = let other = made.0 in omega (arith, other)

-- What comes in is ready at its time; a kernel that still waits for it then.
none_waits_still : AreAhead (record idle { event_at = Some 5 }) → ⊥
none_waits_still ahead = let late : 5 < 5 = ahead dev.Event refl 5 refl in omega (arith, late)

-- A command to the console: it is no cause of another byte; a kernel in which one writes to memory.
none_by_a_command : IsCause 0 application application RAM_START (turn_label 0 0 commanded) → ⊥
none_by_a_command cause = by_way cause.1
  where
    by_way : IsDoneByTurn application application commanded RAM_START
        ⊎ IsDoneByAnswer (Turn 0) application application RAM_START
        → ⊥
    by_way (inl (inl stores)) = true≢false (sym stores)
    by_way (inl (inr (inl flag))) = let told = flag.flag in cc
    by_way (inl (inr (inr (inl ends)))) = true≢false (sym ends.0)
    by_way (inl (inr (inr (inr shown)))) = true≢false (sym shown.0)
    by_way (inr (inl inside)) = omega (arith, inside)
    by_way (inr (inr again)) = let act = again.0 in cc

-- Ticks that pass, and turns, add up to the time; a kernel in which one of two turns takes two ticks.
abbrev counted : ℕ → ℕ → World
counted time steps = record stopped { clock = record { time = time; steps = steps } }

counts_so : CountsAre (Pass 3 ∷ []) (counted 3 1)
counts_so = record { time = refl; steps = refl; turns = refl }

none_takes_two : CountsAre (Run 0 ∷ Run 0 ∷ []) (counted 3 2) → ⊥
none_takes_two counts = let time = counts.time in omega (arith, time)

-- A window of 4 ticks with 4 turns; one with 3. And a choice; another one.
takes_each_tick : TakeEachTick 4 8 4
takes_each_tick = refl

none_skips_a_tick : TakeEachTick 4 8 3 → ⊥
none_skips_a_tick takes = omega (arith, takes)

fills_window : FillWindow 4 4
fills_window = refl

none_fills_with_three : FillWindow 4 3 → ⊥
none_fills_with_three fills = omega (arith, fills)

same_choice : IsTheSameChoice (Run 1) (Run 1)
same_choice = refl

none_chooses_by_others : IsTheSameChoice (Run 1) (Pass 1) → ⊥
none_chooses_by_others same = cc

-- A write of which the UART takes the bytes; a device that tells so, and forgets the request. Bytes that come in, where
-- no read waits; a device that schedules an upcall then.
tells_write : TellsWrite (asks_to_write application.own) false (taken (asks_to_write application.own))
tells_write = refl

none_takes_it_away : TellsWrite (asks_to_write application.own) false (silently application.own) → ⊥
unfolding counts_of drivers shape_of
none_takes_it_away tells =
    true≢false (sym (ap (λ (s : DriverStep). has_waiting Writes s.own) tells))

tells_input : TellsInput application.own (5 ∷ []) (silently application.own)
unfolding counts_of drivers shape_of
tells_input = refl

none_tells_unasked :
    TellsInput application.own (5 ∷ []) (scheduling console 2 (0 ∷ 1 ∷ 0 ∷ []) application.own) → ⊥
unfolding counts_of drivers shape_of
none_tells_unasked tells = let none = ap (λ (s : DriverStep). is_some s.schedules) tells in true≢false none

-- So it is with a word where no request waits; and the word that is drawn is the next one.
tells_word : TellsWord application.own None (silently application.own)
unfolding counts_of drivers shape_of answered
tells_word = refl

none_tells_word : TellsWord application.own None (scheduling 0x40001 0 (0 ∷ 4 ∷ 0 ∷ []) application.own) → ⊥
unfolding counts_of drivers shape_of answered
none_tells_word tells = let none = ap (λ (s : DriverStep). is_some s.schedules) tells in true≢false none

draws_next : DrawsTheNext (Some 5) (Some 5)
draws_next = refl

none_draws_another : DrawsTheNext (Some 5) (Some 6) → ⊥
none_draws_another draws = cc

-- which buttons a process knows to be pressed, and how many of its upcalls were dropped; the second word of a reply
abbrev pressed_by : Option Record → ℕ
pressed_by None = 0
pressed_by (Some r) = r.pressed

abbrev dropped_by : Option Record → ℕ
dropped_by None = 0
dropped_by (Some r) = r.own.inbox.dropped

abbrev second_word : Option (List ℕ) → ℕ
second_word None = 0
second_word (Some words) = slice_index words 1

-- The process with the button of number 0 known to be pressed.
abbrev presses : Record
presses = record application { pressed = 1 }

-- A process to which nothing happens stays; a kernel in which it changes without an event.
replays : IsReplayOf worked_settings [] (Some application) (Some application)
replays = refl

none_replays : IsReplayOf worked_settings [] (Some application) (Some presses) → ⊥
none_replays is = let pressed = ap pressed_by is in omega (arith, pressed)

changes_by_none : ChangesByOne worked_settings None (Some application) (Some application)
changes_by_none = refl

none_changes_untold : ChangesByOne worked_settings None (Some application) (Some presses) → ⊥
none_changes_untold changes = let pressed = ap pressed_by changes in omega (arith, pressed)

same_record : HaveSameRecord (Some application) (Some application)
same_record = refl

none_differs_by_others : HaveSameRecord (Some application) (Some presses) → ⊥
none_differs_by_others same = let pressed = ap pressed_by same in omega (arith, pressed)

-- No choices lead nowhere; a run that makes a step without one.
leads_nowhere : LeadTo stopped [] stopped
leads_nowhere = refl

none_steps_unchosen : LeadTo stopped [] (counted 0 1) → ⊥
none_steps_unchosen leads = let steps = ap (λ (w : World). w.clock.steps) leads in omega (arith, steps)

-- A choice that is not ready; a kernel that tells of a turn then.
stays_untold : StaysUntold stopped stopped []
stays_untold = (refl, refl)

none_tells_unready : StaysUntold stopped stopped (turn_label 0 0 commanded ∷ []) → ⊥
none_tells_unready stays = let told = stays.1 in cc

-- A turn that may be made; a kernel that chooses a slot without a process.
ready_to_run : IsReadyBelowLimit stopped (Run 0)
unfolding may_be_made
ready_to_run below = refl

none_runs_nobody : IsReadyBelowLimit stopped (Run 5) → ⊥
unfolding may_be_made
none_runs_nobody is = let ready = is (omega arith) in cc

-- A time that lies ahead; a board that would let time pass to the present.
lies_ahead : LiesAhead stopped (Some 5)
lies_ahead = omega arith

none_lies_at_once : LiesAhead stopped (Some 0) → ⊥
none_lies_at_once lies = omega (arith, lies)

-- As many processes as before; a kernel in which one comes up.
as_many : HaveAsMany stopped (board 1 (presses ∷ []))
as_many = refl

none_comes_up : HaveAsMany stopped (board 1 (application ∷ application ∷ [])) → ⊥
none_comes_up have = omega (arith, have)

-- No upcall is dropped where none waits; a kernel that drops one.
drops_none : DropsWhereFull application presses
drops_none fewer = refl

none_drops_early : DropsWhereFull application (with_own (drops 1)) → ⊥
none_drops_early where_full = let dropped = where_full (omega arith) in omega (arith, dropped)

-- A process that has ended learns which buttons are pressed; a kernel that counts a dropped upcall for it.
stays_but_pressed : StaysButPressed application (Some presses)
stays_but_pressed = (1, refl)

none_stays_with_more : StaysButPressed application (Some (with_own (drops 1))) → ⊥
none_stays_with_more stays = let dropped = ap dropped_by stays.1 in omega (arith, dropped)

-- A call that is refused for a bad break; a kernel that enters the alarm on the way.
abbrev refuses : Served
refuses = refused_with application Break (failure_of (Memop 1 0) Break)

changes_little : ChangesLittleRefused application (Memop 1 0) Break refuses
changes_little shown = refl

none_enters_refused :
    ChangesLittleRefused application (Memop 1 0) Break
    (record refuses { after = record refuses.after { own = own_entering alarm_driver application.own } })
    → ⊥
unfolding counts_of drivers shape_of
none_enters_refused changes =
    let grants = ap (λ (s : Served). length s.after.own.grants) (changes refl) in omega (arith, grants)

-- A turn without a call; a kernel that enters the alarm in one, or has the process wait.
keeps_grants : KeepsGrants application (turn.idle application)
keeps_grants call denial = (refl, refl)

none_enters_uncalled :
    KeepsGrants application (record (turn.idle application) { after = with_own (own_entering alarm_driver) }) → ⊥
unfolding counts_of drivers shape_of
none_enters_uncalled keeps = let grants = ap length (keeps refl refl).0 in omega (arith, grants)

acts_at_none : ActsAtCalls (turn.idle application)
acts_at_none call denial = refl

none_acts_uncalled : ActsAtCalls (record (turn.idle application) { acts = Waits Writes ∷ [] }) → ⊥
none_acts_uncalled acts = let none = acts refl refl in cc

-- An operator's act on a process that is not there; a kernel in which it takes time.
abbrev operated_on : World
operated_on = record (board 1 []) {
  devices = record (board 1 []).devices {
    arrivals = record { time = 0; kind = Act Stop (45 ∷ []) } ∷ [];
  };
}

abbrev after_act : ℕ → World
after_act time = record (board 1 []) { clock = record { time = time; steps = 1 } }

acts_on_nobody : ActsOnOne operated_on (after_act 0) [] Stop (45 ∷ [])
unfolding slot_named
acts_on_nobody = record { world = refl; tells = refl }

none_acts_in_time : ActsOnOne operated_on (after_act 1) [] Stop (45 ∷ []) → ⊥
unfolding slot_named
none_acts_in_time acts = let time = ap (λ (w : World). w.clock.time) acts.world in omega (arith, time)

-- The first swap gives back (0, 0); a kernel that gives back what it hands.
abbrev swapped : List ℕ → CallMade
swapped reply = record { class = 4; args = 1 ∷ 1 ∷ 256 ∷ 8 ∷ []; reply = Some reply; rule = None }

abbrev console_buffer : PairKey
console_buffer = record { kind = ReadOnly; driver = 1; number = 1 }

gives_back : GivesBack console_buffer [] (256, 8) (swapped (130 ∷ 0 ∷ 0 ∷ 8 ∷ []))
gives_back = refl

none_gives_back_itself : GivesBack console_buffer [] (256, 8) (swapped (130 ∷ 256 ∷ 8 ∷ 8 ∷ [])) → ⊥
none_gives_back_itself gives = let first = ap second_word gives in omega (arith, first)

-- Time passes; a kernel in which a process changes meanwhile.
none_changes_in_a_pass : ChangeHasACause stopped (Pass 0) 0 application presses → ⊥
unfolding stepped carried_out may_be_made
none_changes_in_a_pass change =
    let pressed = ap (λ (r : Record). r.pressed) (change.others refl) in omega (arith, pressed)

-- A driver that has grants takes commands, and one that is none takes none; one that has grants and takes none.
takes_as_it_keeps : TakesAsItKeeps console true
unfolding counts_of drivers
takes_as_it_keeps = refl

none_keeps_and_takes_none : TakesAsItKeeps console false → ⊥
unfolding counts_of drivers
none_keeps_and_takes_none takes = true≢false takes

-- Windows of 4 ticks, and nothing to do: no choice; a board that still lets time pass.
abbrev windowed : World
windowed = record (board 1 []) { pace = record { slice = 1; window = 4 } }

of_window : IsOfTheWindow windowed None
unfolding slot_choice is_left device_in_window
of_window = refl

none_beside_the_window : IsOfTheWindow windowed (Some (Pass 1)) → ⊥
unfolding slot_choice is_left device_in_window
none_beside_the_window is = let some = ap is_some is in true≢false some

-- A process that is held; a kernel that has it ask for something all the same.
abbrev holds_still : Record
holds_still = record application { process = record application.process { held = true } }

does_nothing : DoesNothingUnready holds_still (turn.idle holds_still)
does_nothing unready = refl

none_does_something :
    DoesNothingUnready holds_still (record (turn.idle holds_still) { acts = Waits Writes ∷ [] }) → ⊥
none_does_something does = let acts = ap (λ (t : Turned). length t.acts) (does refl) in omega (arith, acts)

-- A turn without a command to the alarm; a kernel in which it comes to another thing at another time.
same_at_any_time : IsTheSameButForAlarms (turn.idle application) (turn.idle application)
same_at_any_time apart = refl

none_differs_in_time : IsTheSameButForAlarms (turn.idle application) (turn.idle presses) → ⊥
none_differs_in_time same =
    let pressed = ap (λ (t : Turned). t.after.pressed) (same refl) in omega (arith, pressed)

-- An alarm that is due in 5 ticks, or at once; a board that gives a turn first, or lets 6 ticks pass.
abbrev armed_for : ℕ → Record
armed_for delta =
    with_own (λ own. alarm.with_alarm (Some (record { reference = 0; delta = delta })) (own_entering alarm_driver own))

waits_for_none : WaitsForAlarm (board 1 (armed_for 5 ∷ [])) (Run 0) 0 (armed_for 5)
unfolding counts_of drivers shape_of
waits_for_none time there let_so = refl

none_runs_before : WaitsForAlarm (board 1 (armed_for 0 ∷ [])) (Run 0) 0 (armed_for 0) → ⊥
unfolding counts_of drivers shape_of
none_runs_before waits = let none = ap is_some (waits refl refl refl) in true≢false none

stops_at_alarm : StopsAtAlarm (board 1 (armed_for 5 ∷ [])) 5 0 (armed_for 5)
unfolding counts_of drivers shape_of
stops_at_alarm there let_so = omega arith

none_passes_alarm : StopsAtAlarm (board 1 (armed_for 5 ∷ [])) 6 0 (armed_for 5) → ⊥
unfolding counts_of drivers shape_of
none_passes_alarm stops = let late = stops refl refl in omega (arith, late)

-- A round robin that gives slot 0 its turn; one that never gives any.
has_turn : HasTurnAmong (λ v. Some (Run 0)) 0 (stopped ∷ [])
has_turn = (0, stopped, omega arith, refl, refl)

none_has_no_turn : HasTurnAmong (λ v. None) 0 (stopped ∷ []) → ⊥
none_has_no_turn has = let none = has.4 in cc

-- A request that begins to wait by a command to the console; a kernel in which one begins by itself.
begins_by_command :
    BeginsByCommand Writes 0 stopped (board 1 (with_own asks_to_write ∷ [])) (turn_label 0 0 commanded ∷ [])
begins_by_command begins = refl

none_begins_alone : BeginsByCommand Writes 0 stopped (board 1 (with_own asks_to_write ∷ [])) [] → ⊥
unfolding counts_of drivers shape_of
none_begins_alone begins = true≢false (sym (begins refl))

-- Two words of which one was told; a board that draws it twice.
told_and_left : AreToldAndLeft (1 ∷ 2 ∷ []) (1 ∷ []) (2 ∷ [])
told_and_left = refl

none_draws_twice : AreToldAndLeft (1 ∷ 2 ∷ []) (1 ∷ []) (1 ∷ 2 ∷ []) → ⊥
none_draws_twice are = let count = ap length are in omega (arith, count)

-- No upcall was dropped, and it is counted so; a kernel that counts one.
has_dropped : HasDropped 0 application
has_dropped = refl

none_counts_one : HasDropped 0 (with_own (drops 1)) → ⊥
none_counts_one has = omega (arith, has)

-- Storage of two bytes, of which the second was written; a kernel that has lost it.
abbrev stores : List ℕ → Record
stores bytes = record application { storage = bytes }

has_stored : HasStored 2 ((1, 7 ∷ []) ∷ []) (stores (255 ∷ 7 ∷ []))
has_stored = refl

none_loses_a_byte : HasStored 2 ((1, 7 ∷ []) ∷ []) (stores (255 ∷ 255 ∷ [])) → ⊥
none_loses_a_byte has = let byte = ap (λ bytes. slice_index bytes 1) has in omega (arith, byte)

-- Bytes that are no object open no process; a kernel that opens one.
abbrev without_object : Record
without_object = standing [] 0 (cleared 0)

becomes_none : BecomesAlone worked_settings without_object [] None
unfolding header_reading
becomes_none = refl

none_opens_without_object : BecomesAlone worked_settings without_object [] (Some application) → ⊥
unfolding header_reading
none_opens_without_object becomes = true≢false (ap is_some becomes)

-- The first record of the object where it stands; a kernel that opens it with a button pressed.
abbrev opened_alone : Record
opened_alone = unwrap_or (first_alone 0 object FLASH_START RAM_START) application

opens_alone : IsFirstAlone 0 opened_alone
unfolding header_reading meaning_of tlv_places_from
opens_alone = refl

none_opens_pressed : IsFirstAlone 0 (record opened_alone { pressed = 1 }) → ⊥
unfolding header_reading meaning_of tlv_places_from
none_opens_pressed is = let pressed = ap pressed_by is in omega (arith, pressed)

-- One waits still for the upcall of which none was scheduled; a kernel that gives it one.
is_awaited : IsAwaited 0 0 [] (Some (For 0 0))
is_awaited = refl

none_is_given : IsAwaited 0 0 [] (Some (Given (5 ∷ []))) → ⊥
none_is_given is = cc

-- It has no turn meanwhile; a kernel that gives it one.
rests_waiting : RestsWaiting 0 0 (Some (For 0 0)) []
rests_waiting waits = refl

none_runs_waiting : RestsWaiting 0 0 (Some (For 0 0)) (commanded ∷ []) → ⊥
none_runs_waiting rests = let none = rests refl in cc

-- Two rules with words of their own; a trace that has one word for all.
told_apart : AreToldApart call_rule_text Break Break
told_apart same = refl

none_told_alike : AreToldApart (λ (rule : CallRule). []) Break NoRoom → ⊥
none_told_alike apart = let same = apart refl in cc
