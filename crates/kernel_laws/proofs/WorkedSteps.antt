-- Worked cases of laws, computed from the definitions alone: of each relation what it has, and what it refuses, a step
-- of a wrong kernel. Words were put together by hand from the unprivileged RISC-V manual and TRD 104.
use Rattle.std.specs.Prelude.{IfSome, IsSomeAnd, length}
use Rattle.tk_base.specs.declared.access.TheConstants.{FLASH_START, RAM_START}
use Rattle.tk_base.specs.declared.kinds.PairKind.TheVariants.{ReadOnly, ReadWrite}
use Rattle.tk_base.specs.declared.process.Choice.TheVariants.{Device}
use Rattle.tk_base.specs.declared.process.Dev.TheVariants as dev
use Rattle.grant_values.specs.Drivers.{counts_of, drivers}
use Rattle.grant_values.specs.declared.storage.StorageKind.TheVariants.{Write}
use Rattle.grant_model.specs.Grants.{shape_of}
use Rattle.script_text.specs.Settings as script
use Rattle.syscall_abi.specs.Call.{call_of, class_table}
use Rattle.rv32_model.specs.UserTurn.{user_turn, on_word, executed, fetched, instr_of}
use Rattle.rv32_model.specs.Instructions.{decoding, instruction_table}
use Rattle.tbf_headers.specs.Meaning.{header_reading, meaning_of}
use Rattle.tbf_headers.specs.Tlv.{tlv_places_from}
use Rattle.process_model.specs.Own.{Own}
use Rattle.process_model.specs.Handed.{handing}
use Rattle.process_model.specs.Permission.{denied}
use Rattle.process_model.specs.Instruction.{ram_after}
use Rattle.driver_model.specs.Alarm as alarm
use Rattle.driver_model.specs.Commands.{QueueName, Reads, Randoms, Stores}
use Rattle.driver_model.specs.Console as console
use Rattle.driver_model.specs.Console.{console_reads}
use Rattle.driver_model.specs.Random as random
use Rattle.driver_model.specs.Random.{randoms}
use Rattle.driver_model.specs.Requests.{with_request}
use Rattle.driver_model.specs.Storage as storage
use Rattle.driver_model.specs.Storage.{storages}
use Rattle.kernel_model.specs.Calls.{by_form, exit, restart, served, yielding}
use Rattle.kernel_model.specs.Causes.{Overwrites}
use Rattle.kernel_model.specs.Record.{Record}
use Rattle.kernel_model.specs.Turn.{apply, turned}
use Rattle.kernel_model.specs.Worked.{board}
use Rattle.kernel_model.specs.World.{World, after, carried_out, labels, may_be_made, stepped, with_queue}
use Rattle.std.proofs.Common.{◌≡◌, inl, inr, ◌<◌, ◌≤◌, ℕ, zero, suc, ◌+◌, ◌-◌, ◌^◌, List, [], ◌∷◌, None}
use Rattle.std.proofs.Common.{Option, Some}
use Rattle.std.proofs.Common.{replicate, slice_index_or, true, sym, ap, subst, refl, arith}
use Rattle.std.proofs.Common.{◌∙◌}
use Rattle.std.specs.List.{Any}
use Rattle.std.proofs.lemmas.Bool.{true≢false}
use Rattle.tk_base.specs.Regs.{Registers, register}
use Rattle.tk_base.specs.declared.call.CallRule.{CallRule}
use Rattle.tk_base.specs.declared.upcall.Upcall.{Upcall as Scheduled}
use Rattle.tk_base.specs.declared.upcall.Wait.TheVariants.{For, Given}
use Rattle.upcall_queue.specs.declared.inbox.Inbox.{Inbox}
use Rattle.grant_values.specs.declared.alarm.Armed.{Armed}
use Rattle.grant_values.specs.declared.console.WaitingWrite.{WaitingWrite}
use Rattle.grant_values.specs.declared.storage.StorageRequest.{StorageRequest}
use Rattle.process_model.specs.Handed.{own_entering}
use Rattle.process_record.specs.declared.emit.CallMade.{CallMade}
use Rattle.process_record.specs.declared.process.State.TheVariants.{Running, Yielded}
use Rattle.kernel_model.specs.Calls.{memop, memops}
use Rattle.kernel_model.specs.Causes.{IsFlagOfYield}
use Rattle.kernel_model.specs.Edges.{IsScheduledOnce}
use Rattle.kernel_model.specs.Named.{slots_in}
use Rattle.kernel_model.specs.Turn.{Stored, Turn, TurnTrace, untraced}
use Rattle.kernel_model.specs.World.{Label}
use Rattle.kernel_model.specs.Worked.{asks, turn_of}
use Rattle.driver_model.specs.Commands.{Writes}
use Rattle.kernel_laws.specs.Alarms.{IsDue, IsLeastLeft}
use Rattle.kernel_laws.specs.Devices.{ChangesItsOwn, SpeaksSo}
use Rattle.kernel_laws.specs.Inputs.{HasRoom, IsTheLast, KeepsInput}
use Rattle.kernel_model.specs.Choices.{Throughout}
use Rattle.kernel_model.specs.Turn.{Input, Word}
use Rattle.kernel_model.specs.World.{Devices}
use Rattle.board_devices.specs.SerialLine.{line_at}
use Rattle.std.proofs.Common.{◌++◌}
use Rattle.std.proofs.lemmas.List.Elements.{All-cons, All-head, All-nil}
use Rattle.kernel_laws.specs.Arming.{SetsAlarm, SetsBy, SetsButtons}
use Rattle.kernel_laws.specs.OneRun.{NothingIsLeft}
use Rattle.kernel_laws.specs.Passes.{NoneIsReadyBefore}
use Rattle.kernel_laws.specs.Asking.{GoesOnAs, IsAskedBy, IsOfCommand}
use Rattle.kernel_laws.specs.Delivered.{RunsFunction, StandsBehind}
use Rattle.kernel_laws.specs.Queues.{ChangesByOne, IsOfFirst}
use Rattle.kernel_laws.specs.Ready.{IsOfReady, MayHaveTurn}
use Rattle.kernel_laws.specs.Replies.{CallIsSeen, ChangesByRefusal, ReplyStands, TellsItsCall}
use Rattle.tk_base.specs.declared.call.CallRule.TheVariants.{Break}
use Rattle.upcall_queue.specs.declared.inbox.Delivery.TheVariants.{Function}
use Rattle.process_record.specs.Process.{delivery_regs}
use Rattle.kernel_model.specs.Calls.{failure_of, refused_with}
use Rattle.kernel_model.specs.Turn.{turn_counted}
use Rattle.kernel_model.proofs.Classes.{memop_in}
use Rattle.kernel_laws.specs.Restarting.{HasEnded, HasStartedAgain}
use Rattle.kernel_laws.proofs.Delivered.{runs_function}
use Rattle.kernel_laws.proofs.Registers.{words_beside}
use Rattle.kernel_laws.proofs.Replies.{changes}
use Rattle.std.proofs.lemmas.Bool.Decides.{nat_tests}
use Rattle.upcall_queue.specs.declared.inbox.Delivery.TheVariants.{Arguments}
use Rattle.driver_model.specs.Alarm.{due_slot, ticks_left_in}
use Rattle.process_record.specs.Process.{is_alive}
use Rattle.tk_base.specs.declared.limits.TheConstants.{SLOT_COUNT}
use Rattle.kernel_laws.specs.Delivered.{HasArguments}
use Rattle.kernel_laws.proofs.Delivered.{has_arguments}
use Rattle.kernel_laws.specs.Arming.{AreSetByCommands, Becomes, CommandSets}
use Rattle.kernel_laws.specs.Withdrawing.{RequestsAreLeft, SetsRequest}
use Rattle.kernel_laws.specs.Asking.{CommandAsks}
use Rattle.kernel_laws.specs.Breaks.{MovesBreak}
use Rattle.kernel_model.specs.Laws.{IsSilent}
use Rattle.kernel_model.specs.Lives.{BlocksAreApart, HasOrder, HasPendingWithinLimit, IsAsAtFirst, LiesAs}
use Rattle.kernel_model.specs.Lives.{LivesAsItRuns}
use Rattle.kernel_model.specs.Turn.{Edge}
use Rattle.process_record.specs.declared.process.State.TheVariants.{Faulted}
use Rattle.driver_model.specs.Buttons.{enabled}
use Rattle.driver_model.specs.Console.{console_writes}
use Rattle.driver_model.specs.Lines.{RequestOf, kind_in}
use Rattle.driver_model.specs.Requests.{waiting_in}
use Rattle.kernel_laws.proofs.Worked.{calls, allows, waits, reads, draws}

-- A queue: who begins to wait comes last; a kernel that puts last comers first.
abbrev named : ℕ → Label
named slot = record { slot = slot; event = Turn 0; trace = untraced; printed = [] }

only_one : {X : Type 0} (P : X → Type 0) (x : X) → Any P (x ∷ []) → P x
only_one {X = X} P x one = by_place one.0 one.1 one.2 one.3 one.4
  where
    by_place : (k : ℕ) (y : X) → k < 1 → slice_index_or (x ∷ []) k y ≡ y → P y → P x
    by_place zero y below is holds = subst P (sym is) holds
    by_place (suc k) y below is holds = absurd (omega (arith, below))

comes_last : ChangesByOne (named 0 ∷ []) (1 ∷ []) (1 ∷ 0 ∷ [])
comes_last = inr (0, named 0, omega arith, refl, inl refl)

one_leaves : ChangesByOne (labels reads (Device dev.Receive)) (slots_in Reads reads.devices.waiting)
    (slots_in Reads (after reads (Device dev.Receive)).devices.waiting)
unfolding reads apply stepped carried_out may_be_made counts_of drivers shape_of console.received
one_leaves = inr (0, _, omega arith, refl, inr refl)

none_comes_first : ChangesByOne (named 0 ∷ []) (1 ∷ []) (0 ∷ 1 ∷ []) → ⊥
none_comes_first (inl same) = cc
none_comes_first (inr one) = elim (only_one _ (named 0) one) [ inl last ↦ cc | inr gone ↦ cc ]

-- A turn: of a process that runs; a kernel that gives one to a process which is held, or to one that has yielded and to
-- which nothing is due.
may_run : MayHaveTurn (calls 0 0 0)
may_run = record { free = refl; state = inl refl }

none_held : MayHaveTurn (record (calls 0 0 0) { process = record (calls 0 0 0).process { held = true } }) → ⊥
none_held may = true≢false may.free

none_undue : MayHaveTurn (record (calls 0 0 0) { process = record (calls 0 0 0).process { state = Yielded } }) → ⊥
none_undue may =
    elim may.state [
      | inl same ↦ cc
      | inr (e, inl due) ↦ omega (arith, due.1)
      | inr (e, inr given) ↦ let is = given.1 in cc
    ]

-- An alarm that was armed at 0 for 5 ticks: it is due at 5; a kernel that fires it at 4.
abbrev armed : Record
armed = allows (calls 0 0 0) (λ at own.
    alarm.with_alarm (Some (record { reference = 0; delta = 5 })) (own_entering alarm.alarm_driver own))

due_at_five : IsDue 5 armed
unfolding counts_of drivers shape_of
due_at_five =
    record { lives = refl; alarm = record { reference = 0; delta = 5 }; armed = refl; passed = omega arith }

none_early : IsDue 4 armed → ⊥
unfolding counts_of drivers shape_of
none_early due =
    let is : ◌≡◌ {A = Option Armed} (Some (record { reference = 0; delta = 5 })) (Some due.alarm) = due.armed in
    let same : record { reference = 0; delta = 5 } ≡ due.alarm = cc in
    let five : 5 ≡ due.alarm.delta = ap (λ (x : Armed). x.delta) same in
    let zero_is : 0 ≡ due.alarm.reference = ap (λ (x : Armed). x.reference) same in
    let passed = due.passed in
    omega (arith, passed, five, zero_is)

-- A reply: memop 2 is answered by where the block starts; a kernel that tells that, and leaves the registers.
abbrev told_start : CallMade
told_start =
    record { class = 5; args = 2 ∷ 0 ∷ 0 ∷ 0 ∷ []; reply = Some (129 ∷ RAM_START ∷ 0 ∷ 0 ∷ []); rule = None }

start_stands : ReplyStands (asks 2 0) (turn_of (asks 2 0)).after 129 RAM_START 0 0
unfolding user_turn on_word executed fetched instr_of decoding instruction_table denied ram_after
    call_of class_table header_reading served by_form memop memops turned
start_stands = record {
  first = refl;
  second = refl;
  third = refl;
  fourth = refl;
  pc = refl;
  others = λ n out. words_beside 10 (129 ∷ RAM_START ∷ []) (asks 2 0).process.regs n (elim out [
    | inl below ↦ inl below
    | inr past ↦ inr (omega (arith, past))
  ]);
}

none_only_told : CallIsSeen (asks 2 0) (asks 2 0) told_start → ⊥
none_only_told seen = let first = (seen.reply 129 RAM_START 0 0 refl).first in omega (arith, first)

-- nor may it be that of other arguments than its process's
none_of_others : CallIsSeen (asks 3 0) (turn_of (asks 3 0)).after told_start → ⊥
none_of_others seen = let args : ◌≡◌ {A = List ℕ} (2 ∷ 0 ∷ 0 ∷ 0 ∷ []) (3 ∷ 0 ∷ 0 ∷ 0 ∷ []) = seen.args in cc

-- A refusal, of a break 4 bytes below the block; a kernel that drops an upcall beside it.
refused_so : let r = asks 1 (2 ^ 32 - 12) in
    ChangesByRefusal r (refused_with (turn_counted r) Break (failure_of (memop_in r.process.regs) Break)).after Break
unfolding call_of class_table
refused_so = let r = asks 1 (2 ^ 32 - 12) in changes r (memop_in r.process.regs) Break refl refl

none_drops : (s : Record) (rule : CallRule) → s.own.inbox.dropped ≡ 1 → ChangesByRefusal (asks 1 0) s rule → ⊥
none_drops s rule dropped changes =
    let none : s.own.inbox.dropped ≡ 0 = ap (λ (o : Own). o.inbox.dropped) changes.own in
    omega (arith, dropped, none)

-- A delivery: a kernel that leaves bit 0 of the function in pc, or forgets to say where to go back to.
abbrev upcall : Scheduled
upcall = record { driver = 0; number = 0; function = 0x20001; app = 9; args = 1 ∷ 2 ∷ 3 ∷ [] }

runs_it : let regs = (asks 2 0).process.regs in
    RunsFunction upcall FLASH_START regs (delivery_regs (Function upcall) regs)
runs_it = runs_function upcall (asks 2 0).process.regs refl refl

none_odd : (before later : Registers) → later.pc ≡ 0x20001 → RunsFunction upcall 4 before later → ⊥
none_odd before later is runs = let pc = runs.pc in omega (arith, is, pc)

none_without_ra : (before later : Registers) → register later 1 ≡ 0 → RunsFunction upcall 4 before later → ⊥
none_without_ra before later is runs = let ra = runs.ra in omega (arith, is, ra)

-- A request: command 1 of the console for 7 bytes; a kernel that asks for one byte more, and one that keeps a read of
-- the storage as a write.
abbrev commands : List ℕ → CallMade
commands args = record { class = 2; args = args; reply = None; rule = None }

asks_for_seven : IsOfCommand Writes None (Some (commands (1 ∷ 1 ∷ 7 ∷ 0 ∷ []))) (record { length = 7; taken = 0 })
asks_for_seven = inr (refl, record { class = refl; accepted = refl; asks = ((refl, refl), refl) })

none_for_more : IsOfCommand Writes None (Some (commands (1 ∷ 1 ∷ 7 ∷ 0 ∷ []))) (record { length = 8; taken = 0 }) → ⊥
none_for_more (inl waits) = cc
none_for_more (inr (none, asked)) =
    let length = ap (λ (q : WaitingWrite). q.length) asked.asks.1 in omega (arith, length)

none_writes : IsOfCommand Stores None (Some (commands (0x50001 ∷ 2 ∷ 0 ∷ 4 ∷ [])))
    (record { kind = Write; offset = 0; length = 4 }) → ⊥
none_writes (inl waits) = cc
none_writes (inr (none, asked)) =
    elim asked.asks [
      | inl reading ↦ let kind = ap (λ (q : StorageRequest). q.kind) reading.1 in cc
      | inr writing ↦ let number = writing.0.1 in omega (arith, number)
    ]

-- while it waits more is taken of it; a kernel whose device shortens it
more_taken : GoesOnAs Writes (record { length = 7; taken = 0 }) (record { length = 7; taken = 2 })
more_taken = refl

none_shorter : GoesOnAs Writes (record { length = 7; taken = 0 }) (record { length = 6; taken = 2 }) → ⊥
none_shorter goes = let length = ap (λ (q : WaitingWrite). q.length) goes in omega (arith, length)

-- A ring that is full, at which a byte comes in: the oldest goes; a kernel that drops the newest, and one that reads
-- out of the middle.
loses_oldest : IsTheLast (replicate 256 1) (2 ∷ []) [] (replicate 255 1 ++ 2 ∷ [])
loses_oldest = record { is = refl; few = omega arith }

none_loses_newest : IsTheLast (replicate 256 1) (2 ∷ []) [] (replicate 256 1) → ⊥
none_loses_newest last =
    let newest : 1 ≡ 2 = ap (λ (bytes : List ℕ). slice_index_or bytes 255 0) last.is in omega (arith, newest)

none_reads_the_middle : IsTheLast (5 ∷ 6 ∷ []) [] (6 ∷ []) (5 ∷ []) → ⊥
none_reads_the_middle last = let is : ◌≡◌ {A = List ℕ} (6 ∷ 5 ∷ []) (5 ∷ 6 ∷ []) = last.is in cc

-- Of two bytes that stood in a ring one was read; a kernel that reads the later one first.
one_is_read : KeepsInput (1 ∷ 2 ∷ []) [] (1 ∷ []) (2 ∷ []) (Throughout (HasRoom 0) reads [])
one_is_read = record { kept = inr (2 ∷ [], (refl, inr ([], (refl, refl)))); whole = λ roomy. refl }

none_reads_later_first : KeepsInput (1 ∷ 2 ∷ []) [] (2 ∷ []) (1 ∷ []) (Throughout (HasRoom 0) reads []) → ⊥
none_reads_later_first keeps =
    let whole : ◌≡◌ {A = List ℕ} (2 ∷ 1 ∷ []) (1 ∷ 2 ∷ []) = keeps.whole tt in cc

-- A device: a word that is drawn is told as one, and taken off those that are left; a UART that tells of input, and a
-- word for which a ring is emptied.
draws_alone : ChangesItsOwn dev.Random draws (after draws (Device dev.Random)) (labels draws (Device dev.Random))
unfolding draws apply stepped carried_out may_be_made counts_of drivers shape_of random.answered
draws_alone = record {
  speaks = All-cons (λ label. SpeaksSo dev.Random label.event) (record (named 0) { event = Word 0x04030201 }) []
      (inl (0x04030201, refl)) (All-nil (λ label. SpeaksSo dev.Random label.event));
  devices = refl;
}

none_tells_input : (w v : World) → ChangesItsOwn dev.Uart w v (record (named 0) { event = Input [] } ∷ []) → ⊥
none_tells_input w v changes =
    elim (All-head (λ label. SpeaksSo dev.Uart label.event) (record (named 0) { event = Input [] }) [] changes.speaks)
    [ inl taken ↦ cc | inr written ↦ cc ]

none_empties_ring : (v : World) → (line_at 0 v.devices.lines).ring ≡ [] → ChangesItsOwn dev.Random reads v [] → ⊥
unfolding reads
none_empties_ring v empty changes =
    let ring : ◌≡◌ {A = List ℕ} [] (5 ∷ 6 ∷ 7 ∷ []) =
    sym empty ∙ ap (λ (d : Devices). (line_at 0 d.lines).ring) changes.devices in
    cc

-- A byte of the storage, past what the buffer reaches that is held: the request is for two bytes, the buffer has one.
abbrev holds_one : Record
holds_one = allows (calls 0 0 0) (λ at own.
    with_request storages (Some (record { kind = Write; offset = 0; length = 2 }))
    (handing ReadOnly storage.storage 0 (at, 1) own))

covers_first : Overwrites (Stored true) holds_one 0
unfolding counts_of drivers shape_of
covers_first = (refl, omega arith, omega arith)

none_past_buffer : Overwrites (Stored true) holds_one 1 → ⊥
unfolding counts_of drivers shape_of
none_past_buffer covers = let below = covers.2 in omega (arith, below)

-- A flag: told by a command, or above the break.
abbrev tells : CallMade → ℕ → TurnTrace
tells call at = record { accesses = []; call = Some call; flag = Some at; denial = None }

none_by_command : IsFlagOfYield (calls 2 0 RAM_START) (tells (commands (0 ∷ RAM_START ∷ 0 ∷ 0 ∷ [])) RAM_START)
    RAM_START → ⊥
none_by_command flag = let class = flag.made.0 in omega (arith, class)

none_above_break : (told : TurnTrace) → IsFlagOfYield (calls 0 0 (RAM_START + 8)) told (RAM_START + 8) → ⊥
none_above_break told flag = let below = flag.below in omega (arith, below)

-- An upcall that its process waits for alone: a kernel that puts it last.
abbrev awaiting : Inbox
awaiting = record { pending = []; dropped = 0; wait = For 0 0 }

is_given : IsScheduledOnce upcall awaiting (record awaiting { wait = Given (1 ∷ 2 ∷ 3 ∷ []) })
is_given = inl (refl, refl)

none_awaited_last : IsScheduledOnce upcall awaiting (record awaiting { pending = upcall ∷ [] }) → ⊥
none_awaited_last (inl given) = let wait = ap (λ (x : Inbox). x.wait) given.1 in cc
none_awaited_last (inr (inl last)) = true≢false last.0.0
none_awaited_last (inr (inr dropped)) = true≢false dropped.0.0

-- A pass, where something comes in at 3: 3 ticks; a kernel that passes over that.
abbrev arrives_at_three : World
arrives_at_three =
    let w = board 1 [] in
    record w { devices = record w.devices { arrivals = record { time = 3; kind = script.Press 0 } ∷ [] } }

none_passed_over : NoneIsReadyBefore arrives_at_three 5 → ⊥
none_passed_over none = true≢false (none 3 dev.Event (omega arith))

-- Nothing left to do; a kernel that is done though a request for random bytes waits.
none_left_over : NothingIsLeft (waits Randoms (calls 0 0 0)) → ⊥
none_left_over nothing = let none = nothing.randoms 0 (omega arith) in cc

-- An alarm that command 5 arms for 9 ticks at 4; a kernel that arms it for none.
arms_so : SetsBy SetsAlarm 4 None (Some (record { reference = 4; delta = 9 })) (commands (0 ∷ 5 ∷ 9 ∷ 0 ∷ []))
arms_so = record { class = refl; accepted = refl; sets = (refl, inr (inl (refl, refl))) }

none_arms_at_once : SetsBy SetsAlarm 4 None (Some (record { reference = 4; delta = 0 }))
    (commands (0 ∷ 5 ∷ 9 ∷ 0 ∷ [])) → ⊥
none_arms_at_once set =
    elim set.sets.1 [
      | inl three ↦ let n = three.0 in omega (arith, n)
      | inr (inl five) ↦
          some_delta (record { reference = 4; delta = 0 }) (record { reference = 4; delta = 9 }) five.1 refl refl
      | inr (inr six) ↦ let n = six.0 in omega (arith, n)
    ]
  where
    some_delta : (a b : Armed) → Some a ≡ Some b → a.delta ≡ 0 → b.delta ≡ 9 → ⊥
    some_delta a b e zero_is nine = let same : a ≡ b = cc in
        let delta : a.delta ≡ b.delta = ap (λ (x : Armed). x.delta) same in omega (arith, delta, zero_is, nine)

-- Command 2 of the buttons; it does not set that the process is told of the button still.
none_disables_nothing : SetsBy SetsButtons 0 1 1 (commands (3 ∷ 2 ∷ 0 ∷ 0 ∷ [])) → ⊥
none_disables_nothing set =
    elim set.sets.1 [
      | inl one ↦ let n = one.0 in omega (arith, n)
      | inr two ↦ let mask = two.1 in omega (arith, mask)
    ]

-- An exit with 1; a kernel that ends the process instead, whose restarts stay.
none_ends : (r s : Record) → s.process.restarts ≡ r.process.restarts → HasStartedAgain r s → ⊥
none_ends r s same started = let more = started.restarts in omega (arith, same, more)

starts_again : HasStartedAgain (calls 6 1 0) (restart (calls 6 1 0))
unfolding restart header_reading meaning_of tlv_places_from
starts_again = record { restarts = refl; life = refl; state = refl }

-- And the instances that hold of those of which only a refused one stands above.
passes_three : NoneIsReadyBefore arrives_at_three 3
unfolding due_slot
passes_three later dev.Event below = grind (arith, nat_tests)
passes_three later device below = refl

nothing_left : NothingIsLeft (board 1 [])
unfolding due_slot
nothing_left = record {
  slots = λ slot. refl;
  devices = λ slot below. elim [ dev.Event ↦ refl | _ ↦ refl ];
  arrivals = refl;
  alarms = λ slot. tt;
  writes = λ slot below. refl;
  reads = λ slot below. inl refl;
  randoms = λ slot below. refl;
  stores = λ slot below. refl;
}

disables : SetsBy SetsButtons 0 1 0 (commands (3 ∷ 2 ∷ 0 ∷ 0 ∷ []))
disables = record { class = refl; accepted = refl; sets = (refl, inr (refl, refl)) }

-- A delivery of arguments alone; a kernel that runs something else.
goes_on : let regs = (asks 2 0).process.regs in
    HasArguments (1 ∷ 2 ∷ 3 ∷ []) FLASH_START regs (delivery_regs (Arguments (1 ∷ 2 ∷ 3 ∷ [])) regs)
goes_on = has_arguments (1 ∷ 2 ∷ 3 ∷ []) (asks 2 0).process.regs refl refl

none_elsewhere : (before later : Registers) → later.pc ≡ 0 → HasArguments (1 ∷ 2 ∷ 3 ∷ []) 4 before later → ⊥
none_elsewhere before later is args = let pc = args.pc in omega (arith, is, pc)

-- A read that command 3 of the console takes away; a kernel that loses a write in a turn without a call.
takes_read : SetsBy (SetsRequest Reads) 0 (Some (record { length = 2 })) None (commands (1 ∷ 3 ∷ 0 ∷ 0 ∷ []))
takes_read = record { class = refl; accepted = refl; sets = inr (refl, ((refl, refl), refl)) }

none_lost : (r : Record)
    → Becomes (SetsRequest Writes) None 0 untraced r r (Some (record { length = 7; taken = 0 })) None → ⊥
none_lost r (inl same) = cc
none_lost r (inr (inl set)) = set
none_lost r (inr (inr again)) = let life = again.0 in omega (arith, life)

-- An alarm that is armed; a kernel that takes it away in a turn without a call.
abbrev stopped : Record
stopped = record armed { own = alarm.with_alarm None armed.own }

none_stops_alone : AreSetByCommands 4 armed stopped untraced → ⊥
unfolding counts_of drivers shape_of
none_stops_alone set =
    elim set.alarm [
      | inl same ↦ let is : ◌≡◌ {A = Option Armed} None (Some (record { reference = 0; delta = 5 })) = same in cc
      | inr (inl sets) ↦ sets
      | inr (inr again) ↦ let life = again.0 in omega (arith, life)
    ]

-- A read that waits, and a button that is pressed; a kernel that takes the read away then.
abbrev reads_two : Record
reads_two = allows (calls 0 0 0) (λ at own.
    with_request console_reads (Some (record { length = 2 })) (handing ReadWrite console.console 1 (at, 4) own))

stays_so : RequestsAreLeft (Edge 0 true) reads_two reads_two
stays_so other queue apart = refl

abbrev read_lost : Record
read_lost = record reads_two { own = with_request console_reads None reads_two.own }

none_by_an_edge : RequestsAreLeft (Edge 0 true) reads_two read_lost → ⊥
unfolding counts_of drivers shape_of
none_by_an_edge left = let same = left (λ e. absurd (cc)) Reads (λ e. absurd (cc)) in absurd (cc)

-- A command that is accepted arms the alarm; a kernel in which command 2 of the buttons disables nothing.
abbrev armed_at_four : Record
armed_at_four = allows (calls 0 0 0) (λ at own.
    alarm.with_alarm (Some (record { reference = 4; delta = 9 })) (own_entering alarm.alarm_driver own))

sets_nine : CommandSets 4 (calls 0 0 0) armed_at_four (commands (0 ∷ 5 ∷ 9 ∷ 0 ∷ []))
unfolding counts_of drivers shape_of
sets_nine = record {
  alarm = λ is among. (refl, inr (inl (refl, refl)));
  buttons = λ is among. let driver = is.of_driver in absurd (omega (arith, driver));
}

none_stays_enabled : (r : Record) → enabled r.own ≡ 1 → CommandSets 0 r r (commands (3 ∷ 2 ∷ 0 ∷ 0 ∷ [])) → ⊥
none_stays_enabled r on sets =
    none_disables_nothing (record {
      class = refl;
      accepted = refl;
      sets = subst (λ (mask : ℕ). SetsButtons 0 mask (3 ∷ 2 ∷ 0 ∷ 0 ∷ []) mask) on
          (sets.buttons (record { class = refl; accepted = refl; of_driver = refl }) refl);
    })

-- A write of seven bytes that waits once its command was accepted; a kernel in which none does.
abbrev writes_seven : Record
writes_seven = allows (calls 0 0 0) (λ at own.
    with_request console_writes (Some (record { length = 7; taken = 0 })) (own_entering console.console own))

seven_wait : CommandAsks (calls 0 0 0) writes_seven (commands (1 ∷ 1 ∷ 7 ∷ 0 ∷ []))
unfolding counts_of drivers shape_of
seven_wait = record {
  asks = λ lives queue request asks. by_queue queue request asks.asks;
  cancels = λ class accepted cancels. let number = cancels.1 in absurd (omega (arith, number));
}
  where
    by_queue : (queue : QueueName) (request : RequestOf queue) → IsAskedBy queue request (1 ∷ 1 ∷ 7 ∷ 0 ∷ [])
        → waiting_in (kind_in queue) writes_seven.own ≡ Some request
    by_queue Writes request asked = ap Some (sym asked.1)
    by_queue Reads request asked = absurd (omega (arith, asked.0.1))
    by_queue Randoms request asked = absurd (omega (arith, asked.0.0))
    by_queue Stores request asked =
        elim asked [
          | inl reading ↦ absurd (omega (arith, reading.0.1))
          | inr writing ↦ absurd (omega (arith, writing.0.1))
        ]

none_forgets : CommandAsks (calls 0 0 0) (calls 0 0 0) (commands (1 ∷ 1 ∷ 7 ∷ 0 ∷ [])) → ⊥
none_forgets asks =
    let waits = asks.asks refl Writes (record { length = 7; taken = 0 }) (record {
      class = refl;
      accepted = refl;
      asks = ((refl, refl), refl);
    }) in
    cc

-- A yield with 0 and nothing pending, which goes on; a kernel that changes a0 then, or has the process wait.
stands_behind : let r = calls 0 0 0 in StandsBehind Running r.own.inbox r (turn_of r).after
unfolding user_turn on_word executed fetched instr_of decoding instruction_table denied ram_after
    call_of class_table served by_form yielding turned header_reading meaning_of tlv_places_from
stands_behind = record { registers = refl; state = refl; scheduled = refl }

none_with_another : (s : Record) → register s.process.regs 10 ≡ 7
    → StandsBehind Running (calls 0 0 0).own.inbox (calls 0 0 0) s → ⊥
none_with_another s seven stands =
    let first = ap (λ (regs : Registers). register regs 10) stands.registers in
    omega (arith, first, seven)

none_waits_on : (s : Record) → s.process.state ≡ Yielded
    → StandsBehind Running (calls 0 0 0).own.inbox (calls 0 0 0) s → ⊥
none_waits_on s yielded stands = let running = stands.state in cc

-- An exit with 0 and the code 7; a kernel in which the process lives on.
ends_with_seven : HasEnded 7 (turn_of (calls 6 0 7)).after
unfolding user_turn on_word executed fetched instr_of decoding instruction_table denied ram_after
    call_of class_table served by_form exit turned header_reading meaning_of tlv_places_from
ends_with_seven = record { state = refl; lives = refl; held = refl; pending = refl }

none_lives_on : (s : Record) → s.own.lives ≡ true → HasEnded 7 s → ⊥
none_lives_on s lives ended = let dead = ended.lives in true≢false (sym lives ∙ dead)

-- The `ecall` of a process is told; a kernel that swallows it.
told_so : let r = asks 2 0 in TellsItsCall r (turn_of r).told
unfolding user_turn on_word executed fetched instr_of decoding instruction_table denied ram_after
    call_of class_table header_reading served by_form memop memops turned
told_so free running ecall known = refl

none_swallows : TellsItsCall (asks 2 0) untraced → ⊥
unfolding fetched instr_of decoding instruction_table denied
none_swallows tells =
    true≢false (sym (tells refl refl (record { word = 0x73; fetch = refl; means = refl }) (omega arith)))

-- Two that wait for the storage: the first is told; a kernel that tells the other one.
abbrev two_wait : World
two_wait = let w = board 1 [] in record w { devices = with_queue Stores (λ slots. 0 ∷ 1 ∷ []) w.devices }

abbrev stored_to : ℕ → Label
stored_to slot = record { slot = slot; event = Stored true; trace = untraced; printed = [] }

first_is_told : IsOfFirst two_wait (stored_to 0)
first_is_told Stores is = refl
first_is_told queue is = absurd (cc)

none_of_second : IsOfFirst two_wait (stored_to 1) → ⊥
none_of_second first = let same : ◌≡◌ {A = Option ℕ} (Some 0) (Some 1) = first Stores refl in
    let one : ◌≡◌ {A = ℕ} 0 1 = cc in omega (arith, one)

-- A label that tells a turn: of a process that may have one; a kernel that gives one to a process which is held.
tells_a_turn : IsOfReady (board 1 (calls 0 0 0 ∷ [])) (named 0)
tells_a_turn turn = refl

none_of_held :
    IsOfReady (board 1 (record (calls 0 0 0) { process = record (calls 0 0 0).process { held = true } } ∷ []))
    (named 0) → ⊥
none_of_held ready = true≢false (sym (ready refl))

-- An alarm of which 5 ticks are left, alone on its board; a kernel that looks for the next one in 9.
five_left : IsLeastLeft 0 (armed.own ∷ []) (Some 5)
unfolding counts_of drivers shape_of
five_left = record { of_one = (0, (omega arith, refl)); none_less = each }
  where
    each : (slot : ℕ) → slot < SLOT_COUNT → IfSome (ticks_left_in 0 (armed.own ∷ []) slot)
        (λ left. IsSomeAnd (Some 5) (λ ticks. ticks ≤ left))
    each zero below = omega arith
    each (suc slot) below = tt

none_in_nine : IsLeastLeft 0 (armed.own ∷ []) (Some 9) → ⊥
unfolding counts_of drivers shape_of
none_in_nine least = let less = least.none_less 0 (omega arith) in omega (arith, less)

-- A process as it is opened: how it lives, where it lies, what waits for it; kernels that let one live on which has
-- faulted, move its break below the mark, have 21 upcalls wait, or move its block.
lives_so : LivesAsItRuns (calls 0 0 0)
unfolding header_reading meaning_of tlv_places_from
lives_so = record { lives = refl; life = refl; application = refl }

none_lives_faulted : (r : Record) → r.process.state ≡ Faulted → r.own.lives ≡ true → LivesAsItRuns r → ⊥
none_lives_faulted r faulted lives runs =
    true≢false (sym lives ∙ runs.lives ∙ ap is_alive faulted)

has_order : HasOrder (calls 0 0 0)
unfolding header_reading meaning_of tlv_places_from
has_order = record {
  places = record { mark = omega arith; brk = omega arith; grants = omega arith };
  least = omega arith;
}

none_below_mark : (r : Record) → r.own.layout.brk ≡ 4 → r.own.layout.mark ≡ 8 → HasOrder r → ⊥
none_below_mark r brk mark order = let places = order.places.brk in omega (arith, brk, mark, places)

none_wait_so : HasPendingWithinLimit (calls 0 0 0)
none_wait_so = omega arith

none_of_21 : (r : Record) → r.own.inbox.pending ≡ replicate 21 upcall → HasPendingWithinLimit r → ⊥
none_of_21 r many within =
    let size : length r.own.inbox.pending ≡ 21 = ap (λ (us : List Scheduled). length us) many in
    omega (arith, size, within)

lies_so : LiesAs (calls 0 0 0) (calls 6 1 0)
lies_so = record {
  bytes = refl;
  object = refl;
  own_object = refl;
  flash_start = refl;
  flash_end = refl;
  start = refl;
  end = refl;
}

none_moved : (r s : Record) → s.own.layout.start ≡ r.own.layout.start + 4 → LiesAs r s → ⊥
none_moved r s moved lies = let start = lies.start in omega (arith, moved, start)

alone_apart : BlocksAreApart (board 1 (calls 0 0 0 ∷ []))
alone_apart zero zero r s apart is there = absurd (apart refl)
alone_apart i j r s apart is there = absurd (cc)

none_overlap : BlocksAreApart (board 1 (calls 0 0 0 ∷ calls 0 0 0 ∷ [])) → ⊥
none_overlap apart =
    apart 0 1 (calls 0 0 0) (calls 0 0 0) (λ same. omega (arith, same)) refl refl RAM_START (omega arith) (omega arith)
    (omega arith) (omega arith)

at_first_so : IsAsAtFirst (calls 0 0 0) (calls 0 0 0)
at_first_so = refl

none_keeps_grants : IsAsAtFirst (calls 0 0 0) armed → ⊥
unfolding counts_of drivers shape_of
none_keeps_grants first = let grants = ap (λ (r : Record). r.own.grants) first in cc

-- An edge of a button is told in silence; a kernel that prints a byte with it.
told_in_silence : IsSilent (record { slot = 0; event = Edge 0 true; trace = untraced; printed = [] })
told_in_silence = record { no_turn = refl; no_act = refl; prints = refl }

none_prints_an_edge : IsSilent (record { slot = 0; event = Edge 0 true; trace = untraced; printed = 65 ∷ [] }) → ⊥
none_prints_an_edge silent = let prints = silent.prints in cc

-- A break that is moved to the fifth byte of the block, so to the eighth; a kernel that does not round it.
abbrev breaks_at_five : CallMade
breaks_at_five = record { class = 5; args = 0 ∷ (RAM_START + 5) ∷ 0 ∷ 0 ∷ []; reply = None; rule = None }

moves_to_eight : MovesBreak (asks 0 (RAM_START + 5)) (turn_of (asks 0 (RAM_START + 5))).after breaks_at_five
unfolding user_turn on_word executed fetched instr_of decoding instruction_table denied ram_after
    call_of class_table header_reading served by_form memop memops turned
moves_to_eight = record {
  to = λ is. refl;
  up = λ is small. let one = is.asks in absurd (omega (arith, one));
  down = λ is large. let one = is.asks in absurd (omega (arith, one));
}

none_unrounded : (s : Record) → s.own.layout.brk ≡ RAM_START + 5
    → MovesBreak (asks 0 (RAM_START + 5)) s breaks_at_five → ⊥
none_unrounded s five moves =
    let eight = ap (λ (o : Own). o.layout.brk) (moves.to (record { class = refl; asks = refl; accepted = refl })) in
    omega (arith, five, eight)
