-- Worked cases, computed from the definitions: what laws of this crate have, and a step of a wrong kernel that each
-- refuses.
use Rattle.std.proofs.Common.{◌≡◌, ℕ, true, cond, List, [], ◌∷◌, ◌++◌, Some, refl}
use Rattle.std.proofs.Common.{ap, ◌∙◌, arith}
use Rattle.tk_base.specs.declared.access.TheConstants.{FLASH_START, RAM_START}
use Rattle.tk_base.specs.declared.kinds.PairKind.TheVariants.{ReadWrite, Upcall}
use Rattle.tk_base.specs.declared.upcall.Upcall.{Upcall as Scheduled}
use Rattle.upcall_queue.specs.declared.inbox.Inbox.{Inbox}
use Rattle.upcall_queue.specs.Pending.{empty}
use Rattle.grant_values.specs.Drivers.{counts_of, drivers}
use Rattle.grant_model.specs.Grants.{shape_of}
use Rattle.process_model.specs.Handed.{handing}
use Rattle.process_record.specs.Parts.{cleared}
use Rattle.driver_model.specs.Commands.{QueueName}
use Rattle.driver_model.specs.Console as console
use Rattle.kernel_model.specs.Record.{Record, record_with_step}
use Rattle.kernel_model.specs.Worked.{standing, worked_settings}
use Rattle.kernel_model.specs.World.{World}
use Rattle.kernel_lives.specs.Given.{AlarmIsGiven, InputIsGiven}
use Rattle.kernel_lives.specs.Requests.{FollowsRequests, asks_in}
use Rattle.kernel_lives.specs.Writes.{CompletesTruly}
use Rattle.kernel_lives.proofs.Given.{input_given}
use Rattle.driver_model.specs.Requests.{with_request}
use Rattle.std.proofs.Common.{sym, ap, ◌⊎◌, inl, inr, ◌<◌, ◌≤◌, Bool, false, None}
use Rattle.std.proofs.lemmas.List.Elements.{All-nil}
use Rattle.grant_values.specs.declared.storage.StorageKind.TheVariants.{Read}
use Rattle.process_model.specs.Served.{own_scheduled}
use Rattle.driver_model.specs.Commands.{Writes}
use Rattle.driver_model.specs.Console.{console_writes}
use Rattle.driver_model.specs.Random as random
use Rattle.driver_model.specs.Random.{randoms}
use Rattle.kernel_lives.specs.Given.{NoWordIsGiven, StorageIsDone, WordIsGiven, WriteIsDone}
use Rattle.kernel_lives.proofs.Given.{put_none, word_given}
use Rattle.std.proofs.Common.{◌+◌, zero, suc, length, replicate, slice_get, slice_index, subst, take}
use Rattle.kernel_model.specs.Named.{slots_in}
use Rattle.std.specs.Int.{w32, to_le_bytes}
use Rattle.std.proofs.lemmas.Bool.{false≢true}
use Rattle.tk_base.specs.declared.kinds.PairKind.TheVariants.{Readable}
use Rattle.process_model.specs.Changes.{IsOwnAddress, own_byte}
use Rattle.process_model.specs.Flag.{with_flag}
use Rattle.process_record.specs.declared.emit.CallMade.{CallMade}
use Rattle.driver_model.specs.Alarm as alarm
use Rattle.driver_model.specs.Bytes.{clock_buffer}
use Rattle.driver_model.specs.Commands.{Randoms, Reads}
use Rattle.kernel_model.specs.Turn.{Edge, Turn, untraced}
use Rattle.kernel_model.specs.Wholes.{HasWholeOwn}
use Rattle.kernel_model.specs.World.{Label}
use Rattle.kernel_lives.specs.Given.{ClockIsShown, FlagTells, HasFlag}
use Rattle.kernel_lives.specs.Requests.{AddUp, HasRequestsOfItsLife, IsWithdrawnBy}
use Rattle.kernel_lives.specs.Ended.{IsFreeOnceEnded}
use Rattle.kernel_lives.specs.Registers.{HasRegisters}
use Rattle.kernel_lives.specs.Lists.{ListsAreOfRequests, asks_at, once_if, times_in}
use Rattle.kernel_lives.specs.OwnBuffers.{BuffersAreItsOwn, IsInOwnFlash, IsInOwnRam}
use Rattle.kernel_lives.specs.StoredBytes.{GaveStorage}
use Rattle.std.proofs.lemmas.Bool.{true≢false}
use Rattle.process_record.specs.declared.process.State.TheVariants.{Faulted}
use Rattle.driver_model.specs.Commands.{Stores}
use Rattle.driver_model.specs.Storage.{storages}
use Rattle.kernel_model.specs.Worked.{board}
use Rattle.kernel_model.specs.World.{with_queue}
use Rattle.process_model.specs.Served.{with_written}
use Rattle.tk_base.specs.declared.kinds.PairKind.TheVariants.{ReadOnly}
use Rattle.kernel_lives.proofs.Shown.{clock_shown}

-- a process that holds a buffer of four bytes for what comes in, and a function for the alarm, at the start of its
-- block
abbrev holds : Record
holds =
    let r = standing (0x73 ∷ 0 ∷ 0 ∷ 0 ∷ []) 256 (cleared FLASH_START) in
    record r { own = handing Upcall 0x0 0 (0x20000, 9) (handing ReadWrite 0x1 1 (RAM_START, 4) r.own) }

-- Bytes that came in, for a read of two; a kernel that gives it three.
gives_two : InputIsGiven (5 ∷ 6 ∷ []) (record { length = 2 }) holds
    (record_with_step holds (console.reading_in (5 ∷ 6 ∷ []) holds.own (record { length = 2 })))
unfolding counts_of drivers shape_of
gives_two = input_given worked_settings holds (5 ∷ 6 ∷ 7 ∷ []) (Some (record { length = 2 }))

none_gives_three : (r s : Record) → InputIsGiven (5 ∷ 6 ∷ 7 ∷ []) (record { length = 2 }) r s → ⊥
none_gives_three r s given = let asked = given.asked in omega (arith, asked)

-- the arguments of the one upcall that waits
first_args : List Scheduled → List ℕ
first_args [] = []
first_args (u ∷ rest) = u.args

-- An alarm that fires at 7, and expired at 5; a kernel that tells the two in the other order.
abbrev told_with : List ℕ → Record
told_with args = record holds {
  own = record holds.own {
    inbox = record empty {
      pending = record { driver = 0; number = 0; function = 0x20000; app = 9; args = args } ∷ [];
    };
  };
}

tells_so : AlarmIsGiven 7 (record { reference = 0; delta = 5 }) holds (told_with (7 ∷ 5 ∷ 0 ∷ []))
unfolding counts_of drivers shape_of
tells_so = record {
  shows = record { stand = λ whole k less. absurd (omega (arith, less)); others = λ whole at inside out. refl };
  tells = refl;
  done = refl;
}

none_tells_otherwise :
    AlarmIsGiven 7 (record { reference = 0; delta = 5 }) holds (told_with (5 ∷ 7 ∷ 0 ∷ [])) → ⊥
unfolding counts_of drivers shape_of first_args
none_tells_otherwise given = cc (ap (λ (x : Inbox). first_args x.pending) given.tells)

-- A queue in which two wait still; a kernel that has them change places.
none_change_places : (queue : QueueName) (w v : World) → asks_in queue 1 v ≡ true → asks_in queue 2 v ≡ true
    → FollowsRequests queue w v (1 ∷ 2 ∷ []) (2 ∷ 1 ∷ []) → ⊥
none_change_places queue w v one two follows = cc (rw (one, two) at follows.is)

-- A write that completes; a kernel that prints one byte more of it then.
none_prints_more : (r s : Record) → CompletesTruly 4 4 (65 ∷ []) r s → ⊥
none_prints_more r s completes = let silent = completes.silent in cc

-- One that stays where it stood; and a write of four bytes that completes so.
stays_there : (queue : QueueName) (w v : World) → asks_in queue 1 v ≡ true
    → FollowsRequests queue w v (1 ∷ []) (1 ∷ [])
stays_there queue w v asks = record {
  come = [];
  is = sym (ap (λ (b : Bool). cond b (1 ∷ []) [] ++ []) asks);
  one = omega arith;
  begin = All-nil (λ slot. (asks_in queue slot w ≡ false) × (asks_in queue slot v ≡ true));
}

completes_so : (r : Record) → CompletesTruly 4 4 [] r (record r {
  own = own_scheduled 0x1 1 (4 ∷ 0 ∷ 0 ∷ []) (with_request console_writes None r.own);
})
completes_so r = record { tells = refl; no_more = omega arith; all = omega arith; silent = refl }

-- A process with a request for four random bytes, a buffer for them, and a function for each driver.
abbrev asks_four : Record
asks_four = record holds {
  own = with_request randoms (Some (record { count = 4; written = 0 }))
      (handing Upcall 0x50001 0 (0x20000, 9) (handing Upcall 0x1 1 (0x20000, 9) (handing Upcall 0x40001 0 (0x20000, 9)
      (handing ReadWrite 0x40001 0 (RAM_START, 4) holds.own))));
}

abbrev told_by : ℕ → ℕ → List ℕ → Record
told_by driver number args = record asks_four {
  own = record asks_four.own {
    inbox = record empty {
      pending = record { driver = driver; number = number; function = 0x20000; app = 9; args = args } ∷ [];
    };
  };
}

-- A random word; a kernel that draws one more where all bytes are written.
gives_word : WordIsGiven 0x04030201 (record { count = 4; written = 0 }) asks_four
    (record_with_step asks_four (random.advanced (random.progress (Some 0x04030201)
    (record { count = 4; written = 0 }) asks_four.own)).step)
unfolding counts_of drivers shape_of
gives_word = word_given worked_settings asks_four 0x04030201 (record { count = 4; written = 0 }) refl (omega arith)

none_draws_more : (word : ℕ) (r s : Record) → WordIsGiven word (record { count = 4; written = 4 }) r s → ⊥
none_draws_more word r s given = let short = given.short in omega (arith, short)

-- No word is left; a kernel that tells that all went well.
none_without_word : NoWordIsGiven (record { count = 4; written = 0 }) asks_four (told_by 0x40001 0 (0 ∷ 0 ∷ 0 ∷ []))
    → ⊥
unfolding counts_of drivers shape_of first_args
none_without_word given = by_outcome given.tells.0 given.tells.1 (ap (λ (x : Inbox). first_args x.pending)
    given.tells.2)
  where
    by_outcome : (outcome : ℕ) → ((outcome ≡ 0) × (4 ≤ 0)) ⊎ ((outcome ≡ 1) × (0 < 4))
        → ◌≡◌ {A = List ℕ} (0 ∷ 0 ∷ 0 ∷ []) (outcome ∷ 0 ∷ 0 ∷ []) → ⊥
    by_outcome outcome (inl all) e = omega (arith, all.1)
    by_outcome outcome (inr some) e = let none : 0 ≡ outcome = cc in omega (arith, none, some.0)

-- A write of which four bytes were taken; a kernel that tells five.
none_tells_five : WriteIsDone (record { length = 8; taken = 4 }) asks_four (told_by 0x1 1 (5 ∷ 0 ∷ 0 ∷ [])) → ⊥
unfolding counts_of drivers shape_of first_args
none_tells_five done = cc (ap (λ (x : Inbox). first_args x.pending) done.tells)

tells_four : (r : Record) → WriteIsDone (record { length = 8; taken = 4 }) r
    (record_with_step r (console.write_completing r.own (record { length = 8; taken = 4 })))
tells_four r = record { tells = refl; done = put_none Writes r.own }

-- A read of the storage that failed; a kernel that tells that it went well.
none_tells_well : StorageIsDone false (record { kind = Read; offset = 0; length = 2 }) asks_four
    (told_by 0x50001 0 (0 ∷ 0 ∷ 0 ∷ [])) → ⊥
unfolding counts_of drivers shape_of first_args
none_tells_well done = cc (ap (λ (x : Inbox). first_args x.pending) done.tells)

tells_fault : StorageIsDone false (record { kind = Read; offset = 0; length = 2 }) asks_four
    (told_by 0x50001 0 (0 ∷ 1 ∷ 0 ∷ []))
unfolding counts_of drivers shape_of
tells_fault = record { tells = refl; done = refl }

-- no word is left, and it is told so
tells_none_left : NoWordIsGiven (record { count = 4; written = 0 }) asks_four
    (record_with_step asks_four (random.advanced (random.progress None (record { count = 4; written = 0 })
    asks_four.own)).step)
unfolding counts_of drivers shape_of
tells_none_left = record { tells = (1, inr (refl, omega arith), refl); done = put_none Randoms asks_four.own }

-- The clock, in a buffer of four bytes; a kernel that shows its bytes in the other order, or writes a fifth one.
abbrev holds_clock : Record
holds_clock = record holds { own = handing Readable 0x0 0 (RAM_START, 4) holds.own }

shows_clock : ClockIsShown 5 holds_clock (record holds_clock { own = alarm.showing 5 holds_clock.own })
shows_clock = clock_shown 5 holds_clock (record holds_clock { own = alarm.showing 5 holds_clock.own }) (λ at. refl)

none_in_reverse : (r s : Record) → HasWholeOwn r → (clock_buffer r.own).1 ≡ 4
    → own_byte s.own ((clock_buffer r.own).0 + 0 + 0) ≡ 4 → ClockIsShown 0x04030201 r s → ⊥
none_in_reverse r s whole four last shown =
    let less = subst (λ (n : ℕ). 0 < length (take n (to_le_bytes w32 0x04030201))) (sym four) (omega arith) in
    let first = shown.stand whole 0 less
    ∙ ap (λ (n : ℕ). slice_index (take n (to_le_bytes w32 0x04030201)) 0) four in
    omega (arith, first, last)

none_writes_five : (now : ℕ) (r s : Record) → HasWholeOwn r → IsOwnAddress ((clock_buffer r.own).0 + 4) r.own
    → (own_byte s.own ((clock_buffer r.own).0 + 4) ≡ own_byte r.own ((clock_buffer r.own).0 + 4) → ⊥)
    → ClockIsShown now r s → ⊥
none_writes_five now r s whole inside changed shown =
    changed (shown.others whole ((clock_buffer r.own).0 + 4) inside (inr (omega arith)))

-- A yield with a flag, for which no upcall waits; a kernel that tells 0 after a delivery.
abbrev yields_at : ℕ → CallMade
yields_at at = record { class = 0; args = 0 ∷ at ∷ 0 ∷ 0 ∷ []; reply = None; rule = None }

tells_zero : FlagTells holds (record holds { own = with_flag RAM_START 0 holds.own }) (yields_at RAM_START)
unfolding counts_of drivers shape_of
tells_zero =
    record { delivered = λ has whole u rest pending. absurd (cc); none = λ has whole pending. refl }

none_tells_zero : (r s : Record) (call : CallMade) → HasFlag r call → HasWholeOwn r → (u : Scheduled)
    (rest : List Scheduled) → r.own.inbox.pending ≡ u ∷ rest → own_byte s.own (slice_index call.args 1) ≡ 0
    → FlagTells r s call → ⊥
none_tells_zero r s call has whole u rest pending none tells =
    let one = tells.delivered has whole u rest pending in omega (arith, one, none)

-- A read that its process cancels; a kernel that withdraws one as a button is pressed, and one that loses a request.
abbrev cancels : Label
cancels = record {
  slot = 0;
  event = Turn 0;
  trace = record untraced {
    call = Some (record { class = 2; args = 1 ∷ 3 ∷ 0 ∷ 0 ∷ []; reply = None; rule = None });
  };
  printed = [];
}

withdrawn_so : (r s : Record) → IsWithdrawnBy Reads 0 r s cancels
withdrawn_so r s = record {
  of_it = refl;
  why = inl (
    refl,
    record { accepted = record { class = refl; accepted = refl; of_driver = refl }; number = refl },
  );
}

none_by_an_edge : (r : Record) → r.own.lives ≡ true
    → IsWithdrawnBy Reads 0 r r (record { slot = 0; event = Edge 0 true; trace = untraced; printed = [] }) → ⊥
none_by_an_edge r lives withdrawn = by_cause withdrawn.why
  where
    by_cause : ((Reads ≡ Reads) × ⊥) ⊎ ((r.own.lives ≡ false) ⊎ (r.own.life ≡ r.own.life + 1)) → ⊥
    by_cause (inl cancelled) = cancelled.1
    by_cause (inr (inl dead)) = false≢true (sym dead ∙ lives)
    by_cause (inr (inr next)) = omega (arith, next)

adds_up : AddUp 2 0 1 1 0
adds_up = refl

none_is_lost : AddUp 2 0 1 0 0 → ⊥
none_is_lost sum = omega (arith, sum)

-- A request waits in its own life; a kernel that keeps it in the next one.
of_its_life : (r : Record) → HasRequestsOfItsLife r r
of_its_life r queue waits = refl

none_outlives : HasRequestsOfItsLife holds (record asks_four { own = record asks_four.own { life = 1 } }) → ⊥
unfolding counts_of drivers shape_of
none_outlives of_life = let life = of_life Randoms refl in omega (arith, life)

-- A process that runs and is not held; a kernel that holds one which has faulted.
runs_free : IsFreeOnceEnded holds
runs_free ended = refl

none_held_ended : IsFreeOnceEnded (record holds { process = record holds.process { state = Faulted; held = true } }) → ⊥
none_held_ended free = true≢false (free refl)

-- A process without buffers; a kernel that takes one which lies above the break.
has_none : BuffersAreItsOwn (standing (0x73 ∷ 0 ∷ 0 ∷ 0 ∷ []) 256 (cleared FLASH_START))
has_none kind driver number at is inside = absurd (omega (arith, inside.1))

none_above_break : BuffersAreItsOwn (record holds { own = handing ReadWrite 0x1 1 (RAM_START + 100, 4) holds.own }) → ⊥
unfolding counts_of drivers shape_of
none_above_break its_own = by_place (its_own ReadWrite 0x1 1 (RAM_START + 100) refl (omega arith, omega arith))
  where
    taken : Record
    taken = record holds { own = handing ReadWrite 0x1 1 (RAM_START + 100, 4) holds.own }

    by_place : IsInOwnRam (RAM_START + 100) taken.own
        ⊎ ((ReadWrite ≡ ReadOnly) × IsInOwnFlash (RAM_START + 100) taken.own) → ⊥
    by_place (inl ram) = let below = ram.brk in omega (arith, below)
    by_place (inr flash) = let same = flash.0 in cc

-- A read of two bytes of the storage, which are 1 and 2; a kernel that leaves the buffer as it was.
abbrev reads_storage : Record
reads_storage = record holds {
  own = with_request storages (Some (record { kind = Read; offset = 0; length = 2 }))
      (handing ReadWrite 0x50001 0 (RAM_START, 4) holds.own);
  storage = 1 ∷ 2 ∷ [];
}

abbrev given_two : Record
given_two = record reads_storage { own = with_written ReadWrite 0x50001 0 0 (1 ∷ 2 ∷ []) reads_storage.own }

gave_two : GaveStorage reads_storage given_two
unfolding counts_of drivers shape_of
gave_two read zero asked room = refl
gave_two read (suc zero) asked room = refl
gave_two read (suc (suc k)) asked room = absurd (omega (arith, asked))

none_leaves_zeros : GaveStorage reads_storage reads_storage → ⊥
unfolding counts_of drivers shape_of
none_leaves_zeros gave = let first = gave refl 0 (omega arith) (omega arith) in omega (arith, first)

-- A board on which nobody waits; a kernel that has a slot wait twice.
nobody_waits : ListsAreOfRequests (board 1 [])
nobody_waits = record { each = none; lives = λ slot. tt }
  where
    none : (queue : QueueName) (slot : ℕ) → times_in slot (slots_in queue (board 1 []).devices.waiting)
        ≡ once_if (asks_at queue (slice_get (board 1 []).records slot))
    none Writes slot = refl
    none Reads slot = refl
    none Randoms slot = refl
    none Stores slot = refl

abbrev waits_twice : World
waits_twice = let w = board 1 [] in record w { devices = with_queue Reads (λ slots. 0 ∷ 0 ∷ []) w.devices }

none_waits_twice : ListsAreOfRequests waits_twice → ⊥
none_waits_twice lists = let twice = lists.each Reads 0 in omega (arith, twice)

-- A process with its 32 registers; a kernel that starts one with 31.
has_registers : HasRegisters holds
has_registers = refl

none_of_31 : (r : Record) → r.process.regs.x ≡ replicate 31 0 → HasRegisters r → ⊥
none_of_31 r few many =
    let size : length r.process.regs.x ≡ 31 = ap (λ (x : List ℕ). length x) few in omega (arith, size, many)
