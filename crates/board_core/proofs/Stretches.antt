-- Quiet turns of one process are steps of the round robin in the world that the board shows, and leave a board. Of what
-- is a process's own, instructions change RAM alone, so nobody waits who did not, and no device step is ready on the
-- way, up to the calm's end; so the slot has each next turn, in its slice or beyond it where it is alone, and the laws
-- of the round robin make a stretch of the turns.
use Rattle.board_devices.specs.Clock.{clock_at}
use Rattle.alarm_capsule.proofs.KeptTimes.{all_later}
use Rattle.driver_model.specs.Laws.{TimeBringsNearer}
use Rattle.std.proofs.Common.{◌≡◌, ℕ, zero, suc, ◌+◌, ◌-◌, ◌%◌, ◌<◌, ◌≤◌, Bool, true, false, List, [], ◌∷◌, length, map}
use Rattle.std.proofs.Common.{◌||◌, cond, find, is_some, slice_get, slice_set, All, Option, None, Some, refl, sym, ap}
use Rattle.std.proofs.Common.{ap₂, subst, ◌∙◌, arith, ◌==◌, ◌⊎◌, inl, inr, slice_index_or}
use Rattle.std.proofs.Math.Nat.{mod-eq_of_lt, mod-lt}
use Rattle.process_model.specs.Own.{Own}
use Rattle.process_record.specs.declared.process.Process.{Process}
use Rattle.rv32_model.specs.declared.turn_end.TurnEnd.{TurnEnd}
use Rattle.kernel_model.specs.Record.{Record, instruction}
use Rattle.kernel_model.specs.Stretch.{after_instructions, instruction_made}
use Rattle.std.specs.Prelude.{◌&&◌, IfSome, not}
use Rattle.std.specs.List.{range_with_len, zip}
use Rattle.std.proofs.lemmas.Bool.{false≢true}
use Rattle.std.specs.Option.{option_map, option_or}
use Rattle.std.proofs.lemmas.List.{get_or-set_same, length-set, map-set, set-get_or}
use Rattle.std.proofs.lemmas.List.Elements.{All-set}
use Rattle.std.proofs.lemmas.Option.{get_or_from_slice_get, slice_get-get_or, slice_get-map, slice_get_within}
use Rattle.tk_base.specs.declared.limits.TheConstants.{SLOT_COUNT, STEP_LIMIT}
use Rattle.tk_base.specs.declared.process.Choice.{Choice}
use Rattle.tk_base.specs.declared.process.Choice.TheVariants.{Run, Device, Pass}
use Rattle.tk_base.specs.declared.process.Dev.{Dev}
use Rattle.partition_turns.specs.Windows.{window_end}
use Rattle.partition_turns.proofs.Found.{find_range-none}
use Rattle.turn_scheduler.specs.RoundRobin.{choice, device_order, next_slot, ready_device, used_after}
use Rattle.process_record.specs.declared.process.State.{State}
use Rattle.process_record.specs.declared.process.State.TheVariants.{Running}
use Rattle.driver_model.specs.Lines.{IsWithin}
use Rattle.grant_enter.specs.Homes.{Homes, nobody}
use Rattle.kernel_model.specs.declared.settings.Settings.{Settings}
use Rattle.kernel_model.specs.Laws.{NextLiesAhead}
use Rattle.kernel_model.specs.Run.{is_left, is_left_for, next, next_time as world_next_time, passes_to, ready_devices}
use Rattle.kernel_model.specs.Run.{ready_slots}
use Rattle.kernel_model.specs.Parts.{work_for}
use Rattle.kernel_model.specs.Stretch.{GoesOn, IsLetOnTheWay, IsStretch, NoneActs, NoneIsStretch}
use Rattle.kernel_model.specs.Stretch.{PresentIsNextOnTheWay, PresentStaysOn, RoundIsStretch}
use Rattle.kernel_model.specs.Stretch.{after_stretch, at_turn}
use Rattle.driver_model.specs.Alarm.{nearer}
use Rattle.kernel_model.specs.World.{World, is_let, only_in, owns_in}
use Rattle.kernel_model.specs.Parts.{work_of}
use Rattle.kernel_model.specs.Named.{can_run}
use Rattle.kernel_model.proofs.Places.{slice_get-set_other}
use Rattle.kernel_laws.specs.Alone.{IsAlone, OneAloneGoesOn, OneAloneIsNext, used_through}
use Rattle.kernel_laws.proofs.Turns.{turn_is_free, turn_is_let, turn_is_ready}
use Rattle.board_drivers.specs.Calm.{AlarmsTell, HasCome, IsCalm, ServesNobody, only_of, work_then}
use Rattle.board_core.specs.declared.state.BoardState.{BoardState}
use Rattle.board_drivers.specs.declared.drivers.Drivers.{Drivers}
use Rattle.board_drivers.specs.declared.moment.Moment.{Moment}
use Rattle.board_drivers.specs.Driven.{AreDriven, devices_of, ids_waiting_in}
use Rattle.board_core.specs.Makes.{ready_in}
use Rattle.board_core.specs.Shows.{IsBoard, recorded, residents, world_of}
use Rattle.board_core.specs.Stretches.{StopsAt}
use Rattle.kernel_calls.specs.Residents.{HasLost, IsResident, Resident, record_of, resident_turns}
use Rattle.board_core.specs.KnownEnds.{EndsSo, IsKnownOfChoice}
use Rattle.board_core.specs.Running.{is_running, slot_runs}
use Rattle.board_turns.specs.Quiet.{Quietly}
use Rattle.board_turns.specs.Turning.{StepsInSlot}
use Rattle.board_drivers.proofs.Calm.{kept_calm, later_calm}
use Rattle.board_drivers.proofs.Lanes.{later_free}
use Rattle.board_core.proofs.Changes.{as_many, found, kept_records, lost_before, owns_after, still_lost, still_seated}
use Rattle.board_drivers.proofs.Records.{bytes_of}
use Rattle.board_core.proofs.Changes.{resident_was, residents_after, with_step}
use Rattle.board_drivers.proofs.Lines.{line_after}
use Rattle.kernel_calls.proofs.Pairs.{get-firsts}
use Rattle.board_drivers.proofs.Records.{reads_shown}
use Rattle.board_core.proofs.Boards.{has_storage, next_in_calm, owns_in_world, run_shown}
use Rattle.board_core.proofs.SameAlarms.{same_alarms_calm, same_alarms_tell}
use Rattle.driver_model.specs.Alarm.{alarm_in}
use Rattle.kernel_alarms.specs.Acting.{HasSameAlarm}
use Rattle.board_core.proofs.Ready.{calm_ready, devices_shown, next_shown}
use Rattle.board_turns.proofs.Quiet.{own_after, none_more, kept_own}
use Rattle.board_turns.specs.declared.machine.Machine.{Machine}
use Rattle.upcall_queue.specs.Pending.{due}
use Rattle.kernel_model.specs.Turn.{has_turn}
use Rattle.board_turns.specs.ReadySlots.{TurnsTell, how_many}
use Rattle.board_turns.proofs.Counted.{one_counted}
use Rattle.board_turns.proofs.TurnsKept.{still_ready}

-- drivers of which nothing is asked, and who waits, while a process's RAM changes and time passes
pub ram_driven : (settings : Settings) (time later slot : ℕ) (owns : List Own) (d : Drivers) (own : Own) (ram : List ℕ)
    → slice_get owns slot ≡ Some own → time ≤ later → AreDriven settings time owns d
    → AreDriven settings later (slice_set owns slot (record own { ram = ram })) d
ram_driven settings time later slot owns d own ram was passes h = record {
  queues = λ queue. line_after queue (ids_waiting_in d queue) owns slot own (record own { ram = ram }) []
      (h.queues queue) was refl (λ waiting. refl);
  within = All-set (IsWithin settings.storage) owns slot (record own { ram = ram })
      (subst (IsWithin settings.storage) (get_or_from_slice_get owns slot own nobody was)
      (h.within slot nobody (slice_get_within owns slot own was))) h.within;
  leds = h.leds;
  buttons = h.buttons;
  size = h.size;
  slots = h.slots;
  ticks = h.ticks;
  free = later_free time later d passes h.free;
}

-- the first three, and the last three, of six that are not ready
served_by_none : (a b c d e f : Bool) → ready_device (a ∷ b ∷ c ∷ d ∷ e ∷ f ∷ []) ≡ None
    → (d ≡ false) × (e ≡ false) × (f ≡ false)
unfolding ready_device
served_by_none false false false false false false none = (refl, refl, refl)
served_by_none a b c d e f none = cc

-- the moment some turns later
abbrev pub turns_later : ℕ → Moment → Moment
turns_later k m = record m { time = m.time + k; steps = m.steps + k }

-- who has the next turn where the round robin goes on: the present slot in its slice, and one that is alone
abbrev StaysOn : Type 0
StaysOn = PresentStaysOn × OneAloneIsNext

-- what always holds of a board, after so many turns that left these processes and what is their own
pub record StillHolds (b : BoardState) (k : ℕ) (home : Homes) (processes : List Process) : Type 0 where
  pub seated : All (IsResident home.flash (b.machine.moment.steps + k)) (zip processes home.owns)
  pub lost : All (HasLost (b.machine.moment.steps + k)) home.owns
  pub owns : length home.owns ≡ length processes
  pub few : length processes ≤ SLOT_COUNT
  pub driven : AreDriven b.machine.moment.settings (b.machine.moment.time + k) home.owns b.machine.drivers
  pub calm : IsCalm b.machine.moment.settings.start b.machine.moment.window (b.machine.moment.time + k) b.machine.calm
      home.owns b.machine.drivers
  pub alarms : TimeBringsNearer → AlarmsTell (turns_later k b.machine.moment) b.machine.alarms home.owns
  pub ready : TurnsTell b.machine.ready (zip processes home.owns)

set-same : {X : Type 0} (xs : List X) (i : ℕ) (x : X) → slice_get xs i ≡ Some x → slice_set xs i x ≡ xs
set-same xs i x e = ap (slice_set xs i) (sym (get_or_from_slice_get xs i x x e)) ∙ set-get_or xs i x

-- one slot has the next turn
same_slot : (slot other : ℕ) → ◌≡◌ {A = Option Choice} (Some (Run slot)) (Some (Run other)) → slot ≡ other
same_slot slot other e = cc

-- where a process has the next turn, no device step is ready
pub chosen_in_calm : (w : World) (slot : ℕ) → next w ≡ Some (Run slot) → ready_device (ready_devices w) ≡ None
unfolding next choice
chosen_in_calm w slot f = by_device (ready_device (ready_devices w)) refl f
  where
    others : Option Choice
    others = option_or (option_map Run (next_slot (ready_slots w) w.present.slot w.present.used w.pace.slice))
        (option_map (λ at. Pass (at - w.clock.time)) (world_next_time w))

    by_device : (o : Option Dev) → ready_device (ready_devices w) ≡ o
        → option_or (option_map Device o) others ≡ Some (Run slot) → ready_device (ready_devices w) ≡ None
    by_device None e h = e
    by_device (Some device) e h = cc

-- and it is the one that the scheduler says
chosen_slot : (w : World) (slot : ℕ) → next w ≡ Some (Run slot)
    → next_slot (ready_slots w) w.present.slot w.present.used w.pace.slice ≡ Some slot
unfolding next choice
chosen_slot w slot f =
    by_both (ready_device (ready_devices w)) (next_slot (ready_slots w) w.present.slot w.present.used w.pace.slice)
    (world_next_time w) refl f
  where
    by_both : (o : Option Dev) (q at : Option ℕ)
        → next_slot (ready_slots w) w.present.slot w.present.used w.pace.slice ≡ q
        → option_or (option_map Device o) (option_or (option_map Run q) (option_map (λ n. Pass (n - w.clock.time)) at))
        ≡ Some (Run slot)
        → next_slot (ready_slots w) w.present.slot w.present.used w.pace.slice ≡ Some slot
    by_both None (Some other) at e h = let same : other ≡ slot = cc in e ∙ ap Some same
    by_both (Some device) q at e h = cc
    by_both None None (Some n) e h = cc
    by_both None None None e h = cc

-- instructions leave a process that runs running
still_runs : (j : ℕ) (r : Record) → (after_instructions j r).process.state ≡ r.process.state
unfolding after_instructions
still_runs zero r = refl
still_runs (suc j) r = still_runs j (instruction_made r)

-- and one that is not held free
still_free : (j : ℕ) (r : Record) → (after_instructions j r).process.held ≡ r.process.held
unfolding after_instructions
still_free zero r = refl
still_free (suc j) r = still_free j (instruction_made r)

-- a time lies after another, if there is one
abbrev Lies : ℕ → Option ℕ → Type 0
Lies time at = IfSome at (λ n. time < n)

-- where a process can have a turn, something is left to do
something_left : (w : World) (slot : ℕ) → slot < SLOT_COUNT → can_run (slice_get w.records slot) ≡ true
    → is_left w ≡ true
unfolding is_left
something_left w slot there runs = by_found (is_some (find (is_left_for w) (range_with_len 0 SLOT_COUNT))) refl
  where
    by_found : (b : Bool) → is_some (find (is_left_for w) (range_with_len 0 SLOT_COUNT)) ≡ b → b ≡ true
    by_found true e = refl
    by_found false e =
        let same : slot ≡ 0 + slot = omega arith in
        let none : is_left_for w slot ≡ false =
        ap (is_left_for w) same ∙ find_range-none (is_left_for w) 0 SLOT_COUNT e slot there in
        let left : is_left_for w slot ≡ true =
        ap (λ (b : Bool). b || (is_some (ready_device (map (work_for w slot).ready device_order))
        || is_some (work_for w slot).next)) runs in
        absurd (false≢true (sym none ∙ left))

module _ (b : BoardState) (board : IsBoard b) where
  -- the process of the record in a slot
  process_there : (slot : ℕ)
      → option_map (λ (r : Record). r.process) (slice_get (world_of b).records slot) ≡ slice_get b.processes.items slot
  process_there slot =
      sym (slice_get-map (λ (r : Record). r.process) (world_of b).records slot)
      ∙ ap (λ (ps : List Process). slice_get ps slot)
      (reads_shown (λ (r : Record). r.process) (λ (r : Resident). r.0) b.machine.home.flash
      b.machine.drivers.buttons.pressed (residents b) b.machine.drivers.stores.slots (has_storage board) (λ p. refl))
      ∙ slice_get-map (λ (r : Resident). r.0) (residents b) slot
      ∙ sym (get-firsts b.processes.items b.machine.home.owns slot board.owns)

  -- a slot that has a record is one of the slots
  slot_within : (slot : ℕ) (r : Record) → slice_get (world_of b).records slot ≡ Some r → slot < SLOT_COUNT
  slot_within slot r is =
      omega (
        arith,
        board.few,
        slice_get_within b.processes.items slot r.process (sym (process_there slot)
            ∙ ap (option_map (λ (r : Record). r.process)) is),
      )

  -- what is kept of which slots can have a turn, in the world
  table_shown : (slot : ℕ) → slice_index_or b.machine.ready slot false ≡ can_run (slice_get (world_of b).records slot)
  table_shown slot = board.ready slot ∙ sym (run_shown board slot)

  -- where one slot can, and it has the next turn, no other can
  pub alone_shown : (slot : ℕ) → next (world_of b) ≡ Some (Run slot) → (how_many b.machine.ready == 1) ≡ true
      → IsAlone (world_of b) slot
  alone_shown slot f one other apart =
      sym (table_shown other)
      ∙ one_counted b.machine.ready slot other one (table_shown slot ∙ turn_is_ready (world_of b) slot f) apart

  -- while a stretch goes on something is left to do
  left_there : GoesOn (world_of b) → is_left (world_of b) ≡ true
  left_there g =
      something_left (world_of b) g.slot (slot_within g.slot g.before g.is_there)
      (turn_is_ready (world_of b) g.slot g.chosen)

  -- a board of which nobody is served at once, and no device step is to come by now, has one that is ready
  pub nothing_comes : GoesOn (world_of b) → NextLiesAhead
      → (ServesNobody (only_of b.machine.moment) b.machine.drivers
      → HasCome b.machine.moment.time (work_then b.machine.moment b.machine.home.owns b.machine.drivers).next) → ⊥
  nothing_comes g law comes =
      let none = chosen_in_calm (world_of b) g.slot g.chosen in
      let idle = served_by_none _ _ _ _ _ _ (ap ready_device (devices_shown board) ∙ none) in
      not_both b.machine.moment.window _ (sym (next_shown board)) (law (world_of b) none)
      (comes (record { receive = idle.0; random = idle.1; store = idle.2 }))
    where
      not_yet : (at : Option ℕ) → Lies b.machine.moment.time at → HasCome b.machine.moment.time at → ⊥
      not_yet None ahead come = come
      not_yet (Some n) ahead come = omega (arith, ahead, come)

      nearer_lies : (at : Option ℕ) (end : ℕ) → Lies b.machine.moment.time (nearer at (Some end)) → Lies
          b.machine.moment.time at
      nearer_lies None end ahead = tt
      nearer_lies (Some n) end ahead = omega (arith, ahead)

      not_both : (window : ℕ) (at : Option ℕ) → (work_of (world_of b)).next ≡ at
          → Lies b.machine.moment.time (passes_to (world_of b) window) → HasCome b.machine.moment.time at → ⊥
      not_both zero at e ahead come = not_yet at (subst (Lies b.machine.moment.time) e ahead) come
      not_both (suc n) at e ahead come =
          let end = window_end b.machine.moment.time (suc n) in
          not_yet at (subst (Lies b.machine.moment.time) e (nearer_lies (work_of (world_of b)).next end
          (subst (λ (left : Bool). Lies b.machine.moment.time
          (cond left (nearer (work_of (world_of b)).next (Some end)) None))
          (left_there g) ahead))) come

  -- where the process that has the next turn does not run, no stretch goes on
  pub rests_there : (slot : ℕ) → next (world_of b) ≡ Some (Run slot)
      → slot_runs (slice_get b.processes.items slot) ≡ false → GoesOn (world_of b) → ⊥
  rests_there slot f rests g =
      let at : slot ≡ g.slot = same_slot slot g.slot (sym f ∙ g.chosen) in
      let there : slice_get b.processes.items slot ≡ Some g.before.process =
      sym (process_there slot)
      ∙ ap (λ (n : ℕ). option_map (λ (r : Record). r.process) (slice_get (world_of b).records n)) at
      ∙ ap (option_map (λ (r : Record). r.process)) g.is_there in
      let runs : slot_runs (slice_get b.processes.items slot) ≡ true = ap slot_runs there ∙ ap is_running g.runs in
      cc

  module _ (slot k most used : ℕ) {end : TurnEnd} (present : Option ℕ) (x : Machine) (processes : List Process)
      (q : StepsInSlot k slot b.machine x b.processes.items processes (Quietly k most end b.machine.home.flash)) where
    abbrev pressed : ℕ
    pressed = b.machine.drivers.buttons.pressed

    abbrev storage : List ℕ
    storage = bytes_of b.machine.drivers.stores.slots slot

    -- the record before the turns, and after them
    abbrev before : Record
    before = recorded b (q.at.before, bytes_of b.machine.drivers.stores.slots slot)

    abbrev after : Record
    after = recorded b (q.at.after, bytes_of b.machine.drivers.stores.slots slot)

    was_there : slice_get (world_of b).records slot ≡ Some before
    was_there = found q.at b.machine.drivers.buttons.pressed
        b.machine.drivers.stores.slots (has_storage board)

    -- what is each process's own on the way
    owns_then : (j : ℕ)
        → owns_in (after_stretch j (world_of b) slot (after_instructions j before))
        ≡ slice_set b.machine.home.owns slot (after_instructions j before).own
    owns_then j = map-set (λ (r : Record). r.own) (world_of b).records slot (after_instructions j before)
        ∙ ap (λ (owns : List Own). slice_set owns slot (after_instructions j before).own) (owns_in_world board)

    -- on the way no device step is ready
    none_acts : b.machine.moment.time + k ≤ b.machine.calm → NoneActs k (world_of b) slot before
    unfolding ready_device
    none_acts until j h =
        let then = (after_instructions j before).own in
        let m = turns_later j b.machine.moment in
        let calm = (kept_calm m.settings.start m.window b.machine.moment.time b.machine.calm slot b.machine.home.owns
        b.machine.drivers
        q.at.before.1
        then q.at.own_was (ap (λ (o : Own). o.grants) (own_after j before))
        (ap (λ (o : Own). o.lives) (own_after j before)) board.machine.calm).none m.time (omega arith)
        (omega (arith, h, until)) in
        ap ready_device (ap (λ (owns : List Own). ready_in m owns b.machine.drivers) (owns_then j)
        ∙ calm_ready m (slice_set b.machine.home.owns slot then) b.machine.drivers calm)

    -- and with time partitions the slot's window lasts
    lets_on : next (world_of b) ≡ Some (Run slot) → b.machine.moment.time + k ≤ b.machine.calm
        → IsLetOnTheWay k (at_turn (world_of b) slot) slot
    lets_on f until j h =
        ap (λ (only : Option ℕ). is_let only slot)
        (board.machine.calm.same (b.machine.moment.time + j) (omega arith) (omega (arith, h, until)))
        ∙ turn_is_let (world_of b) slot f

    -- the world after the turns, which took so many ticks
    abbrev world_after_ticks : ℕ → World
    world_after_ticks ticks =
        with_step b (map (record_of x.home.flash b.machine.drivers.buttons.pressed)
        (zip (zip processes x.home.owns) b.machine.drivers.stores.slots)) (devices_of b.machine.drivers)
        (turns_later ticks b.machine.moment) present used

    abbrev world_then : World
    world_then = world_after_ticks k

    records_then : world_then.records ≡ slice_set (world_of b).records slot after
    records_then = kept_records q.at
        b.machine.drivers.buttons.pressed b.machine.drivers.stores.slots

    -- the record there after the turns
    after_there : slice_get world_then.records slot ≡ Some after
    after_there = ap (λ (rs : List Record). slice_get rs slot) records_then
        ∙ set_there (world_of b).records (slice_get_within (world_of b).records slot before was_there)
      where
        set_there : (rs : List Record) → slot < length rs → slice_get (slice_set rs slot after) slot ≡ Some after
        set_there rs h =
            slice_get-get_or (slice_set rs slot after) slot after (rw length-set h)
            ∙ ap Some (get_or-set_same rs slot after after h)

    -- what was told of the end of its next instruction is known then
    pub end_known : (ticks : ℕ) → ticks ≡ k → IsKnownOfChoice (world_after_ticks ticks) end (Run slot)
    end_known ticks is =
        subst (λ (n : ℕ). IsKnownOfChoice (world_after_ticks n) end (Run slot)) (sym is)
        (subst (λ (o : Option Record). IfSome o (EndsSo end)) (sym after_there)
        (λ stops. q.does.ends stops pressed storage))

    state_is : (s : State) → is_running s ≡ true → s ≡ Running
    state_is Running e = refl
    state_is s e = cc

    -- no turns leave the world as it was
    none_left : k ≡ 0 → present ≡ b.present.slot → used ≡ b.present.used → world_then ≡ world_of b
    unfolding after_instructions
    none_left none p u =
        ap (λ (rs : List Record). with_step b rs (devices_of b.machine.drivers) (turns_later k b.machine.moment) present
        used)
        (records_then ∙ ap (slice_set (world_of b).records slot)
        (q.does.leads pressed storage ∙ ap (λ (n : ℕ). after_instructions n before) none)
        ∙ set-same (world_of b).records slot before was_there)
        ∙ ap₂ (λ (o : Option ℕ) (n : ℕ). with_step b (world_of b).records (devices_of b.machine.drivers)
        (turns_later k b.machine.moment) o n) p u
        ∙ ap (λ (n : ℕ). with_step b (world_of b).records (devices_of b.machine.drivers)
        (turns_later n b.machine.moment) b.present.slot
        b.present.used) none
        ∙ ap₂ (λ (time steps : ℕ). with_step b (world_of b).records (devices_of b.machine.drivers)
        (record b.machine.moment { time = time; steps = steps }) b.present.slot b.present.used)
        (none_more b.machine.moment.time)
        (none_more b.machine.moment.steps)

    -- some are a stretch, which lasts up to the end of the slice, or beyond it where no other slot can have a turn
    module _ (f : next (world_of b) ≡ Some (Run slot)) (runs : is_running q.at.before.0.state ≡ true) (first : ℕ)
        (begins : first ≡ used_after b.present.slot b.present.used b.present.slice slot - 1) (last : ℕ)
        (lasts : first + k ≤ last) (alone_or : (last ≡ b.present.slice) ⊎ IsAlone (world_of b) slot)
        (until : b.machine.moment.time + k ≤ b.machine.calm) (limit : b.machine.moment.steps + k ≤ STEP_LIMIT)
        (none : k ≡ 0 → (present ≡ b.present.slot) × (used ≡ b.present.used))
        (some : 0 < k → (present ≡ Some slot) × (used ≡ used_through b.present.slice first k)) where
      -- the process is not held, since it has the next turn
      free : before.process.held ≡ false
      free = turn_is_free (world_of b) slot before was_there f

      within : slot < SLOT_COUNT
      within = slot_within slot before was_there

      -- in one slice each turn counts
      in_slice : last ≡ b.present.slice → 0 < k → used ≡ first + k
      in_slice is more = (some more).1 ∙ whole (mod-eq_of_lt (omega (arith, lasts, is, more)))
        where
          whole : (first + k - 1) % b.present.slice ≡ first + k - 1 → used_through b.present.slice first k ≡ first + k
          whole e = omega (arith, e, more)

      stretched : RoundIsStretch → PresentIsNextOnTheWay → OneAloneGoesOn → 0 < k
          → IsStretch k (world_of b) world_then
      stretched law chooses law_alone more = by_slice alone_or
        where
          same : (n : ℕ) → used ≡ n
              → world_then ≡ record (after_stretch k (at_turn (world_of b) slot) slot (after_instructions k before)) {
                present = record { slot = Some slot; used = n };
              }
          same n is =
              ap (λ (rs : List Record). with_step b rs (devices_of b.machine.drivers) (turns_later k b.machine.moment)
              present used)
              (records_then ∙ ap (slice_set (world_of b).records slot) (q.does.leads pressed storage))
              ∙ ap₂ (λ (o : Option ℕ) (m : ℕ). with_step b
              (slice_set (world_of b).records slot (after_instructions k before)) (devices_of b.machine.drivers)
              (turns_later k b.machine.moment) o m) (some more).0 is

          lasts_so : last ≡ b.present.slice → (at_turn (world_of b) slot).present.used + k ≤ b.present.slice
          lasts_so is = subst (λ (n : ℕ). n + k ≤ b.present.slice) begins (subst (λ (n : ℕ). first + k ≤ n) is lasts)

          by_slice : (last ≡ b.present.slice) ⊎ IsAlone (world_of b) slot → IsStretch k (world_of b) world_then
          by_slice (inl is) =
              subst (IsStretch k (world_of b)) (sym (same _ (in_slice is more ∙ ap (λ (n : ℕ). n + k) begins)))
              (law k slot (world_of b) before more limit f was_there (state_is q.at.before.0.state runs) (lasts_so is)
              (q.does.go pressed storage)
              (chooses k slot (at_turn (world_of b) slot) before refl was_there (state_is q.at.before.0.state runs) free
              (lasts_so is) (lets_on f until) (none_acts until)))
          by_slice (inr alone) =
              subst (IsStretch k (world_of b))
              (sym (same _ ((some more).1 ∙ ap (λ (n : ℕ). used_through b.present.slice n k) begins)))
              (law_alone k slot (world_of b) before more limit board.slice within f was_there
              (state_is q.at.before.0.state runs) alone (q.does.go pressed storage) (lets_on f until) (none_acts until))

      by_count : RoundIsStretch → PresentIsNextOnTheWay → OneAloneGoesOn → NoneIsStretch → (n : ℕ) → n ≡ k
          → IsStretch k (world_of b) world_then
      by_count law chooses law_alone law_none zero e =
          subst (λ (n : ℕ). IsStretch n (world_of b) world_then) e
          (law_none (world_of b) world_then (none_left (sym e) (none (sym e)).0 (none (sym e)).1))
      by_count law chooses law_alone law_none (suc n) e = stretched law chooses law_alone (omega (arith, e))

      -- so the round robin's next steps are these turns
      pub stretch_shown : (ticks : ℕ) (w : World) → RoundIsStretch → PresentIsNextOnTheWay → OneAloneGoesOn
          → NoneIsStretch → ticks ≡ k → world_of b ≡ w → IsStretch k w (world_after_ticks ticks)
      stretch_shown ticks w law chooses law_alone law_none is shown =
          subst (λ (n : ℕ). IsStretch k w (world_after_ticks n)) (sym is)
          (subst (λ (v : World). IsStretch k v world_then) shown (by_count law chooses law_alone law_none k refl))

      after_runs : after.process.state ≡ Running
      after_runs = ap (λ (r : Record). r.process.state) (q.does.leads pressed storage) ∙ still_runs k before
          ∙ state_is q.at.before.0.state runs

      after_free : after.process.held ≡ false
      after_free = ap (λ (r : Record). r.process.held) (q.does.leads pressed storage) ∙ still_free k before ∙ free

      -- no other slot can have a turn then
      alone_then : IsAlone (world_of b) slot → IsAlone world_then slot
      alone_then alone other apart =
          ap (λ (rs : List Record). can_run (slice_get rs other)) records_then
          ∙ ap can_run (slice_get-set_other (world_of b).records slot other after apart) ∙ alone other apart

      -- the slot is let then, where the window lasts
      still_let : b.machine.moment.time + k < b.machine.calm → is_let (only_in world_then) slot ≡ true
      still_let below =
          ap (λ (only : Option ℕ). is_let only slot)
          (board.machine.calm.same (b.machine.moment.time + k) (omega arith) below) ∙ turn_is_let (world_of b) slot f

      -- the slot has the next turn then, where turns are left and the window lasts
      turns_on : StaysOn → 0 < k → first + k < last → b.machine.moment.time + k < b.machine.calm
          → next_slot (ready_slots world_then) present used b.present.slice ≡ Some slot
      turns_on law more u below = by_slice alone_or
        where
          by_slice : (last ≡ b.present.slice) ⊎ IsAlone (world_of b) slot
              → next_slot (ready_slots world_then) present used b.present.slice ≡ Some slot
          by_slice (inl is) =
              law.0 world_then slot after (some more).0 after_there after_runs after_free
              (omega (arith, in_slice is more, u, is)) (still_let below)
          by_slice (inr alone) =
              law.1 world_then slot after within after_there after_runs after_free (alone_then alone) (still_let below)

      -- so nobody else has it
      turn_stays : StaysOn → (n : ℕ) → n ≡ k → first + k < last → b.machine.moment.time + k < b.machine.calm
          → (other : ℕ) → next world_then ≡ Some (Run other) → slot ≡ other
      turn_stays law zero e u below other g =
          let there = none (sym e) in
          same_slot slot other (sym f ∙ ap next (sym (none_left (sym e) there.0 there.1)) ∙ g)
      turn_stays law (suc n) e u below other g =
          let stays = turns_on law (omega (arith, e)) u below in
          let is : ◌≡◌ {A = Option ℕ} (Some slot) (Some other) = sym stays ∙ chosen_slot world_then other g in
          cc

      -- and it is the next choice, where no turns were made, or no device step is ready
      stays_next : StaysOn → (n : ℕ) → n ≡ k → (0 < k → first + k < last)
          → (0 < k → b.machine.moment.time + k < b.machine.calm)
          → (0 < k → ready_devices world_then ≡ false ∷ false ∷ false ∷ false ∷ false ∷ false ∷ [])
          → Some (Run slot) ≡ next world_then
      stays_next law zero e u below calm =
          let there = none (sym e) in sym f ∙ ap next (sym (none_left (sym e) there.0 there.1))
      stays_next law (suc n) e u below calm =
          let more : 0 < k = omega (arith, e) in
          next_in_calm world_then (Some slot) (calm more) (sym (turns_on law more (u more) (below more)))

      pub next_stays : StaysOn → (ticks left : ℕ) → ticks ≡ k → k ≤ left → (left ≤ k → left ≡ 0)
          → first + left ≤ last → b.machine.moment.time + left ≤ b.machine.calm
          → (k < left → ready_devices (world_after_ticks ticks) ≡ false ∷ false ∷ false ∷ false ∷ false ∷ false ∷ [])
          → Some (Run slot) ≡ next (world_after_ticks ticks)
      next_stays law ticks left is made ends up_to in_calm calm =
          subst (λ (n : ℕ). Some (Run slot) ≡ next (world_after_ticks n)) (sym is)
          (stays_next law k refl (λ more. omega (arith, up_to, fewer more)) (λ more. omega (arith, in_calm, fewer more))
          (λ more. subst (λ (n : ℕ). ready_devices (world_after_ticks n)
          ≡ false ∷ false ∷ false ∷ false ∷ false ∷ false ∷ []) is (calm (fewer more))))
        where
          not_all : 0 < k → left ≤ k → ⊥
          not_all more h = omega (arith, more, made, ends h)

          fewer : 0 < k → k < left
          fewer more = omega (arith, not_all more)

      -- where the turns are fewer than were left, the stretch does not go on
      stops_there : StaysOn → first + most ≤ last → b.machine.moment.time + most ≤ b.machine.calm → k < most
          → GoesOn world_then → ⊥
      stops_there law up_to in_calm fewer g =
          let at : slot ≡ g.slot = turn_stays law k refl (omega (arith, up_to, fewer)) (omega (arith, in_calm, fewer))
          g.slot g.chosen in
          let same : Some after ≡ Some g.before = sym after_there ∙ ap (slice_get world_then.records) at ∙ g.is_there in
          let is : after ≡ g.before = cc in
          q.does.stops fewer pressed storage (ap (λ (r : Record). (instruction r).end) is ∙ g.goes)

      -- nor where none were left
      pub ends_shown : StaysOn → (ticks asked until : ℕ) → ticks ≡ k → k ≤ most → (most ≤ k → most ≡ 0)
          → first + most ≤ last → b.machine.moment.time + most ≤ b.machine.calm → first < last
          → b.machine.moment.time < until → 0 < asked
          → (most < asked → first + most < last → b.machine.moment.steps + most < STEP_LIMIT
          → b.machine.moment.time + most < until
          → ⊥)
          → GoesOn (world_after_ticks ticks) → ⊥
      ends_shown law ticks asked until is made ends up_to in_calm below ahead asks all g =
          let goes : GoesOn world_then = subst (λ (n : ℕ). GoesOn (world_after_ticks n)) is g in
          let not_fewer : k < most → ⊥ = λ h. stops_there law up_to in_calm h goes in
          let zero_left : most ≡ 0 = ends (omega (arith, not_fewer)) in
          let limit : b.machine.moment.steps + k < STEP_LIMIT = goes.limit in
          all (omega (arith, zero_left, asks)) (omega (arith, zero_left, below)) (omega (arith, zero_left, made, limit))
          (omega (arith, zero_left, ahead))

    kept : q.at.after.1 ≡ record q.at.before.1 { ram = q.at.after.1.ram }
    kept = kept_own k most end b.machine.home.flash q.at.before q.at.after q.does

    -- what always holds of a board holds after them
    pub still : StillHolds b k x.home processes
    still = record {
      seated = still_seated q.at b.machine.moment.steps k q.leaves.seated board.seated;
      lost = still_lost q.at b.machine.moment.steps k
          (omega (
            arith,
            ap (λ (o : Own). o.inbox.dropped) kept,
            lost_before q.at b.machine.moment.steps board.machine.lost,
          )) board.machine.lost;
      owns = owns_after q.at board.owns;
      few = omega (arith, as_many q.at, board.few);
      driven = rw q.at.own_is (subst (λ (o : Own). AreDriven b.machine.moment.settings (b.machine.moment.time + k)
          (slice_set b.machine.home.owns slot o) b.machine.drivers) (sym kept)
          (ram_driven b.machine.moment.settings b.machine.moment.time (b.machine.moment.time + k) slot
          b.machine.home.owns b.machine.drivers q.at.before.1 q.at.after.1.ram q.at.own_was (omega arith)
          board.machine.driven));
      calm = same_alarms_calm q.at same_alarm b.machine.moment.settings.start b.machine.moment.window
          (b.machine.moment.time + k) b.machine.calm b.machine.drivers
          (later_calm b.machine.moment.settings.start b.machine.moment.window b.machine.moment.time
          (b.machine.moment.time + k) b.machine.calm b.machine.home.owns b.machine.drivers (omega arith)
          board.machine.calm);
      alarms = λ law.
          same_alarms_tell q.at same_alarm (clock_at b.machine.moment.settings.start (b.machine.moment.time + k))
          (b.machine.moment.time + k) b.machine.alarms (all_later law b.machine.moment.settings.start
          b.machine.moment.time k b.machine.alarms b.machine.home.owns board.machine.alarms);
      ready = rw (residents_after q.at) (still_ready slot b.machine.ready (residents b) q.at.before q.at.after
          (resident_was q.at) turns_as_before board.ready);
    }
      where
        -- instructions leave grants and lives, so also the alarm
        same_alarm : HasSameAlarm q.at.before.1 q.at.after.1
        same_alarm = (ap alarm_in kept, ap (λ (o : Own). o.lives) kept)

        left : record_of b.machine.home.flash 0 (q.at.after, [])
            ≡ after_instructions k (record_of b.machine.home.flash 0 (q.at.before, []))
        left = q.does.leads 0 []

        turns_as_before : resident_turns q.at.after ≡ resident_turns q.at.before
        turns_as_before =
            ap (λ (r : Record). not r.process.held && has_turn r.process.state (due q.at.after.1.inbox)) left
            ∙ ap₂ (λ (held : Bool) (state : State). not held && has_turn state (due q.at.after.1.inbox))
            (still_free k (record_of b.machine.home.flash 0 (q.at.before, [])))
            (still_runs k (record_of b.machine.home.flash 0 (q.at.before, [])))
            ∙ ap (λ (o : Own). not q.at.before.0.held && has_turn q.at.before.0.state (due o.inbox)) kept

-- a stretch stops where it does not go on
pub stops_at : {w : World} → (GoesOn w → ⊥) → StopsAt w
stops_at never slot before limit chosen is_there runs goes = never (record {
  slot = slot;
  before = before;
  chosen = chosen;
  is_there = is_there;
  runs = runs;
  goes = goes;
  limit = limit;
})

-- what is used of a slice, after so many turns
pub used_within : (before slice first k used : ℕ) → before ≤ slice → 1 ≤ slice → (k ≡ 0 → used ≡ before)
    → (0 < k → used ≡ used_through slice first k) → used ≤ slice
used_within before slice first zero used h one none some = omega (arith, h, none refl)
used_within before slice first (suc k) used h one none some =
    omega (arith, mod-lt (first + suc k - 1) {m = slice} one, some (omega arith))

-- a slot whose process runs is one of the table's
pub runs_within : (processes : List Process) (slot : ℕ) → slot_runs (slice_get processes slot) ≡ true
    → slot < length processes
runs_within processes slot e = by_process (slice_get processes slot) refl e
  where
    by_process : (o : Option Process) → slice_get processes slot ≡ o → slot_runs o ≡ true → slot < length processes
    by_process None f h = cc
    by_process (Some p) f h = slice_get_within processes slot p f

-- a board that looked up to when no device step is ready
pub looked_ahead : (b : BoardState) (calm : ℕ) → IsBoard b
    → IsCalm b.machine.moment.settings.start b.machine.moment.window b.machine.moment.time calm b.machine.home.owns
    b.machine.drivers
    → IsBoard (record b { machine = record b.machine { calm = calm } })
looked_ahead b calm board is = record {
  machine = record {
    lost = board.machine.lost;
    guard = board.machine.guard;
    driven = board.machine.driven;
    lanes = board.machine.lanes;
    served = board.machine.served;
    steps = board.machine.steps;
    time = board.machine.time;
    calm = is;
    alarms = board.machine.alarms;
  };
  seated = board.seated;
  owns = board.owns;
  few = board.few;
  ready = board.ready;
  slice = board.slice;
  used = board.used;
}
