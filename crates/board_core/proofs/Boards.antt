-- What the world that a board shows has, read of the board's tables: each process's own and storage, which slots can
-- have a turn, the summary, the next choice. Each record of that world is made of a resident (a process beside its own)
-- at the same place, so what is read of all records is read of all residents; flags of slots go by induction on the
-- table.
use Rattle.std.proofs.Common.{◌≡◌, ℕ, zero, suc, ◌+◌, ◌-◌, ◌^◌, ◌<◌, ◌≤◌, Bool, true, false, List, [], ◌∷◌, ◌++◌}
use Rattle.std.proofs.Common.{length, map, take, slice_get, slice_index_or, slice_set, nat_lt, ◌&&◌, ◌==◌}
use Rattle.std.proofs.Common.{if◌then◌else◌, Option, None, Some, IfSome}
use Rattle.std.proofs.Common.{replicate, IsTrue, refl, sym, ap, ap₂, subst, ◌∙◌, add-one, arith}
use Rattle.std.specs.List.{zip}
use Rattle.std.specs.Option.{option_map, option_or}
use Rattle.std.proofs.lemmas.Bool.Decides.{nat_tests}
use Rattle.std.proofs.Math.Seq.{take-suc}
use Rattle.std.proofs.lemmas.List.{length-map, map-append, take_all}
use Rattle.std.proofs.lemmas.Option.{slice_get-map, slice_get-get_or, slice_get_within, get_or_from_slice_get}
use Rattle.arrayvec.specs.ArrayVec.{ArrayVec}
use Rattle.tk_base.specs.declared.limits.TheConstants.{SLOT_COUNT, STEP_LIMIT}
use Rattle.tk_base.specs.declared.process.Choice.TheVariants.{Run, Device, Pass}
use Rattle.tk_base.specs.declared.process.Choice.{Choice}
use Rattle.tk_base.specs.declared.upcall.Wait.{Wait}
use Rattle.turn_scheduler.specs.Situation.{Situation}
use Rattle.turn_scheduler.specs.RoundRobin.{LiesAhead, choice, ready_device}
use Rattle.turn_scheduler.specs.Parts.{place_is_ready}
use Rattle.turn_scheduler.specs.Parts.{slot_in}
use Rattle.process_model.specs.Changes.{IsWhole}
use Rattle.process_model.specs.Handed.{HoldsInPlace}
use Rattle.process_model.specs.declared.place.Footprint.{Footprint}
use Rattle.process_model.specs.Own.{Own, opened}
use Rattle.board_devices.specs.Clock.{clock_at}
use Rattle.alarm_capsule.specs.Times.{AllTell}
use Rattle.alarm_capsule.proofs.KeptTimes.{fresh_tell}
use Rattle.process_record.specs.Name.{name_of}
use Rattle.process_model.specs.Flash.{object_in}
use Rattle.process_record.specs.declared.process.Process.{Process}
use Rattle.process_record.specs.declared.summary.SlotLine.{SlotLine}
use Rattle.process_record.specs.declared.summary.Summary.{Summary}
use Rattle.process_record.specs.Summary.{Unplaced}
use Rattle.tk_base.specs.Bits.{bits_of}
use Rattle.grant_enter.specs.Homes.{Homes, IsInPlace, nobody, own_of}
use Rattle.kernel_model.specs.Record.{Record, slot_line_of}
use Rattle.kernel_model.specs.Turn.{may_turn}
use Rattle.kernel_model.specs.World.{World, is_let, is_ready, may_be_made, only_in}
use Rattle.kernel_model.specs.Parts.{work_of}
use Rattle.kernel_model.specs.Named.{can_run}
use Rattle.kernel_model.specs.Causes.{AreWhole}
use Rattle.kernel_model.specs.Laws.{NextIsReady, NextLiesAhead}
use Rattle.kernel_model.specs.Run.{is_left, may_go, next, next_time, passes_to, ready_devices, ready_slots}
use Rattle.kernel_model.specs.Run.{situation_of}
use Rattle.driver_model.specs.Alarm.{nearer}
use Rattle.board_drivers.specs.declared.drivers.Drivers.{Drivers}
use Rattle.board_drivers.specs.Calm.{end_at, only_of}
use Rattle.kernel_model.specs.Shown.{summary_of}
use Rattle.board_core.specs.declared.state.BoardState.{BoardState}
use Rattle.kernel_calls.specs.Residents.{Resident, resident, resident_turns, can_turn_in, resident_line}
use Rattle.board_core.specs.Shows.{IsBoard, recorded, world_of, residents}
use Rattle.board_drivers.proofs.Records.{beside_get, reads_shown, owns_shown, seated_there}
use Rattle.kernel_calls.proofs.Pairs.{get_or-zip, length-firsts}
use Rattle.board_turns.specs.Turning.{HasProcess, MayTurn}

-- whether a slot is ready, by the table of those that are
pub resident_at : (residents : List Resident) (slot : ℕ)
    → can_turn_in (slice_get residents slot) ≡ place_is_ready (map resident_turns residents) slot
resident_at [] slot = refl
resident_at (r ∷ rs) zero = refl
resident_at (r ∷ rs) (suc slot) = resident_at rs slot

none_flagged : (flags : List Bool) (slot : ℕ) → slice_index_or (map (λ (flag : Bool). false) flags) slot false ≡ false
none_flagged [] slot = refl
none_flagged (flag ∷ flags) zero = refl
none_flagged (flag ∷ flags) (suc slot) = none_flagged flags slot

pub and_false : (b : Bool) → (b && false) ≡ false
and_false true = refl
and_false false = refl

test_next : (s t : ℕ) → (s == t) ≡ (suc s == suc t)
test_next s t = by_test (s == t) refl
  where
    by_test : (b : Bool) → (s == t) ≡ b → b ≡ (suc s == suc t)
    by_test true e = grind (arith, nat_tests)
    by_test false e = grind (arith, nat_tests)

never_zero : (s : ℕ) → false ≡ (suc s == zero)
never_zero s = grind (arith, nat_tests)

zero_never : (s : ℕ) → false ≡ (zero == suc s)
zero_never s = grind (arith, nat_tests)

one_goes_at : (flags : List Bool) (only slot : ℕ)
    → slice_index_or (slice_set (map (λ (flag : Bool). false) flags) only (slice_index_or flags only false)) slot false
    ≡ ((slot == only) && slice_index_or flags slot false)
one_goes_at [] only slot = sym (and_false (slot == only))
one_goes_at (flag ∷ flags) zero zero = refl
one_goes_at (flag ∷ flags) zero (suc slot) =
    none_flagged flags slot ∙ ap (λ (b : Bool). b && slice_index_or flags slot false) (never_zero slot)
one_goes_at (flag ∷ flags) (suc only) zero = ap (λ (b : Bool). b && flag) (zero_never only)
one_goes_at (flag ∷ flags) (suc only) (suc slot) =
    one_goes_at flags only slot ∙ ap (λ (b : Bool). b && slice_index_or flags slot false) (test_next slot only)

-- a slot may go where it is let, and its flag is set
goes_at : (only : Option ℕ) (flags : List Bool) (slot : ℕ)
    → slice_index_or (may_go only flags) slot false ≡ (is_let only slot && slice_index_or flags slot false)
goes_at None flags slot = refl
goes_at (Some only) flags slot = one_goes_at flags only slot

both : (b c : Bool) → (b && c) ≡ true → (b ≡ true) × (c ≡ true)
both true c e = (refl, e)
both false c e = cc

module _ {b : BoardState} (board : IsBoard b) where
  -- each process has storage
  pub has_storage : length (residents b) ≤ length b.machine.drivers.stores.slots
  has_storage = omega (
    arith,
    board.few,
    board.machine.driven.slots,
    length-firsts b.processes.items b.machine.home.owns board.owns,
  )

  -- the own of each process is the one in the home
  pub owns_in_world : map (λ (r : Record). r.own) (world_of b).records ≡ b.machine.home.owns
  owns_in_world =
      owns_shown b.machine.home.flash b.machine.drivers.buttons.pressed b.processes.items b.machine.home.owns
      b.machine.drivers.stores.slots board.owns has_storage

  pub own_read : (slot : ℕ)
      → slice_get b.machine.home.owns slot ≡ option_map (λ (r : Record). r.own) (slice_get (world_of b).records slot)
  own_read slot =
      ap (λ (owns : List Own). slice_get owns slot) (sym owns_in_world)
      ∙ slice_get-map (λ (r : Record). r.own) (world_of b).records slot

  -- what holds of each own in the home holds of that of each process
  pub shown_of_each : (P : Own → Type 0)
      → ((slot : ℕ) → slot < length b.machine.home.owns → P (own_of b.machine.home slot))
      → (slot : ℕ) → IfSome (slice_get (world_of b).records slot) (λ (r : Record). P r.own)
  shown_of_each P holds slot = by_record (slice_get (world_of b).records slot) refl
    where
      by_record : (o : Option Record) → slice_get (world_of b).records slot ≡ o → IfSome o (λ (r : Record). P r.own)
      by_record None is = tt
      by_record (Some r) is =
          let there : slice_get b.machine.home.owns slot ≡ Some r.own =
          own_read slot ∙ ap (option_map (λ (x : Record). x.own)) is in
          subst P (get_or_from_slice_get b.machine.home.owns slot r.own nobody there)
          (holds slot (slice_get_within b.machine.home.owns slot r.own there))

  -- what is the own of each process is whole, as it is in the home
  pub shown_whole : ((slot : ℕ) → slot < length b.machine.home.owns → HoldsInPlace (own_of b.machine.home slot))
      → ((slot : ℕ) → slot < length b.machine.home.owns → IsInPlace (own_of b.machine.home slot))
      → AreWhole (world_of b)
  shown_whole holds lies slot r is =
      rw is at (shown_of_each IsWhole (λ slot h. record { bytes = (lies slot h).ram; buffers = holds slot h }) slot)

  -- which slots can have a turn, whosever window it is
  pub turns_shown : map may_turn (world_of b).records ≡ map resident_turns (residents b)
  turns_shown =
      reads_shown may_turn resident_turns b.machine.home.flash b.machine.drivers.buttons.pressed (residents b)
      b.machine.drivers.stores.slots has_storage (λ p. refl)

  -- of as many as there are processes
  pub turns_long : length (map may_turn (world_of b).records) ≡ length b.processes.items
  turns_long = ap length turns_shown ∙ length-map (residents b) resident_turns
      ∙ length-firsts b.processes.items b.machine.home.owns board.owns

  -- whether a slot is ready
  pub slot_shown : (slot : ℕ) → place_is_ready (ready_slots (world_of b)) slot
      ≡ (is_let (only_of b.machine.moment) slot && can_turn_in (slice_get (residents b) slot))
  slot_shown slot =
      goes_at (only_in (world_of b)) (map may_turn (world_of b).records) slot
      ∙ ap (λ (flag : Bool). is_let (only_in (world_of b)) slot && flag)
      (ap (λ (table : List Bool). place_is_ready table slot) turns_shown ∙ sym (resident_at (residents b) slot))

  -- its summary
  pub summary_shown : (lines : ArrayVec SlotLine) (unplaced : ArrayVec Unplaced) (leds : ℕ)
      → lines.items ≡ map (resident_line b.machine.home.flash) (residents b) → unplaced.items ≡ b.unplaced.items
      → leds ≡ bits_of b.machine.drivers.leds
      → ◌≡◌ {A = Summary} (record {
        slots = lines;
        unplaced = unplaced;
        leds = leds;
        led_count = b.machine.moment.settings.leds;
        steps = b.machine.moment.steps;
        time = b.machine.moment.time;
      }) (summary_of (world_of b))
  unfolding summary_of
  summary_shown lines unplaced leds e f lit =
      let s = summary_of (world_of b) in
      ap (λ (xs : List SlotLine). record s { slots = record { items = xs }; unplaced = unplaced; leds = leds })
      (e ∙ sym (reads_shown slot_line_of (resident_line b.machine.home.flash) b.machine.home.flash
      b.machine.drivers.buttons.pressed (residents b) b.machine.drivers.stores.slots has_storage (λ p. refl)))
      ∙ ap₂ (λ (xs : List Unplaced) (bits : ℕ). record s { unplaced = record { items = xs }; leds = bits }) f lit

  -- whether the process in a slot can have a turn, by the residents
  pub run_shown : (slot : ℕ)
      → can_run (slice_get (world_of b).records slot) ≡ can_turn_in (slice_get (residents b) slot)
  run_shown slot =
      let slots = b.machine.drivers.stores.slots in
      ap can_run (slice_get-map (recorded b) (zip (residents b) slots) slot
      ∙ ap (option_map (recorded b)) (beside_get (residents b) slots slot has_storage))
      ∙ of_resident (slice_index_or slots slot []) (slice_get (residents b) slot)
    where
      of_resident : (storage : List ℕ) (o : Option Resident)
          → can_run (option_map (recorded b) (option_map (λ (r : Resident). (r, storage)) o)) ≡ can_turn_in o
      of_resident storage None = refl
      of_resident storage (Some r) = refl

  -- whether a slot can run, by the residents
  pub ready_shown : (slot : ℕ) → is_ready (world_of b) (Run slot)
      ≡ (nat_lt b.machine.moment.steps STEP_LIMIT && can_turn_in (slice_get (residents b) slot))
  unfolding may_be_made
  ready_shown slot = ap (λ (c : Bool). nat_lt b.machine.moment.steps STEP_LIMIT && c) (run_shown slot)

  -- below the limit of steps the process decides
  pub below_limit : (slot : ℕ) → b.machine.moment.steps < STEP_LIMIT
      → can_turn_in (slice_get (residents b) slot) ≡ is_ready (world_of b) (Run slot)
  below_limit slot h = sym (ready_shown slot ∙ under (can_turn_in (slice_get (residents b) slot)))
    where
      under : (c : Bool) → (nat_lt b.machine.moment.steps STEP_LIMIT && c) ≡ c
      under c = grind (arith, nat_tests)

  -- a slot that is ready is one of the table's
  pub ready_within : (slot : ℕ) → is_ready (world_of b) (Run slot) ≡ true
      → (b.machine.moment.steps < STEP_LIMIT) × (slot < length b.processes.items)
  ready_within slot e =
      let t = both (nat_lt b.machine.moment.steps STEP_LIMIT) (can_turn_in (slice_get (residents b) slot))
      (sym (ready_shown slot) ∙ e) in
      let within : slot < length (residents b) = resident (slice_get (residents b) slot) refl t.1 in
      (below t.0, omega (arith, within, length-firsts b.processes.items b.machine.home.owns board.owns))
    where
      below : nat_lt b.machine.moment.steps STEP_LIMIT ≡ true → b.machine.moment.steps < STEP_LIMIT
      below h = grind (arith, nat_tests)

      resident : (o : Option Resident) → slice_get (residents b) slot ≡ o → can_turn_in o ≡ true
          → slot < length (residents b)
      resident None f h = cc
      resident (Some s) f h = slice_get_within (residents b) slot s f

  -- turns of a slot of a board's tables may be made while steps are left, whatever the drivers are
  pub may_turn_on : (turns : ℕ) (d : Drivers) (slot : ℕ) → slot < length b.processes.items
      → b.machine.moment.steps + turns ≤ STEP_LIMIT
      → HasProcess slot b.machine.home b.processes.items (MayTurn turns slot (record b.machine { drivers = d }))
  may_turn_on turns d slot within limit = record {
    within = within;
    owns = board.owns;
    holds = λ process is. record {
      slot = within_owns;
      seated = seated_there b.machine.home.flash b.machine.moment.steps b.processes.items b.machine.home.owns slot
          (resident b.machine.home slot process) is (slice_get-get_or b.machine.home.owns slot nobody within_owns)
          board.seated;
      limit = limit;
      guard = board.machine.guard;
    };
  }
    where
      within_owns : slot < length b.machine.home.owns
      within_owns = omega (arith, within, board.owns)

-- up to when time passes, without time partitions and with them
pub no_window : (w : World) (n : ℕ) → end_at w.clock.time n ≡ None → passes_to w n ≡ (work_of w).next
no_window w zero e = refl
no_window w (suc n) e = cc

pub in_window : (w : World) (n end : ℕ) → end_at w.clock.time n ≡ Some end
    → passes_to w n ≡ (if is_left w then nearer (work_of w).next (Some end) else None)
in_window w zero end e = cc
in_window w (suc n) end e = ap (λ (o : Option ℕ). if is_left w then nearer (work_of w).next o else None) e

-- the status of the world that a board shows
pub status_shown : (b : BoardState) (ready devices : List Bool) (nearest : Option ℕ)
    → ready ≡ ready_slots (world_of b) → devices ≡ ready_devices (world_of b) → nearest ≡ next_time (world_of b)
    → ◌≡◌ {A = Situation} (record (situation_of (world_of b)) { ready = ready; devices = devices; next = nearest })
    (situation_of (world_of b))
status_shown b ready devices nearest e f g = rw (e, f, g)

-- the line that was made of a slot
pub line_is : (home : Homes) (ps : List Process) (p : Process) (slot known : ℕ) (flash name : List ℕ) (wait : Wait)
    (dropped : ℕ) → p ≡ slice_index_or ps slot p → name ≡ name_of (object_in flash p.object) → flash ≡ home.flash
    → known ≡ slot → wait ≡ (own_of home known).inbox.wait → dropped ≡ (own_of home known).inbox.dropped
    → record {
      name = record { items = name };
      state = p.state;
      held = p.held;
      wait = wait;
      denial = p.denial;
      turns = p.turns;
      restarts = p.restarts;
      dropped = dropped;
    }
    ≡ resident_line home.flash (slice_index_or ps slot p, slice_index_or home.owns slot nobody)
line_is home ps p slot known flash name wait dropped at named here is waits count =
    rw (← at, named, here, waits, count, is)

-- one more that is read of each resident
pub lines_more : {X : Type 0} (f : Resident → X) (ps : List Process) (owns : List Own) (i : ℕ) (d : Process) (line : X)
    (lines more : List X) → length owns ≡ length ps → i < length ps
    → line ≡ f (slice_index_or ps i d, slice_index_or owns i nobody) → lines ≡ map f (take i (zip ps owns))
    → more ≡ lines ++ line ∷ [] → more ≡ map f (take (i + 1) (zip ps owns))
lines_more f ps owns i d line lines more n h is so pushed =
    let zs = zip ps owns in
    let p = slice_index_or ps i d in
    let read : p ≡ slice_index_or ps i p = sym (get_or_from_slice_get ps i p p (slice_get-get_or ps i d h)) in
    let at : slice_index_or zs i (p, nobody) ≡ (p, slice_index_or owns i nobody) =
    get_or-zip ps owns i p nobody n ∙ ap (λ (x : Process). (x, slice_index_or owns i nobody)) (sym read) in
    let longer : take (i + 1) zs ≡ take i zs ++ slice_index_or zs i (p, nobody) ∷ [] =
    ap (λ (k : ℕ). take k zs) (add-one i) ∙ take-suc zs i (p, nobody) (omega (arith, h, length-firsts ps owns n)) in
    pushed ∙ ap (λ xs. xs ++ line ∷ []) so ∙ ap (λ x. map f (take i zs) ++ x ∷ []) (is ∙ sym (ap f at))
    ∙ sym (map-append f (take i zs) (slice_index_or zs i (p, nobody) ∷ [])) ∙ sym (ap (map f) longer)

-- all of them
pub lines_all : {X : Type 0} (f : Resident → X) (ps : List Process) (owns : List Own) (i : ℕ) (lines : List X)
    → length owns ≡ length ps → length ps ≤ i → lines ≡ map f (take i (zip ps owns)) → lines ≡ map f (zip ps owns)
lines_all f ps owns i lines n h so =
    so ∙ ap (map f) (take_all i (zip ps owns) (omega (arith, h, length-firsts ps owns n)))

-- where it is calm there is no device step that is ready first
pub none_in_calm : (w : World) → ready_devices w ≡ false ∷ false ∷ false ∷ false ∷ false ∷ false ∷ []
    → ready_device (ready_devices w) ≡ None
unfolding ready_device
none_in_calm w calm = ap ready_device calm

-- where no device step is ready, the slot that has the next turn is the next choice
pub next_in_calm : (w : World) (o : Option ℕ)
    → ready_devices w ≡ false ∷ false ∷ false ∷ false ∷ false ∷ false ∷ []
    → o ≡ slot_in (situation_of w) → IfSome o (λ slot. Some (Run slot) ≡ next w)
unfolding next choice ready_device
next_in_calm w None calm is = tt
next_in_calm w (Some slot) calm is =
    let passes : Option Choice = option_map (λ at. Pass (at - w.clock.time)) (next_time w) in
    sym (ap (λ (ds : List Bool). option_or (option_map Device (ready_device ds))
    (option_or (option_map Run (slot_in (situation_of w))) passes)) calm
    ∙ ap (λ (q : Option ℕ). option_or (option_map Run q) passes) (sym is))

-- and that choice may be made
pub next_may : (w : World) (o : Option Choice) → NextIsReady → o ≡ next w
    → IfSome o (λ choice. w.clock.steps < STEP_LIMIT → IsTrue (is_ready w choice))
next_may w None law e = tt
next_may w (Some choice) law e = law w choice (sym e)

-- the nearest time at which a device step becomes ready lies ahead, and a Pass leads to it
pub next_ahead : (w : World) (o : Option ℕ) → o ≡ next_time w → IfSome o (λ at. at - w.clock.time < 2 ^ 32)
    → NextLiesAhead → ready_device (ready_devices w) ≡ None → IfSome o (LiesAhead w.clock.time)
next_ahead w None is near law none = tt
next_ahead w (Some at) is near law none =
    let later : w.clock.time < at =
    subst (λ (o : Option ℕ). IfSome o (λ n. w.clock.time < n)) (sym is) (law w none) in
    (later, near)

-- no process has an alarm armed before the first step, and none is kept
pub first_tell : (start : ℕ) (times : List (Option ℕ)) (home : Homes) (es : List Footprint)
    → home.owns ≡ map opened es → times ≡ replicate SLOT_COUNT None → AllTell (clock_at start 0) 0 times home.owns
first_tell start times home es owns none =
    rw (none, owns) (fresh_tell (clock_at start 0) 0 (map opened es) (ungranted es))
  where
    ungranted : (es : List Footprint) (slot : ℕ) (own : Own) → slice_get (map opened es) slot ≡ Some own
        → own.grants ≡ []
    ungranted [] slot own is = cc
    ungranted (e ∷ es) zero own is = cc
    ungranted (e ∷ es) (suc slot) own is = ungranted es slot own is
