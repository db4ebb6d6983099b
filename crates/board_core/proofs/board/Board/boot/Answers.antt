-- The opening board. What `first_crew` and the placing promised of the applications gives what `Home::new` asks, and
-- the invariant field by field: nobody waits, no alarm is armed, no registers are set. That its world is the opening
-- one is `opening_shown`; that each first record stands for itself is then a law of that world.
use Rattle.std.proofs.Common.{◌≡◌, ◌≤◌, List, [], ◌∷◌, ℕ, zero, suc, None, Some, All, ap, length, map, sym, subst, ◌∙◌}
use Rattle.std.proofs.Common.{◌==◌, ◌*◌, ◌^◌, ap₂, arith, not}
use Rattle.std.specs.Prelude.{unwrap_or}
use Rattle.std.specs.List.{AllPairs, filter_map, count_by, zip}
use Rattle.std.specs.Prelude.{vec_len}
use Rattle.std.proofs.lemmas.List.{length-map}
use Rattle.tk_base.specs.declared.limits.TheConstants.{BYTE_TICKS_LIMIT, SLOT_COUNT, STEP_LIMIT}
use Rattle.process_model.specs.declared.place.Footprint.{Footprint}
use Rattle.process_layout.specs.Ordered.{IsOrdered}
use Rattle.process_model.specs.Own.{opened}
use Rattle.app_placement.specs.declared.placed.Placed.{Placed}
use Rattle.board_devices.specs.Storage.{StoredSlots}
use Rattle.app_placement.specs.Placement.{is_placed, LiesInFlash}
use Rattle.grant_enter.specs.Homes.{Homes, CanMoveIn, EndsBefore}
use Rattle.process_seat.specs.Places.{FitsMemory}
use Rattle.script_text.specs.Settings.{ScriptSettings as Script}
use Rattle.kernel_model.specs.declared.settings.Settings.{Settings}
use Rattle.board_drivers.specs.Driven.{AreDriven, AreFreeSoon, AreFresh, HasLanes, devices_of}
use Rattle.board_opening.specs.Settings.{visible_settings}
use Rattle.board_opening.specs.Boot.{IsFirst, fresh_record, layout_at}
use Rattle.board_opening.specs.Opening.{opening, record_placed}
use Rattle.board_opening.specs.Opening.{placed_applications, unplaced_at}
use Rattle.kernel_calls.specs.Residents.{HasLost, IsResident, record_of}
use Rattle.board_opening.specs.Alone.{OpensAlone}
use Rattle.board_opening.proofs.Alone.{openings_are_alone}
use Rattle.board_opening.proofs.Crews.{all_apart, all_move_in, all_ordered, all_settled, all_stand_apart, few_processes}
use Rattle.board_core.proofs.Fresh.{all_same, driven_first, lanes_first, opening_shown}
use Rattle.kernel_model.specs.World.{World, lane_count}
use Rattle.board_core.proofs.Boards.{first_tell}
use Rattle.board_turns.specs.ReadySlots.{NoneBeyond, TurnsTell}
use Rattle.board_turns.proofs.TurnsKept.{none_first}
use Rattle.process_record.specs.declared.process.Process.{Process}
use Rattle.board_core.specs.Shows.{IsBoard, world_of}
use Rattle.board_turns.specs.declared.machine.Machine.{Machine}
use Rattle.board_turns.specs.Machines.{IsCalmUntil, KeepsAlarms}
use Rattle.board_core.proofs.board.Board.boot.Goals as goal
use Rattle.board_core.proofs.board.Board.boot.Goals.{After-deref-4}

-- the layouts are those of the applications that are placed
layouts : (c : After-deref-4)
    → map (λ (f : Footprint). f.layout) c.deref-4.result.now ≡ filter_map layout_at c.placed_in-placed.result.items
layouts c = ap (map (λ (f : Footprint). f.layout)) c.deref-4.ensures.value ∙ c.in_ok-processes.ensures.layouts
    ∙ ap (filter_map layout_at) c.deref-3.ensures.0

-- each begins its first life
first : (c : After-deref-4) → All (IsFirst (length c.args.flash.items)) c.deref-4.result.now
first c = subst (All (IsFirst (length c.args.flash.items))) (sym c.deref-4.ensures.value)
    (subst (λ (f : List ℕ). All (IsFirst (length f)) c.in_ok-processes.field-0.footprints.items) c.deref-2.ensures.value
    c.in_ok-processes.ensures.first)

-- there are no more processes than slots
no_more_than_slots : (c : After-deref-4) → length c.in_ok-processes.field-0.processes.items ≤ SLOT_COUNT
no_more_than_slots c =
    let crew = c.in_ok-processes.ensures in
    let es = c.in_ok-processes.field-0.footprints.items in
    let few : count_by is_placed c.deref-3.result.now ≤ SLOT_COUNT =
    subst (λ (xs : List Placed). count_by is_placed xs ≤ SLOT_COUNT) (sym c.deref-3.ensures.0)
    c.placed_in-placed.ensures.few in
    few_processes 0 c.deref-2.result.now c.deref-3.result.now c.in_ok-processes.field-0.processes.items (map opened es)
    (length-map es opened ∙ sym crew.count) (crew.shown 0) few

pub new-requires-clause-settled : goal.new-requires-clause-settled
new-requires-clause-settled c =
    let a = (goal.at.new-requires-clause-settled c).After-deref-4 in
    let flash = c.args.flash.items in
    let ram = c.script.inside.ram in
    let placed = c.placed_in-placed.result.items in
    let n : vec_len c.args.flash ≡ length flash = omega (arith, c.args.flash.ok.0) in
    let in_flash : All (LiesInFlash flash) placed =
    subst (λ (f : List ℕ). All (LiesInFlash f) placed) c.deref.ensures.value c.placed_in-placed.ensures.flash in
    let ordered : All IsOrdered (filter_map layout_at placed) =
    subst (All IsOrdered) (layouts a) (all_ordered (length flash) c.deref-4.result.now (first a)) in
    let settled = all_settled flash ram placed (omega arith) in_flash c.placed_in-placed.ensures.ram ordered in
    subst (λ (k : ℕ). All (CanMoveIn k ram) c.deref-4.result.now) (sym n)
    (all_move_in (length flash) ram c.deref-4.result.now
    (subst (All (FitsMemory (length flash) ram)) (sym (layouts a)) settled) (first a))

pub new-requires-clause-apart : goal.new-requires-clause-apart
new-requires-clause-apart c =
    let a = (goal.at.new-requires-clause-apart c).After-deref-4 in
    all_stand_apart c.deref-4.result.now
    (subst (AllPairs EndsBefore) (sym (layouts a))
    (all_apart c.placed_in-placed.result.items c.placed_in-placed.ensures.apart))

pub look_ahead-requires-clause-alarms : goal.look_ahead-requires-clause-alarms
look_ahead-requires-clause-alarms c =
    let es = c.in_ok-processes.field-0.footprints.items in
    let home_is : c.in-Ok.home ≡ record { flash = c.deref-2.result.now; owns = map opened es }
    = c.in-Ok.ensures
    ∙ ap (λ (xs : List Footprint). record { flash = c.args.flash.items; owns = map opened xs })
    c.deref-4.ensures.value
    ∙ ap (λ (f : List ℕ). record { flash = f; owns = map opened es }) (sym c.deref-2.ensures.value) in
    subst KeepsAlarms (sym c.look_at_all.ensures.rest)
    (first_tell c.settings_of.result.start c.new-alarms.result c.in-Ok.home es (ap (λ (h : Homes). h.owns) home_is)
    c.new-alarms.ensures)

pub look_ahead-requires-clause-time : goal.look_ahead-requires-clause-time
look_ahead-requires-clause-time c =
    subst (λ (m : Machine). m.moment.time ≤ STEP_LIMIT * 2 ^ 32) (sym c.look_at_all.ensures.rest) (omega arith)

pub look_ahead-requires-clause-free : goal.look_ahead-requires-clause-free
look_ahead-requires-clause-free c =
    let es = c.in_ok-processes.field-0.footprints.items in
    let slow = subst (λ (s : Script). s.uart ≤ BYTE_TICKS_LIMIT) c.script.view_is c.script.invariant.uart in
    subst (λ (m : Machine). AreFreeSoon m.moment.time m.drivers) (sym c.look_at_all.ensures.rest)
    (driven_first c.args.script c.in_ok-drivers.drivers es slow c.in_ok-drivers.ensures).free

pub look_at_all-requires-clause-owns : goal.look_at_all-requires-clause-owns
look_at_all-requires-clause-owns c =
    let es = c.in_ok-processes.field-0.footprints.items in
    ap (λ (h : Homes). length h.owns) c.in-Ok.ensures
    ∙ ap (λ (fs : List Footprint). length (map opened fs)) c.deref-4.ensures.value
    ∙ length-map es opened ∙ sym c.in_ok-processes.ensures.count ∙ ap length (sym c.deref-5.ensures.value)

pub look_at_all-requires-clause-few : goal.look_at_all-requires-clause-few
look_at_all-requires-clause-few c =
    subst (λ (ps : List Process). length ps ≤ SLOT_COUNT) (sym c.deref-5.ensures.value)
    (no_more_than_slots (goal.at.look_at_all-requires-clause-few c).After-deref-4)

pub look_at_all-requires-clause-beyond : goal.look_at_all-requires-clause-beyond
look_at_all-requires-clause-beyond c =
    subst (NoneBeyond (length c.deref-5.result.now)) (sym c.new-ready.ensures)
    (none_first SLOT_COUNT (length c.deref-5.result.now))

pub invariant_of-result : goal.invariant_of-result
invariant_of-result c =
    let crew = c.in_ok-processes.ensures in
    let processes = c.in_ok-processes.field-0.processes.items in
    let es = c.in_ok-processes.field-0.footprints.items in
    let home_is : c.in-Ok.home ≡ record { flash = c.deref-2.result.now; owns = map opened es }
    = c.in-Ok.ensures
    ∙ ap (λ (xs : List Footprint). record { flash = c.args.flash.items; owns = map opened xs })
    c.deref-4.ensures.value
    ∙ ap (λ (f : List ℕ). record { flash = f; owns = map opened es }) (sym c.deref-2.ensures.value) in
    let owns : length (map opened es) ≡ length processes = length-map es opened ∙ sym crew.count in
    let drivers = c.in_ok-drivers.drivers in
    let slow = subst (λ (s : Script). s.uart ≤ BYTE_TICKS_LIMIT) c.script.view_is c.script.invariant.uart in
    let driven : AreDriven c.settings_of.result 0 c.in-Ok.home.owns drivers =
    subst (λ (h : Homes). AreDriven c.settings_of.result 0 h.owns drivers) (sym home_is)
    (subst (λ (s : Settings). AreDriven s 0 (map opened es) drivers) (sym c.settings_of.ensures)
    (driven_first c.args.script drivers es slow c.in_ok-drivers.ensures)) in
    subst (λ (m : Machine). IsBoard (record {
      machine = record m { calm = c.look_ahead.result };
      processes = c.in_ok-processes.field-0.processes;
      unplaced = c.unplaced.result;
      present = record { slot = None; used = 0; slice = c.script.inside.slice };
    })) (sym c.look_at_all.ensures.rest) (record {
      machine = record {
        lost = subst (λ (h : Homes). All (HasLost 0) h.owns) (sym home_is) (none_lost es);
        guard = record { protects = λ slot is. absurd (nobody_set slot (sym c.new-3.ensures ∙ is)) };
        driven = driven;
        lanes = subst (λ (n : ℕ). HasLanes n drivers) (sym c.unwrap_or-window.ensures)
            (subst (λ (s : Script). HasLanes s.partition drivers) (sym c.script.view_is)
            (lanes_first c.args.script drivers c.in_ok-drivers.ensures));
        served = subst (λ (s : StoredSlots). All (λ count. count ≤ 0) s.served) (sym c.in_ok-drivers.ensures.stores)
            (all_same (λ count. count ≤ 0) (lane_count c.args.script.partition) 0 (omega arith));
        steps = omega arith;
        time = omega arith;
        calm = subst (λ (m : Machine). IsCalmUntil m c.look_ahead.result) c.look_at_all.ensures.rest
            c.look_ahead.ensures.calm;
        alarms = first_tell c.settings_of.result.start c.new-alarms.result c.in-Ok.home es
            (ap (λ (h : Homes). h.owns) home_is) c.new-alarms.ensures;
      };
      seated = subst (λ (h : Homes). All (IsResident h.flash 0) (zip processes h.owns)) (sym home_is) crew.seated;
      owns = ap (λ (h : Homes). length h.owns) home_is ∙ owns;
      few = no_more_than_slots (goal.at.invariant_of-result c).After-deref-4;
      ready = subst (λ (ps : List Process). TurnsTell c.look_at_all.new.self.ready (zip ps c.in-Ok.home.owns))
          c.deref-5.ensures.value c.look_at_all.ensures.tell;
      slice = c.script.invariant.slice_least;
      used = omega arith;
    })
  where
    none_lost : (fs : List Footprint) → All (HasLost 0) (map opened fs)
    none_lost [] k d h = absurd (omega arith)
    none_lost (f ∷ fs) zero d h = omega arith
    none_lost (f ∷ fs) (suc k) d h = none_lost fs k d (omega arith)

    nobody_set : (slot : ℕ) → None ≡ Some slot → ⊥
    nobody_set slot e = cc

pub returns-clause-world : goal.returns-clause-world
returns-clause-world c =
    let crew = c.in_ok-processes.ensures in
    let flash = c.args.flash.items in
    let ram = c.script.inside.ram in
    let processes = c.in_ok-processes.field-0.processes.items in
    let es = c.in_ok-processes.field-0.footprints.items in
    let script = c.script.inside in
    let drivers = c.in_ok-drivers.drivers in
    let window = unwrap_or script.partition 0 in
    let placed : c.placed_in-placed.result.items ≡ placed_applications (not (window == 0)) ram flash =
    c.placed_in-placed.ensures.places
    ∙ ap₂ (λ (n : ℕ) (f : List ℕ). placed_applications (not (n == 0)) ram f) c.unwrap_or-window.ensures
    c.deref.ensures.value in
    let in_windows : ℕ → World =
    λ n. record {
      records = map (record_of c.in-Ok.home.flash drivers.buttons.pressed)
          (zip (zip processes c.in-Ok.home.owns) drivers.stores.slots);
      unplaced = c.unplaced.result.items;
      settings = c.settings_of.result;
      pace = record { slice = script.slice; window = n };
      devices = devices_of drivers;
      clock = record { time = 0; steps = 0 };
      present = record { slot = None; used = 0 };
    } in
    let said : Script =
    record {
      ram = script.ram;
      leds = script.leds;
      buttons = script.buttons;
      slice = script.slice;
      start = script.start;
      uart =
          script.uart;
      storage = script.storage;
      partition = window;
      policy = script.policy;
      strict = script.strict;
      faults = script.faults.items;
      words =
          script.words;
      events = script.events;
    } in
    let residents = zip processes (map opened es) in
    let shown = subst (λ (f : List ℕ). map (fresh_record script.storage f) residents
    ≡ filter_map (record_placed script.storage f) c.deref-3.result.now) c.deref-2.ensures.value
    (crew.shown script.storage) in
    ap (λ (m : Machine). world_of (record {
      machine = record m { calm = c.look_ahead.result };
      processes = c.in_ok-processes.field-0.processes;
      unplaced = c.unplaced.result;
      present = record { slot = None; used = 0; slice = script.slice };
    })) c.look_at_all.ensures.rest
    ∙ ap in_windows c.unwrap_or-window.ensures
    ∙ opening_shown said flash c.in-Ok.home es processes c.unplaced.result c.settings_of.result c.in_ok-drivers.drivers
    (c.in-Ok.ensures
    ∙ ap (λ (xs : List Footprint). record { flash = flash; owns = map opened xs }) c.deref-4.ensures.value)
    crew.count
    (no_more_than_slots (goal.at.returns-clause-world c).After-deref-4)
    (shown ∙ ap (filter_map (record_placed script.storage flash)) (c.deref-3.ensures.0 ∙ placed))
    (c.unplaced.ensures ∙ ap (filter_map unplaced_at) (c.deref-6.ensures.0 ∙ placed))
    (c.settings_of.ensures
    ∙ ap visible_settings (sym c.script.view_is))
    (subst (λ (s : Script). AreFresh s c.in_ok-drivers.drivers) (sym c.script.view_is) c.in_ok-drivers.ensures)
    ∙ ap (λ (s : _). opening s flash) c.script.view_is

pub returns-clause-alone : goal.returns-clause-alone
returns-clause-alone c = subst OpensAlone (sym (returns-clause-world c)) (openings_are_alone _ _)
