-- A board before its first step: its drivers are fresh, so nobody waits, and what it shows is the opening.
use Rattle.std.proofs.Common.{◌≡◌, ℕ, zero, suc, ◌+◌, ◌*◌, ◌≤◌, false, List, [], ◌∷◌, length, map, replicate, None}
use Rattle.std.proofs.Common.{slice_index_or, All, refl, sym, ap, ap₂, subst, ◌∙◌, arith}
use Rattle.std.specs.List.{filter_map, zip}
use Rattle.std.proofs.lemmas.List.{get_or-replicate, length-map, length-replicate}
use Rattle.arrayvec.specs.ArrayVec.{ArrayVec}
use Rattle.tk_base.specs.declared.limits.TheConstants.{BYTE_TICKS_LIMIT, SENDING_LIMIT, SLOT_COUNT}
use Rattle.tk_base.specs.declared.process.ProcessId.{ProcessId}
use Rattle.script_text.specs.Settings.{ScriptSettings as Script}
use Rattle.board_devices.specs.Buttons.{ButtonsView}
use Rattle.board_devices.specs.SerialLine.{SerialLine}
use Rattle.board_devices.specs.Storage.{StoredSlots}
use Rattle.process_model.specs.declared.place.Footprint.{Footprint}
use Rattle.process_model.specs.Own.{opened}
use Rattle.tk_base.specs.Bits.{bits_of}
use Rattle.driver_model.specs.Commands.{QueueName}
use Rattle.driver_model.specs.Lines.{IsWithin, has_waiting}
use Rattle.grant_enter.specs.Homes.{Homes, nobody}
use Rattle.kernel_model.specs.Record.{Record}
use Rattle.kernel_model.specs.World.{Devices, World, lane_count}
use Rattle.kernel_model.specs.declared.settings.Settings.{Settings}
use Rattle.board_drivers.specs.declared.drivers.Drivers.{Drivers}
use Rattle.board_opening.specs.Boot.{fresh_record}
use Rattle.board_drivers.specs.Driven.{AreDriven, AreFresh, HasLanes, IsQueueOf, devices_of, ids_waiting_in, slots_of}
use Rattle.board_drivers.specs.Driven.{waiting_by}
use Rattle.board_drivers.proofs.Routing.{devices_same, slots_by}
use Rattle.kernel_calls.specs.Residents.{Resident, record_of}
use Rattle.kernel_calls.proofs.Pairs.{length-firsts}
use Rattle.board_opening.specs.Settings.{is_partitioned, visible_settings}
use Rattle.board_opening.specs.Parts.{erased, pace}
use Rattle.process_record.specs.declared.process.Process.{Process}
use Rattle.process_record.specs.Summary.{Unplaced}
use Rattle.board_opening.specs.Opening.{opening, placed_applications, record_placed, unplaced_at}

-- what holds of one holds of as many of it as may be
pub all_same : {X : Type 0} (P : X → Type 0) (n : ℕ) (x : X) → P x → All P (replicate n x)
all_same P n x holds i d h =
    subst P (sym (get_or-replicate n i x d (omega (arith, h, length-replicate n x)))) holds

-- the serial line of a lane before the first step
abbrev first_line : Script → SerialLine
first_line script = record { ring = []; ticks = script.uart; free = 0 }

leds_off : (n : ℕ) → bits_of (replicate n false) ≡ 0
leds_off zero = refl
leds_off (suc n) = ap (λ (others : ℕ). 0 + 2 * others) (leds_off n)

module _ (script : Script) (d : Drivers) where
  -- the devices that they show
  pub devices_fresh : AreFresh script d
      → devices_of d ≡ record {
        waiting = waiting_by (λ queue. []);
        leds = 0;
        lines = replicate (lane_count script.partition) (record { ring = []; ticks = script.uart; free = 0 });
        arrivals = script.events;
        words = replicate (lane_count script.partition) script.words;
        served = replicate (lane_count script.partition) 0;
        faults = script.faults;
      }
  devices_fresh fresh =
      devices_same (devices_of d) (record {
        waiting = waiting_by (λ queue. []);
        leds = 0;
        lines = replicate (lane_count script.partition) (record { ring = []; ticks = script.uart; free = 0 });
        arrivals = script.events;
        words = replicate (lane_count script.partition) script.words;
        served = replicate (lane_count script.partition) 0;
        faults = script.faults;
      })
      (λ queue. slots_by (λ (q : QueueName). slots_of (ids_waiting_in d q)) queue ∙ ap slots_of (fresh.queues queue)
      ∙ sym (slots_by (λ q. []) queue))
      (ap bits_of fresh.leds ∙ leds_off script.leds)
      fresh.lines
      fresh.arrivals
      fresh.words
      (ap (λ (s : StoredSlots). s.served) fresh.stores)
      (ap (λ (s : StoredSlots). s.faults) fresh.stores)

  records_beside : (flash : List ℕ) (rs : List Resident) (n : ℕ) → length rs ≤ n
      → map (record_of flash 0) (zip rs (replicate n (erased script.storage)))
      ≡ map (fresh_record script.storage flash) rs
  records_beside flash [] n h = refl
  records_beside flash (r ∷ rs) zero h = absurd (omega (arith, h))
  records_beside flash (r ∷ rs) (suc n) h =
      ap (λ (xs : List Record). fresh_record script.storage flash r ∷ xs) (records_beside flash rs n (omega (arith, h)))

  -- the records of no more processes than slots with their storage
  pub records_fresh : (flash : List ℕ) (rs : List Resident) → length rs ≤ SLOT_COUNT → AreFresh script d
      → map (record_of flash d.buttons.pressed) (zip rs d.stores.slots) ≡ map (fresh_record script.storage flash) rs
  records_fresh flash rs few fresh =
      ap (λ (b : ButtonsView). map (record_of flash b.pressed) (zip rs d.stores.slots)) fresh.buttons
      ∙ ap (λ (s : StoredSlots). map (record_of flash 0) (zip rs s.slots)) fresh.stores
      ∙ records_beside flash rs SLOT_COUNT few

  -- there are as many lanes as are to be
  pub lanes_first : AreFresh script d → HasLanes script.partition d
  lanes_first fresh = record {
    lines = ap length fresh.lines ∙ length-replicate (lane_count script.partition) (first_line script);
    words = ap length fresh.words ∙ length-replicate (lane_count script.partition) script.words;
    served = ap (λ (s : StoredSlots). length s.served) fresh.stores ∙ length-replicate (lane_count script.partition) 0;
  }

  -- a process that was not started yet waits for nothing
  none_waiting : (queue : QueueName) (fs : List Footprint) (slot : ℕ)
      → has_waiting queue (slice_index_or (map opened fs) slot nobody) ≡ false
  none_waiting queue [] slot = refl
  none_waiting queue (f ∷ fs) zero = refl
  none_waiting queue (f ∷ fs) (suc slot) = none_waiting queue fs slot

  empty_line : (queue : QueueName) (fs : List Footprint) → IsQueueOf queue [] (map opened fs)
  empty_line queue fs = record { there = tt; each = λ slot h. sym (none_waiting queue fs slot) }

  all_within : (size : ℕ) (fs : List Footprint) → All (IsWithin size) (map opened fs)
  all_within size [] k o h = absurd (omega arith)
  all_within size (f ∷ fs) zero o h = tt
  all_within size (f ∷ fs) (suc k) o h = all_within size fs k o (omega arith)

  -- they are those of a board
  pub driven_first : (fs : List Footprint) → script.uart ≤ BYTE_TICKS_LIMIT → AreFresh script d
      → AreDriven (visible_settings script) 0 (map opened fs) d
  driven_first fs slow fresh = record {
    queues = λ queue. subst (λ (ids : List ProcessId). IsQueueOf queue ids (map opened fs)) (sym (fresh.queues queue))
        (empty_line queue fs);
    within = all_within script.storage fs;
    leds = ap length fresh.leds ∙ length-replicate script.leds false;
    buttons = ap (λ (b : ButtonsView). b.count) fresh.buttons;
    size = ap (λ (s : StoredSlots). s.size) fresh.stores;
    slots = ap (λ (s : StoredSlots). length s.slots) fresh.stores;
    ticks = subst (All (λ line. line.ticks ≤ BYTE_TICKS_LIMIT)) (sym fresh.lines)
        (all_same (λ line. line.ticks ≤ BYTE_TICKS_LIMIT) (lane_count script.partition) (first_line script) slow);
    free = subst (All (λ line. line.free ≤ 0 + SENDING_LIMIT)) (sym fresh.lines)
        (all_same (λ line. line.free ≤ 0 + SENDING_LIMIT) (lane_count script.partition) (first_line script)
        (omega arith));
  }

-- the world of a board before its first step
module _ (script : Script) (flash : List ℕ) where
  abbrev world_with : List Record → List Unplaced → Settings → Devices → World
  world_with records unplaced visible devices =
      record {
        records = records;
        unplaced = unplaced;
        settings = visible;
        pace = pace script;
        devices =
            devices;
        clock = record { time = 0; steps = 0 };
        present = record { slot = None; used = 0 };
      }

  pub opening_shown : (home : Homes) (footprints : List Footprint) (processes : List Process)
      (unplaced : ArrayVec Unplaced) (visible : Settings) (d : Drivers)
      → home ≡ record { flash = flash; owns = map opened footprints } → length processes ≡ length footprints
      → length processes ≤ SLOT_COUNT
      → map (fresh_record script.storage flash) (zip processes (map opened footprints))
      ≡ filter_map (record_placed script.storage flash) (placed_applications (is_partitioned script) script.ram flash)
      → unplaced.items ≡ filter_map unplaced_at (placed_applications (is_partitioned script) script.ram flash)
      → visible ≡ visible_settings script
      → AreFresh script d
      → world_with (map (record_of home.flash d.buttons.pressed) (zip (zip processes home.owns) d.stores.slots))
      unplaced.items visible (devices_of d) ≡ opening script flash
  unfolding opening
  opening_shown home footprints processes unplaced visible d h count few e u v fresh =
      let owns = map opened footprints in
      let residents : length (zip processes owns) ≤ SLOT_COUNT =
      omega (arith, few, length-firsts processes owns (length-map footprints opened ∙ sym count)) in
      let records : map (record_of home.flash d.buttons.pressed) (zip (zip processes home.owns) d.stores.slots)
      ≡ filter_map (record_placed script.storage flash) (placed_applications (is_partitioned script) script.ram flash) =
      ap (λ (x : Homes). map (record_of x.flash d.buttons.pressed) (zip (zip processes x.owns) d.stores.slots)) h
      ∙ records_fresh script d flash (zip processes owns) residents fresh ∙ e in
      ap₂ (λ (rs : List Record) (us : List Unplaced). world_with rs us visible (devices_of d)) records u
      ∙ ap₂ (λ (s : Settings) (ds : Devices). world_with
      (filter_map (record_placed script.storage flash) (placed_applications (is_partitioned script) script.ram flash))
      (filter_map unplaced_at (placed_applications (is_partitioned script) script.ram
      flash)) s ds) v (devices_fresh script d fresh)
