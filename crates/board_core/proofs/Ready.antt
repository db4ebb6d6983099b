-- Which device steps of a board are ready, when the next one becomes so, and that a Pass leads up to it. Each of the
-- six tests of the world is that of the board's own devices, since they have the same owns and lines; where it is calm
-- all six are false. After ticks alone all that holds of a board holds still.
use Rattle.kernel_calls.specs.Residents.{HasLost, IsResident}
use Rattle.tk_base.specs.declared.limits.TheConstants.{STEP_LIMIT}
use Rattle.alarm_capsule.proofs.KeptTimes.{all_later}
use Rattle.driver_model.specs.Laws.{TimeBringsNearer}
use Rattle.std.proofs.Common.{◌≡◌, ℕ, ◌+◌, Bool, true, false, cond, List, [], ◌∷◌, map, Ok, Some, IsTrue, refl, sym, ap}
use Rattle.std.proofs.Common.{Option, ◌<◌, ◌^◌, ◌∙◌, arith}
use Rattle.process_model.specs.Own.{Own}
use Rattle.tk_base.specs.declared.process.Choice.{Choice}
use Rattle.tk_base.specs.declared.process.Choice.TheVariants.{Pass}
use Rattle.process_record.specs.Emit.{nothing}
use Rattle.process_record.specs.declared.emit.Emit.{Emit}
use Rattle.kernel_model.specs.Shown.{shown_by}
use Rattle.kernel_model.specs.World.{Stepped, World, carried_out, is_ready, now_in, owns_in, stepped, unmade}
use Rattle.kernel_model.specs.World.{work_at}
use Rattle.kernel_model.specs.Parts.{work_of}
use Rattle.kernel_model.specs.Run.{ready_devices}
use Rattle.tk_base.specs.declared.process.Dev.{Dev}
use Rattle.tk_base.specs.declared.process.Dev.TheVariants as dev
use Rattle.turn_scheduler.specs.RoundRobin.{device_order, device_place}
use Rattle.turn_scheduler.specs.Parts.{place_is_ready}
use Rattle.board_core.specs.declared.state.BoardState.{BoardState}
use Rattle.kernel_laws.specs.Windows.{due_time}
use Rattle.std.specs.Option.{option_map}
use Rattle.board_devices.specs.Clock.{clock_at}
use Rattle.driver_model.specs.Alarm.{left_for}
use Rattle.board_drivers.specs.Calm.{IsCalmAt, due_time_for, work_of_served, work_then}
use Rattle.board_drivers.proofs.Calm.{later_calm}
use Rattle.board_drivers.proofs.Lanes.{few_still, later_free}
use Rattle.board_turns.proofs.Turns.{rests_seated}
use Rattle.std.proofs.lemmas.List.Elements.{All-weaker}
use Rattle.board_drivers.specs.declared.drivers.Drivers.{Drivers}
use Rattle.board_drivers.specs.declared.moment.Moment.{Moment}
use Rattle.board_drivers.specs.declared.served.Served.{Served}
use Rattle.board_core.specs.Makes.{MakesStep, ready_in, showing}
use Rattle.board_core.specs.Shows.{IsBoard, residents, world_of}
use Rattle.board_core.proofs.Boards.{owns_in_world}

six : {event alarm uart receive random store e a u v r s : Bool} → event ≡ e → alarm ≡ a → uart ≡ u → receive ≡ v
    → random ≡ r → store ≡ s → event ∷ alarm ∷ uart ∷ receive ∷ random ∷ store ∷ [] ≡ e ∷ a ∷ u ∷ v ∷ r ∷ s ∷ []
six f g h i j k = cc

-- where it is calm no device step is ready
pub calm_ready : (m : Moment) (owns : List Own) (d : Drivers) → IsCalmAt m.settings.start m.window m.time owns d
    → ready_in m owns d ≡ false ∷ false ∷ false ∷ false ∷ false ∷ false ∷ []
calm_ready m owns d calm =
    six (calm dev.Event) (calm dev.Alarm) (calm dev.Uart) (calm dev.Receive) (calm dev.Random) (calm dev.Store)

-- whether a device step is ready, by the table of those that are
pub ready_at : (ready : Dev → Bool) (device : Dev)
    → ready device ≡ place_is_ready (map ready device_order) (device_place device)
ready_at ready dev.Event = refl
ready_at ready device = refl

module _ {b : BoardState} (board : IsBoard b) where
  -- what there is to do for the devices, for those who are served
  pub work_shown : (served : Served) → work_of_served b.machine.moment served b.machine.home.owns b.machine.drivers
      ≡ work_at served.only b.machine.moment.time (now_in (world_of b)) (owns_in (world_of b)) (world_of b).devices
  work_shown served =
      ap (λ (owns : List Own). work_of_served b.machine.moment served owns b.machine.drivers)
      (sym (owns_in_world board))

  -- when the alarm of the process in a slot becomes due
  pub due_shown : (slot : ℕ) → due_time_for b.machine.moment (record { only = Some slot }) b.machine.home.owns
      ≡ due_time (world_of b) slot
  due_shown slot =
      ap (due_time_for b.machine.moment (record { only = Some slot })) (sym (owns_in_world board))

  -- the same by the ticks that are left
  pub due_by : (slot tick : ℕ) (left : Option ℕ)
      → tick ≡ clock_at b.machine.moment.settings.start b.machine.moment.time
      → left ≡ left_for (Some slot) tick b.machine.home.owns
      → option_map (λ n. b.machine.moment.time + n) left ≡ due_time (world_of b) slot
  due_by slot tick left shows is =
      ap (option_map (λ n. b.machine.moment.time + n))
      (is ∙ ap (λ (now : ℕ). left_for (Some slot) now b.machine.home.owns) shows)
      ∙ due_shown slot

  -- and for those who are served then
  pub next_shown : (work_then b.machine.moment b.machine.home.owns b.machine.drivers).next ≡ (work_of (world_of b)).next
  next_shown =
      ap (λ (owns : List Own). (work_then b.machine.moment owns b.machine.drivers).next) (sym (owns_in_world board))

  -- which device steps are ready
  pub devices_shown : ready_in b.machine.moment b.machine.home.owns b.machine.drivers ≡ ready_devices (world_of b)
  devices_shown = ap (λ (owns : List Own). ready_in b.machine.moment owns b.machine.drivers) (sym (owns_in_world board))

  -- as long as it is calm no device step is ready
  pub calm_shown : IsCalmAt b.machine.moment.settings.start b.machine.moment.window b.machine.moment.time
      b.machine.home.owns b.machine.drivers
      → ready_devices (world_of b) ≡ false ∷ false ∷ false ∷ false ∷ false ∷ false ∷ []
  calm_shown calm = sym devices_shown ∙ calm_ready b.machine.moment b.machine.home.owns b.machine.drivers calm

-- a choice that is ready is made
pub is_carried_out : (w : World) (choice : Choice) → IsTrue (is_ready w choice)
    → stepped w choice ≡ carried_out w choice
unfolding stepped
is_carried_out w choice ready = by_ready (is_ready w choice) ready
  where
    by_ready : (b : Bool) → IsTrue b → cond b (carried_out w choice) (unmade w) ≡ carried_out w choice
    by_ready true h = refl
    by_ready false h = absurd (cc)

-- what always holds of a board holds after so many ticks
pub passed_board : TimeBringsNearer → (b : BoardState) (n : ℕ) → n < 2 ^ 32 → b.machine.moment.steps < STEP_LIMIT
    → IsBoard b → IsBoard (record b {
      machine = record b.machine {
        moment = record b.machine.moment { time = b.machine.moment.time + n; steps = b.machine.moment.steps + 1 };
      };
    })
passed_board law b n small below h =
    let time = b.machine.moment.time in
    let start = b.machine.moment.settings.start in
    record {
      machine = record {
        lost = All-weaker (HasLost b.machine.moment.steps) (HasLost (b.machine.moment.steps + 1))
            (λ o l. omega (arith, l)) b.machine.home.owns h.machine.lost;
        guard = h.machine.guard;
        driven = record {
          queues = h.machine.driven.queues;
          within = h.machine.driven.within;
          leds = h.machine.driven.leds;
          buttons = h.machine.driven.buttons;
          size = h.machine.driven.size;
          slots = h.machine.driven.slots;
          ticks = h.machine.driven.ticks;
          free = later_free time (time + n) b.machine.drivers (omega arith) h.machine.driven.free;
        };
        lanes = h.machine.lanes;
        served = few_still b.machine.moment.steps (b.machine.moment.steps + 1) b.machine.drivers.stores.served
            (omega arith) h.machine.served;
        steps = omega (arith, below);
        time = omega (arith, h.machine.time, small);
        calm = later_calm start b.machine.moment.window time (time + n) b.machine.calm b.machine.home.owns
            b.machine.drivers (omega arith) h.machine.calm;
        alarms = all_later law start time n b.machine.alarms b.machine.home.owns h.machine.alarms;
      };
      seated = All-weaker (IsResident b.machine.home.flash b.machine.moment.steps)
          (IsResident b.machine.home.flash (b.machine.moment.steps + 1))
          (rests_seated b.machine.home.flash b.machine.moment.steps) (residents b) h.seated;
      owns = h.owns;
      few = h.few;
      ready = h.ready;
      slice = h.slice;
      used = h.used;
    }

-- the world after so many ticks
pub passes : (b : BoardState) (w : World) (ticks n : ℕ) (before after_it : Emit) → world_of b ≡ w → n ≡ ticks
    → IsTrue (is_ready w (Pass ticks)) → after_it ≡ nothing
    → MakesStep (Pass ticks) (showing w before) (showing (world_of
    (record b {
      machine = record b.machine {
        moment = record b.machine.moment { time = b.machine.moment.time + n; steps = b.machine.moment.steps + 1 };
      };
    })) after_it)
    (Ok tt)
unfolding carried_out shown_by
passes b w ticks n before after_it view is ready hidden =
    let steps = is_carried_out w (Pass ticks) ready in
    record {
      ready = (λ e. ready, λ h. refl);
      ok =
          ap (λ (k : ℕ). world_of (record b {
            machine = record b.machine {
              moment = record b.machine.moment { time = b.machine.moment.time + k; steps = b.machine.moment.steps + 1 };
            };
          })) is
          ∙ ap (λ (x : World). (carried_out x (Pass ticks)).after) view ∙ sym (ap (λ (s : Stepped). s.after) steps);
      shown = hidden ∙ sym (ap (λ (s : Stepped). shown_by s.labels) steps);
      refused = tt;
    }
