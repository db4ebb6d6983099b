-- What comes in, as a step of the board: bytes, an edge of a button, or an operator's act that means nobody.
use Rattle.std.proofs.Common.{◌≡◌, Bool, ◌<◌, ℕ, true, List, [], ◌∷◌, map, Option, None, Some, refl, sym, ap, subst}
use Rattle.std.specs.Option.{option_and_then, option_map}
use Rattle.std.specs.List.{zip}
use Rattle.tk_base.specs.declared.limits.TheConstants.{STEP_LIMIT}
use Rattle.tk_base.specs.declared.process.Choice.TheVariants.{Device}
use Rattle.tk_base.specs.declared.process.Dev.TheVariants as dev
use Rattle.board_memory.specs.Registers.{Protect}
use Rattle.tk_base.specs.declared.process.Verb.{Verb}
use Rattle.script_text.specs.Settings.{Act, EventKind, ScriptEvent}
use Rattle.board_devices.specs.Arriving.{act_of, first_act, is_time}
use Rattle.process_model.specs.Own.{Own}
use Rattle.process_record.specs.Emit.{nothing}
use Rattle.driver_model.specs.Answers.{LinesFollowAnswers}
use Rattle.grant_enter.specs.Homes.{Homes}
use Rattle.kernel_model.specs.Shown.{shown_by}
use Rattle.kernel_model.specs.Record.{Record}
use Rattle.kernel_model.specs.World.{carried_out}
use Rattle.kernel_model.specs.Parts.{slot_of_name}
use Rattle.kernel_model.specs.Laws.{DevicesAnswerOne}
use Rattle.board_core.specs.declared.state.BoardState.{BoardState}
use Rattle.board_drivers.specs.declared.drivers.Drivers.{Drivers}
use Rattle.board_drivers.specs.Calm.{IsCalm}
use Rattle.board_drivers.specs.Driven.{devices_of}
use Rattle.board_drivers.specs.Parts.{AreBoardParts}
use Rattle.kernel_calls.specs.Residents.{record_of}
use Rattle.board_drivers.specs.Tells.{Arrives}
use Rattle.board_drivers.proofs.Edges as parts
use Rattle.board_turns.specs.Guards.{GuardsOnly}
use Rattle.board_core.specs.Makes.{act_meant}
use Rattle.board_core.specs.PartsOf.{board_parts}
use Rattle.board_core.specs.Shows.{IsBoard, world_of}
use Rattle.board_core.proofs.Changes.{a_step_later, with_step}
use Rattle.board_core.proofs.PartsOf.{are_parts}
use Rattle.board_turns.specs.ReadySlots.{TurnsTell}

-- where no act is meant for a process that is there, what comes in first is none, or means nobody
pub means_nobody : (arrivals : List ScriptEvent) (rs : List Record)
    → option_and_then {U = ℕ × Verb} (λ (act : Verb × List ℕ).
    option_map {U = ℕ × Verb} (λ (slot : ℕ). (slot, act.0)) (slot_of_name act.1 rs))
    (first_act arrivals) ≡ None
    → parts.FirstMeansNobody arrivals rs
means_nobody [] rs none = tt
means_nobody (event ∷ rest) rs none = by_kind event.kind none
  where
    by_slot : (verb : Verb) (name : List ℕ) (o : Option ℕ) → slot_of_name name rs ≡ o
        → option_map {U = ℕ × Verb} (λ (slot : ℕ). (slot, verb)) o ≡ None → slot_of_name name rs ≡ None
    by_slot verb name None is none = is
    by_slot verb name (Some slot) is none = absurd (cc)

    by_kind : (kind : EventKind)
        → option_and_then {U = ℕ × Verb} (λ (act : Verb × List ℕ).
        option_map {U = ℕ × Verb} (λ (slot : ℕ). (slot, act.0)) (slot_of_name act.1 rs))
        (act_of kind) ≡ None
        → parts.MeansNobody kind rs
    by_kind (Act verb name) none = by_slot verb name (slot_of_name name rs) refl none
    by_kind kind none = tt

module _ (b : BoardState) {home : Homes} {d : Drivers} (came : Arrives b.machine.home b.machine.drivers home d) where
  -- the world after it
  pub world_arrived : is_time b.machine.moment.time b.machine.drivers.arrivals ≡ true
      → act_meant (world_of b) ≡ None → DevicesAnswerOne
      → with_step b
      (map (record_of home.flash d.buttons.pressed) (zip (zip b.processes.items home.owns) d.stores.slots))
      (devices_of d) (a_step_later b.machine.moment) b.present.slot b.present.used
      ≡ (carried_out (world_of b) (Device dev.Event)).after
  unfolding carried_out
  world_arrived may none law =
      sym (parts.world_arrived (board_parts b) law home d came may
      (means_nobody b.machine.drivers.arrivals (world_of b).records none))

  -- nothing is shown
  pub arrived_shown : is_time b.machine.moment.time b.machine.drivers.arrivals ≡ true
      → act_meant (world_of b) ≡ None → DevicesAnswerOne
      → nothing ≡ shown_by (carried_out (world_of b) (Device dev.Event)).labels
  unfolding carried_out
  arrived_shown may none law =
      sym (parts.arrived_shown (board_parts b) law may
      (means_nobody b.machine.drivers.arrivals (world_of b).records none))

  module _ (lines : LinesFollowAnswers) (h : IsBoard b) (below : b.machine.moment.steps < STEP_LIMIT) where
    -- what holds of the board's parts then
    pub parts_then : AreBoardParts (parts.parts_with (board_parts b) home d)
    parts_then = parts.arrived_parts (board_parts b) lines (are_parts b h) below home d came

    -- each slot's layout stays, so whom the registers protect they protect still
    guards_then : GuardsOnly b.machine.guard home
    guards_then = record {
      protects = λ slot is. subst (Protect b.machine.guard.pmp)
          (sym (ap (λ (o : Own). o.layout) (parts.arrived_remains (board_parts b) lines home d came slot)))
          (h.machine.guard.protects slot is);
    }

    -- what always holds of a board holds then
    pub arrived_board : (calm : ℕ) (ready : List Bool) → TurnsTell ready (zip b.processes.items home.owns)
        → IsCalm b.machine.moment.settings.start b.machine.moment.window b.machine.moment.time calm home.owns d
        → IsBoard (record b {
          machine = record b.machine {
            home = home;
            drivers = d;
            moment = a_step_later b.machine.moment;
            calm = calm;
            ready = ready;
          };
        })
    arrived_board calm ready turns quiet = record {
      machine = record {
        lost = parts_then.lost;
        guard = guards_then;
        driven = parts_then.driven;
        lanes = parts_then.lanes;
        served = parts_then.served;
        steps = parts_then.steps;
        time = parts_then.time;
        calm = quiet;
        alarms = parts.arrived_alarms (board_parts b) lines home d came b.machine.alarms h.machine.alarms;
      };
      seated = parts_then.seated;
      owns = parts_then.owns;
      few = parts_then.few;
      ready = turns;
      slice = h.slice;
      used = h.used;
    }
