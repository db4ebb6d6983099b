-- The parts of a board that a device works on, and the world that it makes of them. Only proofs use this.
use Rattle.std.specs.Prelude.{◌≡◌, ◌≤◌, ◌*◌, ◌^◌, List, length, map, All}
use Rattle.std.specs.List.{zip}
use Rattle.tk_base.specs.declared.limits.TheConstants.{SLOT_COUNT, STEP_LIMIT}
use Rattle.process_record.specs.declared.process.Process.{Process}
use Rattle.grant_enter.specs.Homes.{Homes}
use Rattle.kernel_model.specs.World.{World}
use Rattle.board_drivers.specs.declared.drivers.Drivers.{Drivers}
use Rattle.board_drivers.specs.declared.moment.Moment.{Moment}
use Rattle.board_drivers.specs.Driven.{AreDriven, HasLanes, devices_of}
use Rattle.kernel_calls.specs.Residents.{HasLost, IsResident, record_of}

-- the processes with their memory, the drivers, the moment, and a world that has the rest
pub record BoardParts : Type 0 where
  pub processes : List Process
  pub home : Homes
  pub drivers : Drivers
  pub moment : Moment
  pub rest : World

-- the world that they make
abbrev pub world_shown : BoardParts → World
world_shown p = record p.rest {
  records = map (record_of p.home.flash p.drivers.buttons.pressed)
      (zip (zip p.processes p.home.owns) p.drivers.stores.slots);
  settings = p.moment.settings;
  pace = record p.rest.pace { window = p.moment.window };
  devices = devices_of p.drivers;
  clock = record { time = p.moment.time; steps = p.moment.steps };
}

-- what holds of the parts of each board
pub record AreBoardParts (p : BoardParts) : Type 0 where
  pub seated : All (IsResident p.home.flash p.moment.steps) (zip p.processes p.home.owns)
  pub lost : All (HasLost p.moment.steps) p.home.owns
  pub owns : length p.home.owns ≡ length p.processes
  pub few : length p.processes ≤ SLOT_COUNT
  pub driven : AreDriven p.moment.settings p.moment.time p.home.owns p.drivers
  pub lanes : HasLanes p.moment.window p.drivers
  pub served : All (λ count. count ≤ p.moment.steps) p.drivers.stores.served
  pub steps : p.moment.steps ≤ STEP_LIMIT
  pub time : p.moment.time ≤ p.moment.steps * 2 ^ 32
