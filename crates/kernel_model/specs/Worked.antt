-- A small board for worked cases: in each slot a process that stands at an `ecall`, and asks for an operation of memop,
-- or subscribes an upcall (TRD 104, "Memop", "Subscribe").
use Rattle.std.specs.Prelude.{ℕ, ◌+◌, false, List, [], ◌∷◌, length, None}
use Rattle.tk_base.specs.declared.access.TheConstants.{FLASH_START, RAM_START}
use Rattle.tk_base.specs.Regs.{Registers}
use Rattle.tk_base.specs.Regs.{with_register}
use Rattle.fault_policy.specs.declared.Policy.TheVariants.{Stop}
use Rattle.process_record.specs.declared.process.State.TheVariants.{Running}
use Rattle.process_record.specs.Parts.{cleared}
use Rattle.tk_base.specs.declared.kinds.PairKind.TheVariants.{Upcall}
use Rattle.process_model.specs.Own.{opened}
use Rattle.kernel_model.specs.Record.{Record}
use Rattle.kernel_model.specs.declared.settings.Settings.{Settings}
use Rattle.kernel_model.specs.Turn.{Turned, turned}
use Rattle.kernel_model.specs.World.{World}
use Rattle.kernel_model.specs.Histories.{PairKey}

-- a process at the start of its object, which has these bytes, with registers and a block of so many bytes, of which it
-- may access 8
abbrev pub standing : List ℕ → ℕ → Registers → Record
standing object block regs = record {
  process = record {
    regs = regs;
    object = record { address = FLASH_START; size = length object };
    state = Running;
    held = false;
    restarts = 0;
    turns = 0;
    denial = None;
    refusal = None;
  };
  object = object;
  own = opened (record {
    object = record { address = FLASH_START; size = length object };
    layout = record {
      flash_start = FLASH_START;
      flash_end = FLASH_START + length object;
      start = RAM_START;
      end = RAM_START + block;
      brk = RAM_START + 8;
      kernel_break = RAM_START + block;
      mark = RAM_START;
    };
  });
  storage = [];
  pressed = 0;
}

-- the process that asks for an operation with an argument, before its first turn: its object is the `ecall`
abbrev pub asks : ℕ → ℕ → Record
asks operation argument =
    let regs = with_register (with_register (cleared FLASH_START) 14 5) 10 operation in
    standing (0x73 ∷ 0 ∷ 0 ∷ 0 ∷ []) 16 (with_register regs 11 argument)

-- A process that subscribes upcall 0 of the alarm twice, to the null upcall: with 7 and then with 9 as its data. Its
-- object has an `ecall`, an `addi` for each of a0 to a3, and an `ecall`.
abbrev pub subscribes : Record
subscribes =
    let object =
    0x73 ∷ 0 ∷ 0 ∷ 0 ∷ 0x13 ∷ 0x05 ∷ 0 ∷ 0 ∷ 0x93 ∷ 0x05 ∷ 0 ∷ 0
    ∷ 0x13 ∷ 0x06 ∷ 0 ∷ 0 ∷ 0x93 ∷ 0x06 ∷ 0x90 ∷ 0 ∷ 0x73 ∷ 0 ∷ 0 ∷ 0 ∷ [] in
    standing object 64 (with_register (with_register (cleared FLASH_START) 14 1) 13 7)

abbrev pub worked_settings : Settings
worked_settings = record { leds = 0; buttons = 0; start = 0; storage = 0; policy = Stop; strict = false }

-- the key of its upcall
abbrev pub alarm_upcall : PairKey
alarm_upcall = record { kind = Upcall; driver = 0; number = 0 }

-- its first turn
abbrev pub turn_of : Record → Turned
turn_of r = turned worked_settings 0 r

-- the world of such processes before the first step, with slices of so many turns
abbrev pub board : ℕ → List Record → World
board slice records = record {
  records = records;
  unplaced = [];
  settings = worked_settings;
  pace = record { slice = slice; window = 0 };
  devices = record {
    waiting = record { writes = []; reads = []; randoms = []; stores = [] };
    leds = 0;
    lines = record { ring = []; ticks = 1; free = 0 } ∷ [];
    arrivals = [];
    words = [] ∷ [];
    served = 0 ∷ [];
    faults = [];
  };
  clock = record { time = 0; steps = 0 };
  present = record { slot = None; used = 0 };
}
