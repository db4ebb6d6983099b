-- What executing an instruction that is known leaves, by its place: places are of parcels, from an address on. Only
-- proofs use this.
use Rattle.std.specs.Prelude.{◌≡◌, ℕ, ◌+◌, ◌*◌, ◌/◌, ◌%◌, ◌<◌, ◌≤◌, ◌^◌, List, Option, None, Some, IsTrue}
use Rattle.tk_base.specs.declared.access.Access.{Access}
use Rattle.tk_base.specs.declared.access.Width.{Width}
use Rattle.tk_base.specs.declared.access.Rule.{Rule}
use Rattle.tk_base.specs.Regs.{Registers}
use Rattle.rv32_model.specs.declared.instr.Instr.{Instr}
use Rattle.rv32_model.specs.declared.turn_end.TurnEnd.TheVariants.{Went, Call}
use Rattle.rv32_model.specs.UserTurn.{UserTurn, executed, user_turn, w32_of}
use Rattle.rv32_entries.specs.Entries.{HopsByParcels, goes_straight}
use Rattle.rv32_step.specs.declared.near.Near.{Near}
use Rattle.rv32_step.specs.declared.near.Served.{Served}
use Rattle.rv32_step.specs.declared.near.Served.TheVariants as served
use Rattle.rv32_step.specs.Executed.{LeavesTurn, at_pc}

-- the address of a place, which is even
abbrev pub address_of : ℕ → ℕ → ℕ
address_of start place = w32_of (start + 2 * place)

-- an instruction, if it is one, hops by whole parcels
abbrev pub HopsEvenly : Option Instr → Type 0
HopsEvenly None = Unit
HopsEvenly (Some instr) = HopsByParcels instr

-- an instruction of one parcel or two stands at one of so many places
pub record StandsAtPlace (start count place length : ℕ) (instr : Option Instr) : Type 0 where
  pub even : start % 2 ≡ 0
  pub ends : start + 2 * count ≤ 2 ^ 31
  pub inside : place < count
  pub parcels : length % 2 ≡ 0
  pub short : length ≤ 4
  pub hops : HopsEvenly instr

-- registers, bytes and place: what a turn may change
pub record Standing : Type 0 where
  pub regs : Registers
  pub bytes : ℕ → ℕ
  pub place : ℕ

abbrev pub standing_of : {B : Type 0} → (B → ℕ → ℕ) → Near B → Standing
standing_of bytes near = record { regs = near.regs.now; bytes = bytes near.bus.now; place = near.place }

-- what no turn here changes: what is denied, the frame of the bus, from which address on there are how many places, and
-- the ghost names of the registers and the bus, which are lent
pub record Surroundings : Type 0 where
  pub denies : Access → ℕ → Width → Option Rule
  pub frame : List ℕ
  pub start : ℕ
  pub count : ℕ
  pub regs : ℕ
  pub bus : ℕ

abbrev pub surroundings_of : {B : Type 0} → (B → Access → ℕ → Width → Option Rule) → (B → List ℕ) → (B → ℕ) → (B → ℕ)
    → Near B → Surroundings
surroundings_of denies frame start count near = record {
  denies = denies near.bus.now;
  frame = frame near.bus.now;
  start = start near.bus.now;
  count = count near.bus.now;
  regs = near.regs.ghost_name;
  bus = near.bus.ghost_name;
}

-- an instruction goes straight
abbrev pub GoesStraight : Option Instr → Type 0
GoesStraight None = ⊥
GoesStraight (Some instr) = IsTrue (goes_straight instr)

-- by how an instruction of a length was served, the turn was made; or registers, bytes and place are as they were, and
-- it is a call, or nothing is said
abbrev pub IsServedNear : Served → UserTurn → ℕ → ℕ → Option Instr → Standing → Standing → Type 0
IsServedNear served.Straight turn start length instr before after =
    LeavesTurn turn before.bytes (at_pc after.regs (address_of start after.place)) after.bytes Went
    × GoesStraight instr × (after.place ≡ before.place + length / 2)
IsServedNear served.Jumped turn start length instr before after =
    LeavesTurn turn before.bytes (at_pc after.regs (address_of start after.place)) after.bytes Went
    × (after.place < 2 ^ 31)
IsServedNear served.Called turn start length instr before after = (after ≡ before) × (turn.end ≡ Call)
IsServedNear served.Elsewhere turn start length instr before after = after ≡ before

-- an instruction of a length was served, if it stands at one of the places; and the surroundings are as they were
pub record ServesNear (length : ℕ) (instr : Option Instr) (answer : Served) (around : Surroundings) (before : Standing)
    (around_after : Surroundings) (after : Standing) : Type 0 where
  pub serves : StandsAtPlace around.start around.count before.place length instr → IsServedNear answer
      (executed around.denies before.bytes length instr (at_pc before.regs (around.start + 2 * before.place)))
      around.start length instr before after
  pub stays : around_after ≡ around

-- the same of the turn of whoever stands at one of so many places, as it goes on
abbrev pub IsTurned : Served → UserTurn → ℕ → ℕ → Standing → Standing → Type 0
IsTurned served.Straight turn start count before after =
    LeavesTurn turn before.bytes (at_pc after.regs (address_of start after.place)) after.bytes Went
    × (after.place < count)
IsTurned served.Jumped turn start count before after =
    LeavesTurn turn before.bytes (at_pc after.regs (address_of start after.place)) after.bytes Went
    × (after.place < 2 ^ 31)
IsTurned served.Called turn start count before after = (after ≡ before) × (turn.end ≡ Call)
IsTurned served.Elsewhere turn start count before after = after ≡ before

-- the same where the turn is that of the instruction at the place
abbrev pub TurnsNear : Served → Surroundings → Standing → Standing → Type 0
TurnsNear answer around before after = IsTurned answer
    (user_turn around.denies before.bytes (at_pc before.regs (address_of around.start before.place)))
    around.start around.count before after
