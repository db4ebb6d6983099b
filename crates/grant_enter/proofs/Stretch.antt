-- What instructions over the whole of RAM, one after another, leave of what contracts see.
use Rattle.std.proofs.Common.{◌≡◌, ◌≢◌, ℕ, zero, suc, ◌<◌, List, length, refl, sym, ap, subst, ◌∙◌}
use Rattle.tk_base.specs.declared.access.TheConstants.{RAM_START}
use Rattle.tk_base.specs.Regs.{Registers}
use Rattle.process_layout.specs.Bounds.{bounds_of}
use Rattle.rv32_model.specs.declared.turn_end.TurnEnd.{TurnEnd}
use Rattle.rv32_model.specs.declared.turn_end.TurnEnd.TheVariants.{Went}
use Rattle.rv32_model.specs.UserTurn.{UserTurn, bytes_after}
use Rattle.rv32_model.specs.Stretch.{Goes}
use Rattle.pmp_regions.specs.declared.Entry.{Entry}
use Rattle.pmp_regions.specs.Check.{denied_by_registers}
use Rattle.board_memory.specs.Memory.{MemoryBytes}
use Rattle.board_memory.specs.Bytes.{memory_byte_at}
use Rattle.board_memory.specs.Registers.{Protect}
use Rattle.process_model.specs.Instruction.{Sees, instruction_of, ram_after, with_write}
use Rattle.grant_enter.specs.declared.home.Home.TheInside.{Inside}
use Rattle.process_seat.specs.declared.seat.Seat.{Seat}
use Rattle.grant_enter.specs.Homes.{Homes, IsStopped, MakesAll, own_of}
use Rattle.memory_turns.specs.Reach.{InstructionLaws, GoesUnder, StopsUnder, turn_under}
use Rattle.process_seat.specs.Seats.{Reseats, SitsIn, own_in}
use Rattle.grant_enter.specs.Housed.{homes_of}
use Rattle.grant_enter.proofs.Instructions.{Writes, own_in_place, protects, writes_own}
use Rattle.memory_turns.proofs.Left.{written_is}
use Rattle.grant_enter.proofs.Moves.{Reads, sits_before, still_shows}
use Rattle.process_seat.proofs.Reseated.{reseats_on, same_memory}
use Rattle.grant_enter.proofs.Sight.{same_turn, stores_in_ram}

-- instructions lead from memory with a seat to RAM that is left, and make of the process's own bytes what they are then
pub record Leads (k : ℕ) (m : MemoryBytes) (s : Seat) (regs later : Registers) (left : List ℕ) : Type 0 where
  pub reseats : Reseats m s (record m { ram = left }) s
  pub made : MakesAll k m.flash (own_in m.ram s) regs (own_in left s) later

module _ (laws : InstructionLaws) (pmp : List Entry) (s : Seat) (p : Protect pmp (bounds_of s.layout)) where
  module _ (m : MemoryBytes) (t : SitsIn m s) where
    -- an instruction that the process's own bytes give
    its_own : (seen : ℕ → ℕ) (regs : Registers) → Sees m.flash (own_in m.ram s) seen
        → turn_under pmp m.flash m.ram regs ≡ instruction_of (own_in m.ram s) seen regs
    its_own seen regs looks = same_turn m.flash m.ram pmp s seen t.settled p looks laws.sees regs

    -- where it does not go
    pub is_stopped : (regs : Registers) (end : TurnEnd) → end ≢ Went
        → end ≡ (turn_under pmp m.flash m.ram regs).end → IsStopped m.flash (own_in m.ram s) regs end
    is_stopped regs end stopped is = (
      stopped,
      own_in_place m s t,
      λ seen looks. sym (is ∙ ap (λ (x : UserTurn). x.end) (its_own seen regs looks)),
    )

    -- what it leaves
    left_by : (regs : Registers) → Writes m s (turn_under pmp m.flash m.ram regs).write
    left_by regs = writes_own laws.puts m pmp s t p (turn_under pmp m.flash m.ram regs).write
        (laws.writes (denied_by_registers pmp) (memory_byte_at m.flash m.ram) regs)

    seen_after : (regs : Registers)
        → memory_byte_at m.flash (ram_after RAM_START (turn_under pmp m.flash m.ram regs).write m.ram)
        ≡ bytes_after (denied_by_registers pmp) (memory_byte_at m.flash m.ram) regs
    seen_after regs =
        written_is m.flash m.ram pmp (turn_under pmp m.flash m.ram regs).write laws.puts_in_ram
        (stores_in_ram (length m.flash) (length m.ram) pmp s.layout t.settled p)
        (laws.writes (denied_by_registers pmp) (memory_byte_at m.flash m.ram) regs)

    -- none leads anywhere
    none : (regs later : Registers) (left : List ℕ) → length left ≡ length m.ram
        → Goes (denied_by_registers pmp) 0 regs (memory_byte_at m.flash m.ram) later (memory_byte_at m.flash left)
        → Leads 0 m s regs later left
    unfolding Goes MakesAll
    none regs later left n g =
        let same : left ≡ m.ram = laws.tells m.flash m.flash m.ram left n g.1 in
        record {
          reseats = rw same (same_memory m s s refl refl refl refl t);
          made = (rw same, g.0);
        }

    -- one and then others
    one_more : (k : ℕ) (regs later : Registers) (left : List ℕ) → (turn_under pmp m.flash m.ram regs).end ≡ Went
        → (let then = ram_after RAM_START (turn_under pmp m.flash m.ram regs).write m.ram in
        Leads k (record m { ram = then }) s (turn_under pmp m.flash m.ram regs).regs later left)
        → Leads (suc k) m s regs later left
    unfolding MakesAll
    one_more k regs later left goes rest =
        let turn = turn_under pmp m.flash m.ram regs in
        let by = left_by regs in
        record {
          reseats = reseats_on m s (record m { ram = ram_after RAM_START turn.write m.ram }) s (record m { ram = left })
              s by.reseats rest.reseats;
          made = (
            own_in_place m s t,
            λ seen looks.
                let same = its_own seen regs looks in (
                  ap (λ (x : UserTurn). x.end) (sym same) ∙ goes,
                  subst (λ (x : UserTurn). MakesAll k m.flash (with_write (own_in m.ram s) x) x.regs (own_in left s)
                      later) same (rw by.own at rest.made),
                ),
          );
        }

  -- the first of turns that went, and the others
  first_of : (flash : List ℕ) (k : ℕ) (regs later : Registers) (ram left : List ℕ)
      → GoesUnder pmp flash (suc k) regs ram later left
      → (let turn = turn_under pmp flash ram regs in
      (turn.end ≡ Went)
      × Goes (denied_by_registers pmp) k turn.regs
      (bytes_after (denied_by_registers pmp) (memory_byte_at flash ram) regs)
      later (memory_byte_at flash left))
  unfolding Goes
  first_of flash k regs later ram left g = g

  pub leads : (k : ℕ) (m : MemoryBytes) (regs later : Registers) (left : List ℕ) → SitsIn m s
      → length left ≡ length m.ram → GoesUnder pmp m.flash k regs m.ram later left → Leads k m s regs later left
  leads zero m regs later left t n g = none m t regs later left n g
  leads (suc k) m regs later left t n g = one_more m t k regs later left (first_of m.flash k regs later m.ram left g).0
      (leads k (record m { ram = then }) turn.regs later left by.reseats.sits (n ∙ sym by.reseats.elsewhere.long)
      (rw (seen_after m t regs) (first_of m.flash k regs later m.ram left g).1))
    where
      turn : UserTurn
      turn = turn_under pmp m.flash m.ram regs

      then : List ℕ
      then = ram_after RAM_START turn.write m.ram

      by : Writes m s turn.write
      by = left_by m t regs

-- what a home is after instructions of the process in a slot
module _ {h : Inside} {old : Homes} {slot index : ℕ} {s : Seat} (r : Reads h old slot index s) (laws : InstructionLaws)
    (pmp : List Entry) (p : Protect pmp (own_of old slot).layout) (k : ℕ) (regs later : Registers) (m : MemoryBytes)
    (is : m ≡ record h.memory { ram = m.ram }) (long : length m.ram ≡ length h.memory.ram)
    (g : GoesUnder pmp h.memory.flash k regs h.memory.ram later m.ram) where
  led : Leads k h.memory s regs later m.ram
  led = leads laws pmp s (protects r pmp p) k h.memory regs later m.ram (sits_before r) long g

  pub changed : Reseats h.memory s m s
  changed = rw is led.reseats

  pub all_made : MakesAll k old.flash (own_of old slot) regs
      (own_of (homes_of (record { memory = m; seats = h.seats })) slot) later
  all_made = still_shows r m changed (λ flash own own_after. MakesAll k flash own regs own_after later) led.made

  pub stopped : (most : ℕ) (end : TurnEnd) → StopsUnder pmp h.memory.flash most k end later m.ram → k < most
      → IsStopped old.flash (own_of (homes_of (record { memory = m; seats = h.seats })) slot) later end
  stopped most end stops fewer =
      let why = stops.fewer fewer in
      still_shows r m changed (λ flash own own_after. IsStopped flash own_after later end)
      (is_stopped laws pmp s (protects r pmp p) (record h.memory { ram = m.ram }) led.reseats.sits later end why.0
      why.1)
