-- Quiet turns of a process.
use Rattle.std.proofs.Common.{rules}
use Rattle.std.proofs.Common.{◌≡◌, ℕ, zero, suc, ◌+◌, ◌<◌, ◌≤◌, List, [], refl, sym, ◌∙◌, arith}
use Rattle.tk_base.specs.Regs.{Registers}
use Rattle.rv32_model.specs.declared.turn_end.TurnEnd.{TurnEnd}
use Rattle.rv32_model.specs.declared.turn_end.TurnEnd.TheVariants.{Went}
use Rattle.process_model.specs.Own.{Own}
use Rattle.process_model.specs.Instruction.{with_write}
use Rattle.process_record.specs.Process.{after_turn}
use Rattle.process_record.specs.declared.process.Process.{Process}
use Rattle.grant_enter.specs.Homes.{IsStopped, MakesAll}
use Rattle.kernel_calls.specs.Own.{Beside, record_in}
use Rattle.process_restart.specs.Own.{IsOwnObject}
use Rattle.kernel_model.specs.Record.{Record, byte_at, instruction}
use Rattle.kernel_model.specs.Stretch.{AllGo, after_instructions, instruction_made}
use Rattle.kernel_calls.specs.Residents.{IsResident, Resident}
use Rattle.board_turns.specs.Turning.{nothing_beside}
use Rattle.board_turns.specs.Quiet.{Quietly}
use Rattle.board_turns.proofs.Sight.{sees_record}

-- instructions change nothing of what is the process's own but its RAM
pub own_after : (j : ℕ) (r : Record)
    → (after_instructions j r).own ≡ record r.own { ram = (after_instructions j r).own.ram }
unfolding after_instructions
own_after zero r = refl
own_after (suc j) r = own_after j (instruction_made r)

-- a process after so many instructions, which left it these registers
abbrev pub later_process : Process → ℕ → Registers → Process
later_process p k regs = record p { regs = regs; turns = p.turns + k }

pub none_more : (n : ℕ) → n + 0 ≡ n
none_more n = omega arith

-- instructions that each went are those of the record, and lead it to what they left
pub record Follows (k : ℕ) (flash : List ℕ) (p : Process) (own own' : Own) (later : Registers) (beside : Beside) : Type
    0 where
  pub go : AllGo k (record_in flash p own beside)
  pub leads : record_in flash (later_process p k later) own' beside
      ≡ after_instructions k (record_in flash p own beside)

first_and_rest : (k : ℕ) (r : Record) → (instruction r).end ≡ Went → AllGo k (instruction_made r) → AllGo (suc k) r
unfolding after_instructions
first_and_rest k r first rest zero h = first
first_and_rest k r first rest (suc j) h = rest j (omega (arith, h))

pub follows : (k : ℕ) (flash : List ℕ) (p : Process) (own own' : Own) (later : Registers) (beside : Beside)
    → IsOwnObject flash p.object own.layout → MakesAll k flash own p.regs own' later
    → Follows k flash p own own' later beside
unfolding MakesAll after_instructions
follows zero flash p own own' later beside object m = record {
  go = λ j h. absurd (omega (arith, h));
  leads = rw (m.0, m.1, none_more p.turns);
}
follows (suc k) flash p own own' later beside object m =
    let r = record_in flash p own beside in
    let t = instruction r in
    let made = m.1 (byte_at (record_in flash p own nothing_beside)) (sees_record flash (p, own) object m.0) in
    let rest = follows k flash (record (after_turn p) { regs = t.regs }) (with_write own t) own' later beside object
    made.1 in
    let more : p.turns + suc k ≡ p.turns + 1 + k = omega arith in
    record { go = first_and_rest k r made.0 rest.go; leads = rw more rest.leads }

-- what is then its own is what it was but for its RAM
left_so : (k : ℕ) (r s : Record) → s ≡ after_instructions k r → s.own ≡ record r.own { ram = s.own.ram }
left_so k r s e = rw e (own_after k r)

pub left_own : (k : ℕ) (flash : List ℕ) (p : Process) (own own' : Own) (later : Registers)
    → IsOwnObject flash p.object own.layout → MakesAll k flash own p.regs own' later
    → own' ≡ record own { ram = own'.ram }
left_own k flash p own own' later object m =
    left_so k _ _ (follows k flash p own own' later nothing_beside object m).leads

-- so a process is as it is to be, so many steps later
pub later_seated : (flash : List ℕ) (steps k : ℕ) (p : Process) (own own' : Own) (later : Registers)
    → own' ≡ record own { ram = own'.ram } → IsResident flash steps (p, own)
    → IsResident flash (steps + k) (later_process p k later, own')
later_seated flash steps k p own own' later same s = rw same (search (rules, arith))

-- and its turns are quiet ones
module _ (k most : ℕ) (end : TurnEnd) (flash : List ℕ) (p : Process) (own own' : Own) (later : Registers)
    (object : IsOwnObject flash p.object own.layout) (m : MakesAll k flash own p.regs own' later)
    (stops : k < most → IsStopped flash own' later end) where
  -- how the next one ends, where they are fewer
  stopped : k < most → (instruction (record_in flash (later_process p k later) own' nothing_beside)).end ≡ end
  stopped fewer =
      let s = stops fewer in
      let there : IsOwnObject flash p.object own'.layout = rw (left_own k flash p own own' later object m) object in
      s.2 _ (sees_record flash (later_process p k later, own') there s.1)

  pub quietly : k ≤ most → (k ≡ most → end ≡ Went)
      → Quietly k most end flash (p, own) (later_process p k later, own')
  quietly within all =
      let led = λ (pressed : ℕ) (storage : List ℕ).
      follows k flash p own own' later (record { storage = storage; pressed = pressed }) object m in
      record {
        go = λ pressed storage. (led pressed storage).go;
        leads = λ pressed storage. (led pressed storage).leads;
        stops = λ fewer pressed storage went. (stops fewer).0 (sym (stopped fewer) ∙ went);
        ends = λ none pressed storage. stopped (grind arith);
      }

-- quiet turns of the process in a slot leave what is its own, but for its RAM
pub kept_own : (k most : ℕ) (end : TurnEnd) (flash : List ℕ) (old new : Resident) → Quietly k most end flash old new
    → new.1 ≡ record old.1 { ram = new.1.ram }
kept_own k most end flash old new q = left_so k _ _ (q.leads 0 [])
