-- An instruction that does not go, since it makes a system call or is denied, leaves a process as it was.
use Rattle.std.proofs.Common.{◌≡◌, ◌≢◌, ◌⊎◌, inl, inr, ℕ, List, Option, None, Some, refl, sym, ap, ap₂, ◌∙◌}
use Rattle.std.specs.Prelude.{IfSome, IsTrue}
use Rattle.std.specs.List.{list_any}
use Rattle.tk_base.specs.declared.access.Access.TheVariants.{Store}
use Rattle.std.proofs.lemmas.List.{set-get_or}
use Rattle.tk_base.specs.declared.access.Denial.{Denial}
use Rattle.tk_base.specs.Regs.{Registers}
use Rattle.rv32_model.specs.declared.turn_end.TurnEnd.{TurnEnd}
use Rattle.rv32_model.specs.declared.turn_end.TurnEnd.TheVariants.{Went, Call, Trap}
use Rattle.rv32_model.specs.Laws.{Denies, WritesAreListed, stores_at}
use Rattle.rv32_model.specs.Stretch.{StoppedTurnsChangeNothing}
use Rattle.rv32_model.specs.UserTurn.{UserTurn, Write, touch_of}
use Rattle.process_model.specs.Own.{Own}
use Rattle.process_model.specs.Instruction.{ram_after}
use Rattle.process_model.specs.Permission.{denied}
use Rattle.process_record.specs.Process.{after_turn}
use Rattle.process_record.specs.declared.process.Process.{Process}
use Rattle.grant_enter.specs.Homes.{ChangesOnly, Homes, nobody, own_of}
use Rattle.kernel_calls.specs.Own.{record_in}
use Rattle.kernel_model.specs.Record.{byte_at}
use Rattle.kernel_calls.specs.Residents.{resident}
use Rattle.board_turns.specs.Turning.{IsMade, next_instruction, nothing_beside}

-- as it is, a home is one of which one slot changed at the most
pub same_home : (slot : ℕ) (home : Homes) → ChangesOnly slot home home
same_home slot home = ap (λ (owns : List Own). record home { owns = owns }) (sym (set-get_or home.owns slot nobody))

-- whatever a turn writes, it goes, and lists a store there
abbrev Lists : UserTurn → Option Write → Type 0
Lists t o = IfSome o (λ w. (t.end ≡ Went) × ((at : ℕ) → IsTrue (stores_at at (touch_of Store w.address w.width))
    → IsTrue (list_any (stores_at at) t.accesses)))

-- so one that does not go writes nothing
writes_nothing : (t : UserTurn) → t.end ≢ Went → (o : Option Write) → t.write ≡ o → Lists t o → t.write ≡ None
writes_nothing t stops None e lists = e
writes_nothing t stops (Some w) e lists = absurd (stops lists.0)

-- so it only counts as a turn
pub is_counted : (slot : ℕ) (home : Homes) (process counted : Process) → counted ≡ after_turn process
    → StoppedTurnsChangeNothing → WritesAreListed
    → (next_instruction home.flash (resident home slot process)).end ≢ Went
    → IsMade home.flash (resident home slot process) (resident home slot counted)
unfolding ram_after
is_counted slot home process counted is law listed stops =
    ap₂ (λ (p : Process) (o : Own). (p, o))
    (is ∙ ap (λ (regs : Registers). record (after_turn process) { regs = regs })
    (sym (law denies seen process.regs stops).0))
    (sym (ap (λ (w : Option Write). record own { ram = ram_after own.layout.start w own.ram })
    (writes_nothing t stops t.write refl (listed denies seen process.regs))))
  where
    own : Own
    own = own_of home slot

    denies : Denies
    denies = denied own.layout

    seen : ℕ → ℕ
    seen = byte_at (record_in home.flash process own nothing_beside)

    t : UserTurn
    t = next_instruction home.flash (resident home slot process)

-- one of which it is known that it makes a system call or is denied does not go
pub is_stopped : (known : TurnEnd) → (known ≡ Call) ⊎ ((denial : Denial) × (known ≡ Trap denial)) → known ≢ Went
is_stopped known (inl is) went =
    let both : Call ≡ Went = sym is ∙ went in
    cc
is_stopped known (inr is) went =
    let both : Trap is.0 ≡ Went = sym is.1 ∙ went in
    cc
