-- What is left of RAM after instructions over it.
use Rattle.std.proofs.Common.{◌≡◌, ℕ, ◌-◌, List, length, IfSome, Option, None, Some, refl, sym, ◌∙◌}
use Rattle.tk_base.specs.declared.access.Access.TheVariants.{Store}
use Rattle.tk_base.specs.declared.access.TheConstants.{RAM_START}
use Rattle.tk_base.specs.Bus.{put}
use Rattle.rv32_model.specs.UserTurn.{Write, after_write}
use Rattle.pmp_regions.specs.declared.Entry.{Entry}
use Rattle.pmp_regions.specs.Check.{denied_by_registers}
use Rattle.board_memory.specs.Bytes.{memory_byte_at, StoresLieIn}
use Rattle.board_memory.specs.Laws.{AStoreInRamIsPut, BytesTellTheRam}
use Rattle.process_model.specs.Instruction.{ram_after}

-- RAM whose bytes by address are those after a permitted write
pub follows : (other flash ram left : List ℕ) (pmp : List Entry) (w : Option Write) → AStoreInRamIsPut → BytesTellTheRam
    → StoresLieIn (length ram) pmp → length left ≡ length ram
    → IfSome w (λ x. denied_by_registers pmp Store x.address x.width ≡ None)
    → memory_byte_at other left ≡ after_write w (memory_byte_at flash ram) → left ≡ ram_after RAM_START w ram
unfolding ram_after
follows other flash ram left pmp None stored told s n d h = told flash other ram left n h
follows other flash ram left pmp (Some w) stored told s n d h =
    let at = stored flash ram w.address w.width w.value (s.stores w.address w.width d) in
    told flash other (put ram (w.address - RAM_START) w.width w.value) left (n ∙ sym at.1) (h ∙ sym at.0)

-- and they are, where RAM is what it leaves
pub written_is : (flash ram : List ℕ) (pmp : List Entry) (w : Option Write) → AStoreInRamIsPut
    → StoresLieIn (length ram) pmp → IfSome w (λ x. denied_by_registers pmp Store x.address x.width ≡ None)
    → memory_byte_at flash (ram_after RAM_START w ram) ≡ after_write w (memory_byte_at flash ram)
unfolding ram_after
written_is flash ram pmp None stored s d = refl
written_is flash ram pmp (Some w) stored s d =
    (stored flash ram w.address w.width w.value (s.stores w.address w.width d)).0
