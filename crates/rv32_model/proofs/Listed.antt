-- A turn that writes goes, and lists the store.
use Rattle.std.proofs.Common.{◌≡◌, ℕ, ◌+◌, false, [], ◌∷◌, Option, None, Some, Result, Ok, Err, refl}
use Rattle.std.proofs.Common.{◌∙◌}
use Rattle.std.specs.Prelude.{IfSome, IsTrue}
use Rattle.std.specs.List.{list_any}
use Rattle.std.proofs.lemmas.List.Folds.{list_any-append}
use Rattle.tk_base.specs.declared.access.Access.TheVariants.{Load, Store}
use Rattle.tk_base.specs.declared.access.Width.{Width}
use Rattle.tk_base.specs.declared.access.Rule.{Rule}
use Rattle.tk_base.specs.declared.access.Denial.{Denial}
use Rattle.tk_base.specs.Regs.{Registers, register}
use Rattle.tk_base.specs.Access.{misaligned_first}
use Rattle.tk_base.specs.Bus.{number_at}
use Rattle.rv32_model.specs.declared.instr.Instr.{Instr}
use Rattle.rv32_model.specs.declared.instr.Instr.TheVariants as instrs
use Rattle.rv32_model.specs.declared.turn_end.TurnEnd.TheVariants.{Went}
use Rattle.rv32_model.specs.Laws.{Denies, stores_at, WritesAreListed}
use Rattle.rv32_model.proofs.Lengths.{length_of}
use Rattle.rv32_model.specs.UserTurn.{UserTurn, user_turn, on_word, executed, fetched, after_load, after_store, effect}
use Rattle.rv32_model.specs.UserTurn.{fetches, load_width, touch_of, w32_of, instr_of}
use Rattle.std.proofs.lemmas.Bool.{or_right, or_left}

Listed : UserTurn → Type 0
Listed t = IfSome t.write (λ w. (t.end ≡ Went)
    × ((at : ℕ) → IsTrue (stores_at at (touch_of Store w.address w.width))
    → IsTrue (list_any (stores_at at) t.accesses)))

store_listed : (length : ℕ) (regs : Registers) (width : Width) (at value : ℕ) (o : Option Rule)
    → Listed (after_store length regs width at value o)
unfolding Listed
store_listed length regs width at value None = (
  refl,
  λ a covers.
      list_any-append (stores_at a) (fetches length regs) (touch_of Store at width ∷ [])
      ∙ or_right (list_any (stores_at a) (fetches length regs)) _ (or_left _ false covers),
)
store_listed length regs width at value (Some rule) = tt

effect_listed : (denies : Denies) (bytes : ℕ → ℕ) (length : ℕ) (i : Instr) (regs : Registers)
    → Listed (effect denies bytes length i regs)
unfolding Listed
effect_listed denies bytes length (instrs.Load kind rd rs1 offset) regs =
    let at = w32_of (register regs rs1 + offset) in
    elim (misaligned_first denies Load at (load_width kind))
    as (λ o. Listed (after_load length regs kind rd at (number_at bytes at (load_width kind)) o))
    [ None ↦ tt | Some rule ↦ tt ]
effect_listed denies bytes length (instrs.Store width rs1 rs2 offset) regs =
    store_listed length regs width (w32_of (register regs rs1 + offset)) (register regs rs2)
    (misaligned_first denies Store (w32_of (register regs rs1 + offset)) width)
effect_listed denies bytes length i regs = tt

executed_listed : (denies : Denies) (bytes : ℕ → ℕ) (length : ℕ) (o : Option Instr) (regs : Registers)
    → Listed (executed denies bytes length o regs)
unfolding Listed executed
executed_listed denies bytes length (Some i) regs = effect_listed denies bytes length i regs
executed_listed denies bytes length None regs = tt

word_listed : (denies : Denies) (bytes : ℕ → ℕ) (r : Result ℕ Denial) (regs : Registers)
    → Listed (on_word denies bytes r regs)
unfolding Listed on_word
word_listed denies bytes (Ok word) regs = executed_listed denies bytes (length_of word) (instr_of word) regs
word_listed denies bytes (Err denial) regs = tt

pub writes_are_listed : WritesAreListed
unfolding Listed user_turn
writes_are_listed denies bytes regs = word_listed denies bytes (fetched denies bytes regs.pc) regs
