-- What a turn sees, by cases on what was fetched, the row and the instruction.
use Rattle.std.proofs.Common.{◌≡◌, ℕ, ◌+◌, ◌%◌, ◌==◌, if◌then◌else◌, Option, None, Some, Result, Ok, Err, refl, ap, ◌∙◌}
use Rattle.tk_base.specs.declared.access.Access.TheVariants.{Fetch, Load, Store}
use Rattle.tk_base.specs.declared.access.Width.TheVariants.{Half}
use Rattle.tk_base.specs.declared.access.Rule.{Rule}
use Rattle.tk_base.specs.declared.access.Denial.{Denial}
use Rattle.tk_base.specs.Regs.{Registers}
use Rattle.tk_base.specs.Access.{misaligned_first}
use Rattle.tk_base.specs.Bus.{number_at}
use Rattle.tk_base.specs.Regs.{register}
use Rattle.rv32_model.specs.declared.instr.LoadKind.{LoadKind}
use Rattle.rv32_model.specs.declared.instr.Instr.{Instr}
use Rattle.rv32_model.specs.declared.instr.Instr.TheVariants as instrs
use Rattle.rv32_model.specs.Laws.{Denies, LookAlike, SeesOnlyPermitted}
use Rattle.rv32_model.proofs.Lengths.{length_of}
use Rattle.rv32_model.specs.UserTurn.{user_turn, on_word, executed, fetched, after_load, after_store, effect}
use Rattle.rv32_model.specs.UserTurn.{load_width, w32_of, judged_parcel, with_first, with_second, parcel_at}
use Rattle.rv32_model.specs.UserTurn.{instr_of}

judged_same : (at : ℕ) (o : Option Rule) (n m : ℕ) → (o ≡ None → n ≡ m) → judged_parcel at o n ≡ judged_parcel at o m
judged_same at None n m e = ap (λ (x : ℕ). judged_parcel at None x) (e refl)
judged_same at (Some rule) n m e = refl

load_same : (length : ℕ) (regs : Registers) (kind : LoadKind) (rd at : ℕ) (o : Option Rule) (n m : ℕ)
    → (o ≡ None → n ≡ m) → after_load length regs kind rd at n o ≡ after_load length regs kind rd at m o
load_same length regs kind rd at None n m e = ap (λ (x : ℕ). after_load length regs kind rd at x None) (e refl)
load_same length regs kind rd at (Some rule) n m e = refl

parcel_same : (d e : Denies) (b c : ℕ → ℕ) → LookAlike d e b c → (at : ℕ) → parcel_at d b at ≡ parcel_at e c at
parcel_same d e b c l at =
    judged_same at (d Fetch at Half) (number_at b at Half) (number_at c at Half) (l.parcels at)
    ∙ ap (λ (o : Option Rule). judged_parcel at o (number_at c at Half)) (l.fetches at)

first_same : (d e : Denies) (b c : ℕ → ℕ) → LookAlike d e b c → (pc : ℕ) (r : Result ℕ Denial)
    → with_first d b pc r ≡ with_first e c pc r
first_same d e b c l pc (Ok first) =
    ap (λ (x : Result ℕ Denial). if first % 4 == 3 then with_second first x else Ok first)
    (parcel_same d e b c l (w32_of (pc + 2)))
first_same d e b c l pc (Err denial) = refl

fetched_same : (d e : Denies) (b c : ℕ → ℕ) → LookAlike d e b c → (pc : ℕ) → fetched d b pc ≡ fetched e c pc
unfolding fetched
fetched_same d e b c l pc =
    ap (with_first d b pc) (parcel_same d e b c l pc) ∙ first_same d e b c l pc (parcel_at e c pc)

effect_same : (d e : Denies) (b c : ℕ → ℕ) → LookAlike d e b c → (length : ℕ) (i : Instr) (regs : Registers)
    → effect d b length i regs ≡ effect e c length i regs
effect_same d e b c l length (instrs.Load kind rd rs1 offset) regs =
    let at = w32_of (register regs rs1 + offset) in
    load_same length regs kind rd at (misaligned_first d Load at (load_width kind)) (number_at b at (load_width kind))
    (number_at c at (load_width kind)) (l.loads at (load_width kind))
    ∙ ap (after_load length regs kind rd at (number_at c at (load_width kind))) (l.accesses Load at (load_width kind))
effect_same d e b c l length (instrs.Store width rs1 rs2 offset) regs =
    let at = w32_of (register regs rs1 + offset) in
    ap (after_store length regs width at (register regs rs2)) (l.accesses Store at width)
effect_same d e b c l length i regs = refl

executed_same : (d e : Denies) (b c : ℕ → ℕ) → LookAlike d e b c → (length : ℕ) (o : Option Instr) (regs : Registers)
    → executed d b length o regs ≡ executed e c length o regs
unfolding executed
executed_same d e b c l length (Some i) regs = effect_same d e b c l length i regs
executed_same d e b c l length None regs = refl

word_same : (d e : Denies) (b c : ℕ → ℕ) → LookAlike d e b c → (r : Result ℕ Denial) (regs : Registers)
    → on_word d b r regs ≡ on_word e c r regs
unfolding on_word
word_same d e b c l (Ok word) regs = executed_same d e b c l (length_of word) (instr_of word) regs
word_same d e b c l (Err denial) regs = refl

pub sees_only_permitted : SeesOnlyPermitted
unfolding user_turn
sees_only_permitted d e b c regs l =
    ap (λ (r : Result ℕ Denial). on_word d b r regs) (fetched_same d e b c l regs.pc)
    ∙ word_same d e b c l (fetched e c regs.pc) regs
