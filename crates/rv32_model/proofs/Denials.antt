-- What a turn is denied for, by cases on what was fetched, the row and the instruction.
use Rattle.std.proofs.Common.{◌≡◌, inl, inr, ℕ, ◌+◌, ◌%◌, ◌==◌, Option, None, Some, Result, Ok}
use Rattle.std.proofs.Common.{Err, refl, ap, subst, eqb-true}
use Rattle.tk_base.specs.declared.access.Access.TheVariants.{Fetch, Load, Store}
use Rattle.tk_base.specs.declared.access.Width.{Width}
use Rattle.tk_base.specs.declared.access.Width.TheVariants.{Half}
use Rattle.tk_base.specs.declared.access.Rule.{Rule}
use Rattle.tk_base.specs.declared.access.Rule.TheVariants.{Breakpoint, Illegal}
use Rattle.tk_base.specs.declared.access.Denial.{Denial}
use Rattle.tk_base.specs.Regs.{Registers}
use Rattle.tk_base.specs.Access.{misaligned_first}
use Rattle.tk_base.specs.Bus.{number_at}
use Rattle.tk_base.specs.Regs.{register}
use Rattle.rv32_model.specs.declared.instr.LoadKind.{LoadKind}
use Rattle.rv32_model.specs.declared.instr.Instr.{Instr}
use Rattle.rv32_model.specs.declared.instr.Instr.TheVariants as instrs
use Rattle.rv32_model.specs.declared.turn_end.TurnEnd.TheVariants.{Call, Trap}
use Rattle.rv32_model.specs.Laws.{CallsAreOfEcall, Denies, DenialsAreDue, IsInstrAt, IsDue, IsDueData, IsDueOf}
use Rattle.rv32_model.specs.Laws.{IsDueParcel}
use Rattle.rv32_model.proofs.Lengths.{length_of}
use Rattle.rv32_model.specs.UserTurn.{UserTurn, user_turn, on_word, executed, fetched, after_load, after_store}
use Rattle.rv32_model.specs.UserTurn.{denied_at, effect, load_width, w32_of, judged_parcel, with_first, with_second}
use Rattle.rv32_model.specs.UserTurn.{instr_of, trapped}
use Rattle.std.proofs.lemmas.Bool.{cond_both}

module _ (denies : Denies) (bytes : ℕ → ℕ) (regs : Registers) where
  -- a turn that is denied for nothing but what has a property
  unfoldable IsDeniedFor : (Denial → Type 0) → UserTurn → Type 0
  IsDeniedFor P t = (d : Denial) → t.end ≡ Trap d → P d

  -- a denied turn
  denied_for : (P : Denial → Type 0) (denial : Denial) → P denial → IsDeniedFor P (trapped regs denial)
  unfolding IsDeniedFor
  denied_for P denial is d e = let same : denial ≡ d = cc in subst P same is

  load_due : (length : ℕ) (kind : LoadKind) (rd at number : ℕ) (o : Option Rule)
      → misaligned_first denies Load at (load_width kind) ≡ o
      → IsDeniedFor (IsDueData denies Load at (load_width kind)) (after_load length regs kind rd at number o)
  unfolding IsDeniedFor
  load_due length kind rd at number None is d e = absurd (cc)
  load_due length kind rd at number (Some rule) is d e =
      denied_for (IsDueData denies Load at (load_width kind)) (denied_at Load at rule) (refl, refl, is) d e

  store_due : (length : ℕ) (width : Width) (at value : ℕ) (o : Option Rule) → misaligned_first denies Store at width ≡ o
      → IsDeniedFor (IsDueData denies Store at width) (after_store length regs width at value o)
  unfolding IsDeniedFor
  store_due length width at value None is d e = absurd (cc)
  store_due length width at value (Some rule) is d e =
      denied_for (IsDueData denies Store at width) (denied_at Store at rule) (refl, refl, is) d e

  effect_due : (length : ℕ) (i : Instr)
      → IsDeniedFor (λ d. IsDueOf denies regs d (Some i)) (effect denies bytes length i regs)
  unfolding IsDeniedFor
  effect_due length (instrs.Load kind rd rs1 offset) d e =
      let at = w32_of (register regs rs1 + offset) in
      load_due length kind rd at (number_at bytes at (load_width kind))
      (misaligned_first denies Load at (load_width kind)) refl d e
  effect_due length (instrs.Store width rs1 rs2 offset) d e =
      let at = w32_of (register regs rs1 + offset) in
      store_due length width at (register regs rs2) (misaligned_first denies Store at width) refl d e
  effect_due length instrs.Ebreak d e = denied_for (λ d. d ≡ denied_at Fetch regs.pc Breakpoint) _ refl d e
  effect_due length i d e = absurd (cc)

  executed_due : (length : ℕ) (o : Option Instr)
      → IsDeniedFor (λ d. IsDueOf denies regs d o) (executed denies bytes length o regs)
  unfolding executed
  executed_due length (Some i) = effect_due length i
  executed_due length None = denied_for (λ d. d ≡ denied_at Fetch regs.pc Illegal) _ refl

  -- a fetch that is denied for nothing but what is due
  unfoldable IsFetchDenied : Result ℕ Denial → Type 0
  IsFetchDenied (Ok n) = Unit {0}
  IsFetchDenied (Err denial) = IsDueParcel denies bytes regs.pc denial

  second_denied : (o : Option Rule) → let at = w32_of (regs.pc + 2) in
      denies Fetch at Half ≡ o → denies Fetch regs.pc Half ≡ None → number_at bytes regs.pc Half % 4 ≡ 3
      → IsFetchDenied (with_second (number_at bytes regs.pc Half) (judged_parcel at o (number_at bytes at Half)))
  unfolding IsFetchDenied
  second_denied None is first long = tt
  second_denied (Some rule) is first long = (refl, is, inr (refl, first, long))

  first_denied : (o : Option Rule) → denies Fetch regs.pc Half ≡ o
      → IsFetchDenied (with_first denies bytes regs.pc (judged_parcel regs.pc o (number_at bytes regs.pc Half)))
  unfolding IsFetchDenied
  first_denied None is =
      cond_both (number_at bytes regs.pc Half % 4 == 3) _ _ IsFetchDenied
      (λ long. second_denied _ refl is (eqb-true (number_at bytes regs.pc Half % 4) 3 long)) (λ one. tt)
  first_denied (Some rule) is = (refl, is, inl refl)

  fetch_denied : IsFetchDenied (fetched denies bytes regs.pc)
  unfolding fetched
  fetch_denied = first_denied (denies Fetch regs.pc Half) refl

  word_due : (r : Result ℕ Denial) → fetched denies bytes regs.pc ≡ r → IsFetchDenied r
      → IsDeniedFor (IsDue denies bytes regs) (on_word denies bytes r regs)
  unfolding IsFetchDenied IsDeniedFor on_word
  word_due (Ok word) at is d e =
      inr (
        instr_of word,
        record { word = word; fetch = at; means = refl },
        executed_due (length_of word) (instr_of word) d e,
      )
  word_due (Err denial) at is d e = inl (denied_for (IsDueParcel denies bytes regs.pc) denial is d e)

  -- an instruction that makes a call
  is_ecall : (length : ℕ) (i : Instr) → let t = effect denies bytes length i regs in
      t.end ≡ Call → (i ≡ instrs.Ecall) × (t.regs ≡ regs) × (t.write ≡ None)
  is_ecall length (instrs.Load kind rd rs1 offset) e =
      let at = w32_of (register regs rs1 + offset) in
      absurd ((elim (misaligned_first denies Load at (load_width kind))
      as (λ o. (after_load length regs kind rd at (number_at bytes at (load_width kind)) o).end ≡ Call → ⊥)
      [ None ↦ λ f. cc | Some rule ↦ λ f. cc ]) e)
  is_ecall length (instrs.Store width rs1 rs2 offset) e =
      let at = w32_of (register regs rs1 + offset) in
      absurd ((elim (misaligned_first denies Store at width)
      as (λ o. (after_store length regs width at (register regs rs2) o).end ≡ Call → ⊥)
      [ None ↦ λ f. cc | Some rule ↦ λ f. cc ]) e)
  is_ecall length instrs.Ecall e = (refl, refl, refl)
  is_ecall length i e = absurd (cc)

  executed_call : (length : ℕ) (o : Option Instr) → let t = executed denies bytes length o regs in
      t.end ≡ Call → (o ≡ Some instrs.Ecall) × (t.regs ≡ regs) × (t.write ≡ None)
  unfolding executed
  executed_call length (Some i) e = let is = is_ecall length i e in (ap Some is.0, is.1, is.2)
  executed_call length None e = absurd (cc)

  word_call : (r : Result ℕ Denial) → fetched denies bytes regs.pc ≡ r → let t = on_word denies bytes r regs in
      t.end ≡ Call
      → IsInstrAt denies bytes regs.pc (Some instrs.Ecall) × (t.regs ≡ regs) × (t.write ≡ None)
  unfolding on_word
  word_call (Ok word) at e =
      let is = executed_call (length_of word) (instr_of word) e in
      (record { word = word; fetch = at; means = is.0 }, is.1, is.2)
  word_call (Err denial) at e = absurd (cc)

pub denials_are_due : DenialsAreDue
unfolding user_turn IsDeniedFor
denials_are_due denies bytes regs =
    word_due denies bytes regs (fetched denies bytes regs.pc) refl (fetch_denied denies bytes regs)

pub calls_are_of_ecall : CallsAreOfEcall
unfolding user_turn
calls_are_of_ecall denies bytes regs = word_call denies bytes regs (fetched denies bytes regs.pc) refl
