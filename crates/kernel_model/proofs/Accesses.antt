-- Each access of a turn, and what it is denied for, is of its instruction; and no other label tells any. By the state
-- of the process and the end of its instruction: a turn lists its instruction's accesses, or none, and a denial is the
-- instruction's or that of a call of an unknown class. So the laws of instructions become laws of labels
-- (`step_labels`).
use Rattle.std.proofs.Common.{◌≡◌, inl, inr, ap, arith, ℕ, suc, ◌<◌, ◌==◌, List, [], find}
use Rattle.std.proofs.Common.{None, Some, refl}
use Rattle.std.specs.Prelude.{All, IfSome}
use Rattle.std.specs.Option.{option_map}
use Rattle.std.proofs.lemmas.List.Elements.{All-nil}
use Rattle.tk_base.specs.declared.access.Access.TheVariants.{Fetch}
use Rattle.tk_base.specs.declared.access.Denial.{Denial}
use Rattle.tk_base.specs.declared.access.Rule.TheVariants.{UnknownClass}
use Rattle.tk_base.specs.Regs.{Registers}
use Rattle.tk_base.specs.declared.process.Choice.{Choice}
use Rattle.upcall_queue.specs.Pending.{due}
use Rattle.rv32_model.specs.declared.turn_end.TurnEnd.{TurnEnd}
use Rattle.rv32_model.specs.declared.turn_end.TurnEnd.TheVariants as ends
use Rattle.rv32_model.specs.declared.instr.Instr.TheVariants.{Ecall}
use Rattle.rv32_model.specs.Laws.{AccessesArePermitted, CallsAreOfEcall, DataIsAligned, DenialsAreDue, IsInstrAt}
use Rattle.rv32_model.specs.UserTurn.{MemoryAccess, denied_at}
use Rattle.syscall_abi.specs.declared.form.CallForm.{CallForm}
use Rattle.syscall_abi.specs.Call.{call_of, class, class_table}
use Rattle.process_model.specs.Permission.{denied}
use Rattle.process_record.specs.declared.process.State.{State}
use Rattle.process_record.specs.declared.process.State.TheVariants.{Running, Yielded}
use Rattle.kernel_model.specs.Record.{Record, byte_at, instruction, with_effect}
use Rattle.kernel_model.specs.declared.settings.Settings.{Settings}
use Rattle.kernel_model.specs.Turn.{TurnTrace, turn_counted, at_turn_end, turn_in, turned, untraced}
use Rattle.kernel_model.specs.Parts.{delivery}
use Rattle.kernel_model.specs.World.{World, labels}
use Rattle.kernel_model.specs.Accesses.{EachAccessIsPermitted, EachDenialIsDue, DenialIsDue, IsPermitted, OfTurn}
use Rattle.kernel_model.specs.Accesses.{StepsAreGuarded}
use Rattle.kernel_model.specs.Replay.{after_all}
use Rattle.kernel_model.proofs.Labels.{of_labels}
use Rattle.kernel_model.proofs.Places.{of_turned}
use Rattle.kernel_model.proofs.Turning.{of_each_end}
use Rattle.kernel_model.proofs.Places.{cases_Option}

-- a turn lists the accesses of its instruction, or none
module _ (P : MemoryAccess → Type 0) where
  turn_lists : (settings : Settings) (time : ℕ) (r : Record) → All P (instruction r).accesses
      → All P (turned settings time r).told.accesses
  turn_lists settings time r each =
      of_each_end settings time r (λ t. All P t.told.accesses) (record {
        nothing = λ none. All-nil P;
        went = λ t is. rw is each;
        faults = λ t denial is runs. All-nil P;
        makes = λ t form is calls runs made. rw is each;
        delivers = λ next is yielded. All-nil P;
      })

-- those of an instruction are permitted
instruction_permitted : AccessesArePermitted → DataIsAligned → (r : Record)
    → All (IsPermitted r.own) (instruction r).accesses
instruction_permitted permitted aligned r k t within = record {
  permitted = permitted (denied r.own.layout) (byte_at r) r.process.regs k t within;
  aligned = aligned (denied r.own.layout) (byte_at r) r.process.regs k t within;
}

-- a class for which there is no call is above 7
above_all : (regs : Registers) (n : ℕ)
    → option_map (λ (row : ℕ × CallForm). row.1) (find (λ (row : ℕ × CallForm). row.0 == n) (class_table regs))
    ≡ None → 7 < n
unfolding class_table
above_all regs (suc (suc (suc (suc (suc (suc (suc (suc n)))))))) e = omega arith
above_all regs n e = absurd (cc)

unknown_class : (regs : Registers) → call_of regs ≡ None → 7 < class regs
unfolding call_of
unknown_class regs e = above_all regs (class regs) e

-- a denial is one of the instruction's, or that of a call of an unknown class
module _ (law : DenialsAreDue) (of_ecall : CallsAreOfEcall) (settings : Settings) (time : ℕ) where
  end_due : (r s : Record) (accesses : List MemoryAccess) (end : TurnEnd)
      → ((d : Denial) → end ≡ ends.Trap d → DenialIsDue r d)
      → (end ≡ ends.Call
      → IsInstrAt (denied r.own.layout) (byte_at r) r.process.regs.pc (Some Ecall)
      × (s.process.regs ≡ r.process.regs))
      → IfSome (at_turn_end settings time s accesses end).told.denial (DenialIsDue r)
  end_due r s accesses ends.Went due ecall = tt
  end_due r s accesses ends.Call due ecall =
      elim (cases_Option (call_of s.process.regs)) [
        | inl none ↦ let is = ecall refl in
            rw none (inr (record {
              instruction = is.0;
              class = unknown_class r.process.regs (rw is.1 at none);
              denial = ap (λ (regs : Registers). denied_at Fetch regs.pc UnknownClass) is.1;
            }))
        | inr call ↦ rw call.1 tt
      ]
  end_due r s accesses (ends.Trap denial) due ecall = due denial refl

  state_due : (state : State) (r : Record) → IfSome (turn_in settings time state r).told.denial (DenialIsDue r)
  state_due Running r =
      let t = instruction r in
      end_due r (with_effect (turn_counted r) t) t.accesses t.end
      (λ d trapped. inl (law (denied r.own.layout) (byte_at r) r.process.regs d trapped))
      (λ calls. let is = of_ecall (denied r.own.layout) (byte_at r) r.process.regs calls in (is.0, is.1))
  state_due Yielded r =
      elim (due r.own.inbox) as (λ next. IfSome (delivery r next).told.denial (DenialIsDue r))
      [ None ↦ tt | Some next ↦ tt ]
  state_due state r = tt

  turn_due : (r : Record) → IfSome (turned settings time r).told.denial (DenialIsDue r)
  turn_due r =
      of_turned (λ t. IfSome t.told.denial (DenialIsDue r)) settings time r tt (state_due r.process.state r)

-- what holds of each turn holds of each label
module _ (P : Record → TurnTrace → Type 0) (w : World)
    (none : (r : Record) → P r untraced) (each : (r : Record) → P r (turned w.settings w.clock.time r).told) where
  pub step_labels : (choice : Choice) → All (OfTurn P w) (labels w choice)
  step_labels =
      of_labels (λ s. OfTurn P w) w (λ slot r is may. (r, is, each r))
      (λ deed slot r a is told no_turn. (r, is, none r))

pub each_access_is_permitted : AccessesArePermitted → DataIsAligned → EachAccessIsPermitted
each_access_is_permitted permitted aligned w choices choice =
    let v = after_all w choices in
    step_labels (λ r told. All (IsPermitted r.own) told.accesses) v
    (λ r. All-nil (IsPermitted r.own))
    (λ r. turn_lists (IsPermitted r.own) v.settings v.clock.time r (instruction_permitted permitted aligned r)) choice

pub each_denial_is_due : DenialsAreDue → CallsAreOfEcall → EachDenialIsDue
each_denial_is_due law of_ecall w choices choice =
    let v = after_all w choices in
    step_labels (λ r told. IfSome told.denial (DenialIsDue r)) v (λ r. tt)
    (turn_due law of_ecall v.settings v.clock.time) choice

pub steps_are_guarded : AccessesArePermitted → DataIsAligned → DenialsAreDue → CallsAreOfEcall → StepsAreGuarded
steps_are_guarded permitted aligned law of_ecall w choice = record {
  accesses = each_access_is_permitted permitted aligned w [] choice;
  denials = each_denial_is_due law of_ecall w [] choice;
}
