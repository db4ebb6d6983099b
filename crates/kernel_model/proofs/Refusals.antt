-- A refused call changes nothing else, and every call is answered, by what every call comes to.
use Rattle.std.proofs.Common.{◌≡◌, ◌≢◌, Option, None, Some, ap, sym, ◌∙◌}
use Rattle.tk_base.specs.declared.call.CallRule.{CallRule}
use Rattle.syscall_abi.specs.declared.reply.Reply.{Reply}
use Rattle.process_record.specs.declared.outcome.Outcome.TheVariants.{ToDriver}
use Rattle.kernel_model.specs.Record.{Record}
use Rattle.kernel_model.specs.Turn.{rule_shown}
use Rattle.kernel_model.specs.Calls.{Served, failure_of, refused_with}
use Rattle.kernel_model.specs.Laws.{DriversPromise, NoneIsLeft, RefusedChangesNothingElse}
use Rattle.kernel_model.proofs.Comes.{of_call}

-- an answer that is a refusal is that of its rule alone, with this failure
abbrev IsRefusedBy : Record → (CallRule → Reply) → Served → Type 0
IsRefusedBy r failure s = (rule : CallRule) → rule_shown s.outcome ≡ Some rule → s ≡ refused_with r rule (failure rule)

refused_so : (r : Record) (failure : CallRule → Reply) (broken : CallRule)
    → IsRefusedBy r failure (refused_with r broken (failure broken))
refused_so r failure broken rule e = let same : broken ≡ rule = cc in
    ap (λ (x : CallRule). refused_with r x (failure x)) same

no_rule : (rule : CallRule) → ◌≡◌ {A = Option CallRule} None (Some rule) → ⊥
no_rule rule e = cc

pub refused_changes_nothing_else : DriversPromise → RefusedChangesNothingElse
refused_changes_nothing_else promise strict around r call =
    of_call (IsRefusedBy r (failure_of call)) promise strict around r call
    (record {
      refused = refused_so r (failure_of call);
      served =
          λ s is rule e. absurd (no_rule rule (sym is.no_rule ∙ e));
    })

pub none_is_left : DriversPromise → NoneIsLeft
none_is_left promise strict around r call =
    of_call (λ s. s.outcome ≢ ToDriver) promise strict around r call
    (record { refused = λ rule e. cc; served = λ s is. is.done })
