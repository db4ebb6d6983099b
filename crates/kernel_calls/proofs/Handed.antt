-- A swap that was served, and one that was refused.
use Rattle.std.proofs.Common.{◌≡◌, ℕ, None, Some, sym, ap, ap₂, ◌∙◌}
use Rattle.tk_base.specs.declared.call.CallRule.{CallRule}
use Rattle.syscall_abi.specs.declared.form.Swap.{Swap}
use Rattle.syscall_abi.specs.declared.reply.Reply.{Reply}
use Rattle.syscall_abi.specs.declared.reply.Reply.TheVariants.{SuccessU32U32}
use Rattle.kernel_model.specs.Calls.{refused_with, replied, swap_by, swap_refusal}
use Rattle.kernel_model.specs.Parts.{failed_swap, former_pair, own_swapped, swapped}
use Rattle.kernel_calls.specs.Own.{Beside}
use Rattle.kernel_calls.specs.Called.{Called, record_of}

pub swap_served : (old new : Called) (swap : Swap) (beside : Beside) (first second : ℕ)
    → None ≡ swap_refusal swap old.own → (first, second) ≡ former_pair swap old.own
    → new ≡ record old { own = own_swapped swap old.own }
    → swapped (record_of old beside) swap ≡ replied (record_of new beside) (SuccessU32U32 first second)
swap_served old new swap beside first second none former handed =
    ap (swap_by (record_of old beside) swap) (sym none)
    ∙ ap₂ (λ (x : ℕ × ℕ) (c : Called). replied (record_of c beside) (SuccessU32U32 x.0 x.1)) (sym former) (sym handed)

pub swap_refused : (old new : Called) (swap : Swap) (beside : Beside) (rule : CallRule) (failure : Reply)
    → Some rule ≡ swap_refusal swap old.own → failure ≡ failed_swap swap.pair rule → new ≡ old
    → swapped (record_of old beside) swap ≡ refused_with (record_of new beside) rule failure
swap_refused old new swap beside rule failure some fails same =
    ap (swap_by (record_of old beside) swap) (sym some)
    ∙ ap₂ (λ (x : Reply) (c : Called). refused_with (record_of c beside) rule x) (sym fails) (sym same)
