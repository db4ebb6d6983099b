-- What serving a call comes to, where it is for no driver to answer.
use Rattle.std.proofs.Common.{◌≡◌, ℕ, Bool, true, false, not, ◌&&◌, List, [], Option, None, Some}
use Rattle.std.proofs.Common.{is_some, refl, sym, ap, ◌∙◌}
use Rattle.tk_base.specs.declared.call.CallRule.TheVariants.{NoDriver, Permission}
use Rattle.syscall_abi.specs.declared.form.CallForm.{CallForm}
use Rattle.syscall_abi.specs.declared.form.CallForm.TheVariants.{Command}
use Rattle.syscall_abi.specs.Forms.{driver_in}
use Rattle.syscall_filter.specs.Permission.{permitted}
use Rattle.syscall_filter.proofs.Unlisted.{without_list}
use Rattle.syscall_abi.specs.declared.reply.Reply.{Reply}
use Rattle.process_record.specs.declared.outcome.Outcome.{Outcome}
use Rattle.process_record.specs.declared.outcome.Outcome.TheVariants.{ToDriver}
use Rattle.driver_model.specs.Drivers.{CommandContext, CommandHandler, handler_of}
use Rattle.kernel_model.specs.Record.{Record}
use Rattle.kernel_model.specs.Calls.{Served, by_form, failure_of, refused, refused_with, served}
use Rattle.kernel_model.specs.Parts.{object_permits}
use Rattle.kernel_model.specs.Calls.{taken_by}
use Rattle.kernel_model.specs.Laws.{NoneIsLeft}
use Rattle.process_model.specs.Flash.{object_in}
use Rattle.kernel_calls.specs.Outcomes.{is_for_driver, is_taken}
use Rattle.kernel_calls.specs.Called.{Called, Comes, Serves, record_of}
use Rattle.kernel_calls.specs.Own.{Beside}

-- without the Permissions TLV only a strict filter refuses a call, which names a driver
pub without_permissions : (strict : Bool) (listed : Option (List ℕ)) (form : CallForm) → is_some listed ≡ false
    → permitted strict listed form ≡ not (strict && is_some (driver_in form))
without_permissions strict None form none = without_list strict form
without_permissions strict (Some listed) form none = absurd (cc)

-- a command that no driver takes
pub no_driver : (around : CommandContext) (r : Record) (form : CallForm) (driver number a2 a3 : ℕ)
    → form ≡ Command driver number a2 a3 → is_taken form ≡ false → by_form around r form ≡ refused r NoDriver
unfolding by_form
no_driver around r form driver number a2 a3 is free =
    ap (by_form around r) is ∙ by_taker (handler_of driver) (ap is_taken (sym is) ∙ free)
  where
    by_taker : (o : Option CommandHandler) → is_some o ≡ false → taken_by around number a2 a3 r o ≡ refused r NoDriver
    by_taker None free = refl
    by_taker (Some taker) free = absurd (cc)

-- a call that is served is left to no driver
comes_so : (law : NoneIsLeft) (strict : Bool) (old new : Called) (call : CallForm) (o : Outcome)
    → is_for_driver strict (object_in old.flash old.process.object) call ≡ false
    → ((around : CommandContext) → Comes (λ r. served strict around r call) old new o) → Serves strict call old new o
comes_so law strict old new call ToDriver free comes =
    absurd (law strict nothing (record_of old bare) call (ap (λ (s : Served). s.outcome) (comes nothing bare)))
  where
    bare : Beside
    bare = record { storage = []; pressed = 0 }

    nothing : CommandContext
    nothing = record { now = 0; leds = 0; buttons = 0; pressed = 0; storage = 0 }
comes_so law strict old new call other free comes = record { not_for_driver = free; comes = comes }

-- a call that is not permitted
pub not_permitted : (law : NoneIsLeft) (strict : Bool) (old new : Called) (call : CallForm) (o : Outcome)
    (failure : Reply) → object_permits strict (object_in old.flash old.process.object) call ≡ false
    → failure ≡ failure_of call Permission → Comes (λ r. refused_with r Permission failure) old new o
    → Serves strict call old new o
unfolding served
not_permitted law strict old new call o failure forbidden is refuses =
    comes_so law strict old new call o (ap (λ (b : Bool). b && is_taken call) forbidden)
    (λ around beside. let r = record_of old beside in
    rw (forbidden, ← is) (refuses beside))

-- one that is, of a form that is for no driver to answer
pub permitted_so : (law : NoneIsLeft) (strict : Bool) (old new : Called) (call form : CallForm) (o : Outcome)
    → form ≡ call → object_permits strict (object_in old.flash old.process.object) call ≡ true
    → is_taken form ≡ false → ((around : CommandContext) → Comes (λ r. by_form around r form) old new o)
    → Serves strict call old new o
unfolding served
permitted_so law strict old new call form o is permitted free comes =
    comes_so law strict old new call o (ap (λ (b : Bool). b && is_taken call) permitted ∙ ap is_taken (sym is) ∙ free)
    (λ around beside. let r = record_of old beside in
    rw (permitted, ← is) (comes around beside))
