-- The reply to a call stands in the registers of its process after it, by what the call comes to (`of_served`): it is
-- replied to, or refused, and one reply is put into the registers, which change no more; or it comes to an outcome that
-- has no reply.
use Rattle.std.proofs.Common.{◌≡◌, Bool, Option, None, Some, refl}
use Rattle.tk_base.specs.Regs.{Registers}
use Rattle.tk_base.specs.declared.call.CallRule.{CallRule}
use Rattle.tk_base.specs.Call.{error_of}
use Rattle.syscall_abi.specs.Reply.{put_reply}
use Rattle.syscall_abi.specs.declared.form.CallForm.{CallForm}
use Rattle.syscall_abi.specs.declared.reply.Reply.{Reply}
use Rattle.syscall_abi.specs.declared.reply.Reply.TheVariants.{Failure}
use Rattle.process_record.specs.Process.{after_refusal, after_reply}
use Rattle.process_record.specs.declared.outcome.Outcome.TheVariants.{Replied}
use Rattle.driver_model.specs.Drivers.{CommandContext}
use Rattle.kernel_model.specs.Record.{Record}
use Rattle.kernel_model.specs.Turn.{arguments}
use Rattle.kernel_model.specs.Calls.{Served, failure_of, served}
use Rattle.kernel_model.proofs.Calling.{of_commanded, of_served}
use Rattle.kernel_model.proofs.Yields.{kept_by_yield}
use Rattle.board_turns.specs.Turning.{ReplyStands}

-- what a call comes to leaves its reply in these registers
abbrev Stands : Registers → Served → Type 0
Stands before s = ReplyStands before s.outcome s.after.process.regs

-- a reply that was put into them
stands : (before after : Registers) (reply : Reply) (rule : Option CallRule)
    → arguments after ≡ arguments (put_reply reply before) → ReplyStands before (Replied reply rule) after
stands before after reply rule here other other_rule e = let same : reply ≡ other = cc in rw same at here

pub reply_stands : (strict : Bool) (around : CommandContext) (r : Record) (call : CallForm)
    → Stands r.process.regs (served strict around r call)
reply_stands strict around r call =
    of_served (Stands r.process.regs) around r strict call (record {
      refused = λ rule. refuses rule (failure_of call rule);
      same = replies;
      moved = λ new reply may. replies reply;
      swapped = λ swap reply may. replies reply;
      yields = λ number a1 a2 is reply rule e. absurd ((kept_by_yield r number a1 a2).silent.reply reply rule e);
      commands = λ driver number a2 a3 taker is found.
          of_commanded (Stands r.process.regs) r (taker around number a2 a3 r.own) (λ reply is. replies reply)
          (λ rule is. refuses rule (Failure (error_of rule)));
      ends = λ kind code is reply rule e. cc;
      again = λ kind code is reply rule e. cc;
    })
  where
    replies : (reply : Reply) → ReplyStands r.process.regs (Replied reply None) (after_reply r.process reply).regs
    replies reply = stands r.process.regs (after_reply r.process reply).regs reply None refl

    refuses : (rule : CallRule) (reply : Reply)
        → ReplyStands r.process.regs (Replied reply (Some rule)) (after_refusal r.process rule reply).regs
    refuses rule reply = stands r.process.regs (after_refusal r.process rule reply).regs reply (Some rule) refl
