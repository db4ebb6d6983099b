-- What a process gets back for a system call: TRD 104, "Return Values".
use Rattle.std.specs.Prelude.{ℕ, ◌+◌, ◌/◌, ◌%◌, ◌^◌, Bool, true, false, List, [], ◌∷◌, Option, None, Some, Result, Ok}
use Rattle.std.specs.Prelude.{Err}
use Rattle.tk_base.specs.Regs.{Registers}
use Rattle.tk_base.specs.Call.{code_of, error_of}
use Rattle.tk_base.specs.declared.call.CallRule.{CallRule}
use Rattle.tk_base.specs.Regs.{with_register}
use Rattle.syscall_abi.specs.declared.reply.Reply.{Reply}
use Rattle.syscall_abi.specs.declared.reply.Reply.TheVariants.{Failure, FailureU32, FailureU32U32, FailureU64, Success}
use Rattle.syscall_abi.specs.declared.reply.Reply.TheVariants.{SuccessU32, SuccessU32U32, SuccessU64, SuccessU32U32U32}
use Rattle.syscall_abi.specs.declared.reply.Reply.TheVariants.{SuccessU32U64}

-- the words of a reply: the variant's number, and then its values, of a number of 64 bits the lower 32 first
abbrev pub reply_words : Reply → List ℕ
reply_words (Failure error) = 0 ∷ code_of error ∷ []
reply_words (FailureU32 error first) = 1 ∷ code_of error ∷ first ∷ []
reply_words (FailureU32U32 error first second) = 2 ∷ code_of error ∷ first ∷ second ∷ []
reply_words (FailureU64 error value) = 3 ∷ code_of error ∷ value % 2 ^ 32 ∷ value / 2 ^ 32 ∷ []
reply_words Success = 128 ∷ []
reply_words (SuccessU32 first) = 129 ∷ first ∷ []
reply_words (SuccessU32U32 first second) = 130 ∷ first ∷ second ∷ []
reply_words (SuccessU64 value) = 131 ∷ value % 2 ^ 32 ∷ value / 2 ^ 32 ∷ []
reply_words (SuccessU32U32U32 first second third) = 132 ∷ first ∷ second ∷ third ∷ []
reply_words (SuccessU32U64 first value) = 133 ∷ first ∷ value % 2 ^ 32 ∷ value / 2 ^ 32 ∷ []

-- the registers with words put into one after another, from a number on
abbrev pub with_words : ℕ → List ℕ → Registers → Registers
with_words n [] regs = regs
with_words n (word ∷ words) regs = with_words (n + 1) words (with_register regs n word)

-- the registers with a reply: its words stand in a0 and those after it, and no other register changes
abbrev pub put_reply : Reply → Registers → Registers
put_reply reply regs = with_words 10 (reply_words reply) regs

-- the variants whose first value is an error
abbrev pub is_failure : Reply → Bool
is_failure (Failure error) = true
is_failure (FailureU32 error first) = true
is_failure (FailureU32U32 error first second) = true
is_failure (FailureU64 error value) = true
is_failure Success = false
is_failure (SuccessU32 first) = false
is_failure (SuccessU32U32 first second) = false
is_failure (SuccessU64 value) = false
is_failure (SuccessU32U32U32 first second third) = false
is_failure (SuccessU32U64 first value) = false

-- what a process gets back for a command, by its driver's answer: the reply, and the rule that refuses the command, if
-- one does; the reply is then a failure with the rule's error
abbrev pub reply_of : Result Reply CallRule → Reply × Option CallRule
reply_of (Ok reply) = (reply, None)
reply_of (Err rule) = (Failure (error_of rule), Some rule)
