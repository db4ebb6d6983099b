use Rattle.std.proofs.Common.{◌≡◌, ◌+◌, drop}
use Rattle.syscall_abi.specs.Reply.{with_words}
use Rattle.syscall_abi.proofs.reply.put_words.Given as goal

-- the words that are left, put on, give what all words give
abbrev pub invariant-loop-place : goal.invariant-loop-place
invariant-loop-place l = with_words (10 + l.place) (drop l.place l.words) l.regs ≡ with_words 10 l.words l.fn.regs
