use Rattle.std.specs.List.{flat_map, range_with_len}
use Rattle.std.proofs.Common.{◌+◌}
use Rattle.tk_base.specs.Regs.{register}
use Rattle.tk_outside.specs.Writes.{WroteAll}
use Rattle.board_views.specs.Lines.{word_text}
use Rattle.board_views.proofs.place.write_registers.Given as goal

-- the registers so far were written
abbrev pub invariant-loop-n : goal.invariant-loop-n
invariant-loop-n g l = WroteAll g.K.Sink.tells l.initial.out l.out
    (flat_map (λ n. word_text (register l.regs (n + 1))) (range_with_len 0 l.n))
