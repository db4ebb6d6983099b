use Rattle.std.proofs.Common.{drop, map, string_bytes}
use Rattle.tock_look.proofs.AskList.{AsksSoFar}
use Rattle.tock_look.proofs.asks.asks_in.Given as goal

abbrev pub invariant-loop-word : goal.invariant-loop-word
invariant-loop-word l = AsksSoFar (map string_bytes l.words) l.asks.items (map string_bytes (drop l.word-index l.words))
