use Rattle.board_memory.proofs.Numbers.{ram_from_bytes}
use Rattle.board_memory.proofs.laws.bytes_tell_the_ram.Goals as goal

pub returns : goal.returns
returns c = ram_from_bytes
