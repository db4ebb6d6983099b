use Rattle.std.proofs.Common.{arith}
use Rattle.board_report.proofs.Parts.{off_past}
use Rattle.board_report.proofs.report.led_glyph.Goals as goal

pub returns-then-led-ge32 : goal.returns-then-led-ge32
returns-then-led-ge32 c = off_past c.args.leds c.args.led (omega arith) (omega arith)
