-- A line of a call is written part by part, each by a call that may fail: where one does, what was written is a part of
-- the whole line; where none does, all of it. Each exit is put together by the laws of writing (`writes_compose`), with
-- the text nested to the right.
use Rattle.board_report.specs.Parts.{call_line}
use Rattle.board_report.proofs.trace.write_call_line.Goals as goal

pub returns-in_err-write_head : goal.returns-in_err-write_head
unfolding call_line
returns-in_err-write_head g c =
    let law = c.writes_compose.ensures in
    law.writes_part _ c.from_residual.ensures.0 (law.part_of_more _ c.in_err-write_head.ensures)

pub returns-in_err-put_number : goal.returns-in_err-put_number
unfolding call_line
returns-in_err-put_number g c =
    let law = c.writes_compose.ensures in
    let head = c.in_ok-write_head.ensures in
    let e = c.in_err-put_number.ensures in
    law.writes_part _ c.from_residual-in_err-put_number.ensures.0 (law.all_then_part head (law.part_of_more _
    (rw c.from.ensures at e)))

pub returns-in_err-write_registers : goal.returns-in_err-write_registers
unfolding call_line
returns-in_err-write_registers g c =
    let law = c.writes_compose.ensures in
    let head = c.in_ok-write_head.ensures in
    let class = c.in_ok-put_number.ensures in
    law.writes_part _ c.from_residual-in_err-write_registers.ensures.0 (law.all_then_part head (law.all_then_part
    (rw c.from.ensures at class) (law.part_of_more _ c.in_err-write_registers.ensures)))

pub returns-in_err-write_reply : goal.returns-in_err-write_reply
unfolding call_line
returns-in_err-write_reply g c =
    let law = c.writes_compose.ensures in
    let head = c.in_ok-write_head.ensures in
    let class = c.in_ok-put_number.ensures in
    let arguments = c.in_ok-write_registers.ensures in
    law.writes_part _ c.from_residual-in_err-write_reply.ensures.0 (law.all_then_part head (law.all_then_part
    (rw c.from.ensures at class) (law.all_then_part arguments (law.part_of_more _ c.in_err-write_reply.ensures))))

pub returns : goal.returns
unfolding call_line
returns g c =
    let law = c.writes_compose.ensures in
    let head = c.in_ok-write_head.ensures in
    let class = c.in_ok-put_number.ensures in
    let arguments = c.in_ok-write_registers.ensures in
    let reply = c.in_ok-write_reply.ensures in
    law.all_then_writes _ _ _ head (law.all_then_writes _ _ _ (rw c.from.ensures at class)
    (law.all_then_writes _ _ _ arguments (law.all_then_writes _ _ _ reply c.write_refusal.ensures)))
