use Rattle.std.proofs.Common.{◌≡◌, false, is_ok, ap, sym, subst, ◌∙◌, rules}
use Rattle.process_layout.specs.LayoutView.{LayoutView}
use Rattle.process_seat.specs.Seats.{Reseats, own_in}
use Rattle.process_seat.proofs.Entering.{breaks_told, same_room}
use Rattle.process_seat.proofs.Handed.{hand_reseats, own_handed}
use Rattle.process_seat.proofs.handing.hand_at.Goals as goal

pub returns-clause-handed : goal.returns-clause-handed
returns-clause-handed c =
    ap (λ (e : LayoutView). own_in c.swap_in.new.memory.ram
    (record c.args.seat.now { layout = e; inbox = c.note_handed.new.inbox })) c.note_handed.ensures.layout
    ∙ own_handed c.args.memory.now c.args.seat.now c.requires.sits c.args.handover c.swap_in.new.memory
    c.swap_in.new.layout
    c.in_ok-former.former c.in_ok-former.ensures.swapped c.note_handed.new.inbox c.note_handed.ensures.inbox

pub returns-clause-reseats : goal.returns-clause-reseats
returns-clause-reseats c =
    subst (λ (e : LayoutView). Reseats c.args.memory.now c.args.seat.now c.swap_in.new.memory
    (record c.args.seat.now { layout = e; inbox = c.note_handed.new.inbox })) (sym c.note_handed.ensures.layout)
    (hand_reseats c.args.memory.now c.args.seat.now c.requires.sits c.args.handover c.swap_in.new.memory
    c.swap_in.new.layout
    c.in_ok-former.former c.in_ok-former.ensures.swapped c.note_handed.new.inbox c.pairs_stand_by_kind.ensures
    c.requires.pair c.requires.may)

pub returns-clause-room : goal.returns-clause-room
returns-clause-room c =
    c.in_ok-former.ensures.room ∙ same_room c.args.handover.driver c.args.memory.now c.args.seat.now c.requires.sits

pub returns-in_err-former-clause-room : goal.returns-in_err-former-clause-room
returns-in_err-former-clause-room c =
    let refused : is_ok c.from_residual.result ≡ false = search rules in
    refused ∙ c.in_err-former.ensures.room
    ∙ same_room c.args.handover.driver c.args.memory.now c.args.seat.now c.requires.sits

pub returns-in_err-former-clause-breaks : goal.returns-in_err-former-clause-breaks
returns-in_err-former-clause-breaks c =
    let told = breaks_told c.args.memory.now c.args.seat.now c.requires.sits c.in_err-former.field-0.0
    c.in_err-former.ensures.breaks in
    search (rules, told)
