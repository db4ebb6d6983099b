-- Whether anything is left to do for a slot.
use Rattle.std.proofs.Common.{◌≡◌, Bool, true, false, cond, map, Option, None, Some, is_some, refl, ap, ◌∙◌, ◌||◌}
use Rattle.tk_base.specs.declared.process.Dev.{Dev}
use Rattle.tk_base.specs.declared.process.Dev.TheVariants.{Event, Alarm, Uart, Receive, Random, Store}
use Rattle.turn_scheduler.specs.RoundRobin.{device_order, ready_device}

is_found : (b : Bool) (device : Dev) (later : Option Dev) → is_some (cond b (Some device) later) ≡ (b || is_some later)
is_found true device later = refl
is_found false device later = refl

last_found : (b : Bool) → (b || false) ≡ b
last_found true = refl
last_found false = refl

in_two : (a b c d : Bool) → (a || (b || (c || d))) ≡ ((a || (b || c)) || d)
in_two true b c d = refl
in_two false true c d = refl
in_two false false true d = refl
in_two false false false d = refl

-- some device step is ready where one of them is
pub one_is_ready : (ready : Dev → Bool) → is_some (ready_device (map ready device_order))
    ≡ ((ready Event || (ready Alarm || ready Uart)) || (ready Receive || (ready Random || ready Store)))
unfolding ready_device
one_is_ready ready =
    is_found (ready Event) Event _ ∙ ap (λ (b : Bool). ready Event || b)
    (is_found (ready Alarm) Alarm _ ∙ ap (λ (b : Bool). ready Alarm || b)
    (is_found (ready Uart) Uart _ ∙ ap (λ (b : Bool). ready Uart || b)
    (is_found (ready Receive) Receive _ ∙ ap (λ (b : Bool). ready Receive || b)
    (is_found (ready Random) Random _ ∙ ap (λ (b : Bool). ready Random || b)
    (is_found (ready Store) Store None ∙ last_found (ready Store))))))
    ∙ in_two (ready Event) (ready Alarm) (ready Uart) (ready Receive || (ready Random || ready Store))
