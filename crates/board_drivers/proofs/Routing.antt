-- What the drivers show after what a turn asks of them is what the world routes.
use Rattle.std.proofs.Common.{◌≡◌, ℕ, ◌==◌, not, cond, List, [], ◌∷◌, ◌++◌, refl, sym, ap, ◌∙◌}
use Rattle.std.proofs.Common.{inl, inr}
use Rattle.std.proofs.lemmas.Bool.{cases_Bool}
use Rattle.std.proofs.lemmas.List.{map-append}
use Rattle.tk_base.specs.declared.process.ProcessId.{ProcessId}
use Rattle.driver_model.specs.Commands.{BoardRequest, Waits, Leaves, Lights, QueueName, Writes}
use Rattle.driver_model.specs.Commands.{is_same}
use Rattle.tk_base.specs.Bits.{bits_of}
use Rattle.driver_model.specs.Leds.{lit_after, lit_by}
use Rattle.driver_requests.specs.Waiting.{after_act, queue_after, without}
use Rattle.kernel_model.specs.World as world
use Rattle.kernel_model.specs.World.{Devices, acted, routed}
use Rattle.kernel_model.specs.Named.{slots_in}
use Rattle.board_devices.specs.Storage.{StoredSlots}
use Rattle.board_drivers.specs.declared.drivers.Drivers.{Drivers}
use Rattle.board_drivers.specs.Driven.{Drives, devices_of, ids_waiting_in, slots_of, waiting_by}

-- the slots of a list after an act
abbrev slots_by_act : QueueName → ℕ → List ℕ → BoardRequest → List ℕ
slots_by_act here slot slots (Waits line) = cond (is_same line here) (slots ++ slot ∷ []) slots
slots_by_act here slot slots (Leaves line) = cond (is_same line here) (world.queue_without slot slots) slots
slots_by_act here slot slots (Lights led switch) = slots

slots_after : QueueName → ℕ → List ℕ → List BoardRequest → List ℕ
slots_after here slot slots [] = slots
slots_after here slot slots (act ∷ acts) = slots_after here slot (slots_by_act here slot slots act) acts

pub slots_without : (slot : ℕ) (ids : List ProcessId)
    → slots_of (without slot ids) ≡ world.queue_without slot (slots_of ids)
slots_without slot [] = refl
slots_without slot (id ∷ ids) = elim (cases_Bool (id.slot == slot)) [
  | inl is ↦ rw is (slots_without slot ids)
  | inr not ↦ rw (not, slots_without slot ids) refl
]

slots_act : (here : QueueName) (id : ProcessId) (ids : List ProcessId) (act : BoardRequest)
    → slots_of (after_act here id ids act) ≡ slots_by_act here id.slot (slots_of ids) act
slots_act here id ids (Waits line) = elim (cases_Bool (is_same line here)) [
  | inl is ↦ rw is (map-append (λ (x : ProcessId). x.slot) ids (id ∷ []))
  | inr not ↦ rw not refl
]
slots_act here id ids (Leaves line) = elim (cases_Bool (is_same line here)) [
  | inl is ↦ rw is (slots_without id.slot ids)
  | inr not ↦ rw not refl
]
slots_act here id ids (Lights led switch) = refl

slots_acts : (here : QueueName) (id : ProcessId) (ids : List ProcessId) (acts : List BoardRequest)
    → slots_of (queue_after here id ids acts) ≡ slots_after here id.slot (slots_of ids) acts
unfolding slots_after
slots_acts here id ids [] = refl
slots_acts here id ids (act ∷ acts) =
    slots_acts here id (after_act here id ids act) acts
    ∙ ap (λ (xs : List ℕ). slots_after here id.slot xs acts) (slots_act here id ids act)

-- what is put into the table by a queue's name is found there
pub slots_by : (slots : QueueName → List ℕ) (queue : QueueName) → slots_in queue (waiting_by slots) ≡ slots queue
slots_by slots Writes = refl
slots_by slots other = refl

-- devices that hold the same
pub devices_same : (d e : Devices) → ((queue : QueueName) → slots_in queue d.waiting ≡ slots_in queue e.waiting)
    → d.leds ≡ e.leds → d.lines ≡ e.lines → d.arrivals ≡ e.arrivals → d.words ≡ e.words → d.served ≡ e.served
    → d.faults ≡ e.faults → d ≡ e
devices_same d e waiting leds line arrivals words served faults = λ i. record {
  waiting = waiting_by (λ queue. waiting queue i);
  leds = leds i;
  lines = line i;
  arrivals = arrivals i;
  words = words i;
  served = served i;
  faults = faults i;
}

-- one act
abbrev by_act : ℕ → BoardRequest → Devices → Devices
by_act slot act d = record d {
  waiting = waiting_by (λ queue. slots_by_act queue slot (slots_in queue d.waiting) act);
  leds = lit_by act d.leds;
}

acted_is : (slot : ℕ) (act : BoardRequest) (d : Devices) → acted slot act d ≡ by_act slot act d
acted_is slot (Waits Writes) d = refl
acted_is slot (Waits other) d = refl
acted_is slot (Leaves Writes) d = refl
acted_is slot (Leaves other) d = refl
acted_is slot (Lights led switch) d = refl

-- and one after another
routed_is : (slot : ℕ) (acts : List BoardRequest) (d : Devices)
    → routed slot acts d ≡ record d {
      waiting = waiting_by (λ queue. slots_after queue slot (slots_in queue d.waiting) acts);
      leds = lit_after acts d.leds;
    }
unfolding slots_after
routed_is slot [] d = refl
routed_is slot (act ∷ acts) d =
    ap (routed slot acts) (acted_is slot act d) ∙ routed_is slot acts (by_act slot act d)

-- what the drivers show
pub drives_shown : (id : ProcessId) (acts : List BoardRequest) (d d' : Drivers) → Drives id acts d d'
    → devices_of d' ≡ routed id.slot acts (devices_of d)
drives_shown id acts d d' t =
    devices_same (devices_of d') (record (devices_of d) {
      waiting = waiting_by after;
      leds = lit_after acts (bits_of
          d.leds);
    })
    (λ queue. slots_by (λ (q : QueueName). slots_of (ids_waiting_in d' q)) queue ∙ ap slots_of (t.queues queue)
    ∙ slots_acts queue id (ids_waiting_in d queue) acts ∙ sym (slots_by after queue)) t.leds t.lines t.arrivals t.words
    (ap (λ (s : StoredSlots). s.served) t.bytes) (ap (λ (s : StoredSlots). s.faults) t.bytes)
    ∙ sym (routed_is id.slot acts (devices_of d))
  where
    after : QueueName → List ℕ
    after queue = slots_after queue id.slot (slots_of (ids_waiting_in d queue)) acts
