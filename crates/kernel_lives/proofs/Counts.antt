-- Time, steps and turns add up, by induction on the choices. One choice adds one step, and either a turn of one
-- process, no time, or ticks (`OneMore`): a turn that is ready counts, by the walk of `Changes`, and answers and acts
-- count nothing. That a ready device finds whom it serves needs that who waits is there, which each step keeps.
use Rattle.std.proofs.Common.{◌≡◌, ◌<◌, ℕ, zero, suc, ◌+◌, ◌==◌, Bool, true, not, nat_lt, List, []}
use Rattle.std.proofs.Common.{◌∷◌}
use Rattle.std.proofs.Common.{◌++◌, length, slice_get, slice_set, Option, None, Some, is_some, refl, sym, ap}
use Rattle.std.proofs.Common.{◌∙◌, arith, map}
use Rattle.std.specs.Prelude.{All}
use Rattle.tk_base.specs.declared.process.Verb.{Verb}
use Rattle.std.proofs.lemmas.Bool.{false≢true, and_parts}
use Rattle.std.proofs.lemmas.List.{length-map}
use Rattle.std.proofs.lemmas.Option.{slice_get_within}
use Rattle.std.proofs.lemmas.List.Elements.{All-nil, All-cons, All-append, All-filter, All-head}
use Rattle.tk_base.specs.declared.limits.TheConstants.{STEP_LIMIT}
use Rattle.tk_base.specs.declared.process.Choice.{Choice}
use Rattle.tk_base.specs.declared.process.Choice.TheVariants.{Run, Device, Pass}
use Rattle.tk_base.specs.declared.process.Dev.{Dev}
use Rattle.tk_base.specs.declared.process.Dev.TheVariants as dev
use Rattle.board_devices.specs.Arriving.{is_time}
use Rattle.script_text.specs.Settings.{ScriptEvent as Arrival}
use Rattle.board_devices.specs.Arriving.{differs}
use Rattle.process_model.specs.Own.{Own}
use Rattle.driver_model.specs.Alarm.{due_for}
use Rattle.driver_model.specs.Laws.{DueSlotIsThere}
use Rattle.driver_model.specs.Commands.{BoardRequest, Waits, Leaves, Lights, QueueName, Writes, Reads, Randoms, Stores}
use Rattle.driver_model.specs.Commands.{is_same}
use Rattle.driver_model.specs.Services.{OfEachService}
use Rattle.kernel_model.specs.Record.{Record}
use Rattle.kernel_model.specs.declared.settings.Settings.{Settings}
use Rattle.kernel_model.specs.Calls.{restart}
use Rattle.kernel_model.specs.Turn.{Event, apply, may_turn, operated, turned}
use Rattle.kernel_model.specs.Laws.{edge_heard, queue_after_answer}
use Rattle.kernel_model.specs.World.{DeviceAnswer, DeviceStep, Devices, Stepped, World, acted, after}
use Rattle.kernel_model.specs.Parts.{alarmed}
use Rattle.kernel_model.specs.Parts.{acts_of}
use Rattle.kernel_model.specs.World.{arrived, can_act, carried_out, device_step_of, done, is_ready}
use Rattle.kernel_model.specs.World.{may_be_made, now_in, owns_in, queue_without}
use Rattle.kernel_model.specs.Parts.{is_waited_for}
use Rattle.kernel_model.specs.World.{random_step, receive_step, routed, serving, storing, transmitting}
use Rattle.kernel_model.specs.Named.{slots_in}
use Rattle.kernel_model.specs.World.{lane_in, may_serve, only_in, with_queue}
use Rattle.kernel_model.specs.Choices.{are_ready}
use Rattle.kernel_lives.specs.Counts.{CountsAddUp, WaitingAreThere, ticks_passed, turns_made, turns_of_all}
use Rattle.kernel_lives.proofs.Changes.{IsKept, after_turn}
use Rattle.kernel_model.proofs.Restarts.{restart_by}
use Rattle.kernel_model.proofs.Steps.{IsAnswer, answer_changes, of_answers, of_operated}
use Rattle.kernel_laws.proofs.Turns.{step_same}
use Rattle.kernel_model.proofs.Places.{queue_with, stepped_ready}
use Rattle.kernel_model.proofs.Told.{of_coming}
use Rattle.std.proofs.Common.{inl, inr}
use Rattle.std.proofs.lemmas.Bool.{cond_both}
use Rattle.std.proofs.lemmas.Option.{gets}
use Rattle.kernel_model.proofs.Places.{same_some}
use Rattle.kernel_lives.proofs.Changes.{none_or_one}

-- a turn counts, where it can be had
abbrev Any : Own → Own → Type 0
Any a b = Unit {0}

any_service : OfEachService Any
any_service = omega arith

abbrev Made : ℕ → Record → Type 0
Made n r = r.process.turns ≡ n

turns_again : (n : ℕ) (r : Record) → Made n r → Made n (restart r)
turns_again n r h = restart_by (Made n) r h (λ header m is main. h)

turns_kept : (n : ℕ) → IsKept Any (Made n) (Made n)
turns_kept n = record {
  done = λ r h. h;
  goes = λ r regs state refusal same h. h;
  serves = λ r o storage pressed s h. h;
  hands = λ r swap may h. h;
  moves = λ r new may h. h;
  bytes = λ r ram inbox as_many takes h. h;
  ends = λ r state denial over h. h;
  again = turns_again n;
  faults_again = λ r denial h. turns_again n _ h;
}

-- a turn of a process that may have one counts
pub turn_counts : (settings : Settings) (time : ℕ) (r : Record) → may_turn r ≡ true
    → (turned settings time r).after.process.turns ≡ r.process.turns + 1
turn_counts settings time r may =
    after_turn Any any_service (Made (r.process.turns + 1)) (Made (r.process.turns + 1))
    (turns_kept (r.process.turns + 1)) settings time r
    (λ none. absurd (false≢true (sym none ∙ may))) refl refl

pub answer_counts : (settings : Settings) (event : Event) (r : Record) → IsAnswer event
    → (apply settings event r).process.turns ≡ r.process.turns
answer_counts settings event r is = ap (λ (x : Record). x.process.turns) (answer_changes settings event r is)

pub act_counts : (verb : Verb) (r : Record) → (operated verb r).process.turns ≡ r.process.turns
act_counts verb r =
    of_operated (λ ended s. s.process.turns ≡ r.process.turns) r refl (λ held. refl) (λ lives. refl)
    (turns_again r.process.turns r refl) verb

-- the turns of all, where one record is another
turns_set : (rs : List Record) (i : ℕ) (r s : Record) → slice_get rs i ≡ Some r
    → turns_of_all (slice_set rs i s) + r.process.turns ≡ turns_of_all rs + s.process.turns
turns_set [] i r s is = absurd (cc)
turns_set (x ∷ rs) zero r s is = omega (arith, ap (λ (y : Record). y.process.turns) (same_some x r is))
turns_set (x ∷ rs) (suc i) r s is = let rest = turns_set rs i r s is in omega (arith, rest)

-- who waits is there
abbrev AreThere : ℕ → Devices → Type 0
AreThere n d = (queue : QueueName) → All (λ slot. slot < n) (slots_in queue d.waiting)

joins : (n slot : ℕ) (line : List ℕ) → slot < n → All (λ s. s < n) line → All (λ s. s < n) (line ++ slot ∷ [])
joins n slot line less all =
    All-append (λ s. s < n) line (slot ∷ []) all (All-cons (λ s. s < n) slot [] less (All-nil (λ s. s < n)))

leaves : (n slot : ℕ) (line : List ℕ) → All (λ s. s < n) line → All (λ s. s < n) (queue_without slot line)
leaves n slot line all = All-filter (λ s. not (s == slot)) (λ s. s < n) line all

left : (n slot : ℕ) (completed : Bool) (line : List ℕ) → All (λ s. s < n) line
    → All (λ s. s < n) (queue_after_answer completed slot line)
left n slot completed line all =
    cond_both completed _ _ (All (λ s. s < n)) (λ e. leaves n slot line all) (λ e. all)

-- where one queue changes
queue_there : (n : ℕ) (name : QueueName) (change : List ℕ → List ℕ) (d : Devices)
    → ((slots : List ℕ) → All (λ slot. slot < n) slots → All (λ slot. slot < n) (change slots)) → AreThere n d
    → AreThere n (with_queue name change d)
queue_there n name change d all h queue =
    rw (queue_with queue name change d)
    (cond_both (is_same name queue) _ _ (All (λ slot. slot < n)) (λ e. all _ (h queue)) (λ e. h queue))

acted_there : (n slot : ℕ) (act : BoardRequest) (d : Devices) → slot < n → AreThere n d → AreThere n (acted slot act d)
acted_there n slot (Waits queue) d less h =
    queue_there n queue (λ slots. slots ++ slot ∷ []) d (λ slots. joins n slot slots less) h
acted_there n slot (Leaves queue) d less h = queue_there n queue (queue_without slot) d (leaves n slot) h
acted_there n slot (Lights led switch) d less h = h

routed_there : (n slot : ℕ) (acts : List BoardRequest) (d : Devices) → slot < n → AreThere n d
    → AreThere n (routed slot acts d)
routed_there n slot [] d less h = h
routed_there n slot (act ∷ acts) d less h =
    routed_there n slot acts (acted slot act d) less (acted_there n slot act d less h)

-- a device that can act does so, and those that wait then are there
unfoldable IsMade : ℕ → Option DeviceStep → Type 0
IsMade n None = ⊥
IsMade n (Some deed) = AreThere n deed.devices

module _ (law : DueSlotIsThere) (w : World) (h : AreThere (length w.records) w.devices) where
  made_there : (make : ℕ → Record → DeviceAnswer) (slot : ℕ) → slot < length w.records
      → ((slot : ℕ) (r : Record) → AreThere (length w.records) (make slot r).devices)
      → IsMade (length w.records) (serving w.records make (Some slot))
  unfolding IsMade
  made_there make slot there each =
      elim (none_or_one (slice_get w.records slot)) [
        | inl e ↦ absurd (grind (arith, gets))
        | inr (r, e) ↦ rw e (each slot r)
      ]

  first_made : (make : ℕ → Record → DeviceAnswer) (line : List ℕ) → All (λ s. s < length w.records) line
      → is_waited_for line ≡ true → ((slot : ℕ) (r : Record) → AreThere (length w.records) (make slot r).devices)
      → IsMade (length w.records) (serving w.records make (slice_get line 0))
  unfolding IsMade
  first_made make [] all waits each = false≢true waits
  first_made make (slot ∷ rest) all waits each =
      made_there make slot (All-head (λ s. s < length w.records) slot rest all) each

  arrival_made : (arrivals : List Arrival) → is_time w.clock.time arrivals ≡ true
      → IsMade (length w.records) (arrived w.records w.devices arrivals)
  unfolding IsMade
  arrival_made [] e = false≢true e
  arrival_made (a ∷ rest) e =
      of_coming (λ deed. AreThere (length w.records) deed.devices) w (record w.devices { arrivals = rest }) (record {
        bytes = λ bytes. h;
        edges = λ button pressed. h;
        nobody = h;
        acts = λ verb slot r is.
            routed_there (length w.records) slot (acts_of verb r) (record w.devices { arrivals = rest })
            (slice_get_within w.records slot r is) h;
      }) a.kind

  alarm_made : (due : Option ℕ) → ((slot : ℕ) → due ≡ Some slot → slot < length w.records) → is_some due ≡ true
      → IsMade (length w.records) (serving w.records (λ slot r. alarmed w.settings w.clock.time w.devices) due)
  unfolding IsMade
  alarm_made None there e = false≢true e
  alarm_made (Some slot) there e =
      made_there (λ slot r. alarmed w.settings w.clock.time w.devices) slot (there slot refl) (λ slot r. h)

  left_there : (name : QueueName) (slot : ℕ) (completed : Bool)
      → AreThere (length w.records) (with_queue name (queue_after_answer completed slot) w.devices)
  left_there name slot completed =
      queue_there (length w.records) name (queue_after_answer completed slot) w.devices
      (left (length w.records) slot completed) h

  -- those that wait and may be served are there
  abbrev served : QueueName → List ℕ
  served queue = may_serve (only_in w) (slots_in queue w.devices.waiting)

  served_there : (queue : QueueName) → All (λ s. s < length w.records) (served queue)
  served_there queue =
      elim (none_or_one (only_in w)) [
        | inl e ↦ rw e (h queue)
        | inr (only, e) ↦ rw e (All-filter (λ slot. slot == only) (λ s. s < length w.records) _ (h queue))
      ]

  deed_made : (device : Dev) → can_act w device ≡ true → IsMade (length w.records) (device_step_of w device)
  deed_made dev.Event e = arrival_made w.devices.arrivals e
  deed_made dev.Alarm e =
      alarm_made (due_for (only_in w) (now_in w) (owns_in w))
      (λ slot due. omega (arith, law (only_in w) (now_in w) slot (owns_in w) due, length-map w.records (λ r. r.own))) e
  deed_made dev.Uart e =
      first_made (transmitting (lane_in w) w.clock.time w.devices) (served Writes) (served_there Writes)
      (and_parts _ _ e).0
      (λ slot r. left_there Writes slot _)
  deed_made dev.Receive e =
      first_made (receive_step (lane_in w) w.devices) (served Reads) (served_there Reads) (and_parts _ _ e).0
      (λ slot r. left_there Reads slot _)
  deed_made dev.Random e =
      first_made (random_step (lane_in w) w.devices) (served Randoms) (served_there Randoms) e
      (λ slot r. left_there Randoms slot _)
  deed_made dev.Store e =
      first_made (storing (lane_in w) w.devices) (served Stores) (served_there Stores) e
      (λ slot r. left_there Stores slot _)

-- an edge leaves the turns, and so does an answer
edge_turns : (button : ℕ) (pressed : Bool) (rs : List Record)
    → turns_of_all (map (edge_heard button pressed) rs) ≡ turns_of_all rs
edge_turns button pressed [] = refl
edge_turns button pressed (r ∷ rs) =
    rw (edge_turns button pressed rs) (cond_both (differs r.pressed button pressed) _ _
    (λ (s : Record). s.process.turns + turns_of_all rs ≡ r.process.turns + turns_of_all rs) (λ e. refl) (λ e. refl))

told_turns : (w : World) (device : Dev)
    → turns_of_all (done w (device_step_of w device)).after.records ≡ turns_of_all w.records
unfolding apply
told_turns w device =
    of_answers w (λ (s : Stepped). turns_of_all s.after.records ≡ turns_of_all w.records) refl (λ devices. refl)
    (λ button pressed devices. edge_turns button pressed w.records)
    (λ slot r there a is. omega (
      arith,
      turns_set w.records slot r (apply w.settings a.answer.event r) there,
      answer_counts w.settings a.answer.event r is,
    ))
    (λ verb devices slot r there. omega (arith, turns_set w.records slot r (operated verb r) there, act_counts verb r))
    device

-- what one choice that is ready adds
record OneMore (w : World) (c : Choice) (v : World) : Type 0 where
  time : v.clock.time ≡ w.clock.time + (turns_made (c ∷ []) + ticks_passed (c ∷ []))
  steps : v.clock.steps ≡ w.clock.steps + 1
  sum : turns_of_all v.records ≡ turns_of_all w.records + turns_made (c ∷ [])
  waiting : AreThere (length w.records) v.devices

one_more : DueSlotIsThere → (w : World) (c : Choice) → AreThere (length w.records) w.devices → is_ready w c ≡ true
    → OneMore w c (carried_out w c).after
unfolding carried_out may_be_made IsMade
one_more law w (Run slot) h ready =
    elim (none_or_one (slice_get w.records slot)) [
      | inl e ↦ absurd (false≢true (rw e at (and_parts (nat_lt w.clock.steps STEP_LIMIT) _ ready).1))
      | inr (r, e) ↦
          let t = turned w.settings w.clock.time r in
          let can = rw e at (and_parts (nat_lt w.clock.steps STEP_LIMIT) _ ready).1 in
          rw e (record {
            time = omega arith;
            steps = refl;
            sum = omega (arith, turns_set w.records slot r t.after e, turn_counts w.settings w.clock.time r can);
            waiting = routed_there (length w.records) slot t.acts w.devices (slice_get_within w.records slot r e) h;
          })
    ]
one_more law w (Device device) h ready =
    by_deed (device_step_of w device)
    (deed_made law w h device (and_parts (nat_lt w.clock.steps STEP_LIMIT) _ ready).1) (told_turns w device)
  where
    by_deed : (o : Option DeviceStep) → IsMade (length w.records) o
        → turns_of_all (done w o).after.records ≡ turns_of_all w.records → OneMore w (Device device) (done w o).after
    by_deed None made same = absurd made
    by_deed (Some deed) made same = record {
      time = omega arith;
      steps = refl;
      sum = omega (arith, same);
      waiting = made;
    }
one_more law w (Pass ticks) h ready = record { time = omega arith; steps = refl; sum = omega arith; waiting = h }

-- the first of some choices adds what it adds alone
one_first : (c : Choice) (choices : List Choice)
    → (turns_made (c ∷ choices) ≡ turns_made (c ∷ []) + turns_made choices)
    × (ticks_passed (c ∷ choices) ≡ ticks_passed (c ∷ []) + ticks_passed choices)
one_first (Run slot) choices = (omega arith, omega arith)
one_first (Device device) choices = (omega arith, omega arith)
one_first (Pass ticks) choices = (omega arith, omega arith)

pub counts_add_up : DueSlotIsThere → CountsAddUp
counts_add_up law w [] h ready = record { time = omega arith; steps = omega arith; turns = omega arith; waiting = h }
counts_add_up law w (c ∷ choices) h ready =
    let tests = and_parts (is_ready w c) (are_ready (after w c) choices) ready in
    let one : OneMore w c (after w c) = rw (stepped_ready w c tests.0, after) (one_more law w c h tests.0) in
    let there : WaitingAreThere (after w c) = rw (step_same w c).records one.waiting in
    let rest = counts_add_up law (after w c) choices there tests.1 in
    let first = one_first c choices in
    record {
      time = omega (arith, first.0, first.1, one.time, rest.time);
      steps = omega (arith, one.steps, rest.steps);
      turns = omega (arith, first.0, one.sum, rest.turns);
      waiting = rest.waiting;
    }
