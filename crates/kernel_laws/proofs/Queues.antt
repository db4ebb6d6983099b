-- That queues are first come, first served, by what a turn, an answer and an operator's act do to them. A turn asks the
-- board for one thing at most, or leaves all queues (`MovesOne`), and an answer takes out the one that was answered; so
-- of each queue one slot joined or left it, or nothing changed. Who is answered is the first.
use Rattle.std.proofs.lemmas.Bool.{cond_both}
use Rattle.std.proofs.Common.{◌≡◌, ◌⊎◌, inl, inr, ℕ, Bool, true, false, cond, List, [], ◌∷◌, ◌++◌, Option}
use Rattle.std.proofs.Common.{None, Some, slice_get, unwrap_or, refl, sym, ap, subst, ◌∙◌, arith}
use Rattle.std.specs.Prelude.{All}
use Rattle.std.specs.Option.{option_map}
use Rattle.std.proofs.lemmas.List.Elements.{All-nil, All-cons}
use Rattle.tk_base.specs.declared.process.Verb.{Verb}
use Rattle.grant_values.specs.declared.drivers.Driver.{Driver}
use Rattle.process_model.specs.Own.{Own}
use Rattle.process_record.specs.Operator.{ends_by}
use Rattle.rv32_model.specs.Laws.{CallsAreOfEcall}
use Rattle.driver_model.specs.Asked.{AskTheirOwn, OneOf}
use Rattle.driver_model.specs.Drivers.{CommandContext, CommandHandler, handler_by}
use Rattle.tk_base.specs.declared.process.Choice.{Choice}
use Rattle.tk_base.specs.declared.process.Choice.TheVariants.{Run, Device, Pass}
use Rattle.tk_base.specs.declared.process.Dev.{Dev}
use Rattle.driver_model.specs.Commands.{BoardRequest, QueueName, Writes, Reads, Randoms, Stores, Waits, Leaves, On, Off}
use Rattle.driver_model.specs.Commands.{Lights}
use Rattle.driver_model.specs.Commands.{is_same, leaving_all, Switch}
use Rattle.driver_model.specs.Console as console
use Rattle.kernel_model.specs.Record.{Record, flash_of}
use Rattle.kernel_model.specs.declared.settings.Settings.{Settings}
use Rattle.kernel_model.specs.Turn.{NoWord, Taken, Word, WriteDone, surroundings, turn_counted, turned}
use Rattle.kernel_model.specs.World.{Answer, DeviceAnswer, Devices, Label, Stepped, World, after_answer, answer_label}
use Rattle.kernel_model.specs.World.{with_queue, carried_out, device_step_of, done, lane_in, operating, queue_without}
use Rattle.kernel_model.specs.World.{ran, random_step, receive_step, routed, storing, telling_edge, transmitting}
use Rattle.kernel_model.specs.World.{only_in, may_serve}
use Rattle.kernel_model.specs.Parts.{acts_of, alarmed}
use Rattle.kernel_model.specs.Laws.{one_answered}
use Rattle.kernel_model.specs.Named.{slots_in}
use Rattle.kernel_model.proofs.Places.{of_stepped, queue_with, same_name}
use Rattle.kernel_model.proofs.Told.{edge_answer, of_device, told_labels, with_rest}
use Rattle.kernel_laws.specs.Queues.{ChangesByOne, FirstAreServed, IsOfFirst, JoinsOrLeaves, QueuesKeepOrder}
use Rattle.kernel_laws.specs.Queues.{queue_for}
use Rattle.kernel_laws.proofs.Between.{of_turn}
use Rattle.kernel_model.proofs.Calling.{of_served}
use Rattle.kernel_model.proofs.Yields.{kept_by_yield}
use Rattle.kernel_model.proofs.Commands.{handled}
use Rattle.kernel_model.proofs.Labels.{labels_by_device}
use Rattle.grant_values.specs.declared.drivers.Driver.TheVariants.{Alarm, Buttons, Console, Leds, Random, Storage}
use Rattle.driver_model.specs.Commands.{Toggle}

-- a queue in which nothing changed, or one slot came as the last one, or one went
abbrev Moves : ℕ → List ℕ → List ℕ → Type 0
Moves slot before later = (later ≡ before) ⊎ JoinsOrLeaves slot before later

-- where one queue changes in such a way, each does
changed : (queue name : QueueName) (change : List ℕ → List ℕ) (slot : ℕ) (d : Devices)
    → Moves slot (slots_in name d.waiting) (change (slots_in name d.waiting))
    → Moves slot (slots_in queue d.waiting) (slots_in queue (with_queue name change d).waiting)
changed queue name change slot d moves =
    rw (queue_with queue name change d)
    (cond_both (is_same name queue) _ _ (Moves slot (slots_in queue d.waiting))
    (λ same. rw (same_name name queue same) at moves) (λ apart. inl refl))

-- what a turn asks of the board moves it so, where it asks one thing at most, or leaves all queues
abbrev MovesOne : List BoardRequest → Type 0
MovesOne acts =
    (queue : QueueName) (slot : ℕ) (d : Devices)
    → Moves slot (slots_in queue d.waiting) (slots_in queue (routed slot acts d).waiting)

asks_none : MovesOne []
asks_none queue slot d = inl refl

asks_waits : (name : QueueName) → MovesOne (Waits name ∷ [])
asks_waits name queue slot d = changed queue name (λ slots. slots ++ slot ∷ []) slot d (inr (inl refl))

asks_leaves : (name : QueueName) → MovesOne (Leaves name ∷ [])
asks_leaves name queue slot d = changed queue name (queue_without slot) slot d (inr (inr refl))

asks_lights : (led : ℕ) (switch : Switch) → MovesOne (Lights led switch ∷ [])
asks_lights led switch queue slot d = inl refl

leaves_all : MovesOne leaving_all
leaves_all Writes slot d = inr (inr refl)
leaves_all queue slot d = inr (inr refl)

so : (acts others : List BoardRequest) → acts ≡ others → MovesOne others → MovesOne acts
so acts others same moves = subst MovesOne (sym same) moves

-- one of some that do
abbrev AllMove : List (List BoardRequest) → Type 0
AllMove [] = Unit {0}
AllMove (acts ∷ others) = MovesOne acts × AllMove others

one_moves : (acts : List BoardRequest) (all : List (List BoardRequest)) → OneOf acts all → AllMove all → MovesOne acts
one_moves acts [] one moves = absurd one
one_moves acts (first ∷ others) (inl e) moves = so acts first e moves.0
one_moves acts (first ∷ others) (inr one) moves = one_moves acts others one moves.1

module _ (asked : AskTheirOwn) where
  of_driver : (d : Driver) (around : CommandContext) (number x y : ℕ) (own : Own)
      → MovesOne (handler_by d around number x y own).acts
  of_driver Alarm around number x y own = so _ [] (asked.alarm around.now number x y own) asks_none
  of_driver Buttons around number x y own =
      so _ [] (asked.buttons around.buttons around.pressed number x own) asks_none
  of_driver Console around number x y own =
      one_moves _ ([] ∷ (Waits Writes ∷ []) ∷ (Waits Reads ∷ []) ∷ (Leaves Reads ∷ []) ∷ [])
      (asked.console number x own)
      (asks_none, (asks_waits Writes, (asks_waits Reads, (asks_leaves Reads, tt))))
  of_driver Leds around number x y own =
      one_moves _ ([] ∷ (Lights x On ∷ []) ∷ (Lights x Off ∷ []) ∷ (Lights x Toggle ∷ []) ∷ [])
      (asked.leds around.leds number x own)
      (asks_none, (asks_lights x On, (asks_lights x Off, (asks_lights x Toggle, tt))))
  of_driver Random around number x y own =
      one_moves _ ([] ∷ (Waits Randoms ∷ []) ∷ []) (asked.random number x own) (asks_none, (asks_waits Randoms, tt))
  of_driver Storage around number x y own =
      one_moves _ ([] ∷ (Waits Stores ∷ []) ∷ []) (asked.storage around.storage number x y own)
      (asks_none, (asks_waits Stores, tt))

  of_turns : CallsAreOfEcall → (settings : Settings) (time : ℕ) (r : Record) → MovesOne (turned settings time r).acts
  of_turns of_ecall settings time r =
      of_turn of_ecall settings time r (λ t. MovesOne t.acts) (record {
        nothing = asks_none;
        went = λ t is. asks_none;
        faults = λ t denial is. leaves_all;
        makes = λ accesses form is runs.
            of_served (λ s. MovesOne s.acts) (surroundings settings time (turn_counted r)) (turn_counted r)
            settings.strict form (record {
              refused = λ rule. asks_none;
              same = λ reply. asks_none;
              moved = λ new reply may. asks_none;
              swapped = λ swap reply may. asks_none;
              yields = λ number x y same. so _ [] (kept_by_yield (turn_counted r) number x y).acts asks_none;
              commands = λ driver number x y taker same there.
                  handled (λ (t : CommandHandler). MovesOne (t (surroundings settings time (turn_counted r)) number x y
                  r.own).acts) driver taker there
                  (λ d is. of_driver d (surroundings settings time (turn_counted r)) number x y r.own);
              ends = λ kind code same. leaves_all;
              again = λ kind code same. leaves_all;
            });
        delivers = λ next is yielded. asks_none;
      })

-- so of the one label of a step
named : (slot : ℕ) (label : Label) (before later : List ℕ) → label.slot ≡ slot → Moves slot before later
    → ChangesByOne (label ∷ []) before later
named slot label before later same (inl e) = inl e
named slot label before later same (inr moves) =
    inr (0, label, omega arith, refl, subst (λ (n : ℕ). JoinsOrLeaves n before later) (sym same) moves)

module _ (asked : AskTheirOwn) (of_ecall : CallsAreOfEcall) (w : World) (queue : QueueName) where
  abbrev Keeps : Stepped → Type 0
  Keeps s =
      ChangesByOne s.labels (slots_in queue w.devices.waiting) (slots_in queue s.after.devices.waiting)

  answered : (name : QueueName) (completed : Bool) (slot : ℕ) (label : Label) → label.slot ≡ slot
      → ChangesByOne (label ∷ []) (slots_in queue w.devices.waiting)
      (slots_in queue (after_answer name completed slot w.devices).waiting)
  answered name completed slot label same =
      named slot label _ _ same (changed queue name (λ slots. cond completed (queue_without slot slots) slots) slot
      w.devices (cond_both completed _ _ (Moves slot (slots_in name w.devices.waiting)) (λ e. inr (inr refl))
      (λ e. inl refl)))

  acting : (verb : Verb) (slot : ℕ) (r : Record) → MovesOne (acts_of verb r)
  acting verb slot r =
      cond_both (ends_by verb r.process) leaving_all [] MovesOne (λ e. leaves_all) (λ e. asks_none)

  of_devices : (device : Dev) → Keeps (done w (device_step_of w device))
  of_devices device = of_device w Keeps (record {
    none = inl refl;
    arrives = λ bytes rest. inl refl;
    edges = λ button pressed rest. inl refl;
    nobody = λ rest. inl refl;
    acts = λ verb rest slot r is.
        named slot _ _ _ refl (acting verb slot r queue slot (with_rest w.devices rest));
    alarms = λ slot r first is. inl refl;
    sends = λ slot r first is. answered Writes (console.sent (flash_of r) r.own).completed slot _ refl;
    receives = λ slot r first is. answered Reads _ slot _ refl;
    draws = λ slot r first is. answered Randoms _ slot _ refl;
    stores = λ slot r first is. answered Stores _ slot _ refl;
  }) device

  of_ran : (slot : ℕ) (o : Option Record) → Keeps (ran w slot o)
  of_ran slot None = inl refl
  of_ran slot (Some r) =
      named slot _ _ _ refl (of_turns asked of_ecall w.settings w.clock.time r queue slot w.devices)

  of_choice : (choice : Choice) → Keeps (carried_out w choice)
  unfolding carried_out
  of_choice (Run slot) = of_ran slot (slice_get w.records slot)
  of_choice (Device device) = of_devices device
  of_choice (Pass ticks) = inl refl

pub queues_keep_order : AskTheirOwn → CallsAreOfEcall → QueuesKeepOrder
queues_keep_order asked of_ecall w choice queue =
    of_stepped (Keeps asked of_ecall w queue) w choice (inl refl) (λ ready. of_choice asked of_ecall w queue choice)

-- who is served: a device tells one process something, and that is the first of its queue
module _ (w : World) where
  abbrev Serves : Stepped → Type 0
  Serves s = All (IsOfFirst w) s.labels

  none : All (IsOfFirst w) []
  none = All-nil (IsOfFirst w)

  one : (slot : ℕ) (r : Record) (a : DeviceAnswer) → IsOfFirst w (answer_label slot a.answer)
      → Serves (one_answered w slot r a)
  one slot r a is = All-cons (IsOfFirst w) (answer_label slot a.answer) [] is none

  -- the first of a queue
  abbrev IsFirst : QueueName → ℕ → Type 0
  IsFirst queue slot = slice_get (may_serve (only_in w) (slots_in queue w.devices.waiting)) 0 ≡ Some slot

  same_queue : (slot : ℕ) (name queue : QueueName) → Some name ≡ Some queue → IsFirst name slot → IsFirst queue slot
  same_queue slot name queue e first = let is : name ≡ queue = cc in
      subst (λ (q : QueueName). IsFirst q slot) is first

  sent : (slot : ℕ) (b : Bool) (queue : QueueName) → queue_for (cond b WriteDone Taken) ≡ Some queue
      → IsFirst Writes slot → IsFirst queue slot
  sent slot true queue e first = same_queue slot Writes queue e first
  sent slot false queue e first = same_queue slot Writes queue e first

  drawn : (slot : ℕ) (o : Option ℕ) (queue : QueueName) → queue_for (unwrap_or (option_map Word o) NoWord) ≡ Some queue
      → IsFirst Randoms slot → IsFirst queue slot
  drawn slot None queue e first = same_queue slot Randoms queue e first
  drawn slot (Some word) queue e first = same_queue slot Randoms queue e first

  serve_devices : (device : Dev) → Serves (done w (device_step_of w device))
  serve_devices device = of_device w Serves (record {
    none = none;
    arrives = λ bytes rest. none;
    edges = λ button pressed rest.
        told_labels (IsOfFirst w) (telling_edge button pressed w.records w.devices).told 0 w.records
        (λ slot at r a here there is queue e.
        let same = edge_answer button pressed (slice_get w.records at) a is in
        let apart = sym (ap (λ (x : Answer). queue_for x.event) same) ∙ e in absurd (cc));
    nobody = λ rest. none;
    acts = λ verb rest slot r is.
        one slot r (operating verb (with_rest w.devices rest) slot r) (λ queue e. absurd (cc));
    alarms = λ slot r first is. one slot r (alarmed w.settings w.clock.time w.devices) (λ queue e. absurd (cc));
    sends = λ slot r first is. one slot r (transmitting (lane_in w) w.clock.time w.devices slot r)
        (λ queue e. sent slot (console.sent (flash_of r) r.own).completed queue e first);
    receives = λ slot r first is. one slot r (receive_step (lane_in w) w.devices slot r)
        (λ queue e. same_queue slot Reads queue e first);
    draws = λ slot r first is. one slot r (random_step (lane_in w) w.devices slot r)
        (λ queue e. drawn slot _ queue e first);
    stores = λ slot r first is. one slot r (storing (lane_in w) w.devices slot r)
        (λ queue e. same_queue slot Stores queue e first);
  }) device

pub first_are_served : FirstAreServed
first_are_served w =
    labels_by_device (λ s. IsOfFirst w) w (λ slot r is may queue e. absurd (cc)) (serve_devices w)
