-- A device's step speaks by that device's events, and changes what that device has: each device by what it does for the
-- one that it serves (`of_serving`), and what comes in by its kind. That all else stays computes, where a line or a
-- list of words is put at its place.
use Rattle.kernel_laws.proofs.Cases.{cases_option}
use Rattle.std.proofs.lemmas.Bool.{cond_both}
use Rattle.std.proofs.Common.{◌≡◌, ◌⊎◌, inl, inr, ℕ, zero, suc, Bool, true, false, cond, List, [], ◌∷◌, drop, map}
use Rattle.std.proofs.Common.{slice_get, slice_index_or, slice_set, Option, None, Some, refl, sym, ap, subst}
use Rattle.std.proofs.lemmas.List.Elements.{All-nil, All-cons}
use Rattle.tk_base.specs.declared.process.Choice.TheVariants.{Device}
use Rattle.tk_base.specs.declared.process.Dev.{Dev}
use Rattle.tk_base.specs.declared.process.Dev.TheVariants as dev
use Rattle.script_text.specs.Settings.{ScriptEvent as Arrival, EventKind}
use Rattle.script_text.specs.Settings as script
use Rattle.board_devices.specs.SerialLine.{SerialLine, line_at, with_input}
use Rattle.process_record.specs.Operator.{ends_by}
use Rattle.driver_model.specs.Commands.{leaving_all}
use Rattle.driver_model.specs.Console as console
use Rattle.kernel_model.specs.Record.{Record, flash_of}
use Rattle.kernel_model.specs.Turn.{NoWord, Taken, Word, WriteDone}
use Rattle.kernel_model.specs.World.{Answer, DeviceAnswer, DeviceStep, Devices, Stepped, World, answer_label}
use Rattle.kernel_model.specs.World.{arrived, carried_out, coming_in, device_step_of, done, lane_in}
use Rattle.kernel_model.specs.World.{operating}
use Rattle.kernel_model.specs.World.{random_step, receive_step, routed, serving, storing, telling_edge, telling_nobody}
use Rattle.kernel_model.specs.World.{transmitting, unmade}
use Rattle.kernel_model.specs.Parts.{alarmed, drawn_event, served_by}
use Rattle.kernel_model.specs.Laws.{one_answered}
use Rattle.kernel_model.proofs.Told.{done_one, edge_answer, told_labels, with_rest, of_coming}
use Rattle.kernel_model.proofs.Places.{stepped_ready}
use Rattle.kernel_laws.specs.Devices.{ChangesItsOwn, DevicesChangeTheirOwn, KeepsOthers, SpeaksSo}

-- what holds where none is served, and of what the one gets who is, holds of the step of a device that serves one
pub of_serving : (w : World) (P : Stepped → Type 0) → P (unmade w) → (make : ℕ → Record → DeviceAnswer)
    (served : Option ℕ) → ((slot : ℕ) (r : Record) → served ≡ Some slot → P (one_answered w slot r (make slot r)))
    → P (done w (serving w.records make served))
of_serving w P none make None each = none
of_serving w P none make (Some slot) each =
    elim (cases_option (slice_get w.records slot)) [
      | inl e ↦ rw e none
      | inr r ↦ rw r.1 (subst P (sym (done_one w slot (make slot r.0) r.0 r.1)) (each slot r.0 refl))
    ]

-- what is put at a place of a list is what is then read of that place
put_again : {X : Type 0} (xs : List X) (i : ℕ) (y other : X) (part : X → X) → part y ≡ y
    → slice_set xs i y ≡ slice_set xs i (part (slice_index_or (slice_set xs i y) i other))
put_again [] i y other part e = refl
put_again {X} (x ∷ xs) zero y other part e = ap (λ (z : X). z ∷ xs) (sym e)
put_again {X} (x ∷ xs) (suc i) y other part e =
    ap (λ (ys : List X). x ∷ ys) (put_again xs i y other part e)

put_same : {X : Type 0} (xs : List X) (i : ℕ) (other : X) → xs ≡ slice_set xs i (slice_index_or xs i other)
put_same [] i other = refl
put_same (x ∷ xs) zero other = refl
put_same {X} (x ∷ xs) (suc i) other = ap (λ (ys : List X). x ∷ ys) (put_same xs i other)

-- bytes that come in change the ring of a line alone
ring_alone : (bytes : List ℕ) (lines : List SerialLine) (lane : ℕ) →
    let later = line_at lane (map (with_input bytes) lines) in
    later ≡ record (line_at lane lines) { ring = later.ring }
ring_alone bytes [] lane = refl
ring_alone bytes (line ∷ lines) zero = refl
ring_alone bytes (line ∷ lines) (suc lane) = ring_alone bytes lines lane

module _ (w : World) where
  abbrev d : Devices
  d = w.devices

  abbrev lane : ℕ
  lane = lane_in w

  abbrev Changes : Dev → Stepped → Type 0
  Changes device s = ChangesItsOwn device w s.after s.labels

  -- where nobody is served
  nobody : (device : Dev) → KeepsOthers device lane d d → Changes device (unmade w)
  nobody device keeps = record { speaks = All-nil (λ label. SpeaksSo device label.event); devices = keeps }

  -- and where one is
  answers : (device : Dev) (slot : ℕ) (r : Record) (a : DeviceAnswer) → SpeaksSo device a.answer.event
      → KeepsOthers device lane d a.devices → Changes device (one_answered w slot r a)
  answers device slot r a speaks keeps = record {
    speaks = All-cons (λ label. SpeaksSo device label.event) (answer_label slot a.answer) [] speaks
        (All-nil (λ label. SpeaksSo device label.event));
    devices = keeps;
  }

  sent_so : (b : Bool) → (cond b WriteDone Taken ≡ Taken) ⊎ (cond b WriteDone Taken ≡ WriteDone)
  sent_so true = inr refl
  sent_so false = inl refl

  drawn_so : (o : Option ℕ) → ((word : ℕ) × (drawn_event o ≡ Word word)) ⊎ (drawn_event o ≡ NoWord)
  drawn_so None = inr refl
  drawn_so (Some word) = inl (word, refl)

  line : SerialLine
  line = line_at lane d.lines

  -- the devices with other lines, words or counts
  abbrev with_lines : Devices → List SerialLine → Devices
  with_lines e lines = record e { lines = lines }

  abbrev with_words : Devices → List (List ℕ) → Devices
  with_words e words = record e { words = words }

  abbrev with_served : Devices → List ℕ → Devices
  with_served e served = record e { served = served }

  -- what comes in, the first of what is still to
  module _ (rest : List Arrival) (is_rest : rest ≡ drop 1 d.arrivals) where
    abbrev left : Devices
    left = with_rest d rest

    -- a step that leaves the devices so, but for who waits and for the rings
    abbrev Leaves : DeviceStep → Type 0
    Leaves deed = Changes dev.Event (done w (Some deed))

    leaves : (deed : DeviceStep)
        → ((at : ℕ) (a : Answer) → deed.told at ≡ Some a → SpeaksSo dev.Event a.event)
        → deed.devices ≡ record left { lines = deed.devices.lines; waiting = deed.devices.waiting }
        → ((other : ℕ) → line_at other deed.devices.lines
        ≡ record (line_at other d.lines) { ring = (line_at other deed.devices.lines).ring }) → Leaves deed
    leaves deed speaks stays rings = record {
      speaks = told_labels (λ label. SpeaksSo dev.Event label.event) deed.told 0 w.records
          (λ slot at r a here there is. speaks at a is);
      devices = (
        rw is_rest at stays,
        rings,
      );
    }

    of_kind : (kind : EventKind) → Leaves (coming_in kind w.records left)
    of_kind =
        of_coming Leaves w left (record {
          bytes = λ bytes.
              leaves (coming_in (script.Input bytes) w.records left) (λ at a is. absurd (cc)) refl
              (ring_alone bytes d.lines);
          edges = λ button pressed.
              leaves (telling_edge button pressed w.records left)
              (λ at a is. inl (
                button,
                pressed,
                ap (λ (x : Answer). x.event) (edge_answer button pressed (slice_get w.records at) a is),
              )) refl (λ other. refl);
          nobody = leaves (telling_nobody left) (λ at a is. absurd (cc)) refl (λ other. refl);
          acts = λ verb slot r is.
              subst (Changes dev.Event) (sym (done_one w slot (operating verb left slot r) r is))
              (answers dev.Event slot r (operating verb left slot r) (inr (verb, refl))
              (cond_both (ends_by verb r.process) leaving_all []
              (λ acts. KeepsOthers dev.Event lane d (routed slot acts left))
              (λ e. (
                ap (λ (arrivals : List Arrival). record (routed slot leaving_all left) { arrivals = arrivals }) is_rest,
                λ other. refl,
              ))
              (λ e. (ap (λ (arrivals : List Arrival). record left { arrivals = arrivals }) is_rest, λ other. refl))));
        })

  of_arrivals : (arrivals : List Arrival) → arrivals ≡ d.arrivals → Changes dev.Event
      (done w (arrived w.records d arrivals))
  of_arrivals [] is =
      nobody dev.Event (ap (λ (arrivals : List Arrival). record d { arrivals = arrivals }) none, λ other. refl)
    where
      none : d.arrivals ≡ drop 1 d.arrivals
      none = subst (λ (arrivals : List Arrival). arrivals ≡ drop 1 arrivals) is refl
  of_arrivals (arrival ∷ rest) is = of_kind rest (ap (λ (arrivals : List Arrival). drop 1 arrivals) is) arrival.kind

  changes : (device : Dev) → Changes device (done w (device_step_of w device))
  changes dev.Event = of_arrivals d.arrivals refl
  changes dev.Alarm =
      of_serving w (Changes dev.Alarm) (nobody dev.Alarm refl) (λ slot r. alarmed w.settings w.clock.time d)
      (served_by w dev.Alarm)
      (λ slot r first. answers dev.Alarm slot r (alarmed w.settings w.clock.time d) (_, refl) refl)
  changes dev.Uart =
      of_serving w (Changes dev.Uart)
      (nobody dev.Uart (ap (with_lines d) (put_same d.lines lane (record { ring = []; ticks = 0; free = 0 }))))
      (transmitting lane w.clock.time d) (served_by w dev.Uart)
      (λ slot r first.
      let a = transmitting lane w.clock.time d slot r in
      answers dev.Uart slot r a (sent_so (console.sent (flash_of r) r.own).completed)
      (ap (with_lines a.devices) (put_again d.lines lane _ (record { ring = []; ticks = 0; free = 0 })
      (λ (x : SerialLine). record (line_at lane d.lines) { free = x.free }) refl)))
  changes dev.Receive =
      of_serving w (Changes dev.Receive)
      (nobody dev.Receive (ap (with_lines d) (put_same d.lines lane (record { ring = []; ticks = 0; free = 0 }))))
      (receive_step lane d) (served_by w dev.Receive)
      (λ slot r first.
      let a = receive_step lane d slot r in
      answers dev.Receive slot r a (_, refl)
      (ap (with_lines a.devices) (put_again d.lines lane _ (record { ring = []; ticks = 0; free = 0 })
      (λ (x : SerialLine). record (line_at lane d.lines) { ring = x.ring }) refl)))
  changes dev.Random =
      of_serving w (Changes dev.Random) (nobody dev.Random (ap (with_words d) (put_same d.words lane [])))
      (random_step lane d) (served_by w dev.Random)
      (λ slot r first.
      let a = random_step lane d slot r in
      answers dev.Random slot r a (drawn_so _)
      (ap (with_words a.devices) (put_again d.words lane _ [] (λ (x : List ℕ). x) refl)))
  changes dev.Store =
      of_serving w (Changes dev.Store) (nobody dev.Store (ap (with_served d) (put_same d.served lane 0)))
      (storing lane d) (served_by w dev.Store)
      (λ slot r first.
      let a = storing lane d slot r in
      answers dev.Store slot r a (_, refl)
      (ap (with_served a.devices) (put_again d.served lane _ 0 (λ (x : ℕ). x) refl)))

pub devices_change_their_own : DevicesChangeTheirOwn
unfolding carried_out
devices_change_their_own w device ready =
    subst (λ (s : Stepped). ChangesItsOwn device w s.after s.labels) (sym (stepped_ready w (Device device) ready))
    (changes w device)
