-- What a step prints, it prints of a buffer: of all devices the UART's sending half and the line that lists a process
-- alone print, by the walk over devices. What is sent is the next part of the buffer of the write that waits, as many
-- bytes as are taken.
use Rattle.std.proofs.Common.{◌≡◌, ◌<◌, ℕ, ◌+◌, ◌==◌, Bool, true, false, cond, [], ◌∷◌, drop, length}
use Rattle.std.proofs.Common.{slice_index, Option, None, Some, refl, ap}
use Rattle.std.proofs.Common.{slice_get}
use Rattle.std.proofs.Common.{◌∙◌, arith}
use Rattle.std.specs.Prelude.{All}
use Rattle.std.proofs.lemmas.List.{get_or-drop, get_or-take, length-take}
use Rattle.std.proofs.lemmas.List.Elements.{All-nil, All-cons}
use Rattle.tk_base.specs.declared.process.Choice.{Choice}
use Rattle.tk_base.specs.declared.process.Dev.{Dev}
use Rattle.grant_values.specs.declared.console.WaitingWrite.{WaitingWrite}
use Rattle.driver_model.specs.Console as console
use Rattle.driver_model.specs.Console.{console_writes}
use Rattle.driver_model.specs.Requests.{request_in, waiting_in}
use Rattle.kernel_model.specs.Record.{Record}
use Rattle.tk_base.specs.declared.process.Verb.{Verb}
use Rattle.kernel_model.specs.Turn.{Act, Event, Taken, WriteDone, turned}
use Rattle.kernel_model.specs.Record.{flash_of}
use Rattle.kernel_model.specs.World.{Label, Stepped, World, answer_label, device_step_of, done, labels}
use Rattle.kernel_model.specs.World.{Answer, lane_in, listed, telling_edge, transmitting, turn_label}
use Rattle.kernel_model.specs.Laws.{edge_labels, one_answered}
use Rattle.kernel_model.proofs.Told.{edge_answer, of_device, told_labels}
use Rattle.kernel_model.specs.Replay.{after_all}
use Rattle.kernel_model.specs.Prints.{AreOfItsBuffer, IsPrintedBy, PrintsAreOfBuffers, PrintsItsBuffer}
use Rattle.kernel_model.specs.Parts.{buffer_bytes}
use Rattle.kernel_model.specs.Parts.{console_buffer}
use Rattle.kernel_model.proofs.Labels.{labels_by_device}
use Rattle.std.proofs.Common.{inl, inr}
use Rattle.std.proofs.lemmas.Bool.{cases_Bool}
use Rattle.kernel_lives.proofs.Changes.{none_or_one}

-- the bytes that come next are those of the buffer
next_of : (write : WaitingWrite) (r : Record) (k : ℕ) → k < length (console.next_bytes (flash_of r) write r.own)
    → (write.taken + k < (console_buffer r).1)
    × (slice_index (console.next_bytes (flash_of r) write r.own) k ≡ slice_index (buffer_bytes r) (write.taken + k))
next_of write r k less =
    let rest = drop write.taken (buffer_bytes r) in
    let within : k < console.portion write r.own =
    omega (arith, less, length-take (console.portion write r.own) rest) in (
      omega (arith, within),
      get_or-take (console.portion write r.own) rest k 0 within
          ∙ get_or-drop write.taken (buffer_bytes r) k 0,
    )

pub if_so : {X : Type 0} (b : Bool) (o : Option X) (x : X) → cond b o None ≡ Some x → (b ≡ true) × (o ≡ Some x)
if_so true o x e = (refl, e)
if_so false o x e = cc

-- what the UART prints of a process, if it prints anything
sent_of : (r : Record) → 0 < length (console.sent (flash_of r) r.own).moved
    → AreOfItsBuffer (console.sent (flash_of r) r.own).moved r
unfolding console.sent
sent_of r some =
    elim (none_or_one (waiting_in console_writes r.own)) [
      | inl none ↦ absurd (omega (arith, rw none at some))
      | inr (write, is) ↦
          let waits = if_so r.own.lives (request_in console_writes r.own) write is in
          elim (cases_Bool (console.portion write r.own == 0)) [
            | inl e ↦ absurd (omega (arith, rw (is, e) at some))
            | inr e ↦
                rw (is, e) (record { lives = waits.0; write = write; waits = waits.1; each = next_of write r })
          ]
    ]

module _ (w : World) where
  -- what is told of a device's step
  abbrev Tells : Stepped → Type 0
  Tells s = All (PrintsItsBuffer w) s.labels

  -- a label of which nothing is printed
  prints_none : (label : Label) → label.printed ≡ [] → PrintsItsBuffer w label
  prints_none label none some = absurd (omega (arith, some, ap length none))

  silent : (label : Label) → label.printed ≡ [] → All (PrintsItsBuffer w) (label ∷ [])
  silent label none = All-cons (PrintsItsBuffer w) label [] (prints_none label none) (All-nil (PrintsItsBuffer w))

  silently : (slot : ℕ) (event : Event)
      → All (PrintsItsBuffer w) (answer_label slot (record { event = event; printed = [] }) ∷ [])
  silently slot event = silent (answer_label slot (record { event = event; printed = [] })) refl

  sends : (slot : ℕ) (r : Record) → slice_get w.records slot ≡ Some r
      → Tells (one_answered w slot r (transmitting (lane_in w) w.clock.time w.devices slot r))
  sends slot r is =
      All-cons (PrintsItsBuffer w) _ []
      (λ some. rw is (refl, by_completed (console.sent (flash_of r) r.own).completed (sent_of r some)))
      (All-nil (PrintsItsBuffer w))
    where
      by_completed : (completed : Bool) → AreOfItsBuffer (console.sent (flash_of r) r.own).moved r
          → IsPrintedBy (cond completed WriteDone Taken) slot (console.sent (flash_of r) r.own).moved r
      by_completed true of_it = of_it
      by_completed false of_it = of_it

  -- the line of a process that is listed
  acts : (verb : Verb) (slot : ℕ) (r : Record) → slice_get w.records slot ≡ Some r
      → All (PrintsItsBuffer w)
      (answer_label slot (record { event = Act verb; printed = listed verb slot r }) ∷ [])
  acts verb slot r is =
      All-cons (PrintsItsBuffer w) _ [] (λ some. rw is (refl, refl)) (All-nil (PrintsItsBuffer w))

  edges : (button : ℕ) (pressed : Bool) → All (PrintsItsBuffer w) (edge_labels button pressed w)
  edges button pressed =
      told_labels (PrintsItsBuffer w) (telling_edge button pressed w.records w.devices).told 0 w.records
      (λ slot at r a here there is. prints_none (answer_label at a)
      (ap (λ (x : Answer). x.printed) (edge_answer button pressed (slice_get w.records at) a is)))

  deed_tells : (device : Dev) → Tells (done w (device_step_of w device))
  deed_tells device =
      of_device w Tells (record {
        none = All-nil (PrintsItsBuffer w);
        arrives = λ bytes rest. All-nil (PrintsItsBuffer w);
        edges = λ button pressed rest. edges button pressed;
        nobody = λ rest. All-nil (PrintsItsBuffer w);
        acts = λ verb rest slot r is. acts verb slot r is;
        alarms = λ slot r first is. silently slot _;
        sends = λ slot r first. sends slot r;
        receives = λ slot r first is. silently slot _;
        draws = λ slot r first is. silently slot _;
        stores = λ slot r first is. silently slot _;
      }) device

  step_prints : (choice : Choice) → All (PrintsItsBuffer w) (labels w choice)
  step_prints =
      labels_by_device (λ s. PrintsItsBuffer w) w
      (λ slot r is may. prints_none (turn_label slot w.clock.time (turned w.settings w.clock.time r).told) refl)
      deed_tells

pub prints_are_of_buffers : PrintsAreOfBuffers
prints_are_of_buffers w choices choice = step_prints (after_all w choices) choice
