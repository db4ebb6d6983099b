-- What comes in on the serial line is read in its order: each step keeps it, lane by lane. Bytes that come in go behind
-- the ring, of which the last ones stay; a read takes the first ones of the lane that serves; all else leaves the
-- rings. So what was read and what is left follow from what came, by induction on the choices.
use Rattle.kernel_laws.proofs.Cases.{cases_option}
use Rattle.std.proofs.Common.{◌≡◌, inl, inr, ◌≤◌, ◌<◌, ℕ, zero, suc, ◌+◌, ◌-◌, ◌==◌, Bool, true, false, cond, List}
use Rattle.std.proofs.Common.{[], ◌∷◌, ◌++◌, drop, take, length, map, slice_get, slice_set}
use Rattle.std.proofs.Common.{Option, None, Some, refl, sym, ap, ap₂, subst, ◌∙◌, arith, eqb-true, eq-eqb}
use Rattle.std.specs.Prelude.{option_to_list}
use Rattle.std.specs.List.{cons_option}
use Rattle.std.specs.Option.{option_map}
use Rattle.std.specs.Prelude.{unwrap_or}
use Rattle.std.proofs.lemmas.Bool.{cases_Bool, false≢true}
use Rattle.std.proofs.lemmas.List.{append_assoc, append-nil, get_or-set_other, length-append, length-drop}
use Rattle.std.proofs.lemmas.List.{length-map, length-set}
use Rattle.tk_base.specs.declared.limits.TheConstants.{RING_SIZE}
use Rattle.tk_base.specs.declared.process.Choice.{Choice}
use Rattle.tk_base.specs.declared.process.Choice.TheVariants.{Run, Device, Pass}
use Rattle.tk_base.specs.declared.process.Dev.{Dev}
use Rattle.tk_base.specs.declared.process.Dev.TheVariants as dev
use Rattle.tk_base.specs.declared.process.Verb.{Verb}
use Rattle.script_text.specs.Settings.{ScriptEvent as Arrival, EventKind}
use Rattle.script_text.specs.Settings as script
use Rattle.grant_values.specs.declared.console.WaitingRead.{WaitingRead}
use Rattle.board_devices.specs.SerialLine.{SerialLine, line_at, with_input}
use Rattle.process_model.specs.Own.{Own}
use Rattle.driver_model.specs.Commands.{BoardRequest, Reads}
use Rattle.driver_model.specs.Console as console
use Rattle.driver_model.specs.Console.{console_reads}
use Rattle.driver_model.specs.Requests.{unanswered, waiting_in}
use Rattle.kernel_model.specs.Record.{Record, flash_of}
use Rattle.kernel_model.specs.Turn.{Taken, WriteDone, turned}
use Rattle.kernel_model.specs.World.{Answer, DeviceAnswer, DeviceStep, Devices, Stepped, World, after}
use Rattle.kernel_model.specs.World.{answer_label, arrived, carried_out, coming_in, device_step_of, done}
use Rattle.kernel_model.specs.World.{is_ready, labels, labels_told, lane_in, only_for, operating, ran}
use Rattle.kernel_model.specs.World.{random_step, receive_step, routed, stepped, storing, telling_edge}
use Rattle.kernel_model.specs.World.{telling_nobody}
use Rattle.kernel_model.specs.World.{transmitting, turn_label, unmade}
use Rattle.kernel_model.specs.Parts.{acting_on, acts_of, alarmed, drawn_event, served_by, slot_of_name}
use Rattle.kernel_model.specs.Named.{lane_by, slots_in}
use Rattle.kernel_model.specs.Laws.{one_answered}
use Rattle.kernel_model.specs.Edges.{arrival_in, arrivals_in, first_for}
use Rattle.kernel_model.proofs.Told.{done_one, edge_answer, of_device as of_each_device, told_labels, with_rest}
use Rattle.kernel_model.proofs.Places.{of_stepped, stepped_else, stepped_ready, routed_rest}
use Rattle.kernel_laws.specs.Inputs.{InputIsKept, IsSubsequence, IsTheLast, KeepsInput, RingsHaveTheLast}
use Rattle.kernel_laws.specs.Inputs.{bytes_arriving, bytes_in, input_in, input_told, inputs_told, last_of, ring_in}
use Rattle.kernel_laws.specs.Words.{of_lane}
use Rattle.kernel_laws.proofs.Devices.{of_serving}
use Rattle.kernel_laws.proofs.Lanes.{lane_joined, one_silent, served_here, tells_none}

-- bytes of which none was taken out, or the first ones were
all_remain : (xs : List ℕ) → IsSubsequence xs xs
all_remain [] = refl
all_remain (x ∷ xs) = inr (xs, (refl, all_remain xs))

last_remain : (n : ℕ) (xs : List ℕ) → IsSubsequence (drop n xs) xs
last_remain zero xs = all_remain xs
last_remain (suc n) [] = refl
last_remain (suc n) (x ∷ xs) = inl (last_remain n xs)

-- with more bytes before, and after; and one after another
after_more : (first xs ys : List ℕ) → IsSubsequence xs ys → IsSubsequence (first ++ xs) (first ++ ys)
after_more [] xs ys h = h
after_more (x ∷ first) xs ys h = inr (first ++ xs, (refl, after_more first xs ys h))

before_more : (xs ys then : List ℕ) → IsSubsequence xs ys → IsSubsequence (xs ++ then) (ys ++ then)
before_more xs [] then h = subst (λ (zs : List ℕ). IsSubsequence (zs ++ then) then) (sym h) (all_remain then)
before_more xs (y ∷ ys) then (inl h) = inl (before_more xs ys then h)
before_more xs (y ∷ ys) then (inr h) =
    inr (h.0 ++ then, (ap (λ (zs : List ℕ). zs ++ then) h.1.0, before_more h.0 ys then h.1.1))

remain_of : (xs ys zs : List ℕ) → IsSubsequence xs ys → IsSubsequence ys zs → IsSubsequence xs zs
remain_of xs ys [] h g = subst (IsSubsequence xs) g h
remain_of xs ys (z ∷ zs) h (inl g) = inl (remain_of xs ys zs h g)
remain_of xs ys (z ∷ zs) h (inr g) =
    elim (rw g.1.0 at h) [
      | inl f ↦ inl (remain_of xs g.0 zs f g.1.1)
      | inr f ↦ inr (f.0, (f.1.0, remain_of f.0 g.0 zs f.1.1 g.1.1))
    ]

-- What a step keeps of the input of a lane, which is there where something holds: all of it where the ring has room,
-- and else the last of it.
record KeepsLast (before came read later : List ℕ) (There : Type 0) : Type 0 where
  input : KeepsInput before came read later (There × (length before + length came ≤ RING_SIZE))
  last : There → length before ≤ RING_SIZE → IsTheLast before came read later

-- the last of a few bytes are all of them
all_last : (n : ℕ) (xs : List ℕ) → length xs ≤ n → last_of n xs ≡ xs
all_last n xs few = let none : length xs - n ≡ 0 = omega (arith, few) in ap (λ (k : ℕ). drop k xs) none

-- what is kept exactly is kept, where nothing comes in
exactly : (before read left : List ℕ) (There : Type 0) → read ++ left ≡ before
    → KeepsLast before [] read left There
exactly before read left There e =
    let same : read ++ left ≡ before ++ [] = e ∙ sym (append-nil before) in
    record {
      input = record {
        kept = subst (IsSubsequence (read ++ left)) same (all_remain (read ++ left));
        whole = λ roomy. same;
      };
      last = λ there few.
          let many : length (read ++ left) ≡ length before = ap (λ (xs : List ℕ). length xs) e in
          record {
            is = same ∙ sym (all_last RING_SIZE (before ++ []) (omega (arith, few, length-append before [])));
            few = omega (arith, few, many, length-append read left);
          };
    }

-- bytes that come in at a ring, of which the newest are kept
into_ring : (lines : List SerialLine) (lane : ℕ) (bytes : List ℕ) →
    let ring = (line_at lane lines).ring in
    KeepsLast ring bytes [] (line_at lane (map (with_input bytes) lines)).ring (lane < length lines)
into_ring [] lane bytes =
    record {
      input = record { kept = nothing bytes; whole = λ h. absurd (omega (arith, h.0)) };
      last = λ there few. absurd (omega (arith, there));
    }
  where
    nothing : (xs : List ℕ) → IsSubsequence [] xs
    nothing [] = refl
    nothing (x ∷ xs) = inl (nothing xs)
into_ring (line ∷ lines) zero bytes =
    let all = line.ring ++ bytes in
    record {
      input = record {
        kept = last_remain (length all - RING_SIZE) all;
        whole = λ h. all_last RING_SIZE all (omega (arith, h.1, length-append line.ring bytes));
      };
      last = λ there few. record {
        is = refl;
        few = omega (arith, length-drop (length all - RING_SIZE) all);
      };
    }
into_ring (line ∷ lines) (suc lane) bytes =
    let later = into_ring lines lane bytes in
    record {
      input = record { kept = later.input.kept; whole = λ h. later.input.whole (omega (arith, h.0), h.1) };
      last = λ there few. later.last (omega (arith, there)) few;
    }

-- what stands in a ring after another line was put at a place
put_there : (lines : List SerialLine) (i : ℕ) (line : SerialLine) → (length lines ≤ i → line.ring ≡ [])
    → (line_at i (slice_set lines i line)).ring ≡ line.ring
put_there [] i line beyond = sym (beyond (omega arith))
put_there (x ∷ lines) zero line beyond = refl
put_there (x ∷ lines) (suc i) line beyond = put_there lines i line (λ h. beyond (omega (arith, h)))

put_same : (lines : List SerialLine) (i lane : ℕ) (line : SerialLine) → line.ring ≡ (line_at i lines).ring
    → (line_at lane (slice_set lines i line)).ring ≡ (line_at lane lines).ring
put_same [] i lane line e = refl
put_same (x ∷ lines) zero zero line e = e
put_same (x ∷ lines) zero (suc lane) line e = refl
put_same (x ∷ lines) (suc i) zero line e = refl
put_same (x ∷ lines) (suc i) (suc lane) line e = put_same lines i lane line e

none_there : (lines : List SerialLine) (i : ℕ) → length lines ≤ i → (line_at i lines).ring ≡ []
none_there [] i h = refl
none_there (x ∷ lines) zero h = absurd (omega (arith, h))
none_there (x ∷ lines) (suc i) h = none_there lines i (omega (arith, h))

none_dropped : (n : ℕ) (xs : List ℕ) → xs ≡ [] → drop n xs ≡ []
none_dropped zero xs e = e
none_dropped (suc n) [] e = refl
none_dropped (suc n) (x ∷ xs) e = absurd (cc)

-- the bytes that a read moves are the first of the ring
taken_first : (n : ℕ) (xs : List ℕ) → take n xs ++ drop (length (take n xs)) xs ≡ xs
taken_first zero xs = refl
taken_first (suc n) [] = refl
taken_first (suc n) (x ∷ xs) = ap (λ (ys : List ℕ). x ∷ ys) (taken_first n xs)

moved_first : (ring : List ℕ) (own : Own) →
    let moved = (console.received ring own).moved in moved ++ drop (length moved) ring ≡ ring
unfolding console.received
moved_first ring own =
    elim (waiting_in console_reads own) as (λ (o : Option WaitingRead).
    let moved = (unwrap_or (option_map (console.receiving ring own) o) (unanswered [] own)).moved in
    moved ++ drop (length moved) ring ≡ ring) [ None ↦ refl | Some read ↦ taken_first _ ring ]

-- what a turn asks of the board, and what an operator's act does, reads nothing
routed_lines : (slot : ℕ) (acts : List BoardRequest) (d : Devices) → (routed slot acts d).lines ≡ d.lines
routed_lines slot acts d = ap (λ (x : Devices). x.lines) (routed_rest slot acts d)

sent_none : (b : Bool) → input_in (cond b WriteDone Taken) ≡ []
sent_none true = refl
sent_none false = refl

drawn_none : (o : Option ℕ) → input_in (drawn_event o) ≡ []
drawn_none None = refl
drawn_none (Some word) = refl

module _ (w : World) (lane : ℕ) where
  abbrev ring : List ℕ
  ring = ring_in lane w.devices

  -- a step by which bytes come in, or none, keeps the input of the lane
  abbrev Keeps : List ℕ → Stepped → Type 0
  Keeps bytes s =
      KeepsLast ring bytes (inputs_told (of_lane w.pace.window lane s.labels)) (ring_in lane s.after.devices)
      (lane < length w.devices.lines)

  -- where nothing comes in, nothing is told, and the ring stays
  quietly : (read left : List ℕ) (There : Type 0) → read ≡ [] → left ≡ ring → KeepsLast ring [] read left There
  quietly read left There none same =
      exactly ring read left There (ap₂ (λ (xs ys : List ℕ). xs ++ ys) none same)

  idle : Keeps [] (unmade w)
  idle = quietly [] ring _ refl refl

  answers_quietly : (slot : ℕ) (r : Record) (a : DeviceAnswer) → input_in a.answer.event ≡ []
      → ring_in lane a.devices ≡ ring → Keeps [] (one_answered w slot r a)
  answers_quietly slot r a none same =
      quietly _ _ _ (one_silent input_told w.pace.window lane (answer_label slot a.answer) none) same

  -- a read moves bytes in the lane that serves, and in no other
  reads : (slot : ℕ) (r : Record) → served_by w dev.Receive ≡ Some slot
      → Keeps [] (one_answered w slot r (receive_step (lane_in w) w.devices slot r))
  reads slot r first =
      let here = served_here w.clock.time w.pace.window slot (slots_in Reads w.devices.waiting) first in
      let line = line_at (lane_in w) w.devices.lines in
      let moved = (console.received line.ring r.own).moved in
      let rest = record line { ring = drop (length moved) line.ring } in
      let left_here = put_there w.devices.lines (lane_in w) rest
      (λ h. none_dropped (length moved) line.ring (none_there w.devices.lines (lane_in w) h)) in
      exactly ring _ _ _ (elim (cases_Bool (lane_by (only_for w.pace.window slot) == lane)) [
        | inl is ↦
            let same : lane ≡ lane_in w = sym (eqb-true (lane_by (only_for w.pace.window slot)) lane is) ∙ here in
            rw (is, same, append-nil moved, left_here) (moved_first line.ring r.own)
        | inr is ↦
            rw is (ap (λ (x : SerialLine). x.ring) (get_or-set_other w.devices.lines (lane_in w) lane rest _
            (λ same. false≢true (sym is ∙ eq-eqb (lane_by (only_for w.pace.window slot)) lane (here ∙ sym same)))))
      ])

  -- a step that tells nobody of input
  tells_no_input : (deed : DeviceStep)
      → ((at : ℕ) (a : Answer) → deed.told at ≡ Some a → input_in a.event ≡ [])
      → inputs_told (of_lane w.pace.window lane (labels_told deed.told 0 w.records)) ≡ []
  tells_no_input deed none =
      tells_none input_told w.pace.window lane (labels_told deed.told 0 w.records)
      (told_labels (λ label. input_told label ≡ []) deed.told 0 w.records (λ slot at r a here there is. none at a is))

  -- an operator's act tells one process of it, or nobody of anything
  of_act : (verb : Verb) (d : Devices) (o : Option ℕ) → d.lines ≡ w.devices.lines
      → Keeps [] (done w (Some (acting_on verb w.records d o)))
  of_act verb d None same =
      quietly _ _ _ (tells_no_input (telling_nobody d) (λ at a is. absurd (cc))) (rw same)
  of_act verb d (Some slot) same =
      elim (cases_option (slice_get w.records slot)) [
        | inl e ↦
            rw e (quietly _ _ _ (tells_no_input (telling_nobody d) (λ at a is. absurd (cc))) (rw same))
        | inr there ↦
            rw there.1 (subst (Keeps []) (sym (done_one w slot (operating verb d slot there.0) there.0 there.1))
            (answers_quietly slot there.0 (operating verb d slot there.0) refl
            (ap (λ (lines : List SerialLine). (line_at lane lines).ring)
            (routed_lines slot (acts_of verb there.0) d ∙ same))))
      ]

  of_edge : (button : ℕ) (pressed : Bool) (rest : List Arrival)
      → Keeps [] (done w (Some (telling_edge button pressed w.records (with_rest w.devices rest))))
  of_edge button pressed rest =
      quietly _ _ _ (tells_no_input (telling_edge button pressed w.records (with_rest w.devices rest))
      (λ at a is. ap (λ (x : Answer). input_in x.event) (edge_answer button pressed (slice_get w.records at) a
      is))) refl

  of_arrived : (arrivals : List Arrival)
      → Keeps (bytes_arriving (option_to_list (slice_get arrivals 0))) (done w (arrived w.records w.devices arrivals))
  of_arrived [] = idle
  of_arrived (arrival ∷ rest) = by_kind arrival.kind
    where
      by_kind : (kind : EventKind)
          → Keeps (bytes_in kind ++ []) (done w (Some (coming_in kind w.records (with_rest w.devices rest))))
      by_kind (script.Input bytes) =
          let deed = coming_in (script.Input bytes) w.records (with_rest w.devices rest) in
          let none = tells_no_input deed (λ at a is. absurd (cc)) in
          subst (λ (bs : List ℕ). Keeps bs (done w (Some deed))) (sym (append-nil bytes))
          (subst (λ (read : List ℕ). KeepsLast ring bytes read (ring_in lane deed.devices)
          (lane < length w.devices.lines)) (sym none)
          (into_ring w.devices.lines lane bytes))
      by_kind (script.Press button) = of_edge button true rest
      by_kind (script.Release button) = of_edge button false rest
      by_kind (script.Act verb name) =
          of_act verb (with_rest w.devices rest) (slot_of_name name w.records) refl

  of_device : (device : Dev)
      → Keeps (bytes_arriving (option_to_list (first_for (Device device) w.devices.arrivals)))
      (done w (device_step_of w device))
  of_device dev.Event = of_arrived w.devices.arrivals
  of_device dev.Alarm =
      of_serving w (Keeps []) idle (λ slot r. alarmed w.settings w.clock.time w.devices) (served_by w dev.Alarm)
      (λ slot r first. answers_quietly slot r (alarmed w.settings w.clock.time w.devices) refl refl)
  of_device dev.Uart =
      of_serving w (Keeps []) idle (transmitting (lane_in w) w.clock.time w.devices) (served_by w dev.Uart)
      (λ slot r first. answers_quietly slot r (transmitting (lane_in w) w.clock.time w.devices slot r)
      (sent_none (console.sent (flash_of r) r.own).completed)
      (put_same w.devices.lines (lane_in w) lane _ refl))
  of_device dev.Receive =
      of_serving w (Keeps []) idle (receive_step (lane_in w) w.devices) (served_by w dev.Receive) reads
  of_device dev.Random =
      of_serving w (Keeps []) idle (random_step (lane_in w) w.devices) (served_by w dev.Random)
      (λ slot r first. answers_quietly slot r (random_step (lane_in w) w.devices slot r) (drawn_none _) refl)
  of_device dev.Store =
      of_serving w (Keeps []) idle (storing (lane_in w) w.devices) (served_by w dev.Store)
      (λ slot r first. answers_quietly slot r (storing (lane_in w) w.devices slot r) refl refl)

  of_choice : (choice : Choice)
      → Keeps (bytes_arriving (option_to_list (first_for choice w.devices.arrivals))) (carried_out w choice)
  unfolding carried_out
  of_choice (Run slot) =
      elim (slice_get w.records slot) as (λ o. Keeps [] (ran w slot o)) [
        | None ↦ idle
        | Some r ↦
            let t = turned w.settings w.clock.time r in
            quietly _ _ _ (one_silent input_told w.pace.window lane (turn_label slot w.clock.time t.told) refl)
            (rw (routed_lines slot t.acts w.devices, ring_in))
      ]
  of_choice (Device device) = of_device device
  of_choice (Pass ticks) = quietly [] ring _ refl refl

  step_keeps : (choice : Choice) → KeepsLast ring (bytes_arriving (option_to_list (arrival_in w choice)))
      (inputs_told (of_lane w.pace.window lane (labels w choice))) (ring_in lane (after w choice).devices)
      (lane < length w.devices.lines)
  step_keeps choice =
      elim (cases_Bool (is_ready w choice)) [
        | inl e ↦ rw (e, stepped_ready w choice e, after, labels) (of_choice choice)
        | inr e ↦ rw (e, stepped_else w choice e, after, labels) idle
      ]

-- there are as many lines after a step
module _ (w : World) where
  abbrev IsAsMany : Stepped → Type 0
  IsAsMany s = length s.after.devices.lines ≡ length w.devices.lines

  as_many_done : (device : Dev) → IsAsMany (done w (device_step_of w device))
  as_many_done device =
      of_each_device w IsAsMany (record {
        none = refl;
        arrives = λ bytes rest. length-map w.devices.lines (with_input bytes);
        edges = λ button pressed rest. refl;
        nobody = λ rest. refl;
        acts = λ verb rest slot r is. rw (routed_lines slot (acts_of verb r) (with_rest w.devices rest));
        alarms = λ slot r first is. refl;
        sends = λ slot r first is. length-set w.devices.lines (lane_in w) _;
        receives = λ slot r first is. length-set w.devices.lines (lane_in w) _;
        draws = λ slot r first is. refl;
        stores = λ slot r first is. refl;
      }) device

  as_many_made : (choice : Choice) → IsAsMany (carried_out w choice)
  unfolding carried_out
  as_many_made (Run slot) =
      elim (slice_get w.records slot) as (λ o. IsAsMany (ran w slot o)) [
        | None ↦ refl
        | Some r ↦ rw (routed_lines slot (turned w.settings w.clock.time r).acts w.devices)
      ]
  as_many_made (Device device) = as_many_done device
  as_many_made (Pass ticks) = refl

  as_many : (choice : Choice) → IsAsMany (stepped w choice)
  as_many choice = of_stepped IsAsMany w choice refl (λ ready. as_many_made choice)

-- what comes in, and then later
bytes_joined : (o : Option Arrival) (arrivals : List Arrival)
    → bytes_arriving (cons_option o arrivals) ≡ bytes_arriving (option_to_list o) ++ bytes_arriving arrivals
bytes_joined None arrivals = refl
bytes_joined (Some arrival) arrivals =
    ap (λ (xs : List ℕ). xs ++ bytes_arriving arrivals) (sym (append-nil (bytes_in arrival.kind)))

-- two stretches of what was kept, one after another
kept_on : (before arrived read left come told last : List ℕ) (P Q : Type 0)
    → KeepsInput before arrived read left P → KeepsInput left come told last Q
    → KeepsInput before (arrived ++ come) (read ++ told) last (P × Q)
kept_on before arrived read left come told last P Q h g =
    record {
      kept = rw (append_assoc read told last, ← append_assoc before arrived come)
          (remain_of (read ++ (told ++ last)) ((read ++ left) ++ come) ((before ++ arrived) ++ come)
          (rw (append_assoc read left come) (after_more read (told ++ last) (left ++ come) g.kept))
          (before_more (read ++ left) (before ++ arrived) come h.kept));
      whole = λ both.
          rw (append_assoc read told last, g.whole both.1, ← append_assoc read left come, h.whole both.0)
          (append_assoc before arrived come);
    }

pub input_is_kept : InputIsKept
input_is_kept w [] lane =
    let nil = append-nil (ring_in lane w.devices) in
    record { kept = rw nil (all_remain (ring_in lane w.devices)); whole = λ roomy. sym nil }
input_is_kept w (choice ∷ choices) lane =
    let v = after w choice in
    let both = kept_on _ _ _ _ _ _ _ _ _ (step_keeps w lane choice).input (input_is_kept v choices lane) in
    let comes = bytes_joined (arrival_in w choice) (arrivals_in v choices) in
    let tells = lane_joined input_told w choice choices lane in
    record {
      kept = rw (tells, comes) both.kept;
      whole = λ roomy.
          let there : lane < length v.devices.lines = omega (arith, roomy.0, as_many w choice) in
          rw (tells, comes) (both.whole ((roomy.0, roomy.1.0), (there, roomy.1.1)));
    }

pub rings_have_the_last : RingsHaveTheLast
rings_have_the_last w [] lane there few = tt
rings_have_the_last w (choice ∷ choices) lane there few =
    let last = (step_keeps w lane choice).last there few in
    (last, rings_have_the_last (after w choice) choices lane (omega (arith, there, as_many w choice)) last.few)
