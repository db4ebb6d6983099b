-- That a write completes truly: each step that leaves it waiting prints the next bytes of its buffer, as many as it
-- counts, or nothing. One step is one record (`Steps`): by the walk over devices the UART alone takes bytes of a write,
-- and all else is `GoesOn`. Over a run the parts printed join to the front of the buffer, by induction on the choices.
use Rattle.std.proofs.Common.{◌≡◌, ◌≤◌, ℕ, zero, suc, ◌+◌, ◌-◌, ◌==◌, ◌&&◌, ◌||◌, Bool, true, false, cond, not}
use Rattle.std.proofs.Common.{min, List, [], ◌∷◌, ◌++◌, drop, length, slice_get, slice_set, take, Option, None}
use Rattle.std.proofs.Common.{Some}
use Rattle.std.proofs.Common.{IfSome, is_some, refl, sym, ap, ap₂, ◌∙◌, arith, eqb-true}
use Rattle.std.specs.List.{flat_map, list_any}
use Rattle.std.specs.Option.{option_and_then, option_map}
use Rattle.std.specs.Prelude.{All}
use Rattle.std.proofs.lemmas.Bool.{false≢true}
use Rattle.std.proofs.lemmas.List.{append-nil, drop-drop, length-append, length-drop, length-take}
use Rattle.std.proofs.lemmas.Grind.{flat_map-append}
use Rattle.std.proofs.lemmas.List.FromFn.{length-map-range_with_len}
use Rattle.std.proofs.lemmas.List.Elements.{All-head, All-tail}
use Rattle.std.proofs.lemmas.Option.{slice_get-map}
use Rattle.tk_base.specs.declared.kinds.PairKind.TheVariants.{ReadOnly}
use Rattle.tk_base.specs.declared.process.Choice.{Choice}
use Rattle.tk_base.specs.declared.process.Dev.{Dev}
use Rattle.grant_values.specs.declared.console.WaitingWrite.{WaitingWrite}
use Rattle.grant_values.specs.Values.{KeptValue}
use Rattle.board_devices.specs.Arriving.{differs}
use Rattle.process_model.specs.Handed.{held, lies_in_ram}
use Rattle.process_model.specs.Own.{Own}
use Rattle.process_model.specs.Served.{kept, own_scheduled}
use Rattle.driver_model.specs.Console as console
use Rattle.driver_model.specs.Console.{console_writes}
use Rattle.driver_model.specs.Keeping.{DriversKeep}
use Rattle.driver_model.specs.Requests.{RequestAnswered, request_in, waiting_in, with_request}
use Rattle.script_text.specs.Settings.{ScriptEvent as Arrival}
use Rattle.kernel_model.specs.Choices.{labels_of_all}
use Rattle.kernel_model.specs.Laws.{edge_done, edge_heard, edge_labels, one_answered}
use Rattle.kernel_model.specs.Lives.{HoldsThroughout}
use Rattle.kernel_model.specs.Parts.{alarmed, drawn_event}
use Rattle.kernel_model.specs.Record.{Record, flash_of, record_with_step}
use Rattle.kernel_model.specs.declared.settings.Settings.{Settings}
use Rattle.kernel_model.specs.Replay.{after_all}
use Rattle.kernel_model.specs.Turn.{Alarmed, Edge, Event, Input, NoWord, Stored, Taken, Word, WriteDone}
use Rattle.kernel_model.specs.Turn.{apply, is_act, operated, turned}
use Rattle.kernel_model.specs.Wholes.{AllHaveWholeOwns, HasWholeOwn}
use Rattle.kernel_model.specs.World.{DeviceAnswer, Label, Stepped, World, after}
use Rattle.kernel_model.specs.World.{device_step_of, done, labels, lane_in, operating, random_step, receive_step}
use Rattle.kernel_model.specs.World.{storing, telling_edge, transmitting}
use Rattle.kernel_model.proofs.Replays.{record_is_replay}
use Rattle.kernel_model.proofs.Places.{same_some}
use Rattle.kernel_model.proofs.Told.{edge_answer, of_device, told_labels, with_rest}
use Rattle.kernel_lives.specs.Writes.{BufferStays, StillWaits, WritesCompleteTruly}
use Rattle.kernel_lives.specs.Writes.{completes, is_done, write_bytes, write_in, written_by, written_in}
use Rattle.kernel_lives.proofs.Writing.{GoesOn, act_goes, answer_goes, goes_same, put_told, turn_goes}
use Rattle.kernel_model.proofs.Steps.{or_false}
use Rattle.kernel_lives.proofs.OwnBuffers.{in_interval}
use Rattle.std.proofs.Common.{inl, inr}
use Rattle.std.proofs.lemmas.Bool.{cases_Bool, cond_both}
use Rattle.kernel_model.specs.Turn.{Turn, TurnTrace, untraced}
use Rattle.kernel_model.specs.World.{after_turn_of}
use Rattle.kernel_model.proofs.Places.{same_there}
use Rattle.kernel_lives.proofs.Changes.{none_or_one, of_each_choice, put_at}

-- the write of a process that waits
abbrev write_at : Record → Option WaitingWrite
write_at r = waiting_in console_writes r.own

-- a write of which more bytes were taken
abbrev taken_more : WaitingWrite → ℕ → WaitingWrite
taken_more write count = record write { taken = write.taken + count }

-- what a step that prints so leaves of a write: more of it is taken, or it waits no more; where none waits nothing is
-- printed, and one that begins has none taken
abbrev Advances : Option WaitingWrite → List ℕ → Option WaitingWrite → Type 0
Advances None printed later = (printed ≡ []) × IfSome later (λ write. write.taken ≡ 0)
Advances (Some write) printed later = IfSome later (λ after. after ≡ taken_more write (length printed))

-- of one that waits what is printed is what comes next, and no more than it asked for
record PrintsNext (r : Record) (printed : List ℕ) (write : WaitingWrite) : Type 0 where
  next : printed ≡ take (length printed) (drop write.taken (write_bytes r))
  fits : write.taken ≤ write.length → write.taken + length printed ≤ write.length

-- one that completes does so with what was taken
record Completes (r s : Record) (write : WaitingWrite) : Type 0 where
  tells : s ≡ record r {
    own = own_scheduled console.console 1 (write.taken ∷ 0 ∷ 0 ∷ []) (with_request console_writes None r.own);
  }
  all : min write.length (held ReadOnly console.console 1 r.own).1 ≤ write.taken

-- what a step leaves of a process, for which it prints so, and which it tells that its write completed, or does not
record Steps (r : Record) (printed : List ℕ) (told : Bool) (s : Record) : Type 0 where
  advances : Advances (write_at r) printed (write_at s)
  prints : IfSome (write_at r) (PrintsNext r printed)
  ends : told ≡ true → IfSome (write_at r) (Completes r s)
  silent : told ≡ true → printed ≡ []

none_taken : (write : WaitingWrite) → taken_more write 0 ≡ write
none_taken write = ap (λ (n : ℕ). record write { taken = n }) (omega arith)

-- where nothing is printed and nothing told
goes_advances : (before later : Option WaitingWrite) → GoesOn before later → Advances before [] later
goes_advances None later h = (refl, h)
goes_advances (Some write) later h = rw (none_taken write) h

prints_none : (r : Record) (o : Option WaitingWrite) → IfSome o (PrintsNext r [])
prints_none r None = tt
prints_none r (Some write) = record { next = refl; fits = λ few. omega (arith, few) }

quietly : (r s : Record) → GoesOn (write_at r) (write_at s) → Steps r [] false s
quietly r s h = record {
  advances = goes_advances (write_at r) (write_at s) h;
  prints = prints_none r (write_at r);
  ends = λ told. absurd (false≢true told);
  silent = λ told. refl;
}

stays : (r : Record) → Steps r [] false r
stays r = quietly r r (goes_same (write_at r) (write_at r) refl)

-- the buffer has as many bytes as it says, where the own is whole
ram_length : (ram : List ℕ) (start at size : ℕ) → start ≤ at → at + size ≤ start + length ram
    → length (take (at - start + size - (at - start)) (drop (at - start) ram)) ≡ size
ram_length ram start at size low high =
    let front = length-take (at - start + size - (at - start)) (drop (at - start) ram) in
    let rest = length-drop (at - start) ram in
    omega (arith, front, rest, low, high)

bytes_length : (r : Record) → HasWholeOwn r
    → length (write_bytes r) ≡ (held ReadOnly console.console 1 r.own).1
bytes_length r whole =
    let buffer = held ReadOnly console.console 1 r.own in
    cond_both (lies_in_ram r.own.layout buffer.0 buffer.1) _ _ (λ (xs : List ℕ). length xs ≡ buffer.1)
    (λ is.
    let lies = in_interval r.own.layout.start r.own.layout.brk buffer.0 buffer.1 is in
    ram_length r.own.ram r.own.layout.start buffer.0 buffer.1 lies.0
    (omega (arith, lies.0, lies.1, whole.1.order.grants, whole.1.bytes, whole.1.order.mark, whole.1.order.brk)))
    (λ is. length-map-range_with_len (flash_of r) buffer.0 buffer.1)

-- a write that waits is kept in a grant, by a process that lives; so one that is put there waits, or none does
waits_so : (lives : Bool) (o : Option KeptValue) (write : WaitingWrite)
    → cond lives (option_and_then console_writes.told o) None ≡ Some write → (lives ≡ true) × (is_some o ≡ true)
waits_so true (Some value) write is = (refl, refl)
waits_so lives o write is = absurd (cc)

put_waits : (request : Option WaitingWrite) (own : Own) (write : WaitingWrite)
    → waiting_in console_writes own ≡ Some write
    → waiting_in console_writes (with_request console_writes request own) ≡ request
put_waits request own write is =
    let so = waits_so own.lives (kept console.console own) write is in
    ap (λ (b : Bool). cond b (request_in console_writes (with_request console_writes request own)) None) so.0
    ∙ put_told request own so.1

-- what the UART's sending half tells
abbrev sent_event : RequestAnswered (List ℕ) → Event
sent_event s = cond s.completed WriteDone Taken

-- and does
module _ (settings : Settings) (r : Record) (whole : HasWholeOwn r) where
  completes_write : (write : WaitingWrite) → write_at r ≡ Some write → (console.portion write r.own == 0) ≡ true
      → Steps r [] true (record_with_step r (console.write_completing r.own write))
  completes_write write is zero_is =
      let none : console.portion write r.own ≡ 0 = eqb-true (console.portion write r.own) 0 zero_is in
      record {
        advances = rw (is, put_waits None r.own write is) tt;
        prints = prints_none r (write_at r);
        ends = λ told. rw is (record { tells = refl; all = omega (arith, none) });
        silent = λ told. refl;
      }

  takes_more : (write : WaitingWrite) → write_at r ≡ Some write
      → Steps r (console.next_bytes (flash_of r) write r.own) false
      (record_with_step r (console.taking r.own write))
  takes_more write is =
      let count = console.portion write r.own in
      let rest = drop write.taken (write_bytes r) in
      let printed = console.next_bytes (flash_of r) write r.own in
      let as_many : length printed ≡ count =
      omega (arith, length-take count rest, length-drop write.taken (write_bytes r), bytes_length r whole) in
      record {
        advances = rw (is, put_waits (Some (taken_more write count)) r.own write is) (ap (taken_more write)
            (sym as_many));
        prints = rw is (record { next = rw as_many; fits = λ few. omega (arith, as_many, few) });
        ends = λ told. absurd (false≢true told);
        silent = λ told. absurd (false≢true told);
      }

  sent_steps :
      let s = console.sent (flash_of r) r.own in
      Steps r s.moved (is_done (sent_event s)) (apply settings (sent_event s) r)
  unfolding console.sent apply
  sent_steps =
      elim (none_or_one (write_at r)) [
        | inl none ↦ rw (none, none) (stays r)
        | inr (write, is) ↦
            elim (cases_Bool (console.portion write r.own == 0)) [
              | inl e ↦ rw (is, e, is) (completes_write write is e)
              | inr e ↦ rw (is, e, is) (takes_more write is)
            ]
      ]

no_act : (completed : Bool) → not (is_act (cond completed WriteDone Taken)) ≡ true
no_act true = refl
no_act false = refl

-- labels by which nothing is printed of the writes of a slot's process, and none completes
abbrev IsOfNone : ℕ → Label → Type 0
IsOfNone slot label = (written_in slot label ≡ []) × (completes slot label ≡ false)

nothing_written : (slot : ℕ) (ls : List Label) → All (IsOfNone slot) ls
    → (flat_map (written_in slot) ls ≡ []) × (list_any (completes slot) ls ≡ false)
nothing_written slot [] each = (refl, refl)
nothing_written slot (label ∷ ls) each =
    let here = All-head (IsOfNone slot) label ls each in
    let later = nothing_written slot ls (All-tail (IsOfNone slot) label ls each) in
    (rw (here.0, later.0), rw (here.1, later.1))

-- each step of a world
module _ (keep : DriversKeep) (w : World) (slot : ℕ) (r : Record)
    (is : slice_get w.records slot ≡ Some r) (whole : HasWholeOwn r) where
  abbrev Written : Stepped → Type 0
  Written s =
      IfSome (slice_get s.after.records slot)
      (Steps r (flat_map (written_in slot) s.labels) (list_any (completes slot) s.labels))

  idle : IfSome (slice_get w.records slot) (Steps r [] false)
  idle = rw is (stays r)

  -- a record that is put at a slot, of which one label tells
  put : (v : World) (at : ℕ) (q s : Record) (event : Event) (trace : TurnTrace) (printed : List ℕ)
      → slice_get w.records at ≡ Some q → v.records ≡ slice_set w.records at s
      → (q ≡ r → Steps r (cond (not (is_act event)) printed []) (is_done event) s)
      → Written (record {
        after = v;
        labels = record { slot = at; event = event; trace = trace; printed = printed } ∷ [];
      })
  put v at q s event trace printed there records each =
      rw records (put_at (λ k b o. slice_get w.records k ≡ Some r
      → IfSome o (Steps r (cond (b && not (is_act event)) printed [] ++ []) ((b && is_done event) || false)))
      w.records at q s there
      (λ is_r. rw (append-nil (cond (not (is_act event)) printed []), or_false (is_done event))
      (each (same_there _ q r there is_r)))
      (λ k apart is_r. rw is_r (stays r)) slot is)

  answered : (at : ℕ) (q : Record) (a : DeviceAnswer) → slice_get w.records at ≡ Some q
      → (q ≡ r → Steps r (cond (not (is_act a.answer.event)) a.answer.printed []) (is_done a.answer.event)
      (apply w.settings a.answer.event q)) → Written (one_answered w at q a)
  answered at q a there each =
      put (one_answered w at q a).after at q (apply w.settings a.answer.event q) a.answer.event untraced
      a.answer.printed there refl each

  of_edge : (button : ℕ) (pressed : Bool) → Steps r [] false (edge_heard button pressed r)
  unfolding apply
  of_edge button pressed =
      cond_both (differs r.pressed button pressed) _ _ (Steps r [] false)
      (λ e. quietly r _ (answer_goes keep w.settings (Edge button pressed) r refl refl)) (λ e. stays r)

  edges : (button : ℕ) (pressed : Bool) (rest : List Arrival)
      → Written (edge_done w button pressed (with_rest w.devices rest))
  edges button pressed rest =
      let none = nothing_written slot (edge_labels button pressed w)
      (told_labels (IsOfNone slot) (telling_edge button pressed w.records w.devices).told 0 w.records
      (λ at n q a here there tells. rw (edge_answer button pressed (slice_get w.records n) a tells)
      (elim (cases_Bool (n == slot)) [ inl e ↦ rw e (refl, refl) | inr e ↦ rw e (refl, refl) ]))) in
      rw (none.0, none.1, slice_get-map (edge_heard button pressed) w.records slot, is) (of_edge button pressed)

  deed_written : (device : Dev) → Written (done w (device_step_of w device))
  unfolding apply
  deed_written device =
      of_device w Written (record {
        none = idle;
        arrives = λ bytes rest. idle;
        edges = edges;
        nobody = λ rest. idle;
        acts = λ verb rest at q there.
            answered at q (operating verb (with_rest w.devices rest) at q) there
            (λ one. rw one (quietly r (operated verb r) (act_goes verb r)));
        alarms = λ at q first there.
            answered at q (alarmed w.settings w.clock.time w.devices) there
            (λ one. rw one (quietly r _ (answer_goes keep w.settings (Alarmed _) r refl refl)));
        sends = λ at q first there.
            answered at q (transmitting (lane_in w) w.clock.time w.devices at q) there
            (λ one. rw (one, no_act (console.sent (flash_of r) r.own).completed) (sent_steps w.settings r whole));
        receives = λ at q first there.
            answered at q (receive_step (lane_in w) w.devices at q) there
            (λ one. rw one (quietly r _ (answer_goes keep w.settings (Input _) r refl refl)));
        draws = λ at q first there.
            answered at q (random_step (lane_in w) w.devices at q) there (λ one. rw one (drawn _));
        stores = λ at q first there.
            answered at q (storing (lane_in w) w.devices at q) there
            (λ one. rw one (quietly r _ (answer_goes keep w.settings (Stored _) r refl refl)));
      }) device
    where
      drawn : (o : Option ℕ) → Steps r (cond (not (is_act (drawn_event o))) [] []) (is_done (drawn_event o))
          (apply w.settings (drawn_event o) r)
      drawn None = quietly r _ (answer_goes keep w.settings NoWord r refl refl)
      drawn (Some word) = quietly r _ (answer_goes keep w.settings (Word word) r refl refl)

  step_written : (choice : Choice)
      → IfSome (slice_get (after w choice).records slot)
      (Steps r (flat_map (written_in slot) (labels w choice)) (list_any (completes slot) (labels w choice)))
  step_written choice =
      of_each_choice Written w idle
      (λ at q there.
      let t = turned w.settings w.clock.time q in
      put (after_turn_of w at t) at q t.after (Turn w.clock.time) t.told [] there refl
      (λ one. rw one (quietly r _ (turn_goes keep w.settings w.clock.time r)))) deed_written (λ clock. idle) choice

-- of a process in a slot that has a write waiting
at_slot : (o : Option Record) (write : WaitingWrite) → option_and_then write_at o ≡ Some write
    → (r : Record) × ((o ≡ Some r) × (write_at r ≡ Some write))
at_slot None write e = absurd (cc)
at_slot (Some r) write e = (r, (refl, e))

some_is : (o : Option WaitingWrite) (x : WaitingWrite) → is_some o ≡ true → IfSome o (λ y. y ≡ x) → o ≡ Some x
some_is None x there h = absurd (false≢true there)
some_is (Some y) x there h = ap Some h

record_there : (o : Option Record) → is_some (option_and_then write_at o) ≡ true → (r : Record) × (o ≡ Some r)
record_there None there = absurd (false≢true there)
record_there (Some r) there = (r, refl)

take_none : (n : ℕ) → ◌≡◌ {A = List ℕ} (take n []) []
take_none zero = refl
take_none (suc n) = refl

take_sum : (m n : ℕ) (xs : List ℕ) → take m xs ++ take n (drop m xs) ≡ take (m + n) xs
take_sum zero n xs = ap (λ (k : ℕ). take k xs) (omega arith)
take_sum (suc m) n [] = take_none n ∙ sym (take_none (suc m + n))
take_sum (suc m) n (x ∷ xs) =
    let more : suc (m + n) ≡ suc m + n = omega arith in
    ap (λ (ys : List ℕ). x ∷ ys) (take_sum m n xs) ∙ ap (λ (k : ℕ). take k (x ∷ xs)) more

-- what the choices of a run leave of a write that waits after each of them
record Waited (v : World) (choices : List Choice) (slot : ℕ) (write : WaitingWrite) : Type 0 where
  is : write_in slot (after_all v choices) ≡ Some (taken_more write (length (written_by slot v choices)))
  next : (bytes : List ℕ) → BufferStays slot bytes v choices
      → written_by slot v choices ≡ take (length (written_by slot v choices)) (drop write.taken bytes)
  fits : write.taken ≤ write.length → write.taken + length (written_by slot v choices) ≤ write.length

module _ (keep : DriversKeep) (stay : HoldsThroughout HasWholeOwn) where
  whole_in : (v : World) (slot : ℕ) (r : Record) → AllHaveWholeOwns v → slice_get v.records slot ≡ Some r
      → HasWholeOwn r
  whole_in v slot r all is = rw is at (all slot)

  after_whole : (v : World) (choice : Choice) → AllHaveWholeOwns v → AllHaveWholeOwns (after v choice)
  after_whole v choice all slot = stay v (choice ∷ []) slot (all slot)

  -- one step of it
  one_step : (v : World) (choice : Choice) (slot : ℕ) (write : WaitingWrite) → AllHaveWholeOwns v
      → write_in slot v ≡ Some write → is_some (write_in slot (after v choice)) ≡ true →
      let printed = flat_map (written_in slot) (labels v choice) in
      (write_in slot (after v choice) ≡ Some (taken_more write (length printed)))
      × (((bytes : List ℕ) → option_map write_bytes (slice_get v.records slot) ≡ Some bytes
      → printed ≡ take (length printed) (drop write.taken bytes))
      × (write.taken ≤ write.length → write.taken + length printed ≤ write.length))
  one_step v choice slot write all is there =
      let here = at_slot (slice_get v.records slot) write is in
      let later = record_there (slice_get (after v choice).records slot) there in
      let printed = flat_map (written_in slot) (labels v choice) in
      let steps = rw later.1 at (step_written keep v slot here.0 here.1.0
      (whole_in v slot here.0 all here.1.0) choice) in
      let prints = rw here.1.1 at steps.prints in
      let advances = rw here.1.1 at steps.advances in (
        rw (later.1, some_is (write_at later.0) (taken_more write (length printed)) (rw later.1 at there) advances),
        (
          λ bytes held_is.
              let buffer : write_bytes here.0 ≡ bytes = same_some _ bytes (rw here.1.0 at held_is) in
              prints.next ∙ ap (λ (xs : List ℕ). take (length printed) (drop write.taken xs)) buffer,
          prints.fits,
        ),
      )

  waited : (v : World) (choices : List Choice) (slot : ℕ) (write : WaitingWrite) → AllHaveWholeOwns v
      → write_in slot v ≡ Some write → StillWaits slot v choices → Waited v choices slot write
  waited v [] slot write all is waits =
      record {
        is = is ∙ ap Some (sym (none_taken write));
        next = λ bytes stays. refl;
        fits = λ few. omega (arith, few);
      }
  waited v (choice ∷ choices) slot write all is waits =
      let u = after v choice in
      let first = flat_map (written_in slot) (labels v choice) in
      let then = written_by slot u choices in
      let step = one_step v choice slot write all is waits.0 in
      let rest = waited u choices slot (taken_more write (length first)) (after_whole v choice all) step.0 waits.1 in
      let whole : written_by slot v (choice ∷ choices) ≡ first ++ then =
      flat_map-append (written_in slot) (labels v choice) (labels_of_all u choices) in
      let size : length (written_by slot v (choice ∷ choices)) ≡ length first + length then =
      ap (λ (xs : List ℕ). length xs) whole ∙ length-append first then in
      record {
        is = rest.is ∙ ap (λ (n : ℕ). Some (record write { taken = n })) (omega (arith, size));
        next = λ bytes stays.
            whole ∙ rw (
              size,
              ← take_sum (length first) (length then) (drop write.taken bytes),
              drop-drop (length first) write.taken bytes,
            ) (ap₂ (λ (xs ys : List ℕ). xs ++ ys) (step.1.0 bytes stays.0)
            (rest.next bytes stays.1));
        fits = λ few. let more = rest.fits (step.1.1 few) in omega (arith, more, size);
      }

  -- a write that begins has none taken
  begins_empty : (w : World) (begin : Choice) (slot : ℕ) (write : WaitingWrite) → AllHaveWholeOwns w
      → write_in slot w ≡ None → write_in slot (after w begin) ≡ Some write → write.taken ≡ 0
  begins_empty w begin slot write all none is =
      let later = at_slot (slice_get (after w begin).records slot) write is in
      elim (none_or_one (slice_get w.records slot)) [
        | inl there ↦
            let gone = record_is_replay w (begin ∷ []) slot ∙ ap (option_map _) there in
            absurd (cc (later.1.0))
        | inr (r, there) ↦
            let steps = rw later.1.0 at (step_written keep w slot r there (whole_in w slot r all there) begin) in
            rw later.1.1 at (rw (rw there at none) at steps.advances).1
      ]

  pub writes_complete_truly : WritesCompleteTruly
  writes_complete_truly w begin choices slot write all none begun waits =
      let v = after w begin in
      let u = after_all v choices in
      let count = length (written_by slot v choices) in
      let run = waited v choices slot write (after_whole w begin all) begun waits in
      let empty = begins_empty w begin slot write all none begun in
      let total : write.taken + count ≡ count = omega (arith, empty) in
      record {
        prefix = λ bytes stays. run.next bytes stays ∙ ap (λ (n : ℕ). take count (drop n bytes)) empty;
        ends = λ choice r s there later told.
            let waits_there : write_at r ≡ Some (taken_more write count) = rw there at run.is in
            let steps = rw later at (step_written keep u slot r there (rw there at (stay w (begin ∷ choices) slot
            (all slot))) choice) in
            let ends = rw waits_there at (steps.ends told) in
            record {
              tells = ends.tells ∙ ap (λ (n : ℕ). record r {
                own = own_scheduled console.console 1 (n ∷ 0 ∷ 0 ∷ []) (with_request console_writes None r.own);
              }) total;
              no_more = omega (arith, empty, run.fits (omega (arith, empty)));
              silent = steps.silent told;
              all = omega (arith, ends.all, total);
            };
      }
