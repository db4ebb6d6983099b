-- What a device's step leaves and tells, slot by slot: nothing but its devices where it tells nobody anything, one
-- record and its labels where it answers one process, and each record by itself where it tells of an edge of a button.
-- By induction on the records; `of_device` is the walk over devices that this gives (`OfEachDevice`).
use Rattle.std.proofs.Common.{◌≡◌, ◌≢◌, inl, inr, ◌≤◌, ℕ, zero, suc, ◌+◌, Bool, true, false, List, []}
use Rattle.std.proofs.Common.{◌∷◌, ◌++◌}
use Rattle.std.proofs.Common.{length, map, slice_get, slice_set, Option, None, Some, refl, sym, ap, ap₂, ◌∙◌}
use Rattle.std.proofs.Common.{arith, eq-eqb}
use Rattle.std.specs.Prelude.{All}
use Rattle.std.specs.Option.{option_and_then, option_map}
use Rattle.std.specs.Prelude.{flat_map}
use Rattle.std.proofs.lemmas.List.Elements.{All-nil, All-cons, All-head, All-tail}
use Rattle.tk_base.specs.declared.process.Verb.{Verb}
use Rattle.tk_base.specs.declared.process.Dev.{Dev}
use Rattle.tk_base.specs.declared.process.Dev.TheVariants as dev
use Rattle.board_devices.specs.Arriving.{differs}
use Rattle.board_devices.specs.SerialLine.{with_input}
use Rattle.script_text.specs.Settings.{ScriptEvent as Arrival, EventKind}
use Rattle.script_text.specs.Settings as script
use Rattle.process_record.specs.Emit.{nothing}
use Rattle.kernel_model.specs.Record.{Record}
use Rattle.kernel_model.specs.declared.settings.Settings.{Settings}
use Rattle.kernel_model.specs.Turn.{Edge, apply, is_act, is_turn}
use Rattle.kernel_model.specs.Shown.{shown_by}
use Rattle.kernel_model.specs.Laws.{ComesTo, DevicesAnswerOne, IsSilent, edge_done, edge_heard, edge_labels}
use Rattle.kernel_model.specs.Laws.{one_answered, quiet}
use Rattle.kernel_model.specs.World.{Answer, DeviceAnswer, DeviceStep, Devices, Label, Stepped, World, answer_label}
use Rattle.kernel_model.specs.Parts.{alarmed}
use Rattle.kernel_model.specs.World.{answering, arrived, coming_in, device_step_of, done, edge_told}
use Rattle.kernel_model.specs.Parts.{acting_on, happens}
use Rattle.kernel_model.specs.Parts.{happened, labels_of}
use Rattle.kernel_model.specs.World.{labels_told, lane_in, random_step, receive_step, records_told, serving, storing}
use Rattle.kernel_model.specs.Parts.{served_by}
use Rattle.kernel_model.specs.World.{operating, telling_edge, telling_nobody, transmitting, unmade}
use Rattle.kernel_model.specs.Parts.{slot_of_name}
use Rattle.std.proofs.lemmas.Bool.{cases_Bool, ne_eqb}
use Rattle.std.proofs.lemmas.Option.{cond_some}
use Rattle.kernel_model.proofs.Places.{cases_Option, same_some}

-- there are as many records
pub told_length : (settings : Settings) (told : ℕ → Option Answer) (rs : List Record)
    → length (records_told settings told rs) ≡ length rs
told_length settings told [] = refl
told_length settings told (r ∷ rs) = ap suc (told_length settings (λ slot. told (suc slot)) rs)

-- each is what its own event makes of it
pub told_at : (settings : Settings) (told : ℕ → Option Answer) (rs : List Record) (slot : ℕ)
    → slice_get (records_told settings told rs) slot
    ≡ option_map (happens settings (told slot)) (slice_get rs slot)
told_at settings told [] slot = refl
told_at settings told (r ∷ rs) zero = refl
told_at settings told (r ∷ rs) (suc slot) = told_at settings (λ other. told (suc other)) rs slot

-- nobody is told anything
told_none : (settings : Settings) (told : ℕ → Option Answer) (rs : List Record) → ((slot : ℕ) → told slot ≡ None)
    → records_told settings told rs ≡ rs
told_none settings told [] none = refl
told_none settings told (r ∷ rs) none =
    rw (none 0, told_none settings (λ slot. told (suc slot)) rs (λ slot. none (suc slot)))

-- the process in one slot is, and no other
told_one : (settings : Settings) (told : ℕ → Option Answer) (slot : ℕ) (a : Answer) (rs : List Record) (r : Record)
    → told slot ≡ Some a → ((other : ℕ) → other ≢ slot → told other ≡ None) → slice_get rs slot ≡ Some r
    → records_told settings told rs ≡ slice_set rs slot (apply settings a.event r)
told_one settings told slot a [] r is none there = absurd (cc)
told_one settings told zero a (x ∷ rs) r is none there =
    rw (
      is,
      same_some x r there,
      told_none settings (λ other. told (suc other)) rs
          (λ other. none (suc other) (λ same. omega (arith, same))),
    )
told_one settings told (suc slot) a (x ∷ rs) r is none there =
    rw (
      none 0 (λ same. omega (arith, same)),
      told_one settings (λ other. told (suc other)) slot a rs r is
          (λ other apart. none (suc other) (λ same. apart (omega (arith, same)))) there,
    )

-- from a slot on nobody is told anything
labels_none : (told : ℕ → Option Answer) (slot : ℕ) (rs : List Record) → ((other : ℕ) → slot ≤ other
    → told other ≡ None)
    → labels_told told slot rs ≡ []
labels_none told slot [] none = refl
labels_none told slot (r ∷ rs) none =
    rw (none slot (omega arith)) (labels_none told (suc slot) rs (λ other past. none other (omega (arith, past))))

labels_one : (told : ℕ → Option Answer) (from slot at : ℕ) (a : Answer) (rs : List Record) (r : Record)
    → at ≡ from + slot → told at ≡ Some a → ((other : ℕ) → other ≢ at → told other ≡ None) → slice_get rs slot ≡ Some r
    → labels_told told from rs ≡ labels_of at (Some a)
labels_one told from slot at a [] r here is none there = absurd (cc)
labels_one told from zero at a (x ∷ rs) r here is none there =
    let same : from ≡ at = omega (arith, here) in
    rw (same, is, labels_none told (suc at) rs (λ other past. none other (λ e. omega (arith, e, past))))
labels_one told from (suc slot) at a (x ∷ rs) r here is none there =
    rw (none from (λ same. omega (arith, same, here)))
    (labels_one told (suc from) slot at a rs r (omega (arith, here)) is none there)

-- what holds of the label of each thing that is told to a process which is there holds of all labels
pub told_labels : (P : Label → Type 0) (told : ℕ → Option Answer) (from : ℕ) (rs : List Record)
    → ((slot at : ℕ) (r : Record) (a : Answer) → at ≡ from + slot → slice_get rs slot ≡ Some r → told at ≡ Some a
    → P (answer_label at a))
    → All P (labels_told told from rs)
told_labels P told from [] each = All-nil P
told_labels P told from (r ∷ rs) each =
    let later : All P (labels_told told (suc from) rs) =
    told_labels P told (suc from) rs (λ slot at q a here. each (suc slot) at q a (omega (arith, here))) in
    elim (cases_Option (told from)) [
      | inl none ↦ rw none later
      | inr is ↦ rw is.1 (All-cons P _ _ (each 0 from r is.0 (omega arith) refl is.1) later)
    ]

-- what the process in a slot is told, if there is one
abbrev pub told_there : (ℕ → Option Answer) → List Record → ℕ → ℕ → Option Answer
told_there told rs slot at = option_and_then (λ (r : Record). told at) (slice_get rs slot)

-- What is read of labels one after another, so that those of other slots count nothing, is what is read of the one of
-- this slot.
module _ {Y : Type 0} (read : List Label → Y) (add : Label → Y → Y)
    (adds : (label : Label) (ls : List Label) → read (label ∷ ls) ≡ add label (read ls)) (at : ℕ)
    (others : (label : Label) (y : Y) → label.slot ≢ at → add label y ≡ y) where
  -- the labels of a slot before others
  read_of : (told : ℕ → Option Answer) (from : ℕ) (ls : List Label) → from ≢ at
      → read (labels_of from (told from) ++ ls) ≡ read ls
  read_of told from ls apart =
      elim (told from) as (λ o. read (labels_of from o ++ ls) ≡ read ls)
      [ None ↦ refl | Some a ↦ adds (answer_label from a) ls ∙ others (answer_label from a) (read ls) apart ]

  -- of none of the labels from a later slot on
  read_past : (told : ℕ → Option Answer) (from : ℕ) (rs : List Record) → suc at ≤ from
      → read (labels_told told from rs) ≡ read []
  read_past told from [] past = refl
  read_past told from (r ∷ rs) past =
      read_of told from (labels_told told (suc from) rs) (λ same. omega (arith, past, same))
      ∙ read_past told (suc from) rs (omega (arith, past))

  read_from : (told : ℕ → Option Answer) (from slot : ℕ) (rs : List Record) → at ≡ from + slot
      → read (labels_told told from rs) ≡ read (labels_of at (told_there told rs slot at))
  read_from told from slot [] here = refl
  read_from told from zero (r ∷ rs) here =
      let same : from ≡ at = omega (arith, here) in
      let past = read_past told (suc at) rs (omega arith) in
      rw same (elim (told at) as (λ o. read (labels_of at o ++ labels_told told (suc at) rs) ≡ read (labels_of at o))
      [ None ↦ past | Some a ↦ rw (adds, adds, past) ])
  read_from told from (suc slot) (r ∷ rs) here =
      read_of told from (labels_told told (suc from) rs) (λ same. omega (arith, here, same))
      ∙ read_from told (suc from) slot rs (omega (arith, here))

  pub labels_at : (told : ℕ → Option Answer) (rs : List Record)
      → read (labels_told told 0 rs) ≡ read (labels_of at (told_there told rs at at))
  labels_at told rs = read_from told 0 at rs (omega arith)

-- so what happened to the process in a slot, of all that is told, is what it is told
pub heard_at : (told : ℕ → Option Answer) (rs : List Record) (slot : ℕ)
    → flat_map (happened slot) (labels_told told 0 rs)
    ≡ flat_map (happened slot) (labels_of slot (told_there told rs slot slot))
heard_at told rs slot =
    labels_at (flat_map (happened slot)) (λ label h. happened slot label ++ h) (λ label ls. refl) slot
    (λ label h apart. rw (ne_eqb label.slot slot apart)) told rs

-- the devices once bytes came in
abbrev pub with_arrived : Devices → List ℕ → List Arrival → Devices
with_arrived d bytes rest = record d { lines = map (with_input bytes) d.lines; arrivals = rest }

-- and once an edge did
abbrev pub with_rest : Devices → List Arrival → Devices
with_rest d rest = record d { arrivals = rest }

-- that is what the definitions come to
abbrev with_told : World → Devices → List Record → List Label → Stepped
with_told w devices records labels = record {
  after = record w { records = records; devices = devices; clock = record w.clock { steps = w.clock.steps + 1 } };
  labels = labels;
}

pub done_quietly : (w : World) (devices : Devices)
    → done w (Some (record { told = λ slot. None; devices = devices })) ≡ quiet w devices
done_quietly w devices =
    ap₂ (with_told w devices) (told_none w.settings (λ slot. None) w.records (λ slot. refl))
    (labels_none (λ slot. None) 0 w.records (λ slot past. refl))

pub done_one : (w : World) (slot : ℕ) (a : DeviceAnswer) (r : Record) → slice_get w.records slot ≡ Some r
    → done w (Some (answering slot a)) ≡ one_answered w slot r a
done_one w slot a r there =
    let told = (answering slot a).told in
    let is : told slot ≡ Some a.answer = rw (eq-eqb slot slot refl) in
    let none : (other : ℕ) → other ≢ slot → told other ≡ None = λ other apart. rw (ne_eqb other slot apart) in
    ap₂ (with_told w a.devices) (told_one w.settings told slot a.answer w.records r is none there)
    (labels_one told 0 slot slot a.answer w.records r (omega arith) is none there)

-- each record of which the process is told of an edge
told_edges : (settings : Settings) (button : ℕ) (pressed : Bool) (rs : List Record)
    → records_told settings (λ slot. option_and_then (edge_told button pressed) (slice_get rs slot)) rs
    ≡ map (edge_heard button pressed) rs
unfolding apply
told_edges settings button pressed [] = refl
told_edges settings button pressed (r ∷ rs) =
    let later = told_edges settings button pressed rs in
    elim (cases_Bool (differs r.pressed button pressed)) [ inl e ↦ rw (e, later) | inr e ↦ rw (e, later) ]

pub done_edge : (w : World) (button : ℕ) (pressed : Bool) (devices : Devices)
    → done w (Some (telling_edge button pressed w.records devices)) ≡ edge_done w button pressed devices
done_edge w button pressed devices =
    ap (λ (records : List Record). with_told w devices records (edge_labels button pressed w))
    (told_edges w.settings button pressed w.records)

-- what a process is told of an edge is that
pub edge_answer : (button : ℕ) (pressed : Bool) (o : Option Record) (a : Answer)
    → option_and_then (edge_told button pressed) o ≡ Some a
    → a ≡ record { event = Edge button pressed; printed = [] }
edge_answer button pressed None a e = absurd (cc)
edge_answer button pressed (Some r) a e = sym (cond_some (differs r.pressed button pressed) _ a e).1

pub edge_silent : (w : World) (button : ℕ) (pressed : Bool) → All IsSilent (edge_labels button pressed w)
edge_silent w button pressed =
    told_labels IsSilent (telling_edge button pressed w.records w.devices).told 0 w.records
    (λ slot at r a here there is.
    let same = edge_answer button pressed (slice_get w.records at) a is in
    record {
      no_turn = ap (λ (x : Answer). is_turn x.event) same;
      no_act = ap (λ (x : Answer). is_act x.event) same;
      prints = ap (λ (x : Answer). x.printed) same;
    })

-- labels of no turn and of no act for which nothing was printed show nothing
silence : (ls : List Label) → All IsSilent ls → shown_by ls ≡ nothing
unfolding shown_by
silence [] each = refl
silence (label ∷ ls) each =
    let silent = All-head IsSilent label ls each in
    rw (silent.no_turn, silent.no_act, silent.prints) (silence ls (All-tail IsSilent label ls each))

-- what holds of each thing that a device's step may come to
pub record OfEachDevice (w : World) (P : Stepped → Type 0) : Type 0 where
  pub none : P (unmade w)
  pub arrives : (bytes : List ℕ) (rest : List Arrival) → P (quiet w (with_arrived w.devices bytes rest))
  pub edges : (button : ℕ) (pressed : Bool) (rest : List Arrival)
      → P (edge_done w button pressed (with_rest w.devices rest))
  pub nobody : (rest : List Arrival) → P (quiet w (with_rest w.devices rest))
  pub acts : (verb : Verb) (rest : List Arrival) (slot : ℕ) (r : Record) → slice_get w.records slot ≡ Some r
      → P (one_answered w slot r (operating verb (with_rest w.devices rest) slot r))
  pub alarms : (slot : ℕ) (r : Record) → served_by w dev.Alarm ≡ Some slot → slice_get w.records slot ≡ Some r
      → P (one_answered w slot r (alarmed w.settings w.clock.time w.devices))
  pub sends : (slot : ℕ) (r : Record) → served_by w dev.Uart ≡ Some slot → slice_get w.records slot ≡ Some r
      → P (one_answered w slot r (transmitting (lane_in w) w.clock.time w.devices slot r))
  pub receives : (slot : ℕ) (r : Record) → served_by w dev.Receive ≡ Some slot → slice_get w.records slot ≡ Some r
      → P (one_answered w slot r (receive_step (lane_in w) w.devices slot r))
  pub draws : (slot : ℕ) (r : Record) → served_by w dev.Random ≡ Some slot → slice_get w.records slot ≡ Some r
      → P (one_answered w slot r (random_step (lane_in w) w.devices slot r))
  pub stores : (slot : ℕ) (r : Record) → served_by w dev.Store ≡ Some slot → slice_get w.records slot ≡ Some r
      → P (one_answered w slot r (storing (lane_in w) w.devices slot r))

-- what holds of the deed of each thing that may come in holds of that of any: of bytes, of an edge, and of an act, on
-- nobody or on a process that is there
pub record OfEachComing (P : DeviceStep → Type 0) (w : World) (d : Devices) : Type 0 where
  pub bytes : (bytes : List ℕ) → P (coming_in (script.Input bytes) w.records d)
  pub edges : (button : ℕ) (pressed : Bool) → P (telling_edge button pressed w.records d)
  pub nobody : P (telling_nobody d)
  pub acts : (verb : Verb) (slot : ℕ) (r : Record) → slice_get w.records slot ≡ Some r
      → P (answering slot (operating verb d slot r))

pub of_coming : (P : DeviceStep → Type 0) (w : World) (d : Devices) → OfEachComing P w d → (kind : EventKind)
    → P (coming_in kind w.records d)
of_coming P w d each (script.Input bytes) = each.bytes bytes
of_coming P w d each (script.Press button) = each.edges button true
of_coming P w d each (script.Release button) = each.edges button false
of_coming P w d each (script.Act verb name) = by_slot (slot_of_name name w.records)
  where
    by_slot : (o : Option ℕ) → P (acting_on verb w.records d o)
    by_slot None = each.nobody
    by_slot (Some slot) =
        elim (cases_Option (slice_get w.records slot))
        [ inl none ↦ rw none each.nobody | inr is ↦ rw is.1 (each.acts verb slot is.0 is.1) ]

module _ (w : World) (P : Stepped → Type 0) (none : P (unmade w)) where
  of_serving : (answer : ℕ → Record → DeviceAnswer) (served : Option ℕ)
      → ((slot : ℕ) (r : Record) → served ≡ Some slot → slice_get w.records slot ≡ Some r
      → P (one_answered w slot r (answer slot r))) → P (done w (serving w.records answer served))
  of_serving answer None each = none
  of_serving answer (Some slot) each =
      elim (cases_Option (slice_get w.records slot)) [
        | inl none_there ↦ rw none_there none
        | inr is ↦ let r = is.0 in rw (is.1, done_one w slot (answer slot r) r is.1) (each slot r refl is.1)
      ]

pub of_device : (w : World) (P : Stepped → Type 0) → OfEachDevice w P → (device : Dev)
    → P (done w (device_step_of w device))
of_device w P each dev.Event = by_first w.devices.arrivals
  where
    by_first : (arrivals : List Arrival) → P (done w (arrived w.records w.devices arrivals))
    by_first [] = each.none
    by_first (a ∷ rest) =
        let left = with_rest w.devices rest in
        of_coming (λ deed. P (done w (Some deed))) w left (record {
          bytes = λ bytes. rw (done_quietly w (with_arrived w.devices bytes rest)) (each.arrives bytes rest);
          edges = λ button pressed. rw (done_edge w button pressed left) (each.edges button pressed rest);
          nobody = rw (done_quietly w left) (each.nobody rest);
          acts = λ verb slot r is.
              rw (done_one w slot (operating verb left slot r) r is) (each.acts verb rest slot r is);
        }) a.kind
of_device w P each dev.Alarm =
    of_serving w P each.none (λ slot r. alarmed w.settings w.clock.time w.devices) (served_by w dev.Alarm)
    each.alarms
of_device w P each dev.Uart =
    of_serving w P each.none (transmitting (lane_in w) w.clock.time w.devices) (served_by w dev.Uart)
    each.sends
of_device w P each dev.Receive =
    of_serving w P each.none (receive_step (lane_in w) w.devices) (served_by w dev.Receive)
    each.receives
of_device w P each dev.Random =
    of_serving w P each.none (random_step (lane_in w) w.devices) (served_by w dev.Random) each.draws
of_device w P each dev.Store =
    of_serving w P each.none (storing (lane_in w) w.devices) (served_by w dev.Store) each.stores

-- so it is with each device's step
comes_to : (w : World) (device : Dev) → ComesTo w (done w (device_step_of w device))
comes_to w device =
    of_device w (ComesTo w) (record {
      none = inl refl;
      arrives = λ bytes rest. inr (inl (with_arrived w.devices bytes rest, refl));
      edges = λ button pressed rest. inr (inr (inr (record {
        rest = rest;
        button = button;
        pressed = pressed;
        is = sym (done_edge w button pressed (with_rest w.devices rest));
      })));
      nobody = λ rest. inr (inl (with_rest w.devices rest, refl));
      acts = λ verb rest slot r is. answers slot r is (operating verb (with_rest w.devices rest) slot r);
      alarms = λ slot r first is. answers slot r is (alarmed w.settings w.clock.time w.devices);
      sends = λ slot r first is. answers slot r is (transmitting (lane_in w) w.clock.time w.devices slot r);
      receives = λ slot r first is. answers slot r is (receive_step (lane_in w) w.devices slot r);
      draws = λ slot r first is. answers slot r is (random_step (lane_in w) w.devices slot r);
      stores = λ slot r first is. answers slot r is (storing (lane_in w) w.devices slot r);
    }) device
  where
    answers : (slot : ℕ) (r : Record) → slice_get w.records slot ≡ Some r → (a : DeviceAnswer)
        → ComesTo w (one_answered w slot r a)
    answers slot r is a = inr (inr (inl (record { slot = slot; there = r; is_there = is; answer = a; is = refl })))

pub devices_answer_one : DevicesAnswerOne
devices_answer_one = record {
  one = done_one;
  nobody = done_quietly;
  tells_edge = done_edge;
  silent = edge_silent;
  shows_nothing = λ w button pressed. silence (edge_labels button pressed w) (edge_silent w button pressed);
  each = comes_to;
}
