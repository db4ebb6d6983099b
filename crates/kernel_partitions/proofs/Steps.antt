-- In two worlds that are alike in a slot, its own steps lead to worlds that are alike in it, and tell the same of it:
-- its turn, a device's step in its window, and what comes in. Each deed is a function of the slot's record and lane
-- (`ServeAlike`), which are the same in both; so each device is one case.
use Rattle.std.proofs.lemmas.Bool.{cases_Bool}
use Rattle.std.proofs.Common.{inl, inr, ne_eqb}
use Rattle.std.proofs.Common.{◌≡◌, ◌≢◌, ℕ, ◌==◌, ◌∷◌, ◌+◌, Bool, true, false, cond, List, [], filter}
use Rattle.std.proofs.Common.{slice_get, slice_index_or, Option, None, Some, refl, sym, ap, ap₂, ◌∙◌, eqb-true}
use Rattle.std.proofs.Common.{subst}
use Rattle.std.specs.Prelude.{All}
use Rattle.std.specs.Option.{option_and_then, option_map}
use Rattle.std.proofs.lemmas.Option.{slice_get-map}
use Rattle.std.proofs.lemmas.List.Elements.{All-head}
use Rattle.tk_base.specs.declared.process.Dev.{Dev}
use Rattle.tk_base.specs.declared.process.Dev.TheVariants as dev
use Rattle.script_text.specs.Settings.{ScriptEvent as Arrival, EventKind}
use Rattle.script_text.specs.Settings as script
use Rattle.board_devices.specs.Arriving.{act_of}
use Rattle.board_devices.specs.Clock.{clock_at}
use Rattle.board_devices.specs.SerialLine.{with_input}
use Rattle.board_devices.specs.Parts.{no_line}
use Rattle.board_devices.specs.Storage.{is_fault}
use Rattle.driver_model.specs.Alarm as alarm
use Rattle.driver_model.specs.Console as console
use Rattle.driver_model.specs.Random as random
use Rattle.driver_model.specs.Storage as storage
use Rattle.driver_model.specs.Commands.{QueueName, Writes, Reads, Randoms, Stores}
use Rattle.kernel_model.specs.Record.{Record}
use Rattle.kernel_model.specs.declared.settings.Settings.{Settings}
use Rattle.kernel_model.specs.Turn.{Turned, turned}
use Rattle.kernel_model.specs.Record.{flash_of}
use Rattle.kernel_model.specs.World.{Answer, DeviceAnswer, DeviceStep, Devices, Label, Stepped, World}
use Rattle.kernel_model.specs.World.{answering, arrived, coming_in, device_step_of, done, edge_told}
use Rattle.kernel_model.specs.Parts.{first_in}
use Rattle.kernel_model.specs.Parts.{alarmed}
use Rattle.kernel_model.specs.World.{labels_told, now_in, only_in, owns_in}
use Rattle.kernel_model.specs.Parts.{line_in}
use Rattle.kernel_model.specs.Parts.{is_waited_for, labels_of}
use Rattle.kernel_model.specs.World.{ran, random_step, receive_step, serving, storing}
use Rattle.kernel_model.specs.Named.{slots_in}
use Rattle.kernel_model.specs.Named.{lane_by}
use Rattle.kernel_model.specs.World.{telling_edge, transmitting, unmade}
use Rattle.kernel_model.specs.Named.{waits_in}
use Rattle.kernel_model.proofs.Places.{set_own}
use Rattle.kernel_model.proofs.Told.{labels_at, told_at, told_there}
use Rattle.kernel_partitions.specs.Alike.{AreAlikeIn, IsNoAct, LanesAreAlike}
use Rattle.kernel_partitions.specs.Parts.{told_of}
use Rattle.kernel_partitions.proofs.Lanes.{answers_alike, indexes_alike, routes_alike, sets_alike, some_wait}

-- two steps leave worlds that are alike in a slot, and tell the same of it
pub record StepsAlike (slot : ℕ) (s t : Stepped) : Type 0 where
  pub worlds : AreAlikeIn slot s.after t.after
  pub told : told_of slot s.labels ≡ told_of slot t.labels

-- what a device does, by the slot that alone may be served
abbrev pub deed_by : Option ℕ → World → Dev → Option DeviceStep
deed_by only w dev.Event = arrived w.records w.devices w.devices.arrivals
deed_by only w dev.Alarm =
    serving w.records (λ slot r. alarmed w.settings w.clock.time w.devices) (alarm.due_for only (now_in w) (owns_in w))
deed_by only w dev.Uart = serving w.records (transmitting (lane_by only) w.clock.time w.devices)
    (first_in only Writes w.devices)
deed_by only w dev.Receive = serving w.records (receive_step (lane_by only) w.devices) (first_in only Reads w.devices)
deed_by only w dev.Random = serving w.records (random_step (lane_by only) w.devices) (first_in only Randoms w.devices)
deed_by only w dev.Store = serving w.records (storing (lane_by only) w.devices) (first_in only Stores w.devices)

pub deed_is : (w : World) (device : Dev) → device_step_of w device ≡ deed_by (only_in w) w device
deed_is w dev.Event = refl
deed_is w _ = refl

-- labels of other slots count nothing
others_count : (slot : ℕ) (label : Label) (ls : List Label) → label.slot ≢ slot
    → cond (label.slot == slot) (label ∷ ls) ls ≡ ls
others_count slot label ls apart = rw (ne_eqb label.slot slot apart) refl

-- what a device's step tells of a slot
pub told_by : (slot : ℕ) (told : ℕ → Option Answer) (rs : List Record)
    → told_of slot (labels_told told 0 rs) ≡ told_of slot (labels_of slot (told_there told rs slot slot))
told_by slot told rs =
    labels_at (told_of slot) (λ label ls. cond (label.slot == slot) (label ∷ ls) ls) (λ label ls. refl) slot
    (others_count slot) told rs

-- one of some, if a slot stands in a queue, or none
pub first_is : (slot : ℕ) (queue : QueueName) (d : Devices)
    → first_in (Some slot) queue d ≡ cond (waits_in (Some slot) queue d) (Some slot) None
first_is slot queue d = by_list (slots_in queue d.waiting)
  where
    by_list : (slots : List ℕ) → slice_get (filter (λ (s : ℕ). s == slot) slots) 0
        ≡ cond (is_waited_for (filter (λ (s : ℕ). s == slot) slots)) (Some slot) None
    by_list [] = refl
    by_list (s ∷ slots) =
        elim (cases_Bool (s == slot)) [
          | inl e ↦ rw (e, some_wait) (ap Some (eqb-true s slot e))
          | inr e ↦ rw e (by_list slots)
        ]

module _ (slot : ℕ) (v w : World) (alike : AreAlikeIn slot v w) where
  nothing_made : StepsAlike slot (unmade v) (unmade w)
  nothing_made = record { worlds = alike; told = refl }

  -- two deeds that tell the slot's process the same, and leave its lanes alike
  deeds_alike : (a b : DeviceStep) → a.told slot ≡ b.told slot → LanesAreAlike slot a.devices b.devices
      → StepsAlike slot (done v (Some a)) (done w (Some b))
  deeds_alike a b told lanes = record {
    worlds = record {
      window = alike.window;
      settings = alike.settings;
      time = alike.time;
      record_is = rw (
        told_at v.settings a.told v.records slot,
        told_at w.settings b.told w.records slot,
        alike.record_is,
        alike.settings,
        told,
      ) refl;
      lanes = lanes;
    };
    told = rw (told_by slot a.told v.records, told_by slot b.told w.records, alike.record_is, told) refl;
  }

  -- a device that serves the slot, or nobody
  record ServeAlike (f g : ℕ → Record → DeviceAnswer) : Type 0 where
    answer : (r : Record) → (f slot r).answer ≡ (g slot r).answer
    lanes : (r : Record) → LanesAreAlike slot (f slot r).devices (g slot r).devices

  serves_alike : (f g : ℕ → Record → DeviceAnswer) → ServeAlike f g → (b : Bool)
      → StepsAlike slot (done v (serving v.records f (cond b (Some slot) None)))
      (done w (serving w.records g (cond b (Some slot) None)))
  serves_alike f g same false = nothing_made
  serves_alike f g same true = rw alike.record_is (by_record (slice_get w.records slot))
    where
      by_record : (o : Option Record)
          → StepsAlike slot (done v (option_map (λ (r : Record). answering slot (f slot r)) o))
          (done w (option_map (λ (r : Record). answering slot (g slot r)) o))
      by_record None = nothing_made
      by_record (Some r) =
          deeds_alike (answering slot (f slot r)) (answering slot (g slot r))
          (ap (λ (a : Answer). cond (slot == slot) (Some a) None) (same.answer r)) (same.lanes r)

  of_queue : (queue : QueueName) (f g : ℕ → Record → DeviceAnswer) → ServeAlike f g
      → StepsAlike slot (done v (serving v.records f (first_in (Some slot) queue v.devices)))
      (done w (serving w.records g (first_in (Some slot) queue w.devices)))
  of_queue queue f g same =
      rw (first_is slot queue v.devices, first_is slot queue w.devices, alike.lanes.waits queue)
      (serves_alike f g same (waits_in (Some slot) queue w.devices))

  pub same_line : line_in slot v.devices ≡ line_in slot w.devices
  same_line = indexes_alike v.devices.lines w.devices.lines slot no_line alike.lanes.line

  pub same_own : slice_get (owns_in v) slot ≡ slice_get (owns_in w) slot
  same_own =
      slice_get-map (λ (r : Record). r.own) v.records slot ∙ ap (option_map (λ (r : Record). r.own)) alike.record_is
      ∙ sym (slice_get-map (λ (r : Record). r.own) w.records slot)

  pub same_now : now_in v ≡ now_in w
  same_now = ap₂ (λ (s : Settings) (time : ℕ). clock_at s.start time) alike.settings alike.time

  alarms_alike : StepsAlike slot (done v (deed_by (Some slot) v dev.Alarm)) (done w (deed_by (Some slot) w dev.Alarm))
  alarms_alike =
      rw (same_now, same_own) (serves_alike (λ slot r. alarmed w.settings w.clock.time v.devices)
      (λ slot r. alarmed w.settings w.clock.time w.devices) (record { answer = λ r. refl; lanes = λ r. alike.lanes })
      (alarm.has_due (now_in w) (slice_get (owns_in w) slot)))

  sends_alike : StepsAlike slot (done v (deed_by (Some slot) v dev.Uart)) (done w (deed_by (Some slot) w dev.Uart))
  sends_alike =
      of_queue Writes (transmitting slot v.clock.time v.devices) (transmitting slot w.clock.time w.devices) (record {
        answer = λ r. refl;
        lanes = λ r. let served = console.sent (flash_of r) r.own in
            let left = answers_alike slot slot Writes served.completed v.devices w.devices alike.lanes in
            rw (alike.time, same_line) (record {
              arrivals = left.arrivals;
              faults = left.faults;
              line = sets_alike v.devices.lines w.devices.lines slot _ _ alike.lanes.line refl;
              words = left.words;
              served = left.served;
              waits = λ queue. left.waits queue;
            });
      })

  receives_alike : StepsAlike slot (done v (deed_by (Some slot) v dev.Receive))
      (done w (deed_by (Some slot) w dev.Receive))
  receives_alike =
      of_queue Reads (receive_step slot v.devices) (receive_step slot w.devices) (record {
        answer = λ r. rw same_line refl;
        lanes = λ r. let served = console.received (line_in slot w.devices).ring r.own in
            let left = answers_alike slot slot Reads served.completed v.devices w.devices alike.lanes in
            rw same_line (record {
              arrivals = left.arrivals;
              faults = left.faults;
              line = sets_alike v.devices.lines w.devices.lines slot _ _ alike.lanes.line refl;
              words = left.words;
              served = left.served;
              waits = λ queue. left.waits queue;
            });
      })

  draws_alike : StepsAlike slot (done v (deed_by (Some slot) v dev.Random)) (done w (deed_by (Some slot) w dev.Random))
  draws_alike =
      let same : slice_index_or v.devices.words slot [] ≡ slice_index_or w.devices.words slot []
      = indexes_alike v.devices.words w.devices.words slot [] alike.lanes.words in
      of_queue Randoms (random_step slot v.devices) (random_step slot w.devices) (record {
        answer = λ r. rw same refl;
        lanes = λ r. let a = random.answered (slice_get (slice_index_or w.devices.words slot []) 0) r.own in
            let left = answers_alike slot slot Randoms a.completed v.devices w.devices alike.lanes in
            rw same (record {
              arrivals = left.arrivals;
              faults = left.faults;
              line = left.line;
              words = sets_alike v.devices.words w.devices.words slot _ _ alike.lanes.words refl;
              served = left.served;
              waits = λ queue. left.waits queue;
            });
      })

  stores_alike : StepsAlike slot (done v (deed_by (Some slot) v dev.Store)) (done w (deed_by (Some slot) w dev.Store))
  stores_alike =
      let same : slice_index_or v.devices.served slot 0 ≡ slice_index_or w.devices.served slot 0
      = indexes_alike v.devices.served w.devices.served slot 0 alike.lanes.served in
      of_queue Stores (storing slot v.devices) (storing slot w.devices) (record {
        answer = λ r. rw (same, alike.lanes.faults) refl;
        lanes = λ r.
            let fails = is_fault w.devices.faults (slice_index_or w.devices.served slot 0 + 1) in
            let a = storage.answered fails (flash_of r) r.storage r.own in
            let left = answers_alike slot slot Stores a.completed v.devices w.devices alike.lanes in
            rw (same, alike.lanes.faults) (record {
              arrivals = left.arrivals;
              faults = refl;
              line = left.line;
              words = left.words;
              served = sets_alike v.devices.served w.devices.served slot _ _ alike.lanes.served refl;
              waits = λ queue. left.waits queue;
            });
      })

  -- what comes in, where no operator acts
  comes_alike : (arrivals : List Arrival) → All IsNoAct arrivals
      → StepsAlike slot (done v (arrived v.records v.devices arrivals)) (done w (arrived w.records w.devices arrivals))
  comes_alike [] none = nothing_made
  comes_alike (arrival ∷ rest) none = by_kind arrival.kind (All-head IsNoAct arrival rest none)
    where
      with_rest : Devices → Devices
      with_rest d = record d { arrivals = rest }

      rest_alike : LanesAreAlike slot (with_rest v.devices) (with_rest w.devices)
      rest_alike = record {
        arrivals = refl;
        faults = alike.lanes.faults;
        line = alike.lanes.line;
        words = alike.lanes.words;
        served = alike.lanes.served;
        waits = λ queue. alike.lanes.waits queue;
      }

      by_bytes : (bytes : List ℕ)
          → StepsAlike slot (done v (Some (coming_in (script.Input bytes) v.records (with_rest v.devices))))
          (done w (Some (coming_in (script.Input bytes) w.records (with_rest w.devices))))
      by_bytes bytes =
          deeds_alike (coming_in (script.Input bytes) v.records (with_rest v.devices))
          (coming_in (script.Input bytes) w.records (with_rest w.devices)) refl (record {
            arrivals = refl;
            faults = alike.lanes.faults;
            line = slice_get-map (with_input bytes) v.devices.lines slot
                ∙ ap (option_map (with_input bytes)) alike.lanes.line
                ∙ sym (slice_get-map (with_input bytes) w.devices.lines slot);
            words = alike.lanes.words;
            served = alike.lanes.served;
            waits = λ queue. alike.lanes.waits queue;
          })

      by_edge : (button : ℕ) (pressed : Bool)
          → StepsAlike slot (done v (Some (telling_edge button pressed v.records (with_rest v.devices))))
          (done w (Some (telling_edge button pressed w.records (with_rest w.devices))))
      by_edge button pressed =
          deeds_alike (telling_edge button pressed v.records (with_rest v.devices))
          (telling_edge button pressed w.records (with_rest w.devices))
          (ap (option_and_then (edge_told button pressed)) alike.record_is) rest_alike

      by_kind : (kind : EventKind) → act_of kind ≡ None
          → StepsAlike slot (done v (Some (coming_in kind v.records (with_rest v.devices))))
          (done w (Some (coming_in kind w.records (with_rest w.devices))))
      by_kind (script.Input bytes) no_act = by_bytes bytes
      by_kind (script.Press button) no_act = by_edge button true
      by_kind (script.Release button) no_act = by_edge button false
      by_kind (script.Act verb name) no_act = absurd (cc)

  -- each device, where the slot alone may be served
  pub devices_alike : (device : Dev) → All IsNoAct v.devices.arrivals
      → StepsAlike slot (done v (deed_by (Some slot) v device)) (done w (deed_by (Some slot) w device))
  devices_alike dev.Event none =
      subst (λ (arrivals : List Arrival). StepsAlike slot (done v (arrived v.records v.devices v.devices.arrivals))
      (done w (arrived w.records w.devices arrivals))) alike.lanes.arrivals (comes_alike v.devices.arrivals none)
  devices_alike dev.Alarm none = alarms_alike
  devices_alike dev.Uart none = sends_alike
  devices_alike dev.Receive none = receives_alike
  devices_alike dev.Random none = draws_alike
  devices_alike dev.Store none = stores_alike

  -- the slot's turn
  turns_alike : (o : Option Record) → slice_get v.records slot ≡ o → slice_get w.records slot ≡ o
      → StepsAlike slot (ran v slot o) (ran w slot o)
  turns_alike None at there = nothing_made
  turns_alike (Some r) at there =
      let t : turned v.settings v.clock.time r ≡ turned w.settings w.clock.time r
      = rw (alike.settings, alike.time) refl in
      record {
        worlds = record {
          window = alike.window;
          settings = alike.settings;
          time = ap (λ (time : ℕ). time + 1) alike.time;
          record_is = set_own v.records slot (turned v.settings v.clock.time r).after r at
              ∙ ap (λ (x : Turned). Some x.after) t
              ∙ sym (set_own w.records slot (turned w.settings w.clock.time r).after r there);
          lanes = rw t (routes_alike slot slot (turned w.settings w.clock.time r).acts v.devices w.devices alike.lanes);
        };
        told = rw (t, alike.time) refl;
      }

  pub turn_alike : StepsAlike slot (ran v slot (slice_get v.records slot)) (ran w slot (slice_get w.records slot))
  turn_alike = rw alike.record_is (turns_alike (slice_get w.records slot) alike.record_is refl)
