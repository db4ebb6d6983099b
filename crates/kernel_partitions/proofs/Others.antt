-- What is done for another slot leaves a slot's own as it was, and tells nothing of it: a turn of it takes a tick, and
-- a device that serves it alone, or nobody, takes none. The deed changes the other's record and lane (`Lanes`), and
-- tells that slot alone.
use Rattle.std.proofs.Common.{ne_eqb}
use Rattle.std.proofs.Common.{◌≡◌, ◌≢◌, ℕ, ◌+◌, Bool, true, false, cond, List, [], slice_get, slice_set}
use Rattle.std.proofs.Common.{Option, None, Some, refl, sym}
use Rattle.std.specs.Option.{option_and_then, option_map}
use Rattle.tk_base.specs.declared.process.Dev.{Dev}
use Rattle.tk_base.specs.declared.process.Dev.TheVariants as dev
use Rattle.driver_model.specs.Alarm as alarm
use Rattle.driver_model.specs.Console as console
use Rattle.driver_model.specs.Random as random
use Rattle.driver_model.specs.Storage as storage
use Rattle.driver_model.specs.Commands.{QueueName, Writes, Reads, Randoms, Stores}
use Rattle.board_devices.specs.Storage.{is_fault}
use Rattle.kernel_model.specs.Record.{Record}
use Rattle.kernel_model.specs.Turn.{turned}
use Rattle.kernel_model.specs.Record.{flash_of}
use Rattle.kernel_model.specs.World.{DeviceAnswer, Stepped, World, answering, done}
use Rattle.kernel_model.specs.Parts.{first_in}
use Rattle.kernel_model.specs.Parts.{alarmed, happens}
use Rattle.kernel_model.specs.World.{now_in, owns_in, ran, random_step, receive_step}
use Rattle.kernel_model.specs.Parts.{line_in}
use Rattle.kernel_model.specs.Parts.{labels_of, served_in}
use Rattle.kernel_model.specs.World.{serving, storing, transmitting, unmade}
use Rattle.kernel_model.specs.Named.{words_in}
use Rattle.kernel_model.specs.Named.{waits_in}
use Rattle.kernel_model.proofs.Places.{ran-other, slice_get-set_other}
use Rattle.kernel_model.proofs.Told.{told_at}
use Rattle.kernel_partitions.specs.Alike.{AreAlikeIn, LanesAreAlike}
use Rattle.kernel_partitions.specs.Parts.{told_of}
use Rattle.kernel_partitions.proofs.Lanes.{answer_leaves, lanes_back, lanes_same, route_leaves}
use Rattle.kernel_partitions.proofs.Steps.{deed_by, first_is, told_by}

-- a step leaves a world that is alike in a slot, at some time, and tells nothing of the slot
pub record LeavesAlone (slot time : ℕ) (w : World) (s : Stepped) : Type 0 where
  pub worlds : AreAlikeIn slot (record w { clock = record w.clock { time = time } }) s.after
  pub told : told_of slot s.labels ≡ []

pub itself : (slot : ℕ) (w : World) → AreAlikeIn slot w w
itself slot w =
    record { window = refl; settings = refl; time = refl; record_is = refl; lanes = lanes_same slot w.devices }

module _ (slot other : ℕ) (apart : other ≢ slot) (w : World) where
  nothing_made : LeavesAlone slot w.clock.time w (unmade w)
  nothing_made = record { worlds = itself slot w; told = refl }

  -- what is told to one slot is told to no other
  none_told : (a : DeviceAnswer) → (answering other a).told slot ≡ None
  none_told a = rw (ne_eqb slot other (λ same. apart (sym same))) refl

  of_answer : (a : DeviceAnswer) → LanesAreAlike slot w.devices a.devices
      → LeavesAlone slot w.clock.time w (done w (Some (answering other a)))
  of_answer a lanes = record {
    worlds = record {
      window = refl;
      settings = refl;
      time = refl;
      record_is = rw (told_at w.settings (answering other a).told w.records slot, none_told a)
          (by_record (slice_get w.records slot));
      lanes = lanes;
    };
    told = rw (told_by slot (answering other a).told w.records, none_told a) (none_of (slice_get w.records slot));
  }
    where
      by_record : (o : Option Record) → o ≡ option_map (happens w.settings None) o
      by_record None = refl
      by_record (Some r) = refl

      none_of : (o : Option Record) → told_of slot (labels_of slot (option_and_then (λ (x : Record). None) o)) ≡ []
      none_of None = refl
      none_of (Some r) = refl

  -- a device that serves the other slot, or nobody
  serves_other : (f : ℕ → Record → DeviceAnswer) → ((r : Record) → LanesAreAlike slot w.devices (f other r).devices)
      → (b : Bool) → LeavesAlone slot w.clock.time w (done w (serving w.records f (cond b (Some other) None)))
  serves_other f lanes false = nothing_made
  serves_other f lanes true = by_record (slice_get w.records other)
    where
      by_record : (o : Option Record)
          → LeavesAlone slot w.clock.time w (done w (option_map (λ (r : Record). answering other (f other r)) o))
      by_record None = nothing_made
      by_record (Some r) = of_answer (f other r) (lanes r)

  of_queue : (queue : QueueName) (f : ℕ → Record → DeviceAnswer)
      → ((r : Record) → LanesAreAlike slot w.devices (f other r).devices)
      → LeavesAlone slot w.clock.time w (done w (serving w.records f (first_in (Some other) queue w.devices)))
  of_queue queue f lanes =
      rw (first_is other queue w.devices) (serves_other f lanes (waits_in (Some other) queue w.devices))

  -- what is put into the other slot's lane
  other_place : {X : Type 0} (xs : List X) (x : X) → slice_get xs slot ≡ slice_get (slice_set xs other x) slot
  other_place xs x = sym (slice_get-set_other xs other slot x (λ same. apart (sym same)))

  sends_other : (r : Record)
      → LanesAreAlike slot w.devices (transmitting other w.clock.time w.devices other r).devices
  sends_other r =
      let left = answer_leaves other slot apart Writes (console.sent (flash_of r) r.own).completed w.devices in
      record {
        arrivals = refl;
        faults = refl;
        line = other_place w.devices.lines _;
        words = refl;
        served = refl;
        waits = λ queue. sym (left.waits queue);
      }

  receives_other : (r : Record) → LanesAreAlike slot w.devices (receive_step other w.devices other r).devices
  receives_other r =
      let served = console.received (line_in other w.devices).ring r.own in
      let left = answer_leaves other slot apart Reads served.completed w.devices in
      record {
        arrivals = refl;
        faults = refl;
        line = other_place w.devices.lines _;
        words = refl;
        served = refl;
        waits = λ queue. sym (left.waits queue);
      }

  draws_other : (r : Record) → LanesAreAlike slot w.devices (random_step other w.devices other r).devices
  draws_other r =
      let a = random.answered (slice_get (words_in other w.devices) 0) r.own in
      let left = answer_leaves other slot apart Randoms a.completed w.devices in
      record {
        arrivals = refl;
        faults = refl;
        line = refl;
        words = other_place w.devices.words _;
        served = refl;
        waits = λ queue. sym (left.waits queue);
      }

  stores_other : (r : Record) → LanesAreAlike slot w.devices (storing other w.devices other r).devices
  stores_other r =
      let fails = is_fault w.devices.faults (served_in other w.devices + 1) in
      let a = storage.answered fails (flash_of r) r.storage r.own in
      let left = answer_leaves other slot apart Stores a.completed w.devices in
      record {
        arrivals = refl;
        faults = refl;
        line = refl;
        words = refl;
        served = other_place w.devices.served _;
        waits = λ queue. sym (left.waits queue);
      }

  -- each device that serves, where the other slot alone may be served
  pub devices_leave : (device : Dev) → device ≢ dev.Event
      → LeavesAlone slot w.clock.time w (done w (deed_by (Some other) w device))
  devices_leave dev.Event serves = absurd (serves refl)
  devices_leave dev.Alarm serves =
      serves_other (λ slot r. alarmed w.settings w.clock.time w.devices) (λ r. lanes_same slot w.devices)
      (alarm.has_due (now_in w) (slice_get (owns_in w) other))
  devices_leave dev.Uart serves = of_queue Writes (transmitting other w.clock.time w.devices) sends_other
  devices_leave dev.Receive serves = of_queue Reads (receive_step other w.devices) receives_other
  devices_leave dev.Random serves = of_queue Randoms (random_step other w.devices) draws_other
  devices_leave dev.Store serves = of_queue Stores (storing other w.devices) stores_other

  -- a turn of the other slot's process takes a tick
  pub turn_leaves : (o : Option Record) → slice_get w.records other ≡ o → o ≢ None
      → LeavesAlone slot (w.clock.time + 1) w (ran w other o)
  turn_leaves None at some = absurd (some refl)
  turn_leaves (Some r) at some =
      let t = turned w.settings w.clock.time r in
      let left = route_leaves other slot apart t.acts w.devices in
      record {
        worlds = record {
          window = refl;
          settings = refl;
          time = refl;
          record_is = sym (ran-other w other slot (Some r) (λ same. apart (sym same)));
          lanes = lanes_back slot _ _ left;
        };
        told = rw (ne_eqb other slot apart) refl;
      }
