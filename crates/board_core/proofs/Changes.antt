-- What a step changes of a board: its records, its world, and what always holds of it. Where one resident alone changed
-- (`ChangesSlot`) the tables are the old ones with one place set, so all others are as they were, a step later; and the
-- world after a turn is the one before with that record, as its definition makes it.
use Rattle.std.proofs.Common.{◌≡◌, ℕ, ◌+◌, ◌≤◌, Bool, List, [], length, map, slice_get, slice_set, All}
use Rattle.std.proofs.Common.{Option, None, Some, sym, ap, ap₂, subst, arith, ◌∙◌}
use Rattle.std.specs.List.{zip}
use Rattle.std.proofs.lemmas.List.{length-set, map-set, set-get_or}
use Rattle.std.proofs.lemmas.List.Elements.{All-set, All-weaker}
use Rattle.std.proofs.lemmas.Option.{get_or_from_slice_get, slice_get_within}
use Rattle.arrayvec.specs.ArrayVec.{ArrayVec}
use Rattle.tk_base.specs.declared.access.Denial.{Denial}
use Rattle.tk_base.specs.declared.process.Choice.TheVariants.{Run}
use Rattle.turn_scheduler.specs.RoundRobin.{used_after}
use Rattle.process_record.specs.declared.emit.CallMade.{CallMade}
use Rattle.process_record.specs.declared.emit.Emit.{Emit}
use Rattle.process_record.specs.declared.process.Process.{Process}
use Rattle.driver_model.specs.Lines.{IsWithin}
use Rattle.grant_enter.specs.Homes.{Homes, nobody}
use Rattle.kernel_model.specs.Record.{Record}
use Rattle.kernel_model.specs.Turn.{Turned, turned}
use Rattle.kernel_model.specs.World.{World, Devices, carried_out, ran}
use Rattle.kernel_model.specs.Shown.{shown_by}
use Rattle.board_core.specs.declared.state.BoardState.{BoardState}
use Rattle.board_drivers.specs.declared.moment.Moment.{Moment}
use Rattle.board_turns.specs.declared.turn.Shown.{Shown}
use Rattle.board_drivers.specs.Driven.{devices_of}
use Rattle.kernel_calls.specs.Residents.{HasLost, record_of, id_of, IsResident}
use Rattle.board_turns.specs.Turning.{ChangesSlot, StepsInSlot, Turns}
use Rattle.board_core.specs.Shows.{residents, world_of}
use Rattle.board_turns.proofs.Turns.{rests_seated_on}
use Rattle.kernel_calls.proofs.Pairs.{zip-set, zip-get}
use Rattle.board_drivers.proofs.Routing.{drives_shown}
use Rattle.board_drivers.proofs.Records.{bytes_of, record_found}
use Rattle.board_turns.specs.declared.machine.Machine.{Machine}
use Rattle.board_turns.specs.ReadySlots.{OtherTurnsTell, TurnsTell}
use Rattle.board_turns.proofs.TurnsKept.{others_ready}

module _ {i : ℕ} {home home_after : Homes} {old new : List Process} (t : ChangesSlot i home home_after old new) where
  -- the residents after the change
  pub residents_after : zip new home_after.owns ≡ slice_set (zip old home.owns) i t.after
  residents_after = rw (t.own_is, t.is) (zip-set old home.owns i t.after.0 t.after.1)

  pub resident_was : slice_get (zip old home.owns) i ≡ Some t.before
  resident_was = zip-get old home.owns i t.before.0 t.before.1 t.was t.own_was

  -- the record before it
  pub found : (pressed : ℕ) (slots : List (List ℕ)) → length (zip old home.owns) ≤ length slots
      → slice_get (map (record_of home.flash pressed) (zip (zip old home.owns) slots)) i
      ≡ Some (record_of home.flash pressed (t.before, bytes_of slots i))
  found pressed slots h =
      record_found home.flash pressed old home.owns slots i t.before.0 t.before.1 t.was t.own_was h

  -- the records after it, where those bytes are then in its storage
  pub changed_records : (pressed : ℕ) (slots : List (List ℕ)) (bytes : List ℕ)
      → map (record_of home_after.flash pressed) (zip (zip new home_after.owns) (slice_set slots i bytes))
      ≡ slice_set (map (record_of home.flash pressed) (zip (zip old home.owns) slots)) i
      (record_of home.flash pressed (t.after, bytes))
  changed_records pressed slots bytes =
      rw (residents_after, t.own_is, zip-set (zip old home.owns) slots i t.after bytes)
      (map-set (record_of home.flash pressed) (zip (zip old home.owns) slots) i (t.after, bytes))

  -- and where its storage is as before
  pub kept_records : (pressed : ℕ) (slots : List (List ℕ))
      → map (record_of home_after.flash pressed) (zip (zip new home_after.owns) slots)
      ≡ slice_set (map (record_of home.flash pressed) (zip (zip old home.owns) slots)) i
      (record_of home.flash pressed (t.after, bytes_of slots i))
  kept_records pressed slots =
      ap (λ (s : List (List ℕ)). map (record_of home_after.flash pressed) (zip (zip new home_after.owns) s))
      (sym (set-get_or slots i [])) ∙ changed_records pressed slots (bytes_of slots i)

  -- the processes after it, some steps later
  pub still_seated : (steps more : ℕ) → IsResident home.flash (steps + more) t.after
      → All (IsResident home.flash steps) (zip old home.owns)
      → All (IsResident home_after.flash (steps + more)) (zip new home_after.owns)
  still_seated steps more seated h =
      rw (residents_after, t.own_is)
      (All-set (IsResident home.flash (steps + more)) (zip old home.owns) i t.after seated
      (All-weaker (IsResident home.flash steps) (IsResident home.flash (steps + more))
      (rests_seated_on home.flash steps more) (zip old home.owns) h))

  -- each lost at most as many upcalls more as steps were made
  pub lost_before : (steps : ℕ) → All (HasLost steps) home.owns → t.before.1.inbox.dropped ≤ steps
  lost_before steps lost =
      subst (HasLost steps) (get_or_from_slice_get home.owns i t.before.1 t.before.1 t.own_was)
      (lost i t.before.1 (slice_get_within home.owns i t.before.1 t.own_was))

  pub still_lost : (steps more : ℕ) → t.after.1.inbox.dropped ≤ steps + more → All (HasLost steps) home.owns
      → All (HasLost (steps + more)) home_after.owns
  still_lost steps more few lost = rw t.own_is (All-set (HasLost (steps + more)) home.owns i t.after.1 few
      (All-weaker (HasLost steps) (HasLost (steps + more)) (λ o h. omega (arith, h)) home.owns lost))

  pub as_many : length old ≡ length new
  as_many = rw (t.is, length-set)

  pub as_many_owns : length home_after.owns ≡ length home.owns
  as_many_owns = rw (t.own_is, length-set)

  -- there are as many processes' own as processes
  pub owns_after : length home.owns ≡ length old → length home_after.owns ≡ length new
  owns_after many = as_many_owns ∙ many ∙ as_many

  -- the requests of the one that changes were within its storage
  pub within_before : (size : ℕ) → All (IsWithin size) home.owns → IsWithin size t.before.1
  within_before size within =
      subst (IsWithin size) (get_or_from_slice_get home.owns i t.before.1 nobody t.own_was)
      (within i nobody (slice_get_within home.owns i t.before.1 t.own_was))

  -- what is kept of which other processes can have a turn holds
  pub others_stay_ready : (ready : List Bool) → TurnsTell ready (zip old home.owns)
      → OtherTurnsTell i ready (zip new home_after.owns)
  others_stay_ready ready tell = rw residents_after (others_ready i ready (zip old home.owns) t.after tell)

-- the world of a board, with what a step changes
abbrev pub with_step : BoardState → List Record → Devices → Moment → Option ℕ → ℕ → World
with_step b records devices m present used = record {
  records = records;
  unplaced = b.unplaced.items;
  settings = b.machine.moment.settings;
  pace = record { slice = b.present.slice; window = b.machine.moment.window };
  devices = devices;
  clock = record { time = m.time; steps = m.steps };
  present = record { slot = present; used = used };
}

-- the moment after a turn
abbrev pub turn_later : Moment → Moment
turn_later m = record m { time = m.time + 1; steps = m.steps + 1 }

-- the moment after a step that takes no time
abbrev pub a_step_later : Moment → Moment
a_step_later m = record m { steps = m.steps + 1 }

module _ (b : BoardState) (slot : ℕ) (x : Machine) (processes : List Process) (shown : Shown)
    (t : StepsInSlot 1 slot b.machine x b.processes.items processes (Turns slot b.machine x shown))
    (few : length (residents b) ≤ length b.machine.drivers.stores.slots) where
  -- the record before the turn, and the turn
  abbrev pub before_turn : Record
  before_turn = record_of b.machine.home.flash b.machine.drivers.buttons.pressed
      (t.at.before, bytes_of b.machine.drivers.stores.slots slot)

  abbrev pub turn_made : Turned
  turn_made = turned b.machine.moment.settings b.machine.moment.time before_turn

  turn_found : slice_get (world_of b).records slot ≡ Some before_turn
  turn_found = found t.at b.machine.drivers.buttons.pressed b.machine.drivers.stores.slots few

  -- the world after the turn
  pub world_after : (used : ℕ) → used ≡ used_after b.present.slot b.present.used b.present.slice slot
      → with_step b (map (record_of x.home.flash x.drivers.buttons.pressed)
      (zip (zip processes x.home.owns) x.drivers.stores.slots)) (devices_of x.drivers)
      (turn_later b.machine.moment) (Some slot) used ≡ (carried_out (world_of b) (Run slot)).after
  unfolding carried_out
  world_after used u =
      let m = turn_later b.machine.moment in
      let does = t.does (bytes_of b.machine.drivers.stores.slots slot) in
      let pressed = b.machine.drivers.buttons.pressed in
      let records : map (record_of x.home.flash x.drivers.buttons.pressed)
      (zip (zip processes x.home.owns) x.drivers.stores.slots)
      ≡ slice_set (world_of b).records slot turn_made.after =
      rw (does.2.buttons, does.2.bytes, does.0) (kept_records t.at pressed b.machine.drivers.stores.slots) in
      ap (λ (rs : List Record). with_step b rs (devices_of x.drivers) m (Some slot) used) records
      ∙ ap₂ (λ (ds : Devices) (n : ℕ). with_step b (slice_set (world_of b).records slot turn_made.after) ds m
      (Some slot) n)
      (drives_shown (id_of slot t.at.before.1) turn_made.acts b.machine.drivers x.drivers does.2) u
      ∙ sym (ap (λ (o : Option Record). (ran (world_of b) slot o).after) turn_found)

  -- what the turn shows
  pub turn_shown : (printed : ArrayVec ℕ) → printed.items ≡ []
      → ◌≡◌ {A = Emit} (record {
        printed = printed;
        slot = Some slot;
        act = None;
        made = shown.call;
        denial = shown.denial;
      })
      (shown_by (carried_out (world_of b) (Run slot)).labels)
  unfolding carried_out shown_by
  turn_shown printed p =
      let shows = (t.does (bytes_of b.machine.drivers.stores.slots slot)).1 in
      let emit : List ℕ → Option CallMade → Option Denial → Emit = λ xs c d.
      record { printed = record { items = xs }; slot = Some slot; act = None; made = c; denial = d } in
      ap (λ (xs : List ℕ). emit xs shown.call shown.denial) p ∙ ap₂ (emit []) (sym shows.call) (sym shows.denial)
      ∙ sym (ap (λ (o : Option Record). shown_by (ran (world_of b) slot o).labels) turn_found)
