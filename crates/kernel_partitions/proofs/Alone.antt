-- A slot by itself goes on tick by tick: what comes in; in its window the first device step that is ready for it, else
-- its turn; otherwise a tick. Two worlds that are alike in the slot go on alike. And two ways from one world, one
-- longer than the other, tell the same of what began before a time that the shorter one reached.
use Rattle.std.proofs.lemmas.Bool.{cases_lt}
use Rattle.std.proofs.Common.{inl, inr}
use Rattle.std.proofs.Common.{◌≡◌, ◌≢◌, ◌≤◌, ◌<◌, ℕ, zero, suc, ◌+◌, ◌-◌, ◌==◌, if◌then◌else◌, ◌∷◌, ◌++◌, Bool}
use Rattle.std.proofs.Common.{true, false, cond, nat_lt, List, [], map, slice_get, slice_index_or}
use Rattle.std.proofs.Common.{Option, None, Some, refl, sym, ap, ap₂, subst, ◌∙◌, arith, append_assoc}
use Rattle.std.proofs.Common.{append-nil, eqb-true}
use Rattle.std.specs.Prelude.{All}
use Rattle.std.specs.Option.{option_map, option_or}
use Rattle.std.proofs.lemmas.Bool.{false≢true}
use Rattle.std.proofs.lemmas.Bool.Decides.{nat_tests}
use Rattle.std.proofs.lemmas.List.Elements.{All-head, All-tail, filter-append}
use Rattle.tk_base.specs.declared.process.Choice.{Choice}
use Rattle.tk_base.specs.declared.process.Choice.TheVariants.{Run, Device}
use Rattle.tk_base.specs.declared.process.Dev.{Dev}
use Rattle.tk_base.specs.declared.process.Dev.TheVariants.{Event, Alarm, Uart, Receive, Random, Store}
use Rattle.partition_turns.specs.Windows.{window_slot}
use Rattle.script_text.specs.Settings.{ScriptEvent as Arrival, EventKind}
use Rattle.script_text.specs.Settings as script
use Rattle.board_devices.specs.Arriving.{act_of, is_time}
use Rattle.driver_model.specs.Commands.{Writes, Reads, Randoms, Stores}
use Rattle.kernel_laws.specs.Windows.{lane_order}
use Rattle.kernel_model.specs.Record.{Record}
use Rattle.kernel_model.specs.World.{DeviceStep, Label, Stepped, World, arrived, carried_out, coming_in}
use Rattle.kernel_model.specs.Named.{can_run}
use Rattle.kernel_model.specs.World.{device_step_of, done, only_at, ran}
use Rattle.kernel_model.specs.Parts.{work_for}
use Rattle.kernel_partitions.specs.Alike.{AreAlikeIn, IsNoAct, IsPartitioned}
use Rattle.kernel_partitions.specs.Moments.{Moment, before}
use Rattle.kernel_partitions.specs.Parts.{told_at_time, told_of}
use Rattle.kernel_partitions.proofs.Steps.{StepsAlike, deed_by, deed_is, devices_alike, same_line, same_now, same_own}
use Rattle.kernel_partitions.proofs.Steps.{turn_alike}
use Rattle.kernel_partitions.proofs.Others.{LeavesAlone, devices_leave, turn_leaves}

-- whose window it is
pub only_is : (time n : ℕ) → 1 ≤ n → only_at time n ≡ Some (window_slot time n)
only_is time zero h = absurd (omega (arith, h))
only_is time (suc n) h = refl

-- which of Alarm, Uart, Receive, Random and Store are ready for a slot
abbrev pub flags_for : ℕ → World → List Bool
flags_for slot w = map (work_for w slot).ready lane_order

-- whether something comes in
abbrev pub comes_in : World → Bool
comes_in w = is_time w.clock.time w.devices.arrivals

-- the first device step that is ready
abbrev pub first_of : Bool → List Bool → Option Dev
first_of event lane =
    cond event (Some Event) (cond (slice_index_or lane 0 false) (Some Alarm)
    (cond (slice_index_or lane 1 false) (Some Uart) (cond (slice_index_or lane 2 false) (Some Receive)
    (cond (slice_index_or lane 3 false) (Some Random) (cond (slice_index_or lane 4 false) (Some Store) None)))))

-- one that serves, where nothing comes in
pub first_serves : (lane : List Bool) (device : Dev) → first_of false lane ≡ Some device → device ≢ Event
first_serves lane device is same =
    by_flags (slice_index_or lane 0 false) (slice_index_or lane 1 false) (slice_index_or lane 2 false)
    (slice_index_or lane 3 false) (slice_index_or lane 4 false) (is ∙ ap Some same)
  where
    by_flags : (a b c d e : Bool)
        → cond a (Some Alarm) (cond b (Some Uart) (cond c (Some Receive)
        (cond d (Some Random) (cond e (Some Store) None))))
        ≡ Some Event → ⊥
    by_flags true b c d e f = cc
    by_flags false true c d e f = cc
    by_flags false false true d e f = cc
    by_flags false false false true e f = cc
    by_flags false false false false true f = cc
    by_flags false false false false false f = cc

-- a slot's own step: by whether it is its window, whether something comes in, which devices are ready for it, and
-- whether its process is
abbrev pub own_by : ℕ → Bool → Bool → List Bool → Bool → Option Choice
own_by slot window event lane turn =
    if event then Some (Device Event)
    else (if window then option_or (option_map Device (first_of false lane)) (if turn then Some (Run slot) else None)
    else None)

abbrev pub in_own_window : ℕ → World → Bool
in_own_window slot w = window_slot w.clock.time w.pace.window == slot

abbrev pub own_step : ℕ → World → Option Choice
own_step slot w =
    own_by slot (in_own_window slot w) (comes_in w) (flags_for slot w) (can_run (slice_get w.records slot))

-- a world at a later time
abbrev pub later : ℕ → World → World
later ticks w = record w { clock = record w.clock { time = w.clock.time + ticks } }

module _ (slot : ℕ) where
  abbrev pub goes_by : World → Option Choice → World
  goes_by w None = later 1 w
  goes_by w (Some c) = (carried_out w c).after

  abbrev pub tells_by : World → Option Choice → List Moment
  tells_by w None = []
  tells_by w (Some c) = told_at_time w.clock.time (told_of slot (carried_out w c).labels)

  -- a step of its own, or a tick
  unfoldable pub goes : World → World
  goes w = goes_by w (own_step slot w)

  unfoldable pub tells : World → List Moment
  tells w = tells_by w (own_step slot w)

  -- so many of them
  abbrev pub went : ℕ → World → World
  went zero w = w
  went (suc n) w = went n (goes w)

  abbrev pub told : ℕ → World → List Moment
  told zero w = []
  told (suc n) w = tells w ++ told n (goes w)

  pub went-plus : (a b : ℕ) (w : World) → went (a + b) w ≡ went b (went a w)
  went-plus zero b w =
      let same : zero + b ≡ b = omega arith in
      ap (λ (n : ℕ). went n w) same
  went-plus (suc a) b w =
      let more : suc a + b ≡ suc (a + b) = omega arith in
      ap (λ (n : ℕ). went n w) more ∙ went-plus a b (goes w)

  pub told-plus : (a b : ℕ) (w : World) → told (a + b) w ≡ told a w ++ told b (went a w)
  told-plus zero b w =
      let same : zero + b ≡ b = omega arith in
      ap (λ (n : ℕ). told n w) same
  told-plus (suc a) b w =
      let more : suc a + b ≡ suc (a + b) = omega arith in
      ap (λ (n : ℕ). told n w) more ∙ ap (λ (rest : List Moment). tells w ++ rest) (told-plus a b (goes w))
      ∙ sym (append_assoc (tells w) (told a (goes w)) (told b (went a (goes w))))

  -- what holds of each step that may be its own holds of its own step
  pub record OfOwnSteps (w : World) (P : Option Choice → Type 0) : Type 0 where
    pub tick : P None
    pub comes : P (Some (Device Event))
    pub serves : in_own_window slot w ≡ true → (device : Dev) → device ≢ Event → P (Some (Device device))
    pub turn : in_own_window slot w ≡ true → can_run (slice_get w.records slot) ≡ true → P (Some (Run slot))

  pub of_own : (w : World) (P : Option Choice → Type 0) → OfOwnSteps w P → P (own_step slot w)
  of_own w P each =
      by_flags (in_own_window slot w) refl (comes_in w) (first_of false (flags_for slot w)) refl
      (can_run (slice_get w.records slot)) refl
    where
      by_flags : (window : Bool) → in_own_window slot w ≡ window → (event : Bool) → (device : Option Dev)
          → first_of false (flags_for slot w) ≡ device → (turn : Bool) → can_run (slice_get w.records slot) ≡ turn
          → P (if event then Some (Device Event)
          else (if window then option_or (option_map Device device) (if turn then Some (Run slot) else None) else None))
      by_flags window here true device found turn can = each.comes
      by_flags false here false device found turn can = each.tick
      by_flags true here false (Some device) found turn can =
          each.serves here device (first_serves (flags_for slot w) device found)
      by_flags true here false None found true can = each.turn here can
      by_flags true here false None found false can = each.tick

  -- in its window it alone is served
  own_deed : (w : World) → 1 ≤ w.pace.window → in_own_window slot w ≡ true → (device : Dev)
      → device_step_of w device ≡ deed_by (Some slot) w device
  own_deed w some here device =
      deed_is w device
      ∙ ap (λ (only : Option ℕ). deed_by only w device) (only_is w.clock.time w.pace.window some
      ∙ ap Some (eqb-true (window_slot w.clock.time w.pace.window) slot here))

  -- time does not go back
  done_time : (w : World) (o : Option DeviceStep) → (done w o).after.clock.time ≡ w.clock.time
  done_time w None = refl
  done_time w (Some deed) = refl

  ran_time : (w : World) (other : ℕ) (o : Option Record) → w.clock.time ≤ (ran w other o).after.clock.time
  ran_time w other None = omega arith
  ran_time w other (Some r) = omega arith

  pub goes-later : (w : World) → w.clock.time ≤ (goes w).clock.time
  unfolding goes carried_out
  goes-later w =
      of_own w (λ o. w.clock.time ≤ (goes_by w o).clock.time) (record {
        tick = omega arith;
        comes = omega (arith, done_time w (device_step_of w Event));
        serves = λ here device serves. omega (arith, done_time w (device_step_of w device));
        turn = λ here can. ran_time w slot (slice_get w.records slot);
      })

  -- nothing that began at a time or later began before it
  pub none_before : (time at : ℕ) (ls : List Label) → time ≤ at → before time (told_at_time at ls) ≡ []
  none_before time at [] from = refl
  none_before time at (label ∷ ls) from =
      let no : nat_lt at time ≡ false = grind (arith, nat_tests) in
      rw no (none_before time at ls from)

  tells-none_before : (time : ℕ) (w : World) → time ≤ w.clock.time → before time (tells w) ≡ []
  unfolding tells
  tells-none_before time w from = by_step (own_step slot w)
    where
      by_step : (o : Option Choice) → before time (tells_by w o) ≡ []
      by_step None = refl
      by_step (Some c) = none_before time w.clock.time (told_of slot (carried_out w c).labels) from

  told-none_before : (time n : ℕ) (w : World) → time ≤ w.clock.time → before time (told n w) ≡ []
  told-none_before time zero w from = refl
  told-none_before time (suc n) w from =
      let from_there : time ≤ (goes w).clock.time = omega (arith, from, goes-later w) in
      rw (filter-append (λ (m : Moment). nat_lt m.at time) (tells w) (told n (goes w)), tells-none_before time w from)
      (told-none_before time n (goes w) from_there)

  -- once it has reached a time, what it does more adds nothing to what began before
  told-reached : (time a b : ℕ) (w : World) → time ≤ (went a w).clock.time
      → before time (told (a + b) w) ≡ before time (told a w)
  told-reached time a b w reached =
      rw (
        told-plus a b w,
        filter-append (λ (m : Moment). nat_lt m.at time) (told a w) (told b (went a w)),
        told-none_before time b (went a w) reached,
      ) (append-nil (before time (told a w)))

  pub same_before : (time a b : ℕ) (w : World) → time ≤ (went a w).clock.time → time ≤ (went b w).clock.time
      → before time (told a w) ≡ before time (told b w)
  same_before time a b w first second =
      elim (cases_lt a b) [
        | inl lt ↦ let more : a + (b - a) ≡ b = omega arith in
            sym (told-reached time a (b - a) w first) ∙ rw more refl
        | inr le ↦ let more : b + (a - b) ≡ a = omega arith in
            rw (← more) (told-reached time b (a - b) w second)
      ]

  -- ticks in which it has no step of its own
  abbrev pub IsIdle : World → ℕ → Type 0
  IsIdle w n = (i : ℕ) → i < n → own_step slot (later i w) ≡ None

  first_idle : (n : ℕ) (w : World) → IsIdle w (suc n) → own_step slot w ≡ None
  first_idle n w idles =
      let same : w.clock.time + 0 ≡ w.clock.time = omega arith in
      let below : 0 < suc n = omega arith in
      subst (λ (t : ℕ). own_step slot (record w { clock = record w.clock { time = t } }) ≡ None) same (idles 0 below)

  rest_idle : (n : ℕ) (w : World) → IsIdle w (suc n) → IsIdle (later 1 w) n
  rest_idle n w idles = λ i h.
      let same : w.clock.time + suc i ≡ w.clock.time + 1 + i = omega arith in
      let below : suc i < suc n = omega (arith, h) in
      subst (λ (t : ℕ). own_step slot (record w { clock = record w.clock { time = t } }) ≡ None) same
      (idles (suc i) below)

  pub idled : (n : ℕ) (w : World) → IsIdle w n → went n w ≡ later n w
  unfolding goes
  idled zero w idles =
      let same : w.clock.time ≡ w.clock.time + 0 = omega arith in
      ap (λ (t : ℕ). record w { clock = record w.clock { time = t } }) same
  idled (suc n) w idles =
      let same : w.clock.time + 1 + n ≡ w.clock.time + suc n = omega arith in
      rw (first_idle n w idles) (idled n (later 1 w) (rest_idle n w idles)
      ∙ ap (λ (t : ℕ). record w { clock = record w.clock { time = t } }) same)

  pub idled-told : (n : ℕ) (w : World) → IsIdle w n → told n w ≡ []
  unfolding goes tells
  idled-told zero w idles = refl
  idled-told (suc n) w idles =
      rw (first_idle n w idles) (idled-told n (later 1 w) (rest_idle n w idles))

  -- two worlds that are alike in the slot have the same own step
  own_alike : (v w : World) → AreAlikeIn slot v w → own_step slot v ≡ own_step slot w
  own_alike v w alike =
      let lanes = alike.lanes in
      rw (
        alike.record_is,
        lanes.arrivals,
        alike.window,
        same_now slot v w alike,
        same_own slot v w alike,
        lanes.waits Writes,
        lanes.waits Reads,
        lanes.waits Randoms,
        lanes.waits Stores,
        same_line slot v w alike,
        alike.time,
      ) refl

  -- and go on alike
  pub record GoAlike (v w : World) (o : Option Choice) : Type 0 where
    pub worlds : AreAlikeIn slot (goes_by v o) (goes_by w o)
    pub moments : tells_by v o ≡ tells_by w o

  steps_go : (v w : World) → AreAlikeIn slot v w → (c : Choice) → StepsAlike slot (carried_out v c) (carried_out w c)
      → GoAlike v w (Some c)
  steps_go v w alike c steps = record {
    worlds = steps.worlds;
    moments = ap₂ told_at_time alike.time steps.told;
  }

  go_alike : (v w : World) → IsPartitioned v → AreAlikeIn slot v w → GoAlike v w (own_step slot v)
  unfolding carried_out
  go_alike v w good alike =
      of_own v (GoAlike v w) (record {
        tick = record {
          worlds = record {
            window = alike.window;
            settings = alike.settings;
            time = ap (λ (time : ℕ). time + 1) alike.time;
            record_is = alike.record_is;
            lanes = alike.lanes;
          };
          moments = refl;
        };
        comes = steps_go v w alike (Device Event) (devices_alike slot v w alike Event good.no_acts);
        serves = λ here device serves.
            steps_go v w alike (Device device) (rw (
              own_deed v good.windows here device,
              own_deed w (rw alike.window at good.windows) (rw (alike.time, alike.window) at here) device,
            )
            (devices_alike slot v w alike device good.no_acts));
        turn = λ here can. steps_go v w alike (Run slot) (turn_alike slot v w alike);
      })

  pub goes_alike : (v w : World) → IsPartitioned v → AreAlikeIn slot v w → AreAlikeIn slot (goes v) (goes w)
  unfolding goes
  goes_alike v w good alike =
      rw (← own_alike v w alike) (go_alike v w good alike).worlds

  pub tells_alike : (v w : World) → IsPartitioned v → AreAlikeIn slot v w → tells v ≡ tells w
  unfolding tells
  tells_alike v w good alike =
      (go_alike v w good alike).moments ∙ ap (tells_by w) (own_alike v w alike)

  -- time partitions stay
  kept_by : (other time : ℕ) (w : World) (s : Stepped) → LeavesAlone other time w s → IsPartitioned w
      → IsPartitioned s.after
  kept_by other time w s leaves good =
      let same = leaves.worlds in
      record { windows = rw same.window at good.windows; no_acts = rw same.lanes.arrivals at good.no_acts }

  another : slot ≢ suc slot
  another same = omega (arith, same)

  event_keeps : (w : World) → 1 ≤ w.pace.window → (arrivals : List Arrival) → w.devices.arrivals ≡ arrivals
      → All IsNoAct arrivals → IsPartitioned (done w (arrived w.records w.devices arrivals)).after
  event_keeps w some [] is none = record { windows = some; no_acts = subst (All IsNoAct) (sym is) none }
  event_keeps w some (arrival ∷ rest) is none =
      by_kind arrival.kind (All-head IsNoAct arrival rest none) (All-tail IsNoAct arrival rest none)
    where
      by_kind : (kind : EventKind) → act_of kind ≡ None → All IsNoAct rest
          → IsPartitioned (done w (Some (coming_in kind w.records (record w.devices { arrivals = rest })))).after
      by_kind (script.Input bytes) no_act none = record { windows = some; no_acts = none }
      by_kind (script.Press button) no_act none = record { windows = some; no_acts = none }
      by_kind (script.Release button) no_act none = record { windows = some; no_acts = none }
      by_kind (script.Act verb name) no_act none = absurd (cc)

  pub goes_keeps : (w : World) → IsPartitioned w → IsPartitioned (goes w)
  unfolding goes carried_out
  goes_keeps w good =
      of_own w (λ o. IsPartitioned (goes_by w o)) (record {
        tick = record { windows = good.windows; no_acts = good.no_acts };
        comes = event_keeps w good.windows w.devices.arrivals refl good.no_acts;
        serves = λ here device serves.
            rw (own_deed w good.windows here device, goes_by)
            (kept_by (suc slot) w.clock.time w (done w (deed_by (Some slot) w device))
            (devices_leave (suc slot) slot another w device serves) good);
        turn = λ here can.
            kept_by (suc slot) (w.clock.time + 1) w (ran w slot (slice_get w.records slot))
            (turn_leaves (suc slot) slot another w (slice_get w.records slot) refl
            (is_there (slice_get w.records slot) can)) good;
      })
    where
      is_there : (o : Option Record) → can_run o ≡ true → o ≢ None
      is_there o can none = absurd (false≢true (sym (ap can_run none) ∙ can))

  pub went_alike : (n : ℕ) (v w : World) → IsPartitioned v → AreAlikeIn slot v w → AreAlikeIn slot (went n v) (went n w)
  went_alike zero v w good alike = alike
  went_alike (suc n) v w good alike =
      went_alike n (goes v) (goes w) (goes_keeps v good) (goes_alike v w good alike)

  pub told_alike : (n : ℕ) (v w : World) → IsPartitioned v → AreAlikeIn slot v w → told n v ≡ told n w
  told_alike zero v w good alike = refl
  told_alike (suc n) v w good alike =
      ap₂ (λ (front rest : List Moment). front ++ rest) (tells_alike v w good alike)
      (told_alike n (goes v) (goes w) (goes_keeps v good) (goes_alike v w good alike))

  pub went_keeps : (n : ℕ) (w : World) → IsPartitioned w → IsPartitioned (went n w)
  went_keeps zero w good = good
  went_keeps (suc n) w good = went_keeps n (goes w) (goes_keeps w good)
