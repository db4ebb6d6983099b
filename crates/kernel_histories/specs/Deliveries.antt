-- What waits to be delivered to a process in a run: each upcall is the one that it subscribed last, and was scheduled
-- since (TRD 104, "Subscribe", "Yield", "Exit").
use Rattle.std.specs.Prelude.{◌≡◌, ◌≢◌, ◌<◌, ◌≤◌, ℕ, ◌+◌, ◌==◌, Bool, true, false, not, ◌&&◌, ◌||◌, if◌then◌else◌, List}
use Rattle.std.specs.Prelude.{[], ◌∷◌, ◌++◌, drop, filter, length, map, remove, slice_get, slice_index, All, Option}
use Rattle.std.specs.Prelude.{None, Some, IfSome, is_some, is_none, option_and_then, option_map, unwrap_or}
use Rattle.std.specs.List.{flat_map}
use Rattle.tk_base.specs.declared.process.Choice.{Choice}
use Rattle.tk_base.specs.declared.upcall.Upcall.{Upcall as Scheduled}
use Rattle.tk_base.specs.declared.upcall.Wait.{Wait}
use Rattle.tk_base.specs.declared.upcall.Wait.TheVariants.{No}
use Rattle.tk_base.specs.declared.kinds.PairKind.TheVariants.{Upcall}
use Rattle.upcall_queue.specs.declared.inbox.Delivery.{Delivery}
use Rattle.upcall_queue.specs.declared.inbox.Delivery.TheVariants.{Function, Arguments}
use Rattle.upcall_queue.specs.Pending.{place_of}
use Rattle.process_model.specs.Own.{Own}
use Rattle.driver_model.specs.Upcalls.{IsHeld}
use Rattle.process_record.specs.declared.emit.CallMade.{CallMade}
use Rattle.process_record.specs.declared.process.Process.{Process}
use Rattle.process_record.specs.declared.process.State.{State}
use Rattle.process_record.specs.declared.process.State.TheVariants.{Yielded}
use Rattle.process_record.specs.Process.{after_call, after_turn, delivered}
use Rattle.kernel_model.specs.Record.{Record}
use Rattle.kernel_model.specs.Turn.{TurnTrace}
use Rattle.kernel_model.specs.World.{World, after, labels}
use Rattle.kernel_model.specs.Replay.{after_all}
use Rattle.kernel_model.specs.Histories.{HandedNothing, PairKey, ends_life, handed_by, is_ended_in, turns_in}

-- whether a process has yielded
abbrev pub is_yielded : State → Bool
is_yielded Yielded = true
is_yielded other = false

-- what a process that has yielded waits for; none of another one
abbrev pub wait_in : State → Wait → Option Wait
wait_in Yielded wait = Some wait
wait_in other wait = None

-- that of a process by its record
abbrev pub wait_of : Record → Option Wait
wait_of r = wait_in r.process.state r.own.inbox.wait

-- what a turn takes of the upcalls that wait, to be delivered: none; the first; or the first of a driver and a number,
-- of which the process gets the arguments alone
pub data Takes : Type 0 where
  Nothing : Takes
  First : Takes
  FirstOf : (driver number : ℕ) → Takes

-- a yield takes the first with number 0, and with number 2 the first of a driver and number (TRD 104, "Yield")
abbrev pub taken_by_yield : List ℕ → Takes
taken_by_yield args =
    if slice_index args 0 == 0 then First
    else (if slice_index args 0 == 2 then FirstOf (slice_index args 1) (slice_index args 2) else Nothing)

-- so does a call, if it is a yield that was accepted; and no other
abbrev pub taken_by_call : Option CallMade → Takes
taken_by_call None = Nothing
taken_by_call (Some made) = if made.class == 0 && is_none made.rule then taken_by_yield made.args else Nothing

-- a turn: that of a process which waited for any upcall takes the first, and one by its call
abbrev pub takes : Option Wait → Option CallMade → Takes
takes None call = taken_by_call call
takes (Some No) call = First
takes (Some other) call = Nothing

-- the place of what it takes, if it takes any; after all where none of the driver and number waits
abbrev pub place_taken : Takes → List Scheduled → Option ℕ
place_taken Nothing pending = None
place_taken First pending = Some 0
place_taken (FirstOf driver number) pending = Some (place_of driver number pending)

-- how it is delivered
abbrev pub delivery_of : Takes → Scheduled → Delivery
delivery_of (FirstOf driver number) upcall = Arguments upcall.args
delivery_of other upcall = Function upcall

-- the key by which a process subscribes an upcall
abbrev pub subscription_key : Scheduled → PairKey
subscription_key upcall = record { kind = Upcall; driver = upcall.driver; number = upcall.number }

-- whether a turn takes away an upcall that waits, other than by its delivery: the process subscribes anew its driver
-- and number, or its life ends (TRD 104, "Subscribe", "Exit")
abbrev pub takes_away : TurnTrace → Scheduled → Bool
takes_away told upcall = ends_life told || is_some (option_and_then (handed_by (subscription_key upcall)) told.call)

-- an upcall that was scheduled, and the number of the step of the run which scheduled it
pub record Scheduling : Type 0 where
  pub step : ℕ
  pub upcall : Scheduled

-- the upcalls that were scheduled
abbrev pub upcalls : List Scheduling → List Scheduled
upcalls waiting = map (λ s. s.upcall) waiting

-- a list without what is at a place, if a place is named
abbrev pub removed : {X : Type 0} → Option ℕ → List X → List X
removed None xs = xs
removed (Some place) xs = remove xs place

-- what a turn leaves of what waits: without what it takes, and without those that are taken away
abbrev pub left_by_turn : Option Wait → TurnTrace → List Scheduling → List Scheduling
left_by_turn wait told waiting =
    filter (λ s. not (takes_away told s.upcall))
    (removed (place_taken (takes wait told.call) (upcalls waiting)) waiting)

-- the same of the turns of a process in a step, which has one at most
abbrev pub schedulings_left_by : Option Wait → List TurnTrace → List Scheduling → List Scheduling
schedulings_left_by wait [] waiting = waiting
schedulings_left_by wait (told ∷ rest) waiting = schedulings_left_by wait rest (left_by_turn wait told waiting)

-- what the process in a slot waits for, if there is one and it has yielded
abbrev pub wait_in_slot : ℕ → World → Option Wait
wait_in_slot slot w = option_and_then wait_of (slice_get w.records slot)

-- the upcalls that wait for a process, if there is one
abbrev pub pending_of : Option Record → List Scheduled
pending_of r = unwrap_or (option_map (λ r. r.own.inbox.pending) r) []

-- the upcalls that wait for the process in a slot
abbrev pub pending_in : ℕ → World → List Scheduled
pending_in slot w = pending_of (slice_get w.records slot)

-- what the turn of the process in a slot tells in a step, if the step is its turn
abbrev pub told_in : ℕ → World → Choice → List TurnTrace
told_in slot w choice = flat_map (turns_in slot) (labels w choice)

-- what a step leaves of what waits for the process in a slot: nothing where an operator's act ends a life of it
abbrev pub schedulings_left_in : ℕ → World → Choice → List Scheduling → List Scheduling
schedulings_left_in slot w choice waiting =
    if is_ended_in slot w choice then []
    else schedulings_left_by (wait_in_slot slot w) (told_in slot w choice) waiting

-- What waits after a step of a number: what it leaves, and then what it scheduled, which stands after that.
abbrev pub scheduled_in : ℕ → List Scheduled → List Scheduling
scheduled_in step upcalls = map (λ upcall. record { step = step; upcall = upcall }) upcalls

-- what waits after a step: what it leaves of what waited, and then what it scheduled
abbrev pub schedulings_after : ℕ → ℕ → World → Choice → List Scheduling → List Scheduling
schedulings_after slot step w choice waiting =
    let left = schedulings_left_in slot w choice waiting in
    left ++ scheduled_in step (drop (length left) (pending_in slot (after w choice)))

-- the same after any choices, one after another, from a step on
abbrev pub schedulings_from : ℕ → ℕ → World → List Choice → List Scheduling → List Scheduling
schedulings_from slot step w [] waiting = waiting
schedulings_from slot step w (choice ∷ choices) waiting =
    schedulings_from slot (step + 1) (after w choice) choices (schedulings_after slot step w choice waiting)

-- the schedulings that wait for the process in a slot after a run, before which nothing waited
abbrev pub schedulings : ℕ → World → List Choice → List Scheduling
schedulings slot w choices = schedulings_from slot 0 w choices []

-- no step of a run after the one that scheduled an upcall took it away: no turn did, and no operator's act that ends a
-- life
abbrev pub IsOfTheLast : ℕ → World → List Choice → Scheduling → Type 0
IsOfTheLast slot w choices s =
    (early late : List Choice) (choice : Choice) → choices ≡ early ++ (choice ∷ late) → s.step < length early →
    let v = after_all w early in
    All (λ told. takes_away told s.upcall ≡ false) (told_in slot v choice) × (is_ended_in slot v choice ≡ false)

-- an upcall that waits is the one that its process now holds of its driver and number, and not the null upcall
abbrev pub IsSubscribed : Own → Scheduled → Type 0
IsSubscribed own upcall = IsHeld own upcall × (upcall.function ≢ 0)

-- where a delivery goes on from: in its turn a process that waited, and one past the `ecall` of its yield
abbrev pub before_delivery : Process → Process
before_delivery p = after_turn (if is_yielded p.state then p else after_call p)

-- A scheduling whose upcall is delivered by a turn that leads from one record to another: its function goes on in the
-- registers with its arguments, or the process with the arguments alone; it is the upcall that the process holds then
-- of its driver and number, and none was subscribed of these since it was scheduled, nor has a life of the process
-- ended.
pub record IsDelivered (slot : ℕ) (w : World) (choices : List Choice) (r s : Record) (takes : Takes)
    (scheduling : Scheduling) : Type 0 where
  pub process : s.process ≡ delivered (delivery_of takes scheduling.upcall) (before_delivery r.process)
  pub held : IsSubscribed r.own scheduling.upcall
  pub last : IsOfTheLast slot w choices scheduling

-- a turn delivers the scheduling at the place that it takes, if one waits there
abbrev pub DeliversPlace : ℕ → World → List Choice → Record → Record → Takes → Option ℕ → Type 0
DeliversPlace slot w choices r s takes place =
    IfSome (option_and_then (slice_get (schedulings slot w choices)) place) (IsDelivered slot w choices r s takes)

-- Of a world and a slot: any choices are made. Then each upcall that waits for the slot's process is the one that it
-- then holds of its driver and number. What waits is what was scheduled and neither delivered nor taken away, in the
-- order in which it was scheduled, of each step one at most. A turn that delivers, where something waits, delivers the
-- upcall of the first scheduling of all that wait, or of all that wait of the driver and number for which it asks. So
-- no delivery is of an upcall that the process subscribed anew since it was scheduled, and none of one of an earlier
-- life.
pub record DeliversTheLast (w : World) (slot : ℕ) : Type 0 where
  pub held : (choices : List Choice) →
      IfSome (slice_get (after_all w choices).records slot) (λ r. All (IsSubscribed r.own) r.own.inbox.pending)
  pub history : (choices : List Choice) →
      upcalls (schedulings slot w choices) ≡ pending_in slot (after_all w choices)
  pub one : (choices : List Choice) (choice : Choice) →
      let v = after_all w choices in
      length (pending_in slot (after v choice))
      ≤ length (schedulings_left_in slot v choice (schedulings slot w choices)) + 1
  pub last : (choices : List Choice) → All (IsOfTheLast slot w choices) (schedulings slot w choices)
  pub delivered : (choices : List Choice) (choice : Choice) (r s : Record) →
      let v = after_all w choices in
      slice_get v.records slot ≡ Some r → slice_get (after v choice).records slot ≡ Some s →
      All (λ told. let taking = takes (wait_of r) told.call in
      DeliversPlace slot w choices r s taking (place_taken taking r.own.inbox.pending)) (told_in slot v choice)

-- so it is where the process had handed nothing yet
abbrev pub DeliveriesAreOfTheLast : Type 0
DeliveriesAreOfTheLast =
    (w : World) (slot : ℕ) → IfSome (slice_get w.records slot) HandedNothing → DeliversTheLast w slot
