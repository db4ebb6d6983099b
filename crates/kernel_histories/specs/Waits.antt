-- What a process gets that waits for one upcall alone: the arguments of the first scheduling of it since it waits (TRD
-- 104, "Yield").
use Rattle.std.specs.Prelude.{◌≡◌, ℕ, ◌==◌, if◌then◌else◌, List, [], ◌∷◌, ◌++◌, find, filter_map, slice_get, All}
use Rattle.std.specs.Prelude.{false, Option, None, Some, option_and_then, option_map, unwrap_or}
use Rattle.tk_base.specs.declared.process.Choice.{Choice}
use Rattle.tk_base.specs.declared.upcall.Upcall.{Upcall as Scheduled}
use Rattle.tk_base.specs.declared.upcall.Wait.{Wait}
use Rattle.tk_base.specs.declared.upcall.Wait.TheVariants.{For, Given}
use Rattle.upcall_queue.specs.declared.inbox.Delivery.TheVariants.{Arguments}
use Rattle.upcall_queue.specs.Pending.{is_of, place_of}
use Rattle.process_record.specs.Process.{after_turn, delivered}
use Rattle.kernel_model.specs.Record.{Record}
use Rattle.kernel_model.specs.Turn.{TurnTrace}
use Rattle.kernel_model.specs.World.{Label, World, after, labels}
use Rattle.kernel_model.specs.Replay.{after_all}
use Rattle.kernel_model.specs.Histories.{is_ended_in}
use Rattle.kernel_laws.specs.Scheduled.{upcall_told}
use Rattle.kernel_histories.specs.Deliveries.{FirstOf, takes, told_in, wait_in_slot, wait_of}

-- what the answers in a step schedule for the process in a slot
abbrev pub upcalls_told : ℕ → World → Choice → List Scheduled
upcalls_told slot w choice =
    let told = λ (label : Label).
    if label.slot == slot then option_and_then (upcall_told label.event) (slice_get w.records slot) else None in
    filter_map told (labels w choice)

-- and in any choices, one after another
abbrev pub upcalls_since : ℕ → World → List Choice → List Scheduled
upcalls_since slot w [] = []
upcalls_since slot w (choice ∷ choices) = upcalls_told slot w choice ++ upcalls_since slot (after w choice) choices

-- what a process waits for that waited for the upcall of a driver and a number alone, once these upcalls were scheduled
-- for it, one after another: the first of that driver and number gave it its arguments; it waits where there is none
abbrev pub awaited : ℕ → ℕ → List Scheduled → Wait
awaited driver number upcalls =
    unwrap_or (option_map (λ upcall. Given upcall.args) (find (is_of driver number) upcalls)) (For driver number)

-- no step is a turn of the process in a slot, or an operator's act that ends a life of it
abbrev pub HasNoTurn : ℕ → World → List Choice → Type 0
HasNoTurn slot w [] = Unit
HasNoTurn slot w (choice ∷ choices) =
    (told_in slot w choice ≡ []) × (is_ended_in slot w choice ≡ false) × HasNoTurn slot (after w choice) choices

-- a turn from one record to another, whose call asks for the upcall of a driver and a number alone, of which none
-- waits, has the process wait for it
abbrev pub WaitsForIt : ℕ → ℕ → Record → Record → TurnTrace → Type 0
WaitsForIt driver number r s told =
    takes (wait_of r) told.call ≡ FirstOf driver number → wait_of s ≡ Some (For driver number)

-- a process waits as one does that waited for the upcall of a driver and a number, once these upcalls were scheduled
abbrev pub IsAwaited : ℕ → ℕ → List Scheduled → Option Wait → Type 0
IsAwaited driver number upcalls wait = wait ≡ Some (awaited driver number upcalls)

-- a process that waits for the upcall of a driver and a number has no turn
abbrev pub RestsWaiting : ℕ → ℕ → Option Wait → List TurnTrace → Type 0
RestsWaiting driver number wait told = wait ≡ Some (For driver number) → told ≡ []

-- a turn from one record to another delivers arguments
abbrev pub GetsArguments : List ℕ → Record → Record → Type 0
GetsArguments args r s = s.process ≡ delivered (Arguments args) (after_turn r.process)

-- Of a world and a slot: any choices are made. A turn whose call asks for the upcall of a driver and a number alone, of
-- which none waits, has the process wait for it. While it has no turn then, and no operator ends a life of it, it waits
-- for it still exactly where none of the driver and number was scheduled for it since, null or not and dropped or not;
-- else it has the arguments of the first. As long as it waits it has no turn; its next one delivers these.
pub record GivesTheFirst (w : World) (slot : ℕ) : Type 0 where
  pub calls : (choices : List Choice) (choice : Choice) (r s : Record) (driver number : ℕ) →
      let v = after_all w choices in
      let pending = r.own.inbox.pending in
      slice_get v.records slot ≡ Some r → slice_get (after v choice).records slot ≡ Some s →
      slice_get pending (place_of driver number pending) ≡ None →
      All (WaitsForIt driver number r s) (told_in slot v choice)
  pub waits : (choices since : List Choice) (driver number : ℕ) →
      let v = after_all w choices in
      wait_in_slot slot v ≡ Some (For driver number) → HasNoTurn slot v since →
      IsAwaited driver number (upcalls_since slot v since) (wait_in_slot slot (after_all v since))
  pub rests : (choices : List Choice) (choice : Choice) (driver number : ℕ) →
      let v = after_all w choices in
      RestsWaiting driver number (wait_in_slot slot v) (told_in slot v choice)
  pub given : (choices : List Choice) (choice : Choice) (r s : Record) (args : List ℕ) →
      let v = after_all w choices in
      slice_get v.records slot ≡ Some r → slice_get (after v choice).records slot ≡ Some s →
      wait_of r ≡ Some (Given args) →
      All (λ told. GetsArguments args r s) (told_in slot v choice)

-- so it is of every process
abbrev pub WaitsGetTheFirst : Type 0
WaitsGetTheFirst = (w : World) (slot : ℕ) → GivesTheFirst w slot
