-- A command to each driver is what its definition makes of it: `commands_by` makes one statement of each capsule's
-- contract. What the capsule did to its line, or to the LEDs, is one of the few lists of acts that the driver may ask
-- for, and all else of the drivers stays; so each is a case of a list (`by_list`).
use Rattle.std.proofs.Common.{◌≡◌, inl, inr, ℕ, ◌==◌, Bool, true, false, cond, nat_lt, List, [], ◌∷◌, length, find}
use Rattle.std.proofs.Common.{Option, Some, Ok, option_map, unwrap_or, refl, sym, ap, subst, ◌∙◌}
use Rattle.std.specs.List.{AllByRecursion}
use Rattle.std.specs.Option.{option_map}
use Rattle.std.proofs.lemmas.Bool.{cond_both}
use Rattle.tk_base.specs.declared.call.CallRule.{CallRule}
use Rattle.tk_base.specs.declared.call.CallRule.TheVariants.{NoCommand}
use Rattle.tk_base.specs.declared.call.CallRule.TheVariants.{Range}
use Rattle.tk_base.specs.declared.process.ProcessId.{ProcessId}
use Rattle.syscall_abi.specs.declared.reply.Reply.{Reply}
use Rattle.syscall_abi.specs.declared.reply.Reply.TheVariants.{Success}
use Rattle.grant_values.specs.declared.drivers.Driver.{Driver}
use Rattle.grant_values.specs.Drivers.{driver_of}
use Rattle.process_model.specs.Own.{Own}
use Rattle.syscall_abi.specs.Reply.{reply_of}
use Rattle.driver_model.specs.Asked.{OneOf}
use Rattle.driver_model.specs.Steps.{own_after, silently}
use Rattle.driver_model.specs.Commands.{BoardRequest, Commanded, Waits, Leaves, Lights, Switch, On, Off, Toggle}
use Rattle.driver_model.specs.Commands.{by_number, refusing, QueueName, Writes, Reads, Randoms, Stores}
use Rattle.driver_model.specs.Drivers.{CommandContext, CommandHandler, handler_by}
use Rattle.driver_model.specs.Leds as leds
use Rattle.tk_base.specs.Bits.{bits_of}
use Rattle.driver_model.specs.Leds.{lit_after}
use Rattle.driver_requests.specs.Waiting.{queue_after}
use Rattle.board_drivers.specs.declared.drivers.Drivers.{Drivers}
use Rattle.board_drivers.specs.declared.drivers.Order.{Order}
use Rattle.board_drivers.specs.Driven.{Commands, Drives, ids_waiting_in}

-- a command of which every row leaves what is the process's own as it was does so, too
rows_keep : (own : Own) (rows : List (ℕ × Commanded)) (number : ℕ) → AllByRecursion
    (λ row. own_after row.1.step ≡ own) rows
    → own_after (by_number (λ o. rows) number own).step ≡ own
rows_keep own [] number all = refl
rows_keep own (row ∷ rows) number all =
    cond_both (row.0 == number) (Some row) (find (λ row. row.0 == number) rows)
    (λ found. own_after (unwrap_or (option_map (λ r. r.1) found) (refusing NoCommand own)).step ≡ own)
    (λ is. all.0) (λ not. rows_keep own rows number all.1)

-- so do the commands to the LEDs
pub leds_keep : (count number led : ℕ) (own : Own)
    → own_after (by_number (leds.commands count led) number own).step ≡ own
unfolding leds.commands
leds_keep count number led own =
    rows_keep own (leds.commands count led own) number (
      refl,
      (
        switched On (nat_lt led count),
        (switched Off (nat_lt led count), (switched Toggle (nat_lt led count), tt)),
      ),
    )
  where
    switched : (switch : Switch) (b : Bool)
        → own_after (cond b (record { answer = Ok Success; step = silently own; acts = Lights led switch ∷ [] })
        (refusing Range own)).step ≡ own
    switched switch true = refl
    switched switch false = refl

-- what a command sees of the drivers when the alarm's clock shows a tick
abbrev seen_at : ℕ → Drivers → CommandContext
seen_at tick d = record {
  now = tick;
  leds = length d.leds;
  buttons = d.buttons.count;
  pressed = d.buttons.pressed;
  storage = d.stores.size;
}

-- what a driver does
pub commands_by : (driver : Driver) (tick : ℕ) (id : ProcessId) (order : Order) (d d' : Drivers) (own own' : Own)
    (answer : Reply × Option CallRule) → driver_of order.driver ≡ Some driver
    → (let c = handler_by driver (seen_at tick d) order.number
    order.a2 order.a3 own in (answer ≡ reply_of c.answer) × (own' ≡ own_after c.step) × Drives id c.acts d d')
    → Commands (record { tick = tick; id = id; order = order; own = own; drivers = d }) answer own' d'
commands_by driver tick id order d d' own own' answer is does taker found =
    let same : handler_by driver ≡ taker =
    (let known : Some (handler_by driver) ≡ Some taker = sym (ap (option_map handler_by) is) ∙ found in cc) in
    subst (λ (t : CommandHandler). let c =
    t (seen_at tick d) order.number order.a2 order.a3 own in
    (answer ≡ reply_of c.answer) × (own' ≡ own_after c.step) × Drives id c.acts d d') same does

-- drivers of which nothing changes
pub drives_nothing : (id : ProcessId) (d : Drivers) → Drives id [] d d
drives_nothing id d =
    record {
      queues = λ queue. refl;
      leds = refl;
      lit = refl;
      buttons = refl;
      lines = refl;
      arrivals = refl;
      words = refl;
      bytes = refl;
    }

-- what holds of each of some lists of acts holds of the one that it is
by_list : (P : List BoardRequest → Type 0) (acts : List BoardRequest) (lists : List (List BoardRequest))
    → OneOf acts lists → AllByRecursion P lists → P acts
by_list P acts [] of all = absurd of
by_list P acts (xs ∷ lists) (inl is) all = subst P (sym is) all.0
by_list P acts (xs ∷ lists) (inr of) all = by_list P acts lists of all.1

module _ (id : ProcessId) (d : Drivers) where
  -- the alarm and the buttons, which ask for nothing
  pub unasked_drives : (acts : List BoardRequest) → acts ≡ [] → Drives id acts d d
  unasked_drives acts none = subst (λ (acts : List BoardRequest). Drives id acts d d) (sym none) (drives_nothing id d)

  -- where the drivers differ in who waits alone
  waiting_drives : (writes reads randoms stores : List ProcessId) (acts : List BoardRequest)
      → lit_after acts (bits_of d.leds) ≡ bits_of d.leds → writes ≡ queue_after Writes id d.console.writes acts
      → reads ≡ queue_after Reads id d.console.reads acts → randoms ≡ queue_after Randoms id d.random.waiting acts
      → stores ≡ queue_after Stores id d.storage.waiting acts → Drives id acts d (record d {
        console = record { writes = writes; reads = reads };
        random = record { waiting = randoms };
        storage = record { waiting = stores };
      })
  waiting_drives writes reads randoms stores acts unlit w r n s = record {
    queues = elim [ Writes ↦ w | Reads ↦ r | Randoms ↦ n | Stores ↦ s ];
    leds = sym unlit;
    lit = refl;
    buttons = refl;
    lines = refl;
    arrivals = refl;
    words = refl;
    bytes = refl;
  }

  -- the console
  pub console_drives : (writes reads : List ProcessId) (acts : List BoardRequest)
      → OneOf acts ([] ∷ (Waits Writes ∷ []) ∷ (Waits Reads ∷ []) ∷ (Leaves Reads ∷ []) ∷ [])
      → writes ≡ queue_after Writes id d.console.writes acts → reads ≡ queue_after Reads id d.console.reads acts
      → Drives id acts d (record d { console = record { writes = writes; reads = reads } })
  console_drives writes reads acts of =
      let asks = λ (acts : List BoardRequest). waiting_drives writes reads d.random.waiting d.storage.waiting acts in
      by_list (λ acts. writes ≡ queue_after Writes id d.console.writes acts
      → reads ≡ queue_after Reads id d.console.reads acts
      → Drives id acts d (record d { console = record { writes = writes; reads = reads } })) acts
      ([] ∷ (Waits Writes ∷ []) ∷ (Waits Reads ∷ []) ∷ (Leaves Reads ∷ []) ∷ []) of (
        λ w r. asks [] refl w r refl refl,
        (
          λ w r. asks (Waits Writes ∷ []) refl w r refl refl,
          (
            λ w r. asks (Waits Reads ∷ []) refl w r refl refl,
            (λ w r. asks (Leaves Reads ∷ []) refl w r refl refl, tt),
          ),
        ),
      )

  -- the source of random bytes
  pub random_drives : (randoms : List ProcessId) (acts : List BoardRequest)
      → OneOf acts ([] ∷ (Waits Randoms ∷ []) ∷ []) → randoms ≡ queue_after Randoms id d.random.waiting acts
      → Drives id acts d (record d { random = record { waiting = randoms } })
  random_drives randoms acts of =
      let asks = waiting_drives d.console.writes d.console.reads randoms d.storage.waiting in
      by_list (λ acts. randoms ≡ queue_after Randoms id d.random.waiting acts
      → Drives id acts d (record d { random = record { waiting = randoms } })) acts ([] ∷ (Waits Randoms ∷ []) ∷ [])
      of (λ r. asks [] refl refl refl r refl, (λ r. asks (Waits Randoms ∷ []) refl refl refl r refl, tt))

  -- the storage
  pub storage_drives : (stores : List ProcessId) (acts : List BoardRequest) → OneOf acts ([] ∷ (Waits Stores ∷ []) ∷ [])
      → stores ≡ queue_after Stores id d.storage.waiting acts
      → Drives id acts d (record d { storage = record { waiting = stores } })
  storage_drives stores acts of =
      let asks = waiting_drives d.console.writes d.console.reads d.random.waiting stores in
      by_list (λ acts. stores ≡ queue_after Stores id d.storage.waiting acts
      → Drives id acts d (record d { storage = record { waiting = stores } })) acts ([] ∷ (Waits Stores ∷ []) ∷ [])
      of (λ s. asks [] refl refl refl refl s, (λ s. asks (Waits Stores ∷ []) refl refl refl refl s, tt))

  -- the LEDs
  pub leds_drive : (lit : List Bool) (led : ℕ) (acts : List BoardRequest)
      → OneOf acts ([] ∷ (Lights led On ∷ []) ∷ (Lights led Off ∷ []) ∷ (Lights led Toggle ∷ []) ∷ [])
      → bits_of lit ≡ lit_after acts (bits_of d.leds) → length lit ≡ length d.leds
      → Drives id acts d (record d { leds = lit })
  leds_drive lit led acts of =
      by_list (λ acts. bits_of lit ≡ lit_after acts (bits_of d.leds) → length lit ≡ length d.leds
      → Drives id acts d (record d { leds = lit })) acts
      ([] ∷ (Lights led On ∷ []) ∷ (Lights led Off ∷ []) ∷ (Lights led Toggle ∷ []) ∷ []) of (
        switched [] (λ queue. refl),
        (
          switched (Lights led On ∷ []) (λ queue. refl),
          (switched (Lights led Off ∷ []) (λ queue. refl), (switched (Lights led Toggle ∷ []) (λ queue. refl), tt)),
        ),
      )
    where
      switched : (acts : List BoardRequest)
          → ((queue : QueueName) → ids_waiting_in d queue ≡ queue_after queue id (ids_waiting_in d queue) acts)
          → bits_of lit ≡ lit_after acts (bits_of d.leds) → length lit ≡ length d.leds
          → Drives id acts d (record d { leds = lit })
      switched acts queues b n =
          record {
            queues = queues;
            leds = b;
            lit = n;
            buttons = refl;
            lines = refl;
            arrivals = refl;
            words = refl;
            bytes = refl;
          }
