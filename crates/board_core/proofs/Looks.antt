-- What is seen of one process on a board is what its record has, whatever is read of it. A record stands at the place
-- of its resident, so a look in the tables is one in the records, in range and beyond; and who waits in a line is
-- there, as what is kept of each line says (`IsQueueOf`), and lives.
use Rattle.std.proofs.Common.{◌≡◌, ℕ, ◌≤◌, ◌<◌, List, length, slice_get, slice_index_or, Option, None, Some, refl, sym}
use Rattle.std.proofs.Common.{ap, ◌∙◌, zero, suc, [], ◌∷◌, Bool, true, false, cond, ◌||◌, ◌==◌, nat_lt, is_some, eq-eqb}
use Rattle.std.proofs.Common.{arith, ◌&&◌, not}
use Rattle.std.specs.List.{AllByRecursion, zip}
use Rattle.std.specs.Prelude.{All}
use Rattle.std.proofs.lemmas.Bool.{false≢true}
use Rattle.std.proofs.lemmas.List.Elements.{All-nil, All-cons}
use Rattle.std.specs.Option.{option_map}
use Rattle.std.proofs.lemmas.Bool.Decides.{nat_tests}
use Rattle.std.proofs.lemmas.Option.{slice_get-map, slice_get-get_or, slice_get_within}
use Rattle.tk_base.specs.declared.limits.TheConstants.{STEP_LIMIT}
use Rattle.tk_base.specs.declared.process.Choice.TheVariants.{Run}
use Rattle.upcall_queue.specs.Pending.{due}
use Rattle.process_record.specs.declared.process.Process.{Process}
use Rattle.grant_enter.specs.Homes.{nobody, own_of}
use Rattle.board_devices.specs.Storage.{slot_bytes}
use Rattle.kernel_model.specs.Record.{Record}
use Rattle.kernel_model.specs.Named.{can_run}
use Rattle.kernel_model.specs.Turn.{has_turn}
use Rattle.kernel_model.specs.World.{World, is_ready, may_be_made}
use Rattle.board_core.specs.declared.state.BoardState.{BoardState}
use Rattle.kernel_calls.specs.Residents.{Resident}
use Rattle.board_core.specs.Shows.{IsBoard, recorded, residents, world_of}
use Rattle.tk_base.specs.declared.process.ProcessId.{ProcessId}
use Rattle.driver_requests.specs.Waiting.{waits}
use Rattle.process_model.specs.Own.{Own}
use Rattle.driver_model.specs.Lines.{has_waiting, kind_in}
use Rattle.driver_model.specs.Requests.{request_in}
use Rattle.driver_model.specs.Commands.{QueueName}
use Rattle.board_drivers.specs.Driven.{IsQueueOf, IsThere, ids_waiting_in}
use Rattle.board_core.specs.Looks.{LivesThere}
use Rattle.board_core.proofs.Boards.{has_storage, own_read}
use Rattle.kernel_calls.proofs.Pairs.{length-firsts, zip-get}
use Rattle.board_drivers.proofs.Records.{beside_get}

module _ {b : BoardState} (board : IsBoard b) (slot : ℕ) where
  -- the record in a slot, by what is kept for the slot
  looked : (o : Option Resident) → slice_get (residents b) slot ≡ o
      → slice_get (world_of b).records slot
      ≡ option_map (λ (r : Resident). recorded b (r, slot_bytes b.machine.drivers.stores slot)) o
  looked o is =
      slice_get-map (recorded b) (zip (residents b) b.machine.drivers.stores.slots) slot
      ∙ ap (option_map (recorded b))
      (beside_get (residents b) b.machine.drivers.stores.slots slot (has_storage board)
      ∙ ap (option_map (λ (r : Resident). (r, slot_bytes b.machine.drivers.stores slot))) is)
      ∙ joined o
    where
      joined : (o : Option Resident)
          → option_map (recorded b)
          (option_map (λ (r : Resident). (r, slot_bytes b.machine.drivers.stores slot)) o)
          ≡ option_map (λ (r : Resident). recorded b (r, slot_bytes b.machine.drivers.stores slot)) o
      joined None = refl
      joined (Some r) = refl

  -- a slot that has a process
  pub there : (p : Process) → slice_get b.processes.items slot ≡ Some p
      → slice_get (world_of b).records slot
      ≡ Some (recorded b ((p, own_of b.machine.home slot), slot_bytes b.machine.drivers.stores slot))
  there p is =
      let within : slot < length b.processes.items = slice_get_within b.processes.items slot p is in
      looked (Some (p, own_of b.machine.home slot))
      (zip-get b.processes.items b.machine.home.owns slot p (own_of b.machine.home slot) is
      (slice_get-get_or b.machine.home.owns slot nobody (omega (arith, within, board.owns))))

  -- a slot whose turn is ready has no process that is held
  pub free_there : is_ready (world_of b) (Run slot) ≡ true → (p : Process) → slice_get b.processes.items slot ≡ Some p
      → p.held ≡ false
  unfolding may_be_made
  free_there ready p is =
      by_held p.held (has_turn p.state (due (own_of b.machine.home slot).inbox))
      (right_is (nat_lt b.machine.moment.steps STEP_LIMIT) _
      (sym (ap (λ (o : Option Record). nat_lt b.machine.moment.steps STEP_LIMIT && can_run o) (there p is)) ∙ ready))
    where
      right_is : (x y : Bool) → (x && y) ≡ true → y ≡ true
      right_is true y e = e
      right_is false y e = absurd (false≢true e)

      by_held : (held x : Bool) → (not held && x) ≡ true → held ≡ false
      by_held true x e = absurd (false≢true e)
      by_held false x e = refl

  -- one without a process
  pub missing : length b.processes.items ≤ slot → slice_get (world_of b).records slot ≡ None
  missing h = looked None (past (residents b) slot
      (omega (arith, h, length-firsts b.processes.items b.machine.home.owns board.owns)))
    where
      past : (xs : List Resident) (k : ℕ) → length xs ≤ k → slice_get xs k ≡ None
      past [] k h = refl
      past (x ∷ xs) zero h = absurd (omega arith)
      past (x ∷ xs) (suc k) h = past xs k (omega arith)

  -- what is read of the record of a slot, whatever process is there
  module _ {X : Type 0} (read : Record → X) {w : World} (view : world_of b ≡ w) where
    pub read_missing : length b.processes.items ≤ slot → None ≡ option_map read (slice_get w.records slot)
    read_missing h = rw (← view) (ap (option_map read) (sym (missing h)))

    pub read_there : (x : X) → slot < length b.processes.items
        → ((p : Process) → slice_get b.processes.items slot ≡ Some p
        → x ≡ read (recorded b ((p, own_of b.machine.home slot), slot_bytes b.machine.drivers.stores slot)))
        → Some x ≡ option_map read (slice_get w.records slot)
    read_there x within is =
        let found = some_at b.processes.items slot within in
        rw (← view) (ap Some (is found.0 found.1) ∙ ap (option_map read) (sym (there found.0 found.1)))
      where
        some_at : (xs : List Process) (k : ℕ) → k < length xs → (p : Process) × (slice_get xs k ≡ Some p)
        some_at [] k h = absurd (omega arith)
        some_at (p ∷ xs) zero h = (p, refl)
        some_at (p ∷ xs) (suc k) h = some_at xs k (omega (arith, h))

  -- of a process that was looked up in the table
  module _ {w : World} (view : world_of b ≡ w) {processes : List Process} {index : ℕ}
      (same : processes ≡ b.processes.items) (at : index ≡ slot) where
    pub process_there : (p : Process) → true ≡ nat_lt index (length processes) → p ≡ slice_index_or processes index p
        → Some p ≡ option_map (λ (r : Record). r.process) (slice_get w.records slot)
    process_there p lt is =
        let within : index < length processes = grind (arith, nat_tests) in
        let here : slice_get processes index ≡ Some p = slice_get-get_or processes index p within ∙ ap Some (sym is) in
        rw (← view) (ap (option_map (λ (r : Record). r.process)) (sym (there p (rw (same, at) at here))))

    pub process_missing : false ≡ nat_lt index (length processes)
        → None ≡ option_map (λ (r : Record). r.process) (slice_get w.records slot)
    process_missing lt =
        let past : length processes ≤ index = grind (arith, nat_tests) in
        read_missing (λ (r : Record). r.process) view (omega (arith, past, at, ap length same))

module _ {b : BoardState} (board : IsBoard b) where
  -- one that waits lives
  waits_lives : (queue : QueueName) (own : Own) → has_waiting queue own ≡ true → own.lives ≡ true
  waits_lives queue own = by_life own.lives
    where
      by_life : (b : Bool) → is_some (cond b (request_in (kind_in queue) own) None) ≡ true → b ≡ true
      by_life true e = refl
      by_life false e = absurd (false≢true e)

  lives_so : (id : ProcessId) (own : Own) → slice_get b.machine.home.owns id.slot ≡ Some own → own.lives ≡ true
      → own.life ≡ id.life → LivesThere (world_of b) id
  lives_so id own is lives life = by_record (slice_get (world_of b).records id.slot) refl
    where
      by_record : (o : Option Record) → slice_get (world_of b).records id.slot ≡ o → LivesThere (world_of b) id
      by_record None e = absurd (no_own (sym is ∙ own_read board id.slot ∙ ap (option_map (λ (r : Record). r.own)) e))
        where
          no_own : ◌≡◌ {A = Option Own} (Some own) None → ⊥
          no_own e = cc
      by_record (Some r) e =
          let both : ◌≡◌ {A = Option Own} (Some own) (Some r.own) =
          sym is ∙ own_read board id.slot ∙ ap (option_map (λ (x : Record). x.own)) e in
          let same : own ≡ r.own = cc in
          record {
            there = r;
            is_there = e;
            lives = ap (λ (o : Own). o.lives) (sym same) ∙ lives;
            life =
                ap (λ (o : Own). o.life) (sym same) ∙ life;
          }

  -- so do all that wait in a line
  pub queue_lives : (queue : QueueName) → All (LivesThere (world_of b)) (ids_waiting_in b.machine.drivers queue)
  queue_lives queue = each ids line.there (λ id waits_there. waits_there)
    where
      ids : List ProcessId
      ids = ids_waiting_in b.machine.drivers queue

      line : IsQueueOf queue ids b.machine.home.owns
      line = board.machine.driven.queues queue

      each : (rest : List ProcessId) → AllByRecursion (IsThere b.machine.home.owns) rest
          → ((id : ProcessId) → waits id.slot rest ≡ true → waits id.slot ids ≡ true)
          → All (LivesThere (world_of b)) rest
      each [] there within = All-nil (LivesThere (world_of b))
      each (id ∷ rest) there within =
          let at : slice_get b.machine.home.owns id.slot ≡ Some (slice_index_or b.machine.home.owns id.slot nobody) =
          slice_get-get_or b.machine.home.owns id.slot nobody there.0.0 in
          let waits_so : waits id.slot ids ≡ true =
          within id (ap (λ (t : Bool). t || waits id.slot rest) (eq-eqb id.slot id.slot refl)) in
          All-cons (LivesThere (world_of b)) id rest
          (lives_so id (slice_index_or b.machine.home.owns id.slot nobody) at
          (waits_lives queue (slice_index_or b.machine.home.owns id.slot nobody)
          (sym (line.each id.slot there.0.0) ∙ waits_so)) there.0.1)
          (each rest there.1 (λ x later.
          within x (ap (λ (t : Bool). (id.slot == x.slot) || t) later ∙ or_true (id.slot == x.slot))))
        where
          or_true : (b : Bool) → (b || true) ≡ true
          or_true true = refl
          or_true false = refl
