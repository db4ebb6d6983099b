-- Turns of the slot that has the next one. What `turns_at` promised of the turns (`Quietly`) makes the board after
-- them, the stretch of the world and how it ends, each by its lemma of `Stretches`. All that these ask is shown here:
-- the process runs, and the turns end with the slice or the slot is alone.
use Rattle.std.proofs.Common.{◌≡◌, ◌+◌, ◌<◌, ℕ, List, [], ◌∷◌, Some, true, false, All}
use Rattle.std.proofs.Common.{slice_get, rules, sym, ap, ap₂, subst, ◌∙◌, arith, refl, Bool, ◌⊎◌, inl, inr}
use Rattle.std.specs.List.{zip}
use Rattle.tk_base.specs.declared.process.Choice.TheVariants.{Run}
use Rattle.process_record.specs.declared.process.Process.{Process}
use Rattle.kernel_model.specs.Run.{next, ready_devices}
use Rattle.kernel_model.specs.Stretch.{GoesOn, IsStretch}
use Rattle.kernel_laws.specs.Alone.{IsAlone}
use Rattle.board_drivers.specs.Calm.{AlarmsTell, IsCalm}
use Rattle.board_drivers.proofs.Lanes.{few_still}
use Rattle.board_drivers.specs.Driven.{AreDriven}
use Rattle.kernel_calls.specs.Residents.{HasLost, IsResident}
use Rattle.board_drivers.specs.declared.drivers.Drivers.{Drivers}
use Rattle.board_turns.specs.declared.machine.Machine.{Machine}
use Rattle.board_core.specs.declared.slices.PresentSlot.{PresentSlot}
use Rattle.board_core.specs.declared.state.BoardState.{BoardState}
use Rattle.board_core.specs.Shows.{IsBoard, world_of}
use Rattle.board_core.specs.KnownEnds.{IsKnownOfChoice}
use Rattle.board_core.specs.Running.{slot_runs}
use Rattle.board_core.proofs.Ready.{calm_shown}
use Rattle.board_core.proofs.Stretches.{alone_shown, end_known, ends_shown, looked_ahead, next_stays, nothing_comes}
use Rattle.board_core.proofs.Stretches.{rests_there, runs_within, still, stops_at, stretch_shown, turns_later}
use Rattle.board_core.proofs.Stretches.{used_within}
use Rattle.board_core.proofs.Boards.{may_turn_on}
use Rattle.board_core.proofs.board.Board.run_slot.Goals as goal
use Rattle.board_core.proofs.board.Board.run_slot.Goals.{After-is_over}

pub returns-then-not-is_running-clause-ends : goal.returns-then-not-is_running-clause-ends
returns-then-not-is_running-clause-ends c e h = stops_at (λ goes.
    rests_there c.self.inside.state c.self.invariant c.args.slot (ap next c.self.view_is ∙ c.requires.chosen)
    (ap (λ (ps : List Process). slot_runs (slice_get ps c.args.slot)) (sym c.deref.ensures.value)
    ∙ sym c.is_running.ensures ∙ search rules) (subst GoesOn (sym c.self.view_is) goes))

pub returns-then-self-clause-ends : goal.returns-then-self-clause-ends
returns-then-self-clause-ends c e h = stops_at (λ g.
    nothing_comes c.self.inside.state c.self.invariant g
    c.next_is_ready.ensures.ahead (c.calm_ahead-self-inside.ensures.come c.if-self.true))

-- the board that looked up to when no device step is ready
abbrev looking_ahead : BoardState → ℕ → BoardState
looking_ahead b calm = record b { machine = record b.machine { calm = calm } }

pub turns_at-stretch-requires : goal.turns_at-stretch-requires
turns_at-stretch-requires c =
    may_turn_on (looked_ahead c.self.inside.state c.calm_ahead-self-inside.result c.self.invariant
    c.calm_ahead-self-inside.ensures.calm) c.turns_left-left.result c.self.inside.state.machine.drivers c.args.slot
    (runs_within c.self.inside.state.processes.items c.args.slot
    (ap (λ (ps : List Process). slot_runs (slice_get ps c.args.slot)) (sym c.deref.ensures.value)
    ∙ sym c.is_running.ensures ∙ search rules))
    c.turns_left-left.ensures.limit

-- the slot has the next turn, and its process runs
chosen : (c : After-is_over) → next (world_of c.self.inside.state) ≡ Some (Run c.args.slot)
chosen c = ap next c.self.view_is ∙ c.requires.chosen

runs_there : (c : After-is_over) → slot_runs (slice_get c.self.inside.state.processes.items c.args.slot) ≡ true
runs_there c = ap (λ (ps : List Process). slot_runs (slice_get ps c.args.slot)) (sym c.deref.ensures.value)
    ∙ sym c.is_running.ensures ∙ search rules

-- the machine after the turns: the drivers and the rest are those before
same_machine : (c : After-is_over) → c.turns_at-stretch.new.self
    ≡ record c.self.inside.state.machine {
      home = c.turns_at-stretch.new.self.home;
      guard = c.turns_at-stretch.new.self.guard;
      calm = c.calm_ahead-self-inside.result;
    }
same_machine c =
    let old = record c.self.inside.state.machine { calm = c.calm_ahead-self-inside.result } in
    let new = c.turns_at-stretch.new.self in
    c.turns_at-stretch.ensures.quiet.leaves.rest
    ∙ ap (λ (d : Drivers). record old { home = new.home; guard = new.guard; drivers = d })
    c.turns_at-stretch.ensures.drivers

-- the last turn is the slice's, or no other slot can have one
alone_or : (c : After-is_over)
    → (c.last_turn-last.result ≡ c.self.inside.state.present.slice)
    ⊎ IsAlone (world_of c.self.inside.state) c.args.slot
alone_or c = by_alone c.has_one-alone.result refl
  where
    by_alone : (alone : Bool) → c.has_one-alone.result ≡ alone
        → (c.last_turn-last.result ≡ c.self.inside.state.present.slice)
        ⊎ IsAlone (world_of c.self.inside.state) c.args.slot
    by_alone true e =
        inr (alone_shown c.self.inside.state c.self.invariant c.args.slot (chosen c)
        (sym c.has_one-alone.ensures ∙ e))
    by_alone false e = inl (c.last_turn-last.ensures.slice e)

-- a board with these turns made
abbrev turned : After-is_over → Machine → PresentSlot → BoardState
turned c x p = record c.self.inside.state {
  machine = record x {
    moment = record x.moment {
      time = x.moment.time + c.from-ticks.result;
      steps = x.moment.steps + c.from-ticks.result;
    };
  };
  processes = c.turns_at-stretch.new.processes;
  present = p;
}

abbrev turned_now : After-is_over → BoardState
turned_now c = turned c c.turns_at-stretch.new.self c.go_on.new.self

-- of which the machine and the present slot are those before, but for what the turns change
abbrev turned_then : After-is_over → BoardState
turned_then c = turned c (record c.self.inside.state.machine {
  home = c.turns_at-stretch.new.self.home;
  guard = c.turns_at-stretch.new.self.guard;
  calm = c.calm_ahead-self-inside.result;
}) (record c.self.inside.state.present { slot = c.go_on.new.self.slot; used = c.go_on.new.self.used })

same_board : (c : After-is_over) → turned_now c ≡ turned_then c
same_board c = ap₂ (turned c) (same_machine c) c.go_on.ensures.rest

-- is a board
board_then : (c : After-is_over) → IsBoard (turned_now c)
board_then c =
    let b = looking_ahead c.self.inside.state c.calm_ahead-self-inside.result in
    let board = looked_ahead c.self.inside.state c.calm_ahead-self-inside.result c.self.invariant
    c.calm_ahead-self-inside.ensures.calm in
    let k = c.turns_at-stretch.result.went in
    let x = c.turns_at-stretch.new.self in
    let processes = c.turns_at-stretch.new.processes.items in
    let left = c.turns_left-left.ensures in
    let ticks = c.from-ticks.ensures in
    let present = c.go_on.new.self in
    let holds = still b board c.args.slot k c.turns_left-left.result present.used present.slot x processes
    c.turns_at-stretch.ensures.quiet in
    subst IsBoard (sym (same_board c)) (record {
      machine = record {
        lost = subst (λ (n : ℕ). All (HasLost (b.machine.moment.steps + n)) x.home.owns) (sym ticks) holds.lost;
        guard = c.turns_at-stretch.ensures.quiet.leaves.guard;
        driven = subst (λ (n : ℕ). AreDriven b.machine.moment.settings (b.machine.moment.time + n) x.home.owns
            b.machine.drivers) (sym ticks) holds.driven;
        lanes = board.machine.lanes;
        served = few_still b.machine.moment.steps (b.machine.moment.steps + c.from-ticks.result)
            b.machine.drivers.stores.served (omega arith) board.machine.served;
        steps = omega (arith, ticks, left.limit, c.turns_at-stretch.ensures.most);
        time = omega (arith, board.machine.time);
        calm = subst (λ (n : ℕ). IsCalm b.machine.moment.settings.start b.machine.moment.window
            (b.machine.moment.time + n) b.machine.calm x.home.owns
            b.machine.drivers) (sym ticks) holds.calm;
        alarms = subst (λ (n : ℕ). AlarmsTell (turns_later n b.machine.moment) b.machine.alarms x.home.owns) (sym ticks)
            (holds.alarms c.time_brings_an_alarm_nearer.ensures);
      };
      seated = subst (λ (n : ℕ). All (IsResident x.home.flash (b.machine.moment.steps + n)) (zip processes x.home.owns))
          (sym ticks) holds.seated;
      owns = holds.owns;
      few = holds.few;
      ready = holds.ready;
      slice = board.slice;
      used = used_within b.present.used b.present.slice c.used_before-before.result k present.used board.used
          board.slice (λ none. (c.go_on.ensures.none none).1) (λ some. (c.go_on.ensures.some some).1);
    })

pub invariant_of-self-2 : goal.invariant_of-self-2
invariant_of-self-2 c = board_then (goal.at.invariant_of-self-2 c).After-is_over

-- where turns were left no device step is ready then
calm_then : (c : After-is_over) → c.turns_at-stretch.result.went < c.turns_left-left.result
    → ready_devices (world_of (turned_now c))
    ≡ false ∷ false ∷ false ∷ false ∷ false ∷ false ∷ []
calm_then c fewer =
    let b = turned_now c in
    let board = board_then c in
    let until = c.turns_left-left.ensures.until in
    let rest = c.turns_at-stretch.ensures.quiet.leaves.rest in
    let same = ap (λ (m : Machine). m.moment.time) rest in
    let calm = ap (λ (m : Machine). m.calm) rest in
    calm_shown board (board.machine.calm.none b.machine.moment.time (omega arith)
    (omega (arith, until, fewer, same, calm, c.from-ticks.ensures)))

pub returns-clause-stretch : goal.returns-clause-stretch
returns-clause-stretch c =
    let a = (goal.at.returns-clause-stretch c).After-is_over in
    let b = looking_ahead c.self.inside.state c.calm_ahead-self-inside.result in
    let board = looked_ahead c.self.inside.state c.calm_ahead-self-inside.result c.self.invariant
    c.calm_ahead-self-inside.ensures.calm in
    let left = c.turns_left-left.ensures in
    let most = c.turns_at-stretch.ensures.most in
    let present = c.go_on.new.self in
    let q = c.turns_at-stretch.ensures.quiet in
    subst (λ (y : BoardState). IsStretch c.turns_at-stretch.result.went c.args.self.now (world_of y))
    (sym (same_board a))
    (stretch_shown b board c.args.slot c.turns_at-stretch.result.went c.turns_left-left.result present.used
    present.slot c.turns_at-stretch.new.self c.turns_at-stretch.new.processes.items q
    (chosen c) (ap slot_runs (sym q.at.was) ∙ runs_there c) c.used_before-before.result
    c.used_before-before.ensures.value c.last_turn-last.result (omega (arith, left.last, most)) (alone_or a)
    (omega (arith, left.until, most))
    (omega (arith, left.limit, most)) c.go_on.ensures.none c.go_on.ensures.some
    c.from-ticks.result c.args.self.now c.round_is_stretch.ensures.round
    c.round_is_stretch.ensures.chosen c.one_alone_goes_on.ensures.stretch c.round_is_stretch.ensures.none
    c.from-ticks.ensures c.self.view_is)

pub returns-clause-ends : goal.returns-clause-ends
returns-clause-ends c e h =
    let a = (goal.at.returns-clause-ends c).After-is_over in
    let b = looking_ahead c.self.inside.state c.calm_ahead-self-inside.result in
    let board = looked_ahead c.self.inside.state c.calm_ahead-self-inside.result c.self.invariant
    c.calm_ahead-self-inside.ensures.calm in
    let left = c.turns_left-left.ensures in
    let most = c.turns_at-stretch.ensures.most in
    let present = c.go_on.new.self in
    let q = c.turns_at-stretch.ensures.quiet in
    stops_at (λ g.
    ends_shown b board c.args.slot c.turns_at-stretch.result.went c.turns_left-left.result present.used present.slot
    c.turns_at-stretch.new.self c.turns_at-stretch.new.processes.items q
    (chosen c) (ap slot_runs (sym q.at.was) ∙ runs_there c) c.used_before-before.result
    c.used_before-before.ensures.value c.last_turn-last.result (omega (arith, left.last, most)) (alone_or a)
    (omega (arith, left.until, most))
    (omega (arith, left.limit, most)) c.go_on.ensures.none c.go_on.ensures.some
    (c.round_is_stretch.ensures.stays, c.one_alone_goes_on.ensures.next) c.from-ticks.result c.args.most
    c.calm_ahead-self-inside.result c.from-ticks.ensures most (c.is_over.ensures.over e) left.last left.until
    (omega (arith, c.used_before-before.ensures.within, c.last_turn-last.ensures.within))
    (omega (arith, c.if-self.false)) c.requires.most left.all
    (subst (λ (y : BoardState). GoesOn (world_of y)) (same_board a) g))

pub returns-clause-next : goal.returns-clause-next
returns-clause-next c e =
    let a = (goal.at.returns-clause-next c).After-is_over in
    let b = looking_ahead c.self.inside.state c.calm_ahead-self-inside.result in
    let board = looked_ahead c.self.inside.state c.calm_ahead-self-inside.result c.self.invariant
    c.calm_ahead-self-inside.ensures.calm in
    let left = c.turns_left-left.ensures in
    let most = c.turns_at-stretch.ensures.most in
    let present = c.go_on.new.self in
    let q = c.turns_at-stretch.ensures.quiet in
    subst (λ (y : BoardState). Some (Run c.args.slot) ≡ next (world_of y)) (sym (same_board a))
    (next_stays b board c.args.slot c.turns_at-stretch.result.went c.turns_left-left.result present.used
    present.slot c.turns_at-stretch.new.self c.turns_at-stretch.new.processes.items q
    (chosen a) (ap slot_runs (sym q.at.was) ∙ runs_there a) c.used_before-before.result
    c.used_before-before.ensures.value c.last_turn-last.result (omega (arith, left.last, most)) (alone_or a)
    (omega (arith, left.until, most))
    (omega (arith, left.limit, most)) c.go_on.ensures.none c.go_on.ensures.some
    (c.round_is_stretch.ensures.stays, c.one_alone_goes_on.ensures.next) c.from-ticks.result
    c.turns_left-left.result c.from-ticks.ensures most (c.is_over.ensures.over e) left.last left.until
    (subst (λ (y : BoardState). c.turns_at-stretch.result.went < c.turns_left-left.result
    → ready_devices (world_of y) ≡ false ∷ false ∷ false ∷ false ∷ false ∷ false ∷ []) (same_board a)
    (calm_then a)))

pub returns-clause-known : goal.returns-clause-known
returns-clause-known c e =
    let a = (goal.at.returns-clause-known c).After-is_over in
    let b = looking_ahead c.self.inside.state c.calm_ahead-self-inside.result in
    let board = looked_ahead c.self.inside.state c.calm_ahead-self-inside.result c.self.invariant
    c.calm_ahead-self-inside.ensures.calm in
    let end = c.turns_at-stretch.result.end in
    let present = c.go_on.new.self in
    subst (λ (y : BoardState). IsKnownOfChoice (world_of y) end (Run c.args.slot)) (sym (same_board a))
    (end_known b board c.args.slot c.turns_at-stretch.result.went c.turns_left-left.result present.used
    present.slot c.turns_at-stretch.new.self c.turns_at-stretch.new.processes.items
    c.turns_at-stretch.ensures.quiet c.from-ticks.result c.from-ticks.ensures)
