-- A board that goes on to a goal, and one that is asked for the last place of its way at which a goal would stop it.
-- The rules are this tool's own.
use Rattle.std.specs.Prelude.{◌≡◌, ◌⊎◌, ◌≤◌, ◌<◌, ℕ, zero, suc, nat_lt, Bool, true, false, if◌then◌else◌, List}
use Rattle.std.specs.Prelude.{Option, None, Some, option_map, unwrap_or}
use Rattle.std.specs.Option.{option_and_then}
use Rattle.tk_base.specs.declared.limits.TheConstants.{STEP_LIMIT}
use Rattle.tk_base.specs.declared.process.Choice.{Choice}
use Rattle.kernel_model.specs.World.{World, after}
use Rattle.kernel_model.specs.Parts.{on_choice}
use Rattle.kernel_model.specs.Run.{next, round}
use Rattle.board_views.specs.declared.goal.Goal.{Goal}
use Rattle.board_views.specs.declared.going.Stop.{Stop}
use Rattle.board_views.specs.declared.going.Stop.TheVariants.{Changed}
use Rattle.board_views.specs.declared.searches.Found.{Found}
use Rattle.board_views.specs.Goals.{before_stop, changed_at, or_else, step_stop, watched_bytes}
use Rattle.board_views.specs.Stops.{stop_at}

-- the round robin's next choice, where one more step may be made
abbrev pub choice_in : World → Option Choice
choice_in w = if nat_lt w.clock.steps STEP_LIMIT then next w else None

-- where a board came to, and why it stopped there
pub record Reached : Type 0 where
  pub world : World
  pub stop : Stop

-- it stops: nothing is left to do, or as many steps were made as might be
abbrev pub halts : World → Reached
halts w = record { world = w; stop = stop_at w }

-- it goes on after a step, unless that stops it
abbrev pub after_one_step : Reached → World → Option Stop → Reached
after_one_step later w None = later
after_one_step later w (Some stop) = record { world = w; stop = stop }

-- what stops it before a step, but for the first one
abbrev pub stop_before : Goal → Bool → World → Choice → Option Stop
stop_before goal begun w choice = if begun then before_stop goal w choice else None

-- with a choice: it stops before the step, or the step is made
abbrev pub by_choice : (World → Reached) → Goal → List ℕ → Bool → World → Choice → Reached
by_choice on goal kept begun w choice =
    after_one_step (after_one_step (on (after w choice)) (after w choice) (step_stop goal kept w choice)) w
    (stop_before goal begun w choice)

-- At most n steps are made, until one is before an address of the goal or stops it. The bytes that were watched are
-- kept from the start.
unfoldable pub until : ℕ → Goal → List ℕ → Bool → World → Reached
until zero goal kept begun w = halts w
until (suc n) goal kept begun w =
    on_choice (halts w) (by_choice (until n goal kept true) goal kept begun w) (choice_in w)

-- from a world on
abbrev pub until_goal : ℕ → Goal → World → Reached
until_goal n goal w = until n goal (watched_bytes w goal.watched.items) false w

-- what stops the goal after the step that a world makes next
abbrev pub stop_in_step : Goal → List ℕ → World → Option Stop
stop_in_step goal kept w = option_and_then (step_stop goal kept w) (next w)

-- what stops it before that step, where one more may be made, but for the first one
abbrev pub stop_ahead : Goal → Bool → World → Option Stop
stop_ahead goal begun w = option_and_then (stop_before goal begun w) (choice_in w)

-- what stops it after the last of so many steps of a run; nothing where there was none
abbrev pub last_stop : Goal → List ℕ → World → ℕ → Option Stop
last_stop goal kept from zero = None
last_stop goal kept from (suc i) = stop_in_step goal kept (round i from).world

-- what stops it before the next step, where fewer than n were made
abbrev pub next_stop : ℕ → Goal → World → ℕ → Option Stop
next_stop n goal from made = if nat_lt made n then stop_ahead goal (nat_lt 0 made) (round made from).world else None

-- the first of these
abbrev pub goal_stop : ℕ → Goal → List ℕ → World → ℕ → Option Stop
goal_stop n goal kept from made = or_else (last_stop goal kept from made) (next_stop n goal from made)

-- Why a board stopped after so many steps: for what stops the goal after the last of them; else for what stops it
-- before the next one; else as many were made as might be, or none is left, and that is told.
pub record IsWhyItStopped (n : ℕ) (goal : Goal) (kept : List ℕ) (from : World) (made : ℕ) (stop : Stop) : Type 0 where
  pub why : stop ≡ unwrap_or (goal_stop n goal kept from made) (stop_at (round made from).world)
  pub over : goal_stop n goal kept from made ≡ None → (made ≡ n) ⊎ (choice_in (round made from).world ≡ None)

-- How far a board came that goes on to a goal: the steps made are those of the round robin's run; before none but the
-- first of them the goal stops it, and after none but the last; and why it stopped there.
pub record PassesNothing (n : ℕ) (goal : Goal) (kept : List ℕ) (from : World) (r : Reached) : Type 0 where
  pub made : ℕ
  pub within : made ≤ n
  pub reached : r.world ≡ (round made from).world
  pub before : (i : ℕ) (choice : Choice) → 0 < i → i < made → next (round i from).world ≡ Some choice
      → before_stop goal (round i from).world choice ≡ None
  pub after_step : (i : ℕ) (choice : Choice) → suc i < made → next (round i from).world ≡ Some choice
      → step_stop goal kept (round i from).world choice ≡ None
  pub stopped : IsWhyItStopped n goal kept from made r.stop

-- where the last place was so far, before a step: where a goal stops before it, or where a watched byte then changed
abbrev pub seen_before : Option Found → ℕ → Option Stop → Option Found
seen_before found steps None = found
seen_before found steps (Some stop) = Some (record { steps = steps; stop = stop })

abbrev pub seen_after : Option Found → ℕ → Option ℕ → Option Found
seen_after found steps None = found
seen_after found steps (Some at) = Some (record { steps = steps; stop = Changed at })

-- what is kept of watched bytes
abbrev pub kept_after : Goal → World → List ℕ → Option ℕ → List ℕ
kept_after goal w kept None = kept
kept_after goal w kept (Some at) = watched_bytes w goal.watched.items

-- where it came to, and what was found on the way
pub record Searched : Type 0 where
  pub world : World
  pub found : Option Found

abbrev pub finds : World → Option Found → Searched
finds w found = record { world = w; found = found }

-- a step is made, and what was found goes on
abbrev pub search_step : (List ℕ → Option Found → World → Searched) → Goal → List ℕ → Option Found → World → Choice
    → Searched
search_step on goal kept found w choice =
    let changed = changed_at (after w choice) kept goal.watched.items in
    on (kept_after goal (after w choice) kept changed)
    (seen_after (seen_before found w.clock.steps (before_stop goal w choice)) w.clock.steps changed) (after w choice)

-- At most n steps are made, and the last place is found before one of them that is at an address of the goal or
-- changes a watched byte.
unfoldable pub search : ℕ → Goal → List ℕ → Option Found → World → Searched
search zero goal kept found w = finds w found
search (suc n) goal kept found w =
    on_choice (finds w found) (search_step (search n goal) goal kept found w) (choice_in w)

abbrev pub last_before : ℕ → Goal → World → Searched
last_before n goal w = search n goal (watched_bytes w goal.watched.items) None w

-- what is kept of watched bytes before the step after so many of a run, by what was kept at first: as they were then,
-- or after the last step that changed one
unfoldable pub kept_at : Goal → List ℕ → World → ℕ → List ℕ
kept_at goal kept from zero = kept
kept_at goal kept from (suc i) =
    let w = (round (suc i) from).world in
    kept_after goal w (kept_at goal kept from i) (changed_at w (kept_at goal kept from i) goal.watched.items)

-- what stops a goal in a step or before it: a watched byte that the step changes, else an address before it
abbrev pub place_stop : Goal → List ℕ → World → Choice → Option Stop
place_stop goal kept w choice =
    or_else (option_map Changed (changed_at (after w choice) kept goal.watched.items)) (before_stop goal w choice)

-- the place, where that stops it: after how many steps it is, and why
abbrev pub place_of : Goal → List ℕ → World → Choice → Option Found
place_of goal kept w choice =
    option_map (λ stop. record { steps = w.clock.steps; stop = stop }) (place_stop goal kept w choice)

-- that of the step of a world, where one more may be made
abbrev pub place_in : Goal → List ℕ → World → Option Found
place_in goal kept w = option_and_then (place_of goal kept w) (choice_in w)

-- that of the step after so many of a run
abbrev pub place_at : Goal → List ℕ → World → ℕ → Option Found
place_at goal kept from i = place_in goal (kept_at goal kept from i) (round i from).world

-- none of the steps from one on stops the goal, of the first n of a run
abbrev pub NoneStops : Goal → List ℕ → World → ℕ → ℕ → Type 0
NoneStops goal kept from first n = (i : ℕ) → first ≤ i → i < n → place_at goal kept from i ≡ None

-- one of the first n steps of a run stops it there, and no later one does
pub record IsLastPlace (n : ℕ) (goal : Goal) (kept : List ℕ) (from : World) (place : Found) : Type 0 where
  pub made : ℕ
  pub within : made < n
  pub stops : place_at goal kept from made ≡ Some place
  pub none_later : NoneStops goal kept from (suc made) n

-- What was found is the last place of the first n steps of a run at which one of them stops the goal; none where none
-- does.
abbrev pub IsLastFound : ℕ → Goal → List ℕ → World → Option Found → Type 0
IsLastFound n goal kept from None = NoneStops goal kept from 0 n
IsLastFound n goal kept from (Some place) = IsLastPlace n goal kept from place
