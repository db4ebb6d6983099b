-- When a process lives, and what stays of it: each is a predicate on a record that the walk of `Changes` keeps
-- (`IsKept`), so of any choices (`stays`). So it lives as it runs, an ended one is left alone, its block, object and
-- order of memory stay, and no more upcalls wait than the limit.
use Rattle.std.proofs.Common.{◌≡◌, ◌≢◌, ◌≤◌, ℕ, ◌+◌, Bool, true, false, ◌&&◌, nat_le, List, []}
use Rattle.std.proofs.Common.{◌∷◌, filter, length, slice_get, option_map, Option}
use Rattle.std.proofs.Common.{None, Some, refl, sym, ap, ◌∙◌, arith}
use Rattle.std.specs.Prelude.{All}
use Rattle.std.proofs.lemmas.List.Elements.{All-head, All-tail}
use Rattle.std.proofs.lemmas.Bool.{leb-true}
use Rattle.tk_base.specs.Numbers.{rounded_up}
use Rattle.tk_base.specs.declared.process.Choice.{Choice}
use Rattle.tk_base.specs.declared.upcall.Upcall.{Upcall as Scheduled}
use Rattle.tk_base.specs.declared.kinds.PairKind.{PairKind}
use Rattle.tk_base.specs.Kinds.{is_buffer}
use Rattle.process_layout.specs.Bounds.{permits_break}
use Rattle.process_model.specs.Own.{Own, kernel_break_of}
use Rattle.process_model.specs.Handed.{still_pending}
use Rattle.driver_model.specs.Alarm as alarm
use Rattle.driver_model.specs.Buttons as buttons
use Rattle.driver_model.specs.Random as random
use Rattle.driver_model.specs.Random.{randoms}
use Rattle.driver_model.specs.Storage as storage
use Rattle.driver_model.specs.Storage.{storages}
use Rattle.driver_model.specs.Laws.{StaysInPlace}
use Rattle.driver_model.specs.Keeping.{DriversKeep, IsInOrder, KeepsLimit, KeepsOrder}
use Rattle.driver_model.specs.Services.{OfEachService}
use Rattle.process_record.specs.declared.process.State.{State}
use Rattle.process_record.specs.declared.process.State.TheVariants.{Running, Yielded}
use Rattle.kernel_model.specs.Record.{Record}
use Rattle.kernel_model.specs.declared.settings.Settings.{Settings}
use Rattle.kernel_model.specs.Calls.{restart, restarted_with}
use Rattle.kernel_model.specs.Turn.{Act, Event, Turn}
use Rattle.kernel_model.specs.Turn.{apply, turned, turn_in}
use Rattle.kernel_model.specs.World.{World, after}
use Rattle.kernel_model.specs.Replay.{after_all, history, replay}
use Rattle.kernel_model.specs.Lives.{AsManyStay, BlocksStayApart, EndedStays, HasOrder, HasPendingWithinLimit, LiesAs}
use Rattle.kernel_model.specs.Lives.{LivesAsItRuns, PlacesStay, HoldsThroughout}
use Rattle.tk_base.specs.declared.process.Verb.TheVariants as verbs
use Rattle.process_record.specs.Process.{is_alive}
use Rattle.kernel_lives.proofs.Changes.{IsKept}
use Rattle.kernel_model.proofs.Restarts.{restart_by, restarts}
use Rattle.kernel_model.proofs.Handed.{is_handed}
use Rattle.kernel_laws.proofs.Turns.{step_same}
use Rattle.kernel_model.proofs.Replays.{record_is_replay}
use Rattle.kernel_model.proofs.Steps.{IsAnswer}
use Rattle.kernel_model.proofs.Places.{of_turned}
use Rattle.std.proofs.Common.{suc}
use Rattle.std.proofs.lemmas.Bool.{and_parts, cond_both}
use Rattle.kernel_model.specs.Turn.{Turned, idle}
use Rattle.kernel_lives.proofs.Changes.{stays}

-- a process lives as it runs
lives_again : (r : Record) → LivesAsItRuns r → LivesAsItRuns (restart r)
lives_again r h =
    restarts LivesAsItRuns r h.application
    (λ header m. record { lives = refl; life = ap (λ (n : ℕ). n + 1) h.life; application = h.application })

lives_kept : IsKept StaysInPlace LivesAsItRuns LivesAsItRuns
lives_kept = record {
  done = λ r h. h;
  goes = λ r regs state refusal same h.
      record { lives = h.lives ∙ sym same; life = h.life; application = h.application };
  serves = λ r o storage pressed s h.
      rw s (record { lives = h.lives; life = h.life; application = h.application });
  hands = λ r swap may h. record { lives = h.lives; life = h.life; application = h.application };
  moves = λ r new may h. record { lives = h.lives; life = h.life; application = h.application };
  bytes = λ r ram inbox as_many takes h. record { lives = h.lives; life = h.life; application = h.application };
  ends = λ r state denial over h. record { lives = sym over; life = h.life; application = h.application };
  again = lives_again;
  faults_again = λ r denial h. restarts LivesAsItRuns _ h.application
      (λ header m. record { lives = refl; life = ap (λ (n : ℕ). n + 1) h.life; application = h.application });
}

pub lives_stay : DriversKeep → HoldsThroughout LivesAsItRuns
lives_stay law =
    stays StaysInPlace law.places LivesAsItRuns lives_kept
    (λ r turns held regs ram size h. record { lives = h.lives; life = h.life; application = h.application })

-- an ended process has no turn, and what devices tell it changes only which buttons it knows to be pressed
pub over_turn : (settings : Settings) (time : ℕ) (r : Record) → is_alive r.process.state ≡ false
    → turned settings time r ≡ idle r
over_turn settings time r over =
    of_turned (λ t. t ≡ idle r) settings time r refl (by_state r.process.state over)
  where
    by_state : (state : State) → is_alive state ≡ false → turn_in settings time state r ≡ idle r
    by_state Running e = absurd (cc)
    by_state Yielded e = absurd (cc)
    by_state other e = refl

over_answer : (settings : Settings) (event : Event) (r : Record) → r.own.lives ≡ false → IsAnswer event
    → apply settings event r ≡ record r { pressed = (apply settings event r).pressed }
unfolding apply alarm.answered buttons.edged random.answered storage.answered
over_answer settings (Turn time) r over is = absurd (cc)
over_answer settings (Act verb) r over is = absurd (cc)
over_answer settings event r over is = rw over

-- whatever happens to an ended process that is not held, but for an operator's act that starts it again
ended_event : (settings : Settings) (event : Event) (r : Record) → is_alive r.process.state ≡ false
    → r.process.held ≡ false → r.own.lives ≡ false → event ≢ Act verbs.Restart
    → (pressed : ℕ) × (apply settings event r ≡ record r { pressed = pressed })
unfolding apply
ended_event settings (Turn time) r over free ended other =
    (r.pressed, ap (λ (t : Turned). t.after) (over_turn settings time r over))
ended_event settings (Act verbs.Restart) r over free ended other = absurd (other refl)
ended_event settings (Act verbs.List) r over free ended other = (r.pressed, refl)
ended_event settings (Act verbs.Start) r over free ended other = (r.pressed, rw free)
ended_event settings (Act verb) r over free ended other = (r.pressed, rw over)
ended_event settings event r over free ended other =
    ((apply settings event r).pressed, over_answer settings event r ended refl)

ended_events : (settings : Settings) (events : List Event) (r : Record) → is_alive r.process.state ≡ false
    → r.process.held ≡ false → r.own.lives ≡ false → All (λ event. event ≢ Act verbs.Restart) events
    → (pressed : ℕ) × (replay settings events r ≡ record r { pressed = pressed })
ended_events settings [] r over free ended none = (r.pressed, refl)
ended_events settings (event ∷ events) r over free ended none =
    let one = ended_event settings event r over free ended
    (All-head (λ (e : Event). e ≢ Act verbs.Restart) event events none) in
    let rest = ended_events settings events (record r { pressed = one.0 }) over free ended
    (All-tail (λ (e : Event). e ≢ Act verbs.Restart) event events none) in
    (rest.0, ap (replay settings events) one.1 ∙ rest.1)

pub ended_stays : EndedStays
ended_stays w choices slot r is over free ended none =
    let left = ended_events w.settings (history slot w choices) r over free ended none in
    (left.0, record_is_replay w choices slot ∙ rw (is, left.1))

-- where a process lies
pub lies_kept : (law : DriversKeep) (first : Record) → IsKept StaysInPlace (LiesAs first) (LiesAs first)
lies_kept law first = record {
  done = λ r h. h;
  goes = λ r regs state refusal same h. search;
  serves = λ r o storage pressed s h. rw s (search);
  hands = λ r swap may h. rw (law.handed_places swap.kind swap.driver swap.number swap.pair r.own) (search);
  moves = λ r new may h. search;
  bytes = λ r ram inbox as_many takes h. search;
  ends = λ r state denial over h. search;
  again = λ r h. restart_by (LiesAs first) r h (λ header m is main. search);
  faults_again = λ r denial h. restart_by (LiesAs first) _ (search) (λ header m is main. search);
}

lies_stay : (law : DriversKeep) (first : Record) → HoldsThroughout (LiesAs first)
lies_stay law first =
    stays StaysInPlace law.places (LiesAs first) (lies_kept law first) (λ r turns held regs ram size h. search)

pub places_stay : DriversKeep → PlacesStay
places_stay law w choices slot first is = lies_stay law first w choices slot (rw is (search))

-- a process of a later world was there before, and lay where it lies
was_there : (law : DriversKeep) (w : World) (choices : List Choice) (slot : ℕ) (now : Record)
    → slice_get (after_all w choices).records slot ≡ Some now
    → (first : Record) × (slice_get w.records slot ≡ Some first) × LiesAs first now
was_there law w choices slot now is = by_first (slice_get w.records slot) refl
  where
    by_first : (o : Option Record) → slice_get w.records slot ≡ o
        → (first : Record) × (slice_get w.records slot ≡ Some first) × LiesAs first now
    by_first None e = let none = record_is_replay w choices slot ∙ ap (option_map _) e in absurd (cc)
    by_first (Some first) e = (first, e, rw is at (places_stay law w choices slot first e))

pub blocks_stay_apart : DriversKeep → BlocksStayApart
blocks_stay_apart law w choices apart i j r s ne at_i at_j a low high low2 high2 =
    let one = was_there law w choices i r at_i in
    let other = was_there law w choices j s at_j in
    apart i j one.0 other.0 ne one.1 other.1 a (omega (arith, low, one.2.start)) (omega (arith, high, one.2.end))
    (omega (arith, low2, other.2.start)) (omega (arith, high2, other.2.end))

-- the order of its memory
up_to : (n m : ℕ) → n ≤ rounded_up (n + m)
up_to n m = omega arith

pub order_on : (r s : Record) → HasOrder r → s.object ≡ r.object → s.own.layout.start ≡ r.own.layout.start
    → s.own.layout.end ≡ r.own.layout.end → IsInOrder s.own → HasOrder s
order_on r s h object start end places = record { places = places; least = rw (object, start, end) h.least }

pub order_same : (own o : Own) → o.layout ≡ own.layout → o.grants ≡ own.grants → IsInOrder own → IsInOrder o
order_same own o layout grants h =
    record { mark = rw layout h.mark; brk = rw layout h.brk; grants = rw (layout, grants) h.grants }

pub order_again : (r : Record) → HasOrder r → HasOrder (restart r)
order_again r h = restart_by HasOrder r h (λ header m is main.
    let fits = rw (is, main) at h.least in
    order_on r (restarted_with r header m) h refl refl refl
    (record {
      mark = omega arith;
      brk = up_to r.own.layout.start m.minimum_ram;
      grants = omega (arith, fits);
    }))

pub order_moved : (r : Record) (new : ℕ) → permits_break r.own.layout (kernel_break_of r.own) new ≡ true → HasOrder r
    → IsInOrder (record r.own { layout = record r.own.layout { brk = rounded_up new } })
order_moved r new may h =
    let n = rounded_up new in
    let k = kernel_break_of r.own in
    let all = and_parts (nat_le r.own.layout.start n && nat_le n k) (nat_le r.own.layout.mark n) may in
    let below = leb-true n k (and_parts (nat_le r.own.layout.start n) (nat_le n k) all.0).1 in
    record {
      mark = h.places.mark;
      brk = leb-true r.own.layout.mark n all.1;
      grants = omega (arith, below, h.places.grants);
    }

abbrev pub KeepsBoth : Own → Own → Type 0
KeepsBoth own o = StaysInPlace own o × KeepsOrder own o

-- two that hold of each service hold of it together
pub both_services : (P Q : Own → Own → Type 0) → OfEachService P → OfEachService Q
    → OfEachService (λ own o. P own o × Q own o)
both_services P Q p q = record {
  command = λ driver taker is around number a2 a3 own.
      (p.command driver taker is around number a2 a3 own, q.command driver taker is around number a2 a3 own);
  alarmed = λ now own. (p.alarmed now own, q.alarmed now own);
  edged = λ button state own. (p.edged button state own, q.edged button state own);
  taken = λ own. (p.taken own, q.taken own);
  write_done = λ own. (p.write_done own, q.write_done own);
  input = λ bytes own. (p.input bytes own, q.input bytes own);
  drawn = λ word own. (p.drawn word own, q.drawn word own);
  stored = λ fault flash bytes own. (p.stored fault flash bytes own, q.stored fault flash bytes own);
}

pub keep_both : DriversKeep → OfEachService KeepsBoth
keep_both law = both_services StaysInPlace KeepsOrder law.places law.order

pub order_kept : DriversKeep → IsKept KeepsBoth HasOrder HasOrder
order_kept law = record {
  done = λ r h. h;
  goes = λ r regs state refusal same h. record { places = h.places; least = h.least };
  serves = λ r o storage pressed s h. order_on r _ h refl (ap (λ (x : Own). x.layout.start) s.0)
      (ap (λ (x : Own). x.layout.end) s.0) (s.1 h.places);
  hands = λ r swap may h.
      let p = law.handed_places swap.kind swap.driver swap.number swap.pair r.own in
      order_on r _ h refl (ap (λ (x : Own). x.layout.start) p) (ap (λ (x : Own). x.layout.end) p)
      (law.handed swap.kind swap.driver swap.number swap.pair r.own (is_handed swap r.own may).room h.places);
  moves = λ r new may h. order_on r _ h refl refl refl (order_moved r new may h);
  bytes = λ r ram inbox as_many takes h. order_on r _ h refl refl refl (order_same r.own _ refl refl h.places);
  ends = λ r state denial over h. order_on r _ h refl refl refl (order_same r.own _ refl refl h.places);
  again = order_again;
  faults_again = λ r denial h. order_again _ (record { places = h.places; least = h.least });
}

pub order_stays : DriversKeep → HoldsThroughout HasOrder
order_stays law =
    stays KeepsBoth (keep_both law) HasOrder (order_kept law)
    (λ r turns held regs ram size h. order_on r _ h refl refl refl (order_same r.own _ refl refl h.places))

-- how many upcalls wait
filtered : {X : Type 0} (p : X → Bool) (xs : List X) → length (filter p xs) ≤ length xs
filtered p [] = omega arith
filtered p (x ∷ xs) =
    let later = filtered p xs in
    cond_both (p x) _ _ (λ ys. length ys ≤ suc (length xs)) (λ e. omega (arith, later)) (λ e. omega (arith, later))

fewer : (kind : PairKind) (driver number : ℕ) (pending : List Scheduled)
    → length (still_pending kind driver number pending) ≤ length pending
fewer kind driver number pending =
    cond_both (is_buffer kind) _ _ (λ ys. length ys ≤ length pending) (λ e. omega arith) (λ e. filtered _ pending)

pending_again : (r : Record) → HasPendingWithinLimit r → HasPendingWithinLimit (restart r)
pending_again r h = restart_by HasPendingWithinLimit r h (λ header m is main. omega arith)

pending_kept : IsKept KeepsLimit HasPendingWithinLimit HasPendingWithinLimit
pending_kept = record {
  done = λ r h. h;
  goes = λ r regs state refusal same h. h;
  serves = λ r o storage pressed s h. s.limit h;
  hands = λ r swap may h. omega (arith, h, fewer swap.kind swap.driver swap.number r.own.inbox.pending);
  moves = λ r new may h. h;
  bytes = λ r ram inbox as_many takes h. omega (arith, h, takes.not_more);
  ends = λ r state denial over h. omega arith;
  again = pending_again;
  faults_again = λ r denial h. pending_again _ h;
}

pub pending_stays : DriversKeep → HoldsThroughout HasPendingWithinLimit
pending_stays law = stays KeepsLimit law.limit HasPendingWithinLimit pending_kept (λ r turns held regs ram size h. h)

-- no step takes a process away, or adds one
pub as_many_stay : AsManyStay
as_many_stay w [] = refl
as_many_stay w (choice ∷ choices) = as_many_stay (after w choice) choices ∙ (step_same w choice).records
