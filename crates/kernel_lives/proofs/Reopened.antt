-- A process that starts again is as it was opened, but for what no restart forgets. It lies where it lay (`LiesAs`,
-- kept by the walk), and a start is a function of the object and of where the process lies, so it makes the same of
-- both. Whether it started in a turn is read off the count of restarts, over the walk of `Changes`.
use Rattle.std.proofs.Common.{◌≡◌, ◌≢◌, ℕ, ◌+◌, slice_get, Some, IfSome, Ok, refl}
use Rattle.std.proofs.Common.{sym, ap, ◌∙◌}
use Rattle.tk_base.specs.declared.process.Choice.{Choice}
use Rattle.tbf_headers.specs.declared.program.Main.{Main}
use Rattle.tbf_headers.specs.Meaning.{Meaning, header_reading}
use Rattle.driver_model.specs.Laws.{StaysInPlace}
use Rattle.driver_model.specs.Keeping.{DriversKeep}
use Rattle.kernel_model.specs.Record.{Record}
use Rattle.kernel_model.specs.Calls.{restart, restarted_with}
use Rattle.kernel_model.specs.Parts.{restarted_by, restarted_main}
use Rattle.kernel_model.specs.World.{World, after}
use Rattle.kernel_model.specs.Replay.{after_all}
use Rattle.kernel_model.specs.Lives.{IsAsAtFirst, IsAtFirst, LiesAs, RestartsAsOpened}
use Rattle.kernel_lives.proofs.Changes.{IsKept, after_answer, after_turn}
use Rattle.kernel_lives.proofs.Lives.{lies_kept, places_stay}
use Rattle.kernel_model.proofs.Restarts.{restart_by}
use Rattle.kernel_model.proofs.Steps.{of_step}
use Rattle.kernel_model.proofs.Places.{same_there}
use Rattle.kernel_model.proofs.Steps.{of_operated}

-- what a start makes of a process that lies where another does, is what it makes of that, but for the counts, the
-- storage and the buttons that it knows to be pressed
abbrev with_counts_of : Record → Record → Record
with_counts_of x r = record {
  process = record x.process {
    restarts = r.process.restarts + 1;
    turns = r.process.turns;
    denial =
        r.process.denial;
    refusal = r.process.refusal;
  };
  object = x.object;
  own = record x.own { inbox = record x.own.inbox { dropped = r.own.inbox.dropped }; life = r.own.life + 1 };
  storage = r.storage;
  pressed = r.pressed;
}

starts_as : (first r : Record) (h : Meaning) (m : Main) → LiesAs first r
    → restarted_with r h m ≡ with_counts_of (restarted_with first h m) r
starts_as first r h m l = rw (l.bytes, l.object, l.own_object, l.flash_start, l.flash_end, l.start, l.end)

-- the object says how it starts
starts_first : (first : Record) (h : Meaning) (m : Main) → header_reading first.object ≡ Ok h → h.main ≡ Some m
    → restart first ≡ restarted_with first h m
unfolding restart
starts_first first h m is main = ap (restarted_by first) is ∙ ap (restarted_main first h) main

module _ (law : DriversKeep) (first : Record) (at : IsAtFirst first) where
  begins : (r : Record) (h : Meaning) (m : Main) → LiesAs first r → header_reading r.object ≡ Ok h → h.main ≡ Some m
      → IsAsAtFirst first (restarted_with r h m)
  begins r h m l is main =
      let opened = rw (starts_first first h m (ap header_reading (sym l.bytes) ∙ is) main) at at in
      rw (starts_as first r h m l ∙ ap (λ (x : Record). with_counts_of x r) opened) refl

  -- before a turn it has started as often as before, and after it it is as it was opened, if it started once more
  abbrev Before : ℕ → Record → Type 0
  Before n r = LiesAs first r × (r.process.restarts ≡ n)

  abbrev After : ℕ → Record → Type 0
  After n r = r.process.restarts ≢ n → IsAsAtFirst first r

  started : (n : ℕ) (r : Record) → LiesAs first r → r.process.restarts ≡ n → After n (restart r)
  started n r l same = restart_by (After n) r (λ ne. absurd (ne same)) (λ h m is main ne. begins r h m l is main)

  kept : (n : ℕ) → IsKept StaysInPlace (Before n) (After n)
  kept n =
      let k = lies_kept law first in
      record {
        done = λ r h ne. absurd (ne h.1);
        goes = λ r regs state refusal same h. (k.goes r regs state refusal same h.0, h.1);
        serves = λ r o storage pressed s h. (k.serves r o storage pressed s h.0, h.1);
        hands = λ r swap may h. (k.hands r swap may h.0, h.1);
        moves = λ r new may h. (k.moves r new may h.0, h.1);
        bytes = λ r ram inbox as_many takes h. (k.bytes r ram inbox as_many takes h.0, h.1);
        ends = λ r state denial over h ne. absurd (ne h.1);
        again = λ r h. started n r h.0 h.1;
        faults_again = λ r denial h. started n _ (search) h.1;
      }

  step : (v : World) (choice : Choice) (slot : ℕ) (before : Record) → slice_get v.records slot ≡ Some before
      → LiesAs first before → IfSome (slice_get (after v choice).records slot) (After before.process.restarts)
  step v choice slot before is l =
      let n = before.process.restarts in
      of_step v slot (λ ended tolds o. IfSome o (After n))
      (record {
        stays = rw is (λ ne. absurd (ne refl));
        turn = λ r there free.
            rw (← same_there _ before r is there) (after_turn StaysInPlace law.places (Before n) (After n) (kept n)
            v.settings v.clock.time before (λ none ne. absurd (ne refl)) (search, refl) (search, refl));
        answer = λ r there event answers.
            rw (← same_there _ before r is there) (λ ne. absurd (ne (after_answer StaysInPlace law.places (Before n)
            (After n) (kept n) v.settings event before answers (l, refl)).1));
        act = λ r there verb.
            rw (← same_there _ before r is there) (of_operated (λ ended s. After n s) before (λ ne. absurd (ne refl))
            (λ held ne. absurd (ne refl)) (λ lives ne. absurd (ne refl)) (started n before l refl) verb);
      })
      choice

pub restarts_as_opened : DriversKeep → RestartsAsOpened
restarts_as_opened law w choices choice slot first before now is at there later more =
    let v = after_all w choices in
    let l = rw there at (places_stay law w choices slot first is) in
    (rw later at (step law first at v choice slot before there l)) more
