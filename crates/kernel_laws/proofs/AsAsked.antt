-- That each request that waits after a turn waited before it, or is that of the accepted command that the turn tells.
-- What is kept for a queue is left, set by that command, or gone as a life ended (`request_becomes`); and a process
-- lives after its turn as before it, or none of its requests waits (`lives_or_waits_not`).
use Rattle.std.proofs.Common.{◌≡◌, ◌⊎◌, inl, inr, ℕ, Bool, true, false, cond, Option, None, Some, IfSome, refl, ap}
use Rattle.std.specs.Prelude.{IsSomeAnd}
use Rattle.process_model.specs.Own.{Own}
use Rattle.process_record.specs.Parts.{after_fault}
use Rattle.process_record.specs.declared.emit.CallMade.{CallMade}
use Rattle.driver_model.specs.Commands.{QueueName}
use Rattle.driver_model.specs.Keeping.{DriversKeep}
use Rattle.driver_model.specs.Lines.{RequestOf}
use Rattle.kernel_model.specs.Record.{Record, with_effect}
use Rattle.kernel_model.specs.declared.settings.Settings.{Settings}
use Rattle.kernel_model.specs.Parts.{with_process}
use Rattle.kernel_model.specs.Turn.{surroundings, turn_counted, turned}
use Rattle.kernel_model.proofs.Calling.{of_commanded, of_served}
use Rattle.kernel_model.proofs.Turning.{of_denial, of_each_end}
use Rattle.kernel_model.proofs.Yields.{kept_by_yield}
use Rattle.kernel_laws.specs.Arming.{SetsBy}
use Rattle.kernel_laws.specs.Asking.{IsAskedBy, IsOfCommand, RequestsAreAsAsked, RequestsAreOfCommands}
use Rattle.kernel_laws.specs.Asking.{RequestsGoOn}
use Rattle.kernel_laws.specs.Withdrawing.{SetsRequest}
use Rattle.kernel_laws.proofs.Asking.{asks, none_waits, of_restart, requests_go_on, waits, waits_same}
use Rattle.kernel_laws.proofs.Between.{of_each_answer, of_each_turn}
use Rattle.kernel_laws.proofs.Withdrawing.{request_becomes}

module _ (queue : QueueName) (own : Own) where
  -- a process that lives as this one does, or of which no request waits
  abbrev LivesOrWaitsNot : Own → Type 0
  LivesOrWaitsNot o = (o.lives ≡ own.lives) ⊎ (waits queue o ≡ None)

  -- what waits, by what is kept
  abbrev Follows : Own → Option CallMade → Type 0
  Follows o call = IfSome (waits queue o) (IsOfCommand queue (waits queue own) call)

  follows_kept : (o : Own) (call : Option CallMade) → asks queue o ≡ asks queue own → LivesOrWaitsNot o
      → Follows o call
  follows_kept o call same (inr none) = rw none tt
  follows_kept o call same (inl lives) = rw (waits_same queue own o same lives) (itself (waits queue own))
    where
      itself : (w : Option (RequestOf queue)) → IfSome w (IsOfCommand queue w call)
      itself None = tt
      itself (Some request) = inl refl

  follows_set : (now : ℕ) (o : Own) (call : Option CallMade)
      → IsSomeAnd call (SetsBy (SetsRequest queue) now (asks queue own) (asks queue o)) → Follows o call
  follows_set now o None sets = absurd sets
  follows_set now o (Some made) sets =
      elim sets.sets [
        | inl new ↦ rw (none_waits queue own new.0) (by_life o.lives (asks queue o) new.1)
        | inr gone ↦ rw (none_waits queue o gone.1.1) tt
      ]
    where
      by_life : (b : Bool) (later : Option (RequestOf queue))
          → IsSomeAnd later (λ request. IsAskedBy queue request made.args)
          → IfSome (cond b later None) (IsOfCommand queue None (Some made))
      by_life true (Some request) asked =
          inr (refl, record { class = sets.class; accepted = sets.accepted; asks = asked })
      by_life b None asked = absurd asked
      by_life false later asked = tt

-- a process lives after its turn as before it, or none of its requests waits
lives_or_waits_not : DriversKeep → (queue : QueueName) (settings : Settings) (time : ℕ) (r : Record)
    → LivesOrWaitsNot queue r.own (turned settings time r).after.own
lives_or_waits_not keep queue settings time r =
    of_each_end settings time r (λ t. LivesOrWaitsNot queue r.own t.after.own) (record {
      nothing = λ none. inl refl;
      went = λ t is. inl refl;
      faults = λ t denial is runs.
          let s = with_effect (turn_counted r) t in
          of_denial (λ x. LivesOrWaitsNot queue r.own x.own) settings s denial (inr refl)
          (of_restart (LivesOrWaitsNot queue r.own) (with_process s (after_fault s.process denial)) (inl refl)
          (λ brk. inr refl));
      makes = λ t form is calls runs made.
          let s = with_effect (turn_counted r) t in
          let around = surroundings settings time s in
          of_served (λ x. LivesOrWaitsNot queue r.own x.after.own) around s settings.strict form (record {
            refused = λ rule. inl refl;
            same = λ reply. inl refl;
            moved = λ new reply may. inl refl;
            swapped = λ swap reply may. inl refl;
            yields = λ number a b same. inl (kept_by_yield s number a b).same.lives;
            commands = λ driver number x y taker same there.
                let places = keep.places.command driver taker there around number x y s.own in
                let lives = ap (λ (o : Own). o.lives) places in
                of_commanded (λ x. LivesOrWaitsNot queue r.own x.after.own) s (taker around number x y s.own)
                (λ reply answers. inl lives) (λ rule answers. inl lives);
            ends = λ kind code same. inr refl;
            again = λ kind code same. of_restart (LivesOrWaitsNot queue r.own) s (inl refl) (λ brk. inr refl);
          });
      delivers = λ next is yielded. inl refl;
    })

pub requests_are_of_commands : DriversKeep → (settings : Settings) (time : ℕ) (r : Record)
    → let t = turned settings time r in RequestsAreOfCommands r t.after t.told
requests_are_of_commands keep settings time r =
    let t = turned settings time r in
    let now = (surroundings settings time r).now in
    record {
      each = λ queue.
          elim (request_becomes queue settings time r) [
            | inl same ↦
                follows_kept queue r.own t.after.own t.told.call same (lives_or_waits_not keep queue settings time r)
            | inr (inl sets) ↦ follows_set queue r.own now t.after.own t.told.call sets
            | inr (inr anew) ↦ rw (none_waits queue t.after.own anew.1) tt
          ];
    }

pub requests_are_as_asked : DriversKeep → RequestsAreAsAsked
requests_are_as_asked keep = record {
  turns = of_each_turn RequestsAreOfCommands (requests_are_of_commands keep);
  answers = of_each_answer (λ event. RequestsGoOn) (requests_go_on keep);
}
