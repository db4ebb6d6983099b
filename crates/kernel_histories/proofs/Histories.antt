-- Over any choices a process holds the pairs that its turns last handed, and a swap gives them back.
use Rattle.std.proofs.Common.{◌≡◌, ℕ, cond, List, [], ◌∷◌, ◌++◌, slice_get, Option, None, Some}
use Rattle.std.proofs.Common.{IfSome, ap, ◌∙◌}
use Rattle.std.specs.Prelude.{reverse}
use Rattle.tk_base.specs.declared.process.Choice.{Choice}
use Rattle.tk_base.specs.declared.process.Choice.TheVariants.{Run}
use Rattle.tk_base.specs.declared.process.Verb.{Verb}
use Rattle.process_record.specs.Operator.{ends_by}
use Rattle.process_model.specs.Pairs.{HandsTheSame, OnlyHandingChangesPairs}
use Rattle.process_record.specs.declared.emit.CallMade.{CallMade}
use Rattle.kernel_model.specs.Record.{Record}
use Rattle.kernel_model.specs.declared.settings.Settings.{Settings}
use Rattle.kernel_model.specs.Calls.{restart}
use Rattle.kernel_model.specs.Laws.{CanStartAgain}
use Rattle.kernel_model.specs.Turn.{Event, TurnTrace, apply, operated, turned}
use Rattle.kernel_model.specs.World.{Label, Stepped, World, after, carried_out, labels, ran, turn_label}
use Rattle.kernel_model.specs.Replay.{after_all}
use Rattle.kernel_model.specs.Histories.{HandedNothing, PairKey, SwapsGiveBackTheLast, handed_by, last_pair, swap_reply}
use Rattle.kernel_model.specs.Histories.{told_after, turns_since}
use Rattle.kernel_model.proofs.Places.{of_stepped}
use Rattle.kernel_model.proofs.Restarts.{restart_forgets}
use Rattle.kernel_model.proofs.Steps.{IsAnswer, answer_changes, of_answer, of_operated, of_step}
use Rattle.kernel_histories.proofs.Deliveries.{Promise}
use Rattle.std.proofs.Common.{false, inl, inr, refl}
use Rattle.kernel_histories.proofs.Deliveries.{IsGood}
use Rattle.kernel_histories.proofs.Schedulings.{GoodIn, begins_good, good_after_all, step_follows}
use Rattle.kernel_histories.proofs.Swaps.{hands_turn, held_by, is_over, lives_or_idle}

-- what is known of a process by what its turns told, the latest first, as long as it may have a turn: it holds the
-- pairs that they say it last handed
abbrev Remembers : List TurnTrace → Record → Type 0
Remembers past r = is_over r.process.state ≡ false → (key : PairKey) → held_by key r.own ≡ last_pair key past

-- what is known of the process in a slot, if there is one
abbrev Known : List TurnTrace → Option Record → Type 0
Known past o = IfSome o (Remembers past)

-- what turns told, once some more told something
abbrev with_more : List TurnTrace → List TurnTrace → List TurnTrace
with_more more past = reverse more ++ past

module _ (promise : Promise) where
  abbrev law : OnlyHandingChangesPairs
  law = promise.pairs

  turn_known : (past : List TurnTrace) (settings : Settings) (time : ℕ) (r : Record) → IsGood r → Remembers past r
      → let t = turned settings time r in Remembers (t.told ∷ past) t.after
  turn_known past settings time r good remembers goes_on key =
      let hands = hands_turn law promise.leave settings time r good.sound.shape good.can in
      elim (lives_or_idle settings time r) [
        | inl lives ↦ hands.pairs (λ ends. goes_on) key ∙ rw (remembers lives key) refl
        | inr idle ↦ rw idle (remembers (rw idle at goes_on) key)
      ]

  answer_known : (past : List TurnTrace) (settings : Settings) (event : Event) (r : Record) → IsAnswer event
      → Remembers past r → Remembers past (apply settings event r)
  answer_known past settings event r is remembers goes_on key =
      law.held r.own _ (of_answer HandsTheSame promise.leave settings event r is) key.kind key.driver key.number
      ∙ remembers (rw (answer_changes settings event r is) at goes_on) key

  -- an operator's act leaves the pairs, or ends the life in which they were handed
  act_known : (past : List TurnTrace) (verb : Verb) (r : Record) → CanStartAgain r → Remembers past r
      → Remembers (cond (ends_by verb r.process) [] past) (operated verb r)
  act_known past verb r can remembers =
      of_operated (λ ended s. Remembers (cond ended [] past) s) r remembers (λ held. remembers)
      (λ lives goes_on. absurd (cc))
      (λ goes_on key. (law.none (restart r).own (restart_forgets r can)).none key.kind key.driver key.number) verb

  step_known : (w : World) (choice : Choice) (slot : ℕ) (past : List TurnTrace)
      → GoodIn slot w → Known past (slice_get w.records slot)
      → Known (told_after slot w choice past) (slice_get (after w choice).records slot)
  step_known w choice slot past good known =
      of_step w slot (λ ended tolds o. Known (cond ended [] (with_more tolds past)) o)
      (record {
        stays = known;
        turn = λ r is free. turn_known past w.settings w.clock.time r (rw is at good) (rw is at known);
        answer = λ r is event answers. answer_known past w.settings event r answers (rw is at known);
        act = λ r is verb. let g : IsGood r = rw is at good in act_known past verb r g.can (rw is at known);
      })
      choice

  all_known : (w : World) (choices : List Choice) (slot : ℕ) (past : List TurnTrace)
      → GoodIn slot w → Known past (slice_get w.records slot)
      → Known (turns_since slot w choices past) (slice_get (after_all w choices).records slot)
  all_known w [] slot past good known = known
  all_known w (choice ∷ choices) slot past good known =
      all_known (after w choice) choices slot (told_after slot w choice past)
      (step_follows promise slot w choice good).good (step_known w choice slot past good known)

  known_first : (o : Option Record) → IfSome o HandedNothing → Known [] o
  known_first None nothing = tt
  known_first (Some r) nothing = λ goes_on key. (law.none r.own nothing.grants).none key.kind key.driver key.number

  -- a step that tells a turn was made
  turn_made : (w : World) (slot time : ℕ) (told : TurnTrace) → labels w (Run slot) ≡ turn_label slot time told ∷ []
      → (ran w slot (slice_get w.records slot)).labels ≡ turn_label slot time told ∷ []
  unfolding carried_out
  turn_made w slot time told =
      let tells = turn_label slot time told ∷ [] in
      of_stepped (λ (s : Stepped). s.labels ≡ tells → (ran w slot (slice_get w.records slot)).labels ≡ tells) w
      (Run slot) (λ e. absurd (cc)) (λ ready e. e)

  -- a turn that a step tells is the one that the process has
  gives_back : (w : World) (slot time : ℕ) (past : List TurnTrace) (told : TurnTrace) (o : Option Record)
      → IfSome o IsGood → Known past o → (ran w slot o).labels ≡ turn_label slot time told ∷ []
      → (made : CallMade) (key : PairKey) (pair : ℕ × ℕ) → told.call ≡ Some made → handed_by key made ≡ Some pair
      → made.reply ≡ Some (swap_reply (last_pair key past) pair)
  gives_back w slot time past told None good known is made key pair call handed = absurd (cc)
  gives_back w slot time past told (Some r) good known is made key pair call handed =
      let t = turned w.settings w.clock.time r in
      let one : turn_label slot w.clock.time t.told ≡ turn_label slot time told = cc in
      let same = ap (λ (label : Label). label.trace.call) one ∙ call in
      let hands = hands_turn law promise.leave w.settings w.clock.time r good.sound.shape good.can in
      elim (lives_or_idle w.settings w.clock.time r) [
        | inl lives ↦ hands.reply made key pair same handed ∙ rw (known lives key) refl
        | inr idle ↦ let none = rw idle at same in absurd (cc)
      ]

  pub swaps_give_back_the_last : SwapsGiveBackTheLast
  swaps_give_back_the_last w slot nothing choices time told made key pair is call handed =
      let v = after_all w choices in
      let good = begins_good promise (slice_get w.records slot) nothing in
      gives_back v slot time (turns_since slot w choices []) told (slice_get v.records slot)
      (good_after_all promise slot choices w good)
      (all_known w choices slot [] good (known_first (slice_get w.records slot) nothing))
      (turn_made v slot time told is) made key pair call handed
