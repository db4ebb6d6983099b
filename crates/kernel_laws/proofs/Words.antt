-- Which random words the steps tell, and which are left: lane by lane, those told and then those left are those that
-- there were. The source draws the next word of the lane that serves, and tells it; by the walk over devices nothing
-- else draws one, and runs follow by induction on the choices.
use Rattle.std.proofs.lemmas.Bool.{cases_Bool}
use Rattle.std.proofs.Common.{inl, inr}
use Rattle.std.proofs.Common.{◌≡◌, ◌≤◌, ℕ, zero, suc, ◌==◌, Bool, true, false, cond, List, [], ◌∷◌, ◌++◌}
use Rattle.std.proofs.Common.{length, slice_get, slice_index_or, slice_set, IfSome, Option, None, Some, refl, sym, ap}
use Rattle.std.proofs.Common.{◌∙◌, arith, eqb-true, eq-eqb}
use Rattle.std.proofs.lemmas.Bool.{false≢true}
use Rattle.std.proofs.lemmas.List.{get_or-set_other}
use Rattle.std.proofs.lemmas.List.{append_assoc, append-nil}
use Rattle.tk_base.specs.declared.process.Choice.{Choice}
use Rattle.tk_base.specs.declared.process.Choice.TheVariants.{Run, Device, Pass}
use Rattle.tk_base.specs.declared.process.Dev.{Dev}
use Rattle.script_text.specs.Settings.{ScriptEvent as Arrival}
use Rattle.driver_model.specs.Answers.{EventsTellSteps}
use Rattle.driver_model.specs.Commands.{BoardRequest, Randoms}
use Rattle.driver_model.specs.Console as console
use Rattle.driver_model.specs.Random as random
use Rattle.kernel_model.specs.Record.{Record}
use Rattle.kernel_model.specs.Turn.{WriteDone, Taken, turned}
use Rattle.kernel_model.specs.Record.{flash_of}
use Rattle.kernel_model.specs.World.{Answer, Devices, Label, Stepped, World, after, carried_out}
use Rattle.kernel_model.specs.Parts.{drawn_event}
use Rattle.kernel_model.specs.World.{device_step_of, done, labels, ran, random_step, routed, stepped}
use Rattle.kernel_model.specs.World.{DeviceAnswer, answer_label, lane_in}
use Rattle.kernel_model.specs.Named.{lane_by}
use Rattle.kernel_model.specs.Parts.{acts_of, alarmed}
use Rattle.kernel_model.specs.World.{only_for, operating, receive_step}
use Rattle.kernel_model.specs.Parts.{served_by}
use Rattle.kernel_model.specs.World.{storing, telling_edge, transmitting, turn_label}
use Rattle.kernel_model.specs.Named.{words_in}
use Rattle.kernel_model.specs.Named.{slots_in}
use Rattle.kernel_model.specs.Laws.{edge_done, edge_labels, one_answered}
use Rattle.kernel_model.proofs.Told.{edge_answer, of_device, told_labels, with_rest}
use Rattle.kernel_model.specs.Choices.{labels_of_all}
use Rattle.kernel_model.specs.Replay.{after_all}
use Rattle.kernel_laws.specs.Words.{WordsAreDrawnInOrder, of_lane, drawn_in, word_told, words_told}
use Rattle.kernel_model.proofs.Places.{of_stepped, routed_rest, same_some}
use Rattle.kernel_laws.proofs.Lanes.{lane_joined, one_silent, served_here, tells_none}
use Rattle.tk_base.specs.declared.process.Dev.TheVariants as dev

-- what a turn asks of the board draws none
routed_words : (slot : ℕ) (acts : List BoardRequest) (d : Devices) → (routed slot acts d).words ≡ d.words
routed_words slot acts d = ap (λ (x : Devices). x.words) (routed_rest slot acts d)

sent_none : (b : Bool) → drawn_in (cond b WriteDone Taken) ≡ []
sent_none true = refl
sent_none false = refl

-- where the word that was drawn is the next one it is told, and the others are left
drawn_is : (words : List ℕ) (drawn : Option ℕ) → IfSome drawn (λ word. slice_get words 0 ≡ Some word)
    → words ≡ drawn_in (drawn_event drawn) ++ random.words_after drawn words
drawn_is words None next = refl
drawn_is [] (Some word) next = cc
drawn_is (first ∷ words) (Some word) next = ap (λ (w : ℕ). w ∷ words) (same_some first word next)

-- what stands at a place of a list once it was put there
put_there : (xs : List (List ℕ)) (i : ℕ) (v : List ℕ) → (length xs ≤ i → v ≡ []) → slice_index_or (slice_set xs i
    v) i [] ≡ v
put_there [] i v beyond = sym (beyond (omega arith))
put_there (x ∷ xs) zero v beyond = refl
put_there (x ∷ xs) (suc i) v beyond = put_there xs i v (λ h. beyond (omega (arith, h)))

-- beyond a list there are no words, and none are left
none_there : (xs : List (List ℕ)) (i : ℕ) → length xs ≤ i → slice_index_or xs i [] ≡ []
none_there [] i h = refl
none_there (x ∷ xs) zero h = absurd (omega (arith, h))
none_there (x ∷ xs) (suc i) h = none_there xs i (omega (arith, h))

none_after : (drawn : Option ℕ) → random.words_after drawn [] ≡ []
none_after None = refl
none_after (Some word) = refl

module _ (tell : EventsTellSteps) (w : World) (lane : ℕ) where
  -- the words that were left in a lane before are those that a step tells there, and then those that are left
  abbrev DrawsInOrder : Stepped → Type 0
  DrawsInOrder s =
      words_in lane w.devices ≡ words_told (of_lane w.pace.window lane s.labels) ++ words_in lane s.after.devices

  -- a step that tells one process no word, and leaves them
  quietly : (label : Label) (d : Devices) → word_told label ≡ [] → d.words ≡ w.devices.words
      → words_in lane w.devices ≡ words_told (of_lane w.pace.window lane (label ∷ [])) ++ words_in lane d
  quietly label d none same =
      sym (ap (λ (words : List ℕ). words ++ words_in lane d) (one_silent word_told w.pace.window lane label none)
      ∙ ap (λ (words : List (List ℕ)). slice_index_or words lane []) same)

  answers_quietly : (slot : ℕ) (r : Record) (a : DeviceAnswer) → drawn_in a.answer.event ≡ []
      → a.devices.words ≡ w.devices.words → DrawsInOrder (one_answered w slot r a)
  answers_quietly slot r a none same = quietly (answer_label slot a.answer) a.devices none same

  -- a word is drawn in the lane that serves, and in no other
  draws : (slot : ℕ) (r : Record) → served_by w dev.Random ≡ Some slot
      → DrawsInOrder (one_answered w slot r (random_step (lane_in w) w.devices slot r))
  draws slot r first =
      let here = served_here w.clock.time w.pace.window slot (slots_in Randoms w.devices.waiting) first in
      let words = words_in (lane_in w) w.devices in
      let drawn = (random.answered (slice_get words 0) r.own).moved in
      let after = random.words_after drawn words in
      let left_here = put_there w.devices.words (lane_in w) after
      (λ h. ap (random.words_after drawn) (none_there w.devices.words (lane_in w) h) ∙ none_after drawn) in
      elim (cases_Bool (lane_by (only_for w.pace.window slot) == lane)) [
        | inl is ↦
            let same : lane ≡ lane_in w = sym (eqb-true (lane_by (only_for w.pace.window slot)) lane is) ∙ here in
            rw (is, same, append-nil (drawn_in (drawn_event drawn)), left_here)
            (drawn_is words drawn (tell.drawn (slice_get words 0) r.own))
        | inr is ↦
            rw is (sym (get_or-set_other w.devices.words (lane_in w) lane after []
            (λ same. false≢true (sym is ∙ eq-eqb (lane_by (only_for w.pace.window slot)) lane (here ∙ sym same)))))
      ]

  edges : (button : ℕ) (pressed : Bool) (rest : List Arrival)
      → DrawsInOrder (edge_done w button pressed (with_rest w.devices rest))
  edges button pressed rest =
      sym (ap (λ (words : List ℕ). words ++ words_in lane w.devices) (tells_none word_told w.pace.window lane
      (edge_labels button pressed w)
      (told_labels (λ label. word_told label ≡ []) (telling_edge button pressed w.records w.devices).told 0 w.records
      (λ slot at r a here there is.
      ap (λ (x : Answer). drawn_in x.event) (edge_answer button pressed (slice_get w.records at) a is)))))

  deed_draws : (device : Dev) → DrawsInOrder (done w (device_step_of w device))
  deed_draws device =
      of_device w DrawsInOrder (record {
        none = refl;
        arrives = λ bytes rest. refl;
        edges = edges;
        nobody = λ rest. refl;
        acts = λ verb rest slot r is. answers_quietly slot r (operating verb (with_rest w.devices rest) slot r) refl
            (routed_words slot (acts_of verb r) (with_rest w.devices rest));
        alarms = λ slot r first is. answers_quietly slot r (alarmed w.settings w.clock.time w.devices) refl refl;
        sends = λ slot r first is. answers_quietly slot r (transmitting (lane_in w) w.clock.time w.devices slot r)
            (sent_none (console.sent (flash_of r) r.own).completed) refl;
        receives = λ slot r first is. answers_quietly slot r (receive_step (lane_in w) w.devices slot r) refl refl;
        draws = λ slot r first is. draws slot r first;
        stores = λ slot r first is. answers_quietly slot r (storing (lane_in w) w.devices slot r) refl refl;
      }) device

  choice_draws : (choice : Choice) → DrawsInOrder (carried_out w choice)
  unfolding carried_out
  choice_draws (Run slot) =
      elim (slice_get w.records slot) as (λ o. DrawsInOrder (ran w slot o)) [
        | None ↦ refl
        | Some r ↦
            let t = turned w.settings w.clock.time r in
            quietly (turn_label slot w.clock.time t.told) (routed slot t.acts w.devices) refl
            (routed_words slot t.acts w.devices)
      ]
  choice_draws (Device device) = deed_draws device
  choice_draws (Pass ticks) = refl

  step_draws : (choice : Choice) → DrawsInOrder (stepped w choice)
  step_draws choice = of_stepped DrawsInOrder w choice refl (λ ready. choice_draws choice)

pub words_are_drawn_in_order : EventsTellSteps → WordsAreDrawnInOrder
words_are_drawn_in_order tell w [] lane = refl
words_are_drawn_in_order tell w (choice ∷ choices) lane =
    let v = after w choice in
    let first = words_told (of_lane w.pace.window lane (labels w choice)) in
    let later = words_told (of_lane v.pace.window lane (labels_of_all v choices)) in
    let left = words_in lane (after_all v choices).devices in
    rw (
      lane_joined word_told w choice choices lane,
      append_assoc first later left,
      ← words_are_drawn_in_order tell v choices lane,
    ) (step_draws tell w lane choice)
