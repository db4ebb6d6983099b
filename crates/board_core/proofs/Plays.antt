-- Choices from outside, by induction on how many were made: the first i were ready in turn, led here, and printed what
-- was written (`PlaysOn`). One more at the end of the list adds its step, labels and prints to each part; from there
-- each exit is a lemma (all made, one that was not ready, the sink failed).
use Rattle.std.proofs.Common.{◌≡◌, ℕ, suc, ◌+◌, ◌<◌, ◌≤◌, Bool, true, false, ◌&&◌, List, [], ◌∷◌, ◌++◌, take, length}
use Rattle.std.proofs.Common.{slice_index_or, Some, refl, sym, ap, subst, ◌∙◌, arith}
use Rattle.std.proofs.Common.{append_assoc, append-nil, length-append}
use Rattle.std.proofs.lemmas.Option.{slice_get-get_or}
use Rattle.std.proofs.KnownBytes.{Appends-trans}
use Rattle.tk_outside.specs.Count.{Rose}
use Rattle.std.proofs.lemmas.Grind.{flat_map-append}
use Rattle.std.proofs.lemmas.List.{take_all, take_more}
use Rattle.tk_base.specs.declared.process.Choice.{Choice}
use Rattle.tk_outside.specs.Sink.{SinkFacts}
use Rattle.tk_outside.specs.Writes.{WroteAll, WrotePart}
use Rattle.tk_outside.specs.Laws.{WritesCompose}
use Rattle.process_record.specs.declared.emit.Emit.{Emit}
use Rattle.kernel_model.specs.World.{World, Label, after, is_ready, labels}
use Rattle.kernel_model.specs.Accounts.{IsAccountedFor}
use Rattle.kernel_model.specs.Run.{printed}
use Rattle.kernel_model.specs.Shown.{shown_by}
use Rattle.kernel_model.proofs.Labels.{shown_by-printed}
use Rattle.kernel_model.specs.Replay.{after_all}
use Rattle.kernel_model.specs.Choices.{Throughout, are_ready, labels_of_all, printed_by_all}
use Rattle.board_core.specs.Plays.{FailedAfter, ChoicesMade, PlayedAll, StoppedAt, playing}

-- a choice more, after others
after-more : (w : World) (cs : List Choice) (c : Choice) → after_all w (cs ++ c ∷ []) ≡ after (after_all w cs) c
after-more w [] c = refl
after-more w (d ∷ cs) c = after-more (after w d) cs c

ready-more : (w : World) (cs : List Choice) (c : Choice) → are_ready w cs ≡ true → is_ready (after_all w cs) c ≡ true
    → are_ready w (cs ++ c ∷ []) ≡ true
ready-more w [] c e r = ap (λ (b : Bool). b && true) r
ready-more w (d ∷ cs) c e r = by_first (is_ready w d) e (λ f. ready-more (after w d) cs c f r)
  where
    by_first : (b : Bool) → (b && are_ready (after w d) cs) ≡ true
        → (are_ready (after w d) cs ≡ true → are_ready (after w d) (cs ++ c ∷ []) ≡ true)
        → (b && are_ready (after w d) (cs ++ c ∷ [])) ≡ true
    by_first true f later = later f
    by_first false f later = f

labels-more : (w : World) (cs : List Choice) (c : Choice)
    → labels_of_all w (cs ++ c ∷ []) ≡ labels_of_all w cs ++ labels (after_all w cs) c
labels-more w [] c = append-nil (labels w c)
labels-more w (d ∷ cs) c =
    ap (λ (ls : List Label). labels w d ++ ls) (labels-more (after w d) cs c)
    ∙ sym (append_assoc (labels w d) (labels_of_all (after w d) cs) (labels (after_all (after w d) cs) c))

printed-more : (w : World) (cs : List Choice) (c : Choice)
    → printed_by_all w (cs ++ c ∷ []) ≡ printed_by_all w cs ++ printed (labels (after_all w cs) c)
printed-more w cs c =
    ap printed (labels-more w cs c) ∙ flat_map-append _ (labels_of_all w cs) (labels (after_all w cs) c)

throughout-more : (w : World) (cs : List Choice) (c : Choice) → Throughout IsAccountedFor w cs
    → IsAccountedFor (after_all w cs) c → Throughout IsAccountedFor w (cs ++ c ∷ [])
throughout-more w [] c all one = (one, tt)
throughout-more w (d ∷ cs) c all one = (all.0, throughout-more (after w d) cs c all.1 one)

-- a test that is not true is false
pub unready_if_refused : (b : Bool) → (b ≡ true → false ≡ true) → b ≡ false
unready_if_refused true e = sym (e refl)
unready_if_refused false e = refl

number : (i : ℕ) → suc i ≡ i + 1
number i = omega arith

-- a count that rose after it did not fall rose over both
rose_later : (a b c : ℕ) → a ≤ b → Rose b c → Rose a c
rose_later a b c kept rose = omega arith

-- i choices of a list were made, and all that they printed was written
pub record PlaysOn {K : Type 0} (tells : K → SinkFacts) (old new : World) (choices : List Choice) (i : ℕ)
    (out now : K) : Type 0 where
  pub made : ChoicesMade old new (take i choices)
  pub wrote : WroteAll tells out now (printed_by_all old (take i choices))

pub begins : {K : Type 0} (tells : K → SinkFacts) (old : World) (choices : List Choice) (out : K) → WritesCompose tells
    → PlaysOn tells old old choices 0 out out
begins tells old choices out law = record {
  made = record { ready = refl; world = refl; accounted = tt };
  wrote = law.wrote_nothing out;
}

module _ {K : Type 0} {tells : K → SinkFacts} {old new : World} {choices : List Choice} {i : ℕ} {out now : K}
    (p : PlaysOn tells old new choices i out now) where
  module _ (c : Choice) (h : i < length choices) (is : slice_index_or choices i c ≡ c) where
    one_longer : take (i + 1) choices ≡ take i choices ++ c ∷ []
    one_longer = take_more choices i c h ∙ ap (λ (x : Choice). take i choices ++ x ∷ []) is

    bytes : (step : Emit) → step ≡ shown_by (labels new c)
        → printed_by_all old (take (i + 1) choices) ≡ printed_by_all old (take i choices) ++ step.printed.items
    bytes step s =
        ap (printed_by_all old) one_longer ∙ printed-more old (take i choices) c
        ∙ ap (λ (w : World). printed_by_all old (take i choices) ++ printed (labels w c)) (sym p.made.world)
        ∙ ap (λ (xs : List ℕ). printed_by_all old (take i choices) ++ xs)
        (sym (ap (λ (x : Emit). x.printed.items) s ∙ shown_by-printed (labels new c)))

    -- one more was made
    made_then : (then : World) → is_ready new c ≡ true → then ≡ after new c → IsAccountedFor new c
        → ChoicesMade old then (take (i + 1) choices)
    made_then then r e one = subst (ChoicesMade old then) (sym one_longer) (record {
      ready = ready-more old (take i choices) c p.made.ready
          (ap (λ (w : World). is_ready w c) (sym p.made.world) ∙ r);
      world = e ∙ ap (λ (w : World). after w c) p.made.world ∙ sym (after-more old (take i choices) c);
      accounted = throughout-more old (take i choices) c p.made.accounted
          (subst (λ (w : World). IsAccountedFor w c) p.made.world one);
    })

    pub plays_on : WritesCompose tells → (then : World) (later : K) (step : Emit) → is_ready new c ≡ true
        → then ≡ after new c → step ≡ shown_by (labels new c) → IsAccountedFor new c
        → WroteAll tells now later step.printed.items → PlaysOn tells old then choices (i + 1) out later
    plays_on law then later step r e s one w = record {
      made = made_then then r e one;
      wrote = subst (λ (text : List ℕ). WroteAll tells out later text) (sym (bytes step s))
          (law.all_then_all p.wrote w);
    }

    -- the sink failed after it
    pub failed : WritesCompose tells → (then : World) (later : K) (step : Emit) → is_ready new c ≡ true
        → then ≡ after new c → step ≡ shown_by (labels new c) → IsAccountedFor new c
        → WrotePart tells now later step.printed.items
        → FailedAfter tells choices (playing old out) (playing then later)
    failed law then later step r e s one w = record {
      before = i;
      within = h;
      made = subst (λ (k : ℕ). ChoicesMade old then (take k choices)) (sym (number i)) (made_then then r e one);
      wrote = record {
        front = printed_by_all old (take i choices) ++ w.front;
        missing = w.missing;
        parts = ap (λ (k : ℕ). printed_by_all old (take k choices)) (number i) ∙ bytes step s
            ∙ ap (λ (xs : List ℕ). printed_by_all old (take i choices) ++ xs) w.parts
            ∙ sym (append_assoc (printed_by_all old (take i choices)) w.front w.missing);
        lacks = w.lacks;
        appended = Appends-trans (tells out).written (tells now).written (tells later).written
            (printed_by_all old (take i choices)) w.front p.wrote.appended w.appended;
        count = omega (arith, p.wrote.count, w.count);
        rose = rose_later (tells out).faults (tells now).faults (tells later).faults p.wrote.count w.rose;
      };
      fewest = omega (arith, length-append (printed_by_all old (take i choices)) w.front);
    }

    -- it was not ready
    pub stopped : is_ready new c ≡ false → StoppedAt tells choices (playing old out) (playing new now) i
    stopped r = record {
      choice = c;
      there = slice_get-get_or choices i c h ∙ ap Some is;
      refused = r;
      made = p.made;
      wrote = p.wrote;
    }

  -- all were made
  pub whole : length choices ≤ i → PlayedAll tells choices (playing old out) (playing new now)
  whole h =
      let all : take i choices ≡ choices = take_all i choices h in
      record {
        made = subst (λ (cs : List Choice). ChoicesMade old new cs) all p.made;
        wrote = subst (λ (cs : List Choice). WroteAll tells out now (printed_by_all old cs)) all p.wrote;
      }
