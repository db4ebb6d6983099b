-- What is told of a run, by what its steps show and by their labels: the lines of a step by what the machine showed are
-- those of its labels, by what a device's step may come to (`ComesTo`). What is told and kept goes by the mode, a case
-- for each; runs are inductions on their steps, and quiet turns have no line.
use Rattle.std.proofs.Common.{◌≡◌, inl, inr, ℕ, zero, suc, ◌==◌, ◌||◌, not, Bool, true, false, cond, List, []}
use Rattle.std.proofs.Common.{◌∷◌, ◌++◌, length, slice_get}
use Rattle.std.proofs.Common.{Option, None, Some, All, refl, sym, ap, ap₂, ◌∙◌, append-nil}
use Rattle.std.specs.List.{flat_map}
use Rattle.std.proofs.lemmas.List.Elements.{All-cons, All-head, All-nil, All-tail, All-weaker}
use Rattle.std.proofs.lemmas.Bool.{false≢true}
use Rattle.tk_base.specs.declared.process.Verb.{Verb}
use Rattle.tk_base.specs.declared.process.Choice.{Choice}
use Rattle.tk_base.specs.declared.process.Choice.TheVariants.{Run, Device, Pass}
use Rattle.process_record.specs.Emit.{nothing}
use Rattle.process_record.specs.declared.emit.Emit.{Emit}
use Rattle.kernel_model.specs.Record.{Record}
use Rattle.kernel_model.specs.World.{Answer, Label, Stepped, World, after}
use Rattle.kernel_model.specs.World.{answer_label, carried_out, labels, ran, telling_edge}
use Rattle.kernel_model.specs.Turn.{Act, Event}
use Rattle.kernel_model.specs.Turn.{is_act, is_turn}
use Rattle.kernel_model.proofs.Labels.{shown_by-printed}
use Rattle.kernel_model.proofs.Told.{edge_answer, told_labels}
use Rattle.kernel_model.specs.Laws.{ComesTo, DevicesAnswerOne, edge_labels}
use Rattle.kernel_model.specs.Run.{next, printed, round}
use Rattle.kernel_model.specs.Parts.{on_choice}
use Rattle.kernel_model.specs.Stretch.{IsQuietTurn, IsStretch}
use Rattle.kernel_model.specs.Shown.{act_shown, shown_by}
use Rattle.board_report.specs.Trace.{act_text, out_text, trace_text}
use Rattle.tock_cli.proofs.Runs.{by_next, of_stepped, printed-round, round-step, steps-step, steps-stop}
use Rattle.tock_cli.proofs.Runs.{steps-zero}
use Rattle.run_text.proofs.Tallies.{counting-tally_of}
use Rattle.run_text.specs.declared.mode.Mode.{Mode}
use Rattle.run_text.specs.declared.mode.Mode.TheVariants.{Boot, Trace, Soak}
use Rattle.tock_cli.specs.declared.teller.RunWriter.{RunWriter}
use Rattle.tock_cli.specs.declared.teller.RunWriter.TheVariants as tellings
use Rattle.run_text.specs.RunText.{label_lines, shown_in, tally_text, trace_lines}
use Rattle.run_text.specs.Parts.{Step, step_lines, step_of, steps, tally_line, tally_of}
use Rattle.tock_cli.specs.RunWriter.{counted_bytes, passed_on, step_text, steps_text, telling_of, told_on, told_text}
use Rattle.tock_cli.specs.RunWriter.{total_text}

-- labels without lines have none together
no_lines : (time : ℕ) (ls : List Label) → All (λ label. label_lines time label ≡ []) ls
    → flat_map (label_lines time) ls ≡ []
no_lines time [] all = refl
no_lines time (label ∷ ls) all =
    let none = λ (x : Label). label_lines time x ≡ [] in
    ap₂ (λ (a b : List ℕ). a ++ b) (All-head none label ls all) (no_lines time ls (All-tail none label ls all))

-- an edge of a button has none
edge_lines : (time : ℕ) (w : World) (button : ℕ) (pressed : Bool)
    → flat_map (label_lines time) (edge_labels button pressed w) ≡ []
edge_lines time w button pressed =
    no_lines time (edge_labels button pressed w)
    (told_labels (λ (label : Label). label_lines time label ≡ [])
    (telling_edge button pressed w.records w.devices).told 0 w.records
    (λ slot at r a here there is. ap (λ (x : Answer). label_lines time (answer_label at x))
    (edge_answer button pressed (slice_get w.records at) a is)))

-- the lines of a step by what it shows are those of its labels
trace_text-carried_out : DevicesAnswerOne → (time : ℕ) (w : World) (c : Choice)
    → trace_text time (shown_by (carried_out w c).labels) ≡ flat_map (label_lines time) (carried_out w c).labels
unfolding trace_text shown_by carried_out
trace_text-carried_out law time w (Run slot) = of_record (slice_get w.records slot)
  where
    of_record : (o : Option Record)
        → trace_text time (shown_by (ran w slot o).labels) ≡ flat_map (label_lines time) (ran w slot o).labels
    of_record None = refl
    of_record (Some r) =
        sym (append-nil (trace_text time (shown_by (ran w slot (Some r)).labels)))
trace_text-carried_out law time w (Device device) = by_case _ (law.each w device)
  where
    of_answer : (slot : ℕ) (a : Answer)
        → trace_text time (shown_by (answer_label slot a ∷ []))
        ≡ flat_map (label_lines time) (answer_label slot a ∷ [])
    of_answer slot a = by_act a.event
      where
        shows : Option (ℕ × Verb) → List ℕ → Emit
        shows act bytes = record nothing { slot = Some slot; act = act; printed = record { items = bytes } }

        -- what is told of what was printed, behind what is told of an act, if there was one
        lines : Option (ℕ × Verb) → List ℕ
        lines act = act_text time act ++ out_text time slot a.printed

        both : (act : Option (ℕ × Verb)) → trace_text time (shows act (a.printed ++ [])) ≡ lines act ++ []
        both act =
            ap (λ (bytes : List ℕ). act_text time act ++ out_text time slot bytes) (append-nil a.printed)
            ∙ sym (append-nil (lines act))

        by_shown : (act : Option (ℕ × Verb)) (turn acts none : Bool) → (length a.printed == 0) ≡ none
            → (acts ≡ false → act ≡ None)
            → trace_text time (cond (turn || (acts || not none)) (shows act (a.printed ++ []))
            nothing) ≡ lines act ++ []
        by_shown act false false true e no_act = rw (no_act refl, e) refl
        by_shown act turn acts none e no_act = both act

        no_acts : (event : Event) → is_act event ≡ false → act_shown slot event ≡ None
        no_acts (Act verb) is = absurd (false≢true (sym is))
        no_acts event is = refl

        by_act : (event : Event)
            → trace_text time (cond (is_turn event || (is_act event || not (length a.printed == 0)))
            (shows (act_shown slot event) (a.printed ++ [])) nothing) ≡ lines (act_shown slot event) ++ []
        by_act event =
            by_shown (act_shown slot event) (is_turn event) (is_act event) (length a.printed == 0) refl (no_acts event)

    by_case : (s : Stepped) → ComesTo w s
        → trace_text time (shown_by s.labels) ≡ flat_map (label_lines time) s.labels
    by_case s (inl none) = rw none refl
    by_case s (inr (inl nobody)) = rw nobody.1 refl
    by_case s (inr (inr (inl one))) = rw one.is (of_answer one.slot one.answer.answer)
    by_case s (inr (inr (inr edge))) =
        rw (edge.is ∙ law.tells_edge w edge.button edge.pressed (record w.devices { arrivals = edge.rest }))
        (ap (trace_text time) (law.shows_nothing w edge.button edge.pressed)
        ∙ sym (edge_lines time w edge.button edge.pressed))
trace_text-carried_out law time w (Pass ticks) = refl

trace_text-shown_by : DevicesAnswerOne → (time : ℕ) (w : World) (c : Choice)
    → trace_text time (shown_by (labels w c)) ≡ flat_map (label_lines time) (labels w c)
unfolding trace_text shown_by
trace_text-shown_by law time w c =
    of_stepped (λ (s : Stepped). trace_text time (shown_by s.labels) ≡ flat_map (label_lines time) s.labels) w c refl
    (trace_text-carried_out law time w c)

-- so what is told of a step by what it shows is what the mode tells of it
pub told_text-step : DevicesAnswerOne → (mode : Mode) (w : World) (c : Choice) (bytes : List ℕ) (telling : RunWriter)
    (step : Emit)
    → telling ≡ telling_of mode w bytes → step ≡ shown_by (labels w c)
    → told_text telling step ≡ step_text mode (step_of w c)
told_text-step law mode w c bytes telling step t s =
    ap (λ (x : RunWriter). told_text x step) t ∙ ap (told_text (telling_of mode w bytes)) s ∙ by_mode mode
  where
    by_mode : (m : Mode) → told_text (telling_of m w bytes) (shown_by (labels w c)) ≡ step_text m (step_of w c)
    by_mode Boot = shown_by-printed (labels w c)
    by_mode Trace = trace_text-shown_by law w.clock.time w c
    by_mode Soak = refl

-- what is kept after a step
pub told_on-step : (mode : Mode) (w then : World) (bytes more : List ℕ) (telling : RunWriter) (step : Emit)
    → telling ≡ telling_of mode w bytes → step.printed.items ≡ more
    → told_on telling then step ≡ telling_of mode then (bytes ++ more)
told_on-step mode w then bytes more telling step t s = ap (λ (x : RunWriter). told_on x then step) t ∙ by_mode mode
  where
    by_mode : (m : Mode) → told_on (telling_of m w bytes) then step ≡ telling_of m then (bytes ++ more)
    by_mode Boot = refl
    by_mode Trace = refl
    by_mode Soak = ap tellings.Soak (counting-tally_of bytes step.printed.items
        ∙ ap (λ (xs : List ℕ). tally_of (bytes ++ xs)) s)

-- what is kept after steps that print nothing
pub passed_on-steps : (mode : Mode) (w then : World) (bytes : List ℕ) (telling kept : RunWriter)
    → telling ≡ telling_of mode w bytes → kept ≡ passed_on telling then
    → (kept ≡ telling_of mode then bytes) × (counted_bytes kept ≡ counted_bytes telling)
passed_on-steps mode w then bytes telling kept t k =
    let is : kept ≡ passed_on (telling_of mode w bytes) then = k ∙ ap (λ (x : RunWriter). passed_on x then) t in
    (is ∙ by_mode mode, ap counted_bytes is ∙ same_count mode ∙ sym (ap counted_bytes t))
  where
    by_mode : (m : Mode) → passed_on (telling_of m w bytes) then ≡ telling_of m then bytes
    by_mode Boot = refl
    by_mode m = refl

    same_count : (m : Mode)
        → counted_bytes (passed_on (telling_of m w bytes) then) ≡ counted_bytes (telling_of m w bytes)
    same_count Boot = refl
    same_count m = refl

silent : (ss : List Step) → steps_text Soak ss ≡ []
silent [] = refl
silent (step ∷ ss) = silent ss

-- the lines of the steps of a run are its trace
pub traced : (n : ℕ) (w : World) → flat_map step_lines (steps n w) ≡ trace_lines n w
unfolding steps trace_lines
traced zero w = refl
traced (suc n) w = by_choice (next w) (λ c. traced n (after w c))
  where
    by_choice : (o : Option Choice)
        → ((c : Choice) → flat_map step_lines (steps n (after w c)) ≡ trace_lines n (after w c))
        → flat_map step_lines (on_choice [] (λ choice. step_of w choice ∷ steps n (after w choice)) o)
        ≡ on_choice []
        (λ choice. flat_map (label_lines w.clock.time) (labels w choice) ++ trace_lines n (after w choice)) o
    by_choice None later = refl
    by_choice (Some c) later = rw (later c) refl

-- the text of a run: what is told of its steps, and after the last one
pub text_in : (mode : Mode) (n : ℕ) (w : World) (end : List ℕ)
    → steps_text mode (steps n w) ++ (total_text (telling_of mode (round n w).world (printed (round n w).labels))
    ++ end) ≡ shown_in mode n w ++ end
unfolding tally_line tally_text
text_in Boot n w end = ap (λ (t : List ℕ). t ++ end) (sym (printed-round n w))
text_in Trace n w end = ap (λ (t : List ℕ). t ++ end) (traced n w)
text_in Soak n w end =
    ap (λ (t : List ℕ). t ++ (total_text (telling_of Soak (round n w).world (printed (round n w).labels)) ++ end))
    (silent (steps n w))

-- a turn shows no act of an operator
turn_shows_no_act : (slot : ℕ) (event : Event) → is_turn event ≡ true → act_shown slot event ≡ None
turn_shows_no_act slot (Act verb) is = absurd (false≢true is)
turn_shows_no_act slot event is = refl

-- quiet turns have no lines
quiet_lines : (time : ℕ) (ls : List Label) → All IsQuietTurn ls → flat_map (label_lines time) ls ≡ []
quiet_lines time ls all =
    no_lines time ls (All-weaker IsQuietTurn (λ label. label_lines time label ≡ []) (λ label quiet.
    rw (quiet.1, turn_shows_no_act label.slot label.event quiet.0, quiet.2, quiet.4) refl) ls all)

both_parts : {X : Type 0} (P : X → Type 0) (xs ys : List X) → All P (xs ++ ys) → All P xs × All P ys
both_parts P [] ys all = (All-nil P, all)
both_parts P (x ∷ xs) ys all =
    let rest = both_parts P xs ys (All-tail P x (xs ++ ys) all) in
    (All-cons P x xs (All-head P x (xs ++ ys) all) rest.0, rest.1)

quiet_steps : (k : ℕ) (w : World) → All IsQuietTurn (round k w).labels → flat_map step_lines (steps k w) ≡ []
quiet_steps zero w all = rw (steps-zero w) refl
quiet_steps (suc k) w all =
    by_next (next w) (λ e. rw (steps-stop (suc k) w e) refl) (λ c e.
    let parts = both_parts IsQuietTurn (labels w c) (round k (after w c)).labels (rw (round-step k w c e) at all) in
    rw (steps-step k w c e, quiet_lines w.clock.time (labels w c) parts.0, quiet_steps k (after w c) parts.1) refl)

-- so nothing is told of a quiet stretch
pub nothing_told : (mode : Mode) (k : ℕ) (w v : World) → IsStretch k w v → steps_text mode (steps k w) ≡ []
nothing_told Boot k w v s = sym (printed-round k w) ∙ s.prints
nothing_told Trace k w v s = quiet_steps k w s.quiet
nothing_told Soak k w v s = silent (steps k w)
