-- Commands of lines that are answered one after another. The loop keeps the lines given so far and their answers
-- written (`Converses`), and the worlds that they lead to are a fold over them; a line more adds its command at the
-- end. Where the sink fails, or memory is wanting, a front of the whole text was written.
use Rattle.tock_look.proofs.Answering.{refused_after}
use Rattle.std.proofs.Common.{◌≡◌, ℕ, List, [], ◌∷◌, ◌++◌, map, Option, None, Some, inl}
use Rattle.std.proofs.Common.{refl, sym, ap, ◌∙◌, append_assoc, append-nil}
use Rattle.tk_outside.specs.Sink.{SinkFacts}
use Rattle.tk_outside.specs.Writes.{WroteAll, WrotePart}
use Rattle.tk_outside.specs.Laws.{WritesCompose}
use Rattle.kernel_model.specs.World.{World}
use Rattle.tool_words.specs.declared.refusal.Refusal.TheVariants.{Memory}
use Rattle.tool_tasks.specs.declared.prepare.RunFiles.{RunFiles}
use Rattle.tool_tasks.specs.RunFiles.{opening_of_files}
use Rattle.tool_answers.specs.declared.outcome.ServeOutcome.{ServeOutcome}
use Rattle.tool_answers.specs.declared.outcome.ServeOutcome.TheVariants.{Done, SinkFailed}
use Rattle.tool_answers.specs.Parts.{RefusalIs}
use Rattle.tool_answers.specs.Served.{SinkAccount, sink_account}
use Rattle.tock_look.specs.declared.asks.Ask.{Ask}
use Rattle.tock_look.specs.Answers.{AreAfter, Worlds, answer_text, answers_from, answers_text, opened, worlds_after}
use Rattle.tock_look.specs.Asks.{line_ask}
use Rattle.tock_look.specs.Lines.{Came, GivesLine}
use Rattle.tock_look.specs.Looks.{AnswersLines}

-- the worlds after commands
abbrev after_asks : World → Worlds → List Ask → Worlds
after_asks opening w [] = w
after_asks opening w (ask ∷ asks) = after_asks opening (worlds_after opening w ask) asks

-- with one command more
answers-more : (opening : World) (w : Worlds) (asks : List Ask) (ask : Ask)
    → answers_from opening w (asks ++ ask ∷ [])
    ≡ answers_from opening w asks ++ answer_text (after_asks opening w asks) ask
answers-more opening w [] ask = append-nil (answer_text w ask)
answers-more opening w (a ∷ asks) ask = rw (answers-more opening (worlds_after opening w a) asks ask, append_assoc)

asks-more : (opening : World) (w : Worlds) (asks : List Ask) (ask : Ask)
    → after_asks opening w (asks ++ ask ∷ []) ≡ worlds_after opening (after_asks opening w asks) ask
asks-more opening w [] ask = refl
asks-more opening w (a ∷ asks) ask = asks-more opening (worlds_after opening w a) asks ask

-- the commands of lines, with one line more
commands : List (List ℕ) → List Ask
commands lines = map line_ask lines

commands-more : (lines : List (List ℕ)) (line : List ℕ)
    → commands (lines ++ line ∷ []) ≡ commands lines ++ line_ask line ∷ []
unfolding commands
commands-more [] line = refl
commands-more (l ∷ lines) line = ap (λ (asks : List Ask). line_ask l ∷ asks) (commands-more lines line)

-- lines that came, and then more of them
came-more : (a b c : Option (List (List ℕ))) (given more : List (List ℕ)) → Came a b given → Came b c more
    → Came a c (given ++ more)
came-more None b c given more h k = tt
came-more (Some ls) None c given more h k = absurd h
came-more (Some ls) (Some ms) None given more h k = absurd k
came-more (Some ls) (Some ms) (Some ns) given more h k = rw (h, k, append_assoc)

-- who was refused is not done
not_done : {P : Type 0} (sent : SinkAccount) (outcome : ServeOutcome) → RefusalIs sent Memory outcome → outcome ≡ Done
    → P
not_done sent Done f e = absurd f
not_done sent _ f e = absurd (cc)

-- lines were given, and their commands answered
pub record Converses {K : Type 0} (tells : K → SinkFacts) (old now : K) (opening : World) (here : Worlds)
    (before left : Option (List (List ℕ))) : Type 0 where
  pub given : List (List ℕ)
  pub came : Came before left given
  pub wrote : WroteAll tells old now (answers_text opening (map line_ask given))
  pub there : here ≡ after_asks opening (opened opening) (map line_ask given)

pub begins : {K : Type 0} {tells : K → SinkFacts} → WritesCompose tells → (a : K) (w : World) (kept : List World)
    (lines : Option (List (List ℕ))) → kept ≡ []
    → Converses tells a a w (record { now = w; kept = kept }) lines lines
begins law a w kept lines none = record {
  given = [];
  came = none_came lines;
  wrote = law.wrote_nothing a;
  there = rw none;
}
  where
    none_came : (o : Option (List (List ℕ))) → Came o o []
    none_came None = tt
    none_came (Some ls) = refl

module _ {K : Type 0} {tells : K → SinkFacts} {old now : K} {opening : World} {here : Worlds}
    {before left : Option (List (List ℕ))} (r : Converses tells old now opening here before left)
    (law : WritesCompose tells) where
  -- no line is left
  pub ended : (rest : Option (List (List ℕ))) (o : Option (List ℕ)) → o ≡ None → GivesLine left rest o
      → AnswersLines (record { before = before; after = rest }) (sink_account tells old now) opening Done
  ended rest (Some line) e g = absurd (cc)
  ended rest None e g = record {
    given = r.given;
    came = rw (append-nil r.given) at (came-more before left rest r.given [] r.came g.0);
    all = λ done. g.1;
    answers = r.wrote;
  }

  -- there were more lines than can be counted
  pub too_many : (last : K) (outcome : ServeOutcome) → RefusalIs (sink_account tells now last) Memory outcome
      → AnswersLines (record { before = before; after = left }) (sink_account tells old last) opening outcome
  too_many last outcome f = record {
    given = r.given;
    came = r.came;
    all = not_done (sink_account tells now last) outcome f;
    answers = refused_after law text [] text (sym (append-nil text)) r.wrote now last (law.wrote_nothing now) outcome f;
  }
    where
      text : List ℕ
      text = answers_text opening (map line_ask r.given)

  module _ (rest : Option (List (List ℕ))) (line : List ℕ) (g : Came left rest (line ∷ [])) where
    came : Came before rest (r.given ++ line ∷ [])
    came = came-more before left rest r.given (line ∷ []) r.came g

    text : answers_text opening (map line_ask (r.given ++ line ∷ []))
        ≡ answers_text opening (map line_ask r.given) ++ answer_text here (line_ask line)
    unfolding commands
    text = rw (commands-more r.given line, answers-more opening (opened opening) (commands r.given) (line_ask line))
        (ap (λ (w : Worlds). answers_text opening (map line_ask r.given) ++ answer_text w (line_ask line))
        (sym r.there))

    -- one answer more
    pub more : (files : RunFiles) (later : K) (new : Worlds)
        → opening_of_files files.flash.items files.script.items ≡ Some opening
        → WroteAll tells now later (answer_text here (line_ask line)) → AreAfter files here (line_ask line) new
        → Converses tells old later opening new before rest
    unfolding commands
    more files later new o w a = record {
      given = r.given ++ line ∷ [];
      came = came;
      wrote = rw text (law.all_then_all r.wrote w);
      there = a opening o ∙ ap (λ (v : Worlds). worlds_after opening v (line_ask line)) r.there
          ∙ rw (commands-more r.given line, asks-more opening (opened opening) (commands r.given) (line_ask line));
    }

    -- the sink failed in an answer
    pub part : (later : K) → WrotePart tells now later (answer_text here (line_ask line))
        → AnswersLines (record { before = before; after = rest }) (sink_account tells old later) opening SinkFailed
    part later w = record {
      given = r.given ++ line ∷ [];
      came = came;
      all = λ done. absurd (cc);
      answers = inl (rw text (law.all_then_part r.wrote w));
    }

    -- there was no memory for an answer
    pub refused : (later last : K) (outcome : ServeOutcome) → WroteAll tells now later []
        → RefusalIs (sink_account tells later last) Memory outcome
        → AnswersLines (record { before = before; after = rest }) (sink_account tells old last) opening outcome
    refused later last outcome w f = record {
      given = r.given ++ line ∷ [];
      came = came;
      all = not_done (sink_account tells later last) outcome f;
      answers = refused_after law _ (answer_text here (line_ask line)) _ text r.wrote later last w outcome f;
    }
