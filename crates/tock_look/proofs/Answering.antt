-- Commands that are answered one after another.
use Rattle.std.proofs.Common.{◌≡◌, ℕ, suc, ◌+◌, ◌<◌, List, [], ◌++◌, length, drop, get_or, Some, inr}
use Rattle.std.proofs.Common.{sym, ap, ◌∙◌, append_assoc, append-nil, drop-cons, add-one}
use Rattle.tk_outside.specs.Sink.{SinkFacts}
use Rattle.tk_outside.specs.Writes.{WroteAll, WrotePart}
use Rattle.tk_outside.specs.Laws.{WritesCompose}
use Rattle.kernel_model.specs.World.{World}
use Rattle.tool_words.specs.declared.refusal.Refusal.TheVariants.{Memory}
use Rattle.tool_tasks.specs.declared.prepare.RunFiles.{RunFiles}
use Rattle.tool_tasks.specs.RunFiles.{opening_of_files}
use Rattle.tool_answers.specs.declared.outcome.ServeOutcome.{ServeOutcome}
use Rattle.tool_answers.specs.declared.outcome.ServeOutcome.TheVariants.{Done, Refused, SinkFailed}
use Rattle.tool_answers.specs.Parts.{RefusalIs}
use Rattle.tool_answers.specs.Served.{sink_account}
use Rattle.tock_look.specs.declared.asks.Ask.{Ask}
use Rattle.tock_look.specs.Answers.{AreAfter, Worlds, answer_text, answers_from, answers_text, worlds_after}
use Rattle.tock_look.specs.Looks.{AnswersAll}

-- there was no memory for more than a front of a text
pub refused_after : {K : Type 0} {tells : K → SinkFacts} {old now : K} → WritesCompose tells
    → (front rest text : List ℕ) → text ≡ front ++ rest → WroteAll tells old now front → (later last : K)
    → WroteAll tells now later [] → (outcome : ServeOutcome) → RefusalIs (sink_account tells later last) Memory outcome
    → AnswersAll (sink_account tells old last) text outcome
refused_after law front rest text whole wrote later last w Done f = absurd f
refused_after law front rest text whole wrote later last w (Refused refusal) f = (
  f.0,
  (
    front,
    record { rest = rest; whole = whole },
    law.all_then_all (rw (append-nil front) at (law.all_then_all wrote w)) f.1,
  ),
)
refused_after law front rest text whole wrote later last w SinkFailed f =
    inr (
      front,
      record { rest = rest; whole = whole },
      law.all_then_part (rw (append-nil front) at (law.all_then_all wrote w)) f,
    )

-- what was written are the answers to the commands done, and those to all are these and those to what is left
pub record AnswersSoFar {K : Type 0} (tells : K → SinkFacts) (old now : K) (opening : World) (here : Worlds)
    (asks left : List Ask)
    : Type 0 where
  pub done : List ℕ
  pub wrote : WroteAll tells old now done
  pub whole : answers_text opening asks ≡ done ++ answers_from opening here left

module _ {K : Type 0} {tells : K → SinkFacts} where
  pub begins : WritesCompose tells → (a : K) (w : World) (kept : List World) (asks : List Ask) → kept ≡ []
      → AnswersSoFar tells a a w (record { now = w; kept = kept }) asks asks
  begins law a w kept asks none = record {
    done = [];
    wrote = law.wrote_nothing a;
    whole = ap (λ (ks : List World). answers_from w (record { now = w; kept = ks }) asks) (sym none);
  }

  module _ {old now : K} {opening : World} {here : Worlds} {asks : List Ask} {i : ℕ}
      (r : AnswersSoFar tells old now opening here asks (drop i asks)) (law : WritesCompose tells) where
    module _ (ask : Ask) (h : i < length asks) (a : ask ≡ get_or asks i ask) where
      around : answers_text opening asks
          ≡ r.done ++ (answer_text here ask ++ answers_from opening (worlds_after opening here ask) (drop (suc i) asks))
      around = r.whole ∙ ap (λ (xs : List Ask). r.done ++ answers_from opening here xs) (drop-cons asks i ask h)
          ∙ ap (λ (x : Ask). r.done
          ++ (answer_text here x ++ answers_from opening (worlds_after opening here x) (drop (suc i) asks))) (sym a)

      -- one answer more
      pub more : (files : RunFiles) (later : K) (new : Worlds)
          → opening_of_files files.flash.items files.script.items ≡ Some opening
          → WroteAll tells now later (answer_text here ask) → AreAfter files here ask new
          → AnswersSoFar tells old later opening new asks (drop (i + 1) asks)
      more files later new o w e = record {
        done = r.done ++ answer_text here ask;
        wrote = law.all_then_all r.wrote w;
        whole = rw (e opening o, add-one i, append_assoc) around;
      }

      -- the sink failed in an answer
      pub part : (later : K) → WrotePart tells now later (answer_text here ask)
          → WrotePart tells old later (answers_text opening asks)
      part later w =
          rw around (law.all_then_part r.wrote (law.part_of_more
          (answers_from opening (worlds_after opening here ask) (drop (suc i) asks)) w))

  -- there was no memory for an answer
  module _ {old now : K} {opening : World} {here : Worlds} {asks left : List Ask}
      (r : AnswersSoFar tells old now opening here asks left) (law : WritesCompose tells) where
    pub refused : (later last : K) (outcome : ServeOutcome) → WroteAll tells now later []
        → RefusalIs (sink_account tells later last) Memory outcome
        → AnswersAll (sink_account tells old last) (answers_text opening asks) outcome
    refused later last outcome w f =
        refused_after law r.done (answers_from opening here left) (answers_text opening asks) r.whole r.wrote later last
        w outcome f
