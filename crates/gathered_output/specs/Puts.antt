-- What is put behind what is gathered for a sink. This is this tool's own.
use Rattle.std.specs.Prelude.{◌≡◌, ℕ, List, ◌++◌, Result, MatchResult}
use Rattle.tk_outside.specs.Sink.{SinkFacts}
use Rattle.tk_outside.specs.Writes.{WroteAll, WrotePart}

-- A text was put behind what was gathered: what the sink was given, and then what is gathered now, is what was gathered
-- before, and then the text.
pub record PutBehind {K : Type 0} (tells : K → SinkFacts) (old new : K) (before after text : List ℕ) : Type 0 where
  pub given : List ℕ
  pub wrote : WroteAll tells old new given
  pub whole : given ++ after ≡ before ++ text

-- A call puts a text behind what is gathered: where it fails, the sink was given only a part of both.
abbrev pub Puts : {K A E : Type 0} → (K → SinkFacts) → K → K → List ℕ → List ℕ → List ℕ → Result A E → Type 0
Puts tells old new before after text result =
    MatchResult result (λ _. PutBehind tells old new before after text)
    (λ _. WrotePart tells old new (before ++ text))
