-- What was written to a sink: all of a text, or a part of it. This is this tool's own.
use Rattle.std.specs.Prelude.{◌≡◌, ℕ, ◌<◌, ◌≤◌, List, ◌++◌, Result, length, MatchResult}
use Rattle.std.specs.Io.KnownBytes.{Appends}
use Rattle.tk_outside.specs.Count.{Rose}
use Rattle.tk_outside.specs.Sink.{SinkFacts}

-- a sink that went from one state to another was given the whole text, and its count did not fall
pub record WroteAll {K : Type 0} (tells : K → SinkFacts) (old new : K) (text : List ℕ) : Type 0 where
  pub appended : Appends (tells old).written (tells new).written text
  pub count : (tells old).faults ≤ (tells new).faults

-- a sink was given a front of the text which lacks some of it, and its count of faults rose
pub record WrotePart {K : Type 0} (tells : K → SinkFacts) (old new : K) (text : List ℕ) : Type 0 where
  pub front : List ℕ
  pub missing : List ℕ
  pub parts : text ≡ front ++ missing
  pub lacks : 0 < length missing
  pub appended : Appends (tells old).written (tells new).written front
  pub count : (tells old).faults ≤ (tells new).faults
  pub rose : Rose (tells old).faults (tells new).faults

-- a call writes the text: all of it where it succeeds, and only a part where it fails
abbrev pub Writes : {K A E : Type 0} → (K → SinkFacts) → K → K → List ℕ → Result A E → Type 0
Writes tells old new text result =
    MatchResult result (λ _. WroteAll tells old new text) (λ _. WrotePart tells old new text)
