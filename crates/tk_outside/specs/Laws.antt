-- Writes that follow one another make one write of the joined text.
use Rattle.std.specs.Prelude.{ℕ, List, [], ◌++◌, Result, IsErr}
use Rattle.tk_outside.specs.Sink.{SinkFacts}
use Rattle.tk_outside.specs.Writes.{WroteAll, WrotePart, Writes}
use Rattle.tk_outside.specs.declared.failed.Failed.{Failed}

-- For one kind of sink, by what its states tell. A function that makes several writes,
-- each with `?`, meets its `Writes` clause by these.
pub record WritesCompose {K : Type 0} (tells : K → SinkFacts) : Type 0 where
  -- nothing written is all of the empty text
  pub wrote_nothing : (a : K) → WroteAll tells a a []
  -- written, then written
  pub all_then_all : {a b c : K} {front back : List ℕ} → WroteAll tells a b front → WroteAll tells b c back
      → WroteAll tells a c (front ++ back)
  -- written, then a part
  pub all_then_part : {a b c : K} {front back : List ℕ} → WroteAll tells a b front → WrotePart tells b c back
      → WrotePart tells a c (front ++ back)
  -- a part, where more text was to follow
  pub part_of_more : {a b : K} {front : List ℕ} (back : List ℕ) → WrotePart tells a b front
      → WrotePart tells a b (front ++ back)
  -- the call fails after a part
  pub writes_part : {a b : K} {text : List ℕ} (r : Result (Unit {0}) Failed) → IsErr r → WrotePart tells a b text
      → Writes tells a b text r
  -- written, then what the last call writes
  pub all_then_writes : {a b : K} {front : List ℕ} (c : K) (back : List ℕ) (r : Result (Unit {0}) Failed)
      → WroteAll tells a b front → Writes tells b c back r → Writes tells a c (front ++ back) r
