-- Texts that are put one behind another are put as one.
use Rattle.std.specs.Prelude.{ℕ, List, [], ◌++◌, Result}
use Rattle.tk_outside.specs.Sink.{SinkFacts}
use Rattle.tk_outside.specs.Writes.{WroteAll, WrotePart, Writes}
use Rattle.tk_outside.specs.declared.failed.Failed.{Failed}
use Rattle.gathered_output.specs.Puts.{PutBehind}

-- For one kind of sink, by what its states tell; what is gathered is g, then h, then i.
pub record PutsCompose {K : Type 0} (tells : K → SinkFacts) : Type 0 where
  -- nothing put is all of the empty text
  pub put_nothing : (a : K) (g : List ℕ) → PutBehind tells a a g g []
  -- put, then put
  pub put_then_put : {a b c : K} {g h i front back : List ℕ} → PutBehind tells a b g h front
      → PutBehind tells b c h i back → PutBehind tells a c g i (front ++ back)
  -- put, and then all that is gathered was given
  pub put_then_flushed : {a b c : K} {g h text : List ℕ} → PutBehind tells a b g h text → WroteAll tells b c h
      → PutBehind tells a c g [] text
  -- put, and then only a part of what is gathered was given, where more text was to follow
  pub put_then_unflushed : {a b c : K} {g h front : List ℕ} (rest : List ℕ) → PutBehind tells a b g h front
      → WrotePart tells b c h → WrotePart tells a c (g ++ (front ++ rest))
  -- put, and then only a part of what is gathered and of a text was given, where more text was to follow
  pub put_then_part : {a b c : K} {g h front : List ℕ} (back rest : List ℕ) → PutBehind tells a b g h front
      → WrotePart tells b c (h ++ back) → WrotePart tells a c (g ++ (front ++ (back ++ rest)))
  -- put, and then a call writes what is gathered and more text
  pub put_then_writes : {a b : K} {g h front : List ℕ} (c : K) (back : List ℕ) (r : Result (Unit {0}) Failed)
      → PutBehind tells a b g h front → Writes tells b c (h ++ back) r → Writes tells a c (g ++ (front ++ back)) r
