-- Writes that follow one another make one write of the joined text: the proof of the law `WritesCompose`.
use Rattle.std.proofs.Common.{ℕ, ◌≤◌, List, [], ◌++◌, Result, Ok, Err, append_assoc, arith, length-append}
use Rattle.std.specs.Prelude.{IsErr}
use Rattle.std.proofs.lemmas.Result.{MatchResult-from_err}
use Rattle.std.proofs.KnownBytes.{Appends-nil, Appends-trans}
use Rattle.tk_outside.specs.Count.{Rose}
use Rattle.tk_outside.specs.Laws.{WritesCompose}
use Rattle.tk_outside.specs.Sink.{SinkFacts}
use Rattle.tk_outside.specs.Writes.{WroteAll, WrotePart, Writes}

-- a count that rose after it did not fall rose over both
pub rose_later : (a b c : ℕ) → a ≤ b → Rose b c → Rose a c
rose_later a b c kept rose = omega arith

-- nothing written is all of the empty text
pub wrote_nothing : {K : Type 0} (tells : K → SinkFacts) (a : K) → WroteAll tells a a []
wrote_nothing tells a = record { appended = Appends-nil (tells a).written; count = omega arith }

-- written, then written
pub all_then_all : {K : Type 0} {tells : K → SinkFacts} {a b c : K} {front back : List ℕ}
    → WroteAll tells a b front → WroteAll tells b c back → WroteAll tells a c (front ++ back)
all_then_all {K} {tells} {a} {b} {c} {front} {back} p q = record {
  appended = Appends-trans (tells a).written (tells b).written (tells c).written front back p.appended q.appended;
  count = omega (arith, p.count, q.count);
}

-- written, then part
pub all_then_part : {K : Type 0} {tells : K → SinkFacts} {a b c : K} {front back : List ℕ}
    → WroteAll tells a b front → WrotePart tells b c back → WrotePart tells a c (front ++ back)
all_then_part {K} {tells} {a} {b} {c} {front} {back} p q = record {
  front = front ++ q.front;
  missing = q.missing;
  parts = rw (q.parts, append_assoc);
  lacks = q.lacks;
  appended = Appends-trans (tells a).written (tells b).written (tells c).written front q.front p.appended q.appended;
  count = omega (arith, p.count, q.count);
  rose = rose_later _ (tells b).faults _ p.count q.rose;
}

-- part, where more text was to follow
pub part_of_more : {K : Type 0} {tells : K → SinkFacts} {a b : K} {front : List ℕ} (back : List ℕ)
    → WrotePart tells a b front → WrotePart tells a b (front ++ back)
part_of_more {front = front} back p = record {
  front = p.front;
  missing = p.missing ++ back;
  parts = rw (p.parts, append_assoc);
  lacks = omega (arith, p.lacks, length-append p.missing back);
  appended = p.appended;
  count = p.count;
  rose = p.rose;
}

-- the exit of a `?`: the result is an error, and a part was written
pub writes_part : {K A E : Type 0} {tells : K → SinkFacts} {a b : K} {text : List ℕ} (r : Result A E)
    → IsErr r → WrotePart tells a b text → Writes tells a b text r
writes_part r h p = MatchResult-from_err r _ _ h (λ _. p)

-- a call after all of the front was written
pub all_then_writes : {K A E : Type 0} {tells : K → SinkFacts} {a b : K} {front : List ℕ} (c : K) (back : List ℕ)
    (r : Result A E)
    → WroteAll tells a b front → Writes tells b c back r → Writes tells a c (front ++ back) r
all_then_writes c back (Ok x) p q = all_then_all p q
all_then_writes c back (Err e) p q = all_then_part p q

-- the law of every sink
pub compose : {K : Type 0} (tells : K → SinkFacts) → WritesCompose tells
compose tells = record {
  wrote_nothing = wrote_nothing tells;
  all_then_all = all_then_all;
  all_then_part = all_then_part;
  part_of_more = part_of_more;
  writes_part = writes_part;
  all_then_writes = all_then_writes;
}
