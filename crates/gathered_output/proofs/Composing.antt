-- Texts that are put one behind another are put as one: the proof of the law `PutsCompose`.
use Rattle.std.proofs.Common.{◌≡◌, ℕ, List, [], ◌++◌, Result, Ok, Err, append_assoc, append-nil, sym, ap, subst, ◌∙◌}
use Rattle.tk_outside.specs.Laws.{WritesCompose}
use Rattle.tk_outside.specs.Sink.{SinkFacts}
use Rattle.tk_outside.specs.Writes.{WroteAll, WrotePart, Writes}
use Rattle.tk_outside.specs.declared.failed.Failed.{Failed}
use Rattle.gathered_output.specs.Laws.{PutsCompose}
use Rattle.gathered_output.specs.Puts.{PutBehind, Puts}

-- what was given for a text, then what is gathered, then more text
joined : (given g h front back : List ℕ) → given ++ h ≡ g ++ front → given ++ (h ++ back) ≡ g ++ (front ++ back)
joined given g h front back e =
    sym (append_assoc given h back) ∙ ap (λ (t : List ℕ). t ++ back) e ∙ append_assoc g front back

-- what was gathered and a text were written, and nothing is gathered now
pub puts_straight : {K : Type 0} (tells : K → SinkFacts) (a c : K) (g after text : List ℕ)
    (r : Result (Unit {0}) Failed) → after ≡ [] → Writes tells a c (g ++ text) r → Puts tells a c g after text r
puts_straight tells a c g after text (Ok x) none w = record {
  given = g ++ text;
  wrote = w;
  whole = ap (λ (t : List ℕ). (g ++ text) ++ t) none ∙ append-nil (g ++ text);
}
puts_straight tells a c g after text (Err e) none w = w

module _ {K : Type 0} {tells : K → SinkFacts} (law : WritesCompose tells) where
  put_nothing : (a : K) (g : List ℕ) → PutBehind tells a a g g []
  put_nothing a g = record { given = []; wrote = law.wrote_nothing a; whole = sym (append-nil g) }

  put_then_put : {a b c : K} {g h i front back : List ℕ} → PutBehind tells a b g h front
      → PutBehind tells b c h i back → PutBehind tells a c g i (front ++ back)
  put_then_put {i = i} {back = back} p q = record {
    given = p.given ++ q.given;
    wrote = law.all_then_all p.wrote q.wrote;
    whole = append_assoc p.given q.given i ∙ ap (λ (t : List ℕ). p.given ++ t) q.whole
        ∙ joined p.given _ _ _ back p.whole;
  }

  put_then_flushed : {a b c : K} {g h text : List ℕ} → PutBehind tells a b g h text → WroteAll tells b c h
      → PutBehind tells a c g [] text
  put_then_flushed {h = h} p w = record {
    given = p.given ++ h;
    wrote = law.all_then_all p.wrote w;
    whole = append-nil (p.given ++ h) ∙ p.whole;
  }

  put_then_unflushed : {a b c : K} {g h front : List ℕ} (rest : List ℕ) → PutBehind tells a b g h front
      → WrotePart tells b c h → WrotePart tells a c (g ++ (front ++ rest))
  put_then_unflushed {a} {c = c} rest p q =
      subst (WrotePart tells a c) (joined p.given _ _ _ rest p.whole)
      (law.all_then_part p.wrote (law.part_of_more rest q))

  put_then_part : {a b c : K} {g h front : List ℕ} (back rest : List ℕ) → PutBehind tells a b g h front
      → WrotePart tells b c (h ++ back) → WrotePart tells a c (g ++ (front ++ (back ++ rest)))
  put_then_part {a} {b} {c} {h = h} back rest p q =
      subst (WrotePart tells a c) (joined p.given _ _ _ (back ++ rest) p.whole)
      (law.all_then_part p.wrote
      (subst (WrotePart tells b c) (append_assoc h back rest) (law.part_of_more rest q)))

  put_then_all : {a b c : K} {g h front : List ℕ} (back : List ℕ) → PutBehind tells a b g h front
      → WroteAll tells b c (h ++ back) → WroteAll tells a c (g ++ (front ++ back))
  put_then_all {a} {c = c} back p q =
      subst (WroteAll tells a c) (joined p.given _ _ _ back p.whole) (law.all_then_all p.wrote q)

  put_then_writes : {a b : K} {g h front : List ℕ} (c : K) (back : List ℕ) (r : Result (Unit {0}) Failed)
      → PutBehind tells a b g h front → Writes tells b c (h ++ back) r → Writes tells a c (g ++ (front ++ back)) r
  put_then_writes c back (Ok x) p q = put_then_all back p q
  put_then_writes {a} c back (Err e) p q =
      subst (WrotePart tells a c) (joined p.given _ _ _ back p.whole) (law.all_then_part p.wrote q)

  pub compose : PutsCompose tells
  compose = record {
    put_nothing = put_nothing;
    put_then_put = put_then_put;
    put_then_flushed = put_then_flushed;
    put_then_unflushed = put_then_unflushed;
    put_then_part = put_then_part;
    put_then_writes = put_then_writes;
  }
