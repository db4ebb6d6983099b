-- The commands of words, one word after another.
use Rattle.std.proofs.Common.{◌≡◌, ℕ, suc, ◌+◌, ◌<◌, List, [], ◌∷◌, ◌++◌, length, drop, map, get_or, Option, None, Some}
use Rattle.std.proofs.Common.{refl, sym, ap, ◌∙◌, append_assoc, append-nil, drop-cons, add-one, String, string_bytes}
use Rattle.std.specs.Option.{option_map, option_and_then}
use Rattle.tock_look.specs.declared.asks.Ask.{Ask}
use Rattle.tock_look.specs.Asks.{all_asks, ask_of}

-- the commands of all words are those done, and then those of the words that are left
pub record AsksSoFar (words : List (List ℕ)) (done : List Ask) (left : List (List ℕ)) : Type 0 where
  pub all : all_asks words ≡ option_map (λ asks. done ++ asks) (all_asks left)

-- those of a word, and of the words after it
abbrev put_first : Option Ask → Option (List Ask) → Option (List Ask)
put_first first rest = option_and_then (λ ask. option_map (λ asks. ask ∷ asks) rest) first

module _ {Z : Type 0} (words : List (String Z)) where
  -- none so far
  pub begins : AsksSoFar (map string_bytes words) [] (map string_bytes words)
  begins = record { all = as_it_is (all_asks (map string_bytes words)) }
    where
      as_it_is : (o : Option (List Ask)) → o ≡ option_map (λ (asks : List Ask). [] ++ asks) o
      as_it_is None = refl
      as_it_is (Some asks) = refl

  module _ {done : List Ask} {i : ℕ} (r : AsksSoFar (map string_bytes words) done (map string_bytes (drop i words)))
      (word : String Z) (h : i < length words) (w : word ≡ get_or words i word) where
    -- around the next word
    around : all_asks (map string_bytes words)
        ≡ option_map (λ asks. done ++ asks) (put_first (ask_of (string_bytes word))
        (all_asks (map string_bytes (drop (suc i) words))))
    around =
        r.all ∙ rw (drop-cons words i word h) (ap (λ (v : String Z). option_map (λ (asks : List Ask). done ++ asks)
        (put_first (ask_of (string_bytes v)) (all_asks (map string_bytes (drop (suc i) words))))) (sym w))

    -- one that is no command
    pub none : ask_of (string_bytes word) ≡ None → all_asks (map string_bytes words) ≡ None
    none e = rw (around, e)

    -- one command more
    pub more : (ask : Ask) → ask_of (string_bytes word) ≡ Some ask
        → AsksSoFar (map string_bytes words) (done ++ ask ∷ []) (map string_bytes (drop (i + 1) words))
    more ask e = record {
      all = rw (around, e, add-one i) (joined (all_asks (map string_bytes (drop (suc i) words))));
    }
      where
        joined : (o : Option (List Ask)) → option_map (λ (asks : List Ask). done ++ asks) (put_first (Some ask) o)
            ≡ option_map (λ (asks : List Ask). (done ++ ask ∷ []) ++ asks) o
        joined None = refl
        joined (Some asks) = rw append_assoc

-- all are done
pub whole : (words : List (List ℕ)) (done : List Ask) (left : List (List ℕ)) → AsksSoFar words done left → left ≡ []
    → Some done ≡ all_asks words
whole words done left r e = rw (r.all, e, append-nil done)
