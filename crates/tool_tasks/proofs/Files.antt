-- Files that are read one after another.
use Rattle.std.proofs.Common.{ℕ, List, [], ◌∷◌, ◌++◌, Option, inr}
use Rattle.tool_words.specs.Words.{Command}
use Rattle.tool_tasks.specs.Comes.{Named, ReadsAll, ReadsUpTo}

-- behind files that were read, more are
module _ (bytes : List ℕ → Option (List ℕ)) (command : Command) where
  pub all_on : (P Q : List (List ℕ) → Type 0) (files more : List Named) (before : List (List ℕ))
      → ReadsAll bytes command P before files
      → ((texts : List (List ℕ)) → P texts → ReadsAll bytes command Q texts more)
      → ReadsAll bytes command Q before (files ++ more)
  all_on P Q [] more before h on = on before h
  all_on P Q (f ∷ files) more before h on = record {
    text = h.text;
    read = h.read;
    free = h.free;
    holds = all_on P Q files more (before ++ (h.text ∷ [])) h.holds on;
  }

  pub up_to_on : (P : List (List ℕ) → Type 0) (Q : List (List ℕ) → Named → Type 0) (files more : List Named)
      (before : List (List ℕ)) → ReadsAll bytes command P before files
      → ((texts : List (List ℕ)) → P texts → ReadsUpTo bytes command Q texts more)
      → ReadsUpTo bytes command Q before (files ++ more)
  up_to_on P Q [] more before h on = on before h
  up_to_on P Q (f ∷ files) more before h on =
      inr (record {
        text = h.text;
        read = h.read;
        free = h.free;
        holds = up_to_on P Q files more (before ++ (h.text ∷ [])) h.holds on;
      })

  -- the bytes of all files
  pub all_texts : (P : List (List ℕ) → Type 0) (files : List Named) (before : List (List ℕ))
      → ReadsAll bytes command P before files → (texts : List (List ℕ)) × P texts
  all_texts P [] before h = (before, h)
  all_texts P (f ∷ files) before h = all_texts P files (before ++ (h.text ∷ [])) h.holds
