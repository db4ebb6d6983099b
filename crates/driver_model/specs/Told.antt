-- What devices tell the processes that they serve, in the words of whoever speaks of it (Tock's drivers).
use Rattle.std.specs.Prelude.{ℕ, Bool, not, if◌then◌else◌, List, Option, option_map, unwrap_or}
use Rattle.driver_model.specs.Requests.{RequestAnswered}

-- The words: an alarm fired, when the clock showed a tick; the UART took the next bytes of a write, or has taken all;
-- bytes came in for a read; a random word was drawn, or none; a storage request was served, or failed.
pub record Telling (E : Type 0) : Type 0 where
  pub alarmed : ℕ → E
  pub taken : E
  pub write_done : E
  pub input : List ℕ → E
  pub word : ℕ → E
  pub no_word : E
  pub stored : Bool → E

-- what the UART tells whose write it served
abbrev pub sent_told : {E : Type 0} → Telling E → RequestAnswered (List ℕ) → E
sent_told telling s = if s.completed then telling.write_done else telling.taken

-- and whose read
abbrev pub received_told : {E : Type 0} → Telling E → RequestAnswered (List ℕ) → E
received_told telling r = telling.input r.moved

-- what the source of random bytes tells: the word that was drawn, if one was
abbrev pub drawn_told : {E : Type 0} → Telling E → Option ℕ → E
drawn_told telling word = unwrap_or (option_map telling.word word) telling.no_word

-- what the storage tells of a request, which fails or does not
abbrev pub stored_told : {E : Type 0} → Telling E → Bool → E
stored_told telling fails = telling.stored (not fails)
