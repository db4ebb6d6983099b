-- The source of random bytes (Tock's driver 0x40001): a process asks for a count of bytes, and they are written
-- into its read-write buffer 0, a word at a time.
use Rattle.std.specs.Prelude.{ℕ, ◌+◌, ◌-◌, min, nat_le, if◌then◌else◌, List, [], ◌∷◌, drop}
use Rattle.std.specs.Prelude.{take, Option, None, Some, is_none}
use Rattle.std.specs.Int.{w32, to_le_bytes}
use Rattle.grant_values.specs.declared.random.RandomRequest.{RandomRequest}
use Rattle.grant_values.specs.declared.drivers.Driver.TheVariants.{Random}
use Rattle.grant_values.specs.Values.{KeptValue, RandomValue}
use Rattle.grant_values.specs.Drivers.{number_of_driver}
use Rattle.syscall_abi.specs.declared.reply.Reply.TheVariants.{Success}
use Rattle.tk_base.specs.declared.kinds.PairKind.TheVariants.{ReadWrite}
use Rattle.process_model.specs.Own.{Own}
use Rattle.process_model.specs.Handed.{held}
use Rattle.process_model.specs.Served.{with_written}
use Rattle.driver_model.specs.Steps.{DriverStep, scheduling, silently}
use Rattle.driver_model.specs.Commands.{Commanded, Randoms, accepting}
use Rattle.driver_model.specs.Requests.{RequestAnswered, RequestKind, asking, keeping_request, on_request}
use Rattle.driver_model.specs.Requests.{unanswered}

-- the number of the driver
abbrev pub random : ℕ
random = number_of_driver Random

-- the request in a value that is kept, if one waits
abbrev pub random_request : KeptValue → Option RandomRequest
random_request (RandomValue request) = request
random_request other = None

-- where a process asks for bytes: its request is all that it keeps
abbrev pub randoms : RequestKind RandomRequest
randoms =
    record { driver = random; told = random_request; with_request = λ asked value. RandomValue asked; line = Randoms }

-- its commands: the driver is there; a request for so many bytes
unfoldable pub commands : ℕ → Own → List (ℕ × Commanded)
commands count own =
    (0, accepting Success own) ∷ (1, asking randoms (record { count = count; written = 0 }) own) ∷ []

-- how many bytes a request gets: as many as it asks for, and no more than the buffer has that is held now
abbrev pub wanted : RandomRequest → Own → ℕ
wanted request own = min request.count (held ReadWrite random 0 own).1

-- What one step of a request comes to: what waits of it still, none where it completed; what it leaves of the process
-- beside the request; the word that was drawn for it, if one was.
pub record Progress : Type 0 where
  pub rest : Option RandomRequest
  pub step : DriverStep
  pub drawn : Option ℕ

-- a request completes: upcall 0 tells how (1 where no word was left for it, else 0), and how many bytes were written
abbrev pub completing : Option ℕ → ℕ → ℕ → Own → Progress
completing drawn outcome bytes own =
    record { rest = None; step = scheduling random 0 (outcome ∷ bytes ∷ 0 ∷ []) own; drawn = drawn }

-- the next word is drawn for a request that wants so many bytes more: as many of its bytes, the lowest first, are
-- written after those so far; it completes where these are no more than four, and where no word is left
abbrev pub drawing : ℕ → RandomRequest → Own → Option ℕ → Progress
drawing left request own None = completing None 1 request.written own
drawing left request own (Some word) =
    let bytes = take (min 4 left) (to_le_bytes w32 word) in
    let o = with_written ReadWrite random 0 request.written bytes own in
    if nat_le left 4 then completing (Some word) 0 (request.written + left) o
    else record { rest = Some (record request { written = request.written + 4 }); step = silently o; drawn = Some word }

-- one step of a request, with the next word, if one is left
abbrev pub progress : Option ℕ → RandomRequest → Own → Progress
progress word request own =
    if nat_le (wanted request own) request.written then completing None 0 request.written own
    else drawing (wanted request own - request.written) request own word

-- what a step of a request leaves: the request as far as it waits still
abbrev pub advanced : Progress → RequestAnswered (Option ℕ)
advanced p = record { step = keeping_request randoms p.rest p.step; moved = p.drawn; completed = is_none p.rest }

-- the source's answer to a process, with the next word, if one is left; nothing changes where it has no request
unfoldable pub answered : Option ℕ → Own → RequestAnswered (Option ℕ)
answered word own = on_request randoms own (unanswered None own) (λ request. advanced (progress word request own))

-- the words that are left where one was drawn, or none
abbrev pub words_after : Option ℕ → List ℕ → List ℕ
words_after None words = words
words_after (Some word) words = drop 1 words
