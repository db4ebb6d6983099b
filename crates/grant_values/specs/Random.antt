-- The value of the source of random words, in words (this kernel's own form): a request waits, its bytes, the bytes
-- so far, three zeros. What it keeps is what Tock's driver 0x40001 needs.
use Rattle.std.specs.Prelude.{ℕ, List, [], ◌∷◌, slice_index, Option}
use Rattle.grant_values.specs.declared.random.RandomRequest.{RandomRequest}
use Rattle.grant_values.specs.Requests.{waits_flag, request_word, waiting_request}

-- the words that the source of random words keeps of a process
abbrev pub random_words : Option RandomRequest → List ℕ
random_words waiting =
    waits_flag waiting
    ∷ request_word (λ request. request.count) waiting
    ∷ request_word (λ request. request.written) waiting
    ∷ 0 ∷ 0 ∷ 0 ∷ []

-- the request that waits, by the words; none where they say that none does
abbrev pub request_of : List ℕ → Option RandomRequest
request_of words =
    waiting_request (slice_index words 0) (record { count = slice_index words 1; written = slice_index words 2 })
