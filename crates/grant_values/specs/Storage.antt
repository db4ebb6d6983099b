-- The storage's value in words (this kernel's own form): 0 for no request, 1 for a read, 2 for a write; its offset,
-- its length; three zeros. What it keeps is what driver 0x50001 of Tock's list needs.
use Rattle.std.specs.Prelude.{ℕ, ◌==◌, if◌then◌else◌, List, [], ◌∷◌, slice_index, Option}
use Rattle.grant_values.specs.declared.storage.StorageKind.{StorageKind}
use Rattle.grant_values.specs.declared.storage.StorageKind.TheVariants.{Read, Write}
use Rattle.grant_values.specs.declared.storage.StorageRequest.{StorageRequest}
use Rattle.grant_values.specs.Requests.{request_word, waiting_request}

-- the word of a request's kind
abbrev pub kind_word : StorageKind → ℕ
kind_word Read = 1
kind_word Write = 2

-- any word above 1 is a write
abbrev pub kind_of : ℕ → StorageKind
kind_of word = if word == 1 then Read else Write

-- the words that the storage keeps of a process
abbrev pub storage_words : Option StorageRequest → List ℕ
storage_words waiting =
    request_word (λ request. kind_word request.kind) waiting
    ∷ request_word (λ request. request.offset) waiting
    ∷ request_word (λ request. request.length) waiting
    ∷ 0 ∷ 0 ∷ 0 ∷ []

-- the request that waits, by the words; none where the first word is 0
abbrev pub request_of : List ℕ → Option StorageRequest
request_of words =
    waiting_request (slice_index words 0)
    (record { kind = kind_of (slice_index words 0); offset = slice_index words 1; length = slice_index words 2 })
