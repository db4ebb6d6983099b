-- What a driver keeps of a process in its grant (Levy et al., SOSP 2017, section 4). The form in words is this
-- kernel's own: a request that waits, or none, and its first word tells which. Where none waits all words are 0.
use Rattle.std.specs.Prelude.{ℕ, ◌==◌, if◌then◌else◌, Option, None, Some}

-- 1 where a request waits, 0 where none does
abbrev pub waits_flag : {R : Type 0} → Option R → ℕ
waits_flag None = 0
waits_flag (Some request) = 1

-- a word of the request that waits; 0 where none does
abbrev pub request_word : {R : Type 0} → (R → ℕ) → Option R → ℕ
request_word word None = 0
request_word word (Some request) = word request

-- the request that waits, by its first word: none where that is 0
abbrev pub waiting_request : {R : Type 0} → ℕ → R → Option R
waiting_request flag request = if flag == 0 then None else Some request
