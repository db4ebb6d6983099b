-- The console's value in words (this kernel's own form): a write waits, its length, the bytes taken of it; a read
-- waits, its length; three zeros. What it keeps is what Tock's driver 0x1 needs.
use Rattle.std.specs.Prelude.{ℕ, List, [], ◌∷◌, slice_index, Option}
use Rattle.grant_values.specs.declared.console.Console.{Console}
use Rattle.grant_values.specs.declared.console.WaitingRead.{WaitingRead}
use Rattle.grant_values.specs.declared.console.WaitingWrite.{WaitingWrite}
use Rattle.grant_values.specs.Requests.{waits_flag, request_word, waiting_request}

-- the words that the console keeps of a process
abbrev pub console_words : Console → List ℕ
console_words console =
    waits_flag console.write
    ∷ request_word (λ write. write.length) console.write
    ∷ request_word (λ write. write.taken) console.write
    ∷ waits_flag console.read
    ∷ request_word (λ read. read.length) console.read
    ∷ 0 ∷ 0 ∷ 0 ∷ []

-- the write that words tell, and the read
abbrev pub write_of : List ℕ → Option WaitingWrite
write_of words =
    waiting_request (slice_index words 0) (record { length = slice_index words 1; taken = slice_index words 2 })

-- the read that waits, by the words; none where they say that none does
abbrev pub read_of : List ℕ → Option WaitingRead
read_of words = waiting_request (slice_index words 3) (record { length = slice_index words 4 })
