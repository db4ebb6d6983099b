-- The alarm's value in words (this kernel's own form): armed, reference, delta, three zeros. What it keeps is what
-- Tock's driver 0x0 needs.
use Rattle.std.specs.Prelude.{ℕ, List, [], ◌∷◌, slice_index, Option}
use Rattle.grant_values.specs.declared.alarm.Armed.{Armed}
use Rattle.grant_values.specs.Requests.{waits_flag, request_word, waiting_request}

-- the words that the alarm keeps of a process
abbrev pub alarm_words : Option Armed → List ℕ
alarm_words alarm =
    waits_flag alarm
    ∷ request_word (λ armed. armed.reference) alarm
    ∷ request_word (λ armed. armed.delta) alarm
    ∷ 0 ∷ 0 ∷ 0 ∷ []

-- the alarm that its words tell; none where they say that none is armed
abbrev pub armed_of : List ℕ → Option Armed
armed_of words =
    waiting_request (slice_index words 0) (record { reference = slice_index words 1; delta = slice_index words 2 })
