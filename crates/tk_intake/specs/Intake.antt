-- How the reading of a file ends, by the length of its bytes where the shelf tells them.
use Rattle.std.specs.Prelude.{◌≡◌, ℕ, ◌<◌, ◌≤◌, List, length, IfSome, Result, Ok, Err, ◌⊎◌}
use Rattle.tk_outside.specs.Shelf.{ShelfFacts, FaultsRose}
use Rattle.tk_intake.specs.declared.IntakeError.{IntakeError}
use Rattle.tk_intake.specs.declared.IntakeError.TheVariants.{TooLong, Memory}

-- these are the bytes of a file
abbrev pub AreAllOf : ShelfFacts → List ℕ → List ℕ → Type 0
AreAllOf shelf name bytes = IfSome (shelf.bytes name) (λ b. bytes ≡ b)

-- a file has more bytes than a limit
abbrev pub IsLonger : ShelfFacts → List ℕ → ℕ → Type 0
IsLonger shelf name limit = IfSome (shelf.bytes name) (λ b. limit < length b)

-- where a sound file has more bytes than a limit
abbrev pub IfSoundAndLonger : ShelfFacts → List ℕ → ℕ → Type 0 → Type 0
IfSoundAndLonger shelf name limit P = IfSome (shelf.bytes name) (λ b. limit < length b → shelf.is_sound name → P)

-- where a file has more bytes than a limit, and the shelf's count of faults did not rise
abbrev pub IfCalmAndLonger : {H : Type 0} → (H → ShelfFacts) → H → H → List ℕ → ℕ → Type 0 → Type 0
IfCalmAndLonger tells old new name limit P =
    IfSome ((tells old).bytes name) (λ b. limit < length b → ¬ FaultsRose tells old new → P)

-- where a sound file is within a limit
abbrev pub IfSoundAndWithin : ShelfFacts → List ℕ → ℕ → Type 0 → Type 0
IfSoundAndWithin shelf name limit P = IfSome (shelf.bytes name) (λ b. length b ≤ limit → shelf.is_sound name → P)

-- refused as too long, or for want of memory
abbrev pub IsTooLong : {T : Type 0} → Result T IntakeError → Type 0
IsTooLong (Ok x) = ⊥
IsTooLong (Err e) = (e ≡ TooLong) ⊎ (e ≡ Memory)
