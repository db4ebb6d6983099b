-- Turns that follow one another: some go, and the next one may not.
use Rattle.std.specs.Prelude.{◌≡◌, ◌≢◌, ◌<◌, ◌≤◌, ℕ, zero, suc}
use Rattle.tk_base.specs.Regs.{Registers}
use Rattle.rv32_model.specs.declared.turn_end.TurnEnd.{TurnEnd}
use Rattle.rv32_model.specs.declared.turn_end.TurnEnd.TheVariants.{Went}
use Rattle.rv32_model.specs.Laws.{Denies}
use Rattle.rv32_model.specs.UserTurn.{user_turn, bytes_after}

-- so many turns, each of which went, lead from registers and bytes to others
unfoldable pub Goes : Denies → ℕ → Registers → (ℕ → ℕ) → Registers → (ℕ → ℕ) → Type 0
Goes denies zero regs bytes later left = (later ≡ regs) × (left ≡ bytes)
Goes denies (suc k) regs bytes later left =
    ((user_turn denies bytes regs).end ≡ Went)
    × Goes denies k (user_turn denies bytes regs).regs (bytes_after denies bytes regs) later left

-- how turns ended that led to registers and bytes: at most so many were asked for, and all of them went, or the next
-- one is one that does not go
pub record Stops (denies : Denies) (most went : ℕ) (end : TurnEnd) (regs : Registers) (bytes : ℕ → ℕ) : Type 0 where
  pub all : went ≡ most → end ≡ Went
  pub fewer : went < most → (end ≢ Went) × (end ≡ (user_turn denies bytes regs).end)

-- a turn that does not go, since it makes a system call or is denied, leaves registers and bytes as they were
abbrev pub StoppedTurnsChangeNothing : Type 0
StoppedTurnsChangeNothing =
    (denies : Denies) (bytes : ℕ → ℕ) (regs : Registers)
    → (user_turn denies bytes regs).end ≢ Went
    → ((user_turn denies bytes regs).regs ≡ regs) × (bytes_after denies bytes regs ≡ bytes)

-- no turn leads anywhere
abbrev pub NoneGoes : Type 0
NoneGoes = (denies : Denies) (regs : Registers) (bytes : ℕ → ℕ) → Goes denies 0 regs bytes regs bytes

-- turns that went may be followed by one more
abbrev pub OneMoreGoes : Type 0
OneMoreGoes =
    (denies : Denies) (k n : ℕ) (regs later : Registers) (bytes left : ℕ → ℕ)
    → n ≡ suc k
    → Goes denies k regs bytes later left
    → (user_turn denies left later).end ≡ Went
    → Goes denies n regs bytes (user_turn denies left later).regs (bytes_after denies left later)

-- so turns that ended where they led to are those that stop there
abbrev pub StoppedTurnsStop : Type 0
StoppedTurnsStop =
    (denies : Denies) (most went : ℕ) (regs : Registers) (bytes : ℕ → ℕ)
    → went < most
    → (user_turn denies bytes regs).end ≢ Went
    → (let t = user_turn denies bytes regs in Stops denies most went t.end t.regs (bytes_after denies bytes regs))

-- at most one turn is the turn
abbrev pub OneIsTheTurn : Type 0
OneIsTheTurn =
    (denies : Denies) (k : ℕ) (end : TurnEnd) (regs later : Registers) (bytes left : ℕ → ℕ)
    → k ≤ 1
    → Goes denies k regs bytes later left
    → Stops denies 1 k end later left
    → (later ≡ (user_turn denies bytes regs).regs)
    × (left ≡ bytes_after denies bytes regs)
    × (end ≡ (user_turn denies bytes regs).end)
