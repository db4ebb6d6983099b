-- Registers once words were put into them: those have the words, and no other one changed.
use Rattle.std.proofs.lemmas.Bool.{cond_both, ne_eqb}
use Rattle.std.proofs.Common.{◌≡◌, ◌≢◌, ◌⊎◌, inl, inr, ◌<◌, ◌≤◌, ℕ, ◌+◌, ◌==◌, false, List, [], ◌∷◌}
use Rattle.std.proofs.Common.{length, slice_set, refl, ap, ◌∙◌, arith}
use Rattle.std.proofs.lemmas.List.{get_or-set_other, get_or-set_same, length-set, set-get_or}
use Rattle.tk_base.specs.Regs.{Registers, register, with_register}
use Rattle.syscall_abi.specs.Reply.{with_words}

-- a number above 0 is not 0
not_zero : (n : ℕ) → 1 ≤ n → (n == 0) ≡ false
not_zero n some = ne_eqb n 0 (λ e. omega (arith, e, some))

-- a register that is set has the value, where it is there
pub register_there : (regs : Registers) (n value : ℕ) → 1 ≤ n → n < length regs.x
    → register (with_register regs n value) n ≡ value
register_there regs n value some within = rw (not_zero n some) (get_or-set_same regs.x n value 0 within)

-- each other one is as it was
pub register_beside : (regs : Registers) (n m value : ℕ) → m ≢ n
    → register (with_register regs n value) m ≡ register regs m
register_beside regs n m value apart =
    cond_both (n == 0) regs (record regs { x = slice_set regs.x n value })
    (λ after. register after m ≡ register regs m) (λ e. refl) (λ e. rw (get_or-set_other regs.x n m value 0 apart))

pub pc_stays : (regs : Registers) (n value : ℕ) → (with_register regs n value).pc ≡ regs.pc
pc_stays regs n value =
    cond_both (n == 0) regs (record regs { x = slice_set regs.x n value }) (λ after. after.pc ≡ regs.pc) (λ e. refl)
    (λ e. refl)

pub words_pc : (n : ℕ) (words : List ℕ) (regs : Registers) → (with_words n words regs).pc ≡ regs.pc
words_pc n [] regs = refl
words_pc n (word ∷ words) regs = words_pc (n + 1) words (with_register regs n word) ∙ pc_stays regs n word

pub words_beside : (n : ℕ) (words : List ℕ) (regs : Registers) (m : ℕ) → (m < n) ⊎ (n + length words ≤ m)
    → register (with_words n words regs) m ≡ register regs m
words_beside n [] regs m out = refl
words_beside n (word ∷ words) regs m (inl below) =
    words_beside (n + 1) words (with_register regs n word) m (inl (omega (arith, below)))
    ∙ register_beside regs n m word (λ same. omega (arith, below, same))
words_beside n (word ∷ words) regs m (inr past) =
    words_beside (n + 1) words (with_register regs n word) m (inr (omega (arith, past)))
    ∙ register_beside regs n m word (λ same. omega (arith, past, same))

-- a register that is set to what it has is as it was
pub register_again : (regs : Registers) (n : ℕ) → 1 ≤ n → with_register regs n (register regs n) ≡ regs
register_again regs n some =
    rw (not_zero n some) (ap (λ (x : List ℕ). record regs { x = x }) (set-get_or regs.x n 0))

-- there are as many
pub as_many : (regs : Registers) (n value : ℕ) → length (with_register regs n value).x ≡ length regs.x
as_many regs n value =
    cond_both (n == 0) regs (record regs { x = slice_set regs.x n value }) (λ after. length after.x ≡ length regs.x)
    (λ e. refl) (λ e. length-set regs.x n value)

pub words_many : (n : ℕ) (words : List ℕ) (regs : Registers) → length (with_words n words regs).x ≡ length regs.x
words_many n [] regs = refl
words_many n (word ∷ words) regs = words_many (n + 1) words (with_register regs n word) ∙ as_many regs n word
