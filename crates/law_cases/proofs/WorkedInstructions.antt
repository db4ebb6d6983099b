-- Worked cases of laws of instructions, computed from the definitions alone: of each relation an instance that it has,
-- and one of a wrong processor that it refuses. Words were put together by hand from the unprivileged RISC-V manual.
use Rattle.std.proofs.Common.{◌-◌, ◌^◌, [], ◌∷◌, length, None}
use Rattle.std.proofs.Common.{Some, slice_index, ap}
use Rattle.std.proofs.Common.{refl, arith, cond, nat_lt}
use Rattle.tk_base.specs.declared.access.Access.TheVariants.{Fetch, Load}
use Rattle.tk_base.specs.declared.access.Rule.TheVariants.{NoRegion}
use Rattle.tk_base.specs.Regs.{Registers}
use Rattle.tk_base.specs.declared.access.Width.TheVariants.{Word}
use Rattle.grant_values.specs.Words.{AreReadBack, AreTheWholeOnes, TakeFourEach, words_of}
use Rattle.rv32_model.specs.Instructions.{InstrRow, row_fits}
use Rattle.rv32_model.specs.Laws.{ChangesNothingDenied, Denies, FitsOne, IsAligned, IsAllowed, IsTheSameTurn}
use Rattle.rv32_model.specs.Laws.{WritesByStores}
use Rattle.rv32_model.specs.declared.instr.Instr.TheVariants.{Ecall}
use Rattle.rv32_model.specs.UserTurn.{UserTurn, denied_at, trapped}
use Rattle.process_model.specs.Permission.{denied}
use Rattle.process_record.specs.Parts.{cleared}
use Rattle.kernel_laws.specs.Tables.{EachFitsItself}

-- The row of ECALL: a word fits one row of its table; a table that has the row twice.
abbrev ecall_row : InstrRow
ecall_row = record { mask = 2 ^ 32 - 1; value = 0x73; form = λ word. Ecall }

fits_one : FitsOne (row_fits 0x73) (ecall_row ∷ [])
fits_one = omega arith

none_fits_two : FitsOne (row_fits 0x73) (ecall_row ∷ ecall_row ∷ []) → ⊥
none_fits_two fits = omega (arith, fits)

-- A process that may not access what lies below 8: a load there, which is denied; and one of a word at 10.
abbrev denies_low : Denies
denies_low access at width = cond (nat_lt at 8) (Some NoRegion) None

allows_load : IsAllowed denies_low (record { access = Load; address = 8; width = Word })
allows_load = refl

none_allows_denied : IsAllowed denies_low (record { access = Load; address = 4; width = Word }) → ⊥
none_allows_denied is = cc

aligns_load : IsAligned (record { access = Load; address = 8; width = Word })
aligns_load apart = refl

none_unaligned : IsAligned (record { access = Load; address = 10; width = Word }) → ⊥
none_unaligned is = let rest = is (λ same. cc) in omega (arith, rest)

-- A fetch that is denied; a processor that goes on behind it all the same.
abbrev unfetched : UserTurn
unfetched = trapped (cleared 0) (denied_at Fetch 0 NoRegion)

leaves_all : ChangesNothingDenied (cleared 0) (λ at. 0) unfetched (λ at. 0) (denied_at Fetch 0 NoRegion)
leaves_all denied = (refl, refl, refl)

none_goes_on :
    ChangesNothingDenied (cleared 0) (λ at. 0) (record unfetched { regs = cleared 4 }) (λ at. 0)
    (denied_at Fetch 0 NoRegion)
    → ⊥
none_goes_on changes = let pc = ap (λ (x : Registers). x.pc) (changes refl).0 in omega (arith, pc)

-- A byte that stays where no store is listed; a processor that writes it without one.
writes_none : WritesByStores [] (λ at. 9) (λ at. 9) 8
writes_none none = refl

none_writes_unlisted : WritesByStores [] (λ at. 9) (λ at. 7) 8 → ⊥
none_writes_unlisted writes = let same = writes refl in omega (arith, same)

-- One turn is the same as itself; a processor whose turns differ by what the process can't see.
same_turn : IsTheSameTurn unfetched unfetched
same_turn = refl

none_sees_more : IsTheSameTurn unfetched (record unfetched { regs = cleared 4 }) → ⊥
none_sees_more same = let pc = ap (λ (t : UserTurn). t.regs.pc) same in omega (arith, pc)

-- A word in its bytes, the lowest first; one whose bytes stand in another order, or that takes three; and words that
-- are more than the bytes have.
reads_back : AreReadBack (5 ∷ []) (5 ∷ 0 ∷ 0 ∷ 0 ∷ [])
unfolding words_of
reads_back = refl

none_reads_turned : AreReadBack (5 ∷ []) (0 ∷ 0 ∷ 0 ∷ 5 ∷ []) → ⊥
unfolding words_of
none_reads_turned back = let word = ap (λ words. slice_index words 0) back in omega (arith, word)

takes_four : TakeFourEach (5 ∷ []) (5 ∷ 0 ∷ 0 ∷ 0 ∷ [])
takes_four = refl

none_takes_three : TakeFourEach (5 ∷ []) (5 ∷ 0 ∷ 0 ∷ []) → ⊥
none_takes_three takes = omega (arith, takes)

has_whole_ones : AreTheWholeOnes (5 ∷ []) (5 ∷ 0 ∷ 0 ∷ 0 ∷ 1 ∷ [])
has_whole_ones = refl

none_has_more : AreTheWholeOnes (5 ∷ 1 ∷ []) (5 ∷ 0 ∷ 0 ∷ 0 ∷ 1 ∷ []) → ⊥
none_has_more are = omega (arith, are)

-- A table whose row fits its word; one with a row of which no word has the bits.
fits_itself : EachFitsItself (ecall_row ∷ [])
fits_itself = refl

none_fits_nothing : EachFitsItself (record ecall_row { mask = 0 } ∷ []) → ⊥
none_fits_nothing fits = let rows = ap length fits in omega (arith, rows)
