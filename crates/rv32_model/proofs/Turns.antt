-- The laws of a turn, by cases on what was fetched, the row and the instruction.
use Rattle.std.proofs.Common.{ap, ◌≡◌, ◌≢◌, ℕ, ◌+◌, ◌%◌, ◌==◌, ◌||◌, Bool, true, false, [], ◌∷◌, Option, None}
use Rattle.std.proofs.Common.{Some, Result, Ok, Err, if◌then◌else◌, refl, sym, ◌∙◌, arith}
use Rattle.std.specs.Prelude.{All, IfSome}
use Rattle.std.specs.List.{list_any}
use Rattle.std.proofs.lemmas.Bool.Decides.{nat_tests}
use Rattle.std.proofs.lemmas.List.Elements.{All-append, All-nil, All-cons}
use Rattle.std.proofs.lemmas.List.Folds.{list_any-append}
use Rattle.tk_base.specs.declared.access.Access.{Access}
use Rattle.tk_base.specs.declared.access.Access.TheVariants.{Fetch, Load, Store}
use Rattle.tk_base.specs.declared.access.Width.{Width}
use Rattle.tk_base.specs.declared.access.Width.TheVariants.{Half}
use Rattle.tk_base.specs.declared.access.Rule.{Rule}
use Rattle.tk_base.specs.declared.access.Rule.TheVariants.{Breakpoint, Illegal, Misaligned}
use Rattle.tk_base.specs.declared.access.Denial.{Denial}
use Rattle.tk_base.specs.Regs.{Registers}
use Rattle.tk_base.specs.Access.{width_bytes, is_misaligned, misaligned_first}
use Rattle.tk_base.specs.Bus.{number_at}
use Rattle.tk_base.specs.Regs.{register}
use Rattle.rv32_model.specs.declared.instr.LoadKind.{LoadKind}
use Rattle.rv32_model.specs.declared.instr.Instr.{Instr}
use Rattle.rv32_model.specs.declared.instr.Instr.TheVariants as instrs
use Rattle.rv32_model.specs.declared.turn_end.TurnEnd.TheVariants.{Call, Trap, Went}
use Rattle.rv32_model.specs.Laws.{Denies, stores_at, AccessesArePermitted, DataIsAligned, DeniedTurnsChangeNothing}
use Rattle.rv32_model.specs.Laws.{OnlyStoresWrite, WritesArePermitted}
use Rattle.rv32_model.specs.Stretch.{StoppedTurnsChangeNothing}
use Rattle.rv32_model.proofs.Lengths.{length_of}
use Rattle.rv32_model.specs.UserTurn.{MemoryAccess, UserTurn, denied_at, trapped, user_turn, on_word, executed, fetched}
use Rattle.rv32_model.specs.UserTurn.{after_write, after_load, after_store, effect, fetches, load_width, touch_of}
use Rattle.rv32_model.specs.UserTurn.{w32_of, judged_parcel, with_first, with_second, parcel_at, instr_of}
use Rattle.std.proofs.lemmas.Bool.{or_parts, cond_both}

-- a turn that does not go changes nothing, and a denied one lists no access
Kept : (ℕ → ℕ) → Registers → UserTurn → Type 0
Kept bytes regs t =
    (t.end ≢ Went → (t.regs ≡ regs) × (after_write t.write bytes ≡ bytes))
    × ((denial : Denial) → t.end ≡ Trap denial → t.accesses ≡ [])

went : (bytes : ℕ → ℕ) (regs : Registers) (t : UserTurn) → t.end ≡ Went → Kept bytes regs t
unfolding Kept
went bytes regs t e = (λ n. absurd (n e), λ d f. cc)

denied_kept : (bytes : ℕ → ℕ) (regs : Registers) (denial : Denial) → Kept bytes regs (trapped regs denial)
unfolding Kept
denied_kept bytes regs denial = (λ n. (refl, refl), λ d f. refl)

call_kept : (bytes : ℕ → ℕ) (length : ℕ) (regs : Registers)
    → Kept bytes regs (record { regs = regs; write = None; accesses = fetches length regs; end = Call })
unfolding Kept
call_kept bytes length regs = (λ n. (refl, refl), λ d f. cc)

load_kept : (bytes : ℕ → ℕ) (length : ℕ) (regs : Registers) (kind : LoadKind) (rd at number : ℕ) (o : Option Rule)
    → Kept bytes regs (after_load length regs kind rd at number o)
load_kept bytes length regs kind rd at number None =
    went bytes regs (after_load length regs kind rd at number None) refl
load_kept bytes length regs kind rd at number (Some rule) = denied_kept bytes regs (denied_at Load at rule)

store_kept : (bytes : ℕ → ℕ) (length : ℕ) (regs : Registers) (width : Width) (at value : ℕ) (o : Option Rule)
    → Kept bytes regs (after_store length regs width at value o)
store_kept bytes length regs width at value None = went bytes regs (after_store length regs width at value None) refl
store_kept bytes length regs width at value (Some rule) = denied_kept bytes regs (denied_at Store at rule)

effect_kept : (denies : Denies) (bytes : ℕ → ℕ) (length : ℕ) (i : Instr) (regs : Registers)
    → Kept bytes regs (effect denies bytes length i regs)
effect_kept denies bytes length (instrs.Load kind rd rs1 offset) regs =
    let at = w32_of (register regs rs1 + offset) in
    load_kept bytes length regs kind rd at (number_at bytes at (load_width kind))
    (misaligned_first denies Load at (load_width kind))
effect_kept denies bytes length (instrs.Store width rs1 rs2 offset) regs =
    let at = w32_of (register regs rs1 + offset) in
    store_kept bytes length regs width at (register regs rs2) (misaligned_first denies Store at width)
effect_kept denies bytes length instrs.Ecall regs = call_kept bytes length regs
effect_kept denies bytes length instrs.Ebreak regs = denied_kept bytes regs (denied_at Fetch regs.pc Breakpoint)
effect_kept denies bytes length i regs = went bytes regs _ refl

executed_kept : (denies : Denies) (bytes : ℕ → ℕ) (length : ℕ) (o : Option Instr) (regs : Registers)
    → Kept bytes regs (executed denies bytes length o regs)
unfolding executed
executed_kept denies bytes length (Some i) regs = effect_kept denies bytes length i regs
executed_kept denies bytes length None regs = denied_kept bytes regs (denied_at Fetch regs.pc Illegal)

word_kept : (denies : Denies) (bytes : ℕ → ℕ) (r : Result ℕ Denial) (regs : Registers)
    → Kept bytes regs (on_word denies bytes r regs)
unfolding on_word
word_kept denies bytes (Ok word) regs = executed_kept denies bytes (length_of word) (instr_of word) regs
word_kept denies bytes (Err denial) regs = denied_kept bytes regs denial

turn_kept : (denies : Denies) (bytes : ℕ → ℕ) (regs : Registers) → Kept bytes regs (user_turn denies bytes regs)
unfolding user_turn
turn_kept denies bytes regs = word_kept denies bytes (fetched denies bytes regs.pc) regs

pub stopped_turns_change_nothing : StoppedTurnsChangeNothing
unfolding Kept
stopped_turns_change_nothing denies bytes regs n = (turn_kept denies bytes regs).0 n

pub denied_turns_change_nothing : DeniedTurnsChangeNothing
unfolding Kept
denied_turns_change_nothing denies bytes regs d e =
    let kept = turn_kept denies bytes regs in
    let nothing = kept.0 (λ w. cc) in
    (nothing.0, nothing.1, kept.1 d e)

-- what holds of each fetch, and of each load and store that is not denied, holds of each access
load_touches : (P : MemoryAccess → Type 0) (length : ℕ) (regs : Registers) (kind : LoadKind) (rd at number : ℕ)
    (o : Option Rule) → All P (fetches length regs) → (o ≡ None → P (touch_of Load at (load_width kind)))
    → All P (after_load length regs kind rd at number o).accesses
load_touches P length regs kind rd at number None f p =
    All-append P (fetches length regs) _ f (All-cons P _ [] (p refl) (All-nil P))
load_touches P length regs kind rd at number (Some rule) f p = All-nil P

store_touches : (P : MemoryAccess → Type 0) (length : ℕ) (regs : Registers) (width : Width) (at value : ℕ)
    (o : Option Rule) → All P (fetches length regs) → (o ≡ None → P (touch_of Store at width))
    → All P (after_store length regs width at value o).accesses
store_touches P length regs width at value None f p =
    All-append P (fetches length regs) _ f (All-cons P _ [] (p refl) (All-nil P))
store_touches P length regs width at value (Some rule) f p = All-nil P

effect_touches : (P : MemoryAccess → Type 0) (denies : Denies) (bytes : ℕ → ℕ) (length : ℕ) (i : Instr)
    (regs : Registers) → All P (fetches length regs)
    → ((access : Access) (at : ℕ) (width : Width) → misaligned_first denies access at width ≡ None
    → P (touch_of access at width)) → All P (effect denies bytes length i regs).accesses
effect_touches P denies bytes length (instrs.Load kind rd rs1 offset) regs f p =
    let at = w32_of (register regs rs1 + offset) in
    load_touches P length regs kind rd at (number_at bytes at (load_width kind))
    (misaligned_first denies Load at (load_width kind)) f (p Load at (load_width kind))
effect_touches P denies bytes length (instrs.Store width rs1 rs2 offset) regs f p =
    let at = w32_of (register regs rs1 + offset) in
    store_touches P length regs width at (register regs rs2) (misaligned_first denies Store at width) f
    (p Store at width)
effect_touches P denies bytes length instrs.Ebreak regs f p = All-nil P
effect_touches P denies bytes length i regs f p = f

executed_touches : (P : MemoryAccess → Type 0) (denies : Denies) (bytes : ℕ → ℕ) (length : ℕ) (o : Option Instr)
    (regs : Registers) → All P (fetches length regs)
    → ((access : Access) (at : ℕ) (width : Width) → misaligned_first denies access at width ≡ None
    → P (touch_of access at width)) → All P (executed denies bytes length o regs).accesses
unfolding executed
executed_touches P denies bytes length (Some i) regs f p = effect_touches P denies bytes length i regs f p
executed_touches P denies bytes length None regs f p = All-nil P

-- an instruction was fetched only where each of its parcels is permitted
second_word : (first second : ℕ) (at : ℕ) (o : Option Rule) (word : ℕ)
    → with_second first (judged_parcel at o second) ≡ Ok word → o ≡ None
second_word first second at None word e = refl
second_word first second at (Some rule) word e = cc

-- what is known of the second parcel where the instruction has one
SecondPermitted : Denies → ℕ → ℕ → Type 0
SecondPermitted denies pc length = (length == 2) ≡ false → denies Fetch (w32_of (pc + 2)) Half ≡ None

one_parcel : (denies : Denies) (pc word : ℕ) → (word % 4 == 3) ≡ false → SecondPermitted denies pc (length_of word)
unfolding SecondPermitted
one_parcel denies pc word t n = absurd (grind (arith, nat_tests))

with_first_permitted : (denies : Denies) (bytes : ℕ → ℕ) (pc first word : ℕ) (b : Bool) → (first % 4 == 3) ≡ b
    → (if b then with_second first (parcel_at denies bytes (w32_of (pc + 2))) else Ok first) ≡ Ok word
    → SecondPermitted denies pc (length_of word)
unfolding SecondPermitted
with_first_permitted denies bytes pc first word true t e n =
    second_word first (number_at bytes (w32_of (pc + 2)) Half) (w32_of (pc + 2)) (denies Fetch (w32_of (pc + 2)) Half)
    word e
with_first_permitted denies bytes pc first word false t e n =
    let same : first ≡ word = cc in
    one_parcel denies pc word (ap (λ x. x % 4 == 3) (sym same) ∙ t) n

first_permitted : (denies : Denies) (bytes : ℕ → ℕ) (pc first : ℕ) (o : Option Rule) (word : ℕ)
    → with_first denies bytes pc (judged_parcel pc o first) ≡ Ok word
    → (o ≡ None) × SecondPermitted denies pc (length_of word)
first_permitted denies bytes pc first None word e =
    (refl, with_first_permitted denies bytes pc first word (first % 4 == 3) refl e)
first_permitted denies bytes pc first (Some rule) word e = cc

word_permitted : (denies : Denies) (bytes : ℕ → ℕ) (pc word : ℕ) → fetched denies bytes pc ≡ Ok word
    → (denies Fetch pc Half ≡ None) × SecondPermitted denies pc (length_of word)
unfolding fetched
word_permitted denies bytes pc word e =
    first_permitted denies bytes pc (number_at bytes pc Half) (denies Fetch pc Half) word e

fetches_each : (P : MemoryAccess → Type 0) (length : ℕ) (regs : Registers) → P (touch_of Fetch regs.pc Half)
    → ((length == 2) ≡ false → P (touch_of Fetch (w32_of (regs.pc + 2)) Half)) → All P (fetches length regs)
fetches_each P length regs p q =
    All-cons P (touch_of Fetch regs.pc Half) _ p
    (cond_both (length == 2) [] _ (All P) (λ one. All-nil P) (λ two. All-cons P _ [] (q two) (All-nil P)))

-- what holds of each permitted fetch, and of each load and store that is not denied
Holds : Denies → (MemoryAccess → Type 0) → Type 0
Holds denies P =
    ((at : ℕ) → denies Fetch at Half ≡ None → P (touch_of Fetch at Half))
    × ((access : Access) (at : ℕ) (width : Width) → misaligned_first denies access at width ≡ None
    → P (touch_of access at width))

word_touches : (P : MemoryAccess → Type 0) (denies : Denies) (bytes : ℕ → ℕ) (regs : Registers) (r : Result ℕ Denial)
    → fetched denies bytes regs.pc ≡ r → Holds denies P → All P (on_word denies bytes r regs).accesses
unfolding on_word Holds SecondPermitted
word_touches P denies bytes regs (Ok word) e h =
    let both = word_permitted denies bytes regs.pc word e in
    executed_touches P denies bytes (length_of word) (instr_of word) regs
    (fetches_each P (length_of word) regs (h.0 regs.pc both.0) (λ n. h.0 (w32_of (regs.pc + 2)) (both.1 n))) h.1
word_touches P denies bytes regs (Err denial) e h = All-nil P

turn_touches : (P : MemoryAccess → Type 0) (denies : Denies) (bytes : ℕ → ℕ) (regs : Registers) → Holds denies P
    → All P (user_turn denies bytes regs).accesses
unfolding user_turn
turn_touches P denies bytes regs h = word_touches P denies bytes regs (fetched denies bytes regs.pc) refl h

none_first : (b : Bool) (o : Option Rule) (rule : Rule) → (if b then Some rule else o) ≡ None → (b ≡ false) × (o ≡ None)
none_first true o rule e = cc
none_first false o rule e = (refl, e)

-- what is not denied, misaligned first, is permitted and aligned
data_permitted : (denies : Denies) (access : Access) (at : ℕ) (width : Width)
    → misaligned_first denies access at width ≡ None → denies access at width ≡ None
data_permitted denies access at width e =
    (none_first (is_misaligned access at width) (denies access at width) Misaligned e).1

data_aligned : (denies : Denies) (access : Access) (at : ℕ) (width : Width)
    → misaligned_first denies access at width ≡ None → access ≢ Fetch → at % width_bytes width ≡ 0
data_aligned denies Fetch at width e n = absurd (n refl)
data_aligned denies access at width e n = let aligned =
    (none_first (is_misaligned access at width) (denies access at width) Misaligned e).0 in grind (arith, nat_tests)

pub accesses_are_permitted : AccessesArePermitted
unfolding Holds
accesses_are_permitted denies bytes regs =
    turn_touches (λ t. denies t.access t.address t.width ≡ None) denies bytes regs ((λ at h. h), data_permitted denies)

pub data_is_aligned : DataIsAligned
unfolding Holds
data_is_aligned denies bytes regs =
    turn_touches (λ t. t.access ≢ Fetch → t.address % width_bytes t.width ≡ 0) denies bytes regs
    ((λ at h n. absurd (n refl)), data_aligned denies)

-- a byte that no store covers stays
Stays : ℕ → (ℕ → ℕ) → UserTurn → Type 0
Stays at bytes t = list_any (stores_at at) t.accesses ≡ false → after_write t.write bytes at ≡ bytes at

none_of : (x y : Bool) → (x || (y || false)) ≡ false → y ≡ false
none_of x y e = (or_parts y false (or_parts x (y || false) e).1).0

store_stays : (a : ℕ) (bytes : ℕ → ℕ) (length : ℕ) (regs : Registers) (width : Width) (at value : ℕ) (o : Option Rule)
    → Stays a bytes (after_store length regs width at value o)
unfolding Stays
store_stays a bytes length regs width at value None e =
    let both : (list_any (stores_at a) (fetches length regs) || (stores_at a (touch_of Store at width) || false))
    ≡ false = sym (list_any-append (stores_at a) (fetches length regs) (touch_of Store at width ∷ [])) ∙ e in
    let last : stores_at a (touch_of Store at width) ≡ false =
    none_of (list_any (stores_at a) (fetches length regs)) (stores_at a (touch_of Store at width)) both in
    simp last
store_stays a bytes length regs width at value (Some rule) e = refl

effect_stays : (a : ℕ) (denies : Denies) (bytes : ℕ → ℕ) (length : ℕ) (i : Instr) (regs : Registers)
    → Stays a bytes (effect denies bytes length i regs)
unfolding Stays
effect_stays a denies bytes length (instrs.Load kind rd rs1 offset) regs e =
    let at = w32_of (register regs rs1 + offset) in
    elim (misaligned_first denies Load at (load_width kind)) as (λ o. after_write (after_load length regs kind rd at
    (number_at bytes at (load_width kind)) o).write bytes a ≡ bytes a) [ None ↦ refl | Some rule ↦ refl ]
effect_stays a denies bytes length (instrs.Store width rs1 rs2 offset) regs e =
    let at = w32_of (register regs rs1 + offset) in
    store_stays a bytes length regs width at (register regs rs2) (misaligned_first denies Store at width) e
effect_stays a denies bytes length i regs e = refl

executed_stays : (a : ℕ) (denies : Denies) (bytes : ℕ → ℕ) (length : ℕ) (o : Option Instr) (regs : Registers)
    → Stays a bytes (executed denies bytes length o regs)
unfolding Stays executed
executed_stays a denies bytes length (Some i) regs e = effect_stays a denies bytes length i regs e
executed_stays a denies bytes length None regs e = refl

word_stays : (a : ℕ) (denies : Denies) (bytes : ℕ → ℕ) (r : Result ℕ Denial) (regs : Registers)
    → Stays a bytes (on_word denies bytes r regs)
unfolding Stays on_word
word_stays a denies bytes (Ok word) regs e = executed_stays a denies bytes (length_of word) (instr_of word) regs e
word_stays a denies bytes (Err denial) regs e = refl

pub only_stores_write : OnlyStoresWrite
unfolding Stays user_turn
only_stores_write denies bytes regs a e = word_stays a denies bytes (fetched denies bytes regs.pc) regs e

-- what a turn writes it may store
Permitted : Denies → UserTurn → Type 0
Permitted denies t = IfSome t.write (λ w. denies Store w.address w.width ≡ None)

store_permitted : (denies : Denies) (length : ℕ) (regs : Registers) (width : Width) (at value : ℕ) (o : Option Rule)
    → o ≡ misaligned_first denies Store at width → Permitted denies (after_store length regs width at value o)
unfolding Permitted
store_permitted denies length regs width at value None e = data_permitted denies Store at width (sym e)
store_permitted denies length regs width at value (Some rule) e = tt

effect_permitted : (denies : Denies) (bytes : ℕ → ℕ) (length : ℕ) (i : Instr) (regs : Registers)
    → Permitted denies (effect denies bytes length i regs)
unfolding Permitted
effect_permitted denies bytes length (instrs.Load kind rd rs1 offset) regs =
    let at = w32_of (register regs rs1 + offset) in
    elim (misaligned_first denies Load at (load_width kind)) as (λ o. IfSome (after_load length regs kind rd at
    (number_at bytes at (load_width kind)) o).write (λ w. denies Store w.address w.width ≡ None))
    [ None ↦ tt | Some rule ↦ tt ]
effect_permitted denies bytes length (instrs.Store width rs1 rs2 offset) regs =
    let at = w32_of (register regs rs1 + offset) in
    store_permitted denies length regs width at (register regs rs2) (misaligned_first denies Store at width) refl
effect_permitted denies bytes length i regs = tt

executed_permitted : (denies : Denies) (bytes : ℕ → ℕ) (length : ℕ) (o : Option Instr) (regs : Registers)
    → Permitted denies (executed denies bytes length o regs)
unfolding Permitted executed
executed_permitted denies bytes length (Some i) regs = effect_permitted denies bytes length i regs
executed_permitted denies bytes length None regs = tt

run_permitted : (denies : Denies) (bytes : ℕ → ℕ) (r : Result ℕ Denial) (regs : Registers)
    → Permitted denies (on_word denies bytes r regs)
unfolding Permitted on_word
run_permitted denies bytes (Ok word) regs = executed_permitted denies bytes (length_of word) (instr_of word) regs
run_permitted denies bytes (Err denial) regs = tt

pub writes_are_permitted : WritesArePermitted
unfolding Permitted user_turn
writes_are_permitted denies bytes regs = run_permitted denies bytes (fetched denies bytes regs.pc) regs
