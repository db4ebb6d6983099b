-- Worked cases, computed from the definitions: what laws of this crate have, and a step of a wrong kernel that each
-- refuses.
use Rattle.std.proofs.Common.{◌≡◌, ℕ, List, [], ◌∷◌, length, Option, None, Some, refl, sym, ap, ◌∙◌, arith}
use Rattle.std.proofs.lemmas.Bool.{false≢true}
use Rattle.tk_base.specs.declared.access.TheConstants.{FLASH_START}
use Rattle.tk_base.specs.declared.kinds.PairKind.TheVariants.{Upcall}
use Rattle.tk_base.specs.declared.process.Verb.TheVariants as verbs
use Rattle.tk_base.specs.declared.upcall.Upcall.{Upcall as Scheduled}
use Rattle.tk_base.specs.declared.upcall.Wait.{Wait}
use Rattle.tk_base.specs.declared.upcall.Wait.TheVariants.{For, No}
use Rattle.upcall_queue.specs.declared.inbox.Inbox.{Inbox}
use Rattle.grant_values.specs.Drivers.{counts_of, drivers}
use Rattle.grant_values.specs.Values.{value_words}
use Rattle.grant_values.specs.Words.{WordsInBytes, words_of}
use Rattle.grant_model.specs.Encoding.{IsSound, Tells, decode_grants, encode_grants}
use Rattle.grant_model.specs.Grants.{Grant, fresh, shape_of}
use Rattle.grant_model.specs.Laws.{ArePair, IsAreaOf, IsValue}
use Rattle.grant_model.proofs.Exchange.{pairs-are-found}
use Rattle.grant_model.proofs.Values.{values-are-found}
use Rattle.process_model.specs.Handed.{handing}
use Rattle.process_record.specs.Parts.{cleared}
use Rattle.kernel_model.specs.Record.{Record}
use Rattle.kernel_model.specs.Turn.{Act, TurnTrace, untraced}
use Rattle.kernel_model.specs.Worked.{standing}
use Rattle.kernel_histories.specs.Deliveries.{IsSubscribed}
use Rattle.kernel_histories.specs.Inboxes.{AnswersLeaveInbox, LeavesInbox}

-- a process that has subscribed a function for its alarm, and two upcalls of it
abbrev subscribed : Record
subscribed =
    let r = standing (0x73 ∷ 0 ∷ 0 ∷ 0 ∷ []) 256 (cleared FLASH_START) in
    record r { own = handing Upcall 0x0 0 (0x20000, 9) r.own }

abbrev upcall : ℕ → Scheduled
upcall time = record { driver = 0x0; number = 0; function = 0x20000; app = 9; args = time ∷ 0 ∷ 0 ∷ [] }

-- so many of them wait for it
abbrev waiting : List Scheduled → Record
waiting pending = record subscribed {
  own = record subscribed.own {
    inbox = record subscribed.own.inbox
        { pending = pending };
  };
}

-- a turn that makes a yield of a number
abbrev yields : ℕ → TurnTrace
yields number = record untraced {
  call = Some (record { class = 0; args = number ∷ 0 ∷ 0 ∷ 0 ∷ []; reply = None; rule = None });
}

-- An upcall that waits: the one that is subscribed; a kernel that runs another function.
is_the_one : IsSubscribed subscribed.own (upcall 7)
unfolding counts_of drivers shape_of
is_the_one = (refl, λ null. omega (arith, null))

none_of_another : IsSubscribed subscribed.own (record (upcall 7) { function = 0x30000 }) → ⊥
unfolding counts_of drivers shape_of
none_of_another is = let function = ap (λ (pair : ℕ × ℕ). pair.0) is.0 in omega (arith, function)

-- A yield with 0 takes the first of two; a kernel that loses the other one on the way.
one_is_taken : LeavesInbox (waiting (upcall 7 ∷ upcall 8 ∷ [])) (waiting (upcall 8 ∷ [])) (yields 0)
unfolding counts_of drivers shape_of
one_is_taken = record { inbox = λ free can. refl }

none_is_lost : LeavesInbox (waiting (upcall 7 ∷ upcall 8 ∷ [])) (waiting []) (yields 0) → ⊥
unfolding counts_of drivers shape_of
none_is_lost leaves =
    let same : ◌≡◌ {A = List Scheduled} [] (upcall 8 ∷ [])
    = ap (λ (x : Inbox). x.pending) (leaves.inbox refl (λ ends. absurd (false≢true ends))) in
    cc

-- nor does one come in a turn that makes no call
none_comes_alone : LeavesInbox (waiting []) (waiting (upcall 7 ∷ [])) untraced → ⊥
unfolding counts_of drivers shape_of
none_comes_alone leaves =
    let same : ◌≡◌ {A = List Scheduled} (upcall 7 ∷ []) []
    = ap (λ (x : Inbox). x.pending) (leaves.inbox refl (λ ends. absurd (false≢true ends))) in
    cc

-- A process that asks for one upcall alone waits for that; a kernel that has it wait for any.
none_waits_for_any : LeavesInbox (waiting []) (waiting []) (yields 2) → ⊥
unfolding counts_of drivers shape_of
none_waits_for_any leaves =
    let same : ◌≡◌ {A = Wait} No (For 0 0)
    = ap (λ (x : Inbox). x.wait) (leaves.inbox refl (λ ends. absurd (false≢true ends))) in
    cc

-- An operator's list leaves what waits; a kernel that drops it.
list_leaves : AnswersLeaveInbox (Act verbs.List) (waiting (upcall 7 ∷ [])) (waiting (upcall 7 ∷ []))
list_leaves can = refl

none_dropped_by_a_list : AnswersLeaveInbox (Act verbs.List) (waiting (upcall 7 ∷ [])) (waiting []) → ⊥
none_dropped_by_a_list leaves =
    let same : ◌≡◌ {A = List Scheduled} [] (upcall 7 ∷ [])
    = ap (λ (x : Inbox). x.pending) (leaves (λ ends. absurd (false≢true ends))) in
    cc

-- The grant of a process that has subscribed a function for its buttons, as bytes: they tell it; a kernel that forgets
-- it, and one that looks for its area, for its pair or for its value in another place.
abbrev grant : Grant
grant = record (fresh 0x3) { pairs = (5, 6) ∷ [] }

abbrev laid : List ℕ
laid = encode_grants (grant ∷ [])

is_sound : IsSound grant
unfolding counts_of drivers shape_of
is_sound = record {
  known = refl;
  driver = omega arith;
  pairs = refl;
  words = (omega arith, (omega arith, tt));
  value = record { count = refl; words = (omega arith, (omega arith, (omega arith, (omega arith, tt)))); told = refl };
  cost = omega arith;
}

tells_it : Tells laid (grant ∷ [])
unfolding counts_of drivers shape_of decode_grants words_of
tells_it = record { laid = record { bytes = refl; sound = (is_sound, tt) }; grants = refl }

none_is_forgotten : Tells laid [] → ⊥
unfolding counts_of drivers shape_of decode_grants words_of
none_is_forgotten tells =
    let count : 1 ≡ 0 = ap (λ (grants : List Grant). length grants) tells.grants in omega (arith, count)

area_is_there : IsAreaOf 0x3 laid (record { offset = 0; cost = 32 })
unfolding counts_of drivers shape_of decode_grants words_of
area_is_there = record { grant = grant; is = refl; within = omega arith; second = refl }

none_further_on : IsAreaOf 0x3 laid (record { offset = 4; cost = 32 }) → ⊥
unfolding counts_of drivers shape_of decode_grants words_of
none_further_on area = let second : 5 ≡ 32 = area.second in omega (arith, second)

pair_is_there : WordsInBytes → ArePair laid 2 Upcall 0x3 0
unfolding counts_of drivers shape_of decode_grants words_of
pair_is_there law =
    (pairs-are-found law).at Upcall 0x3 0 laid (record { offset = 0; cost = 32 }) tells_it.laid refl (omega arith)

none_a_word_on : ArePair laid 3 Upcall 0x3 0 → ⊥
unfolding counts_of drivers shape_of decode_grants words_of
none_a_word_on pair = let first : 6 ≡ 5 = pair.first in omega (arith, first)

value_is_there : WordsInBytes → IsValue laid 16 16 0x3
unfolding counts_of drivers shape_of decode_grants words_of
value_is_there law =
    (values-are-found law).at 0x3 laid (record { offset = 0; cost = 32 }) tells_it.laid refl

none_shorter_value : IsValue laid 16 12 0x3 → ⊥
unfolding counts_of drivers shape_of decode_grants words_of
none_shorter_value value = by_grant value.grant value.is value.taken
  where
    by_grant : (g : Grant) → ◌≡◌ {A = Option Grant} (Some grant) (Some g)
        → ◌≡◌ {A = List ℕ} (0 ∷ 0 ∷ 0 ∷ []) (value_words g.value) → ⊥
    by_grant g is taken =
        let same : grant ≡ g = cc in
        let count : 3 ≡ 4 = ap (λ (words : List ℕ). length words) (taken
        ∙ sym (ap (λ (x : Grant). value_words x.value) same)) in
        omega (arith, count)
