-- A script is read line by line; and none of its lines lets an operator act where an earlier one divides time, nor does
-- one divide time where an earlier one is an event: the first is unknown there, and the second stands out of order. So
-- it is kept by each line that breaks no rule, one case for each line of the table, and by induction on the lines.
use Rattle.std.proofs.Common.{◌≡◌, ◌≤◌, ℕ, suc, ◌+◌, ◌-◌, ◌&&◌, ◌∷◌, ◌++◌, nat_lt, not, Bool, true, false, cond, List}
use Rattle.std.proofs.Common.{[], drop, filter_map, length, take, Option, None, Some, option_map, Ok, refl, sym, ap}
use Rattle.std.proofs.Common.{subst, ◌∙◌, arith}
use Rattle.std.specs.List.{cons_option, enumerate_from}
use Rattle.std.specs.Option.{option_map_or}
use Rattle.std.specs.Prelude.{All}
use Rattle.std.proofs.lemmas.Bool.{false≢true}
use Rattle.std.proofs.lemmas.Bool.Decides.{nat_tests}
use Rattle.std.proofs.lemmas.List.Elements.{All-append, All-cons, All-nil}
use Rattle.script_text.specs.declared.rule.ScriptRule.{ScriptRule}
use Rattle.script_text.specs.declared.rule.ScriptRule.TheVariants.{BadHex, BadNumber, Order, OutOfRange, Repeated}
use Rattle.script_text.specs.declared.rule.ScriptRule.TheVariants.{TooMany, UnknownWord, Words}
use Rattle.script_text.specs.declared.table.Line.{Line}
use Rattle.script_text.specs.declared.table.Line.TheVariants.{Act, Buttons, FilterOpen, FilterStrict, Input, Leds}
use Rattle.script_text.specs.declared.table.Line.TheVariants.{Partition, Press, Ram, Random, Release, Restart, Slice}
use Rattle.script_text.specs.declared.table.Line.TheVariants.{Start, Stop, Storage, StorageFault, Threshold, Uart}
use Rattle.script_text.specs.Progress.{with_line}
use Rattle.script_text.specs.Reading.{Fault, fault_of, faults, reading, unless_fault}
use Rattle.script_text.specs.Rules.{breaks_rule, broken, disorders, is_unknown, skips}
use Rattle.script_text.specs.Said.{event_by, lines_of, settings}
use Rattle.script_text.specs.Settings.{ScriptEvent, ScriptSettings as Script}
use Rattle.script_text.specs.Table.{line_of}
use Rattle.script_text.specs.Text.{lines, words}
use Rattle.script_text.proofs.Faults.{all_passed, one_less, one_more}
use Rattle.script_text.proofs.Said.{settings_skipped, settings_with}
use Rattle.kernel_partitions.specs.Alike.{IsNoAct}
use Rattle.board_partitions.specs.Scripts.{ScriptsWithPartitionsHaveNoActs}

-- where settings divide time, no operator acts
abbrev ActsNowhere : Script → Type 0
ActsNowhere s = 1 ≤ s.partition → All IsNoAct s.events

-- a line that breaks no rule is known, does not repeat, and stands in order
record IsUnbroken (unknown repeats disorders : Bool) : Type 0 where
  known : unknown ≡ false
  once : repeats ≡ false
  ordered : disorders ≡ false

none_broken : (u c s h o a r m : Bool)
    → cond u (Some UnknownWord) (cond c (Some Words) (cond s (Some BadNumber) (cond h (Some BadHex)
    (cond o (Some OutOfRange) (cond a (Some Repeated) (cond r (Some Order) (cond m (Some TooMany) None))))))) ≡ None
    → IsUnbroken u a r
none_broken true c s h o a r m e = absurd (cc)
none_broken false true s h o a r m e = absurd (cc)
none_broken false false true h o a r m e = absurd (cc)
none_broken false false false true o a r m e = absurd (cc)
none_broken false false false false true a r m e = absurd (cc)
none_broken false false false false false true r m e = absurd (cc)
none_broken false false false false false false true m e = absurd (cc)
none_broken false false false false false false false m e = record { known = refl; once = refl; ordered = refl }

-- no events stand where their number is 0
none_stand : (events : List ScriptEvent) → nat_lt 0 (length events) ≡ false → events ≡ []
none_stand [] none = refl
none_stand (e ∷ events) none = absurd (some_stand (length events) none)
  where
    some_stand : (n : ℕ) → nat_lt 0 (suc n) ≡ false → ⊥
    some_stand n none = absurd (grind (arith, nat_tests))

-- an event more that is no act
one_event : (s : Script) (e : ScriptEvent) → IsNoAct e → ActsNowhere s
    → ActsNowhere (record s { events = s.events ++ e ∷ [] })
one_event s e none before = λ some.
    All-append IsNoAct s.events (e ∷ []) (before some) (All-cons IsNoAct e [] none (All-nil IsNoAct))

-- what one line more says
with_one : (line : Line) (ws : List (List ℕ)) (s : Script) → is_unknown (nat_lt 0 s.partition) line ≡ false
    → disorders line s ws ≡ false → ActsNowhere s → ActsNowhere (with_line line ws s)
with_one Ram ws s known ordered before = before
with_one Leds ws s known ordered before = before
with_one Buttons ws s known ordered before = before
with_one Slice ws s known ordered before = before
with_one Partition ws s known ordered before = λ some.
    subst (All IsNoAct) (sym (none_stand s.events ordered)) (All-nil IsNoAct)
with_one Start ws s known ordered before = before
with_one Uart ws s known ordered before = before
with_one Storage ws s known ordered before = before
with_one Stop ws s known ordered before = before
with_one Restart ws s known ordered before = before
with_one Threshold ws s known ordered before = before
with_one FilterOpen ws s known ordered before = before
with_one FilterStrict ws s known ordered before = before
with_one StorageFault ws s known ordered before = before
with_one Random ws s known ordered before = before
with_one Input ws s known ordered before = one_event s (event_by Input ws) refl before
with_one Press ws s known ordered before = one_event s (event_by Press ws) refl before
with_one Release ws s known ordered before = one_event s (event_by Release ws) refl before
with_one Act ws s known ordered before = λ some. absurd (not_both s.partition some known)
  where
    not_both : (n : ℕ) → 1 ≤ n → nat_lt 0 n ≡ false → ⊥
    not_both n some none = absurd (grind (arith, nat_tests))

line_keeps : (before : List (List ℕ)) (text : List ℕ) → broken before text ≡ None → ActsNowhere (settings before)
    → ActsNowhere (settings (before ++ text ∷ []))
unfolding broken
line_keeps before text whole nowhere = by_words (skips (words text)) refl (line_of (words text)) refl whole
  where
    ws : List (List ℕ)
    ws = words text

    by_line : (o : Option Line) → line_of ws ≡ o
        → IsUnbroken (option_map_or (breaks_rule UnknownWord before ws) o true)
        (option_map_or (breaks_rule Repeated before ws) o false) (option_map_or (breaks_rule Order before ws) o false)
        → ActsNowhere (settings (before ++ text ∷ []))
    by_line None is unbroken = absurd (false≢true (sym unbroken.known))
    by_line (Some line) is unbroken =
        subst ActsNowhere (sym (settings_with line before text is unbroken.once))
        (with_one line ws (settings before) unbroken.known unbroken.ordered nowhere)

    by_words : (skipped : Bool) → skips ws ≡ skipped → (o : Option Line) → line_of ws ≡ o
        → cond (not skipped && option_map_or (breaks_rule UnknownWord before ws) o true) (Some UnknownWord)
        (cond (not skipped && option_map_or (breaks_rule Words before ws) o false) (Some Words)
        (cond (not skipped && option_map_or (breaks_rule BadNumber before ws) o false) (Some BadNumber)
        (cond (not skipped && option_map_or (breaks_rule BadHex before ws) o false) (Some BadHex)
        (cond (not skipped && option_map_or (breaks_rule OutOfRange before ws) o false) (Some OutOfRange)
        (cond (not skipped && option_map_or (breaks_rule Repeated before ws) o false) (Some Repeated)
        (cond (not skipped && option_map_or (breaks_rule Order before ws) o false) (Some Order)
        (cond (not skipped && option_map_or (breaks_rule TooMany before ws) o false) (Some TooMany) None))))))) ≡ None
        → ActsNowhere (settings (before ++ text ∷ []))
    by_words true is o line e = subst ActsNowhere (sym (settings_skipped before text is)) nowhere
    by_words false is o line e = by_line o line (none_broken _ _ _ _ _ _ _ _ e)

-- a line that has no fault breaks no rule
unbroken : (all : List (List ℕ)) (n : ℕ) (line : List ℕ) (more : List Fault)
    → cons_option (fault_of all (n + 1, line)) more ≡ []
    → (broken (take n all) line ≡ None) × (more ≡ [])
unbroken all n line more e =
    let same : n + 1 - 1 ≡ n = omega arith in
    let parts = no_fault (fault_of all (n + 1, line)) more e in (
      ap (λ (k : ℕ). broken (take k all) line) (sym same)
          ∙ no_rule (broken (take (n + 1 - 1) all) line) parts.0,
      parts.1,
    )
  where
    no_fault : (o : Option Fault) (more : List Fault) → cons_option o more ≡ [] → (o ≡ None) × (more ≡ [])
    no_fault None more e = (refl, e)
    no_fault (Some f) more e = absurd (cc)

    broken_by : ScriptRule → Fault
    broken_by rule = record { line = n + 1; rule = rule }

    no_rule : (o : Option ScriptRule) → option_map broken_by o ≡ None → o ≡ None
    no_rule None e = refl
    no_rule (Some rule) e = absurd (cc)

lines_keep : (all : List (List ℕ)) (rest : List (List ℕ)) (n : ℕ) → drop n all ≡ rest
    → filter_map (fault_of all) (enumerate_from (n + 1) rest) ≡ [] → ActsNowhere (settings (take n all))
    → ActsNowhere (settings all)
lines_keep all [] n left none nowhere =
    subst (λ (ls : List (List ℕ)). ActsNowhere (settings ls)) (all_passed all n left) nowhere
lines_keep all (line ∷ rest) n left none nowhere =
    let parts = unbroken all n line (filter_map (fault_of all) (enumerate_from (n + 1 + 1) rest)) none in
    lines_keep all rest (n + 1) (sym (one_less all n line rest left)) parts.1
    (subst (λ (ls : List (List ℕ)). ActsNowhere (settings ls)) (sym (one_more all n line rest left))
    (line_keeps (take n all) line parts.0 nowhere))

-- no lines divide time
nothing_said : ActsNowhere (settings [])
unfolding lines_of
nothing_said = λ some. absurd (omega (arith, some))

pub no_acts_are_read : ScriptsWithPartitionsHaveNoActs
unfolding reading faults
no_acts_are_read text script is some =
    let parts = read_whole (faults (lines text)) is in
    subst (λ (s : Script). 1 ≤ s.partition → All IsNoAct s.events) parts.1
    (lines_keep (lines text) (lines text) 0 refl parts.0 nothing_said) some
  where
    read_whole : (fs : List Fault) → unless_fault fs (settings (lines text)) ≡ Ok script
        → (fs ≡ []) × (settings (lines text) ≡ script)
    read_whole [] e = (refl, cc)
    read_whole (f ∷ fs) e = absurd (cc)
