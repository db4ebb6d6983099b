-- Settings stay in their ranges, and lists in their order: by the line that comes, one case for each line of the table
-- (`sound_with`). A line that breaks no rule of range has its number in range; a line that breaks no rule of order lies
-- behind the last one of its list, so what holds of neighbours holds with one more.
use Rattle.std.proofs.Common.{◌≡◌, ◌≤◌, ◌<◌, ◌+◌, ◌-◌, ◌/◌, ◌||◌, not, nat_lt, nat_le, ℕ, Bool, true, false, cond, List}
use Rattle.std.proofs.Common.{[], ◌∷◌, ◌++◌, map, length, find, drop, slice_index, slice_index_or, Option, Some, None}
use Rattle.std.proofs.Common.{◌&&◌, is_none, position, is_some, inl, inr, refl, sym, ap, subst, ◌∙◌, arith, rules}
use Rattle.std.proofs.Common.{length-append}
use Rattle.std.proofs.lemmas.Bool.{and_parts, eqb-true, ltb-false, leb-false, leb-true, not-false, or_parts}
use Rattle.std.proofs.lemmas.Bool.Decides.{nat_tests}
use Rattle.std.proofs.lemmas.Bool.{cases_lt}
use Rattle.std.proofs.lemmas.List.{get_or_append_left, get_or-append-add, drop_more, length-map, map-append}
use Rattle.std.proofs.lemmas.List.Elements.{All-append, All-cons, All-nil, filter_passes}
use Rattle.std.specs.List.{slice_split}
use Rattle.tk_base.specs.Limits.{IsRamSize}
use Rattle.tk_base.specs.declared.limits.TheConstants.{BUTTON_LIMIT, BYTE_TICKS_LIMIT, EVENT_LIMIT, FAULT_LIMIT}
use Rattle.tk_base.specs.declared.limits.TheConstants.{INPUT_LIMIT}
use Rattle.tk_base.specs.declared.limits.TheConstants.{LED_LIMIT, NAME_LIMIT, RAM_LEAST, RAM_LIMIT, RAM_UNIT}
use Rattle.tk_base.specs.declared.limits.TheConstants.{SLICE_LIMIT}
use Rattle.tk_base.specs.declared.limits.TheConstants.{STORAGE_LIMIT, WINDOW_LIMIT, WORD_LIMIT}
use Rattle.fault_policy.specs.declared.Policy.TheVariants as policies
use Rattle.decimal_number.specs.Number.{number}
use Rattle.script_text.specs.declared.line.Context.{Context}
use Rattle.script_text.specs.declared.table.Line.{Line}
use Rattle.script_text.specs.declared.table.Line.TheVariants.{Ram, Leds, Buttons, Slice, Partition, Uart}
use Rattle.script_text.specs.declared.table.Line.TheVariants.{Storage}
use Rattle.script_text.specs.declared.table.Line.TheVariants.{StorageFault, Random, Input}
use Rattle.script_text.specs.declared.table.Line.TheVariants.{Press, Release, Act}
use Rattle.script_text.specs.Alone.{IsLine}
use Rattle.script_text.specs.Progress.{with_line, stood_in}
use Rattle.script_text.specs.Rules.{disorders, exceeds, is_hex}
use Rattle.script_text.specs.Parts.{context_of}
use Rattle.script_text.specs.Said.{settings, lines_of, last, event_by}
use Rattle.script_text.specs.Parts.{hex_word}
use Rattle.script_text.specs.Settings as kinds
use Rattle.script_text.specs.Settings.{EventKind, ScriptSettings, ScriptEvent, AreSound, AreFaults, AreEvents}
use Rattle.script_text.specs.Settings.{IsKind, EachIsKind, NeverFalls, is_name}
use Rattle.script_text.specs.Parts.{is_visible}
use Rattle.script_text.specs.Table.{row, in_range}
use Rattle.script_text.specs.Text.{words, word}
use Rattle.script_text.specs.Parts.{is_blank, is_empty}
use Rattle.script_text.proofs.HexDigits.{length-hex_bytes}

allowed : (a b : Bool) → (not a || b) ≡ false → a ≡ true
allowed a b h = not-false a (or_parts (not a) b h).0

ram_size : (n : ℕ) → in_range (record { least = RAM_LEAST; most = RAM_LIMIT; multiple = RAM_UNIT }) n ≡ true
    → IsRamSize n
ram_size n h = record {
  least = grind (arith, nat_tests);
  most = grind (arith, nat_tests);
  multiple =
      grind (arith, nat_tests);
}

at_least : (least most n : ℕ) → in_range (record { least = least; most = most; multiple = 1 }) n ≡ true → least ≤ n
at_least least most n h = grind (arith, nat_tests)

at_most : (least most n : ℕ) → in_range (record { least = least; most = most; multiple = 1 }) n ≡ true → n ≤ most
at_most least most n h = grind (arith, nat_tests)

-- the number that is put behind others, and those before it
at_end : (xs : List ℕ) (x i : ℕ) → i ≡ length xs → slice_index (xs ++ x ∷ []) i ≡ x
at_end xs x i h = let e : i ≡ length xs + 0 = omega arith in
    ap (slice_index (xs ++ x ∷ [])) e ∙ get_or-append-add xs (x ∷ []) 0 0

before_end : (xs : List ℕ) (x i : ℕ) → i < length xs → slice_index (xs ++ x ∷ []) i ≡ slice_index xs i
before_end xs x i h = get_or_append_left xs (x ∷ []) 0 i h

-- what holds of neighbours holds with one number more
neighbours : (R : ℕ → ℕ → Type 0) (xs : List ℕ) (x : ℕ)
    → ((i : ℕ) → i + 1 < length xs → R (slice_index xs i) (slice_index xs (i + 1))) → (0 < length xs → R (last xs) x)
    → (i : ℕ) → i + 1 < length (xs ++ x ∷ []) → R (slice_index (xs ++ x ∷ []) i) (slice_index (xs ++ x ∷ []) (i + 1))
neighbours R xs x all new i l =
    let whole = length-append xs (x ∷ []) in
    elim (cases_lt (i + 1) (length xs)) [
      | inl below ↦ rw (before_end xs x i (omega arith), before_end xs x (i + 1) below) (all i below)
      | inr top ↦
          let here : i ≡ length xs - 1 = omega arith in
          let next : i + 1 ≡ length xs = omega arith in
          rw (before_end xs x i (omega arith), at_end xs x (i + 1) next, here) (new (omega arith))
    ]

faults_more : (ks : List ℕ) (k : ℕ) → 1 ≤ k → nat_le FAULT_LIMIT (length ks) ≡ false → nat_le k (last ks) ≡ false
    → AreFaults ks → AreFaults (ks ++ k ∷ [])
faults_more ks k some few above h = record {
  few = omega (arith, length-append ks (k ∷ []), leb-false FAULT_LIMIT (length ks) few);
  least = All-append (λ n. 1 ≤ n) ks (k ∷ []) h.least (All-cons (λ n. 1 ≤ n) k [] some (All-nil (λ n. 1 ≤ n)));
  rising = neighbours (λ a b. a < b) ks k h.rising (λ n. omega (arith, leb-false k (last ks) above));
}

-- the kind of an event
abbrev is_kind : ℕ → ScriptEvent → Type 0
is_kind buttons e = IsKind buttons e.kind

events_more : (buttons : ℕ) (es : List ScriptEvent) (e : ScriptEvent) → IsKind buttons e.kind
    → nat_le EVENT_LIMIT (length es) ≡ false → nat_lt e.time (last (map (λ v. v.time) es)) ≡ false
    → AreEvents buttons es → AreEvents buttons (es ++ e ∷ [])
events_more buttons es e kind few after h =
    let times = neighbours (λ a b. a ≤ b) (map (λ (v : ScriptEvent). v.time) es) e.time h.in_time
    (λ n. omega (arith, ltb-false e.time (last (map (λ (v : ScriptEvent). v.time) es)) after)) in
    record {
      few = omega (arith, length-append es (e ∷ []), leb-false EVENT_LIMIT (length es) few);
      in_time = subst NeverFalls (sym (map-append (λ (v : ScriptEvent). v.time) es (e ∷ []))) times;
      kinds = All-append (is_kind buttons) es (e ∷ []) h.kinds
          (All-cons (is_kind buttons) e [] kind (All-nil (is_kind buttons)));
    }

-- no events are those of any board
none_yet : (buttons : ℕ) (es : List ScriptEvent) → nat_lt 0 (length es) ≡ false → AreEvents buttons es
none_yet buttons [] h = record {
  few = omega arith;
  in_time = λ i l. absurd (omega arith);
  kinds = All-nil (is_kind buttons);
}
none_yet buttons (e ∷ es) h = absurd (omega (arith, ltb-false 0 (length (e ∷ es)) h))

-- the button of a line is one of the board
pub below : (context : Context) (ws : List (List ℕ)) (line : Line) → IsLine context ws line
    → (row line).form.button ≡ Some 3 → number (word ws 3) < context.buttons
below context ws line h e =
    leb-false context.buttons (number (word ws 3)) (or_parts _ _ (or_parts _ _ (rw e at h.within)).1).1

-- the name of a line is one, and not too long
pub named_at : (context : Context) (ws : List (List ℕ)) (line : Line) → IsLine context ws line
    → (row line).form.name ≡ Some 4 → is_name (word ws 4) ≡ true
named_at context ws line h e = not-false _ (or_parts _ _ (rw e at h.within)).0

pub short : (w : List ℕ) → is_name w ≡ true → length w ≤ NAME_LIMIT
short w h =
    let parts = and_parts (nat_le 1 (length w))
    (nat_le (length w) NAME_LIMIT && is_none (position (λ byte. not (is_visible byte)) w)) h in
    leb-true (length w) NAME_LIMIT (and_parts (nat_le (length w) NAME_LIMIT) _ parts.1).0

-- a board with more buttons has those that one with fewer has
kind_on_more : (few many : ℕ) → few ≤ many → (kind : EventKind) → IsKind few kind → IsKind many kind
kind_on_more few many h (kinds.Press button) k = omega (arith, h, k)
kind_on_more few many h (kinds.Release button) k = omega (arith, h, k)
kind_on_more few many h kind k = k

pub kinds_on_more : (few many : ℕ) (es : List ScriptEvent) → few ≤ many → EachIsKind few es → EachIsKind many es
kinds_on_more few many es h each = λ i d l. kind_on_more few many h (slice_index_or es i d).kind (each i d l)

-- a word has a byte
filled_by : (w : List ℕ) → not (is_empty w) ≡ true → 1 ≤ length w
filled_by [] h = cc
filled_by (b ∷ w) h = omega arith

filled : (text : List ℕ) (n : ℕ) → n < length (words text) → 1 ≤ length (word (words text) n)
unfolding words
filled text n l =
    filled_by (word (words text) n) (filter_passes (λ w. not (is_empty w)) (slice_split is_blank text) n [] l)

-- the first of some words is hex where none is not
first_hex : (p : Bool) (w : List ℕ) (rest : Option (List ℕ)) → is_some (cond (not p) (Some w) rest) ≡ false → p ≡ true
first_hex true w rest h = refl
first_hex false w rest h = cc

hex_at : (ws : List (List ℕ)) → length ws ≡ 4 → is_some (find (λ w. not (is_hex None w)) (drop 3 ws)) ≡ false
    → is_hex None (word ws 3) ≡ true
hex_at ws l h =
    first_hex (is_hex None (word ws 3)) (word ws 3) (find (λ w. not (is_hex None w)) (drop 4 ws))
    (ap (λ xs. is_some (find (λ w. not (is_hex None w)) xs)) (sym (drop_more ws 3 [] (omega arith))) ∙ h)

-- the settings with an event more
with_event : (s : ScriptSettings) (e : ScriptEvent) → IsKind s.buttons e.kind
    → nat_le EVENT_LIMIT (length s.events) ≡ false
    → nat_lt e.time (last (map (λ v. v.time) s.events)) ≡ false → AreSound s
    → AreSound (record s { events = s.events ++ e ∷ [] })
with_event s e kind few after a = assumption (events_more s.buttons s.events e kind few after a.events)

-- the settings with a line of the table more
pub sound_with : (line : Line) (text : List ℕ) (s : ScriptSettings) → IsLine (context_of s) (words text) line
    → disorders line s (words text) ≡ false → exceeds line s (words text) ≡ false → AreSound s
    → AreSound (with_line line (words text) s)
sound_with Ram text s h d x a = assumption (ram_size (number (word (words text) 1)) (allowed _ _ h.within))
sound_with Leds text s h d x a = assumption (at_most 0 LED_LIMIT (number (word (words text) 1)) (allowed _ _ h.within))
sound_with Buttons text s h d x a =
    assumption (
      at_most 0 BUTTON_LIMIT (number (word (words text) 1)) (allowed _ _ h.within),
      none_yet (number (word (words text) 1)) s.events d,
    )
sound_with Slice text s h d x a =
    assumption (
      at_least 1 SLICE_LIMIT (number (word (words text) 1)) (allowed _ _ h.within),
      at_most 1 SLICE_LIMIT (number (word (words text) 1)) (allowed _ _ h.within),
    )
sound_with Partition text s h d x a =
    assumption (at_most 1 WINDOW_LIMIT (number (word (words text) 1)) (allowed _ _ h.within))
sound_with Uart text s h d x a =
    assumption (at_most 0 BYTE_TICKS_LIMIT (number (word (words text) 1)) (allowed _ _ h.within))
sound_with Storage text s h d x a =
    assumption (at_most 0 STORAGE_LIMIT (number (word (words text) 1)) (allowed _ _ h.within))
sound_with StorageFault text s h d x a =
    let n = number (word (words text) 1) in
    let after = or_parts (nat_lt 0 (length s.events)) (nat_le n (last s.faults)) d in
    assumption (faults_more s.faults n (at_least 1 4294967295 n (allowed _ _ h.within)) x after.1 a.faults)
sound_with Random text s h d x a =
    let counted = ltb-false WORD_LIMIT (length s.words + length (drop 1 (words text))) x in
    let few : length (s.words ++ map hex_word (drop 1 (words text))) ≤ WORD_LIMIT =
    simp (length-append, length-map) (omega arith) in
    assumption few
sound_with Input text s h d x a =
    let ws = words text in
    let w = word ws 3 in
    let counted : length ws ≡ 4 = eqb-true (length ws) 4 (not-false _ h.counted) in
    let pairs = length-hex_bytes w (hex_at ws counted h.hex) in
    let limits = or_parts (nat_le EVENT_LIMIT (length s.events)) (nat_lt INPUT_LIMIT (length w / 2)) x in
    let some = filled text 3 (omega arith) in
    let most = ltb-false INPUT_LIMIT (length w / 2) limits.1 in
    with_event s (event_by Input ws) (omega arith, omega arith) limits.0 d a
sound_with Press text s h d x a =
    with_event s (event_by Press (words text)) (leb-false s.buttons _ (or_parts _ _ h.within).1) x d a
sound_with Release text s h d x a =
    with_event s (event_by Release (words text)) (leb-false s.buttons _ (or_parts _ _ h.within).1) x d a
sound_with Act text s h d x a =
    with_event s (event_by Act (words text)) (not-false _ (or_parts _ _ h.within).0) x d a
sound_with line text s h d x a = assumption a

-- the settings of no lines
pub said_at_first : (ram leds buttons slice partition start uart storage : ℕ) (ks ws : List ℕ) (es : List ScriptEvent)
    → ram ≡ 65536 → leds ≡ 4 → buttons ≡ 0
    → slice ≡ 100 → partition ≡ 0 → start ≡ 0 → uart ≡ 1 → storage ≡ 512 → ks ≡ [] → ws ≡ [] → es ≡ []
    → ◌≡◌ {A = ScriptSettings} (record {
      ram = ram;
      leds = leds;
      buttons = buttons;
      slice = slice;
      partition = partition;
      start = start;
      uart = uart;
      storage =
          storage;
      policy = policies.Stop;
      strict = false;
      faults = ks;
      words = ws;
      events = es;
    }) (settings [])
unfolding lines_of
said_at_first ram leds buttons slice partition start uart storage ks ws es a b g c p d e f k w v =
    rw (a, b, g, c, p, d, e, f, k, w, v) refl

pub none_at_first : stood_in []
    ≡ false ∷ false ∷ false ∷ false ∷ false ∷ false ∷ false ∷ false ∷ false ∷ false ∷ []
unfolding lines_of
none_at_first = refl

pub sound_at_first : AreSound (settings [])
unfolding lines_of
sound_at_first =
    let none : AreFaults [] =
    record { few = omega arith; least = All-nil (λ n. 1 ≤ n); rising = λ i l. absurd (omega arith) } in
    let none_come = none_yet 0 [] refl in
    search (rules, none, none_come)
