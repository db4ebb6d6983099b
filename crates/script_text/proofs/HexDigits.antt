-- What the digits of a hex word are.
use Rattle.std.proofs.Common.{◌≡◌, ◌*◌, ◌%◌, ◌==◌, ℕ, true, not, List, [], length, position, Option, Some}
use Rattle.std.proofs.Common.{None, is_none, Result, Ok, Err, refl, sym, ap, subst, ◌∙◌, arith}
use Rattle.std.proofs.lemmas.Bool.{and_parts, eqb-true, not-false}
use Rattle.std.specs.List.{AllPass}
use Rattle.std.specs.Prelude.{MatchResult}
use Rattle.std.specs.Result.{result_unwrap_or}
use Rattle.hex.specs.Hex.{decode_pairs, decode_sized, is_hex_digit}
use Rattle.hex.specs.declared.error.FromHexError.{FromHexError}
use Rattle.hex.proofs.HexLemmas.{IsOk-decode_sized, decode_of-even, decode_of-ok, decode_of-digits}
use Rattle.script_text.specs.Rules.{is_hex, has_digits}
use Rattle.script_text.specs.Said.{hex_bytes}
use Rattle.script_text.proofs.TextLemmas.{none_passes}

none_of : {A : Type 0} (o : Option A) → is_none o ≡ true → o ≡ None
none_of None h = refl
none_of (Some x) h = cc

all_digits : (digits : Option ℕ) (w : List ℕ) → is_hex digits w ≡ true → AllPass is_hex_digit w
all_digits digits w h =
    let none = none_passes (λ byte. not (is_hex_digit byte)) w
    (none_of _ (and_parts (is_none (position (λ byte. not (is_hex_digit byte)) w)) (has_digits digits w) h).0) in
    λ k d l. not-false _ (none k d l)

pub fixed_digits : (n : ℕ) (w : List ℕ) → is_hex (Some n) w ≡ true → length w ≡ n
fixed_digits n w h =
    eqb-true (length w) n (and_parts (is_none (position (λ byte. not (is_hex_digit byte)) w)) (length w == n) h).1

pub even_digits : (w : List ℕ) → is_hex None w ≡ true → length w % 2 ≡ 0
even_digits w h =
    eqb-true (length w % 2) 0 (and_parts (is_none (position (λ byte. not (is_hex_digit byte)) w)) (length w % 2 == 0)
    h).1

-- decoding into room for as many bytes as there are pairs
sized_is_pairs : (w : List ℕ) (n : ℕ) → length w ≡ 2 * n → decode_sized w n ≡ decode_pairs 0 w
sized_is_pairs w n h = grind (arith)

pub decoded : (w : List ℕ) (n : ℕ) (bytes : List ℕ) → length w ≡ 2 * n → decode_sized w n ≡ Ok bytes
    → hex_bytes w ≡ bytes
unfolding hex_bytes
decoded w n bytes h e =
    ap (λ r. result_unwrap_or r []) (decode_of-even w (omega (arith, h)) ∙ (sym (sized_is_pairs w n h) ∙ e))

-- hex digits are decoded
pub is_decoded : (digits : Option ℕ) (w : List ℕ) (n : ℕ) (error : FromHexError) → is_hex digits w ≡ true
    → length w ≡ 2 * n → decode_sized w n ≡ Err error → ⊥
is_decoded digits w n error h l e =
    let ok = (IsOk-decode_sized w n).1 (l, all_digits digits w h) in
    cc (ok, e)

put_bytes_by : (w : List ℕ) (n : ℕ) (out : List ℕ) (answer : Result (Unit {0}) FromHexError)
    (r : Result (List ℕ) FromHexError) → decode_sized w n ≡ r → is_hex None w ≡ true → length w ≡ 2 * n
    → MatchResult r (λ b. (answer ≡ Ok tt) × (out ≡ b)) (λ e. answer ≡ Err e) → out ≡ hex_bytes w
put_bytes_by w n out answer (Ok b) e h l m = m.1 ∙ sym (decoded w n b l e)
put_bytes_by w n out answer (Err error) e h l m = absurd (is_decoded None w n error h l e)

-- what was put is what hex digits write
pub put_bytes : (w : List ℕ) (n : ℕ) (out : List ℕ) (answer : Result (Unit {0}) FromHexError) → is_hex None w ≡ true
    → length w ≡ 2 * n → MatchResult (decode_sized w n) (λ b. (answer ≡ Ok tt) × (out ≡ b)) (λ e. answer ≡ Err e)
    → out ≡ hex_bytes w
put_bytes w n out answer = put_bytes_by w n out answer (decode_sized w n) refl

-- there are two for each byte
pub length-hex_bytes : (w : List ℕ) → is_hex None w ≡ true → length w ≡ 2 * length (hex_bytes w)
unfolding hex_bytes
length-hex_bytes w h =
    let d = decode_of-digits w (even_digits w h) (all_digits None w h) in
    let same : hex_bytes w ≡ d.0 = ap (λ r. result_unwrap_or r []) d.1 in
    subst (λ (bytes : List ℕ). length w ≡ 2 * length bytes) (sym same) (decode_of-ok w d.0 d.1).2
