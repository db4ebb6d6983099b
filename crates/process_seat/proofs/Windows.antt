-- Windows of RAM, and what a write leaves of them.
use Rattle.std.proofs.Common.{◌≡◌, ℕ, ◌+◌, ◌-◌, ◌<◌, ◌≤◌, ◌⊎◌, inl, inr, ◌&&◌, nat_le, nat_lt, if◌then◌else◌, List}
use Rattle.std.proofs.Common.{length, drop, slice_index, replicate, sym, ap, ◌∙◌, rules, arith}
use Rattle.std.specs.Prelude.{slice_range}
use Rattle.std.proofs.lemmas.Bool.Decides.{nat_tests}
use Rattle.std.proofs.lemmas.Grind.{same_number_lists}
use Rattle.std.proofs.lemmas.List.{places, get_or-take, get_or-drop, length-take, length-drop, length-replicate}
use Rattle.tk_base.specs.declared.access.Width.{Width}
use Rattle.tk_base.specs.Access.{width_bytes}
use Rattle.tk_base.specs.Bus.{put, written, byte_of}
use Rattle.tk_base.specs.Laws.{AStoreIsPut, IsPut}
use Rattle.tk_base.specs.Bytes.{over}
use Rattle.process_seat.specs.Windows.{SameOutside}

-- a byte of a window
pub window_at : (xs : List ℕ) (a b k : ℕ) → k < b - a → slice_index (slice_range xs a b) k ≡ slice_index xs (a + k)
window_at xs a b k h = grind (arith, get_or-take, get_or-drop)

-- how long it is
pub length_window : (xs : List ℕ) (a b : ℕ) → b ≤ length xs → length (slice_range xs a b) ≡ b - a
length_window xs a b h = let t = length-take (b - a) (drop a xs) in let d = length-drop a xs in omega arith

pub short : (xs : List ℕ) (a b : ℕ) → length (slice_range xs a b) ≤ b - a
short xs a b = let t = length-take (b - a) (drop a xs) in omega arith

same_length : (xs ys : List ℕ) (a b : ℕ) → length ys ≡ length xs
    → length (slice_range ys a b) ≡ length (slice_range xs a b)
same_length xs ys a b e =
    let t = length-take (b - a) (drop a xs) in
    let d = length-drop a xs in
    let u = length-take (b - a) (drop a ys) in
    let f = length-drop a ys in
    omega arith

-- a window outside of the interval is as it was
pub windows_same : (xs ys : List ℕ) (from to a b : ℕ) → SameOutside from to xs ys → (b ≤ from) ⊎ (to ≤ a)
    → slice_range ys a b ≡ slice_range xs a b
windows_same xs ys from to a b same side =
    same_number_lists (slice_range ys a b) (slice_range xs a b) (same_length xs ys a b same.long) (λ k h.
    let within : k < b - a = let n = short ys a b in omega arith in
    window_at ys a b k within
    ∙ same.each (a + k) (elim side [ inl below ↦ inl (omega arith) | inr above ↦ inr (omega arith) ])
    ∙ sym (window_at xs a b k within))

-- so they are outside of a wider interval
pub widened : (xs ys : List ℕ) (a b from to : ℕ) → SameOutside a b xs ys → from ≤ a → b ≤ to → SameOutside from to xs ys
widened xs ys a b from to same low high = record {
  long = same.long;
  each = λ k side. same.each k (elim side [ inl below ↦ inl (omega arith) | inr above ↦ inr (omega arith) ]);
}

-- a value that is put changes its own places alone
pub put_outside : (xs : List ℕ) (at : ℕ) (width : Width) (v : ℕ) → IsPut xs at width v
    → SameOutside at (at + width_bytes width) xs (put xs at width v)
put_outside xs at width v is = record { long = is.length; each = λ k side. is.each k ∙ passed k side }
  where
    passed : (k : ℕ) → (k < at) ⊎ (at + width_bytes width ≤ k)
        → written (λ a. slice_index xs a) at width v k ≡ slice_index xs k
    passed k (inl below) = grind (arith, nat_tests)
    passed k (inr above) = grind (arith, nat_tests)

picked : (at a k n x : ℕ) (width : Width) (f : ℕ → ℕ) → a ≤ at
    → (if nat_le at (a + k) && nat_lt (a + k) (at + n) then f (a + k - at) else x)
    ≡ (if nat_le (at - a) k && nat_lt k (at - a + n) then f (k - (at - a)) else x)
picked at a k n x width f low = let e : nat_le at (a + k) ≡ nat_le (at - a) k = grind (arith, nat_tests) in
    let g : nat_lt (a + k) (at + n) ≡ nat_lt k (at - a + n) = grind (arith, nat_tests) in grind (arith, nat_tests)

-- in a window that holds it, it is put at its place there
pub put_window : AStoreIsPut → (xs : List ℕ) (at : ℕ) (width : Width) (v a b : ℕ) → a ≤ at → at + width_bytes width ≤ b
    → b ≤ length xs → slice_range (put xs at width v) a b ≡ put (slice_range xs a b) (at - a) width v
put_window law xs at width v a b low high long =
    let whole = law xs at width v (omega arith) in
    let size = length_window xs a b long in
    let part = law (slice_range xs a b) (at - a) width v (omega arith) in
    same_number_lists (slice_range (put xs at width v) a b) (put (slice_range xs a b) (at - a) width v)
    (length_window (put xs at width v) a b (omega (arith, whole.length)) ∙ sym (part.length ∙ size)) (λ k h.
    let within : k < b - a = let n = short (put xs at width v) a b in omega arith in
    window_at (put xs at width v) a b k within ∙ whole.each (a + k)
    ∙ picked at a k (width_bytes width) (slice_index xs (a + k)) width (byte_of v) low
    ∙ ap (λ (x : ℕ). if nat_le (at - a) k && nat_lt k (at - a + width_bytes width) then byte_of v (k - (at - a)) else x)
    (sym (window_at xs a b k within))
    ∙ sym (part.each k))

-- bytes that are written over others change their own places alone
pub over_outside : (xs ws : List ℕ) (at : ℕ) → at + length ws ≤ length xs
    → SameOutside at (at + length ws) xs (over xs at ws)
over_outside xs ws at fits = record { long = search (rules, places); each = λ k side. passed k side }
  where
    passed : (k : ℕ) → (k < at) ⊎ (at + length ws ≤ k) → slice_index (over xs at ws) k ≡ slice_index xs k
    passed k (inl below) = grind (arith, places)
    passed k (inr above) = grind (arith, places)

-- and they stand there
pub over_window : (xs ws : List ℕ) (at b : ℕ) → at + length ws ≤ length xs → b ≡ at + length ws
    → slice_range (over xs at ws) at b ≡ ws
over_window xs ws at b fits end = same_number_lists _ _ (search (rules, places)) (λ k h. grind (arith, places))

-- any part of them stands at its place
pub over_part : (xs ws : List ℕ) (at a b : ℕ) → at + length ws ≤ length xs → at ≤ a → b ≤ at + length ws
    → slice_range (over xs at ws) a b ≡ slice_range ws (a - at) (b - at)
over_part xs ws at a b fits low high = same_number_lists _ _ (search (rules, places)) (λ k h. grind (arith, places))

-- so many zeros
abbrev pub zeros : ℕ → List ℕ
zeros n = replicate n 0

pub length_zeros : (n : ℕ) → length (zeros n) ≡ n
length_zeros n = length-replicate n _

-- a window of zeros
pub zero_window : (n a b : ℕ) → b ≤ n → slice_range (zeros n) a b ≡ zeros (b - a)
zero_window n a b fits =
    same_number_lists (slice_range (zeros n) a b) (zeros (b - a)) (search (rules, places))
    (λ k h. grind (arith, places))
