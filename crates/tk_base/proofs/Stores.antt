-- A store, as the list of bytes and as the places see it.
use Rattle.std.proofs.Common.{◌≡◌, ℕ, ◌+◌, ◌-◌, ◌<◌, ◌≤◌, List, length, slice_index, slice_set, ◌==◌, if◌then◌else◌}
use Rattle.std.proofs.Common.{nat_le, nat_lt, ◌&&◌, arith}
use Rattle.std.proofs.lemmas.Grind.{common_steps}
use Rattle.std.proofs.lemmas.Bool.Decides.{nat_tests}
use Rattle.std.proofs.lemmas.List.{length-set}
use mathlib.Core.Path.{fun_ext}
use Rattle.tk_base.specs.declared.access.Width.{Width}
use Rattle.tk_base.specs.declared.access.Width.TheVariants.{Byte, Half, Word}
use Rattle.tk_base.specs.Access.{width_bytes}
use Rattle.tk_base.specs.Bus.{byte_of, put}
use Rattle.tk_base.specs.Laws.{IsPut}

-- what stands at a place after a store
abbrev put_byte : List ℕ → ℕ → Width → ℕ → ℕ → ℕ
put_byte xs at width v k =
    if nat_le at k && nat_lt k (at + width_bytes width) then byte_of v (k - at) else slice_index xs k

length-put : (xs : List ℕ) (at : ℕ) (width : Width) (v : ℕ) → length (put xs at width v) ≡ length xs
length-put xs at Byte v = simp length-set
length-put xs at Half v = simp length-set
length-put xs at Word v = simp length-set

pick_half : (at : ℕ) (b : ℕ → ℕ) (k x one two : ℕ) → one ≡ (if k == at then b 0 else x)
    → two ≡ (if k == at + 1 then b 1 else one) → two ≡ (if nat_le at k && nat_lt k (at + 2) then b (k - at) else x)
pick_half at b k x one two first second = grind (arith, nat_tests)

pick_word : (at : ℕ) (b : ℕ → ℕ) (k x two three four : ℕ)
    → two ≡ (if nat_le at k && nat_lt k (at + 2) then b (k - at) else x) → three ≡ (if k == at + 2 then b 2 else two)
    → four ≡ (if k == at + 3 then b 3 else three) → four ≡ (if nat_le at k && nat_lt k (at + 4) then b (k - at) else x)
pick_word at b k x two three four halves third fourth = grind (arith, nat_tests)

-- what stands at a place after a write of one byte
set-at : (xs : List ℕ) (i v k : ℕ) → i < length xs
    → slice_index (slice_set xs i v) k ≡ (if k == i then v else slice_index xs k)
set-at xs i v k h = grind (arith, common_steps, nat_tests)

put_half-at : (xs : List ℕ) (at v k : ℕ) → at + 2 ≤ length xs
    → slice_index (put xs at Half v) k ≡ put_byte xs at Half v k
put_half-at xs at v k h =
    let one = slice_set xs at (byte_of v 0) in
    let len : length one ≡ length xs = length-set xs at (byte_of v 0) in
    let first : slice_index one k ≡ (if k == at then byte_of v 0 else slice_index xs k) =
    set-at xs at (byte_of v 0) k (omega arith) in
    let second : slice_index (put xs at Half v) k ≡ (if k == at + 1 then byte_of v 1 else slice_index one k) =
    set-at one (at + 1) (byte_of v 1) k (omega arith) in
    pick_half at (byte_of v) k _ _ _ first second

put-at : (xs : List ℕ) (at : ℕ) (width : Width) (v k : ℕ) → at + width_bytes width ≤ length xs
    → slice_index (put xs at width v) k ≡ put_byte xs at width v k
put-at xs at Byte v k h = grind (arith, nat_tests, set-at xs at (byte_of v 0) k)
put-at xs at Half v k h = put_half-at xs at v k h
put-at xs at Word v k h =
    let two = put xs at Half v in
    let three = slice_set two (at + 2) (byte_of v 2) in
    let len : length two ≡ length xs = length-put xs at Half v in
    let len_three : length three ≡ length two = length-set two (at + 2) (byte_of v 2) in
    let halves : slice_index two k ≡ put_byte xs at Half v k = put_half-at xs at v k (omega arith) in
    let third : slice_index three k ≡ (if k == at + 2 then byte_of v 2 else slice_index two k) =
    set-at two (at + 2) (byte_of v 2) k (omega arith) in
    let fourth : slice_index (put xs at Word v) k ≡ (if k == at + 3 then byte_of v 3 else slice_index three k) =
    set-at three (at + 3) (byte_of v 3) k (omega arith) in
    pick_word at (byte_of v) k _ _ _ _ halves third fourth

pub store_is_put : (xs : List ℕ) (at : ℕ) (width : Width) (v : ℕ) → at + width_bytes width ≤ length xs
    → IsPut xs at width v
store_is_put xs at width v h = record {
  each = λ k. put-at xs at width v k h;
  bytes = fun_ext (λ k. put-at xs at width v k h);
  length = length-put xs at width v;
}
