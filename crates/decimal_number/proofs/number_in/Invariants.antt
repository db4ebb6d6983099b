use Rattle.std.proofs.Common.{◌≡◌, ◌<◌, ◌^◌, drop}
use Rattle.std.specs.Str.{all_ascii_digits}
use Rattle.std.specs.Str.Parse.{digits_value_after, digits_value}
use Rattle.decimal_number.proofs.number_in.Given as goal

abbrev pub invariant-loop-byte : goal.invariant-loop-byte
invariant-loop-byte l = record {
  -- the bytes so far are digits
  digits : all_ascii_digits (drop l.byte-index l.word) ≡ all_ascii_digits l.word;
  -- those that are left go on with the value
  value : digits_value_after 10 l.value (drop l.byte-index l.word) ≡ digits_value 10 l.word;
  below : l.value < 10 ^ l.byte-index;
}
