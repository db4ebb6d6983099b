use Rattle.std.proofs.Common.{◌≡◌, ◌-◌, ◌%◌, length}
use Rattle.std.specs.List.{find}
use Rattle.tbf_headers.specs.Tlv.{is_bad, tlv_places_from}
use Rattle.tbf_headers.specs.Parts.{first_bad}
use Rattle.tbf_headers.proofs.tlv.first_bad_tlv.Given as goal

-- the first bad one among those that are left is the first of all
abbrev pub invariant-loop-at : goal.invariant-loop-at
invariant-loop-at l = record {
  aligned : l.at % 4 ≡ 0;
  left : find (is_bad l.header) (tlv_places_from (length l.header - l.at) l.header l.at) ≡ first_bad l.header;
}

abbrev pub decreases-loop-at : goal.decreases-loop-at
decreases-loop-at l = length l.header - l.at
