use Rattle.std.proofs.Common.{◌≡◌, ◌-◌, ◌%◌, length}
use Rattle.std.specs.List.{find}
use Rattle.tbf_headers.specs.Tlv.{first_of, tlv_places_from}
use Rattle.tbf_headers.specs.Parts.{is_of_type}
use Rattle.tbf_headers.proofs.tlv.first_tlv.Given as goal

-- the first of the type among those that are left is the first of all
abbrev pub invariant-loop-at : goal.invariant-loop-at
invariant-loop-at l = record {
  aligned : l.at % 4 ≡ 0;
  left : find (is_of_type l.kind l.header) (tlv_places_from (length l.header - l.at) l.header l.at)
      ≡ first_of l.kind l.header;
}

abbrev pub decreases-loop-at : goal.decreases-loop-at
decreases-loop-at l = length l.header - l.at
