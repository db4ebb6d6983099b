-- A shelf in memory.
use Rattle.std.specs.Prelude.{◌≡◌, ℕ, List, String, Option, Some, None, Bool, false, length, min, is_some, IsSome}
use Rattle.std.specs.Prelude.{IsTrue, if◌then◌else◌}
use Rattle.tk_outside.specs.Names.{file_of, rest_at, index_of_name}
use Rattle.tk_outside.specs.Schedule.{CallCounts, fails_after, fails_next, FailsNoMore}
use Rattle.tk_outside.specs.Shelf.{ShelfFacts}
use Rattle.tk_outside.specs.declared.mem_shelf.MemShelf.{MemShelf}

-- what a shelf in memory is
pub record HeldFiles : Type 0 where
  -- the bytes under a name
  pub bytes : List ℕ → Option (List ℕ)
  -- whether the name is one of the shelf's
  pub holds : List ℕ → Bool
  -- the unread rest of the file that was begun
  pub rest : List ℕ
  -- how many bytes one read gives at most
  pub most : ℕ
  -- the calls that there were, and which are to fail
  pub counts : CallCounts

abbrev pub held_by : MemShelf → HeldFiles
held_by s = record {
  bytes = file_of s.names.items s.files.items;
  holds = λ name. is_some (index_of_name s.names.items name);
  rest = rest_at s.files.items s.place s.at;
  most = s.most;
  counts = s.schedule;
}

-- the next call is one of those that are to fail
abbrev pub fails_at_once : HeldFiles → Bool
fails_at_once s = fails_next s.counts

-- no failing call is still to come
abbrev pub HasNoFaultToCome : HeldFiles → Type 0
HasNoFaultToCome s = FailsNoMore s.counts

-- the name is held, and no failing call is still to come
abbrev pub IsSoundName : HeldFiles → List ℕ → Type 0
IsSoundName s name = IsTrue (s.holds name) × HasNoFaultToCome s

-- the name is sound where it is among these, and none of these calls is to fail
abbrev pub IsSoundIn : {Z : Type 0} → List (String Z) → List ℕ → HeldFiles → List ℕ → Type 0
IsSoundIn names failing s name = IsSome (index_of_name names name) → fails_after 0 failing ≡ false → IsSoundName s name

-- what a shelf tells
abbrev pub facts_of : HeldFiles → ShelfFacts
facts_of s = record { bytes = s.bytes; is_sound = IsSoundName s; faults = s.counts.faults }

-- how many bytes the next read gives for a slice of that length, or that it fails
abbrev pub given_of : HeldFiles → ℕ → Option ℕ
given_of s room = if fails_at_once s then None else Some (min (min room s.most) (length s.rest))
