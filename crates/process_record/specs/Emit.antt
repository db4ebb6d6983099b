-- What a step shows before it has shown anything. This is this board's own rule.
use Rattle.std.specs.Prelude.{[], None}
use Rattle.process_record.specs.declared.emit.Emit.{Emit}

-- what a step shows that printed nothing, was nobody's turn, and in which no operator acted
abbrev pub nothing : Emit
nothing = record { printed = record { items = [] }; slot = None; act = None; made = None; denial = None }
