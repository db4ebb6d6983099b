-- The numbers of registers.
use Rattle.std.specs.Prelude.{ℕ, nat_lt, Bool, ◌&&◌}
use Rattle.rv32_entries.specs.declared.register.Register.{Register}
use Rattle.rv32_entries.specs.declared.register.Register.TheVariants as registers
use Rattle.rv32_entries.specs.declared.register.Target.{Target}
use Rattle.rv32_entries.specs.declared.register.Target.TheVariants as targets

-- the number of a register
abbrev pub index_of : Register → ℕ
index_of registers.X0 = 0
index_of registers.X1 = 1
index_of registers.X2 = 2
index_of registers.X3 = 3
index_of registers.X4 = 4
index_of registers.X5 = 5
index_of registers.X6 = 6
index_of registers.X7 = 7
index_of registers.X8 = 8
index_of registers.X9 = 9
index_of registers.X10 = 10
index_of registers.X11 = 11
index_of registers.X12 = 12
index_of registers.X13 = 13
index_of registers.X14 = 14
index_of registers.X15 = 15
index_of registers.X16 = 16
index_of registers.X17 = 17
index_of registers.X18 = 18
index_of registers.X19 = 19
index_of registers.X20 = 20
index_of registers.X21 = 21
index_of registers.X22 = 22
index_of registers.X23 = 23
index_of registers.X24 = 24
index_of registers.X25 = 25
index_of registers.X26 = 26
index_of registers.X27 = 27
index_of registers.X28 = 28
index_of registers.X29 = 29
index_of registers.X30 = 30
index_of registers.X31 = 31

-- the number of a register that can be set
abbrev pub target_index : Target → ℕ
target_index targets.X1 = 1
target_index targets.X2 = 2
target_index targets.X3 = 3
target_index targets.X4 = 4
target_index targets.X5 = 5
target_index targets.X6 = 6
target_index targets.X7 = 7
target_index targets.X8 = 8
target_index targets.X9 = 9
target_index targets.X10 = 10
target_index targets.X11 = 11
target_index targets.X12 = 12
target_index targets.X13 = 13
target_index targets.X14 = 14
target_index targets.X15 = 15
target_index targets.X16 = 16
target_index targets.X17 = 17
target_index targets.X18 = 18
target_index targets.X19 = 19
target_index targets.X20 = 20
target_index targets.X21 = 21
target_index targets.X22 = 22
target_index targets.X23 = 23
target_index targets.X24 = 24
target_index targets.X25 = 25
target_index targets.X26 = 26
target_index targets.X27 = 27
target_index targets.X28 = 28
target_index targets.X29 = 29
target_index targets.X30 = 30
target_index targets.X31 = 31

-- whether a number is that of a register
abbrev pub is_index : ℕ → Bool
is_index number = nat_lt number 32

-- whether it is that of a register that can be set: x0 is not
abbrev pub can_be_set : ℕ → Bool
can_be_set number = nat_lt 0 number && is_index number
