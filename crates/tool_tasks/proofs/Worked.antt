-- Worked cases, computed from the definitions: two files that the generator makes, and those of a wrong one.
use Rattle.std.proofs.Common.{◌≡◌, List, ℕ, codes, slice_index, refl, ap, arith}
use Rattle.std.specs.Fmt.{digits}
use Rattle.image_make.specs.Generator.{soak_flash}
use Rattle.tool_tasks.specs.Soak.{AreSoakFiles}
use Rattle.tool_tasks.specs.Comes.{Generated}

-- The files of number 0 under a script of one line.
abbrev under : List ℕ → Generated
under script = record { flash = soak_flash 0; script = script }

-- The first draw after 0 is 1013904223, of which the highest six bits are 15; a generator that makes slices of one
-- turn more.
has_slices_of_sixteen : AreSoakFiles 0 (under (codes "slice 16\n"))
unfolding digits
has_slices_of_sixteen = record { flash = refl; script = refl }

none_with_slices_of_seventeen : AreSoakFiles 0 (under (codes "slice 17\n")) → ⊥
unfolding digits
none_with_slices_of_seventeen are =
    let digit : 55 ≡ 54 = ap (λ (script : List ℕ). slice_index script 7) are.script in
    omega (arith, digit)
