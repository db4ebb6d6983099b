-- What a process is that starts again, whatever its header says (`restart_by`): as it was, or started as its header
-- means. One whose object is that of an application starts as its header says.
use Rattle.std.proofs.Common.{◌≡◌, true, Option, None, Some, is_some, [], refl, Result, Ok, Err}
use Rattle.tbf_headers.specs.declared.fault.HeaderFault.{HeaderFault}
use Rattle.tbf_headers.specs.declared.program.Main.{Main}
use Rattle.tbf_headers.specs.Meaning.{Meaning, header_reading}
use Rattle.kernel_model.specs.Record.{Record}
use Rattle.kernel_model.specs.Calls.{restart, restarted_with}
use Rattle.kernel_model.specs.Parts.{restarted_by, restarted_main}
use Rattle.kernel_model.specs.Laws.{CanStartAgain}
use Rattle.tbf_headers.specs.Meaning.{main_by}

-- by what its header says
pub restart_by : (P : Record → Type 0) (r : Record) → P r
    → ((h : Meaning) (m : Main) → header_reading r.object ≡ Ok h → h.main ≡ Some m → P (restarted_with r h m))
    → P (restart r)
unfolding restart
restart_by P r same each = by_reading (header_reading r.object) refl
  where
    by_main : (h : Meaning) (o : Option Main) → header_reading r.object ≡ Ok h → h.main ≡ o → P (restarted_main r h o)
    by_main h None is main = same
    by_main h (Some m) is main = each h m is main

    by_reading : (h : Result Meaning HeaderFault) → header_reading r.object ≡ h → P (restarted_by r h)
    by_reading (Ok h) is = by_main h h.main is refl
    by_reading (Err fault) is = same

-- what holds of it at each header and start holds of it
pub restarts : (P : Record → Type 0) (r : Record) → CanStartAgain r
    → ((h : Meaning) (m : Main) → P (restarted_with r h m)) → P (restart r)
unfolding restart
restarts P r can each = by_reading (header_reading r.object) can
  where
    by_main : (h : Meaning) (m : Option Main) → is_some m ≡ true → P (restarted_main r h m)
    by_main h None can = absurd (cc)
    by_main h (Some m) can = each h m

    by_reading : (h : Result Meaning HeaderFault) → is_some (main_by h) ≡ true → P (restarted_by r h)
    by_reading (Ok h) can = by_main h h.main can
    by_reading (Err fault) can = absurd (cc)

-- it forgets the grants, and keeps the object
pub restart_forgets : (r : Record) → CanStartAgain r → (restart r).own.grants ≡ []
restart_forgets r can = restarts (λ s. s.own.grants ≡ []) r can (λ h m. refl)

pub restart_object : (r : Record) → CanStartAgain r → (restart r).object ≡ r.object
restart_object r can = restarts (λ s. s.object ≡ r.object) r can (λ h m. refl)
