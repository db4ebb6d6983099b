-- Each application in the list asks for what its object says, by induction on the walk over objects.
use Rattle.std.proofs.Common.{sym, subst, ◌≡◌, ℕ, zero, suc, ◌+◌, Bool, true, false, cond, List, [], ◌∷◌}
use Rattle.std.proofs.Common.{Option, None, Some, Result, Ok, Err, refl}
use Rattle.std.specs.List.{AllByRecursion, cons_option, filter_map}
use Rattle.std.specs.Option.{option_map}
use Rattle.tk_base.specs.declared.access.TheConstants.{FLASH_START}
use Rattle.tbf_headers.specs.declared.fault.HeaderFault.{HeaderFault}
use Rattle.tbf_headers.specs.declared.program.Main.{Main}
use Rattle.tbf_headers.specs.Meaning.{Meaning, header_reading}
use Rattle.flash_walk.specs.Image.{ends_at, found_at, object_bytes, objects_from, size_at, verdict_of}
use Rattle.app_placement.specs.Applications.{application, application_of, is_app}
use Rattle.app_placement.specs.Parts.{application_in}
use Rattle.app_placement.specs.declared.application.Application.{Application}

module _ (flash : List ℕ) where
  -- an application asks for what its object's header says
  abbrev pub IsAsked : Application → Type 0
  IsAsked app = application_in app.offset (header_reading (object_bytes flash app.offset)) ≡ Some app

  same_offset : (at : ℕ) (r : Result Meaning HeaderFault) (app : Application) → application_in at r ≡ Some app
      → app.offset ≡ at
  same_offset at (Err fault) app e = cc
  same_offset at (Ok h) app e = by_main h.main e
    where
      by_main : (o : Option Main) → option_map (application at h) o ≡ Some app → app.offset ≡ at
      by_main None f = cc
      by_main (Some m) f = cc

  asked_one : (at : ℕ) (rest : List Application) → AllByRecursion IsAsked rest
      → AllByRecursion IsAsked (cons_option (application_of flash (found_at flash at)) rest)
  unfolding found_at
  asked_one at rest later =
      by_app (is_app (verdict_of (FLASH_START + at) (header_reading (object_bytes flash at))))
      (application_in at (header_reading (object_bytes flash at))) refl
    where
      by_app : (b : Bool) (o : Option Application) → application_in at (header_reading (object_bytes flash at)) ≡ o
          → AllByRecursion IsAsked (cons_option (cond b o None) rest)
      by_app true (Some app) e = (
        subst (λ (k : ℕ). application_in k (header_reading (object_bytes flash k)) ≡ Some app)
            (sym (same_offset at (header_reading (object_bytes flash at)) app e)) e,
        later,
      )
      by_app b o e = later

  pub asked_from : (n at : ℕ) → AllByRecursion IsAsked (filter_map (application_of flash) (objects_from n flash at))
  unfolding objects_from
  asked_from zero at = tt
  asked_from (suc n) at = by_end (ends_at flash at) (asked_from n (at + size_at flash at))
    where
      by_end : (b : Bool)
          → AllByRecursion IsAsked (filter_map (application_of flash) (objects_from n flash (at + size_at flash at)))
          → AllByRecursion IsAsked (filter_map (application_of flash)
          (cond b [] (found_at flash at ∷ objects_from n flash (at + size_at flash at))))
      by_end true later = tt
      by_end false later =
          asked_one at (filter_map (application_of flash) (objects_from n flash (at + size_at flash at))) later
