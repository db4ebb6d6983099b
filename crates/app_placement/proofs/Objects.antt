-- What is known of the objects of a flash image, and of what its applications ask for.
use Rattle.std.proofs.Common.{◌≡◌, ℕ, ◌+◌, ◌<◌, ◌≤◌, Bool, true, false, cond, List, length, get_or, Option, Some, None}
use Rattle.std.proofs.Common.{All, refl, sym, ap, ◌∙◌, subst}
use Rattle.std.proofs.lemmas.List.Elements.{All-get_or}
use Rattle.tk_base.specs.declared.access.TheConstants.{FLASH_START}
use Rattle.tk_base.specs.declared.limits.TheConstants.{FLASH_LIMIT, OBJECT_LIMIT}
use Rattle.tbf_headers.specs.Meaning.{header_reading}
use Rattle.tbf_headers.specs.Objects.{object_at}
use Rattle.flash_walk.specs.declared.found.Found.{Found}
use Rattle.flash_walk.specs.declared.found.Verdict.{Verdict}
use Rattle.flash_walk.specs.declared.found.Verdict.TheVariants.{Bad, Padding, Disabled, BadEntry, WrongFlash, App}
use Rattle.flash_walk.specs.Image.{verdict_of, object_bytes, objects, IsObject}
use Rattle.flash_walk.specs.Laws.{HasItsSize, ObjectsAreFound}
use Rattle.app_placement.specs.declared.application.Application.{Application}
use Rattle.app_placement.specs.Applications.{is_app, application_of}
use Rattle.app_placement.specs.Parts.{application_in}

-- an object that was found, and where its size stands
pub record IsFound (flash : List ℕ) (f : Found) : Type 0 where
  pub object : IsObject flash f
  pub size : HasItsSize flash f

-- an object at a place of the list is found
pub one_found : (flash : List ℕ) (found : List Found) (i : ℕ) (d : Found) → ObjectsAreFound → length flash ≤ FLASH_LIMIT
    → found ≡ objects flash → i < length found → IsFound flash (get_or found i d)
one_found flash found i d known short e h = record {
  object = All-get_or (IsObject flash) found i d h (subst (All (IsObject flash)) (sym e) (known.each flash short));
  size = All-get_or (HasItsSize flash) found i d h (subst (All (HasItsSize flash)) (sym e) (known.sized flash short));
}

pub few_found : (flash : List ℕ) (found : List Found) → ObjectsAreFound → length flash ≤ FLASH_LIMIT
    → found ≡ objects flash → length found ≤ OBJECT_LIMIT
few_found flash found known short e =
    subst (λ (xs : List Found). length xs ≤ OBJECT_LIMIT) (sym e) (known.few flash short)

app_where_is_app : (v : Verdict) → is_app v ≡ true → v ≡ App
app_where_is_app (Bad fault) h = cc
app_where_is_app Padding h = cc
app_where_is_app Disabled h = cc
app_where_is_app BadEntry h = cc
app_where_is_app WrongFlash h = cc
app_where_is_app App h = refl

some_of_cond : (b : Bool) (o : Option Application) (app : Application) → cond b o None ≡ Some app
    → (b ≡ true) × (o ≡ Some app)
some_of_cond true o app h = (refl, h)
some_of_cond false o app h = cc

-- an object that asks for something is an application, and its header is read
pub asked_of_found : (flash : List ℕ) (f : Found) (app : Application) → IsFound flash f → app.offset ≡ f.offset
    → application_of flash f ≡ Some app
    → (verdict_of (FLASH_START + app.offset) (header_reading (object_bytes flash app.offset)) ≡ App)
    × (application_in app.offset (header_reading (object_bytes flash app.offset)) ≡ Some app)
asked_of_found flash f app found e h =
    let bytes : object_bytes flash app.offset ≡ object_at flash f.offset f.size =
    ap (object_bytes flash) e ∙ ap (λ (n : ℕ). object_at flash f.offset n) (sym found.size) in
    let asked = some_of_cond (is_app f.verdict)
    (application_in f.offset (header_reading (object_at flash f.offset f.size))) app h in (
      ap (λ (n : ℕ). verdict_of (FLASH_START + n) (header_reading (object_bytes flash app.offset))) e
          ∙ ap (λ (xs : List ℕ). verdict_of (FLASH_START + f.offset) (header_reading xs)) bytes
          ∙ sym found.object.judged
          ∙ app_where_is_app f.verdict asked.0,
      ap (λ (n : ℕ). application_in n (header_reading (object_bytes flash app.offset))) e
          ∙ ap (λ (xs : List ℕ). application_in f.offset (header_reading xs)) bytes
          ∙ asked.1,
    )
