-- What a visit of the buttons leaves of a process.
use Rattle.std.proofs.Common.{◌≡◌, ℕ, ◌<◌, ◌==◌, Bool, true, false, cond, not, ◌&&◌, List, [], ◌∷◌, Option, Some}
use Rattle.std.proofs.Common.{Result, refl, ap, sym, ◌∙◌}
use Rattle.std.proofs.lemmas.Bool.{lt-ltb}
use Rattle.tk_base.specs.Bits.{bit_of, has_bit, with_bit}
use Rattle.tk_base.specs.declared.call.CallRule.TheVariants.{Range}
use Rattle.upcall_queue.specs.Pending.{is_taken}
use Rattle.grant_values.specs.declared.buttons.Buttons.{Buttons}
use Rattle.grant_values.specs.Values.{KeptValue, ButtonsValue}
use Rattle.process_model.specs.Own.{Own}
use Rattle.process_model.specs.Served.{kept, own_scheduled, upcall_of, with_kept}
use Rattle.driver_model.specs.Steps.{own_after, scheduling, silently}
use Rattle.driver_model.specs.Commands.{Commanded, refusing}
use Rattle.driver_model.specs.Buttons.{buttons, edged, enabled, enabled_in, of_button, set_enabled}
use Rattle.driver_model.specs.Parts.{with_enabled}
use Rattle.process_seat.specs.declared.visit.Unvisited.{Unvisited}
use Rattle.process_seat.specs.Seen.{Seen}
use Rattle.process_seat.specs.Visits.{FoundProcess, GrantsOf, Visits, is_stale}
use Rattle.process_seat.proofs.Outcomes.{of_visit, of_visit_there, visit_by}
use Rattle.driver_requests.specs.Asking.{in_life}
use Rattle.driver_requests.proofs.Keeping.{kept_still}
use Rattle.button_capsule.proofs.Masks.{no_bit, none_put}

-- what upcall 0 tells of an edge
abbrev args_of : ℕ → Bool → List ℕ
args_of button state = button ∷ bit_of state ∷ 0 ∷ []

-- a process that is told of an edge, or is not
abbrev told_if : Bool → ℕ → List ℕ → Own → Own
told_if is_told driver args own = cond is_told (own_scheduled driver 0 args own) own

-- what a visitor that tells of an edge leaves
abbrev Tells : ℕ → Bool → (Buttons → Seen → Bool → Buttons → Own → Type 0) → Type 0
Tells button state leaves = (value : Buttons) (seen : Seen) (queued : Bool) (value' : Buttons) (own : Own)
    → leaves value seen queued value' own
    → (value' ≡ value)
    × (queued ≡ (has_bit value.enabled button
    && is_taken (upcall_of seen.driver 0 (args_of button state) seen.own) seen.own.inbox))
    × (own ≡ told_if (has_bit value.enabled button) seen.driver (args_of button state) seen.own)

-- what a visitor that tells of a button no more leaves
abbrev Disables : {A : Type 0} → ℕ → (Buttons → Seen → A → Buttons → Own → Type 0) → Type 0
Disables button leaves = (value : Buttons) (seen : Seen) (answer : _) (value' : Buttons) (own : Own)
    → leaves value seen answer value' own
    → (value' ≡ record { enabled = with_bit value.enabled button false }) × (own ≡ seen.own)

-- the value that is kept stays
keeps : (is_told : Bool) (args : List ℕ) (own : Own) (value : KeptValue) → kept buttons own ≡ Some value
    → with_kept buttons value (told_if is_told buttons args own) ≡ told_if is_told buttons args own
keeps true args own value is =
    ap (λ gs. record (own_scheduled buttons 0 args own) { grants = gs }) (kept_still buttons value own.grants is)
keeps false args own value is = ap (λ gs. record own { grants = gs }) (kept_still buttons value own.grants is)

-- a process of a life is told where its mask says so
there : (lives same on : Bool) (args : List ℕ) (own : Own) → not (lives && same) ≡ false
    → told_if on buttons args own
    ≡ cond same (own_after (cond (lives && on) (scheduling buttons 0 args own) (silently own))) own
there true true true args own e = refl
there true true false args own e = refl
there true false on args own e = cc
there false same on args own e = cc

-- one that is not there is told nothing
not_there : (lives same on : Bool) (args : List ℕ) (own : Own) → not (lives && same) ≡ true
    → own ≡ cond same (own_after (cond (lives && on) (scheduling buttons 0 args own) (silently own))) own
not_there true true on args own e = cc
not_there true false on args own e = refl
not_there false true on args own e = refl
not_there false false on args own e = refl

pub tells : {V : Type 0} {new : Own} (grants : GrantsOf) (visitor : V)
    (leaves : V → Buttons → Seen → Bool → Buttons → Own → Type 0) (life : ℕ) (flash : List ℕ) (old : Own) (button : ℕ)
    (state : Bool) (r : Result Bool (Unvisited V))
    → Visits (visit_by grants (λ (b : Buttons). ButtonsValue b.enabled) visitor leaves)
    (record { life = life; flash = flash; own = old }) r new
    → Tells button state (leaves visitor) → grants.driver ≡ buttons
    → new ≡ in_life life old (own_after (edged button state old)) old
unfolding edged
tells grants visitor leaves life flash old button state r visits says is =
    let args = args_of button state in
    let there_is = there old.lives (old.life == life) (has_bit (enabled old) button) args old in
    of_visit _ (record { life = life; flash = flash; own = old }) buttons
    (λ (o : Own). o ≡ in_life life old (own_after (edged button state old)) old) r visits is
    (λ here was value answer own is_kept left.
    let so = says _ _ _ _ _ left in
    ap (λ (b : Buttons). with_kept buttons (ButtonsValue b.enabled) own) so.0
    ∙ ap (with_kept buttons (ButtonsValue was.enabled)) so.2
    ∙ keeps (has_bit was.enabled button) args old (ButtonsValue was.enabled) is_kept
    ∙ ap (λ (o : Option KeptValue). told_if (has_bit (enabled_in o) button) buttons args old) (sym is_kept)
    ∙ there_is here)
    (λ here none.
    ap (λ (b : Bool). told_if b buttons args old) (sym (no_bit button))
    ∙ ap (λ (o : Option KeptValue). told_if (has_bit (enabled_in o) button) buttons args old) (sym none)
    ∙ there_is here)
    (not_there old.lives (old.life == life) (has_bit (enabled old) button) args old)

pub disables : {V A : Type 0} {new : Own} (grants : GrantsOf) (visitor : V)
    (leaves : V → Buttons → Seen → A → Buttons → Own → Type 0) (process : FoundProcess) (button : ℕ)
    (r : Result A (Unvisited V))
    → Visits (visit_by grants (λ (b : Buttons). ButtonsValue b.enabled) visitor leaves) process r new
    → Disables button (leaves visitor) → grants.driver ≡ buttons → is_stale process.life process.own ≡ false
    → new ≡ set_enabled button false process.own
disables grants visitor leaves process button r visits says is present =
    let old = process.own in
    of_visit_there _ process buttons (λ (o : Own). o ≡ set_enabled button false old) r visits is present
    (λ was value answer own is_kept left.
    let so = says _ _ _ _ _ left in
    ap (λ (b : Buttons). with_kept buttons (ButtonsValue b.enabled) own) so.0
    ∙ ap (with_enabled (with_bit was.enabled button false)) so.1
    ∙ ap (λ (o : Option KeptValue). with_enabled (with_bit (enabled_in o) button false) old) (sym is_kept))
    (λ none. ap (λ gs. record old { grants = gs }) (sym (none_put buttons _ old.grants none)))

-- a command for a button that there is goes through
pub in_range : (count button : ℕ) (own : Own) (commanded : Commanded) → button < count
    → commanded ≡ of_button count button own commanded
in_range count button own commanded below =
    ap (λ (b : Bool). cond b commanded (refusing Range own)) (sym (lt-ltb button count below))
