-- What the commands to each driver ask of the board, by the rows of its table: each row's acts are one of the few lists
-- of its driver (`OneOf`), and a request that is made asks to wait in its own queue, or for nothing. Alarm and buttons
-- ask for nothing at all.
use Rattle.std.proofs.Common.{◌≡◌, inl, inr, ℕ, ◌==◌, ◌+◌, nat_le, nat_lt, List, [], ◌∷◌}
use Rattle.std.proofs.Common.{Option, None, Some, refl}
use Rattle.grant_values.specs.declared.alarm.Armed.{Armed}
use Rattle.grant_values.specs.declared.console.WaitingRead.{WaitingRead}
use Rattle.grant_values.specs.declared.storage.StorageRequest.{StorageRequest}
use Rattle.process_model.specs.Own.{Own}
use Rattle.process_model.specs.Handed.{has_place}
use Rattle.driver_model.specs.Alarm as alarm
use Rattle.driver_model.specs.Asked.{AskTheirOwn, OneOf}
use Rattle.driver_model.specs.Commands.{BoardRequest, Commanded, Waits, Leaves, Lights, On, Off, Toggle, Switch, Writes}
use Rattle.driver_model.specs.Commands.{Reads, Randoms, Stores, by_number}
use Rattle.driver_model.specs.Buttons as buttons
use Rattle.driver_model.specs.Console as console
use Rattle.driver_model.specs.Leds as leds
use Rattle.driver_model.specs.Random as random
use Rattle.driver_model.specs.Requests.{RequestKind, request_in}
use Rattle.driver_model.specs.Parts.{asking_beside, asking_to_read}
use Rattle.driver_model.specs.Storage as storage
use Rattle.driver_model.proofs.Outcomes.{of_buttons}
use Rattle.driver_model.proofs.Tables.{Each, commanded}
use Rattle.std.proofs.lemmas.Bool.{cond_both}

AsksNothing : Commanded → Type 0
AsksNothing c = c.acts ≡ []

stopping_asks : (armed : Option Armed) (own : Own) → AsksNothing (alarm.stopping armed own)
unfolding AsksNothing
stopping_asks None own = refl
stopping_asks (Some armed) own = refl

arming_asks : (armed : Armed) (own : Own) → AsksNothing (alarm.arming armed own)
unfolding AsksNothing
arming_asks armed own = cond_both (has_place alarm.alarm_driver own) _ _ AsksNothing (λ e. refl) (λ e. refl)

alarm_asks : (now number a2 a3 : ℕ) (own : Own) → AsksNothing (by_number (alarm.commands now a2 a3) number own)
unfolding Each alarm.commands AsksNothing
alarm_asks now number a2 a3 own =
    commanded AsksNothing own (alarm.commands now a2 a3 own) number refl
    (refl, (refl, (refl, (stopping_asks (alarm.alarm_in own) own, (arming_asks _ own, (arming_asks _ own, tt))))))

buttons_ask : (count pressed number button : ℕ) (own : Own)
    → AsksNothing (by_number (buttons.commands count pressed button) number own)
unfolding AsksNothing
buttons_ask count pressed number button own =
    of_buttons AsksNothing count pressed number button own (λ rule. refl) (λ reply. refl) (λ value. refl)
    (λ value room. refl)

-- a request has its process begin to wait, or asks for nothing
begins : {R : Type 0} (P : Commanded → Type 0) (request_kind : RequestKind R) (o : Option R) (request : R) (own : Own)
    → ((c : Commanded) → c.acts ≡ [] → P c) → ((c : Commanded) → c.acts ≡ Waits request_kind.line ∷ [] → P c)
    → P (asking_beside request_kind o request own)
begins P request_kind None request own none waits =
    cond_both (has_place request_kind.driver own) _ _ P (λ e. waits _ refl) (λ e. none _ refl)
begins P request_kind (Some waiting) request own none waits = none _ refl

abbrev AsksOf : List (List BoardRequest) → Commanded → Type 0
AsksOf lists c = OneOf c.acts lists

abbrev of_console : List (List BoardRequest)
of_console = [] ∷ (Waits Writes ∷ []) ∷ (Waits Reads ∷ []) ∷ (Leaves Reads ∷ []) ∷ []

reading_asks : (count : ℕ) (own : Own) → AsksOf of_console (asking_to_read count own)
reading_asks count own =
    cond_both (count == 0) _ _ (AsksOf of_console) (λ e. inl refl)
    (λ some. begins (AsksOf of_console) console.console_reads (request_in console.console_reads own) _ own
    (λ c e. inl e) (λ c e. inr (inr (inl e))))

cancelling_asks : (o : Option WaitingRead) (own : Own) → AsksOf of_console (console.cancelling o own)
cancelling_asks None own = inl refl
cancelling_asks (Some read) own = inr (inr (inr (inl refl)))

console_asks : (number count : ℕ) (own : Own) → AsksOf of_console (by_number (console.commands count) number own)
unfolding Each console.commands
console_asks number count own =
    commanded (AsksOf of_console) own (console.commands count own) number (inl refl) (
      inl refl,
      (
        begins (AsksOf of_console) console.console_writes (request_in console.console_writes own) _ own
            (λ c e. inl e) (λ c e. inr (inl e)),
        (reading_asks count own, (cancelling_asks (request_in console.console_reads own) own, tt)),
      ),
    )

abbrev of_leds : ℕ → List (List BoardRequest)
of_leds led = [] ∷ (Lights led On ∷ []) ∷ (Lights led Off ∷ []) ∷ (Lights led Toggle ∷ []) ∷ []

switching_asks : (count led : ℕ) (switch : Switch) (own : Own)
    → AsksOf (of_leds led) (leds.switching count led switch own)
switching_asks count led On own =
    cond_both (nat_lt led count) _ _ (AsksOf (of_leds led)) (λ e. inr (inl refl)) (λ e. inl refl)
switching_asks count led Off own =
    cond_both (nat_lt led count) _ _ (AsksOf (of_leds led)) (λ e. inr (inr (inl refl))) (λ e. inl refl)
switching_asks count led Toggle own =
    cond_both (nat_lt led count) _ _ (AsksOf (of_leds led)) (λ e. inr (inr (inr (inl refl)))) (λ e. inl refl)

leds_ask : (count number led : ℕ) (own : Own) → AsksOf (of_leds led) (by_number (leds.commands count led) number own)
unfolding Each leds.commands
leds_ask count number led own =
    commanded (AsksOf (of_leds led)) own (leds.commands count led own) number (inl refl) (
      inl refl,
      (
        switching_asks count led On own,
        (switching_asks count led Off own, (switching_asks count led Toggle own, tt)),
      ),
    )

abbrev of_random : List (List BoardRequest)
of_random = [] ∷ (Waits Randoms ∷ []) ∷ []

random_asks : (number count : ℕ) (own : Own) → AsksOf of_random (by_number (random.commands count) number own)
unfolding Each random.commands
random_asks number count own =
    commanded (AsksOf of_random) own (random.commands count own) number (inl refl) (
      inl refl,
      (
        begins (AsksOf of_random) random.randoms (request_in random.randoms own) _ own (λ c e. inl e)
            (λ c e. inr (inl e)),
        tt,
      ),
    )

abbrev of_storage : List (List BoardRequest)
of_storage = [] ∷ (Waits Stores ∷ []) ∷ []

requesting_asks : (size : ℕ) (request : StorageRequest) (own : Own)
    → AsksOf of_storage (storage.requesting size request own)
requesting_asks size request own =
    cond_both (nat_le (request.offset + request.length) size) _ _ (AsksOf of_storage)
    (λ fits. begins (AsksOf of_storage) storage.storages (request_in storage.storages own) request own (λ c e. inl e)
    (λ c e. inr (inl e))) (λ past. inl refl)

storage_asks : (size number a2 a3 : ℕ) (own : Own)
    → AsksOf of_storage (by_number (storage.commands size a2 a3) number own)
unfolding Each storage.commands
storage_asks size number a2 a3 own =
    commanded (AsksOf of_storage) own (storage.commands size a2 a3 own) number (inl refl)
    (inl refl, (inl refl, (requesting_asks size _ own, (requesting_asks size _ own, tt))))

pub ask_their_own : AskTheirOwn
unfolding AsksNothing
ask_their_own =
    record {
      alarm = alarm_asks;
      buttons = buttons_ask;
      console = console_asks;
      leds = leds_ask;
      random = random_asks;
      storage = storage_asks;
    }
