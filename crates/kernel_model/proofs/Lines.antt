-- A process's requests, once what is its own has changed.
use Rattle.std.proofs.Common.{◌≡◌, ℕ, Bool, true, false, cond, List, [], Option, None, is_some, IfSome, refl, sym, ap}
use Rattle.std.proofs.Common.{ap₂}
use Rattle.std.proofs.Common.{subst, ◌+◌, ◌≤◌}
use Rattle.std.proofs.lemmas.Bool.{false≢true}
use Rattle.std.specs.Option.{option_and_then, option_map}
use Rattle.grant_values.specs.declared.storage.StorageRequest.{StorageRequest}
use Rattle.grant_model.specs.Grants.{Grant, grant_of}
use Rattle.process_model.specs.Own.{Own, own_ended}
use Rattle.syscall_abi.specs.declared.form.Swap.{Swap}
use Rattle.driver_model.specs.Steps.{own_after}
use Rattle.driver_model.specs.Commands.{Commanded, QueueName, Writes, Reads, Randoms, Stores, leaving_all}
use Rattle.driver_model.specs.Drivers.{CommandContext}
use Rattle.driver_model.specs.Laws.{StaysInPlace}
use Rattle.driver_model.specs.Lines.{FollowsCommand, IsWithin, OnlyDriversMoveLines, has_waiting, kind_in}
use Rattle.driver_model.specs.Lines.{waits_after}
use Rattle.driver_model.specs.Requests.{request_in}
use Rattle.driver_model.specs.Storage.{storages}
use Rattle.kernel_model.specs.Record.{Record}
use Rattle.kernel_model.specs.Calls.{restart}
use Rattle.kernel_model.specs.Parts.{own_swapped}
use Rattle.kernel_model.specs.Laws.{CanStartAgain, KeepsLines}
use Rattle.kernel_model.proofs.Restarts.{restarts}

-- what drivers keep of a process, its life and its count of dropped upcalls are as they were
pub record SameKept (own o : Own) : Type 0 where
  pub grants : o.grants ≡ own.grants
  pub lives : o.lives ≡ own.lives
  pub life : o.life ≡ own.life
  pub dropped : o.inbox.dropped ≡ own.inbox.dropped

pub all_same : (own : Own) → SameKept own own
all_same own = record { grants = refl; lives = refl; life = refl; dropped = refl }

same_waiting : (queue : QueueName) (own o : Own) → SameKept own o → has_waiting queue o ≡ has_waiting queue own
same_waiting queue own o s =
    ap₂ (λ (gs : List Grant) (b : Bool). is_some (cond b
    (option_and_then (kind_in queue).told (option_map (λ g. g.value) (grant_of (kind_in queue).driver gs))) None))
    s.grants s.lives

-- a process that leaves all queues waits in none
pub left_all : (queue : QueueName) (waits : Bool) → waits_after queue waits leaving_all ≡ false
left_all Writes waits = refl
left_all Reads waits = refl
left_all Randoms waits = refl
left_all Stores waits = refl

still_within : (size : ℕ) (own o : Own) → request_in storages o ≡ request_in storages own → IsWithin size own
    → IsWithin size o
still_within size own o same within =
    subst (λ (q : Option StorageRequest). IfSome q (λ request. request.offset + request.length ≤ size)) (sym same)
    within

-- a process of which drivers keep the same
pub keeps_same : (size : ℕ) (own o : Own) → SameKept own o → KeepsLines size own o []
keeps_same size own o s = record {
  lines = λ queue. same_waiting queue own o s;
  once = λ queue. refl;
  life = λ queue e. s.life;
  within = still_within size own o (ap (λ (gs : List Grant). option_and_then storages.told
      (option_map (λ g. g.value) (grant_of storages.driver gs))) s.grants);
}

-- one that ended
pub keeps_ended : (size : ℕ) (own : Own) → KeepsLines size own (own_ended own) leaving_all
keeps_ended size own = record {
  lines = λ queue. sym (left_all queue (has_waiting queue own));
  once = λ queue. refl;
  life = λ queue e. refl;
  within = λ h. h;
}

-- one that starts again
pub keeps_restarted : (size : ℕ) (r : Record) → CanStartAgain r → KeepsLines size r.own (restart r).own leaving_all
keeps_restarted size r can =
    restarts (λ s. KeepsLines size r.own s.own leaving_all) r can
    (λ h m. record {
      lines = λ queue. sym (left_all queue (has_waiting queue r.own));
      once = λ queue. refl;
      life = λ queue e. absurd (false≢true e);
      within = λ h. tt;
    })

-- one that handed a pair to a driver
pub keeps_handed : OnlyDriversMoveLines → (size : ℕ) (swap : Swap) (own : Own)
    → KeepsLines size own (own_swapped swap own) []
keeps_handed law size swap own =
    let same = law.handing swap.kind swap.driver swap.number swap.pair own in
    record {
      lines = same.waiting;
      once = λ queue. refl;
      life = λ queue e. refl;
      within = still_within size own (own_swapped swap own) (same.requests Stores);
    }

-- one that gave a command
pub keeps_commanded : (around : CommandContext) (own : Own) (c : Commanded) → own.lives ≡ true
    → FollowsCommand around own c → StaysInPlace own (own_after c.step) → KeepsLines around.storage own
    (own_after c.step) c.acts
keeps_commanded around own c lives follows stays =
    let life : (own_after c.step).life ≡ own.life = ap (λ (o : Own). o.life) stays in
    record {
      lines = follows.lines lives;
      once = follows.once;
      life = λ queue e. life;
      within = follows.within;
    }
