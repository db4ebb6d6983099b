-- A command goes to the capsule of its driver: each arm hands what that capsule promised to `commands_by`, or to its
-- driver's lemma of `Orders`. What a capsule asks of its own lines is what the command asks of every queue.
use Rattle.std.proofs.Common.{◌≡◌, ℕ, Some, rules, ap, ap₂, sym, ◌∙◌}
use Rattle.grant_values.specs.declared.drivers.Driver.TheVariants.{Alarm, Buttons, Console, Leds, Random, Storage}
use Rattle.grant_values.specs.Drivers.{driver_of}
use Rattle.driver_model.specs.Steps.{own_after}
use Rattle.driver_model.specs.Commands.{by_number, Writes, Reads, Randoms, Stores}
use Rattle.syscall_abi.specs.Reply.{reply_of}
use Rattle.driver_model.specs.Buttons as buttons
use Rattle.driver_model.specs.Storage as storage
use Rattle.driver_requests.specs.Waiting.{queue_after}
use Rattle.grant_enter.specs.Homes.{own_of}
use Rattle.board_drivers.proofs.Orders.{commands_by, console_drives, leds_drive, leds_keep, random_drives}
use Rattle.board_drivers.proofs.Orders.{storage_drives, unasked_drives}
use Rattle.board_drivers.proofs.drivers.Drivers.command.Goals as goal

pub command-requires-in-Some-Console-clause-writes : goal.command-requires-in-Some-Console-clause-writes
command-requires-in-Some-Console-clause-writes c = let waits = c.requires.lines Writes in search rules

pub command-requires-in-Some-Console-clause-reads : goal.command-requires-in-Some-Console-clause-reads
command-requires-in-Some-Console-clause-reads c = let waits = c.requires.lines Reads in search rules

pub command-requires-in-Some-Random : goal.command-requires-in-Some-Random
command-requires-in-Some-Random c = let waits = c.requires.lines Randoms in search rules

pub command-requires-in-Some-Storage : goal.command-requires-in-Some-Storage
command-requires-in-Some-Storage c = let waits = c.requires.lines Stores in search rules

pub returns-in-Some-Alarm-clause-comes : goal.returns-in-Some-Alarm-clause-comes
returns-in-Some-Alarm-clause-comes c =
    let came = c.command.ensures.answer in
    let is : driver_of c.args.order.now.driver ≡ Some Alarm = search rules in
    commands_by Alarm c.args.tick c.args.id c.args.order.now c.args.self.now c.args.self.now
    (own_of c.args.home.now c.args.id.slot) (own_of c.command.new.home c.args.id.slot) c.command.result is
    (came.0, came.1, unasked_drives c.args.id c.args.self.now _ came.2)

pub returns-in-Some-Console-clause-comes : goal.returns-in-Some-Console-clause-comes
returns-in-Some-Console-clause-comes c =
    let own = own_of c.args.home.now c.args.id.slot in
    let does = c.command-in-Some-Console.ensures in
    let is : driver_of c.args.order.now.driver ≡ Some Console = search rules in
    commands_by Console c.args.tick c.args.id c.args.order.now c.args.self.now _ own
    (own_of c.command-in-Some-Console.new.home c.args.id.slot) c.command-in-Some-Console.result is (
      does.writes.reply,
      does.writes.own,
      console_drives c.args.id c.args.self.now c.command-in-Some-Console.new.self.writes
          c.command-in-Some-Console.new.self.reads _
          (c.drivers_ask_for_their_own.ensures.console c.args.order.now.number c.args.order.now.a2 own)
          does.writes.waiting does.reads.waiting,
    )

pub returns-in-Some-Leds-clause-comes : goal.returns-in-Some-Leds-clause-comes
returns-in-Some-Leds-clause-comes c =
    let own = own_of c.args.home.now c.args.id.slot in
    let does = c.command-in-Some-Leds.ensures.replies own in
    let is : driver_of c.args.order.now.driver ≡ Some Leds = search rules in
    commands_by Leds c.args.tick c.args.id c.args.order.now c.args.self.now _ own own c.command-in-Some-Leds.result is (
      does.0,
      sym (leds_keep _ c.args.order.now.number c.args.order.now.a2 own),
      leds_drive c.args.id c.args.self.now c.command-in-Some-Leds.new.leds c.args.order.now.a2 _
          (c.drivers_ask_for_their_own.ensures.leds _ c.args.order.now.number c.args.order.now.a2 own) does.1 does.2,
    )

pub returns-in-Some-Buttons-clause-comes : goal.returns-in-Some-Buttons-clause-comes
returns-in-Some-Buttons-clause-comes c =
    let own = own_of c.args.home.now c.args.id.slot in
    let came = c.command-in-Some-Buttons.ensures.answer in
    let count : c.count-count.result ≡ c.args.self.now.buttons.count = c.count-count.ensures.number in
    let pressed : c.pressed-pressed.result ≡ c.args.self.now.buttons.pressed = c.pressed-pressed.ensures in
    let asks = λ (n mask : ℕ). by_number (buttons.commands n mask c.args.order.now.a2) c.args.order.now.number own in
    let is : driver_of c.args.order.now.driver ≡ Some Buttons = search rules in
    commands_by Buttons c.args.tick c.args.id c.args.order.now c.args.self.now c.args.self.now own
    (own_of c.command-in-Some-Buttons.new.home c.args.id.slot) c.command-in-Some-Buttons.result is (
      came.0 ∙ ap₂ (λ (n mask : ℕ). reply_of (asks n mask).answer) count pressed,
      came.1 ∙ ap₂ (λ (n mask : ℕ). own_after (asks n mask).step) count pressed,
      unasked_drives c.args.id c.args.self.now _
          (c.drivers_ask_for_their_own.ensures.buttons c.args.self.now.buttons.count c.args.self.now.buttons.pressed
          c.args.order.now.number c.args.order.now.a2 own),
    )

pub returns-in-Some-Random-clause-comes : goal.returns-in-Some-Random-clause-comes
returns-in-Some-Random-clause-comes c =
    let own = own_of c.args.home.now c.args.id.slot in
    let does = c.command-in-Some-Random.ensures in
    let is : driver_of c.args.order.now.driver ≡ Some Random = search rules in
    commands_by Random c.args.tick c.args.id c.args.order.now c.args.self.now _ own
    (own_of c.command-in-Some-Random.new.home c.args.id.slot) c.command-in-Some-Random.result is (
      does.reply,
      does.own,
      random_drives c.args.id c.args.self.now c.command-in-Some-Random.new.self.waiting _
          (c.drivers_ask_for_their_own.ensures.random c.args.order.now.number c.args.order.now.a2 own) does.waiting,
    )

pub returns-in-Some-Storage-clause-comes : goal.returns-in-Some-Storage-clause-comes
returns-in-Some-Storage-clause-comes c =
    let own = own_of c.args.home.now c.args.id.slot in
    let does = c.command-in-Some-Storage.ensures in
    let size : c.size-size.result ≡ c.args.self.now.stores.size = c.size-size.ensures.size in
    let asks = λ (n : ℕ).
    by_number (storage.commands n c.args.order.now.a2 c.args.order.now.a3) c.args.order.now.number own in
    let is : driver_of c.args.order.now.driver ≡ Some Storage = search rules in
    commands_by Storage c.args.tick c.args.id c.args.order.now c.args.self.now _ own
    (own_of c.command-in-Some-Storage.new.home c.args.id.slot) c.command-in-Some-Storage.result is (
      does.reply ∙ ap (λ (n : ℕ). reply_of (asks n).answer) size,
      does.own ∙ ap (λ (n : ℕ). own_after (asks n).step) size,
      storage_drives c.args.id c.args.self.now c.command-in-Some-Storage.new.self.waiting _
          (c.drivers_ask_for_their_own.ensures.storage _ c.args.order.now.number c.args.order.now.a2 c.args.order.now.a3
          own) (does.waiting
          ∙ ap (λ (n : ℕ). queue_after Stores c.args.id c.args.self.now.storage.waiting (asks n).acts) size),
    )
