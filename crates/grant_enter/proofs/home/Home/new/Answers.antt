use Rattle.std.proofs.Common.{rules}
use Rattle.grant_enter.proofs.Boot.{seats_more, seats_all, home_booted, homes_booted}
use Rattle.grant_enter.proofs.home.Home.new.Goals as goal

pub loop-footprint-preserved : goal.loop-footprint-preserved
loop-footprint-preserved c =
    seats_more c.flash-flash.result.now c.args.footprints.now c.loop-footprint.footprint-index c.footprint-item.result
    c.loop-footprint.seats.items c.push.new.self.items c.first.result c.loop-footprint-test.true c.footprint-item.is
    c.loop-footprint.invariant c.first.ensures (search rules)

pub invariant_of-result : goal.invariant_of-result
invariant_of-result c =
    home_booted c.what_is_laid_is_read_back.ensures c.args.flash.items c.args.ram c.args.footprints.now
    (record { memory = c.in_ok-memory.memory; seats = c.loop-footprint.seats }) (search rules)
    (seats_all c.flash-flash.result.now c.args.flash.items c.args.ram c.args.footprints.now
    c.loop-footprint.footprint-index c.loop-footprint.seats.items c.in_ok-memory.memory c.loop-footprint-test.false
    c.loop-footprint.invariant c.flash-flash.ensures (search rules)) (search rules) (search rules) c.requires.apart

pub returns : goal.returns
returns c =
    homes_booted c.what_is_laid_is_read_back.ensures c.args.flash.items c.args.ram c.args.footprints.now
    (record { memory = c.in_ok-memory.memory; seats = c.loop-footprint.seats }) (search rules)
    (seats_all c.flash-flash.result.now c.args.flash.items c.args.ram c.args.footprints.now
    c.loop-footprint.footprint-index c.loop-footprint.seats.items c.in_ok-memory.memory c.loop-footprint-test.false
    c.loop-footprint.invariant c.flash-flash.ensures (search rules)) (search rules)
