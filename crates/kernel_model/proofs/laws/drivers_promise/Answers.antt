use Rattle.kernel_model.proofs.laws.drivers_promise.Goals as goal

pub returns : goal.returns
returns c = record {
  refuse = c.a_driver_that_refuses_changes_nothing.ensures;
  drop = c.a_command_drops_at_most_one_upcall.ensures;
  stay = c.commands_stay_in_place.ensures;
  follow = c.lines_follow_commands.ensures;
  alone = c.only_drivers_move_lines.ensures;
  limit = c.drivers_keep_places_and_order.ensures.limit;
}
