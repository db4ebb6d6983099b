-- What holds of a swap that was not refused.
use Rattle.std.proofs.Common.{◌≡◌, ◌<◌, true, not, nat_lt, is_none, None}
use Rattle.tk_base.specs.declared.call.CallRule.TheVariants.{NoDriver, NoNumber, NoRoom, Outside}
use Rattle.tk_base.specs.Kinds.{count_of}
use Rattle.grant_values.specs.Drivers.{counts_of}
use Rattle.grant_model.specs.Grants.{shape_of}
use Rattle.process_model.specs.Own.{Own}
use Rattle.process_model.specs.Handed.{has_place, may_share}
use Rattle.syscall_abi.specs.declared.form.Swap.{Swap}
use Rattle.kernel_model.specs.Calls.{swap_refusal}
use Rattle.kernel_model.proofs.Runs.{passed_over}
use Rattle.std.proofs.lemmas.Bool.{not-false, ltb-true}

-- a swap that was not refused: its driver has such a number and a place, and the pair may be handed
pub record IsHanded (swap : Swap) (own : Own) : Type 0 where
  pub counted : swap.number < count_of swap.kind (shape_of swap.driver)
  pub may : may_share swap.kind own.layout swap.pair ≡ true
  pub room : has_place swap.driver own ≡ true

pub is_handed : (swap : Swap) (own : Own) → swap_refusal swap own ≡ None → IsHanded swap own
unfolding swap_refusal
is_handed swap own none =
    let known = (passed_over (is_none (counts_of swap.driver)) NoDriver _ none).1 in
    let first = passed_over (not (nat_lt swap.number (count_of swap.kind (shape_of swap.driver)))) NoNumber _ known in
    let second = passed_over (not (may_share swap.kind own.layout swap.pair)) Outside _ first.1 in
    let third = passed_over (not (has_place swap.driver own)) NoRoom None second.1 in
    record {
      counted = ltb-true _ _ (not-false _ first.0);
      may = not-false (may_share swap.kind own.layout swap.pair) second.0;
      room = not-false (has_place swap.driver own) third.0;
    }
