-- That what is a process's own stays whole, by the one walk over what may happen to it (`IsKept`), with the order of
-- its memory beside it: a change of bytes leaves as many, and each buffer lies below the mark still. Drivers keep it by
-- their law (`DriversKeepSettled`). With it the causes of a step's changes become those of any choices.
use Rattle.std.proofs.Common.{◌≡◌, ℕ, ◌-◌, List, [], ◌∷◌, length}
use Rattle.std.proofs.Common.{refl, sym, subst, ◌∙◌, arith}
use Rattle.std.proofs.lemmas.List.{length-replicate}
use Rattle.grant_model.specs.Grants.{Grant}
use Rattle.process_layout.specs.Bounds.{Bounds}
use Rattle.process_model.proofs.Changes.{keeps_none}
use Rattle.process_model.specs.Own.{Own}
use Rattle.process_model.specs.Pairs.{OnlyHandingChangesPairs}
use Rattle.driver_model.specs.Keeping.{DriversKeep, DriversKeepSettled, IsInOrder, IsSettled, KeepsSettled}
use Rattle.kernel_model.specs.Record.{Record}
use Rattle.kernel_model.specs.Calls.{restart, restarted_with}
use Rattle.kernel_model.specs.World.{after}
use Rattle.kernel_model.specs.Lives.{HoldsThroughout}
use Rattle.kernel_model.specs.Causes.{StepsHaveCauses}
use Rattle.kernel_model.specs.Wholes.{ChoicesHaveCauses, HasWholeOwn, OwnsStayWhole}
use Rattle.kernel_lives.proofs.Changes.{IsKept, stays}
use Rattle.kernel_lives.proofs.Lives.{KeepsBoth, both_services, keep_both, order_again, order_kept, order_moved}
use Rattle.kernel_lives.proofs.Lives.{order_on, order_same}
use Rattle.kernel_model.proofs.Restarts.{restart_by}
use Rattle.kernel_model.proofs.Handed.{is_handed}

-- other bytes, as many; the same layout and grants
settled_on : (own o : Own) → o.layout ≡ own.layout → o.grants ≡ own.grants → length o.ram ≡ length own.ram
    → IsSettled own → IsSettled o
settled_on own o layout grants size h =
    subst (λ (e : Bounds). IsSettled (record o { layout = e })) (sym layout)
    (subst (λ (gs : List Grant). IsSettled (record o { layout = own.layout; grants = gs })) (sym grants)
    (record {
      order = record { mark = h.order.mark; brk = h.order.brk; grants = h.order.grants };
      bytes = size ∙ h.bytes;
      buffers = record { each = h.buffers.each };
      shape = record { counts = h.shape.counts };
    }))

module _ (law : DriversKeep) (pairs : OnlyHandingChangesPairs) (settled : DriversKeepSettled) where
  abbrev KeepsAll : Own → Own → Type 0
  KeepsAll own o = KeepsBoth own o × KeepsSettled own o

  -- a process without grants, its block zeroed
  settled_again : (r : Record) → HasWholeOwn r → HasWholeOwn (restart r)
  settled_again r h =
      let order = order_again r h.0 in (
        order,
        restart_by (λ s. IsInOrder s.own → IsSettled s.own) r (λ places. h.1)
            (λ header m is main places. record {
              order = places;
              bytes = omega (arith, length-replicate {A = ℕ} (r.own.layout.end - r.own.layout.start) 0);
              buffers = record {
                each = λ kind driver number. keeps_none kind _;
              };
              shape = (pairs.none (restarted_with r header m).own refl).shape;
            }) order.places,
      )

  whole_kept : IsKept KeepsAll HasWholeOwn HasWholeOwn
  whole_kept =
      let k = order_kept law in
      record {
        done = λ r h. h;
        goes = λ r regs state refusal same h. (k.goes r regs state refusal same h.0, h.1);
        serves = λ r o storage pressed s h. (k.serves r o storage pressed s.0 h.0, s.1 h.1);
        hands = λ r swap may h.
            let is = is_handed swap r.own may in (
              k.hands r swap may h.0,
              settled.handed swap.kind swap.driver swap.number swap.pair r.own is.room is.may is.counted h.1,
            );
        moves = λ r new may h. (
          k.moves r new may h.0,
          record {
            order = order_moved r new may h.0;
            bytes = h.1.bytes;
            buffers = record { each = h.1.buffers.each };
            shape = record { counts = h.1.shape.counts };
          },
        );
        bytes = λ r ram inbox as_many takes h.
            (k.bytes r ram inbox as_many takes h.0, settled_on r.own _ refl refl as_many h.1);
        ends = λ r state denial over h. (k.ends r state denial over h.0, settled_on r.own _ refl refl refl h.1);
        again = settled_again;
        faults_again = λ r denial h. settled_again _ (record { places = h.0.places; least = h.0.least }, h.1);
      }

  pub wholes_stay : HoldsThroughout HasWholeOwn
  wholes_stay =
      stays KeepsAll (both_services KeepsBoth KeepsSettled (keep_both law) settled.services) HasWholeOwn whole_kept
      (λ r turns held regs ram size h. (
        order_on r _ h.0 refl refl refl (order_same r.own _ refl refl h.0.places),
        settled_on r.own _ refl refl size h.1,
      ))

  pub owns_stay_whole : OwnsStayWhole
  owns_stay_whole w choices all slot r is = settled.whole r.own (rw is at (wholes_stay w choices slot (all slot))).1

  pub choices_have_causes : StepsHaveCauses → ChoicesHaveCauses
  choices_have_causes steps w [] all = tt
  choices_have_causes steps w (choice ∷ choices) all = (
    steps.any w choice (owns_stay_whole w [] all),
    choices_have_causes steps (after w choice) choices (λ slot. wholes_stay w (choice ∷ []) slot (all slot)),
  )
