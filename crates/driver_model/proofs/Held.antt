-- What drivers keep of a process, by the one walk over all that they do.
use Rattle.std.proofs.Common.{◌≡◌, ◌≤◌, ℕ, ◌+◌, ◌==◌, true, nat_le, max}
use Rattle.std.proofs.Common.{refl, sym, ap, subst, arith}
use Rattle.std.proofs.lemmas.Bool.{leb-true}
use Rattle.grant_values.specs.Drivers.{cost_of}
use Rattle.grant_values.specs.Values.{KeptValue}
use Rattle.grant_model.specs.Grants.{costs, grant_of, shape_of, with_pair}
use Rattle.tk_base.specs.declared.kinds.PairKind.{PairKind}
use Rattle.tk_base.specs.Kinds.{is_buffer}
use Rattle.process_layout.specs.Bounds.{Bounds}
use Rattle.process_model.specs.Own.{Own, kernel_break_of}
use Rattle.process_model.specs.Handed.{own_entering, handing, has_place, lies_in_ram, marked, raised}
use Rattle.process_model.specs.Served.{with_kept}
use Rattle.driver_model.specs.Keeping.{DriversKeep, HandsInPlace, IsInOrder, KeepsLimit, KeepsOrder}
use Rattle.driver_model.specs.Laws.{StaysInPlace}
use Rattle.grant_model.proofs.Costs.{same_costs}
use Rattle.driver_model.proofs.Scheduled.{Serves, same_limit}
use Rattle.driver_model.proofs.Services.{of_services}
use Rattle.std.proofs.lemmas.Bool.{and_parts, cond_both}
use Rattle.std.proofs.Common.{inl, inr}
use Rattle.driver_model.proofs.Tables.{cases_Option}

-- the order speaks of the layout and of the costs alone
pub same_order : (own o : Own) → o.layout ≡ own.layout → costs o.grants ≡ costs own.grants → IsInOrder own → IsInOrder o
same_order own o layout grants h = record {
  mark = rw layout h.mark;
  brk = rw layout h.brk;
  grants = rw (layout, grants) h.grants;
}

-- a driver that is entered, where it has a place
pub entering_order : (driver : ℕ) (own : Own) → has_place driver own ≡ true → KeepsOrder own (own_entering driver own)
entering_order driver own room h =
    elim (cases_Option (grant_of driver own.grants)) [
      | inl none ↦
          let least = leb-true (own.layout.brk + cost_of (shape_of driver)) (kernel_break_of own) (rw none at room) in
          rw none (record { mark = h.mark; brk = h.brk; grants = omega (arith, least, h.grants) })
      | inr is ↦ rw is.1 (record { mark = h.mark; brk = h.brk; grants = h.grants })
    ]

pub keeping_order : (driver : ℕ) (value : KeptValue) (own : Own) → KeepsOrder own (with_kept driver value own)
keeping_order driver value own h =
    same_order own (with_kept driver value own) refl (same_costs driver _ own.grants (λ g. refl)) h

-- a driver serves it
served_order : (own o : Own) → Serves own o → KeepsOrder own o
served_order own o s =
    same_order own o (ap (λ (x : Own). x.layout) s.rest) (ap (λ (x : Own). costs x.grants) s.rest)

-- a buffer that lies in accessible RAM raises the mark to its end at most
pub of_raised : (P : Bounds → Type 0) (pair : ℕ × ℕ) (e : Bounds) → P e
    → (lies_in_ram e pair.0 pair.1 ≡ true → P (record e { mark = max e.mark (pair.0 + pair.1) })) → P (raised pair e)
of_raised P pair e same raises =
    cond_both (pair.1 == 0) e _ P (λ none. same)
    (λ some. cond_both (lies_in_ram e pair.0 pair.1) _ e P raises (λ past. same))

raised_order : (pair : ℕ × ℕ) (e : Bounds) → e.start ≤ e.mark → e.mark ≤ e.brk
    → (e.start ≤ (raised pair e).mark) × ((raised pair e).mark ≤ e.brk)
raised_order pair e low high =
    of_raised (λ f. (e.start ≤ f.mark) × (f.mark ≤ e.brk)) pair e (low, high)
    (λ is. let ends = leb-true _ e.brk (and_parts (nat_le e.start pair.0) (nat_le (pair.0 + pair.1) e.brk) is).1 in
    (omega (arith, low), omega (arith, high, ends)))

raised_rest : (pair : ℕ × ℕ) (e : Bounds) → raised pair e ≡ record e { mark = (raised pair e).mark }
raised_rest pair e = of_raised (λ f. f ≡ record e { mark = f.mark }) pair e refl (λ is. refl)

raised_in_order : (pair : ℕ × ℕ) (own : Own) → KeepsOrder own (record own { layout = raised pair own.layout })
raised_in_order pair own h =
    let e = own.layout in
    let o = raised_order pair e h.mark h.brk in
    subst (λ (f : Bounds). IsInOrder (record own { layout = f })) (sym (raised_rest pair e))
    (record { mark = o.0; brk = o.1; grants = h.grants })

marked_in_order : (kind : PairKind) (pair : ℕ × ℕ) (own : Own)
    → KeepsOrder own (record own { layout = marked kind pair own.layout })
marked_in_order kind pair own =
    cond_both (is_buffer kind) _ own.layout (λ (e : Bounds). KeepsOrder own (record own { layout = e }))
    (λ b. raised_in_order pair own) (λ b h. h)

pub handed_order : (kind : PairKind) (driver number : ℕ) (pair : ℕ × ℕ) (own : Own) → has_place driver own ≡ true
    → KeepsOrder own (handing kind driver number pair own)
handed_order kind driver number pair own room h =
    let o = own_entering driver own in
    let m = record o { layout = marked kind pair o.layout } in
    same_order m (handing kind driver number pair own) refl
    (same_costs driver (with_pair kind number pair) o.grants (λ g. refl))
    (marked_in_order kind pair o (entering_order driver own room h))

pub marked_rest : (kind : PairKind) (pair : ℕ × ℕ) (e : Bounds)
    → marked kind pair e ≡ record e { mark = (marked kind pair e).mark }
marked_rest kind pair e =
    cond_both (is_buffer kind) _ e (λ (f : Bounds). f ≡ record e { mark = f.mark }) (λ b. raised_rest pair e)
    (λ b. refl)

pub handed_places : (kind : PairKind) (driver number : ℕ) (pair : ℕ × ℕ) (own : Own)
    → HandsInPlace own (handing kind driver number pair own)
handed_places kind driver number pair own =
    let o = handing kind driver number pair own in
    ap (λ (e : Bounds). record own { layout = e; ram = o.ram; grants = o.grants; inbox = o.inbox })
    (marked_rest kind pair own.layout)

pub drivers_keep : DriversKeep
drivers_keep = record {
  places = of_services StaysInPlace (record {
    same = λ own. refl;
    keeps = λ driver value own. refl;
    enters = λ driver value own room. refl;
    serves = λ driver value own o s. subst (λ (x : Own). StaysInPlace own (with_kept driver value x)) (sym s.rest) refl;
    tells = λ own o s. subst (StaysInPlace own) (sym s.rest) refl;
  });
  order = of_services KeepsOrder (record {
    same = λ own h. h;
    keeps = keeping_order;
    enters = λ driver value own room h. keeping_order driver value (own_entering driver own)
        (entering_order driver own room h);
    serves = λ driver value own o s h. keeping_order driver value o (served_order own o s h);
    tells = served_order;
  });
  limit = of_services KeepsLimit (record {
    same = same_limit;
    keeps = λ driver value own. record { limit = λ few. few; room = λ few. refl };
    enters = λ driver value own room. record { limit = λ few. few; room = λ few. refl };
    serves = λ driver value own o s. record { limit = s.limit.limit; room = s.limit.room };
    tells = λ own o s. s.limit;
  });
  handed = handed_order;
  handed_places = handed_places;
}
