-- The pairs that a process has handed, once what is its own has changed. A change of a driver's grant changes what is
-- found for that driver alone, by induction on the grants (`at`); a value kept or a driver entered leaves all pairs,
-- and to hand one changes that place, by the law that pairs stand by kind.
use Rattle.std.proofs.Common.{◌≡◌, ◌≢◌, ◌<◌, ℕ, ◌==◌, Bool, true, false, cond, List, [], ◌∷◌, length}
use Rattle.std.proofs.Common.{Option, None, Some, is_some, IfSome, refl, ap, sym, subst, ◌∙◌, eqb-true, eq-eqb, ne_eqb}
use Rattle.std.specs.Option.{option_map}
use Rattle.std.proofs.lemmas.Bool.{false≢true}
use Rattle.tk_base.specs.declared.kinds.PairKind.{PairKind}
use Rattle.tk_base.specs.Kinds.{count_of, pair_count}
use Rattle.grant_values.specs.Values.{KeptValue}
use Rattle.grant_model.specs.Grants.{Grant, HasPairs, entered, fresh, grant_of, pair_of}
use Rattle.grant_model.specs.Grants.{shape_of, with_grant, with_pair, with_value}
use Rattle.grant_model.specs.Laws.{PairsStandByKind}
use Rattle.process_model.specs.Own.{Own}
use Rattle.process_model.specs.Handed.{own_entering, handing, held, lies_in_ram}
use Rattle.process_model.specs.Served.{own_scheduled, with_kept}
use Rattle.process_model.specs.Flag.{with_flag}
use Rattle.process_model.specs.Pairs.{HandsNone, HandsOne, HandsTheSame, HasShape, OnlyHandingChangesPairs, pairs_in}
use Rattle.std.proofs.lemmas.Bool.{cond_both, cases_eq, cases_Bool, ne_eqb}
use Rattle.std.proofs.Common.{inl, inr, ◌⊎◌}

-- an option is none, or something
cases_Option : {X : Type 0} (o : Option X) → (o ≡ None) ⊎ ((x : X) × (o ≡ Some x))
cases_Option None = inl refl
cases_Option (Some x) = inr (x, refl)

-- a change that leaves the grant its driver's changes the grant of that driver alone
pub at : (driver other : ℕ) (change : Grant → Grant) (gs : List Grant) → ((g : Grant) → (change g).driver ≡ g.driver)
    → grant_of other (with_grant driver change gs)
    ≡ cond (driver == other) (option_map change (grant_of other gs)) (grant_of other gs)
at driver other change [] stays = cond_both (driver == other) _ _ (λ o. None ≡ o) (λ e. refl) (λ e. refl)
at driver other change (g ∷ gs) stays =
    elim (cases_eq g.driver driver) [
      | inl here ↦
          let tests : ((change g).driver == other) ≡ (g.driver == other) = rw (stays g) in
          elim (cases_Bool (g.driver == other)) [
            | inl e ↦ rw (eq-eqb g.driver driver here, tests, ← here, e)
            | inr e ↦ rw (eq-eqb g.driver driver here, tests, ← here, e)
          ]
      | inr gone ↦ elim (cases_eq g.driver other) [
        | inl is ↦ rw (
          ne_eqb g.driver driver gone,
          eq-eqb g.driver other is,
          ne_eqb driver other (λ d. gone (is ∙ sym d)),
        )
        | inr apart ↦ rw (ne_eqb g.driver driver gone, ne_eqb g.driver other apart) (at driver other change gs stays)
      ]
    ]

-- another value leaves the pairs
keeping : (driver : ℕ) (value : KeptValue) (own : Own) → HandsTheSame own (with_kept driver value own)
keeping driver value own = record {
  pairs = λ other. rw (at driver other (with_value value) own.grants (λ g. refl))
      (cond_both (driver == other) _ (grant_of other own.grants)
      (λ o. pairs_in other o ≡ pairs_in other (grant_of other own.grants))
      (λ e. elim (grant_of other own.grants)
      as (λ o. pairs_in other (option_map (with_value value) o) ≡ pairs_in other o) [ None ↦ refl | Some g ↦ refl ])
      (λ e. refl));
}

-- a driver that is entered has a grant: its own of before, or a fresh one
entering_same : (driver : ℕ) (own : Own) → HandsTheSame own (own_entering driver own)
entering_same driver own = record {
  pairs = λ other. elim (cases_Option (grant_of driver own.grants)) [
    | inl none ↦ elim (cases_eq driver other) [
      | inl same ↦ let gone : grant_of other own.grants ≡ None = rw (← same) none in
          rw (none, same, eq-eqb other other refl, gone)
      | inr apart ↦ rw (none, ne_eqb driver other apart)
    ]
    | inr is ↦ rw is.1
  ];
}

is_there : (driver : ℕ) (gs : List Grant) → is_some (grant_of driver (entered driver gs)) ≡ true
is_there driver gs =
    elim (cases_Option (grant_of driver gs))
    [ inl none ↦ rw (none, eq-eqb driver driver refl) | inr is ↦ rw (is.1, is.1) ]

-- the grant that is found of a driver is that driver's
abbrev IsOf : ℕ → Option Grant → Type 0
IsOf driver found = IfSome found (λ g. g.driver ≡ driver)

is_of : (driver : ℕ) (gs : List Grant) → IsOf driver (grant_of driver gs)
is_of driver [] = tt
is_of driver (g ∷ gs) =
    cond_both (g.driver == driver) (Some g) _ (IsOf driver) (λ e. eqb-true g.driver driver e) (λ e. is_of driver gs)

-- so it has its pairs, where a process has as many as it should
has_pairs : (driver : ℕ) (g : Grant) → g.driver ≡ driver → length g.pairs ≡ pair_count (shape_of driver) → HasPairs g
has_pairs driver g is count = count ∙ ap (λ (d : ℕ). pair_count (shape_of d)) (sym is)

shape_same : (own o : Own) → HandsTheSame own o → HasShape own → HasShape o
shape_same own o same shape = record { counts = λ driver. ap length (same.pairs driver) ∙ shape.counts driver }

module _ (law : PairsStandByKind) where
  -- a pair is found by its kind and number among all that were handed
  found_at : (kind : PairKind) (driver number : ℕ) (found : Option Grant) → IsOf driver found
      → pair_of kind number found ≡ pair_of kind number (Some (record (fresh driver) { pairs = pairs_in driver found }))
  found_at kind driver number None is = sym (law.none kind driver number)
  found_at kind driver number (Some g) is =
      ap (λ (d : ℕ). pair_of kind number (Some (record (fresh d) { pairs = g.pairs }))) is

  held_same : (own o : Own) → HandsTheSame own o → (kind : PairKind) (driver number : ℕ)
      → held kind driver number o ≡ held kind driver number own
  held_same own o same kind driver number =
      found_at kind driver number (grant_of driver o.grants) (is_of driver o.grants)
      ∙ ap (λ (pairs : List (ℕ × ℕ)). pair_of kind number (Some (record (fresh driver) { pairs = pairs })))
      (same.pairs driver)
      ∙ sym (found_at kind driver number (grant_of driver own.grants) (is_of driver own.grants))

  hands_none : (own : Own) → own.grants ≡ [] → HandsNone own
  hands_none own none = record {
    shape = record {
      counts = λ driver. ap (λ (gs : List Grant). length (pairs_in driver (grant_of driver gs))) none ∙ law.made driver;
    };
    none = λ kind driver number. ap (λ (gs : List Grant). pair_of kind number (grant_of driver gs)) none;
  }

  -- a process that has entered a driver hands it a pair
  module _ (kind : PairKind) (driver number : ℕ) (pair : ℕ × ℕ) (gs : List Grant)
      (within : number < count_of kind (shape_of driver)) where
    abbrev change : Grant → Grant
    change = with_pair kind number pair

    abbrev after : List Grant
    after = with_grant driver change gs

    found_after : (d : ℕ) → grant_of d after ≡ cond (driver == d) (option_map change (grant_of d gs)) (grant_of d gs)
    found_after d = at driver d change gs (λ g. refl)

    within_of : (g : Grant) → g.driver ≡ driver → number < count_of kind (shape_of g.driver)
    within_of g is = subst (λ (d : ℕ). number < count_of kind (shape_of d)) (sym is) within

    counts_after : (d : ℕ) → length (pairs_in d (grant_of d gs)) ≡ pair_count (shape_of d)
        → length (pairs_in d (grant_of d after)) ≡ pair_count (shape_of d)
    counts_after d count =
        ap (λ (o : Option Grant). length (pairs_in d o)) (found_after d)
        ∙ by_test (driver == d) (grant_of d gs) (is_of d gs) count
      where
        by_test : (b : Bool) (found : Option Grant) → IsOf d found → length (pairs_in d found) ≡ pair_count (shape_of d)
            → length (pairs_in d (cond b (option_map change found) found)) ≡ pair_count (shape_of d)
        by_test false found is count = count
        by_test true None is count = count
        by_test true (Some g) is count =
            law.keeps kind number pair g (has_pairs d g is count) ∙ ap (λ (n : ℕ). pair_count (shape_of n)) is

    this_after : is_some (grant_of driver gs) ≡ true
        → length (pairs_in driver (grant_of driver gs)) ≡ pair_count (shape_of driver)
        → pair_of kind number (grant_of driver after) ≡ pair
    this_after there count =
        ap (pair_of kind number) (found_after driver)
        ∙ ap (λ (b : Bool). pair_of kind number
        (cond b (option_map change (grant_of driver gs)) (grant_of driver gs))) (eq-eqb driver driver refl)
        ∙ by_grant (grant_of driver gs) (is_of driver gs) there count
      where
        by_grant : (found : Option Grant) → IsOf driver found → is_some found ≡ true
            → length (pairs_in driver found) ≡ pair_count (shape_of driver)
            → pair_of kind number (option_map change found) ≡ pair
        by_grant None is there count = absurd (false≢true there)
        by_grant (Some g) is there count =
            law.this kind number pair g (has_pairs driver g is count) (within_of g is)

    other_after : (k : PairKind) (d n : ℕ) → (k ≡ kind → d ≡ driver → n ≢ number)
        → pair_of k n (grant_of d after) ≡ pair_of k n (grant_of d gs)
    other_after k d n apart =
        ap (pair_of k n) (found_after d) ∙ by_test (driver == d) refl (grant_of d gs) (is_of d gs)
      where
        by_test : (b : Bool) → (driver == d) ≡ b → (found : Option Grant) → IsOf d found
            → pair_of k n (cond b (option_map change found) found) ≡ pair_of k n found
        by_test false e found is = refl
        by_test true e None is = refl
        by_test true e (Some g) is =
            let same : d ≡ driver = sym (eqb-true driver d e) in
            law.others kind k number n pair g (within_of g (is ∙ same)) (λ k_is. apart k_is same)

  hands_one : (kind : PairKind) (driver number : ℕ) (pair : ℕ × ℕ) (own : Own) → HasShape own
      → number < count_of kind (shape_of driver)
      → HandsOne kind driver number pair own (handing kind driver number pair own)
  hands_one kind driver number pair own shape within =
      let o = own_entering driver own in
      let same = entering_same driver own in
      let counts = (shape_same own o same shape).counts in
      record {
        shape = record { counts = λ d. counts_after kind driver number pair o.grants within d (counts d) };
        this = this_after kind driver number pair o.grants within (is_there driver own.grants) (counts driver);
        others = λ k d n apart.
            other_after kind driver number pair o.grants within k d n apart ∙ held_same own o same k d n;
      }

same_grants : (own o : Own) → o.grants ≡ own.grants → HandsTheSame own o
same_grants own o same =
    record { pairs = λ driver. ap (λ (gs : List Grant). pairs_in driver (grant_of driver gs)) same }

flagged_same : (at byte : ℕ) (own : Own) → (with_flag at byte own).grants ≡ own.grants
flagged_same at byte own =
    cond_both (lies_in_ram own.layout at 1) _ own (λ (o : Own). o.grants ≡ own.grants) (λ e. refl) (λ e. refl)

pub only_handing_changes_pairs : PairsStandByKind → OnlyHandingChangesPairs
only_handing_changes_pairs law = record {
  held = held_same law;
  shape = shape_same;
  handing = hands_one law;
  grants = same_grants;
  entering = entering_same;
  keeping = keeping;
  scheduled = λ driver number args own. same_grants own (own_scheduled driver number args own) refl;
  flag = λ at byte own. same_grants own _ (flagged_same at byte own);
  none = hands_none law;
}
