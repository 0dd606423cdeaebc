-- What each call comes to on a tree.
use Rattle.mt_engine.proofs.Prelude.{◌≡◌, ◌≢◌, ℕ, ◌+◌, ◌<◌, ◌≤◌, ◌==◌, ◌||◌, true, false, List, Option, Some, None, refl, sym, ap, ◌∙◌, subst, inl, inr, arith, ne_eqb, IsSome, IfSome, is_some, cases_Bool, cases_lt, eqb-true, eqb-false, lt-ltb, le-ltb, Kind, Width, Range, Call, Store, StorePre, Insert, Erase, Reply, acted, erased, is_invalid, replied, IsMapFrom, first_met, holding, is_held, over, Wants, greatest, valid_order, valid_within, valid_entry, is_held_where_met, up_to, first_from_place, IsTreeOf, map_by, Rooted, Sheet, OnlyReads, same_tree, Handle, PathStep, last_step, handle_in, handle_of, path_in, is_refusal, IsHereAt, range_of, IsSpanAt, nearest_from, IsMet, IsStoreOf, IsStorePlan, is_range_met, IsDoneBy, StoreBy, Write}
use Rattle.mt_base.specs.declared.replies.Reply.TheVariants as reply
use Rattle.mt_engine.proofs.IndexesAbove.{load_above}
use Rattle.mt_engine.proofs.MapPlaces.{range_there}
use Rattle.mt_engine.proofs.MapQueries.{load_hole}
use Rattle.mt_engine.proofs.MapStores.{without_is_store}
use Rattle.mt_engine.proofs.SameWay.{same_way}
use Rattle.mt_engine.proofs.SlotQueries.{not_none, IsNearest}
use Rattle.mt_engine.proofs.Slots.{none_at_root, tree_map, slot_tells}
use Rattle.mt_engine.proofs.Wanting.{held_around, none_in_hole, stays_replaces_none}

-- a store that is answered by what it met was done
replied_done : (met : Option Range) → is_refusal (replied met) ≡ false
replied_done None = refl
replied_done (Some r) = refl

-- the call leaves the map, and wants no rows
abbrev pub ComesToNothing : Kind → List Range → Call → Reply → Type 0
ComesToNothing kind m call answer = (acted kind m call ≡ (m, answer)) × (Wants kind m call → ⊥)

-- ---- what is refused as invalid

module _ (kind : Kind) (m : List Range) (first last entry : ℕ) where
  pub store_invalid : is_invalid kind first last entry ≡ true → ComesToNothing kind m (Store first last entry) reply.Invalid
  store_invalid bad =
      let acts : acted kind m (Store first last entry) ≡ (m, reply.Invalid) = rw bad refl in
      (acts, stays_replaces_none kind m (Store first last entry) reply.Invalid acts)

  pub store_pre_invalid : is_invalid kind first last entry ≡ true → ComesToNothing kind m (StorePre first last entry) reply.Invalid
  store_pre_invalid bad = (rw bad refl, λ good. absurd (cc))

  pub insert_invalid : (is_invalid kind first last entry || (entry == 0)) ≡ true → ComesToNothing kind m (Insert first last entry) reply.Invalid
  insert_invalid bad =
      let acts : acted kind m (Insert first last entry) ≡ (m, reply.Invalid) = rw bad refl in
      (acts, stays_replaces_none kind m (Insert first last entry) reply.Invalid acts)

module _ (t : Rooted) (kind : Kind) (tree : IsTreeOf t kind) where
  abbrev m : List Range
  m = map_by t

  abbrev top : ℕ
  top = greatest t.table.width

  -- ---- what stands at an index

  pub span_at_handle : (index : ℕ) (handle : Handle) → index ≤ top → IsHereAt t index (Some handle) → IsSpanAt m top index handle.span
  span_at_handle index handle within here =
      subst (λ (h : Handle). IsSpanAt m top index h.span) (sym here.some) (slot_tells t kind index tree (λ empty. not_none handle (t.root ≡ 0) here.none empty) within)

  rise : IsMapFrom 0 m
  rise = (tree_map t kind tree).rise

  -- ---- what a store meets

  some_range : (o : Option Range) → IsSome o → (r : Range) × (o ≡ Some r)
  some_range None some = absurd (cc)
  some_range (Some r) some = (r, refl)

  module _ (first last : ℕ) (order : first ≤ last) (within : last ≤ top) where
    -- a range holds an index of the store's where one stands in the slot of the first, or right behind a hole there
    pub taken_is : (here : Option Handle) → IsHereAt t first here → is_held m first last ≡ is_range_met here last
    taken_is None stands = ap (λ (l : List Range). is_held l first last) (none_at_root t (stands.none.0 refl))
    taken_is (Some handle) stands =
        let at = span_at_handle first handle (omega arith) stands in
        elim (cases_Bool (handle.span.word == 0)) [
          | inr word ↦ rw word (held_around m first last first (range_of handle.span) (omega arith) order (at.held (eqb-false handle.span.word 0 word)))
          | inl hole ↦
              (let no_word = eqb-true handle.span.word 0 hole in
              elim (cases_lt handle.span.last last) [
                | inl more ↦
                    (let to = at.to in let most = within in
                    let found = some_range (holding m (handle.span.last + 1)) (at.behind no_word (omega arith)) in
                    rw (hole, lt-ltb handle.span.last last more) (held_around m first last (handle.span.last + 1) found.0 (omega arith) (omega arith) found.1))
                | inr over ↦ rw (hole, le-ltb handle.span.last last over) (none_in_hole m top first last handle.span rise at no_word over)
              ])
        ]

    met_where_taken : (here : Option Handle) → IsHereAt t first here → is_some (first_met m first last) ≡ is_range_met here last
    met_where_taken here stands = sym (is_held_where_met m first last) ∙ taken_is here stands

    pub met_none : (here : Option Handle) → IsHereAt t first here → is_range_met here last ≡ false → None ≡ first_met m first last
    met_none here stands free = none_met (first_met m first last) (met_where_taken here stands ∙ free)
      where
        none_met : (o : Option Range) → is_some o ≡ false → None ≡ o
        none_met None none = refl
        none_met (Some r) none = absurd (cc)

    pub met_nearest : (here : Option Handle) (handle : Handle) (found : Option Range) → here ≡ Some handle → IsHereAt t first here → is_range_met here last ≡ true → IsNearest nearest_from t handle found → found ≡ first_met m first last
    met_nearest here handle found some stands taken known =
        let at : handle ≡ handle_in t first = subst (λ (o : Option Handle). IfSome o (λ h. h ≡ handle_in t first)) some stands.some in
        let met : first_met m first last ≡ up_to last found = first_from_place m first last rise ∙ ap (up_to last) (sym (known first (omega arith) at)) in
        let there = some_range (first_met m first last) (met_where_taken here stands ∙ taken) in
        range_there found last there.0 (sym met ∙ there.1) ∙ sym there.1

  -- ---- store

  module _ (first last entry : ℕ) (valid : is_invalid kind first last entry ≡ false) where
    order : first ≤ last
    order = valid_order kind first last entry valid

    within : last ≤ top
    within = subst (λ (w : Width). last ≤ greatest w) (sym tree.width) (valid_within kind first last entry valid)

    pub first_within : first ≤ top
    first_within = let le = order in let most = within in omega arith

    -- the store of the entry, by this
    abbrev written : StoreBy → Write
    written by = record { edit = record { first = first; last = last; entry = entry }; by = by }

    -- a plan to store the entry, of a call that does so
    plan_of : {path : List PathStep} {answer : Reply} {here : Option Handle} {by : StoreBy} (call : Call) → acted kind m call ≡ (over m first last entry, replied (first_met m first last)) → IsStoreOf m call first last entry
        → path ≡ path_in t.table t.root first → IsHereAt t first here → IsDoneBy here first last entry by → answer ≡ replied (first_met m first last) → IsStorePlan kind t call path (written by) answer
    plan_of {here = here} call acts own way stands done is = record {
      store = record { acts = acts ∙ ap (λ (r : Reply). (over m first last entry, r)) (sym is); order = order; within = within; lawful = valid_entry kind first last entry valid };
      own = own;
      success = ap is_refusal is ∙ replied_done (first_met m first last);
      way = way;
      by = record { here = here; stands = stands; done = done };
    }

    pub store_plan : {path : List PathStep} {answer : Reply} {here : Option Handle} {by : StoreBy} → path ≡ path_in t.table t.root first → IsHereAt t first here → IsDoneBy here first last entry by → answer ≡ replied (first_met m first last) → IsStorePlan kind t (Store first last entry) path (written by) answer
    store_plan {path = path} {answer = answer} {here = here} {by = by} way stands done is = plan_of {path = path} {answer = answer} {here = here} {by = by} (Store first last entry) (rw valid refl) (refl, refl, refl) way stands done is

    -- the same of a store that is to have its rows at hand
    pub store_pre_plan : {path : List PathStep} {answer : Reply} {here : Option Handle} {by : StoreBy} → path ≡ path_in t.table t.root first → IsHereAt t first here → IsDoneBy here first last entry by → answer ≡ replied (first_met m first last) → IsStorePlan kind t (StorePre first last entry) path (written by) answer
    store_pre_plan {path = path} {answer = answer} {here = here} {by = by} way stands done is = plan_of {path = path} {answer = answer} {here = here} {by = by} (StorePre first last entry) (rw valid refl) (refl, refl, refl) way stands done is

    -- ---- insert

    good : entry ≢ 0 → (is_invalid kind first last entry || (entry == 0)) ≡ false
    good some = rw (valid, ne_eqb entry 0 some) refl

    pub insert_exists : (here : Option Handle) → entry ≢ 0 → IsHereAt t first here → is_range_met here last ≡ true → ComesToNothing kind m (Insert first last entry) reply.Exists
    insert_exists here some stands taken =
        let acts : acted kind m (Insert first last entry) ≡ (m, reply.Exists) = rw (good some, taken_is first last order within here stands ∙ taken) refl in
        (acts, stays_replaces_none kind m (Insert first last entry) reply.Exists acts)

    pub insert_plan : {path : List PathStep} {here : Option Handle} {by : StoreBy} → entry ≢ 0 → path ≡ path_in t.table t.root first → IsHereAt t first here → IsDoneBy here first last entry by → is_range_met here last ≡ false → IsStorePlan kind t (Insert first last entry) path (written by) reply.Ok
    insert_plan {here = here} some way stands done free = record {
      store = record { acts = rw (good some, taken_is first last order within here stands ∙ free) refl; order = order; within = within; lawful = valid_entry kind first last entry valid };
      own = (refl, refl, refl);
      success = refl;
      way = way;
      by = record { here = here; stands = stands; done = done };
    }

  -- ---- erase

  -- no range holds the index
  erases_none : (index : ℕ) → holding m index ≡ None → ComesToNothing kind m (Erase index) reply.None
  erases_none index none = let acts : acted kind m (Erase index) ≡ (m, reply.None) = ap (erased m index) none in (acts, stays_replaces_none kind m (Erase index) reply.None acts)

  pub erase_above : (index : ℕ) → top < index → ComesToNothing kind m (Erase index) reply.None
  erase_above index above = erases_none index (sym (load_above t (kind, tree) index above))

  module _ (index : ℕ) (inside : index ≤ top) where
    pub erase_nothing : t.root ≡ 0 → ComesToNothing kind m (Erase index) reply.None
    erase_nothing none = let empty = none_at_root t none in erases_none index (ap (λ (l : List Range). holding l index) empty)

    module _ (handle : Handle) (stands : IsHereAt t index (Some handle)) where
      at : IsSpanAt m top index handle.span
      at = span_at_handle index handle inside stands

      pub erase_hole : handle.span.word ≡ 0 → ComesToNothing kind m (Erase index) reply.None
      erase_hole hole = erases_none index (sym (load_hole m top index handle.span rise at hole))

      some : t.root ≢ 0
      some empty = not_none handle (t.root ≡ 0) stands.none empty

      same : path_in t.table t.root handle.span.first ≡ path_in t.table t.root index
      same = ap (λ (h : Handle). path_in t.table t.root h.span.first) stands.some ∙ same_way t kind index tree some inside

      pub erase_plan : {path : List PathStep} {was : Range} {by : StoreBy} → handle.span.word ≢ 0 → path ≡ path_in t.table t.root index → was ≡ range_of handle.span → IsDoneBy (Some handle) handle.span.first handle.span.last 0 by
          → IsStorePlan kind t (Erase index) path (record { edit = record { first = handle.span.first; last = handle.span.last; entry = 0 }; by = by }) (reply.Was was)
      erase_plan word way is done =
          let held = at.held word in
          let from = at.from in let to = at.to in
          let less = without_is_store m 0 index (range_of handle.span) rise held in
          record {
            store = record { acts = ap (erased m index) held ∙ (λ i. (less i, reply.Was (sym is i))); order = omega arith; within = at.within; lawful = refl };
            own = refl;
            success = refl;
            way = way ∙ sym same;
            by = record { here = Some handle; stands = record { none = stands.none; some = stands.some ∙ ap (λ (p : List PathStep). handle_of t.table (last_step p)) (sym same) }; done = done };
          }

-- ---- after calls that only read

-- what a store meets in the tree as it was when its path was walked
pub store_meets : (s s' : Sheet) (kind : Kind) (tree : IsTreeOf s.tree kind) (first last entry : ℕ) → is_invalid kind first last entry ≡ false → (here : Option Handle) (met : Option Range) → IsHereAt s.tree first here → OnlyReads s s' → IsMet s'.tree here last met
    → met ≡ first_met (map_by s.tree) first last
store_meets s s' kind tree first last entry valid here met stands reads known =
    subst (λ (t : Rooted). IsMet t here last met) (same_tree s s' reads) known first (order s.tree kind tree first last entry valid) (within s.tree kind tree first last entry valid) stands
