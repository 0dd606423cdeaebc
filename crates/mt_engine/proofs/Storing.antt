-- By what a store is carried out, and what is known then.
use Rattle.mt_engine.proofs.Prelude.{◌≡◌, ◌≢◌, ℕ, ◌+◌, ◌≤◌, List, Some, None, Option, true, false, length, refl, sym, ap, ◌∙◌, subst, inl, inr, arith, ne_eqb, Call, Store, StorePre, Insert, Erase, Alloc, Ralloc, Gap, Rgap, Clear, Kind, Range, Reply, acted, IsMapFrom, over, Wants, is_exact_store, greatest, deepest, Book, named_kind, root_span, height_in, IsTree, Rooted, Sheet, IsTreeOf, tree_as, map_by, height_by_depth, Handle, PathStep, IsHandleOf, path_of_none, levels, IsStoreBy, MayReplace, StoreBy, NoWord, OneWord, NewRows, Write, IsInCall, Replaces, IsHereAt, range_of, IsStoreOf, IsStorePlan, HasRoom, is_by_rows, wants_by, IsExactly, IsDoneBy}
use Rattle.mt_engine.proofs.Moments.{tree_in_call}
use Rattle.mt_engine.proofs.Planning.{span_at_handle}
use Rattle.mt_engine.proofs.SlotQueries.{not_none}
use Rattle.mt_engine.proofs.Slots.{none_at_root, tree_map}
use Rattle.mt_engine.proofs.Wanting.{unwanted, wanted, hole_over_hole, stays_replaces_none, exact_replaces_none, inexact, store_replaces, first_store_replaces}

module _ {kind : Kind} {t : Rooted} {call : Call} {path : List PathStep} {write : Write} {reply : Reply} (tree : IsTreeOf t kind) (plan : IsStorePlan kind t call path write reply) where
  abbrev m : List Range
  m = map_by t

  abbrev first : ℕ
  first = write.edit.first

  abbrev last : ℕ
  last = write.edit.last

  abbrev entry : ℕ
  entry = write.edit.entry

  -- what stands at its first index
  abbrev here : Option Handle
  here = plan.by.here

  done_by : (by : StoreBy) → write.by ≡ by → IsDoneBy here first last entry by
  done_by by is = subst (IsDoneBy here first last entry) is plan.by.done

  abbrev top : ℕ
  top = greatest t.table.width

  within : first ≤ top
  within = let order = plan.store.order in let ends = plan.store.within in omega arith

  rise : IsMapFrom 0 m
  rise = (tree_map t kind tree).rise

  -- ---- by no word

  hole_stays : (o : Option Handle) → IsHereAt t first o → IsDoneBy o first last entry NoWord → over m first last entry ≡ m
  hole_stays None stands none = let empty = none_at_root t (stands.none.0 refl) in (λ i. over (empty i) first last (none i)) ∙ sym empty
  hole_stays (Some handle) stands by = ap (over m first last) by.no_entry ∙ hole_over_hole m top first last handle.span rise (span_at_handle t kind tree first handle within stands) by.hole plan.store.order by.over

  -- it leaves the map
  pub no_word_acts : write.by ≡ NoWord → acted kind m call ≡ (m, reply)
  no_word_acts by = plan.store.acts ∙ ap (λ (x : List Range). (x, reply)) (hole_stays here plan.by.stands (done_by NoWord by))

  -- ---- by one word

  exact_by : (o : Option Handle) (at : Handle) → IsHereAt t first o → IsDoneBy o first last entry (OneWord at) → IsHereAt t first (Some at) × IsExactly at first last entry
  exact_by None at stands by = absurd by
  exact_by (Some handle) at stands by = subst (λ (h : Handle). IsHereAt t first (Some h) × IsExactly h first last entry) (sym by.0) (stands, by.1)

  module _ {at : Handle} (by : write.by ≡ OneWord at) where
    pub one_stands : IsHereAt t first (Some at)
    one_stands = (exact_by here at plan.by.stands (done_by (OneWord at) by)).0

    pub one_exact : IsExactly at first last entry
    one_exact = (exact_by here at plan.by.stands (done_by (OneWord at) by)).1

    pub one_handle : IsHandleOf t at
    one_handle = record { some = not_none at (t.root ≡ 0) one_stands.none; index = first; within = within; is = one_stands.some }

    pub one_store : IsStoreBy kind top m call reply at.span.first at.span.last entry
    one_store = subst (λ (q : ℕ × ℕ). IsStoreBy kind top m call reply q.0 q.1 entry) (λ i. (sym one_exact.from i, sym one_exact.to i)) plan.store

    -- it replaces no rows
    pub one_replaces_none : Replaces kind m call → ⊥
    one_replaces_none =
        let there = span_at_handle t kind tree first at within one_stands in
        exact_replaces_none kind m first last entry call (range_of at.span) (there.held one_exact.range) one_exact.from one_exact.to plan.store.order one_exact.some_entry plan.own

  -- ---- by new rows

  replaces_by : (o : Option Handle) → IsHereAt t first o → IsDoneBy o first last entry NewRows → Replaces kind m call
  replaces_by None stands some =
      let empty = none_at_root t (stands.none.0 refl) in
      subst (λ (x : List Range). Replaces kind x call) (sym empty)
      (first_store_replaces kind top first last entry call reply (subst (λ (x : List Range). IsStoreBy kind top x call reply first last entry) empty plan.store) (subst (λ (x : List Range). IsStoreOf x call first last entry) empty plan.own) some)
  replaces_by (Some handle) stands by =
      store_replaces kind m top first last entry call reply handle.span rise plan.store plan.own (span_at_handle t kind tree first handle within stands)
      (λ hole. by.0 (record { no_entry = hole.0; hole = hole.1; over = hole.2 }))
      (λ exact. by.1 (record { some_entry = exact.0; range = exact.1; from = exact.2; to = exact.3 }))

  pub new_rows_replace : write.by ≡ NewRows → Replaces kind m call
  new_rows_replace by = replaces_by here plan.by.stands (done_by NewRows by)

  -- ---- a store over just one range is by one word

  no_word_inexact_at : (o : Option Handle) → IsDoneBy o first last entry NoWord → is_exact_store m first last entry ≡ false
  no_word_inexact_at None none = ap (is_exact_store m first last) none
  no_word_inexact_at (Some handle) by = ap (is_exact_store m first last) by.no_entry

  pub no_word_inexact : write.by ≡ NoWord → is_exact_store m first last entry ≡ false
  no_word_inexact by = no_word_inexact_at here (done_by NoWord by)

  new_rows_inexact_at : (o : Option Handle) → IsHereAt t first o → IsDoneBy o first last entry NewRows → is_exact_store m first last entry ≡ false
  new_rows_inexact_at None stands some = ap (λ (x : List Range). is_exact_store x first last entry) (none_at_root t (stands.none.0 refl)) ∙ rw (ne_eqb entry 0 some) refl
  new_rows_inexact_at (Some handle) stands by =
      inexact m top first last entry handle.span rise (span_at_handle t kind tree first handle within stands) plan.store.order plan.store.within
      (λ hole. by.0 (record { no_entry = hole.0; hole = hole.1; over = hole.2 }))
      (λ exact. by.1 (record { some_entry = exact.0; range = exact.1; from = exact.2; to = exact.3 }))

  pub new_rows_inexact : write.by ≡ NewRows → is_exact_store m first last entry ≡ false
  new_rows_inexact by = new_rows_inexact_at here plan.by.stands (done_by NewRows by)

  -- ---- which want some

  by_rows : (by : StoreBy) → write.by ≡ by → is_by_rows by ≡ true → Replaces kind m call
  by_rows NoWord by is = absurd (cc)
  by_rows (OneWord at) by is = absurd (cc)
  by_rows NewRows by is = new_rows_replace by

  by_none : (by : StoreBy) → write.by ≡ by → is_by_rows by ≡ false → Replaces kind m call → ⊥
  by_none NoWord by is = stays_replaces_none kind m call reply (no_word_acts by)
  by_none (OneWord at) by is = one_replaces_none by
  by_none NewRows by is = absurd (cc)

  not_by_rows : (c : Call) (by : StoreBy) → wants_by c by ≡ false → is_by_rows by ≡ false
  not_by_rows (Store f l e) by not = not
  not_by_rows (StorePre f l e) by not = absurd (cc)
  not_by_rows (Insert f l e) by not = not
  not_by_rows (Erase index) by not = not
  not_by_rows (Alloc size lo hi e) by not = not
  not_by_rows (Ralloc size lo hi e) by not = not
  not_by_rows (Gap size lo hi) by not = not
  not_by_rows (Rgap size lo hi) by not = not
  not_by_rows Clear by not = not

  pub store_wants : wants_by call write.by ≡ true → Wants kind m call
  store_wants is = wanted kind m (over m first last entry) call reply write.by plan.store.acts plan.success is (by_rows write.by refl)

  pub store_replaces_none : wants_by call write.by ≡ false → Replaces kind m call → ⊥
  store_replaces_none not = by_none write.by refl (not_by_rows call write.by not)

  pub store_wants_none : wants_by call write.by ≡ false → Wants kind m call → ⊥
  store_wants_none not = unwanted kind m call write.by not (store_replaces_none not)

  some_by : (o : Option Handle) → IsHereAt t first o → IsDoneBy o first last entry NewRows → t.root ≡ 0 → entry ≢ 0
  some_by None stands some empty = some
  some_by (Some handle) stands by empty = absurd (not_none handle (t.root ≡ 0) stands.none empty)

  pub some_entry : write.by ≡ NewRows → t.root ≡ 0 → entry ≢ 0
  some_entry by = some_by here plan.by.stands (done_by NewRows by)

  -- the length of a path is the height
  pub path_height : length path ≡ height_in t.table t.root
  path_height = by tree.words
    where
      by : IsTree (tree_as kind t) → length path ≡ height_in t.table t.root
      by (inl empty) = ap length (plan.way ∙ path_of_none t.table deepest (root_span t.table t.root) first (ap named_kind empty)) ∙ sym (ap (height_in t.table) empty)
      by (inr (h, stands)) =
          ap length plan.way ∙ (levels (tree_as kind t) h stands first within ∙ sym (height_by_depth (tree_as kind t) deepest h (root_span t.table t.root) stands.low stands.rows))

-- ---- rows that have room may be replaced

pub may_replace_now : {kind : Kind} {s : Sheet} {book : Book} {path : List PathStep} {write : Write} {number : ℕ} {call : Call} {reply : Reply} → IsInCall kind s book → IsStorePlan kind s.tree call path write reply → write.by ≡ NewRows → HasRoom s.tree book → number ≡ s.ended + 1
    → MayReplace kind s book path write.edit.first write.edit.last write.edit.entry number call reply
may_replace_now {kind = kind} {s = s} {book = book} {path = path} {write = write} {call = call} {reply = reply} in_call plan by room is =
    subst (λ (n : ℕ). MayReplace kind s book path write.edit.first write.edit.last write.edit.entry n call reply) (sym is) (record {
      told = in_call.state.told;
      kept = in_call.state.kept;
      unpublished = record { in_flight = in_call.in_flight; before = in_call.before; numbered = refl };
      room = room;
      store = plan.store;
      some = some_entry (tree_in_call kind s book in_call) plan by;
      left_path = plan.way;
    })
