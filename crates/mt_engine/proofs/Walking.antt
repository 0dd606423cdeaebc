-- A walk over the ranges of a tree: what it still gives, and where it stands after a range.
use Rattle.mt_engine.proofs.Prelude.{◌≡◌, ◌≢◌, ℕ, zero, suc, ◌+◌, ◌<◌, ◌≤◌, ◌==◌, ◌&&◌, Bool, true, false, List, [], ◌∷◌, ◌++◌, Option, Some, None, nat_le, nat_lt, length, refl, sym, ap, ◌∙◌, subst, inl, inr, arith, append-nil, append_assoc, ◌↔◌, IsNone, IfSome, filter, if◌then◌else◌, All, AllByRecursion, slice_get, cases_Bool, eqb-true, eqb-false, leb-true, leb-false, le-leb, lt-leb, le-ltb, All-head, filter_passes, Kind, Range, Find, answer, IsMapFrom, first_range, greatest, place_below, up_to, first_from_place, IsTreeOf, map_by, Rooted, Sheet, OnlyReads, ReadsUpTo, Handle, handle_in, IsHandleOf, no_reads, reads_up, reads_more, RangeWalk, IsHereIf, range_of, nearest_from, found_from, index_behind, range_at, StepsWithin, WalksFrom, reads_on, same_tree}
use Rattle.mt_engine.proofs.LeafEnds.{hole_ends}
use Rattle.mt_engine.proofs.SlotQueries.{IsNearest, first_none}
use Rattle.mt_engine.proofs.Slots.{none_at_root, tree_map, tree_within, slot_tells}

-- ---- the ranges of a map from an index on

-- those that end there or above, and none where there is no index
abbrev pub ranges_from : List Range → Option ℕ → List Range
ranges_from m None = []
ranges_from m (Some index) = filter (λ (r : Range). nat_le index r.last) m

abbrev from_on : ℕ → List Range → List Range
from_on index m = filter (λ (r : Range). nat_le index r.last) m

all_from : (m : List Range) (low index : ℕ) → IsMapFrom low m → index ≤ low → from_on index m ≡ m
all_from [] low index rise le = refl
all_from (r ∷ m) low index rise le =
    let begins = rise.0 in let ends = rise.1 in
    rw (le-leb index r.last (omega arith)) (ap (λ (l : List Range). r ∷ l) (all_from m (r.last + 1) index rise.3 (omega arith)))

none_from : (m : List Range) (top : ℕ) → AllByRecursion (λ (r : Range). r.last ≤ top) m → from_on (top + 1) m ≡ []
none_from [] top within = refl
none_from (r ∷ m) top within = let ends = within.0 in rw (lt-leb (top + 1) r.last (omega arith)) (none_from m top within.1)

head_ends : (m : List Range) (index : ℕ) (r : Range) (rest : List Range) → from_on index m ≡ r ∷ rest → index ≤ r.last
head_ends m index r rest is =
    leb-true index r.last (All-head (λ (x : Range). nat_le index x.last ≡ true) r rest (subst (All (λ (x : Range). nat_le index x.last ≡ true)) is (filter_passes (λ (x : Range). nat_le index x.last) m)))

-- behind the first of them are the others
rest_from : (m : List Range) (low index : ℕ) (r : Range) (rest : List Range) → IsMapFrom low m → from_on index m ≡ r ∷ rest → from_on (r.last + 1) m ≡ rest
rest_from [] low index r rest rise is = absurd (cc)
rest_from (x ∷ m) low index r rest rise is = elim (cases_Bool (nat_le index x.last)) [
  | inl ends ↦
      (let at : x ∷ from_on index m ≡ r ∷ rest = rw ends at is in
      let first : x ≡ r = cc in
      let others : from_on index m ≡ rest = cc in
      let to = leb-true index x.last ends in
      subst (λ (y : Range). from_on (y.last + 1) (x ∷ m) ≡ rest) first
      (rw (lt-leb (x.last + 1) x.last (omega arith)) (all_from m (x.last + 1) (x.last + 1) rise.3 (omega arith) ∙ (sym (all_from m (x.last + 1) index rise.3 (omega arith)) ∙ others))))
  | inr below ↦
      (let at : from_on index m ≡ r ∷ rest = rw below at is in
      let less = leb-false index x.last below in
      let to = head_ends m index r rest at in
      rw (lt-leb (r.last + 1) x.last (omega arith)) (rest_from m (x.last + 1) index r rest rise.3 at))
]

begins_within : (m : List Range) (low top : ℕ) → IsMapFrom low m → AllByRecursion (λ (r : Range). r.last ≤ top) m → AllByRecursion (λ (r : Range). r.first ≤ top) m
begins_within [] low top rise within = tt
begins_within (r ∷ m) low top rise within = let order = rise.1 in let ends = within.0 in (omega arith, begins_within m (r.last + 1) top rise.3 within.1)

find_filter : (m : List Range) (index top : ℕ) → AllByRecursion (λ (r : Range). r.first ≤ top) m → filter (λ (r : Range). nat_le index r.last && nat_le r.first top) m ≡ from_on index m
find_filter [] index top begin = refl
find_filter (r ∷ m) index top begin = elim (cases_Bool (nat_le index r.last)) [
  | inl ends ↦ rw (ends, le-leb r.first top begin.0) (ap (λ (l : List Range). r ∷ l) (find_filter m index top begin.1))
  | inr below ↦ rw below (find_filter m index top begin.1)
]

up_to_top : (m : List Range) (k top : ℕ) → AllByRecursion (λ (r : Range). r.first ≤ top) m → up_to top (slice_get m k) ≡ slice_get m k
up_to_top [] zero top begin = refl
up_to_top [] (suc k) top begin = refl
up_to_top (r ∷ m) zero top begin = rw (le-leb r.first top begin.0) refl
up_to_top (r ∷ m) (suc k) top begin = up_to_top m k top begin.1

module _ (m : List Range) (top : ℕ) (rise : IsMapFrom 0 m) (within : AllByRecursion (λ (r : Range). r.last ≤ top) m) where
  begin : AllByRecursion (λ (r : Range). r.first ≤ top) m
  begin = begins_within m 0 top rise within

  find_first : (index : ℕ) → index ≤ top → answer m (Find index top) ≡ first_range (from_on index m)
  find_first index low = rw (le-ltb top index low) (ap first_range (find_filter m index top begin))

  -- the nearest range is what is found up to the greatest index
  pub find_nearest : (index : ℕ) → index ≤ top → nearest_from m index ≡ answer m (Find index top)
  find_nearest index low = sym (up_to_top m (place_below m index) top begin) ∙ (rw (le-ltb top index low) (sym (first_from_place m index top rise)))

  first_some : (xs : List Range) (r : Range) → first_range xs ≡ Some r → (rest : List Range) × (xs ≡ r ∷ rest)
  first_some [] r is = absurd (cc)
  first_some (x ∷ xs) r is = (xs, let same : x ≡ r = cc in ap (λ (y : Range). y ∷ xs) same)

  first_range_none : (xs : List Range) → first_range xs ≡ None → xs ≡ []
  first_range_none [] is = refl
  first_range_none (x ∷ xs) is = absurd (cc)

  rest_behind : (r : Range) (rest : List Range) → from_on (r.last + 1) m ≡ rest → ranges_from m (index_behind top (Some r)) ≡ rest
  rest_behind r rest is = elim (cases_Bool (r.last == top)) [
    | inl end ↦ rw end (sym (none_from m top within) ∙ (ap (λ (n : ℕ). from_on (n + 1) m) (sym (eqb-true r.last top end)) ∙ is))
    | inr more ↦ rw more is
  ]

  pub one_given : (next : Option ℕ) (r : Range) → IfSome next (λ index. index ≤ top) → Some r ≡ found_from m top next → ranges_from m next ≡ r ∷ ranges_from m (index_behind top (Some r))
  one_given None r low found = absurd (cc)
  one_given (Some index) r low found =
      let parts = first_some (from_on index m) r (sym (find_first index low) ∙ sym found) in
      parts.1 ∙ ap (λ (l : List Range). r ∷ l) (sym (rest_behind r parts.0 (rest_from m 0 index r parts.0 rise parts.1)))

  pub none_given : (next : Option ℕ) → IfSome next (λ index. index ≤ top) → None ≡ found_from m top next → ranges_from m next ≡ []
  none_given None low found = refl
  none_given (Some index) low found = first_range_none (from_on index m) (sym (find_first index low) ∙ sym found)

-- ---- what stands at a walk's index

module _ (t : Rooted) (kind : Kind) (tree : IsTreeOf t kind) where
  abbrev m : List Range
  m = map_by t

  abbrev top : ℕ
  top = greatest t.table.width

  rise : IsMapFrom 0 m
  rise = (tree_map t kind tree).rise

  within : AllByRecursion (λ (r : Range). r.last ≤ top) m
  within = tree_within t kind tree

  module _ (walk : RangeWalk) (walks : WalksFrom t walk) where
    pub none_here : walk.next ≡ None → IsHereIf t walk.next None
    none_here is = subst (λ (o : Option ℕ). IsHereIf t o None) (sym is) refl

    pub next_within : (index : ℕ) → walk.next ≡ Some index → index ≤ top
    next_within index is = subst (λ (o : Option ℕ). IfSome o (λ i. i ≤ top)) is walks.within

    pub last_is : (last : Handle) → walk.last ≡ Some last → IsHandleOf t last
    last_is last is = (subst (λ (o : Option Handle). IfSome o (λ h. IsHandleOf t h × IfSome walk.next (λ i. i ≡ h.span.last + 1))) is walks.given).0

    behind_last : (last : Handle) (index : ℕ) → walk.last ≡ Some last → walk.next ≡ Some index → index ≡ last.span.last + 1
    behind_last last index given next =
        subst (λ (o : Option ℕ). IfSome o (λ i. i ≡ last.span.last + 1)) next (subst (λ (o : Option Handle). IfSome o (λ h. IsHandleOf t h × IfSome walk.next (λ i. i ≡ h.span.last + 1))) given walks.given).1

    pub here_behind : (last : Handle) (index : ℕ) (found : Option Handle) → walk.last ≡ Some last → walk.next ≡ Some index → IsNone found ↔ (last.span.last ≡ top) → IfSome found (λ h. h ≡ handle_in t (last.span.last + 1)) → IsHereIf t walk.next found
    here_behind last index found given next none some =
        let is = behind_last last index given next in
        let low = next_within index next in
        subst (λ (o : Option ℕ). IsHereIf t o found) (sym next)
        (record {
          none = ((λ empty. let end = none.0 empty in absurd (omega arith)), (λ empty. absurd ((last_is last given).some empty)));
          some = subst (λ (i : ℕ). IfSome found (λ h. h ≡ handle_in t i)) (sym is) some;
        })

    pub here_at : (index : ℕ) (found : Option Handle) → walk.next ≡ Some index → IsNone found ↔ (t.root ≡ 0) → IfSome found (λ h. h ≡ handle_in t index) → IsHereIf t walk.next found
    here_at index found next none some = subst (λ (o : Option ℕ). IsHereIf t o found) (sym next) (record { none = none; some = some })

    handle_if : (next : Option ℕ) (here : Handle) → IfSome next (λ i. i ≤ top) → IsHereIf t next (Some here) → IsHandleOf t here
    handle_if None here low stands = absurd (cc)
    handle_if (Some index) here low stands = record { some = λ empty. (let none = stands.none.1 empty in absurd (cc)); index = index; within = low; is = stands.some }

    -- what stands there is a slot of the tree
    pub here_is : (here : Handle) → IsHereIf t walk.next (Some here) → IsHandleOf t here
    here_is here stands = handle_if walk.next here walks.within stands

    none_if : (next : Option ℕ) → IsHereIf t next None → None ≡ found_from m top next
    none_if None stands = refl
    none_if (Some index) stands =
        let empty = none_at_root t (stands.none.0 refl) in
        sym (ap (λ (l : List Range). answer l (Find index top)) empty ∙ nothing (nat_lt top index))
      where
        nothing : (past : Bool) → (if past then None else first_range []) ≡ None
        nothing true = refl
        nothing false = refl

    -- where nothing stands, nothing is found
    pub none_found : IsHereIf t walk.next None → None ≡ found_from m top walk.next
    none_found stands = none_if walk.next stands

    found_if : (next : Option ℕ) (here : Handle) (found : Option Range) → IfSome next (λ i. i ≤ top) → IsHereIf t next (Some here) → ((index : ℕ) → index ≤ top → here ≡ handle_in t index → found ≡ nearest_from m index) → found ≡ found_from m top next
    found_if None here found low stands nearest = absurd (cc)
    found_if (Some index) here found low stands nearest = nearest index low stands.some ∙ find_nearest m top rise within index low

    -- else the nearest range is
    pub nearest_found : (here : Handle) (found : Option Range) → IsHereIf t walk.next (Some here) → ((index : ℕ) → index ≤ top → here ≡ handle_in t index → found ≡ nearest_from m index) → found ≡ found_from m top walk.next
    nearest_found here found stands nearest = found_if walk.next here found walks.within stands nearest

-- ---- the walk behind a slot

-- what stands in a slot of a tree ends at the greatest index or below
pub ends_within : (t : Rooted) (kind : Kind) (given : Handle) → IsTreeOf t kind → IsHandleOf t given → given.span.last ≤ greatest t.table.width
ends_within t kind given tree is = subst (λ (h : Handle). h.span.last ≤ greatest t.table.width) (sym is.is) (slot_tells t kind is.index tree is.some is.within).within

pub walks_on : (t : Rooted) (kind : Kind) (given : Handle) (next : Option ℕ) → IsTreeOf t kind → IsHandleOf t given → next ≡ index_behind (greatest t.table.width) (range_at (Some given)) → WalksFrom t (record { next = next; last = Some given })
walks_on t kind given next tree is next_is = record { within = both.0; given = (is, both.1) }
  where
    Goes : Option ℕ → Type 0
    Goes o = IfSome o (λ i. i ≤ greatest t.table.width) × IfSome o (λ i. i ≡ given.span.last + 1)

    goes : Goes (index_behind (greatest t.table.width) (range_at (Some given)))
    goes = elim (cases_Bool (given.span.last == greatest t.table.width)) [
      | inl end ↦ rw end (tt, tt)
      | inr more ↦ (let low = ends_within t kind given tree is in let other = eqb-false given.span.last (greatest t.table.width) more in rw more (omega (arith, low, other), refl))
    ]

    both : Goes next
    both = subst Goes (sym next_is) goes

-- ---- how many words are loaded

abbrev Near : ℕ → RangeWalk → Sheet → Sheet → Type 0
Near n walk s s' = IfSome walk.last (λ given. given.span.last ≢ given.leaf.max → ReadsUpTo n s s')

pub none_read : (walk : RangeWalk) (s : Sheet) → Near 2 walk s s
none_read walk s = by walk.last
  where
    by : (o : Option Handle) → IfSome o (λ given. given.span.last ≢ given.leaf.max → ReadsUpTo 2 s s)
    by None = tt
    by (Some given) = λ _. reads_up 0 2 s s (omega arith) (no_reads s)

-- what stands behind a slot within a leaf is in that leaf, and so is a range behind a hole there
module _ (s s₁ s₂ : Sheet) (kind : Kind) (tree : IsTreeOf s.tree kind) (walk : RangeWalk) (here : Handle) (found : Option Handle) (is : IsHandleOf s.tree here) (reads : OnlyReads s s₁) (near : Near 2 walk s s₁) (unread : here.span.word ≢ 0 → s₂ ≡ s₁)
    (near₂ : here.span.last ≢ here.leaf.max → ReadsUpTo 2 s₁ s₂) (range : IsNearest nearest_from s₁.tree here (range_at found)) where
  none_at_end : here.span.word ≡ 0 → here.span.last ≡ here.leaf.max → None ≡ range_at found
  none_at_end hole end =
      let top = hole_ends s.tree kind here tree is hole end in
      first_none s.tree (kind, tree) is.index here (record { some = is.some; within = is.within; is = is.is }) hole top
      ∙ sym (subst (λ (t : Rooted). IsNearest nearest_from t here (range_at found)) (same_tree s s₁ reads) range is.index is.within is.is)

  second : (o : Option Handle) → found ≡ o → IfSome o (λ _. ReadsUpTo 2 s₁ s₂)
  second None same = tt
  second (Some h) same = elim (cases_Bool (here.span.word == 0)) [
    | inr word ↦ subst (λ (x : Sheet). ReadsUpTo 2 s₁ x) (sym (unread (eqb-false here.span.word 0 word))) (reads_up 0 2 s₁ s₁ (omega arith) (no_reads s₁))
    | inl hole ↦ elim (cases_Bool (here.span.last == here.leaf.max)) [
      | inr more ↦ near₂ (eqb-false here.span.last here.leaf.max more)
      | inl end ↦
          (let clash : None ≡ Some (range_of h.span) = none_at_end (eqb-true here.span.word 0 hole) (eqb-true here.span.last here.leaf.max end) ∙ ap range_at same in
          absurd (cc))
    ]
  ]

  both : (o last : Option Handle) → IfSome o (λ _. ReadsUpTo 2 s₁ s₂) → IfSome last (λ given. given.span.last ≢ given.leaf.max → ReadsUpTo 2 s s₁) → IfSome o (λ _. IfSome last (λ given. given.span.last ≢ given.leaf.max → ReadsUpTo 4 s s₂))
  both None last two one = tt
  both (Some h) None two one = tt
  both (Some h) (Some given) two one = λ within. reads_more 2 2 s s₁ s₂ (one within) two

  pub steps_within : IfSome found (λ _. StepsWithin walk s s₂)
  steps_within = both found walk.last (second found refl) near

-- ---- a list of all ranges

-- these were listed, and the walk gives the others
pub record AreListed (s s' : Sheet) (walk : RangeWalk) (ranges : List Range) : Type 0 where
  pub rest : OnlyReads s s'
  pub walks : WalksFrom s.tree walk
  pub all : ranges ++ ranges_from (map_by s.tree) walk.next ≡ map_by s.tree

pub none_listed : (s : Sheet) (kind : Kind) (walk : RangeWalk) (ranges : List Range) → IsTreeOf s.tree kind → walk.next ≡ Some 0 → walk.last ≡ None → ranges ≡ [] → AreListed s s walk ranges
none_listed s kind walk ranges tree next last none = record {
  rest = refl;
  walks = record {
    within = subst (λ (o : Option ℕ). IfSome o (λ i. i ≤ greatest s.tree.table.width)) (sym next) (omega arith);
    given = subst (λ (o : Option Handle). IfSome o (λ h. IsHandleOf s.tree h × IfSome walk.next (λ i. i ≡ h.span.last + 1))) (sym last) tt;
  };
  all = (λ i. none i ++ ranges_from (map_by s.tree) (next i)) ∙ all_from (map_by s.tree) 0 0 (tree_map s.tree kind tree).rise (omega arith);
}

module _ (s s' : Sheet) (kind : Kind) (tree : IsTreeOf s.tree kind) (walk : RangeWalk) (ranges : List Range) (listed : AreListed s s' walk ranges) where
  abbrev here : Rooted
  here = s.tree

  same : s'.tree ≡ s.tree
  same = same_tree s s' listed.rest

  found_here : (o : Option Range) → o ≡ found_from (map_by s'.tree) (greatest s'.tree.table.width) walk.next → o ≡ found_from (map_by here) (greatest here.table.width) walk.next
  found_here o found = found ∙ ap (λ (t : Rooted). found_from (map_by t) (greatest t.table.width) walk.next) same

  more_here : (r : Range) → Some r ≡ found_from (map_by s'.tree) (greatest s'.tree.table.width) walk.next → ranges_from (map_by here) walk.next ≡ r ∷ ranges_from (map_by here) (index_behind (greatest here.table.width) (Some r))
  more_here r found = one_given (map_by here) (greatest here.table.width) (tree_map here kind tree).rise (tree_within here kind tree) walk.next r listed.walks.within (found_here (Some r) found)

  pub all_listed : None ≡ found_from (map_by s'.tree) (greatest s'.tree.table.width) walk.next → ranges ≡ map_by s.tree
  all_listed found =
      let none = none_given (map_by here) (greatest here.table.width) (tree_map here kind tree).rise (tree_within here kind tree) walk.next listed.walks.within (found_here None found) in
      sym (append-nil ranges) ∙ (ap (λ (l : List Range). ranges ++ l) (sym none) ∙ listed.all)

  module _ (r : Range) (found : Some r ≡ found_from (map_by s'.tree) (greatest s'.tree.table.width) walk.next) (walk' : RangeWalk) (next : walk'.next ≡ index_behind (greatest s'.tree.table.width) (Some r)) where
    next_here : walk'.next ≡ index_behind (greatest here.table.width) (Some r)
    next_here = next ∙ ap (λ (t : Rooted). index_behind (greatest t.table.width) (Some r)) same

    pub one_more_listed : (s″ : Sheet) → OnlyReads s' s″ → WalksFrom s'.tree walk' → (after : List Range) → after ≡ ranges ++ (r ∷ []) → AreListed s s″ walk' after
    one_more_listed s″ reads walks after pushed = record {
      rest = reads_on s s' s″ listed.rest reads;
      walks = subst (λ (t : Rooted). WalksFrom t walk') same walks;
      all =
          (λ i. pushed i ++ ranges_from (map_by here) (next_here i))
          ∙ (append_assoc ranges (r ∷ []) (ranges_from (map_by here) (index_behind (greatest here.table.width) (Some r))) ∙ (ap (λ (l : List Range). ranges ++ l) (sym (more_here r found)) ∙ listed.all));
    }

    -- there are fewer left
    pub fewer_left : length (ranges_from (map_by s.tree) walk'.next) < length (ranges_from (map_by s.tree) walk.next)
    fewer_left =
        let more = ap length (more_here r found) in
        let behind : length (ranges_from (map_by here) walk'.next) ≡ length (ranges_from (map_by here) (index_behind (greatest here.table.width) (Some r))) = ap (λ (o : Option ℕ). length (ranges_from (map_by here) o)) next_here in
        omega (arith, more, behind)
