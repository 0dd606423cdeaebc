-- What stands in the slot of an index, and behind it and before it, answers the queries of the map that the words stand for.
use Rattle.mt_engine.proofs.Prelude.{◌≡◌, ◌≢◌, ℕ, ◌+◌, ◌-◌, ◌≤◌, List, Option, Some, None, arith, refl, sym, ap, ◌∙◌, subst, IsNone, IfSome, ◌↔◌, AllByRecursion, le-ltb, Kind, Range, Load, Find, Next, Prev, Rfind, answer, IsMapFrom, greatest, up_to, down_to, first_from_place, first_above_place, last_below_place, last_up_to_place, IsTreeOf, map_by, Rooted, Sheet, OnlyReads, Handle, handle_in, IsHandleOf, range_of, IsSpanAt, nearest_from, nearest_up_to, range_at, reads_on, same_tree}
use Rattle.mt_engine.proofs.MapQueries as queries
use Rattle.mt_engine.proofs.Slots.{tree_map, tree_within, slot_tells}

-- ---- what a call that only reads leaves

-- it is the handle of this index
pub record IsHandleAt (t : Rooted) (index : ℕ) (h : Handle) : Type 0 where
  pub some : t.root ≢ 0
  pub within : index ≤ greatest t.table.width
  pub is : h ≡ handle_in t index

pub handle_kept : (s s' : Sheet) (index : ℕ) (h : Handle) → OnlyReads s s' → IsHandleAt s.tree index h → IsHandleOf s'.tree h
handle_kept s s' index h reads at = subst (λ (t : Rooted). IsHandleOf t h) (sym (same_tree s s' reads)) (record { some = at.some; index = index; within = at.within; is = at.is })

-- there is something, so what nothing is equivalent to does not hold
pub not_none : {A : Type 0} (a : A) (P : Type 0) → IsNone (Some a) ↔ P → P → ⊥
not_none a P both holds = absurd (let none = both.1 holds in cc)

pub handle_of : (t : Rooted) (index : ℕ) (h : Handle) → index ≤ greatest t.table.width → IsNone (Some h) ↔ (t.root ≡ 0) → h ≡ handle_in t index → IsHandleAt t index h
handle_of t index h within none is = record { some = not_none h (t.root ≡ 0) none; within = within; is = is }

-- and so it is of an index that is no greater than the greatest
pub handle_up_to : (t : Rooted) (index top : ℕ) (h : Handle) → top ≡ greatest t.table.width → index ≤ top → IsNone (Some h) ↔ (t.root ≡ 0) → h ≡ handle_in t index → IsHandleAt t index h
handle_up_to t index top h is within none at = handle_of t index h (subst (λ (n : ℕ). index ≤ n) is within) none at

pub handle_found : (s s' : Sheet) (index top : ℕ) (h : Handle) → OnlyReads s s' → top ≡ greatest s.tree.table.width → index ≤ top → IsNone (Some h) ↔ (s.tree.root ≡ 0) → h ≡ handle_in s.tree index → IsHandleOf s'.tree h
handle_found s s' index top h reads is within none at = handle_kept s s' index h reads (handle_up_to s.tree index top h is within none at)

-- ---- at the slot of a handle

module _ (t : Rooted) (tree : (kind : Kind) × IsTreeOf t kind) where
  abbrev m : List Range
  m = map_by t

  abbrev top : ℕ
  top = greatest t.table.width

  within_top : AllByRecursion (λ (r : Range). r.last ≤ top) m
  within_top = tree_within t tree.0 tree.1

  rise : IsMapFrom 0 m
  rise = (tree_map t tree.0 tree.1).rise

  span_there : (index : ℕ) (h : Handle) → IsHandleAt t index h → IsSpanAt m top index h.span
  span_there index h at = subst (λ (x : Handle). IsSpanAt m top index x.span) (sym at.is) (slot_tells t tree.0 index tree.1 at.some at.within)

  module _ (index : ℕ) (h : Handle) (at : IsHandleAt t index h) where
    here : IsSpanAt m top index h.span
    here = span_there index h at

    -- the handle behind it, and the one before it
    pub behind_of : (x : Handle) → h.span.last ≢ top → x ≡ handle_in t (h.span.last + 1) → IsHandleAt t (h.span.last + 1) x
    behind_of x more is = let within = here.within in record { some = at.some; within = omega arith; is = is }

    before_of : (x : Handle) → x ≡ handle_in t (h.span.first - 1) → IsHandleAt t (h.span.first - 1) x
    before_of x is = let from = here.from in let within = at.within in record { some = at.some; within = omega arith; is = is }

    -- ---- load

    pub load_held : h.span.word ≢ 0 → Some (range_of h.span) ≡ answer m (Load index)
    load_held = queries.load_held m top index h.span rise here

    pub load_hole : h.span.word ≡ 0 → None ≡ answer m (Load index)
    load_hole = queries.load_hole m top index h.span rise here

    -- ---- the first range that ends at the index or above

    pub first_here : h.span.word ≢ 0 → Some (range_of h.span) ≡ nearest_from m index
    first_here = queries.first_here m top index h.span rise here

    pub first_none : h.span.word ≡ 0 → h.span.last ≡ top → None ≡ nearest_from m index
    first_none hole end = queries.first_none m top index h.span rise here hole end within_top

    pub first_behind : (x : Handle) → h.span.word ≡ 0 → h.span.last ≢ top → x ≡ handle_in t (h.span.last + 1) → Some (range_of x.span) ≡ nearest_from m index
    first_behind x hole more is = let within = here.within in queries.first_behind m top index h.span rise here x.span (span_there (h.span.last + 1) x (behind_of x more is)) hole (omega arith)

    -- the same of what stands behind a hole
    pub from_behind : h.span.word ≡ 0 → (found : Option Handle) → IsNone found ↔ (h.span.last ≡ top) → IfSome found (λ x. x ≡ handle_in t (h.span.last + 1)) → range_at found ≡ nearest_from m index
    from_behind hole None none is = first_none hole (none.0 refl)
    from_behind hole (Some x) none is = first_behind x hole (not_none x (h.span.last ≡ top) none) is

    -- ---- the last range that begins at the index or below

    pub last_here : h.span.word ≢ 0 → Some (range_of h.span) ≡ nearest_up_to m index
    last_here = queries.last_here m top index h.span rise here

    pub last_none : h.span.word ≡ 0 → h.span.first ≡ 0 → None ≡ nearest_up_to m index
    last_none = queries.last_none m top index h.span rise here

    pub last_before : (x : Handle) → h.span.word ≡ 0 → h.span.first ≢ 0 → x ≡ handle_in t (h.span.first - 1) → Some (range_of x.span) ≡ nearest_up_to m index
    last_before x hole some is = queries.last_before m top index h.span rise here x.span (span_there (h.span.first - 1) x (before_of x is)) hole (omega arith)

    -- ---- the answers, by the nearest range

    pub find_is : (max : ℕ) → index ≤ max → up_to max (nearest_from m index) ≡ answer m (Find index max)
    find_is max order = rw (le-ltb max index order) (sym (first_from_place m index max rise))

    rfind_is : (min : ℕ) → min ≤ index → down_to min (nearest_up_to m index) ≡ answer m (Rfind index min)
    rfind_is min order = rw (le-ltb index min order) (sym (last_up_to_place m index min rise))

    next_is : (max : ℕ) → up_to max (nearest_from m (h.span.last + 1)) ≡ answer m (Next index max)
    next_is max = ap (up_to max) (sym (queries.next_from m top index h.span rise here)) ∙ sym (first_above_place m index max rise)

    next_ends : (max : ℕ) → h.span.last ≡ top → None ≡ answer m (Next index max)
    next_ends max end = ap (up_to max) (queries.next_none m top index h.span rise here end within_top) ∙ sym (first_above_place m index max rise)

    prev_is : (min : ℕ) → h.span.first ≢ 0 → down_to min (nearest_up_to m (h.span.first - 1)) ≡ answer m (Prev index min)
    prev_is min some = ap (down_to min) (sym (queries.prev_up_to m top index h.span rise here (omega arith))) ∙ sym (last_below_place m index min rise)

    pub prev_none : (min : ℕ) → h.span.first ≡ 0 → None ≡ answer m (Prev index min)
    prev_none min begin = ap (down_to min) (queries.prev_none m top index h.span rise here begin) ∙ sym (last_below_place m index min rise)

  pub handle_behind : (h : Handle) → IsHandleOf t h → (found : Option Handle) → IsNone found ↔ (h.span.last ≡ top) → IfSome found (λ x. x ≡ handle_in t (h.span.last + 1)) → IfSome found (IsHandleOf t)
  handle_behind h of None none is = tt
  handle_behind h of (Some x) none is =
      let at = behind_of of.index h (record { some = of.some; within = of.within; is = of.is }) x (not_none x (h.span.last ≡ top) none) is in
      record { some = at.some; index = h.span.last + 1; within = at.within; is = at.is }

-- ---- after calls that only read

-- the range is the nearest one at each index of the handle's slot
abbrev pub IsNearest : (List Range → ℕ → Option Range) → Rooted → Handle → Option Range → Type 0
IsNearest f t h found = (i : ℕ) → i ≤ greatest t.table.width → h ≡ handle_in t i → found ≡ f (map_by t) i

nearest_before : (f : List Range → ℕ → Option Range) (s s' : Sheet) (index : ℕ) (h : Handle) (at : IsHandleAt s.tree index h) (found : Option Range) → OnlyReads s s' → IsNearest f s'.tree h found → found ≡ f (map_by s.tree) index
nearest_before f s s' index h at found reads known = subst (λ (t : Rooted). IsNearest f t h found) (same_tree s s' reads) known index at.within at.is

module _ (s s₁ : Sheet) (tree : (kind : Kind) × IsTreeOf s.tree kind) (index : ℕ) (h : Handle) (at : IsHandleAt s.tree index h) (reads : OnlyReads s s₁) where
  pub find_found : (max : ℕ) (found : Option Range) → index ≤ max → IsNearest nearest_from s₁.tree h found → up_to max found ≡ answer (map_by s.tree) (Find index max)
  find_found max found order known = ap (up_to max) (nearest_before nearest_from s s₁ index h at found reads known) ∙ find_is s.tree tree index h at max order

  pub rfind_found : (min : ℕ) (found : Option Range) → min ≤ index → IsNearest nearest_up_to s₁.tree h found → down_to min found ≡ answer (map_by s.tree) (Rfind index min)
  rfind_found min found order known = ap (down_to min) (nearest_before nearest_up_to s s₁ index h at found reads known) ∙ rfind_is s.tree tree index h at min order

  same_top : greatest s₁.tree.table.width ≡ greatest s.tree.table.width
  same_top = ap (λ (t : Rooted). greatest t.table.width) (same_tree s s₁ reads)

  same_handle : (x : Handle) (i : ℕ) → x ≡ handle_in s₁.tree i → x ≡ handle_in s.tree i
  same_handle x i is = is ∙ ap (λ (t : Rooted). handle_in t i) (same_tree s s₁ reads)

  pub next_none : (max : ℕ) → h.span.last ≡ greatest s₁.tree.table.width → None ≡ answer (map_by s.tree) (Next index max)
  next_none max end = next_ends s.tree tree index h at max (end ∙ same_top)

  module _ (s₂ : Sheet) (x : Handle) (reads' : OnlyReads s₁ s₂) where
    module _ (more : h.span.last ≢ greatest s₁.tree.table.width) (is : x ≡ handle_in s₁.tree (h.span.last + 1)) where
      above : IsHandleAt s.tree (h.span.last + 1) x
      above = behind_of s.tree tree index h at x (λ end. more (end ∙ sym same_top)) (same_handle x (h.span.last + 1) is)

      pub above_kept : IsHandleOf s₂.tree x
      above_kept = handle_kept s s₂ (h.span.last + 1) x (reads_on s s₁ s₂ reads reads') above

      pub next_found : (max : ℕ) (found : Option Range) → IsNearest nearest_from s₂.tree x found → up_to max found ≡ answer (map_by s.tree) (Next index max)
      next_found max found known = ap (up_to max) (nearest_before nearest_from s s₂ (h.span.last + 1) x above found (reads_on s s₁ s₂ reads reads') known) ∙ next_is s.tree tree index h at max

    module _ (some : h.span.first ≢ 0) (is : x ≡ handle_in s₁.tree (h.span.first - 1)) where
      below : IsHandleAt s.tree (h.span.first - 1) x
      below = before_of s.tree tree index h at x (same_handle x (h.span.first - 1) is)

      pub below_kept : IsHandleOf s₂.tree x
      below_kept = handle_kept s s₂ (h.span.first - 1) x (reads_on s s₁ s₂ reads reads') below

      pub prev_found : (min : ℕ) (found : Option Range) → IsNearest nearest_up_to s₂.tree x found → down_to min found ≡ answer (map_by s.tree) (Prev index min)
      prev_found min found known = ap (down_to min) (nearest_before nearest_up_to s s₂ (h.span.first - 1) x below found (reads_on s s₁ s₂ reads reads') known) ∙ prev_is s.tree tree index h at min some
