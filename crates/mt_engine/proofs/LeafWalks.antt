-- Steps of a walk from leaf to leaf: what is found behind a slot, and the way that is kept.
use Rattle.mt_engine.proofs.Prelude.{◌≡◌, ◌≢◌, ◌==◌, ℕ, ◌+◌, ◌<◌, ◌≤◌, List, [], Option, Some, None, true, false, length, refl, sym, ap, ◌∙◌, subst, inl, inr, arith, eq-eqb, ne_eqb, IfSome, slice_set, Kind, Range, greatest, IsTreeOf, map_by, Rooted, Sheet, OnlyReads, Handle, PathStep, handle_in, IsHandleOf, last_step, path_in, range_of, nearest_from, range_at, found_from, index_behind, RangeWalk, WalksFrom, same_tree, IsWayOrNone, LeadsToLeaf, walk_after}
use Rattle.mt_engine.proofs.Batching.{HasPut, put_begin, put_on}
use Rattle.mt_engine.proofs.Slots.{tree_map, tree_within}
use Rattle.mt_engine.proofs.Walking.{find_nearest, walks_on}

-- ---- what is found behind a slot

module _ (t : Rooted) (kind : Kind) (tree : IsTreeOf t kind) (here : Handle) where
  abbrev top : ℕ
  top = greatest t.table.width

  -- behind one that does not end at the greatest index the nearest range is found
  pub found_after : here.span.last + 1 ≤ top → (found : Option Range) → found ≡ nearest_from (map_by t) (here.span.last + 1) → found ≡ found_from (map_by t) top (index_behind top (range_at (Some here)))
  found_after low found is =
      let more : (here.span.last == top) ≡ false = ne_eqb here.span.last top (λ same. omega (arith, low, same)) in
      rw more (is ∙ find_nearest (map_by t) top (tree_map t kind tree).rise (tree_within t kind tree) (here.span.last + 1) low)

  -- and behind the last index none is
  pub none_after : here.span.last ≡ top → None ≡ found_from (map_by t) top (index_behind top (range_at (Some here)))
  none_after end =
      let test : (here.span.last == top) ≡ true = eq-eqb here.span.last top end in
      rw test refl

-- ---- the way that is kept

pub way_of : (t : Rooted) (way : List PathStep) (leaf : PathStep) → IsWayOrNone t way leaf → length way ≢ 0 → LeadsToLeaf t way leaf
way_of t way leaf (inl none) some = absurd (some (ap length none))
way_of t way leaf (inr leads) some = leads

-- another slot of the leaf has the same way
pub way_stays : (t : Rooted) (way : List PathStep) (leaf other : PathStep) → IsWayOrNone t way leaf → other.max ≡ leaf.max → IsWayOrNone t way other
way_stays t way leaf other (inl none) same = inl none
way_stays t way leaf other (inr leads) same = inr (record { index = leads.index; within = leads.within; is = leads.is; ends = leads.ends ∙ sym same })

-- a path leads to the leaf at its end
pub way_to : (t : Rooted) (index : ℕ) (way : List PathStep) (h : Handle) → index ≤ greatest t.table.width → way ≡ path_in t.table t.root index → h ≡ handle_in t index → IsWayOrNone t way h.leaf
way_to t index way h within path is = inr (record {
  index = index;
  within = within;
  is = path;
  ends = ap (λ (l : List PathStep). (last_step l).max) path ∙ sym (ap (λ (x : Handle). x.leaf.max) is);
})

-- the same where a node was only read
pub way_kept : (s s' : Sheet) (way : List PathStep) (leaf : PathStep) → OnlyReads s s' → IsWayOrNone s.tree way leaf → IsWayOrNone s'.tree way leaf
way_kept s s' way leaf reads is = subst (λ (t : Rooted). IsWayOrNone t way leaf) (sym (same_tree s s' reads)) is

-- if a slot of the same leaf is found, the way to it is the one to that leaf
pub way_if : (t : Rooted) (way : List PathStep) (leaf : PathStep) (found : Option Handle) → IsWayOrNone t way leaf → IfSome found (λ h. h.leaf.max ≡ leaf.max) → IfSome found (λ h. IsWayOrNone t way h.leaf)
way_if t way leaf None is same = tt
way_if t way leaf (Some h) is same = way_stays t way leaf h.leaf is same

-- ---- the ranges that were put

-- So many ranges were put by f, this slot has the last of them, and the way is one to its leaf, if it is kept.
pub record HasPutUpTo {A : Type 0} (f : Range → A) (s s' : Sheet) (walk : RangeWalk) (here : Handle) (way : List PathStep) (old new : List A) (made : ℕ) : Type 0 where
  pub put : HasPut f s s' walk (walk_after s.tree here) old new made
  pub at : IsHandleOf s.tree here
  pub leads : IsWayOrNone s.tree way here.leaf

module _ {A : Type 0} (f : Range → A) (s : Sheet) (kind : Kind) (tree : IsTreeOf s.tree kind) (walk : RangeWalk) (old : List A) where
  -- the first
  pub first_put : WalksFrom s.tree walk → 0 < length old → (first : Handle) → IsHandleOf s.tree first → range_at (Some first) ≡ found_from (map_by s.tree) (greatest s.tree.table.width) walk.next
      → (new : List A) → new ≡ slice_set old 0 (f (range_of first.span)) → (way : List PathStep) → way ≡ [] → HasPutUpTo f s s walk first way old new 1
  first_put walks some first is found new set way none = record {
    put = put_on (put_begin f s walk old walks) some s refl (range_of first.span) found (walk_after s.tree first) refl
        (walks_on s.tree kind first (walk_after s.tree first).next tree is refl) new set;
    at = is;
    leads = inl none;
  }

  -- one more
  module _ (s' : Sheet) (here : Handle) (way new : List PathStep) (ranges : List A) (made : ℕ) (before : HasPutUpTo f s s' walk here way old ranges made) where
    same : s'.tree ≡ s.tree
    same = same_tree s s' before.put.reads

    -- what is found behind the slot, as the walk tells it
    pub found_next : (found : Option Range) → found ≡ found_from (map_by s'.tree) (greatest s'.tree.table.width) (index_behind (greatest s'.tree.table.width) (range_at (Some here)))
        → found ≡ found_from (map_by s'.tree) (greatest s'.tree.table.width) (walk_after s.tree here).next
    found_next found is = is ∙ ap (λ (t : Rooted). found_from (map_by s'.tree) (greatest s'.tree.table.width) (index_behind (greatest t.table.width) (range_at (Some here)))) same

    pub next_put : made < length old → (s'' : Sheet) → OnlyReads s' s'' → (next : Handle) → IsHandleOf s'.tree next → IsWayOrNone s'.tree new next.leaf
        → Some (range_of next.span) ≡ found_from (map_by s'.tree) (greatest s'.tree.table.width) (index_behind (greatest s'.tree.table.width) (range_at (Some here)))
        → (after : List A) → after ≡ slice_set ranges made (f (range_of next.span)) → HasPutUpTo f s s'' walk next new old after (made + 1)
    next_put low s'' reads next is leads found after set =
        let here_is = subst (λ (t : Rooted). IsHandleOf t next) same is in
        let behind : (walk_after s.tree next).next ≡ index_behind (greatest s'.tree.table.width) (Some (range_of next.span)) = ap (λ (t : Rooted). index_behind (greatest t.table.width) (Some (range_of next.span))) (sym same) in
        let walks = subst (λ (t : Rooted). WalksFrom t (walk_after s.tree next)) (sym same) (walks_on s.tree kind next (walk_after s.tree next).next tree here_is refl) in
        record {
          put = put_on before.put low s'' reads (range_of next.span) (found_next (Some (range_of next.span)) found) (walk_after s.tree next) behind walks after set;
          at = here_is;
          leads = subst (λ (t : Rooted). IsWayOrNone t new next.leaf) same leads;
        }

-- a walk that has ended is one of the tree
pub ended_walk : (t : Rooted) (here : Handle) → IsHandleOf t here → WalksFrom t (record { next = None; last = Some here })
ended_walk t here is = record { within = tt; given = (is, tt) }
