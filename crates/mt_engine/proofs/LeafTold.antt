-- A leaf on the way to an index, whose longest hole was told when it was published.
use Rattle.mt_engine.proofs.Prelude.{◌≡◌, ◌≢◌, ℕ, ◌+◌, ◌-◌, ◌≤◌, List, [], ◌∷◌, Bool, Some, true, length, refl, sym, ap, ◌∙◌, subst, arith, Kind, finds_room, greatest, Gapped, Span, row_in, named_kind, named_row, slot_column, slots_of, longest_in, PathStep, step_at, step_in, path_in, leaf_in, leaf_spans, rows_at, row_of, step_of, levels, step, place, lawful, some_root, some_tree, Place, Tree, IsTree, Stands, kind_on, longest_below, tree_on, IsTreeOf, root_of, Rooted, Sheet, word_at, OnLevel, one_of_parts, on_level, on_level_law, one_place, TellsBelow, TellsGapAt, IsAlong, IsToldWay, child_tells, MayMendAt, WasWay, IsPlaceOfLeaf}
use Rattle.mt_engine.proofs.LeafReplaced.{goes_along}

-- ---- a row that tells, and the leaf of that number on the way

module _ (kind : Kind) (room : finds_room kind ≡ true) (now : Rooted) (tree : IsTreeOf now kind) (some : now.root ≢ 0) (word gap : ℕ) (tells : TellsBelow kind now word gap) where
  abbrev t : Tree
  t = tree_on true now

  stood : (h : ℕ) × Stands t h
  stood = some_tree t (subst (λ (b : Bool). IsTree (tree_on b now)) room tree.words) some

  on_tells : OnLevel now.table stood.0 (root_of t) tells.height tells.row
  on_tells = on_level t stood.0 stood.1 tells.height tells.row tells.stands

  pub is_named : named_row word ≡ Some (row_in tells.row.word)
  is_named =
      let named : named_kind tells.row.word ≡ Some (kind_on true tells.height) = (on_level_law t stood.0 stood.1 tells.height tells.row on_tells).name.named in
      let whole : named_row tells.row.word ≡ Some (row_in tells.row.word) = rw named refl in
      subst (λ (w : ℕ). named_row w ≡ Some (row_in tells.row.word)) tells.named whole

  module _ (index : ℕ) (within : index ≤ greatest now.table.width) (path : List PathStep) (along : IsAlong path (row_in tells.row.word) (path_in now.table now.root index)) where
    abbrev x : Span
    x = row_of t stood.0 index

    long : length (path_in now.table now.root index) ≡ stood.0 + 1
    long = levels t stood.0 stood.1 index within

    on_way : OnLevel now.table stood.0 (root_of t) 0 x
    on_way = record {
      depth = stood.0;
      height = omega arith;
      one = (let at = place t stood.0 stood.1 index stood.0 within (omega arith) in one_of_parts (rows_at t stood.0) at.front at.back x at.parts);
    }

    step_is : step_of t stood.0 index ≡ step_in now.table x index
    step_is = step t stood.0 stood.1 index stood.0 within (omega arith)

    number : row_in tells.row.word ≡ row_in x.word
    number =
        ap (λ (s : PathStep). s.row) (along.end stood.0 (let many = along.many in let deep = long in omega arith)) ∙ ap (λ (s : PathStep). s.row) step_is

    same : (tells.height ≡ 0) × (tells.row ≡ x)
    same = one_place t stood.0 stood.1 tells.height 0 tells.row x on_tells on_way number

    leaf_is : leaf_in now index ≡ step_in now.table x index
    leaf_is =
        let last : length (path_in now.table now.root index) - 1 ≡ stood.0 = (let deep = long in omega arith) in
        ap (λ (n : ℕ). step_at (path_in now.table now.root index) n) last ∙ step_is

    pub told_leaf : gap ≡ longest_in (leaf_spans now.table (leaf_in now index))
    told_leaf =
        tells.longest room
        ∙ ((λ i. longest_below now.table (same.0 i) (same.1 i ∷ []))
        ∙ (sym (child_tells now 0 index x (lawful t stood.0 stood.1 index stood.0 0 within (omega arith)) tt) ∙ ap (λ (s : PathStep). longest_in (leaf_spans now.table s)) (sym leaf_is)))

-- ---- the way, where the place is the leaf's

module _ (kind : Kind) (room : finds_room kind ≡ true) (was : Rooted) (s : Sheet) (place : Place) (path : List PathStep) (index gap : ℕ) (w : WasWay kind was s.tree place path index) (may : MayMendAt kind s index) (of_leaf : IsPlaceOfLeaf s.tree.table.width place path) (told : TellsGapAt kind s.tree place gap) where
  abbrev above : PathStep
  above = step_at path (length path - 2)

  abbrev col : ℕ
  col = slot_column (slots_of s.tree.table.width Gapped) above.slot

  tells : TellsBelow kind s.tree (word_at s.tree above.row col) gap
  tells = subst (λ (p : Place). TellsGapAt kind s.tree p gap) of_leaf.at told

  some : s.tree.root ≢ 0
  some empty =
      let root = w.root above.row col of_leaf.at in
      let long = ap length w.way in
      let many = of_leaf.many in
      some_root was index 0 (omega arith) (sym root ∙ empty)

  along : IsAlong path (row_in tells.row.word) (path_in s.tree.table s.tree.root index)
  along = goes_along kind room was s.tree place path index w may.tree may.within of_leaf.many (row_in tells.row.word) of_leaf.at (is_named kind room s.tree may.tree some (word_at s.tree above.row col) gap tells)

  pub told_way : IsToldWay (finds_room kind) s path gap
  told_way = record {
    leaf = row_in tells.row.word;
    way = record { is_new = may.is_new; index = index; within = may.within; gaps = may.gaps; steps = along; live = may.live; none_buried = may.none_buried };
    told = told_leaf kind room s.tree may.tree some (word_at s.tree above.row col) gap tells index may.within path along;
  }
