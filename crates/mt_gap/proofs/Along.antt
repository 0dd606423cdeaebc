-- Gap words mended on a path that goes along a way, whose leaf may be another.
use Rattle.mt_gap.proofs.Prelude.{◌≡◌, ℕ, ◌+◌, ◌-◌, ◌<◌, ◌≤◌, Bool, List, length, sym, ap, ◌∙◌, subst, inl, inr, arith, RowKind, Leaf, Inner, Gapped, gap_column, slots_of, PathStep, step_at, path_in, HasGaps, Stands, Levels, tree_on, root_of, Sheet, IsPlace, MayTend, IsWhole, with_word, loaded, tended, Table, Shared, told_by, KeepsWordsBut, IsAlong, IsWay, IsToldWay, MayTell, MayMend, IsMended}
use Rattle.mt_gap.proofs.MendWay.{HasMended, RootIs, level_low, may_mend_at, mended_at, begin_way, end_way, end_spans, two_levels}

-- ---- what a row tells does not depend on the slot

may_tell_by : (kind : RowKind) (t : Table) (a b : PathStep) → record a { slot = 0 } ≡ record b { slot = 0 } → MayTell kind t b → MayTell kind t a
may_tell_by Leaf t a b same may = subst (MayTell Leaf t) (sym same) may
may_tell_by Inner t a b same may = tt
may_tell_by Gapped t a b same may = subst (MayTell Gapped t) (sym same) may

told_same : (kind : RowKind) (t : Table) (a b : PathStep) → record a { slot = 0 } ≡ record b { slot = 0 } → told_by kind t a ≡ told_by kind t b
told_same Leaf t a b same = ap (told_by Leaf t) same
told_same Inner t a b same = ap (told_by Inner t) same
told_same Gapped t a b same = ap (told_by Gapped t) same

module _ (s : Sheet) (kind : RowKind) (above below above' below' : PathStep) (up : above ≡ above') (low : record below { slot = 0 } ≡ record below' { slot = 0 }) where
  pub may_mend_by : MayMend s kind above' below' → MayMend s kind above below
  may_mend_by may =
      subst (λ (p : PathStep). MayMend s kind p below) (sym up) (record {
        place = subst (λ (n : ℕ). IsPlace s.tree n 0) (sym (ap (λ (p : PathStep). p.row) low)) may.place;
        tells = may_tell_by kind s.tree.table below below' low may.tells;
        slot = may.slot;
        tend = may.tend;
      })

  pub mended_by : (s' : Sheet) → IsMended s s' kind above below → IsMended s s' kind above' below'
  mended_by s' mended =
      mended
      ∙ (λ i. record s { tree = with_word s.tree (up i).row (gap_column (slots_of s.tree.table.width Gapped) (up i).slot) (told_same kind s.tree.table below below' low i); reads = s'.reads })

-- ---- how far it is mended

-- the way is mended from its leaf up to the row of this step, which is the next to tell
pub record HasMendedOn (s s' : Sheet) (path : List PathStep) (leaf : ℕ) (kind : RowKind) (level : ℕ) (below : PathStep) : Type 0 where
  pub way : List PathStep
  pub along : IsAlong path leaf way
  pub mended : HasMended s s' way kind level
  pub row : record below { slot = 0 } ≡ record (step_at way (level - 1)) { slot = 0 }

module _ (s s' : Sheet) (path : List PathStep) (leaf : ℕ) (kind : RowKind) (level : ℕ) (below : PathStep) (m : HasMendedOn s s' path leaf kind level below) where
  pub level_within : level ≤ length path
  level_within = let low = level_low s s' m.way kind level m.mended in let many = m.along.many in omega arith

  pub words_on : KeepsWordsBut s.tree s'.tree path
  words_on row col low = elim (m.mended.words row col low) [
    | inl same ↦ inl same
    | inr gap ↦
        (let few : gap.level + 1 < length path = (let many = m.along.many in let few = gap.above in omega arith) in
        let same = sym (m.along.above gap.level few) in
        inr (record {
          level = gap.level;
          above = few;
          row_is = gap.row_is ∙ ap (λ (p : PathStep). p.row) same;
          col_is = gap.col_is ∙ ap (λ (p : PathStep). gap_column (slots_of s.tree.table.width Gapped) p.slot) same;
        }))
  ]

  module _ (more : 2 ≤ level) where
    up : step_at path (level - 1 - 1) ≡ step_at m.way (level - 1 - 1)
    up = let low = level_within in m.along.above (level - 1 - 1) (omega arith)

    pub may_mend_on : IsWhole s' → MayMend s' kind (step_at path (level - 1 - 1)) below
    may_mend_on whole =
        may_mend_by s' kind (step_at path (level - 1 - 1)) below (step_at m.way (level - 1 - 1)) (step_at m.way (level - 1)) up m.row
        (may_mend_at s s' m.way kind level m.mended more whole)

    pub mended_on : IsWhole s' → (s'' : Sheet) → IsMended s' s'' kind (step_at path (level - 1 - 1)) below → HasMendedOn s s'' path leaf Gapped (level - 1) (step_at path (level - 1 - 1))
    mended_on whole s'' mended = record {
      way = m.way;
      along = m.along;
      mended =
          mended_at s s' m.way kind level m.mended more whole s''
          (mended_by s' kind (step_at path (level - 1 - 1)) below (step_at m.way (level - 1 - 1)) (step_at m.way (level - 1)) up m.row s'' mended);
      row = ap (λ (p : PathStep). record p { slot = 0 }) up;
    }

-- ---- the first and the last

pub begin_on : (gapped : Bool) (s s' : Sheet) (path : List PathStep) (leaf : ℕ) → IsWay gapped s path leaf → RootIs s Gapped → s' ≡ loaded s → HasMendedOn s s' path leaf Leaf (length path) (record (step_at path (length path - 1)) { row = leaf })
begin_on gapped s s' path leaf way root is =
    let m = begin_way gapped s s' path leaf way root is in
    let some = m.at.level.low in
    record { way = path_in s.tree.table s.tree.root way.index; along = way.steps; mended = m; row = way.steps.end (length path - 1) (omega arith) }

pub end_on : (gapped : Bool) (s s' : Sheet) (path : List PathStep) (leaf : ℕ) (k : RowKind) (level : ℕ) (below : PathStep) → IsWay gapped s path leaf → RootIs s Gapped → HasMendedOn s s' path leaf k level below → level ≤ 1 → HasGaps (tree_on gapped s'.tree)
end_on gapped s s' path leaf k level below way root m last = end_way gapped s s' path leaf m.way k level way root m.mended last

pub spans_on : (gapped : Bool) (s s' : Sheet) (path : List PathStep) (leaf : ℕ) (k : RowKind) (level : ℕ) (below : PathStep) (h : ℕ) → HasMendedOn s s' path leaf k level below → Stands (tree_on gapped s.tree) h
    → Levels (Shared s.tree.table s'.tree.table) s.tree.table h (root_of (tree_on gapped s.tree))
spans_on gapped s s' path leaf k level below h m stands = end_spans gapped s s' m.way k level h m.mended stands

-- ---- a leaf whose longest hole is told

module _ (gapped : Bool) (s s' : Sheet) (path : List PathStep) (gap : ℕ) (w : IsToldWay gapped s path gap) (root : RootIs s Gapped) (is : s' ≡ loaded s) where
  begun : HasMendedOn s s' path w.leaf Leaf (length path) (record (step_at path (length path - 1)) { row = w.leaf })
  begun = begin_on gapped s s' path w.leaf w.way root is

  pub leaf_below : 2 ≤ length path
  leaf_below = two_levels gapped s path w.leaf w.way root

  abbrev above : PathStep
  above = step_at path (length path - 1 - 1)

  may_mend_first : IsWhole s' → MayMend s' Leaf above (record (step_at path (length path - 1)) { row = w.leaf })
  may_mend_first whole = may_mend_on s s' path w.leaf Leaf (length path) (record (step_at path (length path - 1)) { row = w.leaf }) begun leaf_below whole

  pub first_slot : IsWhole s' → above.slot < slots_of s'.tree.table.width Gapped
  first_slot whole = (may_mend_first whole).slot

  pub first_tend : IsWhole s' → MayTend s' above.row (gap_column (slots_of s'.tree.table.width Gapped) above.slot) gap
  first_tend whole = (may_mend_first whole).tend gap

  -- it is what the leaf on the way tells
  leaf_told : told_by Leaf s'.tree.table (record (step_at path (length path - 1)) { row = w.leaf }) ≡ gap
  leaf_told =
      let way = path_in s.tree.table s.tree.root w.way.index in
      let some = leaf_below in
      told_same Leaf s'.tree.table (record (step_at path (length path - 1)) { row = w.leaf }) (step_at way (length path - 1)) (w.way.steps.end (length path - 1) (omega arith))
      ∙ ((λ i. told_by Leaf (is i).tree.table (step_at way (w.way.steps.many i - 1))) ∙ sym w.told)

  pub told_first : IsWhole s' → (s'' : Sheet) → s'' ≡ tended s' above.row (gap_column (slots_of s'.tree.table.width Gapped) above.slot) gap → HasMendedOn s s'' path w.leaf Gapped (length path - 1) above
  told_first whole s'' done =
      mended_on s s' path w.leaf Leaf (length path) (record (step_at path (length path - 1)) { row = w.leaf }) begun leaf_below whole s''
      (subst (λ (x : Sheet). x ≡ record s' { tree = with_word s'.tree above.row (gap_column (slots_of s'.tree.table.width Gapped) above.slot) (told_by Leaf s'.tree.table (record (step_at path (length path - 1)) { row = w.leaf })); reads = x.reads }) (sym done)
      (ap (λ (n : ℕ). tended s' above.row (gap_column (slots_of s'.tree.table.width Gapped) above.slot) n) (sym leaf_told)))
