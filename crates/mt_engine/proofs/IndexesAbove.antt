-- Indexes above the greatest one of a tree: no range is there, and looking back begins at the greatest.
use Rattle.mt_engine.proofs.Prelude.{◌≡◌, ℕ, ◌<◌, None, min, refl, sym, ap, ◌∙◌, subst, inl, inr, arith, cases_lt, lt-ltb, Kind, Width, Load, Find, Next, Prev, Rfind, answer, greatest, greatest_of, IsTreeOf, map_by, Rooted}
use Rattle.mt_base.proofs.AboveTop as above
use Rattle.mt_engine.proofs.Slots.{tree_map}

module _ (t : Rooted) (tree : (kind : Kind) × IsTreeOf t kind) where
  module _ (index : ℕ) (high : greatest t.table.width < index) where
    above_kind : greatest_of tree.0 < index
    above_kind = subst (λ (w : Width). greatest w < index) tree.1.width high

    pub load_above : None ≡ answer (map_by t) (Load index)
    load_above = sym (above.none_holds_above tree.0 (map_by t) index (tree_map t tree.0 tree.1) above_kind)

    pub find_above : (last : ℕ) → None ≡ answer (map_by t) (Find index last)
    find_above last = sym (above.none_found_above tree.0 (map_by t) index last (tree_map t tree.0 tree.1) above_kind)

    pub next_above : (last : ℕ) → None ≡ answer (map_by t) (Next index last)
    next_above last = sym (above.none_next_above tree.0 (map_by t) index last (tree_map t tree.0 tree.1) above_kind)

    pub prev_above : (least : ℕ) → answer (map_by t) (Rfind (greatest t.table.width) least) ≡ answer (map_by t) (Prev index least)
    prev_above least =
        ap (λ (w : Width). answer (map_by t) (Rfind (greatest w) least)) tree.1.width
        ∙ sym (above.prev_above tree.0 (map_by t) index least (tree_map t tree.0 tree.1) above_kind)

    rfind_above : (least : ℕ) → answer (map_by t) (Rfind (greatest t.table.width) least) ≡ answer (map_by t) (Rfind index least)
    rfind_above least =
        ap (λ (w : Width). answer (map_by t) (Rfind (greatest w) least)) tree.1.width
        ∙ sym (above.rfind_above tree.0 (map_by t) index least (tree_map t tree.0 tree.1) above_kind)

  -- looking back from the lower of an index and the greatest one
  pub rfind_from : (index from least : ℕ) → from ≡ min index (greatest t.table.width) → answer (map_by t) (Rfind from least) ≡ answer (map_by t) (Rfind index least)
  rfind_from index from least is = elim (cases_lt (greatest t.table.width) index) [
    | inl high ↦
        (let top : from ≡ greatest t.table.width = omega arith in
        ap (λ (i : ℕ). answer (map_by t) (Rfind i least)) top ∙ rfind_above index high least)
    | inr within ↦ (let same : from ≡ index = omega arith in ap (λ (i : ℕ). answer (map_by t) (Rfind i least)) same)
  ]

  pub rfind_none : (index from least : ℕ) → from ≡ min index (greatest t.table.width) → from < least → None ≡ answer (map_by t) (Rfind index least)
  rfind_none index from least is low =
      let none : None ≡ answer (map_by t) (Rfind from least) = rw (lt-ltb from least low) refl in
      none ∙ rfind_from index from least is
