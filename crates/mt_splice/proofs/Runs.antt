-- What a store makes of the empty tree is enough for a row and not too much.
use Rattle.mt_splice.proofs.Prelude.{[], ◌≡◌, ◌≢◌, ℕ, ◌+◌, ◌-◌, ◌≤◌, ◌==◌, List, ◌∷◌, false, length, refl, sym, ◌∙◌, arith, ne_eqb, eq-eqb, flat_map, Range, reserved, over, Leaf, Span, leaf_range, Fills, sizes, some_filled, Tree, top_of, least_of_root, least_of, stored, edited, ranges_edited, fills_edited, length_edited, apart_joined, PathStep, region_of, span_to, MayBeCut}
use Rattle.mt_splice.proofs.EditedRegions.{all_edited}

all_enough : (t : Tree) (height lo hi : ℕ) (run : List Span) → lo ≡ 0 → hi ≡ top_of t + 1 → least_of_root height ≤ length run → least_of t height (span_to lo hi) ≤ length run
all_enough t height lo hi run first last least =
    let end : hi - 1 ≡ top_of t = omega arith in
    rw (eq-eqb lo 0 first, eq-eqb (hi - 1) (top_of t) end) least

-- what a store makes of the empty tree: one leaf holds it
pub empty_run : (t : Tree) (right : List PathStep) (first last entry : ℕ) → first ≤ last → last ≤ top_of t → reserved entry ≡ false → entry ≢ 0
    → MayBeCut t 0 0 (top_of t + 1) (edited (region_of t.table [] right) first last entry) × (flat_map leaf_range (edited (region_of t.table [] right) first last entry) ≡ over [] first last entry)
    × (length (edited (region_of t.table [] right) first last entry) ≤ 3)
empty_run t right first last entry order within free some =
    let hole : Span = record { first = 0; last = top_of t; word = 0 } in
    let whole : Fills 0 (top_of t + 1) (hole ∷ []) = (refl, omega arith, refl) in
    let fills = fills_edited 0 (top_of t + 1) first last entry (hole ∷ []) whole (omega arith) order (omega arith) in
    let count = length_edited 0 (top_of t + 1) first last entry (hole ∷ []) whole order in
    let ranges = ranges_edited (hole ∷ []) first last entry in
    let one = some_filled 0 (top_of t + 1) (edited (hole ∷ []) first last entry) fills (omega arith) in (
      record {
        fills = fills;
        some = one;
        few = let enough = sizes t.table.width Leaf in omega arith;
        least = all_enough t 0 0 (top_of t + 1) (edited (hole ∷ []) first last entry) refl refl one;
        fit = (
          apart_joined (stored (hole ∷ []) first last entry),
          all_edited (λ (x : Span). reserved x.word ≡ false) (λ x last free. free) (λ x first free. free) (hole ∷ []) first last entry free (refl, tt),
        );
        leaves = λ leaf. record { ends = λ more. absurd (omega arith); some = λ none. has_range (sym ranges ∙ none) };
      },
      ranges,
      omega arith,
    )
  where
    has_range : over [] first last entry ≡ [] → ⊥
    has_range none = let full : (entry == 0) ≡ false = ne_eqb entry 0 some in one (record { first = first; last = last; entry = entry }) (rw full at none)
      where
        one : (r : Range) → r ∷ [] ≡ [] → ⊥
        one r none = cc
