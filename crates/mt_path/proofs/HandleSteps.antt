-- The slots before and behind an index's in its leaf, and what stands there. For the proofs of the crates above, too.
use Rattle.mt_path.proofs.Prelude.{◌≡◌, ◌≢◌, ℕ, suc, ◌+◌, ◌-◌, ◌^◌, ◌<◌, ◌≤◌, List, Some, true, false, length, refl, sym, ap, ◌∙◌, subst, arith, ◌↔◌, IsNone, Kind, greatest, greatest_fits, Leaf, Span, slots_of, IsTreeOf, Rooted, Handle, PathStep, leaf_spans, leaf_in, handle_in, IsHandleOf, IsStepOfLeaf, span_at}
use Rattle.mt_path.proofs.LeafSlots.{fills_within, fills_next, fills_more, fills_slot}
use Rattle.mt_path.proofs.LeafSteps.{IsStepTo, step_to, leaf_of_other, here_in, slot_low}

-- this step, of a leaf of the tree, is the one of that index, where something begins and ends
record IsBeside (t : Rooted) (step : PathStep) (other : ℕ) : Type 0 where
  pub step_of_leaf : IsStepOfLeaf t step
  pub leaf : leaf_in t other ≡ step

-- what is found at an index is its handle
pub is_handle : (t : Rooted) (index : ℕ) (handle : Handle) → index ≤ greatest t.table.width → IsNone (Some handle) ↔ (t.root ≡ 0) → handle ≡ handle_in t index → IsHandleOf t handle
is_handle t index handle within none is = record { some = (λ empty. let clash : true ≡ false = none.1 empty in absurd (cc)); index = index; within = within; is = is }

module _ (t : Rooted) (kind : Kind) (tree : IsTreeOf t kind) where
  pub step_of_index : (index : ℕ) → t.root ≢ 0 → index ≤ greatest t.table.width → IsStepOfLeaf t (leaf_in t index)
  step_of_index index some inside = record {
    some = some;
    index = index;
    within = inside;
    leaf = refl;
    used = (step_to t kind index tree some inside).used;
  }

  module _ (handle : Handle) (is : IsHandleOf t handle) where
    abbrev leaf_of_is : PathStep
    leaf_of_is = leaf_in t is.index

    facts : IsStepTo t is.index leaf_of_is
    facts = step_to t kind is.index tree is.some is.within

    abbrev spans : List Span
    spans = leaf_spans t.table leaf_of_is

    -- what holds of another slot of the same leaf
    other_slot : (slot other : ℕ) → slot < length spans → (span_at spans slot).first ≤ other → other ≤ (span_at spans slot).last → IsBeside t (record leaf_of_is { slot = slot }) other
    other_slot slot other used from to =
        let fills = facts.leaf.fills in
        let within = fills_within leaf_of_is.min (leaf_of_is.max + 1) spans slot fills used in
        let low = within.0 in let high = within.2 in
        let there = fills_slot leaf_of_is.min (leaf_of_is.max + 1) spans slot other fills used from to in
        let same = leaf_of_other t kind is.index other tree is.some is.within (omega arith) (omega arith) in
        record {
          step_of_leaf = record { some = is.some; index = is.index; within = is.within; leaf = refl; used = used };
          leaf = same ∙ ap (λ (n : ℕ). record leaf_of_is { slot = n }) there;
        }

    more_behind : (span_at spans leaf_of_is.slot).last ≢ leaf_of_is.max → suc leaf_of_is.slot < length spans
    more_behind other = let used = facts.used in fills_more leaf_of_is.min (leaf_of_is.max + 1) spans leaf_of_is.slot facts.leaf.fills used (λ same. other (omega arith))

    plus : suc leaf_of_is.slot ≡ leaf_of_is.slot + 1
    plus = omega arith

    behind_begins : (span_at spans leaf_of_is.slot).last ≢ leaf_of_is.max → (span_at spans (leaf_of_is.slot + 1)).first ≡ (span_at spans leaf_of_is.slot).last + 1
    behind_begins other =
        ap (λ (n : ℕ). (span_at spans n).first) (sym plus) ∙ fills_next leaf_of_is.min (leaf_of_is.max + 1) spans leaf_of_is.slot facts.leaf.fills (more_behind other)

    behind_slot : (span_at spans leaf_of_is.slot).last ≢ leaf_of_is.max → IsBeside t (record leaf_of_is { slot = leaf_of_is.slot + 1 }) ((span_at spans leaf_of_is.slot).last + 1)
    behind_slot other =
        let used = more_behind other in
        let begins = behind_begins other in
        let order = (fills_within leaf_of_is.min (leaf_of_is.max + 1) spans (leaf_of_is.slot + 1) facts.leaf.fills (omega arith)).1 in
        other_slot (leaf_of_is.slot + 1) ((span_at spans leaf_of_is.slot).last + 1) (omega arith) (omega arith) (omega arith)

    before_ends : leaf_of_is.slot ≢ 0 → (span_at spans leaf_of_is.slot).first ≡ (span_at spans (leaf_of_is.slot - 1)).last + 1
    before_ends other =
        let used = facts.used in
        let less : suc (leaf_of_is.slot - 1) ≡ leaf_of_is.slot = omega arith in
        ap (λ (n : ℕ). (span_at spans n).first) (sym less) ∙ fills_next leaf_of_is.min (leaf_of_is.max + 1) spans (leaf_of_is.slot - 1) facts.leaf.fills (omega arith)

    before_slot : leaf_of_is.slot ≢ 0 → IsBeside t (record leaf_of_is { slot = leaf_of_is.slot - 1 }) ((span_at spans leaf_of_is.slot).first - 1)
    before_slot other =
        let used = facts.used in
        let ends = before_ends other in
        let order = (fills_within leaf_of_is.min (leaf_of_is.max + 1) spans (leaf_of_is.slot - 1) facts.leaf.fills (omega arith)).1 in
        other_slot (leaf_of_is.slot - 1) ((span_at spans leaf_of_is.slot).first - 1) (omega arith) (omega arith) (omega arith)

    -- ---- as the handle is told

    leaf_is : handle.leaf ≡ leaf_of_is
    leaf_is = ap (λ (h : Handle). h.leaf) is.is

    span_is : handle.span ≡ span_at spans leaf_of_is.slot
    span_is = ap (λ (h : Handle). h.span) is.is

    pub handle_within : (handle.span.first ≤ handle.span.last) × (handle.span.last ≤ greatest t.table.width)
    handle_within =
        let leaf = facts.leaf in
        let within = fills_within leaf_of_is.min (leaf_of_is.max + 1) spans leaf_of_is.slot leaf.fills facts.used in
        let order = within.1 in let high = within.2 in let top = leaf.within in
        subst (λ (x : Span). (x.first ≤ x.last) × (x.last ≤ greatest t.table.width)) (sym span_is) (order, omega arith)

    -- what is not the last index has one behind it, which is a number of the machine
    pub one_behind : (top : ℕ) → top ≡ greatest t.table.width → handle.span.last ≢ top → (handle.span.last + 1 ≤ greatest t.table.width) × (handle.span.last + 1 < 2 ^ 64)
    one_behind top is other =
        let end = handle_within.1 in let fits = greatest_fits t.table.width in
        let low : handle.span.last + 1 ≤ greatest t.table.width = omega arith in
        (low, omega arith)

    -- nor is what does not end its leaf
    pub inner_behind : handle.span.last ≢ handle.leaf.max → (handle.span.last + 1 ≤ greatest t.table.width) × (handle.span.last + 1 < 2 ^ 64)
    inner_behind other =
        let leaf = facts.leaf in
        let within = fills_within leaf_of_is.min (leaf_of_is.max + 1) spans leaf_of_is.slot leaf.fills facts.used in
        let high = within.2 in let top = leaf.within in
        let end : handle.span.last ≡ (span_at spans leaf_of_is.slot).last = ap (λ (x : Span). x.last) span_is in
        let max : handle.leaf.max ≡ leaf_of_is.max = ap (λ (x : PathStep). x.max) leaf_is in
        let low : handle.span.last + 1 ≤ greatest t.table.width = omega (arith, high, top, end, max, other) in
        (low, omega (arith, low, greatest_fits t.table.width))

    pub slot_fits : handle.leaf.slot < slots_of t.table.width Leaf
    slot_fits = subst (λ (x : PathStep). x.slot < slots_of t.table.width Leaf) (sym leaf_is) (slot_low t kind leaf_of_is tree (step_of_index is.index is.some is.within))

    -- its leaf is one of the tree's
    pub leaf_of_handle : IsStepOfLeaf t handle.leaf
    leaf_of_handle = subst (IsStepOfLeaf t) (sym leaf_is) (step_of_index is.index is.some is.within)

    -- ---- the slot behind

    module _ (other : handle.span.last ≢ handle.leaf.max) where
      abbrev next : PathStep
      next = record handle.leaf { slot = handle.leaf.slot + 1 }

      inner : (span_at spans leaf_of_is.slot).last ≢ leaf_of_is.max
      inner = λ same. other (ap (λ (x : Span). x.last) span_is ∙ (same ∙ sym (ap (λ (x : PathStep). x.max) leaf_is)))

      next_is : next ≡ record leaf_of_is { slot = leaf_of_is.slot + 1 }
      next_is = ap (λ (x : PathStep). record x { slot = x.slot + 1 }) leaf_is

      pub step_behind : IsStepOfLeaf t next
      step_behind = subst (IsStepOfLeaf t) (sym next_is) (behind_slot inner).step_of_leaf

      pub handle_behind : (last word : ℕ) → last ≡ (here_in t.table next).last → word ≡ (here_in t.table next).word
          → record { leaf = next; span = record { first = handle.span.last + 1; last = last; word = word } } ≡ handle_in t (handle.span.last + 1)
      handle_behind last word ends is_word =
          let first : handle.span.last + 1 ≡ (here_in t.table next).first =
          ap (λ (x : Span). x.last + 1) span_is ∙ (sym (behind_begins inner) ∙ ap (λ (x : PathStep). (here_in t.table x).first) (sym next_is)) in
          let leaf : next ≡ leaf_in t (handle.span.last + 1) =
          next_is ∙ (sym (behind_slot inner).leaf ∙ ap (λ (x : Span). leaf_in t (x.last + 1)) (sym span_is)) in
          let span : record { first = handle.span.last + 1; last = last; word = word } ≡ here_in t.table next = λ i. record { first = first i; last = ends i; word = is_word i } in
          λ i. record { leaf = leaf i; span = (span ∙ ap (here_in t.table) leaf) i }

    -- ---- the slot before

    module _ (other : handle.leaf.slot ≢ 0) where
      abbrev previous : PathStep
      previous = record handle.leaf { slot = handle.leaf.slot - 1 }

      not_first : leaf_of_is.slot ≢ 0
      not_first = λ same. other (ap (λ (x : PathStep). x.slot) leaf_is ∙ same)

      previous_is : previous ≡ record leaf_of_is { slot = leaf_of_is.slot - 1 }
      previous_is = ap (λ (x : PathStep). record x { slot = x.slot - 1 }) leaf_is

      pub handle_before : (first word : ℕ) → first ≡ (here_in t.table previous).first → word ≡ (here_in t.table previous).word
          → record { leaf = previous; span = record { first = first; last = handle.span.first - 1; word = word } } ≡ handle_in t (handle.span.first - 1)
      handle_before first word begins is_word =
          let ends = before_ends not_first in
          let to : (span_at spans leaf_of_is.slot).first - 1 ≡ (span_at spans (leaf_of_is.slot - 1)).last = omega arith in
          let last : handle.span.first - 1 ≡ (here_in t.table previous).last =
          ap (λ (x : Span). x.first - 1) span_is ∙ (to ∙ ap (λ (x : PathStep). (here_in t.table x).last) (sym previous_is)) in
          let leaf : previous ≡ leaf_in t (handle.span.first - 1) =
          previous_is ∙ (sym (before_slot not_first).leaf ∙ ap (λ (x : Span). leaf_in t (x.first - 1)) (sym span_is)) in
          let span : record { first = first; last = handle.span.first - 1; word = word } ≡ here_in t.table previous = λ i. record { first = begins i; last = last i; word = is_word i } in
          λ i. record { leaf = leaf i; span = (span ∙ ap (here_in t.table) leaf) i }
