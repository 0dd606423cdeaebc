-- What the proofs beside this file take from the toolchain, from the crates below and from this crate's definitions, under one name. Declares nothing.
pub use Rattle.std.proofs.Common.{Any, Bool, Err, IsOk, List, None, Ok, OnOk, Option, Result, Some, [], ap, append-nil, arith, drop, false, filter, get_or, if◌then◌else◌, inl, inr, length, length-append, map, max, min, nat_eq, nat_le, nat_lt, not, refl, rules, slice_index, slice_index_or, subst, suc, sym, true, unwrap_or, zero, zero-add, ℕ, ⊎_elim, ◌&&◌, ◌*◌, ◌++◌, ◌+◌, ◌-◌, ◌<◌, ◌==◌, ◌^◌, ◌||◌, ◌↔◌, ◌∙◌, ◌∷◌, ◌≡◌, ◌≢◌, ◌≤◌, ◌⊎◌}
pub use Rattle.std.proofs.Math.Bool.{and-true, and_assoc}
pub use Rattle.mt_base.proofs.Std.{AllByRecursion, Any-from_list_any, Decides-eqb, and_from, and_parts, cases_Bool, cases_eq, cases_lt, common_steps, drop_all, eq-eqb, eqb-false, eqb-true, err_from_is_err_and, ext_get_or, flat_map, get_or-map-range_with_len, get_or_past, le-leb, leb-false, leb-true, length-map-range_with_len, list_all, list_any, lt-leb, lt-ltb, ltb-true, min-eq_left, min-le_left, min-le_right, mul-le-mul_right, ne_eqb, not-true, not_from_false, one-le-pow, pow-le-pow_right, pow-succ', same_from_decides, slice_eq-Decides, slice_get, slice_get_within}
pub use Rattle.std.specs.Cmp.Lexicographic.{pointwise}
pub use Rattle.mt_base.proofs.Lemmas.{deepest_fits, none_or_some}
pub use Rattle.mt_layout.proofs.Lemmas.{all_gaps, ends, few_items, fills_le, fills_rise, gap_at-some, get_or-padded, goes_on, item_or, layout_of, length-row_words, length-spans_from, length-used, read_all, read_last, read_more, slots-fit, some_columns, some_gaps_of, some_items, some_slots_of, used, used-gap, used-pivot, used-slot}
pub use Rattle.mt_rows.proofs.Lemmas.{IsInner, IsLeaf, IsPart, below_few, by_inner, by_kind_inner, by_leaf, children_few, expand_parts, height_by_depth, height_of_inner, inner_no_leaf, inner_wide, inners, leaves, level_fits, levels_back, levels_front, levels_join, levels_none, longest_in-append, of_first_at, ranges_of_deeper, ranges_of_inner, reads_on, rows_fit, rows_of_deeper, rows_of_inner, same_tree, some_least}
pub use Rattle.mt_rows.specs.Names.{Apart, BeginsFull, CountLaw, EndsFull, EntryLaw, Fills, GapLaw, GapLawBy, GapsFrom, HoleLaw, IsLawful, IsLawfulOf, IsRow, IsTended, Levels, OnlyReads, ParentsFrom, PivotLaw, Range, RiseFrom, Sheet, covers_all, expand, gap_at, inner_of, item_at, items_from, kind_on, leaf_range, least_of, least_of_root, levels_by, longest_below, longest_hole, of_first, pivot_column, slot_column, spans_by, spans_from, tree_as, with_published}
pub use Rattle.mt_rows.specs.declared.rows.Place.TheVariants.{Root}
pub use Rattle.mt_check.specs.Check.{Way, at_row, broken_by, broken_in, checked, faults_below, first_or, form_of, gaps_by, own_faults, root_way, unless}
unfoldable pub use Rattle.mt_check.specs.Check.{faults_at, faults_in}
pub use Rattle.mt_check.specs.Prelude.{Gapped, Inner, Item, Kind, Leaf, Rooted, RowKind, Span, Table, Tree, base_of, by_kind, column, columns, deepest, first_row, gap_column, gaps_of, greatest, height_in, height_of, items_in, kind_width, least_items, longest_in, named_kind, parent_at, ranges_of, reserved, root_span, row_in, rows_of, slots_of, spans_in, top_of, words_in}
pub use Rattle.mt_check.specs.Reads.{are_zero, broken_words, holds_no_more, row_items, words_of_parts}
pub use Rattle.mt_check.specs.RowTests.{are_apart, depth_at, has_depth, has_entries, has_gaps, has_gaps_from, has_holes, has_pivots, least_at, least_in_root, longest_by, longest_of, may_be_named, may_stand, names_row, rise_to, tells_gap, words_of}
unfoldable pub use Rattle.mt_check.specs.RowTests.{longest_at}
pub use Rattle.mt_check.specs.Walks.{IsAnswerAt, IsEntered, IsFaultOrBelow, LeadsToDepth, below_at, depth_from, depth_known, height_from, no_item, tree_from, way_of}
pub use Rattle.mt_check.specs.declared.faults.Fault.{Fault}
pub use Rattle.mt_check.specs.declared.faults.Form.{Form}
pub use Rattle.mt_check.specs.declared.faults.Law.{Law}
pub use Rattle.mt_check.specs.declared.faults.Law.TheVariants.{Gaps}
pub use Rattle.mt_check.specs.declared.row_laws.Named.{Named}
pub use Rattle.mt_check.specs.declared.walks.Below.{Below}
pub use Rattle.mt_check.specs.declared.walks.Row.{Row}
pub use Rattle.mt_check.specs.declared.walks.Visit.{Visit}
pub use Rattle.mt_check.specs.declared.walks.Walk.{Walk}
