-- What the proofs beside this file take from the toolchain, from the crates below and from this crate's definitions, under one name. Declares nothing.
pub use Rattle.std.proofs.Common.{All, Bool, IfSome, IsNone, IsSome, List, None, Option, Some, [], ap, append-nil, append_assoc, arith, cond, drop, eq-eqb, false, get_or, if◌then◌else◌, inl, inr, is_some, le-ltb, length, length-append, lit≤, lt-ltb, map, nat_le, nat_lt, ne_eqb, option_map, refl, replicate, rules, slice_index, slice_index_or, slice_set, subst, suc, sum, sym, take, true, zero, ℕ, ⊎_elim, ◌*◌, ◌++◌, ◌+◌, ◌-◌, ◌<◌, ◌==◌, ◌^◌, ◌↔◌, ◌∙◌, ◌∷◌, ◌≡◌, ◌≢◌, ◌≤◌}
pub use Rattle.mt_base.proofs.Std.{AllByRecursion, cases_Bool, cases_lt, drop_all, drop_more, ext_get_or, flat_map, flat_map-append, get_or-append_right, get_or-map, get_or-take, get_or_append_left, get_or_at, le-max_left, le-max_right, length-map, length-set, length-take-le, length_push, map-append, set_at, slice_get, slice_get_within, sum_by-append, take-append-drop, take-take, take_all, take_more, take_while, take_while-cons}
pub use denote.Enum.Bare.{same_true}
pub use Rattle.mt_base.proofs.Lemmas.{all_map, greatest_fits}
pub use Rattle.mt_layout.proofs.Lemmas.{IsItem, Names-named_kind, ends, few_items, few_slots_of, fills_le, fills_split, get_or-padded, goes_on, item_or, layout_of, length-spans_from, slots_of-columns, slots_of-room, some_columns, some_items, some_slots_of, used, used-pivot}
pub use Rattle.mt_rows.proofs.Lemmas.{Filled, all_at, by_kind_inner, expand_fills, inner_no_leaf, inner_not_named, leaf_low, level-append, levels_back, levels_front, levels_here, ranges_by_depth, reads_on, row_most, same_tree}
pub use Rattle.mt_rows.specs.Names.{IsBelow, IsRow, IsSlotOf, IsTree, IsTreeOf, Item, Kind, Levels, Long, OnlyReads, RoseUpTo, Short, Stands, Tree, Width, expand, first_row, inner_of, item_at, kind_on, leaf_range, level, loaded, map_in, map_of, one_more, pivot_column, spans_by, top_of, tree_as, word_at}
pub use Rattle.mt_path.specs.Handles.{IsHandleOf, IsStepOfLeaf, handle_in, last_step, leaf_in, leaf_spans}
pub use Rattle.mt_path.specs.Middles.{IsLawfulRow, IsSlotFor}
pub use Rattle.mt_path.specs.Paths.{Covers, IsDeepestOver, ReadsBelow, below, loads_at, loads_in, loads_on, no_step, path_in, slot_for, span_at, step_at, step_in}
unfoldable pub use Rattle.mt_path.specs.Paths.{path_of, row_on}
pub use Rattle.mt_path.specs.Prelude.{Fills, IsPlace, Leaf, ReadsUpTo, Rooted, RowKind, Sheet, Span, Table, base_of, by_kind, column, columns, deepest, gaps_of, greatest, items_at, items_from, named_kind, root_span, row_in, row_spans, slot_column, slots_of, spans_from, spans_in}
pub use Rattle.mt_path.specs.Walks.{BeginsAt, IsAtEnd, IsFoundSlot, IsOnWay, WalksTo, found_span, row_as, row_at, row_for, spans_of}
pub use Rattle.mt_path.specs.declared.handles.Handle.{Handle}
pub use Rattle.mt_path.specs.declared.paths.PathStep.{PathStep}
pub use Rattle.mt_path.specs.declared.rows.Found.{Found}
pub use Rattle.mt_path.specs.declared.rows.Row.{Row}
pub use Rattle.mt_path.specs.Batches.{IsLevel, IsTreeOfWidth, word_on, words_in, words_on}
