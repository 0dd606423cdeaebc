-- What the proofs of the crates above take from the toolchain, beside its Common, under one name. Declares nothing.
pub use Rattle.std.proofs.Math.Nat.{div-lt_iff_lt-mul, le-max_left, le-max_right, min-eq_left, min-le_left, min-le_right, mul-add, mul-div_cancel_left, mul-le-mul_left, mul-le-mul_right, mul-lt-mul_of_pos_right, mul_assoc, mul_comm, one-le-pow, pow-le-pow_right, pow-succ', zero-min}
pub use Rattle.std.proofs.Math.Seq.{drop-append-add, drop-append_seam, drop-length, get_or-append_seam, map-set_same, take-append_seam, take-length, take-nil, take-suc}
pub use Rattle.std.proofs.lemmas.Bool.{and_from, and_left, and_parts, and_right, cases_Bool, cases_eq, cases_lt, cond_both, eq-eqb, eqb-false, eqb-true, false≢true, iff_false, le-leb, le-ltb, leb-false, leb-true, lt-leb, lt-ltb, ltb-false, ltb-true, ne_eqb, not-true, not_from_false, or_left, or_parts, or_right, true≢false}
pub use Rattle.std.proofs.lemmas.Bool.Decides.{Decides-eqb, eqb_tells, nat_tests, same_from_decides}
pub use Rattle.std.proofs.lemmas.Grind.{common_steps, flat_map-append}
pub use Rattle.std.proofs.lemmas.List.{append-nil, append_assoc, append_cancel_left, drop-drop, drop-map, drop-replicate, drop-set-lt, drop-take, drop_all, drop_at, drop_more, ext_get_or, flat_map_more, get_or-append-add, get_or-append_right, get_or-drop, get_or-map, get_or-replicate, get_or-set_other, get_or-set_same, get_or-take, get_or_append_left, get_or_at, get_or_default, get_or_past, get_or_push, length-append, length-drop, length-map, length-replicate, length-set, length-take, length-take-le, length_push, map-append, map-id, map-set, map_push, nil_from_length, same_from_push, same_lists, set-append_left, set-append_right, set-get_or, set_at, take-append-drop, take-append-le, take-map, take-replicate, take-set, take-take, take_all, take_at, take_min, take_more, take_more_set, take_rest, with_items_is}
pub use Rattle.std.proofs.lemmas.List.Elements.{All-append, All-cons, All-contains, All-contains_itself, All-filter, All-from_get_or, All-from_recursion, All-get_or, All-head, All-map, All-more, All-nil, All-pop, All-push, All-replicate, All-same, All-set, All-tail, All-take, All-weaker, Contains-append_cases, Contains-append_left, Contains-append_right, Contains-get_or, Contains-push, Contains-push_cases, filter-append, filter_map-append, filter_passes, recursion_from_All}
pub use Rattle.std.proofs.lemmas.List.Folds.{Any-from_list_any, length-flat_map-take, length-prefix_len, list_any-append, position_or_len_push}
pub use Rattle.std.proofs.lemmas.List.FromFn.{get_or-enumerate_from, get_or-map-range_with_len, length-enumerate_from, length-map-range_with_len, length-range_with_len, map-range_with_len_more}
pub use Rattle.std.proofs.lemmas.List.Kept.{AllPairs-cons}
pub use Rattle.std.proofs.lemmas.List.Quantifiers.{all_pairs_push, all_pairs_remove, position-Some}
pub use Rattle.std.proofs.lemmas.List.Sorted.{All-permutation, Contains-permutation, IsPartitionPoint-from_clause, IsPartitionedBy-leb, IsPartitionedBy-ltb, IsPermutation-cons, IsPermutation-keeps, IsPermutation-map, IsPermutation-refl, IsPermutation-swap, IsPermutation-sym, IsPermutation-to_front, IsPermutation-trans, length_permutation, sum_by-IsPermutation}
pub use Rattle.std.proofs.lemmas.List.Sums.{count_by-le-length, count_by_more_no, count_by_more_yes, fails_before_first, fold-append, fold_more, passes_at_first, prefix_len-le-length, prefix_len_is, prefix_len_passes, split_at_first, sum_by-append, sum_by-cons, take_while-cons}
pub use Rattle.std.proofs.lemmas.Option.{IfSome_then, cond_some, get_or_from_slice_get, none-some, same_Some, slice_get-get_or, slice_get-map, slice_get_cases, slice_get_read, slice_get_within}
pub use Rattle.std.proofs.lemmas.Result.{IfErr-weaker, IfOk-weaker, err_from_is_err_and, on_ok_weaker}
pub use Rattle.std.proofs.lemmas.Slice.Eq.{bytes_eq-Decides, slice_eq-Decides}
pub use Rattle.std.specs.List.{All, AllByRecursion, AllPairs, Contains, after_first, before_first, cons_option, copy_within, enumerate_from, filter, filter_map, find, flat_map, fold, join_with_byte, list_all, list_any, onto_first, position, position_or_len, prefix_len, range_with_len, refill, slice_get, slice_index, slice_range, slice_split, swap, take_while}
