-- What the proofs beside this file take from the toolchain, from the crates below and from this crate's definitions, under one name. Declares nothing.
pub use Rattle.std.proofs.Common.{Bool, List, None, Option, Some, [], ap, append-nil, append_assoc, arith, drop, false, fold, get_or, if◌then◌else◌, inl, inr, length, length-append, length-drop, max, min, nat_le, nat_lt, not, option_map, refl, rules, set, subst, suc, sym, take, true, zero, ℕ, ⊎_elim, ◌&&◌, ◌*◌, ◌++◌, ◌+◌, ◌-◌, ◌/◌, ◌<◌, ◌==◌, ◌∙◌, ◌∷◌, ◌≡◌, ◌≢◌, ◌≤◌}
pub use Rattle.mt_base.proofs.Std.{IsPartitionPoint-from_clause, IsPartitionedBy-leb, IsPartitionedBy-ltb, cases_Bool, cases_lt, drop_all, drop_more, eq-eqb, eqb-false, eqb-true, flat_map, iff_false, le-leb, le-ltb, leb-false, leb-true, length-set, lt-ltb, ltb-false, ltb-true, ne_eqb, position, position_or_len, prefix_len, prefix_len-le-length, prefix_len_is, prefix_len_passes, refill, take_all}
pub use Rattle.std.proofs.lemmas.Grind.{flat_map-append, fold-append}
pub use Rattle.std.specs.List.Sorted.{IsNonDecreasingBy, IsPartitionPoint}
pub use Rattle.mt_base.specs.Map.{cut_above, cut_below, over, parts_above, parts_below}
pub use Rattle.mt_base.specs.declared.ranges.Range.{Range}
pub use Rattle.mt_layout.proofs.Gapless.{no_gap_first, no_gaps-append, no_gaps-cons, no_gaps-drop, no_gaps-take, no_gaps_behind, same_items}
pub use Rattle.mt_layout.proofs.SpanLists.{after, after-append, after_some, fills-append, fills_le, rise_fills, rise_from_zero, spans-append, spans_from-append}
pub use Rattle.mt_layout.specs.Names.{Apart, BeginsFull, EndsFull, Fills, NoGaps, RiseFrom, end_of, leaf_range, spans_from}
pub use Rattle.mt_layout.specs.declared.items.Item.{Item}
pub use Rattle.mt_layout.specs.declared.spans.Span.{Span}
pub use Rattle.mt_leaf.specs.Cuts.{ArePieces, IsCut, IsEnd, IsLaterEnd, IsMovedEnd, IsPiece, MeetAt, first_place, half_place, last_place, word_of}
pub use Rattle.mt_leaf.specs.Edits.{edited, ends_with_hole, exact_slot_of, holes_joined, join, span_above, span_below, span_stored, spans_above, spans_below, starting, stored}
pub use Rattle.mt_leaf.specs.Places.{cut_item, first_of, items_below, slot_above, slot_reaching, with_joined}
pub use Rattle.mt_leaf.specs.declared.cuts.Towards.{Towards}
