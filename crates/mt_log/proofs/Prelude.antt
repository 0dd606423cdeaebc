-- What the proofs beside this file take from the toolchain, from the crates below and from this crate's definitions, under one name. Declares nothing.
pub use Rattle.indexmap.proofs.MapLemmas.{Missing-position, insert_entry-absent}
pub use Rattle.indexmap.specs.IndexMap.{insert_entry}
pub use Rattle.memchr.specs.Find.{IsFirstByte}
pub use Rattle.std.proofs.Common.{Bool, Err, IsAscii, IsUtf8, List, None, Ok, Option, Result, Some, SomeIff, [], add-zero, ap, append_assoc, arith, bytes_eq, codes, cond, decimal, drop, false, get_or, inl, inr, is_some, length, length-append, length-drop, lit<, map, nat_eq, nat_le, nat_lt, not, ok_or, option_and_then, option_map, option_to_list, position, refl, replicate, rules, slice_get, slice_set, subst, suc, sym, take, true, zero, ℕ, ◌&&◌, ◌*◌, ◌++◌, ◌+◌, ◌-◌, ◌<◌, ◌==◌, ◌^◌, ◌∙◌, ◌∷◌, ◌≡◌, ◌≢◌, ◌≤◌, ◌⊎◌}
pub use Rattle.mt_base.proofs.Std.{and_parts, append-nil, bytes_eq-Decides, cases_lt, common_steps, drop-replicate, eq-eqb, eqb-true, fails_before_first, flat_map, join_with_byte, le-leb, le-ltb, leb-true, length-map, length-take, length_push, list_all, lt-ltb, ltb-true, map-append, nat_tests, nil_from_length, onto_first, position-Some, position_or_len, position_or_len_push, pow-le-pow_right, prefix_len-le-length, slice_get-map, slice_get_cases, slice_get_within, slice_split, take_all, take_at, take_rest}
pub use Rattle.std.proofs.lemmas.Fmt.{decimal_digit, decimal_is_IsNumeral, length-decimal-le}
pub use Rattle.std.proofs.lemmas.Int.Digits.{digits_more, digits_value-lt, digits_value_more}
pub use Rattle.std.proofs.lemmas.List.Splits.{slice_split_first, slice_split_none}
pub use Rattle.std.proofs.lemmas.Str.{IsUtf8-from_ascii}
pub use Rattle.std.proofs.lemmas.Str.Ascii.{IsAscii-cons, IsAscii-nil}
pub use Rattle.std.proofs.lemmas.Str.Parse.{digit_from_value, digits_value-take-le}
pub use Rattle.std.specs.Char.{digit_value, is_ascii_digit, is_ascii_hexdigit}
pub use Rattle.std.specs.Map.{keys_of}
pub use Rattle.std.specs.Str.Parse.{AllDigits, digits_value}
pub use Rattle.mt_base.proofs.WidthBounds.{greatest_fits}
pub use Rattle.mt_base.specs.Names.{kind_width, most_lanes}
pub use Rattle.mt_log.specs.Fault.{Fault, fault_at, on_line, ◌>>=◌}
pub use Rattle.mt_log.specs.Indexed.{known}
pub use Rattle.mt_log.specs.LogText.{IsLog, call_fields, item_fields, line_text, lines_text, log_text, names_after, query_fields, tree_name}
pub use Rattle.mt_log.specs.Name.{IsPadded, is_name, is_name_byte, padded}
pub use Rattle.mt_log.specs.Phases.{AreInPlaceFrom, IsInPlace, phase_after, stepped_after, stepped_from}
pub use Rattle.mt_log.specs.Prelude.{Alloc, Call, Clear, Erase, Find, Gap, Insert, Kind, Load, Next, Prev, Query, Ralloc, Rfind, Rgap, Store, StorePre, greatest_of, kind_text}
pub use Rattle.mt_log.specs.Reader.{HasTreeRoom, IsSoundReading, MayFollow, least_behind}
pub use Rattle.mt_log.specs.Reading.{ReadSoFar, after_item, after_line, after_pieces, after_skipped, as_count, as_lane, declared_place, fields_of, headed, is_skipped, log_of, log_of_pieces, most_scan_steps, nothing_read, tree_at, version_in}
unfoldable pub use Rattle.mt_log.specs.Reading.{area_entry_item, area_item, area_of, before_steps, bound_item, check_item, count_read, decimal_read, dup_item, entry_number_read, hexadecimal_read, index_item, index_read, item_by, item_of, join_item, keyword_read, kind_read, lane_item, lane_number_read, new_name_read, number_read, range_item, room_for_scan, room_for_tree, scan_item, size_read, tree_item, tree_read, whole_item}
pub use Rattle.mt_log.specs.Text.{entry_text, listing_text, range_line}
pub use Rattle.mt_log.specs.Trees.{AreNamedFrom, Declared, IsReadable, NamesBelow, NumbersRiseFrom, Opening, count_after, declared_by, known_after, most_trees, opening_by, renamed, tree_declared_by, trees_from, trees_of}
pub use Rattle.mt_log.specs.declared.areas.Area.{Area}
pub use Rattle.mt_log.specs.declared.faults.Why.{Why}
pub use Rattle.mt_log.specs.declared.faults.Why.TheVariants.{NoNewline}
pub use Rattle.mt_log.specs.declared.keywords.Keyword.{Keyword}
pub use Rattle.mt_log.specs.declared.lines.Item.{Item}
pub use Rattle.mt_log.specs.declared.lines.Item.TheVariants.{Ask, Check, Dup, Join, Lane, Scan, Tree, Write}
pub use Rattle.mt_log.specs.declared.lines.Line.{Line}
pub use Rattle.mt_log.specs.declared.lines.Log.{Log}
pub use Rattle.mt_log.specs.declared.trees.KnownTree.{KnownTree}
pub use Rattle.mt_log.specs.declared.trees.NumberedTree.{NumberedTree}
