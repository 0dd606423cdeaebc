-- What the proofs beside this file take from the toolchain, from the crates below and from this crate's definitions, under one name. Declares nothing.
pub use Rattle.std.proofs.Common.{Bool, List, None, [], add-zero, ap, append_assoc, arith, bytes_eq, codes, cond, false, get_or, inl, inr, length, map, min, nat_le, refl, subst, suc, sum_by, sym, take, true, zero, ℕ, ◌%◌, ◌*◌, ◌++◌, ◌+◌, ◌-◌, ◌/◌, ◌<◌, ◌==◌, ◌^◌, ◌∙◌, ◌∷◌, ◌≡◌, ◌≤◌}
pub use Rattle.mt_base.proofs.Std.{append-nil, cases_lt, count_by-le-length, count_by_more_no, count_by_more_yes, div-lt_iff_lt-mul, le-ltb, length-append, length-map, lt-ltb, map-append, mul-lt-mul_of_pos_right, mul_comm}
pub use Rattle.std.proofs.lemmas.Nat.{mul-lt}
pub use Rattle.mt_log.proofs.Following.{CallSays, CanAllFollow, CanFollow, IsNumber, ItemSays, at_line}
pub use Rattle.mt_log.proofs.Readable.{are_readable, is_log}
pub use Rattle.mt_log.specs.Names.{HasTreeRoom, IsInPlace, IsReadable, NamesBelow, ReadSoFar, after_item, known_after, most_lanes, most_scan_steps, nothing_read, scan_steps_of, tree_declared_by}
pub use Rattle.mt_log.specs.declared.trees.KnownTree.{KnownTree}
pub use Rattle.mt_workload.specs.Counting.{AreBelow, with_one_counted}
pub use Rattle.mt_workload.specs.Draws.{Drawing, next_state}
unfoldable pub use Rattle.mt_workload.specs.Draws.{draw_below}
pub use Rattle.mt_workload.specs.Made.{last_index, numbered}
unfoldable pub use Rattle.mt_workload.specs.Made.{area_step, drawn_entry, drawn_size, index_step, lanes_from, made, step, step_by, steps, steps_of_lane, store_step}
pub use Rattle.mt_workload.specs.Prelude.{Alloc, Ask, Call, Entry, Erase, Find, Item, Lane, Line, Load, Ralloc, Scan, Tree, Write}
pub use Rattle.mt_workload.specs.Summary.{said_word, times_told, told}
