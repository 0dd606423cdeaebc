-- What the proofs beside this file take from the toolchain, from the crates below and from this crate's definitions, under one name. Declares nothing.
pub use Rattle.std.proofs.Common.{Bool, Err, IfErr, IfOk, IfSome, List, None, Ok, Option, Result, Some, [], ap, arith, false, if◌then◌else◌, inl, inr, length, length-append, max, min, nat_le, nat_lt, not, refl, subst, sym, true, unwrap_or, ℕ, ◌&&◌, ◌*◌, ◌++◌, ◌+◌, ◌-◌, ◌/◌, ◌<◌, ◌==◌, ◌||◌, ◌∙◌, ◌∷◌, ◌≡◌, ◌≢◌, ◌≤◌}
pub use Rattle.std.proofs.lemmas.Bool.{cases_lt, cond_both, le-leb, le-ltb, leb-true, lt-ltb, or_parts}
pub use Rattle.mt_base.proofs.Lemmas.{few_unheld, holes, low_is_room}
pub use Rattle.mt_base.specs.Names.{Changes, Hole, IsMap, IsShort, acted, clip, fits, is_bad_area, is_held, kept, lowest_in, map_by_reply, most_rows, overlaps, part_stored, parts_above, parts_below, placed}
pub use Rattle.mt_ids.specs.Allocation.{Allocation, IsAfter, IsNextCall, IsSince, Made, limits_at, recorded}
pub use Rattle.mt_ids.specs.Draws.{AreMade, IsDrawShort, IsDrawn, calls_of, drawn, first_found, from_position, is_bad_draw, is_past, is_twofold, last_start}
pub use Rattle.mt_ids.specs.Prelude.{Alloc, IsRefused, Kind, Limits, Range, Reply, Shortage, finds_room, greatest_of, low, map_after, over, reserved}
pub use Rattle.mt_ids.specs.Runs.{IsBeforeLast, IsLastAnswer, LiesIn, after_answer, after_reply, came_by, came_to}
pub use Rattle.mt_ids.specs.Window.{Draws}
pub use Rattle.mt_ids.specs.declared.ids.Drawn.{Drawn}
