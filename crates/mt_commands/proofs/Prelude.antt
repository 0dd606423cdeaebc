-- What the proofs beside this file take from the toolchain, from the crates below and from this crate's definitions, under one name. Declares nothing.
pub use Rattle.std.proofs.Common.{All, Bool, Err, IfErr, IfOk, IsSome, List, None, Ok, Option, Result, Some, [], ap, arith, false, filter, fold, if◌then◌else◌, inl, inr, length, length-append, map, max, min, nat_le, nat_lt, not, refl, rules, subst, suc, sym, true, unwrap_or, zero, ℕ, ◌*◌, ◌++◌, ◌+◌, ◌-◌, ◌<◌, ◌==◌, ◌^◌, ◌||◌, ◌↔◌, ◌∙◌, ◌∷◌, ◌≡◌, ◌≢◌, ◌≤◌, ◌⊎◌}
pub use Rattle.std.proofs.Math.Dec.{eqb-suc-zero}
pub use Rattle.mt_base.proofs.Std.{AllByRecursion, append-nil, cond_both, eq-eqb, fold-append, le-leb, le-ltb, length-map, length-range_with_len, range_with_len}
pub use Rattle.mt_base.proofs.Lemmas.{acted_is_map, grew_read, holes, over_is_map, saw_grows, was_acted}
pub use Rattle.mt_log.specs.Names.{Asked, History, Hole, IsAnswered, IsRefused, Read, Record, Saw, Wrote, erased, fewest_rows, find_at, finds_room, greatest_of, holding, holds, last_map, limits_after, low, lowest_in, map_after, map_by_reply, most_calls, most_passes, most_steps, new_pass, place_behind, places_from, reserved, with_records}
pub use Rattle.mt_rows.specs.Names.{Call, Done, Find, Load, Next, NoNodes, Prev, Query, Reply, Rfind, Sheet, Shortage, sheet_in}
pub use Rattle.mt_image.proofs.FewReached.{few_reached}
pub use Rattle.mt_bulk.specs.Builds.{IsBuilt}
pub use Rattle.mt_ids.proofs.FewRanges.{found_is_free, none_lacked, none_short, one_range_more}
pub use Rattle.mt_ids.proofs.OneCall.{lies_in}
pub use Rattle.mt_ids.specs.Draws.{AreMade, IsDrawn, LacksCalls, calls_of, first_found, from_position, is_bad_draw, is_twofold}
pub use Rattle.mt_tree.proofs.Allocations.{has_called, map_next, none_held, seen_next, was_legal}
pub use Rattle.mt_tree.proofs.Lending.{still_of}
pub use Rattle.mt_tree.specs.Allocations.{allocation_of, is_alone}
pub use Rattle.mt_tree.specs.Asks.{HasStepped, most_made, epochs_opened}
pub use Rattle.mt_tree.specs.Calls.{HasCalled}
pub use Rattle.mt_tree.specs.Shapes.{first_bad}
pub use Rattle.mt_tree.specs.Trees.{IsNew, IsPassOf, IsWorn, NamesPass, Pass}
pub use Rattle.mt_tree.specs.declared.shapes.Shape.{Shape}
pub use Rattle.mt_log.specs.declared.lines.Item.TheVariants.{Scan}
pub use Rattle.mt_desks.specs.Scans.{IsScanDone}
pub use Rattle.mt_desks.specs.Walks.{HasWalkedOn, opened_at}
pub use Rattle.mt_replay.specs.Trees.{IsNewTree, player_passes}
pub use Rattle.mt_commands.specs.Only.{HasOnePass, IsFew, IsOnlyPass, found_in, turns_at}
pub use Rattle.mt_commands.specs.Prelude.{Busy, Drawn, Draws, Erase, Found, Invalid, IsImageOf, IsMap, Kind, Number, Range, Rooted, Tree, Walk, Worn, acted, drawn, limit_of, map_by, map_seen, most_rows, new_draws, opened, over, pass_in, passes_of, places, position_behind, steps_made}
pub use Rattle.mt_commands.specs.Texts.{IsBulkImage, bulk_tree}
pub use Rattle.mt_commands.specs.Turns.{Tally, Turns, draws_behind, map_behind, map_without, new_turns, no_tally, number_due, or_this, tallied, turn, turns}
