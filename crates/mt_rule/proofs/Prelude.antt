-- What the proofs beside this file take from the toolchain, from the crates below and from this crate's definitions, under one name. Declares nothing.
pub use Rattle.atomic_table.proofs.Lists.{at_longer, at_set, set_else}
pub use Rattle.atomic_table.specs.Table.{Act, Allows, Joins, Me, Splits, State, Valid, carried_after, gives, keeps, opening, rest, step, stepped, takes}
pub use Rattle.atomic_table.specs.declared.badge.Badge.{Badge}
pub use Rattle.std.proofs.Common.{All, Bool, IfOk, IfSome, List, None, Option, Some, [], ap, append-nil, arith, drop, false, fold, get_or, get_or-set_other, get_or-set_same, if◌then◌else◌, inl, inr, length, length-append, length-set, map, max, nat_le, nat_lt, refl, replicate, rules, set, slice_index, slice_set, subst, suc, sym, take, true, true≢false, vec_capacity, zero, ℕ, ⊎_elim, ◌*◌, ◌++◌, ◌+◌, ◌-◌, ◌/◌, ◌<◌, ◌==◌, ◌^◌, ◌∙◌, ◌∷◌, ◌≡◌, ◌≢◌, ◌≤◌, ◌⊎◌}
pub use Rattle.mt_base.proofs.Std.{All-push, All-set, AllByRecursion, Contains, Contains-append_left, Contains-push, IfSome_then, cases_Bool, cases_eq, eq-eqb, eqb-true, flat_map, fold-append, get_or-append_seam, get_or-map-range_with_len, get_or_append_left, length-map, length-map-range_with_len, length-replicate, map-append, map-range_with_len_more, ne_eqb, none-some, range_with_len, slice_get, take-append-le, take_all}
pub use lib.ListN.{get_elem?}
pub use lib.Seq.{set-get_or}
pub use mathlib.Core.Option.{none, some, some-injective, some-ne-none}
pub use native.Mathlib.Decide.{dec_le}
pub use Rattle.mt_base.proofs.Lemmas.{IsActed, all_join, all_map, begins_long, begins_none, begins_on, was_acted}
pub use Rattle.mt_layout.proofs.Lemmas.{few_items, gap_above, length-spans_from, place_within, slots_of-columns, word_behind, words_before, words_in_all}
pub use Rattle.mt_rows.proofs.Lemmas.{by_inner, by_leaf, lawful_tree, one_of_get}
pub use Rattle.mt_rows.specs.Names.{AreLegalFrom, Gap, IsAnswered, IsFree, IsGapOf, IsPlaceToPublish, IsTree, Item, MayBury, MayFinish, MayPublish, MayTend, Range, Table, finds_room, gaps_of, is_buried, item_at, items_at, items_from, last_map, life_after, longer, map_after, map_by_reply, map_in, most_calls, most_passes, new_pass, pivot_column, places_from, root_span, rows_of, rows_whole, spans_from, spans_in, tally, tree_as, with_published}
pub use Rattle.mt_rows.specs.declared.plain.PlainRows.{PlainRows}
pub use Rattle.mt_rows.specs.declared.rows.Life.TheVariants.{Dead}
pub use Rattle.mt_life.proofs.Alike.{SameSlots, same_spans_at, spans_named, two_slots}
pub use Rattle.mt_life.proofs.Carrying.{carried}
pub use Rattle.mt_life.proofs.Ends.{begin_turns, finish_turns, raise_turns}
pub use Rattle.mt_life.proofs.Fitting.{children_known, few_slots_below}
pub use Rattle.mt_life.proofs.Following.{follow}
pub use Rattle.mt_life.proofs.Forming.{goes}
pub use Rattle.mt_life.proofs.Holding.{child_held, holds_on, leaf_held, marked_held, renewed_held, root_held, unmarked_held}
pub use Rattle.mt_life.proofs.Standing.{bury_stands, draft_stands, tend_stands}
pub use Rattle.mt_life.proofs.Starting.{starts}
pub use Rattle.mt_life.proofs.Turning.{live_reached_after}
pub use Rattle.mt_life.proofs.Writing.{bury_leaves, col_others, draft_leaves, gap_row, row_others, tend_leaves}
pub use Rattle.mt_life.specs.Holding.{as_known_now, come}
pub use Rattle.mt_life.specs.Known.{Child, Goes, HasExtentsOf, IsFull, IsLive, Later, calls, extent_at, nowhere}
pub use Rattle.mt_life.specs.Moments.{moment_of}
pub use Rattle.mt_rule.specs.Ends.{EndsQuietly, IsPenShort, MayEnd}
pub use Rattle.mt_rule.specs.Places.{AreOpening, IsRowAt, IsSectionWord, IsUnnamed, IsWordPlace, begun_at, column_at, commits_at, first_row_column, root_at, section_at, section_word, table_size}
pub use Rattle.mt_rule.specs.Prelude.{Begins, Call, Draft, Extent, HasDied, HasRow, Held, History, Holder, HoldsRow, IsLawfulOf, IsLegal, IsPlace, IsRefused, IsTreeOf, IsWhole, Kind, Known, Life, Live, LiveAreReached, New, NoneBuried, Place, Published, Record, Reply, Root, Rooted, RowKind, SameForm, Sheet, Slot, Snapshot, Span, Width, acted, columns, cuts_by, dead_mark, deepest, first_row, holder_of, inner_kind, is_reached, kind_at, kind_width, life_of, limits_after, map_at, map_by, most_rows, named_kind, one_if, places, reached_in, row_in, sheet_in, slot_column, slots_of, spans_at, word_at}
pub use Rattle.mt_rule.specs.Rule.{HasFloor, IsHeldBy, IsKept, IsOneHistory, IsOpenAt, IsSoundPen, PassFits, ViewFits, WordsFit, begun_by}
pub use Rattle.mt_rule.specs.Seats.{HasNote, HasPass, HasPen, cuts_at, cuts_of, dealing_view, dealt_view, known_by, least_number, longer_history, moment_at, new_part, new_pen, no_view, note_alone, note_of, note_or, opening_life, opening_view, part_in, pass_alone, pass_of, pass_or, pen_joined, pen_of, pen_or, pen_sheet, record_of, records_of, rooted_in, shape_opening, shape_told, state_in, tree_of, with_note, with_pass, without_pass}
pub use Rattle.mt_rule.specs.Sections.{IsAt, IsLeafRead, LoadedBegun, LoadedCommits, LoadedParent, LoadedPivot, LoadedRoot, LoadedSlot, MayLoadWord, ParentTells, closed_section, closes_section, floor_or, held_behind, here, kind_of, marks_with, opened_section, opens_section, slots_in, spans_here, touches}
pub use Rattle.mt_rule.specs.Steps.{all_seen, begins_call, buries, drafts, ends_call, finds_drafted, learns, loads_section, looks, looks_at_root, pass_recorded, pen_begun, pen_buried, pen_drafted, pen_scanned, pen_tended, publishes, quiet_moment, raised, sees_all, taught, tends, with_loaded}
pub use Rattle.mt_rule.specs.Tokens.{Identity, IsAlone, IsPassOf, IsPenOf, MayOpen, WasShown, identity_of, part_of, pass_in, pen_in, shape_opened, tree_in, tree_seat}
pub use Rattle.mt_rule.specs.Turns.{HasGrabbed, IsSeatedAt, IsTurnKept, SeatFits, counting, given_back, grabs, holding_view, refused, releases, seat_beside, seated, served, taken_bit, tries_in, tries_of, waiting}
pub use Rattle.mt_rule.specs.declared.passes.Pass.{Pass}
pub use Rattle.mt_rule.specs.declared.pens.Pen.{Pen}
pub use Rattle.mt_rule.specs.declared.places.RowAt.{RowAt}
pub use Rattle.mt_rule.specs.declared.table.MtTable.{MtTable}
pub use Rattle.mt_rule.specs.declared.views.Moment.{Moment}
pub use Rattle.mt_rule.specs.declared.views.NotePart.{NotePart}
pub use Rattle.mt_rule.specs.declared.views.PassPart.{PassPart}
pub use Rattle.mt_rule.specs.declared.views.PenPart.{PenPart}
pub use Rattle.mt_rule.specs.declared.views.SectionWord.{SectionWord}
pub use Rattle.mt_rule.specs.declared.views.Shape.{Shape}
pub use Rattle.mt_rule.specs.declared.views.TableStart.{TableStart}
pub use Rattle.mt_rule.specs.declared.views.TurnView.{TurnView}
pub use Rattle.mt_rule.specs.declared.views.View.{View}
