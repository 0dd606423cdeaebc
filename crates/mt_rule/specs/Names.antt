-- What the crates above take from this crate's definitions, under one name. Declares nothing.
pub use Rattle.mt_rule.specs.Ends.{EndsQuietly, MayEnd}
pub use Rattle.mt_rule.specs.Places.{AreOpening, IsRowAt, column_at, first_row_column, root_at, section_word, table_size}
pub use Rattle.mt_rule.specs.Rule.{IsOneHistory}
pub use Rattle.mt_rule.specs.Scans.{IsScanOf, last_loaded, last_words, least_from, lesser, loaded_word, none_open, scan_of, words_from}
pub use Rattle.mt_rule.specs.Seats.{known_by, least_number, moment, moment_at, new_pen, no_pen, no_shape, opening_life, pen_joined, pen_sheet, record_of, records_of, rooted_in, tree_of}
pub use Rattle.mt_rule.specs.Sections.{Comes, HasBecome, IsAt, IsLeafRead, LoadedBegun, LoadedChild, LoadedCommits, LoadedEntry, LoadedParent, LoadedPivot, LoadedRootRow, LoadedSlot, ParentTells, Reads, closed_section, floor_or, held_behind, here, kind_of, marks_with, moment_seen, opened_section, slots_in, spans_here, touched, with_seen}
pub use Rattle.mt_rule.specs.Steps.{pass_ended, pass_recorded, pen_drafted, pen_ended, pen_scanned, pen_tended, quiet_moment, raised, with_loaded}
pub use Rattle.mt_rule.specs.Tokens.{Identity, IsAlone, IsCounted, IsPassOf, KeepsPassOf, Stepped, WasShown, identity_of, identity_of_pen, joined_in, joined_part, part_of, pass_in, pen_in, shape_opened, steps_made, tree_in, turn_seat}
pub use Rattle.mt_rule.specs.Turns.{IsBusyAt, IsSeatedAt, IsTakenOf, seated, tried, tries_in}
