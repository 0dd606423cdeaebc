-- What the proofs beside this file take from the toolchain, from the crates below and from this crate's definitions, under one name. Declares nothing.
pub use Rattle.std.proofs.Common.{Bool, Contains, IfSome, List, None, Option, Some, [], ap, append-nil, append_assoc, arith, drop, false, if◌then◌else◌, inl, inr, length, length-append, length-set, map, min, nat_lt, refl, slice_index, slice_set, subst, suc, sym, true, zero, ℕ, ◌&&◌, ◌*◌, ◌++◌, ◌+◌, ◌-◌, ◌/◌, ◌<◌, ◌==◌, ◌^◌, ◌||◌, ◌∙◌, ◌∷◌, ◌≡◌, ◌≢◌, ◌≤◌, ◌⊎◌}
pub use Rattle.mt_base.proofs.Std.{drop-append_seam, eqb-false, eqb-true, eqb_tells, get_or-set_same, map-append, nat_tests}
pub use Rattle.mt_base.proofs.Shortages.{still_short}
pub use Rattle.mt_rows.proofs.ColumnByColumn.{AreDraftedFirst, all_drafted, first_drafted, free_next, next_drafted, place_next}
pub use Rattle.mt_rows.specs.Names.{Call, IsScan, Kind, LeavesMap, MayFinish, Reply, acted, finished, map_by, with_record}
pub use Rattle.mt_rule.specs.Names.{EndsQuietly, KeepsPassOf, MayEnd, identity_of, joined_in, joined_part, known_by, last_loaded, last_words, least_from, lesser, loaded_word, moment, pass_ended, pass_recorded, pen_drafted, pen_ended, pen_in, pen_scanned, pen_tended, quiet_moment, record_of, rooted_in}
pub use Rattle.mt_rule.specs.declared.pens.Pen.{Pen}
pub use Rattle.mt_rule.specs.declared.views.Moment.{Moment}
pub use Rattle.mt_rule.specs.declared.views.SectionWord.{SectionWord}
pub use Rattle.mt_pen.specs.Prelude.{Dead, Draft, Holder, Identity, IsScanOf, Life, PassPart, PenPart, Scan, Sheet, Told, least_number, life_of, none_open, one_if, raised, records_of, scan_of, section_word, with_loaded, words_from}
pub use Rattle.mt_pen.specs.Scans.{AreWordsFrom, HasScanned, IsWordOf, cleared_from, epoch_told, is_among, is_loaded, loaded_from}
pub use Rattle.mt_pen.specs.Sheets.{caller_of, sheet_worked, told_of}
pub use Rattle.mt_pen.specs.Works.{IsWorked, worked_whole}
