-- What the proofs beside this file take from the toolchain, from the crates below and from this crate's definitions, under one name. Declares nothing.
pub use Rattle.std.proofs.Common.{All, AllPairs, Bool, Bor, IfNone, IfSome, List, None, Option, Some, [], ap, append_assoc, arith, bytes_eq, codes, cond, drop, false, get_or, if◌then◌else◌, inl, inr, length, map, nat_lt, option_to_list, position, refl, replicate, rules, subst, suc, sym, take, take_while, true, true≢false, zero, ℕ, ◌%◌, ◌++◌, ◌+◌, ◌-◌, ◌/◌, ◌<◌, ◌==◌, ◌^◌, ◌∙◌, ◌∷◌, ◌≡◌, ◌≢◌, ◌≤◌, ◌⊎◌}
pub use Rattle.mt_base.proofs.Std.{All-append, All-cons, All-get_or, All-head, All-nil, All-push, All-tail, All-weaker, IfOk-weaker, IfSome_then, and_parts, append-nil, append_cancel_left, bytes_eq-Decides, cases_Bool, cases_lt, drop_all, drop_at, drop_more, eq-eqb, eqb-true, fails_before_first, flat_map, flat_map-append, get_or-append-add, get_or-append_right, get_or-take, get_or_append_left, get_or_at, get_or_default, iff_false, length-append, length-map, length-prefix_len, length-replicate, length-take, lt-ltb, ltb-true, nat_tests, position-Some, position_or_len, prefix_len, slice_get_cases, take-append-drop, take_at, take_rest}
pub use Rattle.std.proofs.lemmas.Fmt.{decimal-digits_value, decimal_digit, decimal_injective, decimal_is_IsNumeral, decimal_nonempty, first_decimal}
pub use Rattle.std.proofs.lemmas.Str.Parse.{IsNumeralModel, numerals_by_value, tells_digits}
pub use Rattle.std.specs.Char.{digit_value, is_ascii_digit}
pub use Rattle.std.specs.Fmt.{decimal, digit_glyph, digits_onto}
unfoldable pub use Rattle.std.specs.Fmt.{digits}
pub use Rattle.std.specs.Str.Parse.{AllDigits, digits_value}
pub use Rattle.mt_log.proofs.Digits.{IsRead, one_more, stopped, tells_decimal}
pub use Rattle.mt_log.proofs.PrintedLines.{are_above, name_is_field, number_is_field}
pub use Rattle.mt_log.specs.Names.{AreNamedFrom, Call, CopyOf, Declared, Find, IsDone, IsReadable, Next, Prev, Rfind, ScanGoesOnFrom, count_after, declared_by, entry_text, find_at, is_answered, lane_after, most_lanes, phase_after, place_after, range_text, renamed, said_text, step_of, trees_from}
pub use Rattle.mt_log.specs.declared.lines.Item.TheVariants.{Ask, Check, Dup, Join, Lane, Tree, Write}
pub use Rattle.mt_told.specs.Along.{IsLaneLineDone, IsPlacedBy}
pub use Rattle.mt_told.specs.Answers.{IsAnswerBefore, IsEntryBefore, IsFoundBefore, answer_line, entry_line, tells_entry}
pub use Rattle.mt_told.specs.Comparing.{head_line}
pub use Rattle.mt_told.specs.Fronts.{HasNoByte, IsInLine, IsLineBefore, IsNumberBefore}
pub use Rattle.mt_told.specs.ListingFronts.{AreRangesBefore, BeginsWithNoHead, BeginsWithNoRange, IsHead, IsHeadBefore, IsKindBefore, IsNameBefore, IsRangeLineBefore, IsWordBefore, head_text}
pub use Rattle.mt_told.specs.Listings.{AreSmall, BeginsListing, IsBadAt, IsInForm, IsListing, ended_lines, first_lines}
pub use Rattle.mt_told.specs.Numbers.{EndsNumber}
pub use Rattle.mt_told.specs.Prelude.{Answer, AreDone, Asked, Called, Counted, Entry, Item, Kind, Line, Listing, Load, Log, Looked, NamesBelow, Outcome, Query, Range, Reply, Said, Scan, Step, asked_from, entry_of, is_name, kind_text, lane_of, listing_text, place_within, range_line, reply_text, shown, shown_range, steps_of, trees_of}
pub use Rattle.mt_told.specs.Scans.{IsScanAt, IsScanFrom, range_told}
pub use Rattle.mt_told.specs.Steps.{AddsTold, AllFit, IsOutcomeOf, IsStepAt, IsToldAt, TellsDone, TellsNotDone, TellsNothingOf, TellsOf, TellsStepAt, outcome_text, step_at_place, steps_text, told_at}
pub use Rattle.mt_told.specs.Telling.{AreSpelled, AreTold, FitsLine, HasForm, IsSmall, IsSmallRange, IsSpelled, IsSpelledOf, IsToldBy, Spelling, TellsNone, TellsSteps, spelled, spelled_line, spelling_of, told_text, what_text}
pub use Rattle.mt_told.specs.declared.heads.ListingHead.{ListingHead}
pub use Rattle.mt_told.specs.declared.scans.Stretch.{Stretch}
pub use Rattle.mt_told.specs.declared.steps.Deed.{Deed}
pub use Rattle.mt_told.specs.declared.steps.Deed.TheVariants.{Look}
pub use Rattle.mt_told.specs.declared.steps.LinePlace.{LinePlace}
pub use Rattle.mt_told.specs.declared.told.ToldLine.{ToldLine}
pub use Rattle.mt_told.specs.declared.told.What.{What}
pub use Rattle.mt_told.specs.declared.told.What.TheVariants.{Copied, Got, Lawful, Wrote}
