-- What the proofs beside this file take from the toolchain, from the crates below and from this crate's definitions, under one name. Declares nothing.
pub use Rattle.std.proofs.Common.{All, AllPairs, Bool, Global, IfNone, IfSome, List, None, Option, Some, [], ap, arith, false, get_or, get_or-take, if◌then◌else◌, inl, inr, length, length-append, length-take, map, min, nat_lt, option_to_list, refl, slice_get, string_bytes, subst, suc, sym, take, take-take, take_all, true, zero, ℕ, ◌++◌, ◌+◌, ◌-◌, ◌/◌, ◌<◌, ◌^◌, ◌∙◌, ◌∷◌, ◌≡◌, ◌≤◌}
pub use Rattle.mt_base.proofs.Std.{All-nil, cases_lt, iff_false, ltb-false, slice_get-get_or, true≢false}
pub use Rattle.mt_log.specs.Names.{AreInPlaceFrom, AreNamedFrom, Declared, IsReadable, NumbersRiseFrom, Step, count_after, declared_by, most_trees, phase_after, stepped_after, trees_from, trees_of}
pub use Rattle.mt_log.specs.declared.lines.Line.{Line}
pub use Rattle.mt_told.proofs.LineByLine.{lines_begin, told_by}
pub use Rattle.mt_told.specs.Telling.{FitsLine, spelling_of}
pub use Rattle.mt_judge.specs.Faults.{KeepsOrder, earlier, is_of_order, order_cause}
pub use Rattle.mt_judge.specs.Judged.{IsFound, IsJudged, KeepsOrderIn, StopsAt, TellsStop, log_of_first, tally_of}
pub use Rattle.mt_judge.specs.Orders.{IsFirstOut, IsInOrder}
pub use Rattle.mt_judge.specs.Prelude.{InPrintedOrder, IsToldBy, Log, TellsNone, ToldLine}
pub use Rattle.mt_judge.specs.Words.{AskRows}
pub use Rattle.mt_judge.specs.declared.causes.FoundFault.{FoundFault}
pub use Rattle.mt_judge.specs.declared.judging.Judgment.{Judgment}
