-- What the proofs beside this file take from the toolchain, from the crates below and from this crate's definitions, under one name. Declares nothing.
pub use Rattle.std.proofs.Common.{All, Bool, Err, IfErr, IfOk, List, MatchOption, None, Ok, Option, Result, Some, [], ap, arith, eq-eqb, fold, if◌then◌else◌, inl, inr, is_some, length, length-append, map, refl, rules, subst, sym, take, true, vec_len, ℕ, ◌*◌, ◌++◌, ◌+◌, ◌-◌, ◌==◌, ◌∙◌, ◌∷◌, ◌≡◌, ◌≤◌}
pub use Rattle.mt_base.proofs.Std.{All-from_recursion, AllByRecursion, range_with_len, take-append_seam}
pub use Rattle.mt_base.specs.Names.{AreLegalFrom, History, IsAnswered, IsLegal, Limits, Pass, Record, Saw, Wrote, acted, erased, holding, limits_after, map_after, map_at, new_pass, placed, places, places_from, with_records}
pub use Rattle.mt_base.specs.declared.calls.Call.{Call}
pub use Rattle.mt_base.specs.declared.calls.Call.TheVariants.{Erase}
pub use Rattle.mt_base.specs.declared.kinds.Kind.{Kind}
pub use Rattle.mt_base.specs.declared.ranges.Range.{Range}
pub use Rattle.mt_base.specs.declared.replies.Reply.{Reply}
pub use Rattle.mt_tree.proofs.Allocations.{last_is_answered}
pub use Rattle.mt_tree.proofs.Lending.{still_of}
pub use Rattle.mt_tree.specs.Trees.{IsWorn, limit_of, opened, pass_in}
pub use Rattle.mt_base.specs.declared.outcomes.Done.{Done}
pub use Rattle.mt_base.specs.declared.outcomes.Worn.{Worn}
pub use Rattle.mt_tree.specs.declared.trees.Tree.{Tree}
pub use Rattle.mt_numbers.specs.Calls.{AskedForNumber, GaveBack, KnowsItsOwn, TellsLowest, TellsTaken, asking, count_of, gave_one, given_back_by, lowest_free, number_taken, removed, started, taken_by, took_one, was_there}
pub use Rattle.mt_numbers.specs.Tallies.{IsTallied}
pub use Rattle.mt_numbers.specs.declared.shared.TheConstants.{TAKEN}
pub use Rattle.mt_numbers.specs.declared.takers.TheConstants.{HELD}
