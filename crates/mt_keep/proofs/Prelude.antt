-- What the proofs beside this file take from the toolchain, from the crates below and from this crate's definitions, under one name. Declares nothing.
pub use Rattle.atomic_table.proofs.Lists.{at_longer, set_else}
pub use Rattle.atomic_table.specs.Table.{Act, Allows, Me, Splits, State, Valid, carried_after, gives, keeps, opening, rest, step, stepped, takes}
pub use Rattle.std.proofs.Common.{Bool, List, None, Option, Some, [], ap, arith, eqb-true, false, get_or, refl, rules, set, subst, suc, sym, true, true≢false, zero, ℕ, ◌++◌, ◌∙◌, ◌∷◌, ◌≡◌, ◌≢◌}
pub use Rattle.std.proofs.lemmas.Option.{none-some}
pub use Rattle.std.specs.declared.snapshot.Snapshot.{Snapshot}
pub use lib.ListN.{get_elem?}
pub use mathlib.Core.Option.{none, some, some-injective, some-ne-none}
pub use Rattle.mt_rule.proofs.Turning.{same_value}
pub use Rattle.mt_rule.proofs.Viewing.{each_set, each_split}
pub use Rattle.mt_keep.specs.Keeping.{HasGrabbed, HasOneHolder, SeatFits, Visit, cuts_in, cuts_of, given_back, grabs, holding, last_of, one_further, refused, releases, taken_bit, waiting}
pub use Rattle.mt_keep.specs.declared.keep.Sight.{Sight}
pub use Rattle.mt_keep.specs.declared.keep.Start.{Start}
