-- What the proofs beside this file take from the toolchain, from the crates below and from this crate's definitions, under one name. Declares nothing.
pub use Rattle.std.proofs.Common.{All, Global, List, None, Vec, [], ap, arith, length, map, refl, slice_index_or, subst, suc, sym, vec_capacity, vec_len, zero, ℕ, ◌++◌, ◌<◌, ◌∙◌, ◌∷◌, ◌≡◌}
pub use Rattle.mt_base.proofs.Std.{All-from_recursion, AllByRecursion}
pub use Rattle.mt_base.specs.Passes.{new_pass}
pub use Rattle.mt_tree.specs.Trees.{IsPassOf, Pass, pass_in}
pub use Rattle.mt_lanes.specs.declared.lanes.Lane.{Lane}
pub use Rattle.mt_desks.specs.Phases.{AtEach, CanPass, IsLaid}
pub use Rattle.mt_desks.specs.declared.desks.LaneDesk.{LaneDesk}
pub use Rattle.mt_commands.specs.declared.trees.LaneTree.{LaneTree}
