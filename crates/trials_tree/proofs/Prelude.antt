-- What the proofs beside this file take from the toolchain, from the crates below and from this crate's definitions, under one name. Declares nothing.
pub use Rattle.std.proofs.Common.{ap, rules, subst, ◌∙◌, ◌≡◌}
pub use Rattle.mt_tree.proofs.Lending.{still_of}
pub use Rattle.mt_tree.specs.Trees.{IsPassOf}
