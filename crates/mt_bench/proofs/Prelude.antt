-- What the proofs beside this file take from the toolchain, from the crates below and from this crate's definitions, under one name. Declares nothing.
pub use Rattle.std.proofs.Common.{All, ap, arith, rules, subst, sym, ◌∙◌, ◌≡◌}
pub use Rattle.mt_rows.specs.Names.{OnlyReads, Sheet, Width, new_sheet}
pub use Rattle.mt_free.proofs.Books.{new_is_book}
pub use Rattle.mt_free.specs.Book.{Book}
pub use Rattle.mt_engine.proofs.FreshEngine.{fresh_is_idle}
pub use Rattle.mt_engine.specs.Engine.{IsIdle}
pub use Rattle.mt_engine.specs.RangeWalks.{WalksFrom}
pub use Rattle.mt_tree.proofs.Lending.{still_of}
pub use Rattle.mt_tree.specs.Trees.{IsPassOf}
pub use Rattle.mt_tree.specs.declared.trees.Tree.{Tree}
