-- What the proofs beside this file take from the toolchain, from the crates below and from this crate's definitions, under one name. Declares nothing.
pub use Rattle.std.proofs.Common.{List, Ok, [], ap, refl, subst, sym, ℕ, ◌*◌, ◌+◌, ◌∙◌, ◌∷◌, ◌≡◌}
pub use Rattle.mt_rows.proofs.Lemmas.{lawful_tree, same_tree}
pub use Rattle.mt_rows.specs.Names.{IsLawfulOf, IsPlace, Kind, OnlyReads, Rooted, Sheet, Width, new_sheet, sheet_in, tree_as, with_published}
pub use Rattle.mt_rows.specs.declared.rows.Place.TheVariants.{Root}
pub use Rattle.mt_free.proofs.Books.{new_is_book}
pub use Rattle.mt_free.specs.Book.{Book}
pub use Rattle.mt_check.specs.Check.{checked, faults_in, first_or, form_of}
pub use Rattle.mt_check.specs.declared.faults.Fault.{Fault}
pub use Rattle.mt_check.specs.declared.faults.Form.{Form}
pub use Rattle.mt_engine.proofs.FreshEngine.{fresh_is_idle}
pub use Rattle.mt_engine.specs.Engine.{IsIdle}
pub use Rattle.mt_engine.specs.RangeWalks.{WalksFrom}
