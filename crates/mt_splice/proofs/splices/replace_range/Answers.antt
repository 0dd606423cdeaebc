use Rattle.mt_splice.proofs.Prelude.{◌∙◌, refl}
use Rattle.mt_splice.proofs.BetweenCalls.{tree_to_replace, ends_are, may_splice, spliced_after_reads}
use Rattle.mt_splice.proofs.SplicedWithin.{range_replaced}
use Rattle.mt_splice.proofs.splices.replace_range.Goals as goal

pub go_on-requires-clause-tree : goal.go_on-requires-clause-tree
go_on-requires-clause-tree g c = tree_to_replace c.requires

pub go_on-requires-clause-path : goal.go_on-requires-clause-path
go_on-requires-clause-path g c = (c.args.edit.now.first, c.requires.store.order, c.copy_into-2.ensures ∙ c.requires.left_path)

pub go_on-requires-clause-index : goal.go_on-requires-clause-index
go_on-requires-clause-index g c = c.requires.store.within

pub fill_leaves-requires-clause-ends : goal.fill_leaves-requires-clause-ends
fill_leaves-requires-clause-ends g c = ends_are c.requires c.go_on.ensures.rest c.copy_into.ensures c.go_on.ensures.path

pub splice_climb-requires-clause-may : goal.splice_climb-requires-clause-may
splice_climb-requires-clause-may g c =
    may_splice c.requires c.go_on.ensures.rest c.fill_leaves.ensures.rest c.copy_into.ensures c.go_on.ensures.path refl refl c.fill_leaves.ensures.run

pub returns-clause-spliced : goal.returns-clause-spliced
returns-clause-spliced g c = range_replaced c.requires c.copy_into.ensures c.go_on.ensures.path (spliced_after_reads c.go_on.ensures.rest c.fill_leaves.ensures.rest c.splice_climb.ensures.spliced)
