use Rattle.mt_splice.proofs.Prelude.{List, ◌++◌, ap, ◌∙◌, Item}
use Rattle.mt_splice.proofs.SpliceBegins.{asked_so}
use Rattle.mt_splice.proofs.SplicedWithin.{spliced_by}
use Rattle.mt_splice.proofs.splices.splice.Goals as goal

pub splice_climb-requires-clause-may : goal.splice_climb-requires-clause-may
splice_climb-requires-clause-may g c =
    let items = c.push_all.ensures ∙ (ap (λ (l : List Item). l ++ c.as_slice.result.now) c.new_climb-climb.ensures.run ∙ c.as_slice.ensures.value) in
    asked_so c.copy_into.ensures c.copy_into-2.ensures items c.requires

pub returns : goal.returns
returns g c = spliced_by c.copy_into.ensures c.copy_into-2.ensures c.splice_climb.ensures.spliced
