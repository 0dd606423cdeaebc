use Rattle.mt_image.proofs.Prelude.{◌++◌, codes, refl, ap, ◌∙◌, columns}
use Rattle.mt_image.proofs.Written.{all_written}
use Rattle.mt_image.proofs.writing.image_bytes.Goals as goal

pub returns : goal.returns
returns c =
    all_written c.args.kind c.args.rows c.args.root c.code_of.result _ _ _ c.push_numbers-2.new.bytes.items c.args.words.now _ (c.cols.ensures ∙ ap columns c.width_of.ensures) refl c.code_of.ensures
    (c.in_ok-extend_from_slice.ensures.items ∙ ap (λ xs. xs ++ codes "mtimage1") c.in_ok-bytes.ensures.items) c.in_ok-push_numbers.ensures (c.in_ok-push_numbers-2.ensures)
