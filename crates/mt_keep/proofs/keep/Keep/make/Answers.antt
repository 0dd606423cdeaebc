use Rattle.mt_keep.proofs.Prelude.{ap, sym, ◌∙◌, ◌∷◌, ◌++◌, [], Some, subst}
use Rattle.mt_keep.proofs.Taking.{keep_starts_with}
use Rattle.mt_keep.proofs.keep.Keep.make.Goals as goal

pub new-requires : goal.new-requires
new-requires g c =
    let fits = subst (λ v. g.C.Placed.fits c.of.result.value v) (sym c.of-2.ensures) (subst (λ p. g.C.Placed.fits p c.args.value) (sym c.of.ensures) c.requires) in
    keep_starts_with g.C.Placed.fits _ c.push_reserved.new.self.items fits (c.push_reserved.ensures.items ∙ (ap (λ l. l ++ Some c.args.value ∷ []) c.in_ok-slots.ensures.items ∙ ap (λ v. Some v ∷ []) (sym c.of-2.ensures)))
