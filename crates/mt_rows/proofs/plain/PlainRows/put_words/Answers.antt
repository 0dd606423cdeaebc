use Rattle.mt_rows.proofs.Prelude.{◌≡◌, ◌*◌, ◌/◌, ◌++◌, length, take, ◌∙◌, ap, arith, columns, first_row, Fated}
use Rattle.mt_rows.proofs.PlainMade.{made_plain, made_is}
use Rattle.mt_rows.proofs.plain.PlainRows.put_words.Goals as goal

pub invariant_of-self : goal.invariant_of-self
invariant_of-self c =
    let p = c.args.self.now.state in
    let w = c.set_last.new.self in
    let put : w.items ≡ take (columns c.args.width * first_row) p.words.items ++ c.args.words.now = c.set_last.ensures ∙ (λ i. take (c.cols.ensures i * first_row) p.words.items ++ c.args.words.now) in
    record {
      plain = made_plain p w c.open.new.self c.args.width (length c.args.words.now / columns c.args.width) c.args.root c.args.words.now c.args.self.now.plain c.requires.new (let whole = c.requires.whole in omega arith) put
          (ap (λ (f : Fated). f.items) c.open.ensures) (ap (λ (f : Fated). f.opened) c.open.ensures);
    }

pub returns : goal.returns
returns c =
    let p = c.args.self.now.state in
    let w = c.set_last.new.self in
    let put : w.items ≡ take (columns c.args.width * first_row) p.words.items ++ c.args.words.now = c.set_last.ensures ∙ (λ i. take (c.cols.ensures i * first_row) p.words.items ++ c.args.words.now) in
    made_is p w c.open.new.self c.args.width (length c.args.words.now / columns c.args.width) c.args.root c.args.words.now c.args.self.now.plain c.requires.new (let whole = c.requires.whole in omega arith) put
    (ap (λ (f : Fated). f.items) c.open.ensures) (ap (λ (f : Fated). f.opened) c.open.ensures)
