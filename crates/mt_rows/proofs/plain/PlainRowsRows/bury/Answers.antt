use Rattle.mt_rows.proofs.Prelude.{◌≡◌, slice_set, ◌∙◌, refl, arith, dead_mark, sheet_of, sheet_in}
use Rattle.mt_rows.proofs.PlainFates.{buried_lives, buried_buried}
use Rattle.mt_rows.proofs.plain.PlainRowsRows.bury.Goals as goal

pub returns : goal.returns
returns c =
    let p = c.args.self.now.state in
    let mark : c.parent_word.result ≡ dead_mark c.args.row = omega (arith, c.parent_word.ensures) in
    let lives = buried_lives p (sheet_in c.args.self.now) c.args.row refl c.requires in
    let buried = buried_buried p (sheet_in c.args.self.now) c.args.row refl c.requires in
    let words = c.set.ensures ∙ (λ i. slice_set p.words.items (c.place_of-at.ensures i) (mark i)) in
    (λ i. sheet_of (record p { words = c.set.new.self; fates = c.turn.ensures i }))
    ∙ (λ i. record (sheet_of p) {
      tree = record { rows = p.rows; table = record { width = p.width; words = words i }; root = p.root };
      lives = lives i;
      buried = buried i;
    })
