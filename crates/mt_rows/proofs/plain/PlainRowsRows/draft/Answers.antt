use Rattle.mt_rows.proofs.Prelude.{slice_set, ◌∙◌, refl, sheet_of, past_of, Draft, sheet_in}
use Rattle.mt_rows.proofs.PlainFates.{lives-set, drafted_buried}
use Rattle.mt_rows.proofs.plain.PlainRowsRows.draft.Goals as goal

pub returns : goal.returns
returns c =
    let p = c.args.self.now.state in
    let buried = drafted_buried p (sheet_in c.args.self.now) c.args.row refl c.requires.free in
    let words = c.set.ensures ∙ (λ i. slice_set p.words.items (c.place_of-at.ensures i) c.args.word) in
    (λ i. sheet_of (record p { words = c.set.new.self; fates = c.turn.ensures i }))
    ∙ (λ i. record (sheet_of p) {
      tree = record { rows = p.rows; table = record { width = p.width; words = words i }; root = p.root };
      lives = lives-set (past_of p) p.fates.items c.args.row Draft i;
      buried = buried i;
    })
