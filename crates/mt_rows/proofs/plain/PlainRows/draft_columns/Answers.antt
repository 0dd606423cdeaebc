use Rattle.mt_rows.proofs.Prelude.{ℕ, ◌∙◌, subst, refl, sheet_of, past_of, Draft, sheet_in, ArePut}
use Rattle.mt_rows.proofs.PlainFates.{lives-set, drafted_buried}
use Rattle.mt_rows.proofs.plain.PlainRows.draft_columns.Goals as goal

pub returns : goal.returns
returns c =
    let p = c.args.self.now.state in
    let w = c.put.new.self in
    let buried = drafted_buried p (sheet_in c.args.self.now) c.args.row refl c.requires.free in
    record {
      rest =
          (λ i. sheet_of (record p { words = w; fates = c.turn.ensures i }))
          ∙ (λ i. record (sheet_of p) {
            tree = record { rows = p.rows; table = record { width = p.width; words = w.items }; root = p.root };
            lives = lives-set (past_of p) p.fates.items c.args.row Draft i;
            buried = buried i;
          });
      put = subst (λ (at : ℕ). ArePut at c.args.words.now p.words.items w.items) c.place_of-at.ensures c.put.ensures;
    }
