use Rattle.mt_tree.proofs.Prelude.{◌≡◌, ℕ, ◌≤◌, ◌<◌, None, [], length, sym, ap, ◌∙◌, subst, AllByRecursion, IsSound, IsIdle, sheet_told, unscanned, OpensSmall, Sheet, IsScanOf, records_of, Identity, pen_in, pass_in, tree_in, IsSeatOf, records_told}
use Rattle.mt_rule.specs.Tokens.{IsPassOf}
use Rattle.mt_tree.proofs.Ending.{kept_again, knows_again, parts_again}
use Rattle.mt_tree.proofs.works.end.Goals as goal

pub returns-clause-back : goal.returns-clause-back
returns-clause-back g c =
    let i = g.W.Writer.table in
    let e = c.args.engine in
    let book = c.parts-rows.result.1 in
    let after = c.end-pen.ensures in
    let p = pen_in c.end-pen.result.0 in
    let q = pass_in c.end-pen.result.1 in
    let same : sheet_told i p q ≡ unscanned e.sheet = after.sheet ∙ ap unscanned c.parts-rows.ensures.rows in
    let idle : IsIdle e.kind e.sheet book = subst (λ (s : Sheet). IsIdle e.kind s book) c.parts-rows.ensures.rows c.parts-rows.ensures.idle in
    let opens : OpensSmall i.shape = subst (λ (x : Identity). OpensSmall x.shape) (sym c.requires.table) c.args.tree.now.opens in
    let few : length (records_told e.sheet.told) ≤ i.shape.calls = subst (λ (x : Identity). length (records_told e.sheet.told) ≤ x.shape.calls) (sym c.requires.table) c.requires.few in
    let seat = subst (IsSeatOf c.args.tree.now) (sym after.turn) c.requires.turn in
    record {
      rest = (after.alone, kept_again i p q e.sheet e.kind book same idle after.whole.0 after.whole.1 (ap (λ (x : Identity). x.shape) after.pen) opens after.dealt c.height-height.result c.height-height.ensures few);
      of = after.pen ∙ c.requires.table;
      parts = parts_again i p q e.sheet e.kind book same idle ∙ (λ k. record { sheet = record (unscanned e.sheet) { told = None }; book = c.parts-rows.ensures.book k; kind = e.kind });
      pass = record {
        of = subst (λ (x : Identity). IsPassOf x c.end-pen.result.1) c.requires.table after.pass;
        seated = record { table = seat.table; views = seat.views };
      };
      sound = subst (λ (x : Identity). IsSound (tree_in x) q) c.requires.table after.sound;
      callers = subst (λ (n : ℕ). AllByRecursion (λ r. r.pass < n) (records_of p.history)) (after.dealt ∙ ap (λ (x : Identity). x.shape.passes) c.requires.table) after.whole.1.history.callers;
      knows = λ told is. knows_again i p q e.sheet e.kind book same idle after.seen told is;
      scanned = subst (λ (x : Sheet × Identity). 1 ≤ x.0.scans → IsScanOf p.sections x.1.shape.passes x.0.scan) (λ k. (c.parts-rows.ensures.rows k, c.requires.table k)) after.scanned;
      unscanned = subst (λ (s : Sheet). s.scans ≡ 0 → p.sections ≡ []) c.parts-rows.ensures.rows after.unscanned;
    }
