use Rattle.mt_rows.proofs.Prelude.{◌≡◌, ◌∙◌, ap, ℕ, List, length, refl, Width, sheet_of, reached_in, sheet_in, Fated, enlivened}
use Rattle.mt_rows.proofs.PlainPlant.{planted_plain, planted_is}
use Rattle.mt_rows.proofs.plain.PlainRows.plant.Goals as goal

pub invariant_of-self : goal.invariant_of-self
invariant_of-self c =
    let p = c.args.self.now.state in
    let rows : reached_in (record { width = c.width-width.result; words = p.words.items }) c.args.root ≡ reached_in (sheet_of p).tree.table c.args.root = ap (λ (w : Width). reached_in (record { width = w; words = p.words.items }) c.args.root) c.width-width.ensures in
    record {
      plain = planted_plain p c.open.new.self (sheet_in c.args.self.now) c.requires.0 c.args.root c.args.self.now.plain refl c.requires.1
          (ap (λ (f : Fated). f.opened) c.open.ensures ∙ ap (λ (l : List ℕ). length l) rows) (ap (λ (f : Fated). f.items) c.open.ensures ∙ ap (enlivened p.fates.items) rows);
    }

pub returns : goal.returns
returns c =
    let p = c.args.self.now.state in
    let rows : reached_in (record { width = c.width-width.result; words = p.words.items }) c.args.root ≡ reached_in (sheet_of p).tree.table c.args.root = ap (λ (w : Width). reached_in (record { width = w; words = p.words.items }) c.args.root) c.width-width.ensures in
    planted_is p c.open.new.self (sheet_in c.args.self.now) c.requires.0 c.args.root c.args.self.now.plain refl c.requires.1
    (ap (λ (f : Fated). f.opened) c.open.ensures ∙ ap (λ (l : List ℕ). length l) rows) (ap (λ (f : Fated). f.items) c.open.ensures ∙ ap (enlivened p.fates.items) rows)
