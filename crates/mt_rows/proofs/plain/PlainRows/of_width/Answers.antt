use Rattle.mt_rows.proofs.Prelude.{◌≡◌, ◌+◌, ◌*◌, ◌∙◌, ap, map, Some, replicate, columns, first_row, new_sheet, life_in, buried_in, New, Fated}
use Rattle.mt_rows.proofs.PlainFates.{map-replicate}
use Rattle.mt_rows.proofs.plain.PlainRows.of_width.Goals as goal

pub returns : goal.returns
returns c =
    let words = c.in_ok-new.ensures in
    let fates : c.new-2.result ≡ record { items = replicate (first_row + c.args.rows) New; opened = 0 } = c.new-2.ensures in
    let size : c.cols.result * (first_row + c.args.rows) ≡ columns c.args.width * (first_row + c.args.rows) = ap (λ n. n * (first_row + c.args.rows)) c.cols.ensures in
    λ i. record (new_sheet c.args.width c.args.rows) {
      tree = record { rows = c.args.rows; table = record { width = c.of_width-wide.ensures i; words = (words ∙ ap (λ n. replicate n 0) size) i }; root = 0 };
      lives = (ap (λ (f : Fated). map (life_in 0) f.items) fates ∙ map-replicate (life_in 0) (first_row + c.args.rows) New) i;
      buried = (ap (λ (f : Fated). map (buried_in 0) f.items) fates ∙ map-replicate (buried_in 0) (first_row + c.args.rows) New) i;
      opened = ap (λ (f : Fated). f.opened) fates i;
      reads = ap Some c.new-3.ensures i;
    }
