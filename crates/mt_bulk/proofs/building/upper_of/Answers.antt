use Rattle.mt_bulk.proofs.Prelude.{◌≡◌, ◌+◌, ℕ, length, sym, ap, ◌∙◌, subst, arith, Width, first_row, new_sheet, AreLevels}
use Rattle.mt_bulk.proofs.building.upper_of.Goals as goal

pub levels_over-requires-clause-some : goal.levels_over-requires-clause-some
levels_over-requires-clause-some c =
    let some = c.requires.some in
    omega (arith, c.len-count.ensures, c.args.leaves.now.ends.ok.0, some)

pub levels_over-requires-clause-room : goal.levels_over-requires-clause-room
levels_over-requires-clause-room c =
    let named = c.requires.whole.named in
    omega (arith, c.len-count.ensures, c.args.leaves.now.ends.ok.0, named)

pub returns : goal.returns
returns c =
    let l = c.args.leaves.now in
    let count : c.len-count.result ≡ length l.ends.items = c.len-count.ensures ∙ l.ends.ok.0 in
    record {
      levels = λ more. subst (λ (n : ℕ). AreLevels l.kind (first_row + n) n c.in_ok-levels.levels.items) count (c.in_ok-levels.ensures (λ one. more (sym count ∙ one)));
      table = c.in_ok-table.ensures ∙ ap (λ (w : Width). new_sheet w l.rows) c.width_of.ensures;
    }
