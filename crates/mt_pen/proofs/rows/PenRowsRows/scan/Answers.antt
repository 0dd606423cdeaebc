use Rattle.mt_pen.proofs.Prelude.{ap, sym, subst, ◌∙◌, arith, Identity, pen_in, joined_part, HasScanned}
use Rattle.mt_pen.proofs.Working.{worked_scan, scan_kept, scan_cleared, scan_answers}
use Rattle.mt_pen.proofs.rows.PenRowsRows.scan.Goals as goal

pub invariant_of-self-clause-worked : goal.invariant_of-self-clause-worked
invariant_of-self-clause-worked g c =
    let s = c.args.self.now in
    worked_scan _ _ _ _ _ _ _ _ c.scan_sections-self.ensures.scanned (ap (λ (x : Identity). x.shape.passes) (s.at ∙ sym s.of)) (omega (arith, c.saturating_add-self.ensures)) s.worked

pub returns-clause-answer : goal.returns-clause-answer
returns-clause-answer g c =
    let s = c.args.self.now in
    let after = c.scan_sections-self.new.pen in
    scan_answers g.W.Writer.table (pen_in s.pen) (joined_part s.pen) (pen_in after) c.scan_sections-self.result
    (subst (λ (x : Identity). HasScanned (pen_in s.pen) (joined_part s.pen) (pen_in after) c.scan_sections-self.result x.shape.passes) s.at c.scan_sections-self.ensures.scanned)

pub returns-clause-kept : goal.returns-clause-kept
returns-clause-kept g c =
    let s = c.args.self.now in
    scan_kept _ _ _ _ _ _ _ c.scan_sections-self.ensures.scanned s.worked

pub returns-clause-cleared : goal.returns-clause-cleared
returns-clause-cleared g c =
    let s = c.args.self.now in
    scan_cleared _ _ _ _ _ _ _ c.scan_sections-self.ensures.scanned (ap (λ (x : Identity). x.shape.passes) (s.at ∙ sym s.of)) s.worked
