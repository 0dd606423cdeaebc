use Rattle.mt_commands.proofs.Prelude.{rules, ◌≡◌, ℕ, ◌+◌, ◌*◌, ◌≤◌, Option, sym, ap, ◌∙◌, subst, Scan, Asked, Tree, Pass, opened, pass_in, steps_made, still_of, IsScanDone}
use Rattle.mt_commands.proofs.trees.LaneTreeSharedPass.scan.Goals as goal

pub scan_by-requires-clause-own : goal.scan_by-requires-clause-own
scan_by-requires-clause-own c = c.cursor-cursor.ensures.epoch ∙ sym (ap (λ (p : Pass). (pass_in p).standing) c.cursor-cursor.ensures.pass ∙ c.requires.closed)

pub returns-clause-of : goal.returns-clause-of
returns-clause-of c = still_of c.scan_by.new.cursor.tree.now c.args.self.now.tree _ c.scan_by.ensures.tree (search rules)

pub returns-clause-few : goal.returns-clause-few
returns-clause-few c =
    let last : c.scan_by.new.cursor.pass.now ≡ c.pass-1.given.0 = (search rules) in
    subst (λ (z : Pass × Pass). steps_made z.1 ≤ steps_made z.0 + (220 * c.args.count + 1)) (λ i. (c.cursor-cursor.ensures.pass i, last i)) c.scan_by.ensures.few

pub returns-clause-scanned : goal.returns-clause-scanned
returns-clause-scanned c = λ lane phase number.
    let a : Asked = record { line = c.args.line; lane = lane; phase = phase; item = Scan number c.args.index c.args.max c.args.count } in
    let made = c.cursor-cursor.ensures in
    let last : c.scan_by.new.cursor.pass.now ≡ c.pass-1.given.0 = (search rules) in
    subst (λ (z : ℕ × (Option ℕ × (Tree × (Pass × Pass)))). IsScanDone a number z.0 c.args.count z.1.0 (opened z.1.1.0) (pass_in z.1.1.1.0) (pass_in z.1.1.1.1) c.args.room.now.items c.scan_by.new.room.items)
    (λ i. (made.max i, (made.at i, (made.tree i, (made.pass i, last i)))))
    (c.scan_by.ensures.scanned lane phase number a.item)
