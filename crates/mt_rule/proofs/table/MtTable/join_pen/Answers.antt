use Rattle.mt_rule.proofs.Prelude.{rules, ap, sym, ◌∙◌, ◌≡◌, subst, List, View, PenPart, PassPart, known_by, pen_of, pass_of, part_in, pass_or, pen_joined, with_pass, all_seen, Identity, identity_of, tree_in, pen_in, part_of, WasShown}
use Rattle.mt_rule.proofs.Moving.{joining, seeing, shown_with, was_shown}
use Rattle.mt_rule.proofs.table.MtTable.join_pen.Goals as goal

pub join_seat-requires : goal.join_seat-requires
join_seat-requires c = (search rules, search rules, search rules, search rules, joining _ _ _ _ _ (search rules) (search rules))

pub load-requires : goal.load-requires
load-requires c = (search rules, search rules, seeing _ _ _ _ (search rules) (search rules))

pub returns-clause-shown : goal.returns-clause-shown
returns-clause-shown c =
    let v = c.join_seat.new.seat.me.0 in
    let saw = c.load.ensures.2 in
    let view : v ≡ with_pass c.args.pen.now.seat.me.0 c.into_seat.result.me.0 = ap (λ m. m.0) c.join_seat.ensures.2 in
    let pen : pen_of v ≡ pen_joined (pen_in c.args.pen.now) = ap pen_of view in
    let pass : pass_of v ≡ part_of c.args.pass = ap pass_of view ∙ ap (λ (l : List View). pass_or (part_in l)) (sym c.into_seat.ensures.2) in
    let after : pass_of c.load.new.seat.me.0 ≡ all_seen (pen_of v) (pass_of v) = ap pass_of saw.view in
    let shape = ap (λ (p : PenPart). p.shape) pen ∙ ap (λ (t : Identity). t.shape) c.requires.pen in
    let idle = ap (λ (p : PenPart). p.in_flight) pen ∙ c.requires.idle in
    shown_with _ _ _ _ (pen_in c.args.pen.now).sections (subst (λ (z : PenPart × PassPart × PassPart). WasShown (tree_in (identity_of c.args.self.now)) z.0 (known_by z.1) (known_by z.2)) (λ i. (pen i, pass i, sym after i))
    (was_shown (identity_of c.args.self.now).shape saw.extents (pen_of v) (pass_of v) shape idle saw.sound saw.fits))
