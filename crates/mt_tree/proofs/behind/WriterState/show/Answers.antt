use Rattle.mt_tree.proofs.Prelude.{rules, ◌≡◌, Some, IfSome, length, map_by, sym, ap, ◌∙◌, subst, PenPart, identity_of_pen, Behind, after_show, behind_lock, parts_of, pen_sheet, IsAtRest, IsPenAtRest, IsCountBehind}
use Rattle.mt_tree.proofs.Ending.{kept_shown}
use Rattle.mt_tree.proofs.behind.WriterState.show.Goals as goal

pub invariant_of-self : goal.invariant_of-self
invariant_of-self c =
    let t = c.in-Some.field-0 in
    let rest : IsAtRest (Some t) = search rules in
    let known : IsCountBehind c.self.inside.ranges (behind_lock (Some t)) = search rules in
    let same = c.split_pen.ensures.pen ∙ c.join_pen-calls.ensures.pen in
    ((c.split_pen.ensures.alone, subst (λ (p : PenPart). IsPenAtRest p (parts_of p t.book) t.height) (sym same) (kept_shown _ _ _ rest.1)), subst (λ (p : PenPart). IfSome c.self.inside.ranges (λ n. n ≡ length (map_by (pen_sheet p).tree))) (sym same) known)

pub returns-clause-state : goal.returns-clause-state
returns-clause-state c =
    let t = c.in-Some.field-0 in
    let view : behind_lock (Some t) ≡ c.args.self.now = search rules in
    let same = c.split_pen.ensures.pen ∙ c.join_pen-calls.ensures.pen in
    let table : identity_of_pen c.split_pen.new.pen ≡ identity_of_pen t.pen = c.split_pen.ensures.of ∙ sym (ap (λ (b : Behind). b.table) view ∙ c.requires.table) in
    (λ k. record { table = table k; pen = same k; parts = parts_of (same k) t.book }) ∙ ap after_show view
