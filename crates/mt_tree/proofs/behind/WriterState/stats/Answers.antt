use Rattle.mt_tree.proofs.Prelude.{rules, ◌≡◌, Some, length, refl, sym, ap, ◌∙◌, subst, Identity, Behind, behind_lock, IsAtRest, TellsRows, Stats}
use Rattle.mt_tree.proofs.Looking.{tells_rows}
use Rattle.mt_tree.proofs.behind.WriterState.stats.Goals as goal

pub returns : goal.returns
returns c =
    let t = c.in-Some.tools in
    let rest : IsAtRest (Some t) = subst IsAtRest c.in-Some.is c.self.invariant.0 in
    let view : behind_lock (Some t) ≡ c.args.self.now = search rules in
    let many = c.args.tree.now.rows ∙ sym (ap (λ (b : Behind). b.table.shape.rows) view ∙ ap (λ (i : Identity). i.shape.rows) c.requires) in
    let s : Stats = record { rows = c.args.tree.now.shape.rows; free = c.free.result; live = c.live.result; held = c.held.result; height = t.height; calls = c.calls-calls.result } in
    subst (λ (b : Behind). TellsRows b s) view
    (tells_rows t s c.args.tree.now.shape.rows rest refl many c.free.ensures c.live.ensures c.held.ensures refl (c.calls-calls.ensures ∙ sym (ap (λ (b : Behind). length b.pen.history) view)))
