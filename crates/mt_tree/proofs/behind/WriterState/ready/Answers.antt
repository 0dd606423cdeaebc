use Rattle.mt_tree.proofs.Prelude.{rules, ◌≡◌, ◌+◌, ◌*◌, ◌≤◌, Some, subst, arith, ◌↔◌, IsTrue, nat_le, Behind, behind_lock, IsAtRest, IsReady}
use Rattle.mt_tree.proofs.Ending.{few_levels, ready_if}
use Rattle.mt_tree.proofs.behind.WriterState.ready.Goals as goal

pub overflow_mul-result : goal.overflow_mul-result
overflow_mul-result c =
    let rest : IsAtRest (Some c.in-Some.tools) = subst IsAtRest c.in-Some.is c.self.invariant.0 in
    let few = few_levels _ _ c.in-Some.tools.height rest.1 in
    omega (arith, few)

pub overflow_add-result : goal.overflow_add-result
overflow_add-result c =
    let rest : IsAtRest (Some c.in-Some.tools) = subst IsAtRest c.in-Some.is c.self.invariant.0 in
    let few = few_levels _ _ c.in-Some.tools.height rest.1 in
    omega (arith, few)

pub returns : goal.returns
returns c =
    let t = c.in-Some.tools in
    let rest : IsAtRest (Some t) = subst IsAtRest c.in-Some.is c.self.invariant.0 in
    let room = ready_if _ _ t.height c.free.result rest.1 c.free.ensures in
    let low : IsTrue (nat_le (3 * t.height + 1) c.free.result) ↔ (3 * t.height + 1 ≤ c.free.result) = search rules in
    let view : behind_lock (Some t) ≡ c.args.self.now = search rules in
    subst (λ (b : Behind). IsTrue (nat_le (3 * t.height + 1) c.free.result) ↔ IsReady b.parts) view (λ yes. room.0 (low.0 yes), λ ready. low.1 (room.1 ready))
