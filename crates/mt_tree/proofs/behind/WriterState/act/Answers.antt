use Rattle.mt_tree.proofs.Prelude.{rules, ◌≡◌, false, Option, None, sym, subst, Reply, Tools, is_refusal, Acts, Behind, IsAtRest, behind_lock, IsCountBehind, IsCountAfter}
use Rattle.mt_tree.proofs.Keeping.{counted_after}
use Rattle.mt_tree.proofs.behind.WriterState.act.Goals as goal
use Rattle.mt_tree.proofs.behind.WriterState.act.Goals.{in-Long, in-Short}

pub returns-clause-done : goal.returns-clause-done
returns-clause-done c = elim c.match-width.branch [
  | in-Long w ↦ rw (w.reply-is, w.pass-is) (search rules)
  | in-Short w ↦ rw (w.reply-is, w.pass-is) (search rules)
]

pub invariant_of-self : goal.invariant_of-self
invariant_of-self c = elim c.match-width.branch [
  | in-Long w ↦
      let count = subst (λ (r : Reply). IsCountAfter None c.self.inside.ranges c.args.call.now r c.counted-self-inside.result) w.reply-is c.counted-self-inside.ensures in
      let known = counted_after c.self.inside.tools (behind_lock w.act-reply.new.tools) c.args.call.now w.act-reply.result None c.self.inside.ranges c.counted-self-inside.result c.self.invariant.0 w.act-reply.ensures.kept w.act-reply.ensures.acts tt c.self.invariant.1 count in
      subst (λ (x : Option Tools). IsAtRest x × IsCountBehind c.counted-self-inside.result (behind_lock x)) (λ k. (sym w.self-inside-is k).tools) (w.act-reply.ensures.rest, known)
  | in-Short w ↦
      let count = subst (λ (r : Reply). IsCountAfter None c.self.inside.ranges c.args.call.now r c.counted-self-inside.result) w.reply-is c.counted-self-inside.ensures in
      let known = counted_after c.self.inside.tools (behind_lock w.act-reply-in-Short.new.tools) c.args.call.now w.act-reply-in-Short.result None c.self.inside.ranges c.counted-self-inside.result c.self.invariant.0 w.act-reply-in-Short.ensures.kept w.act-reply-in-Short.ensures.acts tt c.self.invariant.1 count in
      subst (λ (x : Option Tools). IsAtRest x × IsCountBehind c.counted-self-inside.result (behind_lock x)) (λ k. (sym w.self-inside-is k).tools) (w.act-reply-in-Short.ensures.rest, known)
]

pub returns-clause-acts : goal.returns-clause-acts
returns-clause-acts c = elim c.match-width.branch [
  | in-Long w ↦ subst (λ (x : (Behind × Behind) × Reply). is_refusal x.1 ≡ false → Acts x.0.0 x.0.1 c.args.call.now x.1) (λ k. ((c.self.view_is k, behind_lock (sym w.self-inside-is k).tools), sym w.reply-is k)) w.act-reply.ensures.acts
  | in-Short w ↦ subst (λ (x : (Behind × Behind) × Reply). is_refusal x.1 ≡ false → Acts x.0.0 x.0.1 c.args.call.now x.1) (λ k. ((c.self.view_is k, behind_lock (sym w.self-inside-is k).tools), sym w.reply-is k)) w.act-reply-in-Short.ensures.acts
]
