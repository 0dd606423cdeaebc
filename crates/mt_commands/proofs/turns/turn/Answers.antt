use Rattle.mt_commands.proofs.Prelude.{rules, ◌≡◌, ◌≤◌, ◌+◌, List, length, sym, ap, ◌∙◌, subst, arith, Range, Record, Tree, map_seen, pass_in, still_of, HasOnePass, IsFew, turns_at, turn, most_calls, most_steps}
use Rattle.mt_commands.proofs.Turning.{shows_same}
use Rattle.mt_commands.proofs.turns.turn.Goals as goal

pub turn_under-requires-clause-only : goal.turn_under-requires-clause-only
turn_under-requires-clause-only g c = subst HasOnePass (sym c.lock-write.ensures.tree) c.requires.only

pub turn_under-requires-clause-pass : goal.turn_under-requires-clause-pass
turn_under-requires-clause-pass g c = (shows_same c.args.tree.now (pass_in c.args.pass.now) (pass_in c.lock-write.result.pass.now) c.requires.only c.requires.pass c.lock-write.ensures.saw c.lock-write.ensures.callers).pass

pub turn_under-requires-clause-few : goal.turn_under-requires-clause-few
turn_under-requires-clause-few g c =
    let same = shows_same c.args.tree.now (pass_in c.args.pass.now) (pass_in c.lock-write.result.pass.now) c.requires.only c.requires.pass c.lock-write.ensures.saw c.lock-write.ensures.callers in
    subst (λ (t : Tree). IsFew (map_seen t (pass_in c.lock-write.result.pass.now)) most_steps) (sym c.lock-write.ensures.tree) (subst (λ (m : List Range). IsFew m most_steps) (sym same.map) c.requires.few)

pub turn_under-requires-clause-calls : goal.turn_under-requires-clause-calls
turn_under-requires-clause-calls g c =
    let same = shows_same c.args.tree.now (pass_in c.args.pass.now) (pass_in c.lock-write.result.pass.now) c.requires.only c.requires.pass c.lock-write.ensures.saw c.lock-write.ensures.callers in
    subst (λ (rs : List Record). length rs + 3 ≤ most_calls) (sym same.seen) c.requires.calls

pub returns-clause-of : goal.returns-clause-of
returns-clause-of g c = still_of c.turn_under.new.write.tree.now c.args.tree.now _ (ap (λ r. r.now) c.turn_under.ensures.tree ∙ c.lock-write.ensures.tree) (search rules)

pub returns-clause-calls : goal.returns-clause-calls
returns-clause-calls g c =
    let same = shows_same c.args.tree.now (pass_in c.args.pass.now) (pass_in c.lock-write.result.pass.now) c.requires.only c.requires.pass c.lock-write.ensures.saw c.lock-write.ensures.callers in
    let last : c.turn_under.new.write.pass.now ≡ c.pass-1.given.0 = (search rules) in
    let more = c.turn_under.ensures.calls in
    omega (arith, more, ap (λ (rs : List Record). length rs) same.seen, ap (λ p. length (pass_in p).seen) last)

pub returns-clause-turned : goal.returns-clause-turned
returns-clause-turned g c =
    let t : Tree = c.args.tree.now in
    let same = shows_same c.args.tree.now (pass_in c.args.pass.now) (pass_in c.lock-write.result.pass.now) c.requires.only c.requires.pass c.lock-write.ensures.saw c.lock-write.ensures.callers in
    let last : c.turn_under.new.write.pass.now ≡ c.pass-1.given.0 = (search rules) in
    let w = pass_in c.lock-write.result.pass.now in
    let q = pass_in c.turn_under.new.write.pass.now in
    let done = subst (λ (x : Tree). turns_at x q c.turn_under.new.ids c.turn_under.new.tally.tally ≡ turn c.args.drops (turns_at x w c.args.ids.now c.args.tally.now.tally) c.args.n) c.lock-write.ensures.tree c.turn_under.ensures.turned in
    ap (λ p. turns_at t (pass_in p) c.turn_under.new.ids c.turn_under.new.tally.tally) (sym last)
    ∙ (done ∙ ap (λ (m : List Range). turn c.args.drops (record { map = m; draws = c.args.ids.now; tally = c.args.tally.now.tally }) c.args.n) same.map)
