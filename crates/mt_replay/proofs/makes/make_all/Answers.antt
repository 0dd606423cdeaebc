use Rattle.mt_replay.proofs.Prelude.{◌≡◌, ◌+◌, ◌-◌, ◌/◌, ◌≤◌, ℕ, List, length, slice_range, take, arith, sym, subst, vec_len, Kind, AreMade}
use Rattle.mt_replay.proofs.Making.{more_made, slice_long}
use Rattle.mt_replay.proofs.makes.make_all.Goals as goal

pub loop-alloc-smaller : goal.loop-alloc-smaller
loop-alloc-smaller g c =
    let kinds : List Kind = c.args.kinds.now in
    let from : ℕ = c.len-from.result in
    let to : ℕ = length kinds - (length kinds - from) / 2 in
    let more : vec_len c.in_ok-next.next ≡ length (slice_range kinds from to) = c.in_ok-next.ensures.count in
    let long : c.append.new.self.len ≡ c.loop-alloc.made.len + vec_len c.in_ok-next.next = c.in_ok-append.ensures.len in
    omega (arith, c.loop-alloc-test.true, c.len-from.ensures, slice_long kinds from to (omega (arith, c.loop-alloc-test.true, c.len-from.ensures)) (omega arith), more, long)

pub loop-alloc-preserved : goal.loop-alloc-preserved
loop-alloc-preserved g c =
    let kinds : List Kind = c.args.kinds.now in
    let from : ℕ = c.len-from.result in
    let to : ℕ = length kinds - (length kinds - from) / 2 in
    let low : from ≤ to = omega (arith, c.loop-alloc-test.true, c.len-from.ensures) in
    let high : to ≤ length kinds = omega arith in
    let more : vec_len c.in_ok-next.next ≡ length (slice_range kinds from to) = c.in_ok-next.ensures.count in
    let long : c.append.new.self.len ≡ c.loop-alloc.made.len + vec_len c.in_ok-next.next = c.in_ok-append.ensures.len in
    let at : c.append.new.self.len ≡ to = omega (arith, low, c.len-from.ensures, slice_long kinds from to low high, more, long) in
    let so_far : AreMade g.T.Shared.tree g.P.Passage.knows g.T.Shared.serves g.T.Plays.many c.args.rows c.args.passes (take from kinds) c.loop-alloc.made.items = subst (λ (n : ℕ). AreMade g.T.Shared.tree g.P.Passage.knows g.T.Shared.serves g.T.Plays.many c.args.rows c.args.passes (take n kinds) c.loop-alloc.made.items) (sym c.len-from.ensures) c.loop-alloc.invariant.1 in (
      omega (arith, at, high),
      rw (at, c.in_ok-append.ensures.items) (more_made g.T.Shared.tree g.P.Passage.knows g.T.Shared.serves g.T.Plays.many c.args.rows c.args.passes kinds from to c.loop-alloc.made.items c.in_ok-next.next.items low high so_far c.in_ok-next.ensures.made),
    )
