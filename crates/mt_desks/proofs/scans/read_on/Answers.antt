use Rattle.mt_desks.proofs.Prelude.{◌≡◌, ℕ, zero, suc, ◌+◌, ◌-◌, Some, None, arith, refl, Walk}
use Rattle.mt_desks.proofs.Scanning.{same_walk, scan_ends, scan_starts, walk_finds_none, walk_scans_on, walk_starts}
use Rattle.mt_desks.proofs.scans.read_on.Goals as goal

pub loop-read-init : goal.loop-read-init
loop-read-init g c =
    let w : Walk = g.W.Walks.walk c.args.walk.now in
    let e : c.args.count - 0 ≡ c.args.count = omega arith in (
      (λ lane phase number item. rw e (scan_starts (record { line = c.args.line; lane = lane; phase = phase; item = item }) number w.max c.args.count w.at w.history w.pass c.args.room.now.items)),
      refl,
      walk_starts w,
      c.requires.own,
      (λ tree on. on),
      rw e c.requires.room,
      omega arith,
      refl,
      omega arith,
    )

pub returns-in-None-clause-on : goal.returns-in-None-clause-on
returns-in-None-clause-on g c = λ tree on. c.look_on.ensures.on tree (c.loop-read.invariant.4 tree on)

pub returns-in-None-clause-is : goal.returns-in-None-clause-is
returns-in-None-clause-is g c = same_walk (g.W.Walks.walk c.args.walk.now) (g.W.Walks.walk c.loop-read.walk) (g.W.Walks.walk c.look_on.new.walk) None c.loop-read.invariant.1 c.in-None.ensures.is

pub returns-in-None-clause-once : goal.returns-in-None-clause-once
returns-in-None-clause-once g c = (c.look_on.ensures.once (g.W.Walks.walk c.args.walk.now).pass c.loop-read.invariant.2).once

pub returns-in-None-clause-scanned : goal.returns-in-None-clause-scanned
returns-in-None-clause-scanned g c = λ lane phase number item.
    let left : ℕ = c.args.count - (c.loop-read._read + 1) in
    let e : c.args.count - c.loop-read._read ≡ suc left = omega (arith, c.loop-read-test.true) in
    walk_finds_none (record { line = c.args.line; lane = lane; phase = phase; item = item }) number c.args.count left (g.W.Walks.walk c.args.walk.now) (g.W.Walks.walk c.loop-read.walk) (g.W.Walks.walk c.look_on.new.walk) c.args.room.now.items c.loop-read.room.items c.look_on.new.room.items
    c.loop-read.invariant.1
    (rw (← e) (c.loop-read.invariant.0 lane phase number item))
    c.in-None.ensures.looked

pub loop-read-preserved : goal.loop-read-preserved
loop-read-preserved g c =
    let w : Walk = g.W.Walks.walk c.args.walk.now in
    let here : Walk = g.W.Walks.walk c.loop-read.walk in
    let next : Walk = g.W.Walks.walk c.look_on.new.walk in
    let left : ℕ = c.args.count - (c.loop-read._read + 1) in
    let e : c.args.count - c.loop-read._read ≡ suc left = omega (arith, c.loop-read-test.true) in (
      (λ lane phase number item. walk_scans_on (record { line = c.args.line; lane = lane; phase = phase; item = item }) number c.args.count left w here next c.args.room.now.items c.loop-read.room.items c.look_on.new.room.items c.in-Some._range
          c.loop-read.invariant.1
          c.in-Some.ensures.is
          (rw (← e) (c.loop-read.invariant.0 lane phase number item))
          c.in-Some.ensures.looked),
      same_walk w here next (Some c.in-Some._range) c.loop-read.invariant.1 c.in-Some.ensures.is,
      c.look_on.ensures.once w.pass c.loop-read.invariant.2,
      c.look_on.ensures.own,
      (λ tree on. c.look_on.ensures.on tree (c.loop-read.invariant.4 tree on)),
      omega (arith, c.loop-read.invariant.5, e, c.look_on.ensures.len, c.look_on.ensures.capacity),
      omega (arith, c.loop-read.invariant.6, c.look_on.ensures.len),
      omega (arith, c.loop-read.invariant.7, c.look_on.ensures.capacity),
      omega (arith, c.loop-read.invariant.8, c.look_on.ensures.few),
    )

pub returns-clause-scanned : goal.returns-clause-scanned
returns-clause-scanned g c = λ lane phase number item.
    let w : Walk = g.W.Walks.walk c.args.walk.now in
    let here : Walk = g.W.Walks.walk c.loop-read.walk in
    let e : c.args.count - c.loop-read._read ≡ zero = omega (arith, c.loop-read-test.false) in
    scan_ends (record { line = c.args.line; lane = lane; phase = phase; item = item }) number w.max c.args.count w.at here.at w.history w.pass here.pass c.args.room.now.items c.loop-read.room.items
    (rw (← e) (c.loop-read.invariant.0 lane phase number item))

pub returns-clause-once : goal.returns-clause-once
returns-clause-once g c = c.loop-read.invariant.2.once
