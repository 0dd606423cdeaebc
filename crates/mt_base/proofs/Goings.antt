-- A pass goes on: what it had seen before a call or a read, and what it came to know, is part of it.
use Rattle.mt_base.proofs.Prelude.{◌≡◌, ◌≢◌, ℕ, ◌+◌, ◌≤◌, List, [], ◌++◌, Option, length, arith, refl, sym, ap, ◌∙◌, subst, append_assoc, length-append, IfSome, append-nil, Range, Call, Query, Reply, Record, History, Pass, Begins, Grows, Learned, Read, Saw, Wrote, holder_of}

pub begins_none : {X : Type 0} (xs : List X) → Begins xs xs
begins_none xs = ([], sym (append-nil xs))

pub begins_on : {X : Type 0} (xs ys zs : List X) → Begins xs ys → Begins ys zs → Begins xs zs
begins_on xs ys zs b c = (b.0 ++ c.0, c.1 ∙ (ap (λ z. z ++ c.0) b.1 ∙ append_assoc xs b.0 c.0))

pub begins_long : {X : Type 0} (xs ys : List X) → Begins xs ys → length xs ≤ length ys
begins_long xs ys b = omega (arith, ap length b.1, length-append xs b.0)

pub grows_none : (p : Pass) → Grows p p
grows_none p = record { number = refl; seen = begins_none p.seen; mine = refl; opened = begins_none p.opened; begun = omega arith; ended = omega arith }

pub grows_on : (p q r : Pass) → Grows p q → Grows q r → Grows p r
grows_on p q r g h = record {
  number = h.number ∙ g.number;
  seen = begins_on p.seen q.seen r.seen g.seen h.seen;
  mine = h.mine ∙ g.mine;
  opened = begins_on p.opened q.opened r.opened g.opened h.opened;
  begun = omega (arith, g.begun, h.begun);
  ended = omega (arith, g.ended, h.ended);
}

pub saw_grows : (tree : History) (p q : Pass) → Saw tree p q → Grows p q
saw_grows tree p q s = record {
  number = ap (λ (z : Pass). z.number) s.pass;
  seen = s.seen;
  mine = ap (λ (z : Pass). z.mine) s.pass;
  opened = ([], ap (λ (z : Pass). z.opened) s.pass ∙ sym (append-nil p.opened));
  begun = omega (arith, ap (λ (z : Pass). z.begun) s.pass);
  ended = omega (arith, s.ended, ap (λ (z : Pass). z.ended) s.pass);
}

pub learned_grows : (tree : History) (p : Pass) (told : List Record) (q : Pass) → Learned tree p told q → Grows p q
learned_grows tree p told q l = record {
  number = ap (λ (z : Pass). z.number) l.pass;
  seen = l.seen;
  mine = ap (λ (z : Pass). z.mine) l.pass;
  opened = ([], ap (λ (z : Pass). z.opened) l.pass ∙ sym (append-nil p.opened));
  begun = omega (arith, ap (λ (z : Pass). z.begun) l.pass);
  ended = omega (arith, ap (λ (z : Pass). z.ended) l.pass);
}

-- a pass that saw all, and then made a call, made it
pub saw_wrote : (tree : History) (p q : Pass) (number : ℕ) (call : Call) (reply : Reply) (r : Pass) → Saw tree p q → Wrote tree q number call reply r → Wrote tree p number call reply r
saw_wrote tree p q number call reply r s w =
    let same : q.number ≡ p.number = ap (λ (z : Pass). z.number) s.pass in
    let mine : q.mine ≡ p.mine = ap (λ (z : Pass). z.mine) s.pass in
    let opened : q.opened ≡ p.opened = ap (λ (z : Pass). z.opened) s.pass in
    let standing : q.standing ≡ p.standing = ap (λ (z : Pass). z.standing) s.pass in
    let begun : q.begun ≡ p.begun = ap (λ (z : Pass). z.begun) s.pass in
    let all : (p.seen ++ (s.seen.0 ++ w.others)) ≡ q.seen ++ w.others = sym (append_assoc p.seen s.seen.0 w.others) ∙ ap (λ z. z ++ w.others) (sym s.seen.1) in
    record {
      others = s.seen.0 ++ w.others;
      pass = w.pass ∙ rw (all, same, mine, opened, standing, begun) refl;
      last = w.last ∙ ap (λ z. length z + 1) (sym all);
      begun = omega (arith, w.begun, begun);
      ended = omega (arith, w.ended, s.ended, ap (λ (z : Pass). z.ended) s.pass);
      sound = w.sound;
      by = λ closed. subst (λ (n : ℕ). IfSome (holder_of reply) (λ holder. holder.pass ≢ n)) same (w.by (standing ∙ closed));
    }

-- a pass that came to know more, and then made a read, made it
pub grew_read : (tree : History) (p q : Pass) (lo hi k : ℕ) (query : Query) (value : Option Range) (r : Pass) → Grows p q → Read tree q lo hi k query value r → Read tree p lo hi k query value r
grew_read tree p q lo hi k query value r g d =
    let long : length p.seen ≤ length q.seen = begins_long p.seen q.seen g.seen in
    record {
      grows = grows_on p q r g d.grows;
      true = d.true;
      from = omega (arith, d.from);
      floor = omega (arith, d.floor);
      before = omega (arith, d.before, g.ended);
      lo_known = d.lo_known;
      hi_known = d.hi_known;
      sound = d.sound;
    }
