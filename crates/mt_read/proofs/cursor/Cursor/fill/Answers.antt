use Rattle.mt_read.proofs.Prelude.{rules, arith, ◌≡◌, ◌∙◌, ◌+◌, ◌-◌, ◌<◌, ◌∷◌, ◌++◌, [], ℕ, List, Option, Some, IfSome, ap, refl, sym, subst, inl, length, take, take_more_set, Range, part_of, PassPart, Cursor, find_at, place_behind, IsSeenFrom, SeenAt, slice_set, IsOver, GoesByLeaves, stand}
use Rattle.mt_read.proofs.Batching.{HasPut, all_put, kept_since, none_left, seen_on, steps_begin, steps_next}
use Rattle.mt_read.proofs.Descending.{goes_to}
use Rattle.mt_read.proofs.Keeping.{nothing_goes}
use Rattle.mt_read.proofs.Leaves.{few_more, leaves_all, leaves_end, leaves_next}
use Rattle.mt_read.proofs.cursor.Cursor.fill.Goals as goal

pub loop-i-init : goal.loop-i-init
loop-i-init g c =
    let q = part_of c.args.pass.now in let s = c.args.self.now in record {
      stepped = record { of = c.requires.pass; turn = refl };
      goes = nothing_goes q;
      kept = c.requires.kept;
      same = refl;
      since = inl refl;
      put = steps_begin (SeenAt q) s.max (length q.seen) (length q.seen) s.at c.args.ranges.now (omega arith);
      long = refl;
      looked = (0, (refl, refl), omega arith);
      counted = refl;
      steps = omega arith;
    }

pub loop-i-preserved : goal.loop-i-preserved
loop-i-preserved g c =
    let q = part_of c.args.pass.now in let q₁ = part_of c.loop-i.pass in let q₂ = part_of c.go_on.new.pass in
    let s = c.args.self.now in let s₁ = c.loop-i.self in
    let inv = c.loop-i.invariant in let told = c.go_on.ensures in
    let shape : q₂.shape ≡ q₁.shape = ap (λ (z : PassPart). z.shape) told.gone.goes.is in
    let max : s₁.max ≡ s.max = ap (λ (x : Cursor). x.max) inv.same in
    let read : IsSeenFrom q₂ (length q₁.seen) (find_at s₁.at s.max) (Some c.in-Some.range) =
    subst (λ (x : ℕ × Option Range). IsSeenFrom q₂ (length q₁.seen) (find_at s₁.at x.0) x.1) (λ i. (max i, c.in-Some.is i)) told.read in
    let behind : place_behind (Some c.in-Some.range) s.max ≡ c.go_on.new.self.at = sym (ap (λ (x : Cursor). x.at) told.same ∙ (λ i. place_behind (c.in-Some.is i) (max i))) in
    let put = subst (λ (o : Option ℕ). HasPut (SeenAt q₂) s.max (length q.seen) (length q₂.seen) s.at c.args.ranges.now (slice_set c.loop-i.ranges c.loop-i.i c.in-Some.range) (c.loop-i.i + 1) o) behind
    (steps_next (SeenAt q₁) (SeenAt q₂) (λ k query value at. seen_on q₁ q₂ k query value shape told.gone.goes.seen at) s.max (length q.seen) (length q₁.seen) (length q₂.seen) s.at c.args.ranges.now c.loop-i.ranges c.loop-i.i s₁.at inv.put
    (search rules) c.in-Some.range read.0 read.1 read.2.high read.2) in
    let r = c.in-Some.range in let leaf = c.go_on.new.self.leaf in
    let over : IsOver leaf r.last = subst (λ (o : Option Range). IfSome o (λ (x : Range). IsOver leaf x.last)) c.in-Some.is told.within in
    let one = c.go_on.new.steps - c.loop-i.steps in
    let more : c.loop-i.i < length c.loop-i.ranges = (let fits : c.loop-i.i < length c.args.ranges.now = search rules in let long = inv.long in omega arith) in
    let found : take c.loop-i.i c.loop-i.ranges ++ (r ∷ []) ≡ take (c.loop-i.i + 1) (slice_set c.loop-i.ranges c.loop-i.i r) = sym (take_more_set c.loop-i.ranges c.loop-i.i r more) in
    let before = stand s.leaf s.at q.marks in
    let went : GoesByLeaves q₂ c.args.lo q₂.risen s.max before (take (c.loop-i.i + 1) (slice_set c.loop-i.ranges c.loop-i.i r)) (inv.looked.0 + one) (stand leaf c.go_on.new.self.at q₂.marks) =
    subst (λ (x : List Range × Option ℕ). GoesByLeaves q₂ c.args.lo q₂.risen s.max before x.0 (inv.looked.0 + one) (stand leaf x.1 q₂.marks)) (λ i. (found i, behind i))
    (leaves_next q₁ q₂ c.args.lo s.max before (take c.loop-i.i c.loop-i.ranges) inv.looked.0 s₁.leaf s₁.at inv.looked.1 told.reached told.gone.goes.risen r leaf told.gone.kept over told.gone.lo one told.looked) in
    record {
      stepped = search rules;
      goes = goes_to q q₁ q₂ q₁.marks q₂.marks inv.goes told.gone.goes;
      kept = told.gone.kept;
      same = told.same ∙ (λ i. record { at = sym (ap (λ (x : Cursor). x.at) told.same) i; max = max i; leaf = c.go_on.new.self.leaf; epoch = ap (λ (x : Cursor). x.epoch) inv.same i });
      since = kept_since s.leaf s₁.leaf c.go_on.new.self.leaf c.args.lo inv.since told.gone.lo;
      put = put;
      long = search rules;
      looked = (inv.looked.0 + one, went, few_more c.args.steps.now c.loop-i.steps c.go_on.new.steps inv.looked.0 inv.looked.2);
      counted = omega arith;
      steps = omega arith;
    }

pub returns-in_default-clause-ranges : goal.returns-in_default-clause-ranges
returns-in_default-clause-ranges g c =
    let q = part_of c.args.pass.now in let q₁ = part_of c.loop-i.pass in let q₂ = part_of c.go_on.new.pass in
    let s = c.args.self.now in let s₁ = c.loop-i.self in
    let inv = c.loop-i.invariant in let told = c.go_on.ensures in
    let shape : q₂.shape ≡ q₁.shape = ap (λ (z : PassPart). z.shape) told.gone.goes.is in
    let max : s₁.max ≡ s.max = ap (λ (x : Cursor). x.max) inv.same in
    let read = subst (λ (x : ℕ × Option Range). IsSeenFrom q₂ (length q₁.seen) (find_at s₁.at x.0) x.1) (λ i. (max i, c.in_default.is i)) told.read in
    none_left q₁ q₂ shape told.gone.goes.seen s.max (length q.seen) s.at c.args.ranges.now c.loop-i.ranges c.loop-i.i s₁.at inv.put (search rules) read c.go_on.new.self.at
    (ap (λ (x : Cursor). x.at) told.same ∙ ap (λ (o : Option Range). place_behind o s₁.max) c.in_default.is)

-- it has gone on to the leaf that is kept then
pub returns-in_default-clause-gone : goal.returns-in_default-clause-gone
returns-in_default-clause-gone g c =
    let q = part_of c.args.pass.now in let q₁ = part_of c.loop-i.pass in let q₂ = part_of c.go_on.new.pass in
    let inv = c.loop-i.invariant in let told = c.go_on.ensures.gone in
    record {
      stepped = search rules;
      goes = goes_to q q₁ q₂ q₁.marks q₂.marks inv.goes told.goes;
      kept = told.kept;
      lo = kept_since c.args.self.now.leaf c.loop-i.self.leaf c.go_on.new.self.leaf c.args.lo inv.since told.lo;
    }

pub returns-clause-gone : goal.returns-clause-gone
returns-clause-gone g c = let inv = c.loop-i.invariant in record { stepped = inv.stepped; goes = inv.goes; kept = inv.kept; lo = inv.since }

pub returns-clause-ranges : goal.returns-clause-ranges
returns-clause-ranges g c =
    let q = part_of c.args.pass.now in let q₁ = part_of c.loop-i.pass in let s = c.args.self.now in
    all_put (SeenAt q₁) s.max (length q.seen) (length q₁.seen) s.at c.args.ranges.now c.loop-i.ranges c.loop-i.i c.loop-i.self.at c.loop-i.invariant.put (search rules)

pub returns-in_default-clause-looked : goal.returns-in_default-clause-looked
returns-in_default-clause-looked g c =
    let q = part_of c.args.pass.now in let q₁ = part_of c.loop-i.pass in let q₂ = part_of c.go_on.new.pass in
    let s = c.args.self.now in let s₁ = c.loop-i.self in
    let inv = c.loop-i.invariant in let told = c.go_on.ensures in
    let one = c.go_on.new.steps - c.loop-i.steps in (
      inv.looked.0 + one,
      leaves_end q₁ q₂ c.args.lo s.max (stand s.leaf s.at q.marks) (length c.args.ranges.now) c.loop-i.i c.loop-i.ranges inv.looked.0 s₁.leaf s₁.at inv.looked.1 (search rules) inv.long told.reached told.gone.goes.risen
          c.go_on.new.self.leaf c.go_on.new.self.at one told.looked,
      few_more c.args.steps.now c.loop-i.steps c.go_on.new.steps inv.looked.0 inv.looked.2,
    )

pub returns-clause-looked : goal.returns-clause-looked
returns-clause-looked g c =
    let q = part_of c.args.pass.now in let q₁ = part_of c.loop-i.pass in let s = c.args.self.now in let s₁ = c.loop-i.self in
    let inv = c.loop-i.invariant in
    (inv.looked.0, leaves_all q₁ c.args.lo q₁.risen s.max (stand s.leaf s.at q.marks) (length c.args.ranges.now) c.loop-i.i c.loop-i.ranges inv.looked.0 (stand s₁.leaf s₁.at q₁.marks) inv.looked.1 (search rules) inv.long, inv.looked.2)
