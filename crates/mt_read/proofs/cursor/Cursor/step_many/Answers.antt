use Rattle.mt_read.proofs.Prelude.{arith, ap, sym, subst, length, take, identity_of, part_of, tree_in, known_by, PassPart, Cursor, RangesPut, ReadAt, SeenAt, WentByLeaves, stand}
use Rattle.mt_read.proofs.Batching.{ranges_as}
use Rattle.mt_read.proofs.Finding.{shape_is}
use Rattle.mt_read.proofs.Leaves.{few_around, leaves_as, reached_same, resumed_marks}
use Rattle.mt_read.proofs.Stepping.{step_at}
use Rattle.mt_read.proofs.cursor.Cursor.step_many.Goals as goal

pub returns-clause-ranges : goal.returns-clause-ranges
returns-clause-ranges g c =
    let t = identity_of c.args.table.now in
    let q = part_of c.args.pass.now in let q₁ = part_of c.resume-lo.new.pass in let q₂ = part_of c.fill-value.new.pass in let q₃ = part_of c.load_begun-hi.new.pass in
    let lo = c.resume-lo.result in let hi = c.load_begun-hi.result in
    let s = c.args.self.now in let s₁ = c.resume-lo.new.self in
    let At = ReadAt (tree_in t) (known_by q) lo hi (known_by q₃) in
    let most = c.resume-lo.ensures.resumed.most in let seen = c.load_begun-hi.ensures.told.seen in
    let put = ranges_as (SeenAt q₂) At (length q₁.seen)
    (λ k query value low at. step_at t q q₁ q₂ q₃ lo hi s.epoch (shape_is t c.args.pass.now c.requires.pass) c.requires.cursor.standing c.resume-lo.ensures.resumed _ c.fill-value.ensures.gone.goes c.load_begun-hi.ensures.told k query value low at.high at.is c.load_begun-hi.ensures.sound)
    s₁.max (length q₁.seen) lo (length q₂.seen) hi s₁.at c.args.ranges.now c.fill-value.new.ranges c.fill-value.result c.fill-value.new.self.at (omega arith) (omega arith) (omega arith) c.fill-value.ensures.ranges in
    subst (λ (x : Cursor). RangesPut At x.max lo hi x.at c.args.ranges.now c.fill-value.new.ranges c.fill-value.result c.fill-value.new.self.at) c.resume-lo.ensures.same put

pub returns-clause-looked : goal.returns-clause-looked
returns-clause-looked g c =
    let q = part_of c.args.pass.now in let q₁ = part_of c.resume-lo.new.pass in let q₂ = part_of c.fill-value.new.pass in let q₃ = part_of c.load_begun-hi.new.pass in
    let s = c.args.self.now in let s₁ = c.resume-lo.new.self in let s₂ = c.fill-value.new.self in
    let hi = c.load_begun-hi.result in let looked = c.fill-value.ensures.looked in
    let found = take c.fill-value.result c.fill-value.new.ranges in
    let held = reached_same q₂ q₃ (ap (λ (z : PassPart). z.held) c.load_begun-hi.ensures.told.is) in
    let went = leaves_as q₂ q₃ c.resume-lo.result q₂.risen hi s₁.max s₁.leaf s₁.at q₁.marks q.marks (length c.args.ranges.now) found looked.0 s₂.leaf s₂.at q₂.marks q₃.marks held c.load_begun-hi.ensures.told.risen
    (resumed_marks c.resume-lo.result s.epoch q q₁ c.resume-lo.ensures.resumed) (sym (ap (λ (z : PassPart). z.marks) c.load_begun-hi.ensures.told.is)) looked.1 in (
      looked.0,
      subst (λ (x : Cursor). WentByLeaves q₃ c.resume-lo.result hi x.max (stand x.leaf x.at q.marks) (length c.args.ranges.now) found looked.0 (stand s₂.leaf s₂.at q₃.marks)) c.resume-lo.ensures.same went,
      few_around c.args.steps.now c.resume-lo.new.steps c.fill-value.new.steps c.load_begun-hi.new.steps looked.0 c.resume-lo.ensures.steps looked.2 c.load_begun-hi.ensures.steps,
    )
