use Rattle.mt_read.proofs.Prelude.{rules, arith, ◌≡◌, ◌≢◌, ◌∙◌, length, ap, subst, Kind, Find, greatest_of, begins_long, dead_mark, Held, PassPart, here, part_of, Answers}
use Rattle.mt_read.proofs.Descending.{goes_on, goes_sees, here_more, marked_same, marked_then}
use Rattle.mt_read.proofs.Keeping.{answers_live, goes_marked, goes_unmarked, parent_tells}
use Rattle.mt_read.proofs.cursor.first_at_kept.Goals as goal

pub returns-clause-goes : goal.returns-clause-goes
returns-clause-goes g c = goes_on _ _ _ (goes_sees _ _ c.find_along-place.ensures.sees) (goes_on _ _ _ c.first_at-range.ensures.goes (goes_unmarked _ _ _ _ _ c.load_parent-parent.ensures.told (search rules)))

pub returns-then-is_dead_mark-clause-marked : goal.returns-then-is_dead_mark-clause-marked
returns-then-is_dead_mark-clause-marked g c =
    let q = part_of c.args.pass.now in let q₁ = part_of c.find_along-place.new.pass in let q₂ = part_of c.first_at-range.new.pass in let q₃ = part_of c.load_parent-parent.new.pass in
    let on = c.first_at-range.ensures.leaf.on in
    let tells = parent_tells q₂ _ _ _ _ c.load_parent-parent.ensures.told c.args.kept.now.leaf.at.number on.at (search rules) on.number in
    let mark : c.load_parent-parent.result ≡ dead_mark c.args.kept.now.leaf.at.number = search rules in
    let since : (here q₂).since ≡ (here q).since = ap (λ (x : Held). x.since) c.first_at-range.ensures.same.is ∙ ap (λ (x : Held). x.since) (here_more q q₁ c.find_along-place.ensures.sees) in
    let row : (here q₂).row ≡ (here q).row = ap (λ (x : Held). x.row) c.first_at-range.ensures.same.is ∙ ap (λ (x : Held). x.row) (here_more q q₁ c.find_along-place.ensures.sees) in
    let goes = goes_on q q₁ q₂ (goes_sees q q₁ c.find_along-place.ensures.sees) c.first_at-range.ensures.goes in
    marked_then (here q) q q₂ q₃ goes (marked_same (here q₂) (here q) q₂ q₃ row since (goes_marked q₂ q₃ _ _ _ c.load_parent-parent.ensures.told (here q₂) mark on.number tells))

pub returns-clause-answer : goal.returns-clause-answer
returns-clause-answer g c =
    let q = part_of c.args.pass.now in let q₁ = part_of c.find_along-place.new.pass in let q₂ = part_of c.first_at-range.new.pass in let q₃ = part_of c.load_parent-parent.new.pass in
    let on = c.first_at-range.ensures.leaf.on in
    let tells = parent_tells q₂ _ _ _ _ c.load_parent-parent.ensures.told c.args.kept.now.leaf.at.number on.at (search rules) on.number in
    let alive : c.load_parent-parent.result ≢ dead_mark (here q₂).row = search rules in
    let live = tells.live alive in
    let kind : q₁.shape.kind ≡ q.shape.kind = ap (λ (z : PassPart). z.shape.kind) c.find_along-place.ensures.sees.is in
    let first = begins_long q.seen q₁.seen c.find_along-place.ensures.sees.seen in let more = begins_long q₁.seen q₂.seen c.first_at-range.ensures.goes.seen in
    subst (λ (k : Kind). Answers q₃ (length q.seen) (Find c.args.index (greatest_of k)) c.first_at-range.result) kind
    (answers_live q₂ q₃ _ _ _ c.load_parent-parent.ensures.told _ (length q.seen) _ _ c.first_at-range.ensures.answer live (omega arith))
