use Rattle.mt_read.proofs.Prelude.{rules, ◌≡◌, ◌≢◌, ◌+◌, ◌<◌, ◌≤◌, ◌∙◌, ℕ, [], length, refl, sym, ap, subst, arith, Kind, Find, greatest_of, dead_mark, Held, PassPart, IsAt, here, moment_seen, part_of, AnswersBy, IsUnder, IsBehind, ParentTells}
use Rattle.mt_read.proofs.Descending.{goes_on, goes_sees, here_more}
use Rattle.mt_read.proofs.Keeping.{goes_marked, goes_unmarked, leaf_parent, leaf_tells}
use Rattle.mt_read.proofs.Leaving.{behind_leaf, come_beside}
use Rattle.mt_read.proofs.Reading.{kind_goes}
use Rattle.mt_read.proofs.Crossing.{nothing_by, beside_by}
use Rattle.mt_read.proofs.neighbours.first_beside.Given.{Over}
use Rattle.mt_read.proofs.neighbours.first_beside.Goals.{After-first_at-range, After-load_parent-parent}
use Rattle.mt_read.proofs.neighbours.first_beside.Goals as goal

-- the leaf is held below when its parent word is loaded, so that this tells of it
still_held : (g : Over) (c : After-first_at-range g) → IsUnder (part_of c.first_at-range.new.pass) (here (part_of c.args.pass.now))
still_held g c =
    let under : IsAt (part_of c.args.pass.now) → IsUnder (part_of c.walk.new.pass) (here (part_of c.args.pass.now)) = search rules in
    c.first_at-range.ensures.goes.under (here (part_of c.args.pass.now)) ((goes_sees _ _ c.find_slot-place.ensures.sees).under (here (part_of c.args.pass.now)) (under c.requires.leaf.on.at))

word_tells : (g : Over) (c : After-load_parent-parent g) → IsUnder (part_of c.first_at-range.new.pass) (here (part_of c.args.pass.now)) → ParentTells (part_of c.load_parent-parent.new.pass) (here (part_of c.args.pass.now)) c.load_parent-parent.result
word_tells g c held = leaf_tells (part_of c.first_at-range.new.pass) _ _ _ _ c.load_parent-parent.ensures.told (here (part_of c.args.pass.now)) held refl c.requires.leaf.on.number

pub returns-in_default-clause-answer : goal.returns-in_default-clause-answer
returns-in_default-clause-answer g c =
    let q = part_of c.args.pass.now in let q' = part_of c.walk.new.pass in
    let none : (moment_seen q' (length q'.seen)).ranges ≡ [] = search rules in
    nothing_by q q' c.walk.ensures.goes none (here q) (c.args.leaf.now.max + 1)

pub returns-clause-goes : goal.returns-clause-goes
returns-clause-goes g c =
    goes_on _ _ _ c.walk.ensures.goes (goes_on _ _ _ (goes_sees _ _ c.find_slot-place.ensures.sees) (goes_on _ _ _ c.first_at-range.ensures.goes (goes_unmarked _ _ _ _ _ c.load_parent-parent.ensures.told (search rules))))

pub returns-then-is_dead_mark-clause-moved : goal.returns-then-is_dead_mark-clause-moved
returns-then-is_dead_mark-clause-moved g c =
    let q = part_of c.args.pass.now in let q₃ = part_of c.first_at-range.new.pass in let q₄ = part_of c.load_parent-parent.new.pass in
    let at = goal.at.returns-then-is_dead_mark-clause-moved g c in let held = still_held g at.After-first_at-range in
    let mark : c.load_parent-parent.result ≡ dead_mark c.args.leaf.now.at.number = search rules in
    let goes = goes_on _ _ _ c.walk.ensures.goes (goes_on _ _ _ (goes_sees _ _ c.find_slot-place.ensures.sees) c.first_at-range.ensures.goes) in
    let kind : q₄.shape.kind ≡ q.shape.kind = ap (λ (z : PassPart). z.shape.kind) c.load_parent-parent.ensures.told.reads.is ∙ kind_goes q q₃ goes in
    let max = c.requires.leaf.on.max in
    let more : (here q).extent.last < greatest_of q₄.shape.kind = subst (λ (k : Kind). (here q).extent.last < greatest_of k) (sym kind) (subst (λ (n : ℕ). n < greatest_of q.shape.kind) max c.requires.more) in
    let from : c.in-Some.behind.min ≤ c.args.leaf.now.max + 1 = search rules in
    let to : c.args.leaf.now.max + 1 ≤ c.in-Some.behind.max = search rules in
    come_beside IsBehind (here q) q q₃ q₄ goes held (goes_marked q₃ q₄ _ _ _ c.load_parent-parent.ensures.told (here q) mark c.requires.leaf.on.number (word_tells g at.After-load_parent-parent held))
    (behind_leaf (here q) q₄ c.in-Some.behind (leaf_parent q₃ q₄ _ _ _ c.load_parent-parent.ensures.told c.in-Some.behind c.first_at-range.ensures.leaf) more (omega arith) (omega arith))

pub returns-clause-answer : goal.returns-clause-answer
returns-clause-answer g c =
    let q = part_of c.args.pass.now in let q₁ = part_of c.walk.new.pass in let q₂ = part_of c.find_slot-place.new.pass in let q₃ = part_of c.first_at-range.new.pass in let q₄ = part_of c.load_parent-parent.new.pass in
    let at = goal.at.returns-clause-answer g c in
    let alive : c.load_parent-parent.result ≢ dead_mark (here q).row = search rules in
    let since₁ : length q.seen ≤ (here q₁).since = search rules in
    let since : length q.seen ≤ (here q₂).since = subst (λ (x : Held). length q.seen ≤ x.since) (sym (here_more q₁ q₂ c.find_slot-place.ensures.sees)) since₁ in
    let kind : q₂.shape.kind ≡ q.shape.kind = ap (λ (z : PassPart). z.shape.kind) c.find_slot-place.ensures.sees.is ∙ ap (λ (z : PassPart). z.shape.kind) c.walk.ensures.goes.is in
    subst (λ (k : Kind). AnswersBy q₄ (here q) (length q.seen) (Find (c.args.leaf.now.max + 1) (greatest_of k)) c.first_at-range.result) kind
    (beside_by q₃ q₄ _ _ _ c.load_parent-parent.ensures.told (here q) (length q.seen) (here q₂).since c.requires.leaf.on.met since _ _ c.first_at-range.ensures.answer.answers ((word_tells g at.After-load_parent-parent (still_held g at.After-first_at-range)).past alive c.requires.leaf.level))
