use Rattle.mt_read.proofs.Prelude.{rules, arith, ◌≡◌, ◌≢◌, ◌-◌, ◌≤◌, ◌∙◌, [], length, refl, sym, ap, subst, Kind, greatest_of, kind_width, dead_mark, Held, IsAt, here, moment_seen, part_of, IsUnder, IsLeafBefore, ParentTells}
use Rattle.mt_read.proofs.Descending.{goes_on, goes_sees, here_more}
use Rattle.mt_read.proofs.Reading.{kind_goes}
use Rattle.mt_read.proofs.Keeping.{goes_marked, goes_unmarked, leaf_parent, leaf_tells}
use Rattle.mt_read.proofs.Leaving.{before_leaf, come_beside}
use Rattle.mt_read.proofs.Preceding.{last_by, lefts_nothing}
use Rattle.mt_read.proofs.lasts.last_beside.Given.{Over}
use Rattle.mt_read.proofs.lasts.last_beside.Goals.{After-last_at-range, After-load_parent-parent}
use Rattle.mt_read.proofs.lasts.last_beside.Goals as goal

pub walk-requires-clause-index : goal.walk-requires-clause-index
walk-requires-clause-index g c = let on = c.requires.leaf.on in let max = on.max in let within = on.within in let order = c.requires.order in omega arith

pub returns-in_default-clause-answer : goal.returns-in_default-clause-answer
returns-in_default-clause-answer g c =
    let q = part_of c.args.pass.now in let q' = part_of c.walk.new.pass in
    let none : (moment_seen q' (length q'.seen)).ranges ≡ [] = search rules in
    lefts_nothing q q' c.walk.ensures.goes none (here q) (c.args.leaf.now.min - 1)

pub returns-clause-goes : goal.returns-clause-goes
returns-clause-goes g c =
    goes_on _ _ _ c.walk.ensures.goes (goes_on _ _ _ (goes_sees _ _ c.find_slot-place.ensures.sees) (goes_on _ _ _ c.last_at-range.ensures.goes (goes_unmarked _ _ _ _ _ c.load_parent-parent.ensures.told (search rules))))

-- the parent word tells of a leaf that is held below
word_tells : (g : Over) (c : After-load_parent-parent g) → IsUnder (part_of c.last_at-range.new.pass) (here (part_of c.args.pass.now)) → ParentTells (part_of c.load_parent-parent.new.pass) (here (part_of c.args.pass.now)) c.load_parent-parent.result
word_tells g c held = leaf_tells (part_of c.last_at-range.new.pass) _ _ _ _ c.load_parent-parent.ensures.told (here (part_of c.args.pass.now)) held refl c.requires.leaf.on.number

-- as the leaf is when that is loaded
still_held : (g : Over) (c : After-last_at-range g) → IsUnder (part_of c.last_at-range.new.pass) (here (part_of c.args.pass.now))
still_held g c =
    let under : IsAt (part_of c.args.pass.now) → IsUnder (part_of c.walk.new.pass) (here (part_of c.args.pass.now)) = search rules in
    c.last_at-range.ensures.goes.under (here (part_of c.args.pass.now)) ((goes_sees _ _ c.find_slot-place.ensures.sees).under (here (part_of c.args.pass.now)) (under c.requires.leaf.on.at))

pub returns-then-is_dead_mark-clause-moved : goal.returns-then-is_dead_mark-clause-moved
returns-then-is_dead_mark-clause-moved g c =
    let q = part_of c.args.pass.now in let q₃ = part_of c.last_at-range.new.pass in let q₄ = part_of c.load_parent-parent.new.pass in
    let at = goal.at.returns-then-is_dead_mark-clause-moved g c in let held = still_held g at.After-last_at-range in
    let min = c.requires.leaf.on.min in let some = c.requires.some in
    let mark : c.load_parent-parent.result ≡ dead_mark c.args.leaf.now.at.number = search rules in
    let goes = goes_on _ _ _ c.walk.ensures.goes (goes_on _ _ _ (goes_sees _ _ c.find_slot-place.ensures.sees) c.last_at-range.ensures.goes) in
    let from : c.in-Some.before.min ≤ c.args.leaf.now.min - 1 = search rules in
    let to : c.args.leaf.now.min - 1 ≤ c.in-Some.before.max = search rules in
    come_beside IsLeafBefore (here q) q q₃ q₄ goes held (goes_marked q₃ q₄ _ _ _ c.load_parent-parent.ensures.told (here q) mark c.requires.leaf.on.number (word_tells g at.After-load_parent-parent held))
    (before_leaf (here q) q₄ c.in-Some.before (leaf_parent q₃ q₄ _ _ _ c.load_parent-parent.ensures.told c.in-Some.before c.last_at-range.ensures.leaf) (omega arith) (omega arith) (omega arith))

pub returns-clause-answer : goal.returns-clause-answer
returns-clause-answer g c =
    let q = part_of c.args.pass.now in let q₁ = part_of c.walk.new.pass in let q₂ = part_of c.find_slot-place.new.pass in let q₃ = part_of c.last_at-range.new.pass in let q₄ = part_of c.load_parent-parent.new.pass in
    let since₁ : length q.seen ≤ (here q₁).since = search rules in
    let since : length q.seen ≤ (here q₂).since = subst (λ (x : Held). length q.seen ≤ x.since) (sym (here_more q₁ q₂ c.find_slot-place.ensures.sees)) since₁ in
    let alive : c.load_parent-parent.result ≢ dead_mark (here q).row = search rules in
    let on = c.requires.leaf.on in
    let same = ap (λ (x : Held). x.extent.level) c.last_at-range.ensures.same.is in
    let level : (here q₂).extent.level ≡ 0 = sym same ∙ c.last_at-range.ensures.leaf.level in
    let kind = kind_goes q₂ q₃ c.last_at-range.ensures.goes in
    let wide : (here q₂).width ≡ kind_width q₃.shape.kind = c.find_slot-place.ensures.on.width ∙ ap kind_width (sym kind) in
    let min = on.min in let some = c.requires.some in
    let whole = goes_on _ _ _ c.walk.ensures.goes (goes_on _ _ _ (goes_sees _ _ c.find_slot-place.ensures.sees) c.last_at-range.ensures.goes) in
    let max = on.max in let within = on.within in let order = c.requires.order in
    let small : (here q).extent.first ≤ greatest_of q₃.shape.kind = subst (λ (k : Kind). (here q).extent.first ≤ greatest_of k) (sym (kind_goes q q₃ whole)) (omega arith) in
    last_by q₂ q₃ q₄ _ _ _ c.load_parent-parent.ensures.told c.find_slot-place.result (here q) (c.args.leaf.now.min - 1) (length q.seen) level wide c.find_slot-place.ensures.from c.find_slot-place.ensures.to (omega arith) small on.met since
    ((word_tells g (goal.at.returns-clause-answer g c).After-load_parent-parent (still_held g (goal.at.returns-clause-answer g c).After-last_at-range)).past alive c.requires.leaf.level) c.last_at-range.result (c.find_slot-place.result.slot ≡ 0) c.last_at-range.ensures.found c.last_at-range.ensures.none
