use Rattle.mt_bulk.proofs.Prelude.{◌≡◌, ◌≢◌, ◌+◌, ◌++◌, ℕ, List, length, sym, ap, ◌∙◌, subst, arith, first_row, inner_kind, AreLevels, above_leaves, whole_of, Built, levels_built, IsLevelToNumber, heads_in, chunk_words}
use Rattle.mt_bulk.proofs.Leveling.{length_heads_in, words_above}
use Rattle.mt_bulk.proofs.building.raise_all.Goals.{After-len-count}
use Rattle.mt_bulk.proofs.building.raise_all.Goals as goal

-- the leaves are as many as their ends
as_many : (c : After-len-count) → c.len-count.result ≡ length c.args.leaves.now.ends.items
as_many c = c.len-count.ensures ∙ c.args.leaves.now.ends.ok.0

-- what is built of their heads is what stands above them
upper_is : (c : After-len-count) → levels_built c.args.leaves.now.kind (inner_kind c.args.leaves.now.kind) (first_row + c.len-count.result) c.args.heads.now ≡ above_leaves c.args.leaves.now.kind c.args.leaves.now.items.items c.args.leaves.now.ends.items c.args.leaves.now.parents.items
upper_is c = (λ i. levels_built c.args.leaves.now.kind (inner_kind c.args.leaves.now.kind) (first_row + as_many c i) (c.requires.heads i))

pub returns-then-count-eq1-clause-root : goal.returns-then-count-eq1-clause-root
returns-then-count-eq1-clause-root c =
    let count = as_many (goal.at.returns-then-count-eq1-clause-root c).After-len-count in
    c.word.ensures.word ∙ (c.name_of.ensures ∙ sym (ap (λ (b : Built). b.root) (c.requires.leaves.alone (sym count ∙ c.if-count-eq1.true))))

pub returns-then-count-eq1-clause-words : goal.returns-then-count-eq1-clause-words
returns-then-count-eq1-clause-words c =
    let count = as_many (goal.at.returns-then-count-eq1-clause-words c).After-len-count in
    c.requires.words ∙ sym (ap (λ (b : Built). b.words) (c.requires.leaves.alone (sym count ∙ c.if-count-eq1.true)))

pub raise-requires-clause-level : goal.raise-requires-clause-level
raise-requires-clause-level c =
    let l = c.args.leaves.now in
    let count = as_many (goal.at.raise-requires-clause-level c).After-len-count in
    let next : first_row + c.len-count.result ≡ first_row + length l.ends.items = ap (λ (n : ℕ). first_row + n) count in
    subst (IsLevelToNumber l.kind (first_row + c.len-count.result)) (sym c.requires.heads)
    (subst (λ (n : ℕ). IsLevelToNumber l.kind n (heads_in (whole_of l))) (sym next) (c.requires.leaves.level (λ one. c.if-count-eq1.false (count ∙ one))))

pub raise-requires-clause-levels : goal.raise-requires-clause-levels
raise-requires-clause-levels c =
    let l = c.args.leaves.now in
    let levels = c.args.levels.now in
    let count = as_many (goal.at.raise-requires-clause-levels c).After-len-count in
    let same : c.len-count.result ≡ length c.args.heads.now = count ∙ sym (ap length c.requires.heads ∙ length_heads_in (whole_of l)) in
    subst (λ (n : ℕ). AreLevels l.kind (first_row + c.len-count.result) n levels) same
    (subst (λ (n : ℕ). AreLevels l.kind (first_row + n) n levels) (sym count) (c.requires.levels (λ one. c.if-count-eq1.false (count ∙ one))))

pub raise-requires-clause-room : goal.raise-requires-clause-room
raise-requires-clause-room c =
    let at = (goal.at.raise-requires-clause-room c).After-len-count in
    let more : length c.args.leaves.now.ends.items ≢ 1 = λ one. c.if-count-eq1.false (as_many at ∙ one) in
    let room = c.requires.room in
    omega (arith, words_above c.args.leaves.now c.requires.leaves more, ap (λ (b : Built). length b.words) (upper_is at), ap length c.requires.words, c.args.words.now.ok.0, room)

pub returns-clause-root : goal.returns-clause-root
returns-clause-root c =
    let at = (goal.at.returns-clause-root c).After-len-count in
    let more : length c.args.leaves.now.ends.items ≢ 1 = λ one. c.if-count-eq1.false (as_many at ∙ one) in
    c.raise.ensures.root ∙ (ap (λ (b : Built). b.root) (upper_is at) ∙ sym (ap (λ (b : Built). b.root) (c.requires.leaves.several more)))

pub returns-clause-words : goal.returns-clause-words
returns-clause-words c =
    let l = c.args.leaves.now in
    let at = (goal.at.returns-clause-words c).After-len-count in
    let more : length l.ends.items ≢ 1 = λ one. c.if-count-eq1.false (as_many at ∙ one) in
    c.raise.ensures.words ∙ (ap (λ (x : List ℕ). x ++ (levels_built l.kind (inner_kind l.kind) (first_row + c.len-count.result) c.args.heads.now).words) c.requires.words
    ∙ ((λ i. chunk_words (whole_of l) ++ (upper_is at i).words) ∙ sym (ap (λ (b : Built). b.words) (c.requires.leaves.several more))))
