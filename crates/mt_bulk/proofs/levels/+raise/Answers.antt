use Rattle.mt_bulk.proofs.Prelude.{◌≡◌, ◌≢◌, ◌+◌, ◌++◌, ℕ, List, length, sym, ap, ◌∙◌, subst, arith, length-append, append_assoc, Item, inner_kind, AreLevels, Built, levels_built, IsLevelToNumber, heads_in, chunk_words}
use Rattle.mt_bulk.proofs.Leveling.{first_level, known_level, length_heads_in, some_levels}
use Rattle.mt_bulk.proofs.Raising.{LevelFacts, above_with, view_with}
use Rattle.mt_bulk.proofs.levels.+raise.Goals.{After-deref-2, After-len-rows, After-deref-3}
use Rattle.mt_bulk.proofs.levels.+raise.Goals as goal

pub unreachable-requires : goal.unreachable-requires
unreachable-requires t c =
    let some = some_levels c.args.tree c.args.number (length c.args.items.now) c.args.levels.now c.requires.levels in
    let none = c.in_default.ensures.cases in
    absurd (omega (arith, some, none))

-- the rows of the first level, over the items that are given
level_facts : (t : ℕ) (c : After-deref-2 t) → LevelFacts c.args.tree 1 c.args.number c.args.items.now c.inner_kind-kind.result c.deref.result.now c.deref-2.result.now
level_facts t c =
    let tree = c.args.tree in
    let number = c.args.number in
    let items = c.args.items.now in
    let level = c.in-Some.level.now in
    let laid = first_level tree number (length items) c.args.levels.now c.in-Some.above.now level c.in-Some.ensures.cases.0 c.requires.levels in
    known_level tree number items c.inner_kind-kind.result level c.deref.result.now c.deref-2.result.now c.inner_kind-kind.ensures c.requires.level laid.0 c.deref.ensures.value c.deref-2.ensures.value

-- they are as many as their ends
as_many : (t : ℕ) (c : After-len-rows t) → c.len-rows.result ≡ length c.deref.result.now
as_many t c = c.len-rows.ensures ∙ (c.in-Some.level.now.ends.ok.0 ∙ sym (ap length c.deref.ensures.value))

-- the heads of these rows are the items of the level above
heads_are : (t : ℕ) (c : After-deref-3 t) → c.deref-3.result.now ≡ heads_in (view_with c.args.tree c.inner_kind-kind.result c.args.number c.args.items.now c.deref.result.now c.deref-2.result.now)
heads_are t c =
    let view = view_with c.args.tree c.inner_kind-kind.result c.args.number c.args.items.now c.deref.result.now c.deref-2.result.now in
    let laid = first_level c.args.tree c.args.number (length c.args.items.now) c.args.levels.now c.in-Some.above.now c.in-Some.level.now c.in-Some.ensures.cases.0 c.requires.levels in
    c.deref-3.ensures.value ∙ (c.fill_rows.ensures.heads ∙ ap (λ (l : List Item). l ++ heads_in view) laid.0.heads)

-- so what is built of them is what stands above these rows
upper_is : (t : ℕ) (c : After-deref-3 t) → c.len-rows.result ≡ length c.deref.result.now → levels_built c.args.tree (inner_kind c.args.tree) (c.args.number + c.len-rows.result) c.deref-3.result.now ≡ above_with c.args.tree c.inner_kind-kind.result c.args.number c.args.items.now c.deref.result.now c.deref-2.result.now
upper_is t c many = (λ i. levels_built c.args.tree (inner_kind c.args.tree) (c.args.number + many i) (heads_are t c i))

pub fill_rows-requires-clause-rows : goal.fill_rows-requires-clause-rows
fill_rows-requires-clause-rows t c =
    let facts = level_facts t (goal.at.fill_rows-requires-clause-rows t c).After-deref-2 in
    facts.can

pub fill_rows-requires-clause-words : goal.fill_rows-requires-clause-words
fill_rows-requires-clause-words t c =
    let facts = level_facts t (goal.at.fill_rows-requires-clause-words t c).After-deref-2 in
    let low = facts.room in
    let room = c.requires.room in
    omega (arith, low, room)

pub fill_rows-requires-clause-heads : goal.fill_rows-requires-clause-heads
fill_rows-requires-clause-heads t c =
    let tree = c.args.tree in
    let number = c.args.number in
    let items = c.args.items.now in
    let level = c.in-Some.level.now in
    let laid = first_level tree number (length items) c.args.levels.now c.in-Some.above.now level c.in-Some.ensures.cases.0 c.requires.levels in
    let room = laid.0.room in
    omega (arith, room, ap length c.deref.ensures.value)

pub name_of-requires : goal.name_of-requires
name_of-requires t c =
    let facts = level_facts t (goal.at.name_of-requires t c).After-deref-2 in
    let low = facts.within in
    let some = facts.some in
    let first = c.requires.level.first in
    (first, omega (arith, low, some))

pub returns-then-rows-eq1-clause-root : goal.returns-then-rows-eq1-clause-root
returns-then-rows-eq1-clause-root t c =
    let at = goal.at.returns-then-rows-eq1-clause-root t c in
    c.word.ensures.word ∙ (c.name_of.ensures ∙ sym (ap (λ (b : Built). b.root) ((level_facts t at.After-deref-2).alone (sym (as_many t at.After-len-rows) ∙ c.if-rows-eq1.true))))

pub returns-then-rows-eq1-clause-words : goal.returns-then-rows-eq1-clause-words
returns-then-rows-eq1-clause-words t c =
    let at = goal.at.returns-then-rows-eq1-clause-words t c in
    c.fill_rows.ensures.words ∙ ap (λ (l : List ℕ). c.args.words.now.items ++ l) (sym (ap (λ (b : Built). b.words) ((level_facts t at.After-deref-2).alone (sym (as_many t at.After-len-rows) ∙ c.if-rows-eq1.true))))

pub overflow_cast-rows : goal.overflow_cast-rows
overflow_cast-rows t c = let at = goal.at.overflow_cast-rows t c in omega (arith, as_many t at.After-len-rows, (level_facts t at.After-deref-2).within)

pub overflow_add-number : goal.overflow_add-number
overflow_add-number t c = let at = goal.at.overflow_add-number t c in omega (arith, as_many t at.After-len-rows, (level_facts t at.After-deref-2).within)

pub raise-requires : goal.raise-requires
raise-requires t c =
    let at = goal.at.raise-requires t c in
    let tree = c.args.tree in
    let number = c.args.number in
    let level = c.in-Some.level.now in
    let laid = first_level tree number (length c.args.items.now) c.args.levels.now c.in-Some.above.now level c.in-Some.ensures.cases.0 c.requires.levels in
    let facts = level_facts t at.After-deref-2 in
    let many = as_many t at.After-len-rows in
    let above = heads_are t at.After-deref-3 in
    let more : length c.deref.result.now ≢ 1 = λ one. c.if-rows-eq1.false (many ∙ one) in
    let view = view_with tree c.inner_kind-kind.result number c.args.items.now c.deref.result.now c.deref-2.result.now in
    let next : number + c.len-rows.result ≡ number + length c.deref.result.now = ap (λ (n : ℕ). number + n) many in
    let falls = c.decreases in
    let rest = c.in-Some.ensures.cases.1 in
    let all = ap (λ (b : Built). length b.words) (facts.several more) in
    let both = length-append (chunk_words view) (above_with tree c.inner_kind-kind.result number c.args.items.now c.deref.result.now c.deref-2.result.now).words in
    let same_words = ap (λ (b : Built). length b.words) (upper_is t at.After-deref-3 many) in
    let room = c.requires.room in
    let filled = ap length c.fill_rows.ensures.words in
    let front = length-append c.args.words.now.items (chunk_words view) in
    let old = c.args.words.now.ok.0 in
    let new = c.fill_rows.new.words.ok.0 in
    let capacity = c.fill_rows.ensures.capacity in
    let count : c.len-rows.result ≡ length c.deref-3.result.now = many ∙ sym (ap length above ∙ length_heads_in view) in
    let own : c.len-rows.result ≡ length level.ends.items = c.len-rows.ensures ∙ level.ends.ok.0 in (
      omega arith,
      (
        subst (λ (n : ℕ). IsLevelToNumber tree n c.deref-3.result.now) (sym next) (subst (IsLevelToNumber tree (number + length c.deref.result.now)) (sym above) (facts.level more)),
        (
          subst (λ (n : ℕ). AreLevels tree (number + c.len-rows.result) n c.in-Some.above.now) count (subst (λ (n : ℕ). AreLevels tree (number + n) n c.in-Some.above.now) (sym own) (laid.1 (λ one. c.if-rows-eq1.false (own ∙ one)))),
          omega (arith, all, both, same_words, room, filled, front, old, new, capacity),
        ),
      ),
    )

pub returns-clause-root : goal.returns-clause-root
returns-clause-root t c =
    let at = goal.at.returns-clause-root t c in
    let facts = level_facts t at.After-deref-2 in
    let many = as_many t at.After-len-rows in
    c.raise.ensures.root ∙ (ap (λ (b : Built). b.root) (upper_is t at.After-deref-3 many) ∙ sym (ap (λ (b : Built). b.root) (facts.several (λ one. c.if-rows-eq1.false (many ∙ one)))))

pub returns-clause-words : goal.returns-clause-words
returns-clause-words t c =
    let at = goal.at.returns-clause-words t c in
    let facts = level_facts t at.After-deref-2 in
    let many = as_many t at.After-len-rows in
    let view = view_with c.args.tree c.inner_kind-kind.result c.args.number c.args.items.now c.deref.result.now c.deref-2.result.now in
    let next = levels_built c.args.tree (inner_kind c.args.tree) (c.args.number + c.len-rows.result) c.deref-3.result.now in
    c.raise.ensures.words
    ∙ (ap (λ (l : List ℕ). l ++ next.words) c.fill_rows.ensures.words
    ∙ (append_assoc c.args.words.now.items (chunk_words view) next.words
    ∙ ap (λ (l : List ℕ). c.args.words.now.items ++ l) ((λ i. chunk_words view ++ (upper_is t at.After-deref-3 many i).words) ∙ sym (ap (λ (b : Built). b.words) (facts.several (λ one. c.if-rows-eq1.false (many ∙ one)))))))
