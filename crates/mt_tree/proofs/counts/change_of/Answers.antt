use Rattle.mt_tree.proofs.Prelude.{◌≡◌, ◌∙◌, ◌+◌, ◌≤◌, ℕ, ap, refl, subst, Sheet, map_by, holding, tree_if_lawful, tree_map, reads_on, part_before, part_behind}
use Rattle.mt_tree.proofs.RangeCounts.{change_is}
use Rattle.mt_tree.proofs.counts.change_of.Goals as goal

pub returns-clause-change : goal.returns-clause-change
returns-clause-change g c =
    let e = c.args.engine.now in
    let m = map_by e.sheet.tree in
    let low : c.ask-low.result ≡ holding m c.args.first = c.ask-low.ensures.answer ∙ ap (λ (s : Sheet). holding (map_by s.tree) c.args.first) c.tell_met-gone.ensures.rest in
    let high : c.ask-high.result ≡ holding m c.args.last = c.ask-high.ensures.answer ∙ (ap (λ (s : Sheet). holding (map_by s.tree) c.args.last) c.ask-low.ensures.rest ∙ ap (λ (s : Sheet). holding (map_by s.tree) c.args.last) c.tell_met-gone.ensures.rest) in
    let before = c.part_before.ensures.is ∙ ap (part_before c.args.first) low in
    let behind = c.part_behind.ensures.is ∙ ap (part_behind c.args.last) high in
    change_is m c.args.first c.args.last c.args.entry c.tell_met-gone.result _ c.requires (tree_map e.sheet.tree e.kind (tree_if_lawful e.sheet.tree e.kind c.lawful.ensures)).rise c.tell_met-gone.ensures.tells.counted
    (subst (λ (n : ℕ). n ≤ 1) before c.part_before.ensures.one) (subst (λ (n : ℕ). n ≤ 1) behind c.part_behind.ensures.one) (subst (λ (n : ℕ). n ≤ 1) c.part_own.ensures.is c.part_own.ensures.one)
    refl (λ i. before i + behind i + c.part_own.ensures.is i)

pub returns-clause-rest : goal.returns-clause-rest
returns-clause-rest g c =
    let e = c.args.engine.now in
    reads_on e.sheet c.ask-low.new.self.sheet c.ask-high.new.self.sheet (reads_on e.sheet c.tell_met-gone.new.engine.sheet c.ask-low.new.self.sheet c.tell_met-gone.ensures.rest c.ask-low.ensures.rest) c.ask-high.ensures.rest

pub returns-clause-book : goal.returns-clause-book
returns-clause-book g c = c.ask-high.ensures.book ∙ (c.ask-low.ensures.book ∙ c.tell_met-gone.ensures.book)

pub returns-clause-kind : goal.returns-clause-kind
returns-clause-kind g c = c.ask-high.ensures.kind ∙ (c.ask-low.ensures.kind ∙ c.tell_met-gone.ensures.kind)
