use Rattle.mt_tree.proofs.Prelude.{sym, ◌∙◌, ◌+◌, arith, refl, tree_if_lawful, reads_on}
use Rattle.mt_tree.proofs.Overwriting.{all_told, few_told, fewer_left, none_told, one_told, rest_above}
use Rattle.mt_tree.proofs.overwrites.tell_from.Goals as goal

pub loop-range-init : goal.loop-range-init
loop-range-init g c =
    let e = c.args.engine.now in
    record {
      book = refl;
      kind = refl;
      told = none_told g.P.RangePlace.shows e.sheet e.kind (tree_if_lawful e.sheet.tree e.kind c.lawful.ensures) c.args.first c.args.last c.args.met.now c.walk_from-walk.result c.walk_from-walk.ensures.walk c.walk_from-walk.ensures.next;
    }

pub loop-range-smaller : goal.loop-range-smaller
loop-range-smaller g c =
    let e = c.args.engine.now in
    fewer_left g.P.RangePlace.shows e.sheet e.kind (tree_if_lawful e.sheet.tree e.kind c.lawful.ensures) c.args.first c.args.last c.args.met.now c.loop-range.engine.sheet c.loop-range.walk c.loop-range.met c.loop-range.count c.loop-range.invariant.told
    c.in-Some.range c.in-Some.ensures.range c.next_range.new.walk c.in-Some.ensures.next

-- that one range more was told has to hold for the sum that counts it, too
pub overflow_add-count : goal.overflow_add-count
overflow_add-count g c =
    let e = c.args.engine.now in
    let tree = tree_if_lawful e.sheet.tree e.kind c.lawful.ensures in
    let few =
    few_told g.P.RangePlace.shows e.sheet e.kind tree c.args.first c.args.last c.args.met.now c.next_range.new.self.sheet c.next_range.new.walk c.tell_at.new.met (c.loop-range.count + 1)
    (one_told g.P.RangePlace.shows e.sheet e.kind tree c.args.first c.args.last c.args.met.now c.loop-range.engine.sheet c.loop-range.walk c.loop-range.met c.loop-range.count c.loop-range.invariant.told
    c.in-Some.range c.in-Some.ensures.range c.next_range.new.walk c.in-Some.ensures.next (omega arith) c.next_range.new.self.sheet c.in-Some.ensures.rest c.in-Some.ensures.walk c.tell_at.new.met c.tell_at.ensures) in
    omega (arith, few)

pub loop-range-preserved : goal.loop-range-preserved
loop-range-preserved g c =
    let e = c.args.engine.now in
    let was = c.loop-range.invariant in
    record {
      book = c.in-Some.ensures.book ∙ was.book;
      kind = c.in-Some.ensures.kind ∙ was.kind;
      told = one_told g.P.RangePlace.shows e.sheet e.kind (tree_if_lawful e.sheet.tree e.kind c.lawful.ensures) c.args.first c.args.last c.args.met.now c.loop-range.engine.sheet c.loop-range.walk c.loop-range.met c.loop-range.count c.loop-range.invariant.told
          c.in-Some.range c.in-Some.ensures.range c.next_range.new.walk c.in-Some.ensures.next (omega arith) c.next_range.new.self.sheet c.in-Some.ensures.rest c.in-Some.ensures.walk c.tell_at.new.met c.tell_at.ensures;
    }

pub returns-clause-tells : goal.returns-clause-tells
returns-clause-tells g c =
    let e = c.args.engine.now in
    all_told g.P.RangePlace.shows e.sheet e.kind (tree_if_lawful e.sheet.tree e.kind c.lawful.ensures) c.args.first c.args.last c.args.met.now c.loop-range.engine.sheet c.loop-range.walk c.loop-range.met c.loop-range.count c.loop-range.invariant.told
    (sym c.in_default.is ∙ c.next_range.ensures.range)

pub returns-clause-rest : goal.returns-clause-rest
returns-clause-rest g c = reads_on c.args.engine.now.sheet c.loop-range.engine.sheet c.next_range.new.self.sheet c.loop-range.invariant.told.rest c.next_range.ensures.rest

pub returns-clause-book : goal.returns-clause-book
returns-clause-book g c = c.next_range.ensures.book ∙ c.loop-range.invariant.book

pub returns-clause-kind : goal.returns-clause-kind
returns-clause-kind g c = c.next_range.ensures.kind ∙ c.loop-range.invariant.kind

pub returns-then-range-last-clause-tells : goal.returns-then-range-last-clause-tells
returns-then-range-last-clause-tells g c =
    let e = c.args.engine.now in
    rest_above g.P.RangePlace.shows e.sheet e.kind (tree_if_lawful e.sheet.tree e.kind c.lawful.ensures) c.args.first c.args.last c.args.met.now c.loop-range.engine.sheet c.loop-range.walk c.loop-range.met c.loop-range.count c.loop-range.invariant.told
    c.in-Some.range c.in-Some.ensures.range c.if-range-last.true

pub returns-then-range-last-clause-rest : goal.returns-then-range-last-clause-rest
returns-then-range-last-clause-rest g c = reads_on c.args.engine.now.sheet c.loop-range.engine.sheet c.next_range.new.self.sheet c.loop-range.invariant.told.rest c.in-Some.ensures.rest

pub returns-then-range-last-clause-book : goal.returns-then-range-last-clause-book
returns-then-range-last-clause-book g c = c.in-Some.ensures.book ∙ c.loop-range.invariant.book

pub returns-then-range-last-clause-kind : goal.returns-then-range-last-clause-kind
returns-then-range-last-clause-kind g c = c.in-Some.ensures.kind ∙ c.loop-range.invariant.kind
