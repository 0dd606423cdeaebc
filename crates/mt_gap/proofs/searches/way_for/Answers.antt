use Rattle.mt_gap.proofs.Prelude.{◌+◌, ◌*◌, ◌≤◌, rules, sym, ap, ◌∙◌, subst, arith, IfSome, Rooted, Sheet, height_in, sought_to, IsAreaAt, IsOneWay, last_loads, last_step, loads_at, loads_on, one_read, reads_on}
use Rattle.mt_gap.proofs.OneWay.{sought_is, same_begin, same_end, few_empty, few_nowhere, few_leaf, few_levels, found_empty, found_leaf, found_levels, one_leaf}
use Rattle.mt_gap.proofs.SingleWay.{one_way_full, some_if, some_two}
use Rattle.mt_gap.proofs.searches.way_for.Goals as goal

-- ---- where the tree is empty

pub returns-then-word-eq0-clause-goes : goal.returns-then-word-eq0-clause-goes
returns-then-word-eq0-clause-goes g c =
    let t₁ = g.R.Rows.sheet c.area_by_levels.new.rows in
    let same = ap (λ (r : Sheet). r.tree) c.root-word.ensures.rest in
    record {
      way = subst (λ (t : Rooted). IfSome c.area_by_levels.result (λ area. IsAreaAt t c.area_by_levels.new.path.items area)) same c.area_by_levels.ensures.way;
      rest = reads_on (g.R.Rows.sheet c.args.rows.now) (g.R.Rows.sheet c.root-word.new.self) t₁ (one_read (g.R.Rows.sheet c.args.rows.now) (g.R.Rows.sheet c.root-word.new.self) c.root-word.ensures.rest).rest c.area_by_levels.ensures.rest;
      reads = λ none. few_empty (g.R.Rows.sheet c.args.rows.now) (g.R.Rows.sheet c.root-word.new.self) t₁ c.root-word.ensures.rest (c.area_by_levels.ensures.reads none);
      found = some_if c.area_by_levels.result (found_empty (g.R.Rows.sheet c.args.rows.now) (g.R.Rows.sheet c.root-word.new.self) t₁ (loads_on c.area_by_levels.new.path.items) c.root-word.ensures.rest) c.area_by_levels.ensures.found;
      one = λ one. absurd (one_way_full c.args.side c.args.window (g.R.Rows.sheet c.args.rows.now).tree one (sym c.root-word.ensures.word ∙ c.if-word-eq0.true));
      steps = subst (λ (t : Rooted). c.area_by_levels.new.steps ≤ c.args.steps.now + 3 * height_in t.table t.root) same c.area_by_levels.ensures.steps;
    }

-- ---- where nothing has room

pub returns-in-Nowhere-clause-place : goal.returns-in-Nowhere-clause-place
returns-in-Nowhere-clause-place g c =
    sym c.in-Nowhere.ensures.end ∙ (sought_is c.args.side c.args.window (g.R.Rows.sheet c.root-word.new.self).tree ∙ ap (λ (t : Rooted). sought_to c.args.side c.args.window t) (same_begin (g.R.Rows.sheet c.args.rows.now) (g.R.Rows.sheet c.root-word.new.self) (g.R.Rows.sheet c.go_one_way.new.rows) c.root-word.ensures.rest c.go_one_way.ensures.reads))

pub returns-in-Nowhere-clause-goes : goal.returns-in-Nowhere-clause-goes
returns-in-Nowhere-clause-goes g c =
    let few = few_nowhere (g.R.Rows.sheet c.args.rows.now) (g.R.Rows.sheet c.root-word.new.self) (g.R.Rows.sheet c.go_one_way.new.rows) c.root-word.ensures.rest c.go_one_way.ensures.reads in
    record {
      way = tt;
      rest = few.rest;
      reads = λ none. few;
      found = tt;
      one = λ one. tt;
      steps = omega arith;
    }

-- ---- where one row of each level was gone into

pub returns-in-Leaf-clause-place : goal.returns-in-Leaf-clause-place
returns-in-Leaf-clause-place g c =
    c.area_in_leaf.ensures.place ∙ (sought_is c.args.side c.args.window (g.R.Rows.sheet c.go_one_way.new.rows).tree ∙ ap (λ (t : Rooted). sought_to c.args.side c.args.window t) (same_end (g.R.Rows.sheet c.args.rows.now) (g.R.Rows.sheet c.root-word.new.self) (g.R.Rows.sheet c.go_one_way.new.rows) c.root-word.ensures.rest c.go_one_way.ensures.reads))

pub returns-in-Leaf-clause-goes : goal.returns-in-Leaf-clause-goes
returns-in-Leaf-clause-goes g c =
    let root = ap (λ (t : Rooted). t.root) (same_begin (g.R.Rows.sheet c.args.rows.now) (g.R.Rows.sheet c.root-word.new.self) (g.R.Rows.sheet c.go_one_way.new.rows) c.root-word.ensures.rest c.go_one_way.ensures.reads) in
    let t₁ = g.R.Rows.sheet c.area_in_leaf.new.rows in
    let path = c.area_in_leaf.new.path.items in
    record {
      way = subst (λ (t : Rooted). IfSome c.area_in_leaf.result (λ area. IsAreaAt t path area)) (same_end (g.R.Rows.sheet c.args.rows.now) (g.R.Rows.sheet c.root-word.new.self) (g.R.Rows.sheet c.go_one_way.new.rows) c.root-word.ensures.rest c.go_one_way.ensures.reads) c.area_in_leaf.ensures.way;
      rest = reads_on (g.R.Rows.sheet c.args.rows.now) (g.R.Rows.sheet c.go_one_way.new.rows) t₁ (few_nowhere (g.R.Rows.sheet c.args.rows.now) (g.R.Rows.sheet c.root-word.new.self) (g.R.Rows.sheet c.go_one_way.new.rows) c.root-word.ensures.rest c.go_one_way.ensures.reads).rest c.area_in_leaf.ensures.rest;
      reads = λ none. few_leaf (g.R.Rows.sheet c.args.rows.now) (g.R.Rows.sheet c.root-word.new.self) (g.R.Rows.sheet c.go_one_way.new.rows) c.root-word.ensures.rest c.go_one_way.ensures.reads c.requires.tree (search rules) t₁ (c.area_in_leaf.ensures.reads none);
      found = some_two c.area_in_leaf.result
          (λ deep. found_leaf (g.R.Rows.sheet c.args.rows.now) (g.R.Rows.sheet c.root-word.new.self) (g.R.Rows.sheet c.go_one_way.new.rows) c.root-word.ensures.rest c.go_one_way.ensures.reads c.requires.tree (search rules) t₁ (loads_at (last_step path) + 1) (loads_on path) (let low = last_loads path deep in omega (arith, low)))
          c.area_in_leaf.ensures.deep c.area_in_leaf.ensures.found;
      one = λ one.
          let above = (c.in-Leaf.ensures.one (subst (IsOneWay c.args.side c.args.window) (sym (same_begin (g.R.Rows.sheet c.args.rows.now) (g.R.Rows.sheet c.root-word.new.self) (g.R.Rows.sheet c.go_one_way.new.rows) c.root-word.ensures.rest c.go_one_way.ensures.reads)) one)).1 in
          some_if c.area_in_leaf.result (one_leaf (g.R.Rows.sheet c.args.rows.now) (g.R.Rows.sheet c.root-word.new.self) (g.R.Rows.sheet c.go_one_way.new.rows) c.root-word.ensures.rest c.go_one_way.ensures.reads c.requires.tree (search rules) above t₁ (loads_at (last_step path))) c.area_in_leaf.ensures.found;
      steps = omega arith;
    }

-- ---- where more than one row of a level may have room

pub returns-in-Branch-clause-place : goal.returns-in-Branch-clause-place
returns-in-Branch-clause-place g c =
    c.area_by_levels-in-Branch.ensures.place ∙ ap (λ (t : Rooted). sought_to c.args.side c.args.window t) (same_end (g.R.Rows.sheet c.args.rows.now) (g.R.Rows.sheet c.root-word.new.self) (g.R.Rows.sheet c.go_one_way.new.rows) c.root-word.ensures.rest c.go_one_way.ensures.reads)

pub returns-in-Branch-clause-goes : goal.returns-in-Branch-clause-goes
returns-in-Branch-clause-goes g c =
    let t₁ = g.R.Rows.sheet c.area_by_levels-in-Branch.new.rows in
    let path = c.area_by_levels-in-Branch.new.path.items in
    record {
      way = subst (λ (t : Rooted). IfSome c.area_by_levels-in-Branch.result (λ area. IsAreaAt t path area)) (same_end (g.R.Rows.sheet c.args.rows.now) (g.R.Rows.sheet c.root-word.new.self) (g.R.Rows.sheet c.go_one_way.new.rows) c.root-word.ensures.rest c.go_one_way.ensures.reads) c.area_by_levels-in-Branch.ensures.way;
      rest = reads_on (g.R.Rows.sheet c.args.rows.now) (g.R.Rows.sheet c.go_one_way.new.rows) t₁ (few_nowhere (g.R.Rows.sheet c.args.rows.now) (g.R.Rows.sheet c.root-word.new.self) (g.R.Rows.sheet c.go_one_way.new.rows) c.root-word.ensures.rest c.go_one_way.ensures.reads).rest c.area_by_levels-in-Branch.ensures.rest;
      reads = λ none. few_levels (g.R.Rows.sheet c.args.rows.now) (g.R.Rows.sheet c.root-word.new.self) (g.R.Rows.sheet c.go_one_way.new.rows) c.root-word.ensures.rest c.go_one_way.ensures.reads t₁ (c.area_by_levels-in-Branch.ensures.reads none);
      found = some_if c.area_by_levels-in-Branch.result (found_levels (g.R.Rows.sheet c.args.rows.now) (g.R.Rows.sheet c.root-word.new.self) (g.R.Rows.sheet c.go_one_way.new.rows) c.root-word.ensures.rest c.go_one_way.ensures.reads t₁ (loads_on path)) c.area_by_levels-in-Branch.ensures.found;
      one = λ one. absurd (c.in-Branch.ensures.one (subst (IsOneWay c.args.side c.args.window) (sym (same_begin (g.R.Rows.sheet c.args.rows.now) (g.R.Rows.sheet c.root-word.new.self) (g.R.Rows.sheet c.go_one_way.new.rows) c.root-word.ensures.rest c.go_one_way.ensures.reads)) one)).0;
      steps = subst (λ (t : Rooted). c.area_by_levels-in-Branch.new.steps ≤ c.args.steps.now + 3 * height_in t.table t.root) (same_end (g.R.Rows.sheet c.args.rows.now) (g.R.Rows.sheet c.root-word.new.self) (g.R.Rows.sheet c.go_one_way.new.rows) c.root-word.ensures.rest c.go_one_way.ensures.reads) c.area_by_levels-in-Branch.ensures.steps;
    }
