-- A line that was done on its tree was done among all trees, and a chain of lines is a lane.
use Rattle.mt_desks.proofs.Prelude.{◌≡◌, ◌≢◌, ◌⊎◌, ℕ, zero, suc, ◌<◌, ◌≤◌, true, List, [], ◌∷◌, ◌++◌, Option, Some, length, map, take, drop, get_or, slice_get, slice_set, arith, refl, sym, ap, ◌∙◌, subst, inl, inr, false≢true, ne_eqb, cases_eq, append-nil, length-set, map-append, map-set, take-append-le, take_all, flat_map-append, filter_map-append, slice_get-get_or, slice_get-map, slice_get_within, AllByRecursion, option_map, NamesBelow, Query, Range, Pass, Saw, begins_long, Item, Write, Ask, Scan, Line, Entry, Asked, Step, Outcome, Looked, IsDone, entry_of, place_within, step_of, Chain, Leads, by_lane_on, outcomes_of, answers_joined, leads_onward, learns_none, leads_on, saw_learns, done_each, same_some, set_here, set_there, asked_of, is_step, line_tree, SharedTree, IsSomeWorn, IsDoneUnless, AreAnsweredUnless, IsDoneOn, IsLineDone, DeskState, DeskDid, IsManned, StillManned, LaneRan, IsLooked, IsScanDone}
use Rattle.mt_desks.proofs.Scanning.{more_told, step_leads}

-- ---- a line among all trees

-- what came of a lane's line is on the line's tree
abbrev IsOnTree : ℕ → List Step → Type 0
IsOnTree tree steps = AllByRecursion (λ (s : Step). s.tree ≡ tree) steps

done_there : (a : Asked) (item : Item) (steps : List Step) → is_step item ≡ true → IsDone a item steps → IsOnTree (line_tree item) steps
done_there a (Write tree call) steps step d = done_each (λ (s : Step). s.tree ≡ tree) a (Write tree call) steps (λ on o same. same) d
done_there a (Ask tree query) steps step d = done_each (λ (s : Step). s.tree ≡ tree) a (Ask tree query) steps (λ on o same. same) d
done_there a (Scan tree index max count) steps step d = done_each (λ (s : Step). s.tree ≡ tree) a (Scan tree index max count) steps (λ on o same. same) d
done_there a item steps step d = absurd (false≢true step)

none_elsewhere : (tree lane number : ℕ) (steps : List Step) → tree ≢ number → IsOnTree tree steps → outcomes_of number lane steps ≡ []
none_elsewhere tree lane number [] apart h = refl
none_elsewhere tree lane number (s ∷ steps) apart h = rw (ne_eqb s.tree number (λ same. apart (sym h.0 ∙ same))) (none_elsewhere tree lane number steps apart h.1)

done_elsewhere : (worn : Type 0) (lane phase number : ℕ) (line : Line) (steps : List Step) → is_step line.item ≡ true → line_tree line.item ≢ number → IsDoneUnless worn (asked_of lane phase line) steps → outcomes_of number lane steps ≡ []
done_elsewhere worn lane phase number line steps step apart (inl d) = none_elsewhere (line_tree line.item) lane number steps apart (done_there (asked_of lane phase line) line.item steps step d)
done_elsewhere worn lane phase number line steps step apart (inr (w, none)) = ap (outcomes_of number lane) none

pub line_done : (trees : List SharedTree) (lane phase : ℕ) (line : Line) (passes : List Pass) (on : SharedTree) (p q : Pass) (room room' : List Entry) → is_step line.item ≡ true → slice_get trees (line_tree line.item) ≡ Some on → slice_get passes (line_tree line.item) ≡ Some p → IsDoneOn on (line_tree line.item) (asked_of lane phase line) p q room room' → IsLineDone trees (asked_of lane phase line) passes (slice_set passes (line_tree line.item) q) room room'
line_done trees lane phase line passes on p q room room' step on_is p_is d = record {
  steps = d.steps;
  done = elim d.done [
    | inl is ↦ inl is
    | inr none ↦ inr (record { number = line_tree line.item; tree = on; pass = q; tree_is = on_is; pass_is = set_here passes (line_tree line.item) p q p_is; all_taken = none.0 }, none.1)
  ];
  count = length-set passes (line_tree line.item) q;
  leads = λ number tree x y tree_is x_is y_is. leads_at number tree x y tree_is x_is y_is (cases_eq (line_tree line.item) number);
  told = d.told;
}
  where
    leads_at : (number : ℕ) (tree : SharedTree) (x y : Pass) → slice_get trees number ≡ Some tree → slice_get passes number ≡ Some x → slice_get (slice_set passes (line_tree line.item) q) number ≡ Some y → ((line_tree line.item ≡ number) ⊎ (line_tree line.item ≢ number)) → Leads tree.history x (outcomes_of number lane d.steps) y
    leads_at number tree x y tree_is x_is y_is (inl same) =
        let tree_same : on ≡ tree = same_some on tree (sym on_is ∙ (ap (slice_get trees) same ∙ tree_is)) in
        let x_same : p ≡ x = same_some p x (sym p_is ∙ (ap (slice_get passes) same ∙ x_is)) in
        let y_same : q ≡ y = same_some q y (sym (set_here passes (line_tree line.item) p q p_is) ∙ (ap (slice_get (slice_set passes (line_tree line.item) q)) same ∙ y_is)) in
        subst (λ (z : ℕ). Leads tree.history x (outcomes_of z lane d.steps) y) same
        (subst (λ (z : SharedTree). Leads z.history x (outcomes_of (line_tree line.item) lane d.steps) y) tree_same
        (subst (λ (z : Pass). Leads on.history z (outcomes_of (line_tree line.item) lane d.steps) y) x_same
        (subst (λ (z : Pass). Leads on.history p (outcomes_of (line_tree line.item) lane d.steps) z) y_same d.leads)))
    leads_at number tree x y tree_is x_is y_is (inr apart) =
        let none : outcomes_of number lane d.steps ≡ [] = done_elsewhere (on.most ≤ length q.seen) lane phase number line d.steps step apart d.done in
        let kept : x ≡ y = same_some x y (sym x_is ∙ (sym (set_there passes (line_tree line.item) number q (λ on. apart (sym on))) ∙ y_is)) in
        rw (none, kept) (learns_none y)

-- ---- a line on its tree

-- a tree that took no more calls: its pass saw them all, and nothing is told
pub worn_line : (tree : SharedTree) (number : ℕ) (a : Asked) (p q : Pass) (room : List Entry) → Saw tree.history p q → length q.seen ≡ tree.most → IsDoneOn tree number a p q room room
worn_line tree number a p q room saw all = record { steps = []; done = inr (omega (arith, all), refl); leads = saw_learns tree.history p q saw; told = sym (append-nil room) }

pub read_line : (tree : SharedTree) (number line lane phase : ℕ) (query : Query) (value : Option Range) (p q : Pass) (room room' : List Entry) → IsLooked line tree.history query value p q room room' → IsDoneOn tree number (record { line = line; lane = lane; phase = phase; item = Ask number query }) p q room room'
read_line tree number line lane phase query value p q room room' s =
    let a : Asked = record { line = line; lane = lane; phase = phase; item = Ask number query } in
    record {
      steps = step_of a number (Looked s.lo s.hi s.k query value) ∷ [];
      done = inl (s.lo, s.hi, s.k, value, refl);
      leads = step_leads tree.history number a p q (Looked s.lo s.hi s.k query value) s.read;
      told = s.told;
    }

pub scan_line : (tree : SharedTree) (number line lane phase index max count : ℕ) (p q : Pass) (room room' : List Entry) → IsScanDone (record { line = line; lane = lane; phase = phase; item = Scan number index max count }) number max count (place_within index max) tree.history p q room room' → IsDoneOn tree number (record { line = line; lane = lane; phase = phase; item = Scan number index max count }) p q room room'
scan_line tree number line lane phase index max count p q room room' s = record { steps = s.steps; done = inl s.scan; leads = s.leads; told = s.told }

-- ---- a chain of lines

line_more : (lines : List Line) (n : ℕ) (x : Line) → slice_get lines n ≡ Some x → take (suc n) lines ≡ take n lines ++ x ∷ []
line_more [] n x e = absurd (omega (arith, slice_get_within [] n x e))
line_more (y ∷ lines) zero x e = ap (λ (z : Line). z ∷ []) (same_some y x e)
line_more (y ∷ lines) (suc n) x e = ap (λ z. y ∷ z) (line_more lines n x e)

-- what was worn stays worn
unless_on : (worn still : Type 0) (a : Asked) (steps : List Step) → (worn → still) → IsDoneUnless worn a steps → IsDoneUnless still a steps
unless_on worn still a steps on (inl d) = inl d
unless_on worn still a steps on (inr (w, none)) = inr (on w, none)

answered_more : (worn still : Type 0) (asked : List Asked) (answers : List (List Step)) (a : Asked) (steps : List Step) → (worn → still) → AreAnsweredUnless worn asked answers → IsDoneUnless still a steps → AreAnsweredUnless still (asked ++ a ∷ []) (answers ++ steps ∷ [])
answered_more worn still [] [] a steps on h d = (d, tt)
answered_more worn still [] (s ∷ answers) a steps on h d = absurd h
answered_more worn still (b ∷ asked) [] a steps on h d = absurd h
answered_more worn still (b ∷ asked) (s ∷ answers) a steps on h d = (unless_on worn still b s on h.0, answered_more worn still asked answers a steps on h.1 d)

worn_on : (trees : List SharedTree) (lane : ℕ) (steps : List Step) (passes passes' : List Pass) → length passes' ≡ length passes
    → ((number : ℕ) (tree : SharedTree) (p q : Pass) → slice_get trees number ≡ Some tree → slice_get passes number ≡ Some p → slice_get passes' number ≡ Some q → Leads tree.history p (outcomes_of number lane steps) q)
    → IsSomeWorn trees passes → IsSomeWorn trees passes'
worn_on trees lane steps passes passes' count leads w =
    let q : Pass = get_or passes' w.number w.pass in
    let q_is : slice_get passes' w.number ≡ Some q = slice_get-get_or passes' w.number w.pass (omega (arith, slice_get_within passes w.number w.pass w.pass_is, count)) in
    let onward = leads_onward w.tree.history w.pass (outcomes_of w.number lane steps) q (leads w.number w.tree w.pass q w.tree_is w.pass_is q_is) in
    record { number = w.number; tree = w.tree; pass = q; tree_is = w.tree_is; pass_is = q_is; all_taken = omega (arith, w.all_taken, begins_long w.pass.seen q.seen onward.seen) }

one_joined : (answers : List (List Step)) (steps : List Step) → answers_joined (answers ++ steps ∷ []) ≡ answers_joined answers ++ steps
one_joined answers steps = flat_map-append (λ (s : List Step). s) answers (steps ∷ []) ∙ ap (λ z. answers_joined answers ++ z) (append-nil steps)

nothing_ran : (a : DeskState) → LaneRan zero a a
nothing_ran a = record {
  kept = refl;
  answers = [];
  answered = tt;
  count = refl;
  leads = λ number tree p q tree_is p_is q_is. subst (λ (z : Pass). Leads tree.history p [] z) (same_some p q (sym p_is ∙ q_is)) (learns_none p);
  told = sym (append-nil a.room);
}

-- the same line, of a desk whose lane, phase, trees and lines are these
line_of : (a m b : DeskState) (s : ℕ) → m ≡ record a { passes = m.passes; room = m.room } → (d : DeskDid m s b) → (slice_get a.lines s ≡ Some d.line) × IsLineDone a.trees (asked_of a.lane a.phase d.line) m.passes b.passes m.room b.room
line_of a m b s kept d =
    subst (λ (z : DeskState). (slice_get z.lines s ≡ Some d.line) × IsLineDone z.trees (asked_of z.lane z.phase d.line) m.passes b.passes m.room b.room) kept (d.line_is, d.did)

step_ran : (n : ℕ) (a m b : DeskState) → LaneRan n a m → DeskDid m n b → LaneRan (suc n) a b
step_ran n a m b r d =
    let is = line_of a m b n r.kept d in
    let did : IsLineDone a.trees (asked_of a.lane a.phase d.line) m.passes b.passes m.room b.room = is.1 in
    let asked : Line → Asked = asked_of a.lane a.phase in
    let lines_are : map asked (take (suc n) a.lines) ≡ map asked (take n a.lines) ++ asked d.line ∷ [] = ap (map asked) (line_more a.lines n d.line is.0) ∙ map-append asked (take n a.lines) (d.line ∷ []) in
    let all : answers_joined (r.answers ++ did.steps ∷ []) ≡ answers_joined r.answers ++ did.steps = one_joined r.answers did.steps in
    record {
      kept = d.kept ∙ ap (λ (z : DeskState). record z { passes = b.passes; room = b.room }) r.kept;
      answers = r.answers ++ did.steps ∷ [];
      answered = subst (λ (z : List Asked). AreAnsweredUnless (IsSomeWorn a.trees b.passes) z (r.answers ++ did.steps ∷ [])) (sym lines_are)
          (answered_more (IsSomeWorn a.trees m.passes) (IsSomeWorn a.trees b.passes) (map asked (take n a.lines)) r.answers (asked d.line) did.steps (worn_on a.trees a.lane did.steps m.passes b.passes did.count did.leads) r.answered did.done);
      count = did.count ∙ r.count;
      leads = λ number tree p q tree_is p_is q_is.
          let x : Pass = get_or m.passes number p in
          let x_is : slice_get m.passes number ≡ Some x = slice_get-get_or m.passes number p (omega (arith, slice_get_within a.passes number p p_is, r.count)) in
          let split : outcomes_of number a.lane (answers_joined (r.answers ++ did.steps ∷ [])) ≡ outcomes_of number a.lane (answers_joined r.answers) ++ outcomes_of number a.lane did.steps = ap (outcomes_of number a.lane) all ∙ filter_map-append (by_lane_on number a.lane) (answers_joined r.answers) did.steps in
          subst (λ (z : List Outcome). Leads tree.history p z q) (sym split)
          (leads_on tree.history p (outcomes_of number a.lane (answers_joined r.answers)) x (outcomes_of number a.lane did.steps) q (r.leads number tree p x tree_is p_is x_is) (did.leads number tree x q tree_is x_is q_is));
      told = subst (λ (z : List Step). b.room ≡ a.room ++ map entry_of z) (sym all) (more_told a.room m.room b.room (answers_joined r.answers) did.steps r.told did.told);
    }

-- what a lane's whole chain comes to
pub desk_ran : {D P T : Type 0} (state : D → DeskState) (trees : D → List T) (passes : D → List P) (knows : P → Pass) (serves : T → P → Type 0) (n : ℕ) (a b : D) → IsManned knows serves (trees a) (passes a)
    → Chain (λ x s y. DeskDid (state x) s (state y) × StillManned knows serves (trees x) (trees y) (passes y)) n a b → LaneRan n (state a) (state b) × StillManned knows serves (trees a) (trees b) (passes b)
desk_ran state trees passes knows serves zero a b m c = subst (λ z. LaneRan zero (state a) (state z) × StillManned knows serves (trees a) (trees z) (passes z)) (sym c) (nothing_ran (state a), record { trees_stay = refl; manned = m })
desk_ran state trees passes knows serves (suc n) a b m c =
    let r = desk_ran state trees passes knows serves n a c.0 m c.1 in
    let d = c.2 in
    (step_ran n (state a) (state c.0) (state b) r.0 d.0, record { trees_stay = d.1.trees_stay ∙ r.1.trees_stay; manned = d.1.manned })

-- ---- among trees and passes as they are kept

pub named_below : (count : ℕ) (item : Item) → is_step item ≡ true → NamesBelow count item → line_tree item < count
named_below count (Write tree call) step named = named
named_below count (Ask tree query) step named = named
named_below count (Scan tree index max steps) step named = named
named_below count item step named = absurd (false≢true step)

pub mapped : {X Y : Type 0} (f : X → Y) (xs : List X) (i : ℕ) (x : X) → slice_get xs i ≡ Some x → slice_get (map f xs) i ≡ Some (f x)
mapped f xs i x is = slice_get-map f xs i ∙ ap (option_map f) is

pub line_done_at : {P T : Type 0} (tree : T → SharedTree) (knows : P → Pass) (trees : List T) (passes : List P) (lane phase : ℕ) (line : Line) (at : ℕ) (t : T) (p q : P) (room room' : List Entry) → is_step line.item ≡ true → at ≡ line_tree line.item → slice_get trees at ≡ Some t → slice_get passes at ≡ Some p
    → IsDoneOn (tree t) (line_tree line.item) (asked_of lane phase line) (knows p) (knows q) room room' → IsLineDone (map tree trees) (asked_of lane phase line) (map knows passes) (map knows (slice_set passes at q)) room room'
line_done_at tree knows trees passes lane phase line at t p q room room' step at_is t_is p_is d =
    rw (at_is, map-set knows passes (line_tree line.item) q)
    (line_done (map tree trees) lane phase line (map knows passes) (tree t) (knows p) (knows q) room room' step (mapped tree trees (line_tree line.item) t (rw at_is at t_is)) (mapped knows passes (line_tree line.item) p (rw at_is at p_is)) d)

pub written_back : {X : Type 0} (n : ℕ) (xs ys : List X) → length xs ≡ n → take n (xs ++ drop (length xs) ys) ≡ xs
written_back n xs ys long = rw (← long) (take-append-le (length xs) xs (drop (length xs) ys) (omega arith) ∙ take_all (length xs) xs (omega arith))
