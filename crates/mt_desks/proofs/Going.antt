-- A lane of a phase goes with the passes from the rows, and they are back in them.
use Rattle.mt_desks.proofs.Prelude.{◌≡◌, ℕ, ◌<◌, List, [], ◌∷◌, Some, length, map, get_or, slice_get, arith, sym, ap, ◌∙◌, subst, length-map, slice_get-get_or, vec_len, vec_capacity, Pass, Line, CanRun, Chain, Lane, LaneDesk, DeskDid, DeskState, IsManned, IsDeskReady, LaneRan, SharedTree, StillManned, desk_of, CanPass, IsLaid, LaneWent, pass_at, Leads, outcomes_of, answers_joined}
use Rattle.mt_desks.proofs.Doing.{desk_ran, mapped}

some_of : {V : Type 0} (xs : List V) (i : ℕ) → i < length xs → V
some_of [] i l = absurd (omega (arith, l))
some_of (x ∷ xs) i l = x

-- the passes that came to the desk
pub is_manned : {P T V : Type 0} (knows : P → Pass) (serves : T → P → Type 0) (items : V → List P) (lane : ℕ) (trees : List T) (rows : List V) (passes : List P) → CanPass knows serves items lane trees rows → length passes ≡ length rows
    → ((tree : ℕ) (v : V) (p : P) → tree < length rows → get_or passes tree p ≡ pass_at items rows tree lane v p) → IsManned knows serves trees passes
is_manned knows serves items lane trees rows passes can count taken = record {
  count = count ∙ can.count;
  closed = λ i p below. let within : i < length rows = omega (arith, below, count) in let v = some_of rows i within in rw (taken i v p within) (can.closed i v p within);
  serves_all = λ i t p below. let within : i < length rows = omega (arith, below, can.count) in let v = some_of rows i within in rw (taken i v p within) (can.serves_all i t v p within);
}

pub is_ready : {P T : Type 0} (knows : P → Pass) (serves : T → P → Type 0) (steps had used capacity : ℕ) (trees : List T) (lines left : List Line) (passes : List P) → IsLaid steps (length trees) lines left had used capacity → IsManned knows serves trees passes → IsDeskReady knows serves trees lines left 0 passes used capacity
is_ready knows serves steps had used capacity trees lines left passes laid manned = record { manned = manned; lines_of = laid.lines_of; left_is = laid.left_is; roomy = laid.roomy }

-- and are back in the rows
pub can_pass : {P T V : Type 0} (knows : P → Pass) (serves : T → P → Type 0) (items : V → List P) (lane : ℕ) (trees : List T) (rows : List V) (passes : List P) → IsManned knows serves trees passes → length rows ≡ length trees
    → ((tree : ℕ) (v : V) (p : P) → tree < length rows → pass_at items rows tree lane v p ≡ get_or passes tree p) → CanPass knows serves items lane trees rows
can_pass knows serves items lane trees rows passes manned count given = record {
  count = count;
  closed = λ tree v p below. rw (given tree v p below) (manned.closed tree p (omega (arith, below, count, manned.count)));
  serves_all = λ tree t v p below. rw (given tree v p below) (manned.serves_all tree t p (omega (arith, below, count)));
}

at_tree : {P : Type 0} (knows : P → Pass) (passes : List P) (tree : ℕ) (p x : P) → tree < length passes → get_or passes tree p ≡ x → slice_get (map knows passes) tree ≡ Some (knows x)
at_tree knows passes tree p x below is = mapped knows passes tree x (slice_get-get_or passes tree p below ∙ ap Some is)

pub lane_went : {P V : Type 0} (knows : P → Pass) (items : V → List P) (lane n : ℕ) (rows rows' : List V) (desk desk' : DeskState) (passes passes' : List P) → LaneRan n (record desk { passes = map knows passes }) (record desk' { passes = map knows passes' }) → length passes ≡ length rows → length passes' ≡ length rows
    → ((tree : ℕ) (v : V) (p : P) → tree < length rows → get_or passes tree p ≡ pass_at items rows tree lane v p) → ((tree : ℕ) (v : V) (p : P) → tree < length rows → pass_at items rows' tree lane v p ≡ get_or passes' tree p)
    → LaneWent knows items lane n rows rows' desk desk'
lane_went knows items lane n rows rows' desk desk' passes passes' ran count count' taken given = record {
  before = map knows passes;
  after = map knows passes';
  ran = ran;
  count = length-map passes knows ∙ count;
  taken = λ tree v p below. at_tree knows passes tree p (pass_at items rows tree lane v p) (omega (arith, below, count)) (taken tree v p below);
  given = λ tree v p below. at_tree knows passes' tree p (pass_at items rows' tree lane v p) (omega (arith, below, count')) (sym (given tree v p below));
}

-- ---- a lane with its desk

abbrev pub KeepsButPasses : {R P T : Type 0} → Lane (LaneDesk R P T) → Lane (LaneDesk R P T) → Type 0
KeepsButPasses l m = m ≡ record l { desk = record l.desk { passes = m.desk.passes } }

abbrev pub shown : {R P T : Type 0} → (T → SharedTree) → (P → Pass) → LaneDesk R P T → DeskState
shown tree knows d = desk_of tree knows d.lane d.phase d.trees.now d.lines.all d.passes.items d.room.items

-- a desk has its passes
pub mans : {R P T V : Type 0} (knows : P → Pass) (serves : T → P → Type 0) (items : V → List P) (i : ℕ) (rows : List V) (l m : Lane (LaneDesk R P T)) → KeepsButPasses l m → CanPass knows serves items i l.desk.trees.now rows → length m.desk.passes.items ≡ length rows
    → ((tree : ℕ) (v : V) (p : P) → tree < length rows → get_or m.desk.passes.items tree p ≡ pass_at items rows tree i v p) → IsManned knows serves m.desk.trees.now m.desk.passes.items
mans {R} {P} {T} {V} knows serves items i rows l m kept can count taken = subst (λ (z : Lane (LaneDesk R P T)). IsManned knows serves z.desk.trees.now m.desk.passes.items) (sym kept) (is_manned knows serves items i l.desk.trees.now rows m.desk.passes.items can count taken)

pub can_run : {R P T V : Type 0} (knows : P → Pass) (serves : T → P → Type 0) (items : V → List P) (i : ℕ) (rows : List V) (l m : Lane (LaneDesk R P T)) → KeepsButPasses l m
    → IsLaid l.steps (length l.desk.trees.now) l.desk.lines.all l.desk.lines.left (vec_len l.desk.passes) (vec_len l.desk.room) (vec_capacity l.desk.room) → CanPass knows serves items i l.desk.trees.now rows → length m.desk.passes.items ≡ length rows
    → ((tree : ℕ) (v : V) (p : P) → tree < length rows → get_or m.desk.passes.items tree p ≡ pass_at items rows tree i v p)
    → CanRun (λ d. length d.lines.all) (λ d s. IsDeskReady knows serves d.trees.now d.lines.all d.lines.left s d.passes.items (vec_len d.room) (vec_capacity d.room)) m
can_run {R} {P} {T} {V} knows serves items i rows l m kept laid can count taken =
    let steps : m.steps ≡ l.steps = ap (λ z. z.steps) kept in
    let lines : length m.desk.lines.all ≡ length l.desk.lines.all = ap (λ z. length z.desk.lines.all) kept in
    record {
      within = omega (arith, steps, lines, laid.all);
      turns = rw steps laid.turns;
      awaited = λ some. subst (λ (z : Lane (LaneDesk R P T)). IsDeskReady knows serves z.desk.trees.now z.desk.lines.all z.desk.lines.left 0 m.desk.passes.items (vec_len z.desk.room) (vec_capacity z.desk.room)) (sym kept)
          (is_ready knows serves l.steps (vec_len l.desk.passes) (vec_len l.desk.room) (vec_capacity l.desk.room) l.desk.trees.now l.desk.lines.all l.desk.lines.left m.desk.passes.items laid (is_manned knows serves items i l.desk.trees.now rows m.desk.passes.items can count taken));
    }

-- what the lane's desk did, and that it still has its passes
abbrev pub Did : {R P T : Type 0} → (T → SharedTree) → (P → Pass) → (T → P → Type 0) → LaneDesk R P T → ℕ → LaneDesk R P T → Type 0
Did tree knows serves x s y = DeskDid (shown tree knows x) s (shown tree knows y) × StillManned knows serves x.trees.now y.trees.now y.passes.items

pub has_run : {R P T V : Type 0} (tree : T → SharedTree) (knows : P → Pass) (serves : T → P → Type 0) (items : V → List P) (i : ℕ) (rows : List V) (l m n : Lane (LaneDesk R P T)) → KeepsButPasses l m → CanPass knows serves items i l.desk.trees.now rows → length m.desk.passes.items ≡ length rows
    → ((number : ℕ) (v : V) (p : P) → number < length rows → get_or m.desk.passes.items number p ≡ pass_at items rows number i v p) → Chain (Did tree knows serves) m.steps m.desk n.desk
    → LaneRan l.steps (shown tree knows m.desk) (shown tree knows n.desk) × StillManned knows serves m.desk.trees.now n.desk.trees.now n.desk.passes.items
has_run {R} {P} {T} {V} tree knows serves items i rows l m n kept can count taken chain =
    let ran = desk_ran (shown tree knows) (λ (d : LaneDesk R P T). d.trees.now) (λ (d : LaneDesk R P T). d.passes.items) knows serves m.steps m.desk n.desk (mans knows serves items i rows l m kept can count taken) chain in
    (subst (λ (z : ℕ). LaneRan z (shown tree knows m.desk) (shown tree knows n.desk)) (ap (λ z. z.steps) kept) ran.0, ran.1)

pub still_passes : {R P T V : Type 0} (knows : P → Pass) (serves : T → P → Type 0) (items : V → List P) (i : ℕ) (rows rows' : List V) (l m n : Lane (LaneDesk R P T)) → KeepsButPasses l m → CanPass knows serves items i l.desk.trees.now rows → StillManned knows serves m.desk.trees.now n.desk.trees.now n.desk.passes.items → length rows' ≡ length rows
    → ((tree : ℕ) (v : V) (p : P) → tree < length rows' → pass_at items rows' tree i v p ≡ get_or n.desk.passes.items tree p) → CanPass knows serves items i l.desk.trees.now rows'
still_passes {R} {P} {T} {V} knows serves items i rows rows' l m n kept can still count given =
    let trees : n.desk.trees.now ≡ l.desk.trees.now = still.trees_stay ∙ ap (λ (z : Lane (LaneDesk R P T)). z.desk.trees.now) kept in
    can_pass knows serves items i l.desk.trees.now rows' n.desk.passes.items (subst (λ (z : List T). IsManned knows serves z n.desk.passes.items) trees still.manned) (count ∙ can.count) given

pub lane_goes : {R P T V : Type 0} (tree : T → SharedTree) (knows : P → Pass) (items : V → List P) (i : ℕ) (rows rows' : List V) (l m n k : Lane (LaneDesk R P T)) → KeepsButPasses l m → KeepsButPasses n k → LaneRan l.steps (shown tree knows m.desk) (shown tree knows n.desk) → length m.desk.passes.items ≡ length rows → length n.desk.passes.items ≡ length rows
    → ((number : ℕ) (v : V) (p : P) → number < length rows → get_or m.desk.passes.items number p ≡ pass_at items rows number i v p) → ((number : ℕ) (v : V) (p : P) → number < length rows → pass_at items rows' number i v p ≡ get_or n.desk.passes.items number p)
    → LaneWent knows items i l.steps rows rows' (shown tree knows l.desk) (shown tree knows k.desk)
lane_goes {R} {P} {T} {V} tree knows items i rows rows' l m n k kept kept' ran count count' taken given =
    lane_went knows items i l.steps rows rows' (shown tree knows l.desk) (shown tree knows k.desk) m.desk.passes.items n.desk.passes.items
    (subst (λ (z : Lane (LaneDesk R P T)). LaneRan l.steps (desk_of tree knows l.desk.lane l.desk.phase l.desk.trees.now l.desk.lines.all m.desk.passes.items l.desk.room.items) (desk_of tree knows z.desk.lane z.desk.phase z.desk.trees.now z.desk.lines.all n.desk.passes.items z.desk.room.items)) (sym kept')
    (subst (λ (z : Lane (LaneDesk R P T)). LaneRan l.steps (desk_of tree knows z.desk.lane z.desk.phase z.desk.trees.now z.desk.lines.all m.desk.passes.items z.desk.room.items) (shown tree knows n.desk)) kept ran))
    count count' taken given

-- from a lane's pass on a tree its steps lead to the pass that is back in the tree's row
pub went_leads : {P V : Type 0} (knows : P → Pass) (items : V → List P) (lane n : ℕ) (rows rows' : List V) (desk desk' : DeskState) (w : LaneWent knows items lane n rows rows' desk desk') (number : ℕ) (tree : SharedTree) (v : V) (p : P) → slice_get desk.trees number ≡ Some tree → number < length rows
    → Leads tree.history (knows (pass_at items rows number lane v p)) (outcomes_of number desk.lane (answers_joined w.ran.answers)) (knows (pass_at items rows' number lane v p))
went_leads knows items lane n rows rows' desk desk' w number tree v p tree_is within =
    w.ran.leads number tree (knows (pass_at items rows number lane v p)) (knows (pass_at items rows' number lane v p)) tree_is (w.taken number v p within) (w.given number v p within)
