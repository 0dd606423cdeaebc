-- Where the lanes of a phase have run and then all passes are settled, the phase's lines are played.
use Rattle.mt_replay.proofs.Prelude.{◌≡◌, ℕ, ◌+◌, ◌<◌, ◌≤◌, true, false, List, [], ◌∷◌, ◌++◌, Some, length, map, slice_get, arith, sym, ap, ◌∙◌, subst, inl, inr, append_assoc, length-append, AllByRecursion, cases_Bool, map-append, slice_get_within, Pass, IsSettled, Line, Entry, KnownTree, stepped_after, Asked, Step, AreDone, entry_of, lane_after, steps_of, NamesBelow, trees_from, trees_of, IsPhaseGone, IsPhase, Tracked, asked_of_lane, AreDoneEach, take_turns, lanes_of, answers_joined, all_at, some_at, phase_ran, asked_behind, done_append, trees_behind, counts_in, is_step, steps_in, IsSomeWorn, SharedTree, AreSettled, HaveRun, IsPhaseBehind, IsPhaseBegun, IsPlayed, PlayerState, tracked_in, seen_by, tracked_of, lanes_phase, seen_within, none_worn, counts_first, all_placed, all_named, most_calls}
use Rattle.mt_replay.proofs.FewCalls.{few_calls}
use Rattle.mt_replay.proofs.Seating.{tracked_at, tracked_long}
use Rattle.mt_replay.proofs.TreeRows.{Found, all_from, found, leads_seen, seen_otherwise}

-- what the lanes are asked are steps
all_steps : (here phase : ℕ) (lines : List Line) → AllByRecursion (λ (a : Asked). stepped_after false a.item ≡ true) (steps_in here phase lines)
all_steps here phase [] = tt
all_steps here phase (line ∷ lines) = elim (cases_Bool (is_step line.item)) [
  | inl t ↦ rw t (t, all_steps (lane_after here line.item) phase lines)
  | inr f ↦ rw f (all_steps (lane_after here line.item) phase lines)
]

abbrev pub stands : (rows passes : ℕ) (known : List KnownTree) (trees : List SharedTree) (seats : List (List Pass)) (entries : List Entry) → PlayerState
stands rows passes known trees seats entries = record { rows = rows; passes = passes; known = known; trees = tracked_in trees seats; entries = entries }

module _ (lanes phase rows : ℕ) (front lines : List Line) (known : List KnownTree) (trees : List SharedTree) (before between after : List (List Pass)) (entries entries' : List Entry) (steps counted : List Step)
    (ready : IsPhaseBehind lanes phase front lines)
    (long : length before ≡ length trees)
    (most : (number : ℕ) (tree : SharedTree) → slice_get trees number ≡ Some tree → tree.most ≡ most_calls)
    (begun : IsPhaseBegun phase front lines (stands rows (lanes + 1) known trees before entries) steps counted)
    (run : HaveRun phase lines trees before between entries entries')
    (settled : AreSettled trees between after) where
  abbrev asked : List Asked
  asked = steps_in 0 phase lines

  abbrev olds : List Tracked
  olds = tracked_in trees before

  abbrev news : List Tracked
  news = tracked_in trees after

  -- ---- one tree

  record OnTree (number : ℕ) (tree : SharedTree) : Type 0 where
    row : List Pass
    row' : List Pass
    row_is : slice_get before number ≡ Some row
    row'_is : slice_get after number ≡ Some row'
    start : IsSettled (seen_by tree.history row) row
    passes : length row ≡ lanes + 1
    few : length (seen_by tree.history row).records ≤ length front
    gone : IsPhaseGone number (tracked_of tree row) (tracked_of tree row') run.answers
    middle_is : slice_get between number ≡ Some gone.between

  on_tree : (number : ℕ) (tree : SharedTree) → slice_get trees number ≡ Some tree → OnTree number tree
  on_tree number tree is =
      let here : number < length trees = slice_get_within trees number tree is in
      let (row, row_is) = some_at before number (omega arith) in
      let (middle, middle_is) = some_at between number (omega (arith, run.count)) in
      let (row', row'_is) = some_at after number (omega (arith, run.count, settled.count)) in
      let b_is : slice_get olds number ≡ Some (tracked_of tree row) = tracked_at trees before number tree row is row_is in
      let tracks = begun.ran.tracks number (tracked_of tree row) b_is in
      let gone = run.gone number tree row middle is row_is middle_is in
      record {
        row = row;
        row' = row';
        row_is = row_is;
        row'_is = row'_is;
        start = tracks.settled;
        passes = tracks.count;
        few = all_at (λ (t : Tracked). length t.history.records ≤ length front) olds number (tracked_of tree row) begun.few b_is;
        gone = record {
          between = middle;
          gone = record { count = gone.count; leads = λ lane p m p_is m_is. leads_seen tree.history row p _ m (gone.leads lane p m p_is m_is) };
          settled = settled.each number tree middle row' is middle_is row'_is;
          tree = seen_otherwise tree.history row row';
        };
        middle_is = middle_is;
      }

  still_few : (number : ℕ) (tree : SharedTree) (on : OnTree number tree) → length (seen_by tree.history on.row').records ≤ length front + length lines
  still_few number tree on = omega (arith, on.few, few_calls trees run.passes number phase lines run.answers (tracked_of tree on.row) (tracked_of tree on.row') run.answered on.start on.gone)

  not_worn : (lane : ℕ) → IsSomeWorn trees (run.passes lane) → ⊥
  not_worn lane w =
      let on = on_tree w.number w.tree w.tree_is in
      let at = run.passes_are lane w.number w.pass w.pass_is in
      let same : at.row ≡ on.gone.between = cc (at.row_is, on.middle_is) in
      let seat : slice_get on.gone.between lane ≡ Some w.pass = subst (λ (z : List Pass). slice_get z lane ≡ Some w.pass) same at.pass_is in
      omega (arith, seen_within (seen_by w.tree.history on.row') on.gone.between on.row' on.gone.settled lane w.pass seat, still_few w.number w.tree on, ready.few, most w.number w.tree w.tree_is, w.all_taken)

  all_answered : (lane : ℕ) → AreDoneEach (asked_of_lane lane asked) (run.answers lane)
  all_answered lane = none_worn trees (run.passes lane) (asked_of_lane lane asked) (run.answers lane) (not_worn lane) (run.answered lane)

  abbrev came : List Step
  came = answers_joined (take_turns (lanes_of asked) run.answers)

  -- ---- all trees

  long' : length after ≡ length trees
  long' = omega (arith, run.count, settled.count, long)

  gone_at : (number : ℕ) (b a : Tracked) → slice_get olds number ≡ Some b → slice_get news number ≡ Some a → (length b.passes ≡ lanes + 1) × IsPhaseGone number b a run.answers
  gone_at number b a b_is a_is =
      let f : Found trees before number b = found trees before number b b_is in
      let g : Found trees after number a = found trees after number a a_is in
      let on = on_tree number f.tree f.tree_is in
      let b_same : tracked_of f.tree on.row ≡ b = cc (f.is, f.row_is, on.row_is) in
      let a_same : tracked_of f.tree on.row' ≡ a = cc (g.is, g.row_is, on.row'_is, f.tree_is, g.tree_is) in
      subst (λ (z : Tracked). (length b.passes ≡ lanes + 1) × IsPhaseGone number b z run.answers) a_same
      (subst (λ (z : Tracked). (length z.passes ≡ lanes + 1) × IsPhaseGone number z (tracked_of f.tree on.row') run.answers) b_same (on.passes, on.gone))

  declared_here : trees_of (front ++ lines) ≡ trees_from (trees_of front) phase lines
  declared_here = trees_behind front lines ∙ ap (λ (z : ℕ). trees_from (trees_of front) z lines) ready.phase_is

  all_declared : AllByRecursion (λ (a : Asked). NamesBelow (length olds) a.item) (counts_in phase lines ++ asked)
  all_declared = subst (λ (n : ℕ). AllByRecursion (λ (a : Asked). NamesBelow n a.item) (counts_in phase lines ++ asked)) (sym (begun.ran.count ∙ ap length declared_here)) (all_named (trees_of front) 0 phase lines ready.named)

  gone_by : IsPhase (lanes + 1) phase (counted ++ came) olds news × AreDone (counts_in phase lines ++ asked) (counted ++ came)
  gone_by = lanes_phase (lanes + 1) phase asked (counts_in phase lines) counted run.answers olds news (record {
    placed = all_placed (lanes + 1) 0 phase lines (omega (arith, ready.lanes_are));
    named = all_declared;
    stepped = all_steps 0 phase lines;
    done = begun.counted_are;
    counts = begun.each;
    answered = all_answered;
    count = tracked_long trees after long' ∙ sym (tracked_long trees before long);
    gone = gone_at;
  })

  asked_here : steps_of (front ++ lines) ≡ steps_of front ++ (counts_in phase lines ++ asked)
  asked_here = asked_behind front lines ∙ ap (λ z. steps_of front ++ z) (rw (ready.lane_is, ready.phase_is) (counts_first false 0 phase lines ready.one ready.placed))

  all_told : entries' ≡ map entry_of (steps ++ (counted ++ came))
  all_told = run.told all_answered ∙ (ap (λ z. z ++ map entry_of came) begun.told ∙ (sym (map-append entry_of (steps ++ counted) came) ∙ ap (map entry_of) (append_assoc steps counted came)))

  still_few_at : (number : ℕ) (a : Tracked) → slice_get news number ≡ Some a → length a.history.records ≤ length (front ++ lines)
  still_few_at number a a_is =
      let g : Found trees after number a = found trees after number a a_is in
      let on = on_tree number g.tree g.tree_is in
      let same : tracked_of g.tree on.row' ≡ a = cc (g.is, g.row_is, on.row'_is) in
      subst (λ (z : Tracked). length z.history.records ≤ length (front ++ lines)) same (omega (arith, still_few number g.tree on, length-append front lines))

  pub phase_played : IsPlayed (phase + 1) (front ++ lines) (stands rows (lanes + 1) known trees after entries')
  phase_played = (
    steps ++ (counted ++ came),
    record {
      ran = phase_ran (lanes + 1) rows phase (trees_of (front ++ lines)) steps (counted ++ came) olds news (omega arith) begun.ran gone_by.0;
      done = subst (λ z. AreDone z (steps ++ (counted ++ came))) (sym asked_here) (done_append (steps_of front) (counts_in phase lines ++ asked) steps (counted ++ came) begun.done gone_by.1);
      told = all_told;
      known = begun.known;
      few = all_from (λ (t : Tracked). length t.history.records ≤ length (front ++ lines)) news still_few_at;
    },
  )
