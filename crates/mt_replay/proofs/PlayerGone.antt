-- A player behind the lanes of a phase.
use Rattle.mt_replay.proofs.Prelude.{◌≡◌, ℕ, ◌+◌, ◌<◌, List, ◌++◌, Some, None, length, map, get_or, slice_get, arith, sym, ap, ◌∙◌, subst, Vec, Global, All, length-map, slice_get_within, Begins, Pass, IsSettled, Settled, Record, begins_on, Line, Entry, Step, Tracked, outcomes_of, answers_joined, leads_onward, all_at, some_at, seen_begins, SharedTree, Player, AreManned, AreSettled, HaveGoneBy, IsPhaseBehind, IsBetweenPhases, IsBegun, IsPhaseBegun, IsClosed, IsPlayed, rows_known, player_state, tracked_in, AreAll, seen_by, tracked_of, most_calls}
use Rattle.mt_replay.proofs.LanesRun.{mapped_at, of_mapped, within_mapped}
use Rattle.mt_replay.proofs.PhasePlayed.{phase_played, stands}
use Rattle.mt_replay.proofs.Recounting.{HasGrown, counts_grow}
use Rattle.mt_replay.proofs.Seating.{seated_by, tracked_at, tracked_long}
use Rattle.mt_replay.proofs.TreeRows.{Found, all_from, found, seen_otherwise}

module _ {P T : Type 0} (tree : T → SharedTree) (knows : P → Pass) (serves : T → P → Type 0) where
  abbrev known : Vec P Global → List Pass
  known v = map knows v.items

  -- ---- rows that were settled

  pub manned_settled : (many : T → ℕ) (passes : ℕ) (trees : List T) (seats seats' : List (Vec P Global)) → All (λ (t : T). many t ≡ passes) trees → AreManned knows serves passes trees seats → AreSettled (map tree trees) (rows_known knows seats) (rows_known knows seats')
      → ((at : ℕ) (t : T) (row : Vec P Global) → at < length trees → AreAll knows serves (many (get_or trees at t)) (get_or trees at t) (get_or seats' at row).items) → AreManned knows serves passes trees seats'
  manned_settled many passes trees seats seats' many_are manned settled all =
      let count : length seats' ≡ length trees = omega (arith, settled.count, length-map seats' known, length-map seats known, manned.count) in
      record {
        count = count;
        all = λ at t row within. subst (λ (n : ℕ). AreAll knows serves n (get_or trees at t) (get_or seats' at row).items) (many_are at t within) (all at t row within);
        closed = λ at row within i d here. closed_there at row within i d here (omega (arith, within, count));
      }
    where
      closed_there : (at : ℕ) (row : Vec P Global) → at < length trees → (i : ℕ) (d : P) → i < length (get_or seats' at row).items → at < length seats' → (knows (get_or (get_or seats' at row).items i d)).standing ≡ None
      closed_there at row within i d here there =
          let (t, t_is) = some_at trees at within in
          let old : Vec P Global = get_or seats at row in
          let new : Vec P Global = get_or seats' at row in
          let s : Settled (seen_by (tree (get_or trees at t)).history (known new)) (known old) (known new) = settled.each at (tree (get_or trees at t)) (known old) (known new) (mapped_at tree trees at t within) (mapped_at known seats at row (omega (arith, within, manned.count))) (mapped_at known seats' at row there) in
          let was : i < length old.items = omega (arith, here, s.count, length-map old.items knows, length-map new.items knows) in
          let saw = s.each i (knows (get_or old.items i d)) (knows (get_or new.items i d)) (mapped_at knows old.items i d was) (mapped_at knows new.items i d here) in
          ap (λ (q : Pass). q.standing) saw.pass ∙ manned.closed at row within i d was

  pub gone_same : (passes phase : ℕ) (lines : List Line) (trees trees' : List T) (seats seats' rows rows' : List (Vec P Global)) (entries entries' : List Entry) → trees' ≡ trees → seats' ≡ seats → rows' ≡ rows → HaveGoneBy tree knows serves passes phase lines trees' seats' rows' entries entries' → HaveGoneBy tree knows serves passes phase lines trees seats rows entries entries'
  gone_same passes phase lines trees trees' seats seats' rows rows' entries entries' a b d gone =
      subst (λ (z : List T). HaveGoneBy tree knows serves passes phase lines z seats rows entries entries') a
      (subst (λ (z : List (Vec P Global)). HaveGoneBy tree knows serves passes phase lines trees' z rows entries entries') b
      (subst (λ (z : List (Vec P Global)). HaveGoneBy tree knows serves passes phase lines trees' seats' z entries entries') d gone))

  pub tracked_count : (many : T → ℕ) (p : Player P T) → IsBetweenPhases tree knows serves many p → length (player_state tree knows p).trees ≡ length p.trees.items
  tracked_count many p rest = tracked_long (map tree p.trees.items) (rows_known knows p.seats.items) (length-map p.seats.items known ∙ (rest.seated.count ∙ sym (length-map p.trees.items tree))) ∙ length-map p.trees.items tree

  -- ---- players

  module _ (many : T → ℕ) (p : Player P T) (lanes phase : ℕ) (lines : List Line) (rest : IsBetweenPhases tree knows serves many p) (passes : p.passes ≡ lanes + 1) where
    abbrev tracked : List Tracked
    tracked = tracked_in (map tree p.trees.items) (rows_known knows p.seats.items)

    pub many_of : All (λ (t : T). many t ≡ lanes + 1) p.trees.items
    many_of = λ at t within. rest.seated.many_are at t within ∙ passes

    pub manned_of : AreManned knows serves (lanes + 1) p.trees.items p.seats.items
    manned_of = record {
      count = rest.seated.count;
      all = λ at t row within. subst (λ (n : ℕ). AreAll knows serves n (get_or p.trees.items at t) (get_or p.seats.items at row).items) passes (rest.seated.all at t row within);
      closed = λ at row within i d here. closed_at at row within i d here;
    }
      where
        closed_at : (at : ℕ) (row : Vec P Global) → at < length p.trees.items → (i : ℕ) (d : P) → i < length (get_or p.seats.items at row).items → (knows (get_or (get_or p.seats.items at row).items i d)).standing ≡ None
        closed_at at row within i d here =
            let (t, t_is) = some_at p.trees.items at within in
            let passes_there : List Pass = known (get_or p.seats.items at row) in
            let is : slice_get tracked at ≡ Some (tracked_of (tree (get_or p.trees.items at t)) passes_there) = tracked_at (map tree p.trees.items) (rows_known knows p.seats.items) at (tree (get_or p.trees.items at t)) passes_there (mapped_at tree p.trees.items at t within) (mapped_at known p.seats.items at row (omega (arith, within, rest.seated.count))) in
            let closed : IsClosed (tracked_of (tree (get_or p.trees.items at t)) passes_there) = all_at IsClosed tracked at (tracked_of (tree (get_or p.trees.items at t)) passes_there) rest.closed is in
            all_at (λ (q : Pass). q.standing ≡ None) passes_there i (knows (get_or (get_or p.seats.items at row).items i d)) closed (mapped_at knows (get_or p.seats.items at row).items i d here)

    module _ (seats' : Vec (Vec P Global) Global) (entries' : Vec Entry Global) (gone : HaveGoneBy tree knows serves (lanes + 1) phase lines p.trees.items p.seats.items seats'.items p.entries.items entries'.items) where
      abbrev after : Player P T
      after = record p { seats = seats'; entries = entries' }

      abbrev tracked' : List Tracked
      tracked' = tracked_in (map tree p.trees.items) (rows_known knows seats'.items)

      -- of each tree that was settled
      settled_at : (number : ℕ) (t : Tracked) → slice_get tracked' number ≡ Some t → IsSettled t.history t.passes
      settled_at number t is =
          let f : Found (map tree p.trees.items) (rows_known knows seats'.items) number t = found (map tree p.trees.items) (rows_known knows seats'.items) number t is in
          let (middle, middle_is) = some_at gone.between number (omega (arith, gone.settled.count, slice_get_within (rows_known knows seats'.items) number f.row f.row_is)) in
          subst (λ (z : Tracked). IsSettled z.history z.passes) (sym f.is) (gone.settled.each number f.tree middle f.row f.tree_is middle_is f.row_is).settled

      closed_now : (number : ℕ) (t : Tracked) → slice_get tracked' number ≡ Some t → IsClosed t
      closed_now number t is =
          let f : Found (map tree p.trees.items) (rows_known knows seats'.items) number t = found (map tree p.trees.items) (rows_known knows seats'.items) number t is in
          let within : number < length seats'.items = within_mapped known seats'.items number f.row f.row_is in
          let (row, row_is) = some_at seats'.items number within in
          let row_same : known (get_or seats'.items number row) ≡ f.row = of_mapped known seats'.items number row f.row within f.row_is in
          subst IsClosed (sym f.is) (subst (All (λ (q : Pass). q.standing ≡ None)) row_same
          (all_from (λ (q : Pass). q.standing ≡ None) (known (get_or seats'.items number row)) (λ i q q_is. closed_pass number row i q (omega (arith, within, gone.manned.count)) q_is)))
        where
          closed_pass : (number : ℕ) (row : Vec P Global) (i : ℕ) (q : Pass) → number < length p.trees.items → slice_get (known (get_or seats'.items number row)) i ≡ Some q → q.standing ≡ None
          closed_pass number row i q within q_is =
              let here : i < length (get_or seats'.items number row).items = within_mapped knows (get_or seats'.items number row).items i q q_is in
              let (x, x_is) = some_at (get_or seats'.items number row).items i here in
              subst (λ (z : Pass). z.standing ≡ None) (of_mapped knows (get_or seats'.items number row).items i x q here q_is) (gone.manned.closed number row within i x here)

      -- of each tree the calls so far begin those that there are now
      grown_at : (number : ℕ) (t u : Tracked) → slice_get tracked number ≡ Some t → slice_get tracked' number ≡ Some u → HasGrown t u
      grown_at number t u t_is u_is =
          let trees : List SharedTree = map tree p.trees.items in
          let f : Found trees (rows_known knows p.seats.items) number t = found trees (rows_known knows p.seats.items) number t t_is in
          let g : Found trees (rows_known knows seats'.items) number u = found trees (rows_known knows seats'.items) number u u_is in
          let (middle, middle_is) = some_at gone.between number (omega (arith, gone.settled.count, slice_get_within (rows_known knows seats'.items) number g.row g.row_is)) in
          let ran = gone.run.gone number f.tree f.row middle f.tree_is f.row_is middle_is in
          let end = gone.settled.each number f.tree middle g.row f.tree_is middle_is g.row_is in
          let start : IsSettled (tracked_of f.tree f.row).history f.row = subst (λ (z : Tracked). IsSettled z.history z.passes) f.is (all_at (λ (z : Tracked). IsSettled z.history z.passes) tracked number t rest.settled t_is) in
          let within : number < length p.seats.items = within_mapped known p.seats.items number f.row f.row_is in
          let (row, row_is) = some_at p.seats.items number within in
          let (x, x_is) = some_at p.trees.items number (omega (arith, within, rest.seated.count)) in
          let row_same : known (get_or p.seats.items number row) ≡ f.row = of_mapped known p.seats.items number row f.row within f.row_is in
          let long : 0 < length f.row = omega (arith, ap length row_same, length-map (get_or p.seats.items number row).items knows, (rest.seated.all number x row (omega (arith, within, rest.seated.count))).count, rest.seated.some_pass) in
          let (first, first_is) = some_at f.row 0 long in
          let (m, m_is) = some_at middle 0 (omega (arith, long, ran.count)) in
          let onward = leads_onward f.tree.history first (outcomes_of number 0 (answers_joined (gone.run.answers 0))) m (ran.leads 0 first m first_is m_is) in
          let seen : first.seen ≡ (seen_by f.tree.history f.row).records = all_at (λ (q : Pass). q.seen ≡ (seen_by f.tree.history f.row).records) f.row 0 first start.seen first_is in
          let now : List Record = (seen_by f.tree.history g.row).records in
          let begins : Begins (seen_by f.tree.history f.row).records now = subst (λ (z : List Record). Begins z now) seen (begins_on first.seen m.seen now onward.seen (seen_begins (seen_by f.tree.history g.row) middle g.row end 0 m m_is)) in
          let same : tracked_of f.tree g.row ≡ u = cc (f.tree_is, g.tree_is, g.is) in
          subst (λ (z : Tracked). HasGrown z u) (sym f.is) (subst (HasGrown (tracked_of f.tree f.row)) same (record { tree = seen_otherwise f.tree.history f.row g.row; begins = begins }))

      pub rests_gone : IsBetweenPhases tree knows serves many after
      rests_gone = record {
        seated = seated_by tree knows serves many p seats' p.counts entries' rest.seated gone.manned.count
            (λ at t row within. subst (λ (n : ℕ). AreAll knows serves n (get_or p.trees.items at t) (get_or seats'.items at row).items) (sym passes) (gone.manned.all at t row within));
        settled = all_from (λ (t : Tracked). IsSettled t.history t.passes) tracked' settled_at;
        closed = all_from IsClosed tracked' closed_now;
        counted = counts_grow tracked tracked' p.counts.items
            (tracked_long (map tree p.trees.items) (rows_known knows seats'.items) (length-map seats'.items known ∙ (gone.manned.count ∙ sym (length-map p.trees.items tree))) ∙ sym (tracked_long (map tree p.trees.items) (rows_known knows p.seats.items) (length-map p.seats.items known ∙ (rest.seated.count ∙ sym (length-map p.trees.items tree)))))
            grown_at rest.counted;
      }

      most_there : (number : ℕ) (t : SharedTree) → slice_get (map tree p.trees.items) number ≡ Some t → t.most ≡ most_calls
      most_there number t is =
          let within : number < length p.trees.items = within_mapped tree p.trees.items number t is in
          let (x, x_is) = some_at p.trees.items number within in
          subst (λ (z : SharedTree). z.most ≡ most_calls) (of_mapped tree p.trees.items number x t within is) (rest.seated.most number x within)

      pub played_gone : (front : List Line) (steps : List Step) → IsPhaseBehind lanes phase front lines → IsBegun phase front lines (player_state tree knows p) steps → IsPlayed (phase + 1) (front ++ lines) (player_state tree knows after)
      played_gone front steps ready (counted, begun) =
          let trees : List SharedTree = map tree p.trees.items in
          subst (λ (n : ℕ). IsPlayed (phase + 1) (front ++ lines) (stands p.rows n p.known.items (map tree p.trees.items) (rows_known knows seats'.items) entries'.items)) (sym passes)
          (phase_played lanes phase p.rows front lines p.known.items (map tree p.trees.items) (rows_known knows p.seats.items) gone.between (rows_known knows seats'.items) p.entries.items entries'.items steps counted ready
          (length-map p.seats.items known ∙ (rest.seated.count ∙ sym (length-map p.trees.items tree)))
          most_there
          (subst (λ (n : ℕ). IsPhaseBegun phase front lines (stands p.rows n p.known.items (map tree p.trees.items) (rows_known knows p.seats.items) p.entries.items) steps counted) passes begun)
          gone.run gone.settled)
