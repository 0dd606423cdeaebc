-- The seats of the trees' passes before the lanes of a phase run, and behind them.
use Rattle.mt_replay.proofs.Prelude.{◌≡◌, ◌⊎◌, ℕ, ◌+◌, ◌<◌, ◌≤◌, ◌==◌, ◌&&◌, List, [], ◌∷◌, Some, None, length, map, get_or, slice_get, arith, sym, ap, ◌∙◌, subst, inl, inr, Vec, Global, All, vec_len, vec_capacity, cases_Bool, cases_lt, slice_get_within, get_or_from_slice_get, Pass, Line, Entry, lane_after, outcomes_of, answers_joined, leads_onward, some_at, Lane, LaneDesk, is_step, lines_of_lane, SharedTree, AtEach, CanPass, IsLaid, pass_at, AreLanesFor, AreManned, CanDo, HaveRun, IsLaneFor, room_before, rows_known}
use Rattle.mt_replay.proofs.LanesRun.{mapped_at}

own_short : (lane here : ℕ) (lines : List Line) → length (lines_of_lane lane here lines) ≤ length lines
own_short lane here [] = omega arith
own_short lane here (line ∷ lines) = elim (cases_Bool (is_step line.item && (here == lane))) [
  | inl t ↦ rw t (omega (arith, own_short lane (lane_after here line.item) lines))
  | inr f ↦ rw f (omega (arith, own_short lane (lane_after here line.item) lines))
]

module _ {R P T : Type 0} (knows : P → Pass) (serves : T → P → Type 0) (lanes phase : ℕ) (lines : List Line) (trees : List T) (rows : List (Vec P Global)) (first : List Entry) (ls : List (Lane (LaneDesk R P T)))
    (manned : AreManned knows serves (lanes + 1) trees rows)
    (can : CanDo lanes (length trees) lines)
    (count : length ls ≡ lanes)
    (laid : AreLanesFor trees phase lines first ls) where
  pub wide : (at : ℕ) (row : Vec P Global) → at < length trees → length (get_or rows at row).items ≡ lanes + 1
  wide at row within = let (t, t_is) = some_at trees at within in (manned.all at t row within).count

  pub rows_wide : All (λ (row : Vec P Global). length ls ≤ vec_len row) rows
  rows_wide = λ at row within. omega (arith, wide at row (omega (arith, manned.count)), (get_or rows at row).ok, count)

  pub lanes_laid : All (λ (l : Lane (LaneDesk R P T)). IsLaid l.steps (length l.desk.trees.now) l.desk.lines.all l.desk.lines.left (vec_len l.desk.passes) (vec_len l.desk.room) (vec_capacity l.desk.room)) ls
  lanes_laid = λ lane d within.
      let l : Lane (LaneDesk R P T) = get_or ls lane d in
      let f : IsLaneFor trees phase (lines_of_lane lane 0 lines) (room_before first lane) lane l = laid lane d within in
      record {
        all = f.steps ∙ sym (ap length f.lines_are);
        turns = omega (arith, f.steps, own_short lane 0 lines, can.short);
        lines_of = rw (f.lines_are, f.trees_are) (can.own lane);
        left_is = f.left_is ∙ sym f.lines_are;
        passes_of = f.passes ∙ sym (ap length f.trees_are);
        roomy = rw f.lines_are f.roomy;
      }

  pub lanes_pass : AtEach (λ lane (l : Lane (LaneDesk R P T)). CanPass knows serves (λ (row : Vec P Global). row.items) lane l.desk.trees.now rows) ls
  lanes_pass = λ lane d within.
      let f : IsLaneFor trees phase (lines_of_lane lane 0 lines) (room_before first lane) lane (get_or ls lane d) = laid lane d within in
      rw f.trees_are (record {
        count = manned.count;
        closed = λ at row p here. manned.closed at row (omega (arith, manned.count)) lane p (omega (arith, wide at row (omega (arith, manned.count)), count));
        serves_all = λ at t row p here. (manned.all at t row (omega (arith, manned.count))).of lane p (omega (arith, wide at row (omega (arith, manned.count)), count));
      })

  -- ---- behind the lanes

  module _ (tree : T → SharedTree) (rows' : List (Vec P Global)) (entries entries' : List Entry)
      (rows_stay : length rows' ≡ length rows)
      (long : (number : ℕ) (row : Vec P Global) → length (get_or rows' number row).items ≡ length (get_or rows number row).items)
      (others : (number lane : ℕ) (row : Vec P Global) (pass : P) → length ls ≤ lane → pass_at (λ v. v.items) rows' number lane row pass ≡ pass_at (λ v. v.items) rows number lane row pass)
      (passes : AtEach (λ lane (l : Lane (LaneDesk R P T)). CanPass knows serves (λ (row : Vec P Global). row.items) lane l.desk.trees.now rows') ls)
      (run : HaveRun phase lines (map tree trees) (rows_known knows rows) (rows_known knows rows') entries entries') where
    abbrev known : Vec P Global → List Pass
    known v = map knows v.items

    can_pass : (lane : ℕ) → lane < lanes → CanPass knows serves (λ (row : Vec P Global). row.items) lane trees rows'
    can_pass lane below =
        let (l, l_is) = some_at ls lane (omega (arith, count)) in
        let here : lane < length ls = omega (arith, count) in
        subst (λ (z : List T). CanPass knows serves (λ (row : Vec P Global). row.items) lane z rows') (laid lane l here).trees_are (passes lane l here)

    serves_there : (at lane : ℕ) (t : T) (row : Vec P Global) (p : P) → at < length trees → lane < lanes + 1 → (lane < lanes) ⊎ (lanes ≤ lane) → serves (get_or trees at t) (get_or (get_or rows' at row).items lane p)
    serves_there at lane t row p within here (inl below) = (can_pass lane below).serves_all at t row p (omega (arith, manned.count, rows_stay))
    serves_there at lane t row p within here (inr above) = rw (others at lane row p (omega (arith, count))) ((manned.all at t row within).of lane p (omega (arith, wide at row within)))

    closed_there : (at lane : ℕ) (row : Vec P Global) (p : P) → at < length trees → lane < lanes + 1 → (lane < lanes) ⊎ (lanes ≤ lane) → (knows (get_or (get_or rows' at row).items lane p)).standing ≡ None
    closed_there at lane row p within here (inl below) = (can_pass lane below).closed at row p (omega (arith, manned.count, rows_stay))
    closed_there at lane row p within here (inr above) = rw (others at lane row p (omega (arith, count))) (manned.closed at row within lane p (omega (arith, wide at row within)))

    -- a pass keeps its number
    numbered_there : (at lane : ℕ) (t : T) (row : Vec P Global) (q : P) → at < length trees → slice_get (get_or rows' at row).items lane ≡ Some q → (knows q).number ≡ lane
    numbered_there at lane t row q within is =
        let here' : lane < length (get_or rows' at row).items = slice_get_within (get_or rows' at row).items lane q is in
        let here : lane < length (get_or rows at row).items = omega (arith, here', long at row) in
        let (p, p_is) = some_at (get_or rows at row).items lane here in
        let gone = run.gone at (tree (get_or trees at t)) (known (get_or rows at row)) (known (get_or rows' at row)) (mapped_at tree trees at t within) (mapped_at known rows at row (omega (arith, manned.count))) (mapped_at known rows' at row (omega (arith, manned.count, rows_stay))) in
        let m_is : slice_get (known (get_or rows' at row)) lane ≡ Some (knows q) = mapped_at knows (get_or rows' at row).items lane q here' ∙ ap (λ z. Some (knows z)) (get_or_from_slice_get (get_or rows' at row).items lane q q is) in
        let p_was : slice_get (known (get_or rows at row)) lane ≡ Some (knows p) = mapped_at knows (get_or rows at row).items lane p here ∙ ap (λ z. Some (knows z)) (get_or_from_slice_get (get_or rows at row).items lane p p p_is) in
        let onward = leads_onward (tree (get_or trees at t)).history (knows p) (outcomes_of at lane (answers_joined (run.answers lane))) (knows q) (gone.leads lane (knows p) (knows q) p_was m_is) in
        onward.number ∙ (manned.all at t row within).numbered lane p p_is

    pub manned_still : AreManned knows serves (lanes + 1) trees rows'
    manned_still = record {
      count = rows_stay ∙ manned.count;
      all = λ at t row within. record {
        count = long at row ∙ wide at row within;
        of = λ lane p here. serves_there at lane t row p within (omega (arith, here, long at row, wide at row within)) (cases_lt lane lanes);
        numbered = λ lane q is. numbered_there at lane t row q within is;
      };
      closed = λ at row within lane p here. closed_there at lane row p within (omega (arith, here, long at row, wide at row within)) (cases_lt lane lanes);
    }
