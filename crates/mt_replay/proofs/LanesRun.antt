-- What came of each lane at its desk is what came of all lanes on each tree.
use Rattle.mt_replay.proofs.Prelude.{◌≡◌, ◌⊎◌, ℕ, ◌+◌, ◌<◌, ◌≤◌, List, [], ◌∷◌, ◌++◌, Some, length, map, take, get_or, slice_get, arith, refl, sym, ap, ◌∙◌, subst, inl, inr, Vec, Global, AllByRecursion, cases_lt, ne_eqb, get_or_default, length-map, take_all, slice_get-get_or, slice_get-map, slice_get_within, option_map, Pass, Line, Entry, Asked, Step, entry_of, HaveGone, Leads, outcomes_of, asked_of_lane, AreDoneEach, answers_joined, lanes_of, take_turns, some_at, learns_none, same_some, Lane, LaneDesk, asked_of, lines_of_lane, steps_in, AreAnsweredUnless, DeskState, IsSomeWorn, SharedTree, desk_of, FromEach, LaneWent, pass_at, AreLanesFor, HaveRun, IsLaneFor, IsPassAt, room_before, rows_known, own_asked}

abbrev pub state : {R P T : Type 0} → (T → SharedTree) → (P → Pass) → LaneDesk R P T → DeskState
state tree knows d = desk_of tree knows d.lane d.phase d.trees.now d.lines.all d.passes.items d.room.items

-- ---- one place of a list that is mapped

pub mapped_at : {X Y : Type 0} (f : X → Y) (xs : List X) (i : ℕ) (d : X) → i < length xs → slice_get (map f xs) i ≡ Some (f (get_or xs i d))
mapped_at f xs i d within = slice_get-map f xs i ∙ ap (option_map f) (slice_get-get_or xs i d within)

pub of_mapped : {X Y : Type 0} (f : X → Y) (xs : List X) (i : ℕ) (d : X) (y : Y) → i < length xs → slice_get (map f xs) i ≡ Some y → f (get_or xs i d) ≡ y
of_mapped f xs i d y within is = same_some (f (get_or xs i d)) y (sym (mapped_at f xs i d within) ∙ is)

pub within_mapped : {X Y : Type 0} (f : X → Y) (xs : List X) (i : ℕ) (y : Y) → slice_get (map f xs) i ≡ Some y → i < length xs
within_mapped f xs i y is = omega (arith, slice_get_within (map f xs) i y is, length-map xs f)

none_asked : (lane : ℕ) (asked : List Asked) → AllByRecursion (λ (a : Asked). a.lane < lane) asked → asked_of_lane lane asked ≡ []
none_asked lane [] h = refl
none_asked lane (a ∷ asked) h = rw (ne_eqb a.lane lane (λ same. omega (arith, h.0, same))) (none_asked lane asked h.1)

none_above : (lane bound : ℕ) (asked : List Asked) → bound ≤ lane → AllByRecursion (λ (a : Asked). a.lane < bound) asked → AllByRecursion (λ (a : Asked). a.lane < lane) asked
none_above lane bound [] above h = tt
none_above lane bound (a ∷ asked) above h = (omega (arith, h.0), none_above lane bound asked above h.1)

-- ---- one lane

module _ {R P T : Type 0} (tree : T → SharedTree) (knows : P → Pass) (lanes phase : ℕ) (lines : List Line) (trees : List T) (rows rows' : List (Vec P Global)) (first : List Entry) (ls ks : List (Lane (LaneDesk R P T)))
    (count : length ls ≡ lanes)
    (laid : AreLanesFor trees phase lines first ls)
    (went : FromEach (λ lane l k. LaneWent knows (λ row. row.items) lane l.steps rows rows' (state tree knows l.desk) (state tree knows k.desk)) ls ks)
    (rows_stay : length rows' ≡ length rows)
    (wide : (number : ℕ) (row : Vec P Global) → number < length rows → length (get_or rows number row).items ≡ lanes + 1)
    (long : (number : ℕ) (row : Vec P Global) → length (get_or rows' number row).items ≡ length (get_or rows number row).items)
    (others : (number lane : ℕ) (row : Vec P Global) (pass : P) → length ls ≤ lane → pass_at (λ v. v.items) rows' number lane row pass ≡ pass_at (λ v. v.items) rows number lane row pass)
    (few : AllByRecursion (λ (a : Asked). a.lane < lanes) (steps_in 0 phase lines)) where
  abbrev shared : List SharedTree
  shared = map tree trees

  pub record HasCome (lane : ℕ) (k : Lane (LaneDesk R P T)) : Type 0 where
    pub answers : List (List Step)
    pub passes : List Pass
    pub passes_are : (number : ℕ) (p : Pass) → slice_get passes number ≡ Some p → IsPassAt (rows_known knows rows') number lane p
    pub answered : AreAnsweredUnless (IsSomeWorn shared passes) (asked_of_lane lane (steps_in 0 phase lines)) answers
    pub leads : (number : ℕ) (t : SharedTree) (row : Vec P Global) (p : P) → slice_get shared number ≡ Some t → number < length rows → Leads t.history (knows (pass_at (λ v. v.items) rows number lane row p)) (outcomes_of number lane (answers_joined answers)) (knows (pass_at (λ v. v.items) rows' number lane row p))
    pub told : k.desk.room.items ≡ room_before first lane ++ map entry_of (answers_joined answers)

  -- the pass of a lane, which is one of a row's
  seat_at : (number lane : ℕ) (p : Pass) → lane < lanes → number < length rows → ((row : Vec P Global) (x : P) → Some (knows (pass_at (λ v. v.items) rows' number lane row x)) ≡ Some p) → IsPassAt (rows_known knows rows') number lane p
  seat_at number lane p below within is =
      let (row, row_is) = some_at rows' number (omega (arith, rows_stay)) in
      let here : lane < length (get_or rows' number row).items = omega (arith, long number row, wide number row within) in
      let (x, x_is) = some_at (get_or rows' number row).items lane here in
      record {
        row = map knows (get_or rows' number row).items;
        row_is = mapped_at (λ (v : Vec P Global). map knows v.items) rows' number row (omega (arith, rows_stay));
        pass_is = mapped_at knows (get_or rows' number row).items lane x here ∙ is row x;
      }

  has_come : (lane : ℕ) (l k : Lane (LaneDesk R P T)) → lane < lanes → IsLaneFor trees phase (lines_of_lane lane 0 lines) (room_before first lane) lane l → LaneWent knows (λ row. row.items) lane l.steps rows rows' (state tree knows l.desk) (state tree knows k.desk) → HasCome lane k
  has_come lane l k below f w =
      let own : List Line = lines_of_lane lane 0 lines in
      let plain : DeskState = record { lane = lane; phase = phase; trees = shared; lines = own; passes = map knows l.desk.passes.items; room = room_before first lane } in
      let same : state tree knows l.desk ≡ plain = λ i. record { lane = f.lane i; phase = f.phase_is i; trees = map tree (f.trees_are i); lines = f.lines_are i; passes = map knows l.desk.passes.items; room = f.told_is i } in
      let v : LaneWent knows (λ row. row.items) lane (length own) rows rows' plain (state tree knows k.desk) = subst (λ (z : DeskState). LaneWent knows (λ row. row.items) lane (length own) rows rows' z (state tree knows k.desk)) same
      (subst (λ (z : ℕ). LaneWent knows (λ row. row.items) lane z rows rows' (state tree knows l.desk) (state tree knows k.desk)) f.steps w) in
      let taken : take (length own) own ≡ own = take_all (length own) own (omega arith) in
      record {
        answers = v.ran.answers;
        passes = v.after;
        passes_are = λ number p is.
            let within : number < length rows = omega (arith, slice_get_within v.after number p is, v.ran.count, v.count) in
            seat_at number lane p below within (λ row x. sym (v.given number row x within) ∙ is);
        answered = subst (λ (z : List Asked). AreAnsweredUnless (IsSomeWorn shared v.after) z v.ran.answers) (ap (map (asked_of lane phase)) taken ∙ sym (own_asked lane 0 phase lines)) v.ran.answered;
        leads = λ number t row p t_is within. v.ran.leads number t (knows (pass_at (λ v. v.items) rows number lane row p)) (knows (pass_at (λ v. v.items) rows' number lane row p)) t_is (v.taken number row p within) (v.given number row p within);
        told = v.ran.told;
      }

  -- ---- all lanes

  come_at : (lane : ℕ) (d : Lane (LaneDesk R P T)) → lane < lanes → HasCome lane (get_or ks lane d)
  come_at lane d below = has_come lane (get_or ls lane d) (get_or ks lane d) below (laid lane d (omega (arith, count))) (went lane d (omega (arith, count)))

  module _ (d : Lane (LaneDesk R P T)) where
    pub answers_at : (lane : ℕ) → (lane < lanes) ⊎ (lanes ≤ lane) → List (List Step)
    answers_at lane (inl below) = (come_at lane d below).answers
    answers_at lane (inr above) = []

    passes_at : (lane : ℕ) → (lane < lanes) ⊎ (lanes ≤ lane) → List Pass
    passes_at lane (inl below) = (come_at lane d below).passes
    passes_at lane (inr above) = []

    abbrev pub answers_of : ℕ → List (List Step)
    answers_of lane = answers_at lane (cases_lt lane lanes)

    abbrev passes_of : ℕ → List Pass
    passes_of lane = passes_at lane (cases_lt lane lanes)

    passes_there : (lane number : ℕ) (p : Pass) (side : (lane < lanes) ⊎ (lanes ≤ lane)) → slice_get (passes_at lane side) number ≡ Some p → IsPassAt (rows_known knows rows') number lane p
    unfolding passes_at
    passes_there lane number p (inl below) is = (come_at lane d below).passes_are number p is
    passes_there lane number p (inr above) is = absurd (omega (arith, slice_get_within [] number p is))

    answered_there : (lane : ℕ) (side : (lane < lanes) ⊎ (lanes ≤ lane)) → AreAnsweredUnless (IsSomeWorn shared (passes_at lane side)) (asked_of_lane lane (steps_in 0 phase lines)) (answers_at lane side)
    unfolding passes_at answers_at
    answered_there lane (inl below) = (come_at lane d below).answered
    answered_there lane (inr above) = rw (none_asked lane (steps_in 0 phase lines) (none_above lane lanes (steps_in 0 phase lines) above few)) tt

    module _ (number : ℕ) (t : SharedTree) (row : Vec P Global) (t_is : slice_get shared number ≡ Some t) (within : number < length rows) where
      abbrev old_row : List P
      old_row = (get_or rows number row).items

      abbrev new_row : List P
      new_row = (get_or rows' number row).items

      leads_there : (lane : ℕ) (p m : Pass) (side : (lane < lanes) ⊎ (lanes ≤ lane)) → slice_get (map knows old_row) lane ≡ Some p → slice_get (map knows new_row) lane ≡ Some m → Leads t.history p (outcomes_of number lane (answers_joined (answers_at lane side))) m
      unfolding answers_at
      leads_there lane p m (inl below) p_is m_is =
          let (x, x_is) = some_at old_row lane (within_mapped knows old_row lane p p_is) in
          subst (λ (z : Pass). Leads t.history z (outcomes_of number lane (answers_joined (come_at lane d below).answers)) m) (of_mapped knows old_row lane x p (within_mapped knows old_row lane p p_is) p_is)
          (subst (λ (z : Pass). Leads t.history (knows (get_or old_row lane x)) (outcomes_of number lane (answers_joined (come_at lane d below).answers)) z) (of_mapped knows new_row lane x m (within_mapped knows new_row lane m m_is) m_is)
          ((come_at lane d below).leads number t row x t_is within))
      leads_there lane p m (inr above) p_is m_is =
          let (x, x_is) = some_at old_row lane (within_mapped knows old_row lane p p_is) in
          let same : p ≡ m = sym (of_mapped knows old_row lane x p (within_mapped knows old_row lane p p_is) p_is) ∙ (sym (ap knows (others number lane row x (omega (arith, count)))) ∙ of_mapped knows new_row lane x m (within_mapped knows new_row lane m m_is) m_is) in
          subst (λ (z : Pass). Leads t.history p [] z) same (learns_none p)

      gone_there : HaveGone number t.history answers_of (map knows old_row) (map knows new_row)
      gone_there = record {
        count = length-map new_row knows ∙ (long number row ∙ sym (length-map old_row knows));
        leads = λ lane p m p_is m_is. leads_there lane p m (cases_lt lane lanes) p_is m_is;
      }

    gone_on : (number : ℕ) (t : SharedTree) (before between : List Pass) → slice_get shared number ≡ Some t → slice_get (rows_known knows rows) number ≡ Some before → slice_get (rows_known knows rows') number ≡ Some between → HaveGone number t.history answers_of before between
    gone_on number t before between t_is before_is between_is =
        let within : number < length rows = within_mapped (λ (v : Vec P Global). map knows v.items) rows number before before_is in
        let (row, row_is) = some_at rows number within in
        subst (λ (z : List Pass). HaveGone number t.history answers_of z between) (of_mapped (λ (v : Vec P Global). map knows v.items) rows number row before within before_is)
        (subst (λ (z : List Pass). HaveGone number t.history answers_of (map knows (get_or rows number row).items) z) (of_mapped (λ (v : Vec P Global). map knows v.items) rows' number row between (omega (arith, rows_stay)) between_is)
        (gone_there number t row t_is within))

    told_there : (lane : ℕ) (side : (lane < lanes) ⊎ (lanes ≤ lane)) → lane < lanes → (get_or ks lane d).desk.room.items ≡ room_before first lane ++ map entry_of (answers_joined (answers_at lane side))
    unfolding answers_at
    told_there lane (inl below) here = (come_at lane d below).told
    told_there lane (inr above) here = absurd (omega (arith, above, here))

    pub have_run : (entries entries' : List Entry) → length ks ≡ length ls
        → ((answers : ℕ → List (List Step)) → ((lane : ℕ) (e : Lane (LaneDesk R P T)) → lane < lanes → (get_or ks lane e).desk.room.items ≡ room_before first lane ++ map entry_of (answers_joined (answers lane))) → ((lane : ℕ) → AreDoneEach (asked_of_lane lane (steps_in 0 phase lines)) (answers lane)) → entries' ≡ entries ++ map entry_of (answers_joined (take_turns (lanes_of (steps_in 0 phase lines)) answers)))
        → HaveRun phase lines shared (rows_known knows rows) (rows_known knows rows') entries entries'
    have_run entries entries' counted told = record {
      answers = answers_of;
      passes = passes_of;
      passes_are = λ lane number p is. passes_there lane number p (cases_lt lane lanes) is;
      answered = λ lane. answered_there lane (cases_lt lane lanes);
      count = length-map rows' (λ (v : Vec P Global). map knows v.items) ∙ (rows_stay ∙ sym (length-map rows (λ (v : Vec P Global). map knows v.items)));
      gone = gone_on;
      told = told answers_of (λ lane e below. ap (λ (l : Lane (LaneDesk R P T)). l.desk.room.items) (get_or_default ks lane e d (omega (arith, counted, count, below))) ∙ told_there lane (cases_lt lane lanes) below);
    }
