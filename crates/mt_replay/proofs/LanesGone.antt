-- The lanes of a phase ran at their desks, and what they were answered was told.
use Rattle.mt_replay.proofs.Prelude.{◌≡◌, ◌≢◌, ℕ, ◌+◌, ◌<◌, ◌≤◌, List, [], ◌++◌, length, map, get_or, arith, ap, ◌∙◌, subst, inl, inr, Vec, Global, Result, Ok, Err, OnOk, AllByRecursion, cases_eq, Pass, Line, Entry, Asked, entry_of, answers_joined, some_at, every, Lane, LaneDesk, lanes_in, steps_in, SharedTree, AtEach, CanPass, FromEach, LaneWent, pass_at, in_turn, steps_lanes, AreLanesFor, AreManned, CanDo, HaveRun, room_before, rows_known}
use Rattle.mt_replay.proofs.LanesRun.{have_run, state}
use Rattle.mt_replay.proofs.Manning.{manned_still, wide}
use Rattle.mt_replay.proofs.Telling.{told_alone, told_together}

pub ok_from : {T E P Q S : Type 0} (r : Result T E) → (P → Q → S) → OnOk r P → OnOk r Q → OnOk r S
ok_from (Ok x) f p q = f p q
ok_from (Err e) f p q = tt

pub lanes_gone : {R P T : Type 0} (tree : T → SharedTree) (knows : P → Pass) (serves : T → P → Type 0) (lanes phase : ℕ) (lines : List Line) (trees : List T) (rows rows' : List (Vec P Global)) (first entries middle entries' : List Entry) (ls ks ks' : List (Lane (LaneDesk R P T)))
    → AreManned knows serves (lanes + 1) trees rows → CanDo lanes (length trees) lines → length ls ≡ lanes → AreLanesFor trees phase lines first ls
    → FromEach (λ lane l k. LaneWent knows (λ row. row.items) lane l.steps rows rows' (state tree knows l.desk) (state tree knows k.desk)) ls ks
    → AtEach (λ lane (l : Lane (LaneDesk R P T)). CanPass knows serves (λ (row : Vec P Global). row.items) lane l.desk.trees.now rows') ls
    → length rows' ≡ length rows → ((number : ℕ) (row : Vec P Global) → length (get_or rows' number row).items ≡ length (get_or rows number row).items)
    → ((number lane : ℕ) (row : Vec P Global) (pass : P) → length ls ≤ lane → pass_at (λ v. v.items) rows' number lane row pass ≡ pass_at (λ v. v.items) rows number lane row pass)
    → length ks ≡ length ls → ks' ≡ ks
    → (lanes ≡ 1 → first ≡ entries) → (lanes ≢ 1 → first ≡ []) → (length ks' ≡ 1 → (d : Lane (LaneDesk R P T)) → entries' ≡ (get_or ks' 0 d).desk.room.items) → (length ks' ≢ 1 → entries' ≡ middle ++ in_turn 0 lines (map (λ (l : Lane (LaneDesk R P T)). l.desk.room.items) ks')) → (lanes ≢ 1 → middle ≡ entries)
    → AreManned knows serves (lanes + 1) trees rows' × HaveRun phase lines (map tree trees) (rows_known knows rows) (rows_known knows rows') entries entries'
lanes_gone {R} {P} {T} tree knows serves lanes phase lines trees rows rows' first entries middle entries' ls ks ks' manned can count laid went passes rows_stay long others counted same first_alone first_none told told_back kept =
    let (d, d_is) = some_at ls 0 (omega (arith, count, can.some)) in
    let few : AllByRecursion (λ (a : Asked). a.lane < lanes) (steps_in 0 phase lines) = every (λ (a : Asked). a.lane < lanes_in 0 lines) (λ (a : Asked). a.lane < lanes) (steps_in 0 phase lines) (λ a below. omega (arith, below, can.lanes_are)) (steps_lanes 0 phase lines) in
    let run : HaveRun phase lines (map tree trees) (rows_known knows rows) (rows_known knows rows') entries entries' =
    have_run tree knows lanes phase lines trees rows rows' first ls ks count laid went rows_stay (λ number row within. wide knows serves lanes phase lines trees rows first ls manned can count laid number row (omega (arith, within, manned.count))) long others few d entries entries' counted
    (λ answers rooms answered. elim (cases_eq lanes 1) [
      | inl alone ↦
          told_alone phase lines answers entries entries' (subst (λ (n : ℕ). AllByRecursion (λ (a : Asked). a.lane < n) (steps_in 0 phase lines)) alone few) answered
          (told (omega (arith, alone, ap length same, counted, count)) d ∙ (ap (λ (z : List (Lane (LaneDesk R P T))). (get_or z 0 d).desk.room.items) same ∙ (rooms 0 d (omega (arith, alone)) ∙ ap (λ (es : List Entry). es ++ map entry_of (answers_joined (answers 0))) (first_alone alone))))
      | inr several ↦
          told_together (λ (l : Lane (LaneDesk R P T)). l.desk.room.items) lanes phase lines answers entries entries' ks (counted ∙ count) few can.numbered answered
          (λ lane e below. rooms lane e below ∙ ap (λ (es : List Entry). room_before es lane ++ map entry_of (answers_joined (answers lane))) (first_none several)) (told_back (λ one. several (omega (arith, one, ap length same, counted, count))) ∙ (ap (λ (z : List (Lane (LaneDesk R P T))). middle ++ in_turn 0 lines (map (λ (l : Lane (LaneDesk R P T)). l.desk.room.items) z)) same ∙ ap (λ (es : List Entry). es ++ in_turn 0 lines (map (λ (l : Lane (LaneDesk R P T)). l.desk.room.items) ks)) (kept several)))
    ]) in
    (manned_still knows serves lanes phase lines trees rows first ls manned can count laid tree rows' entries entries' rows_stay long others passes run, run)
