-- What the writer's rows keep, over each step.
use Rattle.mt_pen.proofs.Prelude.{◌≡◌, ◌≢◌, ℕ, zero, suc, ◌+◌, ◌<◌, ◌≤◌, ◌++◌, Bool, true, false, Some, None, List, [], ◌∷◌, length, min, refl, sym, subst, ◌∙◌, arith, length-set, length-append, if◌then◌else◌, slice_set, slice_index, Life, Draft, Dead, Scan, one_if, life_of, IsScan, Told, Moment, PenPart, PassPart, none_open, scan_of, known_by, least_number, pen_drafted, pen_tended, pen_ended, Identity, HasScanned, loaded_from, epoch_told, is_loaded, told_of, IsWorked}
use Rattle.mt_pen.proofs.Cleared.{all_of, least_least, least_kept, cleared_count, cleared_most, cleared_kept, cleared_low}
use Rattle.mt_pen.proofs.Scanning.{is_scan}
use Rattle.mt_pen.proofs.Telling.{Tells, tells, words_least, words_loaded}

set_dead : (lives : List Life) (row r call : ℕ) → life_of (slice_set lives row Draft) r ≡ Dead call → life_of lives r ≡ Dead call
set_dead [] row r call is = is
set_dead (l ∷ lives) zero zero call is = cc
set_dead (l ∷ lives) zero (suc r) call is = is
set_dead (l ∷ lives) (suc row) zero call is = is
set_dead (l ∷ lives) (suc row) (suc r) call is = set_dead lives row r call is

-- words and lives have changed, and no row is dead that was not
worked_words : (p : PenPart) (words : List ℕ) (lives : List Life) (scan : Scan) (scans : ℕ) → length words ≡ length p.words → length lives ≡ length p.lives
    → ((r call : ℕ) → life_of lives r ≡ Dead call → life_of p.lives r ≡ Dead call) → IsWorked p scan scans → IsWorked (record p { words = words; lives = lives }) scan scans
worked_words p words lives scan scans many_words many_lives were_dead w = record {
  rows = w.rows;
  words = many_words ∙ w.words;
  lives = many_lives ∙ w.lives;
  buried = w.buried;
  dead = λ r call is. w.dead r call (were_dead r call is);
  some_pass = w.some_pass;
  passes = w.passes;
  cleared = w.cleared;
  count = w.count;
  calm = w.calm;
  opens = w.opens;
  least = w.least;
  holder = w.holder;
  scanned = w.scanned;
  unscanned = w.unscanned;
}

pub worked_draft : (row col word : ℕ) (p p' : PenPart) (scan : Scan) (scans : ℕ) → p' ≡ pen_drafted row col word p → IsWorked p scan scans → IsWorked p' scan scans
worked_draft row col word p p' scan scans step w = subst (λ (x : PenPart). IsWorked x scan scans) (sym step)
    (worked_words p _ (slice_set p.lives row Draft) scan scans (length-set p.words _ word) (length-set p.lives row Draft) (set_dead p.lives row) w)

pub worked_tend : (row col word : ℕ) (p p' : PenPart) (scan : Scan) (scans : ℕ) → p' ≡ pen_tended row col word p → IsWorked p scan scans → IsWorked p' scan scans
worked_tend row col word p p' scan scans step w = subst (λ (x : PenPart). IsWorked x scan scans) (sym step)
    (worked_words p _ p.lives scan scans (length-set p.words _ word) refl (λ r call is. is) w)

-- ---- a scan

within : (p : PenPart) (scan : Scan) (scans : ℕ) → IsWorked p scan scans → (k : ℕ) → slice_index p.cleared k ≤ p.ended
within p scan scans w = all_of p.cleared p.ended (λ k l. w.cleared k (omega (arith, l, w.passes)))

pub worked_scan : (p : PenPart) (q : PassPart) (p' : PenPart) (scan scan' : Scan) (scans scans' passes : ℕ) → HasScanned p q p' scan' passes → passes ≡ p.shape.passes → 1 ≤ scans' → IsWorked p scan scans → IsWorked p' scan' scans'
worked_scan p q p' scan scan' scans scans' passes h all some w = subst (λ (x : PenPart). IsWorked x scan' scans') (sym h.pen) (record {
  rows = w.rows;
  words = w.words;
  lives = w.lives;
  buried = w.buried;
  dead = w.dead;
  some_pass = w.some_pass;
  passes = cleared_count p.ended 0 h.words p.cleared ∙ w.passes;
  cleared = λ k l. cleared_most p q 0 h.words p.cleared h.each (within p scan scans w) k;
  count = w.count;
  calm = w.calm;
  opens = w.opens;
  least = subst (λ (x : Scan). x.least ≡ epoch_told x.by) (sym h.found) (words_least 0 h.words none_open refl);
  holder = subst (λ (x : Scan). is_loaded x.by (loaded_from 0 h.words p.loaded) ≡ true) (sym h.found) (words_loaded 0 h.words none_open p.loaded refl);
  scanned = λ _. is_scan p.sections h.words p.shape.passes scan' (h.count ∙ all) h.found;
  unscanned = λ none. absurd (omega (arith, none, some));
})

pub scan_kept : (p : PenPart) (q : PassPart) (p' : PenPart) (scan scan' : Scan) (scans passes : ℕ) → HasScanned p q p' scan' passes → IsWorked p scan scans → least_number p.cleared ≤ least_number p'.cleared
scan_kept p q p' scan scan' scans passes h w = subst (λ (x : PenPart). least_number p.cleared ≤ least_number x.cleared) (sym h.pen)
    (least_kept p.cleared _ (cleared_count p.ended 0 h.words p.cleared) (omega (arith, w.passes, w.some_pass)) (cleared_kept p q 0 h.words p.cleared h.each (within p scan scans w)))

pub scan_cleared : (p : PenPart) (q : PassPart) (p' : PenPart) (scan scan' : Scan) (scans passes : ℕ) → HasScanned p q p' scan' passes → passes ≡ p.shape.passes → IsWorked p scan scans → min scan'.least p.ended ≤ least_number p'.cleared
scan_cleared p q p' scan scan' scans passes h all w = subst (λ (x : Scan). min x.least p.ended ≤ least_number p'.cleared) (sym h.found) (subst (λ (x : PenPart). min (scan_of h.words).least p.ended ≤ least_number x.cleared) (sym h.pen)
    (least_least _ _ (omega (arith, cleared_count p.ended 0 h.words p.cleared, w.passes, w.some_pass))
    (λ k l. cleared_low p q 0 h.words p.cleared none_open h.each (within p scan scans w) k (omega arith)
    (omega (arith, l, cleared_count p.ended 0 h.words p.cleared, w.passes, h.count, all)) (omega (arith, l, cleared_count p.ended 0 h.words p.cleared)))))

pub scan_answers : (t : Identity) (p : PenPart) (q : PassPart) (p' : PenPart) (scan : Scan) → HasScanned p q p' scan t.shape.passes → IsScan true (Some (told_of t p (known_by q))) scan
scan_answers t p q p' scan h =
    let known : Tells q t.shape.passes scan = subst (λ (x : Scan). Tells q t.shape.passes x) (sym h.found) (subst (λ n. Tells q n (scan_of h.words)) h.count (tells p q h.words h.each)) in
    record {
      least = known.least;
      alone = λ e. cc;
      pass = λ told holder is by. let same : told_of t p (known_by q) ≡ told = cc in
          subst (λ (x : Told). (holder.pass < x.caller.passes) × (x.caller.standing ≡ None → holder.pass ≢ x.caller.pass)) same (known.pass holder by);
    }

-- ---- the end of a call

one_at_most : (b : Bool) → one_if b ≤ 1
one_at_most true = omega arith
one_at_most false = omega arith

more_history : (history : List Moment) (m : Moment) (ended : ℕ) (published : Bool) → length history ≡ ended + one_if published → length (if published then history else history ++ m ∷ []) ≡ (ended + 1) + 0
more_history history m ended true count = omega (arith, count)
more_history history m ended false count = omega (arith, count, length-append history (m ∷ []))

pub worked_end : (m : Moment) (p p' : PenPart) (scan : Scan) (scans : ℕ) → p' ≡ pen_ended m p → IsWorked p scan scans → IsWorked p' scan scans
worked_end m p p' scan scans step w = subst (λ (x : PenPart). IsWorked x scan scans) (sym step) (record {
  rows = w.rows;
  words = w.words;
  lives = w.lives;
  buried = w.buried;
  dead = λ r call is. let d = w.dead r call is in (d.0, omega (arith, d.1, one_at_most p.in_flight));
  some_pass = w.some_pass;
  passes = w.passes;
  cleared = λ k l. omega (arith, w.cleared k l);
  count = more_history p.history m p.ended p.published w.count;
  calm = λ e. refl;
  opens = w.opens;
  least = w.least;
  holder = w.holder;
  scanned = w.scanned;
  unscanned = w.unscanned;
})
