-- The rule is kept where a seat is cut in two, and where two are joined, and by the loads that show a pass more of the history.
use Rattle.mt_rule.proofs.Prelude.{◌≡◌, ℕ, ◌+◌, ◌<◌, List, [], refl, sym, ap, ◌∙◌, subst, arith, length, set, get_or, Some, None, false, none, some-ne-none, set-get_or, length-map, none-some, Me, step, keeps, Allows, Splits, Joins, History, IsLegal, Begins, begins_long, begins_none, all_map, Extent, Moment, TableStart, Shape, View, PenPart, PassPart, NotePart, SectionWord, HasPen, HasPass, HasNote, pen_of, pass_of, note_of, new_part, record_of, records_of, tree_of, known_by, longer_history, no_view, dealing_view, dealt_view, pen_joined, with_pass, with_note, without_pass, pass_alone, note_alone, section_at, IsOneHistory, IsSoundPen, WordsFit, PassFits, ViewFits, IsKept, all_seen, taught, sees_all, learns, WasShown, one_if}
use Rattle.mt_base.specs.Passes as ways
use Rattle.mt_rule.proofs.Beginnings.{begins_records, longer_fits, places_none, legal_within}
use Rattle.mt_rule.proofs.Viewing.{each_set, each_split, each_join, other_view, pen_is, pass_is, note_is, owned, owned_here, owned_else, stays, nothing_fits, beside_fits, seat_fits, seen_fits}
use Rattle.mt_rule.proofs.Carrying.{St, recast, reparted, reseated, still_history, still_sound}

-- ---- a load, which leaves all words and all that the pen knows

looked : (told : TableStart) (s : St) (r : IsKept told s) (at by : ℕ) (w : View)
    → ((words : List ℕ) → words ≡ s.words → ViewFits r.pen r.owner r.extents r.part words by w)
    → IsKept told record { words = set s.words at (get_or s.words at 0); homes = s.homes; views = set s.views by w }
looked told s r at by w fits =
    let same : set s.words at (get_or s.words at 0) ≡ s.words = set-get_or s.words at 0 in
    reseated s r r.owner (subst (λ (l : List ℕ). WordsFit l r.part) (sym same) r.words)
    (each_set (ViewFits r.pen r.owner r.extents r.part (set s.words at (get_or s.words at 0))) s.views by w
    (λ j u _ e. subst (λ (l : List ℕ). ViewFits r.pen r.owner r.extents r.part l j u) (sym same) (r.each j u e))
    (fits (set s.words at (get_or s.words at 0)) same))

-- ---- a pass is dealt

abbrev dealt_more : PenPart → PenPart
dealt_more p = record p { dealt = p.dealt + 1 }

dealt_history : (p : PenPart) → IsOneHistory p → p.dealt < p.shape.passes → IsOneHistory (dealt_more p)
dealt_history p one room = record {
  dealt = omega arith;
  callers = all_map (λ r. r.pass < p.dealt) (λ r. r.pass < p.dealt + 1) (λ r h. omega arith) (records_of p.history) one.callers;
  named = one.named;
  loaded = λ h c. let a = one.loaded h c in omega arith;
  count = one.count;
  calm = one.calm;
  few = one.few;
  legal = one.legal;
}

dealt_sound : (extents : ℕ → Extent) (p : PenPart) → IsSoundPen extents p → p.dealt < p.shape.passes → IsSoundPen extents (dealt_more p)
dealt_sound extents p s room = still_sound extents p (dealt_more p) s (dealt_history p s.history room) s.known s.dead s.passes s.cleared

dealt_words : (words : List ℕ) (p : PenPart) → WordsFit words p → WordsFit words (dealt_more p)
dealt_words words p w = record { size = w.size; commits = w.commits; begun = w.begun; root = w.root; sections = w.sections; undealt = λ k low high. w.undealt k (omega arith) high; unnamed = w.unnamed; columns = w.columns }

still_fits : (extents : ℕ → Extent) (p : PenPart) (q : PassPart) → PassFits extents p q → PassFits extents (dealt_more p) q
still_fits extents p q = beside_fits extents p q (p.dealt + 1) p.sections q.steps q.marks (omega arith)

new_fits : (extents : ℕ → Extent) (p : PenPart) → IsOneHistory p → PassFits extents (dealt_more p) (new_part p.shape p.dealt)
new_fits extents p one = record {
  shape = refl;
  number = omega arith;
  seen = (p.history, refl);
  mine = refl;
  all = places_none 1 p.dealt (records_of p.history) one.callers;
  ended = omega arith;
  over = omega arith;
  begun = omega arith;
  risen = omega arith;
  epoch = omega arith;
  loaded = λ h c e. let a = one.loaded h c in absurd (omega arith);
  standing = λ n e. absurd (none-some n e);
  closed = λ e. refl;
  floor = λ n e. absurd (none-some n e);
  held = λ j x e. absurd (some-ne-none x (sym e));
}

pub dealing : (told : TableStart) (by : ℕ) (v : View) → HasPen v → (pen_of v).dealt < (pen_of v).shape.passes → Splits (IsKept told) by v (dealing_view v) (dealt_view v)
dealing told by v has_pen room s r₀ at =
    let p = pen_of v in
    let known = (r₀.each by v at).keeper p has_pen in
    let r = recast told s r₀ p (sym known.1) in
    let own = r.each by v at in
    let p' : PenPart = dealt_more p in
    let q' : PassPart = new_part p.shape p.dealt in
    let owner' = owned r.owner p.dealt (length s.views) in
    let same : (j : ℕ) (u : View) → ViewFits r.pen r.owner r.extents p s.words j u → (x : PassPart) → u.pass ≡ Some x → j ≡ owner' x.number =
    λ j u g x k. let a = (g.passes x k).number in g.at x k ∙ sym (owned_else r.owner p.dealt (length s.views) x.number (λ n. omega arith)) in
    reparted s r owner' p' refl (dealt_sound r.extents p r.sound room) (dealt_words s.words p r.words)
    (each_split (ViewFits r.pen owner' r.extents p' s.words) s.views by (dealing_view v) (dealt_view v)
    (λ j u apart e. let g = r.each j u e in record { keeper = λ x k. absurd (apart ((g.keeper x k).0 ∙ sym known.0)); at = same j u g; section = g.section; passes = λ x k. still_fits r.extents p x (g.passes x k); notes = g.notes })
    record { keeper = λ x k. (known.0, sym (pen_is p' x k)); at = same by v own; section = own.section; passes = λ x k. still_fits r.extents p x (own.passes x k); notes = own.notes }
    (seat_fits r.pen owner' r.extents p' s.words (length s.views) None q' None (λ x k. absurd (none-some x k)) (sym (owned_here r.owner p.dealt (length s.views) p.dealt refl))
    (r.words.undealt p.dealt (omega arith) room) (new_fits r.extents p r.sound.history) (λ n k. absurd (none-some n k))))

-- ---- a pass beside the pen, and apart again

-- what is known of sections that were loaded is no part of the rule
module _ (e : ℕ → Extent) (p : PenPart) (sections : List SectionWord) where
  abbrev with_sections : PenPart
  with_sections = record p { sections = sections }

  pub sound_with : IsSoundPen e p → IsSoundPen e with_sections
  sound_with s = let one = s.history in still_sound e p with_sections s (still_history p with_sections one one.count one.calm one.few) s.known s.dead s.passes s.cleared

  words_with : (words : List ℕ) → WordsFit words p → WordsFit words with_sections
  words_with words w = record { size = w.size; commits = w.commits; begun = w.begun; root = w.root; sections = w.sections; undealt = w.undealt; unnamed = w.unnamed; columns = w.columns }

  pass_with : (q : PassPart) → PassFits e p q → PassFits e with_sections q
  pass_with q = beside_fits e p q p.dealt sections q.steps q.marks (omega arith)

pub joining : (told : TableStart) (id other : ℕ) (v w : View) → HasPen v → HasPass w → Joins (IsKept told) id v other w (with_pass v w) no_view
joining told id other v w has_pen has_pass s r₀ at apart at_other =
    let p = pen_of v in
    let known = (r₀.each id v at).keeper p has_pen in
    let r = recast told s r₀ p (sym known.1) in
    let there = other_view s.views id other (with_pass v w) w apart at_other in
    let own = r.each id v at in let f = r.each other w there in let q = pass_of w in
    let p' : PenPart = pen_joined p in
    let owner' = owned r.owner q.number id in
    reparted s r owner' p' refl (sound_with r.extents p [] r.sound) (words_with r.extents p [] s.words r.words)
    (each_join (ViewFits r.pen owner' r.extents p' s.words) s.views id other (with_pass v w) no_view
    (λ j u a b e. let g = stays r.pen r.owner r.extents p s.words q.number other id j u (f.at q has_pass) b (r.each j u e) in record { keeper = λ x k. absurd (a ((g.keeper x k).0 ∙ sym known.0)); at = g.at; section = g.section; passes = λ x k. pass_with r.extents p [] x (g.passes x k); notes = g.notes })
    record {
      keeper = λ x k. (known.0, sym (pen_is p' x k));
      at = λ x k. sym (owned_here r.owner q.number id x.number (sym (ap (λ (z : PassPart). z.number) (pass_is q x (sym has_pass ∙ k)))));
      section = f.section;
      passes = λ x k. pass_with r.extents p [] x (f.passes x k);
      notes = own.notes;
    }
    (nothing_fits r.pen owner' r.extents p' s.words other))

pub parting : (told : TableStart) (by : ℕ) (v : View) → HasPass v → Splits (IsKept told) by v (without_pass v) (pass_alone v)
parting told by v has_pass s r at =
    let own = r.each by v at in let q = pass_of v in let p = r.part in
    let owner' = owned r.owner q.number (length s.views) in
    reseated s r owner' r.words
    (each_split (ViewFits r.pen owner' r.extents p s.words) s.views by (without_pass v) (pass_alone v)
    (λ j u a e. stays r.pen r.owner r.extents p s.words q.number by (length s.views) j u (own.at q has_pass) a (r.each j u e))
    record { keeper = own.keeper; at = λ x k. absurd (none-some x k); section = λ x k. absurd (none-some x k); passes = λ x k. absurd (none-some x k); notes = own.notes }
    record {
      keeper = λ x k. absurd (none-some x k);
      at = λ x k. sym (owned_here r.owner q.number (length s.views) x.number (sym (ap (λ (z : PassPart). z.number) (pass_is q x (sym has_pass ∙ k)))));
      section = own.section;
      passes = own.passes;
      notes = λ n k. absurd (none-some n k);
    })

-- ---- notes

pub noting : (told : TableStart) (by : ℕ) (v : View) → HasPass v → Splits (IsKept told) by v v (note_alone v)
noting told by v has_pass s r at =
    let own = r.each by v at in let q = pass_of v in let p = r.part in
    reseated s r r.owner r.words
    (each_split (ViewFits r.pen r.owner r.extents p s.words) s.views by v (note_alone v) (λ j u a e. r.each j u e) own
    record {
      keeper = λ x k. absurd (none-some x k);
      at = λ x k. absurd (none-some x k);
      section = λ x k. absurd (none-some x k);
      passes = λ x k. absurd (none-some x k);
      notes = λ n k. subst (λ (z : NotePart). Begins z.seen p.history) (note_is (record { seen = q.seen }) n k) (own.passes q has_pass).seen;
    })

pub note_joining : (told : TableStart) (id other : ℕ) (v w : View) → Joins (IsKept told) id v other w (with_note v w) no_view
note_joining told id other v w s r at apart at_other =
    let there = other_view s.views id other (with_note v w) w apart at_other in
    let own = r.each id v at in let f = r.each other w there in let p = r.part in
    reseated s r r.owner r.words
    (each_join (ViewFits r.pen r.owner r.extents p s.words) s.views id other (with_note v w) no_view (λ j u a b e. r.each j u e)
    record { keeper = own.keeper; at = own.at; section = own.section; passes = own.passes; notes = f.notes }
    (nothing_fits r.pen r.owner r.extents p s.words other))

-- ---- the lock shows all

shown_fits : (extents : ℕ → Extent) (p : PenPart) (q : PassPart) → IsOneHistory p → PassFits extents p q → PassFits extents p (all_seen p q)
shown_fits extents p q one f = let n = one.count in let o = f.over in
    seen_fits extents p q p.history p.ended f f.seen (begins_none p.history) f.over (omega arith) (omega arith)

pub seeing : (told : TableStart) (slots by : ℕ) (me : Me (Unit {0}) View) → HasPen me.0 → HasPass me.0 → Allows (IsKept told) slots by me 0 (λ n. n) (sees_all (step slots 0 0 0 none) me)
seeing told slots by me has_pen has_pass s r₀ _ at _ =
    let v = me.0 in let p = pen_of v in let q = pass_of v in
    let known = (r₀.each by v at).keeper p has_pen in
    let r = recast told s r₀ p (sym known.1) in
    let own = r.each by v at in let f = own.passes q has_pass in
    let q' : PassPart = all_seen p q in
    let w : View = record v { pass = Some q' } in
    let fits : (words : List ℕ) → words ≡ s.words → ViewFits r.pen r.owner r.extents r.part words by w = λ words same.
    seat_fits r.pen r.owner r.extents p words by v.pen q' v.note own.keeper (own.at q has_pass) (ap (λ (l : List ℕ). get_or l (section_at q.number) 0) same ∙ own.section q has_pass) (shown_fits r.extents p q r.sound.history f) own.notes in
    (w, keeps, tt, looked told s r 0 by w fits, record { view = refl; count = r.words.commits; extents = r.extents; sound = r.sound; fits = f })

-- what the pass beside the pen then knows is that it saw the whole history
pub was_shown : (t : Shape) (extents : ℕ → Extent) (p : PenPart) (q : PassPart) → p.shape ≡ t → p.in_flight ≡ false → IsSoundPen extents p → PassFits extents p q
    → WasShown (tree_of t []) p (known_by q) (known_by (all_seen p q))
was_shown t extents p q shaped idle sound f =
    let one = sound.history in
    let count : p.ended ≡ length (records_of p.history) = (let n = one.count in let l = length-map p.history record_of in let z : one_if p.published ≡ 0 = rw (one.calm idle) refl in omega arith) in
    let flight : one_if p.in_flight ≡ 0 = rw idle refl in
    let all = shown_fits extents p q one f in
    record {
      saw = record {
        seen = begins_records q.seen p.history f.seen;
        pass = λ i. record (known_by q) { seen = records_of p.history; ended = count i };
        begun = (let b = f.begun in omega arith);
        ended = (let o = f.over in omega arith);
        sound = record { own = all.mine; legal = subst (λ (s : Shape). IsLegal (tree_of s p.history)) shaped one.legal };
      };
      all = refl;
      opened = f.loaded;
      extents = extents;
      sound = sound;
    }

pub shown_with : (tree : History) (p : PenPart) (a b : ways.Pass) (sections : List SectionWord) → WasShown tree p a b → WasShown tree (record p { sections = sections }) a b
shown_with tree p a b sections s = record { saw = s.saw; all = s.all; opened = s.opened; extents = s.extents; sound = sound_with s.extents p sections s.sound }

-- ---- a note is learnt

taught_fits : (extents : ℕ → Extent) (p : PenPart) (q : PassPart) (n : NotePart) → PassFits extents p q → Begins n.seen p.history → PassFits extents p (taught q n)
taught_fits extents p q n f told =
    let l = longer_fits q.seen n.seen p.history f.seen told in
    let more = begins_long q.seen (longer_history q.seen n.seen) l.this in
    let e = f.ended in
    seen_fits extents p q (longer_history q.seen n.seen) q.ended f l.this l.whole (omega arith) (omega arith) f.over

-- what a pass has seen is a legal history of its tree
pub sound_of : (extents : ℕ → Extent) (p : PenPart) (q : PassPart) (h : List Moment) → IsOneHistory p → PassFits extents p q → ways.IsSound (tree_of q.shape h) (known_by q)
sound_of extents p q h one f = record { own = f.mine; legal = subst (λ (s : Shape). IsLegal (tree_of s q.seen)) (sym f.shape) (legal_within p.shape q.seen p.history f.seen one.legal) }

pub learning : (told : TableStart) (slots by : ℕ) (me : Me (Unit {0}) View) → HasPass me.0 → HasNote me.0 → Allows (IsKept told) slots by me 0 (λ n. n) (learns (step slots 0 0 0 none) me)
learning told slots by me has_pass has_note s r _ at _ =
    let v = me.0 in let q = pass_of v in let n = note_of v in let p = r.part in
    let own = r.each by v at in let f = own.passes q has_pass in
    let noted = own.notes n has_note in
    let l = longer_fits q.seen n.seen p.history f.seen noted in
    let f' = taught_fits r.extents p q n f noted in
    let q' : PassPart = taught q n in
    let w : View = record v { pass = Some q'; note = None } in
    let fits : (words : List ℕ) → words ≡ s.words → ViewFits r.pen r.owner r.extents r.part words by w = λ words same.
    seat_fits r.pen r.owner r.extents p words by v.pen q' None own.keeper (own.at q has_pass) (ap (λ (l : List ℕ). get_or l (section_at q.number) 0) same ∙ own.section q has_pass) f' (λ n k. absurd (none-some n k)) in
    (w, keeps, tt, looked told s r 0 by w fits, (record { view = refl; seen = l.this; told = l.that; sound = sound_of r.extents p q' [] r.sound.history f' }, refl))
