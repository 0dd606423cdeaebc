-- Lists of views of which one or two change, and the parts of a view.
use Rattle.mt_rule.proofs.Prelude.{◌≡◌, ◌≢◌, ◌⊎◌, ℕ, zero, suc, ◌≤◌, ◌==◌, List, [], ◌∷◌, ◌++◌, length, set, refl, sym, ap, ◌∙◌, subst, inl, inr, ⊎_elim, arith, length-set, Some, if◌then◌else◌, slice_index, Option, ne_eqb, eq-eqb, none-some, some, some-ne-none, some-injective, get_elem?, at_set, Begins, begins_long, Extent, View, PenPart, PassPart, NotePart, Moment, SectionWord, section_at, section_word, pen_or, pass_or, note_or, no_view, records_of, begun_by, PassFits, ViewFits}
use Rattle.mt_base.specs.Passes as known
use Rattle.mt_rule.proofs.Beginnings.{places_within}

-- ---- lists of views

module _ {V : Type 0} (F : ℕ → V → Type 0) where
  pub each_set : (views : List V) (by : ℕ) (w : V) → ((j : ℕ) (u : V) → j ≢ by → get_elem? views j ≡ some u → F j u) → F by w → (j : ℕ) (u : V) → get_elem? (set views by w) j ≡ some u → F j u
  each_set views by w others mine j u e =
      ⊎_elim
      (λ (x : (j ≡ by) × (w ≡ u)). subst (λ (y : ℕ × V). F y.0 y.1) (λ i. (sym x.0 i, x.1 i)) mine)
      (λ (x : (j ≢ by) × (get_elem? views j ≡ some u)). others j u x.0 x.1)
      (at_set views by j w u e)

  at_end : (l : List V) (a b : V) (j : ℕ) → get_elem? (l ++ a ∷ []) j ≡ some b → ((j ≢ length l) × (get_elem? l j ≡ some b)) ⊎ ((j ≡ length l) × (a ≡ b))
  at_end [] a b zero e = inr (refl, some-injective a b e)
  at_end [] a b (suc j) e = absurd (some-ne-none b (sym e))
  at_end (x ∷ l) a b zero e = inl ((λ h. omega arith), e)
  at_end (x ∷ l) a b (suc j) e = ⊎_elim (λ t. let n = t.0 in inl ((λ h. n (omega arith)), t.1)) (λ t. inr (ap suc t.0, t.1)) (at_end l a b j e)

  -- one seat gets the view w, and a new one the view x
  pub each_split : (views : List V) (by : ℕ) (w x : V) → ((j : ℕ) (u : V) → j ≢ by → get_elem? views j ≡ some u → F j u) → F by w → F (length views) x
      → (j : ℕ) (u : V) → get_elem? (set views by w ++ x ∷ []) j ≡ some u → F j u
  each_split views by w x others mine new j u e =
      ⊎_elim
      (λ (y : (j ≢ length (set views by w)) × (get_elem? (set views by w) j ≡ some u)). each_set views by w others mine j u y.1)
      (λ (y : (j ≡ length (set views by w)) × (x ≡ u)). subst (λ (z : ℕ × V). F z.0 z.1) (λ i. (sym (y.0 ∙ length-set views by w) i, y.1 i)) new)
      (at_end (set views by w) x u j e)

  -- one seat gets the view w, and another the view x
  pub each_join : (views : List V) (by other : ℕ) (w x : V) → ((j : ℕ) (u : V) → j ≢ by → j ≢ other → get_elem? views j ≡ some u → F j u) → F by w → F other x
      → (j : ℕ) (u : V) → get_elem? (set (set views by w) other x) j ≡ some u → F j u
  each_join views by other w x others mine new j u e =
      ⊎_elim
      (λ (y : (j ≡ other) × (x ≡ u)). subst (λ (z : ℕ × V). F z.0 z.1) (λ i. (sym y.0 i, y.1 i)) new)
      (λ (y : (j ≢ other) × (get_elem? (set views by w) j ≡ some u)). ⊎_elim
      (λ (z : (j ≡ by) × (w ≡ u)). subst (λ (t : ℕ × V). F t.0 t.1) (λ i. (sym z.0 i, z.1 i)) mine)
      (λ (z : (j ≢ by) × (get_elem? views j ≡ some u)). others j u z.0 y.0 z.1)
      (at_set views by j w u y.1))
      (at_set (set views by w) other j x u e)

pub other_view : {V : Type 0} (views : List V) (by other : ℕ) (w u : V) → ¬ (other ≡ by) → get_elem? (set views by w) other ≡ some u → get_elem? views other ≡ some u
other_view {V} views by other w u apart e =
    ⊎_elim (λ (x : (other ≡ by) × (w ≡ u)). absurd (apart x.0)) (λ (x : (other ≢ by) × (get_elem? views other ≡ some u)). x.1) (at_set views by other w u e)

-- ---- parts

pub pen_is : (p q : PenPart) → Some p ≡ Some q → p ≡ q
pen_is p q e = ap pen_or e

pub pass_is : (p q : PassPart) → Some p ≡ Some q → p ≡ q
pass_is p q e = ap pass_or e

pub note_is : (p q : NotePart) → Some p ≡ Some q → p ≡ q
note_is p q e = ap note_or e

-- ---- owners of numbers

-- the pass number k belongs to the seat j
abbrev pub owned : (ℕ → ℕ) → ℕ → ℕ → ℕ → ℕ
owned owner k j n = if n == k then j else owner n

pub owned_here : (owner : ℕ → ℕ) (k j n : ℕ) → n ≡ k → owned owner k j n ≡ j
owned_here owner k j n e = rw (eq-eqb n k e) refl

pub owned_else : (owner : ℕ → ℕ) (k j n : ℕ) → n ≢ k → owned owner k j n ≡ owner n
owned_else owner k j n o = rw (ne_eqb n k o) refl

-- a seat that is not the one whose part moves
pub stays : (pen : ℕ) (owner : ℕ → ℕ) (extents : ℕ → Extent) (p : PenPart) (words : List ℕ) (k from to j : ℕ) (u : View) → from ≡ owner k → j ≢ from
    → ViewFits pen owner extents p words j u → ViewFits pen (owned owner k to) extents p words j u
stays pen owner extents p words k from to j u is apart f = record {
  keeper = f.keeper;
  at = λ q e. f.at q e ∙ sym (owned_else owner k to q.number (λ n. apart (f.at q e ∙ (ap owner n ∙ sym is))));
  section = f.section;
  passes = f.passes;
  notes = f.notes;
}

pub nothing_fits : (pen : ℕ) (owner : ℕ → ℕ) (extents : ℕ → Extent) (p : PenPart) (words : List ℕ) (j : ℕ) → ViewFits pen owner extents p words j no_view
nothing_fits pen owner extents p words j = record {
  keeper = λ q k. absurd (none-some q k);
  at = λ q k. absurd (none-some q k);
  section = λ q k. absurd (none-some q k);
  passes = λ q k. absurd (none-some q k);
  notes = λ n k. absurd (none-some n k);
}

-- a seat that has this pass
pub seat_fits : (pen : ℕ) (owner : ℕ → ℕ) (extents : ℕ → Extent) (p : PenPart) (words : List ℕ) (by : ℕ) (part : Option PenPart) (q : PassPart) (learnt : Option NotePart)
    → ((x : PenPart) → part ≡ Some x → (by ≡ pen) × (x ≡ p)) → by ≡ owner q.number → slice_index words (section_at q.number) ≡ section_word q.standing → PassFits extents p q → ((n : NotePart) → learnt ≡ Some n → Begins n.seen p.history)
    → ViewFits pen owner extents p words by (record { pen = part; pass = Some q; note = learnt })
seat_fits pen owner extents p words by part q learnt keeper at section fits notes = record {
  keeper = keeper;
  at = λ x k. at ∙ ap (λ (z : PassPart). owner z.number) (pass_is q x k);
  section = λ x k. subst (λ (z : PassPart). slice_index words (section_at z.number) ≡ section_word z.standing) (pass_is q x k) section;
  passes = λ x k. subst (PassFits extents p) (pass_is q x k) fits;
  notes = notes;
}

-- ---- a pass as it was

-- but for its steps and the dead marks that it loaded, beside a pen that may have dealt more handles and loaded other sections
pub beside_fits : (e : ℕ → Extent) (p : PenPart) (q : PassPart) (dealt : ℕ) (sections : List SectionWord) (steps : ℕ) (marks : List ℕ) → p.dealt ≤ dealt → PassFits e p q
    → PassFits e (record p { dealt = dealt; sections = sections }) (record q { steps = steps; marks = marks })
beside_fits e p q dealt sections steps marks more f = record {
  shape = f.shape;
  number = let a = f.number in omega arith;
  seen = f.seen;
  mine = f.mine;
  all = f.all;
  ended = f.ended;
  over = f.over;
  begun = f.begun;
  risen = f.risen;
  epoch = f.epoch;
  loaded = f.loaded;
  standing = λ o is. let h = f.standing o is in record { seen = h.seen; opened = h.opened };
  closed = f.closed;
  floor = λ n is. let h = f.floor n is in record { seen = h.seen; cleared = h.cleared; epoch = h.epoch };
  held = λ j x at. let h = f.held j x at in record { row = h.row; met = h.met; floor = h.floor; has = h.has; since = h.since };
}

-- ---- a pass that has seen more of the history

-- a pass that has seen so much, and knows of so many calls
pub numbers_fit : (e : ℕ → Extent) (p : PenPart) (q : PassPart) (seen : List Moment) (begun ended epoch risen : ℕ) → PassFits e p q → Begins seen p.history → q.mine ≡ known.places q.number (records_of seen) → length q.seen ≤ length seen
    → begun ≤ begun_by p → ended ≤ length seen → ended ≤ p.ended → epoch ≤ ended → risen ≤ begun_by p → PassFits e p (record q { seen = seen; begun = begun; ended = ended; epoch = epoch; risen = risen })
numbers_fit e p q seen begun ended epoch risen f begins mine more has_begun has_ended over old has_risen = record {
  shape = f.shape;
  number = f.number;
  seen = begins;
  mine = mine;
  all = f.all;
  ended = has_ended;
  over = over;
  begun = has_begun;
  risen = has_risen;
  epoch = old;
  loaded = f.loaded;
  standing = λ o is. let h = f.standing o is in record { seen = let a = h.seen in omega arith; opened = h.opened };
  closed = f.closed;
  floor = λ n is. let h = f.floor n is in record { seen = let a = h.seen in omega arith; cleared = h.cleared; epoch = h.epoch };
  held = λ j x at. let h = f.held j x at in record { row = h.row; met = let a = h.met in omega arith; floor = h.floor; has = h.has; since = h.since };
}

pub seen_fits : (e : ℕ → Extent) (p : PenPart) (q : PassPart) (seen : List Moment) (ended : ℕ) (f : PassFits e p q) → Begins q.seen seen → Begins seen p.history → q.ended ≤ ended → ended ≤ length seen → ended ≤ p.ended → PassFits e p (record q { seen = seen; ended = ended })
seen_fits e p q seen ended f more whole grows all over =
    numbers_fit e p q seen q.begun ended q.epoch q.risen f whole (f.mine ∙ sym (places_within q.number q.seen seen p.history more whole (f.all ∙ f.mine))) (begins_long q.seen seen more) f.begun all over (let a = f.epoch in omega arith) f.risen
