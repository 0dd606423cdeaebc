-- A load of a section word: what the pen then knows of the pass's reach.
use Rattle.mt_rule.proofs.Prelude.{◌≡◌, ◌≢◌, ◌⊎◌, ℕ, zero, suc, ◌+◌, ◌*◌, ◌/◌, ◌<◌, ◌≤◌, List, [], ◌∷◌, length, set, refl, sym, ap, ◌∙◌, subst, inl, inr, ⊎_elim, arith, length-set, get_or-set_other, get_or-set_same, Option, Some, None, max, none, set-get_or, slice_index, slice_set, IfSome, Contains, cases_eq, ne_eqb, IfSome_then, none-some, step, keeps, Allows, Holder, Record, holder_of, Extent, Known, Goes, raise_turns, all_map, dec_le, TableStart, View, PenPart, PassPart, section_at, section_word, IsSectionWord, HasPen, pen_of, pass_of, least_number, moment_at, records_of, state_in, IsOneHistory, IsSoundPen, PassFits, WordsFit, IsKept, raised, with_loaded, pen_scanned, loads_section}
use Rattle.mt_rule.proofs.Carrying.{Stays, recast, carry, carries_life, still_sound}
use Rattle.mt_rule.proofs.Writing.{M}

-- ---- the least of numbers of which one rises

least_up : (ns : List ℕ) (k n : ℕ) → slice_index ns k ≤ n → least_number ns ≤ least_number (slice_set ns k n)
least_up [] k n up = omega arith
least_up (m ∷ []) zero n up = up
least_up (m ∷ []) (suc k) n up = omega arith
least_up (m ∷ o ∷ ns) zero n up = omega arith
least_up (m ∷ o ∷ ns) (suc zero) n up = let rest = least_up (o ∷ ns) zero n up in omega arith
least_up (m ∷ o ∷ ns) (suc (suc k)) n up = let rest = least_up (o ∷ ns) (suc k) n up in omega arith

-- ---- what a section word raises

-- a section word, by whether the section is open
by_section : {X : Type 0} (ended word : ℕ) → IsSectionWord ended word → (word ≡ 0 → X) → ((epoch : ℕ) → word ≡ 2 * epoch + 1 → epoch ≤ ended → X) → X
by_section {X} ended word is shut odd = ⊎_elim (λ (none : word ≡ 0). shut none) (λ (at : (epoch : ℕ) × (word ≡ 2 * epoch + 1) × (epoch ≤ ended)). odd at.0 at.1 at.2) is

raised_shut : (ended was word : ℕ) → word ≡ 0 → raised ended was word ≡ ended
raised_shut ended was word shut = ap (raised ended was) shut

raised_open : (ended was word epoch : ℕ) → word ≡ 2 * epoch + 1 → raised ended was word ≡ max was epoch
raised_open ended was word epoch odd = ap (raised ended was) odd ∙ rw (ne_eqb (2 * epoch + 1) 0 (λ e. omega arith)) (let half : (2 * epoch + 1) / 2 ≡ epoch = omega arith in ap (max was) half)

loaded_shut : (pass word : ℕ) (loaded : List Holder) → word ≡ 0 → with_loaded pass word loaded ≡ loaded
loaded_shut pass word loaded shut = ap (λ (n : ℕ). with_loaded pass n loaded) shut

loaded_open : (pass word epoch : ℕ) (loaded : List Holder) → word ≡ 2 * epoch + 1 → with_loaded pass word loaded ≡ record { pass = pass; epoch = epoch } ∷ loaded
loaded_open pass word epoch loaded odd = ap (λ (n : ℕ). with_loaded pass n loaded) odd
    ∙ rw (ne_eqb (2 * epoch + 1) 0 (λ e. omega arith)) (let half : (2 * epoch + 1) / 2 ≡ epoch = omega arith in ap (λ (n : ℕ). record { pass = pass; epoch = n } ∷ loaded) half)

-- ---- elements

one_more : {X : Type 0} (x y : X) (xs : List X) → Contains xs y → Contains (x ∷ xs) y
one_more x y xs c = (suc c.0, (let low = c.1 in omega arith), c.2)

newest : {X : Type 0} (x : X) (xs : List X) → Contains (x ∷ xs) x
newest x xs = (zero, omega arith, refl)

either : {X : Type 0} (x y : X) (xs : List X) → Contains (x ∷ xs) y → (x ≡ y) ⊎ Contains xs y
either x y xs (zero, low, is) = inl is
either x y xs (suc k, low, is) = inr (k, omega arith, is)

-- ---- what the pen knows then

module _ (e : ℕ → Extent) (p : PenPart) (k found : ℕ) (words : List ℕ) (sound : IsSoundPen e p) (fit : WordsFit words p) (low : k < p.shape.passes) (is : found ≡ slice_index words (section_at k)) where
  abbrev N : PenPart
  N = pen_scanned k found p

  abbrev now : ℕ
  now = raised p.ended (slice_index p.cleared k) found

  here : IsSectionWord p.ended found
  here = subst (IsSectionWord p.ended) (sym is) (fit.sections k low)

  in_passes : k < length p.cleared
  in_passes = let all = sound.passes in omega arith

  up : slice_index p.cleared k ≤ now
  up = by_section p.ended found here
      (λ shut. let same = raised_shut p.ended (slice_index p.cleared k) found shut in let old = sound.cleared k low in omega arith)
      (λ epoch odd past. let same = raised_open p.ended (slice_index p.cleared k) found epoch odd in omega arith)

  high : now ≤ p.ended
  high = by_section p.ended found here
      (λ shut. let same = raised_shut p.ended (slice_index p.cleared k) found shut in omega arith)
      (λ epoch odd past. let same = raised_open p.ended (slice_index p.cleared k) found epoch odd in let old = sound.cleared k low in omega arith)

  cleared_here : slice_index N.cleared k ≡ now
  cleared_here = get_or-set_same p.cleared k now 0 in_passes

  cleared_else : (j : ℕ) → j ≢ k → slice_index N.cleared j ≡ slice_index p.cleared j
  cleared_else j off = get_or-set_other p.cleared k j now 0 off

  -- a pass whose section is open was dealt
  dealt_open : (epoch : ℕ) → found ≡ 2 * epoch + 1 → k < p.dealt
  dealt_open epoch odd = by_dealt (dec_le p.dealt k)
    where
      by_dealt : Dec (p.dealt ≤ k) → k < p.dealt
      by_dealt (yes past) = let none = fit.undealt k past low in absurd (omega arith)
      by_dealt (no not) = omega arith

  more : (h : Holder) → Contains p.loaded h → Contains N.loaded h
  more h has = by_section p.ended found here
      (λ shut. subst (λ (l : List Holder). Contains l h) (sym (loaded_shut k found p.loaded shut)) has)
      (λ epoch odd past. subst (λ (l : List Holder). Contains l h) (sym (loaded_open k found epoch p.loaded odd)) (one_more (record { pass = k; epoch = epoch }) h p.loaded has))

  -- the section that was found open
  abbrev IsNew : Holder → Type 0
  IsNew h = (epoch : ℕ) × (found ≡ 2 * epoch + 1) × (record { pass = k; epoch = epoch } ≡ h)

  old_or_new : (h : Holder) → Contains N.loaded h → IsNew h ⊎ Contains p.loaded h
  old_or_new h has = by_section p.ended found here
      (λ shut. inr (subst (λ (l : List Holder). Contains l h) (loaded_shut k found p.loaded shut) has))
      (λ epoch odd past. ⊎_elim
      (λ (new : record { pass = k; epoch = epoch } ≡ h). inl (epoch, odd, new))
      (λ (old : Contains p.loaded h). inr old)
      (either (record { pass = k; epoch = epoch }) h p.loaded (subst (λ (l : List Holder). Contains l h) (loaded_open k found epoch p.loaded odd) has)))

  scanned_history : IsOneHistory N
  scanned_history = let h = sound.history in record {
    dealt = h.dealt;
    callers = h.callers;
    named = all_map (λ (r : Record). IfSome (holder_of r.reply) (Contains p.loaded)) (λ (r : Record). IfSome (holder_of r.reply) (Contains N.loaded))
        (λ r named. IfSome_then (holder_of r.reply) {P = Contains p.loaded} {Q = Contains N.loaded} named more) (records_of p.history) h.named;
    loaded = λ x has. ⊎_elim
        (λ (new : IsNew x). subst (λ (y : Holder). y.pass < p.dealt) new.2 (dealt_open new.0 new.1))
        (λ (old : Contains p.loaded x). h.loaded x old)
        (old_or_new x has);
    count = h.count;
    calm = h.calm;
    few = h.few;
    legal = h.legal;
  }

  life : Known p.shape.kind (state_in N) e (moment_at p.shape p.history) × Goes p.shape.kind (state_in p) (state_in N) e e (moment_at p.shape p.history) (moment_at p.shape p.history)
  life = raise_turns p.shape.kind (state_in p) (least_number N.cleared) e (moment_at p.shape p.history) (least_up p.cleared k now up) sound.known

  pub scanned_sound : IsSoundPen e N
  scanned_sound = still_sound e p N sound scanned_history life.0 sound.dead (length-set p.cleared k now ∙ sound.passes) (λ j few. ⊎_elim
      (λ (same : j ≡ k). subst (λ (i : ℕ). slice_index N.cleared i ≤ p.ended) (sym same) (let new = cleared_here in let most = high in omega arith))
      (λ (off : j ≢ k). let old = cleared_else j off in let most = sound.cleared j few in omega arith)
      (cases_eq j k))

  pub scanned_goes : Goes p.shape.kind (state_in p) (state_in N) e e (moment_at p.shape p.history) (moment_at p.shape p.history)
  scanned_goes = life.1

  pub scanned_fit : WordsFit words N
  scanned_fit = record { size = fit.size; commits = fit.commits; begun = fit.begun; root = fit.root; sections = fit.sections; undealt = fit.undealt; unnamed = fit.unnamed; columns = fit.columns }

  -- ---- and each pass

  module _ (q : PassPart) (f : PassFits e p q) (section : slice_index words (section_at q.number) ≡ section_word q.standing) where
    -- where it is the pass's own
    own_word : q.number ≡ k → found ≡ section_word q.standing
    own_word same = is ∙ (ap (λ (i : ℕ). slice_index words (section_at i)) (sym same) ∙ section)

    -- an open section's epoch is one at which the pass opened it
    open_here : (epoch : ℕ) → q.number ≡ k → found ≡ 2 * epoch + 1 → q.standing ≡ Some epoch
    open_here epoch same odd = by_option q.standing refl (own_word same)
      where
        by_option : (o : Option ℕ) → q.standing ≡ o → found ≡ section_word o → q.standing ≡ Some epoch
        by_option None standing word = absurd (omega arith)
        by_option (Some other) standing word = let same : other ≡ epoch = omega arith in standing ∙ ap (λ n. Some n) same

    loaded_here : (h : Holder) → Contains N.loaded h → h.pass ≡ q.number → Contains q.opened h.epoch
    loaded_here h has at = ⊎_elim
        (λ (new : IsNew h).
        let pass : q.number ≡ k = sym at ∙ sym (ap (λ (y : Holder). y.pass) new.2) in
        subst (Contains q.opened) (ap (λ (y : Holder). y.epoch) new.2) (f.standing new.0 (open_here new.0 pass new.1)).opened)
        (λ (old : Contains p.loaded h). f.loaded h old at)
        (old_or_new h has)

    clear_here : (floor : ℕ) → q.floor ≡ Some floor → slice_index N.cleared q.number ≤ floor
    clear_here floor at = let t = f.floor floor at in let low = t.cleared in ⊎_elim
        (λ (same : q.number ≡ k). by_option q.standing refl same t.epoch (own_word same))
        (λ (off : q.number ≢ k). let old = cleared_else q.number off in omega arith)
        (cases_eq q.number k)
      where
        by_option : (o : Option ℕ) → q.standing ≡ o → q.number ≡ k → IfSome o (λ epoch. epoch ≤ floor) → found ≡ section_word o → slice_index N.cleared q.number ≤ floor
        by_option None standing same epoch word = absurd (none-some floor (sym (f.closed standing) ∙ at))
        by_option (Some epoch) standing same under word =
            let old = (f.floor floor at).cleared in
            let before : slice_index p.cleared q.number ≡ slice_index p.cleared k = ap (slice_index p.cleared) same in
            let after : slice_index N.cleared q.number ≡ slice_index N.cleared k = ap (slice_index N.cleared) same in
            let new = cleared_here in
            let greater = raised_open p.ended (slice_index p.cleared k) found epoch word in omega arith

    pub scanned_stays : Stays p N q
    scanned_stays = record { all = refl; loaded = loaded_here; clear = clear_here }

pub scanning : (told : TableStart) (slots by : ℕ) (me : M) (k : ℕ) → HasPen me.0 → k < (pen_of me.0).shape.passes → Allows (IsKept told) slots by me (section_at k) (λ n. n) (loads_section k (step slots (section_at k) 0 0 none) me)
scanning told slots by me k has low s r₀ _ at _ =
    let v = me.0 in let p = pen_of v in
    let r = recast told s r₀ p (sym ((r₀.each by v at).keeper p has).1) in
    let found = slice_index s.words (section_at k) in
    let n = pen_scanned k found p in
    let w : View = record v { pen = Some n } in (
      w,
      keeps,
      tt,
      subst (λ (words : List ℕ). IsKept told record { words = words; homes = s.homes; views = set s.views by w }) (sym (set-get_or s.words (section_at k) 0))
          (carry told s r by v at has s.words r.extents n (scanned_sound r.extents p k found s.words r.sound r.words low refl) (scanned_fit r.extents p k found s.words r.sound r.words low refl)
          (carries_life r.extents r.extents p n refl refl refl (omega arith) (scanned_goes r.extents p k found s.words r.sound r.words low refl))
          (λ _ _. refl)
          (λ q _ f section. scanned_stays r.extents p k found s.words r.sound r.words low refl q f section)),
      record {
        view = refl;
        closed_or_open = r.words.sections k low;
        own = λ beside same. ap (λ (i : ℕ). slice_index s.words (section_at i)) (sym same) ∙ (r.each by v at).section (pass_of v) beside;
      },
    )
