-- A call begins, and a call ends: where it has published nothing its end is its event, which leaves the map.
use Rattle.mt_rule.proofs.Prelude.{◌≡◌, ℕ, ◌+◌, ◌<◌, ◌≤◌, List, [], ◌∷◌, ◌++◌, Bool, true, false, true≢false, length, refl, sym, ap, ◌∙◌, subst, inl, inr, ⊎_elim, arith, append-nil, Some, None, Option, slice_set, IfSome, if◌then◌else◌, nat_lt, Contains, none, Me, step, keeps, Allows, Range, Call, Gap, Holder, Reply, acted, IsAnswered, last_map, limits_after, map_after, map_by_reply, IsRefused, holder_of, was_acted, begins_none, Extent, Goes, Known, calls, begin_turns, finish_turns, one_if, MayFinish, NoneBuried, map_by, life_of, Moment, TableStart, View, PenPart, PassPart, EndsQuietly, IsPenShort, MayEnd, IsKept, IsSoundPen, PassFits, WordsFit, HasPass, HasPen, cuts_at, moment_at, pass_of, pen_of, record_of, rooted_in, pen_sheet, state_in, tree_of, begins_call, ends_call, pass_recorded, pen_begun, quiet_moment, most_calls}
use Rattle.mt_rule.proofs.Carrying.{Carries, carries_life, carry, carry_pair, pass_carried, recast, shaped_as, stays_put, still_history, still_sound}
use Rattle.mt_rule.proofs.Counting.{counter_sections, counter_set, here, there}
use Rattle.mt_rule.proofs.Lives.{died_later}
use Rattle.mt_rule.proofs.Moments.{map_now, moment_before, moment_more}
use Rattle.mt_rule.proofs.Recording.{map_told, others_stay, recorded_fits, recorded_history}
use Rattle.mt_rule.proofs.Viewing.{seen_fits}

-- ---- a call begins

module _ (e : ℕ → Extent) (p : PenPart) (sound : IsSoundPen e p) (idle : p.in_flight ≡ false) (room : p.ended < most_calls) where
  no_flight : one_if p.in_flight ≡ 0
  no_flight = rw idle refl

  no_publish : one_if p.published ≡ 0
  no_publish = rw (sound.history.calm idle) refl

  begun_turns : Known p.shape.kind (state_in (pen_begun p)) e (moment_at p.shape p.history) × Goes p.shape.kind (state_in p) (state_in (pen_begun p)) e e (moment_at p.shape p.history) (moment_at p.shape p.history)
  begun_turns = begin_turns p.shape.kind (pen_sheet p) e (moment_at p.shape p.history) (record { idle = idle; room = room }) sound.known

  pub begun_sound : IsSoundPen e (pen_begun p)
  begun_sound =
      let one = sound.history in let n = no_publish in let z = no_flight in
      still_sound e p (pen_begun p) sound (still_history p (pen_begun p) one (let c = one.count in omega arith) (λ _. refl) (omega arith)) begun_turns.0
      (λ row. died_later p.ended p.ended p.in_flight true (life_of p.lives row) (omega arith) (sound.dead row)) sound.passes sound.cleared

  pub begun_carries : Carries e e p (pen_begun p)
  begun_carries = carries_life e e p (pen_begun p) refl refl refl (let z = no_flight in omega arith) begun_turns.1

pub beginning : (told : TableStart) (slots by : ℕ) (me : Me (Unit {0}) View) (new : ℕ) → HasPen me.0 → (pen_of me.0).in_flight ≡ false → (pen_of me.0).ended < most_calls → new ≡ (pen_of me.0).ended + 1
    → Allows (IsKept told) slots by me 1 (λ _. new) (λ _. begins_call (step slots 1 new 0 none) me new)
beginning told slots by me new has_pen idle room next s r₀ _ at _ =
    let v = me.0 in let p = pen_of v in
    let r = recast told s r₀ p (sym ((r₀.each by v at).keeper p has_pen).1) in
    let n = pen_begun p in let w = r.words in
    let low : 1 < 3 = omega arith in (
      record v { pen = Some n },
      keeps,
      tt,
      carry told s r by v at has_pen (slice_set s.words 1 new) r.extents n (begun_sound r.extents p r.sound idle room)
          (counter_set s.words p n 1 new w low refl (omega arith) refl
          (there s.words p n 1 new w low 0 (λ e. omega arith) ∙ w.commits)
          (here s.words p n 1 new w low ∙ next)
          (there s.words p n 1 new w low 2 (λ e. omega arith) ∙ w.root))
          (begun_carries r.extents p r.sound idle room)
          (λ k few. counter_sections s.words p n 1 new w low k)
          (λ y _ f _. stays_put r.extents p n y f refl refl refl),
      refl,
    )

-- ---- a call ends, as far as the rows see it

-- a call that leaves every map, and its answer
abbrev a_search : Call
a_search = Gap 0 0 0

finish_with : (p : PenPart) → p.in_flight ≡ true → (p.published ≡ false → NoneBuried p.shape.rows p.buried)
    → MayFinish p.shape.kind (pen_sheet p) a_search (acted p.shape.kind (map_by (rooted_in p)) a_search).1
finish_with p flight unburied = record { in_flight = flight; kept = λ no. record { none_buried = unburied no; told = refl; width = refl; answer = inl refl } }

-- ---- a call that has published ends

abbrev done : PenPart → PenPart
done p = record p { ended = p.ended + 1; in_flight = false; published = false }

module _ (e : ℕ → Extent) (p : PenPart) (sound : IsSoundPen e p) (flight : p.in_flight ≡ true) (was : p.published ≡ true) where
  one_flight : one_if p.in_flight ≡ 1
  one_flight = rw flight refl

  done_turns : Known p.shape.kind (state_in (done p)) e (moment_at p.shape p.history) × Goes p.shape.kind (state_in p) (state_in (done p)) e e (moment_at p.shape p.history) (moment_at p.shape p.history)
  done_turns = finish_turns p.shape.kind (pen_sheet p) a_search (acted p.shape.kind (map_by (rooted_in p)) a_search).1 e (moment_at p.shape p.history) (moment_at p.shape p.history)
      (finish_with p flight (λ no. absurd (true≢false (sym was ∙ no)))) (λ k low. refl) (λ no. absurd (true≢false (sym was ∙ no))) sound.known

  pub done_count : length p.history ≡ p.ended + 1
  done_count = let c = sound.history.count in let z : one_if p.published ≡ 1 = rw was refl in omega arith

  pub done_sound : IsSoundPen e (done p)
  done_sound =
      let one = sound.history in let z = one_flight in
      still_sound e p (done p) sound (still_history p (done p) one (let c = done_count in omega arith) (λ _. refl) (let few = one.few in omega arith)) done_turns.0
      (λ row. died_later p.ended (p.ended + 1) p.in_flight false (life_of p.lives row) (omega arith) (sound.dead row)) sound.passes (λ k low. let c = sound.cleared k low in omega arith)

  pub done_carries : Carries e e p (done p)
  done_carries = record { dealt = omega arith; history = ([], sym (append-nil p.history)); ended = omega arith; begun = (let z = one_flight in omega arith); goes = done_turns.1 }

-- the words after an end
ended_words : (words : List ℕ) (p n : PenPart) (new : ℕ) → WordsFit words p → p.in_flight ≡ true → new ≡ p.ended + 1 → n.dealt ≡ p.dealt → n.ended ≡ p.ended + 1 → n.in_flight ≡ false → n.words ≡ p.words → n.root ≡ p.root → WordsFit (slice_set words 0 new) (shaped_as p n)
ended_words words p n new w flight next dealt ended idle same root =
    let low : 0 < 3 = omega arith in
    let one : one_if p.in_flight ≡ 1 = rw flight refl in
    let none : one_if n.in_flight ≡ 0 = rw idle refl in
    counter_set words p n 0 new w low dealt (omega arith) same
    (here words p n 0 new w low ∙ (next ∙ sym ended))
    (there words p n 0 new w low 1 (λ e. omega arith) ∙ (w.begun ∙ omega arith))
    (there words p n 0 new w low 2 (λ e. omega arith) ∙ (w.root ∙ sym root))

-- ---- a call that has published nothing ends

if_some : (b : Bool) (o : Option Holder) (P : Holder → Type 0) → IfSome o P → IfSome (if b then o else None) P
if_some true o P is = is
if_some false o P is = tt

module _ (e : ℕ → Extent) (p : PenPart) (q : PassPart) (call : Call) (reply : Reply) (sound : IsSoundPen e p) (flight : p.in_flight ≡ true) (was : p.published ≡ false) (quiet : EndsQuietly p call reply) where
  abbrev m : Moment
  m = quiet_moment p q call reply

  abbrev pub quietly : PenPart
  quietly = record p { history = p.history ++ m ∷ []; ended = p.ended + 1; in_flight = false; published = false }

  abbrev last : List Range
  last = last_map (tree_of p.shape p.history)

  pub quiet_count : p.ended ≡ length p.history
  quiet_count = let c = sound.history.count in let z : one_if p.published ≡ 0 = rw was refl in omega arith

  quiet_flight : one_if p.in_flight ≡ 1
  quiet_flight = rw flight refl

  -- it is answered by the last map, which it leaves, and names a section that was found
  record IsQuiet : Type 0 where
    pub answered : IsAnswered p.shape.kind (limits_after (tree_of p.shape p.history) (length p.history)) last (record_of m)
    pub stays : map_after p.shape.kind last (record_of m) ≡ last
    pub named : IfSome (holder_of reply) (Contains p.loaded)

  when_acted : acted p.shape.kind (map_by (rooted_in p)) call ≡ (map_by (rooted_in p), reply) → IsQuiet
  when_acted is =
      let a = was_acted p.shape.kind last (record_of m) last (subst (λ (x : List Range). acted p.shape.kind x call ≡ (x, reply)) (sym (map_told e p sound)) is) in
      record { answered = inl a.answered; stays = a.moved; named = rw a.unheld tt }

  when_short : IsPenShort p call reply → IsQuiet
  when_short short =
      let refused = short.refused in record {
        answered = inr (subst (λ (z : ℕ × List Range). IsRefused p.shape.kind (limits_after (tree_of p.shape p.history) z.0) z.1 call reply) (λ i. (quiet_count i, sym (map_told e p sound) i)) refused);
        stays = ap (λ (r : Reply). map_by_reply r last (acted p.shape.kind last call).0) refused.told;
        named = subst (λ (r : Reply). IfSome (holder_of r) (Contains p.loaded)) (sym refused.told)
            (subst (λ (o : Option Holder). IfSome o (Contains p.loaded)) (sym short.counted.by) (if_some (nat_lt 0 refused.shortage.held) short.scan.by (Contains p.loaded) short.found));
      }

  is_quiet : IsQuiet
  is_quiet = ⊎_elim when_acted when_short quiet.answer

  quiet_now : moment_at p.shape (p.history ++ m ∷ []) (p.ended + 1) ≡ moment_at p.shape p.history p.ended
  quiet_now =
      ap (λ (k : ℕ). moment_at p.shape (p.history ++ m ∷ []) (k + 1)) quiet_count
      ∙ (moment_more p.shape p.history m
      ∙ ((λ i. record { ranges = (is_quiet.stays ∙ sym (map_now p.shape p.history)) i; cuts = cuts_at p.shape p.history (length p.history) })
      ∙ ap (moment_at p.shape p.history) (sym quiet_count)))

  quiet_past : (k : ℕ) → k ≤ calls (state_in p) → moment_at p.shape (p.history ++ m ∷ []) k ≡ moment_at p.shape p.history k
  quiet_past k low = let c = sound.history.count in moment_before p.shape p.history m k (omega arith)

  quiet_turns : Known p.shape.kind (state_in quietly) e (moment_at p.shape (p.history ++ m ∷ [])) × Goes p.shape.kind (state_in p) (state_in quietly) e e (moment_at p.shape p.history) (moment_at p.shape (p.history ++ m ∷ []))
  quiet_turns = finish_turns p.shape.kind (pen_sheet p) a_search (acted p.shape.kind (map_by (rooted_in p)) a_search).1 e (moment_at p.shape p.history) (moment_at p.shape (p.history ++ m ∷ []))
      (finish_with p flight (λ _. quiet.none_buried)) quiet_past (λ _. quiet_now) sound.known

  pub quiet_sound : q.number < p.dealt → IsSoundPen e quietly
  quiet_sound caller =
      let z = quiet_flight in let c = quiet_count in let k = is_quiet in
      still_sound e p quietly sound (recorded_history p m sound.history caller k.named k.answered quietly refl refl refl refl (omega arith) (λ _. refl) (omega arith)) quiet_turns.0
      (λ row. died_later p.ended (p.ended + 1) p.in_flight false (life_of p.lives row) (omega arith) (sound.dead row)) sound.passes (λ j low. let a = sound.cleared j low in omega arith)

  pub quiet_carries : Carries e e p quietly
  quiet_carries = record { dealt = omega arith; history = (m ∷ [], refl); ended = omega arith; begun = (let z = quiet_flight in omega arith); goes = quiet_turns.1 }

-- ---- a call ends

chosen : {X : Type 0} (b : Bool) (x y : X) → b ≡ true → x ≡ (if b then x else y)
chosen b x y is = rw is refl

other : {X : Type 0} (b : Bool) (x y : X) → b ≡ false → y ≡ (if b then x else y)
other b x y is = rw is refl

module _ (told : TableStart) (slots by : ℕ) (me : Me (Unit {0}) View) (new : ℕ) (call : Call) (reply : Reply) (has_pen : HasPen me.0) (has_pass : HasPass me.0) (seen : (pass_of me.0).seen ≡ (pen_of me.0).history)
    (may : MayEnd (pen_of me.0) call reply) (next : new ≡ (pen_of me.0).ended + 1) where
  abbrev v : View
  v = me.0

  abbrev p : PenPart
  p = pen_of me.0

  abbrev q : PassPart
  q = pass_of me.0

  abbrev now : Moment
  now = quiet_moment p q call reply

  ends_published : p.published ≡ true → Allows (IsKept told) slots by me 0 (λ _. new) (λ _. ends_call call reply (step slots 0 new 0 none) me new)
  ends_published was s r₀ _ at _ =
      let r = recast told s r₀ p (sym ((r₀.each by v at).keeper p has_pen).1) in
      let f = (r.each by v at).passes q has_pass in
      let n = done p in
      let sound' = done_sound r.extents p r.sound may.in_flight was in
      let c = done_carries r.extents p r.sound may.in_flight was in
      let g = pass_carried r.extents r.extents p n q r.sound sound' c (stays_put r.extents p n q f refl refl refl) f in
      let over = f.over in
      let long : length q.seen ≡ p.ended + 1 = ap length seen ∙ done_count r.extents p r.sound may.in_flight was in
      let fits : PassFits r.extents n (record q { ended = p.ended + 1 }) = seen_fits r.extents n q q.seen (p.ended + 1) g (begins_none q.seen) g.seen (omega arith) (omega arith) (omega arith) in (
        record v { pen = Some n; pass = Some (record q { ended = p.ended + 1 }) },
        keeps,
        tt,
        carry_pair told s r by v at has_pen (slice_set s.words 0 new) r.extents n q (record q { ended = p.ended + 1 }) has_pass refl refl sound'
            (ended_words s.words p n new r.words may.in_flight next refl refl refl refl refl) c
            (λ k few. counter_sections s.words p n 0 new r.words (omega arith) k) (λ y _ h _. stays_put r.extents p n y h refl refl refl) fits,
        record {
          view = λ i. record v { pen = Some (record n { history = chosen p.published p.history (p.history ++ now ∷ []) was i }); pass = Some (record (chosen p.published q (pass_recorded now p q) was i) { ended = p.ended + 1 }) };
          mine = sym f.all;
          few = (let all = sound'.history.few in omega arith);
        },
      )

  ends_quiet : p.published ≡ false → Allows (IsKept told) slots by me 0 (λ _. new) (λ _. ends_call call reply (step slots 0 new 0 none) me new)
  ends_quiet was s r₀ _ at _ =
      let r = recast told s r₀ p (sym ((r₀.each by v at).keeper p has_pen).1) in
      let f = (r.each by v at).passes q has_pass in
      let quiet = may.quiet was in
      let n = quietly r.extents p q call reply r.sound may.in_flight was quiet in
      let q' : PassPart = record (pass_recorded now p q) { ended = p.ended + 1 } in
      let sound' = quiet_sound r.extents p q call reply r.sound may.in_flight was quiet f.number in
      let c = quiet_carries r.extents p q call reply r.sound may.in_flight was quiet in
      let one = quiet_count r.extents p q call reply r.sound may.in_flight was quiet in
      let over = f.over in
      let fits = recorded_fits r.extents r.extents p n q now r.sound sound' c f refl refl one (p.ended + 1) refl refl (omega arith) (omega arith) (omega arith) in (
        record v { pen = Some n; pass = Some q' },
        keeps,
        tt,
        carry_pair told s r by v at has_pen (slice_set s.words 0 new) r.extents n q q' has_pass refl refl sound'
            (ended_words s.words p n new r.words may.in_flight next refl refl refl refl refl) c
            (λ k few. counter_sections s.words p n 0 new r.words (omega arith) k)
            (λ y apart h _. others_stay r.extents p n y now h (λ same. apart q has_pass (sym same)) refl refl refl) fits,
        record {
          view = λ i. record v { pen = Some (record n { history = other p.published p.history (p.history ++ now ∷ []) was i }); pass = Some (record (other p.published q (pass_recorded now p q) was i) { ended = p.ended + 1 }) };
          mine = fits.mine;
          few = (let all = sound'.history.few in omega arith);
        },
      )

  pub ending : Allows (IsKept told) slots by me 0 (λ _. new) (λ _. ends_call call reply (step slots 0 new 0 none) me new)
  ending = by_case p.published refl
    where
      by_case : (b : Bool) → p.published ≡ b → Allows (IsKept told) slots by me 0 (λ _. new) (λ _. ends_call call reply (step slots 0 new 0 none) me new)
      by_case true is = ends_published is
      by_case false is = ends_quiet is
