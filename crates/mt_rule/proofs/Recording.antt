-- A call is in the history: what the pass whose call it is knows then, and what is left to the others.
use Rattle.mt_rule.proofs.Prelude.{◌≡◌, ◌≢◌, ℕ, ◌+◌, ◌<◌, ◌≤◌, List, [], ◌∷◌, ◌++◌, length, sym, ap, ◌∙◌, subst, arith, append-nil, length-append, Some, false, slice_index, IfSome, AllByRecursion, Contains, Holder, Record, IsAnswered, IsLegal, last_map, limits_after, map_at, holder_of, places, begins_long, Extent, Held, calls, holds_on, one_if, map_by, Moment, Shape, PenPart, PassPart, begun_by, IsHeldBy, IsOneHistory, IsSoundPen, PassFits, moment_at, record_of, records_of, rooted_in, state_in, tree_of, pass_recorded}
use Rattle.mt_rule.proofs.Beginnings.{all_more, legal_next, places_mine, places_other}
use Rattle.mt_rule.proofs.Carrying.{Carries, Stays, least_low, shaped_as}
use Rattle.mt_rule.proofs.Moments.{map_now}

-- ---- the last map is the one that the words stand for

pub moments_count : (e : ℕ → Extent) (p : PenPart) → IsSoundPen e p → calls (state_in p) ≡ length p.history
moments_count e p s = sym s.history.count

pub map_told : (e : ℕ → Extent) (p : PenPart) → IsSoundPen e p → last_map (tree_of p.shape p.history) ≡ map_by (rooted_in p)
map_told e p s =
    sym (map_now p.shape p.history) ∙ (ap (map_at (tree_of p.shape p.history)) (sym (moments_count e p s)) ∙ s.known.current)

-- ---- one history more

pub recorded_history : (p : PenPart) (m : Moment) → IsOneHistory p → m.pass < p.dealt → IfSome (holder_of m.reply) (Contains p.loaded)
    → IsAnswered p.shape.kind (limits_after (tree_of p.shape p.history) (length p.history)) (last_map (tree_of p.shape p.history)) (record_of m)
    → (n : PenPart) → n.shape ≡ p.shape → n.dealt ≡ p.dealt → n.history ≡ p.history ++ m ∷ [] → n.loaded ≡ p.loaded → n.ended + one_if n.published ≡ length p.history + 1 → (n.in_flight ≡ false → n.published ≡ false) → begun_by n ≡ begun_by p
    → IsOneHistory n
recorded_history p m one caller named answered n shape dealt history loaded count calm begun = record {
  dealt = rw (shape, dealt) one.dealt;
  callers = subst (λ (z : ℕ × List Moment). AllByRecursion (λ r. r.pass < z.0) (records_of z.1)) (λ i. (sym dealt i, sym history i)) (all_more (λ r. r.pass < p.dealt) p.history m one.callers caller);
  named = subst (λ (z : List Holder × List Moment). AllByRecursion (λ (r : Record). IfSome (holder_of r.reply) (Contains z.0)) (records_of z.1)) (λ i. (sym loaded i, sym history i))
      (all_more (λ (r : Record). IfSome (holder_of r.reply) (Contains p.loaded)) p.history m one.named named);
  loaded = λ h has. subst (λ (k : ℕ). h.pass < k) (sym dealt) (one.loaded h (subst (λ (l : List Holder). Contains l h) loaded has));
  count = (let more = length-append p.history (m ∷ []) in let is = ap length history in omega (arith, more, is, count));
  calm = calm;
  few = (let old = one.few in omega (arith, old, begun));
  legal = subst (λ (z : Shape × List Moment). IsLegal (tree_of z.0 z.1)) (λ i. (sym shape i, sym history i)) (legal_next p.shape p.history m one.legal answered);
}

-- ---- the pass whose call it is

module _ (e e' : ℕ → Extent) (p n : PenPart) (q : PassPart) (m : Moment) (sound : IsSoundPen e p) (sound' : IsSoundPen e' (shaped_as p n)) (c : Carries e e' p n) (f : PassFits e p q)
    (is : n.history ≡ p.history ++ m ∷ []) (by : m.pass ≡ q.number) (count : p.ended ≡ length p.history) where
  abbrev seen : List Moment
  seen = p.history ++ m ∷ []

  longer : length seen ≡ length p.history + 1
  longer = omega (arith, length-append p.history (m ∷ []))

  short : length q.seen ≤ length p.history
  short = begins_long q.seen p.history f.seen

  pub own_places : places q.number (records_of seen) ≡ q.mine ++ (p.ended + 1) ∷ []
  own_places =
      subst (λ (k : ℕ). places k (records_of seen) ≡ places k (records_of p.history) ++ (length p.history + 1) ∷ []) by (places_mine p.history m)
      ∙ (λ i. f.all i ++ (sym count i + 1) ∷ [])

  pub recorded_fits : (ended : ℕ) → n.loaded ≡ p.loaded → n.cleared ≡ p.cleared → q.ended ≤ ended → ended ≤ length p.history + 1 → ended ≤ n.ended
      → PassFits e' (shaped_as p n) (record (pass_recorded m p q) { ended = ended })
  recorded_fits ended loaded cleared more low over =
      let l = longer in let s = short in record {
        shape = f.shape;
        number = (let a = f.number in let b = c.dealt in omega arith);
        seen = ([], is ∙ sym (append-nil seen));
        mine = sym own_places;
        all = ap (λ (h : List Moment). places q.number (records_of h)) is ∙ own_places;
        ended = omega (arith, l, low);
        over = over;
        begun = (let a = f.begun in let b = c.begun in omega arith);
        risen = (let a = f.risen in let b = c.begun in omega arith);
        epoch = (let a = f.epoch in omega arith);
        loaded = λ h has. f.loaded h (subst (λ (x : List Holder). Contains x h) loaded has);
        standing = λ epoch at. let t = f.standing epoch at in let a = t.seen in record { seen = omega (arith, a, l, s); opened = t.opened };
        closed = f.closed;
        floor = λ floor at. let t = f.floor floor at in let a = t.seen in record { seen = omega (arith, a, l, s); cleared = clear floor at; epoch = t.epoch };
        held = λ j x at. held x (f.held j x at);
      }
    where
      clear : (floor : ℕ) → q.floor ≡ Some floor → slice_index n.cleared q.number ≤ floor
      clear floor at = subst (λ (x : List ℕ). slice_index x q.number ≤ floor) (sym cleared) (f.floor floor at).cleared

      held : (x : Held) → IsHeldBy e p q x → IsHeldBy e' (shaped_as p n) (record (pass_recorded m p q) { ended = ended }) x
      held x h =
          let inside : q.number < length n.cleared = (let a = sound'.passes in let b = f.number in let d = sound.history.dealt in omega arith) in
          let least = least_low n.cleared q.number inside in
          let reach = clear h.floor h.has in
          let since = h.since in
          let met = h.met in
          let l = longer in
          let s = short in record {
            row = holds_on p.shape.kind (state_in p) (state_in (shaped_as p n)) e e' (moment_at p.shape p.history) (moment_at p.shape n.history) x sound.known sound'.known c.goes (omega (arith, least, reach, since)) h.row;
            met = omega (arith, met, l, s);
            floor = h.floor;
            has = h.has;
            since = h.since;
          }

-- ---- the others

pub others_stay : (e : ℕ → Extent) (p n : PenPart) (q : PassPart) (m : Moment) → PassFits e p q → m.pass ≢ q.number → n.history ≡ p.history ++ m ∷ [] → n.loaded ≡ p.loaded → n.cleared ≡ p.cleared → Stays p n q
others_stay e p n q m f apart is loaded cleared = record {
  all = ap (λ (h : List Moment). places q.number (records_of h)) is ∙ places_other q.number p.history m apart;
  loaded = λ h has. f.loaded h (subst (λ (l : List Holder). Contains l h) loaded has);
  clear = λ floor at. subst (λ (l : List ℕ). slice_index l q.number ≤ floor) (sym cleared) (f.floor floor at).cleared;
}
