-- A shortage stays one where the limits allow more, and has few rows.
use Rattle.mt_base.proofs.Prelude.{◌≡◌, ◌+◌, ◌*◌, ◌/◌, ℕ, zero, suc, ◌<◌, ◌≤◌, Bool, true, List, [], ◌∷◌, length, take, fold, Option, Some, None, IfSome, ap, subst, inl, inr, arith, slice_get, Range, Shortage, Holder, acted, Record, History, map_after, map_at, limits_after, IsAnswered, AreLegalFrom, IsLegal, Limits, IsShort, most_taken, most_rows}

later_epoch : (by : Option Holder) (ended ended' : ℕ) → ended ≤ ended' → IfSome by (λ h. h.epoch ≤ ended) → IfSome by (λ h. h.epoch ≤ ended')
later_epoch None ended ended' le epoch = tt
later_epoch (Some h) ended ended' le epoch = omega (arith, le, epoch)

pub still_short : (rows opened opened' ended ended' : ℕ) (may_hold : Bool) (m : List Range) (s : Shortage) → opened ≤ opened' → ended ≤ ended'
    → IsShort (record { rows = rows; opened = opened; ended = ended; may_hold = may_hold }) m s
    → IsShort (record { rows = rows; opened = opened'; ended = ended'; may_hold = true }) m s
still_short rows opened opened' ended ended' may_hold m s le le' short = record {
  all = short.all;
  levels = short.levels;
  low = short.low;
  need = short.need;
  few = short.few;
  flat = short.flat;
  tall = short.tall;
  each = short.each;
  none = short.none;
  half = short.half;
  holder = short.holder;
  epoch = later_epoch s.by ended ended' le' short.epoch;
  grown = omega (arith, le, le', short.grown);
  unheld = λ never. absurd (cc);
}

-- ---- how many rows the tree has then

-- none is held
pub few_unheld : (l : Limits) (m : List Range) (s : Shortage) → (short : IsShort l m s) → s.held ≡ 0 → l.rows < 3 * short.levels + 1 + length m / 2 + 2
few_unheld l m s short none = omega (arith, short.all, short.need, short.few, short.half)

pub few_taken : (l : Limits) (m : List Range) (s : Shortage) → IsShort l m s → l.rows < most_taken * (l.ended + 1) + l.opened
few_taken l m s short = omega (arith, short.all, short.need, short.few, short.low, short.grown)

-- a tree with as many rows as a tree may have, that opened empty
pub first_short : (h : History) (ended : ℕ) (m : List Range) (s : Shortage) → h.rows ≡ most_rows → h.opening ≡ [] → IsShort (limits_after h ended) m s → 2339 ≤ ended
first_short h ended m s rows empty short = omega (arith, few_taken (limits_after h ended) m s short, rows, ap length empty)

-- ---- which calls are refused

answered_from : (h : History) (ended number : ℕ) (m : List Range) (records : List Record) (k : ℕ) (r : Record) → number ≡ ended + k → AreLegalFrom h ended m records → slice_get records k ≡ Some r
    → IsAnswered h.kind (limits_after h number) (fold (map_after h.kind) m (take k records)) r
answered_from h ended number m [] k r is legal at = absurd (cc)
answered_from h ended number m (s ∷ records) zero r is legal at =
    let same : s ≡ r = cc in
    let first : ended ≡ number = omega arith in
    subst (λ (x : Record). IsAnswered h.kind (limits_after h number) m x) same (subst (λ (n : ℕ). IsAnswered h.kind (limits_after h n) m s) first legal.0)
answered_from h ended number m (s ∷ records) (suc k) r is legal at = answered_from h (ended + 1) number (map_after h.kind m s) records k r (omega arith) legal.1 at

pub first_calls_answered : (h : History) (k : ℕ) (r : Record) → h.rows ≡ most_rows → h.opening ≡ [] → IsLegal h → k < 2339 → slice_get h.records k ≡ Some r → r.reply ≡ (acted h.kind (map_at h k) r.call).1
first_calls_answered h k r rows empty legal first at =
    elim (answered_from h 0 k h.opening h.records k r (omega arith) legal at) [
      | inl answered ↦ answered
      | inr refused ↦ absurd (let late : 2339 ≤ k = first_short h k _ refused.shortage rows empty refused.short in omega arith)
    ]

-- what a shortage says of the number of rows
pub ruleset short_of_rows = (few_unheld, few_taken, first_short, first_calls_answered)
