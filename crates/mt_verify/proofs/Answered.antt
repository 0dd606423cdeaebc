-- Calls that are answered one by one as the maps before them answer are a legal history of their tree, and each history that
-- a transcript may tell so is legal only where they are.
use Rattle.mt_verify.proofs.Prelude.{◌≡◌, ◌⊎◌, ℕ, zero, suc, ◌+◌, ◌<◌, ◌≤◌, true, false, List, [], ◌∷◌, Option, Some, None, IfSome, length, slice_get, take, refl, sym, ap, ◌∙◌, subst, inl, inr, arith, ◌↔◌, IsSome, fold, slice_get_within, same_Some, Kind, Range, Call, Holder, Reply, Shortage, acted, Record, History, IsLegal, AreLegalFrom, IsAnswered, limits_after, map_at, map_by_reply, Limits, IsShort, IsRefused, reply_text, Heard, Short, Noted, AreAnswered, IsAnsweredAt, opened_of, map_heard, map_after_noted, map_of_noted, reply_heard, record_noted, records_noted, history_of, IsHeardAt, is_nomem, IsShortAs, IsHeard, AreHeard, IsReplyOf, AreRecordsOf}
use Rattle.mt_base.specs.History as histories
use Rattle.mt_verify.specs.declared.noted.Heard.TheVariants.{Reply as Printed}
use Rattle.mt_verify.proofs.Refusing.{acted_plainly}
use Rattle.mt_verify.proofs.SameMaps.{stays, goes}

-- ---- the history of the calls

-- the record makes the map what the call makes it
record_moves : (kind : Kind) (m : List Range) (n : Noted) → histories.map_after kind m (record_noted kind m n) ≡ map_after_noted kind m n
record_moves kind m n = either n.heard
  where
    either : (h : Heard) → map_by_reply (reply_heard h (acted kind m n.call).1) m (acted kind m n.call).0 ≡ map_heard h m (acted kind m n.call).0
    either (Printed bytes) = goes (acted kind m n.call).1 m (acted kind m n.call).0 (acted_plainly kind m n.call)
    either (Short s) = refl

record_legal : (kind : Kind) (version : ℕ) (l : Limits) (m : List Range) (n : Noted) → IsHeardAt kind version l m n.call n.heard → IsAnswered kind l m (record_noted kind m n)
record_legal kind version l m n = either n.heard
  where
    either : (h : Heard) → IsHeardAt kind version l m n.call h → (reply_heard h (acted kind m n.call).1 ≡ (acted kind m n.call).1) ⊎ IsRefused kind l m n.call (reply_heard h (acted kind m n.call).1)
    either (Printed bytes) heard = inl refl
    either (Short s) heard = inr heard

record_is : (kind : Kind) (version : ℕ) (l : Limits) (m : List Range) (n : Noted) → IsHeardAt kind version l m n.call n.heard → IsReplyOf version n.heard (record_noted kind m n).reply
record_is kind version l m n = either n.heard
  where
    either : (h : Heard) → IsHeardAt kind version l m n.call h → IsReplyOf version h (reply_heard h (acted kind m n.call).1)
    either (Printed bytes) heard = (acted_plainly kind m n.call, heard)
    either (Short s) heard = refl

-- each call from here on, by its place
module _ (version : ℕ) (h : History) where
  abbrev Each : ℕ → List Range → List Noted → Type 0
  Each ended m noted = (i : ℕ) (n : Noted) → slice_get noted i ≡ Some n → IsHeardAt h.kind version (limits_after h (ended + i)) (map_of_noted h.kind m noted i) n.call n.heard

  first_of : (ended : ℕ) (m : List Range) (n : Noted) (noted : List Noted) → Each ended m (n ∷ noted) → IsHeardAt h.kind version (limits_after h ended) m n.call n.heard
  first_of ended m n noted each =
      let here : ended + 0 ≡ ended = omega arith in
      subst (λ (e : ℕ). IsHeardAt h.kind version (limits_after h e) m n.call n.heard) here (each zero n refl)

  rest_of : (ended : ℕ) (m : List Range) (n : Noted) (noted : List Noted) → Each ended m (n ∷ noted) → Each (ended + 1) (map_after_noted h.kind m n) noted
  rest_of ended m n noted each i o is =
      let there : ended + suc i ≡ ended + 1 + i = omega arith in
      subst (λ (e : ℕ). IsHeardAt h.kind version (limits_after h e) (map_of_noted h.kind (map_after_noted h.kind m n) noted i) o.call o.heard) there (each (suc i) o is)

  legal_from : (ended : ℕ) (m : List Range) (noted : List Noted) → Each ended m noted → AreLegalFrom h ended m (records_noted h.kind m noted)
  legal_from ended m [] each = tt
  legal_from ended m (n ∷ noted) each = (
    record_legal h.kind version (limits_after h ended) m n (first_of ended m n noted each),
    subst (λ (x : List Range). AreLegalFrom h (ended + 1) x (records_noted h.kind (map_after_noted h.kind m n) noted)) (sym (record_moves h.kind m n)) (legal_from (ended + 1) (map_after_noted h.kind m n) noted (rest_of ended m n noted each)),
  )

  records_from : (ended : ℕ) (m : List Range) (noted : List Noted) → Each ended m noted → AreRecordsOf version noted (records_noted h.kind m noted)
  records_from ended m [] each = tt
  records_from ended m (n ∷ noted) each = (
    record { pass = refl; call = refl; reply = record_is h.kind version (limits_after h ended) m n (first_of ended m n noted each) },
    records_from (ended + 1) (map_after_noted h.kind m n) noted (rest_of ended m n noted each),
  )

each_of : (kind : Kind) (version rows : ℕ) (opening : List Range) (noted : List Noted) → AreAnswered kind version rows opening noted (length noted) → Each version (history_of kind rows opening noted) 0 opening noted
each_of kind version rows opening noted answered i n is =
    let here : i ≡ 0 + i = omega arith in
    subst (λ (e : ℕ). IsAnsweredAt kind version rows (opened_of opening) e (map_of_noted kind opening noted i) n) here (answered i n (slice_get_within noted i n is) is)

pub answered_is_legal : (kind : Kind) (version rows : ℕ) (opening : List Range) (noted : List Noted) → AreAnswered kind version rows opening noted (length noted) → IsLegal (history_of kind rows opening noted)
answered_is_legal kind version rows opening noted answered = legal_from version (history_of kind rows opening noted) 0 opening noted (each_of kind version rows opening noted answered)

pub answered_are_records : (kind : Kind) (version rows : ℕ) (opening : List Range) (noted : List Noted) → AreAnswered kind version rows opening noted (length noted) → AreRecordsOf version noted (history_of kind rows opening noted).records
answered_are_records kind version rows opening noted answered = records_from version (history_of kind rows opening noted) 0 opening noted (each_of kind version rows opening noted answered)

fold_records : (k : ℕ) (kind : Kind) (m : List Range) (noted : List Noted) → fold (histories.map_after kind) m (take k (records_noted kind m noted)) ≡ fold (map_after_noted kind) m (take k noted)
fold_records zero kind m noted = refl
fold_records (suc k) kind m [] = refl
fold_records (suc k) kind m (n ∷ noted) =
    ap (λ (x : List Range). fold (histories.map_after kind) x (take k (records_noted kind (map_after_noted kind m n) noted))) (record_moves kind m n) ∙ fold_records k kind (map_after_noted kind m n) noted

pub maps_are : (kind : Kind) (rows : ℕ) (opening : List Range) (noted : List Noted) (k : ℕ) → map_at (history_of kind rows opening noted) k ≡ map_of_noted kind opening noted k
maps_are kind rows opening noted k = fold_records k kind opening noted

-- ---- another history that a transcript may tell so

early : (o : Option Holder) (n : ℕ) → IfSome o (λ h. h.epoch ≡ 0) → IfSome o (λ h. h.epoch ≤ n)
early None n first = tt
early (Some h) n first = omega arith

-- who holds rows may be another
short_moves : (l : Limits) (m : List Range) (s : Shortage) (r : Reply) (a : IsShortAs s r) → IsShort l m a.other → IsShort l m s
short_moves l m s r a k =
    let holder = a.holder in
    let epoch = early s.by l.ended a.epoch in
    subst (IsShort l m) (sym a.same) (record {
      all = k.all;
      levels = k.levels;
      low = k.low;
      need = k.need;
      few = k.few;
      flat = k.flat;
      tall = k.tall;
      each = k.each;
      none = k.none;
      half = k.half;
      holder = subst (λ (x : Shortage). IsSome s.by ↔ (0 < x.held)) a.same holder;
      epoch = epoch;
      grown = k.grown;
      unheld = k.unheld;
    })

heard_moves : (kind : Kind) (m : List Range) (n : Noted) (version : ℕ) (r : Record) → r.call ≡ n.call → IsHeard version n.heard r.reply → histories.map_after kind m r ≡ map_after_noted kind m n
heard_moves kind m n version r call = either n.heard
  where
    either : (h : Heard) → IsHeard version h r.reply → map_by_reply r.reply m (acted kind m r.call).0 ≡ map_heard h m (acted kind m n.call).0
    either (Printed bytes) heard = goes r.reply m (acted kind m r.call).0 heard.0 ∙ ap (λ (c : Call). (acted kind m c).0) call
    either (Short s) heard = stays r.reply m (acted kind m r.call).0 (ap is_nomem heard.is)

heard_here : (kind : Kind) (l : Limits) (m : List Range) (version : ℕ) (call : Call) (h : Heard) (r : Reply) → IsHeard version h r → (r ≡ (acted kind m call).1) ⊎ IsRefused kind l m call r → IsHeardAt kind version l m call h
heard_here kind l m version call (Printed bytes) r heard (inl told) = sym (ap (reply_text version) told) ∙ heard.1
heard_here kind l m version call (Printed bytes) r heard (inr refused) = absurd (let one : is_nomem r ≡ true = ap is_nomem refused.told in let two = heard.0 in cc)
heard_here kind l m version call (Short s) r heard (inl told) =
    absurd (let plain : is_nomem (acted kind m call).1 ≡ false = acted_plainly kind m call in let nomem : is_nomem (acted kind m call).1 ≡ true = ap is_nomem (sym told ∙ heard.is) in cc)
heard_here kind l m version call (Short s) r heard (inr refused) =
    let same : refused.shortage ≡ heard.other = (let one = heard.is in let two = refused.told in cc) in
    record { shortage = s; told = refl; wants = refused.wants; short = short_moves l m s r heard (subst (IsShort l m) same refused.short) }

module _ (version : ℕ) (h : History) where
  each_from : (ended : ℕ) (m : List Range) (noted : List Noted) (records : List Record) → AreHeard version noted records → AreLegalFrom h ended m records → Each version h ended m noted
  each_from ended m [] [] heard legal = λ i n is. absurd (cc)
  each_from ended m [] (r ∷ records) heard legal = absurd heard
  each_from ended m (o ∷ noted) [] heard legal = absurd heard
  each_from ended m (o ∷ noted) (r ∷ records) heard legal =
      by_place (each_from (ended + 1) (map_after_noted h.kind m o) noted records heard.2 (subst (λ (x : List Range). AreLegalFrom h (ended + 1) x records) (heard_moves h.kind m o version r heard.0 heard.1) legal.1))
    where
      here : IsHeardAt h.kind version (limits_after h ended) m o.call o.heard
      here = subst (λ (c : Call). IsHeardAt h.kind version (limits_after h ended) m c o.heard) heard.0 (heard_here h.kind (limits_after h ended) m version r.call o.heard r.reply heard.1 legal.0)

      by_place : Each version h (ended + 1) (map_after_noted h.kind m o) noted → Each version h ended m (o ∷ noted)
      by_place behind zero n is =
          let same : o ≡ n = same_Some o n is in
          let at : ended ≡ ended + 0 = omega arith in
          subst (λ (x : ℕ × Noted). IsHeardAt h.kind version (limits_after h x.0) m x.1.call x.1.heard) (λ k. (at k, same k)) here
      by_place behind (suc i) n is =
          let at : ended + 1 + i ≡ ended + suc i = omega arith in
          subst (λ (e : ℕ). IsHeardAt h.kind version (limits_after h e) (map_of_noted h.kind (map_after_noted h.kind m o) noted i) n.call n.heard) at (behind i n is)

  fold_heard : (k : ℕ) (m : List Range) (noted : List Noted) (records : List Record) → AreHeard version noted records → fold (histories.map_after h.kind) m (take k records) ≡ fold (map_after_noted h.kind) m (take k noted)
  fold_heard zero m noted records heard = refl
  fold_heard (suc k) m [] [] heard = refl
  fold_heard (suc k) m [] (r ∷ records) heard = absurd heard
  fold_heard (suc k) m (n ∷ noted) [] heard = absurd heard
  fold_heard (suc k) m (n ∷ noted) (r ∷ records) heard =
      ap (λ (x : List Range). fold (histories.map_after h.kind) x (take k records)) (heard_moves h.kind m n version r heard.0 heard.1) ∙ fold_heard k (map_after_noted h.kind m n) noted records heard.2

pub legal_is_answered : (version : ℕ) (h : History) (noted : List Noted) → AreHeard version noted h.records → IsLegal h → AreAnswered h.kind version h.rows h.opening noted (length noted)
legal_is_answered version h noted heard legal i n within is =
    let here : 0 + i ≡ i = omega arith in
    subst (λ (e : ℕ). IsAnsweredAt h.kind version h.rows (opened_of h.opening) e (map_of_noted h.kind h.opening noted i) n) here (each_from version h 0 h.opening noted h.records heard legal i n is)

pub heard_maps : (version : ℕ) (h : History) (noted : List Noted) (k : ℕ) → AreHeard version noted h.records → map_at h k ≡ map_of_noted h.kind h.opening noted k
heard_maps version h noted k heard = fold_heard version h k h.opening noted h.records heard
