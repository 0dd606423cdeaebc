-- What a leaf, and the leaf before it, tell of the last range before an index.
use Rattle.mt_read.proofs.Prelude.{◌≡◌, ◌≢◌, ◌⊎◌, ⊎_elim, ℕ, ◌+◌, ◌-◌, ◌<◌, ◌≤◌, List, [], ◌∷◌, ◌++◌, length, Option, Some, None, inl, inr, refl, sym, ap, ◌∙◌, subst, arith, IfSome, IfNone, AllByRecursion, slice_get, Kind, Range, Width, Query, Prev, Rfind, answer, IsMap, greatest, greatest_of, kind_width, get_parts, all_back, begins_long, Span, Fills, EndsFull, leaf_range, fills_split, full_back, none_filled, Held, Snapshot, copy_of, HasPart, SameForm, spans_at, Cut, IsPart, kind_at, PassPart, LoadedParent, here, moment_seen, spans_here, SlotPlace, Answers, AnswersBy, LeafAnswers, GoesOn, IsPlaceIn, IsSameHold, SeesMore, WasRead}
use Rattle.mt_life.specs.declared.views.Moment as life
use Rattle.mt_read.proofs.Crossing.{beside_by}
use Rattle.mt_read.proofs.Descending.{span_within}
use Rattle.mt_read.proofs.LastAnswers.{prev_is, prev_none, rfind_all, rfind_hole, rfind_none, rfind_range}
use Rattle.mt_read.proofs.MapAnswers.{Beside, hole_part, outside, range_part}
use Rattle.mt_read.proofs.Moments.{moment_stays}
use Rattle.mt_read.proofs.Reading.{answers_read, level_same, no_entry, nothing_answers, range_is, some_entry, span_of, still, still_hole, stood_behind, stood_here, word}
use Rattle.mt_read.proofs.SlotAnswers.{behind_in, narrow}
use Rattle.mt_read.proofs.Standing.{beside_there, form_on, hole_there}

-- of an empty map nothing is told
pub nothing_before : (m : List Range) (index : ℕ) → m ≡ [] → None ≡ answer m (Rfind index 0)
nothing_before m index none = sym (ap (λ (l : List Range). answer l (Rfind index 0)) none ∙ rfind_all [] index)

module _ (q q' : PassPart) (place : SlotPlace) (found : Option Range) (level : (here q).extent.level ≡ 0) (was : WasRead q q' place found) (index : ℕ) (from : place.first ≤ index) (to : index ≤ place.last) where
  abbrev m : List Range
  m = (moment_seen q' was.read.k).ranges

  abbrev span : Span
  span = span_of place was.entry

  over_place : IsPart m place.first place.last (leaf_range span)
  over_place = narrow m (here q).extent.first (here q).extent.last place.slot _ span was.read.part.ranges was.read.shape.fills was.stands

  pub last_here : (r : Range) → found ≡ Some r → LeafAnswers q' (here q) (Rfind index 0) (Some r)
  last_here r is =
      let entry = some_entry place was.entry r (sym is ∙ was.found_is) in
      record {
        answers = answers_read q q' place found was (Rfind index 0) (Some r)
            (sym is ∙ (was.found_is ∙ (range_is place was.entry entry
            ∙ rfind_range m (record { first = place.first; last = place.last; entry = was.entry }) index (range_part q'.shape.kind m was.read.map span entry over_place) from to)));
        now = was.read.now;
        stood = stood_here q q' place found level was index from to;
      }

  pub no_last : found ≡ None → place.first ≡ 0 → AnswersBy q' (here q) (here q).since (Rfind index 0) None
  no_last is first =
      let hole = no_entry place was.entry (sym is ∙ was.found_is) in
      record {
        answers = answers_read q q' place found was (Rfind index 0) None
            (rfind_none m (greatest_of q'.shape.kind) place.first place.last index (outside q'.shape.kind m was.read.map place.first place.last (hole_part q'.shape.kind m was.read.map span hole over_place)) from to first);
        stood = inr (stood_here q q' place found level was index from to);
      }

  module _ (q₂ q₃ : PassPart) (same : IsSameHold (here q) (here q')) (sees : SeesMore q' q₂) (goes : GoesOn q q') (on : GoesOn q₂ q₃) (before : SlotPlace) (answered : Option Range) (was₃ : WasRead q₂ q₃ before answered) where
    abbrev m₃ : List Range
    m₃ = (moment_seen q₃ was₃.read.k).ranges

    abbrev word₃ : ℕ
    word₃ = word q q' place found level was index from to q₂ q₃ same sees goes on before answered was₃

    -- the range before a hole
    pub last_before : found ≡ None → before.slot + 1 ≡ place.slot → before.last + 1 ≡ place.first
        → (r : Range) × (answered ≡ Some r) × LeafAnswers q₃ (here q) (Rfind index 0) (Some r)
    last_before is slot last =
        let read = was₃.read in
        let kind₃ = q₃.shape.kind in
        let spans = spans_at kind₃ (copy_of (here q₃)) (here q₂).row (here q₂).extent in
        let hole = still_hole q q' place found level was index from to q₂ q₃ same sees goes on before answered was₃ (no_entry place was.entry (sym is ∙ was.found_is)) in
        let stands = still q q' place found level was index from to q₂ q₃ same sees goes on before answered was₃ in
        let level₂ = level_same q q' place found level was index from to q₂ q₃ same sees goes on before answered was₃ in
        let there : slice_get spans (before.slot + 1) ≡ Some (span_of place word₃) = ap (slice_get spans) slot ∙ stands in
        let behind = behind_in (here q₂).extent.first ((here q₂).extent.last + 1) before.slot spans (span_of before was₃.entry) (span_of place word₃) read.shape.fills was₃.stands there in
        let entry : was₃.entry ≢ 0 = λ none. behind.3 (read.shape.apart level₂) none hole in
        let r : Range = record { first = before.first; last = before.last; entry = was₃.entry } in
        let inside = span_within (here q₂).extent.first ((here q₂).extent.last + 1) before.slot spans _ read.shape.fills was₃.stands in
        let order = inside.1 in
        let here₃ = narrow m₃ (here q₂).extent.first (here q₂).extent.last before.slot spans (span_of before was₃.entry) read.part.ranges read.shape.fills was₃.stands in
        let over₃ = narrow m₃ (here q₂).extent.first (here q₂).extent.last place.slot spans (span_of place word₃) read.part.ranges read.shape.fills stands in
        let out = outside kind₃ m₃ read.map place.first place.last (hole_part kind₃ m₃ read.map (span_of place word₃) hole over₃) in
        let low = read.low in
        let since : (here q₂).since ≡ (here q).since = ap (λ (z : Held). z.since) (ap here sees.is ∙ same.is) in
        let told = rfind_range m₃ r (place.first - 1) (range_part kind₃ m₃ read.map (span_of before was₃.entry) entry here₃) (omega arith) (omega arith)
        ∙ sym (rfind_hole m₃ (greatest_of kind₃) place.first place.last index out from to (omega arith)) in (
          r,
          was₃.found_is ∙ range_is before was₃.entry entry,
          record {
            answers = record { k = read.k; low = omega arith; high = read.high; map = read.map; is = told };
            now = read.now;
            stood = stood_behind q q' place found level was index from to q₂ q₃ same sees goes on before answered was₃;
          },
        )

-- ---- the leaf before a leaf

-- Two leaves of one moment do not overlap: the leaf b, which holds the index below the leaf x, ends there, and has no hole there.
no_hole : (q₂ q₃ : PassPart) (place : SlotPlace) (x : Held) (to : ℕ) (was : WasRead q₂ q₃ place None) → (here q₂).extent.level ≡ 0 → (here q₂).width ≡ kind_width q₃.shape.kind → Cut (moment_seen q₃ was.read.k).cuts x.extent.first x.extent.last
    → place.first ≤ to → to ≤ place.last → to + 1 ≡ x.extent.first → x.extent.first ≤ greatest_of q₃.shape.kind → ⊥
no_hole q₂ q₃ place x to was level wide cut from upto next small =
    let b = here q₂ in let e = b.extent in
    let spans = spans_at q₃.shape.kind (copy_of (here q₃)) b.row e in
    let span = span_of place was.entry in
    let hole = no_entry place was.entry was.found_is in
    let inside = span_within e.first (e.last + 1) place.slot spans span was.read.shape.fills was.stands in
    let low = inside.0 in let high = inside.2 in
    let mine = all_back (λ (c : ℕ). (c ≤ e.first) ⊎ (e.last < c)) cut.before (x.extent.first ∷ cut.after) (subst (AllByRecursion (λ (c : ℕ). (c ≤ e.first) ⊎ (e.last < c))) cut.begins was.read.part.cuts.apart) in
    let end : e.last < x.extent.first = ⊎_elim (λ (h : x.extent.first ≤ e.first). absurd (omega arith)) (λ (h : e.last < x.extent.first). h) mine.0 in
    let parts = get_parts spans place.slot span was.stands in
    let fills = fills_split e.first (e.last + 1) parts.0 span parts.1 (subst (Fills e.first (e.last + 1)) parts.2 was.read.shape.fills) in
    let none = none_filled (place.last + 1) (e.last + 1) parts.1 fills.2 (omega arith) in
    let width : (here q₃).width ≡ kind_width q₃.shape.kind = was.read.width ∙ wide in
    let less : e.last < greatest (here q₃).width = subst (λ (w : Width). e.last < greatest w) (sym width) (omega arith) in
    full_back parts.0 (span ∷ []) (omega arith) (subst EndsFull (parts.2 ∙ ap (λ (l : List Span). parts.0 ++ (span ∷ l)) none) (was.read.shape.ends level less)) hole

module _ (q₂ q₃ q₄ : PassPart) (number word found : ℕ) (told : LoadedParent number word found q₃ q₄) (place : SlotPlace) (x : Held) (to least : ℕ) (level : (here q₂).extent.level ≡ 0) (wide : (here q₂).width ≡ kind_width q₃.shape.kind)
    (from : place.first ≤ to) (upto : to ≤ place.last) (next : to + 1 ≡ x.extent.first) (small : x.extent.first ≤ greatest_of q₃.shape.kind) (met : x.met ≤ least) (low : least ≤ (here q₂).since)
    (past : (k : ℕ) → x.met ≤ k → k ≤ length q₄.seen → Snapshot q₄.shape.kind x (moment_seen q₄ k)) where
  pub last_by : (o : Option Range) (slot : Type 0) → IfSome o (λ (r : Range). LeafAnswers q₃ (here q₂) (Rfind to 0) (Some r)) → IfNone o (slot × WasRead q₂ q₃ place None) → AnswersBy q₄ x least (Rfind to 0) o
  last_by (Some r) slot a none = beside_by q₃ q₄ number word found told x least (here q₂).since met low (Rfind to 0) (Some r) a.answers past
  last_by None slot a none =
      let was = none.1 in
      let first = was.read.low in
      let long = begins_long q₃.seen q₄.seen told.reads.seen in let high = was.read.high in
      let snap = past was.read.k (omega arith) (omega arith) in
      let stays = moment_stays q₃ q₄ was.read.k (ap (λ (z : PassPart). z.shape) told.reads.is) told.reads.seen was.read.high in
      absurd (no_hole q₂ q₃ place x to was level wide (subst (λ (n : life.Moment). Cut n.cuts x.extent.first x.extent.last) stays snap.part.cuts) from upto next small)

-- ---- in the leaf, or before it

pub here_by : (q q' : PassPart) (index : ℕ) (r : Range) → LeafAnswers q' (here q) (Rfind index 0) (Some r) → AnswersBy q' (here q) (here q).since (Rfind index 0) (Some r)
here_by q q' index r a = record { answers = a.answers; stood = inr a.stood }

-- the leaf begins with a hole there: what is before the leaf answers
module _ (q q₁ q' : PassPart) (place : SlotPlace) (was : WasRead q q₁ place None) (same : IsSameHold (here q) (here q₁)) (filled : Fills (here q₁).extent.first ((here q₁).extent.last + 1) (spans_here q₁ (here q₁)))
    (kind : q'.shape.kind ≡ q₁.shape.kind) (index : ℕ) (from : place.first ≤ index) (to : index ≤ place.last) (some : 0 < place.first) where
  by_moment : (m : life.Moment) (value : Option Range) → IsMap q'.shape.kind m.ranges → value ≡ answer m.ranges (Rfind (place.first - 1) 0) → (m.ranges ≡ []) ⊎ Snapshot q'.shape.kind (here q₁) m
      → (value ≡ answer m.ranges (Rfind index 0)) × ((m.ranges ≡ []) ⊎ Snapshot q'.shape.kind (here q) m)
  by_moment m value map is (inl none) = (is ∙ (sym (nothing_before m.ranges (place.first - 1) none) ∙ nothing_before m.ranges index none), inl none)
  by_moment m value map is (inr s) =
      let k' = q'.shape.kind in
      let hole = no_entry place was.entry was.found_is in
      let stands : slice_get (spans_at k' (copy_of (here q₁)) (here q₁).row (here q₁).extent) place.slot ≡ Some (span_of place was.entry) =
      (λ i. slice_get (spans_at (kind i) (copy_of (here q₁)) ((ap (λ (z : Held). z.row) same.is) i) ((ap (λ (z : Held). z.extent) same.is) i)) place.slot) ∙ was.stands in
      let fills : Fills (here q₁).extent.first ((here q₁).extent.last + 1) (spans_at k' (copy_of (here q₁)) (here q₁).row (here q₁).extent) =
      subst (λ (k : Kind). Fills (here q₁).extent.first ((here q₁).extent.last + 1) (spans_at k (copy_of (here q₁)) (here q₁).row (here q₁).extent)) (sym kind) filled in
      let part = hole_there k' (here q₁) m s fills place.slot (span_of place was.entry) stands hole in
      let form : SameForm (copy_of (here q)) (copy_of (here q₁)) (kind_at k' (here q).extent.level) (here q).row =
      subst (λ (k : Kind). SameForm (copy_of (here q)) (copy_of (here q₁)) (kind_at k (here q).extent.level) (here q).row) (sym kind) was.read.form in
      let form₂ : SameForm (copy_of (here q₁)) s.table (kind_at k' (here q).extent.level) (here q).row =
      subst (λ (h : Held). SameForm (copy_of (here q₁)) s.table (kind_at k' h.extent.level) h.row) same.is s.form in (
        is ∙ sym (rfind_hole m.ranges (greatest_of k') place.first place.last index (outside k' m.ranges map place.first place.last part) from to some),
        inr (record {
          table = s.table;
          width = s.width ∙ was.read.width;
          form = form_on (kind_at k' (here q).extent.level) (here q).row (copy_of (here q)) (copy_of (here q₁)) s.table was.read.width form form₂;
          part = subst (λ (h : Held). HasPart k' s.table h.row h.extent m) same.is s.part;
        }),
      )

  pub left_by : (o : Option (Option Range)) (least less : ℕ) → less ≤ least → IfSome o (AnswersBy q' (here q₁) least (Rfind (place.first - 1) 0)) → IfSome o (AnswersBy q' (here q) less (Rfind index 0))
  left_by None least less le h = tt
  left_by (Some value) least less le h =
      let a = h.answers in let low = a.low in
      let both = by_moment (moment_seen q' a.k) value a.map a.is h.stood in
      record { answers = record { k = a.k; low = omega arith; high = a.high; map = a.map; is = both.0 }; stood = both.1 }

pub only_answers : (o : Option (Option Range)) (q : PassPart) (x : Held) (least : ℕ) (query : Query) → IfSome o (AnswersBy q x least query) → IfSome o (Answers q least query)
only_answers None q x least query h = tt
only_answers (Some value) q x least query h = h.answers

-- ---- what ends below an index

module _ (q q' : PassPart) (place : SlotPlace) (index : ℕ) (from : place.first ≤ index) (to : index ≤ place.last) (is : IsPlaceIn q place)
    (fills : Fills (here q).extent.first ((here q).extent.last + 1) (spans_here q (here q))) (same : q'.shape.kind ≡ q.shape.kind) where
  each_beside : (m : life.Moment) → IsMap q'.shape.kind m.ranges → Snapshot q'.shape.kind (here q) m → AllByRecursion (Beside (greatest_of q'.shape.kind) place.first place.last) m.ranges
  each_beside m map s =
      let at = subst (λ (k : Kind). slice_get (spans_at k (copy_of (here q)) (here q).row (here q).extent) place.slot ≡ Some (record { first = place.first; last = place.last; word = is.word })) (sym same) is.stands in
      let filled = subst (λ (k : Kind). Fills (here q).extent.first ((here q).extent.last + 1) (spans_at k (copy_of (here q)) (here q).row (here q).extent)) (sym same) fills in
      beside_there q'.shape.kind (here q) m s filled place.slot (record { first = place.first; last = place.last; word = is.word }) map at

  prev_moment : (m : life.Moment) (value : Option Range) → 0 < place.first → IsMap q'.shape.kind m.ranges → value ≡ answer m.ranges (Rfind (place.first - 1) 0) → (m.ranges ≡ []) ⊎ Snapshot q'.shape.kind (here q) m → value ≡ answer m.ranges (Prev index 0)
  prev_moment m value some map is (inl none) = is ∙ (sym (nothing_before m.ranges (place.first - 1) none) ∙ ap (λ (l : List Range). answer l (Prev index 0)) (sym none))
  prev_moment m value some map is (inr s) = is ∙ sym (prev_is m.ranges (greatest_of q'.shape.kind) place.first place.last index (each_beside m map s) from to some)

  pub prevs : (o : Option (Option Range)) (least less : ℕ) → less ≤ least → 0 < place.first → IfSome o (AnswersBy q' (here q) least (Rfind (place.first - 1) 0)) → IfSome o (Answers q' less (Prev index 0))
  prevs None least less le some h = tt
  prevs (Some value) least less le some h =
      let a = h.answers in let low = a.low in
      record { k = a.k; low = omega arith; high = a.high; map = a.map; is = prev_moment (moment_seen q' a.k) value some a.map a.is h.stood }

  pub no_prev : (least k : ℕ) → least ≤ k → k ≤ length q'.seen → place.first ≡ 0 → IsMap q'.shape.kind (moment_seen q' k).ranges → Snapshot q'.shape.kind (here q) (moment_seen q' k) → Answers q' least (Prev index 0) None
  no_prev least k low high first map s = record {
    k = k;
    low = low;
    high = high;
    map = map;
    is = prev_none (moment_seen q' k).ranges (greatest_of q'.shape.kind) place.first place.last index (each_beside (moment_seen q' k) map s) from to first;
  }

-- ---- of an empty map

pub lefts_nothing : (q q' : PassPart) → GoesOn q q' → (moment_seen q' (length q'.seen)).ranges ≡ [] → (x : Held) (index : ℕ) → AnswersBy q' x (length q.seen) (Rfind index 0) None
lefts_nothing q q' goes empty x index = record { answers = nothing_answers q q' goes empty (Rfind index 0) (sym (rfind_all [] index)); stood = inl empty }

pub prevs_nothing : (q q' : PassPart) → GoesOn q q' → (moment_seen q' (length q'.seen)).ranges ≡ [] → (index : ℕ) → Answers q' (length q.seen) (Prev index 0) None
prevs_nothing q q' goes empty index = nothing_answers q q' goes empty (Prev index 0) refl
