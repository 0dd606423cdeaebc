-- What is left of a read that was given up, and a bound of what begins behind an index.
use Rattle.mt_read.proofs.Prelude.{◌≡◌, ℕ, [], ◌∷◌, length, Option, refl, sym, ap, ◌∙◌, subst, arith, length-map, Kind, Range, Query, Next, Prev, Rfind, IsMap, greatest_of, begins_long, PassPart, known_by, record_of, moment_seen, Identity, tree_in, Answers, not_below, within, LeftMarked, WasLeftMarked, WasMoved, asked, Began, Ended, HasRead}
use Rattle.mt_base.specs.Passes as known
use Rattle.mt_read.specs.declared.ways.Way.{Way}
use Rattle.mt_read.specs.declared.ways.Way.TheVariants as ways
use Rattle.mt_read.specs.Ways.{bounded, query_by, whole_query}
use Rattle.mt_read.proofs.LastAnswers.{prev_within, rfind_within}
use Rattle.mt_read.proofs.NextAnswers.{next_within}
use Rattle.mt_read.proofs.Windows.{alike, has_read, marks_after}

next_bounded : (q : PassPart) (kind : Kind) (least index max : ℕ) (value : Option Range) → q.shape.kind ≡ kind → Answers q least (Next index (greatest_of kind)) value → Answers q least (Next index max) (within 0 max value)
next_bounded q kind least index max value same a =
    alike q least (Next index (greatest_of kind)) (Next index max) (within 0 max) value (λ k map. next_within kind (moment_seen q k).ranges index max (subst (λ (z : Kind). IsMap z (moment_seen q k).ranges) same map)) a

rfind_bounded : (q : PassPart) (least index min : ℕ) (value : Option Range) → Answers q least (Rfind index 0) value → Answers q least (Rfind index min) (not_below index min value)
rfind_bounded q least index min value a =
    alike q least (Rfind index 0) (Rfind index min) (not_below index min) value (λ k map. rfind_within q.shape.kind (moment_seen q k).ranges index min map) a

prev_bounded : (q : PassPart) (least index min : ℕ) (value : Option Range) → Answers q least (Prev index 0) value → Answers q least (Prev index min) (not_below min min value)
prev_bounded q least index min value a = alike q least (Prev index 0) (Prev index min) (not_below min min) value (λ k map. prev_within q.shape.kind (moment_seen q k).ranges index min map) a

pub way_bounded : (way : Way) (q : PassPart) (kind : Kind) (least index bound : ℕ) (value : Option Range) → q.shape.kind ≡ kind → Answers q least (whole_query way kind index) value → Answers q least (query_by way index bound) (bounded way index bound value)
way_bounded ways.Next q kind least index bound value same a = next_bounded q kind least index bound value same a
way_bounded ways.Prev q kind least index bound value same a = prev_bounded q least index bound value a
way_bounded ways.Rfind q kind least index bound value same a = rfind_bounded q least index bound value a

-- ---- given up

was_left : (t : Identity) (q q₁ q₂ q₃ : PassPart) (query : Query) (lo hi : ℕ) → q.shape ≡ t.shape → Began lo q q₁ → LeftMarked (asked q₁.shape.kind query) (length q₁.seen) q₁ q₂ → Ended hi q₂ q₃ → WasLeftMarked query lo hi q q₃
was_left t q q₁ q₂ q₃ query lo hi of began left ended =
    let marked = subst (λ (k : Kind). LeftMarked (asked k query) (length q₁.seen) q₁ q₂) (ap (λ (z : PassPart). z.shape.kind) began.is) left in record {
      opened = q₁;
      left = q₂;
      began = began;
      marked = marked;
      ended = ended;
      marks = marks_after t q q₁ q₂ q₃ lo hi of began (marked.x.row ∷ q₁.marks) marked.beside.marked.goes ended ∙ ap (λ (z : PassPart). marked.x.row ∷ z.marks) began.is;
    }

was_moved : (t : Identity) (q q₁ q₂ q₃ : PassPart) (query : Query) (lo hi : ℕ) → q.shape ≡ t.shape → Began lo q q₁ → LeftMarked query (length q₁.seen) q₁ q₂ → Ended hi q₂ q₃ → known.IsSound (tree_in t) (known_by q₃) → WasMoved (tree_in t) (known_by q) lo hi (known_by q₃)
was_moved t q q₁ q₂ q₃ query lo hi of began left ended sound =
    let goes = left.beside.marked.goes in let since = left.since in let risen = left.beside.marked.begun in
    let h = has_read t q q₁ q₂ q₃ lo hi of began (left.x.row ∷ q₁.marks) goes ended in
    let begun : q₂.begun ≡ q.begun = ap (λ (z : PassPart). z.begun) goes.is ∙ ap (λ (z : PassPart). z.begun) began.is in
    let before = ended.before in let most = began.most in let least = began.least in let top = ended.risen in
    let first = begins_long q.seen q₁.seen began.seen in let long = length-map q.seen record_of in
    subst (λ (z : known.Pass). WasMoved (tree_in t) (known_by q) lo hi z) (sym h.pass) (record {
      grows = record { number = refl; seen = h.seen; mine = refl; opened = (lo ∷ [], refl); begun = omega arith; ended = began.before };
      floor = omega arith;
      before = began.before;
      later = omega arith;
      sound = subst (λ (z : known.Pass). known.IsSound (tree_in t) z) h.pass sound;
    })

-- what is told of a read that gave up, which asked this
pub record HasGivenUp (t : Identity) (q q₃ : PassPart) (query : Query) (lo hi : ℕ) : Type 0 where
  pub moved : WasMoved (tree_in t) (known_by q) lo hi (known_by q₃)
  pub given_up : HasRead lo hi (known_by q) (known_by q₃)
  pub left : WasLeftMarked query lo hi q q₃

pub has_given_up : (t : Identity) (q q₁ q₂ q₃ : PassPart) (query : Query) (lo hi : ℕ) → q.shape ≡ t.shape → Began lo q q₁ → LeftMarked (asked q₁.shape.kind query) (length q₁.seen) q₁ q₂ → Ended hi q₂ q₃ → known.IsSound (tree_in t) (known_by q₃)
    → HasGivenUp t q q₃ query lo hi
has_given_up t q q₁ q₂ q₃ query lo hi of began left ended sound = record {
  moved = was_moved t q q₁ q₂ q₃ (asked q₁.shape.kind query) lo hi of began left ended sound;
  given_up = has_read t q q₁ q₂ q₃ lo hi of began (left.x.row ∷ q₁.marks) left.beside.marked.goes ended;
  left = was_left t q q₁ q₂ q₃ query lo hi of began left ended;
}
