-- What a read at the index that is walked to answers of an index above the greatest.
use Rattle.mt_read.proofs.Prelude.{◌≡◌, ℕ, ◌<◌, ◌≤◌, Option, Some, None, length, min, refl, sym, ap, ◌∙◌, subst, arith, lt-ltb, le-ltb, IfSome, Kind, Width, Range, Query, Load, Find, Next, Prev, Rfind, greatest, greatest_of, kind_width, answer, IsMap, prev_above, Held, Pass, PassPart, Shape, here, moment_seen, Identity, IsPassOf, part_of, Answers, SeesMore, not_below, asked, sought}
use Rattle.mt_read.proofs.Descending.{here_more}
use Rattle.mt_read.proofs.Finding.{shape_is}
use Rattle.mt_read.proofs.Reading.{answers_from}
use Rattle.mt_read.proofs.Sought as maps
use Rattle.mt_read.proofs.Windows.{alike}

-- ---- the index that is walked to

pub kind_is : (t : Identity) (p : Pass) → IsPassOf t p → (part_of p).shape.kind ≡ t.shape.kind
kind_is t p of = ap (λ (s : Shape). s.kind) (shape_is t p of)

-- the index that a walk goes to whose width is told by the columns
pub lesser_is : (kind : Kind) (index end to : ℕ) (width : Width) → width ≡ kind_width kind → end ≡ greatest width → to ≡ min index end → to ≡ sought kind index
lesser_is kind index end to width wide top is = is ∙ ap (min index) (top ∙ ap greatest wide)

pub sought_is : (t : Identity) (p : Pass) (index to : ℕ) → IsPassOf t p → to ≡ sought t.shape.kind index → to ≡ sought (part_of p).shape.kind index
sought_is t p index to of is = is ∙ ap (λ (k : Kind). sought k index) (sym (kind_is t p of))

pub sought_within : (t : Identity) (p : Pass) (index to : ℕ) → IsPassOf t p → to ≡ sought t.shape.kind index → to ≤ greatest_of (part_of p).shape.kind
sought_within t p index to of is = let same = sought_is t p index to of is in omega arith

pub end_is : (t : Identity) (p : Pass) (end : ℕ) → IsPassOf t p → end ≡ greatest_of t.shape.kind → end ≡ greatest_of (part_of p).shape.kind
end_is t p end of is = is ∙ ap greatest_of (sym (kind_is t p of))

-- ---- a query as a tree of a kind is asked it

pub asked_low : (kind : Kind) (index : ℕ) → index ≤ greatest_of kind → asked kind (Prev index 0) ≡ Prev index 0
asked_low kind index low = rw (le-ltb (greatest_of kind) index low) refl

pub asked_above : (kind : Kind) (index end : ℕ) → end ≡ greatest_of kind → end < index → asked kind (Rfind end 0) ≡ asked kind (Prev index 0)
asked_above kind index end is above =
    let top : sought kind end ≡ greatest_of kind = omega arith in
    ap (λ (n : ℕ). Rfind n 0) top ∙ sym (rw (lt-ltb (greatest_of kind) index (omega arith)) refl)

-- ---- answers

alike_some : (q : PassPart) (least : ℕ) (query other : Query) (o : Option (Option Range)) → ((k : ℕ) → IsMap q.shape.kind (moment_seen q k).ranges → answer (moment_seen q k).ranges query ≡ answer (moment_seen q k).ranges other)
    → IfSome o (Answers q least query) → IfSome o (Answers q least other)
alike_some q least query other None same a = tt
alike_some q least query other (Some value) same a = alike q least query other (λ (v : Option Range). v) value same a

-- the pass has made a walk to the index, and was of the tree before
module _ (t : Identity) (p p₀ : Pass) (of : IsPassOf t p) (before : IsPassOf t p₀) (least index to : ℕ) (is : to ≡ sought t.shape.kind index) where
  abbrev q : PassPart
  q = part_of p

  abbrev kind : Kind
  kind = q.shape.kind

  there : to ≡ sought kind index
  there = sought_is t p index to of is

  -- the greatest index, as it was known before
  top_is : greatest_of (part_of p₀).shape.kind ≡ greatest_of kind
  top_is = ap greatest_of (kind_is t p₀ before ∙ sym (kind_is t p of))

  pub loads_sought : (value : Option Range) → Answers q least (Load to) value → Answers q least (Load index) (not_below index index value)
  loads_sought value a =
      alike q least (Load to) (Load index) (not_below index index) value
      (λ k map. ap (λ (n : ℕ). not_below index index (answer (moment_seen q k).ranges (Load n))) there ∙ maps.load_sought kind (moment_seen q k).ranges index map) a

  finds_sought : (p₂ : Pass) (value : Option Range) → IsPassOf t p₂ → Answers q least (Find to (greatest_of (part_of p₂).shape.kind)) value
      → Answers q least (Find index (greatest_of (part_of p₀).shape.kind)) (not_below index index value)
  finds_sought p₂ value of₂ a =
      let top₂ : greatest_of (part_of p₂).shape.kind ≡ greatest_of kind = ap greatest_of (kind_is t p₂ of₂ ∙ sym (kind_is t p of)) in
      alike q least (Find to (greatest_of (part_of p₂).shape.kind)) (Find index (greatest_of (part_of p₀).shape.kind)) (not_below index index) value
      (λ k map. (λ i. not_below index index (answer (moment_seen q k).ranges (Find (there i) (top₂ i))))
      ∙ (maps.find_sought kind (moment_seen q k).ranges index map ∙ ap (λ (n : ℕ). answer (moment_seen q k).ranges (Find index n)) (sym top_is))) a

  pub nexts_sought : (o : Option (Option Range)) → IfSome o (Answers q least (Next to (greatest_of (part_of p₀).shape.kind))) → IfSome o (Answers q least (Next index (greatest_of (part_of p₀).shape.kind)))
  nexts_sought o a =
      alike_some q least (Next to (greatest_of (part_of p₀).shape.kind)) (Next index (greatest_of (part_of p₀).shape.kind)) o
      (λ k map. (λ i. answer (moment_seen q k).ranges (Next (there i) (top_is i)))
      ∙ (maps.next_sought kind (moment_seen q k).ranges index map ∙ ap (λ (n : ℕ). answer (moment_seen q k).ranges (Next index n)) (sym top_is))) a

  pub rfinds_sought : (o : Option (Option Range)) → IfSome o (Answers q least (Rfind to 0)) → IfSome o (Answers q least (Rfind index 0))
  rfinds_sought o a =
      alike_some q least (Rfind to 0) (Rfind index 0) o
      (λ k map. ap (λ (n : ℕ). answer (moment_seen q k).ranges (Rfind n 0)) there ∙ maps.rfind_sought kind (moment_seen q k).ranges index map) a

-- what a leaf that was searched after a walk answers
pub found_sought : (t : Identity) (p p₀ p₂ : Pass) (q₁ : PassPart) (index to : ℕ) (value : Option Range) → IsPassOf t p → IsPassOf t p₀ → IsPassOf t p₂ → to ≡ sought t.shape.kind index → SeesMore q₁ (part_of p₂)
    → length (part_of p₀).seen ≤ (here q₁).since → Answers (part_of p) (here (part_of p₂)).since (Find to (greatest_of (part_of p₂).shape.kind)) value
    → Answers (part_of p) (length (part_of p₀).seen) (Find index (greatest_of (part_of p₀).shape.kind)) (not_below index index value)
found_sought t p p₀ p₂ q₁ index to value of before of₂ is sees since answered =
    let later : length (part_of p₀).seen ≤ (here (part_of p₂)).since = subst (λ (x : Held). length (part_of p₀).seen ≤ x.since) (sym (here_more q₁ (part_of p₂) sees)) since in
    finds_sought t p p₀ of before (length (part_of p₀).seen) index to is p₂ value of₂
    (answers_from (part_of p) (here (part_of p₂)).since (length (part_of p₀).seen) (Find to (greatest_of (part_of p₂).shape.kind)) value later answered)

-- what begins at the greatest index or below ends below an index above that
pub prevs_above : (t : Identity) (p : Pass) (least index end : ℕ) (o : Option (Option Range)) → IsPassOf t p → end ≡ greatest_of t.shape.kind → end < index → IfSome o (Answers (part_of p) least (Rfind end 0)) → IfSome o (Answers (part_of p) least (Prev index 0))
prevs_above t p least index end o of is above a =
    let q = part_of p in
    let top = end_is t p end of is in
    let high : greatest_of q.shape.kind < index = omega arith in
    alike_some q least (Rfind end 0) (Prev index 0) o
    (λ k map. ap (λ (n : ℕ). answer (moment_seen q k).ranges (Rfind n 0)) top ∙ sym (prev_above q.shape.kind (moment_seen q k).ranges index 0 map high)) a
