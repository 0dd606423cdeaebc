-- What begins behind an index, or before it, by the leaf that covers it.
use Rattle.mt_read.proofs.Prelude.{◌≡◌, ◌⊎◌, ℕ, ◌+◌, ◌≤◌, List, [], length, Option, Some, None, refl, sym, ap, ◌∙◌, subst, inl, inr, arith, IfSome, slice_get, Kind, Range, Query, Find, Next, answer, IsMap, greatest_of, Fills, Held, Snapshot, copy_of, spans_at, PassPart, LoadedParent, here, moment_seen, spans_here, SlotPlace, Answers, AnswersBy, GoesOn, IsPlaceIn}
use Rattle.mt_read.proofs.Keeping.{answers_later}
use Rattle.mt_read.proofs.NextAnswers.{next_is, none_behind}
use Rattle.mt_read.proofs.Reading.{answers_from, nothing_answers, nothing_found}
use Rattle.mt_read.proofs.Standing.{beside_there}

-- what is known of no fewer calls is known of fewer, where it is known at all
pub from_fewer : (o : Option (Option Range)) (q : PassPart) (least less : ℕ) (query : Query) → less ≤ least → IfSome o (Answers q least query) → IfSome o (Answers q less query)
from_fewer None q least less query le h = h
from_fewer (Some value) q least less query le h = answers_from q least less query value le h

-- of an empty map nothing is told
pub nothing_by : (q q' : PassPart) → GoesOn q q' → (moment_seen q' (length q'.seen)).ranges ≡ [] → (x : Held) (index : ℕ) → AnswersBy q' x (length q.seen) (Find index (greatest_of q.shape.kind)) None
nothing_by q q' goes empty x index = record { answers = nothing_answers q q' goes empty (Find index (greatest_of q.shape.kind)) (nothing_found index (greatest_of q.shape.kind)); stood = inl empty }

pub nexts_nothing : (q q' : PassPart) → GoesOn q q' → (moment_seen q' (length q'.seen)).ranges ≡ [] → (index : ℕ) → Answers q' (length q.seen) (Next index (greatest_of q.shape.kind)) None
nexts_nothing q q' goes empty index = nothing_answers q q' goes empty (Next index (greatest_of q.shape.kind)) refl

module _ (q q' : PassPart) (place : SlotPlace) (index : ℕ) (from : place.first ≤ index) (to : index ≤ place.last) (is : IsPlaceIn q place)
    (fills : Fills (here q).extent.first ((here q).extent.last + 1) (spans_here q (here q))) (same : q'.shape.kind ≡ q.shape.kind) where
  abbrev top : ℕ
  top = greatest_of q.shape.kind

  -- what begins behind the index is what ends behind its place
  pub crosses : (least : ℕ) (value : Option Range) (a : Answers q' least (Find (place.last + 1) top) value) → ((moment_seen q' a.k).ranges ≡ []) ⊎ Snapshot q'.shape.kind (here q) (moment_seen q' a.k) → Answers q' least (Next index top) value
  crosses least value a stood = record { k = a.k; low = a.low; high = a.high; map = a.map; is = by_moment stood }
    where
      by_moment : ((moment_seen q' a.k).ranges ≡ []) ⊎ Snapshot q'.shape.kind (here q) (moment_seen q' a.k) → value ≡ answer (moment_seen q' a.k).ranges (Next index top)
      by_moment (inl none) =
          a.is ∙ (ap (λ (m : List Range). answer m (Find (place.last + 1) top)) none ∙ (sym (nothing_found (place.last + 1) top) ∙ ap (λ (m : List Range). answer m (Next index top)) (sym none)))
      by_moment (inr s) =
          let at = subst (λ (k : Kind). slice_get (spans_at k (copy_of (here q)) (here q).row (here q).extent) place.slot ≡ Some (record { first = place.first; last = place.last; word = is.word })) (sym same) is.stands in
          let filled = subst (λ (k : Kind). Fills (here q).extent.first ((here q).extent.last + 1) (spans_at k (copy_of (here q)) (here q).row (here q).extent)) (sym same) fills in
          let each = beside_there q'.shape.kind (here q) (moment_seen q' a.k) s filled place.slot (record { first = place.first; last = place.last; word = is.word }) a.map at in
          a.is ∙ sym (next_is (moment_seen q' a.k).ranges (greatest_of q'.shape.kind) place.first place.last index top each from to)

  -- nothing begins behind a place that ends at the greatest index
  pub ends : (least k : ℕ) → least ≤ k → k ≤ length q'.seen → place.last ≡ top → IsMap q'.shape.kind (moment_seen q' k).ranges → Snapshot q'.shape.kind (here q) (moment_seen q' k) → Answers q' least (Next index top) None
  ends least k low high last map s =
      crosses least None (record {
        k = k;
        low = low;
        high = high;
        map = map;
        is = sym (ap (λ (n : ℕ). answer (moment_seen q' k).ranges (Find (n + 1) top)) (last ∙ ap greatest_of (sym same)) ∙ none_behind q'.shape.kind (moment_seen q' k).ranges top map);
      }) (inr s)

  pub crosses_beside : (o : Option (Option Range)) (least : ℕ) → IfSome o (AnswersBy q' (here q) least (Find (place.last + 1) top)) → IfSome o (Answers q' least (Next index top))
  crosses_beside None least h = tt
  crosses_beside (Some value) least h = crosses least value h.answers h.stood

-- the leaf x was not found marked after the leaf beside it was read: it stood at the moment of which that one answers
module _ (q q' : PassPart) (number word found : ℕ) (told : LoadedParent number word found q q') where
  pub beside_by : (x : Held) (least since : ℕ) → x.met ≤ least → least ≤ since → (query : Query) (value : Option Range) → Answers q since query value
      → ((k : ℕ) → x.met ≤ k → k ≤ length q'.seen → Snapshot q'.shape.kind x (moment_seen q' k)) → AnswersBy q' x least query value
  beside_by x least since met low query value a past =
      let later = answers_later q q' since query value (ap (λ (z : PassPart). z.shape) told.reads.is) told.reads.seen a in
      let more = later.low in
      record {
        answers = record { k = later.k; low = omega arith; high = later.high; map = later.map; is = later.is };
        stood = inr (past later.k (omega arith) later.high);
      }
