-- What the end of the rows tells is all that is kept behind the lock.
use Rattle.mt_tree.proofs.Prelude.{◌≡◌, ℕ, ◌+◌, ◌*◌, ◌≤◌, false, List, Option, Some, None, length, refl, sym, ap, ◌∙◌, subst, arith, IfSome, length-map, Kind, Record, last_map, deepest, Parts, IsIdle, HasHeight, Book, Extent, sheet_told, told_of, unscanned, HasSeenAll, OpensSmall, one_if, map_by, Sheet, Told, PenPart, Shape, pen_joined, record_of, records_of, pen_sheet, tree_of, rooted_in, Identity, levelled, tree_if_lawful, parts_of, IsPenAtRest, IsReady, pass_of_told, records_told}
use Rattle.mt_base.specs.Passes as known
use Rattle.mt_rule.specs.Rule as rule
use Rattle.mt_tree.proofs.Reading.{take_all}
use Rattle.mt_tree.proofs.Lists.{some_same}

-- the rows were those of a pen with which this pass was joined
module _ (i : Identity) (p : PenPart) (q : known.Pass) (s : Sheet) (kind : Kind) (book : Book) (same : sheet_told i p q ≡ unscanned s) (idle : IsIdle kind s book) where
  kind_is : p.shape.kind ≡ kind
  kind_is = subst (λ (o : Option Kind). IfSome o (λ k. k ≡ kind)) (sym (ap (λ (x : Sheet). x.kind) same)) idle.state.told

  idle_again : IsIdle p.shape.kind (pen_sheet p) book
  idle_again = subst (λ (k : Kind). IsIdle k (pen_sheet p) book) (sym kind_is) (subst (λ (x : Sheet). IsIdle kind x book) (sym same) idle)

  pub parts_again : parts_of p book ≡ record { sheet = record (unscanned s) { told = None }; book = book; kind = kind }
  parts_again = λ k. record { sheet = record (same k) { told = None }; book = book; kind = kind_is k }

  pub knows_again : HasSeenAll p q → (told : Told) → s.told ≡ Some told → (q ≡ pass_of_told told) × (records_of p.history ≡ told.records)
  knows_again all told is =
      let here : told_of i p q ≡ told = some_same (told_of i p q) told (ap (λ (x : Sheet). x.told) same ∙ is) in
      let whole : q ≡ pass_of_told (told_of i p q) = (λ k. record {
        number = q.number;
        seen = all.seen k;
        mine = (all.mine ∙ ap (known.places q.number) all.seen) k;
        opened = q.opened;
        standing = q.standing;
        begun = q.begun;
        ended = (all.ended ∙ ap length all.seen) k;
      }) in
      (whole ∙ ap pass_of_told here, ap (λ (x : Told). x.records) here)

  module _ (extents : ℕ → Extent) (sound : rule.IsSoundPen extents p) (shape : p.shape ≡ i.shape) (opens : OpensSmall i.shape) (dealt : p.dealt ≡ i.shape.passes) where
    published : p.published ≡ false
    published = sound.history.calm idle_again.idle

    count : length p.history ≡ p.ended
    count = (let all = sound.history.count in omega (arith, all, ap one_if published))

    map_again : map_by (rooted_in p) ≡ last_map (tree_of p.shape p.history)
    map_again =
        let long : p.ended + one_if p.published ≡ length (records_of p.history) = sym (length-map p.history record_of ∙ sound.history.count) in
        sym sound.known.current ∙ ap (λ (rs : List Record). last_map (record (tree_of p.shape p.history) { records = rs })) (take_all (records_of p.history) (p.ended + one_if p.published) long)

    pub kept_again : (height : ℕ) → HasHeight s.tree height → length (records_told s.told) ≤ i.shape.calls → IsPenAtRest p (parts_of p book) height
    kept_again height high few = record {
      dealt = dealt ∙ sym (ap (λ (x : Shape). x.passes) shape);
      of = record {
        kind = refl;
        rows = refl;
        map = map_again;
        ended = sym count;
        opened = subst OpensSmall (sym shape) opens;
      };
      idle = idle_again;
      few = (let fits = subst (λ (x : Option Told). length (records_told x) ≤ i.shape.calls) (sym (ap (λ (x : Sheet). x.told) same)) few in
          omega (arith, fits, ap (λ (x : Shape). x.calls) shape, length-map p.history record_of));
      levels = subst (λ (x : Sheet). HasHeight x.tree height) (sym same) high;
    }

-- ---- behind the lock

pub kept_shown : (p : PenPart) (e : Parts) (height : ℕ) → IsPenAtRest p e height → IsPenAtRest (pen_joined p) e height
kept_shown p e height k = record { dealt = k.dealt; of = k.of; idle = k.idle; few = k.few; levels = k.levels }

pub few_levels : (p : PenPart) (e : Parts) (height : ℕ) → IsPenAtRest p e height → height ≤ deepest
few_levels p e height kept = (let low = (levelled e.sheet.tree e.kind (tree_if_lawful e.sheet.tree e.kind kept.idle.state.kept.lawful)).low in omega (arith, low, kept.levels))

pub ready_if : (p : PenPart) (e : Parts) (height free : ℕ) → IsPenAtRest p e height → free ≡ length e.book.free → (3 * height + 1 ≤ free → IsReady e) × (IsReady e → 3 * height + 1 ≤ free)
ready_if p e height free kept is = (
  λ low. omega (arith, low, is, kept.levels),
  λ ready. omega (arith, ready, is, kept.levels),
)
