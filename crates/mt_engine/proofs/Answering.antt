-- What a call has come to by a store, at once or after a scan, and by the end of all ranges.
use Rattle.mt_engine.proofs.Prelude.{◌≡◌, ◌≢◌, ℕ, ◌+◌, ◌*◌, ◌≤◌, ◌++◌, List, [], Bool, true, false, length, refl, sym, ap, ◌∙◌, subst, inl, arith, append-nil, Call, Clear, Kind, Reply, acted, Wants, greatest, Width, Book, after_reclaim, Place, Root, Scan, height_in, Sheet, OnlyReads, scanned, PathStep, path_in, IsTreeOf, WasScanned, map_by, finished, MayClear, WasPublishedAt, IsSpliced, IsInCall, EndsAnswered, IsEnded, Replaces, is_refusal, MayMendAt, WasWay, IsMendedAt, IsScanned, HasRoom, IsDoneByStore}
use Rattle.mt_base.specs.declared.replies.Reply.TheVariants as reply
use Rattle.mt_engine.proofs.AfterSplice.{replaced, stored_by}
use Rattle.mt_engine.proofs.Moments.{in_call_if_read, unscanned_if_read, answered_after_reads}
use Rattle.mt_engine.proofs.Scanned.{was_scanned, first_scan}

pub not_both : (b : Bool) → b ≡ true → b ≡ false → ⊥
not_both b is not = absurd (cc)

-- ---- a store at once

pub at_once : (kind : Kind) (s s' : Sheet) (book book' : Book) (call : Call) (reply : Reply) → s.scans ≡ 0 → is_refusal reply ≡ false → (Wants kind (map_by s.tree) call → ⊥) → (Replaces kind (map_by s.tree) call → ⊥) → IsDoneByStore kind s s' book book' call reply → EndsAnswered kind s s' book book' call reply
at_once kind s s' book book' call reply unscanned success calm none stored = record {
  may = stored.may;
  ended = stored.ended;
  scans = (let same = stored.unscanned.scans in omega arith);
  answer =
      inl (record {
        acts = stored.acts;
        kept = λ refused. absurd (not_both (is_refusal reply) refused success);
        room = λ wants. absurd (calm wants);
        took = λ wants. absurd (calm wants);
        calm = λ _. (stored.unscanned.scans ∙ unscanned, stored.unscanned.scan, sym (stored.took.free_were ∙ (ap (λ (l : List ℕ). book'.free ++ l) (stored.took.none none) ∙ append-nil book'.free)));
      });
}

-- ---- a store after a scan that found room

module _ (kind : Kind) (s : Sheet) (answer : Scan) (cleared : ℕ) (s' : Sheet) (book freed book' : Book) (call : Call) (reply : Reply) where
  abbrev found : Sheet
  found = scanned s answer cleared

  abbrev done : Sheet
  done = finished s' call reply

  ended_then : s.cleared ≤ cleared → IsDoneByStore kind found s' freed book' call reply → IsEnded kind s done book' call reply
  ended_then rises stored =
      let is = stored.ended in
      record { idle = is.idle; ended = is.ended; record_told = is.record_told; cleared = (let more = is.cleared in omega arith); rows = is.rows; opened = is.opened; shared = is.shared; known = is.known }

  was_scanned_then : IsDoneByStore kind found s' freed book' call reply → WasScanned done
  was_scanned_then stored = subst (λ (n : ℕ). 1 ≤ n) (sym stored.unscanned.scans) (was_scanned s answer cleared)

  least_is : IsDoneByStore kind found s' freed book' call reply → freed ≡ after_reclaim book answer.least → after_reclaim book done.scan.least ≡ freed
  least_is stored is = ap (λ (a : Scan). after_reclaim book a.least) stored.unscanned.scan ∙ sym is

  after_scan_by : s.scans ≡ 0 → s.cleared ≤ cleared → freed ≡ after_reclaim book answer.least → HasRoom s.tree freed → Wants kind (map_by s.tree) call → is_refusal reply ≡ false → IsDoneByStore kind found s' freed book' call reply → EndsAnswered kind s s' book book' call reply
  after_scan_by unscanned rises is room wants success stored = record {
    may = stored.may;
    ended = ended_then rises stored;
    scans = subst (λ (n : ℕ). n ≤ 1) (sym stored.unscanned.scans) (first_scan s answer cleared unscanned);
    answer =
        inl (record {
          acts = stored.acts;
          kept = λ refused. absurd (not_both (is_refusal reply) refused success);
          room = λ _. record { scanned = was_scanned_then stored; room = subst (λ (b : Book). 3 * height_in s.tree.table s.tree.root + 1 ≤ length b.free) (sym (least_is stored is)) room };
          took = λ _.
              (let took = stored.took in
              record { taken = took.taken; free_were = ap (λ (b : Book). b.free) (least_is stored is) ∙ took.free_were; few = took.few; none = took.none });
          calm = λ calm. absurd (calm wants);
        });
  }

pub after_scan : (kind : Kind) (s s₂ s' : Sheet) (book book₂ book' : Book) (call : Call) (reply : Reply) → s.scans ≡ 0 → IsScanned kind s s₂ book book₂ → HasRoom s₂.tree book₂ → Wants kind (map_by s.tree) call → is_refusal reply ≡ false → IsDoneByStore kind s₂ s' book₂ book' call reply → EndsAnswered kind s s' book book' call reply
after_scan kind s s₂ s' book book₂ book' call reply unscanned is room wants success stored =
    after_scan_by kind s s₂.scan s₂.cleared s' book book₂ book' call reply unscanned is.rises is.freed (subst (λ (x : Sheet). HasRoom x.tree book₂) is.rest room) wants success
    (subst (λ (x : Sheet). IsDoneByStore kind x s' book₂ book' call reply) is.rest stored)

-- ---- by new rows

-- the gap words may be mended on the way to the first index
pub may_mend : (kind : Kind) (s s₁ : Sheet) (book book' : Book) (number : ℕ) (call : Call) (reply : Reply) (place : Place) (first last : ℕ) → IsInCall kind s book → first ≤ last → last ≤ greatest s.tree.table.width → IsSpliced kind s s₁ book book' number call reply place first last → MayMendAt kind s₁ first
may_mend kind s s₁ book book' number call reply place first last in_call order within spliced = record {
  within = (let most : last ≤ greatest s₁.tree.table.width = subst (λ (w : Width). last ≤ greatest w) (in_call.state.kept.lawful.width ∙ sym spliced.tree.width) within in omega arith);
  tree = spliced.tree;
  parents = spliced.parents;
  is_new = _;
  gaps = spliced.gaps first (omega arith) order;
  live = spliced.live;
  none_buried = spliced.none_buried;
}

-- the path to it was one before
pub was_way : (kind : Kind) (s s₁ : Sheet) (book book' : Book) (number : ℕ) (call : Call) (reply : Reply) (place : Place) (first last : ℕ) (path : List PathStep) → IsTreeOf s.tree kind → path ≡ path_in s.tree.table s.tree.root first
    → IsSpliced kind s s₁ book book' number call reply place first last → WasWay kind s.tree s₁.tree place path first
was_way kind s s₁ book book' number call reply place first last path tree way spliced = record {
  tree = tree;
  rows = spliced.rows;
  way = way;
  root = λ row col at. (subst (WasPublishedAt s s₁) at spliced.published).0;
  kept = λ row col reached some inside other. spliced.kept row col (λ _. reached) some inside other;
}

replaced_then : (kind : Kind) (s s₁ s₂ : Sheet) (book book' : Book) (number : ℕ) (call : Call) (reply : Reply) (place : Place) (first last : ℕ) → IsSpliced kind s s₁ book book' number call reply place first last → IsMendedAt kind s₁ s₂ → s₂ ≡ replaced s s₂.tree s₁.lives s₁.buried s₂.reads call reply
replaced_then kind s s₁ s₂ book book' number call reply place first last spliced mended =
    let words = mended.rest in
    let as_tree : s₂ ≡ record s₁ { tree = s₂.tree; reads = s₂.reads } = words ∙ (λ i. record s₁ { tree = sym (ap (λ (x : Sheet). x.tree) words) i; reads = s₂.reads }) in
    as_tree ∙ ap (λ (x : Sheet). record x { tree = s₂.tree; reads = s₂.reads }) spliced.rest

pub rows_stored : (kind : Kind) (s s₁ s₂ : Sheet) (book book' : Book) (number : ℕ) (call : Call) (reply : Reply) (place : Place) (first last : ℕ) → IsInCall kind s book → number ≡ s.ended + 1 → Replaces kind (map_by s.tree) call → (acted kind (map_by s.tree) call).1 ≡ reply
    → IsSpliced kind s s₁ book book' number call reply place first last → IsMendedAt kind s₁ s₂ → IsDoneByStore kind s s₂ book book' call reply
rows_stored kind s s₁ s₂ book book' number call reply place first last in_call is replaces replies spliced mended =
    stored_by kind s s₁ book book' call reply place in_call.state (subst (λ (n : ℕ). IsSpliced kind s s₁ book book' n call reply place first last) is spliced) s₂ (replaced_then kind s s₁ s₂ book book' number call reply place first last spliced mended) mended.lawful
    (ap (λ (x : Sheet). x.tree.rows) mended.rest) mended.reached in_call.in_flight mended.map replies
    (record { taken = spliced.moved.taken; free_were = spliced.moved.free; few = spliced.moved.few; none = λ not. absurd (not replaces) })

-- ---- by the end of all ranges

clears : (kind : Kind) (s s' : Sheet) (book book' : Book) {first last : ℕ} → IsInCall kind s book → s.scans ≡ 0 → IsSpliced kind s s' book book' (s.ended + 1) Clear reply.Ok Root first last → book'.free ≡ book.free → s'.tree.root ≡ 0 → EndsAnswered kind s s' book book' Clear reply.Ok
clears kind s s' book book' in_call unscanned spliced none_taken empty =
    at_once kind s s' book book' Clear reply.Ok unscanned refl (λ wants. wants) (λ replaces. replaces)
    (stored_by kind s s' book book' Clear reply.Ok Root in_call.state spliced s' spliced.rest (record { width = spliced.tree.width; words = inl empty }) refl (λ row. refl) in_call.in_flight refl refl
    (record { taken = []; free_were = sym none_taken ∙ sym (append-nil book'.free); few = omega arith; none = λ _. refl }))

-- ---- after the plan was made

may_clear_in : (kind : Kind) (s : Sheet) (book : Book) → IsInCall kind s book → s.tree.root ≢ 0 → MayClear kind s book (s.ended + 1) Clear reply.Ok
may_clear_in kind s book in_call some = record {
  told = in_call.state.told;
  kept = in_call.state.kept;
  unpublished = record { in_flight = in_call.in_flight; before = in_call.before; numbered = refl };
  some = some;
  answer = refl;
}

module _ (kind : Kind) (s s₁ : Sheet) (book : Book) (number : ℕ) (call : Call) (in_call : IsInCall kind s book) (reads : OnlyReads s s₁) (is : number ≡ s.ended + 1) (plan : (call ≡ Clear) × (s.tree.root ≢ 0)) where
  now : IsInCall kind s₁ book
  now = in_call_if_read kind s s₁ book reads in_call

  number_now : number ≡ s₁.ended + 1
  number_now = is ∙ ap (λ (x : Sheet). x.ended + 1) (sym reads)

  some : s₁.tree.root ≢ 0
  some = subst (λ (x : Sheet). x.tree.root ≢ 0) (sym reads) plan.1

  pub may_clear_now : MayClear kind s₁ book number call reply.Ok
  may_clear_now = subst (λ (c : Call). MayClear kind s₁ book number c reply.Ok) (sym plan.0) (subst (λ (n : ℕ). MayClear kind s₁ book n Clear reply.Ok) (sym number_now) (may_clear_in kind s₁ book now some))

  pub cleared_now : (s' : Sheet) (book' : Book) {first last : ℕ} → s.scans ≡ 0 → IsSpliced kind s₁ s' book book' number call reply.Ok Root first last → book'.free ≡ book.free → s'.tree.root ≡ 0 → EndsAnswered kind s s' book book' call reply.Ok
  cleared_now s' book' {first = first} {last = last} unscanned spliced none_taken empty =
      let as_clear : IsSpliced kind s₁ s' book book' number Clear reply.Ok Root first last = subst (λ (c : Call). IsSpliced kind s₁ s' book book' number c reply.Ok Root first last) plan.0 spliced in
      let numbered : IsSpliced kind s₁ s' book book' (s₁.ended + 1) Clear reply.Ok Root first last = subst (λ (n : ℕ). IsSpliced kind s₁ s' book book' n Clear reply.Ok Root first last) number_now as_clear in
      answered_after_reads kind s s₁ s' book book' call reply.Ok reads (subst (λ (c : Call). EndsAnswered kind s₁ s' book book' c reply.Ok) (sym plan.0) (clears kind s₁ s' book book' now (unscanned_if_read s s₁ reads unscanned) numbered none_taken empty))
