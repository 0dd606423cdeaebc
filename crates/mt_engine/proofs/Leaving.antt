-- A call that publishes nothing: it leaves the map, or is refused for want of rows.
use Rattle.mt_engine.proofs.Prelude.{◌≡◌, ℕ, ◌≤◌, Option, [], refl, sym, subst, inl, inr, arith, append-nil, ◌⊎◌, Call, Kind, Reply, NoNodes, Shortage, acted, Wants, IsRefused, Book, after_reclaim, Scan, Sheet, IsScan, limits_of, one_more, scanned, MayFinish, IsFoundShort, IsRealShortage, finished, map_by, with_record, IsEngineState, IsIdle, IsInCall, IsEnded, EndsAnswered, IsScanned, IsShortOf, IsDoneByStore}
use Rattle.mt_engine.proofs.Scanned.{was_scanned, first_scan}

-- the call's reply leaves the map
abbrev StaysBy : Kind → Sheet → Call → Reply → Type 0
StaysBy kind s call reply = acted kind (map_by s.tree) call ≡ (map_by s.tree, reply)

-- ---- rows that were read, or scanned

module _ (kind : Kind) (s : Sheet) (reads : Option ℕ) (scan : Scan) (scans cleared : ℕ) (next : Book) (call : Call) (reply : Reply) where
  abbrev seen : Sheet
  seen = record s { reads = reads; scan = scan; scans = scans; cleared = cleared }

  abbrev done : Sheet
  done = finished seen call reply

  module _ (is : IsInCall kind seen next) where
    ends_idle : IsIdle kind done next
    ends_idle =
        let state = is.state in
        let book = state.kept.booked in
        record {
          idle = refl;
          state = record {
            told = state.told;
            kept = record { lawful = state.kept.lawful; live = state.kept.live; none_buried = state.kept.none_buried; booked = record { sound = book.sound; rows = book.rows; out = book.out; reached = book.reached; spare = book.spare; stamps = λ k d within. (let below = book.stamps k d within in omega (arith, below)) } };
            held = state.held;
            grown = (let grown = state.grown in omega (arith, grown));
          };
        }

    may_end : StaysBy kind seen call reply ⊎ IsFoundShort kind seen call reply → MayFinish kind seen call reply
    may_end answer = record {
      in_flight = is.in_flight;
      kept = λ _. record { none_buried = is.state.kept.none_buried; told = is.state.told; width = is.state.kept.lawful.width; answer = answer };
    }

    record_is : done.told ≡ with_record s.told call reply
    record_is = rw is.before refl

    ends : s.cleared ≤ cleared → IsEnded kind s done next call reply
    ends rises = record { idle = ends_idle; ended = refl; record_told = record_is; cleared = rises; rows = refl; opened = refl; shared = refl; known = refl }

-- ---- the map stays

pub leaves : (kind : Kind) (s : Sheet) (book : Book) (call : Call) (reply : Reply) → IsInCall kind s book → s.scans ≡ 0 → StaysBy kind s call reply → (Wants kind (map_by s.tree) call → ⊥) → EndsAnswered kind s s book book call reply
leaves kind s book call reply is unscanned stays calm = record {
  may = may_end kind s s.reads s.scan s.scans s.cleared book call reply is (inl stays);
  ended = ends kind s s.reads s.scan s.scans s.cleared book call reply is (omega arith);
  scans = (let none = unscanned in omega arith);
  answer =
      inl (record {
        acts = stays;
        kept = λ _. refl;
        room = λ wants. absurd (calm wants);
        took = λ wants. absurd (calm wants);
        calm = λ _. (unscanned, refl, refl);
      });
}

-- the same of a store with rows at hand
pub stays_stored : (kind : Kind) (s : Sheet) (book : Book) (call : Call) (reply : Reply) → IsInCall kind s book → StaysBy kind s call reply → IsDoneByStore kind s s book book call reply
stays_stored kind s book call reply is stays = record {
  may = may_end kind s s.reads s.scan s.scans s.cleared book call reply is (inl stays);
  ended = ends kind s s.reads s.scan s.scans s.cleared book call reply is (omega arith);
  acts = stays;
  unscanned = record { scans = refl; scan = refl };
  took = record { taken = []; free_were = sym (append-nil book.free); few = omega arith; none = λ _. refl };
}

-- ---- a scan found too few free rows

counted_end : (s : Sheet) (call : Call) (reply : Reply) (shortage : Shortage) → IsRealShortage s shortage → IsRealShortage (finished s call reply) shortage
counted_end s call reply shortage c = record { need = c.need; live = c.live; rows = c.rows; many = c.many; apart = c.apart; held = c.held; by = c.by }

module _ (kind : Kind) (s : Sheet) (scan : Scan) (cleared : ℕ) (book next : Book) (call : Call) (shortage : Shortage) where
  abbrev after : Sheet
  after = scanned s scan cleared

  refuses_by : s.scans ≡ 0 → IsInCall kind s book → IsScan s.shared s.told scan → s.cleared ≤ cleared → next ≡ after_reclaim book scan.least → IsEngineState kind after next → IsShortOf after next shortage → Wants kind (map_by s.tree) call
      → EndsAnswered kind s after book next call (NoNodes shortage)
  refuses_by unscanned is answers rises freed state short wants = record {
    may = may_end kind s s.reads scan (one_more s.scans) cleared next call (NoNodes shortage) now (inr (record { refused = refused; counted = short.counted; scanned = was_scanned s scan cleared }));
    ended = ends kind s s.reads scan (one_more s.scans) cleared next call (NoNodes shortage) now rises;
    scans = first_scan s scan cleared unscanned;
    answer = inr (record { refused = refused; counted = counted_end after call (NoNodes shortage) shortage short.counted; scanned = was_scanned s scan cleared; answer = answers; freed = freed; tells = short.tells }, refl);
  }
    where
      now : IsInCall kind after next
      now = record { in_flight = is.in_flight; before = is.before; state = state }

      refused : IsRefused kind (limits_of s) (map_by s.tree) call (NoNodes shortage)
      refused = record { shortage = shortage; told = refl; wants = wants; short = short.short }

pub refuses : (kind : Kind) (s s' : Sheet) (book next : Book) (call : Call) (shortage : Shortage) → s.scans ≡ 0 → IsInCall kind s book → IsScanned kind s s' book next → IsShortOf s' next shortage → Wants kind (map_by s.tree) call
    → EndsAnswered kind s s' book next call (NoNodes shortage)
refuses kind s s' book next call shortage unscanned is found short wants =
    subst (λ (x : Sheet). EndsAnswered kind s x book next call (NoNodes shortage)) (sym found.rest)
    (refuses_by kind s s'.scan s'.cleared book next call shortage unscanned is found.answer found.rises found.freed (subst (λ (x : Sheet). IsEngineState kind x next) found.rest found.state) (subst (λ (x : Sheet). IsShortOf x next shortage) found.rest short) wants)
