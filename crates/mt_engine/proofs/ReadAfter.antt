-- A call in flight that has come to an end so far, after which words were only loaded.
use Rattle.mt_engine.proofs.Prelude.{◌≡◌, ℕ, Option, true, sym, ap, ◌∙◌, subst, inl, inr, ⊎_elim, Call, Store, Kind, Reply, Shortage, acted, is_exact_store, Book, MayFinish, IsRealShortage, IsFoundShort, map_by, finished, Rooted, Sheet, OnlyReads, begun, ChangesEntry, StoresExactly, IsCarriedOut, IsShortFor, IsEnded, DidOrLacked, EndsAnswered, is_refusal, HasHeight, SameHeight, IsMeasured, IsStoreOf, IsPrestored, IsDoneByStore, height_in, same_tree}
use Rattle.mt_engine.proofs.Moments.{ended_from, answer_from}

-- ---- read at the end

module _ (kind : Kind) (s s' : Sheet) (reads : Option ℕ) (book book' : Book) (call : Call) (reply : Reply) where
  abbrev read : Sheet
  read = record s' { reads = reads }

  counted_read : (short : Shortage) → IsRealShortage s' short → IsRealShortage read short
  counted_read short is = record { need = is.need; live = is.live; rows = is.rows; many = is.many; apart = is.apart; held = is.held; by = is.by }

  short_read : IsFoundShort kind s' call reply → IsFoundShort kind read call reply
  short_read is = record { refused = is.refused; counted = counted_read is.refused.shortage is.counted; scanned = is.scanned }

  may_read : MayFinish kind s' call reply → MayFinish kind read call reply
  may_read may = record {
    in_flight = may.in_flight;
    kept = λ before.
        (let kept = may.kept before in
        record {
          none_buried = kept.none_buried;
          told = kept.told;
          width = kept.width;
          answer =
              ⊎_elim
              (λ (stays : acted kind (map_by s'.tree) call ≡ (map_by s'.tree, reply)). inl stays)
              (λ (short : IsFoundShort kind s' call reply). inr (short_read short)) kept.answer;
        });
  }

  ended_read : IsEnded kind s (finished s' call reply) book' call reply → IsEnded kind s (finished read call reply) book' call reply
  ended_read = ended_from kind s (finished s' call reply) book book' call reply s.in_flight s.published s.scans s.reads reads

  answer_read : DidOrLacked kind s (finished s' call reply) book book' call reply → DidOrLacked kind s (finished read call reply) book book' call reply
  answer_read = answer_from kind s (finished s' call reply) book book' call reply s.in_flight s.published s.scans s.reads reads

  answered_read : EndsAnswered kind s s' book book' call reply → EndsAnswered kind s read book book' call reply
  answered_read is = record { may = may_read is.may; ended = ended_read is.ended; scans = is.scans; answer = answer_read is.answer }

  stored_read : IsDoneByStore kind s s' book book' call reply → IsDoneByStore kind s read book book' call reply
  stored_read is = record {
    may = may_read is.may;
    ended = ended_read is.ended;
    acts = is.acts;
    unscanned = record { scans = is.unscanned.scans; scan = is.unscanned.scan };
    took = is.took;
  }

pub answered_before_reads : (kind : Kind) (s s' s″ : Sheet) (book book' : Book) (call : Call) (reply : Reply) → OnlyReads s' s″ → EndsAnswered kind s s' book book' call reply → EndsAnswered kind s s″ book book' call reply
answered_before_reads kind s s' s″ book book' call reply reads is = subst (λ (x : Sheet). EndsAnswered kind s x book book' call reply) (sym reads) (answered_read kind s s' s″.reads book book' call reply is)

pub stored_before_reads : (kind : Kind) (s s' s″ : Sheet) (book book' : Book) (call : Call) (reply : Reply) → OnlyReads s' s″ → IsDoneByStore kind s s' book book' call reply → IsDoneByStore kind s s″ book book' call reply
stored_before_reads kind s s' s″ book book' call reply reads is = subst (λ (x : Sheet). IsDoneByStore kind s x book book' call reply) (sym reads) (stored_read kind s s' s″.reads book book' call reply is)

-- a call that is refused leaves the words
pub refusal_stays : (kind : Kind) (s s' : Sheet) (book book' : Book) (call : Call) (reply : Reply) → is_refusal reply ≡ true → DidOrLacked kind s (finished s' call reply) book book' call reply → s'.tree ≡ s.tree
refusal_stays kind s s' book book' call reply refused answer =
    ⊎_elim
    (λ (done : IsCarriedOut kind s (finished s' call reply) book book' call reply). done.kept refused)
    (λ (short : IsShortFor kind s (finished s' call reply) book book' call reply × (s'.tree ≡ s.tree)). short.1) answer

-- ---- read at the begin

module _ (kind : Kind) (s s' : Sheet) (reads : Option ℕ) (book book' : Book) (call : Call) (reply : Reply) where
  abbrev was : Sheet
  was = record s { reads = reads }

  stored_was : IsDoneByStore kind was s' book book' call reply → IsDoneByStore kind s s' book book' call reply
  stored_was is = record {
    may = is.may;
    ended = ended_from kind s (finished s' call reply) book book' call reply s.in_flight s.published s.scans reads s'.reads is.ended;
    acts = is.acts;
    unscanned = record { scans = is.unscanned.scans; scan = is.unscanned.scan };
    took = record { taken = is.took.taken; free_were = is.took.free_were; few = is.took.few; none = is.took.none };
  }

pub stored_after_reads : (kind : Kind) (s s₁ s' : Sheet) (book book' : Book) (call : Call) (reply : Reply) → OnlyReads s s₁ → IsDoneByStore kind s₁ s' book book' call reply → IsDoneByStore kind s s' book book' call reply
stored_after_reads kind s s₁ s' book book' call reply reads is = stored_was kind s s' s₁.reads book book' call reply (subst (λ (x : Sheet). IsDoneByStore kind x s' book book' call reply) reads is)

-- ---- a store over just one range, which is the plan's

pub stores_exactly : (s s₁ s₂ s' : Sheet) (book book' : Book) (call : Call) (reply : Reply) (first last entry : ℕ) → OnlyReads s s₁ → OnlyReads s₂ s' → IsStoreOf (map_by s.tree) call first last entry
    → (call ≡ Store first last entry → is_exact_store (map_by s₁.tree) first last entry ≡ true → ChangesEntry s₁.tree s₂.tree s₁.lives s₂.lives book book' first entry) → StoresExactly s s' book book' call reply
stores_exactly s s₁ s₂ s' book book' call reply first last entry before after own changes f l e is exact success =
    let same : (f ≡ first) × (l ≡ last) × (e ≡ entry) = subst (λ (c : Call). IsStoreOf (map_by s.tree) c first last entry) is own in
    let planned : call ≡ Store first last entry = is ∙ (λ i. Store (same.0 i) (same.1 i) (same.2 i)) in
    let over : is_exact_store (map_by s.tree) first last entry ≡ true = (λ i. is_exact_store (map_by s.tree) (sym same.0 i) (sym same.1 i) (sym same.2 i)) ∙ exact in
    let there = changes planned (subst (λ (x : Sheet). is_exact_store (map_by x.tree) first last entry ≡ true) (sym before) over) in
    let here = subst (λ (x : Sheet). ChangesEntry x.tree s₂.tree x.lives s₂.lives book book' first entry) before there in
    subst (λ (p : ℕ × ℕ). ChangesEntry s.tree s'.tree s.lives s'.lives book book' p.0 p.1) (λ i. (sym same.0 i, sym same.2 i))
    (subst (λ (x : Sheet). ChangesEntry s.tree x.tree s.lives x.lives book book' first entry) (sym after) here)

-- ---- from the begin of a call to its end

module _ (kind : Kind) (s s' : Sheet) (book book' : Book) (call : Call) (reply : Reply) where
  prestored_from : IsDoneByStore kind (begun s) s' book book' call reply → (is_refusal reply ≡ true → s'.tree ≡ s.tree) → IsPrestored kind s (finished s' call reply) book book' call reply
  prestored_from is kept = record {
    ended = ended_from kind s (finished s' call reply) book book' call reply (begun s).in_flight (begun s).published (begun s).scans s.reads s'.reads is.ended;
    acts = is.acts;
    kept = kept;
    scans = is.unscanned.scans;
    scan = is.unscanned.scan;
    took = record { taken = is.took.taken; free_were = is.took.free_were; few = is.took.few; none = is.took.none };
  }

pub prestored_by : (kind : Kind) (s s₁ s' s″ : Sheet) (book book' : Book) (call : Call) (reply : Reply) → s₁ ≡ begun s → IsDoneByStore kind s₁ s' book book' call reply → (is_refusal reply ≡ true → s'.tree ≡ s₁.tree) → s″ ≡ finished s' call reply → IsPrestored kind s s″ book book' call reply
prestored_by kind s s₁ s' s″ book book' call reply begins is kept ends =
    subst (λ (x : Sheet). IsPrestored kind s x book book' call reply) (sym ends)
    (prestored_from kind s s' book book' call reply (subst (λ (x : Sheet). IsDoneByStore kind x s' book book' call reply) begins is) (λ refused. kept refused ∙ ap (λ (x : Sheet). x.tree) begins))

-- the height at the end of a call
pub measured_end : (kind : Kind) (s s' s″ : Sheet) (book' : Book) (call : Call) (reply : Reply) (height : ℕ) → IsEnded kind s s″ book' call reply → HasHeight s'.tree height → s″ ≡ finished s' call reply → IsMeasured kind s″ book' height
measured_end kind s s' s″ book' call reply height ended has ends = record { idle = ended.idle; measured = subst (λ (t : Rooted). HasHeight t height) (sym (ap (λ (x : Sheet). x.tree) ends)) has }

-- ---- the height

-- a tree that is read, and then stored in with as many levels, has as many as before
pub high_then : (s s₁ s₂ : Sheet) (height : ℕ) → HasHeight s.tree height → OnlyReads s s₁ → SameHeight s₁.tree s₂.tree → HasHeight s₂.tree height
high_then s s₁ s₂ height high reads same = high ∙ (sym (ap (λ (t : Rooted). height_in t.table t.root) (same_tree s s₁ reads)) ∙ sym same)
