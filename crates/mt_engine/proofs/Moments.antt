-- What holds of the rows and the book from the begin of a call on, and of a call whose rows were read before.
use Rattle.mt_engine.proofs.Prelude.{◌≡◌, ℕ, Bool, Option, Some, refl, sym, ap, ◌∙◌, subst, inl, inr, ⊎_elim, Call, Kind, Reply, IsMade, one_call_more, Shortage, Book, Tree, IsLawful, IsTree, IsLawfulOf, IsTreeOf, tree_as, map_by, finished, IsRealShortage, Rooted, Sheet, OnlyReads, begun, limits_of, IsIdle, IsInCall, IsCarriedOut, IsShortFor, IsEnded, DidOrLacked, IsApplied, EndsAnswered, OnlySearches, OnlySought, StoresExactly}

-- ---- the state

is_tree : (t : Tree) → IsLawful t → IsTree t
is_tree t (inl empty) = inl empty
is_tree t (inr (h, stands, parent, tended)) = inr (h, stands)

pub tree_if_lawful : (t : Rooted) (kind : Kind) → IsLawfulOf t kind → IsTreeOf t kind
tree_if_lawful t kind lawful = record { width = lawful.width; words = is_tree (tree_as kind t) lawful.words }

pub tree_in_call : (kind : Kind) (s : Sheet) (book : Book) → IsInCall kind s book → IsTreeOf s.tree kind
tree_in_call kind s book in_call = tree_if_lawful s.tree kind in_call.state.kept.lawful

pub in_call_begun : (kind : Kind) (s s' : Sheet) (book : Book) → s' ≡ begun s → IsIdle kind s book → IsInCall kind s' book
in_call_begun kind s s' book begins idle = subst (λ (x : Sheet). IsInCall kind x book) (sym begins) (record { in_flight = refl; before = refl; state = idle.state })

pub in_call_if_read : (kind : Kind) (s s' : Sheet) (book : Book) → OnlyReads s s' → IsInCall kind s book → IsInCall kind s' book
in_call_if_read kind s s' book reads in_call = subst (λ (x : Sheet). IsInCall kind x book) (sym reads) in_call

pub unscanned_if_read : (s s' : Sheet) → OnlyReads s s' → s.scans ≡ 0 → s'.scans ≡ 0
unscanned_if_read s s' reads none = ap (λ (x : Sheet). x.scans) reads ∙ none

pub idle_if_read : (kind : Kind) (s s' : Sheet) (book : Book) → OnlyReads s s' → IsIdle kind s book → IsIdle kind s' book
idle_if_read kind s s' book reads idle = subst (λ (x : Sheet). IsIdle kind x book) (sym reads) idle

-- ---- a call is told from its begin on

module _ (kind : Kind) (s s' : Sheet) (book book' : Book) (call : Call) (reply : Reply) (flies out : Bool) (scans : ℕ) (reads reads' : Option ℕ) where
  abbrev was : Sheet
  was = record s { in_flight = flies; published = out; scans = scans; reads = reads }

  abbrev later : Sheet
  later = record s' { reads = reads' }

  done_from : IsCarriedOut kind was s' book book' call reply → IsCarriedOut kind s later book book' call reply
  done_from done = record {
    acts = done.acts;
    kept = done.kept;
    room = λ wants. (let had = done.room wants in record { scanned = had.scanned; room = had.room });
    took = λ wants. (let took = done.took wants in record { taken = took.taken; free_were = took.free_were; few = took.few; none = took.none });
    calm = done.calm;
  }

  counted_from : (short : Shortage) → IsRealShortage s' short → IsRealShortage later short
  counted_from short is = record { need = is.need; live = is.live; rows = is.rows; many = is.many; apart = is.apart; held = is.held; by = is.by }

  short_from : IsShortFor kind was s' book book' call reply → IsShortFor kind s later book book' call reply
  short_from short = record { refused = short.refused; counted = counted_from short.refused.shortage short.counted; scanned = short.scanned; answer = short.answer; freed = short.freed; tells = short.tells }

  pub answer_from : DidOrLacked kind was s' book book' call reply → DidOrLacked kind s later book book' call reply
  answer_from answer =
      ⊎_elim
      (λ (done : IsCarriedOut kind was s' book book' call reply). inl (done_from done))
      (λ (short : IsShortFor kind was s' book book' call reply × (s'.tree ≡ s.tree)). inr (short_from short.0, short.1)) answer

  pub ended_from : IsEnded kind was s' book' call reply → IsEnded kind s later book' call reply
  ended_from is = record {
    idle = is.idle;
    ended = is.ended;
    record_told = is.record_told;
    cleared = is.cleared;
    rows = is.rows;
    opened = is.opened;
    shared = is.shared;
    known = is.known;
  }

-- where rows were only read before
pub answered_after_reads : (kind : Kind) (s s₁ s' : Sheet) (book book' : Book) (call : Call) (reply : Reply) → OnlyReads s s₁ → EndsAnswered kind s₁ s' book book' call reply → EndsAnswered kind s s' book book' call reply
answered_after_reads kind s s₁ s' book book' call reply reads answered = record {
  may = answered.may;
  ended =
      ended_from kind s (finished s' call reply) book book' call reply s.in_flight s.published s.scans s₁.reads s'.reads
      (subst (λ (x : Sheet). IsEnded kind x (finished s' call reply) book' call reply) reads answered.ended);
  scans = answered.scans;
  answer =
      answer_from kind s (finished s' call reply) book book' call reply s.in_flight s.published s.scans s₁.reads s'.reads
      (subst (λ (x : Sheet). DidOrLacked kind x (finished s' call reply) book book' call reply) reads answered.answer);
}

-- the end of a call
pub applied_by : (kind : Kind) (s s₁ s' s″ : Sheet) (book book' : Book) (call : Call) (reply : Reply) → s₁ ≡ begun s → EndsAnswered kind s₁ s' book book' call reply → (OnlySearches call reply → OnlySought s₁ s' book book') → StoresExactly s₁ s' book book' call reply → s″ ≡ finished s' call reply → IsApplied kind s s″ book book' call reply
applied_by kind s s₁ s' s″ book book' call reply begins answered search exact ends =
    subst (λ (x : Sheet). IsApplied kind s x book book' call reply) (sym ends) (record {
      ended =
          ended_from kind s (finished s' call reply) book book' call reply (begun s).in_flight (begun s).published (begun s).scans s.reads s'.reads
          (subst (λ (x : Sheet). IsEnded kind x (finished s' call reply) book' call reply) begins answered.ended);
      scans = answered.scans;
      answer =
          answer_from kind s (finished s' call reply) book book' call reply (begun s).in_flight (begun s).published (begun s).scans s.reads s'.reads
          (subst (λ (x : Sheet). DidOrLacked kind x (finished s' call reply) book book' call reply) begins answered.answer);
      search = λ only. (let sought = subst (λ (x : Sheet). OnlySought x s' book book') begins (search only) in record { tree = sought.tree; same_book = sought.same_book; reads = sought.reads });
      exact = subst (λ (x : Sheet). StoresExactly x s' book book' call reply) begins exact;
    })

-- ---- as a map of ranges tells it

pub made_by : (kind : Kind) (s s' : Sheet) (book book' : Book) (call : Call) (reply : Reply) → IsApplied kind s s' book book' call reply → IsMade kind (Some (limits_of s)) (map_by s.tree) call (map_by s'.tree) reply
made_by kind s s' book book' call reply applied =
    ⊎_elim
    (λ (done : IsCarriedOut kind s s' book book' call reply). inl done.acts)
    (λ (short : IsShortFor kind s s' book book' call reply × (s'.tree ≡ s.tree)). inr (short.0.refused, ap (λ (t : Rooted). map_by t) short.1)) applied.answer

pub limits_by : (kind : Kind) (s s' : Sheet) (book book' : Book) (call : Call) (reply : Reply) → IsApplied kind s s' book book' call reply → Some (limits_of s') ≡ one_call_more (Some (limits_of s))
limits_by kind s s' book book' call reply applied = λ i. Some (record { rows = applied.ended.rows i; opened = applied.ended.opened i; ended = applied.ended.ended i; may_hold = applied.ended.shared i })
