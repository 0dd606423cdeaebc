-- The reads of a run: their numbers are chosen as its order says, and where they are the first that do, they are the least of
-- all runs whose reads are alike.
use Rattle.mt_verify.proofs.Prelude.{◌≡◌, ℕ, ◌+◌, ◌<◌, ◌≤◌, true, List, Some, length, get_or, slice_get, refl, sym, ap, ◌∙◌, subst, inl, inr, arith, All, AllPairs, slice_get_within, slice_get_cases, get_or_from_slice_get, same_Some, History, Log, Transcript, Outcome, Called, Looked, Counted, Step, IsRunBy, InOrder, StandsIn, IsTrueOf, Follows, is_read, shown, AreChosen, AreFirst, lo_of, hi_of, read_number, at_place, TellsAt, IsTrueAt, KnowsAt, AreAlike}
use Rattle.mt_verify.proofs.Greedy.{least}

-- ---- a fact of all items, at one of them

pub all_at : {X : Type 0} (P : X → Type 0) (xs : List X) (i : ℕ) (x : X) → All P xs → slice_get xs i ≡ Some x → P x
all_at P xs i x all is = subst P (get_or_from_slice_get xs i x x is) (all i x (slice_get_within xs i x is))

pub pairs_at : {X : Type 0} (R : X → X → Type 0) (xs : List X) (i j : ℕ) (x y : X) → AllPairs R xs → i < j → slice_get xs i ≡ Some x → slice_get xs j ≡ Some y → R x y
pairs_at R xs i j x y pairs before is at =
    let within : j < length xs = slice_get_within xs j y at in
    let one : get_or xs i x ≡ x = get_or_from_slice_get xs i x x is in
    let two : get_or xs j x ≡ y = get_or_from_slice_get xs j y x at in
    subst (R x) two (subst (λ z. R z (get_or xs j x)) one (pairs i j x before within))

pub some_at : {X : Type 0} (xs : List X) (i : ℕ) → i < length xs → (x : X) × (slice_get xs i ≡ Some x)
some_at xs i within = elim (slice_get_cases xs i).1 [
  | inl found ↦ (found.0, found.2)
  | inr past ↦ absurd (omega (arith, past.0))
]

-- what stands at a place
pub placed : (f : Outcome → ℕ) (steps : List Step) (i : ℕ) (s : Step) → slice_get steps i ≡ Some s → at_place f steps i ≡ f s.outcome
placed f steps i s is = rw is refl

-- ---- one read

pub from_of : (h : History) (before : ℕ) (o : Outcome) → IsTrueOf h before o → lo_of o ≤ read_number o
from_of h before (Called number call reply) is = omega arith
from_of h before (Looked lo hi k query value) is = is.0.from
from_of h before (Counted said ranges) is = omega arith

to_of : (h : History) (before : ℕ) (o : Outcome) → IsTrueOf h before o → read_number o ≤ hi_of o
to_of h before (Called number call reply) is = omega arith
to_of h before (Looked lo hi k query value) is = is.0.to
to_of h before (Counted said ranges) is = omega arith

tells_of : (h : History) (before : ℕ) (o : Outcome) → IsTrueOf h before o → TellsAt h (read_number o) o
tells_of h before (Called number call reply) is = tt
tells_of h before (Looked lo hi k query value) is = (is.0.made, ap (shown query) (sym is.0.answered))
tells_of h before (Counted said ranges) is = tt

-- two reads of which the later knows of the earlier
rise_of : (o p : Outcome) → is_read o ≡ true → is_read p ≡ true → Follows o p → read_number o ≤ read_number p
rise_of (Called number call reply) p read read' follows = absurd (cc)
rise_of (Counted said ranges) p read read' follows = absurd (cc)
rise_of (Looked lo hi k query value) (Called number call reply) read read' follows = absurd (cc)
rise_of (Looked lo hi k query value) (Counted said ranges) read read' follows = absurd (cc)
rise_of (Looked lo hi k query value) (Looked lo' hi' k' query' value') read read' follows = follows.0

floor_of : (o p : Outcome) → is_read o ≡ true → is_read p ≡ true → Follows o p → read_number o ≤ lo_of p + 1
floor_of (Called number call reply) p read read' follows = absurd (cc)
floor_of (Counted said ranges) p read read' follows = absurd (cc)
floor_of (Looked lo hi k query value) (Called number call reply) read read' follows = absurd (cc)
floor_of (Looked lo hi k query value) (Counted said ranges) read read' follows = absurd (cc)
floor_of (Looked lo hi k query value) (Looked lo' hi' k' query' value') read read' follows = follows.2

-- ---- all reads

module _ (log : Log) (rows : ℕ) (t : Transcript) (steps : List Step) (trees : List History) (run : IsRunBy log rows t steps trees) where
  stands : (i : ℕ) (s : Step) → slice_get steps i ≡ Some s → StandsIn steps trees s
  stands i s is = all_at (StandsIn steps trees) steps i s run.reads is

  -- the later of two reads at places keeps to what it knows of the earlier
  follows : (j i : ℕ) → j < i → (known : KnowsAt steps i j) → Follows known.earlier.outcome known.later.outcome
  follows j i before known = pairs_at InOrder steps j i known.earlier known.later run.order before known.before known.at known.tree known.knows

  -- the number of the earlier of them, and what is read off the later
  placed_both : (f : Outcome → ℕ) (j i : ℕ) (known : KnowsAt steps i j) → (at_place read_number steps j ≡ read_number known.earlier.outcome) × (at_place f steps i ≡ f known.later.outcome)
  placed_both f j i known = (placed read_number steps j known.earlier known.before, placed f steps i known.later known.at)

  pub chosen : AreChosen (length steps) (at_place lo_of steps) (at_place hi_of steps) (IsTrueAt steps trees) (KnowsAt steps) (at_place read_number steps)
  chosen = record {
    from = λ i within. let s = some_at steps i within in let h = stands i s.0 s.1 in
        omega (arith, placed lo_of steps i s.0 s.1, placed read_number steps i s.0 s.1, from_of h.0 _ s.0.outcome h.2);
    to = λ i within. let s = some_at steps i within in let h = stands i s.0 s.1 in
        omega (arith, placed hi_of steps i s.0 s.1, placed read_number steps i s.0 s.1, to_of h.0 _ s.0.outcome h.2);
    holds = λ i within s h is at.
        let g = stands i s is in
        let same : g.0 ≡ h = same_Some g.0 h (sym g.1 ∙ at) in
        subst (λ (n : ℕ). TellsAt h n s.outcome) (sym (placed read_number steps i s is)) (subst (λ (x : History). TellsAt x (read_number s.outcome) s.outcome) same (tells_of g.0 _ s.outcome g.2));
    rise = λ j i before within known. let both = placed_both read_number j i known in
        omega (arith, both.0, both.1, rise_of known.earlier.outcome known.later.outcome known.read_before known.reads (follows j i before known));
    floor = λ j i before within known. let both = placed_both lo_of j i known in
        omega (arith, both.0, both.1, floor_of known.earlier.outcome known.later.outcome known.read_before known.reads (follows j i before known));
  }

-- ---- two runs whose reads are alike

module _ (log : Log) (rows : ℕ) (t' : Transcript) (steps steps' : List Step) (trees trees' : List History)
    (alike : AreAlike steps trees steps' trees') (run' : IsRunBy log rows t' steps' trees') where
  -- the numbers of the one are chosen for the other as well
  pub chosen_too : AreChosen (length steps) (at_place lo_of steps) (at_place hi_of steps) (IsTrueAt steps trees) (KnowsAt steps) (at_place read_number steps')
  chosen_too =
      let c = chosen log rows t' steps' trees' run' in
      record {
        from = λ i within. omega (arith, alike.lo i, c.from i (omega (arith, alike.count)));
        to = λ i within. omega (arith, alike.hi i, c.to i (omega (arith, alike.count)));
        holds = λ i within. alike.truth i (at_place read_number steps' i) (c.holds i (omega (arith, alike.count)));
        rise = λ j i before within known. c.rise j i before (omega (arith, alike.count)) (alike.knows i j known);
        floor = λ j i before within known. omega (arith, alike.lo i, c.floor j i before (omega (arith, alike.count)) (alike.knows i j known));
      }

  -- the first numbers are the least
  pub first_is_least : AreFirst (length steps) (at_place lo_of steps) (IsTrueAt steps trees) (KnowsAt steps) (λ i. true) (at_place read_number steps) → (i : ℕ) → i < length steps → at_place read_number steps i ≤ at_place read_number steps' i
  first_is_least first i within =
      least (length steps) (at_place lo_of steps) (at_place hi_of steps) (IsTrueAt steps trees) (KnowsAt steps) (λ i. true) (at_place read_number steps) (at_place read_number steps')
      (λ j i before within known is. refl) first chosen_too i within refl
