-- What a user of a shared tree does: which section stands open is no part of what a read says, and where a walk goes on.
use Rattle.mt_c.proofs.Prelude.{◌≡◌, ◌∙◌, ℕ, suc, get_or, List, [], ◌∷◌, ◌++◌, ◌<◌, ◌^◌, length, map, refl, sym, ap, subst, arith, Bool, true, false, true≢false, Option, Some, None, eqb-true, le-leb, length-map, map-append, length-map-range_with_len, slice_get-get_or, slice_get-map, ◌↔◌, ◌+◌, ◌≤◌, All, Ok, Err, Result, IfOk, IfErr, IfSome, IsSome, if◌then◌else◌, option_map, slice_get, Snapshot, Badge, Call, Query, Load, Range, History, Cursor, KeptLeaf, IsOnKeptLeaf, place_behind, place_within, find_at, WasLeftMarked, WasMoved, HasRead, Given, cuts_of, Sight, Busy, TurnView, part_of, turn_seat, Read, Tree, IsForNeighbour, unbounded, HaveMet, IsNew, IsPassOf, Pass, Takes, TriesOnce, limit_of, passes_of, pass_in, steps_made, opened, IsBusyOf, WasMade, HasWalked, IsWalkOf, Field, MakeError, Shape, first_bad, Common, Purse, User, Left, Walker, IsPurseBusy, IsChairAtPurse, RestsInPurse, WasGiven, WasGivenBack, first_in, no_receipts, IsSparePass, IsKeptWalk, last_index, HasLeft, IsFirstUser, IsOfPurse, IsSettledUser, IsSynced, IsWhy, common_of, cuts, known_to, user_tree, Answer, Continues, GaveUp, GoesFrom, WalkGoesOn, IsWalkAnswer, IsOnNoWalk, IsLeftBy, IsOnAt, IsReadBy, IsStep, IsTried, KnowsAs, Took, Tried, TriedOnce, WentOnce, closed_by, halted, walk_is_at, knows, new_walk, pausing, stands_at, TriedShut}
use Rattle.mt_base.specs.Passes as known
use Rattle.mt_keep.specs.declared.keep.Busy as away
use Rattle.mt_rule.specs.Turns as turns
use Rattle.mt_tree.specs.declared.shapes.MakeError.TheVariants as make_error
use Rattle.mt_c.specs.declared.user_acts.Settling.TheVariants as settling
use Rattle.mt_c.specs.declared.user_opens.Unchanged.TheVariants as unchanged

-- ---- steps without the lock, and tries for it

pub took_none : (w : Walker) (q : Pass) → q ≡ w.pass → Took 0 w q
took_none w q is = record { steps = (let same = ap steps_made is in omega (arith, same)); turn = ap turn_seat is }

pub took_one : (w : Walker) (walk : Cursor) (q : Pass) → w.walk ≡ Some walk → Takes 1 w.pass q → Took 0 w q
took_one w walk q on took = record { steps = (let one : pausing w.walk ≡ 1 = ap pausing on in let few = took.steps in omega (arith, one, few)); turn = took.turn }

pub took_more : (most : ℕ) (w v : Walker) (q : Pass) → Took 0 w v.pass → Takes most v.pass q → Took most w q
took_more most w v q before took = record { steps = (let a = before.steps in let b = took.steps in omega (arith, a, b)); turn = took.turn ∙ before.turn }

pub took_still : (most : ℕ) (w v v' : Walker) → v' ≡ v → Took most w v.pass → Took most w v'.pass
took_still most w v v' same took = subst (λ (x : Walker). Took most w x.pass) (sym same) took

-- what a try leaves of a seat
tried_seat : (p q : Pass) → turn_seat q ≡ turn_seat p → turn_seat (turns.tried q) ≡ turn_seat (turns.tried p)
tried_seat p q same = ap (λ (seat : Badge TurnView). record seat { views = map turns.counting seat.views }) same

pub tried_once : (w v w' : Walker) → Took 0 w v.pass → TriesOnce v.pass w'.pass → TriedOnce w w'
tried_once w v w' before tries = record { steps = (let a = before.steps in let b = tries.steps in omega (arith, a, b)); went = tries.turn ∙ tried_seat w.pass v.pass before.turn }

pub tried_shut : (w v w' : Walker) → Takes 1 w.pass v.pass → TriesOnce v.pass w'.pass → TriedShut w w'
tried_shut w v w' before tries = record { steps = (let a = before.steps in let b = tries.steps in omega (arith, a, b)); went = tries.turn ∙ tried_seat w.pass v.pass before.turn }

pub went_after : (w v w' : Walker) → Took 0 w v.pass → WentOnce v w' → WentOnce w w'
went_after w v w' before went = went ∙ tried_seat w.pass v.pass before.turn

abbrev first_of : {A : Type 0} → A → List A → A
first_of x [] = x
first_of x (y ∷ ys) = y

abbrev behind_first : {A : Type 0} → List A → List A
behind_first [] = []
behind_first (x ∷ xs) = xs

pub went_once : (w v w' : Walker) (ps qs : List Pass) → Took 0 w v.pass → map turn_seat (w'.pass ∷ qs) ≡ map turn_seat (turns.tried v.pass ∷ ps) → WentOnce w w'
went_once w v w' ps qs before tries = went_after w v w' before (ap (first_of (turn_seat w.pass)) tries)

pub others_rest : (p q : Pass) (ps qs : List Pass) → map turn_seat (q ∷ qs) ≡ map turn_seat (turns.tried p ∷ ps) → map turn_seat qs ≡ map turn_seat ps
others_rest p q ps qs tries = ap behind_first tries

-- one that has found the lock taken knows what it knew
pub kept_known : (r : Result ℕ Busy) (p q : Pass) (h : known.Pass) (ps qs : List Pass) → IfErr r (λ _. (q ≡ turns.tried p) × (qs ≡ ps)) → pass_in p ≡ h → IfErr r (λ _. (pass_in q ≡ h) × (qs ≡ ps))
kept_known (Ok calls) p q h ps qs kept was = tt
kept_known (Err busy) p q h ps qs kept was = (ap pass_in kept.0 ∙ was, kept.1)

pub rests_in_purse : (given : Given Purse Tree) (took : Snapshot Purse) (a b : Purse) → given.took ≡ took → took.value ≡ a → given.gave.value ≡ b → map turn_seat b.passes.items ≡ map turn_seat a.passes.items → RestsInPurse given
rests_in_purse given took a b from was gave rest =
    let seats = λ (x : Purse). map turn_seat x.passes.items in
    ap seats gave ∙ (rest ∙ sym (ap (λ (x : Snapshot Purse). seats x.value) from ∙ ap seats was))

-- ---- which section stands open is no part of what a read says

pub halted_knows : (p q : known.Pass) → q ≡ record p { standing = None } → KnowsAs p q
halted_knows p q is = record { same = ap (λ (z : known.Pass). record z { standing = None }) (sym is) }

pub same_knows : (p q : known.Pass) → q ≡ p → KnowsAs p q
same_knows p q is = record { same = ap (λ (z : known.Pass). record z { standing = None }) (sym is) }

closed_knows : (walk : Option Cursor) (p q : known.Pass) → q ≡ closed_by walk p → KnowsAs p q
closed_knows None p q is = same_knows p q is
closed_knows (Some w) p q is = halted_knows p q is

module _ (tree : History) (lo hi k : ℕ) (query : Query) (value : Option Range) where
  -- whichever section stands open at either end
  with_standing : (s s' : Option ℕ) (p q : known.Pass) → known.Read tree p lo hi k query value q → known.Read tree (record p { standing = s }) lo hi k query value (record q { standing = s' })
  with_standing s s' p q r = record { grows = record { number = r.grows.number; seen = r.grows.seen; mine = r.grows.mine; opened = r.grows.opened; begun = r.grows.begun; ended = r.grows.ended }; true = r.true; from = r.from; floor = r.floor; before = r.before; lo_known = r.lo_known; hi_known = r.hi_known; sound = record { own = r.sound.own; legal = r.sound.legal } }

  reads_as : (p p' q q' : known.Pass) → KnowsAs p p' → KnowsAs q' q → known.Read tree p' lo hi k query value q' → known.Read tree p lo hi k query value q
  reads_as p p' q q' before after r =
      with_standing p.standing q.standing (record p { standing = None }) (record q { standing = None }) (subst (λ (x : known.Pass × known.Pass). known.Read tree x.0 lo hi k query value x.1) (λ i. (sym before.same i, after.same i)) (with_standing None None p' q' r))

read_before : (lo hi : ℕ) (p q : known.Pass) → HasRead lo hi (record p { standing = None }) q → HasRead lo hi p q
read_before lo hi p q r = record { seen = r.seen; pass = r.pass; window = r.window }

moved_before : (t : History) (p q : known.Pass) (lo begun : ℕ) → WasMoved t (record p { standing = None }) lo begun q → WasMoved t p lo begun q
moved_before t p q lo begun m = record {
  grows = record { number = m.grows.number; seen = m.grows.seen; mine = m.grows.mine; opened = m.grows.opened; begun = m.grows.begun; ended = m.grows.ended };
  floor = m.floor;
  before = m.before;
  later = m.later;
  sound = m.sound;
}

pub read_as : (t : Tree) (query : Query) (r : Read (Option Range)) (p p' q q' : known.Pass) → KnowsAs p p' → KnowsAs q' q → IsReadBy t p' query r q' → IsReadBy t p query r q
read_as t query r p p' q q' before after read = (read.0, reads_as (opened t) r.lo r.hi read.0 query r.value p p' q q' before after read.1)

pub answered_before : (t : Tree) (query : Query) (answer : Answer) (walk : Option Cursor) (p q : known.Pass) → IsWalkAnswer t (closed_by walk p) query answer q → IsWalkAnswer t p query answer q
answered_before t query answer None p q said = said
answered_before t query (Ok r) (Some w) p q said =
    (read_as t query r p (record p { standing = None }) q q (halted_knows p (record p { standing = None }) refl) (same_knows q q refl) said.0, read_before r.lo r.hi p q said.1)
answered_before t query (Err m) (Some w) p q said = (moved_before (opened t) p q m.lo m.begun said.0, said.1, read_before m.lo m.begun p q said.2)

-- what a read that was made or given up answers, once the walk was paused
pub answer_made : (t : Tree) (query : Query) (walk : Option Cursor) (p q : known.Pass) (before : Pass) (answer : Answer) → pass_in before ≡ closed_by walk p
    → IfOk answer (λ r. (k : ℕ) × known.Read (opened t) (pass_in before) r.lo r.hi k query r.value q) → IfOk answer (λ r. HasRead r.lo r.hi (pass_in before) q)
    → IfErr answer (λ m. WasMoved (opened t) (pass_in before) m.lo m.begun q) → IfErr answer (λ m. HasRead m.lo m.begun (pass_in before) q) → IfErr answer (λ _. IsForNeighbour query)
    → IsWalkAnswer t p query answer q
answer_made t query walk p q before (Ok r) was read section moved given near =
    answered_before t query (Ok r) walk p q (subst (λ (x : known.Pass). IsWalkAnswer t x query (Ok r) q) was (read, section))
answer_made t query walk p q before (Err m) was read section moved given near =
    answered_before t query (Err m) walk p q (subst (λ (x : known.Pass). IsWalkAnswer t x query (Err m) q) was (moved, near, given))

pub gave_up : (query : Query) (w w' : Walker) (p : Pass) (answer : Answer) → pass_in p ≡ halted w → Took 0 w p
    → IfErr answer (λ m. WasLeftMarked (unbounded (part_of p).shape.kind query) m.lo m.begun (part_of p) (part_of w'.pass)) → IfErr answer (GaveUp query w w')
gave_up query w w' p (Ok r) was took left = tt
gave_up query w w' p (Err m) was took left = record { pass = p; paused = was; took = took; left = left }

-- no section stands open behind a read
pub read_rests : (lo hi : ℕ) (p q : known.Pass) → HasRead lo hi p q → q.standing ≡ None
read_rests lo hi p q read = ap (λ (x : known.Pass). x.standing) read.pass

-- nor where one was closed
pub closed_stands : (p q : known.Pass) → q ≡ record p { standing = None } → q.standing ≡ None
closed_stands p q is = ap (λ (x : known.Pass). x.standing) is

pub rested : (answer : Answer) (p q : known.Pass) → IfOk answer (λ r. HasRead r.lo r.hi p q) → IfErr answer (λ m. HasRead m.lo m.begun p q) → q.standing ≡ None
rested (Ok r) p q section given = read_rests r.lo r.hi p q section
rested (Err m) p q section given = read_rests m.lo m.begun p q given

-- the same of a load, which is never given up
pub load_made : (t : Tree) (index : ℕ) (walk : Option Cursor) (p q : known.Pass) (before : Pass) (r : Read (Option Range)) → pass_in before ≡ closed_by walk p
    → (k : ℕ) × known.Read (opened t) (pass_in before) r.lo r.hi k (Load index) r.value q → HasRead r.lo r.hi (pass_in before) q → IsWalkAnswer t p (Load index) (Ok r) q
load_made t index walk p q before r was read section = answer_made t (Load index) walk p q before (Ok r) was read section tt tt tt

-- ---- walks

at_walk : (walk : Option Cursor) (place : Option ℕ) → IsOnAt walk place → (w : Cursor) × (walk ≡ Some w) × (w.at ≡ place)
at_walk None place at = elim at [ ]
at_walk (Some w) place at = (w, refl, at)

pub is_on : (walk : Option Cursor) (place : Option ℕ) → IsOnAt walk place → IsSome walk
is_on None place at = elim at [ ]
is_on (Some w) place at = refl

pub stands_on : (walk : Option Cursor) (w : Cursor) (place : Option ℕ) → walk ≡ Some w → w.at ≡ place → IsOnAt walk place
stands_on walk w place is at = subst (λ (o : Option Cursor). IsOnAt o place) (sym is) at

pub keeps_walk : (v : Walker) (found : Option Range) (range : Range) → found ≡ Some range → IsOnAt v.walk (place_behind found last_index) → WalkGoesOn found v
keeps_walk v found range is at = subst (λ (o : Option Range). WalkGoesOn o v) (sym is) (at_walk v.walk (place_behind (Some range) last_index) (subst (λ (o : Option Range). IsOnAt v.walk (place_behind o last_index)) is at))

-- one that is paused is on none
closed_rests : (walk : Option Cursor) (place : Option ℕ) (p : known.Pass) → IsOnAt walk place → (closed_by walk p).standing ≡ None
closed_rests None place p at = elim at [ ]
closed_rests (Some w) place p at = refl

pub ends_walk : (v v' : Walker) (found : Option Range) → found ≡ None → IsOnAt v.walk (place_behind found last_index) → knows v' ≡ halted v → v'.walk ≡ None → WalkGoesOn found v'
ends_walk v v' found is at closed none =
    subst (λ (o : Option Range). WalkGoesOn o v') (sym is) (none, ap (λ (x : known.Pass). x.standing) closed ∙ closed_rests v.walk (place_behind found last_index) (knows v) at)

pub paused_knows : (v v' : Walker) → knows v' ≡ halted v → KnowsAs (knows v) (knows v')
paused_knows v v' is = closed_knows v.walk (knows v) (knows v') is

pub from_any : (from : ℕ) → from < 2 ^ 64 → place_within from last_index ≡ Some from
from_any from few = ap (λ (b : Bool). if b then Some from else None) (le-leb from last_index (omega arith))

pub begins_walk : (p : Pass) (w : Cursor) → w.leaf ≡ None → w.epoch ≡ None → w.max ≡ last_index → IsKeptWalk p w
begins_walk p w leaf epoch max = record {
  of = record {
    standing = subst (λ (e : Option ℕ). IfSome e (λ epoch. (part_of p).standing ≡ Some epoch)) (sym epoch) tt;
    leaf = subst (λ (l : Option KeptLeaf). IfSome l (IsOnKeptLeaf (part_of p))) (sym leaf) tt;
    closed = λ _. leaf;
  };
  max = max;
}

pub goes_on : (t : Tree) (r : Read (Option Range)) (p q : Pass) (w w' : Cursor) → IsKeptWalk p w → HasWalked t p w r q w' → IsWalkOf q w' → IsKeptWalk q w'
goes_on t r p q w w' kept walked of = record { of = of; max = walked.max ∙ kept.max }

-- a step of a walk answers the find from its place
pub on_answer : (t : Tree) (r : Read (Option Range)) (p q : Pass) (walk : Option Cursor) (w w' : Cursor) → walk ≡ Some w → IsKeptWalk p w → HasWalked t p w r q w'
    → IfSome walk (λ v. IsReadBy t (pass_in p) (find_at v.at last_index) r (pass_in q))
on_answer t r p q walk w w' is kept walked =
    let read : IsReadBy t (pass_in p) (find_at w.at last_index) r (pass_in q) = subst (λ (m : ℕ). IsReadBy t (pass_in p) (find_at w.at m) r (pass_in q)) kept.max walked.read in
    subst (λ (o : Option Cursor). IfSome o (λ v. IsReadBy t (pass_in p) (find_at v.at last_index) r (pass_in q))) (sym is) read

pub on_walked : (t : Tree) (r : Read (Option Range)) (p q : Pass) (walk walk' : Option Cursor) (w w' : Cursor) → walk ≡ Some w → walk' ≡ Some w' → HasWalked t p w r q w' → IfSome walk (λ v. IfSome walk' (HasWalked t p v r q))
on_walked t r p q walk walk' w w' is is' walked = subst (λ (o : Option Cursor × Option Cursor). IfSome o.0 (λ v. IfSome o.1 (HasWalked t p v r q))) (λ i. (sym is i, sym is' i)) walked

pub on_place : (t : Tree) (r : Read (Option Range)) (p q : Pass) (walk : Option Cursor) (w w' : Cursor) → walk ≡ Some w' → IsKeptWalk p w → HasWalked t p w r q w' → IsOnAt walk (place_behind r.value last_index)
on_place t r p q walk w w' is kept walked = stands_on walk w' (place_behind r.value last_index) is (walked.at ∙ ap (place_behind r.value) kept.max)

step_read : (t : Tree) (walk : Option Cursor) (from : ℕ) (r : Read (Option Range)) (p p' q q' : known.Pass) → IsOnAt walk (Some from) → KnowsAs p p' → KnowsAs q' q → IfSome walk (λ v. IsReadBy t p' (find_at v.at last_index) r q')
    → IsReadBy t p (find_at (Some from) last_index) r q
step_read t None from r p p' q q' at before after said = elim at [ ]
step_read t (Some w) from r p p' q q' at before after said = read_as t (find_at (Some from) last_index) r p p' q q' before after (subst (λ (o : Option ℕ). IsReadBy t p' (find_at o last_index) r q') at said)

-- one that stands at an index
pub at_index : (walk : Option Cursor) (from : ℕ) → stands_at walk from ≡ true → IsOnAt walk (Some from)
at_index None from is = absurd (true≢false (sym is))
at_index (Some w) from is = by_place w.at is
  where
    by_place : (at : Option ℕ) → walk_is_at at from ≡ true → at ≡ Some from
    by_place None is = absurd (true≢false (sym is))
    by_place (Some at) is = ap Some (eqb-true at from is)

-- the walk that a step goes on
pub goes_kept : (from : ℕ) (v : Walker) → stands_at v.walk from ≡ true → IfSome v.walk (Continues from v v.pass)
goes_kept from v is = by_walk v.walk refl
  where
    by_walk : (o : Option Cursor) → v.walk ≡ o → IfSome o (Continues from v v.pass)
    by_walk None e = tt
    by_walk (Some w) e = subst (λ (b : Bool). GoesFrom b from v v.pass w) (sym is) (refl, e)

pub goes_anew : (from : ℕ) (v v' : Walker) (w : Cursor) → stands_at v.walk from ≡ false → knows v' ≡ halted v → Took 0 v v'.pass → v'.walk ≡ Some w → w ≡ new_walk from → IfSome v'.walk (Continues from v v'.pass)
goes_anew from v v' w off closed took is new = subst (λ (o : Option Cursor). IfSome o (Continues from v v'.pass)) (sym is) (subst (λ (b : Bool). GoesFrom b from v v'.pass w) (sym off) (closed, took, new))

pub is_new_walk : (from : ℕ) (w : Cursor) → from < 2 ^ 64 → w.at ≡ place_within from last_index → w.max ≡ last_index → w.leaf ≡ None → w.epoch ≡ None → w ≡ new_walk from
is_new_walk from w few at max leaf epoch = λ i. record { at = (at ∙ from_any from few) i; max = max i; leaf = leaf i; epoch = epoch i }

-- a step: the walk went on by one range
pub is_step : (t : Tree) (v m n v' : Walker) (from : ℕ) (r : Read (Option Range)) → IsOnAt m.walk (Some from) → KnowsAs (knows v) (knows m) → IfSome m.walk (Continues from v m.pass) → IfSome m.walk (λ w. IsReadBy t (knows m) (find_at w.at last_index) r (knows n))
    → IfSome m.walk (λ w. IfSome n.walk (HasWalked t m.pass w r n.pass)) → IsOnAt n.walk (place_behind r.value last_index) → KnowsAs (knows n) (knows v') → WalkGoesOn r.value v' → ((w : Cursor) → n.walk ≡ Some w → IsLeftBy r.value n.pass w v') → Took 0 v m.pass → Takes 1 n.pass v'.pass → IsStep t v from r v'
is_step t v m n v' from r at known begins read walked behind after goes left before last = by_walks m.walk n.walk refl refl at begins read walked behind
  where
    by_walks : (o o' : Option Cursor) → m.walk ≡ o → n.walk ≡ o' → IsOnAt o (Some from) → IfSome o (Continues from v m.pass) → IfSome o (λ w. IsReadBy t (knows m) (find_at w.at last_index) r (knows n))
        → IfSome o (λ w. IfSome o' (HasWalked t m.pass w r n.pass)) → IsOnAt o' (place_behind r.value last_index) → IsStep t v from r v'
    by_walks None o' e e' at begins read walked behind = elim at [ ]
    by_walks (Some w) None e e' at begins read walked behind = elim behind [ ]
    by_walks (Some w) (Some w') e e' at begins read walked behind = record {
      read = step_read t (Some w) from r (knows v) (knows m) (knows v') (knows n) at known after read;
      goes = goes;
      pass = m.pass;
      walk = w;
      begins = begins;
      pass' = n.pass;
      walk' = w';
      walked = walked;
      left = left w' e';
      took = record {
        steps = (let a = before.steps in let b = walked.takes.steps in let c = last.steps in omega (arith, a, b, c));
        turn = last.turn ∙ (walked.takes.turn ∙ before.turn);
      };
    }

-- it is kept where it has found a range
pub left_on : (v : Walker) (found : Option Range) (range : Range) → found ≡ Some range → (w : Cursor) → v.walk ≡ Some w → IsLeftBy found v.pass w v
left_on v found range is w at = subst (λ (o : Option Range). IsLeftBy o v.pass w v) (sym is) (refl, at)

-- its walk is paused by one step at the most
pub last_one : (n : Walker) (q : Pass) → Took 0 n q → Takes 1 n.pass q
last_one n q took = record { steps = (let a = took.steps in let b = by_one n.walk in omega (arith, a, b)); turn = took.turn }
  where
    by_one : (walk : Option Cursor) → pausing walk ≤ 1
    by_one None = omega arith
    by_one (Some w) = omega arith

-- and paused where it has found none
pub left_off : (n v' : Walker) (found : Option Range) → found ≡ None → knows v' ≡ halted n → v'.walk ≡ None → Took 0 n v'.pass → (w : Cursor) → n.walk ≡ Some w → IsLeftBy found n.pass w v'
left_off n v' found is closed none took w at =
    subst (λ (o : Option Range). IsLeftBy o n.pass w v') (sym is) (closed ∙ ap (λ (o : Option Cursor). closed_by o (knows n)) at, last_one n v'.pass took, none)

pub last_none : (p q : Pass) → q ≡ p → Takes 1 p q
last_none p q is = record { steps = (let same = ap steps_made is in omega (arith, same)); turn = ap turn_seat is }

-- ---- calls

pub tried_made : (t : Tree) (p : known.Pass) (a b : Pass) (call : Call) (tried : Tried) → pass_in a ≡ p → IfOk tried (λ made. WasMade t (pass_in a) call made (pass_in b)) → IfErr tried (IsBusyOf t) → IfErr tried (λ _. b ≡ turns.tried a) → IsTried t p call tried (pass_in b)
tried_made t p a b call (Ok made) was done busy kept = subst (λ (x : known.Pass). WasMade t x call made (pass_in b)) was done
tried_made t p a b call (Err why) was done busy kept = (busy, ap pass_in kept ∙ was)

-- ---- under the lock

pub synced : (t : Tree) (p q : known.Pass) (ps qs : List known.Pass) (calls : ℕ) → HaveMet t (p ∷ ps) (q ∷ qs) calls → IsSynced t p (Ok calls) q
synced t p q ps qs calls met = let mine = met.each 0 p q refl refl in (mine.0, ap length mine.1 ∙ met.all)

-- what was taken and given back as it was
pub given_same : (c : Common) (n cuts : ℕ) (given : Given Purse Tree) (took gave : List known.Pass) → WasGiven c n took gave given → n ≡ cuts → gave ≡ took → WasGivenBack c cuts given
given_same c n cuts given took gave was one same = record { at = was.at; cut = was.cut ∙ one; took = refl; gave = was.gave ∙ (same ∙ sym was.took) }

-- and was empty
pub given_empty : (c : Common) (n before : ℕ) (given : Given Purse Tree) (took gave : List known.Pass) → WasGiven c n took gave given → n ≡ before + 1 → took ≡ gave → gave ≡ [] → IsWhy c before (unchanged.NoPlace given)
given_empty c n before given took gave was one same none = record { at = was.at; cut = was.cut ∙ one; took = was.took ∙ (same ∙ none); gave = was.gave ∙ none }

pub why_busy : (c : Common) (n before : ℕ) (busy : away.Busy Purse Tree) → IsPurseBusy c n busy → n ≡ before + 1 → IsWhy c before (unchanged.Busy busy)
why_busy c n before busy found one = (found.0, found.1 ∙ one)

pub why_short : (c : Common) (n before : ℕ) (given : Given Purse Tree) (took gave : List known.Pass) → WasGiven c n took gave given → n ≡ before + 1 → gave ≡ took → IsWhy c before (unchanged.NoMemory given)
why_short c n before given took gave was one same = given_same c n (before + 1) given took gave was one same

-- a user of the purse
pub of_purse : (c : Common) (n before : ℕ) (u : User) (given : Given Purse Tree) (took others : List known.Pass) → WasGiven c n took others given → n ≡ before + 1 → took ≡ others ++ known_to u ∷ [] → cuts u ≡ n + 1 → IsOnNoWalk u.walker → u.receipts ≡ no_receipts
    → IsOfPurse c before u given
of_purse c n before u given took others was one split chair rests none =
    record { others = others; out = record { at = was.at; cut = was.cut ∙ one; took = was.took ∙ split; gave = was.gave }; chair = omega (arith, chair, one); rests = rests; none = none }

-- what a user leaves
pub has_left : (c : Common) (n : ℕ) (p : known.Pass) (left : Left) (others gave : List known.Pass) → WasGiven c n others gave left.given → n ≡ cuts_of left.chair → IsChairAtPurse c left.chair → gave ≡ others ++ p ∷ [] → HasLeft c (cuts_of left.chair) p left
has_left c n p left others gave was one seated put = record { others = others; into = record { at = was.at; cut = was.cut ∙ one; took = was.took; gave = was.gave ∙ put }; seated = seated; chair = refl }

pub settled : (c : Common) (cut n : ℕ) (p q : known.Pass) (others others' : List Pass) (calls passes : ℕ) (before after : List known.Pass) (given : Given Purse Tree) → HaveMet c.tree (p ∷ map pass_in others) (q ∷ map pass_in others') calls → passes ≡ length others'
    → WasGiven c n before after given → n ≡ cut + 1 → before ≡ map pass_in others → after ≡ map pass_in others' → RestsInPurse given → IsSettledUser c cut p (Ok (calls, passes, given)) q
settled c cut n p q others others' calls passes before after given met many back one took gave rest =
    (map pass_in others, map pass_in others', met, many ∙ sym (length-map others' pass_in), record { at = back.at; cut = back.cut ∙ one; took = back.took ∙ took; gave = back.gave ∙ gave }, rest)

pub unpursed : (c : Common) (cut n : ℕ) (p q : known.Pass) (busy : away.Busy Purse Tree) → IsPurseBusy c n busy → n ≡ cut + 1 → q ≡ p → IsSettledUser c cut p (Err (settling.Unpursed busy)) q
unpursed c cut n p q busy found one kept = ((found.0, found.1 ∙ one), kept)

pub locked : (c : Common) (cut n : ℕ) (p q : known.Pass) (busy : Busy) (took gave : List known.Pass) (given : Given Purse Tree) → IsBusyOf c.tree busy → WasGiven c n took gave given → n ≡ cut + 1 → gave ≡ took → RestsInPurse given → q ≡ p
    → IsSettledUser c cut p (Err (settling.Locked busy given)) q
locked c cut n p q busy took gave given found back one same rest kept = (found, given_same c n (cut + 1) given took gave back one same, rest, kept)

-- ---- passes that no user has

pub spares_of : (t : Tree) (ps : List Pass) → All (IsSparePass t) ps → All (IsPassOf t) ps
spares_of t ps spare = λ k d lt. (spare k d lt).of

-- those that have met a pass under the lock are still at rest
met_spare : (t : Tree) (p q : known.Pass) (ps qs : List Pass) (calls : ℕ) → HaveMet t (p ∷ map pass_in ps) (q ∷ map pass_in qs) calls → All (IsSparePass t) ps → All (IsPassOf t) qs → All (IsSparePass t) qs
met_spare t p q ps qs calls met spare of k d lt =
    let few : k < length ps = let a = met.count in let b = length-map ps pass_in in let c = length-map qs pass_in in omega arith in
    let before = spare k d few in
    let p_at = slice_get-map pass_in ps k ∙ ap (option_map pass_in) (slice_get-get_or ps k d few) in
    let q_at = slice_get-map pass_in qs k ∙ ap (option_map pass_in) (slice_get-get_or qs k d lt) in
    record { of = of k d lt; rests = ap (λ (z : known.Pass). z.standing) (met.each (suc k) (pass_in (get_or ps k d)) (pass_in (get_or qs k d)) p_at q_at).0.pass ∙ before.rests }

pub spare_still : (t : Tree) (p q : Pass) (ps qs : List Pass) (met : Result ℕ Busy) → IfOk met (HaveMet t (pass_in p ∷ map pass_in ps) (pass_in q ∷ map pass_in qs)) → IfErr met (λ _. (q ≡ turns.tried p) × (qs ≡ ps)) → All (IsSparePass t) ps → All (IsPassOf t) qs → All (IsSparePass t) qs
spare_still t p q ps qs (Ok calls) met kept spare of = met_spare t (pass_in p) (pass_in q) ps qs calls met spare of
spare_still t p q ps qs (Err busy) met kept spare of = subst (All (IsSparePass t)) (sym kept.1) spare

-- those of a new tree are at rest
pub new_spare : (t : Tree) (ps : List Pass) (numbers : List ℕ) → All (IsPassOf t) ps → map pass_in ps ≡ map known.new_pass numbers → All (IsSparePass t) ps
new_spare t ps numbers of new k d lt =
    let at : slice_get (map pass_in ps) k ≡ Some (pass_in (get_or ps k d)) = slice_get-map pass_in ps k ∙ ap (option_map pass_in) (slice_get-get_or ps k d lt) in
    record { of = of k d lt; rests = at_rest (slice_get numbers k) (pass_in (get_or ps k d)) (sym (slice_get-map known.new_pass numbers k) ∙ (ap (λ (l : List known.Pass). slice_get l k) (sym new) ∙ at)) }
  where
    standing_in : Option known.Pass → Option ℕ
    standing_in None = None
    standing_in (Some p) = p.standing

    at_rest : (o : Option ℕ) (p : known.Pass) → option_map known.new_pass o ≡ Some p → p.standing ≡ None
    at_rest None p e = sym (ap standing_in e)
    at_rest (Some n) p e = sym (ap standing_in e)

-- a section that is closed twice is closed
pub rested_halted : (walk : Option Cursor) (p q : known.Pass) → q ≡ closed_by walk p → ◌≡◌ {A = known.Pass} (record q { standing = None }) (record p { standing = None })
rested_halted None p q is = ap (λ (z : known.Pass). record z { standing = None }) is
rested_halted (Some w) p q is = ap (λ (z : known.Pass). record z { standing = None }) is

-- ---- what is owned together

-- a pass is of the tree of what is owned together, by whichever share that is reached
pub on : {x c : Common} {p : Pass} → x ≡ c → IsPassOf c.tree p → IsPassOf x.tree p
on {x} {c} {p} same of = subst (λ (y : Common). IsPassOf y.tree p) (sym same) of

-- and so is a chair at its purse
pub at : {x c : Common} {chair : Badge (Sight Purse Tree)} → x ≡ c → IsChairAtPurse c chair → IsChairAtPurse x chair
at {x} {c} {chair} same seated = subst (λ (y : Common). IsChairAtPurse y chair) (sym same) seated

-- ---- new trees

-- where no field is out of range the shape is in range
pub none_bad : {A : Type 0} (shape : Shape) (r : Result A MakeError) (a : A) → ((field : Field) → (r ≡ Err (make_error.BadShape field)) ↔ (first_bad shape ≡ Some field)) → r ≡ Ok a → first_bad shape ≡ None
none_bad shape r a bad ok = by_case (first_bad shape) refl
  where
    by_case : (o : Option Field) → first_bad shape ≡ o → first_bad shape ≡ None
    by_case None is = is
    by_case (Some field) is = let e : r ≡ Err (make_error.BadShape field) = (bad field).1 is in cc

-- and where memory ran out
pub none_short : {A : Type 0} (shape : Shape) (r : Result A MakeError) → ((field : Field) → (r ≡ Err (make_error.BadShape field)) ↔ (first_bad shape ≡ Some field)) → r ≡ Err make_error.NoMemory → first_bad shape ≡ None
none_short shape r bad short = by_case (first_bad shape) refl
  where
    by_case : (o : Option Field) → first_bad shape ≡ o → first_bad shape ≡ None
    by_case None is = is
    by_case (Some field) is = let e : r ≡ Err (make_error.BadShape field) = (bad field).1 is in cc

pub is_first : (shape : Shape) (opening : List Range) (t : Tree) (ps : List Pass) (u : User) → IsNew shape opening t ps → user_tree u ≡ t → ps ≡ (first_in (common_of u)).passes.items ++ u.walker.pass ∷ [] → cuts u ≡ 0 → u.walker.walk ≡ None → u.receipts ≡ no_receipts → IsFirstUser shape opening u
is_first shape opening t ps u new tree last chair walk none = record {
  tree = ap opened tree ∙ new.tree;
  calls = ap limit_of tree ∙ new.calls;
  users = ap passes_of tree ∙ (sym new.all.count ∙ (sym (length-map ps pass_in) ∙ (ap length new.passes ∙ length-map-range_with_len known.new_pass 0 shape.passes)));
  passes = sym (ap (map pass_in) last ∙ map-append pass_in (first_in (common_of u)).passes.items (u.walker.pass ∷ [])) ∙ new.passes;
  chair = chair;
  walk = walk;
  none = none;
}

-- ---- each at once

-- of a settling
pub ruleset settles = (settled, unpursed, locked, rests_in_purse, went_after)

-- of a walk from an index
pub ruleset walks_from = (from_any, begins_walk, stands_on, paused_knows, same_knows, at_index, goes_kept, goes_anew, is_new_walk, took_none)
