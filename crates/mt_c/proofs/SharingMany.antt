-- What the calls of C say that read an entry alone, many entries, or many ranges, read off what a user does.
use Rattle.mt_c.proofs.Prelude.{◌≡◌, ◌++◌, ◌∙◌, ◌∷◌, ◌<◌, ◌≤◌, ℕ, List, [], get_or, length-map, map-append, Option, Some, None, sym, ap, subst, refl, ◌+◌, ◌*◌, arith, Read, Tree, Took, Takes, User, UserHandle, OutWalk, OnKept, refusal, common_of, known_to, paused, user_tree, IsOnNoWalk, walk_index, Walker, Pass, knows, halted, Continues, IsOnAt, IsSome, IfSome, IsKeptWalk, IsWalkOf, true≢false, Range, Cursor, closed_by, opened, Load, HasRead, option_map, length, many_status, range_out, HasWalkedOut, IsLeftAt, PutsMany, most_found, SharedEntry, SharedLoadedMany, SharedSteppedMany, no_times, cursor_place, times_of, IsEntry, walk_from, OutRange, HasLoadedMany, HasPutMany, HasWalkedMany, append_assoc, Bool, drop, is_none, false, map, min, set, take, true, unwrap_or, drop_more, length-append, length-take-le, set_at, take_more}
use Rattle.std.proofs.Math.Seq.{take-append_seam}
use Rattle.mt_base.specs.Passes as known
use Rattle.mt_read.proofs.Batching.{unwrapped}
use Rattle.mt_c.specs.declared.shared_many.OutWindow.{OutWindow}
use Rattle.mt_c.proofs.Sharing.{on_closed, on_open}
use Rattle.mt_c.proofs.Using.{last_one, read_rests}

-- ---- an entry alone

pub is_entry : (t : Tree) (p q : known.Pass) (index : ℕ) (r : Read (Option ℕ)) (word : ℕ) → (k : ℕ) × (range : Option Range) × known.Read (opened t) p r.lo r.hi k (Load index) range q × (r.value ≡ option_map (λ (x : Range). x.entry) range) → HasRead r.lo r.hi p q
    → word ≡ unwrap_or r.value 0 → IsEntry t p index (record { lo = r.lo; hi = r.hi; value = word }) q
is_entry t p q index r word read section is = record { k = read.0; range = read.1; read = read.2; entry = unwrapped r.value read.1 word read.3 is; section = section }

-- what is read when the walk was paused is read of what the pass knew then
pub entry_halted : (t : Tree) (p p' q : known.Pass) (index : ℕ) (r : Read ℕ) → p ≡ p' → IsEntry t p index r q → IsEntry t p' index r q
entry_halted t p p' q index r same read = subst (λ (x : known.Pass). IsEntry t x index r q) same read

pub loaded_halted : (t : Tree) (p p' q : known.Pass) (indexes old new : List ℕ) (r : Read ℕ) → p ≡ p' → HasLoadedMany t p indexes old r new q → HasLoadedMany t p' indexes old r new q
loaded_halted t p p' q indexes old new r same read = subst (λ (x : known.Pass). HasLoadedMany t x indexes old r new q) same read

-- and leaves no section open
pub entry_rests : (t : Tree) (p q : known.Pass) (index : ℕ) (r : Read ℕ) → IsEntry t p index r q → q.standing ≡ None
entry_rests t p q index r read = read_rests r.lo r.hi p q read.section

pub loaded_rests : (t : Tree) (p q : known.Pass) (indexes old new : List ℕ) (r : Read ℕ) → HasLoadedMany t p indexes old r new q → q.standing ≡ None
loaded_rests t p q indexes old new r read = read_rests r.lo r.hi p q read.section

-- what a call says of a handle that has a user, and of one that has none
kept_open : (before after : UserHandle) (u v : User) (none : Type 0) (says : User → User → Type 0) → before.kept.value ≡ Some u → after.kept.value ≡ Some v → common_of v ≡ common_of u → says u v → OnKept before.kept.value after.kept.value none says
kept_open before after u v none says was is tree said = subst (λ (x : Option User × Option User). OnKept x.0 x.1 none says) (λ i. (sym was i, sym is i)) (tree, said)

kept_closed : (before after : UserHandle) (none : Type 0) (says : User → User → Type 0) → before.kept.value ≡ None → none → OnKept before.kept.value after.kept.value none says
kept_closed before after none says was told = subst (λ (x : Option User). OnKept x after.kept.value none says) (sym was) told

pub entry_open : (index : ℕ) (before after : UserHandle) (u v : User) (r : Read ℕ) (entry : ℕ) (out : OutWindow) → before.kept.value ≡ Some u → after.kept.value ≡ Some v → common_of v ≡ common_of u → v.chair ≡ u.chair → v.receipts ≡ u.receipts
    → IsEntry (user_tree u) (paused u) index r (known_to v) → IsOnNoWalk v.walker → Took 95 u.walker v.walker.pass → entry ≡ r.value → out ≡ times_of r → SharedEntry index before after entry out
entry_open index before after u v r entry out was is common chair kept read rests took told shown =
    kept_open before after u v _ _ was is common (r, read, rests, took, record { common = common; chair = chair; receipts = kept }, told, shown)

pub entry_closed : (index : ℕ) (before after : UserHandle) (entry : ℕ) (out : OutWindow) → before.kept.value ≡ None → after ≡ before → entry ≡ 0 → out ≡ no_times → SharedEntry index before after entry out
entry_closed index before after entry out was is none shown = kept_closed before after _ _ was (is, none, shown)

-- ---- many entries

pub loaded_open : (indexes old new : List ℕ) (before after : UserHandle) (u v : User) (r : Read ℕ) (status : ℕ) (out : OutWindow) → before.kept.value ≡ Some u → after.kept.value ≡ Some v → common_of v ≡ common_of u → v.chair ≡ u.chair → v.receipts ≡ u.receipts
    → HasLoadedMany (user_tree u) (paused u) indexes old r new (known_to v) → IsOnNoWalk v.walker → Took (91 * r.value + 4) u.walker v.walker.pass → status ≡ 0 → out ≡ times_of r → SharedLoadedMany indexes old new before after status out
loaded_open indexes old new before after u v r status out was is common chair kept read rests took number shown =
    on_open before after u v status _ _ was is common (r, read, rests, took, record { common = common; chair = chair; receipts = kept }, number, shown)

pub loaded_closed : (indexes old new : List ℕ) (before after : UserHandle) (status : ℕ) (out : OutWindow) → before.kept.value ≡ None → after ≡ before → status ≡ refusal after.state → out ≡ no_times → new ≡ old → SharedLoadedMany indexes old new before after status out
loaded_closed indexes old new before after status out was is number shown same = on_closed before after status _ _ was is number (shown, same)

-- ---- many steps of a walk

pub goes_many : (t : Tree) (r : Read ℕ) (p q : Pass) (w w' : Cursor) (old new : List Range) → IsKeptWalk p w → HasPutMany t p w old r new q w' → IsWalkOf q w' → IsKeptWalk q w'
goes_many t r p q w w' old new kept put of = record { of = of; max = put.walked.max ∙ kept.max }

pub on_many : (t : Tree) (r : Read ℕ) (p q : Pass) (walk walk' : Option Cursor) (w w' : Cursor) (old new : List Range) → walk ≡ Some w → walk' ≡ Some w' → HasPutMany t p w old r new q w' → IfSome walk (λ v. IfSome walk' (HasPutMany t p v old r new q))
on_many t r p q walk walk' w w' old new is is' put = subst (λ (o : Option Cursor × Option Cursor). IfSome o.0 (λ v. IfSome o.1 (HasPutMany t p v old r new q))) (λ i. (sym is i, sym is' i)) put

-- one range more stands in the places of C
pub put_on : (found : List Range) (old now : List OutRange) (i : ℕ) (d : Range) → i < length found → i < length old → now ≡ map range_out (take i found) ++ drop i old → set now i (range_out (get_or found i d)) ≡ map range_out (take (i + 1) found) ++ drop (i + 1) old
put_on found old now i d more fits is =
    let x = range_out (get_or found i d) in
    let done = map range_out (take i found) in
    let long : length done ≡ i = length-map (take i found) range_out ∙ length-take-le i found (omega arith) in
    let next : done ++ (x ∷ []) ≡ map range_out (take (i + 1) found) = sym (ap (map range_out) (take_more found i d more) ∙ map-append range_out (take i found) (get_or found i d ∷ [])) in
    ap (λ (l : List OutRange). set l i x) (is ∙ ap (λ (l : List OutRange). done ++ l) (drop_more old i x fits))
    ∙ (set_at done (get_or old i x) (drop (i + 1) old) x i long
    ∙ (sym (append_assoc done (x ∷ []) (drop (i + 1) old)) ∙ ap (λ (l : List OutRange). l ++ drop (i + 1) old) next))

-- a batch finds no more ranges than the buffer has places
fits_in : (t : Tree) (p q : Pass) (w w' : Cursor) (buffer buffer' : List Range) (r : Read ℕ) → HasPutMany t p w buffer r buffer' q w' → (r.value ≤ length buffer) × (r.value ≤ length buffer')
fits_in t p q w w' buffer buffer' r put =
    let count = put.walked.count in let fits = put.walked.ranges.fits in
    let long : length buffer' ≡ length put.found + length (drop r.value buffer) = ap length put.put ∙ length-append put.found (drop r.value buffer) in
    (omega arith, omega arith)

pub many_fit : (t : Tree) (p q : Pass) (walk walk' : Option Cursor) (buffer buffer' : List Range) (r : Read ℕ) → IsSome walk → IsSome walk' → IfSome walk (λ w. IfSome walk' (HasPutMany t p w buffer r buffer' q)) → r.value ≤ length buffer'
many_fit t p q None walk' buffer buffer' r some some' put = absurd (true≢false (sym some))
many_fit t p q (Some w) None buffer buffer' r some some' put = absurd (true≢false (sym some'))
many_fit t p q (Some w) (Some w') buffer buffer' r some some' put = (fits_in t p q w w' buffer buffer' r put).1

pub many_room : (t : Tree) (p q : Pass) (walk walk' : Option Cursor) (buffer buffer' : List Range) (r : Read ℕ) (room : ℕ) → length buffer ≡ min most_found room → IsSome walk → IsSome walk' → IfSome walk (λ w. IfSome walk' (HasPutMany t p w buffer r buffer' q)) → r.value ≤ room
many_room t p q None walk' buffer buffer' r room long some some' put = absurd (true≢false (sym some))
many_room t p q (Some w) None buffer buffer' r room long some some' put = absurd (true≢false (sym some'))
many_room t p q (Some w) (Some w') buffer buffer' r room long some some' put = let fits = (fits_in t p q w w' buffer buffer' r put).0 in omega arith

-- what a batch has put into the buffer is put into the places of C
walked_out : (t : Tree) (p q : Pass) (w w' : Cursor) (buffer buffer' : List Range) (old new : List OutRange) (r : Read ℕ) → length buffer ≡ min most_found (length old) → new ≡ map range_out (take r.value buffer') ++ drop r.value old
    → HasPutMany t p w buffer r buffer' q w' → HasWalkedOut t p w old new r q w'
walked_out t p q w w' buffer buffer' old new r long put many =
    let count = many.walked.count in
    let first : take r.value buffer' ≡ many.found = ap (take r.value) many.put ∙ ((λ i. take (count i) (many.found ++ drop r.value buffer)) ∙ take-append_seam many.found (drop r.value buffer)) in
    record {
      found = many.found;
      walked = subst (λ (n : ℕ). HasWalkedMany t p w n many.found r q w') long many.walked;
      put = put ∙ (λ i. map range_out (first i) ++ drop (count i) old);
    }

pub on_out : (t : Tree) (p q : Pass) (walk walk' : Option Cursor) (buffer buffer' : List Range) (old new : List OutRange) (r : Read ℕ) → length buffer ≡ min most_found (length old) → new ≡ map range_out (take r.value buffer') ++ drop r.value old
    → IfSome walk (λ w. IfSome walk' (HasPutMany t p w buffer r buffer' q)) → IfSome walk (λ w. IfSome walk' (HasWalkedOut t p w old new r q))
on_out t p q None walk' buffer buffer' old new r long put many = tt
on_out t p q (Some w) None buffer buffer' old new r long put many = tt
on_out t p q (Some w) (Some w') buffer buffer' old new r long put many = walked_out t p q w w' buffer buffer' old new r long put many

-- a batch of the walk that it was on, and where that stands then
pub is_step_many : (t : Tree) (v m n v' : Walker) (from : ℕ) (old new : List OutRange) (r : Read ℕ) (place : Option ℕ) → place ≡ cursor_place n.walk → IsOnAt m.walk (Some from) → IfSome m.walk (Continues from v m.pass) → IfSome m.walk (λ w. IfSome n.walk (HasWalkedOut t m.pass w old new r n.pass)) → IsSome n.walk
    → ((w : Cursor) → n.walk ≡ Some w → IsLeftAt w.at n.pass w v') → Took 0 v m.pass → Takes 1 n.pass v'.pass → PutsMany t v (Some from) old new r place v'
is_step_many t v m n v' from old new r place is at begins walked some left before last = subst (λ (o : Option ℕ). PutsMany t v (Some from) old new r o v') (sym is) (by_walks m.walk n.walk refl refl at begins walked some)
  where
    by_walks : (o o' : Option Cursor) → m.walk ≡ o → n.walk ≡ o' → IsOnAt o (Some from) → IfSome o (Continues from v m.pass) → IfSome o (λ w. IfSome o' (HasWalkedOut t m.pass w old new r n.pass)) → IsSome o'
        → PutsMany t v (Some from) old new r (cursor_place o') v'
    by_walks None o' e e' at begins walked some = elim at [ ]
    by_walks (Some w) None e e' at begins walked some = absurd (true≢false (sym some))
    by_walks (Some w) (Some w') e e' at begins walked some = (
      walked.found,
      record {
        pass = m.pass;
        walk = w;
        begins = begins;
        pass' = n.pass;
        walk' = w';
        walked = walked.walked;
        at_is = refl;
        left = left w' e';
        took = record {
          steps = (let a = before.steps in let b = walked.walked.takes.steps in let c = last.steps in omega (arith, a, b, c));
          turn = last.turn ∙ (walked.walked.takes.turn ∙ before.turn);
        };
      },
      walked.walked.count,
      walked.put,
    )

-- the walk that it is on is at its place
placed : (walk : Option Cursor) (w : Cursor) → walk ≡ Some w → w.at ≡ cursor_place walk
placed walk w on = sym (ap cursor_place on)

-- a walk that stands at a place is kept as it is
pub left_standing : (n : Walker) (place : Option ℕ) → place ≡ cursor_place n.walk → is_none place ≡ false → (w : Cursor) → n.walk ≡ Some w → IsLeftAt w.at n.pass w n
left_standing n place is stands w on = by_place w.at (ap is_none (placed n.walk w on ∙ sym is) ∙ stands)
  where
    by_place : (at : Option ℕ) → is_none at ≡ false → IsLeftAt at n.pass w n
    by_place None ended = absurd (true≢false ended)
    by_place (Some at) stands = (refl, on)

-- one that has ended is paused
pub left_ended : (n v' : Walker) (place : Option ℕ) → place ≡ cursor_place n.walk → is_none place ≡ true → knows v' ≡ halted n → v'.walk ≡ None → Took 0 n v'.pass → (w : Cursor) → n.walk ≡ Some w → IsLeftAt w.at n.pass w v'
left_ended n v' place is ended closed none took w on = by_place w.at (ap is_none (placed n.walk w on ∙ sym is) ∙ ended)
  where
    by_place : (at : Option ℕ) → is_none at ≡ true → IsLeftAt at n.pass w v'
    by_place None ended = (closed ∙ ap (λ (o : Option Cursor). closed_by o (knows n)) on, last_one n v'.pass took, none)
    by_place (Some at) stands = absurd (true≢false (sym stands))

pub stepped_open : (w w' : OutWalk) (from : Option ℕ) (old new : List OutRange) (before after : UserHandle) (u v : User) (r : Read ℕ) (at : Option ℕ) (status count : ℕ) (out : OutWindow) → from ≡ walk_index w → before.kept.value ≡ Some u → after.kept.value ≡ Some v → common_of v ≡ common_of u → v.chair ≡ u.chair → v.receipts ≡ u.receipts
    → PutsMany (user_tree u) u.walker from old new r at v.walker → count ≡ r.value → status ≡ many_status r.value at → out ≡ times_of r → w' ≡ walk_from at → SharedSteppedMany w w' old new before after status count out
stepped_open w w' from old new before after u v r at status count out place was is common chair kept said many number shown behind =
    let puts = subst (λ (i : Option ℕ). PutsMany (user_tree u) u.walker i old new r at v.walker) place said in
    on_open before after u v status _ _ was is common (r, at, puts, record { common = common; chair = chair; receipts = kept }, many, number, shown, behind)

pub stepped_closed : (w w' : OutWalk) (old new : List OutRange) (before after : UserHandle) (status count : ℕ) (out : OutWindow) → before.kept.value ≡ None → after ≡ before → status ≡ refusal after.state → out ≡ no_times → count ≡ 0 → new ≡ old → w' ≡ w → SharedSteppedMany w w' old new before after status count out
stepped_closed w w' old new before after status count out was is number shown none same still = on_closed before after status _ _ was is number (shown, none, same, still)
